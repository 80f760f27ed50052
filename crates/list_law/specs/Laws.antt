-- The laws of a job's list units.
use Rattle.std.specs.Prelude.{◌≡◌, ◌<◌, ℕ, Bool, true, IsTrue, List, Option, Some, IfSome}
use Rattle.machine_plan.specs.{declared.who.Who.Who, declared.launch.Free.Free, declared.launch.Launch.Launch, Plan.Keeps}
use Rattle.machine_plan.specs.{Glance.glance_result, Glance.GlancesIn, Regions.Inside, Regions.Rights, Regions.IsSafeIn, Regions.HasReadOnly}
use Rattle.packets.specs.declared.config.Config.{Config}
use Rattle.list_machine.specs.{declared.state.Frame.Frame, declared.state.Primitive.Primitive, declared.state.Program.Program, Lists.Lists}
use Rattle.list_machine.specs.{Fetch.fetch_plan, Start.start_plan, Binner.binner_plan, Binner.binner_ready, Cover.cover_for}
use Rattle.list_machine.specs.Renderer.{renderer_plan, renderer_ready}
use Rattle.texture_layouts.specs.declared.format.Style.{Style}
use Rattle.list_law.specs.{May.MayWrite, Uses.Fetches, Uses.Programs, Binning.Allocates, Lists.ListsFine, Lists.TurnedFine}
use Rattle.list_law.specs.Rendering.{StoresSurface, LoadsSurface, PartsMeet}

-- A fetch of one of a primitive's vertices does safe reads alone, where each of its vertices may be fetched.
abbrev pub FetchKeeps : Type 0
FetchKeeps =
    (who : Who) (r : Rights) (m : List ℕ) (word : ℕ) (p : Primitive) (k : ℕ)
    → Fetches r.region m word p → k < p.length
    → Keeps who (Inside r.region) (IsSafeIn r) (λ n index. Unit {0}) (fetch_plan p word k) m

-- A start of a program does safe reads alone, and starts one that may be started.
abbrev pub StartFine : Type 0
StartFine =
    (who : Who) (r : Rights) (may : Launch → Bool) (m : List ℕ) (program : Program) (free : Free) (word : ℕ)
    → Programs r.region (λ launch. IsTrue (may launch)) m word
    → Keeps who (Inside r.region) (IsSafeIn r) (λ n launch. IfSome launch (λ one. IsTrue (may one))) (start_plan program free word) m

-- In these laws the memories that runs can come to are those that have what jobs may only read as the first memory, and a
-- program may be started where a test says so.
abbrev pub Passes : (Launch → Bool) → Launch → Type 0
Passes may launch = IsTrue (may launch)

-- One step of a job's binner that may step looks in the job's region and does safe accesses alone, and all stands again.
abbrev pub BinnerKeeps : Type 0
BinnerKeeps =
    (who : Who) (r : Rights) (jobs : List Rights) (first : List ℕ) (may : Launch → Bool) (c : Config) (f : Frame) (s : Lists) (free : Free) (words m : List ℕ)
    → Allocates r c → HasReadOnly jobs first m → ListsFine r (HasReadOnly jobs first) (Passes may) c f s → glance_result (binner_ready s free) m ≡ true
    → Keeps who (Inside r.region) (IsSafeIn r) (λ n turned. TurnedFine r (HasReadOnly jobs first) (Passes may) c f turned) (binner_plan s free words) m

-- So does one step of its renderer.
abbrev pub RendererKeeps : Type 0
RendererKeeps =
    (who : Who) (r : Rights) (jobs : List Rights) (first : List ℕ) (may : Launch → Bool) (c : Config) (f : Frame) (s : Lists) (free : Free) (words m : List ℕ)
    → HasReadOnly jobs first m → ListsFine r (HasReadOnly jobs first) (Passes may) c f s → glance_result (renderer_ready s) m ≡ true
    → Keeps who (Inside r.region) (IsSafeIn r) (λ n turned. TurnedFine r (HasReadOnly jobs first) (Passes may) c f turned) (renderer_plan s free words) m

-- To see whether it may step, the renderer looks in the job's region.
abbrev pub RendererLooks : Type 0
RendererLooks =
    (r : Rights) (jobs : List Rights) (first : List ℕ) (may : Launch → Bool) (c : Config) (f : Frame) (s : Lists) (m : List ℕ)
    → ListsFine r (HasReadOnly jobs first) (Passes may) c f s → GlancesIn (Inside r.region) (renderer_ready s) m

-- Each part that a store covers may be written where the whole surface may, at whatever tile, and each part that a load
-- covers lies in the region where the whole surface does.
abbrev pub StoreFine : Type 0
StoreFine =
    (r : Rights) (style : Option Style) (f : Frame) (base x y : ℕ)
    → StoresSurface r style f base → PartsMeet (MayWrite r) (cover_for style (Some f) base x y)

abbrev pub LoadFine : Type 0
LoadFine =
    (r : Rights) (style : Option Style) (f : Frame) (base x y : ℕ)
    → LoadsSurface r style f base → PartsMeet (Inside r.region) (cover_for style (Some f) base x y)
