-- Vertices are fetched and programs started safely.
use Rattle.std.proofs.Common.{◌≡◌, ◌≤◌, ◌<◌, ℕ, zero, suc, ◌+◌, ◌*◌, ◌%◌, ◌^◌, Bool, true, false, List, IfSome, if◌then◌else◌, refl, arith, rules}
use Rattle.field_words.specs.Words.{u32_at}
use Rattle.packets.specs.StateWord.{attribute_count}
use Rattle.machine_plan.specs.declared.{who.Who.Who, launch.Free.Free, launch.Launch.Launch}
use Rattle.machine_plan.specs.{Memory.bytes_at, Plan.Done, Plan.Reads, Plan.Keeps, Regions.Inside, Regions.Rights, Regions.IsSafeIn}
use Rattle.machine_plan.proofs.{Memory.inside_part, Safe.read_safe, Worlds.keeps_followed}
use Rattle.list_machine.specs.declared.state.Program.{Program}
use Rattle.list_machine.specs.Fetch.{index_size, index_in, index_plan, draws_nothing, record_place, extension_place, data_size, data_place, data_plan, extended_plan, attribute_plan, attributes_plan, indexed_plan, fetch_plan}
use Rattle.list_machine.specs.{declared.state.Primitive.Primitive, Start.code_offset, Start.launch_plan, Start.start_as, Start.start_plan}
use Rattle.list_law.specs.Uses.{Fetches, program_launched, Programs}
use Rattle.list_law.proofs.Safe.{keeps_if}

-- any end will do
abbrev pub AnyEnd : {R : Type 0} → List ℕ → R → Type 0
AnyEnd m r = Unit {0}

data_keeps : (who : Who) (r : Rights) (m : List ℕ) (P : List ℕ → ℕ → Type 0) (attribute : List ℕ) (extension index : ℕ)
    → Inside r.region (data_place attribute extension index) (data_size attribute) → P m index
    → Keeps who (Inside r.region) (IsSafeIn r) P (data_plan attribute extension index) m
unfolding data_plan
data_keeps who r m P attribute extension index inside ends = (read_safe r who (data_place attribute extension index) (data_size attribute) inside, ends)

-- the data lie at a place by the extension that is read, where one is
extended_keeps_by : (who : Who) (r : Rights) (m : List ℕ) (P : List ℕ → ℕ → Type 0) (word index t : ℕ) (attribute : List ℕ) (b : Bool)
    → (b ≡ true → Inside r.region (extension_place word t) 4)
    → Inside r.region (data_place attribute (if b then u32_at (bytes_at m (extension_place word t) 4) 0 else 0) index) (data_size attribute) → P m index
    → Keeps who (Inside r.region) (IsSafeIn r) P (if b then Reads (extension_place word t) 4 (λ extension. data_plan attribute (u32_at extension 0) index) else data_plan attribute 0 index) m
extended_keeps_by who r m P word index t attribute true extension inside ends =
    (read_safe r who (extension_place word t) 4 (extension refl), data_keeps who r m P attribute (u32_at (bytes_at m (extension_place word t) 4) 0) index inside ends)
extended_keeps_by who r m P word index t attribute false extension inside ends = data_keeps who r m P attribute 0 index inside ends

attribute_keeps : (who : Who) (r : Rights) (m : List ℕ) (P : List ℕ → ℕ → Type 0) (word : ℕ) (p : Primitive) (index t : ℕ) (fetches : Fetches r.region m word p)
    → t < attribute_count word → index ≤ fetches.most → P m index
    → Keeps who (Inside r.region) (IsSafeIn r) P (attribute_plan word index t) m
unfolding attribute_plan extended_plan
attribute_keeps who r m P word p index t fetches below most ends = search (rules, arith, read_safe, extended_keeps_by)

attributes_keep : (who : Who) (r : Rights) (m : List ℕ) (word : ℕ) (p : Primitive) (index t n : ℕ) (fetches : Fetches r.region m word p)
    → t + n ≤ attribute_count word → index ≤ fetches.most
    → Keeps who (Inside r.region) (IsSafeIn r) AnyEnd (attributes_plan word t n index) m
unfolding attributes_plan
attributes_keep who r m word p index t zero fetches few most = tt
attributes_keep who r m word p index t (suc n) fetches few most =
    keeps_followed (attributes_plan word (t + 1) n) who (Inside r.region) (IsSafeIn r) AnyEnd (attribute_plan word index t) m
    (attribute_keeps who r m (λ k i. Keeps who (Inside r.region) (IsSafeIn r) AnyEnd (attributes_plan word (t + 1) n i) k) word p index t fetches (omega (arith, few)) most
    (attributes_keep who r m word p index (t + 1) n fetches (omega (arith, few)) most))

-- an index that draws is no greater than those that count
indexed_keeps : (who : Who) (r : Rights) (m : List ℕ) (word : ℕ) (p : Primitive) (index : ℕ) (fetches : Fetches r.region m word p)
    → (draws_nothing p index ≡ false → index ≤ fetches.most)
    → Keeps who (Inside r.region) (IsSafeIn r) AnyEnd (indexed_plan p word index) m
unfolding indexed_plan
indexed_keeps who r m word p index fetches most =
    keeps_if who (Inside r.region) (IsSafeIn r) AnyEnd m (draws_nothing p index) (Done index) (attributes_plan word 0 (attribute_count word) index)
    (λ on. tt)
    (λ off. attributes_keep who r m word p index 0 (attribute_count word) fetches (omega arith) (most off))

counts_indexed : (p : Primitive) (index most : ℕ) → p.indexed ≡ true → p.most ≤ most → draws_nothing p index ≡ false → index ≤ most
unfolding draws_nothing
counts_indexed p index most indexed greatest off = search (rules, arith)

index_keeps_by : (who : Who) (r : Rights) (m : List ℕ) (word : ℕ) (p : Primitive) (k : ℕ) (fetches : Fetches r.region m word p) → k < p.length
    → (b : Bool) → p.indexed ≡ b
    → Keeps who (Inside r.region) (IsSafeIn r) (λ n index. Keeps who (Inside r.region) (IsSafeIn r) AnyEnd (indexed_plan p word index) n)
    (if b then Reads (p.address + k * index_size p) (index_size p) (λ bytes. Done (index_in p bytes)) else Done ((p.address + k) % 2 ^ 32)) m
index_keeps_by who r m word p k fetches below true e =
    let index : ℕ = index_in p (bytes_at m (p.address + k * index_size p) (index_size p)) in (
      read_safe r who (p.address + k * index_size p) (index_size p) (fetches.indexes e k below),
      indexed_keeps who r m word p index fetches (counts_indexed p index fetches.most e (fetches.greatest e)),
    )
index_keeps_by who r m word p k fetches below false e =
    indexed_keeps who r m word p ((p.address + k) % 2 ^ 32) fetches (λ off. fetches.array e k below)

pub fetch_keeps : (who : Who) (r : Rights) (m : List ℕ) (word : ℕ) (p : Primitive) (k : ℕ) → Fetches r.region m word p → k < p.length
    → Keeps who (Inside r.region) (IsSafeIn r) AnyEnd (fetch_plan p word k) m
unfolding fetch_plan index_plan
fetch_keeps who r m word p k fetches below = search (rules, arith, keeps_followed, index_keeps_by)

-- The start of a program.
launch_keeps : (who : Who) (r : Rights) (O : Launch → Type 0) (m : List ℕ) (program : Program) (threaded : Bool) (word : ℕ)
    → Inside r.region (record_place word) 36 → code_offset program ≤ 28 → O (program_launched m program threaded word)
    → Keeps who (Inside r.region) (IsSafeIn r) (λ n launch. IfSome launch O) (launch_plan program threaded word) m
unfolding launch_plan
launch_keeps who r O m program threaded word header low may = search (arith, read_safe, inside_part)

start_keeps_as : (who : Who) (r : Rights) (O : Launch → Type 0) (m : List ℕ) (program : Program) (threaded : Bool) (free : Free) (word : ℕ)
    → Inside r.region (record_place word) 36 → code_offset program ≤ 28 → O (program_launched m program threaded word)
    → Keeps who (Inside r.region) (IsSafeIn r) (λ n launch. IfSome launch O) (start_as program threaded free word) m
unfolding start_as
start_keeps_as who r O m program threaded free word header low may = search (arith, keeps_if, launch_keeps)

pub start_fine : (who : Who) (r : Rights) (O : Launch → Type 0) (m : List ℕ) (program : Program) (free : Free) (word : ℕ)
    → Programs r.region O m word
    → Keeps who (Inside r.region) (IsSafeIn r) (λ n launch. IfSome launch O) (start_plan program free word) m
unfolding start_plan
start_fine who r O m program free word programs = search (rules, arith, inside_part, start_keeps_as)
