-- The law: jobs whose shaders break no strict rule do nothing that the hardware's guide forbids.
use Rattle.std.specs.Prelude.{◌≡◌, ℕ, false, List, [], None}
use Rattle.field_words.specs.{Questions.first_of, declared.access.Access.Access}
use Rattle.bin_walks.specs.Walks.{nothing_kept, Walks}
use Rattle.strict_rules.specs.Rules.{strict_questions, has_vpm_part, has_tile_part}
use Rattle.strict_lists.specs.Rules.{asked_from}
use Rattle.machine_plan.specs.{Others.Happening, Others.OthersRun, Regions.Interval, Regions.Rights, Regions.HasReadOnly}
use Rattle.machine.specs.{declared.job.Start.Start, State.Units, State.State, State.units_start, Step.Event, Step.ready, Step.turn}
use Rattle.machine_law.specs.{Begins.DrawBegins, Begins.JobBegins, Jobs.ArePlain, Units.EachAt}
use Rattle.strict_law.specs.{Forbidden.IsForbidden, Records.selects_missing}

-- the shader breaks no strict rule
abbrev pub IsStrict : List ℕ → Type 0
IsStrict code = first_of (strict_questions code) ≡ None

-- so does the list of these packets
abbrev pub IsListStrict : List (List ℕ) → Type 0
IsListStrict packets = first_of (asked_from [] packets) ≡ None

-- The primitive may be drawn; the shaders of its three programs are so, and none uses what belongs to programs of the other kind; and its
-- record selects no attribute that isn't there.
pub record DrawStrict (rights : List Rights) (plains : ℕ → List Interval) (first : List ℕ) (j word : ℕ) (packet : List ℕ) : Type 0 where
  pub begins : DrawBegins rights plains first j word packet
  pub fragment : IsStrict begins.fragment.home.code
  pub vertex : IsStrict begins.vertex.home.code
  pub coordinate : IsStrict begins.coordinate.home.code
  pub fragment_part : has_vpm_part begins.fragment.home.code ≡ false
  pub vertex_part : has_tile_part begins.vertex.home.code ≡ false
  pub coordinate_part : has_tile_part begins.coordinate.home.code ≡ false
  pub selects : selects_missing first word ≡ false

-- Job j begins so, with such primitives alone, and with a binner list that breaks no strict rule.
pub record JobStrict (rights : List Rights) (plains : ℕ → List Interval) (first : List ℕ) (j : ℕ) (start : Start) : Type 0 where
  pub begins : JobBegins rights plains first j start
  pub draws : Walks begins.config (DrawStrict rights plains first j) nothing_kept begins.packets
  pub list : IsListStrict begins.packets

-- Each run from these units over this memory, whichever unit steps next, whatever words answer it, and also while others write: no
-- event is forbidden in any state to which it comes, not even one that must wait.
pub record NeverForbidden (rights : List Rights) (memory : List ℕ) (start : Units) : Type 0 where
  pub every_run : (happenings : List (Happening Event)) (found : List Access) (t : State)
      → OthersRun ready turn rights (record { memory = memory; units = start }) happenings found t
      → (event : Event) → IsForbidden t event → ⊥

-- So it is for any strict jobs, over each memory that has what jobs may only read as the first.
abbrev pub StrictJobsObey : Type 0
StrictJobsObey =
    (rights : List Rights) (plains : ℕ → List Interval) (first m : List ℕ) (starts : List Start)
    → ArePlain rights plains → HasReadOnly rights first m
    → EachAt (JobStrict rights plains first) 0 starts → NeverForbidden rights m (units_start starts)
