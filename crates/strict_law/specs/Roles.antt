-- As which program a thread was started: a fragment, a vertex or a coordinate program; and the law that it executes no instruction that
-- uses what belongs to programs of the other kind.
--
-- Neither a thread nor its processor keeps which it is. So that is kept beside the state, as requests are in `Order`.
use Rattle.std.specs.Prelude.{◌≡◌, ℕ, ◌%◌, ◌==◌, ◌||◌, Bool, false, if◌then◌else◌, is_none, List, Option, Some, None}
use Rattle.field_words.specs.declared.access.{Access.Access, Actor.Actor}
use Rattle.field_words.specs.declared.access.Actor.TheVariants.{Binner as TheBinner, Renderer as TheRenderer, Qpu as TheQpu, Tmu as TheTmu}
use Rattle.qpu_isa.specs.{Word.sig_of, Terms.names_address}
use Rattle.machine_plan.specs.{Choice.word_at, Regions.Interval, Regions.Rights, Regions.HasReadOnly}
use Rattle.machine_plan.specs.Others.{Happening as Sole, OthersRun}
use Rattle.list_machine.specs.declared.state.Program.{Program, TheVariants.Fragment, TheVariants.Vertex, TheVariants.Coordinate}
use Rattle.qpu_machine.specs.{declared.state.Qpu.Qpu, declared.state.Thread.Thread, Qpu.slot_of}
use Rattle.machine.specs.{declared.job.Start.Start, State.State, State.Units, State.item_at, State.units_start}
use Rattle.machine.specs.Step.{Event, ready, turn}
use Rattle.machine_law.specs.{Jobs.ArePlain, Units.EachAt}
use Rattle.day_law.specs.Day.{AllMayHappen}
use Rattle.promises.specs.Days.{Day, Happening, after, dawn}
use Rattle.strict_law.specs.{Days.AdmitStrict, Forbidden.Executes, Forbidden.reads, Forbidden.touches_vertices, Kept.Keeping, Kept.kept_along, Kept.kept_of, Strict.JobStrict}

-- by processor, of its first thread or its second one
abbrev pub Roles : Type 0
Roles = ℕ → Bool → Option Program

abbrev pub thread_in : Option Qpu → Bool → Option Thread
thread_in None second = None
thread_in (Some q) second = slot_of q second

-- What a step that starts programs of a kind leaves of them: a thread that wasn't there before it, and is then, is of that kind.
abbrev pub roles_with : Units → Program → Roles → Roles
roles_with u program roles = λ k second. if is_none (thread_in (item_at u.qpus k) second) then Some program else roles k second

-- The renderer's first choice word says what it starts.
unfoldable pub program_by : List ℕ → Program
program_by words = if word_at words 0 % 4 == 1 then Vertex else Fragment

-- The binner starts coordinate programs.
abbrev pub roles_after : Units → Actor → List ℕ → Roles → Roles
roles_after u TheBinner words roles = roles_with u Coordinate roles
roles_after u TheRenderer words roles = roles_with u (program_by words) roles
roles_after u (TheQpu k) words roles = roles
roles_after u (TheTmu k n) words roles = roles

-- along a run of jobs that begin together, and where jobs come and go
abbrev pub roles_kept : Keeping Roles
roles_kept = record { step = λ u unit words m roles. roles_after u unit words roles; admit = λ j roles. roles; reset = λ roles. roles }

abbrev pub roles_along : State → List (Sole Event) → Roles → Roles
roles_along s happenings roles = kept_along roles_kept s happenings roles

abbrev pub roles_of : Day → List Happening → Roles → Roles
roles_of d happenings roles = kept_of roles_kept d happenings roles

-- Of fragment programs alone: 43 sets up the stencil, and 44 to 47 are the tile buffer; 35 reads a varying; signals 4 and 5 wait for the
-- scoreboard and unlock it, and 8 loads a colour.
unfoldable pub touches_fragments : ℕ → Bool
touches_fragments word =
    ((names_address word 43 || names_address word 44) || ((names_address word 45 || names_address word 46) || names_address word 47))
    || (reads word 35 || (sig_of word == 4 || (sig_of word == 5 || sig_of word == 8)))

-- what belongs to programs of the other kind: the VPM to vertex and coordinate programs
abbrev pub is_foreign : Program → ℕ → Bool
is_foreign Fragment word = touches_vertices word
is_foreign Vertex word = touches_fragments word
is_foreign Coordinate word = touches_fragments word

-- The thread was started as some program, and this instruction of it uses nothing of the other kind.
pub record KeepsRole (role : Option Program) (word : ℕ) : Type 0 where
  pub program : Program
  pub is : role ≡ Some program
  pub own : is_foreign program word ≡ false

-- In each run of strict jobs, also while others write: an instruction that a thread executes keeps to what the thread was started as.
abbrev pub RunsKeepRoles : Type 0
RunsKeepRoles =
    (rights : List Rights) (plains : ℕ → List Interval) (first m : List ℕ) (starts : List Start)
    → ArePlain rights plains → HasReadOnly rights first m → EachAt (JobStrict rights plains first) 0 starts
    → (happenings : List (Sole Event)) (found : List Access) (s : State)
    → OthersRun ready turn rights (record { memory = m; units = units_start starts }) happenings found s
    → (event : Event) (q : Qpu) (t : Thread) (word : ℕ) → (one : Executes s event q t word)
    → KeepsRole (roles_along (record { memory = m; units = units_start starts }) happenings (λ k second. None) one.k q.second) word

-- So it is after whatever may happen to a machine to which only strict jobs are admitted.
abbrev pub DaysKeepRoles : Type 0
DaysKeepRoles =
    (memory : List ℕ) (happenings : List Happening) → AllMayHappen (dawn memory) happenings → AdmitStrict (dawn memory) happenings
    → (event : Event) (q : Qpu) (t : Thread) (word : ℕ) → (one : Executes (after (dawn memory) happenings).state event q t word)
    → KeepsRole (roles_of (dawn memory) happenings (λ k second. None) one.k q.second) word
