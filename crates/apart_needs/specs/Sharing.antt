-- Why clients may share nothing: where another client's job may write a byte that is the client's, the client sees it, though none of its
-- own jobs takes a step. Job 0 is the client's, and has nothing to do. Job 1 is another one's, and draws into the client's bytes.
use Rattle.std.specs.Prelude.{◌≡◌, ℕ, ◌==◌, List, [], ◌∷◌}
use Rattle.field_words.specs.declared.access.Access.{Access}
use Rattle.machine_plan.specs.{Regions.Interval, Regions.Rights, Runs.state_reached}
use Rattle.machine.specs.{declared.job.Start.Start, State.State, State.start_of, Step.Event, Step.IsRun, Step.step}
use Rattle.promises.specs.{Trail.Client, Trail.trail_of, Apart.Beginning, Apart.EndAlike, Apart.regions_of}
use Rattle.machine_law.specs.Apart.{BeginsSoundly}
use Rattle.field_words.specs.declared.access.Actor.TheVariants.{Renderer as TheRenderer}
use Rattle.apart_needs.specs.States.{reads, writes}

-- job 0 alone is the client's
abbrev pub client : Client
client j = j == 0

-- 16 bytes, and behind them a renderer list: a frame of four pixels of four bytes each at place 0 (113), and a store of it (24)
abbrev pub own_bytes : Interval
own_bytes = record { place = 0; size = 16 }

abbrev pub list_bytes : Interval
list_bytes = record { place = 16; size = 12 }

abbrev pub shared_memory : List ℕ
shared_memory =
    9 ∷ 9 ∷ 9 ∷ 9 ∷ 9 ∷ 9 ∷ 9 ∷ 9 ∷ 9 ∷ 9 ∷ 9 ∷ 9 ∷ 9 ∷ 9 ∷ 9 ∷ 9
    ∷ 113 ∷ 0 ∷ 0 ∷ 0 ∷ 0 ∷ 4 ∷ 0 ∷ 1 ∷ 0 ∷ 4 ∷ 0 ∷ 24 ∷ []

-- Both jobs may write the 16 bytes.
abbrev pub shared_rights : List Rights
shared_rights =
    record { region = own_bytes ∷ []; writable = own_bytes ∷ [] }
    ∷ record { region = own_bytes ∷ list_bytes ∷ []; writable = own_bytes ∷ [] } ∷ []

-- both lists of job 0 are empty, and so is the binner list of job 1
abbrev pub two_jobs : List Start
two_jobs =
    record { bin_place = 0; bin_len = 0; render_place = 0; render_len = 0 }
    ∷ record { bin_place = 16; bin_len = 0; render_place = 16; render_len = 12 } ∷ []

abbrev pub shared_beginning : Beginning
shared_beginning = record { rights = shared_rights; plains = λ j. []; memory = shared_memory; starts = two_jobs }

abbrev pub sharing : State
sharing = start_of shared_memory two_jobs

-- The renderer takes two steps for job 1, and stores the bytes of this word first.
abbrev pub stores : List Event
stores = record { unit = TheRenderer; words = [] } ∷ record { unit = TheRenderer; words = 0x04030201 ∷ [] } ∷ []

abbrev pub of_job_1 : Access → Access
of_job_1 a = record a { job = 1 }

abbrev pub stored_accesses : List Access
stored_accesses = of_job_1 (reads TheRenderer 16 11) ∷ of_job_1 (reads TheRenderer 27 1) ∷ of_job_1 (writes TheRenderer 0 16) ∷ []

-- The beginning is sound, and so it is its own neighbour in all but that nothing is shared. From there a run of no step and the run that
-- draws have the same trail of the client. Yet they don't end alike to it.
pub record SharingIsSeen : Type 0 where
  pub begins : BeginsSoundly shared_beginning
  pub rests : IsRun sharing [] [] sharing
  pub draws : IsRun sharing stores stored_accesses (state_reached step sharing stores)
  pub trails : trail_of client sharing [] ≡ trail_of client sharing stores
  pub differ : EndAlike client (regions_of client 0 shared_rights) [] stored_accesses sharing (state_reached step sharing stores) → ⊥
