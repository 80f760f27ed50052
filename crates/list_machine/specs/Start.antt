-- How a list unit starts a program.
use Rattle.std.specs.Prelude.{ℕ, ◌+◌, ◌%◌, ◌==◌, Bool, false, is_some, if◌then◌else◌, List, slice_index, Option, Some, None}
use Rattle.field_words.specs.Words.{u32_at}
use Rattle.machine_plan.specs.Plan.{Plan, Done, Reads, Looks}
use Rattle.list_machine.specs.{State.Coordinate, State.Fragment, State.Free, State.Launch, State.Program, State.Vertex, Fetch.record_place}

-- where a record holds the place of a program's code; that of its uniforms comes behind it
abbrev pub code_offset : Program → ℕ
code_offset Fragment = 4
code_offset Vertex = 16
code_offset Coordinate = 28

-- a program can start where a processor has a thread for it
abbrev pub can_start : Bool → Free → Bool
can_start threaded free = if threaded then is_some free.threaded else is_some free.plain

abbrev pub launch_of : Bool → List ℕ → List ℕ → Launch
launch_of threaded code uniforms = record { threaded = threaded; code = u32_at code 0; uniforms = u32_at uniforms 0 }

-- the flags are read, and the places of the program's code and of its uniforms
unfoldable pub launch_plan : Program → Bool → ℕ → Plan (Option Launch)
launch_plan program threaded word =
    Reads (record_place word) 2 (λ flags.
    Reads (record_place word + code_offset program) 4 (λ code.
    Reads (record_place word + code_offset program + 4) 4 (λ uniforms.
    Done (Some (launch_of threaded code uniforms)))))

-- a program that can't start reads nothing
unfoldable pub start_as : Program → Bool → Free → ℕ → Plan (Option Launch)
start_as program threaded free word = if can_start threaded free then launch_plan program threaded word else Done None

-- bit 0 of the flags says that the fragment program is single-threaded
unfoldable pub is_threaded : List ℕ → Bool
is_threaded flags = slice_index flags 0 % 2 == 0

-- A program of this state word is started. A fragment program is threaded where the record's flags say
-- so, no other is; to look at the flags is no access.
unfoldable pub start_plan : Program → Free → ℕ → Plan (Option Launch)
start_plan Fragment free word = Looks (record_place word) 2 (λ flags. start_as Fragment (is_threaded flags) free word)
start_plan Vertex free word = start_as Vertex false free word
start_plan Coordinate free word = start_as Coordinate false free word
