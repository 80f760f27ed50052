-- A day by its single steps. A job is admitted, its program starts, finds registers that aren't zero, works with one of them and ends; the job
-- retires; others write other lists and code in its place, and there a job is admitted again and steps.
use Rattle.std.specs.Prelude.{◌≡◌, ℕ, ◌+◌, ◌/◌, ◌%◌, ◌^◌, false, List, [], ◌∷◌, ◌++◌, replicate, slice_index_or, Option, None, Some}
use Rattle.field_words.specs.declared.access.Actor.TheVariants.{Binner as TheBinner, Qpu as TheQpu}
use Rattle.machine_plan.specs.{declared.launch.Launch.Launch, Regions.Interval}
use Rattle.qpu_machine.specs.{declared.state.Qpu.Qpu, declared.state.Thread.Thread, Qpu.idle_qpu, Qpu.slot_of, Start.thread_of}
use Rattle.machine.specs.State.{item_at}
use Rattle.day_ends.specs.Ends.{own_steps}
use Rattle.day_law.specs.Day.{AllMayHappen}
use Rattle.promises.specs.Days.{Job, Files, Happening, Steps, Changes, Finds, Admits, Retires, after, dawn, no_rights, rights_in, with_files}

-- The binner list, from place 0 on: a configuration of one tile, whose states stand at 144 and whose tile lists have 256 bytes from 192 on;
-- start of binning; the record at 48, with one attribute; one vertex, the first.
abbrev pub bin_list : List ℕ
bin_list =
    112 ∷ 192 ∷ 0 ∷ 0 ∷ 0 ∷ 0 ∷ 1 ∷ 0 ∷ 0 ∷ 144 ∷ 0 ∷ 0 ∷ 0 ∷ 1 ∷ 1 ∷ 0
    ∷ 6
    ∷ 64 ∷ 49 ∷ 0 ∷ 0 ∷ 0
    ∷ 33 ∷ 0 ∷ 1 ∷ 0 ∷ 0 ∷ 0 ∷ 0 ∷ 0 ∷ 0 ∷ 0 ∷ []

-- The record: its three programs have the code at 96 and take no uniform, and a vertex has four bytes at 128.
abbrev pub record_bytes : List ℕ
record_bytes =
    1 ∷ 0 ∷ 0 ∷ 0 ∷ 96 ∷ 0 ∷ 0 ∷ 0 ∷ 0 ∷ 0 ∷ 0 ∷ 0
    ∷ 0 ∷ 0 ∷ 0 ∷ 0 ∷ 96 ∷ 0 ∷ 0 ∷ 0 ∷ 0 ∷ 0 ∷ 0 ∷ 0
    ∷ 0 ∷ 0 ∷ 0 ∷ 0 ∷ 96 ∷ 0 ∷ 0 ∷ 0 ∷ 0 ∷ 0 ∷ 0 ∷ 0
    ∷ 128 ∷ 0 ∷ 0 ∷ 0 ∷ 3 ∷ 4 ∷ 0 ∷ 0 ∷ []

-- an instruction, the program's end, and the two that come behind it
abbrev pub code_with : ℕ → List ℕ
code_with word = word ∷ 0x300009e7009e7000 ∷ 0x100009e7009e7000 ∷ 0x100009e7009e7000 ∷ []

abbrev pub bytes : ℕ → List ℕ
bytes word =
    word % 256 ∷ word / 2 ^ 8 % 256 ∷ word / 2 ^ 16 % 256 ∷ word / 2 ^ 24 % 256
    ∷ word / 2 ^ 32 % 256 ∷ word / 2 ^ 40 % 256 ∷ word / 2 ^ 48 % 256 ∷ word / 2 ^ 56 ∷ []

abbrev pub memory_with : ℕ → List ℕ
memory_with word =
    bin_list ++ (replicate 16 0 ++ (record_bytes ++ (replicate 4 0
    ++ (bytes word ++ (bytes 0x300009e7009e7000 ++ (bytes 0x100009e7009e7000 ++ (bytes 0x100009e7009e7000 ++ replicate 320 0)))))))

-- register 1 of file A gets what register 0 has; in the second program register 2 does
abbrev pub moves_to_1 : ℕ
moves_to_1 = 0x1002006715027d80

abbrev pub moves_to_2 : ℕ
moves_to_2 = 0x100200a715027d80

abbrev pub memory : List ℕ
memory = memory_with moves_to_1

abbrev pub other_memory : List ℕ
other_memory = memory_with moves_to_2

-- It may write what lies from 144 on. Its renderer list is empty, and it has no data buffer.
abbrev pub fixed_part : Interval
fixed_part = record { place = 0; size = 144 }

abbrev pub written_part : Interval
written_part = record { place = 144; size = 304 }

abbrev pub job : Job
job = record {
  start = record { bin_place = 0; bin_len = 32; render_place = 32; render_len = 0 };
  rights = record { region = fixed_part ∷ written_part ∷ []; writable = written_part ∷ [] };
  plain = [];
}

abbrev pub program : Launch
program = record { threaded = false; code = 96; uniforms = 0 }

-- what the last program left
abbrev pub files_left : Files
files_left = record { a = replicate 32 (replicate 16 7); b = replicate 32 (replicate 16 9) }

abbrev pub binner : ℕ → Happening
binner word = Steps (record { unit = TheBinner; words = word ∷ [] })

abbrev pub processor : Happening
processor = Steps (record { unit = TheQpu 0; words = [] })

-- The four packets, the vertex, and the start of its program; then what that finds; its first instruction; the other three, and the
-- binner's last step for the primitive, which puts no item on the tile.
abbrev pub to_start : List Happening
to_start = Admits job ∷ binner 0 ∷ binner 0 ∷ binner 0 ∷ binner 0 ∷ binner 0 ∷ binner 0 ∷ []

abbrev pub to_find : List Happening
to_find = to_start ++ Finds 0 false files_left ∷ []

abbrev pub to_move : List Happening
to_move = to_find ++ processor ∷ []

abbrev pub to_end : List Happening
to_end = to_move ++ (processor ∷ processor ∷ processor ∷ binner 1 ∷ [])

abbrev pub whole_day : List Happening
whole_day = to_end ++ (Retires 0 ∷ Changes other_memory ∷ Admits job ∷ binner 0 ∷ [])

-- the first thread of the first processor then, and its file A
abbrev pub thread_in : Option Qpu → Option Thread
thread_in None = None
thread_in (Some q) = slot_of q false

abbrev pub thread_after : List Happening → Option Thread
thread_after happenings = thread_in (item_at (after (dawn memory) happenings).state.units.qpus 0)

abbrev pub file_in : Option Thread → List (List ℕ)
file_in None = []
file_in (Some t) = t.a

pub record ADayHappens : Type 0 where
  pub may : AllMayHappen (dawn memory) whole_day
  pub starts : thread_after to_start ≡ Some (thread_of 0 program)
  pub finds : thread_after to_find ≡ Some (with_files files_left (thread_of 0 program))
  pub moves : slice_index_or (file_in (thread_after to_move)) 1 [] ≡ replicate 16 7
  pub ends : (after (dawn memory) to_end).state.units.qpus ≡ replicate 12 idle_qpu
  pub steps : own_steps 0 (dawn memory) whole_day ≡ 11
  pub serves : rights_in (after (dawn memory) whole_day).jobs ≡ no_rights ∷ job.rights ∷ []
