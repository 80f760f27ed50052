-- What a list of calls does, in lists and sets: each running job has a list of slots, and a list of the blocks that it was given.
use Rattle.std.specs.Prelude.{ℕ, ◌+◌, ◌*◌, ◌==◌, Bool, true, false, not, ◌||◌, nat_le, List, [], ◌∷◌, Option, Some, None, Result, Ok, Err, if◌then◌else◌}
use Rattle.field_words.specs.{Sizes.slot_size, Words.rounded_up}
use Rattle.tile_memory.specs.Slots.{alloc_offset, slot_fits}
use Rattle.overflow_slots.specs.declared.call.Call.TheVariants.{Begin, Take, Overflow, End}
use Rattle.overflow_slots.specs.{declared.pool.Block.Block, declared.call.Call.Call, Search.first_where, Search.count_where, Search.any_where}

-- the jobs that a pool knows: 0 to 31
abbrev pub most_jobs : ℕ
most_jobs = 32

-- the bytes of a block
abbrev pub block_size : ℕ
block_size = 128

-- A slot that a job holds: the bytes at its front that no block may use, and how many bytes are used, the front with them.
pub record Held : Type 0 where
  pub slot : ℕ
  pub front : ℕ
  pub used : ℕ

-- For each job the slots that it holds, the newest first, and the blocks that it was given since it began. A job is running
-- where it holds a slot.
pub record Run : Type 0 where
  pub slots : ℕ
  pub held : ℕ → List Held
  pub blocks : ℕ → List Block

-- no job is running
abbrev pub start : ℕ → Run
start slots = record { slots = slots; held = λ job. []; blocks = λ job. [] }

-- a slot is one of these
unfoldable pub holds : ℕ → List Held → Bool
holds slot [] = false
holds slot (one ∷ others) = (one.slot == slot) || holds slot others

-- a slot is free where no job holds it
unfoldable pub is_free : Run → ℕ → Bool
is_free run slot = not (any_where (λ job. holds slot (run.held job)) most_jobs)

unfoldable pub least_free : Run → Option ℕ
least_free run = first_where (is_free run) 0 run.slots

unfoldable pub free_count : Run → ℕ
free_count run = count_where (is_free run) run.slots

-- the bytes that the binner's states and first blocks take of a slot, up to the next block
unfoldable pub front : ℕ → ℕ
front tiles = alloc_offset tiles + rounded_up (32 * tiles) block_size

-- 3: no slot is free
abbrev pub slot_answer : Option ℕ → Result ℕ ℕ
slot_answer None = Err 3
slot_answer (Some slot) = Ok slot

abbrev pub is_running : List Held → Bool
is_running [] = false
is_running (one ∷ others) = true

-- there is room for a block
abbrev pub has_room : ℕ → Bool
has_room used = nat_le (used + block_size) slot_size

-- 1: the job is running; 6: it has no tiles, or more than fit; 3
unfoldable pub begin_answer : Run → ℕ → ℕ → Result ℕ ℕ
begin_answer run job tiles =
    if is_running (run.held job) then Err 1
    else (if tiles == 0 then Err 6 else (if slot_fits tiles then slot_answer (least_free run) else Err 6))

-- 2: the job isn't running; 4: its newest slot has no room
abbrev pub take_answer_of : List Held → Result Block ℕ
take_answer_of [] = Err 2
take_answer_of (one ∷ others) = if has_room one.used then Ok (record { slot = one.slot; at = one.used }) else Err 4

unfoldable pub take_answer : Run → ℕ → Result Block ℕ
take_answer run job = take_answer_of (run.held job)

-- 2; 5: its newest slot has room; 3
abbrev pub overflow_answer_of : Option ℕ → List Held → Result ℕ ℕ
overflow_answer_of free [] = Err 2
overflow_answer_of free (one ∷ others) = if has_room one.used then Err 5 else slot_answer free

unfoldable pub overflow_answer : Run → ℕ → Result ℕ ℕ
overflow_answer run job = overflow_answer_of (least_free run) (run.held job)

-- a job's slots and blocks, and those of the others as they were
abbrev pub with : Run → ℕ → List Held → List Block → Run
with run job held blocks = record {
  slots = run.slots;
  held = λ other. if other == job then held else run.held other;
  blocks = λ other. if other == job then blocks else run.blocks other;
}

abbrev pub after_end : Run → ℕ → Run
after_end run job = with run job [] []

abbrev pub end_answer_of : ℕ → List Held → Result ℕ ℕ
end_answer_of count [] = Err 2
end_answer_of count (one ∷ others) = Ok count

-- 2
unfoldable pub end_answer : Run → ℕ → Result ℕ ℕ
end_answer run job = end_answer_of (free_count (after_end run job)) (run.held job)

-- a block was given of the newest slot
abbrev pub with_block : Run → ℕ → List Held → Result Block ℕ → Run
with_block run job [] answer = run
with_block run job (one ∷ others) (Err refusal) = run
with_block run job (one ∷ others) (Ok block) =
    with run job (record { slot = one.slot; front = one.front; used = one.used + block_size } ∷ others) (block ∷ run.blocks job)

-- a slot was given, with bytes at its front, beside others
abbrev pub with_slot : Run → ℕ → ℕ → List Held → List Block → Result ℕ ℕ → Run
with_slot run job front others blocks (Err refusal) = run
with_slot run job front others blocks (Ok slot) = with run job (record { slot = slot; front = front; used = front } ∷ others) blocks

abbrev pub with_end : Run → ℕ → Result ℕ ℕ → Run
with_end run job (Err refusal) = run
with_end run job (Ok count) = after_end run job

-- what a call leaves: a refusal changes nothing
unfoldable pub after : Run → Call → Run
after run (Begin job tiles) = with_slot run job (front tiles) [] [] (begin_answer run job tiles)
after run (Take job) = with_block run job (run.held job) (take_answer run job)
after run (Overflow job) = with_slot run job 0 (run.held job) (run.blocks job) (overflow_answer run job)
after run (End job) = with_end run job (end_answer run job)

-- the calls one after the other
unfoldable pub run_of : Run → List Call → Run
run_of run [] = run
run_of run (call ∷ calls) = run_of (after run call) calls
