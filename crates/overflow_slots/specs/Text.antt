-- What a script is answered: a line for each of its calls.
use Rattle.std.specs.Prelude.{ℕ, List, [], ◌++◌, codes, Option, Some, None, Result, Ok, Err, decimal}
use Rattle.script.specs.Replies.{replies as script_replies}
use Rattle.overflow_slots.specs.declared.call.Call.TheVariants.{Begin, Take, Overflow, End}
use Rattle.overflow_slots.specs.SlotRun.{Run, start, after, begin_answer, take_answer, overflow_answer, end_answer}
use Rattle.overflow_slots.specs.{declared.pool.Block.Block, declared.call.Call.Call, Calls.call_of}

unfoldable pub refused_line : ℕ → List ℕ
refused_line refusal = codes "refused O" ++ (decimal refusal ++ codes "\n")

-- this word and a number, or the refusal
unfoldable pub number_line : List ℕ → Result ℕ ℕ → List ℕ
number_line word (Ok number) = word ++ (codes " " ++ (decimal number ++ codes "\n"))
number_line word (Err refusal) = refused_line refusal

unfoldable pub block_line : Result Block ℕ → List ℕ
block_line (Ok block) = codes "block " ++ (decimal block.slot ++ (codes " " ++ (decimal block.at ++ codes "\n")))
block_line (Err refusal) = refused_line refusal

-- the line that answers a call
unfoldable pub line_of : Run → Call → List ℕ
line_of run (Begin job tiles) = number_line (codes "slot") (begin_answer run job tiles)
line_of run (Take job) = block_line (take_answer run job)
line_of run (Overflow job) = number_line (codes "slot") (overflow_answer run job)
line_of run (End job) = number_line (codes "free") (end_answer run job)

-- the line that answers a line, which may be no call
abbrev pub call_reply : Run → Option Call → List ℕ
call_reply run None = []
call_reply run (Some call) = line_of run call

abbrev pub after_call : Run → Option Call → Run
after_call run None = run
after_call run (Some call) = after run call

abbrev pub line_reply : Run → List ℕ → List ℕ
line_reply run line = call_reply run (call_of line)

abbrev pub after_line : Run → List ℕ → Run
after_line run line = after_call run (call_of line)

-- the answer to a script on so many slots
unfoldable pub replies : ℕ → List ℕ → List ℕ
replies slots text = script_replies line_reply after_line (start slots) text
