-- What a script is answered: a line for each of its calls.
use Rattle.std.specs.Prelude.{ℕ, List, [], ◌++◌, codes, Option, Some, None, Result, Ok, Err, decimal}
use Rattle.script.specs.Replies.{replies as script_replies}
use Rattle.job_queue.specs.declared.queue.QueueFault.TheVariants.{Unknown, Full, Binning, NoJob, Waits, NotBinning, NotBinned}
use Rattle.job_queue.specs.declared.call.Call.TheVariants.{Submit, Start, Bin, Render}
use Rattle.job_queue.specs.Past.{Past, none_yet, submit_answer, start_answer, bin_answer, render_answer, after_submit, after_start, after_bin, after_render}
use Rattle.job_queue.specs.{declared.queue.QueueFault.QueueFault, declared.call.Call.Call, Calls.call_of, Calls.buffers_of, Calls.reads_word, Calls.writes_word}

unfoldable pub refused_line : QueueFault → List ℕ
refused_line (Unknown buffer) = codes "refused Q1\n"
refused_line Full = codes "refused Q2\n"
refused_line (Binning job) = codes "refused Q3\n"
refused_line NoJob = codes "refused Q4\n"
refused_line (Waits writer) = codes "refused Q5 " ++ (decimal writer ++ codes "\n")
refused_line NotBinning = codes "refused Q6\n"
refused_line NotBinned = codes "refused Q7\n"

-- this word and the job's number, or the refusal
unfoldable pub answer_line : List ℕ → Result ℕ QueueFault → List ℕ
answer_line word (Ok job) = word ++ (codes " " ++ (decimal job ++ codes "\n"))
answer_line word (Err fault) = refused_line fault

-- what the line of a submit is answered, and the past with its job
abbrev pub submit_reply : Past → List ℕ → List ℕ
submit_reply past line = answer_line (codes "job") (submit_answer past (buffers_of (reads_word line)) (buffers_of (writes_word line)))

abbrev pub after_submit_line : Past → List ℕ → Past
after_submit_line past line = after_submit past (buffers_of (reads_word line)) (buffers_of (writes_word line))

-- the line that answers a call, whose line says more of it; a line may be no call
unfoldable pub call_reply : Past → List ℕ → Option Call → List ℕ
call_reply past line None = []
call_reply past line (Some Submit) = submit_reply past line
call_reply past line (Some Start) = answer_line (codes "start") (start_answer past)
call_reply past line (Some Bin) = answer_line (codes "binned") (bin_answer past)
call_reply past line (Some Render) = answer_line (codes "rendered") (render_answer past)

unfoldable pub after_call : Past → List ℕ → Option Call → Past
after_call past line None = past
after_call past line (Some Submit) = after_submit_line past line
after_call past line (Some Start) = after_start past
after_call past line (Some Bin) = after_bin past
after_call past line (Some Render) = after_render past

abbrev pub line_reply : Past → List ℕ → List ℕ
line_reply past line = call_reply past line (call_of line)

abbrev pub after_line : Past → List ℕ → Past
after_line past line = after_call past line (call_of line)

-- the answer to a script on so many buffers
unfoldable pub replies : ℕ → List ℕ → List ℕ
replies buffers text = script_replies line_reply after_line (none_yet buffers) text
