-- How many jobs a line brings.
use Rattle.std.proofs.Common.{ℕ, ◌+◌, ◌≤◌, List, [], ◌∷◌, ◌++◌, length, length-append, arith, Option, None, Some, Result, Ok, Err}
use Rattle.job_queue.specs.declared.call.Call.TheVariants.{Submit, Start, Bin, Render}
use Rattle.job_queue.specs.Past.{Past, past_by, submit_answer, start_answer, bin_answer, render_answer, after_submit, after_start, after_bin, after_render}
use Rattle.job_queue.specs.{declared.queue.QueueFault.QueueFault, declared.call.Call.Call, Text.after_call}
use Rattle.job_queue.specs.Calls.{buffers_of, reads_word, writes_word}

-- a line brings at most one job
few_by : (p : Past) (next : ℕ → Past) (answer : Result ℕ QueueFault) → ((number : ℕ) → length (next number).jobs ≤ length p.jobs + 1)
    → length (past_by next p answer).jobs ≤ length p.jobs + 1
few_by p next (Err fault) few = omega arith
few_by p next (Ok number) few = few number

pub few_more : (p : Past) (line : List ℕ) (call : Option Call) → length (after_call p line call).jobs ≤ length p.jobs + 1
unfolding after_call after_submit after_start after_bin after_render
few_more p line None = omega arith
few_more p line (Some Submit) =
    let reads = buffers_of (reads_word line) in
    let writes = buffers_of (writes_word line) in
    few_by p (λ number. record p { jobs = p.jobs ++ record { reads = reads; writes = writes } ∷ [] }) (submit_answer p reads writes)
    (λ number. omega (arith, length-append p.jobs (record { reads = reads; writes = writes } ∷ [])))
few_more p line (Some Start) = few_by p (λ number. record p { started = number }) (start_answer p) (λ number. omega arith)
few_more p line (Some Bin) = few_by p (λ number. record p { binned = number }) (bin_answer p) (λ number. omega arith)
few_more p line (Some Render) = few_by p (λ number. record p { rendered = number }) (render_answer p) (λ number. omega arith)
