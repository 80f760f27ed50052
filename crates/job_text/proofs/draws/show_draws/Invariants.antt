-- The text of the jobs so far.
use Rattle.job_text.specs.{Draws.IsDrawsText, Shown.look_of}
use Rattle.job_text.proofs.draws.show_draws.Given as goal

abbrev pub invariant-loop-number : goal.invariant-loop-number
invariant-loop-number l = IsDrawsText (look_of l.view) l.bytes l.number l.out.items
