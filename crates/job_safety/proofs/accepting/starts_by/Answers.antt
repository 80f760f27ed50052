-- One start more.
use Rattle.std.proofs.Common.{◌∙◌, ap, sym, take, ◌++◌, ◌∷◌, []}
use Rattle.job_safety.specs.Accepted.{starts_by}
use Rattle.job_safety.proofs.Starts.{starts_more}
use Rattle.job_safety.proofs.accepting.starts_by.Goals as goal

pub loop-i-init : goal.loop-i-init
unfolding starts_by
loop-i-init c = c.new-starts.ensures.items

pub loop-i-preserved : goal.loop-i-preserved
loop-i-preserved c =
    c.in_ok-push.ensures.items
    ∙ ap (λ starts. starts ++ (c.start_by.result ∷ [])) c.loop-i.invariant
    ∙ ap (λ start. starts_by (take c.loop-i.i c.args.layouts.now) (take c.loop-i.i c.args.lengths.now) ++ (start ∷ [])) c.start_by.ensures
    ∙ sym (starts_more c.args.layouts.now c.args.lengths.now c.loop-i.i _ _ c.loop-i-test.true c.requires.as_many)
