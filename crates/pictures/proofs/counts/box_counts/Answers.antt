use Rattle.replay.specs.declared.logged.Logged.{Logged}
use Rattle.pictures.specs.Counts.{touches, box_counts}
use Rattle.pictures.proofs.Counting.{all_counted}
use Rattle.pictures.proofs.counts.box_counts.Goals as goal

pub returns-clause-value : goal.returns-clause-value
unfolding box_counts
returns-clause-value c =
    all_counted (λ k (logged : Logged). touches c.args.way c.args.size k logged.access) c.args.accesses.now c.loop-logged.counts.items c.args.count c.loop-logged.logged-index
    c.loop-logged.invariant.long c.loop-logged-test.false c.loop-logged.invariant.each
