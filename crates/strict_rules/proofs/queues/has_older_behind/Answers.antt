use Rattle.std.proofs.{Common.ap, Common.◌∙◌, lemmas.List.take_rest}
use Rattle.strict_rules.specs.Rules.{has_older}
use Rattle.strict_rules.proofs.Requests.{none_behind}
use Rattle.strict_rules.proofs.queues.has_older_behind.Goals as goal

pub returns-then-taken-queue : goal.returns-then-taken-queue
returns-then-taken-queue c = none_behind c.args.acted c.args.taken c.args.queue.now c.if-taken-queue.true

pub returns : goal.returns
returns c = c.has_older.ensures ∙ ap (has_older c.args.acted) (take_rest c.args.queue.now c.args.taken)
