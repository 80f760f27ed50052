use Rattle.std.proofs.Common.{◌≡◌, ◌+◌, ◌||◌, true, false, sym, ap, ◌∙◌}
use Rattle.strict_rules.specs.{Queue.queue_of, Queue.last_act, Rules.has_older}
use Rattle.strict_rules.proofs.Requests.{older_kept}
use Rattle.strict_rules.proofs.ahead.keeps_older.Goals as goal

pub returns-then-older0 : goal.returns-then-older0
returns-then-older0 c =
    let code = c.args.code.now in
    let at = c.args.at in
    let first = older_kept code 0 at _ _ _ c.requires.walked.last (c.as_slice.ensures.value ∙ c.requires.walked.first.requests) c.taken_ahead-taken0.ensures in
    let here : has_older (last_act code at) (queue_of code 0 (at + 3)) ≡ true = sym first ∙ sym c.has_older_behind-older0.ensures ∙ c.if-older0.true in
    sym (ap (λ b. b || has_older (last_act code at) (queue_of code 1 (at + 3))) here)

pub returns : goal.returns
returns c =
    let code = c.args.code.now in
    let at = c.args.at in
    let first = older_kept code 0 at _ _ _ c.requires.walked.last (c.as_slice.ensures.value ∙ c.requires.walked.first.requests) c.taken_ahead-taken0.ensures in
    let second = older_kept code 1 at _ _ _ c.requires.walked.last (c.as_slice-2.ensures.value ∙ c.requires.walked.second.requests) c.taken_ahead-taken1.ensures in
    let none : has_older (last_act code at) (queue_of code 0 (at + 3)) ≡ false = sym first ∙ sym c.has_older_behind-older0.ensures ∙ c.if-older0.false in
    c.has_older_behind-older1.ensures ∙ second ∙ sym (ap (λ b. b || has_older (last_act code at) (queue_of code 1 (at + 3))) none)
