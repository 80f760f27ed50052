use Rattle.std.proofs.{Common.sym, Common.ap, Common.arith, Common.◌∙◌, lemmas.Bool.ltb-true, lemmas.Bool.ltb-false}
use Rattle.shader_flow.specs.Site.{SiteModel}
use Rattle.shader_flow.proofs.Counts.{pending_past, pending_sent, pending_kept}
use Rattle.uniform_stream.proofs.walk.next_pending.Goals as goal

pub returns-then-not-is_checked-clause-value : goal.returns-then-not-is_checked-clause-value
returns-then-not-is_checked-clause-value c =
    let past = pending_past c.args.site.now.code c.args.tmu c.args.site.now.at (ltb-false _ _ (sym c.is_checked.ensures ∙ c.if-not-is_checked.true)) in
    grind (arith, past, c.requires.kept)

pub returns-then-writes_s-clause-value : goal.returns-then-writes_s-clause-value
returns-then-writes_s-clause-value c =
    let sent = pending_sent c.args.site.now.code c.args.tmu c.args.site.now.at (ltb-true _ _ (sym c.is_checked.ensures ∙ c.if-not-is_checked.false)) in
    grind (arith, sent, c.writes_s.ensures, c.if-writes_s.true, c.word.ensures)

pub overflow_add-result : goal.overflow_add-result
overflow_add-result c =
    let e = ap (λ (s : SiteModel). s.at) c.site.view_is in
    omega (arith, e, c.requires.bound, c.tmu_writes.ensures.small, c.site.invariant.inside, c.site.invariant.ends.few)

pub returns-clause-value : goal.returns-clause-value
returns-clause-value c =
    let kept = pending_kept c.args.site.now.code c.args.tmu c.args.site.now.at (ltb-true _ _ (sym c.is_checked.ensures ∙ c.if-not-is_checked.false)) in
    grind (arith, kept, c.requires.kept, c.writes_s.ensures, c.if-writes_s.false, c.tmu_writes.ensures.value, c.word.ensures, c.word-2.ensures)
