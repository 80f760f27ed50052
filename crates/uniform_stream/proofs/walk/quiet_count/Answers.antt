use Rattle.std.proofs.Common.{sym, ap, arith, ◌∙◌}
use Rattle.shader_flow.specs.Site.{SiteModel}
use Rattle.shader_flow.proofs.Counts.{count_taken, count_same}
use Rattle.uniform_stream.proofs.QuietWrites.{quiet_takes}
use Rattle.uniform_stream.proofs.walk.quiet_count.Goals as goal

pub returns-then-reads_here-clause-value : goal.returns-then-reads_here-clause-value
returns-then-reads_here-clause-value c =
    let taken = count_taken c.args.site.now.code c.args.site.now.at (quiet_takes c.args.site.now.code c.args.site.now.at c.requires.quiet ∙ (sym c.reads_here.ensures ∙ c.if-reads_here.true)) in
    grind (arith, taken, c.requires.before.count_is)

pub overflow_add-result : goal.overflow_add-result
overflow_add-result c = let e = ap (λ (s : SiteModel). s.at) c.site.view_is in omega (arith, e, c.requires.before.count_bound, c.site.invariant.inside, c.site.invariant.ends.few)

pub returns-clause-value : goal.returns-clause-value
returns-clause-value c =
    let same = count_same c.args.site.now.code c.args.site.now.at (quiet_takes c.args.site.now.code c.args.site.now.at c.requires.quiet ∙ (sym c.reads_here.ensures ∙ c.if-reads_here.false)) in
    grind (arith, same, c.requires.before.count_is)
