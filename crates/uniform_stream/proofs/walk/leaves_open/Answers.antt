use Rattle.std.proofs.Common.{◌+◌, nat_le, sym, ap, ◌∙◌}
use Rattle.qpu_isa.specs.Terms.{is_backward}
use Rattle.shader_flow.specs.Site.{SiteModel}
use Rattle.uniform_stream.proofs.Ends.{open_is, closed_is}
use Rattle.uniform_stream.proofs.walk.leaves_open.Goals as goal

pub returns-then-is_backward : goal.returns-then-is_backward
returns-then-is_backward c =
    ap (λ (s : SiteModel). nat_le c.args.last (s.at + 4)) c.site.view_is
    ∙ open_is c.args.site.now.code c.args.site.now.at c.args.last c.requires (sym (c.is_backward.ensures ∙ ap is_backward c.word.ensures) ∙ c.if-is_backward.true)

pub returns-else-is_backward : goal.returns-else-is_backward
returns-else-is_backward c =
    closed_is c.args.site.now.code c.args.site.now.at c.is_backward.result (c.is_backward.ensures ∙ ap is_backward c.word.ensures) c.if-is_backward.false
