use Rattle.std.proofs.Common.{ap, ◌∙◌}
use Rattle.shader_flow.specs.Site.{SiteModel}
use Rattle.clamp_facts.specs.Facts.{fact_at}
use Rattle.clamp_facts.proofs.Entries.{seen_is}
use Rattle.clamp_facts.proofs.known.Known.look.Goals as goal

pub returns-clause-value : goal.returns-clause-value
returns-clause-value g c =
    c.get.ensures.fact
    ∙ (seen_is c.self.inside.code.now c.self.inside.at c.args.reg c.self.inside.table.now c.requires.register c.self.invariant.kept
    ∙ ap (λ (s : SiteModel). fact_at s.code s.at c.args.reg) c.self.view_is)
