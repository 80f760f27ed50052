use Rattle.std.proofs.lemmas.Result.{on_ok_weaker}
use Rattle.pictures.specs.Heat.{heat_legend}
use Rattle.pictures.proofs.Drawing.{more}
use Rattle.pictures.proofs.heat.push_legend.Goals as goal

pub returns : goal.returns
unfolding heat_legend
returns c = on_ok_weaker c.push_tones.result (more _ _ _ _ _ c.in_ok-push_label.ensures) c.push_tones.ensures
