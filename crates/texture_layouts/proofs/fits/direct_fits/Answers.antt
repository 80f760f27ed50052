use Rattle.std.proofs.Common.{◌≤◌, sym, subst}
use Rattle.field_words.specs.Least.{IsLeast}
use Rattle.field_words.proofs.Least.{nothing_broken}
use Rattle.texture_layouts.specs.Fits.{direct_questions}
use Rattle.texture_layouts.proofs.Least.{direct_least}
use Rattle.texture_layouts.proofs.fits.direct_fits.Goals as goal

pub returns-in-None-clause-least : goal.returns-in-None-clause-least
returns-in-None-clause-least c = λ number. nothing_broken _ number (sym c.in-None.ensures)

pub returns-in-Some-clause-least : goal.returns-in-Some-clause-least
returns-in-Some-clause-least c =
    subst (IsLeast (λ n m. n ≤ m) (direct_questions c.args.base c.args.bound c.args.size)) (sym c.number.ensures)
    (direct_least c.args.base c.args.bound c.args.size _ (sym c.in-Some.ensures))
