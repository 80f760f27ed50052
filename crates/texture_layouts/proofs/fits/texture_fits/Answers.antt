use Rattle.std.proofs.Common.{◌≤◌, sym, subst}
use Rattle.field_words.specs.Least.{IsLeast}
use Rattle.field_words.proofs.Least.{nothing_broken}
use Rattle.texture_layouts.specs.Fits.{texture_rules}
use Rattle.texture_layouts.proofs.{Least.texture_least, Fetches.fetches_in, Inside.in_buffer}
use Rattle.texture_layouts.proofs.fits.texture_fits.Goals as goal

pub returns-in-None-clause-least : goal.returns-in-None-clause-least
returns-in-None-clause-least c = λ number. nothing_broken _ number (sym c.in-None.ensures)

pub returns-in-Some-clause-least : goal.returns-in-Some-clause-least
returns-in-Some-clause-least c =
    subst (IsLeast (λ n m. n ≤ m) (texture_rules c.args.p c.args.size)) (sym c.number.ensures) (texture_least _ _ _ _ _ _ (sym c.in-Some.ensures))

pub returns-in-None-clause-inside : goal.returns-in-None-clause-inside
returns-in-None-clause-inside c = in_buffer _ _ _ _ _ (sym c.in-None.ensures)

pub returns-in-None-clause-fetches : goal.returns-in-None-clause-fetches
returns-in-None-clause-fetches c = fetches_in _ _ (in_buffer _ _ _ _ _ (sym c.in-None.ensures))
