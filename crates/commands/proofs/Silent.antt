-- Where a run ends with such a status, a person reads nothing of the input.
use Rattle.std.proofs.Common.{◌≡◌, ℕ, true, false, refl, sym, ap, ◌∙◌}
use Rattle.std.proofs.lemmas.{Bool.true≢false}
use Rattle.commands.specs.{declared.command.Command.Command, Cause.is_reported}

pub silent : (command : Command) (n status : ℕ) → is_reported command n ≡ false → status ≡ n → is_reported command status ≡ true → ⊥
silent command n status off is on = true≢false (sym on ∙ (ap (λ s. is_reported command s) is ∙ off))

-- the source's fault, want of memory, and too much input
pub off_3 : (command : Command) → is_reported command 3 ≡ false
unfolding is_reported
off_3 command = refl

pub off_5 : (command : Command) → is_reported command 5 ≡ false
unfolding is_reported
off_5 command = refl

pub off_6 : (command : Command) → is_reported command 6 ≡ false
unfolding is_reported
off_6 command = refl
