-- The number of the digits so far, and what is left, is that of all.
use Rattle.std.proofs.Common.{◌≡◌, Some, drop}
use Rattle.job_make.specs.Made.{digits_after}
use Rattle.job_make.proofs.words.hex_number.Given as goal

abbrev pub invariant-loop-digit : goal.invariant-loop-digit
invariant-loop-digit l = digits_after l.number (drop l.digit-index l.digits) ≡ digits_after (Some 0) l.digits
