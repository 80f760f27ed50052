-- The rules of the format by number, and how a rule is printed: its letter, and its number in decimal.
use Rattle.std.specs.{Prelude.ℕ, Prelude.List, Prelude.◌++◌, Prelude.codes, Fmt.decimal}
use Rattle.job_format.specs.declared.rule.FormatRule.TheVariants.{NotAJobFile, EndsEarly, BytesFollow, OverLimit, WithoutMeaning, LacksSlots}
use Rattle.job_format.specs.declared.rule.Stage.TheVariants.{F, M, S, H, B, A, U, G, X, E}
use Rattle.job_format.specs.{declared.rule.FormatRule.FormatRule, declared.rule.Stage.Stage, declared.rule.Rule.Rule}

abbrev pub format_rule_number : FormatRule → ℕ
format_rule_number NotAJobFile = 1
format_rule_number EndsEarly = 2
format_rule_number BytesFollow = 3
format_rule_number OverLimit = 4
format_rule_number WithoutMeaning = 5
format_rule_number LacksSlots = 7

abbrev pub letter : Stage → List ℕ
letter F = codes "F"
letter M = codes "M"
letter S = codes "S"
letter H = codes "H"
letter B = codes "B"
letter A = codes "A"
letter U = codes "U"
letter G = codes "G"
letter X = codes "X"
letter E = codes "E"

abbrev pub rule_text : Rule → List ℕ
rule_text rule = letter rule.stage ++ decimal rule.number
