-- Faults in the order of refusal: by index, and at an index by number.
use Rattle.std.specs.Prelude.{ℕ}
use Rattle.field_words.specs.Least.{NotAfter}
use Rattle.strict_rules.specs.{declared.rule.StrictRule.StrictRule, declared.rule.StrictFault.StrictFault}
use Rattle.strict_rules.specs.declared.rule.StrictRule.TheVariants.{SetupAtSwitch, SetupAtEnd, Requests, Stretch, LastThree, Coupled, Mutex}

abbrev pub number_of : StrictRule → ℕ
number_of SetupAtSwitch = 1
number_of SetupAtEnd = 2
number_of Requests = 3
number_of Stretch = 4
number_of LastThree = 5
number_of Coupled = 6
number_of Mutex = 7

abbrev pub IsUpTo : StrictFault → StrictFault → Type 0
IsUpTo one other = NotAfter (one.at, number_of one.rule) (other.at, number_of other.rule)
