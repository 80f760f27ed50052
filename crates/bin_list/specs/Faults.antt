-- The rules of a binner list by number, and the order of faults.
use Rattle.std.specs.Prelude.{ℕ}
use Rattle.field_words.specs.Least.{NotAfter}
use Rattle.bin_list.specs.declared.rule.BinRule.TheVariants.{UnknownOpcode, CutOff, FlushNotLast, SecondStart, StartWithoutConfig, IncrementNotLast, PrimitiveWithoutState, PrimitiveWithoutStart, NoIndexBuffer, IndexesOutside, IndexOverflow, UndeclaredState, StateBits, SecondConfig, NoTiles, ConfigFlags, TooManyTiles, NoStart, NoEnd}
use Rattle.bin_list.specs.{declared.fault.ListFault.ListFault, declared.rule.BinRule.BinRule}

abbrev pub number_of : BinRule → ℕ
number_of UnknownOpcode = 1
number_of CutOff = 2
number_of FlushNotLast = 3
number_of SecondStart = 4
number_of StartWithoutConfig = 5
number_of IncrementNotLast = 6
number_of PrimitiveWithoutState = 7
number_of PrimitiveWithoutStart = 8
number_of NoIndexBuffer = 9
number_of IndexesOutside = 10
number_of IndexOverflow = 11
number_of UndeclaredState = 12
number_of StateBits = 13
number_of SecondConfig = 14
number_of NoTiles = 15
number_of ConfigFlags = 16
number_of TooManyTiles = 17
number_of NoStart = 18
number_of NoEnd = 19

abbrev pub fault : ℕ → BinRule → ListFault
fault at rule = record { number = number_of rule; at = at }

-- the order of faults: by place, and at a place by number
abbrev pub IsUpTo : ListFault → ListFault → Type 0
IsUpTo one other = NotAfter (one.at, one.number) (other.at, other.number)
