-- The numbers of the rules on shaders.
use Rattle.std.specs.Prelude.{ℕ}
use Rattle.shader_flow.specs.declared.rule.ShaderRule.TheVariants.{NoWords, NoEnd, Signal, BranchInSlots, BranchByRegister, BranchAbsolute, BranchUnaligned, BranchOutside, SlotsPastEnd, BranchWrites, SwitchAfterSwitch, BranchAfterSwitch, SwitchMisplaced, ForbiddenRegister, RelativeAddress, InexactAddress, AddressInSlots, UniformTooEarly, PositionUnknown, TwoUnitsWrite, ConditionalWrite, FullUnit, UniformTakenTwice, UnclampedRead, TargetAmidSetup, UpperRegisters, LoadMode}
use Rattle.shader_flow.specs.declared.rule.ShaderRule.{ShaderRule}

abbrev pub number_of : ShaderRule → ℕ
number_of NoWords = 1
number_of NoEnd = 2
number_of Signal = 3
number_of BranchInSlots = 4
number_of BranchByRegister = 5
number_of BranchAbsolute = 6
number_of BranchUnaligned = 7
number_of BranchOutside = 8
number_of SlotsPastEnd = 9
number_of BranchWrites = 10
number_of SwitchAfterSwitch = 11
number_of BranchAfterSwitch = 12
number_of SwitchMisplaced = 13
number_of ForbiddenRegister = 14
number_of RelativeAddress = 15
number_of InexactAddress = 16
number_of AddressInSlots = 17
number_of UniformTooEarly = 18
number_of PositionUnknown = 19
number_of TwoUnitsWrite = 20
number_of ConditionalWrite = 21
number_of FullUnit = 22
number_of UniformTakenTwice = 23
number_of UnclampedRead = 24
number_of TargetAmidSetup = 25
number_of UpperRegisters = 26
number_of LoadMode = 27
