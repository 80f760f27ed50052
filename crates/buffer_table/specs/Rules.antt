-- The rules of a memory table by number.
use Rattle.std.specs.Prelude.{ℕ}
use Rattle.buffer_table.specs.declared.buffer.TableRule.TheVariants.{MemorySize, OffPage, OutsideMemory, SharedByte, TooMuchContent}
use Rattle.buffer_table.specs.declared.buffer.TableRule.{TableRule}

abbrev pub rule_number : TableRule → ℕ
rule_number MemorySize = 1
rule_number OffPage = 2
rule_number OutsideMemory = 3
rule_number SharedByte = 4
rule_number TooMuchContent = 5
