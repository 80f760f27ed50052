-- The steps of a processor and of its texture unit, by computing.
use Rattle.std.proofs.Common.{refl}
use Rattle.field_words.specs.Words.{u32_at}
use Rattle.machine_plan.specs.Memory.{bytes_at}
use Rattle.machine.specs.Step.{is_enabled, turn}
use Rattle.qpu_machine.specs.Qpu.{after_turn, settled_by, after_drop, result_given, takes_first, takes_other, in_first, in_other}
use Rattle.qpu_machine.specs.Request.{direct_plan}
use Rattle.apart_needs.specs.Worked.{QpuReadsUniform, TmuServes}
use Rattle.qpu_machine.proofs.Opened.{turns}

pub qpu_steps : QpuReadsUniform
unfolding u32_at bytes_at is_enabled turn turns
qpu_steps = record { may = refl; accesses = refl; last = refl }

pub tmu_steps : TmuServes
unfolding u32_at bytes_at direct_plan after_turn settled_by after_drop result_given takes_first takes_other in_first in_other is_enabled turn
tmu_steps = record { may = refl; accesses = refl; last = refl }
