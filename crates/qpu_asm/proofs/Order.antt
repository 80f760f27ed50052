-- The rows of a kind stand for the fields of its struct.
use Rattle.std.proofs.Common.{refl, sym}
use Rattle.qpu_isa.specs.Fields.{fields_joined}
use Rattle.qpu_isa.proofs.Words.{alu_values-alu_of, load_imm_values-load_imm_of, branch_values-branch_of}
use Rattle.qpu_asm.specs.{Table.nop_word, Printed.FieldsInOrder}

pub in_order : FieldsInOrder
unfolding nop_word fields_joined
in_order word = record {
  alu = sym (alu_values-alu_of word);
  load_imm = sym (load_imm_values-load_imm_of word);
  branch = sym (branch_values-branch_of word);
  blank = refl;
}
