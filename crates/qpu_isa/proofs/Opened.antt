-- What a body of this crate opens: the fields of a word, and the tests and numbers that are reported of it.
use Rattle.std.specs.Prelude.{⊤}
use Rattle.qpu_isa.specs.Word.{sig_of, unpack_of, pm_of, pack_of, cond_add_of, cond_mul_of, sf_of, ws_of, waddr_add_of, waddr_mul_of, op_mul_of, op_add_of, raddr_a_of, raddr_b_of, add_a_of, add_b_of, mul_a_of, mul_b_of, mode_of, imm_of, spare_of, cond_of, relative_of, register_of, raddr_of}
use Rattle.qpu_isa.specs.Terms.{is_alu, is_load_imm, is_branch, is_switch, is_end, has_small, add_names, mul_names, names_address, names_on_a, names_on_b, is_address_write, is_relative_address_write, add_names_reg, mul_names_reg, names, is_accumulator, names_forbidden, reads_uniform_of, is_tmu_address, s_address, add_writes_tmu, mul_writes_tmu, writes_tmu, tmu_writes, writes_s, add_is_tmu, mul_is_tmu, has_two_tmu_writes, has_conditional_tmu_write, is_add_packed, is_mul_packed, is_plain, is_uniform_operand, operand_register, first_register, is_upper, reads_upper, names_upper, sets_alone, loaded_value, is_max_with_zero, is_min_with_uniform, is_add_with_uniform, target_of, is_backward}
use Rattle.qpu_isa.specs.Setups.{adds_direct, muls_direct, is_direct, adds_setup, muls_setup, has_setup, takes_with}
use Rattle.qpu_isa.specs.Report.{takes_uniform, tmu_at, tmu_written, is_named, names_written}

unfoldable pub fields : ⊤
unfolding sig_of unpack_of pm_of pack_of cond_add_of cond_mul_of sf_of ws_of waddr_add_of waddr_mul_of op_mul_of op_add_of raddr_a_of raddr_b_of add_a_of add_b_of mul_a_of mul_b_of mode_of imm_of spare_of cond_of relative_of register_of raddr_of
fields = tt

unfoldable pub terms : ⊤
unfolding is_alu is_load_imm is_branch is_switch is_end has_small add_names mul_names names_address names_on_a names_on_b is_address_write is_relative_address_write add_names_reg mul_names_reg names is_accumulator names_forbidden reads_uniform_of is_tmu_address s_address add_writes_tmu mul_writes_tmu writes_tmu tmu_writes writes_s add_is_tmu mul_is_tmu has_two_tmu_writes has_conditional_tmu_write is_add_packed is_mul_packed is_plain is_uniform_operand operand_register first_register is_upper reads_upper names_upper sets_alone loaded_value is_max_with_zero is_min_with_uniform is_add_with_uniform target_of is_backward adds_direct muls_direct is_direct adds_setup muls_setup has_setup takes_with takes_uniform tmu_at tmu_written is_named names_written
terms = tt
