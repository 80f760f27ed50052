-- What a body opens that computes a turn of a processor.
use Rattle.std.specs.Prelude.{⊤}
use Rattle.qpu_isa.specs.Terms.{first_tmu, loads}
use Rattle.qpu_isa.specs.Setups.{setups_kept}
use Rattle.qpu_alu.specs.Operation.{signed_min, signed_max, shifted_left, shifted_right, shifted_signed, rotated_word, by_bytes, product_of, add_result_of, mul_result_of}
use Rattle.qpu_machine.specs.Row.{chosen_row, chosen_rows, has_lane, rows_merged, mask_of}
use Rattle.qpu_machine.specs.Operands.{read_a, small_row, read_b, operand, immediate_row, sums, add_row, is_rotated, products, mul_row}
use Rattle.qpu_machine.specs.Writes.{awake, past_uniform, add_address, mul_address, file_after, acc_after, pointer_after, written_at, after_add, after_multiply, after_writes, after_setup, loaded_row, r4_after, results_after, after_load, led_to, went_on, after_work, fate_of, after_rest, four, ask_of, ask_made}
use Rattle.qpu_machine.specs.Wild.{takes_one, is_signal_wild, in_slots, after_switch, is_branch_wild, is_switch_wild, is_name_wild, is_tmu_wild, is_setup_wild, is_register_wild, is_mode_wild, is_uniform_wild, is_word_wild, is_order_wild, is_use_wild, is_wild}
use Rattle.qpu_machine.specs.Step.{executed_with, turn_executed, word_plan, thread_plan, is_held_by, is_held, thread_ready}
use Rattle.qpu_machine.specs.Qpu.{after_turn, settled_by, after_drop, result_given, takes_first, takes_other, in_first, in_other}
use Rattle.qpu_machine.specs.Start.{thread_of}
use Rattle.qpu_machine.specs.Request.{direct_plan, chosen_level, chosen_face, chosen_x, chosen_y, chosen_place, chosen_length, texture_reads, is_undefined, texture_plan}
use Rattle.qpu_isa.proofs.Opened.{fields, terms}

unfoldable pub turns : ⊤
unfolding fields terms first_tmu setups_kept signed_min signed_max shifted_left shifted_right shifted_signed rotated_word by_bytes product_of add_result_of mul_result_of chosen_row chosen_rows has_lane rows_merged mask_of read_a small_row read_b operand immediate_row sums add_row is_rotated products mul_row awake past_uniform add_address mul_address file_after acc_after pointer_after written_at after_add after_multiply after_writes after_setup loads loaded_row r4_after results_after after_load led_to went_on after_work fate_of after_rest four ask_of ask_made takes_one is_signal_wild in_slots after_switch is_branch_wild is_switch_wild is_name_wild is_tmu_wild is_setup_wild is_register_wild is_mode_wild is_uniform_wild is_word_wild is_order_wild is_use_wild is_wild executed_with turn_executed word_plan thread_plan is_held_by is_held thread_ready after_turn settled_by after_drop result_given takes_first takes_other in_first in_other thread_of direct_plan chosen_level chosen_face chosen_x chosen_y chosen_place chosen_length texture_reads is_undefined texture_plan
turns = tt
