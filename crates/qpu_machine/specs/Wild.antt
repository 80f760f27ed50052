-- Where the hardware leaves undefined what an instruction does. "Slots" and "one or two after" count
-- the instructions that the thread executes.
use Rattle.std.specs.Prelude.{ℕ, ◌==◌, ◌&&◌, ◌||◌, not, Bool, nat_le, length}
use Rattle.qpu_isa.specs.Terms.{is_branch, is_switch, is_load_imm, is_address_write, is_relative_address_write, names_forbidden, has_two_tmu_writes, has_conditional_tmu_write, writes_tmu, reads_upper, names_upper}
use Rattle.qpu_isa.specs.{Word.sig_of, Word.mode_of, Word.relative_of, Word.register_of, Setups.takes_with}
use Rattle.qpu_machine.specs.State.{Thread}

-- it takes a uniform, with the setup words that the thread keeps
unfoldable pub takes_one : Thread → ℕ → Bool
takes_one t word = takes_with word (length t.setups0.items) (length t.setups1.items)

-- breakpoint, coverage load, colour load and end, alpha mask load
unfoldable pub is_signal_wild : ℕ → Bool
is_signal_wild word = (sig_of word == 0 || sig_of word == 7) || (sig_of word == 9 || sig_of word == 12)

-- it stands in the three slots of a branch
unfoldable pub in_slots : Thread → Bool
in_slots t = is_branch t.last1.word || (is_branch t.last2.word || is_branch t.last3.word)

-- it stands one or two after a switch
unfoldable pub after_switch : Thread → Bool
after_switch t = is_switch t.last1.word || is_switch t.last2.word

-- a branch by a register, or to an absolute place; in the slots of another, or after a switch
unfoldable pub is_branch_wild : Thread → ℕ → Bool
is_branch_wild t word = is_branch word && ((register_of word || not (relative_of word)) || (in_slots t || after_switch t))

-- a switch in a branch's slots, after another, or in a program that isn't threaded
unfoldable pub is_switch_wild : Thread → ℕ → Bool
is_switch_wild t word = is_switch word && ((after_switch t || in_slots t) || not t.threaded)

-- a write to what is nobody's to write
unfoldable pub is_name_wild : ℕ → Bool
is_name_wild word = names_forbidden word || is_relative_address_write word

-- two TMU writes, or one under a condition
unfoldable pub is_tmu_wild : ℕ → Bool
is_tmu_wild word = has_two_tmu_writes word || has_conditional_tmu_write word

-- a TMU write past four setup words
unfoldable pub is_setup_wild : Thread → ℕ → Bool
is_setup_wild t word = (writes_tmu word 0 && nat_le 4 (length t.setups0.items)) || (writes_tmu word 1 && nat_le 4 (length t.setups1.items))

-- a register of the upper halves of the files in a threaded program
unfoldable pub is_register_wild : Thread → ℕ → Bool
is_register_wild t word = t.threaded && (reads_upper word || names_upper word)

-- a load immediate of a mode that there isn't
unfoldable pub is_mode_wild : ℕ → Bool
is_mode_wild word = is_load_imm word && not (mode_of word == 0 || (mode_of word == 1 || mode_of word == 3))

-- a uniform one or two after a write of the uniforms' address
unfoldable pub is_uniform_wild : Thread → ℕ → Bool
is_uniform_wild t word = takes_one t word && (is_address_write t.last1.word || is_address_write t.last2.word)

unfoldable pub is_word_wild : ℕ → Bool
is_word_wild word = (is_signal_wild word || is_mode_wild word) || (is_name_wild word || is_tmu_wild word)

unfoldable pub is_order_wild : Thread → ℕ → Bool
is_order_wild t word = is_branch_wild t word || is_switch_wild t word

unfoldable pub is_use_wild : Thread → ℕ → Bool
is_use_wild t word = is_setup_wild t word || (is_register_wild t word || is_uniform_wild t word)

unfoldable pub is_wild : Thread → ℕ → Bool
is_wild t word = is_word_wild word || (is_order_wild t word || is_use_wild t word)
