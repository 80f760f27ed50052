-- What a body opens that computes what is said of a shader: which rule it breaks, and what is reported of it.
use Rattle.std.specs.Prelude.{⊤}
use Rattle.qpu_isa.specs.Setups.{setups_kept}
use Rattle.qpu_isa.specs.Terms.{first_tmu}
use Rattle.shader_flow.specs.Bounded.{some_below, some_in, is_back, indexes, last_below}
use Rattle.shader_flow.specs.Flow.{end_of, checked_of, in_slots, after_switch, leads_outside, is_sound_branch, makes_target, is_target, is_threaded}
use Rattle.shader_flow.specs.Pending.{pending_of, takes, count_of}
use Rattle.shader_flow.specs.Rules.{s3, s4, s5, s6, s7, s8, s9, s10, s11, s12, s13, s27}
use Rattle.uniform_stream.specs.Rules.{s14, s15, s17, after_address_write, s18, s19, s20, s21, is_full, s22, s23, s25}
use Rattle.uniform_stream.specs.Stream.{writes_address, is_restart, is_known, uniforms_of, is_open, leaves_open, address_words_of}
use Rattle.clamp_facts.specs.Facts.{sets, switches_between, stays, maker_of, is_delayed, carries, carrier_of, is_not_negative, makes_clamp, fact_of_write, fact_at, is_immediate, is_clamped, clamps}
use Rattle.shader_check.specs.Rules.{has_quiet_signal, adds_address, is_exact_address_write, s16, direct_by_add, direct_by_mul, is_clamped_write, s24, s1, s2, uses_upper, s26, index_questions, whole_questions, fault_at, questions_at, shader_questions}
use Rattle.shader_check.specs.Info.{is_sample, asks, setups_held, sample_tmu, is_direct_sample, clamp_parts, sample_parts, sample_of, samples_of}
use Rattle.qpu_isa.proofs.Opened.{fields, terms}

unfoldable pub shaders : ⊤
unfolding fields terms setups_kept first_tmu some_below some_in is_back indexes end_of checked_of in_slots after_switch leads_outside is_sound_branch makes_target is_target is_threaded pending_of takes count_of s3 s4 s5 s6 s7 s8 s9 s10 s11 s12 s13 s27 s14 s15 s17 after_address_write s18 s19 s20 s21 is_full s22 s23 s25 writes_address is_restart is_known sets switches_between stays maker_of is_delayed carries carrier_of is_not_negative makes_clamp fact_of_write fact_at is_immediate is_clamped clamps has_quiet_signal adds_address is_exact_address_write s16 direct_by_add direct_by_mul is_clamped_write s24 s1 s2 uses_upper s26 index_questions whole_questions fault_at questions_at shader_questions last_below is_sample asks uniforms_of is_open leaves_open address_words_of setups_held sample_tmu is_direct_sample clamp_parts sample_parts sample_of samples_of
shaders = tt
