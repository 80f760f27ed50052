-- An instruction that writes registers alone: no rule on facts is broken, no sample is asked for, and the TMUs keep what they keep.
use Rattle.std.proofs.Common.{◌≡◌, ◌<◌, ◌+◌, ℕ, Bool, true, false, not, ◌&&◌, ◌||◌, List, None, map, refl, sym, ap, ◌∙◌}
use Rattle.std.proofs.lemmas.Bool.{and_left}
use Rattle.field_words.specs.Questions.{first_of}
use Rattle.qpu_isa.specs.{Terms.is_address_write, Terms.writes_s, Setups.adds_direct, Setups.muls_direct}
use Rattle.shader_flow.specs.{Bounded.indexes, Flow.word, Flow.checked_of, Pending.pending_of}
use Rattle.uniform_stream.specs.Quiet.{writes_registers}
use Rattle.uniform_stream.proofs.QuietWrites.{no_address_write, no_send, no_write, no_add_direct, no_mul_direct}
use Rattle.shader_check.specs.Rules.{is_exact_address_write, s16, direct_by_add, direct_by_mul, is_clamped_write, s24, fact_questions}
use Rattle.shader_check.specs.Info.{setups_held, asks, is_sample, sample_of}
use Rattle.shader_check.proofs.Positions.{held_same, samples_same}

neither : (a b : Bool) → a ≡ false → b ≡ false → (a || b) ≡ false
neither a b absent missing = ap (λ x. x || b) absent ∙ missing

no_direct_add : (code : List ℕ) (i : ℕ) → writes_registers (word code i) ≡ true → direct_by_add code i ≡ false
unfolding direct_by_add
no_direct_add code i quiet =
    neither (adds_direct (word code i) 0 (pending_of code 0 i)) (adds_direct (word code i) 1 (pending_of code 1 i))
    (no_add_direct (word code i) 0 (pending_of code 0 i) quiet) (no_add_direct (word code i) 1 (pending_of code 1 i) quiet)

no_direct_mul : (code : List ℕ) (i : ℕ) → writes_registers (word code i) ≡ true → direct_by_mul code i ≡ false
unfolding direct_by_mul
no_direct_mul code i quiet =
    neither (muls_direct (word code i) 0 (pending_of code 0 i)) (muls_direct (word code i) 1 (pending_of code 1 i))
    (no_mul_direct (word code i) 0 (pending_of code 0 i) quiet) (no_mul_direct (word code i) 1 (pending_of code 1 i) quiet)

no_s16 : (code : List ℕ) (i : ℕ) → writes_registers (word code i) ≡ true → s16 code i ≡ false
unfolding s16
no_s16 code i quiet = and_left (is_address_write (word code i)) (not (is_exact_address_write code i)) (no_address_write (word code i) quiet)

no_s24 : (code : List ℕ) (i : ℕ) → writes_registers (word code i) ≡ true → s24 code i ≡ false
unfolding s24
no_s24 code i quiet =
    neither (direct_by_add code i && not (is_clamped_write code i)) (direct_by_mul code i)
    (and_left (direct_by_add code i) (not (is_clamped_write code i)) (no_direct_add code i quiet)) (no_direct_mul code i quiet)

pub no_fact_fault : (code : List ℕ) (i : ℕ) → writes_registers (word code i) ≡ true → None ≡ first_of (fact_questions code i)
unfolding fact_questions
no_fact_fault code i quiet = let first = no_s16 code i quiet in let second = no_s24 code i quiet in rw (first, second) refl

pub quiet_held : (code : List ℕ) (f : ℕ → ℕ) (tmu i : ℕ) → i < checked_of code → writes_registers (word code i) ≡ true
    → map f (setups_held code tmu i) ≡ map f (setups_held code tmu (i + 1))
quiet_held code f tmu i inside quiet = sym (held_same code f tmu i inside (no_send (word code i) tmu quiet) (no_write (word code i) tmu quiet))

pub quiet_samples : (code : List ℕ) (i : ℕ) → writes_registers (word code i) ≡ true
    → map (sample_of code) (indexes i (is_sample code)) ≡ map (sample_of code) (indexes (i + 1) (is_sample code))
unfolding asks
quiet_samples code i quiet =
    sym (samples_same code i (neither (writes_s (word code i) 0) (writes_s (word code i) 1) (no_send (word code i) 0 quiet) (no_send (word code i) 1 quiet)))
