-- A thread outside the memory is undefined: an instruction there reads as zero.
use Rattle.std.proofs.Common.{◌≡◌, ◌≤◌, ◌<◌, ℕ, zero, suc, ◌+◌, List, length, ◌^◌, Option, None, Some, IfSome, replicate, true, false, slice_index, refl, ◌∙◌, ap, arith}
use Rattle.std.proofs.lemmas.Grind.{common_steps}
use Rattle.std.specs.Int.{from_le_bytes, w64}
use Rattle.qpu_isa.specs.Word.{sig_of}
use Rattle.machine_plan.specs.Memory.{bytes_at}
use Rattle.qpu_machine.specs.{State.Leaves, State.Thread, Wild.is_signal_wild, Wild.is_word_wild, Wild.is_wild}

zero_is_wild : (t : Thread) → is_wild t 0 ≡ true
unfolding is_wild is_word_wild is_signal_wild sig_of
zero_is_wild t = refl

zero_there : (m : List ℕ) (p : ℕ) → length m ≤ p → slice_index m p ≡ 0
zero_there m p over = grind (arith, common_steps, over)

zeros_there : (m : List ℕ) (p n : ℕ) → length m ≤ p → bytes_at m p n ≡ replicate n 0
unfolding bytes_at
zeros_there m p zero over = refl
zeros_there m p (suc n) over =
    let here : slice_index m p ≡ 0 = zero_there m p over in
    let rest : bytes_at m (suc p) n ≡ replicate n 0 = zeros_there m (suc p) n (omega (arith, over)) in
    cc

zero_word : (m : List ℕ) (p : ℕ) → length m ≤ p → from_le_bytes w64 (bytes_at m p 8) ≡ 0
zero_word m p over = ap (from_le_bytes w64) (zeros_there m p 8 over)

not_over : (t : Thread) (m : List ℕ) (word : ℕ) → is_wild t word ≡ false → word ≡ from_le_bytes w64 (bytes_at m t.place 8) → length m ≤ t.place → ⊥
not_over t m word tame word_is over =
    let wild : is_wild t word ≡ true = ap (is_wild t) (word_is ∙ zero_word m t.place over) ∙ zero_is_wild t in
    cc

-- so a thread that isn't undefined stands in the memory
pub stands_inside : (t : Thread) (m : List ℕ) (word : ℕ) → is_wild t word ≡ false → word ≡ from_le_bytes w64 (bytes_at m t.place 8) → t.place < length m
stands_inside t m word tame word_is = grind (arith, not_over t m word tame word_is)

pub ends_near : (t : Thread) (m : List ℕ) (word place : ℕ) (result : Option Leaves) → word ≡ from_le_bytes w64 (bytes_at m t.place 8) → length m < 2 ^ 32
    → IfSome result (λ leaves. (is_wild t word ≡ false) × (place ≤ t.place + 2 ^ 33)) → IfSome result (λ leaves. place ≤ 2 ^ 34)
ends_near t m word place None word_is size near = tt
ends_near t m word place (Some leaves) word_is size near = omega (arith, stands_inside t m word near.0 word_is, size, near.1)
