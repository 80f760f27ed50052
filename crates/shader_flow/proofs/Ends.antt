-- Laws on the program end.
use Rattle.std.proofs.Common.{◌≡◌, ◌≤◌, ◌<◌, ℕ, suc, ◌+◌, true, false, List, [], ◌∷◌, length, drop, get_or, if◌then◌else◌, ap, arith, ◌∙◌}
use Rattle.std.proofs.{Math.Seq.drop-cons, Math.ListN.drop_of_length-le}
use Rattle.qpu_isa.specs.Terms.{is_end}
use Rattle.shader_flow.specs.Flow.{end_of, checked_of}

pub end_of-drop : (code : List ℕ) (n : ℕ) → n < length code → end_of (drop n code) ≡ (if is_end (get_or code n 0) then 0 else suc (end_of (drop (n + 1) code)))
unfolding end_of
end_of-drop code n below =
    let e : suc n ≡ n + 1 = omega arith in
    ap end_of (drop-cons code n 0 below) ∙ ap (λ m. if is_end (get_or code n 0) then 0 else suc (end_of (drop m code))) e

-- from an index on, the program end is that index, or later
pub end_of-end : (code : List ℕ) (n : ℕ) → n < length code → is_end (get_or code n 0) ≡ true → end_of (drop n code) ≡ 0
end_of-end code n below here =
    end_of-drop code n below ∙ ap (λ b. if b then 0 else suc (end_of (drop (n + 1) code))) here

pub end_of-on : (code : List ℕ) (n : ℕ) → n < length code → is_end (get_or code n 0) ≡ false → end_of (drop n code) ≡ suc (end_of (drop (n + 1) code))
end_of-on code n below later =
    end_of-drop code n below ∙ ap (λ b. if b then 0 else suc (end_of (drop (n + 1) code))) later

pub end_of-past : (code : List ℕ) (n : ℕ) → length code ≤ n → end_of (drop n code) ≡ 0
unfolding end_of
end_of-past code n past = ap end_of (drop_of_length-le code past)

pub end_of-le : (code : List ℕ) → end_of code ≤ length code
unfolding end_of
end_of-le [] = omega arith
end_of-le (first ∷ later) = grind (arith, end_of-le later)

-- every instruction that is checked is one of the code's
pub checked_of-le : (code : List ℕ) → checked_of code ≤ length code
unfolding checked_of
checked_of-le code = omega arith
