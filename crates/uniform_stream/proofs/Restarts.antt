-- Whether the position is known, by what stands here and whether it was known before.
use Rattle.std.proofs.Common.{◌≡◌, ◌<◌, ◌+◌, ◌-◌, ℕ, zero, suc, Bool, true, false, not, ◌&&◌, ◌||◌, nat_le, List, sym, ap, subst, refl, arith, ◌∙◌}
use Rattle.std.proofs.lemmas.Bool.{and_left, and_right, and_from, not_from_true, not_from_false, true≢false}
use Rattle.shader_flow.specs.{Bounded.some_below, Bounded.some_in, Flow.is_target}
use Rattle.shader_flow.proofs.Bounded.{some_below-suc, some_below_here, some_below_none, some_below_same, some_in_here, some_in_none}
use Rattle.uniform_stream.specs.Stream.{is_restart, is_known}

-- the restart at r, with no target from there to i
abbrev pub is_since : List ℕ → ℕ → ℕ → Bool
is_since code i r = is_restart code r && not (some_in r (i + 1) (is_target code))

-- a target here
pub known_not : (code : List ℕ) (i : ℕ) → is_target code i ≡ true → is_known code i ≡ false
unfolding is_known
known_not code i target =
    some_below_none (i + 1) (is_since code i)
    (λ k inside. and_right (is_restart code k) (not (some_in k (i + 1) (is_target code)))
    (not_from_true (some_in k (i + 1) (is_target code)) (some_in_here k (i + 1) i (is_target code) (omega (arith, inside)) (omega arith) target)))

-- a restart here, and no target
pub known_here : (code : List ℕ) (i : ℕ) → is_target code i ≡ false → is_restart code i ≡ true → is_known code i ≡ true
unfolding is_known
known_here code i none restart =
    some_below_here (i + 1) i (is_since code i) (omega arith)
    (and_from (is_restart code i) (not (some_in i (i + 1) (is_target code))) restart
    (not_from_false (some_in i (i + 1) (is_target code))
    (some_in_none i (i + 1) (is_target code) (λ k from to. let e : i ≡ k = omega (arith, from, to) in subst (λ m. is_target code m ≡ false) e none))))

or_none : (b : Bool) → (b || false) ≡ b
or_none true = refl
or_none false = refl

-- neither: as before
pub some_in_more : (from to : ℕ) (p : ℕ → Bool) → p to ≡ false → some_in from (to + 1) p ≡ some_in from to p
unfolding some_in
some_in_more from to p none =
    some_below-suc to (λ k. nat_le from k && p k)
    ∙ (ap (λ b. some_below to (λ k. nat_le from k && p k) || b) (and_right (nat_le from to) (p to) none)
    ∙ or_none (some_below to (λ k. nat_le from k && p k)))

pub known_on : (code : List ℕ) (i : ℕ) → is_target code (i + 1) ≡ false → is_restart code (i + 1) ≡ false → is_known code (i + 1) ≡ is_known code i
unfolding is_known
known_on code i none no-restart =
    some_below-suc (i + 1) (is_since code (i + 1))
    ∙ (ap (λ b. some_below (i + 1) (is_since code (i + 1)) || b) (and_left (is_restart code (i + 1)) (not (some_in (i + 1) (i + 1 + 1) (is_target code))) no-restart)
    ∙ (or_none (some_below (i + 1) (is_since code (i + 1)))
    ∙ some_below_same (i + 1) (is_since code (i + 1)) (is_since code i)
    (λ k inside. ap (λ b. is_restart code k && not b) (some_in_more k (i + 1) (is_target code) none))))

pub first_restarts : (code : List ℕ) → is_restart code 0 ≡ true
unfolding is_restart
first_restarts code = refl

pub known_from : (code : List ℕ) (i : ℕ) (before : Bool) → (0 < i → before ≡ is_known code (i - 1))
    → is_target code i ≡ false → is_restart code i ≡ false → before ≡ is_known code i
known_from code zero before known none no-restart = absurd (true≢false (sym (first_restarts code) ∙ no-restart))
known_from code (suc i) before known none no-restart =
    let e : suc i ≡ i + 1 = omega arith in
    let d : suc i - 1 ≡ i = omega arith in
    known (omega arith) ∙ ap (is_known code) d
    ∙ sym (known_on code i (subst (λ m. is_target code m ≡ false) e none) (subst (λ m. is_restart code m ≡ false) e no-restart)) ∙ ap (is_known code) (sym e)

pub known_next : (code : List ℕ) (i : ℕ) (before target restart : Bool) → (0 < i → before ≡ is_known code (i - 1))
    → target ≡ is_target code i → restart ≡ is_restart code i → (not target && (restart || before)) ≡ is_known code i
known_next code i before true restart known target-is restart-is = sym (known_not code i (sym target-is))
known_next code i before false true known target-is restart-is = sym (known_here code i (sym target-is) (sym restart-is))
known_next code i before false false known target-is restart-is = known_from code i before known (sym target-is) (sym restart-is)
