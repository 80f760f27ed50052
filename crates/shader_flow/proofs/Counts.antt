-- One more instruction: setup words and uniforms after it.
use Rattle.std.proofs.Common.{◌≡◌, ◌≤◌, ◌<◌, ◌+◌, ℕ, zero, suc, true, false, List, if◌then◌else◌, refl, ap, arith, ◌∙◌, nat_lt}
use Rattle.std.proofs.lemmas.Bool.{lt-ltb, le-ltb}
use Rattle.qpu_isa.specs.Terms.{writes_s, tmu_writes}
use Rattle.shader_flow.specs.{Flow.word, Flow.checked_of, Pending.pending_of, Pending.count_of, Pending.takes}

pub pending_zero : (code : List ℕ) (tmu : ℕ) → pending_of code tmu 0 ≡ 0
unfolding pending_of
pending_zero code tmu = refl

pub pending_next : (code : List ℕ) (tmu i : ℕ)
    → pending_of code tmu (i + 1)
    ≡ (if nat_lt i (checked_of code)
    then (if writes_s (word code i) tmu then 0 else pending_of code tmu i + tmu_writes (word code i) tmu)
    else pending_of code tmu i)
unfolding pending_of
pending_next code tmu i = let e : i + 1 ≡ suc i = omega arith in ap (pending_of code tmu) e

pub pending_past : (code : List ℕ) (tmu i : ℕ) → checked_of code ≤ i → pending_of code tmu (i + 1) ≡ pending_of code tmu i
pending_past code tmu i past =
    pending_next code tmu i
    ∙ ap (λ b. if b then (if writes_s (word code i) tmu then 0 else pending_of code tmu i + tmu_writes (word code i) tmu) else pending_of code tmu i)
    (le-ltb i (checked_of code) past)

pub pending_inside : (code : List ℕ) (tmu i : ℕ) → i < checked_of code
    → pending_of code tmu (i + 1) ≡ (if writes_s (word code i) tmu then 0 else pending_of code tmu i + tmu_writes (word code i) tmu)
pending_inside code tmu i inside =
    pending_next code tmu i
    ∙ ap (λ b. if b then (if writes_s (word code i) tmu then 0 else pending_of code tmu i + tmu_writes (word code i) tmu) else pending_of code tmu i)
    (lt-ltb i (checked_of code) inside)

pub pending_sent : (code : List ℕ) (tmu i : ℕ) → i < checked_of code → writes_s (word code i) tmu ≡ true → pending_of code tmu (i + 1) ≡ 0
pending_sent code tmu i inside sent =
    pending_inside code tmu i inside ∙ ap (λ b. if b then 0 else pending_of code tmu i + tmu_writes (word code i) tmu) sent

pub pending_kept : (code : List ℕ) (tmu i : ℕ) → i < checked_of code → writes_s (word code i) tmu ≡ false
    → pending_of code tmu (i + 1) ≡ pending_of code tmu i + tmu_writes (word code i) tmu
pending_kept code tmu i inside kept =
    pending_inside code tmu i inside ∙ ap (λ b. if b then 0 else pending_of code tmu i + tmu_writes (word code i) tmu) kept

pub count_zero : (code : List ℕ) → count_of code 0 ≡ 0
unfolding count_of
count_zero code = refl

pub count_next : (code : List ℕ) (i : ℕ) → count_of code (i + 1) ≡ count_of code i + (if takes code i then 1 else 0)
unfolding count_of
count_next code i = let e : i + 1 ≡ suc i = omega arith in ap (count_of code) e

pub count_taken : (code : List ℕ) (i : ℕ) → takes code i ≡ true → count_of code (i + 1) ≡ count_of code i + 1
count_taken code i taken = count_next code i ∙ ap (λ b. count_of code i + (if b then 1 else 0)) taken

pub count_same : (code : List ℕ) (i : ℕ) → takes code i ≡ false → count_of code (i + 1) ≡ count_of code i
count_same code i none = let e = count_next code i ∙ ap (λ b. count_of code i + (if b then 1 else 0)) none in omega (arith, e)

-- at most one uniform is taken by each instruction
pub count_le : (code : List ℕ) (i : ℕ) → count_of code i ≤ i
unfolding count_of
count_le code zero = omega arith
count_le code (suc i) = grind (arith, count_le code i)
