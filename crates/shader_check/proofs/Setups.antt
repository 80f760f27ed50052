-- The setup words that a TMU keeps: one instruction each, numbered from 0.
use Rattle.std.proofs.Common.{◌≡◌, ◌≤◌, ◌<◌, ◌+◌, ◌*◌, ◌==◌, ℕ, zero, suc, true, false, ◌||◌, List, [], ◌∷◌, ◌++◌, length, subst, inl, inr, arith}
use Rattle.std.proofs.lemmas.Bool.Decides.{nat_tests}
use Rattle.qpu_isa.specs.Terms.{add_names, mul_names, names_address, writes_s, s_address, writes_tmu, add_writes_tmu, mul_writes_tmu, is_tmu_address, tmu_writes, add_is_tmu, mul_is_tmu, has_two_tmu_writes}
use Rattle.qpu_isa.specs.Word.{waddr_add_of, waddr_mul_of}
use Rattle.qpu_isa.specs.Setups.{has_setup, adds_setup, muls_setup, adds_direct, muls_direct, is_direct}
use Rattle.shader_flow.specs.{Flow.word, Flow.checked_of, Pending.pending_of}
use Rattle.uniform_stream.specs.Rules.{s20}
use Rattle.shader_check.proofs.{Listed.Member, Clean.IsCleanAt, Roles.sets}

-- the instruction at k has the setup write number m of a request to this TMU
pub record SetsUp (code : List ℕ) (tmu k m : ℕ) : Type 0 where
  pub inside : k < checked_of code
  pub sets_it : sets code k ≡ true
  pub writes : writes_tmu (word code k) tmu ≡ true
  pub number : pending_of code tmu k ≡ m

-- a unit's write of S is a write of that TMU
pub s_is_tmu : (tmu address : ℕ) → (address == s_address tmu) ≡ true → is_tmu_address tmu address ≡ true
unfolding s_address is_tmu_address
s_is_tmu tmu address same = grind (arith, nat_tests, same)

pub add_s : (w tmu : ℕ) → add_names w (s_address tmu) ≡ true → add_writes_tmu w tmu ≡ true
unfolding add_names add_writes_tmu
add_s w tmu named = grind (arith, named, s_is_tmu)

pub mul_s : (w tmu : ℕ) → mul_names w (s_address tmu) ≡ true → mul_writes_tmu w tmu ≡ true
unfolding mul_names mul_writes_tmu
mul_s w tmu named = grind (arith, named, s_is_tmu)

pub s_writes : (w tmu : ℕ) → writes_s w tmu ≡ true → writes_tmu w tmu ≡ true
unfolding writes_s names_address writes_tmu
s_writes w tmu sent = grind (arith, sent, add_s, mul_s)

-- only a write of S is direct, and finds nothing kept
pub not_sent : (w tmu p : ℕ) → writes_s w tmu ≡ false → is_direct w tmu p ≡ false
unfolding writes_s names_address is_direct adds_direct muls_direct
not_sent w tmu p none = grind (arith, none)

pub not_kept : (w tmu p : ℕ) → writes_s w tmu ≡ true → is_direct w tmu p ≡ false → (p == 0) ≡ false
unfolding writes_s names_address is_direct adds_direct muls_direct
not_kept w tmu p sent setup = grind (arith, sent, setup)

-- a TMU write that isn't direct is a setup write
pub sets_of : (w tmu p : ℕ) → writes_tmu w tmu ≡ true → is_direct w tmu p ≡ false → (adds_setup w tmu p || muls_setup w tmu p) ≡ true
unfolding writes_tmu adds_setup muls_setup is_direct
sets_of w tmu p writes not_direct = grind (arith, writes, not_direct)

pub sets_one : (code : List ℕ) (tmu k : ℕ) → tmu < 2 → writes_tmu (word code k) tmu ≡ true → is_direct (word code k) tmu (pending_of code tmu k) ≡ false → sets code k ≡ true
unfolding has_setup
sets_one code zero k small writes not_direct = let one = sets_of (word code k) 0 (pending_of code 0 k) writes not_direct in grind (arith, one)
sets_one code (suc zero) k small writes not_direct = let one = sets_of (word code k) 1 (pending_of code 1 k) writes not_direct in grind (arith, one)
sets_one code (suc (suc tmu)) k small writes not_direct = let no : ⊥ = omega (arith, small) in absurd no

-- a unit that writes a TMU writes one
pub add_tmu : (w tmu : ℕ) → add_writes_tmu w tmu ≡ true → (add_is_tmu w ≡ true) × (56 + 4 * tmu ≤ waddr_add_of w) × (waddr_add_of w < 60 + 4 * tmu)
unfolding add_writes_tmu is_tmu_address add_is_tmu
add_tmu w tmu writes = (grind (arith, nat_tests, writes), grind (arith, nat_tests, writes), grind (arith, nat_tests, writes))

pub mul_tmu : (w tmu : ℕ) → mul_writes_tmu w tmu ≡ true → (mul_is_tmu w ≡ true) × (56 + 4 * tmu ≤ waddr_mul_of w) × (waddr_mul_of w < 60 + 4 * tmu)
unfolding mul_writes_tmu is_tmu_address mul_is_tmu
mul_tmu w tmu writes = (grind (arith, nat_tests, writes), grind (arith, nat_tests, writes), grind (arith, nat_tests, writes))

-- both units don't
pub not_both : (code : List ℕ) (i : ℕ) → IsCleanAt code i → add_is_tmu (word code i) ≡ true → mul_is_tmu (word code i) ≡ true → ⊥
unfolding s20 has_two_tmu_writes
not_both code i clean one two = let unit = clean.one_unit in grind (arith, unit, one, two)

-- so the TMU that an instruction writes is one
pub one_tmu : (code : List ℕ) (i t u : ℕ) → IsCleanAt code i → writes_tmu (word code i) t ≡ true → writes_tmu (word code i) u ≡ true → t ≡ u
unfolding writes_tmu
one_tmu code i t u clean first second = let none = not_both code i clean in grind (arith, none, first, second, add_tmu, mul_tmu)

-- and it gets one word
pub one_word : (code : List ℕ) (i t : ℕ) → IsCleanAt code i → writes_tmu (word code i) t ≡ true → tmu_writes (word code i) t ≡ 1
unfolding writes_tmu tmu_writes
one_word code i t clean writes = let none = not_both code i clean in grind (arith, none, writes, add_tmu, mul_tmu)

pub no_word : (w t : ℕ) → writes_tmu w t ≡ false → tmu_writes w t ≡ 0
unfolding writes_tmu tmu_writes
no_word w t none = grind (arith, none)

-- the instructions have the setup writes number m, m + 1 and so on
abbrev pub Numbered : List ℕ → ℕ → ℕ → List ℕ → Type 0
Numbered code t m [] = Unit {0}
Numbered code t m (k ∷ later) = SetsUp code t k m × Numbered code t (suc m) later

pub numbered_push : (code : List ℕ) (t : ℕ) → (xs : List ℕ) (m k : ℕ) → Numbered code t m xs → SetsUp code t k (m + length xs) → Numbered code t m (xs ++ (k ∷ []))
numbered_push code t [] m k all last = (let e : m + 0 ≡ m = omega arith in subst (SetsUp code t k) e last, tt)
numbered_push code t (x ∷ xs) m k all last =
    (all.0, numbered_push code t xs (suc m) k all.1 (let e : m + suc (length xs) ≡ suc m + length xs = omega arith in subst (SetsUp code t k) e last))

-- one of them
pub numbered_member : (code : List ℕ) (t : ℕ) → (xs : List ℕ) (m k : ℕ) → Numbered code t m xs → Member k xs → (n : ℕ) × (m ≤ n) × SetsUp code t k n
numbered_member code t [] m k all member = absurd member
numbered_member code t (x ∷ xs) m k all (inl here) = (m, omega arith, subst (λ y. SetsUp code t y m) here all.0)
numbered_member code t (x ∷ xs) m k all (inr there) =
    let found = numbered_member code t xs (suc m) k all.1 there in
    (found.0, omega (arith, found.1), found.2)
