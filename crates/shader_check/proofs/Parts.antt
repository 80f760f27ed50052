-- The instructions that take a sample's uniforms: the first, and one to three more.
use Rattle.std.proofs.Common.{◌≡◌, ◌≤◌, ◌<◌, ◌+◌, ◌-◌, ℕ, zero, suc, true, false, ◌||◌, List, [], ◌∷◌, ◌++◌, length, if◌then◌else◌, refl, sym, ap, subst, inl, inr, arith, ◌∙◌, length-append}
use Rattle.std.proofs.{lemmas.Bool.Decides.nat_tests, lemmas.Bool.cases_Bool, lemmas.Bool.eqb-false}
use Rattle.qpu_isa.specs.Terms.{writes_s, writes_tmu, is_address_write, is_min_with_uniform, is_add_with_uniform}
use Rattle.qpu_isa.specs.Setups.{is_direct}
use Rattle.shader_flow.specs.{Flow.word, Flow.checked_of, Pending.pending_of, Pending.takes}
use Rattle.uniform_stream.specs.Rules.{s22, is_full}
use Rattle.clamp_facts.proofs.{Carriers.sets_parts, Carriers.carried_parts, Clamps.clamped_found, Clamps.clamps_parts, Clamps.clamp_min}
use Rattle.shader_check.specs.Rules.{direct_by_add, direct_by_mul}
use Rattle.shader_check.specs.Info.{setups_held, asks, sample_tmu, is_direct_sample, clamp_parts, sample_parts}
use Rattle.shader_check.proofs.Roles.{sum_parts, min_parts, sum_or_min, reads_takes, sets_takes, sets_or_reads, address_parts, direct_parts, clamped_parts, address_or_direct}
use Rattle.shader_check.proofs.Setups.{SetsUp, Numbered, numbered_member, sets_one, not_kept, s_writes, one_tmu}
use Rattle.shader_check.proofs.{Listed.Member, Clean.IsCleanAt, Clean.IsClean, Members.member_append, Positions.clamp_parts_one}
use Rattle.shader_check.proofs.Held.{held_is, held_after}

-- the first of the instruction at i's sample: itself, where it is direct, or a setup write of number 0
pub data HeadIs (code : List ℕ) (i h : ℕ) : Type 0 where
  Direct : h ≡ i → direct_by_add code i ≡ true → is_add_with_uniform (word code i) ≡ true → HeadIs code i h
  First : (t : ℕ) → writes_s (word code i) t ≡ true → SetsUp code t h 0 → Member h (setups_held code t i) → h < i → t < 2 → HeadIs code i h

-- another of a sample: a clamp, or a later setup write
pub data RestIs (code : List ℕ) (k : ℕ) : Type 0 where
  Clamp : k < checked_of code → is_min_with_uniform (word code k) ≡ true → RestIs code k
  Later : (t m : ℕ) → SetsUp code t k (suc m) → RestIs code k

pub record PartsAre (code : List ℕ) (i : ℕ) : Type 0 where
  pub head : ℕ
  pub rest : List ℕ
  pub parts : sample_parts code i ≡ head ∷ rest
  pub some : 1 ≤ length rest
  pub few : length rest ≤ 3
  pub head_is : HeadIs code i head
  pub rest_is : (k : ℕ) → Member k rest → RestIs code k

-- the TMU that is asked
pub asked_tmu : (w : ℕ) → asks w ≡ true → (sample_tmu w < 2) × (writes_s w (sample_tmu w) ≡ true)
unfolding asks sample_tmu
asked_tmu w asked = (grind (arith, asked), grind (arith, asked))

-- a direct write is one unit's
pub directs : (code : List ℕ) (i t : ℕ) → t < 2 → is_direct (word code i) t (pending_of code t i) ≡ true → (direct_by_add code i || direct_by_mul code i) ≡ true
unfolding is_direct direct_by_add direct_by_mul
directs code i zero small direct = grind (arith, direct)
directs code i (suc zero) small direct = grind (arith, direct)
directs code i (suc (suc t)) small direct = let no : ⊥ = omega (arith, small) in absurd no

-- fewer than four are pending
pub room : (code : List ℕ) (i t : ℕ) → t < 2 → IsCleanAt code i → writes_tmu (word code i) t ≡ true → pending_of code t i < 4
unfolding s22 is_full
room code i zero small clean writes = let room = clean.room in grind (arith, nat_tests, room, writes)
room code i (suc zero) small clean writes = let room = clean.room in grind (arith, nat_tests, room, writes)
room code i (suc (suc t)) small clean writes = let no : ⊥ = omega (arith, small) in absurd no

pub parts_direct : (code : List ℕ) (i : ℕ) → i < checked_of code → IsCleanAt code i → asks (word code i) ≡ true → is_direct_sample code i ≡ true → PartsAre code i
unfolding is_direct_sample sample_parts
parts_direct code i inside clean asked direct =
    let tmu = asked_tmu (word code i) asked in
    let both = direct_parts code i clean (directs code i (sample_tmu (word code i)) tmu.0 direct) in
    let clamped = clamped_parts code i both.1 in
    let reg = clamped.1.0 in
    let found = clamped_found code i reg clamped.1.2 in
    let one = clamps_parts code found.0 i reg found.1 in
    let min = clamp_min code found.0 one.1 in
    let below = (sets_parts code found.0 reg (carried_parts code found.0 i reg one.0.carried).0).0 in
    record {
      head = i;
      rest = found.0 ∷ [];
      parts =
          ap (λ b. if b then i ∷ clamp_parts code i else setups_held code (sample_tmu (word code i)) i ++ (i ∷ [])) direct
          ∙ ap (λ ks. i ∷ ks) (clamp_parts_one code i found.0 reg clamped.1.1 found.2);
      some = omega arith;
      few = omega arith;
      head_is = Direct refl both.0 clamped.0;
      rest_is = λ k member. elim member [ inl same ↦ subst (RestIs code) same (Clamp below min) | inr none ↦ absurd none ];
    }

-- a list that isn't empty
pub not_empty : (xs : List ℕ) → (length xs ≡ 0 → ⊥) → (h : ℕ) × (r : List ℕ) × (xs ≡ h ∷ r)
not_empty [] some = absurd (some refl)
not_empty (h ∷ r) some = (h, r, refl)

pub later_one : (code : List ℕ) (t k n : ℕ) → 1 ≤ n → SetsUp code t k n → RestIs code k
later_one code t k zero some setup = let no : ⊥ = omega (arith, some) in absurd no
later_one code t k (suc m) some setup = Later t m setup

pub parts_setup : (code : List ℕ) (i : ℕ) → i < checked_of code → IsClean code → asks (word code i) ≡ true → is_direct_sample code i ≡ false → PartsAre code i
unfolding is_direct_sample sample_parts
parts_setup code i inside clean asked setup =
    let t = sample_tmu (word code i) in
    let tmu = asked_tmu (word code i) asked in
    let writes = s_writes (word code i) t tmu.1 in
    let is = held_is code t tmu.0 clean i (omega (arith, inside)) in
    let pending = eqb-false (pending_of code t i) 0 (not_kept (word code i) t (pending_of code t i) tmu.1 setup) in
    let held-some = not_empty (setups_held code t i) (λ none. pending (sym is.size ∙ none)) in
    let h = held-some.0 in
    let r = held-some.1 in
    let whole = held-some.2 in
    let long = sym (ap length whole) ∙ is.size in
    let numbered = subst (Numbered code t 0) whole is.numbered in
    let less = room code i t tmu.0 (clean i inside) writes in
    let long-rest = length-append r (i ∷ []) in
    let last : SetsUp code t i (pending_of code t i) = record {
      inside = inside;
      sets_it = sets_one code t i tmu.0 writes setup;
      writes = writes;
      number = refl;
    } in
    record {
      head = h;
      rest = r ++ (i ∷ []);
      parts =
          ap (λ b. if b then i ∷ clamp_parts code i else setups_held code t i ++ (i ∷ [])) setup
          ∙ ap (λ ks. ks ++ (i ∷ [])) whole;
      some = omega (arith, long-rest);
      few = omega (arith, long-rest, long, less);
      head_is = First t tmu.1 numbered.0 (subst (Member h) (sym whole) (inl refl)) (is.before h (subst (Member h) (sym whole) (inl refl))) tmu.0;
      rest_is = λ k member. elim (member_append r (i ∷ []) k member) [
        | inl earlier ↦ (let one = numbered_member code t r 1 k numbered.1 earlier in later_one code t k one.0 one.1 one.2)
        | inr at ↦ elim at [
          | inl same ↦ subst (RestIs code) same (later_one code t i (pending_of code t i) (omega (arith, long)) last)
          | inr none ↦ absurd none
        ]
      ];
    }

pub parts_are : (code : List ℕ) (i : ℕ) → i < checked_of code → IsClean code → asks (word code i) ≡ true → PartsAre code i
parts_are code i inside clean asked =
    elim (cases_Bool (is_direct_sample code i)) [
      | inl direct ↦ parts_direct code i inside (clean i inside) asked direct
      | inr setup ↦ parts_setup code i inside clean asked setup
    ]

-- each is a checked instruction that takes a uniform
pub head_takes : (code : List ℕ) (i h : ℕ) → i < checked_of code → HeadIs code i h → (h < checked_of code) × (takes code h ≡ true)
head_takes code i h inside (Direct same adds sum) =
    (omega (arith, inside, same), subst (λ m. takes code m ≡ true) (sym same) (reads_takes code i inside (sum_parts (word code i) sum).0))
head_takes code i h inside (First t sent setup member below small) = (setup.inside, sets_takes code h setup.inside setup.sets_it)

pub rest_takes : (code : List ℕ) (k : ℕ) → RestIs code k → (k < checked_of code) × (takes code k ≡ true)
rest_takes code k (Clamp inside min) = (inside, reads_takes code k inside (min_parts (word code k) min).0)
rest_takes code k (Later t m setup) = (setup.inside, sets_takes code k setup.inside setup.sets_it)

-- no instruction has two of these parts
pub rest_or_address : (code : List ℕ) (k : ℕ) → IsCleanAt code k → RestIs code k → is_address_write (word code k) ≡ true → ⊥
rest_or_address code k clean (Clamp inside min) address = sum_or_min (word code k) (address_parts code k clean address).0 min
rest_or_address code k clean (Later t m setup) address =
    sets_or_reads code k clean setup.sets_it (sum_parts (word code k) (address_parts code k clean address).0).0

pub head_or_address : (code : List ℕ) (i h : ℕ) → IsCleanAt code h → HeadIs code i h → is_address_write (word code h) ≡ true → ⊥
head_or_address code i h clean (Direct same adds sum) address =
    address_or_direct code h (address_parts code h clean address).1 (subst (λ m. direct_by_add code m ≡ true) (sym same) adds)
head_or_address code i h clean (First t sent setup member below small) address =
    sets_or_reads code h clean setup.sets_it (sum_parts (word code h) (address_parts code h clean address).0).0

pub rest_or_head : (code : List ℕ) (i k : ℕ) → IsCleanAt code k → RestIs code k → HeadIs code i k → ⊥
rest_or_head code i k clean (Clamp inside min) (Direct same adds sum) =
    sum_or_min (word code k) (subst (λ m. is_add_with_uniform (word code m) ≡ true) (sym same) sum) min
rest_or_head code i k clean (Clamp inside min) (First t sent setup member below small) = sets_or_reads code k clean setup.sets_it (min_parts (word code k) min).0
rest_or_head code i k clean (Later t m later) (Direct same adds sum) =
    sets_or_reads code k clean later.sets_it (sum_parts (word code k) (subst (λ n. is_add_with_uniform (word code n) ≡ true) (sym same) sum)).0
rest_or_head code i k clean (Later t m later) (First u sent setup member below small) =
    let e = one_tmu code k t u clean later.writes setup.writes in
    let same = ap (λ n. pending_of code n k) e in
    omega (arith, same, later.number, setup.number)

-- two samples have different heads
pub heads_apart : (code : List ℕ) (i j h : ℕ) → i < j → j < checked_of code → IsCleanAt code h → HeadIs code i h → HeadIs code j h → ⊥
heads_apart code i j h less inside clean (Direct same adds sum) (Direct same2 adds2 sum2) = omega (arith, less, same, same2)
heads_apart code i j h less inside clean (Direct same adds sum) (First t sent setup member below small) =
    sets_or_reads code h clean setup.sets_it (sum_parts (word code h) (subst (λ n. is_add_with_uniform (word code n) ≡ true) (sym same) sum)).0
heads_apart code i j h less inside clean (First t sent setup member below small) (Direct same adds sum) =
    sets_or_reads code h clean setup.sets_it (sum_parts (word code h) (subst (λ n. is_add_with_uniform (word code n) ≡ true) (sym same) sum)).0
heads_apart code i j h less inside clean (First t sent setup member below small) (First u sent2 setup2 member2 below2 small2) =
    let e = one_tmu code h u t clean setup2.writes setup.writes in
    let d : i + 1 + (j - (i + 1)) ≡ j = omega (arith, less) in
    let there = subst (λ n. Member h (setups_held code t n)) (sym d) (subst (λ n. Member h (setups_held code n j)) e member2) in
    let after = held_after code t i (omega (arith, less, inside)) sent (j - (i + 1)) (omega (arith, d, inside)) h there in
    omega (arith, after, below)
