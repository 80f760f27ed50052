-- What a TMU keeps in an accepted shader: as many setup words as are pending, one instruction each, all since its last request.
use Rattle.std.proofs.Common.{◌≡◌, ◌≤◌, ◌<◌, ◌+◌, ℕ, zero, suc, true, false, List, [], ◌∷◌, ◌++◌, length, if◌then◌else◌, sym, ap, subst, inl, inr, arith, ◌∙◌, length-append}
use Rattle.std.proofs.lemmas.Bool.{cases_Bool}
use Rattle.qpu_isa.specs.{Terms.writes_s, Terms.writes_tmu, Setups.setups_kept}
use Rattle.shader_flow.specs.{Flow.word, Flow.checked_of, Pending.pending_of}
use Rattle.shader_flow.proofs.Counts.{pending_zero, pending_sent, pending_kept}
use Rattle.shader_check.specs.Info.{setups_held}
use Rattle.shader_check.proofs.Setups.{SetsUp, Numbered, numbered_push, sets_one, not_sent, one_word, no_word}
use Rattle.shader_check.proofs.{Listed.Member, Clean.IsCleanAt, Clean.IsClean, Members.member_append, Positions.held_next}

pub record KeptIs (code : List ℕ) (t i : ℕ) (xs : List ℕ) (p : ℕ) : Type 0 where
  pub size : length xs ≡ p
  pub numbered : Numbered code t 0 xs
  pub before : (k : ℕ) → Member k xs → k < i

abbrev pub HeldIs : List ℕ → ℕ → ℕ → Type 0
HeldIs code t i = KeptIs code t i (setups_held code t i) (pending_of code t i)

pub kept_sent : (code : List ℕ) (t i : ℕ) → i < checked_of code → writes_s (word code i) t ≡ true → setups_held code t (i + 1) ≡ []
unfolding setups_kept
kept_sent code t i inside sent =
    held_next code t i inside ∙ ap (λ b. if b then [] else (if writes_tmu (word code i) t then setups_held code t i ++ (i ∷ []) else setups_held code t i)) sent

pub kept_more : (code : List ℕ) (t i : ℕ) → i < checked_of code → writes_s (word code i) t ≡ false → writes_tmu (word code i) t ≡ true
    → setups_held code t (i + 1) ≡ setups_held code t i ++ (i ∷ [])
unfolding setups_kept
kept_more code t i inside stays writes =
    held_next code t i inside
    ∙ ap (λ b. if b then [] else (if writes_tmu (word code i) t then setups_held code t i ++ (i ∷ []) else setups_held code t i)) stays
    ∙ ap (λ b. if b then setups_held code t i ++ (i ∷ []) else setups_held code t i) writes

pub kept_same : (code : List ℕ) (t i : ℕ) → i < checked_of code → writes_s (word code i) t ≡ false → writes_tmu (word code i) t ≡ false
    → setups_held code t (i + 1) ≡ setups_held code t i
unfolding setups_kept
kept_same code t i inside stays none =
    held_next code t i inside
    ∙ ap (λ b. if b then [] else (if writes_tmu (word code i) t then setups_held code t i ++ (i ∷ []) else setups_held code t i)) stays
    ∙ ap (λ b. if b then setups_held code t i ++ (i ∷ []) else setups_held code t i) none

-- a write that isn't of S is a setup write with the next number
pub next_setup : (code : List ℕ) (t i m : ℕ) → t < 2 → i < checked_of code → writes_s (word code i) t ≡ false → writes_tmu (word code i) t ≡ true → pending_of code t i ≡ m → SetsUp code t i m
next_setup code t i m small inside stays writes number = record {
  inside = inside;
  sets_it = sets_one code t i small writes (not_sent (word code i) t (pending_of code t i) stays);
  writes = writes;
  number = number;
}

pub held_step : (code : List ℕ) (t i : ℕ) → t < 2 → i < checked_of code → IsCleanAt code i → HeldIs code t i → HeldIs code t (i + 1)
held_step code t i small inside clean is =
    elim (cases_Bool (writes_s (word code i) t)) [
      | inl sent ↦
          subst (λ xs. KeptIs code t (i + 1) xs (pending_of code t (i + 1))) (sym (kept_sent code t i inside sent))
          (record { size = sym (pending_sent code t i inside sent); numbered = tt; before = λ k member. absurd member })
      | inr stays ↦
          elim (cases_Bool (writes_tmu (word code i) t)) [
            | inl writes ↦
                (let next = pending_kept code t i inside stays in
                let one = one_word code i t clean writes in
                let last = next_setup code t i (0 + length (setups_held code t i)) small inside stays writes (omega (arith, is.size)) in
                subst (λ xs. KeptIs code t (i + 1) xs (pending_of code t (i + 1))) (sym (kept_more code t i inside stays writes))
                (record {
                  size = (let long = length-append (setups_held code t i) (i ∷ []) in omega (arith, long, is.size, next, one));
                  numbered = numbered_push code t (setups_held code t i) 0 i is.numbered last;
                  before = λ k member. elim (member_append (setups_held code t i) (i ∷ []) k member) [
                    | inl earlier ↦ omega (arith, is.before k earlier)
                    | inr at ↦ elim at [ inl same ↦ omega (arith, same) | inr none ↦ absurd none ]
                  ];
                }))
            | inr none ↦
                (let next = pending_kept code t i inside stays in
                let zero-words = no_word (word code i) t none in
                subst (λ xs. KeptIs code t (i + 1) xs (pending_of code t (i + 1))) (sym (kept_same code t i inside stays none))
                (record {
                  size = omega (arith, is.size, next, zero-words);
                  numbered = is.numbered;
                  before = λ k member. omega (arith, is.before k member);
                }))
          ]
    ]

pub held_is : (code : List ℕ) (t : ℕ) → t < 2 → IsClean code → (i : ℕ) → i ≤ checked_of code → HeldIs code t i
unfolding setups_held
held_is code t small clean zero inside = record { size = sym (pending_zero code t); numbered = tt; before = λ k member. absurd member }
held_is code t small clean (suc i) inside =
    let e : i + 1 ≡ suc i = omega arith in
    subst (HeldIs code t) e
    (held_step code t i small (omega (arith, inside)) (clean i (omega (arith, inside))) (held_is code t small clean i (omega (arith, inside))))

-- all are after a request that came before
pub held_after : (code : List ℕ) (t i : ℕ) → i < checked_of code → writes_s (word code i) t ≡ true → (d : ℕ) → i + 1 + d ≤ checked_of code
    → (k : ℕ) → Member k (setups_held code t (i + 1 + d)) → i < k
held_after code t i inside sent zero last k member =
    let e : i + 1 + 0 ≡ i + 1 = omega arith in
    absurd (subst (Member k) (ap (setups_held code t) e ∙ kept_sent code t i inside sent) member)
held_after code t i inside sent (suc d) last k member =
    let e : i + 1 + suc d ≡ i + 1 + d + 1 = omega arith in
    let here = subst (Member k) (ap (setups_held code t) e) member in
    let below : i + 1 + d < checked_of code = omega (arith, last) in
    let earlier = held_after code t i inside sent d (omega (arith, last)) in
    elim (cases_Bool (writes_s (word code (i + 1 + d)) t)) [
      | inl again ↦ absurd (subst (Member k) (kept_sent code t (i + 1 + d) below again) here)
      | inr stays ↦
          elim (cases_Bool (writes_tmu (word code (i + 1 + d)) t)) [
            | inl writes ↦
                elim (member_append (setups_held code t (i + 1 + d)) ((i + 1 + d) ∷ []) k (subst (Member k) (kept_more code t (i + 1 + d) below stays writes) here)) [
                  | inl before ↦ earlier k before
                  | inr at ↦ elim at [ inl same ↦ omega (arith, same) | inr none ↦ absurd none ]
                ]
            | inr none ↦ earlier k (subst (Member k) (kept_same code t (i + 1 + d) below stays none) here)
          ]
    ]
