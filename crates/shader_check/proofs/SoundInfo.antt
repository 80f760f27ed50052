-- The info of an accepted shader is sound.
use Rattle.std.proofs.Common.{◌≡◌, ◌≤◌, ◌<◌, ℕ, true, List, [], ◌∷◌, map, drop, length, None, slice_index, if◌then◌else◌, refl, sym, ap, subst, inl, inr, arith, ◌∙◌, nat_lt}
use Rattle.std.proofs.{lemmas.Bool.and_parts, lemmas.Bool.cases_Bool, lemmas.Bool.ltb-true, lemmas.List.length-map}
use Rattle.qpu_isa.specs.{declared.inst.Sample.Sample, Terms.is_address_write}
use Rattle.shader_flow.specs.{Bounded.indexes, Flow.word, Flow.checked_of, Pending.count_of, Pending.takes}
use Rattle.shader_flow.proofs.Ends.{checked_of-le}
use Rattle.uniform_stream.specs.Stream.{writes_address, is_open, address_words_of, uniforms_of}
use Rattle.shader_check.specs.Info.{first_four, asks, is_sample, sample_parts, sample_of, samples_of}
use Rattle.shader_check.specs.Rules.{shader_questions}
use Rattle.field_words.specs.Questions.{first_of}
use Rattle.shader_check.proofs.Listed.{Member, AllDifferent, numbers, first_number, written, IsSoundSample, IsSound}
use Rattle.shader_check.proofs.Members.{member_append, member_map, member_indexes, different_append, different_indexes}
use Rattle.shader_check.proofs.Parts.{HeadIs, RestIs, PartsAre, parts_are, head_takes, rest_takes, rest_or_address, head_or_address, rest_or_head, heads_apart}
use Rattle.shader_check.proofs.Clean.{IsCleanAt, IsClean, clean}
use Rattle.shader_check.proofs.Roles.{count_less, count_one, sum_parts, reads_takes, address_parts}

-- up to four numbers come back
pub numbers_padded : (ns : List ℕ) → length ns ≤ 4 → numbers (first_four ns) ≡ ns
unfolding numbers
numbers_padded [] few = refl
numbers_padded (a ∷ []) few = refl
numbers_padded (a ∷ (b ∷ [])) few = refl
numbers_padded (a ∷ (b ∷ (c ∷ []))) few = refl
numbers_padded (a ∷ (b ∷ (c ∷ (d ∷ [])))) few = refl
numbers_padded (a ∷ (b ∷ (c ∷ (d ∷ (e ∷ later))))) few = let no : ⊥ = omega (arith, few) in absurd no

-- a sample's numbers are the counts at its parts
pub sample_numbers : (code : List ℕ) (i : ℕ) → (p : PartsAre code i) → numbers (sample_of code i).p ≡ count_of code p.head ∷ map (count_of code) p.rest
unfolding sample_of
sample_numbers code i p =
    let short : length (count_of code p.head ∷ map (count_of code) p.rest) ≤ 4 = let long = length-map p.rest (count_of code) in omega (arith, long, p.few) in
    ap (λ ks. numbers (first_four (map (count_of code) ks))) p.parts ∙ numbers_padded (count_of code p.head ∷ map (count_of code) p.rest) short

pub sample_full : (code : List ℕ) (i : ℕ) → (p : PartsAre code i) → (sample_of code i).p ≡ first_four (numbers (sample_of code i).p)
unfolding sample_of
sample_full code i p =
    let e = ap (λ ks. length (map (count_of code) ks)) p.parts in
    let long = length-map p.rest (count_of code) in
    let short : length (map (count_of code) (sample_parts code i)) ≤ 4 = omega (arith, e, long, p.few) in
    ap first_four (sym (numbers_padded (map (count_of code) (sample_parts code i)) short))

pub first_is : (code : List ℕ) (i : ℕ) → (p : PartsAre code i) → first_number (sample_of code i) ≡ count_of code p.head
unfolding first_number
first_is code i p = ap (λ ns. slice_index ns 0) (sample_numbers code i p)

-- the counts of what takes a uniform are below the total
pub count_total : (code : List ℕ) (i : ℕ) → i < checked_of code → takes code i ≡ true → count_of code i < count_of code (length code)
count_total code i inside taken = count_less code i (length code) (omega (arith, inside, checked_of-le code)) taken

pub total_le : (code : List ℕ) → count_of code (length code) ≤ uniforms_of code
unfolding uniforms_of
total_le code = omega arith

-- a sample that is one of all is that of an instruction
pub record SampleAt (code : List ℕ) (sample : Sample) : Type 0 where
  pub at : ℕ
  pub inside : at < checked_of code
  pub parts : PartsAre code at
  pub is : sample_of code at ≡ sample

pub asks_parts : (code : List ℕ) (i : ℕ) → is_sample code i ≡ true → (i < checked_of code) × (asks (word code i) ≡ true)
unfolding is_sample
asks_parts code i sample =
    let both = and_parts (nat_lt i (checked_of code)) (asks (word code i)) sample in
    (ltb-true i (checked_of code) both.0, both.1)

pub sample_at : (code : List ℕ) → IsClean code → (sample : Sample) → Member sample (samples_of code) → SampleAt code sample
unfolding samples_of
sample_at code clean sample member =
    let found = member_map (sample_of code) (indexes (checked_of code) (is_sample code)) sample member in
    let at = member_indexes (checked_of code) found.0 (is_sample code) found.1 in
    let asked = asks_parts code found.0 at.1 in
    record { at = found.0; inside = asked.0; parts = parts_are code found.0 asked.0 clean asked.1; is = found.2 }

-- an address word is the count at an address write, or the total where the stream is open
pub data IsAddressWord (code : List ℕ) (n : ℕ) : Type 0 where
  Written : (a : ℕ) → a < checked_of code → is_address_write (word code a) ≡ true → count_of code a ≡ n → IsAddressWord code n
  Open : is_open code ≡ true → count_of code (length code) ≡ n → IsAddressWord code n

pub address_write_at : (code : List ℕ) (a : ℕ) → writes_address code a ≡ true → (a < checked_of code) × (is_address_write (word code a) ≡ true)
unfolding writes_address
address_write_at code a writes =
    let both = and_parts (nat_lt a (checked_of code)) (is_address_write (word code a)) writes in
    (ltb-true a (checked_of code) both.0, both.1)

pub address_word : (code : List ℕ) (n : ℕ) → Member n (address_words_of code) → IsAddressWord code n
unfolding address_words_of
address_word code n member =
    elim (member_append (map (count_of code) (indexes (checked_of code) (writes_address code))) (if is_open code then count_of code (length code) ∷ [] else []) n member) [
      | inl written ↦
          (let found = member_map (count_of code) (indexes (checked_of code) (writes_address code)) n written in
          let at = member_indexes (checked_of code) found.0 (writes_address code) found.1 in
          let parts = address_write_at code found.0 at.1 in
          Written found.0 parts.0 parts.1 found.2)
      | inr last ↦
          elim (cases_Bool (is_open code)) [
            | inl opened ↦ elim (subst (λ b. Member n (if b then count_of code (length code) ∷ [] else [])) opened last) [
              | inl same ↦ Open opened same
              | inr none ↦ absurd none
            ]
            | inr closed ↦ absurd (subst (λ b. Member n (if b then count_of code (length code) ∷ [] else [])) closed last)
          ]
    ]

pub address_takes : (code : List ℕ) (a : ℕ) → IsCleanAt code a → a < checked_of code → is_address_write (word code a) ≡ true → takes code a ≡ true
address_takes code a clean inside address = reads_takes code a inside (sum_parts (word code a) (address_parts code a clean address).0).0

pub open_total : (code : List ℕ) → is_open code ≡ true → count_of code (length code) < uniforms_of code
unfolding uniforms_of
open_total code opened = let e : ◌≡◌ {A = ℕ} (if is_open code then 1 else 0) 1 = ap (λ b. if b then 1 else 0) opened in omega (arith, e)

pub address_below : (code : List ℕ) (n : ℕ) → IsClean code → IsAddressWord code n → n < uniforms_of code
address_below code n clean (Written a inside address same) =
    omega (arith, same, count_total code a inside (address_takes code a (clean a inside) inside address), total_le code)
address_below code n clean (Open opened same) = omega (arith, same, open_total code opened)

-- a count at a part is no address word
pub part_or_word : (code : List ℕ) (k n : ℕ) → IsClean code → k < checked_of code → takes code k ≡ true → (is_address_write (word code k) ≡ true → ⊥)
    → count_of code k ≡ n → IsAddressWord code n → ⊥
part_or_word code k n clean inside taken not-address same (Written a inside2 address same2) =
    let one = count_one code k a taken (address_takes code a (clean a inside2) inside2 address) (same ∙ sym same2) in
    not-address (subst (λ m. is_address_write (word code m) ≡ true) (sym one) address)
part_or_word code k n clean inside taken not-address same (Open opened same2) =
    omega (arith, count_total code k inside taken, same, same2)

-- the heads of all samples
pub head_at : (code : List ℕ) → IsClean code → (n : ℕ) → Member n (map first_number (samples_of code)) → (s : Sample) × (at : SampleAt code s) × (count_of code at.parts.head ≡ n)
head_at code clean n member =
    let found = member_map first_number (samples_of code) n member in
    let at = sample_at code clean found.0 found.1 in
    (found.0, at, sym (first_is code at.at at.parts) ∙ ap first_number at.is ∙ found.2)

-- no two address words are one
pub words_different : (code : List ℕ) → IsClean code → AllDifferent (address_words_of code)
unfolding address_words_of
words_different code clean =
    different_append (map (count_of code) (indexes (checked_of code) (writes_address code))) (if is_open code then count_of code (length code) ∷ [] else [])
    (different_indexes (count_of code) (checked_of code) (writes_address code)
    (λ i j less below first second same.
    let one = address_write_at code i first in
    omega (arith, same, count_less code i j less (address_takes code i (clean i one.0) one.0 one.1))))
    (elim (cases_Bool (is_open code)) [
      | inl opened ↦ subst (λ b. AllDifferent (if b then count_of code (length code) ∷ [] else [])) (sym opened) ((λ none. none), tt)
      | inr closed ↦ subst (λ b. AllDifferent (if b then count_of code (length code) ∷ [] else [])) (sym closed) tt
    ])
    (λ n first last.
    let found = member_map (count_of code) (indexes (checked_of code) (writes_address code)) n first in
    let at = member_indexes (checked_of code) found.0 (writes_address code) found.1 in
    let one = address_write_at code found.0 at.1 in
    let less = count_total code found.0 one.0 (address_takes code found.0 (clean found.0 one.0) one.0 one.1) in
    elim (cases_Bool (is_open code)) [
      | inl opened ↦ elim (subst (λ b. Member n (if b then count_of code (length code) ∷ [] else [])) opened last) [
        | inl same ↦ omega (arith, less, same, found.2)
        | inr none ↦ none
      ]
      | inr closed ↦ absurd (subst (λ b. Member n (if b then count_of code (length code) ∷ [] else [])) closed last)
    ])

pub map_twice : {X : Type 0} (f : X → ℕ) (g : ℕ → X) (xs : List ℕ) → map f (map g xs) ≡ map (λ x. f (g x)) xs
map_twice f g [] = refl
map_twice f g (x ∷ xs) = ap (λ ys. f (g x) ∷ ys) (map_twice f g xs)

-- no two samples begin with one word
pub heads_different : (code : List ℕ) → IsClean code → AllDifferent (map first_number (samples_of code))
unfolding samples_of
heads_different code clean =
    subst AllDifferent (sym (map_twice first_number (sample_of code) (indexes (checked_of code) (is_sample code))))
    (different_indexes (λ i. first_number (sample_of code i)) (checked_of code) (is_sample code)
    (λ i j less below first second same.
    let one = asks_parts code i first in
    let two = asks_parts code j second in
    let p = parts_are code i one.0 clean one.1 in
    let q = parts_are code j two.0 clean two.1 in
    let head-p = head_takes code i p.head one.0 p.head_is in
    let head-q = head_takes code j q.head two.0 q.head_is in
    let e = count_one code p.head q.head head-p.1 head-q.1 (sym (first_is code i p) ∙ same ∙ first_is code j q) in
    heads_apart code i j p.head less two.0 (clean p.head head-p.0) p.head_is (subst (HeadIs code j) (sym e) q.head_is)))

pub all_different : (code : List ℕ) → IsClean code → AllDifferent (written (samples_of code) (address_words_of code))
unfolding written
all_different code clean =
    different_append (address_words_of code) (map first_number (samples_of code)) (words_different code clean) (heads_different code clean)
    (λ n in-words in-heads.
    let found = head_at code clean n in-heads in
    let at = found.1 in
    let head = head_takes code at.at at.parts.head at.inside at.parts.head_is in
    part_or_word code at.parts.head n clean head.0 head.1 (head_or_address code at.at at.parts.head (clean at.parts.head head.0) at.parts.head_is) found.2
    (address_word code n in-words))

-- one sample
pub sample_below : (code : List ℕ) (i : ℕ) → i < checked_of code → (p : PartsAre code i) → (n : ℕ) → Member n (count_of code p.head ∷ map (count_of code) p.rest) → n < uniforms_of code
sample_below code i inside p n (inl same) =
    let head = head_takes code i p.head inside p.head_is in
    omega (arith, same, count_total code p.head head.0 head.1, total_le code)
sample_below code i inside p n (inr there) =
    let found = member_map (count_of code) p.rest n there in
    let one = rest_takes code found.0 (p.rest_is found.0 found.1) in
    omega (arith, found.2, count_total code found.0 one.0 one.1, total_le code)

pub rest_or_written : (code : List ℕ) → IsClean code → (k n : ℕ) → RestIs code k → count_of code k ≡ n → Member n (written (samples_of code) (address_words_of code)) → ⊥
unfolding written
rest_or_written code clean k n role same member =
    let one = rest_takes code k role in
    elim (member_append (address_words_of code) (map first_number (samples_of code)) n member) [
      | inl in-words ↦ part_or_word code k n clean one.0 one.1 (rest_or_address code k (clean k one.0) role) same (address_word code n in-words)
      | inr in-heads ↦
          (let found = head_at code clean n in-heads in
          let at = found.1 in
          let head = head_takes code at.at at.parts.head at.inside at.parts.head_is in
          let e = count_one code at.parts.head k head.1 one.1 (found.2 ∙ sym same) in
          rest_or_head code at.at k (clean k one.0) role (subst (HeadIs code at.at) e at.parts.head_is))
    ]

pub sample_sound : (code : List ℕ) → IsClean code → (i : ℕ) → i < checked_of code → (p : PartsAre code i)
    → IsSoundSample (uniforms_of code) (written (samples_of code) (address_words_of code)) (sample_of code i)
sample_sound code clean i inside p =
    let e = sample_numbers code i p in
    let long = length-map p.rest (count_of code) in
    record {
      full = sample_full code i p;
      two = (let size = ap length e in omega (arith, size, long, p.some));
      below = λ n member. sample_below code i inside p n (subst (Member n) e member);
      apart = λ n later in-written.
          let found = member_map (count_of code) p.rest n (subst (λ ns. Member n (drop 1 ns)) e later) in
          rest_or_written code clean found.0 n (p.rest_is found.0 found.1) found.2 in-written;
    }

-- The law that the layers above rest on.
pub sound : (code : List ℕ) → IsClean code → IsSound (uniforms_of code) (samples_of code) (address_words_of code)
sound code clean = record {
  each = λ sample member.
      let at = sample_at code clean sample member in
      subst (IsSoundSample (uniforms_of code) (written (samples_of code) (address_words_of code))) at.is (sample_sound code clean at.at at.inside at.parts);
  below = λ n member. address_below code n clean (address_word code n member);
  different = all_different code clean;
}

-- what the checker made is sound
pub info_sound : (code : List ℕ) (uniforms : ℕ) (samples : List Sample) (words : List ℕ) → first_of (shader_questions code) ≡ None
    → uniforms ≡ uniforms_of code → samples ≡ samples_of code → words ≡ address_words_of code → IsSound uniforms samples words
info_sound code uniforms samples words none e1 e2 e3 =
    subst (λ u. IsSound u samples words) (sym e1)
    (subst (λ s. IsSound (uniforms_of code) s words) (sym e2)
    (subst (λ w. IsSound (uniforms_of code) (samples_of code) w) (sym e3) (sound code (clean code none))))
