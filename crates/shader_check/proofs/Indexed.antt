-- What is sound by members of lists is sound by index.
use Rattle.std.proofs.Common.{◌≡◌, ◌≤◌, ◌<◌, ℕ, zero, suc, Bool, true, List, [], ◌∷◌, ◌++◌, map, drop, length, Option, Some, None, get_or, is_some, slice_get, refl, sym, ap, subst, inl, inr, arith, ◌∙◌}
use Rattle.std.proofs.lemmas.List.{length-map}
use Rattle.qpu_isa.specs.Shader.{ShaderModel, no_sample, position, or_zero, first_position, IsSoundShader}
use Rattle.qpu_isa.specs.{declared.inst.Sample.Sample, Shader.IsSoundSample as IsSampleSound}
use Rattle.shader_check.specs.Info.{first_four}
use Rattle.shader_check.proofs.Listed.{Member, AllDifferent, numbers, first_number, written, IsSoundSample, IsSound}
use Rattle.shader_check.proofs.Members.{member_left, member_right}

-- items by index are members
pub member_at : {X : Type 0} (d : X) (xs : List X) (i : ℕ) → i < length xs → Member (get_or xs i d) xs
member_at d [] i inside = let no : ⊥ = omega (arith, inside) in absurd no
member_at d (x ∷ xs) zero inside = inl refl
member_at d (x ∷ xs) (suc i) inside = inr (member_at d xs i (omega (arith, inside)))

pub map_at : {X : Type 0} (f : X → ℕ) (d : X) (xs : List X) (i : ℕ) → i < length xs → get_or (map f xs) i 0 ≡ f (get_or xs i d)
map_at f d [] i inside = let no : ⊥ = omega (arith, inside) in absurd no
map_at f d (x ∷ xs) zero inside = refl
map_at f d (x ∷ xs) (suc i) inside = map_at f d xs i (omega (arith, inside))

-- different items
pub different_at : (xs : List ℕ) (i j : ℕ) → AllDifferent xs → i < j → j < length xs → get_or xs i 0 ≡ get_or xs j 0 → ⊥
different_at [] i j all less inside same = omega (arith, inside)
different_at (x ∷ xs) zero zero all less inside same = omega (arith, less)
different_at (x ∷ xs) zero (suc j) all less inside same = all.0 (subst (λ n. Member n xs) (sym same) (member_at 0 xs j (omega (arith, inside))))
different_at (x ∷ xs) (suc i) zero all less inside same = omega (arith, less)
different_at (x ∷ xs) (suc i) (suc j) all less inside same = different_at xs i j all.1 (omega (arith, less)) (omega (arith, inside)) same

pub different_front : (xs ys : List ℕ) → AllDifferent (xs ++ ys) → AllDifferent xs
different_front [] ys all = tt
different_front (x ∷ xs) ys all = ((λ member. all.0 (member_left xs ys x member)), different_front xs ys all.1)

pub different_rest : (xs ys : List ℕ) → AllDifferent (xs ++ ys) → AllDifferent ys
different_rest [] ys all = all
different_rest (x ∷ xs) ys all = different_rest xs ys all.1

pub different_across : (xs ys : List ℕ) (n : ℕ) → AllDifferent (xs ++ ys) → Member n xs → Member n ys → ⊥
different_across [] ys n all one two = one
different_across (x ∷ xs) ys n all (inl here) two = all.0 (member_right xs ys x (subst (λ m. Member m ys) (sym here) two))
different_across (x ∷ xs) ys n all (inr there) two = different_across xs ys n all.1 there two

-- the positions of a sample
pub padded_get : (ns : List ℕ) (n k : ℕ) → get_or (first_four ns) n None ≡ Some k → slice_get ns n ≡ Some k
padded_get ns zero k is = is
padded_get ns (suc zero) k is = is
padded_get ns (suc (suc zero)) k is = is
padded_get ns (suc (suc (suc zero))) k is = is
padded_get ns (suc (suc (suc (suc n)))) k is = cc

pub get_member : (ns : List ℕ) (n k : ℕ) → slice_get ns n ≡ Some k → Member k ns
get_member [] n k is = cc
get_member (x ∷ xs) zero k is = let e : x ≡ k = cc in inl e
get_member (x ∷ xs) (suc n) k is = inr (get_member xs n k is)

pub get_later : (ns : List ℕ) (n k : ℕ) → 1 ≤ n → slice_get ns n ≡ Some k → Member k (drop 1 ns)
get_later [] n k later is = cc
get_later (x ∷ xs) zero k later is = let no : ⊥ = omega (arith, later) in absurd no
get_later (x ∷ xs) (suc n) k later is = get_member xs n k is

pub first_there : (ns : List ℕ) → 2 ≤ length ns → (is_some (slice_get ns 0) ≡ true) × (is_some (slice_get ns 1) ≡ true)
first_there [] two = let no : ⊥ = omega (arith, two) in absurd no
first_there (a ∷ []) two = let no : ⊥ = omega (arith, two) in absurd no
first_there (a ∷ (b ∷ ns)) two = (refl, refl)

pub no_gap : (ns : List ℕ) → slice_get ns 2 ≡ None → slice_get ns 3 ≡ None
no_gap [] none = refl
no_gap (a ∷ []) none = refl
no_gap (a ∷ (b ∷ [])) none = refl
no_gap (a ∷ (b ∷ (c ∷ ns))) none = cc

pub zero_get : (ns : List ℕ) → or_zero (slice_get ns 0) ≡ get_or ns 0 0
zero_get [] = refl
zero_get (a ∷ ns) = refl

abbrev pub at_position : List (Option ℕ) → ℕ → Option ℕ
at_position p n = get_or p n None

pub first_is_number : (s : Sample) → s.p ≡ first_four (numbers s.p) → first_position s ≡ first_number s
unfolding first_number
first_is_number s full = ap (λ p. or_zero (at_position p 0)) full ∙ zero_get (numbers s.p)

abbrev pub model : ℕ → List Sample → List ℕ → Bool → ShaderModel
model uniforms samples words threaded = record { uniforms = uniforms; samples = samples; address_words = words; threaded = threaded }

pub first_member : (samples : List Sample) (i : ℕ) → i < length samples → ((s : Sample) → Member s samples → s.p ≡ first_four (numbers s.p))
    → Member (first_position (get_or samples i no_sample)) (map first_number samples)
first_member samples i inside full =
    let here = member_at no_sample samples i inside in
    let e = first_is_number (get_or samples i no_sample) (full (get_or samples i no_sample) here) in
    let long = length-map samples first_number in
    subst (λ n. Member n (map first_number samples)) (map_at first_number no_sample samples i inside ∙ sym e)
    (member_at 0 (map first_number samples) i (omega (arith, long, inside)))

pub sample_sound : (uniforms : ℕ) (samples : List Sample) (words : List ℕ) (threaded : Bool) (s : Sample) → IsSoundSample uniforms (written samples words) s
    → ((s : Sample) → Member s samples → s.p ≡ first_four (numbers s.p)) → IsSampleSound (model uniforms samples words threaded) s
unfolding written
sample_sound uniforms samples words threaded s is all-full =
    let ns = numbers s.p in
    let get : (n k : ℕ) → position s n ≡ Some k → slice_get ns n ≡ Some k = λ n k at. padded_get ns n k (sym (ap (λ p. at_position p n) is.full) ∙ at) in
    let there = first_there ns is.two in
    record {
      four = ap length is.full;
      first = ap (λ p. is_some (at_position p 0)) is.full ∙ there.0;
      second = ap (λ p. is_some (at_position p 1)) is.full ∙ there.1;
      gapless = λ none. ap (λ p. at_position p 3) is.full ∙ no_gap ns (sym (ap (λ p. at_position p 2) is.full) ∙ none);
      below = λ n k at. is.below k (get_member ns n k (get n k at));
      no_first = λ n k later at i inside same.
          is.apart k (get_later ns n k later (get n k at))
          (member_right words (map first_number samples) k (subst (λ m. Member m (map first_number samples)) same (first_member samples i inside all-full)));
      no_address = λ n k later at j inside same.
          is.apart k (get_later ns n k later (get n k at))
          (member_left words (map first_number samples) k (subst (λ m. Member m words) same (member_at 0 words j inside)));
    }

pub sound_shader : (uniforms : ℕ) (samples : List Sample) (words : List ℕ) (threaded : Bool) → IsSound uniforms samples words
    → IsSoundShader (model uniforms samples words threaded)
unfolding written
sound_shader uniforms samples words threaded is =
    let full : (s : Sample) → Member s samples → s.p ≡ first_four (numbers s.p) = λ s member. (is.each s member).full in
    let firsts = map first_number samples in
    let long = length-map samples first_number in
    let first-is : (i : ℕ) → i < length samples → get_or firsts i 0 ≡ first_position (get_or samples i no_sample) =
    λ i inside. map_at first_number no_sample samples i inside
    ∙ sym (first_is_number (get_or samples i no_sample) (full (get_or samples i no_sample) (member_at no_sample samples i inside))) in
    record {
      samples = λ i inside.
          sample_sound uniforms samples words threaded (get_or samples i no_sample) (is.each (get_or samples i no_sample) (member_at no_sample samples i inside)) full;
      below = λ j inside. is.below (get_or words j 0) (member_at 0 words j inside);
      addresses = λ i j less inside same. different_at words i j (different_front words firsts is.different) less inside same;
      firsts = λ i j less inside same.
          different_at firsts i j (different_rest words firsts is.different) less (omega (arith, long, inside))
          (first-is i (omega (arith, less, inside)) ∙ (same ∙ sym (first-is j inside)));
      apart = λ i j inside-i inside-j same.
          different_across words firsts (get_or words j 0) is.different (member_at 0 words j inside-j)
          (subst (λ n. Member n firsts) same (first_member samples i inside-i full));
    }
