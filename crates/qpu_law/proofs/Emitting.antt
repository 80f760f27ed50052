-- From the lists of an emitted stream to the instructions.
use Rattle.std.proofs.Common.{◌≡◌, ◌<◌, inl, inr, ℕ, zero, suc, Bool, true, if◌then◌else◌, List, [], ◌∷◌, map, length, sym, ap, subst, arith, ◌∙◌}
use Rattle.std.proofs.lemmas.Bool.{cases_eq}
use Rattle.std.specs.Prelude.{slice_index, slice_index_or}
use Rattle.shader_flow.specs.{Bounded.indexes, Flow.checked_of, Pending.count_of}
use Rattle.uniform_stream.specs.Stream.{writes_address, is_open, address_words_of}
use Rattle.shader_check.specs.Info.{is_sample, sample_of, samples_of}
use Rattle.shader_check.proofs.{Listed.Member, Members.member_left, Members.member_right, SoundInfo.address_write_at, SoundInfo.asks_parts}
use Rattle.qpu_isa.specs.Shader.{no_sample}
use Rattle.emitted_facts.specs.Facts.{IsSampleIn}
use Rattle.qpu_law.specs.{Emitted.StreamsServe, Stream.IsAddressCount}
use Rattle.promises.specs.Rights.{IsOneOf}

-- where a member stands
record StandsAt {X : Type 0} (xs : List X) (d x : X) : Type 0 where
  at : ℕ
  below : at < length xs
  is : slice_index_or xs at d ≡ x

stands_at : {X : Type 0} (xs : List X) (d x : X) → Member x xs → StandsAt xs d x
stands_at [] d x none = absurd none
stands_at (first ∷ later) d x (inl is) = record { at = 0; below = omega arith; is = is }
stands_at (first ∷ later) d x (inr there) =
    let found = stands_at later d x there in
    let below = found.below in
    record { at = suc found.at; below = omega (arith, below); is = found.is }

member_map : {X Y : Type 0} (f : X → Y) (xs : List X) (x : X) → Member x xs → Member (f x) (map f xs)
member_map f [] x none = absurd none
member_map f (first ∷ later) x (inl is) = inl (ap f is)
member_map f (first ∷ later) x (inr there) = inr (member_map f later x there)

member_index : (n k : ℕ) (p : ℕ → Bool) → k < n → p k ≡ true → Member k (indexes n p)
unfolding indexes
member_index zero k p below here = absurd (omega (arith, below))
member_index (suc n) k p below here =
    elim (cases_eq k n) [
      | inl same ↦
          member_right (indexes n p) (if p n then n ∷ [] else []) k
          (subst (λ b. Member k (if b then n ∷ [] else [])) (sym (subst (λ m. p m ≡ true) same here)) (inl (sym same)))
      | inr other ↦ member_left (indexes n p) (if p n then n ∷ [] else []) k (member_index n k p (omega (arith, below, other)) here)
    ]

sample_member : (code : List ℕ) (n : ℕ) → is_sample code n ≡ true → Member (sample_of code n) (samples_of code)
unfolding samples_of
sample_member code n is = member_map (sample_of code) (indexes (checked_of code) (is_sample code)) n (member_index (checked_of code) n (is_sample code) (asks_parts code n is).0 is)

address_member : (code : List ℕ) (k : ℕ) → IsAddressCount code k → Member k (address_words_of code)
unfolding address_words_of
address_member code k (inl one) =
    let list = map (count_of code) (indexes (checked_of code) (writes_address code)) in
    member_left list (if is_open code then count_of code (length code) ∷ [] else []) k
    (subst (λ c. Member c list) one.is
    (member_map (count_of code) (indexes (checked_of code) (writes_address code)) one.by (member_index (checked_of code) one.by (writes_address code) (address_write_at code one.by one.writes).0 one.writes)))
address_member code k (inr last) =
    member_right (map (count_of code) (indexes (checked_of code) (writes_address code))) (if is_open code then count_of code (length code) ∷ [] else []) k
    (subst (λ b. Member k (if b then count_of code (length code) ∷ [] else [])) (sym last.opened) (inl last.is))

pub streams_serve_law : StreamsServe
streams_serve_law h buffers shader report emitted = record {
  addresses = λ k address.
      (let found = stands_at shader.address_words 0 k (subst (λ xs. Member k xs) (sym report.address_words) (address_member h.code k address)) in
      sym (ap (λ c. slice_index h.words c) found.is) ∙ emitted.addresses found.at found.below);
  samples = λ n sample.
      (let found = stands_at shader.samples no_sample (sample_of h.code n) (subst (λ xs. Member (sample_of h.code n) xs) (sym report.samples) (sample_member h.code n sample)) in
      subst (λ s. IsSampleIn (IsOneOf buffers) (λ k. slice_index h.words k) s) found.is (emitted.samples found.at found.below));
}
