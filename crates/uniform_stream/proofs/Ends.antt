-- The last address write, and what a backward branch leaves open.
use Rattle.std.proofs.Common.{◌≡◌, ◌≤◌, ◌<◌, ◌+◌, ◌-◌, ℕ, zero, suc, Bool, true, false, not, ◌&&◌, nat_le, nat_lt, List, [], ◌∷◌, ◌++◌, length, length-append, slice_index, sym, ap, subst, inl, inr, arith, ◌∙◌}
use Rattle.std.proofs.lemmas.Bool.{cases_Bool, cases_lt, and_left, true≢false, false_from_ne_true, leb-true, leb-false, le-ltb}
use Rattle.std.proofs.lemmas.List.{places}
use Rattle.qpu_isa.specs.Terms.{is_address_write, is_backward}
use Rattle.shader_flow.specs.{Bounded.some_in, Bounded.indexes, Flow.word, Flow.checked_of}
use Rattle.shader_flow.proofs.Bounded.{some_in_here, some_in_none, indexes_not}
use Rattle.uniform_stream.specs.{Stream.writes_address, Stream.leaves_open, Walk.IsAddressEnd}

-- one instruction more
pub end_here : (code : List ℕ) (n last : ℕ) → IsAddressEnd code n last → writes_address code n ≡ true → IsAddressEnd code (n + 1) (n + 1)
end_here code n last end writes = record {
  before = λ k below is. omega (arith, below);
  inside = omega arith;
  written = λ some. let e : n + 1 - 1 ≡ n = omega arith in subst (λ m. writes_address code m ≡ true) (sym e) writes;
}

pub end_same : (code : List ℕ) (n last : ℕ) → IsAddressEnd code n last → writes_address code n ≡ false → IsAddressEnd code (n + 1) last
end_same code n last end none = record {
  before = λ k below is. elim (cases_lt k n) [
    | inl earlier ↦ end.before k earlier is
    | inr here ↦ (let e : k ≡ n = omega (arith, below, here) in absurd (true≢false (sym is ∙ subst (λ m. writes_address code m ≡ false) (sym e) none)))
  ];
  inside = omega (arith, end.inside);
  written = end.written;
}

-- none of a branch's later instructions writes the address exactly where the last that does comes before
pub none_after : (code : List ℕ) (n last from : ℕ) → IsAddressEnd code n last → nat_le last from ≡ true → some_in from n (writes_address code) ≡ false
none_after code n last from end less =
    let low = leb-true last from less in
    some_in_none from n (writes_address code)
    (λ k after below. false_from_ne_true (writes_address code k) (λ is. let early = end.before k below is in omega (arith, early, after, low)))

pub one_after : (code : List ℕ) (n last from : ℕ) → IsAddressEnd code n last → nat_le last from ≡ false → some_in from n (writes_address code) ≡ true
one_after code n last from end more =
    let high = leb-false last from more in
    some_in_here from n (last - 1) (writes_address code) (omega (arith, high)) (omega (arith, high, end.inside)) (end.written (omega (arith, high)))

pub open_is : (code : List ℕ) (at last : ℕ) → IsAddressEnd code (checked_of code) last → is_backward (word code at) ≡ true
    → nat_le last (at + 4) ≡ leaves_open code at
unfolding leaves_open
open_is code at last end back =
    elim (cases_Bool (nat_le last (at + 4))) [
      | inl less ↦
          less ∙ sym (ap (λ b. b && not (some_in (at + 4) (checked_of code) (writes_address code))) back
          ∙ ap not (none_after code (checked_of code) last (at + 4) end less))
      | inr more ↦
          more ∙ sym (ap (λ b. b && not (some_in (at + 4) (checked_of code) (writes_address code))) back
          ∙ ap not (one_after code (checked_of code) last (at + 4) end more))
    ]

pub closed_is : (code : List ℕ) (at : ℕ) (b : Bool) → b ≡ is_backward (word code at) → b ≡ false → b ≡ leaves_open code at
unfolding leaves_open
closed_is code at b is none =
    none ∙ sym (and_left (is_backward (word code at)) (not (some_in (at + 4) (checked_of code) (writes_address code))) (sym is ∙ none))

-- past the checked instructions none writes the address
pub past_not : (code : List ℕ) (k : ℕ) → checked_of code ≤ k → writes_address code k ≡ false
unfolding writes_address
past_not code k past = and_left (nat_lt k (checked_of code)) (is_address_write (word code k)) (le-ltb k (checked_of code) past)

pub indexes_past : (p : ℕ → Bool) (n d : ℕ) → ((k : ℕ) → n ≤ k → p k ≡ false) → indexes (n + d) p ≡ indexes n p
indexes_past p n zero none = let e : n + 0 ≡ n = omega arith in ap (λ m. indexes m p) e
indexes_past p n (suc d) none =
    let e : n + suc d ≡ n + d + 1 = omega arith in
    ap (λ m. indexes m p) e ∙ (indexes_not (n + d) p (none (n + d) (omega arith)) ∙ indexes_past p n d none)

pub address_indexes : (code : List ℕ) (n : ℕ) → checked_of code ≤ n → indexes n (writes_address code) ≡ indexes (checked_of code) (writes_address code)
address_indexes code n past =
    let e : checked_of code + (n - checked_of code) ≡ n = omega (arith, past) in
    ap (λ m. indexes m (writes_address code)) (sym e) ∙ indexes_past (writes_address code) (checked_of code) (n - checked_of code) (past_not code)

-- a list with one more
pub longer : {X : Type 0} {n : ℕ} (xs : List X) (x : X) → length xs ≡ n → length (xs ++ (x ∷ [])) ≡ n + 1
longer xs x size = let long = length-append xs (x ∷ []) in omega (arith, long, size)

pub one_more : (f : ℕ → ℕ) (n : ℕ) (xs : List ℕ) (x : ℕ) → length xs ≡ n → ((i : ℕ) → i < n → slice_index xs i ≡ f i) → x ≡ f n
    → (i : ℕ) → i ≤ n → slice_index (xs ++ (x ∷ [])) i ≡ f i
one_more f n xs x size items last i below =
    elim (cases_lt i n) [
      | inl earlier ↦ (let e = items i earlier in let short : i < length xs = omega (arith, earlier, size) in grind (arith, places, e, short))
      | inr here ↦ (let e : i ≡ n = omega (arith, below, here) in let f-is = ap f e in let at : i ≡ length xs = omega (arith, e, size) in grind (arith, places, last, f-is, at))
    ]
