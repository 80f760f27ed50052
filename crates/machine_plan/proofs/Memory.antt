-- Laws on intervals, and on bytes that are read and written.
use Rattle.std.proofs.Common.{◌≡◌, ◌≢◌, ◌≤◌, ◌<◌, ℕ, zero, suc, ◌+◌, inl, inr, List, [], ◌∷◌, length, slice_index, slice_set, refl, sym, ◌∙◌, ap, arith, take, drop, ◌++◌, add-one, add-zero, append_assoc}
use Rattle.std.proofs.lemmas.{Grind.common_steps, List.get_or-set_same, List.get_or-set_other, List.length-set, List.Edits.sets-eq}
use Rattle.field_words.specs.Writes.{with_bytes}
use Rattle.machine_plan.specs.{Memory.bytes_at, Memory.bytes_stored, Regions.Interval, Regions.Inside, Regions.Agree}

-- a part of what lies inside lies inside
pub inside_part : (rs : List Interval) (p n q k : ℕ) → Inside rs p n → p ≤ q → q + k ≤ p + n → Inside rs q k
inside_part [] p n q k h low high = absurd h
inside_part (r ∷ rs) p n q k (inl h) low high = inl (record { from = omega (arith, h.from); upto = omega (arith, h.upto) })
inside_part (r ∷ rs) p n q k (inr h) low high = inr (inside_part rs p n q k h low high)

pub length-bytes_at : (m : List ℕ) (p n : ℕ) → length (bytes_at m p n) ≡ n
unfolding bytes_at
length-bytes_at m p zero = refl
length-bytes_at m p (suc n) = ap suc (length-bytes_at m (suc p) n)

pub length-stored : (m : List ℕ) (p : ℕ) (bs : List ℕ) → length (bytes_stored m p bs) ≡ length m
unfolding bytes_stored
length-stored m p [] = refl
length-stored m p (b ∷ bs) = length-stored (slice_set m p b) (suc p) bs ∙ length-set m p b

-- memories that agree give the same bytes inside
pub bytes_agree : (rs : List Interval) (m k : List ℕ) → Agree rs m k → (p n : ℕ) → Inside rs p n → bytes_at m p n ≡ bytes_at k p n
unfolding bytes_at
bytes_agree rs m k agree p zero h = refl
bytes_agree rs m k agree p (suc n) h =
    let here : slice_index m p ≡ slice_index k p = agree.same p (inside_part rs p (suc n) p 1 h (omega arith) (omega arith)) in
    let rest : bytes_at m (suc p) n ≡ bytes_at k (suc p) n = bytes_agree rs m k agree (suc p) n (inside_part rs p (suc n) (suc p) n h (omega arith) (omega arith)) in
    cc

-- one byte written in both keeps what was the same
pub same-set : (m k : List ℕ) (p b q : ℕ) → length m ≡ length k → slice_index m q ≡ slice_index k q → slice_index (slice_set m p b) q ≡ slice_index (slice_set k p b) q
same-set m k p b q long same = grind (arith, common_steps, get_or-set_same, get_or-set_other)

-- one write in both keeps the agreement, wherever it goes
pub stored_agree : (rs : List Interval) (bs : List ℕ) (m k : List ℕ) (p : ℕ) → Agree rs m k → Agree rs (bytes_stored m p bs) (bytes_stored k p bs)
unfolding bytes_stored
stored_agree rs [] m k p agree = agree
stored_agree rs (b ∷ bs) m k p agree =
    stored_agree rs bs (slice_set m p b) (slice_set k p b) (suc p) (record {
      long = length-set m p b ∙ (agree.long ∙ sym (length-set k p b));
      same = λ q h. same-set m k p b q agree.long (agree.same q h);
    })

-- a write keeps each byte outside it
pub stored_keeps : (bs : List ℕ) (m : List ℕ) (p q : ℕ) → (p ≤ q → q < p + length bs → ⊥) → slice_index (bytes_stored m p bs) q ≡ slice_index m q
unfolding bytes_stored
stored_keeps [] m p q out = refl
stored_keeps (b ∷ bs) m p q out =
    let other : q ≢ p = λ e. out (omega arith) (omega arith) in
    stored_keeps bs (slice_set m p b) (suc p) q (λ low high. out (omega arith) (omega arith)) ∙ get_or-set_other m p q b 0 other

-- one more byte
bytes_suc : (m : List ℕ) (p n : ℕ) → bytes_at m p (suc n) ≡ bytes_at m p n ++ slice_index m (p + n) ∷ []
unfolding bytes_at
bytes_suc m p zero = ap (λ q. slice_index m q ∷ []) (sym (add-zero p))
bytes_suc m p (suc n) =
    ap (λ rest. slice_index m p ∷ rest) ((bytes_suc m (suc p) n) ∙ ap (λ q. bytes_at m (suc p) n ++ slice_index m q ∷ []) (omega arith))

pub bytes_more : (m : List ℕ) (p n : ℕ) → bytes_at m p (n + 1) ≡ bytes_at m p n ++ slice_index m (p + n) ∷ []
bytes_more m p n = rw add-one (bytes_suc m p n)

-- a write of one byte inside the memory
pub with_one_byte : (m : List ℕ) (p b : ℕ) → p < length m → with_bytes m p (b ∷ []) ≡ slice_set m p b
with_one_byte m p b inside = sym (sets-eq (b ∷ []) m p (omega arith) ∙ append_assoc (take p m) (b ∷ []) (drop (p + 1) m))

-- a write past the end of the memory changes nothing
pub set_outside : (m : List ℕ) (p b : ℕ) → length m ≤ p → slice_set m p b ≡ m
set_outside [] p b outside = refl
set_outside (x ∷ m) zero b outside = absurd (omega arith)
set_outside (x ∷ m) (suc p) b outside = ap (λ rest. x ∷ rest) (set_outside m p b (omega arith))

suc_moves : (p i : ℕ) → suc p + i ≡ p + suc i
suc_moves p i = omega arith

-- bytes that are the same one by one
pub bytes_same : (m k : List ℕ) (p q n : ℕ) → ((i : ℕ) → i < n → slice_index m (p + i) ≡ slice_index k (q + i)) → bytes_at m p n ≡ bytes_at k q n
unfolding bytes_at
bytes_same m k p q zero same = refl
bytes_same m k p q (suc n) same =
    let here : slice_index m p ≡ slice_index k q = ap (λ a. slice_index m a) (sym (add-zero p)) ∙ (same 0 (omega arith) ∙ ap (λ a. slice_index k a) (add-zero q)) in
    let rest : bytes_at m (suc p) n ≡ bytes_at k (suc q) n = bytes_same m k (suc p) (suc q) n (λ i below. ap (λ a. slice_index m a) (suc_moves p i) ∙ (same (suc i) (omega arith) ∙ ap (λ a. slice_index k a) (sym (suc_moves q i)))) in
    cc
