-- The bytes of a packet in memory, and those behind it.
use Rattle.std.proofs.Common.{◌≡◌, ◌≤◌, ◌<◌, ℕ, suc, ◌+◌, List, [], ◌∷◌, ◌++◌, length, slice_index, refl, ◌∙◌, ap, arith, rules}
use Rattle.std.proofs.lemmas.List.{length-append}
use Rattle.machine_plan.specs.{Memory.bytes_at, Regions.Interval, Regions.Inside}
use Rattle.machine_plan.proofs.Memory.{inside_part}

pub bytes_front : (m : List ℕ) (p : ℕ) (front rest : List ℕ) → bytes_at m p (length (front ++ rest)) ≡ front ++ rest → bytes_at m p (length front) ≡ front
unfolding bytes_at
bytes_front m p [] rest e = refl
bytes_front m p (b ∷ front) rest e =
    let here : slice_index m p ≡ b = cc in
    let behind : bytes_at m (suc p) (length (front ++ rest)) ≡ front ++ rest = cc in
    let later : bytes_at m (suc p) (length front) ≡ front = bytes_front m (suc p) front rest behind in
    cc

pub bytes_behind : (m : List ℕ) (p : ℕ) (front rest : List ℕ) → bytes_at m p (length (front ++ rest)) ≡ front ++ rest → bytes_at m (p + length front) (length rest) ≡ rest
unfolding bytes_at
bytes_behind m p [] rest e = ap (λ q. bytes_at m q (length rest)) (omega arith) ∙ e
bytes_behind m p (b ∷ front) rest e = ap (λ q. bytes_at m q (length rest)) (omega arith) ∙ bytes_behind m (suc p) front rest cc

-- the first byte
pub byte_front : (m : List ℕ) (p : ℕ) (text : List ℕ) → 1 ≤ length text → bytes_at m p (length text) ≡ text → slice_index m p ≡ slice_index text 0
unfolding bytes_at
byte_front m p text some e = search (rules, arith)

pub front_inside : (region : List Interval) (p : ℕ) (front rest : List ℕ) → Inside region p (length (front ++ rest)) → Inside region p (length front)
front_inside region p front rest inside = search (rules, arith, inside_part, length-append)

pub behind_inside : (region : List Interval) (p : ℕ) (front rest : List ℕ) → Inside region p (length (front ++ rest)) → Inside region (p + length front) (length rest)
behind_inside region p front rest inside = search (arith, length-append, inside_part)

pub behind_ends : (p end : ℕ) (front rest : List ℕ) → p + length (front ++ rest) ≡ end → p + length front + length rest ≡ end
behind_ends p end front rest ends = omega (arith, length-append front rest, ends)

pub none_left : (place end : ℕ) → place + 0 ≡ end → place < end → ⊥
none_left place end ends below = omega (arith, ends, below)
