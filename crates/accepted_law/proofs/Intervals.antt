-- Intervals of lists, and those of the buffers that handles name. So the rights of a job are no more than what it holds.
use Rattle.std.proofs.Common.{◌≡◌, ◌⊎◌, inl, inr, ℕ, zero, suc, ◌<◌, List, [], ◌∷◌, ◌++◌, Option, Some, refl, sym, ap, arith, ◌∙◌, rules}
use Rattle.std.proofs.lemmas.Bool.{cases_lt}
use Rattle.buffer_table.specs.{declared.buffer.Buffer.Buffer, Table.buffer_at}
use Rattle.machine_plan.specs.Regions.{Interval}
use Rattle.promises.specs.Holdings.{interval_where, named_buffers, plain_of, codes_of, lists_of, slot_in, IsNamedCode}
use Rattle.promises.specs.Rights.{IsOneOf}
use Rattle.shader_records.specs.Named.{IsDataIn}
use Rattle.job_format.specs.Model.{FileModel}
use Rattle.job_check.specs.{Jobs.job_of, Shaders.table_of}
use Rattle.accepted_law.specs.Held.{IsSlot, IsToWrite, IsToReach, RightsAreHeld}
use Rattle.accepted_law.proofs.ByJob.{rights_are}

-- one of the intervals of two lists
pub one_left : (front rest : List Interval) (place size : ℕ) → IsOneOf front place size → IsOneOf (front ++ rest) place size
one_left [] rest place size one = absurd one
one_left (first ∷ front) rest place size (inl is) = inl is
one_left (first ∷ front) rest place size (inr other) = inr (one_left front rest place size other)

pub one_right : (front rest : List Interval) (place size : ℕ) → IsOneOf rest place size → IsOneOf (front ++ rest) place size
one_right [] rest place size one = one
one_right (first ∷ front) rest place size one = inr (one_right front rest place size one)

pub both_lists : (front rest : List Interval) (place size : ℕ) → IsOneOf (front ++ rest) place size → IsOneOf front place size ⊎ IsOneOf rest place size
both_lists [] rest place size one = inr one
both_lists (first ∷ front) rest place size (inl is) = inl (inl is)
both_lists (first ∷ front) rest place size (inr other) = search (rules, arith, both_lists front rest place size other)

-- The buffer that a handle names is among those of all handles, and each of those is named by one.
where_some : (buffers : List Buffer) (found : Option ℕ) (number : ℕ) → found ≡ Some number
    → IsOneOf (interval_where buffers found) (buffer_at buffers number).place (buffer_at buffers number).size
where_some buffers found number is = search (rules, arith)

pub named_there : (names : ℕ → Option ℕ) (buffers : List Buffer) (n handle number : ℕ) → handle < n → names handle ≡ Some number
    → IsOneOf (named_buffers names buffers n) (buffer_at buffers number).place (buffer_at buffers number).size
unfolding named_buffers
named_there names buffers zero handle number below is = absurd (omega (arith, below))
named_there names buffers (suc n) handle number below is =
    let place = (buffer_at buffers number).place in
    let size = (buffer_at buffers number).size in
    elim (cases_lt handle n) [
      | inl before ↦ one_left (named_buffers names buffers n) (interval_where buffers (names n)) place size (named_there names buffers n handle number before is)
      | inr past ↦
          (let same : handle ≡ n = omega (arith, below, past) in
          one_right (named_buffers names buffers n) (interval_where buffers (names n)) place size
          (where_some buffers (names n) number (sym (ap names same) ∙ is)))
    ]

pub record IsNamedBy (names : ℕ → Option ℕ) (buffers : List Buffer) (place size : ℕ) : Type 0 where
  pub handle : ℕ
  pub number : ℕ
  pub named : names handle ≡ Some number
  pub place_is : place ≡ (buffer_at buffers number).place
  pub size_is : size ≡ (buffer_at buffers number).size

where_named : (names : ℕ → Option ℕ) (buffers : List Buffer) (handle : ℕ) (found : Option ℕ) (place size : ℕ) → names handle ≡ found
    → IsOneOf (interval_where buffers found) place size → IsNamedBy names buffers place size
where_named names buffers handle found place size is one = search (rules, arith)

pub named_by : (names : ℕ → Option ℕ) (buffers : List Buffer) (n place size : ℕ) → IsOneOf (named_buffers names buffers n) place size → IsNamedBy names buffers place size
unfolding named_buffers
named_by names buffers zero place size one = absurd one
named_by names buffers (suc n) place size one =
    elim (both_lists (named_buffers names buffers n) (interval_where buffers (names n)) place size one) [
      | inl before ↦ named_by names buffers n place size before
      | inr here ↦ where_named names buffers n (names n) place size refl here
    ]

plain_held : (f : FileModel) (j place size : ℕ) → IsOneOf (plain_of f j) place size → IsDataIn (table_of f) (job_of f j).handles place size
unfolding plain_of
plain_held f j place size one = search (rules, arith, named_by)

pub code_held : (f : FileModel) (j place size : ℕ) → IsOneOf (codes_of f j) place size → IsNamedCode f j place size
unfolding codes_of
code_held f j place size one = search (rules, arith, named_by)

slot_held : (f : FileModel) (j place size : ℕ) → slot_in f j ≡ record { place = place; size = size } → IsSlot f j place size
unfolding slot_in
slot_held f j place size is = record { place_is = sym (ap (λ i. i.place) is); size_is = sym (ap (λ i. i.size) is) }

written : (f : FileModel) (j place size : ℕ) → IsOneOf (slot_in f j ∷ plain_of f j) place size → IsToWrite f j place size
written f j place size (inl slot) = inl (slot_held f j place size slot)
written f j place size (inr plain) = inr (plain_held f j place size plain)

listed : (f : FileModel) (j place size : ℕ) → IsOneOf (lists_of f j) place size ⊎ IsOneOf (codes_of f j) place size → IsToReach f j place size
listed f j place size h4 = search (rules, arith, code_held)

behind : (f : FileModel) (j place size : ℕ) → IsOneOf (plain_of f j) place size ⊎ IsOneOf (lists_of f j ++ codes_of f j) place size → IsToReach f j place size
behind f j place size h4 = search (rules, arith, plain_held, listed, both_lists)

reached : (f : FileModel) (j place size : ℕ) → IsOneOf (slot_in f j ∷ (plain_of f j ++ (lists_of f j ++ codes_of f j))) place size → IsToReach f j place size
reached f j place size (inl slot) = inl (inl (slot_held f j place size slot))
reached f j place size (inr others) = behind f j place size (both_lists (plain_of f j) (lists_of f j ++ codes_of f j) place size others)

pub rights_are_held_law : RightsAreHeld
rights_are_held_law f j inside = search (rules, arith, reached, rights_are, written)
