-- A byte of a job's lists and code is no job's to write.
use Rattle.std.proofs.Common.{◌≤◌, ◌⊎◌, inl, inr, ℕ, ◌+◌, ◌-◌, List, [], ◌∷◌, ◌++◌, refl, subst, arith, rules}
use Rattle.job_format.specs.Model.{FileModel}
use Rattle.machine_plan.specs.Regions.{Interval, Inside, IsOutside}
use Rattle.promises.specs.{Rights.IsOneOf, Rights.IsFixed, Holdings.lists_of, Holdings.codes_of, Holdings.file_rights}
use Rattle.accepted_law.specs.Held.{AreFixed}
use Rattle.accepted_law.proofs.Intervals.{both_lists, code_held}

-- what lies inside some of them lies inside one
pub record LiesInOne (intervals : List Interval) (p n : ℕ) : Type 0 where
  pub place : ℕ
  pub size : ℕ
  pub one : IsOneOf intervals place size
  pub from : place ≤ p
  pub upto : p + n ≤ place + size

pub in_one : (intervals : List Interval) (p n : ℕ) → Inside intervals p n → LiesInOne intervals p n
in_one [] p n inside = absurd inside
in_one (first ∷ others) p n (inl lies) = record { place = first.place; size = first.size; one = inl refl; from = lies.from; upto = lies.upto }
in_one (first ∷ others) p n (inr there) = search (rules, arith, in_one others p n there)

fixed_at : (f : FileModel) (j place size : ℕ) → AreFixed f j → IsOneOf (lists_of f j) place size ⊎ IsOneOf (codes_of f j) place size → IsFixed (file_rights f) place size
fixed_at f j place size fixed h5 = search (rules, arith, code_held)

pub fixed_byte : (f : FileModel) (j p : ℕ) → AreFixed f j → Inside (lists_of f j ++ codes_of f j) p 1 → IsOutside (file_rights f) p
fixed_byte f j p fixed lies =
    let here = in_one (lists_of f j ++ codes_of f j) p 1 lies in
    let from = here.from in
    let upto = here.upto in
    subst (λ q. IsOutside (file_rights f) q) (omega (arith, from))
    (fixed_at f j here.place here.size fixed (both_lists (lists_of f j) (codes_of f j) here.place here.size here.one) (p - here.place) (omega (arith, from, upto)))
