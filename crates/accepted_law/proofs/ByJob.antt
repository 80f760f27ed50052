-- Lists with an item for each job: the rights of all jobs, and what no job may write.
use Rattle.std.proofs.Common.{◌≡◌, inl, inr, ℕ, zero, suc, ◌+◌, ◌<◌, ◌≤◌, [], ◌++◌, length, map, sym, subst, arith, zero-add, rules}
use Rattle.std.proofs.lemmas.{Bool.cases_lt, List.get_or_past, List.FromFn.length-map-range_with_len, List.FromFn.get_or-map-range_with_len}
use Rattle.std.specs.List.{range_with_len}
use Rattle.job_format.specs.Model.{FileModel}
use Rattle.machine_plan.specs.Regions.{Inside, Rights, regions_joined}
use Rattle.machine_law.specs.Units.{EachAt}
use Rattle.machine_law.proofs.Apart.{inside_left, inside_either}
use Rattle.promises.specs.Holdings.{of_jobs, lists_of, codes_of, job_rights, file_rights, rights_at, fixed_below, fixed_of}
use Rattle.promises.specs.Rights.{IsOneOf}
use Rattle.machine_plan.proofs.Safe.{inside-back}

-- What is true of each job's item is true of all, one after the other.
pub each_from : {X : Type 0} (P : ℕ → X → Type 0) (item : ℕ → X) (n j : ℕ) → ((k : ℕ) → j ≤ k → k < j + n → P k (item k)) → EachAt P j (map item (range_with_len j n))
each_from P item zero j all = tt
each_from P item (suc n) j all = (all j (omega arith) (omega arith), each_from P item n (j + 1) (λ k from upto. all k (omega (arith, from)) (omega (arith, upto))))

-- The rights of job j are those that the file gives it; behind the last job there are none.
abbrev none : Rights
none = record { region = []; writable = [] }

pub rights_are : (f : FileModel) (j : ℕ) → j < length f.jobs → rights_at f j ≡ job_rights f j
unfolding file_rights
rights_are f j inside = get_or-map-range_with_len (job_rights f) 0 (length f.jobs) j j none inside (zero-add j)

pub rights_past : (f : FileModel) (j : ℕ) → length f.jobs ≤ j → rights_at f j ≡ none
unfolding file_rights
rights_past f j past = get_or_past (of_jobs f (job_rights f)) j none (omega (arith, past, length-map-range_with_len (job_rights f) 0 (length f.jobs)))

pub in_region : (f : FileModel) (j place size : ℕ) → j < length f.jobs → IsOneOf (job_rights f j).region place size → IsOneOf (rights_at f j).region place size
in_region f j place size inside one = subst (λ r. IsOneOf r.region place size) (sym (rights_are f j inside)) one

pub in_writable : (f : FileModel) (j place size : ℕ) → j < length f.jobs → IsOneOf (job_rights f j).writable place size → IsOneOf (rights_at f j).writable place size
in_writable f j place size inside one = subst (λ r. IsOneOf r.writable place size) (sym (rights_are f j inside)) one

-- What lies in the joined regions of jobs lies in that of one of them.
pub record LiesInJob (rights : ℕ → Rights) (n p : ℕ) : Type 0 where
  pub number : ℕ
  pub below : number < n
  pub lies : Inside (rights number).region p 1

in_one_from : (rights : ℕ → Rights) (n j p : ℕ) → Inside (regions_joined (map rights (range_with_len j n))) p 1 → LiesInJob rights (j + n) p
in_one_from rights zero j p lies = absurd lies
in_one_from rights (suc n) j p lies =
    elim (inside_either (rights j).region (regions_joined (map rights (range_with_len (j + 1) n))) p 1 lies) [
      | inl here ↦ record { number = j; below = omega arith; lies = here }
      | inr later ↦ let found = in_one_from rights n (j + 1) p later in record { number = found.number; below = omega (arith, found.below); lies = found.lies }
    ]

pub in_some_job : (f : FileModel) (p : ℕ) → Inside (regions_joined (file_rights f)) p 1 → LiesInJob (job_rights f) (length f.jobs) p
unfolding file_rights
in_some_job f p lies = search (rules, arith, in_one_from)

-- The lists and the code of a job are among those of all.
fixed_there : (f : FileModel) (n j p : ℕ) → j < n → Inside (lists_of f j ++ codes_of f j) p 1 → Inside (fixed_below f n) p 1
unfolding fixed_below
fixed_there f zero j p below lies = absurd (omega (arith, below))
fixed_there f (suc n) j p below lies =
    elim (cases_lt j n) [
      | inl earlier ↦ inside_left (fixed_below f n) (lists_of f n ++ codes_of f n) p 1 (fixed_there f n j p earlier lies)
      | inr past ↦
          let same : j ≡ n = omega (arith, below, past) in
          inside-back (fixed_below f n) (lists_of f n ++ codes_of f n) p 1 (subst (λ k. Inside (lists_of f k ++ codes_of f k) p 1) same lies)
    ]

pub in_fixed : (f : FileModel) (j p : ℕ) → j < length f.jobs → Inside (lists_of f j ++ codes_of f j) p 1 → Inside (fixed_of f) p 1
unfolding fixed_of
in_fixed f j p inside lies = fixed_there f (length f.jobs) j p inside lies
