-- What safe accesses leave alone.
use Rattle.std.proofs.Common.{◌≡◌, ℕ, zero, suc, inl, inr, List, [], ◌∷◌, ◌++◌, sym, subst, arith}
use Rattle.field_words.specs.declared.access.{Access.Access, Way.TheVariants.Read}
use Rattle.machine_plan.specs.Regions.{Interval, Inside, Every, Rights, rights_of, regions_joined, IsIn, IsSafeAccess, IsSafeIn, IsOutside, Misses}
use Rattle.machine_plan.specs.{declared.who.Who.Who, Plan.access}
use Rattle.machine_plan.proofs.{Memory.inside_part, Runs.every-weaker}

-- what lies in the first intervals, or in the others, lies in both joined
inside-front : (rs qs : List Interval) (p n : ℕ) → Inside rs p n → Inside (rs ++ qs) p n
inside-front [] qs p n none = absurd none
inside-front (r ∷ rs) qs p n (inl lies) = inl lies
inside-front (r ∷ rs) qs p n (inr lies) = inr (inside-front rs qs p n lies)

pub inside-back : (rs qs : List Interval) (p n : ℕ) → Inside qs p n → Inside (rs ++ qs) p n
inside-back [] qs p n lies = lies
inside-back (r ∷ rs) qs p n lies = inr (inside-back rs qs p n lies)

-- each job's region lies in the regions of all jobs
pub joined_covers : (jobs : List Rights) (j p n : ℕ) → Inside (rights_of jobs j).region p n → Inside (regions_joined jobs) p n
joined_covers [] j p n none = absurd none
joined_covers (one ∷ others) zero p n lies = inside-front one.region (regions_joined others) p n lies
joined_covers (one ∷ others) (suc j) p n lies = inside-back one.region (regions_joined others) p n (joined_covers others j p n lies)

-- a safe access writes no byte that no job may write
pub safe_misses : (jobs : List Rights) (p : ℕ) → IsOutside jobs p → (a : Access) → IsSafeAccess jobs a → Misses p a
safe_misses jobs p out a safe writes from before =
    out a.job (inside_part (rights_of jobs a.job).writable a.place a.len p 1 (safe.writes writes) from (omega arith))

pub all_safe_miss : (jobs : List Rights) (p : ℕ) → IsOutside jobs p → (found : List Access) → Every (IsSafeAccess jobs) found → Every (Misses p) found
all_safe_miss jobs p out found all = every-weaker (IsSafeAccess jobs) (Misses p) (safe_misses jobs p out) found all

-- an access that is safe by the rights of the job that it carries is safe
pub safe_of : (jobs : List Rights) (one : Rights) (a : Access) → rights_of jobs a.job ≡ one → IsSafeIn one a → IsSafeAccess jobs a
safe_of jobs one a are safe = record {
  tame = safe.tame;
  inside = subst (λ r. IsIn r.region a) (sym are) safe.inside;
  writes = λ way. subst (λ r. IsIn r.writable a) (sym are) (safe.writes way);
}

-- a read inside the region is safe
pub read_safe : (r : Rights) (who : Who) (p n : ℕ) → Inside r.region p n → IsSafeIn r (access who Read p n)
read_safe r who p n inside = record { tame = λ e. cc; inside = inside; writes = λ e. absurd cc }
