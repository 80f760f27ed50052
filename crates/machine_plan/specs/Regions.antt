-- Intervals of memory, what a job may reach, and when an access is safe.
use Rattle.std.specs.Prelude.{◌≡◌, ◌≢◌, ◌≤◌, ◌<◌, ℕ, ◌+◌, ◌⊎◌, List, [], ◌∷◌, ◌++◌, length, slice_index, slice_index_or}
use Rattle.field_words.specs.{declared.access.Access.Access, declared.access.Way.TheVariants.Write, declared.access.Way.TheVariants.Wild}

-- P of each item
abbrev pub Every : {X : Type 0} → (X → Type 0) → List X → Type 0
Every P [] = Unit {0}
Every P (x ∷ xs) = P x × Every P xs

-- the size bytes from a place on
pub record Interval : Type 0 where
  pub place : ℕ
  pub size : ℕ

-- n bytes from p on lie in the interval
pub record LiesIn (p n : ℕ) (within : Interval) : Type 0 where
  pub from : within.place ≤ p
  pub upto : p + n ≤ within.place + within.size

-- n bytes from p on lie wholly in one of the intervals
abbrev pub Inside : List Interval → ℕ → ℕ → Type 0
Inside [] p n = ⊥
Inside (one ∷ others) p n = LiesIn p n one ⊎ Inside others p n

-- the access lies wholly in one of the intervals
abbrev pub IsIn : List Interval → Access → Type 0
IsIn intervals a = Inside intervals a.place a.len

-- What one job may reach: its region, and the part of it that it may write.
pub record Rights : Type 0 where
  pub region : List Interval
  pub writable : List Interval

-- the rights of a job by its number; a number that no job has gives none
abbrev pub rights_of : List Rights → ℕ → Rights
rights_of jobs j = slice_index_or jobs j (record { region = []; writable = [] })

-- the regions of all jobs, joined
abbrev pub regions_joined : List Rights → List Interval
regions_joined [] = []
regions_joined (one ∷ others) = one.region ++ regions_joined others

-- An access is safe where it isn't undefined, lies wholly in one interval of the region of the job
-- that it carries, and, where it writes, in one interval of what that job may write.
pub record IsSafeAccess (jobs : List Rights) (a : Access) : Type 0 where
  pub tame : a.way ≢ Wild
  pub inside : IsIn (rights_of jobs a.job).region a
  pub writes : a.way ≡ Write → IsIn (rights_of jobs a.job).writable a

-- An access of one job is safe by what that job may reach.
pub record IsSafeIn (one : Rights) (a : Access) : Type 0 where
  pub tame : a.way ≢ Wild
  pub inside : IsIn one.region a
  pub writes : a.way ≡ Write → IsIn one.writable a

-- a place that no job may write
abbrev pub IsOutside : List Rights → ℕ → Type 0
IsOutside jobs p = (j : ℕ) → Inside (rights_of jobs j).writable p 1 → ⊥

-- every byte outside what the jobs may write is as before
pub record IsKept (jobs : List Rights) (before after : List ℕ) : Type 0 where
  pub long : length after ≡ length before
  pub same : (p : ℕ) → IsOutside jobs p → slice_index after p ≡ slice_index before p

-- As long as the first memory, with every byte as there that some job may reach and none may write: lists, code and streams.
-- All other bytes may differ.
pub record HasReadOnly (jobs : List Rights) (first m : List ℕ) : Type 0 where
  pub long : length m ≡ length first
  pub same : (p : ℕ) → Inside (regions_joined jobs) p 1 → IsOutside jobs p → slice_index m p ≡ slice_index first p

-- two memories of one length that agree on the bytes of the intervals
pub record Agree (intervals : List Interval) (m k : List ℕ) : Type 0 where
  pub long : length m ≡ length k
  pub same : (p : ℕ) → Inside intervals p 1 → slice_index m p ≡ slice_index k p

-- no write of this access touches the byte at p
abbrev pub Misses : ℕ → Access → Type 0
Misses p a = a.way ≡ Write → a.place ≤ p → p < a.place + a.len → ⊥
