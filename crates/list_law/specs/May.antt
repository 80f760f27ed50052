-- What a job may write.
use Rattle.std.specs.Prelude.{ℕ}
use Rattle.machine_plan.specs.Regions.{Rights, Inside}

-- the job may write these bytes, which lie wholly in one interval of its region, and in one that it may write
pub record MayWrite (r : Rights) (place size : ℕ) : Type 0 where
  pub region : Inside r.region place size
  pub writable : Inside r.writable place size
