-- Counts of faults.
use Rattle.std.specs.Prelude.{◌≡◌, ◌≤◌, ℕ, ◌+◌, ◌-◌, ◌^◌, min, List, Option}
use Rattle.job_io.specs.Traffic.{KeepsOrHides}

-- the count of faults or of calls after one more; it stays at its last value once it has come there
abbrev pub count_after : ℕ → ℕ
count_after count = min (count + 1) (2 ^ 64 - 1)

-- The count rose in a call: it is greater than before, or stands at its last value.
abbrev pub Rose : ℕ → ℕ → Type 0
Rose before now = count_after before ≤ now

-- A source or a sink came from one state to another by calls of which the last failed and no other did: at the state before the
-- last call no fault was counted, and that call left the bytes as they were. So no byte passed after a failure.
abbrev pub LastCallFailed : {X : Type 0} → (X → Option (List ℕ)) → (X → ℕ) → X → X → Type 0
LastCallFailed {X} bytes faults old new = (last : X) × (faults last ≡ faults old) × KeepsOrHides (bytes last) (bytes new) × Rose (faults last) (faults new)
