-- The words of a kind of unit and of seeds.
use Rattle.std.specs.Prelude.{ℕ, ◌≤◌, ◌<◌, ◌+◌, ◌-◌, ◌^◌, ◌==◌, ◌&&◌, nat_le, nat_lt, List, [], ◌∷◌, codes, bytes_eq, Option, Some, None, if◌then◌else◌}
use Rattle.replay.specs.declared.units.UnitKind.TheVariants.{Binner, Renderer, Qpu, Tmu}
use Rattle.replay.specs.declared.units.UnitKind.{UnitKind}
use Rattle.script.specs.{Lines.before, Lines.behind, Number.number_within}
use Rattle.seeded_runs.specs.Report.{most_seeds}
use Rattle.commands.specs.declared.trial.SeedRange.{SeedRange}

-- the greatest seed
abbrev pub most_seed : ℕ
most_seed = 2 ^ 64 - 1

abbrev pub unit_named : List ℕ → Option UnitKind
unit_named word =
    if bytes_eq word (codes "qpu") then Some Qpu
    else (if bytes_eq word (codes "texture") then Some Tmu
    else (if bytes_eq word (codes "binner") then Some Binner else (if bytes_eq word (codes "renderer") then Some Renderer else None)))

-- "A..B" are the seeds from A to before B, of which there is one at least and so many at most
abbrev pub range_of : (first past : ℕ) → Option SeedRange
range_of first past =
    if nat_lt first past && nat_le (past - first) most_seeds then Some (record { first = first; count = past - first }) else None

-- a range of seeds that there are
abbrev pub IsRangeWithin : SeedRange → Type 0
IsRangeWithin range = (1 ≤ range.count) × (range.count ≤ most_seeds) × (range.first + range.count < 2 ^ 64)

abbrev pub range_by : Option ℕ → Option ℕ → Option SeedRange
range_by None past = None
range_by (Some first) None = None
range_by (Some first) (Some past) = range_of first past

abbrev pub behind_dot : List ℕ → Option ℕ
behind_dot [] = None
behind_dot (byte ∷ bytes) = if byte == 46 then number_within most_seed bytes else None

unfoldable pub seeds_named : List ℕ → Option SeedRange
seeds_named word = range_by (number_within most_seed (before 46 word)) (behind_dot (behind 46 word))
