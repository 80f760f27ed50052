-- The lines of a script, and the calls that they are.
use Rattle.std.specs.Prelude.{ℕ, is_some, ◌≤◌, ◌<◌, Bool, bytes_eq, codes, List, Option, Some, None, option_map, if◌then◌else◌}
use Rattle.script.specs.{Lines.before, Lines.behind, Lines.first_malformed, Number.number_within}
use Rattle.overflow_slots.specs.declared.call.Call.TheVariants.{Begin, Take, Overflow, End}
use Rattle.overflow_slots.specs.declared.call.Call.{Call}

-- the greatest job, and the most tiles of one
abbrev pub last_job : ℕ
last_job = 31

abbrev pub most_tiles : ℕ
most_tiles = 65025

abbrev pub begin_by : Option ℕ → Option ℕ → Option Call
begin_by None tiles = None
begin_by (Some job) None = None
begin_by (Some job) (Some tiles) = Some (Begin job tiles)

-- `begin <job> <tiles>`, where this is what stands behind the first word
abbrev pub begin_of : List ℕ → Option Call
begin_of words = begin_by (number_within last_job (before 32 words)) (number_within most_tiles (behind 32 words))

-- `take <job>`, `overflow <job>`, `end <job>`
abbrev pub call_named : List ℕ → List ℕ → Option Call
call_named name words =
    if bytes_eq name (codes "begin") then begin_of words
    else (if bytes_eq name (codes "take") then option_map Take (number_within last_job words)
    else (if bytes_eq name (codes "overflow") then option_map Overflow (number_within last_job words)
    else (if bytes_eq name (codes "end") then option_map End (number_within last_job words) else None)))

-- the call that a line is; words are parted by one space
unfoldable pub call_of : List ℕ → Option Call
call_of line = call_named (before 32 line) (behind 32 line)

unfoldable pub is_formed : List ℕ → Bool
is_formed line = is_some (call_of line)

-- the number of a script's first line that is no call
unfoldable pub fault_line : List ℕ → Option ℕ
fault_line text = first_malformed is_formed text

-- the numbers of a call are in their ranges
abbrev pub IsInRange : Call → Type 0
IsInRange (Begin job tiles) = (job < 32) × (tiles ≤ most_tiles)
IsInRange (Take job) = job < 32
IsInRange (Overflow job) = job < 32
IsInRange (End job) = job < 32
