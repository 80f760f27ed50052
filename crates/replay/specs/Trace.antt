-- What is kept of a step.
use Rattle.std.specs.Prelude.{◌≡◌, ℕ, ◌+◌, ◌-◌, ◌^◌, ◌==◌, ◌&&◌, min, max, if◌then◌else◌, IsTrue, List, fold}
use Rattle.field_words.specs.declared.access.Way.TheVariants.{Read, Write, Wild}
use Rattle.field_words.specs.{declared.access.Access.Access, declared.access.Actor.Actor, declared.access.Way.Way}
use Rattle.replay.specs.declared.trace.TraceLine.{TraceLine}

-- the line of a step that did nothing yet
abbrev pub empty_line : Actor → ℕ → TraceLine
empty_line unit job = record { unit = unit; job = job; reads = 0; writes = 0; low = 0; high = 0 }

-- where an access ends; the program's numbers end at 2^64 - 1
unfoldable pub end_of : Access → ℕ
end_of a = min (a.place + a.len) (2 ^ 64 - 1)

-- the least place so far; the first access has it
abbrev pub lesser : TraceLine → ℕ → ℕ
lesser line place = if line.reads == 0 && line.writes == 0 then place else min line.low place

abbrev pub access_counted : TraceLine → Access → Way → TraceLine
access_counted line a Read = record line { reads = line.reads + 1; low = lesser line a.place; high = max line.high (end_of a) }
access_counted line a Write = record line { writes = line.writes + 1; low = lesser line a.place; high = max line.high (end_of a) }
access_counted line a Wild = line

-- The line with one access more: it is a read or a write, and the places that were touched reach from the least place to the
-- greatest end. An undefined one is left out.
unfoldable pub with_access : TraceLine → Access → TraceLine
with_access line a = access_counted line a a.way

-- While a line is made, its least place is the greatest number as long as there is no access.
abbrev pub IsOpen : TraceLine → Type 0
IsOpen line = IsTrue (line.reads == 0 && line.writes == 0) → line.low ≡ 2 ^ 64 - 1

-- the line as it is kept, whose least place is 0 where there is no access
abbrev pub line_closed : TraceLine → TraceLine
line_closed line = record line { low = if line.reads == 0 && line.writes == 0 then 0 else line.low }

abbrev pub line_of : Actor → ℕ → List Access → TraceLine
line_of unit job accesses = fold with_access (empty_line unit job) accesses
