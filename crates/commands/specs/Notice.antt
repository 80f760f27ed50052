-- What a person reads of a status that is no answer.
use Rattle.std.specs.Prelude.{ℕ, ◌==◌, List, codes, Option, Some, None, if◌then◌else◌}

-- the line that goes with a status
abbrev pub notice_of : ℕ → Option (List ℕ)
notice_of status =
    if status == 2 then Some (codes "vc4check: a word is no text, which is UTF-8")
    else (if status == 3 then Some (codes "vc4check: reading the input failed")
    else (if status == 4 then Some (codes "vc4check: writing the answer failed")
    else (if status == 5 then Some (codes "vc4check: memory ran out")
    else (if status == 6 then Some (codes "vc4check: the input is longer than the command takes") else None))))
