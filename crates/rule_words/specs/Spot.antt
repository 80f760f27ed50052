-- How the place of a refusal is reported to a person.
use Rattle.std.specs.Prelude.{ℕ, Bool, true, false, nat_le, ◌-◌, ◌/◌, List, ◌++◌, codes, if◌then◌else◌, decimal}
use Rattle.job_format.specs.declared.rule.Part.TheVariants.{File, Header, Entry, JobEntry, Contents, Handles, BinnerList, Records, Uniforms}
use Rattle.job_format.specs.declared.rule.Stage.TheVariants.{S, H, G, E}
use Rattle.job_format.specs.{declared.rule.Part.Part, declared.rule.Stage.Stage, declared.rule.Refusal.Refusal}

-- there is one header and one file
unfoldable pub is_one : Part → Bool
is_one File = true
is_one Header = true
is_one part = false

-- the part's name, before its number
unfoldable pub part_name : Part → List ℕ
part_name File = codes "file"
part_name Header = codes "header"
part_name Entry = codes "entry of buffer"
part_name JobEntry = codes "entry of job"
part_name Contents = codes "contents of buffer"
part_name Handles = codes "handles of job"
part_name BinnerList = codes "binner list of job"
part_name Records = codes "shader records of job"
part_name Uniforms = codes "uniforms of job"

-- What a person counts in a part, where a rule of this stage is broken so many bytes into it: the name of the thing, of its unit, and the number.
-- Rules of shaders count instructions, H handles, and G surfaces, of which the first begins 36 bytes into the entry and has the number 1.
abbrev pub bytes_in : Part → ℕ → List ℕ × List ℕ × ℕ
bytes_in part at = (part_name part, codes "byte", at)

abbrev pub instructions : ℕ → List ℕ × List ℕ × ℕ
instructions at = (codes "shader of buffer", codes "instruction", at / 8)

unfoldable pub count_in : Part → Stage → (at : ℕ) → List ℕ × List ℕ × ℕ
count_in Contents S at = instructions at
count_in Contents E at = instructions at
count_in Handles H at = (codes "handles of job", codes "handle", at / 4)
count_in JobEntry G at = if nat_le 36 at then (codes "frame of job", codes "surface", (at - 24) / 12) else bytes_in JobEntry at
count_in part stage at = bytes_in part at

-- the thing, with its number where there are several
unfoldable pub owner_text : Part → (index : ℕ) → (name : List ℕ) → List ℕ
owner_text part index name = if is_one part then name else name ++ codes " " ++ decimal index

-- "shader of buffer 3, instruction 12", or "header, byte 8"
unfoldable pub place_text : Refusal → List ℕ
place_text refusal =
    let (name, unit, number) = count_in refusal.place.part refusal.rule.stage refusal.place.at in
    owner_text refusal.place.part refusal.place.index name ++ codes ", " ++ unit ++ codes " " ++ decimal number
