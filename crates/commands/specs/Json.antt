-- What `check --quiet` and `check --json` answer, and what stands before an answer where several files are read.
use Rattle.std.specs.Prelude.{◌≡◌, ℕ, ◌==◌, nat_le, Bool, true, false, List, [], ◌∷◌, ◌++◌, length, codes, flat_map, Option, Some, None, Result, Ok, if◌then◌else◌, decimal}
use Rattle.hex.specs.Hex.{encode_lower}
use Rattle.job_format.specs.{declared.rule.Refusal.Refusal, Places.offset_of, Rules.rule_text}
use Rattle.rule_words.specs.{Names.name_of, Names.sentence_of, Spot.place_text}
use Rattle.refusal_facts.specs.{Text.fact_text, Whole.facts_of}
use Rattle.commands.specs.declared.command.Command.TheVariants.{Verdict}
use Rattle.commands.specs.declared.command.Task.TheVariants.{Read}
use Rattle.commands.specs.declared.verdict.Form.TheVariants.{Quiet, Json}
use Rattle.commands.specs.{declared.command.Task.Task, declared.verdict.Form.Form, declared.word_fault.WordFault.WordFault}

-- a byte of a JSON string: a quote, a backslash and control characters have escapes there
abbrev pub escape : ℕ → List ℕ
escape byte =
    if byte == 34 then codes "\\\""
    else (if byte == 92 then codes "\\\\"
    else (if nat_le byte 31 then codes "\\u00" ++ encode_lower (byte ∷ []) else byte ∷ []))

unfoldable pub text_escaped : List ℕ → List ℕ
text_escaped text = flat_map escape text

-- "verdict":"refused","rule":"S24","place":"shader of buffer 3, instruction 12","offset":1120,"sentence":"
unfoldable pub refused_head : List ℕ → Refusal → List ℕ
refused_head bytes refusal =
    codes "\"verdict\":\"refused\",\"rule\":\"" ++ (rule_text refusal.rule ++ (codes "\",\"place\":\"" ++ (place_text refusal
    ++ (codes "\",\"offset\":" ++ (decimal (offset_of bytes refusal.place) ++ codes ",\"sentence\":\"")))))

-- ","facts":"needs 36 bytes, has 12, and nothing where there are no facts
unfoldable pub facts_member : List ℕ → List ℕ
facts_member text = if length text == 0 then [] else codes "\",\"facts\":\"" ++ text_escaped text

-- and SENTENCE","facts":"FACTS"}
abbrev pub refused_members : List ℕ → Refusal → List ℕ
refused_members bytes refusal =
    refused_head bytes refusal ++ (text_escaped (sentence_of (name_of refusal.rule)) ++ (facts_member (fact_text (facts_of bytes refusal)) ++ codes "\"}\n"))

-- Nothing, or the members of the JSON object of these bytes behind the file's name, and a line feed.
abbrev pub verdict_text : Form → List ℕ → Option Refusal → List ℕ
verdict_text Quiet bytes refusal = []
verdict_text Json bytes None = codes "\"verdict\":\"accepted\"}\n"
verdict_text Json bytes (Some refusal) = refused_members bytes refusal

-- a rule that refuses the bytes is status 1
abbrev pub verdict_status : Option Refusal → ℕ
verdict_status None = 0
verdict_status (Some refusal) = 1

-- The verdict on bytes that this rule refuses, or none: its status, and nothing or the members of a line of JSON.
abbrev pub IsVerdictAnswer : Form → Option Refusal → List ℕ → ℕ → List ℕ → Type 0
IsVerdictAnswer form refusal bytes status text = (status ≡ verdict_status refusal) × (text ≡ verdict_text form bytes refusal)

abbrev pub is_json : Result Task WordFault → Bool
is_json (Ok (Read (Verdict strict Json))) = true
is_json task = false

-- a line with the file's name where there are several
abbrev pub name_line : List ℕ → ℕ → List ℕ
name_line name count = if nat_le count 1 then [] else text_escaped name ++ codes ":\n"

-- What stands before the answer for the file of this name, which is one of so many: the beginning of a JSON object, or a line.
unfoldable pub heading_text : Result Task WordFault → List ℕ → ℕ → List ℕ
heading_text task name count = if is_json task then codes "{\"file\":\"" ++ (text_escaped name ++ codes "\",") else name_line name count
