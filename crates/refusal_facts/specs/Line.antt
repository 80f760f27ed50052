-- How a refusal is reported to a person, in one line.
use Rattle.std.specs.Prelude.{ℕ, List, ◌++◌, codes}
use Rattle.job_format.specs.{declared.rule.Refusal.Refusal, declared.rule.Rule.Rule, Rules.rule_text}
use Rattle.rule_words.specs.{Names.name_of, Names.sentence_of, Spot.place_text}
use Rattle.refusal_facts.specs.{declared.line.Line.Line, Text.facts_text, Whole.facts_of}

-- "vc4check: F2: the file ends before the part's end (header, byte 0)"
unfoldable pub front_text : Refusal → List ℕ
front_text refusal =
    codes "vc4check: " ++ rule_text refusal.rule ++ codes ": " ++ sentence_of (name_of refusal.rule) ++ codes " (" ++ place_text refusal
    ++ codes ")"

-- "; see vc4check explain F2"
unfoldable pub end_text : Rule → List ℕ
end_text rule = codes "; see vc4check explain " ++ rule_text rule

-- "vc4check: F2: the file ends before the part's end (header, byte 0) [needs 36 bytes, has 12]; see vc4check explain F2"
unfoldable pub line_text : Line → List ℕ
line_text line = front_text line.refusal ++ facts_text line.facts ++ end_text line.refusal.rule

-- the line of a refusal of these bytes
abbrev pub line_of : List ℕ → Refusal → Line
line_of bytes refusal = record { refusal = refusal; facts = facts_of bytes refusal }
