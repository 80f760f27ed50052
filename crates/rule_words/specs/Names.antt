-- The names of rules, and what the program says of each.
use Rattle.std.specs.Prelude.{ℕ, ◌==◌, ◌-◌, nat_lt, List, [], ◌∷◌, ◌++◌, codes, length, map, slice_get, Option, Some, None, is_some, if◌then◌else◌}
use Rattle.std.specs.List.{position_or_len, before_first, after_first}
use Rattle.std.specs.{Borrow.Bor, Char.to_ascii_uppercase, Fmt.decimal}
use Rattle.script.specs.Number.{number_within}
use Rattle.job_format.specs.declared.rule.Stage.TheVariants.{F as StageF, M as StageM, S as StageS, H as StageH, B as StageB, A as StageA, U as StageU, G as StageG, X as StageX, E as StageE}
use Rattle.job_format.specs.{Rules.letter, declared.rule.Rule.Rule, declared.rule.Stage.Stage}
use Rattle.rule_words.specs.declared.answers.TheConstants.{SLOTS, QUEUE, SESSION, LEVELS, ASSEMBLER}
use Rattle.rule_words.specs.declared.format.TheConstants.{FORMAT, TABLE, HANDLES, LAYOUT}
use Rattle.rule_words.specs.declared.name.Family.TheVariants.{Check, O, Q, J, V, Kind}
use Rattle.rule_words.specs.{declared.lists.TheConstants.LISTS, declared.shaders.TheConstants.SHADERS, declared.name.Family.Family}
use Rattle.rule_words.specs.{declared.records.TheConstants.RECORDS, declared.records.TheConstants.TEXTURES, declared.name.RuleName.RuleName}
use Rattle.rule_words.specs.{declared.surfaces.TheConstants.SURFACES, declared.strict.TheConstants.STRICT, declared.name.Words.Words}

abbrev pub texts_in : List (Bor (List ℕ)) → List (List ℕ)
texts_in rows = map (λ row. row.now) rows

-- what is said of the rules of a stage, and of a family, by number
unfoldable pub rows_in : Stage → List (List ℕ)
rows_in StageF = map (λ row. row.now) FORMAT
rows_in StageM = map (λ row. row.now) TABLE
rows_in StageS = map (λ row. row.now) SHADERS
rows_in StageH = map (λ row. row.now) HANDLES
rows_in StageB = map (λ row. row.now) LISTS
rows_in StageA = map (λ row. row.now) RECORDS
rows_in StageU = map (λ row. row.now) TEXTURES
rows_in StageG = map (λ row. row.now) SURFACES
rows_in StageX = map (λ row. row.now) LAYOUT
rows_in StageE = map (λ row. row.now) STRICT

unfoldable pub rows_of : Family → List (List ℕ)
rows_of (Check stage) = rows_in stage
rows_of O = map (λ row. row.now) SLOTS
rows_of Q = map (λ row. row.now) QUEUE
rows_of J = map (λ row. row.now) SESSION
rows_of V = map (λ row. row.now) LEVELS
rows_of Kind = map (λ row. row.now) ASSEMBLER

-- A text's first line is the sentence, and the further ones the explanation. A text of no line is no rule's.
abbrev pub words_in : List ℕ → Option (List ℕ × List ℕ)
words_in text =
    if nat_lt (position_or_len (λ byte. byte == 10) text) (length text)
    then Some (before_first (λ byte. byte == 10) text, after_first (λ byte. byte == 10) text) else None

abbrev pub words_at : Option (List ℕ) → Option (List ℕ × List ℕ)
words_at None = None
words_at (Some text) = words_in text

-- what is said of a rule, where there is one of this name: its sentence, and its explanation
unfoldable pub words_of : RuleName → Option (List ℕ × List ℕ)
words_of name = if name.number == 0 then None else words_at (slice_get (rows_of name.family) (name.number - 1))

abbrev pub text_of : Words → List ℕ × List ℕ
text_of words = (words.sentence.now, words.explanation.now)

abbrev pub sentence_by : Option (List ℕ × List ℕ) → List ℕ
sentence_by None = codes "there is no rule of this name"
sentence_by (Some words) = words.0

-- a rule's sentence
unfoldable pub sentence_of : RuleName → List ℕ
sentence_of name = sentence_by (words_of name)

-- the name of a rule of the check
abbrev pub name_of : Rule → RuleName
name_of rule = record { family = Check rule.stage; number = rule.number }

-- how a rule's name is printed: S24, or kind 3
unfoldable pub family_text : Family → List ℕ
family_text (Check stage) = letter stage
family_text O = codes "O"
family_text Q = codes "Q"
family_text J = codes "J"
family_text V = codes "V"
family_text Kind = codes "kind "

unfoldable pub name_text : RuleName → List ℕ
name_text name = family_text name.family ++ decimal name.number

-- all that is said of a rule: its name and its sentence, an empty line, and its explanation
unfoldable pub explained_by : RuleName → Option (List ℕ × List ℕ) → List ℕ
explained_by name None = []
explained_by name (Some words) = name_text name ++ (codes ": " ++ (words.0 ++ (codes ".\n\n" ++ (words.1 ++ codes "\n"))))

unfoldable pub explanation_of : RuleName → List ℕ
explanation_of name = explained_by name (words_of name)

-- the family that a letter names, in either case
abbrev pub family_of_upper : ℕ → Option Family
family_of_upper letter =
    if letter == 70 then Some (Check StageF) else (if letter == 77 then Some (Check StageM) else (if letter == 83 then Some (Check StageS)
    else (if letter == 72 then Some (Check StageH) else (if letter == 66 then Some (Check StageB) else (if letter == 65 then Some (Check StageA)
    else (if letter == 85 then Some (Check StageU) else (if letter == 71 then Some (Check StageG) else (if letter == 88 then Some (Check StageX)
    else (if letter == 69 then Some (Check StageE)
    else (if letter == 79 then Some O else (if letter == 81 then Some Q else (if letter == 74 then Some J else (if letter == 86 then Some V
    else None)))))))))))))

unfoldable pub family_named : ℕ → Option Family
family_named letter = family_of_upper (to_ascii_uppercase letter)

-- the rule of this name, where there is one
unfoldable pub known_rule : RuleName → Option RuleName
known_rule name = if is_some (words_of name) then Some name else None

abbrev pub rule_by : Option Family → Option ℕ → Option RuleName
rule_by None number = None
rule_by (Some family) None = None
rule_by (Some family) (Some number) = known_rule (record { family = family; number = number })

-- a letter and a number: S24
unfoldable pub rule_named : List ℕ → Option RuleName
rule_named [] = None
rule_named (letter ∷ digits) = rule_by (family_named letter) (number_within 255 digits)

-- the number of a kind of the assembler's faults
unfoldable pub kind_named : List ℕ → Option RuleName
kind_named digits = rule_by (Some Kind) (number_within 255 digits)
