-- A rule's sentence, as C knows text.
use Rattle.std.specs.Prelude.{ℕ, nat_lt, ◌==◌, ◌-◌, ◌&&◌, List, [], ◌∷◌, ◌++◌, length, take, Option, Some, None, if◌then◌else◌}
use Rattle.rule_words.specs.{declared.name.Family.Family, Names.family_named, Names.words_of}

-- the sentence of these words, which are none where there is no rule
abbrev pub sentence_in : Option (List ℕ × List ℕ) → List ℕ
sentence_in None = []
sentence_in (Some words) = words.0

abbrev pub sentence_by : Option Family → ℕ → List ℕ
sentence_by None number = []
sentence_by (Some family) number = sentence_in (words_of (record { family = family; number = number }))

-- the sentence of the rule of this letter, in either case, and this number; empty where there is none
unfoldable pub sentence_reported : (letter number : ℕ) → List ℕ
sentence_reported letter number = if nat_lt letter 256 && nat_lt number 256 then sentence_by (family_named letter) number else []

-- as much of a text as there is room for before a zero byte
unfoldable pub cut_text : (room : ℕ) → List ℕ → List ℕ
cut_text room text = if nat_lt (length text) room then text else take (room - 1) text

-- so much of it and that byte, where there is room for one
unfoldable pub c_text : (room : ℕ) → List ℕ → List ℕ
c_text room text = if room == 0 then [] else cut_text room text ++ (0 ∷ [])
