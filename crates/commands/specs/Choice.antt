-- Options: words that begin with a dash, and which of them a wrong one is near to.
use Rattle.std.specs.Prelude.{ℕ, ◌==◌, ◌&&◌, nat_le, Bool, List, [], ◌∷◌, codes, Option, Some, None, if◌then◌else◌}
use Rattle.commands.specs.declared.choice.Choice.TheVariants.{Help, Version, Output, Strict, Quiet, Json, Draws, NoContent, Asm, Notes, Favour, Accesses, Seeds, Run, List as ListOption}
use Rattle.commands.specs.declared.verb.Verb.TheVariants as verb
use Rattle.commands.specs.{declared.choice.Choice.Choice, declared.verb.Verb.Verb}

-- the option's word
unfoldable pub choice_text : Choice → List ℕ
choice_text Help = codes "--help"
choice_text Version = codes "--version"
choice_text Output = codes "-o"
choice_text Strict = codes "--strict"
choice_text Quiet = codes "--quiet"
choice_text Json = codes "--json"
choice_text Draws = codes "--draws"
choice_text NoContent = codes "--no-content"
choice_text Asm = codes "--asm"
choice_text Notes = codes "--notes"
choice_text Favour = codes "--favour"
choice_text Accesses = codes "--accesses"
choice_text Seeds = codes "--seeds"
choice_text Run = codes "--run"
choice_text ListOption = codes "--list"

abbrev pub is_dash : ℕ → Bool
is_dash letter = letter == 45

abbrev pub is_digit : ℕ → Bool
is_digit letter = nat_le 48 letter && nat_le letter 57

-- behind one dash a letter, and behind two whatever there is
abbrev pub lone_letter : ℕ → Option ℕ
lone_letter letter = if is_digit letter then None else Some letter

abbrev pub letter_behind : List ℕ → Option ℕ
letter_behind [] = None
letter_behind (letter ∷ []) = lone_letter letter
letter_behind (letter ∷ (next ∷ rest)) = if is_dash letter then Some next else lone_letter letter

-- The first letter of a word that is meant as an option. One dash and a digit begin a number below 0, and a dash alone is a file's name.
unfoldable pub option_letter : List ℕ → Option ℕ
option_letter [] = None
option_letter (first ∷ rest) = if is_dash first then letter_behind rest else None

-- the option that all commands have with this letter, and else --help
abbrev pub common : ℕ → Choice
common letter = if letter == 111 then Output else Help

-- the command's option that begins with this letter
unfoldable pub nearest : Verb → ℕ → Choice
nearest verb.Check letter =
    if letter == 115 then Strict else (if letter == 113 then Quiet else (if letter == 106 then Json else common letter))
nearest verb.Show letter =
    if letter == 115 then Strict else (if letter == 100 then Draws else (if letter == 110 then NoContent else common letter))
nearest verb.Disasm letter = if letter == 110 then Notes else common letter
nearest verb.Shader letter = if letter == 115 then Strict else (if letter == 97 then Asm else common letter)
nearest verb.Replay letter =
    if letter == 102 then Favour else (if letter == 97 then Accesses else (if letter == 115 then Seeds else common letter))
nearest verb.Picture letter = if letter == 114 then Run else (if letter == 102 then Favour else common letter)
nearest verb.Explain letter = if letter == 108 then ListOption else common letter
nearest verb letter = common letter

-- the program's own option that begins with this letter
abbrev pub nearest_topic : ℕ → Choice
nearest_topic letter = if letter == 118 then Version else Help
