-- Words behind a command that are read one after the other. A reader of them is a function from the words that are left to what they
-- ask for, or to the word that is wrong.
use Rattle.std.specs.Prelude.{ℕ, ◌≤◌, ◌-◌, nat_le, Bool, false, length, drop, List, [], ◌∷◌, bytes_eq, map, String, string_bytes, Option, Some, None, Result, Ok, Err, ok_or, if◌then◌else◌}
use Rattle.std.specs.declared.alloc.Global.{Global}
use Rattle.replay.specs.declared.units.UnitKind.{UnitKind}
use Rattle.rule_words.specs.{declared.name.RuleName.RuleName, Names.rule_named, Names.kind_named}
use Rattle.script.specs.Number.{number_within}
use Rattle.texture_layouts.specs.declared.surface.Tiling.{Tiling}
use Rattle.commands.specs.declared.verb.Verb.{Verb}
use Rattle.commands.specs.declared.trial.SeedRange.{SeedRange}
use Rattle.commands.specs.declared.line.Line.{Line as Unread}
use Rattle.commands.specs.declared.word_fault.Argument.TheVariants.{Seed, Cpp, PictureTiling, Rule, Kind, Favoured, SeedNumbers, Output}
use Rattle.commands.specs.declared.word_fault.Values.TheVariants.{Number}
use Rattle.commands.specs.declared.word_fault.WordFault.TheVariants.{Missing, NoOption, Wrong, Surplus}
use Rattle.commands.specs.{declared.word_fault.Argument.Argument, declared.word_fault.Values.Values, declared.word_fault.WordFault.WordFault}
use Rattle.commands.specs.{Choice.nearest, Choice.option_letter, Pictures.tiling_named, Pictures.pixel_by, Trials.unit_named, Trials.seeds_named, Trials.most_seed, WordFault.values_of}

abbrev pub texts : List (String Global) → List (List ℕ)
texts words = map string_bytes words

-- the words behind a command that aren't read yet, of so many words in all
pub record Line : Type 0 where
  pub verb : Verb
  pub count : ℕ
  pub words : List (List ℕ)

abbrev pub line_of : Unread → Line
line_of line = record { verb = line.verb; count = line.count; words = texts line.words.now }

-- what is left behind the next word
abbrev pub behind : Line → Line
behind line = record { verb = line.verb; count = line.count; words = drop 1 line.words }

abbrev pub begins_with : List ℕ → List (List ℕ) → Bool
begins_with word [] = false
begins_with word (first ∷ words) = bytes_eq first word

abbrev pub begins : List ℕ → Line → Bool
begins word line = begins_with word line.words

-- A word that may not stand at its place, by its number: where it is meant as an option, the nearest one is named.
abbrev pub unfit_by : Verb → ℕ → WordFault → Option ℕ → WordFault
unfit_by verb at fault None = fault
unfit_by verb at fault (Some letter) = NoOption verb at (nearest verb letter)

unfoldable pub unfit : Verb → ℕ → WordFault → List ℕ → WordFault
unfit verb at fault word = unfit_by verb at fault (option_letter word)

-- The next word as an argument, which it is where `read` gives a value. Words count from 1.
abbrev pub given_by : {T : Type 0} → Argument → (List ℕ → Option T) → Verb → ℕ → List (List ℕ) → Result T WordFault
given_by argument read verb count [] = Err (Missing verb argument)
given_by argument read verb count (word ∷ words) =
    ok_or (read word) (unfit verb (count - length words) (Wrong verb (count - length words) argument) word)

abbrev pub argument_given : {T : Type 0} → Argument → (List ℕ → Option T) → Line → Result T WordFault
argument_given argument read line = given_by argument read line.verb line.count line.words

-- a number that an argument may be
abbrev pub IsNumberOf : Values → ℕ → Type 0
IsNumberOf (Number least most) number = (least ≤ number) × (number ≤ most)
IsNumberOf values number = ⊥

abbrev pub from : ℕ → Option ℕ → Option ℕ
from least None = None
from least (Some number) = if nat_le least number then Some number else None

abbrev pub number_by : Values → List ℕ → Option ℕ
number_by (Number least most) word = from least (number_within most word)
number_by values word = None

unfoldable pub given_number : Argument → Line → Result ℕ WordFault
given_number argument line = argument_given argument (number_by (values_of argument)) line

unfoldable pub given_seed : Line → Result ℕ WordFault
given_seed line = argument_given Seed (number_within most_seed) line

unfoldable pub given_unit : Line → Result UnitKind WordFault
given_unit line = argument_given Favoured unit_named line

unfoldable pub given_seeds : Line → Result SeedRange WordFault
given_seeds line = argument_given SeedNumbers seeds_named line

unfoldable pub given_tiling : Line → Result Tiling WordFault
given_tiling line = argument_given PictureTiling tiling_named line

unfoldable pub given_cpp : Line → Result ℕ WordFault
given_cpp line = argument_given Cpp (λ word. pixel_by (number_within 8 word)) line

unfoldable pub given_rule : Line → Result RuleName WordFault
given_rule line = argument_given Rule rule_named line

unfoldable pub given_kind : Line → Result RuleName WordFault
given_kind line = argument_given Kind kind_named line

-- the name of a file may be any word
unfoldable pub given_output : Line → Result Unit WordFault
given_output line = argument_given Output (λ word. Some tt) line

-- an argument, and what is read behind it
module _ {R : Type 0} where
  abbrev pub follow : {T : Type 0} → Result T WordFault → (T → Line → Result R WordFault) → Line → Result R WordFault
  follow (Ok value) next line = next value (behind line)
  follow (Err fault) next line = Err fault

  abbrev pub read : {T : Type 0} → (Line → Result T WordFault) → (T → Line → Result R WordFault) → Line → Result R WordFault
  read argument_given next line = follow (argument_given line) next line

  abbrev pub number : Argument → (ℕ → Line → Result R WordFault) → Line → Result R WordFault
  number argument = read (given_number argument)

  -- this word and what is read behind it, or what is read in its place
  abbrev pub option : List ℕ → (Line → Result R WordFault) → (Line → Result R WordFault) → Line → Result R WordFault
  option word with without line = if begins word line then with (behind line) else without line

  -- whether the next word is this one, and what is read behind it
  abbrev pub flag : List ℕ → (Bool → Line → Result R WordFault) → Line → Result R WordFault
  flag word next line = next (begins word line) (if begins word line then behind line else line)

  -- what the words ask for, where no word is left
  abbrev pub ended_by : R → Verb → ℕ → List (List ℕ) → Result R WordFault
  ended_by asked verb count [] = Ok asked
  ended_by asked verb count (word ∷ words) = Err (unfit verb (count - length words) (Surplus verb count) word)

  abbrev pub ended : R → Line → Result R WordFault
  ended asked line = ended_by asked line.verb line.count line.words
