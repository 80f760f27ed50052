-- Which of the words are names of files.
use Rattle.std.specs.Prelude.{ℕ, ◌+◌, ◌-◌, Bool, true, false, not, ◌&&◌, take, drop, length, string_bytes, List, [], ◌∷◌, String, Option, Some, None, Result, Ok, if◌then◌else◌}
use Rattle.std.specs.declared.alloc.Global.{Global}
use Rattle.commands.specs.declared.command.Command.TheVariants.{Check, Verdict}
use Rattle.commands.specs.declared.command.Task.TheVariants.{Read}
use Rattle.commands.specs.{declared.command.Task.Task, declared.word_fault.WordFault.WordFault}
use Rattle.commands.specs.{Choice.option_letter, Line.texts, Words.names_file, Words.names_output, Words.task_or_fault}

-- a command that reads any number of files
abbrev pub reads_several : Result Task WordFault → Bool
reads_several (Ok (Read (Check strict))) = true
reads_several (Ok (Read (Verdict strict form))) = true
reads_several task = false

-- Behind its words any number of names may stand, where the output goes to no file.
abbrev pub takes_several : List (List ℕ) → Bool
takes_several words = not (names_output words) && reads_several (task_or_fault words)

-- how many words stand behind the last one that is meant as an option, where so many do before these
abbrev pub count_by : ℕ → Option ℕ → ℕ
count_by count None = count + 1
count_by count (Some letter) = 0

unfoldable pub count_after : ℕ → List (String Global) → ℕ
count_after count [] = count
count_after count (word ∷ words) = count_after (count_by count (option_letter (string_bytes word))) words

-- how many of the words behind the command stand behind the last option
abbrev pub last_count : List (String Global) → ℕ
last_count words = count_after 0 (drop 1 words)

-- How many of the last words are names of files: those behind the last option where any number of names may stand, and else one at most.
unfoldable pub name_count : List (String Global) → ℕ
name_count words =
    if takes_several (texts (take (length words - last_count words) words)) then last_count words
    else (if names_file words then 1 else 0)
