-- Why words ask for nothing that the program does, as a person reads it: which word is wrong, and what it may be.
use Rattle.std.specs.Prelude.{ℕ, List, ◌++◌, codes, decimal}
use Rattle.tile_convert.specs.Picture.{most_side}
use Rattle.commands.specs.declared.word_fault.TheConstants.{COMMANDS}
use Rattle.commands.specs.declared.word_fault.Argument.TheVariants.{Steps, Seed, Example, SlotCount, Buffers, PictureTiling, Cpp, Width, Height, P0, P1, P2, P3, Face, LevelNumber, Rule, Kind, Favoured, SeedNumbers, Output}
use Rattle.commands.specs.declared.word_fault.Values.TheVariants.{Number, SeedNumber, Tiling, Pixel, RuleName, KindNumber, UnitName, Seeds, FileName}
use Rattle.commands.specs.declared.word_fault.WordFault.TheVariants.{Nothing, Unknown, Alone, NoTopic, NoOption, Wrong, Missing, Surplus}
use Rattle.commands.specs.{declared.choice.Choice.Choice, Choice.choice_text, Topics.usage_of, declared.word_fault.Argument.Argument}
use Rattle.commands.specs.{declared.word_fault.Values.Values, declared.word_fault.WordFault.WordFault}

-- the most steps of a run, slots of a pool of tile memory, and buffers that jobs of a queue name
abbrev pub most_steps : ℕ
most_steps = 1000000

abbrev pub most_slots : ℕ
most_slots = 32

abbrev pub most_queued : ℕ
most_queued = 1024

-- the greatest number of 32 bits
abbrev pub most_word : ℕ
most_word = 4294967295

-- what the usage calls an argument, and what it may be
abbrev pub argument_row : Argument → List ℕ × Values
argument_row Steps = (codes "STEPS", Number 0 most_steps)
argument_row Seed = (codes "SEED", SeedNumber)
argument_row Example = (codes "NUMBER", Number 0 most_word)
argument_row SlotCount = (codes "SLOTS", Number 1 most_slots)
argument_row Buffers = (codes "BUFFERS", Number 0 most_queued)
argument_row PictureTiling = (codes "TILING", Tiling)
argument_row Cpp = (codes "CPP", Pixel)
argument_row Width = (codes "WIDTH", Number 1 most_side)
argument_row Height = (codes "HEIGHT", Number 1 most_side)
argument_row P0 = (codes "P0", Number 0 most_word)
argument_row P1 = (codes "P1", Number 0 most_word)
argument_row P2 = (codes "P2", Number 0 most_word)
argument_row P3 = (codes "P3", Number 0 most_word)
argument_row Face = (codes "FACE", Number 0 most_word)
argument_row LevelNumber = (codes "LEVEL", Number 0 most_word)
argument_row Rule = (codes "RULE", RuleName)
argument_row Kind = (codes "RULE", KindNumber)
argument_row Favoured = (codes "KIND", UnitName)
argument_row SeedNumbers = (codes "A..B", Seeds)
argument_row Output = (codes "OUT", FileName)

abbrev pub values_of : Argument → Values
values_of argument = (argument_row argument).1

-- an argument, and what it may be: "STEPS is a number from 0 to 1000000"
unfoldable pub values_text : Values → List ℕ
values_text (Number least most) = codes "a number from " ++ (decimal least ++ (codes " to " ++ decimal most))
values_text SeedNumber = codes "a number from 0 to 18446744073709551615"
values_text Tiling = codes "t or lt"
values_text Pixel = codes "1, 2, 4 or 8"
values_text RuleName =
    codes "a letter of F, M, S, H, B, A, U, G, X, E, O, Q, J and V and a number, such as S24, or kind and a number, or --list for all"
values_text KindNumber = codes "the number of a kind of the assembler's faults, from 1 to 5"
values_text UnitName = codes "qpu, texture, binner or renderer"
values_text Seeds = codes "seeds from A to before B, 1 to 1000 of them"
values_text FileName = codes "the name of a file"

unfoldable pub argument_text : Argument → List ℕ
argument_text argument = (argument_row argument).0 ++ (codes " is " ++ values_text (values_of argument))

-- "word 4 is one too many"
unfoldable pub surplus_text : ℕ → List ℕ
surplus_text at = codes "word " ++ (decimal at ++ codes " is one too many")

-- "word 2 is no option that may stand here; the nearest is --strict"
unfoldable pub strange_option_text : ℕ → Choice → List ℕ
strange_option_text at choice =
    codes "word " ++ (decimal at ++ (codes " is no option that may stand here; the nearest is " ++ choice_text choice))

-- the line that a person reads
unfoldable pub word_fault_text : WordFault → List ℕ
word_fault_text Nothing = codes "vc4check: a command is missing, which is " ++ COMMANDS.now
word_fault_text (Unknown at) = codes "vc4check: word " ++ (decimal at ++ (codes " is no command, which is " ++ COMMANDS.now))
word_fault_text Alone = codes "vc4check: --version stands alone, and --help with one command at most"
word_fault_text (NoTopic choice) =
    codes "vc4check: word 1 is no option of the program; the nearest is " ++ (choice_text choice ++ codes "; usage: vc4check COMMAND [WORDS] [FILE]")
word_fault_text (NoOption verb at choice) =
    codes "vc4check: " ++ (strange_option_text at choice ++ (codes "; usage: vc4check " ++ usage_of verb))
word_fault_text (Wrong verb at argument) =
    codes "vc4check: word " ++ (decimal at ++ (codes " is wrong: " ++ (argument_text argument ++ (codes "; usage: vc4check " ++ usage_of verb))))
word_fault_text (Missing verb argument) =
    codes "vc4check: a word is missing: " ++ (argument_text argument ++ (codes "; usage: vc4check " ++ usage_of verb))
word_fault_text (Surplus verb at) = codes "vc4check: " ++ (surplus_text at ++ (codes "; usage: vc4check " ++ usage_of verb))
