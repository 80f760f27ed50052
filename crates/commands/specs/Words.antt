-- The words after the program's name: what they ask for, or which of them is wrong.
use Rattle.std.specs.Prelude.{ℕ, ◌≤◌, ◌+◌, ◌-◌, ◌==◌, ◌&&◌, not, Bool, true, false, is_ok, is_some, take, drop, length, string_bytes, List, [], ◌∷◌, codes, bytes_eq, String, Option, Some, None, Result, Ok, Err, if◌then◌else◌}
use Rattle.std.specs.Result.{result_ok}
use Rattle.std.specs.declared.alloc.Global.{Global}
use Rattle.field_words.specs.Sizes.{most_code, most_list}
use Rattle.replay.specs.declared.units.UnitKind.{UnitKind}
use Rattle.seeded_runs.specs.declared.report.Look.{Look}
use Rattle.seeded_runs.specs.declared.report.Look.TheVariants as look
use Rattle.seeded_runs.specs.Report.{IsTrialWithin}
use Rattle.rule_words.specs.declared.name.RuleName.{RuleName}
use Rattle.commands.specs.declared.command.Command.TheVariants.{Check, Verdict, Runs, Drawn, Upgrade, Bound, Show, FromText, Asm, Disasm, Shader, ShaderText, Slots, Queue, Session, Untile, Tile, Level}
use Rattle.commands.specs.declared.command.Task.TheVariants.{Read, Make, Tell}
use Rattle.commands.specs.declared.help.Topic.TheVariants.{Program, Command as CommandTopic, Version, Rule as RuleTopic, Rules}
use Rattle.commands.specs.declared.verb.Verb.TheVariants as verb
use Rattle.tile_convert.specs.{declared.order.Picture.Picture, Picture.IsPictureWithin}
use Rattle.commands.specs.declared.verdict.Form.TheVariants.{Quiet, Json}
use Rattle.commands.specs.declared.word_fault.Argument.TheVariants.{Steps, Example, SlotCount, Buffers, Width, Height, P0, P1, P2, P3, Face, LevelNumber}
use Rattle.commands.specs.declared.word_fault.WordFault.TheVariants.{Nothing, Unknown, Alone, NoTopic}
use Rattle.commands.specs.{declared.command.Command.Command, declared.command.Task.Task, declared.verb.Verb.Verb, declared.word_fault.WordFault.WordFault}
use Rattle.commands.specs.Line.{Line, texts, number, given_seed, given_unit, given_seeds, given_tiling, given_cpp, given_rule, given_kind, given_output, read, option, flag, ended}
use Rattle.commands.specs.{Choice.option_letter, Choice.nearest_topic, Topics.verb_named, WordFault.most_slots, WordFault.most_queued}

-- STEPS SEED: a run that is shown in this way, where a kind of unit is favoured or none
abbrev pub run_asked : (headed : Bool) → Look → Option UnitKind → Line → Result Task WordFault
run_asked headed shown favoured = number Steps (λ steps. read given_seed (λ seed.
    ended (Read (Runs headed (record { look = shown; favoured = favoured; steps = steps; seed = seed })))))

-- A..B STEPS: a run of each seed
abbrev pub many_runs : (headed : Bool) → Option UnitKind → Line → Result Task WordFault
many_runs headed favoured = read given_seeds (λ range. number Steps (λ steps.
    ended (Read (Runs headed (record { look = look.Seeds range.count; favoured = favoured; steps = steps; seed = range.first })))))

-- [--accesses | --seeds A..B] STEPS [SEED]
abbrev pub runs : (headed : Bool) → Option UnitKind → Line → Result Task WordFault
runs headed favoured = option (codes "--accesses") (run_asked headed look.Accesses favoured)
    (option (codes "--seeds") (many_runs headed favoured) (run_asked headed look.Steps favoured))

-- replay [--header] [--favour KIND] [--accesses | --seeds A..B] STEPS [SEED]
abbrev pub replay : Line → Result Task WordFault
replay = flag (codes "--header") (λ headed. option (codes "--favour") (read given_unit (λ kind. runs headed (Some kind))) (runs headed None))

-- picture [--run [--favour KIND] STEPS SEED]
abbrev pub picture : Line → Result Task WordFault
picture = option (codes "--run")
    (option (codes "--favour") (read given_unit (λ kind. run_asked false look.Picture (Some kind))) (run_asked false look.Picture None))
    (ended (Read Drawn))

-- TILING CPP WIDTH HEIGHT
abbrev pub picture_asked : Line → Result Picture WordFault
picture_asked = read given_tiling (λ tiling. read given_cpp (λ cpp. number Width (λ width. number Height (λ height.
    ended (record { tiling = tiling; cpp = cpp; width = width; height = height })))))

abbrev pub of_picture : (Picture → Command) → Result Picture WordFault → Result Task WordFault
of_picture command (Ok picture) = Ok (Read (command picture))
of_picture command (Err fault) = Err fault

-- level P0 P1 P2 P3 FACE LEVEL
abbrev pub level : Line → Result Task WordFault
level = number P0 (λ p0. number P1 (λ p1. number P2 (λ p2. number P3 (λ p3. number Face (λ face. number LevelNumber (λ level.
    ended (Read (Level (record { setup = p0 ∷ (p1 ∷ (p2 ∷ (p3 ∷ []))); face = face; level = level })))))))))

-- gen NUMBER, slots SLOTS and queue BUFFERS
abbrev pub example : Line → Result Task WordFault
example = number Example (λ number. ended (Make number))

abbrev pub slots : Line → Result Task WordFault
slots = number SlotCount (λ slots. ended (Read (Slots slots)))

abbrev pub queue : Line → Result Task WordFault
queue = number Buffers (λ buffers. ended (Read (Queue buffers)))

-- check [--strict] [--quiet | --json]
abbrev pub check : Line → Result Task WordFault
check = flag (codes "--strict") (λ strict. option (codes "--quiet") (ended (Read (Verdict strict Quiet)))
    (option (codes "--json") (ended (Read (Verdict strict Json))) (ended (Read (Check strict)))))

-- show [--strict] [--draws] [--no-content] [--no-offsets]
abbrev pub show : Line → Result Task WordFault
show = flag (codes "--strict") (λ strict. flag (codes "--draws") (λ draws. flag (codes "--no-content") (λ contents. flag (codes "--no-offsets") (λ offsets.
    ended (Read (Show (record { strict = strict; draws = draws; omitted = record { contents = contents; offsets = offsets } })))))))

-- disasm [--notes]
abbrev pub disasm : Line → Result Task WordFault
disasm = flag (codes "--notes") (λ notes. ended (Read (Disasm notes)))

-- shader [--strict] [--asm]
abbrev pub shader : Line → Result Task WordFault
shader = flag (codes "--strict") (λ strict. option (codes "--asm") (ended (Read (ShaderText strict))) (ended (Read (Shader strict))))

-- explain RULE, or kind and a number, or --list
abbrev pub report_of : RuleName → Line → Result Task WordFault
report_of name = ended (Tell (RuleTopic name))

abbrev pub explain : Line → Result Task WordFault
explain =
    option (codes "--list") (ended (Tell Rules)) (option (codes "kind") (read given_kind report_of) (read given_rule report_of))

-- the arguments of each command
abbrev pub task_asked : Verb → Line → Result Task WordFault
task_asked verb.Check = check
task_asked verb.Replay = replay
task_asked verb.Picture = picture
task_asked verb.Upgrade = ended (Read Upgrade)
task_asked verb.Bound = ended (Read Bound)
task_asked verb.Show = show
task_asked verb.Make = ended (Read FromText)
task_asked verb.Gen = example
task_asked verb.Slots = slots
task_asked verb.Queue = queue
task_asked verb.Session = ended (Read Session)
task_asked verb.Untile = λ line. of_picture Untile (picture_asked line)
task_asked verb.Tile = λ line. of_picture Tile (picture_asked line)
task_asked verb.Level = level
task_asked verb.Asm = ended (Read Asm)
task_asked verb.Disasm = disasm
task_asked verb.Shader = shader
task_asked verb.Explain = explain

-- or `--help` alone; `-o OUT` stands before them
abbrev pub help_asked : Verb → Line → Result Task WordFault
help_asked verb = ended (Tell (CommandTopic verb))

abbrev pub put_out : Verb → Line → Result Task WordFault
put_out verb = option (codes "-o") (read given_output (λ name. task_asked verb)) (task_asked verb)

abbrev pub task_behind : Line → Result Task WordFault
task_behind line = option (codes "--help") (help_asked line.verb) (option (codes "-h") (help_asked line.verb) (put_out line.verb)) line

-- what the program does, or a command
abbrev pub help_by : Option Verb → Result Task WordFault
help_by None = Err (Unknown 2)
help_by (Some verb) = Ok (Tell (CommandTopic verb))

abbrev pub help_of : List (List ℕ) → Result Task WordFault
help_of [] = Ok (Tell Program)
help_of (word ∷ []) = help_by (verb_named word)
help_of (word ∷ (other ∷ words)) = Err Alone

abbrev pub version_alone : List (List ℕ) → Result Task WordFault
version_alone [] = Ok (Tell Version)
version_alone (word ∷ words) = Err Alone

-- a first word that is no command
abbrev pub strange_by : Option ℕ → WordFault
strange_by None = Unknown 1
strange_by (Some letter) = NoTopic (nearest_topic letter)

abbrev pub topic_named : List ℕ → List (List ℕ) → Result Task WordFault
topic_named first words =
    if bytes_eq first (codes "--help") then help_of words
    else (if bytes_eq first (codes "-h") then help_of words
    else (if bytes_eq first (codes "help") then help_of words
    else (if bytes_eq first (codes "--version") then version_alone words
    else (if bytes_eq first (codes "-V") then version_alone words else Err (strange_by (option_letter first))))))

abbrev pub task_by : List ℕ → Option Verb → List (List ℕ) → Result Task WordFault
task_by first None words = topic_named first words
task_by first (Some verb) words = task_behind (record { verb = verb; count = length words + 1; words = words })

-- What the words ask for: to read input by a command, to make an example, or to tell of a topic. Or why they ask for nothing: the first
-- word that isn't what it may be, or that is missing, or else the last, which is one too many.
unfoldable pub task_or_fault : List (List ℕ) → Result Task WordFault
task_or_fault [] = Err Nothing
task_or_fault (first ∷ words) = task_by first (verb_named first) words

abbrev pub task_of : List (List ℕ) → Option Task
task_of words = result_ok (task_or_fault words)

abbrev pub is_read : Result Task WordFault → Bool
is_read (Ok (Read command)) = true
is_read task = false

-- Whether the last word is the name of a file to read in place of standard input: it isn't meant as an option, all words ask for nothing,
-- and those before it for a command that reads.
abbrev pub is_name : List (String Global) → Bool
is_name [] = false
is_name (word ∷ words) = not (is_some (option_letter (string_bytes word)))

abbrev pub names_file : List (String Global) → Bool
names_file words =
    is_name (drop (length words - 1) words)
    && (not (is_ok (task_or_fault (texts words))) && is_read (task_or_fault (texts (take (length words - 1) words))))

unfoldable pub is_command : List ℕ → Bool
is_command word = is_some (verb_named word)

-- whether the third word is the name of a file for the output
abbrev pub names_output : List (List ℕ) → Bool
names_output (first ∷ (second ∷ (name ∷ words))) = is_command first && bytes_eq second (codes "-o")
names_output words = false

-- a command whose numbers are within these
abbrev pub IsWithin : Command → Type 0
IsWithin (Runs headed trial) = IsTrialWithin trial
IsWithin (Slots slots) = (1 ≤ slots) × (slots ≤ most_slots)
IsWithin (Queue buffers) = buffers ≤ most_queued
IsWithin (Untile picture) = IsPictureWithin picture
IsWithin (Tile picture) = IsPictureWithin picture
IsWithin command = Unit {0}

abbrev pub ReadsWithin : Task → Type 0
ReadsWithin (Read command) = IsWithin command
ReadsWithin task = Unit {0}

-- the most bytes of a job file: 48 MiB
abbrev pub most_file : ℕ
most_file = 50331648

-- the most bytes of a picture: 24 MiB
abbrev pub most_picture : ℕ
most_picture = 25165824

-- the most bytes of input that a command takes
abbrev pub limit_of : Command → ℕ
limit_of Asm = most_list
limit_of (Disasm notes) = most_list
limit_of (Shader strict) = most_code
limit_of (ShaderText strict) = most_list
limit_of (Slots slots) = most_list
limit_of (Queue buffers) = most_list
limit_of Session = most_list
limit_of (Untile picture) = most_picture
limit_of (Tile picture) = most_picture
limit_of (Level part) = most_picture
limit_of command = most_file

-- that more was read than a limit allows
abbrev pub excess_at : ℕ → List ℕ
excess_at limit =
    if limit == most_file then codes "more than 48 MiB" else (if limit == most_picture then codes "more than 24 MiB"
    else (if limit == most_code then codes "more than 64 KiB" else codes "more than 1 MiB"))

abbrev pub excess_of : Result Task WordFault → List ℕ
excess_of (Ok (Read command)) = excess_at (limit_of command)
excess_of task = codes "more than it may have"
