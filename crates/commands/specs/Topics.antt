-- What the program says of itself and of rules.
use Rattle.std.specs.Prelude.{◌≡◌, ℕ, zero, suc, List, [], ◌++◌, codes, bytes_eq, Option, Some, None, if◌then◌else◌, flat_map}
use Rattle.rule_words.specs.{declared.name.Family.Family, declared.name.RuleName.RuleName, Names.explanation_of, Names.name_text, Names.words_of}
use Rattle.commands.specs.declared.verb.TheConstants.{CHECK, REPLAY, PICTURE, UPGRADE, BOUND, SHOW, MAKE, GEN, SLOTS, QUEUE, SESSION, UNTILE, TILE, LEVEL, ASM, DISASM, SHADER, EXPLAIN, VERBS}
use Rattle.commands.specs.declared.explain.TheConstants.{FAMILIES}
use Rattle.commands.specs.declared.help.TheConstants.{HEAD, FOOT, VERSION}
use Rattle.commands.specs.declared.verb.Verb.TheVariants.{Check, Replay, Picture, Upgrade, Bound, Show, Make, Gen, Slots, Queue, Session, Untile, Tile, Level, Asm, Disasm, Shader, Explain}
use Rattle.commands.specs.declared.help.Topic.TheVariants.{Program, Command, Version, Rule, Rules}
use Rattle.commands.specs.{declared.verb.Verb.Verb, declared.help.Topic.Topic}

-- the command that a word names
abbrev pub verb_named : List ℕ → Option Verb
verb_named word =
    if bytes_eq word (codes "check") then Some Check
    else (if bytes_eq word (codes "replay") then Some Replay
    else (if bytes_eq word (codes "picture") then Some Picture
    else (if bytes_eq word (codes "upgrade") then Some Upgrade
    else (if bytes_eq word (codes "bound") then Some Bound
    else (if bytes_eq word (codes "show") then Some Show
    else (if bytes_eq word (codes "make") then Some Make
    else (if bytes_eq word (codes "gen") then Some Gen
    else (if bytes_eq word (codes "slots") then Some Slots
    else (if bytes_eq word (codes "queue") then Some Queue
    else (if bytes_eq word (codes "session") then Some Session
    else (if bytes_eq word (codes "untile") then Some Untile
    else (if bytes_eq word (codes "tile") then Some Tile
    else (if bytes_eq word (codes "level") then Some Level
    else (if bytes_eq word (codes "asm") then Some Asm
    else (if bytes_eq word (codes "disasm") then Some Disasm
    else (if bytes_eq word (codes "shader") then Some Shader
    else (if bytes_eq word (codes "explain") then Some Explain else None)))))))))))))))))

-- a command's line, behind the program's name, and what the command does
unfoldable pub usage_row : Verb → List ℕ × List ℕ
usage_row Check = (CHECK.0.now, CHECK.1.now)
usage_row Replay = (REPLAY.0.now, REPLAY.1.now)
usage_row Picture = (PICTURE.0.now, PICTURE.1.now)
usage_row Upgrade = (UPGRADE.0.now, UPGRADE.1.now)
usage_row Bound = (BOUND.0.now, BOUND.1.now)
usage_row Show = (SHOW.0.now, SHOW.1.now)
usage_row Make = (MAKE.0.now, MAKE.1.now)
usage_row Gen = (GEN.0.now, GEN.1.now)
usage_row Slots = (SLOTS.0.now, SLOTS.1.now)
usage_row Queue = (QUEUE.0.now, QUEUE.1.now)
usage_row Session = (SESSION.0.now, SESSION.1.now)
usage_row Untile = (UNTILE.0.now, UNTILE.1.now)
usage_row Tile = (TILE.0.now, TILE.1.now)
usage_row Level = (LEVEL.0.now, LEVEL.1.now)
usage_row Asm = (ASM.0.now, ASM.1.now)
usage_row Disasm = (DISASM.0.now, DISASM.1.now)
usage_row Shader = (SHADER.0.now, SHADER.1.now)
usage_row Explain = (EXPLAIN.0.now, EXPLAIN.1.now)

abbrev pub usage_of : Verb → List ℕ
usage_of verb = (usage_row verb).0

-- what `COMMAND --help` says
unfoldable pub verb_help : Verb → List ℕ
verb_help verb = codes "vc4check " ++ (usage_of verb ++ (codes "\n" ++ ((usage_row verb).1 ++ codes "\n")))

-- a command's line in what `--help` says
unfoldable pub usage_line : Verb → List ℕ
usage_line verb = codes "vc4check " ++ (usage_of verb ++ codes "\n")

-- what `--help` says
unfoldable pub program_help : List ℕ
program_help = HEAD.now ++ (flat_map usage_line VERBS ++ FOOT.now)

-- a rule and its sentence, where there is one of this name
abbrev pub rule_row_by : RuleName → Option (List ℕ × List ℕ) → List ℕ
rule_row_by name None = []
rule_row_by name (Some words) = name_text name ++ (codes ": " ++ (words.0 ++ codes "\n"))

unfoldable pub rule_row : RuleName → List ℕ
rule_row name = rule_row_by name (words_of name)

-- the rules of a family up to this number, and those of all families
unfoldable pub rows_upto : Family → ℕ → List ℕ
rows_upto family zero = []
rows_upto family (suc n) = rows_upto family n ++ rule_row (record { family = family; number = suc n })

unfoldable pub family_rows : Family → List ℕ
family_rows family = rows_upto family 255

unfoldable pub topic_text : Topic → List ℕ
topic_text Program = program_help
topic_text (Command verb) = verb_help verb
topic_text Version = VERSION.now
topic_text (Rule name) = explanation_of name
topic_text Rules = flat_map family_rows FAMILIES

-- what is answered to words that ask for a topic
abbrev pub IsTopicAnswer : Topic → ℕ → List ℕ → Type 0
IsTopicAnswer topic status text = (status ≡ 0) × (text ≡ topic_text topic)
