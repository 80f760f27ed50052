-- What a page learns: a status, a text, and a line that says why.
use Rattle.std.specs.Prelude.{◌≡◌, ◌≤◌, ◌<◌, ◌⊎◌, ℕ, true, false, nat_le, List, [], ◌++◌, length, take, drop, map, Option, Some, None, Result, Ok, Err, if◌then◌else◌}
use Rattle.std.specs.Str.Lossy.{utf8_lossy}
use Rattle.commands.specs.declared.cause.Cause.{Cause}
use Rattle.commands.specs.declared.cause.Cause.TheVariants.{Words}
use Rattle.commands.specs.declared.command.{Command.Command, Task.Task, Task.TheVariants.Read, Task.TheVariants.Make, Task.TheVariants.Tell}
use Rattle.commands.specs.declared.word_fault.WordFault.{WordFault}
use Rattle.commands.specs.{Answer.IsAnswer, Answer.IsExampleAnswer, Cause.cause_text, Cause.IsCause, Cause.is_reported, Topics.IsTopicAnswer, Words.limit_of}
use Rattle.vc4check_web.specs.declared.call.Lengths.{Lengths}
use Rattle.vc4check_web.specs.declared.word.Word.{Word}

-- a word's text, with U+FFFD for what isn't UTF-8
abbrev pub word_text : Word → List ℕ
word_text word = utf8_lossy word.bytes.now

abbrev pub words_text : List Word → List (List ℕ)
words_text words = map word_text words

-- What a command that reads answers to this input, which may be longer than its limit.
pub record IsReply (command : Command) (input : List ℕ) (status : ℕ) (text : List ℕ) (cause : Option Cause) : Type 0 where
  pub statuses : ((length input ≤ limit_of command) × (status < 2)) ⊎ ((limit_of command < length input) × (status ≡ 6))
  pub answered : status < 2 → IsAnswer command input status text
  pub why : is_reported command status ≡ true → IsCause command input cause
  pub nothing : status ≡ 6 → text ≡ []
  pub quiet : is_reported command status ≡ false → cause ≡ None

-- What is answered to words and this input: which word is wrong, or what the command does.
abbrev pub IsReport : Result Task WordFault → List ℕ → ℕ → List ℕ → Option Cause → Type 0
IsReport (Err fault) input status text cause = (status ≡ 2) × (text ≡ []) × (cause ≡ Some (Words fault))
IsReport (Ok (Read command)) input status text cause = IsReply command input status text cause
IsReport (Ok (Make number)) input status text cause = IsExampleAnswer number status text × (cause ≡ None)
IsReport (Ok (Tell topic)) input status text cause = IsTopicAnswer topic status text × (cause ≡ None)

-- what a person reads of a cause
abbrev pub line_of : Option Cause → List ℕ
line_of None = []
line_of (Some cause) = cause_text cause

-- as much of a text as there is room for
unfoldable pub cut_to : (room : ℕ) → List ℕ → List ℕ
cut_to room text = if nat_le (length text) room then text else take room text

-- A text stands at a room's start as far as there is room for it. The bytes behind it are as they were, and the length of all of it is reported.
pub record IsPut (old new : List ℕ) (count : ℕ) (text : List ℕ) : Type 0 where
  pub stands : new ≡ cut_to (length old) text ++ drop (length (cut_to (length old) text)) old
  pub whole : count ≡ length text

-- The text of a report of this status is in the one room, and its line in the other.
abbrev pub IsReported : Result Task WordFault → List ℕ → ℕ → (old_text new_text old_line new_line : List ℕ) → Lengths → Type 0
IsReported asked input status old_text new_text old_line new_line lengths =
    (text : List ℕ) × (cause : Option Cause) × IsReport asked input status text cause
    × IsPut old_text new_text lengths.text text × IsPut old_line new_line lengths.line (line_of cause)
