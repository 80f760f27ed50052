-- What a command answers: a status and a text, and what a person reads besides.
use Rattle.std.specs.Prelude.{◌≡◌, ◌<◌, ℕ, List, length}
use Rattle.job_format.specs.{Model.FileModel, Text.file_text}
use Rattle.job_check.specs.{Emit.memory_of, Emit.lengths_of}
use Rattle.dumper.specs.Example.{example_text}
use Rattle.commands.specs.declared.command.Command.TheVariants.{Check, Verdict, Runs, Drawn, Upgrade, Bound, Show, FromText, Asm, Disasm, Shader, ShaderText, Slots, Queue, Session, Untile, Tile, Level}
use Rattle.commands.specs.declared.{answer.Answer.Answer, command.Command.Command, reply.Reply.Reply}
use Rattle.commands.specs.{Asked.refusal_by, Cause.IsCause, Json.IsVerdictAnswer, Reply.reply_status, Reply.reply_text, Reply.reply_cause, Reply.IsReplyReady}
use Rattle.commands.specs.Verdict.{IsCheckAnswer, IsReplayAnswer, IsPictureAnswer, IsBoundAnswer, IsUpgradeAnswer}
use Rattle.commands.specs.{Scripts.IsSlotsAnswer, Scripts.IsQueueAnswer, Scripts.IsSessionAnswer, Show.IsShowAnswer, Show.IsMakeAnswer}
use Rattle.commands.specs.{Shader.IsAsmAnswer, Shader.IsDisasmAnswer, ShaderReport.IsShaderAnswer, ShaderReport.IsShaderTextAnswer}
use Rattle.commands.specs.{Pictures.IsUntileAnswer, Pictures.IsTileAnswer, Pictures.IsLevelAnswer}
use Rattle.example_job.specs.Example.{example}

-- what each command answers
abbrev pub IsAnswer : Command → List ℕ → ℕ → List ℕ → Type 0
IsAnswer (Check strict) bytes status text = IsCheckAnswer strict bytes status text
IsAnswer (Verdict strict form) bytes status text = IsVerdictAnswer form (refusal_by strict bytes) bytes status text
IsAnswer (Runs headed trial) bytes status text = IsReplayAnswer headed trial bytes status text
IsAnswer Drawn bytes status text = IsPictureAnswer bytes status text
IsAnswer Upgrade bytes status text = IsUpgradeAnswer bytes status text
IsAnswer Bound bytes status text = IsBoundAnswer bytes status text
IsAnswer (Show showing) bytes status text = IsShowAnswer showing (refusal_by showing.strict bytes) bytes status text
IsAnswer FromText bytes status text = IsMakeAnswer bytes status text
IsAnswer Asm bytes status text = IsAsmAnswer bytes status text
IsAnswer (Disasm notes) bytes status text = IsDisasmAnswer notes bytes status text
IsAnswer (Shader strict) bytes status text = IsShaderAnswer strict bytes status text
IsAnswer (ShaderText strict) bytes status text = IsShaderTextAnswer strict bytes status text
IsAnswer (Slots slots) bytes status text = IsSlotsAnswer slots bytes status text
IsAnswer (Queue buffers) bytes status text = IsQueueAnswer buffers bytes status text
IsAnswer Session bytes status text = IsSessionAnswer bytes status text
IsAnswer (Untile picture) bytes status text = IsUntileAnswer picture bytes status text
IsAnswer (Tile picture) bytes status text = IsTileAnswer picture bytes status text
IsAnswer (Level part) bytes status text = IsLevelAnswer part bytes status text

-- a command's answer to these bytes
pub record IsAnswerTo (command : Command) (bytes : List ℕ) (answer : Answer) : Type 0 where
  pub answers : IsAnswer command bytes answer.status answer.text.items
  pub status : answer.status < 2
  pub cause : IsCause command bytes answer.cause

-- the same of a reply, which can be printed
pub record IsReplyTo (command : Command) (bytes : List ℕ) (reply : Reply) : Type 0 where
  pub answers : IsAnswer command bytes (reply_status reply) (reply_text reply)
  pub status : reply_status reply < 2
  pub ready : IsReplyReady reply
  pub cause : IsCause command bytes (reply_cause reply)

-- `gen` makes the example of a number and checks it, as `check` does: no rule is broken by it. It says how long the file and the
-- emitted lists are and what the bytes of the memory add up to.
unfoldable pub text_of : ℕ → FileModel → List ℕ
text_of number f = example_text number (length (file_text f)) (memory_of f) (lengths_of f 0)

abbrev pub IsExampleAnswer : ℕ → ℕ → List ℕ → Type 0
IsExampleAnswer number status text = (status ≡ 0) × (text ≡ text_of number (example number))
