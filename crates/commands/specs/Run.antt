-- What a run does. `IsReply status text` is a command's own relation: what it answers to its input.
--
-- A source and a sink are described by functions of their states: `left`, the bytes still to come, and `held`, the bytes taken, where they
-- tell them; and `faults`, how often they failed.
use Rattle.std.specs.Prelude.{◌≡◌, ◌≢◌, ◌⊎◌, ◌↔◌, ℕ, ◌≤◌, ◌<◌, Bool, true, false, length, List, String, Option, Some, None, IfErr, IfSome}
use Rattle.std.specs.declared.alloc.Global.{Global}
use Rattle.std.specs.Io.KnownBytes.{Appends, IsAtEnd}
use Rattle.accepted_strict.specs.Files.{StrictBytesObey}
use Rattle.entry.specs.declared.Ended.{Ended}
use Rattle.day_apart.specs.Apart.{DaysApart}
use Rattle.driver_law.specs.Ends.{SubmissionsEnd}
use Rattle.promises.specs.{Drivers.DriversAreSafe, Bounded.AcceptedEnd, MayRun.AcceptedMayRun, Apart.BytesApart}
use Rattle.job_bound.specs.Law.{BoundHolds, EndHolds}
use Rattle.job_io.specs.{Faults.Rose, Faults.LastCallFailed, Traffic.AppendsFront, Traffic.count_taken}
use Rattle.job_queue.specs.Laws.{StartsLate}
use Rattle.overflow_slots.specs.Laws.{StaysOrdered}
use Rattle.session_law.specs.{Laws.ClientsAreApart, Laws.MemoryIsKept, Scripts.ScriptsAreOfCalls}
use Rattle.session_safety.specs.Running.{SubmitsReachOwn}
use Rattle.tile_convert.specs.Picture.{UntilesWhatWasTiled, TilesWhatWasUntiled}
use Rattle.commands.specs.{declared.command.Command.Command, declared.command.Command.TheVariants.Check}
use Rattle.commands.specs.{declared.command.Task.Task}
use Rattle.commands.specs.declared.command.Task.TheVariants.{Read, Make, Tell}
use Rattle.commands.specs.{declared.help.Topic.Topic, declared.cause.Cause.Cause, declared.cause.Cause.TheVariants.Words}
use Rattle.commands.specs.{Answer.IsAnswer, Answer.IsExampleAnswer, Cause.IsCause, Cause.is_reported, Headline.IsSafelyAccepted, Line.texts, Show.MakesAgain}
use Rattle.commands.specs.{Topics.IsTopicAnswer, Upgrade.UpgradeKeepsAll, Words.limit_of, Words.task_or_fault, Words.task_of}

-- The answer has this status, and its text was appended to a sink.
abbrev pub IsAnswered : (ℕ → List ℕ → Type 0) → ℕ → Option (List ℕ) → Option (List ℕ) → Type 0
IsAnswered IsReply status before now = (text : List ℕ) × IsReply status text × Appends before now text

-- There is an answer, of whose text a front was appended to a sink.
abbrev pub IsCut : (ℕ → List ℕ → Type 0) → Option (List ℕ) → Option (List ℕ) → Type 0
IsCut IsReply before now = (status : ℕ) × (text : List ℕ) × IsReply status text × AppendsFront before now text

-- A source or a sink failed at its last call where the status is this one, and else never.
pub record FailsAt {X : Type 0} (bytes : X → Option (List ℕ)) (faults : X → ℕ) (old new : X) (failing status : ℕ) : Type 0 where
  pub rose : status ≡ failing → Rose (faults old) (faults new)
  pub last : status ≡ failing → LastCallFailed bytes faults old new
  pub steady : status ≢ failing → faults new ≡ faults old

-- How a run ends: with which status, and what stays as it was. 0 is done and 1 refused; 2 is that the words ask for nothing, 3 that the
-- source failed, 4 that the sink failed, 5 want of memory, and 6 more input than the command's limit.
pub record Ends {X Y : Type 0} (left : X → Option (List ℕ)) (source_faults : X → ℕ) (source source_now : X)
    (held : Y → Option (List ℕ)) (sink_faults : Y → ℕ) (sink sink_now : Y) (asked : Option Task) (status : ℕ) : Type 0 where
  pub statuses : status ≤ 6
  pub words : (status ≡ 2) ↔ (asked ≡ None)
  pub read : FailsAt left source_faults source source_now 3 status
  pub write : FailsAt held sink_faults sink sink_now 4 status
  -- Where neither failed, and the words ask for something, there is an answer but for want of memory and too long an input.
  pub complete : (Rose (source_faults source) (source_faults source_now) → ⊥) → (Rose (sink_faults sink) (sink_faults sink_now) → ⊥)
      → status ≢ 2 → status ≢ 5 → status ≢ 6 → status < 2
  -- Wrong words read nothing, and only an answer writes.
  pub untouched : status ≡ 2 → source_now ≡ source
  pub nothing : 1 < status → status ≢ 4 → sink_now ≡ sink

-- What a command does with its input, of which the source has `left` before the run and `rest` after it.
pub record IsServed (command : Command) (left rest before now : Option (List ℕ)) (status : ℕ) : Type 0 where
  -- an answer is one to all of the input
  pub all : ((status < 2) ⊎ (status ≡ 4)) → IsAtEnd rest
  -- status 6 comes with more input than the command's limit, and only then
  pub long : IfSome left (λ _. (status ≡ 6) ↔ (limit_of command < count_taken left rest))
  pub within : IfSome left (λ bytes. length bytes ≤ limit_of command → status ≢ 6)
  -- the whole answer, or a front of it where the sink failed
  pub answered : status < 2 → IfSome left (λ bytes. IsAnswered (IsAnswer command bytes) status before now)
  pub cut : status ≡ 4 → IfSome left (λ bytes. IsCut (IsAnswer command bytes) before now)

-- What is answered where nothing is read, which is never a refusal.
pub record IsSaid {X : Type 0} (IsReply : ℕ → List ℕ → Type 0) (source source_now : X) (before now : Option (List ℕ)) (status : ℕ) : Type 0 where
  pub statuses : (status ≡ 0) ⊎ ((status ≡ 4) ⊎ (status ≡ 5))
  pub unread : source_now ≡ source
  pub answered : status < 2 → IsAnswered IsReply status before now
  pub cut : status ≡ 4 → IsCut IsReply before now

-- What is promised of every job and of every call, whatever a run is given.
pub record Promises : Type 0 where
  -- Of all bytes in which no rule is broken, every run of the machine from the memory that they are emitted as is safe, each access in what
  -- its own job may reach, and bytes outside what jobs may reach have no effect.
  pub law : AcceptedMayRun
  -- Where no strict rule is broken either, as after status 0 of `check --strict`, the jobs do nothing that the hardware's guide forbids.
  pub strict : StrictBytesObey
  -- What a client's jobs access, and what its memory ends as, doesn't depend on the other clients, where its own jobs take the same steps.
  pub apart : BytesApart
  -- Where no shader branches back, no run has more steps than the file says, and so many more for each step in which a renderer stays at
  -- an item.
  pub ends : AcceptedEnd
  -- The file that `upgrade` writes is refused, or accepted and run, as the one that it read.
  pub upgrade : UpgradeKeepsAll
  -- What `make` answers to a text that `show` wrote, contents and all, is the bytes that `show` read.
  pub makes_again : MakesAgain
  -- What `session` answers to a script is the replies to its calls, one by one.
  pub scripts : ScriptsAreOfCalls
  -- A client's replies, but for those that memory is full, are those of its own commands without the ones that were answered so.
  pub clients : ClientsAreApart
  -- Each live buffer of a session lies in its pages, and all other pages are zero.
  pub pages : MemoryIsKept
  -- The job of an accepted submit reaches no byte of another client's live buffer.
  pub reach : SubmitsReachOwn
  -- Where `bound` answers two numbers, each run of the jobs keeps to them.
  pub bound : BoundHolds
  -- Where it answers `ends` besides, each run that can't go on has finished, or waits for room in its tile slot.
  pub finish : EndHolds
  -- A driver that hands in jobs of accepted files at any time, also while others run, retires them and resets the chip, is safe for ever.
  pub days : DriversAreSafe
  -- Each job that such a driver hands in has no more steps than its file says of it, whatever other jobs come and go.
  pub days_end : SubmissionsEnd
  -- To a client two days are alike in which its jobs come, take the same steps, find the same registers and go, whatever others' jobs do.
  pub days_apart : DaysApart
  -- Blocks that the slot allocator grants lie apart, each in a slot of its own job.
  pub blocks : StaysOrdered
  -- Where the queue starts a job, each earlier writer of what it reads has rendered.
  pub late : StartsLate
  -- `untile` gives back what was tiled, and `tile` what was untiled.
  pub untiled : UntilesWhatWasTiled
  pub tiled : TilesWhatWasUntiled

-- A run with these words, from a source and a sink's states before it to those behind it, that ended with this status.
pub record IsRun {X Y : Type 0} (words : List (String Global)) (left : X → Option (List ℕ)) (source_faults : X → ℕ) (source source_now : X)
    (held : Y → Option (List ℕ)) (sink_faults : Y → ℕ) (sink sink_now : Y) (status : ℕ) : Type 0 where
  pub ends : Ends left source_faults source source_now held sink_faults sink sink_now (task_of (texts words)) status
  -- what a command answers, where the source tells its input
  pub served : (command : Command) → task_of (texts words) ≡ Some (Read command)
      → IsServed command (left source) (left source_now) (held sink) (held sink_now) status
  -- what `gen` answers, and what is said of the program and of rules
  pub made : (number : ℕ) → task_of (texts words) ≡ Some (Make number)
      → IsSaid (IsExampleAnswer number) source source_now (held sink) (held sink_now) status
  pub said : (topic : Topic) → task_of (texts words) ≡ Some (Tell topic)
      → IsSaid (IsTopicAnswer topic) source source_now (held sink) (held sink_now) status
  -- From just the memory that `check` prints of an accepted file, every run of the machine is safe, each access in what its own job may
  -- reach, and bytes outside what jobs may reach have no effect. So it is of what `check --strict` prints.
  pub safe : (strict : Bool) → task_of (texts words) ≡ Some (Read (Check strict)) → status ≡ 0
      → IfSome (left source) (λ bytes. IsSafelyAccepted bytes (held sink) (held sink_now))
  pub promises : Promises

-- A run that says why it ended: of a refusal, or the notes of an accepted shader, where the source tells what was read; and
-- which of the words is wrong.
pub record IsRunWithCause {X Y : Type 0} (words : List (String Global)) (left : X → Option (List ℕ)) (source_faults : X → ℕ) (source source_now : X)
    (held : Y → Option (List ℕ)) (sink_faults : Y → ℕ) (sink sink_now : Y) (ended : Ended Cause) : Type 0 where
  pub run : IsRun words left source_faults source source_now held sink_faults sink sink_now ended.status
  pub cause : (command : Command) → task_of (texts words) ≡ Some (Read command) → is_reported command ended.status ≡ true
      → IfSome (left source) (λ bytes. IsCause command bytes ended.cause)
  pub wrong : IfErr (task_or_fault (texts words)) (λ fault. ended.cause ≡ Some (Words fault))
  pub quiet : ((command : Command) → task_of (texts words) ≡ Some (Read command) → is_reported command ended.status ≡ false) → ended.status ≢ 2
      → ended.cause ≡ None
