-- What a script is answered: a line for each of its lines, or the first line that is no call.
use Rattle.std.specs.Prelude.{◌≡◌, ◌⊎◌, ℕ, List, ◌++◌, codes, Option, None, Some, decimal}
use Rattle.overflow_slots.specs.{Text.replies as slots_replies, Calls.fault_line as slots_fault}
use Rattle.job_queue.specs.{Text.replies as queue_replies, Calls.fault_line as queue_fault}
use Rattle.commands.specs.declared.scripts.Script.TheVariants.{Slots, Queue, Session}
use Rattle.commands.specs.declared.scripts.Script.{Script}
use Rattle.job_session.specs.{Text.replies as session_replies, Calls.fault_line as session_fault}

-- the calls of a script, as a line names them
unfoldable pub calls_text : Script → List ℕ
calls_text Slots = codes "begin JOB TILES, take JOB, overflow JOB or end JOB, with a job to 31 and tiles to 65025"
calls_text Queue = codes "submit READS WRITES, start, bin or render, where READS and WRITES are - or numbers parted by commas"
calls_text Session = codes "create CLIENT PAGES, code CLIENT HEX, write CLIENT ID AT HEX, read CLIENT ID AT LENGTH, free CLIENT ID or submit CLIENT HEX, with a client to 7"

-- a line for the first line of a script that is no call
unfoldable pub malformed_text : ℕ → List ℕ
malformed_text line = codes "line " ++ (decimal line ++ codes " fault 1\n")

-- A script is answered with these replies where no line is malformed, else with the first line that is.
abbrev pub IsScriptAnswer : Option ℕ → List ℕ → ℕ → List ℕ → Type 0
IsScriptAnswer fault replies status out =
    ((fault ≡ None) × (status ≡ 0) × (out ≡ replies))
    ⊎ ((line : ℕ) × (fault ≡ Some line) × (status ≡ 1) × (out ≡ malformed_text line))

-- calls on a book of so many slots, and on a queue of jobs with so many buffers
abbrev pub IsSlotsAnswer : ℕ → List ℕ → ℕ → List ℕ → Type 0
IsSlotsAnswer slots text status out = IsScriptAnswer (slots_fault text) (slots_replies slots text) status out

abbrev pub IsQueueAnswer : ℕ → List ℕ → ℕ → List ℕ → Type 0
IsQueueAnswer buffers text status out = IsScriptAnswer (queue_fault text) (queue_replies buffers text) status out

-- calls on a session without buffers
abbrev pub IsSessionAnswer : List ℕ → ℕ → List ℕ → Type 0
IsSessionAnswer text status out = IsScriptAnswer (session_fault text) (session_replies text) status out
