-- What a script is answered, by the history of its calls.
use Rattle.std.specs.Prelude.{◌≡◌, ℕ, List, [], ◌∷◌, Option, Some, None, flat_map}
use Rattle.script.specs.{Lines.lines_of, Replies.replies_from}
use Rattle.job_session.specs.{Session.Call, Session.Past, Session.none_yet, Session.reply_to, Session.after, Checked.session_rules}
use Rattle.job_session.specs.{Desk.empty, Calls.call_of, Text.reply_line, Text.replies}
use Rattle.session_law.specs.History.{AreKnown, desk_replies}

-- the line that answers a line, which may be no call, and the calls up to it
abbrev pub report_of : Past → Option Call → List ℕ
report_of past None = []
report_of past (Some call) = reply_line (reply_to session_rules past call)

abbrev pub past_with : Past → Option Call → Past
past_with past None = past
past_with past (Some call) = after session_rules past call

abbrev pub line_report : Past → List ℕ → List ℕ
line_report past line = report_of past (call_of line)

abbrev pub past_after_line : Past → List ℕ → Past
past_after_line past line = past_with past (call_of line)

-- a script's answer is that of the history of all clients' calls on its lines
abbrev pub ScriptsAreOfHistories : Type 0
ScriptsAreOfHistories = (text : List ℕ) → replies text ≡ replies_from line_report past_after_line none_yet (lines_of text)

-- the calls on lines, without the lines that are no calls
abbrev pub onto_calls : Option Call → List Call → List Call
onto_calls None calls = calls
onto_calls (Some call) calls = call ∷ calls

unfoldable pub calls_in : List (List ℕ) → List Call
calls_in [] = []
calls_in (line ∷ lines) = onto_calls (call_of line) (calls_in lines)

-- a script's answer is that of its calls, one after the other on a new session, each by a client that there is
pub record IsOfCalls (text : List ℕ) : Type 0 where
  pub known : AreKnown (calls_in (lines_of text))
  pub report : replies text ≡ flat_map reply_line (desk_replies empty (calls_in (lines_of text)))

abbrev pub ScriptsAreOfCalls : Type 0
ScriptsAreOfCalls = (text : List ℕ) → IsOfCalls text
