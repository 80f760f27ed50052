-- The calls of a session answer and leave what the calls before them, of all clients, say.
use Rattle.std.specs.Prelude.{◌≡◌, ◌≤◌, ◌<◌, ◌↔◌, ℕ, List, [], ◌∷◌, ◌++◌, Some, None}
use Rattle.job_session.specs.Session.{Call, Past, none_yet, reply_to, after, replies_to, commands_of}
use Rattle.job_session.specs.{Own.Refused, Own.own_replies, Places.Place, Places.least_place, Checked.session_rules, Laws.other_replies, Laws.other_commands}
use Rattle.job_session.specs.{Desk.Desk, Desk.empty, Replies.desk_reply, Replies.desk_after}
use Rattle.session_law.specs.{Agree.client_count, Agree.Agrees, Kept.IsKept, Full.IsFullFor, Full.IsLowestRoom}
use Rattle.session_law.specs.History.{AreKnown, desk_left, past_left, desk_replies_to}

-- no call was made of a new session
abbrev pub NewSessionsAgree : Type 0
NewSessionsAgree = Agrees none_yet empty

-- a call's reply is that of the calls before it, and what it leaves agrees with the calls up to it
pub record IsAnswered (past : Past) (desk : Desk) (call : Call) : Type 0 where
  pub reply : desk_reply desk call ≡ reply_to session_rules past call
  pub left : Agrees (after session_rules past call) (desk_after desk call)

abbrev pub CallsAreAnswered : Type 0
CallsAreAnswered = (past : Past) (desk : Desk) (call : Call) → call.client < client_count → Agrees past desk → IsAnswered past desk call

abbrev pub HistoriesAgree : Type 0
HistoriesAgree = (calls : List Call) → AreKnown calls → Agrees (past_left none_yet calls) (desk_left empty calls)

-- Calls were made on a new session one after the other, and this is what they left: a further call's reply is that of the history of all of
-- them, and what it leaves is what all of them leave. So a session that is called as its contracts say agrees with its history.
pub record GoesOn (calls : List Call) (call : Call) (desk : Desk) : Type 0 where
  pub reply : desk_reply desk call ≡ reply_to session_rules (past_left none_yet calls) call
  pub left : desk_after desk call ≡ desk_left empty (calls ++ call ∷ [])

abbrev pub SessionsGoOn : Type 0
SessionsGoOn =
    (calls : List Call) (call : Call) (desk : Desk) → AreKnown calls → call.client < client_count → desk ≡ desk_left empty calls
    → GoesOn calls call desk

abbrev pub RepliesAreOfHistories : Type 0
RepliesAreOfHistories = (client : ℕ) (calls : List Call) → AreKnown calls → desk_replies_to client empty calls ≡ replies_to client session_rules none_yet calls

-- The replies to a client, but for those that memory is full, are exactly those of its own commands alone, but for the commands that were
-- answered so. Whether memory is full depends on all clients; nothing else that a client learns does.
abbrev pub ClientsAreApart : Type 0
ClientsAreApart = (client : ℕ) (calls : List Call) → AreKnown calls
    → other_replies (desk_replies_to client empty calls)
    ≡ own_replies session_rules client (λ id. None) (other_commands (commands_of client calls) (desk_replies_to client empty calls))

abbrev pub MemoryIsKept : Type 0
MemoryIsKept = (calls : List Call) → AreKnown calls → IsKept (past_left none_yet calls) (desk_left empty calls)

-- the reply that memory is full comes exactly where it is
abbrev pub FullIsExact : Type 0
FullIsExact = (past : Past) (desk : Desk) (call : Call) → call.client < client_count → Agrees past desk
    → (desk_reply desk call ≡ Refused 6) ↔ IsFullFor past call.client call.command

-- the place that a new buffer takes is the lowest with room for it
abbrev pub PlacesAreLowest : Type 0
PlacesAreLowest = (places : List Place) (pages first : ℕ) → 1 ≤ pages → (least_place places pages ≡ Some first) ↔ IsLowestRoom places pages first
