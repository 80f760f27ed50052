-- Calls one after the other: what they leave, and what one client is replied.
use Rattle.std.specs.Prelude.{ℕ, ◌<◌, ◌==◌, List, [], ◌∷◌, if◌then◌else◌}
use Rattle.job_session.specs.declared.denied.BrokenRule.{BrokenRule}
use Rattle.job_session.specs.{Own.Reply, Session.Call, Session.Past, Session.after, Checked.session_rules, Desk.Desk}
use Rattle.job_session.specs.Replies.{desk_reply, desk_after}
use Rattle.session_law.specs.Agree.{client_count}

-- each call is of a client from 0 to 7
abbrev pub AreKnown : List Call → Type 0
AreKnown [] = Unit {0}
AreKnown (call ∷ calls) = (call.client < client_count) × AreKnown calls

unfoldable pub desk_left : Desk → List Call → Desk
desk_left desk [] = desk
desk_left desk (call ∷ calls) = desk_left (desk_after desk call) calls

unfoldable pub past_left : Past → List Call → Past
past_left past [] = past
past_left past (call ∷ calls) = past_left (after session_rules past call) calls

-- the replies to one client
unfoldable pub desk_replies_to : ℕ → Desk → List Call → List (Reply BrokenRule)
desk_replies_to client desk [] = []
desk_replies_to client desk (call ∷ calls) =
    if client == call.client then desk_reply desk call ∷ desk_replies_to client (desk_after desk call) calls
    else desk_replies_to client (desk_after desk call) calls

-- the replies to all
unfoldable pub desk_replies : Desk → List Call → List (Reply BrokenRule)
desk_replies desk [] = []
desk_replies desk (call ∷ calls) = desk_reply desk call ∷ desk_replies (desk_after desk call) calls
