-- A client's replies are those of its own commands alone, but for the commands that were answered that memory is full.
use Rattle.std.specs.Prelude.{◌≡◌, ◌==◌, ℕ, Bool, false, List, [], ◌∷◌, None, if◌then◌else◌}
use Rattle.job_session.specs.declared.denied.BrokenRule.{BrokenRule}
use Rattle.job_session.specs.Own.{Command, Reply, Refused, Id, Done, Bytes, Accepted, Broken, Rules, own_replies}
use Rattle.job_session.specs.Session.{Call, none_yet, replies_to, commands_of}

-- 6: memory is full
abbrev pub is_full : {F : Type 0} → Reply F → Bool
is_full (Refused number) = number == 6
is_full (Id id) = false
is_full Done = false
is_full (Bytes bytes) = false
is_full Accepted = false
is_full (Broken fault) = false

-- the replies but those, and the commands that got others
abbrev pub other_replies : {F : Type 0} → List (Reply F) → List (Reply F)
other_replies [] = []
other_replies (reply ∷ replies) = if is_full reply then other_replies replies else reply ∷ other_replies replies

abbrev pub other_commands : {F : Type 0} → List Command → List (Reply F) → List Command
other_commands [] replies = []
other_commands (command ∷ commands) [] = command ∷ commands
other_commands (command ∷ commands) (reply ∷ replies) =
    if is_full reply then other_commands commands replies else command ∷ other_commands commands replies

-- whatever rules shaders and jobs have, which see the client's own buffers alone
abbrev pub RepliesAreOwn : Type 0
RepliesAreOwn = (rules : Rules BrokenRule) (client : ℕ) (calls : List Call)
    → other_replies (replies_to client rules none_yet calls)
    ≡ own_replies rules client (λ id. None) (other_commands (commands_of client calls) (replies_to client rules none_yet calls))
