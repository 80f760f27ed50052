-- What a script is answered: a line for each of its calls.
use Rattle.std.specs.Prelude.{ℕ, List, [], ◌++◌, codes, Option, Some, None, decimal}
use Rattle.hex.specs.Hex.{encode_lower}
use Rattle.job_format.specs.Rules.{rule_text}
use Rattle.job_session.specs.declared.denied.BrokenRule.{BrokenRule}
use Rattle.script.specs.Replies.{replies as script_replies}
use Rattle.job_session.specs.{Own.Command, Own.Reply, Own.Id, Own.Done, Own.Bytes, Own.Accepted, Own.Refused, Own.Broken, Session.Call}
use Rattle.job_session.specs.{Desk.Desk, Desk.empty, Replies.command_reply, Replies.desk_after, Calls.call_of}

-- a rule of shaders or of jobs is named with its place
unfoldable pub reply_line : Reply BrokenRule → List ℕ
reply_line (Id id) = codes "id " ++ (decimal id ++ codes "\n")
reply_line Done = codes "done\n"
reply_line (Bytes bytes) = codes "bytes " ++ (encode_lower bytes ++ codes "\n")
reply_line Accepted = codes "accepted\n"
reply_line (Refused refusal) = codes "refused J" ++ (decimal refusal ++ codes "\n")
reply_line (Broken broken) = codes "refused " ++ (rule_text broken.rule ++ (codes " at " ++ (decimal broken.offset ++ codes "\n")))

-- the line that answers a client's command
abbrev pub answer_line : Desk → ℕ → Command → List ℕ
answer_line desk client command = reply_line (command_reply desk client command)

-- the line that answers a line, which may be no call, and the desk that it leaves
abbrev pub call_reply : Desk → Option Call → List ℕ
call_reply desk None = []
call_reply desk (Some call) = answer_line desk call.client call.command

abbrev pub call_after : Desk → Option Call → Desk
call_after desk None = desk
call_after desk (Some call) = desk_after desk call

abbrev pub line_reply : Desk → List ℕ → List ℕ
line_reply desk line = call_reply desk (call_of line)

abbrev pub line_after : Desk → List ℕ → Desk
line_after desk line = call_after desk (call_of line)

-- the answer to a script, on a session without buffers
unfoldable pub replies : List ℕ → List ℕ
replies text = script_replies line_reply line_after empty text
