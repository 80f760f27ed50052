-- What a call is answered from a desk on, and the desk that it leaves.
use Rattle.std.specs.Prelude.{ℕ, length, List, Result, Ok, Err}
use Rattle.job_session.specs.declared.denied.BrokenRule.{BrokenRule}
use Rattle.job_session.specs.Own.{Command, Create, Make, Write, Read, Free, Submit, Reply, Id, Done, Bytes, Accepted, Refused, Broken}
use Rattle.job_session.specs.Desk.{Desk, create_answer, after_create, code_answer, after_code, write_answer, after_write, read_answer, free_answer, after_free, submit_answer}
use Rattle.job_session.specs.{declared.denied.Denied.Denied, Session.Call}
use Rattle.job_session.specs.declared.denied.Denied.TheVariants.{Session, Job}

abbrev pub created_reply : Result ℕ ℕ → Reply BrokenRule
created_reply (Ok id) = Id id
created_reply (Err refusal) = Refused refusal

abbrev pub denied_reply : Denied → Reply BrokenRule
denied_reply (Session refusal) = Refused refusal
denied_reply (Job refusal) = Broken refusal

abbrev pub made_reply : Result ℕ Denied → Reply BrokenRule
made_reply (Ok id) = Id id
made_reply (Err denied) = denied_reply denied

abbrev pub done_reply : Result (Unit {0}) ℕ → Reply BrokenRule
done_reply (Ok done) = Done
done_reply (Err refusal) = Refused refusal

abbrev pub read_reply : Result (List ℕ) ℕ → Reply BrokenRule
read_reply (Ok bytes) = Bytes bytes
read_reply (Err refusal) = Refused refusal

abbrev pub submitted_reply : Result (Unit {0}) Denied → Reply BrokenRule
submitted_reply (Ok done) = Accepted
submitted_reply (Err denied) = denied_reply denied

unfoldable pub command_reply : Desk → ℕ → Command → Reply BrokenRule
command_reply desk client (Create pages) = created_reply (create_answer desk client pages)
command_reply desk client (Make bytes) = made_reply (code_answer desk client bytes)
command_reply desk client (Write id at part) = done_reply (write_answer desk client id at (length part))
command_reply desk client (Read id at len) = read_reply (read_answer desk client id at len)
command_reply desk client (Free id) = done_reply (free_answer desk client id)
command_reply desk client (Submit parts) = submitted_reply (submit_answer desk client parts)

unfoldable pub command_after : Desk → ℕ → Command → Desk
command_after desk client (Create pages) = after_create desk client pages (create_answer desk client pages)
command_after desk client (Make bytes) = after_code desk client bytes (code_answer desk client bytes)
command_after desk client (Write id at part) = after_write desk client id at part (write_answer desk client id at (length part))
command_after desk client (Read id at len) = desk
command_after desk client (Free id) = after_free desk client id
command_after desk client (Submit parts) = desk

-- the reply to a call
abbrev pub desk_reply : Desk → Call → Reply BrokenRule
desk_reply desk call = command_reply desk call.client call.command

abbrev pub desk_after : Desk → Call → Desk
desk_after desk call = command_after desk call.client call.command
