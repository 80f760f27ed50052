-- What is put so far, and what is still to come.
use Rattle.std.proofs.Common.{◌≡◌, ◌++◌, ◌-◌}
use Rattle.job_session.specs.{Desk.held_in, Submit.contents_from}
use Rattle.job_session.proofs.session.Session.put_contents.Given as goal

abbrev pub invariant-loop-id : goal.invariant-loop-id
invariant-loop-id l =
    l.file.items ++ contents_from (held_in l.self l.client) l.id (64 - l.id) ≡ l.fn.file.items ++ contents_from (held_in l.self l.client) 0 64
