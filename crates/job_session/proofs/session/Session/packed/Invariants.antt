-- What is listed so far, and what is still to come; the place stays a number of 32 bits.
use Rattle.std.proofs.Common.{◌≡◌, ◌++◌, ◌+◌, ◌-◌, ◌*◌, ◌≤◌, length}
use Rattle.session_pages.specs.Map.{first_place}
use Rattle.job_session.specs.{Desk.held_in, Submit.buffers_packed}
use Rattle.job_session.proofs.session.Session.packed.Given as goal

abbrev pub invariant-loop-id : goal.invariant-loop-id
invariant-loop-id l = record {
  walked : l.buffers.items ++ buffers_packed l.client (held_in l.self l.client) l.id (64 - l.id) l.place ≡ buffers_packed l.client (held_in l.self l.client) 0 64 first_place;
  low : l.place ≤ first_place + 16777216 * l.id;
  few : length l.buffers.items ≤ l.id;
}
