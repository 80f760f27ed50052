use Rattle.std.proofs.Common.{◌∙◌, ◌+◌, ℕ, List, refl, sym, arith, Option}
use Rattle.buffer_table.specs.declared.buffer.Buffer.{Buffer}
use Rattle.session_pages.specs.Map.{first_place}
use Rattle.job_session.specs.{Own.Held, Desk.held_in, Submit.buffers_packed}
use Rattle.job_session.proofs.Packed.{packed_none, packed_some, packed_end, one_longer}
use Rattle.job_session.proofs.session.Session.packed.Goals.{in-Some+in_ok-push, in_default}
use Rattle.job_session.proofs.session.Session.packed.Goals as goal

pub loop-id-preserved : goal.loop-id-preserved
loop-id-preserved c =
    let was = c.loop-id.invariant in
    let own : ℕ → Option Held = held_in c.args.self.now c.args.client in
    let all : List Buffer = buffers_packed c.args.client own 0 64 first_place in
    elim c.match-laid.branch [
      | in-Some+in_ok-push w ↦ rw (w.buffers-is, w.place-is) (record {
        walked = packed_some c.args.client own c.loop-id.id c.loop-id.place (c.loop-id.place + w.in-Some.buffer.size) w.in-Some.buffer c.loop-id.buffers.items
            w.push.new.self.items all c.loop-id-test.true (sym w.in-Some.is ∙ c.laid.ensures.buffer) refl w.in_ok-push.ensures.items was.walked;
        low = omega (arith, was.low, w.in-Some.ensures.size);
        few = one_longer c.loop-id.id c.loop-id.buffers.items w.push.new.self.items w.in-Some.buffer w.in_ok-push.ensures.items was.few;
      })
      | in_default w ↦ rw (w.buffers-is, w.place-is) (record {
        walked = packed_none c.args.client own c.loop-id.id c.loop-id.place c.loop-id.buffers.items all c.loop-id-test.true
            (sym w.in_default.is ∙ c.laid.ensures.buffer) was.walked;
        low = omega (arith, was.low);
        few = omega (arith, was.few);
      })
    ]

pub returns-clause-all : goal.returns-clause-all
returns-clause-all c =
    packed_end c.args.client (held_in c.args.self.now c.args.client) c.loop-id.id c.loop-id.place c.loop-id.buffers.items
    (buffers_packed c.args.client (held_in c.args.self.now c.args.client) 0 64 first_place) c.loop-id-test.false c.loop-id.invariant.walked
