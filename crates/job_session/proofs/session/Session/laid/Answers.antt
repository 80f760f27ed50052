use Rattle.std.proofs.Common.{◌≡◌, ◌*◌, get_or, subst, Option, None, Some}
use Rattle.buffer_table.specs.{declared.buffer.Buffer.Buffer, declared.buffer.Kind.TheVariants.Plain}
use Rattle.job_session.specs.{Desk.Desk, Desk.held_in, Submit.laid_in}
use Rattle.job_session.proofs.Held.{laid_none, laid_some}
use Rattle.job_session.proofs.session.Session.laid.Goals as goal

pub returns-then-self-slot-eq0-clause-buffer : goal.returns-then-self-slot-eq0-clause-buffer
returns-then-self-slot-eq0-clause-buffer c =
    let s = c.self.inside in
    let desk : Desk = record { map = s.pages; firsts = s.firsts; counts = s.counts; kinds = s.kinds } in
    let none : Option Buffer = None in
    subst (λ d. none ≡ laid_in c.args.client c.args.place (held_in d c.args.client c.args.id)) c.self.view_is
    (laid_none desk c.args.client c.args.id c.slot-slot.result c.args.place c.slot-slot.ensures c.if-self-slot-eq0.true)

pub returns-clause-buffer : goal.returns-clause-buffer
returns-clause-buffer c =
    let s = c.self.inside in
    let desk : Desk = record { map = s.pages; firsts = s.firsts; counts = s.counts; kinds = s.kinds } in
    let slot = c.slot-slot.result in
    let buffer : Buffer = record {
      place = c.args.place;
      size = 4096 * get_or s.counts slot 0;
      client = c.from.result;
      kind = get_or s.kinds slot Plain;
      content = c.content_size.result;
    } in
    subst (λ d. Some buffer ≡ laid_in c.args.client c.args.place (held_in d c.args.client c.args.id)) c.self.view_is
    (laid_some desk c.args.client c.args.id slot c.args.place c.from.result c.content_size.result c.requires.id c.requires.client c.slot-slot.ensures
    c.if-self-slot-eq0.false c.self.invariant c.size-size.ensures.sized c.from.ensures c.content_size.ensures.content)
