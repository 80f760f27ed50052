use Rattle.std.proofs.Common.{◌≡◌, ◌++◌, ◌∙◌, get_or, sym, ap, subst}
use Rattle.buffer_table.specs.declared.buffer.Kind.TheVariants.{Plain}
use Rattle.job_session.specs.{Desk.Desk, Desk.held_in, Submit.contents_at}
use Rattle.job_session.proofs.Held.{not_code, put_none, put_plain, put_code}
use Rattle.job_session.proofs.session.Session.put_content.Goals as goal

pub returns-then-self-slot-eq0 : goal.returns-then-self-slot-eq0
returns-then-self-slot-eq0 c =
    let s = c.self.inside in
    let desk : Desk = record { map = s.pages; firsts = s.firsts; counts = s.counts; kinds = s.kinds } in
    let at = sym c.slot-slot.ensures in
    let file = c.args.file.now.items in
    subst (λ d. file ≡ file ++ contents_at (held_in d c.args.client c.args.id)) c.self.view_is
    (put_none desk c.args.client c.args.id file (ap (λ k. get_or s.counts k 0) at ∙ c.if-self-slot-eq0.true))

pub returns-in_ok-extend_from_slice : goal.returns-in_ok-extend_from_slice
returns-in_ok-extend_from_slice c =
    let s = c.self.inside in
    let desk : Desk = record { map = s.pages; firsts = s.firsts; counts = s.counts; kinds = s.kinds } in
    let slot = c.slot-slot.ensures in
    let file = c.args.file.now.items in
    subst (λ d. c.extend_from_slice.new.self.items ≡ file ++ contents_at (held_in d c.args.client c.args.id)) c.self.view_is
    (put_code desk c.args.client c.args.id c.slot-slot.result file c.deref.result.now c.extend_from_slice.new.self.items c.requires.id slot c.if-self-slot-eq0.false c.in-Code.is
    (c.deref.ensures.value ∙ c.in_ok-bytes.ensures) c.in_ok-extend_from_slice.ensures.items)

pub returns-in_default : goal.returns-in_default
returns-in_default c =
    let s = c.self.inside in
    let desk : Desk = record { map = s.pages; firsts = s.firsts; counts = s.counts; kinds = s.kinds } in
    let slot = c.slot-slot.ensures in
    let file = c.args.file.now.items in
    subst (λ d. file ≡ file ++ contents_at (held_in d c.args.client c.args.id)) c.self.view_is
    (put_plain desk c.args.client c.args.id c.slot-slot.result file c.requires.id slot c.if-self-slot-eq0.false (not_code (get_or s.kinds c.slot-slot.result Plain) c.in_default.not-Code))
