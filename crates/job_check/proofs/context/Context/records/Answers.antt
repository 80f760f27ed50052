use Rattle.std.proofs.Common.{◌≡◌, length, Some, None, sym, ap, subst, arith, ◌∙◌}
use Rattle.field_words.specs.{Writes.with_bytes, Questions.first_of}
use Rattle.buffer_table.specs.Table.{TableModel}
use Rattle.job_format.specs.Parts.{job_parts_view}
use Rattle.relocation.specs.declared.layout.Layout.{Layout}
use Rattle.shader_records.specs.{Inputs.InputModel, Inputs.AreShaped, Inputs.shaders_view, Inputs.input_of, Rules.all_questions}
use Rattle.shader_records.specs.{Emission.emitted_uniforms, Emitted.streams_place, Emitted.IsEmitted}
use Rattle.job_check.specs.{Jobs.layout_of, Jobs.input_for, Jobs.records_of, Faults.record_refused, Context.InView, Context.IsContext}
use Rattle.job_check.proofs.Views.{input_is, records_none, records_some, records_are, streams_are, records_within, streams_within}
use Rattle.job_check.proofs.Layouts.{kept_low, layout_apart}
use Rattle.job_check.proofs.context.Context.records.Goals as goal

pub invariant_of-inputs : goal.invariant_of-inputs
invariant_of-inputs c =
    let x = c.self.inside in
    let h = subst (λ (w : InView). IsContext w (job_parts_view x.job.now) x.table.now (shaders_view x.shaders.now.items) x.handles x.layout) c.self.view_is c.self.invariant in
    let shaped = subst (λ (t : TableModel). AreShaped t (shaders_view x.shaders.now.items)) (sym h.table_is) h.shaped in
    record { handles = h.numbers; shaders = subst (λ l. AreShaped x.table.now (shaders_view l)) (sym c.deref.ensures.value) shaped }

pub check_records-requires-clause-place_limit : goal.check_records-requires-clause-place_limit
check_records-requires-clause-place_limit c =
    let x = c.self.inside in
    let low = kept_low _ (job_parts_view x.job.now) x.table.now (shaders_view x.shaders.now.items) x.handles x.layout c.self.invariant in
    omega (arith, low.place)

pub check_records-requires-clause-limit : goal.check_records-requires-clause-limit
check_records-requires-clause-limit c =
    let x = c.self.inside in
    let low = kept_low _ (job_parts_view x.job.now) x.table.now (shaders_view x.shaders.now.items) x.handles x.layout c.self.invariant in
    omega (arith, low.uniforms)

pub check_records-requires-clause-order : goal.check_records-requires-clause-order
check_records-requires-clause-order c =
    let v = c.args.self.now in
    let x = c.self.inside in
    let h = subst (λ (w : InView). IsContext w (job_parts_view x.job.now) x.table.now (shaders_view x.shaders.now.items) x.handles x.layout) c.self.view_is c.self.invariant in
    let apart = layout_apart v.file v.number in
    omega (arith, apart.second, ap (λ l. l.records) h.layout_is, ap (λ l. l.uniforms) h.layout_is, ap (λ j. length j.records) h.job_is)

pub check_records-requires-clause-room : goal.check_records-requires-clause-room
check_records-requires-clause-room c =
    let v = c.args.self.now in
    let x = c.self.inside in
    let h = subst (λ (w : InView). IsContext w (job_parts_view x.job.now) x.table.now (shaders_view x.shaders.now.items) x.handles x.layout) c.self.view_is c.self.invariant in
    let apart = layout_apart v.file v.number in
    omega (arith, apart.third, apart.last, ap (λ l. l.uniforms) h.layout_is, ap (λ j. length j.uniforms) h.job_is, c.requires.room)

pub returns-in-Ok-clause-answers : goal.returns-in-Ok-clause-answers
returns-in-Ok-clause-answers c = λ true.
    let v = c.args.self.now in
    let x = c.self.inside in
    let h = subst (λ (w : InView). IsContext w (job_parts_view x.job.now) x.table.now (shaders_view x.shaders.now.items) x.handles x.layout) c.self.view_is c.self.invariant in
    let f = v.file in
    let j = v.number in
    let out = c.args.out.now in
    let same =
    ap (λ l. input_of c.args.states.now x.job.now.records.now x.job.now.uniforms.now x.table.now x.handles l) c.deref.ensures.value
    ∙ input_is v c.args.states.now (job_parts_view x.job.now) x.table.now (shaders_view x.shaders.now.items) x.handles x.layout h c.requires.states true in
    let none = subst (λ (i : InputModel). first_of (all_questions i) ≡ None) same c.in-Ok.ensures.answers.0 in
    let report = subst (λ (i : InputModel). IsEmitted i x.layout out c.check_records.new.out c.in-Ok.info) same c.in-Ok.ensures.answers.1 in
    let emitted = subst (λ (l : Layout). IsEmitted (input_for f j) l out c.check_records.new.out c.in-Ok.info) h.layout_is report in (
      records_none f j c.requires.some none,
      record { records = emitted.records ∙ ap length (records_are f j c.requires.some); uniforms = emitted.uniforms ∙ ap length (streams_are f j c.requires.some) },
    )

pub returns-in-Ok-clause-written : goal.returns-in-Ok-clause-written
returns-in-Ok-clause-written c = λ true.
    let v = c.args.self.now in
    let x = c.self.inside in
    let h = subst (λ (w : InView). IsContext w (job_parts_view x.job.now) x.table.now (shaders_view x.shaders.now.items) x.handles x.layout) c.self.view_is c.self.invariant in
    let f = v.file in
    let j = v.number in
    let out = c.args.out.now in
    let same =
    ap (λ l. input_of c.args.states.now x.job.now.records.now x.job.now.uniforms.now x.table.now x.handles l) c.deref.ensures.value
    ∙ input_is v c.args.states.now (job_parts_view x.job.now) x.table.now (shaders_view x.shaders.now.items) x.handles x.layout h c.requires.states true in
    let report = subst (λ (i : InputModel). IsEmitted i x.layout out c.check_records.new.out c.in-Ok.info) same c.in-Ok.ensures.answers.1 in
    let emitted = subst (λ (l : Layout). IsEmitted (input_for f j) l out c.check_records.new.out c.in-Ok.info) h.layout_is report in
    let layout = layout_of f j in
    emitted.bytes
    ∙ ap (λ t. with_bytes (with_bytes out layout.records t) layout.uniforms (emitted_uniforms (input_for f j) (streams_place layout))) (records_are f j c.requires.some)
    ∙ ap (with_bytes (with_bytes out layout.records (records_of f j)) layout.uniforms) (streams_are f j c.requires.some)

pub returns-in-Ok-clause-records_fit : goal.returns-in-Ok-clause-records_fit
returns-in-Ok-clause-records_fit c = λ true.
    let v = c.args.self.now in
    let x = c.self.inside in
    let h = subst (λ (w : InView). IsContext w (job_parts_view x.job.now) x.table.now (shaders_view x.shaders.now.items) x.handles x.layout) c.self.view_is c.self.invariant in
    let f = v.file in
    let j = v.number in
    let same =
    ap (λ l. input_of c.args.states.now x.job.now.records.now x.job.now.uniforms.now x.table.now x.handles l) c.deref.ensures.value
    ∙ input_is v c.args.states.now (job_parts_view x.job.now) x.table.now (shaders_view x.shaders.now.items) x.handles x.layout h c.requires.states true in
    let none = subst (λ (i : InputModel). first_of (all_questions i) ≡ None) same c.in-Ok.ensures.answers.0 in
    records_within f j c.requires.some none

pub returns-in-Ok-clause-streams_fit : goal.returns-in-Ok-clause-streams_fit
returns-in-Ok-clause-streams_fit c = λ true.
    let v = c.args.self.now in
    let x = c.self.inside in
    let h = subst (λ (w : InView). IsContext w (job_parts_view x.job.now) x.table.now (shaders_view x.shaders.now.items) x.handles x.layout) c.self.view_is c.self.invariant in
    let f = v.file in
    let j = v.number in
    let same =
    ap (λ l. input_of c.args.states.now x.job.now.records.now x.job.now.uniforms.now x.table.now x.handles l) c.deref.ensures.value
    ∙ input_is v c.args.states.now (job_parts_view x.job.now) x.table.now (shaders_view x.shaders.now.items) x.handles x.layout h c.requires.states true in
    let none = subst (λ (i : InputModel). first_of (all_questions i) ≡ None) same c.in-Ok.ensures.answers.0 in
    streams_within f j c.requires.some none

pub returns-in-Err-Fault-clause-answers : goal.returns-in-Err-Fault-clause-answers
returns-in-Err-Fault-clause-answers c = λ true.
    let v = c.args.self.now in
    let x = c.self.inside in
    let h = subst (λ (w : InView). IsContext w (job_parts_view x.job.now) x.table.now (shaders_view x.shaders.now.items) x.handles x.layout) c.self.view_is c.self.invariant in
    let same =
    ap (λ l. input_of c.args.states.now x.job.now.records.now x.job.now.uniforms.now x.table.now x.handles l) c.deref.ensures.value
    ∙ input_is v c.args.states.now (job_parts_view x.job.now) x.table.now (shaders_view x.shaders.now.items) x.handles x.layout h c.requires.states true in
    let report = rw c.in-Err-Fault.field-0-is at c.in-Err-Fault.ensures.answers in
    let broken = subst (λ (i : InputModel). first_of (all_questions i) ≡ Some c.in-Err-Fault.fault) same report in
    records_some v.file v.number c.in-Err-Fault.fault c.requires.some broken
    ∙ sym (ap Some (c.record_refusal.ensures ∙ ap (λ (w : InView). record_refused w.number c.in-Err-Fault.fault) c.self.view_is))
