-- An accepted file has one to eight jobs, each with a layout and with lengths.
use Rattle.vc4check_c.specs.Jobs.{accepted_jobs}
use Rattle.std.proofs.Common.{◌≡◌, length, refl, sym, ap, arith, ◌∙◌}
use Rattle.field_words.specs.Writes.{with_bytes}
use Rattle.vc4check_c.proofs.{Places.report, Places.are_placed, Safe.files_are_safe, Safe.files_obey}
use Rattle.vc4check_c.proofs.place.vc4check_place.Goals as goal

pub accepted-requires-clause-each : goal.accepted-requires-clause-each
accepted-requires-clause-each c =
    let is = report c.args.bytes.now c.in-Ok.region (c.in-Ok.ensures.spelled refl) c.in-Ok.ensures.answers.1 in
    ap length c.deref-in-Ok.ensures.0 ∙ is.each ∙ ap length (sym c.deref.ensures.0)

pub accepted-requires-clause-few : goal.accepted-requires-clause-few
accepted-requires-clause-few c =
    let is = report c.args.bytes.now c.in-Ok.region (c.in-Ok.ensures.spelled refl) c.in-Ok.ensures.answers.1 in
    omega (arith, is.few, ap length c.deref.ensures.0)

-- The window has the lists, and the answer tells where.
pub returns-in-Ok-clause-accepted : goal.returns-in-Ok-clause-accepted
returns-in-Ok-clause-accepted c =
    let region = c.in-Ok.region in
    let report : c.accepted.result ≡ accepted_jobs (length region.bytes.items) region.layouts.items region.lengths.items =
    cc (c.accepted.ensures, c.len.ensures, c.deref.ensures.0, c.deref-in-Ok.ensures.0) in
    λ zero. are_placed c.args.bytes.now region c.accepted.result c.in-Ok.ensures.answers.0 (c.in-Ok.ensures.spelled refl) c.in-Ok.ensures.answers.1 report

pub returns-in-Ok-clause-relocated : goal.returns-in-Ok-clause-relocated
returns-in-Ok-clause-relocated c = λ zero.
    c.put.ensures.put zero ∙ ap (with_bytes c.args.window.now 0) (c.deref-in-Ok-2.ensures.value ∙ c.in-Ok.ensures.answers.1.bytes_are)

pub returns-in-Ok-clause-safe : goal.returns-in-Ok-clause-safe
returns-in-Ok-clause-safe c = λ zero.
    files_are_safe c.args.bytes.now c.args.window.now c.put.new.room c.accepted.result (λ i. omega (arith, c.type_inv.bytes i))
    (returns-in-Ok-clause-accepted c zero) (returns-in-Ok-clause-relocated c zero)

pub returns-in-Ok-clause-strict : goal.returns-in-Ok-clause-strict
returns-in-Ok-clause-strict c = λ zero.
    files_obey c.args.bytes.now c.args.window.now c.put.new.room c.accepted.result (λ i. omega (arith, c.type_inv.bytes i))
    (returns-in-Ok-clause-accepted c zero) (returns-in-Ok-clause-relocated c zero)
