-- An accepted submission's lists are reported.
use Rattle.std.proofs.Common.{◌≡◌, length, drop, sym, ap, subst, arith, ◌∙◌}
use Rattle.field_words.specs.Writes.{with_bytes}
use Rattle.vc4check_c.specs.Submit.{accepted_verdict}
use Rattle.vc4check_c.proofs.Safe.{submissions_are_safe, submissions_obey, submissions_may_join}
use Rattle.vc4check_c.proofs.Takes.{size_inside, some_lists, is_taken, behind_stays}
use Rattle.vc4check_c.proofs.submit.vc4check_submit.Goals as goal

pub size_of-size-requires : goal.size_of-size-requires
size_of-size-requires c = omega (arith, ap length c.deref.ensures.value, size_inside c.args.submission.now c.in-Ok.region c.in-Ok.ensures.laid)

pub bounds-deref-0 : goal.bounds-deref-0
bounds-deref-0 c = let some = some_lists c.args.submission.now c.in-Ok.region c.in-Ok.ensures.laid in omega (arith, some.0, ap length c.deref-in-Ok.ensures.0)

pub bounds-deref-0-in-Ok : goal.bounds-deref-0-in-Ok
bounds-deref-0-in-Ok c = let some = some_lists c.args.submission.now c.in-Ok.region c.in-Ok.ensures.laid in omega (arith, some.1, ap length c.deref-in-Ok-2.ensures.0)

pub returns-in-Ok-clause-accepted : goal.returns-in-Ok-clause-accepted
returns-in-Ok-clause-accepted c = λ known.
    let size = c.size_of-size.ensures ∙ ap length c.deref.ensures.value in
    let report = c.in-Ok.ensures.answers known in
    λ zero. is_taken c.args.submission.now c.in-Ok.region c.accepted.result report.0 report.1 (cc (c.accepted.ensures, size, c.deref-in-Ok.ensures.0, c.deref-in-Ok-2.ensures.0))

pub returns-in-Ok-clause-short : goal.returns-in-Ok-clause-short
returns-in-Ok-clause-short c = λ known.
    let size = c.size_of-size.ensures ∙ ap length c.deref.ensures.value in
    let report = c.in-Ok.ensures.answers known in
    λ two. is_taken c.args.submission.now c.in-Ok.region c.accepted.result report.0 report.1 (cc (c.accepted.ensures, size, c.deref-in-Ok.ensures.0, c.deref-in-Ok-2.ensures.0))

pub returns-in-Ok-clause-front : goal.returns-in-Ok-clause-front
unfolding accepted_verdict
returns-in-Ok-clause-front c = λ zero.
    let put = c.deref-in-Ok-3.result.now in
    let size : c.accepted.result.size ≡ length put = ap (λ v. v.size) c.accepted.ensures ∙ c.size_of-size.ensures ∙ ap length (c.deref.ensures.value ∙ sym c.deref-in-Ok-3.ensures.value) in
    record {
      inside = omega (arith, size, ap length c.deref-in-Ok-3.ensures.value, size_inside c.args.submission.now c.in-Ok.region c.in-Ok.ensures.laid);
      fits = omega (arith, size, c.put.ensures.fits zero);
      behind = subst (λ n. drop n c.put.new.room ≡ drop n c.args.window.now) (sym size) (behind_stays c.args.window.now put c.put.new.room (c.put.ensures.put zero));
    }

-- The window has the lists, and the answer tells where.
pub returns-in-Ok-clause-relocated : goal.returns-in-Ok-clause-relocated
returns-in-Ok-clause-relocated c = λ known zero.
    c.put.ensures.put zero ∙ ap (with_bytes c.args.window.now 0) (c.deref-in-Ok-3.ensures.value ∙ (c.in-Ok.ensures.answers known).1.bytes_are)

pub returns-in-Ok-clause-safe : goal.returns-in-Ok-clause-safe
returns-in-Ok-clause-safe c = λ known zero types.
    submissions_are_safe c.args.submission.now c.args.window.now c.put.new.room c.accepted.result types
    (returns-in-Ok-clause-accepted c known zero) (returns-in-Ok-clause-relocated c known zero)

pub returns-in-Ok-clause-strict : goal.returns-in-Ok-clause-strict
returns-in-Ok-clause-strict c = λ known zero types.
    submissions_obey c.args.submission.now c.args.window.now c.put.new.room c.accepted.result types
    (returns-in-Ok-clause-accepted c known zero) (returns-in-Ok-clause-relocated c known zero)

pub returns-in-Ok-clause-joins : goal.returns-in-Ok-clause-joins
returns-in-Ok-clause-joins c = λ known zero types.
    submissions_may_join c.args.submission.now c.args.window.now c.put.new.room c.accepted.result types
    (returns-in-Ok-clause-accepted c known zero) (returns-in-Ok-clause-relocated c known zero)
