-- What is printed is the image of the bytes' file.
use Rattle.std.proofs.Common.{refl, sym, ap, subst, arith, ◌∙◌}
use Rattle.job_format.specs.File.{IsWellFormed}
use Rattle.commands.specs.{Cause.rule_cause, Verdict.image_of, Image.IsAccepted}
use Rattle.commands.proofs.Checked.{image_answers}
use Rattle.commands.proofs.check.check_answer.Goals as goal

pub image_of-requires : goal.image_of-requires
image_of-requires c =
    let is = c.in-Ok.ensures.answers.1 in
    let same = sym is.file_is in
    record { accepted = subst (λ f. IsAccepted f c.in-Ok.accepted) same is; well_formed = subst IsWellFormed same (c.in-Ok.ensures.spelled refl).well_formed }

pub returns-in_ok-image_of-in-Ok : goal.returns-in_ok-image_of-in-Ok
returns-in_ok-image_of-in-Ok c =
    let bytes = c.args.bytes.now in
    let none = c.in-Ok.ensures.answers.0 in
    let made = c.in_ok-image_of-in-Ok.ensures in record {
      answers = image_answers c.args.strict bytes _ none (c.in-Ok.ensures.spelled refl) (made.text ∙ ap image_of c.in-Ok.ensures.answers.1.file_is);
      status = omega arith;
      ready = made.ready;
      cause = sym (ap (rule_cause bytes) none);
    }
