-- The words are at most 8,192.
use Rattle.std.proofs.Common.{◌/◌, length, ap, arith, ◌∙◌, Some}
use Rattle.field_words.specs.Questions.{first_of}
use Rattle.job_check.proofs.Codes.{length_words}
use Rattle.promises.specs.Steps.{program_steps}
use Rattle.job_bound.specs.Back.{branches, wait_places}
use Rattle.job_bound.proofs.programs.program_in.Goals as goal

pub flow-requires : goal.flow-requires
flow-requires c =
    let bytes = c.args.bytes.now in
    omega (arith, ap length (c.deref.ensures.value ∙ c.in_ok-code.ensures), length_words bytes (length bytes / 8), c.requires.few)

pub returns : goal.returns
returns c =
    record {
      steps_is = c.program_steps.ensures.value ∙ ap program_steps (c.deref-2.ensures.value ∙ c.in_ok-code.ensures);
      back_is = c.first_back.ensures ∙ ap (λ words. first_of (branches (Some words) c.args.place)) (c.deref-3.ensures.value ∙ c.in_ok-code.ensures);
      wait_is = c.find_wait.ensures ∙ ap (λ words. first_of (wait_places (Some words) c.args.place)) (c.deref-4.ensures.value ∙ c.in_ok-code.ensures);
      few = c.program_steps.ensures.few;
    }
