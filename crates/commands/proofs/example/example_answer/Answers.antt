-- The example's file has one job.
use Rattle.std.proofs.Common.{◌≡◌, length, refl, sym, ap, subst, arith, ◌∙◌}
use Rattle.dumper.specs.Example.{example_text}
use Rattle.job_format.specs.File.{IsFileOf}
use Rattle.example_job.specs.Example.{example}
use Rattle.commands.proofs.Checked.{some_lengths, example_answered}
use Rattle.commands.proofs.example.example_answer.Goals as goal

pub index-requires : goal.index-requires
index-requires c =
    let bytes = c.deref.result.now in
    let is : IsFileOf bytes (example c.args.number) = subst (λ b. IsFileOf b (example c.args.number)) (sym c.deref.ensures.value) c.in_ok-bytes.ensures.spells in
    let some = some_lengths c.args.number bytes c.in-Ok.checked.memory c.in-Ok.checked.layouts.items c.in-Ok.checked.lengths.items is c.in-Ok.ensures.answers.1 in
    omega (arith, some)

pub returns-in-Ok : goal.returns-in-Ok
returns-in-Ok c =
    let number = c.args.number in
    let bytes = c.deref.result.now in
    let memory = c.in-Ok.checked.memory in
    let one = c.index.result.now in
    let is : IsFileOf bytes (example number) = subst (λ b. IsFileOf b (example number)) (sym c.deref.ensures.value) c.in_ok-bytes.ensures.spells in
    let long : c.len-input.result ≡ length bytes = omega (arith, c.len-input.ensures, c.deref.ensures.len, ap length c.deref.ensures.value) in (
      refl,
      example_answered number bytes memory c.in-Ok.checked.layouts.items c.in-Ok.checked.lengths.items one one c.in_ok-text-in-Ok.text.items is c.in-Ok.ensures.answers.1
          c.index.ensures (c.in_ok-text-in-Ok.ensures ∙ ap (λ n. example_text number n memory one) long),
    )
