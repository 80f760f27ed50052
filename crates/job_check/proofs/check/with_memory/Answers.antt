use Rattle.std.proofs.Common.{◌%◌, ap, sym, subst, arith, ◌∙◌}
use Rattle.std.specs.List.{AllByRecursion}
use Rattle.job_format.specs.Parts.{parts_view}
use Rattle.relocation.specs.Layout.{region_end}
use Rattle.job_check.specs.Emit.{IsInside}
use Rattle.job_check.proofs.{Layouts.lists_inside, Progress.wider}
use Rattle.job_check.proofs.check.with_memory.Goals as goal

pub returns-clause-emits : goal.returns-clause-emits
returns-clause-emits c =
    let is = c.requires.region_is in
    record {
      memory_is = c.in_ok-memory.ensures.value;
      layouts_are = c.in_ok-from_slice.ensures.items ∙ c.as_slice.ensures.value ∙ is.layouts_are;
      lengths_are = c.in_ok-from_slice-2.ensures.items ∙ c.as_slice-2.ensures.value ∙ is.lengths_are;
    }

pub returns-clause-placed : goal.returns-clause-placed
returns-clause-placed c =
    let f = parts_view c.args.parts.now in
    let sound = c.requires.sound in
    let size = c.in_ok-memory.ensures.size in
    record {
      pages = ap (λ k. k % 4096) size ∙ sound.pages;
      not_empty = omega (arith, size, sound.not_empty);
      limit = omega (arith, size, c.requires.small);
      each_job =
          wider _ _ _ (omega (arith, size, lists_inside f sound))
          (subst (AllByRecursion (IsInside (region_end f.regions))) (sym (c.in_ok-from_slice.ensures.items ∙ c.as_slice.ensures.value)) c.requires.region_is.each_job);
    }
