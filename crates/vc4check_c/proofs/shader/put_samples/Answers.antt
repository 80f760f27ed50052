use Rattle.std.proofs.Common.{◌++◌, [], false, get_or, map, take, drop, slice_set, sym, ap, add-one, ◌∙◌}
use Rattle.std.proofs.lemmas.List.{get_or_default}
use Rattle.qpu_isa.specs.declared.inst.Sample.{Sample}
use Rattle.vc4check_c.specs.Shader.{sample_report}
use Rattle.vc4check_c.proofs.Fronts.{one_more}
use Rattle.vc4check_c.proofs.shader.put_samples.Goals as goal

pub loop-k-preserved : goal.loop-k-preserved
loop-k-preserved c =
    let xs = c.args.samples.now in
    let old = c.args.room.now in
    let k = c.loop-k.k in
    let none : Sample = record { p = []; direct = false } in
    ap (λ room. slice_set room k c.sample.result) c.loop-k.invariant
    ∙ ap (slice_set (map sample_report (take k xs) ++ drop k old) k) c.sample.ensures
    ∙ one_more sample_report xs old k (get_or xs k none) c.loop-k-test.true c.requires (get_or_default xs k none (get_or xs k none) c.loop-k-test.true)
    ∙ ap (λ n. map sample_report (take n xs) ++ drop n old) (sym (add-one k))
