use Rattle.std.proofs.{Common.◌<◌, Common.length, Common.arith, Common.ap, Common.sym, Common.subst, lemmas.List.length-map}
use Rattle.render_list.specs.Frame.{IsTileSet}
use Rattle.job_format.specs.Parts.{parts_view, job_parts_view}
use Rattle.job_bound.proofs.Items.{frame_set}
use Rattle.job_bound.proofs.bound.frame_at.Goals as goal

pub returns-clause-set : goal.returns-clause-set
returns-clause-set c =
    let f = parts_view c.args.file.now in
    let inside : c.args.number < length f.jobs = omega (arith, c.requires.inside, length-map c.args.file.now.jobs.items job_parts_view) in
    subst IsTileSet (sym (ap (λ job. job.frame) c.job_at.ensures.value)) (frame_set f c.args.number c.requires.faultless inside)
