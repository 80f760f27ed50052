use Rattle.std.specs.Prelude.{codes}
use Rattle.job_format.specs.Parts.{parts_view}
use Rattle.pictures.specs.{Forest.Beside, Memory.memory_parts, Run.run_height, Run.run_moved, Run.run_picture}
use Rattle.pictures.proofs.Drawing.{drawn, more}
use Rattle.pictures.proofs.run.run_picture.Goals as goal

pub returns : goal.returns
unfolding run_picture
returns c =
    let file = parts_view c.args.file.now in
    drawn c.run_height.result (run_height file) (codes "Accesses of a run in the memory of the jobs")
    (Beside (memory_parts file) (run_moved file c.args.layouts.now c.args.log.now)) _ _ _ _ c.in_ok-out.ensures.items c.run_height.ensures
    c.in_ok-begin_drawing.ensures (more _ _ _ _ _ c.in_ok-push_memory.ensures c.in_ok-push_moved.ensures) c.in_ok-end_drawing.ensures
