use Rattle.std.proofs.lemmas.Result.{on_ok_weaker}
use Rattle.pictures.specs.Run.{run_head}
use Rattle.pictures.proofs.Drawing.{more}
use Rattle.pictures.proofs.run.push_head.Goals as goal

pub returns : goal.returns
unfolding run_head
returns c =
    on_ok_weaker c.push_ending.result
    (λ ends. more _ _ c.args.out.now.items _ _ c.in_ok-push_label.ensures (more _ _ c.push_label.new.out.items _ _ c.in_ok-push_numbers.ensures ends)) c.push_ending.ensures
