-- The text, and the zero byte behind it.
use Rattle.std.proofs.Common.{◌++◌, length, drop, slice_set, ap, ◌∙◌}
use Rattle.vc4check_c.proofs.Texts.{zero_behind}
use Rattle.vc4check_c.proofs.sentence.put_text.Goals as goal

pub returns : goal.returns
returns c =
    let text = c.args.text.now in
    let room = c.args.room.now in
    ap (λ l. slice_set (l ++ drop (length text) room) (length text) 0) c.copy_from_slice.ensures.after ∙ zero_behind text room c.requires
