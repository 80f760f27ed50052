use Rattle.std.proofs.Common.{sym, ◌∙◌, ap}
use Rattle.qpu_asm.specs.Seen.{line_seen, spots_in}
use Rattle.qpu_asm.proofs.Placing.{coded_place}
use Rattle.qpu_asm.proofs.place.place_on.Goals as goal

pub returns-in-Coded : goal.returns-in-Coded
returns-in-Coded c =
    c.code_place.ensures
    ∙ sym (coded_place (spots_in c.args.labels.now) c.args.kind _ _ _ _ _ _ c.in-Some.ensures.words (sym c.read_line.ensures ∙ ap line_seen c.in-Coded.is))
