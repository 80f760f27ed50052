-- The binner list is whole.
use Rattle.std.proofs.Common.{◌<◌, length, arith, ap, sym, subst, ◌∙◌}
use Rattle.std.proofs.lemmas.List.{length-map}
use Rattle.bin_list.specs.Packets.{packets}
use Rattle.job_format.specs.Parts.{parts_view, job_parts_view}
use Rattle.ends_law.specs.Left.{AllWhole}
use Rattle.promises.specs.Steps.{room_of}
use Rattle.job_bound.specs.Items.{items_in}
use Rattle.job_bound.proofs.Items.{list_whole}
use Rattle.job_bound.proofs.bound.items_in.Goals as goal

pub room-requires : goal.room-requires
room-requires c =
    let f = parts_view c.args.file.now in
    let inside : c.args.number < length f.jobs = omega (arith, c.requires.inside, length-map c.args.file.now.jobs.items job_parts_view) in
    subst (λ list. AllWhole (packets list)) (sym c.bin_list.ensures.value) (list_whole f c.args.number c.requires.faultless inside)

pub returns-clause-value : goal.returns-clause-value
unfolding items_in
returns-clause-value c = c.room.ensures.value ∙ ap (λ list. room_of (packets list)) c.bin_list.ensures.value
