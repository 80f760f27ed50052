use Rattle.std.proofs.Common.{◌≡◌, sym, ap, subst, ◌∙◌}
use Rattle.field_words.specs.Sizes.{most_memory}
use Rattle.job_format.specs.Parts.{parts_view}
use Rattle.dumper.specs.{Text.head_text, Parts.Ascend, Spans.parts_of}
use Rattle.commands.proofs.Images.{parts_ordered, image_made, image_ascends, of_version}
use Rattle.commands.proofs.check.image_of.Goals as goal

pub image_head-requires : goal.image_head-requires
image_head-requires c =
    let is = c.requires.accepted.region_is in
    of_version (parts_view c.args.accepted.file) c.deref.result.now c.deref-2.result.now c.requires.well_formed (c.deref.ensures.0 ∙ is.layouts_are) (c.deref-2.ensures.0 ∙ is.lengths_are)

pub returns-clause-text : goal.returns-clause-text
returns-clause-text c =
    let accepted = c.requires.accepted in
    let f = parts_view c.args.accepted.file in
    let region = c.args.accepted.region in
    let parts_are = parts_ordered f region c.deref-3.result.now (parts_of c.in_ok-spans.spans.items) accepted.region_is c.deref-3.ensures.value c.in_ok-spans.ensures in
    let head_is : c.in_ok-head.head.items ≡ head_text f.version f.mem_size region.layouts.items region.lengths.items =
    c.in_ok-head.ensures
    ∙ ap (λ layouts. head_text f.version f.mem_size layouts c.deref-2.result.now) c.deref.ensures.0
    ∙ ap (head_text f.version f.mem_size region.layouts.items) c.deref-2.ensures.0 in
    image_made f region (parts_of c.in_ok-spans.spans.items) c.in_ok-head.head.items accepted.sound c.requires.well_formed.contents accepted.region_is parts_are head_is

pub returns-clause-ready : goal.returns-clause-ready
returns-clause-ready c =
    let accepted = c.requires.accepted in
    let f = parts_view c.args.accepted.file in
    let region = c.args.accepted.region in
    let parts_are = parts_ordered f region c.deref-3.result.now (parts_of c.in_ok-spans.spans.items) accepted.region_is c.deref-3.ensures.value c.in_ok-spans.ensures in
    subst (Ascend 0 most_memory) (sym parts_are) (image_ascends f region most_memory accepted.sound c.requires.well_formed.contents accepted.region_is accepted.small)
