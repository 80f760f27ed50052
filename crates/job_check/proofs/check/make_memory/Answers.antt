use Rattle.std.proofs.Common.{◌+◌, ◌≤◌, length, ap, arith, ◌∙◌}
use Rattle.field_words.specs.Writes.{with_bytes}
use Rattle.field_words.proofs.Writes.{length-with_bytes}
use Rattle.job_format.specs.Parts.{parts_view}
use Rattle.job_check.proofs.{Layouts.lists_inside, Regions.memory_made}
use Rattle.job_check.proofs.check.make_memory.Goals as goal

pub write_bytes-requires : goal.write_bytes-requires
write_bytes-requires c =
    let is = c.requires.region_is in
    omega (arith, is.fits, ap length is.bytes_are, ap length c.deref.ensures.value, lists_inside (parts_view c.args.parts.now) c.requires.sound, c.in_ok-memory.ensures.size)

pub returns-clause-value : goal.returns-clause-value
returns-clause-value c =
    let f = parts_view c.args.parts.now in
    let is = c.requires.region_is in
    c.write_bytes.ensures
    ∙ ap (with_bytes c.in_ok-memory.memory f.regions.lists_place) (c.deref.ensures.value ∙ is.bytes_are)
    ∙ memory_made f c.in_ok-memory.memory c.in_ok-memory.ensures.contents c.in_ok-memory.ensures.size c.requires.sound c.requires.well_formed.contents is.fits is.parts_fit

pub returns-clause-size : goal.returns-clause-size
returns-clause-size c =
    let f = parts_view c.args.parts.now in
    let is = c.requires.region_is in
    let fits : f.regions.lists_place + length c.deref.result.now ≤ length c.in_ok-memory.memory =
    omega (arith, is.fits, ap length is.bytes_are, ap length c.deref.ensures.value, lists_inside f c.requires.sound, c.in_ok-memory.ensures.size) in
    ap length c.write_bytes.ensures ∙ length-with_bytes c.in_ok-memory.memory f.regions.lists_place c.deref.result.now fits ∙ c.in_ok-memory.ensures.size
