-- The three parts of the job's bound.
use Rattle.std.proofs.Common.{◌≡◌, ◌<◌, ◌+◌, ◌*◌, length, arith, ap, sym, subst, ◌∙◌}
use Rattle.std.proofs.lemmas.List.{length-map}
use Rattle.bin_list.specs.Packets.{packets}
use Rattle.render_list.specs.Text.{number_where}
use Rattle.job_format.specs.Parts.{parts_view, job_parts_view}
use Rattle.ends_law.specs.Left.{AllWhole}
use Rattle.promises.specs.{Steps.room_of, Steps.bin_steps, Bounded.longest_of}
use Rattle.job_check.specs.Jobs.{job_of, has_bin, bin_list_of}
use Rattle.job_bound.specs.{Frames.frame_steps, Items.items_in}
use Rattle.job_bound.proofs.Items.{list_whole, job_is}
use Rattle.job_bound.proofs.bound.job_bound.Goals as goal

pub bin_steps-requires-clause-whole : goal.bin_steps-requires-clause-whole
bin_steps-requires-clause-whole c =
    let f = parts_view c.args.file.now in
    let inside : c.args.number < length f.jobs = omega (arith, c.requires.inside, length-map c.args.file.now.jobs.items job_parts_view) in
    subst (λ list. AllWhole (packets list)) (sym c.bin_list-list.ensures.value) (list_whole f c.args.number c.requires.faultless inside)

pub returns-clause-value : goal.returns-clause-value
unfolding items_in
returns-clause-value c =
    let f = parts_view c.args.file.now in
    let j = c.args.number in
    let inside : j < length f.jobs = omega (arith, c.requires.inside, length-map c.args.file.now.jobs.items job_parts_view) in
    let first : c.bin_steps.result ≡ bin_steps (longest_of f) (packets (bin_list_of f j)) =
    c.bin_steps.ensures.value ∙ ap (λ w. bin_steps w (packets c.bin_list-list.result.now)) c.requires.longest
    ∙ ap (λ list. bin_steps (longest_of f) (packets list)) c.bin_list-list.ensures.value in
    let room : c.items_in.result ≡ room_of (packets (bin_list_of f j)) = c.items_in.ensures.value in
    let second : c.items_steps.result ≡ room_of (packets (bin_list_of f j)) * (1 + number_where (has_bin f j) 1) =
    c.items_steps.ensures.value ∙ ap (λ n. n * (1 + number_where c.has_bin-has_bin.result 1)) room
    ∙ ap (λ b. room_of (packets (bin_list_of f j)) * (1 + number_where b 1)) c.has_bin-has_bin.ensures in
    let third : c.from.result ≡ frame_steps (job_of f j).frame (has_bin f j) =
    c.from.ensures ∙ c.frame_steps.ensures.value ∙ ap (λ frame. frame_steps frame c.has_bin-has_bin.result) c.frame_at-frame.ensures.value
    ∙ ap (frame_steps (job_of f j).frame) c.has_bin-has_bin.ensures in
    omega (arith, first, second, third, job_is f j c.requires.faultless inside)
