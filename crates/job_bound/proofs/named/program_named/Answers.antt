-- What is kept of the buffer that the handle names.
use Rattle.std.specs.Prelude.{slice_index}
use Rattle.std.proofs.{Common.ℕ, Common.◌<◌, Common.length, Common.arith, Common.ap, Common.◌∙◌, lemmas.List.length-map}
use Rattle.job_format.specs.Parts.{parts_view, job_parts_view}
use Rattle.job_bound.proofs.{Naming.program_is, Settled.numbers}
use Rattle.job_bound.proofs.named.program_named.Goals as goal

pub bounds-as_slice-i : goal.bounds-as_slice-i
bounds-as_slice-i c = omega (arith, c.requires.handle, ap length c.as_slice.ensures, ap (λ job. length job.handles) c.job_at.ensures.value)

pub bounds-programs-as_slice : goal.bounds-programs-as_slice
bounds-programs-as_slice c =
    let f = parts_view c.args.file.now in
    let j = c.args.number in
    let i = c.args.i in
    let inside : j < length f.jobs = omega (arith, c.requires.inside, length-map c.args.file.now.jobs.items job_parts_view) in
    let number : ℕ = slice_index c.as_slice.result.now i in
    let is = ap (λ hs. slice_index hs i) (c.as_slice.ensures ∙ ap (λ job. job.handles) c.job_at.ensures.value) in
    (program_is f j i number c.args.programs.now (numbers f j c.requires.faultless inside) c.requires.programs c.requires.handle is).0

pub returns : goal.returns
returns c =
    let f = parts_view c.args.file.now in
    let j = c.args.number in
    let i = c.args.i in
    let inside : j < length f.jobs = omega (arith, c.requires.inside, length-map c.args.file.now.jobs.items job_parts_view) in
    let number : ℕ = slice_index c.as_slice.result.now i in
    let is = ap (λ hs. slice_index hs i) (c.as_slice.ensures ∙ ap (λ job. job.handles) c.job_at.ensures.value) in
    (program_is f j i number c.args.programs.now (numbers f j c.requires.faultless inside) c.requires.programs c.requires.handle is).1
