-- The submission is a well-formed file, and what its blocks tell of the shaders has the shape that is asked, and where the blocks are those
-- of the shaders, it is what a check of them would tell.
use Rattle.std.proofs.{Common.sym, Common.subst, Common.◌∙◌, lemmas.Option.IfSome_then}
use Rattle.job_format.specs.{File.IsWellFormed, Parts.parts_view}
use Rattle.shader_records.specs.Inputs.{shaders_view, AreShaped}
use Rattle.field_words.specs.Questions.{Answers}
use Rattle.job_check.specs.{Shaders.table_of, Region.AreChecked, Region.IsRegion}
use Rattle.vc4check_c.specs.{Hardware.hardware_stages, Submission.file_of}
use Rattle.vc4check_c.proofs.{Submissions.well_formed, Telling.are_shaped, Telling.read_checked, Telling.where_reported, Telling.some_readable}
use Rattle.vc4check_c.proofs.submit.check_file.Goals as goal

pub check_for_hardware-requires-clause-well_formed : goal.check_for_hardware-requires-clause-well_formed
check_for_hardware-requires-clause-well_formed c = subst IsWellFormed (sym c.requires.parts_are) (well_formed c.args.given.now c.requires.own)

pub check_for_hardware-requires-clause-shaped : goal.check_for_hardware-requires-clause-shaped
check_for_hardware-requires-clause-shaped c =
    let s = c.args.given.now in
    IfSome_then c.in_ok-report.report c.in_ok-report.ensures (λ shaders found.
    subst (λ f. AreShaped (table_of f) (shaders_view shaders.items)) (sym c.requires.parts_are) (subst (AreShaped (table_of (file_of s))) (sym found.0) (are_shaped s found.1)))

pub returns-clause-answers : goal.returns-clause-answers
returns-clause-answers c = λ known.
    let s = c.args.given.now in
    let f = parts_view c.args.parts.now in
    let checked = IfSome_then c.in_ok-report.report c.in_ok-report.ensures (λ shaders found.
    subst (λ f. AreChecked f (shaders_view shaders.items)) (sym c.requires.parts_are) (subst (AreChecked (file_of s)) (sym found.0) (read_checked s known found.1))) in
    let readable = some_readable _ c.in_ok-report.report c.in_ok-report.ensures in
    let found = c.deref.ensures.value ∙ c.in_ok-findings.ensures.found known (λ some. readable (sym c.is_some.ensures ∙ some)) in
    subst (λ f. Answers (hardware_stages f) (IsRegion f) c.check_for_hardware.result) c.requires.parts_are
    (where_reported c.in_ok-report.report (λ shaders. AreChecked f (shaders_view shaders.items)) (c.check_for_hardware.ensures.answers found) checked)
