use Rattle.std.proofs.Common.{◌≡◌, take}
use Rattle.std.specs.List.{flat_map}
use Rattle.job_format.specs.Parts.{parts_view}
use Rattle.run_text.specs.Log.{access_text}
use Rattle.run_text.proofs.log.log_text.Given as goal

abbrev pub invariant-loop-logged : goal.invariant-loop-logged
invariant-loop-logged l = l.out.items ≡ flat_map (access_text (parts_view l.file) l.layouts) (take l.logged-index l.log.accesses.items)
