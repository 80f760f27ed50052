-- What is asked of jobs that are for hardware: all rules of a file whose places are a driver's, and behind them the strict ones.
use Rattle.std.specs.Prelude.{ℕ, ◌&&◌, List, [], ◌∷◌, ◌++◌, length}
use Rattle.field_words.specs.Questions.{Question, Ask, each}
use Rattle.job_format.specs.{declared.rule.Refusal.Refusal, declared.rule.Stage.TheVariants.E, declared.rule.Part.TheVariants.Header, Model.FileModel, Places.place_in}
use Rattle.job_check.specs.{Faults.refusal_by, Faults.place_stages, Jobs.has_bin, Jobs.slot_of}
use Rattle.strict_lists.specs.Records.{crosses}
use Rattle.strict_check.specs.Stages.{strict_stages}

-- E12: the tile slot of job j crosses a multiple of 256 MiB, where the job has a binner list. Only a driver's slots have addresses, so it is
-- asked of these alone, last of all, and at the field of the tile region's place.
unfoldable pub slot_stage : FileModel → ℕ → List (Question Refusal)
slot_stage f j = Ask (has_bin f j && crosses (slot_of f j)) (refusal_by E 12 (place_in Header 0 20)) ∷ []

unfoldable pub slots_stage : FileModel → List (Question Refusal)
slots_stage f = each (slot_stage f) 0 (length f.jobs)

-- E: what the hardware's guide forbids
abbrev pub guide_stages : FileModel → List (Question Refusal)
guide_stages f = strict_stages f ++ slots_stage f

-- all rules, in the order of refusal
abbrev pub hardware_stages : FileModel → List (Question Refusal)
hardware_stages f = place_stages f ++ guide_stages f
