-- What is reported of runs of an accepted file's machine: the steps, all accesses, a picture of these, or how each of many runs ended.
use Rattle.std.specs.Prelude.{◌≡◌, ℕ, zero, suc, ◌+◌, ◌≤◌, ◌<◌, ◌^◌, List, [], ◌++◌, length, codes, Option, decimal}
use Rattle.job_format.specs.Model.{FileModel}
use Rattle.job_check.specs.Jobs.{layouts_of}
use Rattle.job_safety.specs.Accepted.{machine_of}
use Rattle.machine.specs.{State.State, Step.Event}
use Rattle.relocation.specs.declared.layout.Layout.{Layout}
use Rattle.replay.specs.{declared.logged.Log.Log, declared.trace.Trace.Trace, declared.units.UnitKind.UnitKind, Run.IsTrace, Run.IsLog}
use Rattle.dumper.specs.Trace.{trace_text, ending_text}
use Rattle.run_text.specs.Log.{log_text}
use Rattle.pictures.specs.Run.{run_picture}
use Rattle.pictures.specs.Forest.{forest_text}
use Rattle.seeded_runs.specs.declared.report.Look.TheVariants.{Steps, Accesses, Picture, Seeds}
use Rattle.seeded_runs.specs.{declared.report.Look.Look, declared.report.Trial.Trial, Seeded.Picks, Seeded.Gives}

-- The text is that of the run which the script of the seed gives from this state, of at most so many steps.
pub record IsStepText (version : ℕ) (machine : State) (favoured : Option UnitKind) (steps seed : ℕ) (text : List ℕ) : Type 0 where
  pub events : List Event
  pub trace : Trace
  pub run : IsTrace (Picks seed) (Gives seed) favoured machine steps events trace
  pub shown : text ≡ trace_text version trace

-- The text is that of all accesses of that run.
pub record IsAccessText (file : FileModel) (layouts : List Layout) (machine : State) (favoured : Option UnitKind) (steps seed : ℕ) (text : List ℕ) : Type 0 where
  pub events : List Event
  pub log : Log
  pub run : IsLog (Picks seed) (Gives seed) favoured machine steps events log
  pub shown : text ≡ log_text file layouts log

-- The text is the picture of the file's memory with all accesses of that run.
pub record IsPictureText (file : FileModel) (layouts : List Layout) (machine : State) (favoured : Option UnitKind) (steps seed : ℕ) (text : List ℕ) : Type 0 where
  pub events : List Event
  pub log : Log
  pub run : IsLog (Picks seed) (Gives seed) favoured machine steps events log
  pub shown : text ≡ forest_text (run_picture file layouts log)

-- "seed 7 finished after 1234"
unfoldable pub seed_text : ℕ → Trace → List ℕ
seed_text seed trace = codes "seed " ++ (decimal seed ++ (codes " " ++ ending_text trace.ending (length trace.lines.items)))

-- The line says how that run ended.
pub record IsSeedLine (machine : State) (favoured : Option UnitKind) (steps seed : ℕ) (line : List ℕ) : Type 0 where
  pub events : List Event
  pub trace : Trace
  pub run : IsTrace (Picks seed) (Gives seed) favoured machine steps events trace
  pub shown : line ≡ seed_text seed trace

-- a line for each of so many seeds from one on
abbrev pub AreSeedLines : State → Option UnitKind → (steps seed count : ℕ) → List ℕ → Type 0
AreSeedLines machine favoured steps seed zero text = text ≡ []
AreSeedLines machine favoured steps seed (suc n) text =
    (before line : List ℕ) × AreSeedLines machine favoured steps seed n before × IsSeedLine machine favoured steps (seed + n) line × (text ≡ before ++ line)

abbrev pub IsLookText : FileModel → Look → Option UnitKind → (steps seed : ℕ) → List ℕ → Type 0
IsLookText f Steps favoured steps seed text = IsStepText f.version (machine_of f) favoured steps seed text
IsLookText f Accesses favoured steps seed text = IsAccessText f (layouts_of f) (machine_of f) favoured steps seed text
IsLookText f Picture favoured steps seed text = IsPictureText f (layouts_of f) (machine_of f) favoured steps seed text
IsLookText f (Seeds count) favoured steps seed text = AreSeedLines (machine_of f) favoured steps seed count text

-- what is reported of an accepted file
abbrev pub IsReported : FileModel → Trial → List ℕ → Type 0
IsReported f trial text = IsLookText f trial.look trial.favoured trial.steps trial.seed text

-- the most seeds of a trial
abbrev pub most_seeds : ℕ
most_seeds = 1000

abbrev pub IsLookWithin : Look → ℕ → Type 0
IsLookWithin (Seeds count) seed = (1 ≤ count) × (count ≤ most_seeds) × (seed + count < 2 ^ 64)
IsLookWithin look seed = Unit {0}

-- at most a million steps, and so many seeds that there are
abbrev pub IsTrialWithin : Trial → Type 0
IsTrialWithin trial = (trial.steps ≤ 1000000) × IsLookWithin trial.look trial.seed
