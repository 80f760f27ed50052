-- What is reported of a machine is reported of what it is equal to; and a line more.
use Rattle.std.proofs.Common.{◌≡◌, ◌+◌, ◌++◌, ℕ, List, Option, refl, sym, subst, add-one}
use Rattle.job_check.specs.Jobs.{layouts_of}
use Rattle.job_format.specs.Model.{FileModel}
use Rattle.job_safety.specs.Accepted.{machine_of}
use Rattle.machine.specs.State.{State}
use Rattle.relocation.specs.declared.layout.Layout.{Layout}
use Rattle.replay.specs.declared.units.UnitKind.{UnitKind}
use Rattle.seeded_runs.specs.Report.{IsStepText, IsAccessText, IsPictureText, IsSeedLine, AreSeedLines}

pub step_moved : (version now : ℕ) (machine start : State) (favoured : Option UnitKind) (steps seed : ℕ) (text : List ℕ) → version ≡ now → machine ≡ start → IsStepText version machine favoured steps seed text → IsStepText now start favoured steps seed text
step_moved version now machine start favoured steps seed text v m report =
    subst (λ x. IsStepText now x favoured steps seed text) m (subst (λ x. IsStepText x machine favoured steps seed text) v report)

pub access_moved : (view f : FileModel) (layouts : List Layout) (machine : State) (favoured : Option UnitKind) (steps seed : ℕ) (text : List ℕ) → view ≡ f → layouts ≡ layouts_of f → machine ≡ machine_of f → IsAccessText view layouts machine favoured steps seed text → IsAccessText f (layouts_of f) (machine_of f) favoured steps seed text
access_moved view f layouts machine favoured steps seed text v l m report =
    subst (λ x. IsAccessText f (layouts_of f) x favoured steps seed text) m
    (subst (λ x. IsAccessText f x machine favoured steps seed text) l (subst (λ x. IsAccessText x layouts machine favoured steps seed text) v report))

pub picture_moved : (view f : FileModel) (layouts : List Layout) (machine : State) (favoured : Option UnitKind) (steps seed : ℕ) (text : List ℕ) → view ≡ f → layouts ≡ layouts_of f → machine ≡ machine_of f → IsPictureText view layouts machine favoured steps seed text → IsPictureText f (layouts_of f) (machine_of f) favoured steps seed text
picture_moved view f layouts machine favoured steps seed text v l m report =
    subst (λ x. IsPictureText f (layouts_of f) x favoured steps seed text) m
    (subst (λ x. IsPictureText f x machine favoured steps seed text) l (subst (λ x. IsPictureText x layouts machine favoured steps seed text) v report))

pub line_moved : (machine start : State) (favoured : Option UnitKind) (steps seed : ℕ) (line : List ℕ) → machine ≡ start → IsSeedLine machine favoured steps seed line → IsSeedLine start favoured steps seed line
line_moved machine start favoured steps seed line m report = subst (λ x. IsSeedLine x favoured steps seed line) m report

pub lines_more : (machine : State) (favoured : Option UnitKind) (steps seed n : ℕ) (before line : List ℕ) → AreSeedLines machine favoured steps seed n before → IsSeedLine machine favoured steps (seed + n) line → AreSeedLines machine favoured steps seed (n + 1) (before ++ line)
lines_more machine favoured steps seed n before line lines report =
    subst (λ m. AreSeedLines machine favoured steps seed m (before ++ line)) (sym (add-one n)) (before, line, lines, report, refl)
