-- The headline used: what it comes to for the two files.
use Rattle.std.proofs.Common.{◌≡◌, ◌≤◌, ◌<◌, ◌⊎◌, inl, inr, ℕ, zero, suc, ◌+◌, List, [], ◌∷◌, length, map, sym, subst, arith, ◌∙◌}
use Rattle.std.specs.List.{AllByRecursion, flat_map}
use Rattle.field_words.specs.{declared.access.Access.Access, declared.access.Actor.TheVariants.Tmu as TheTmu}
use Rattle.job_format.specs.{Model.FileModel, File.IsFileOf}
use Rattle.job_format.proofs.Laws.{read_again}
use Rattle.job_check.specs.Emit.{memory_of}
use Rattle.machine_plan.specs.Regions.{Every, Inside, IsIn, rights_of, IsSafeAccess, IsSafeIn, IsOutside, Agree}
use Rattle.machine.specs.{State.units_start, Step.job_of, Step.step}
use Rattle.promises.specs.Holdings.{OfEachJob, plain_of, fixed_of, file_rights, file_starts}
use Rattle.promises.specs.{Sound.ReadInOne, Sound.Sound, Sound.AreSound, MayRun.MayRun, MayRun.AcceptedMayRun}
use Rattle.accepted_law.specs.Held.{AreFixed}
use Rattle.job_safety.proofs.Safety.{fixed_upto}
use Rattle.textured_job.specs.{Job.textured_file, Job.two_clients, Laws.IsAccepted, Laws.textured_bytes, Laws.two_clients_bytes}
use Rattle.textured_job.proofs.Witness.{is_file, two_are_file, textured_witness, two_clients_witness}
use Rattle.headline.specs.Numbers.{Span, Numbers, alone, first, second, spans_reached, numbers_of, Misses, intervals, rights, start, spans_fixed, KeepAnywhere, InNumbers}
use Rattle.headline.proofs.Stages.{AreOf, alone_is, two_are}

-- an access that keeps to the rights of the job of a number
keeps_at : (jobs : List Numbers) (a : Access) (j : ℕ) → IsSafeIn (rights_of (map rights jobs) j) a → (j < length jobs) × IsSafeIn (rights (numbers_of jobs j)) a
keeps_at [] a j safe = absurd safe.inside
keeps_at (n ∷ jobs) a zero safe = (omega arith, safe)
keeps_at (n ∷ jobs) a (suc j) safe = let rest = keeps_at jobs a j safe in (omega (arith, rest.0), rest.1)

all_keep : (jobs : List Numbers) (found : List Access) → Every (IsSafeAccess (map rights jobs)) found
    → AllByRecursion (λ a. (a.job < length jobs) × IsSafeIn (rights (numbers_of jobs a.job)) a) found
all_keep jobs [] all = tt
all_keep jobs (a ∷ found) all = (keeps_at jobs a a.job (record { tame = all.0.tame; inside = all.0.inside; writes = all.0.writes }), all_keep jobs found all.1)

-- What the headline says of a file, and what that is in its numbers.
record Says (f : FileModel) : Type 0 where
  pub sound : (m : List ℕ) → Agree (fixed_of f) (memory_of f) m → AreSound (file_rights f) (plain_of f) m (file_starts f)
  pub fixed : OfEachJob f (AreFixed f)

said : AcceptedMayRun → (bytes : List ℕ) (f : FileModel) → IsAccepted bytes → IsFileOf bytes f → Says f
said headline bytes f accepted is =
    let may : MayRun bytes = headline bytes accepted.are_bytes accepted.none in
    subst Says (read_again bytes f is).1
    (record { sound = may.sound; fixed = λ j inside. record { lists = may.lists_fixed j inside; code = may.code_fixed j inside } })

sound_in : (f : FileModel) (jobs : List Numbers) (m : List ℕ) → AreOf f jobs → Says f → Agree (intervals (flat_map spans_fixed jobs)) (memory_of f) m
    → Sound (map rights jobs) (plain_of f) m (units_start (map start jobs))
sound_in f jobs m are says agree =
    subst (λ s. Sound (map rights jobs) (plain_of f) m (units_start s)) are.starts
    (subst (λ r. Sound r (plain_of f) m (units_start (file_starts f))) are.rights (says.sound m (subst (λ k. Agree k (memory_of f) m) (sym are.fixed) agree)))

fixed_in : (f : FileModel) (jobs : List Numbers) (p : ℕ) → AreOf f jobs → Says f → Inside (intervals (flat_map spans_fixed jobs)) p 1 → IsOutside (map rights jobs) p
unfolding fixed_of
fixed_in f jobs p are says lies =
    subst (λ r. IsOutside r p) are.rights (fixed_upto f (length f.jobs) p (omega arith) says.fixed (subst (λ k. Inside k p 1) (sym are.fixed) lies))

keep : (f : FileModel) (jobs : List Numbers) → AreOf f jobs → Says f → KeepAnywhere f jobs
keep f jobs are says m agree =
    let sound = sound_in f jobs m are says agree in
    record {
      accesses = λ happenings found t run. all_keep jobs found (sound.safe.every_run happenings found t run).accesses;
      stays = λ happenings found t run p lies left.
          (sound.safe.every_run happenings found t run).kept p (fixed_in f jobs p are says lies) left ∙ sym (agree.same p lies);
      textures = λ happenings found t run k n words may.
          let who = job_of t (TheTmu k n) in
          subst (λ spans. ReadInOne spans (step t (record { unit = TheTmu k n; words = words })).accesses) (are.plain who) (sound.textures happenings found t run k n words may);
      same = sound.same;
    }

-- Spans before some bytes, or behind them.
abbrev IsClear : (from upto : ℕ) → Span → Type 0
IsClear from upto span = (span.0 + span.1 ≤ from) ⊎ (upto ≤ span.0)

misses : (from upto : ℕ) (spans : List Span) (a : Access) → AllByRecursion (IsClear from upto) spans → IsIn (intervals spans) a → Misses from upto a
misses from upto [] a clear lies = absurd lies
misses from upto (span ∷ spans) a (inl before, others) (inl here) = λ p is_from is_upto begins ends. omega (arith, before, here.from, here.upto, is_from, is_upto, begins, ends)
misses from upto (span ∷ spans) a (inr behind, others) (inl here) = λ p is_from is_upto begins ends. omega (arith, behind, here.from, here.upto, is_from, is_upto, begins, ends)
misses from upto (span ∷ spans) a (clear, others) (inr there) = misses from upto spans a others there

first_clear : AllByRecursion (IsClear 1069056 1085440) (spans_reached first)
first_clear = (
  inl (omega arith),
  (
    inl (omega arith),
    (
      inl (omega arith),
      (inl (omega arith), (inl (omega arith), (inl (omega arith), (inl (omega arith), (inl (omega arith), (inl (omega arith), tt)))))),
    ),
  ),
)

second_clear : AllByRecursion (IsClear 1052672 1069056) (spans_reached second)
second_clear = (
  inl (omega arith),
  (
    inr (omega arith),
    (
      inr (omega arith),
      (inl (omega arith), (inl (omega arith), (inl (omega arith), (inl (omega arith), (inr (omega arith), (inr (omega arith), tt)))))),
    ),
  ),
)

-- both, of each access that keeps to the numbers of its job
abbrev both : List Numbers
both = first ∷ second ∷ []

clients_miss : (found : List Access) → AllByRecursion (λ a. (a.job < 2) × IsSafeIn (rights (numbers_of both a.job)) a) found
    → AllByRecursion (λ a. (a.job ≡ 0 → Misses 1069056 1085440 a) × (a.job ≡ 1 → Misses 1052672 1069056 a)) found
clients_miss [] all = tt
clients_miss (a ∷ found) all = (
  (
    λ is. misses 1069056 1085440 (spans_reached first) a first_clear (subst (λ j. IsSafeIn (rights (numbers_of both j)) a) is all.0.1).inside,
    λ is. misses 1052672 1069056 (spans_reached second) a second_clear (subst (λ j. IsSafeIn (rights (numbers_of both j)) a) is all.0.1).inside,
  ),
  clients_miss found all.1,
)

pub all_in_numbers : AcceptedMayRun → InNumbers
all_in_numbers headline =
    let two : KeepAnywhere two_clients both = keep two_clients both two_are (said headline two_clients_bytes two_clients two_clients_witness.accepted two_are_file) in
    record {
      one_job = keep textured_file (alone ∷ []) alone_is (said headline textured_bytes textured_file textured_witness.accepted is_file);
      two_jobs = two;
      clients = λ m agree happenings found t run. clients_miss found ((two m agree).accesses happenings found t run);
    }
