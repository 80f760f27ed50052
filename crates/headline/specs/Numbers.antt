-- What the headline comes to for two files, in numbers that a reader can compare with what `check` prints of them: that of the textured
-- job alone, and that of two such jobs, of clients 1 and 2.
use Rattle.std.specs.Prelude.{◌≡◌, ◌≤◌, ◌<◌, ℕ, ◌+◌, List, [], ◌∷◌, ◌++◌, map, flat_map, length, slice_index, slice_index_or}
use Rattle.std.specs.List.{AllByRecursion}
use Rattle.field_words.specs.{Sizes.slot_size, declared.access.Access.Access}
use Rattle.job_format.specs.Model.{FileModel}
use Rattle.job_check.specs.Emit.{memory_of}
use Rattle.machine_plan.specs.{Others.Happening, Others.OthersRun, Others.IsLeft, Others.SameAmong, Regions.Interval, Regions.Inside, Regions.Rights, Regions.IsSafeIn, Regions.Agree}
use Rattle.machine.specs.{declared.job.Start.Start, State.State, State.units_start, State.start_of, Step.Event, Step.ready, Step.turn}
use Rattle.promises.specs.Sound.{TexturesReadIn}
use Rattle.textured_job.specs.Job.{textured_file, two_clients}

-- a place, and how many bytes from there on
abbrev pub Span : Type 0
Span = ℕ × ℕ

-- What a job has: its tile slot, its four lists, the data buffers and the Code buffers that its handles name.
pub record Numbers : Type 0 where
  pub slot : Span
  pub bin : Span
  pub records : Span
  pub uniforms : Span
  pub render : Span
  pub plain : List Span
  pub code : List Span

-- the file of one job
abbrev pub alone : Numbers
alone = record {
  slot = (4096, slot_size);
  bin = (0, 36);
  records = (48, 48);
  uniforms = (112, 16);
  render = (144, 21);
  plain = (536576, 4096) ∷ (540672, 4096) ∷ [];
  code = (528384, 4096) ∷ (532480, 4096) ∷ [];
}

-- the file of two: job 0, of client 1, and job 1, of client 2
abbrev pub first : Numbers
first = record alone {
  plain = (1060864, 4096) ∷ (1064960, 4096) ∷ [];
  code = (1052672, 4096) ∷ (1056768, 4096) ∷ [];
}

abbrev pub second : Numbers
second = record {
  slot = (528384, slot_size);
  bin = (176, 36);
  records = (224, 48);
  uniforms = (288, 16);
  render = (320, 21);
  plain = (1077248, 4096) ∷ (1081344, 4096) ∷ [];
  code = (1069056, 4096) ∷ (1073152, 4096) ∷ [];
}

-- a job's lists and its code, which none may write; and all that it may reach
abbrev pub spans_fixed : Numbers → List Span
spans_fixed n = n.bin ∷ n.records ∷ n.uniforms ∷ n.render ∷ n.code

abbrev pub spans_reached : Numbers → List Span
spans_reached n = n.slot ∷ (n.plain ++ spans_fixed n)

-- that of job j; past the last job nothing
abbrev pub numbers_of : List Numbers → ℕ → Numbers
numbers_of jobs j =
    slice_index_or jobs j (record { slot = (0, 0); bin = (0, 0); records = (0, 0); uniforms = (0, 0); render = (0, 0); plain = []; code = [] })

-- None of the access's bytes is among those from a place up to another.
abbrev pub Misses : (from upto : ℕ) → Access → Type 0
Misses from upto a = (p : ℕ) → from ≤ p → p < upto → a.place ≤ p → p < a.place + a.len → ⊥

-- these numbers, as the machine's definitions take them
abbrev pub interval : Span → Interval
interval span = record { place = span.0; size = span.1 }

abbrev pub intervals : List Span → List Interval
intervals spans = map interval spans

abbrev pub rights : Numbers → Rights
rights n = record { region = intervals (spans_reached n); writable = intervals (n.slot ∷ n.plain) }

abbrev pub start : Numbers → Start
start n = record { bin_place = n.bin.0; bin_len = n.bin.1; render_place = n.render.0; render_len = n.render.1 }

-- From this memory a run of these jobs makes these accesses, and ends so: whichever units step, and whatever others write meanwhile.
abbrev pub IsRunOf : List Numbers → List ℕ → List (Happening Event) → List Access → State → Type 0
IsRunOf jobs m happenings found t = OthersRun ready turn (map rights jobs) (start_of m (map start jobs)) happenings found t

-- Of each run: each access is of one of the jobs, isn't undefined, lies in what that job may reach, and where it writes, in what it may write;
-- lists and code are at the end as the file has them, where others leave them; and a texture unit that steps then reads in one data buffer of its
-- job. Bytes that no job reaches have no effect.
pub record Keep (f : FileModel) (jobs : List Numbers) (m : List ℕ) : Type 0 where
  pub accesses : (happenings : List (Happening Event)) (found : List Access) (t : State) → IsRunOf jobs m happenings found t
      → AllByRecursion (λ a. (a.job < length jobs) × IsSafeIn (rights (numbers_of jobs a.job)) a) found
  pub stays : (happenings : List (Happening Event)) (found : List Access) (t : State) → IsRunOf jobs m happenings found t
      → (p : ℕ) → Inside (intervals (flat_map spans_fixed jobs)) p 1 → IsLeft turn p (start_of m (map start jobs)) happenings
      → slice_index t.memory p ≡ slice_index (memory_of f) p
  pub textures : (happenings : List (Happening Event)) (found : List Access) (t : State) → IsRunOf jobs m happenings found t
      → TexturesReadIn (λ j. intervals (numbers_of jobs j).plain) t
  pub same : SameAmong ready turn (map rights jobs) m (units_start (map start jobs))

-- So it is from each memory of the emitted one's length that has lists and code as emitted, whatever its other bytes are.
abbrev pub KeepAnywhere : FileModel → List Numbers → Type 0
KeepAnywhere f jobs = (m : List ℕ) → Agree (intervals (flat_map spans_fixed jobs)) (memory_of f) m → Keep f jobs m

-- The buffers of client 1 are the bytes from 1052672 up to 1069056, and those of client 2 are the ones from there up to 1085440. No
-- access for one client touches a byte of the other's.
abbrev pub ClientsMiss : Type 0
ClientsMiss =
    (m : List ℕ) → Agree (intervals (flat_map spans_fixed (first ∷ second ∷ []))) (memory_of two_clients) m
    → (happenings : List (Happening Event)) (found : List Access) (t : State) → IsRunOf (first ∷ second ∷ []) m happenings found t
    → AllByRecursion (λ a. (a.job ≡ 0 → Misses 1069056 1085440 a) × (a.job ≡ 1 → Misses 1052672 1069056 a)) found

-- all of this
pub record InNumbers : Type 0 where
  pub one_job : KeepAnywhere textured_file (alone ∷ [])
  pub two_jobs : KeepAnywhere two_clients (first ∷ second ∷ [])
  pub clients : ClientsMiss
