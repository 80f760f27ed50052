-- What an accepted submission promises of the machine follows from the law of memories that are prepared.
use Rattle.std.proofs.Common.{◌≡◌, ◌<◌, ◌≤◌, ◌+◌, ◌==◌, ◌&&◌, ◌++◌, ℕ, zero, suc, Bool, true, false, not, List, [], ◌∷◌, length, map, take, drop, slice_index, if◌then◌else◌, Option, Some, None, refl, sym, ap, subst, arith, take-suc, take_all, ⊎_elim, ◌∙◌}
use Rattle.std.proofs.lemmas.{Grind.common_steps, Bool.Decides.nat_tests, List.length-map, Option.slice_get-map, Option.slice_get_cases, Option.get_or_from_slice_get, Option.slice_get_within, Option.slice_get-get_or}
use Rattle.std.proofs.Math.Seq.{take-append_seam}
use Rattle.std.specs.{List.slice_get, Prelude.option_map}
use Rattle.field_words.specs.{Writes.with_bytes}
use Rattle.phys_mem.specs.Window.{window_of}
use Rattle.buffer_table.specs.{declared.buffer.Buffer.Buffer, declared.buffer.Kind.TheVariants.Plain, declared.buffer.Kind.TheVariants.Code}
use Rattle.buffer_table.specs.{Table.TableModel, Table.buffer_at, Table.past_end, Handles.is_plain, Handles.is_named, Handles.data_of, Handles.code_of}
use Rattle.job_check.specs.{Shaders.table_of, Shaders.content_of, Jobs.job_of, Jobs.lists_begin, Jobs.layout_of, Emit.lengths_of, Region.region_of}
use Rattle.buffer_table.proofs.Named.{code_is as code_is_named}
use Rattle.field_words.specs.declared.access.Actor.TheVariants.{Tmu as TheTmu}
use Rattle.machine_plan.specs.Regions.{Interval, Rights, Inside}
use Rattle.machine.specs.declared.job.Start.{Start}
use Rattle.day_law.specs.Day.{MayHappen}
use Rattle.promises.specs.Holdings.{interval, interval_where, named_buffers, plain_of, codes_of, job_rights, file_rights, start_by, file_starts}
use Rattle.promises.specs.Holdings.{lists_of as lists_in_file, slot_in, OfEachJob, of_jobs}
use Rattle.promises.specs.Prepared.{IsPrepared, HasCode, HasContent, IsFaultless}
use Rattle.promises.specs.{Days.Job, Days.Admits, Drivers.job_in as job_in_file, Sound.Sound, Sound.TexturesReadIn, Sound.ReadInOne}
use Rattle.driver_law.proofs.Driver.{may_be_admitted_law}
use Rattle.vc4check_c.specs.Joins.{MayJoin, job_of as job_of_answer}
use Rattle.machine.specs.{State.State, State.Units, State.units_start, Step.step, Step.job_of as job_of_step}
use Rattle.accepted_law.proofs.Unshared.{code_number}
use Rattle.vc4check_c.specs.{declared.submission.GivenBuffer.GivenBuffer, declared.submission.Submission.Submission, declared.submit.Verdict.Verdict}
use Rattle.vc4check_c.specs.{Jobs.lists_report, Submission.content_in, Submission.entry_in, Submission.job_in, Submission.file_of, Submit.accepted_verdict, Submit.IsTaken, Types.IsOfTypes}
use Rattle.vc4check_c.specs.Safe.{where_code, intervals_named, data_buffers, code_buffers, rights_of, rights_from, start_of, data_of_job, HasShader, IsReady, IsSafeToRun}
use Rattle.std.specs.{List.range_with_len, Prelude.nat_lt, Prelude.slice_index_or}
use Rattle.std.proofs.{Common.zero-add, lemmas.List.FromFn.get_or-map-range_with_len}
use Rattle.field_words.specs.Words.{IsBytes}
use Rattle.job_format.specs.{Model.FileModel, Offsets.most_jobs, Reading.file_at}
use Rattle.job_check.specs.{Jobs.layouts_of, Emit.all_lengths_of}
use Rattle.job_check.proofs.Counted.{as_many_layouts}
use Rattle.job_safety.proofs.Prepared.{prepared_bytes_law}
use Rattle.vc4check_c.specs.{declared.jobs.JobsAnswer.JobsAnswer, Jobs.no_lists, Jobs.no_layout, Jobs.no_lengths, Jobs.all_lists, Jobs.lists_at, Jobs.accepted_jobs, Places.ArePlaced}
use Rattle.vc4check_c.specs.Safe.{slot_of, lists_of, report_of, rights_of_job, AreReady, AreSafeToRun}
use Rattle.accepted_law.proofs.Prepared.{prepared_memories_agree_law}
use Rattle.accepted_strict.specs.Files.{FileStrict}
use Rattle.accepted_strict.proofs.Files.{strict_files_obey_law}
use Rattle.vc4check_c.specs.Obeys.{Obeys, ObeysGuide, AllObeyGuide}
use Rattle.vc4check_c.proofs.{MayRun.faultless, MayRun.may_run, MayRun.unstrict_none, MayRun.strict_none, Submissions.inside_at}
use Rattle.vc4check_c.proofs.Places.{unstrict_file, faultless_file, strict_file}
use Rattle.accepted_law.proofs.Neighbours.{given_if}

-- Handles one after the other.
named_append : (code : Bool) (buffers : List GivenBuffer) (xs ys : List ℕ) → intervals_named code buffers (xs ++ ys) ≡ intervals_named code buffers xs ++ intervals_named code buffers ys
unfolding intervals_named
named_append code buffers [] ys = refl
named_append code buffers (x ∷ xs) ys = grind (arith, common_steps, named_append code buffers xs ys)

named_one : (code : Bool) (buffers : List GivenBuffer) (handle : ℕ) → intervals_named code buffers (handle ∷ []) ≡ where_code code (slice_get buffers handle)
unfolding intervals_named
named_one code buffers handle = grind (arith, common_steps)

-- The file has the submission's buffers as its entries.
entry_there : (buffers : List GivenBuffer) (number : ℕ) (given : GivenBuffer) → slice_get buffers number ≡ Some given
    → buffer_at (map entry_in buffers) number ≡ entry_in given
unfolding buffer_at
entry_there buffers number given here =
    get_or_from_slice_get (map entry_in buffers) number (entry_in given) past_end (slice_get-map entry_in buffers number ∙ ap (option_map entry_in) here)

-- What one handle gives, in the file as in the submission.
where_if : (buffers : List Buffer) (is gives : Bool) (number : ℕ) → is ≡ true
    → interval_where buffers (if is && gives then Some number else None) ≡ given_if gives (buffer_at buffers number)
where_if buffers true true number here = refl
where_if buffers true false number here = refl
where_if buffers false gives number here = absurd (cc)

where_not : (buffers : List Buffer) (is gives : Bool) (number : ℕ) → is ≡ false → interval_where buffers (if is && gives then Some number else None) ≡ []
where_not buffers true gives number here = absurd (cc)
where_not buffers false gives number here = refl

data_kind : (code : Bool) (one : Interval) → (if is_plain (if code then Code else Plain) then one ∷ [] else []) ≡ (if code then [] else one ∷ [])
data_kind true one = refl
data_kind false one = refl

code_kind : (code : Bool) (one : Interval) → (if not (is_plain (if code then Code else Plain)) then one ∷ [] else []) ≡ (if code then one ∷ [] else [])
code_kind true one = refl
code_kind false one = refl

data_entry : (given : GivenBuffer) → given_if (is_plain (entry_in given).kind) (entry_in given) ≡ where_code false (Some given)
unfolding entry_in where_code
data_entry given = data_kind (given.kind == 1) (interval given.address given.size)

code_entry : (given : GivenBuffer) → given_if (not (is_plain (entry_in given).kind)) (entry_in given) ≡ where_code true (Some given)
unfolding entry_in where_code
code_entry given = code_kind (given.kind == 1) (interval given.address given.size)

where_none : (code : Bool) → where_code code None ≡ []
unfolding where_code
where_none code = refl

module _ (t : TableModel) (buffers : List GivenBuffer) (handles : List ℕ) (i : ℕ) (are : t.buffers ≡ map entry_in buffers) (inside : i < length handles) where
  there : (given : GivenBuffer) → slice_get buffers (slice_index handles i) ≡ Some given → buffer_at t.buffers (slice_index handles i) ≡ entry_in given
  there given here = ap (λ bs. buffer_at bs (slice_index handles i)) are ∙ entry_there buffers (slice_index handles i) given here

  is_one : (given : GivenBuffer) → slice_get buffers (slice_index handles i) ≡ Some given → is_named t handles i ≡ true
  is_one given here =
      let few = slice_get_within buffers (slice_index handles i) given here in
      let long = ap length are ∙ length-map buffers entry_in in
      grind (arith, nat_tests, inside, few, long)

  is_none : length buffers ≤ slice_index handles i → is_named t handles i ≡ false
  is_none past = let long = ap length are ∙ length-map buffers entry_in in grind (arith, nat_tests, past, long)

  data_here : interval_where t.buffers (data_of t handles i) ≡ where_code false (slice_get buffers (slice_index handles i))
  unfolding data_of
  data_here =
      let gives = is_plain (buffer_at t.buffers (slice_index handles i)).kind in
      ⊎_elim
      (λ p.
      where_if t.buffers (is_named t handles i) gives (slice_index handles i) (is_one p.0 p.2)
      ∙ ap (λ b. given_if (is_plain b.kind) b) (there p.0 p.2)
      ∙ data_entry p.0
      ∙ ap (where_code false) (sym p.2))
      (λ p. where_not t.buffers (is_named t handles i) gives (slice_index handles i) (is_none p.0) ∙ sym (ap (where_code false) p.1 ∙ where_none false))
      (slice_get_cases buffers (slice_index handles i)).1

  code_here : interval_where t.buffers (code_of t handles i) ≡ where_code true (slice_get buffers (slice_index handles i))
  unfolding code_of
  code_here =
      let gives = not (is_plain (buffer_at t.buffers (slice_index handles i)).kind) in
      ⊎_elim
      (λ p.
      where_if t.buffers (is_named t handles i) gives (slice_index handles i) (is_one p.0 p.2)
      ∙ ap (λ b. given_if (not (is_plain b.kind)) b) (there p.0 p.2)
      ∙ code_entry p.0
      ∙ ap (where_code true) (sym p.2))
      (λ p. where_not t.buffers (is_named t handles i) gives (slice_index handles i) (is_none p.0) ∙ sym (ap (where_code true) p.1 ∙ where_none true))
      (slice_get_cases buffers (slice_index handles i)).1

-- What the first n handles give.
named_below : (code : Bool) (names : ℕ → Option ℕ) (entries : List Buffer) (buffers : List GivenBuffer) (handles : List ℕ)
    → ((i : ℕ) → i < length handles → interval_where entries (names i) ≡ where_code code (slice_get buffers (slice_index handles i)))
    → (n : ℕ) → n ≤ length handles → named_buffers names entries n ≡ intervals_named code buffers (take n handles)
unfolding named_buffers intervals_named
named_below code names entries buffers handles each zero few = refl
named_below code names entries buffers handles each (suc n) few =
    ap (λ front. front ++ interval_where entries (names n)) (named_below code names entries buffers handles each n (omega (arith, few)))
    ∙ ap (λ one. intervals_named code buffers (take n handles) ++ one) (each n (omega (arith, few)) ∙ sym (named_one code buffers (slice_index handles n)))
    ∙ sym (named_append code buffers (take n handles) (slice_index handles n ∷ []))
    ∙ ap (intervals_named code buffers) (sym (take-suc handles n 0 (omega (arith, few))))

all_named : (code : Bool) (names : ℕ → Option ℕ) (entries : List Buffer) (buffers : List GivenBuffer) (handles : List ℕ)
    → ((i : ℕ) → i < length handles → interval_where entries (names i) ≡ where_code code (slice_get buffers (slice_index handles i)))
    → named_buffers names entries (length handles) ≡ intervals_named code buffers handles
all_named code names entries buffers handles each =
    named_below code names entries buffers handles each (length handles) (omega arith) ∙ ap (intervals_named code buffers) (take_all (length handles) handles (omega arith))

data_is : (s : Submission) → plain_of (file_of s) 0 ≡ data_buffers s
unfolding plain_of file_of job_of job_in
data_is s =
    let t = table_of (file_of s) in
    all_named false (data_of t s.handles.now) t.buffers s.buffers.now s.handles.now (λ i inside. data_here t s.buffers.now s.handles.now i refl inside)

code_is : (s : Submission) → codes_of (file_of s) 0 ≡ code_buffers s
unfolding codes_of file_of job_of job_in
code_is s =
    let t = table_of (file_of s) in
    all_named true (code_of t s.handles.now) t.buffers s.buffers.now s.handles.now (λ i inside. code_here t s.buffers.now s.handles.now i refl inside)

-- A job that the file doesn't have gives nothing.
no_more : (s : Submission) (j : ℕ) → plain_of (file_of s) (suc j) ≡ []
unfolding plain_of file_of job_of named_buffers
no_more s j = refl

data_by_job : (s : Submission) (j : ℕ) → plain_of (file_of s) j ≡ data_of_job s j
unfolding data_of_job
data_by_job s zero = data_is s
data_by_job s (suc j) = no_more s j

-- Two accounts of the same data buffers are the same to the machine.
textures_alike : (one other : ℕ → List Interval) (t : State) → ((j : ℕ) → one j ≡ other j) → TexturesReadIn one t → TexturesReadIn other t
textures_alike one other t same reads k n words may =
    subst (λ b. ReadInOne b (step t (record { unit = TheTmu k n; words = words })).accesses) (same (job_of_step t (TheTmu k n))) (reads k n words may)

sound_alike : (rights : List Rights) (one other : ℕ → List Interval) (m : List ℕ) (u : Units) → ((j : ℕ) → one j ≡ other j)
    → Sound rights one m u → Sound rights other m u
sound_alike rights one other m u same sound = record {
  safe = sound.safe;
  same = sound.same;
  textures = λ happenings found t run. textures_alike one other t same (sound.textures happenings found t run);
}

-- The answer tells the slot, the lists and their beginnings.
module _ (s : Submission) (size : ℕ) (answer : Verdict) (report : answer ≡ accepted_verdict size (layout_of (file_of s) 0) (lengths_of (file_of s) 0)) where
  lists_reported : answer.lists ≡ lists_report (layout_of (file_of s) 0) (lengths_of (file_of s) 0)
  unfolding accepted_verdict
  lists_reported = ap (λ v. v.lists) report

  rights_are : job_rights (file_of s) 0 ≡ rights_of s answer.lists
  unfolding lists_report slot_in lists_in_file layout_of
  rights_are =
      ap (λ plain. rights_from (slot_in (file_of s) 0) plain (lists_in_file (file_of s) 0) (codes_of (file_of s) 0)) (data_is s)
      ∙ ap (rights_from (slot_in (file_of s) 0) (data_buffers s) (lists_in_file (file_of s) 0)) (code_is s)
      ∙ ap (rights_of s) (sym lists_reported)

  start_is : start_by (layout_of (file_of s) 0) (lengths_of (file_of s) 0) ≡ start_of answer.lists
  unfolding lists_report start_by
  start_is = ap start_of (sym lists_reported)

  place_is : answer.lists.lists ≡ s.lists
  unfolding lists_report layout_of lists_begin file_of
  place_is = ap (λ l. l.lists) lists_reported

  size_is : answer.size ≡ size
  unfolding accepted_verdict
  size_is = ap (λ v. v.size) report

-- A memory that is ready is prepared for the file.
content_there : (s : Submission) (number : ℕ) (given : GivenBuffer) → slice_get s.buffers.now number ≡ Some given → content_of (file_of s) number ≡ content_in given
unfolding content_of file_of
content_there s number given here =
    get_or_from_slice_get (map content_in s.buffers.now) number (content_in given) [] (slice_get-map content_in s.buffers.now number ∙ ap (option_map content_in) here)

code_content : (given : GivenBuffer) → (given.kind == 1) ≡ true → content_in given ≡ given.content.now
unfolding content_in
code_content given is = ap (λ b. if b then given.content.now else []) is

is_true : (b : Bool) → (if b then Code else Plain) ≡ Code → b ≡ true
is_true true is = refl
is_true false is = absurd (cc)

kind_is : (given : GivenBuffer) → (entry_in given).kind ≡ Code → (given.kind == 1) ≡ true
unfolding entry_in
kind_is given is = is_true (given.kind == 1) is

is_long : (s : Submission) (m : List ℕ) → length m ≡ s.end → length m ≡ (file_of s).mem_size
unfolding file_of
is_long s m long = long

window_front : (old region window : List ℕ) → window ≡ with_bytes old 0 region → take (length region) window ≡ region
window_front old region window put = ap (take (length region)) put ∙ take-append_seam region (drop (0 + length region) old)

has_entry : (m : List ℕ) (given : GivenBuffer) → HasShader m given.address given.size given.content.now → HasContent m (entry_in given) given.content.now
unfolding entry_in
has_entry m given has = has

has_code : (s : Submission) (window : List ℕ) (answer : Verdict) (m : List ℕ) → IsReady s window answer m → HasCode (file_of s) m 0
unfolding file_of job_of job_in
has_code s window answer m ready handle number named =
    let f = file_of s in
    let found = code_is_named (table_of f) s.handles.now handle number named in
    let long = length-map s.buffers.now entry_in in
    let one = inside_at s.buffers.now number (omega (arith, found.inside, long)) in
    let entry = entry_there s.buffers.now number one.0 one.1 in
    let code = kind_is one.0 (ap (λ b. b.kind) (sym entry) ∙ found.kind_is) in
    let content = content_there s number one.0 one.1 ∙ code_content one.0 code in
    let here = slice_get-get_or s.handles.now handle 0 found.handle_in ∙ ap Some (code_number (table_of f) s.handles.now handle number named) in
    subst (λ c. HasContent m (buffer_at f.buffers number) c) (sym content) (subst (λ b. HasContent m b one.0.content.now) (sym entry)
    (has_entry m one.0 (ready.code handle number one.0 here one.1 code)))

each_code : (s : Submission) (window : List ℕ) (answer : Verdict) (m : List ℕ) → IsReady s window answer m → OfEachJob (file_of s) (HasCode (file_of s) m)
unfolding file_of
each_code s window answer m ready zero inside = has_code s window answer m ready
each_code s window answer m ready (suc j) inside = absurd (omega (arith, inside))

is_prepared : (s : Submission) (old window : List ℕ) (answer : Verdict) (m : List ℕ) → IsTaken s answer → window ≡ with_bytes old 0 (region_of (file_of s))
    → IsReady s window answer m → IsPrepared (file_of s) m
unfolding file_of
is_prepared s old window answer m taken put ready =
    let f = file_of s in
    let region = region_of f in
    let front = ap (λ n. take n window) (size_is s (length region) answer taken.report) ∙ window_front old region window put in
    let stands = ap (λ n. window_of m n (length region)) (sym (place_is s (length region) answer taken.report)) ∙ ap (window_of m answer.lists.lists) (sym (size_is s (length region) answer taken.report)) in
    record { long = is_long s m ready.long; lists = stands ∙ ready.lists ∙ front; code = each_code s window answer m ready }

-- Every run from such a memory is safe.
pub submissions_are_safe : (s : Submission) (old window : List ℕ) (answer : Verdict) → IsOfTypes s → IsTaken s answer → window ≡ with_bytes old 0 (region_of (file_of s))
    → IsSafeToRun s window answer
unfolding file_rights file_starts file_of
submissions_are_safe s old window answer types taken put m ready =
    let report = taken.report in
    let size = length (region_of (file_of s)) in
    let sound = may_run s types (unstrict_none s taken.none_broken) m (is_prepared s old window answer m taken put ready) in
    let one = sound_alike (file_rights (file_of s)) (plain_of (file_of s)) (data_of_job s) m (units_start (file_starts (file_of s))) (data_by_job s) sound in
    let righted = subst (λ r. Sound (r ∷ []) (data_of_job s) m (units_start (file_starts (file_of s)))) (rights_are s size answer report) one in
    subst (λ a. Sound (rights_of s answer.lists ∷ []) (data_of_job s) m (units_start (a ∷ []))) (start_is s size answer report) righted

-- And none does what the guide forbids.
prepared_obeys : (f : FileModel) → IsFaultless f → FileStrict f → (m : List ℕ) → IsPrepared f m → Obeys (file_rights f) m (units_start (file_starts f))
prepared_obeys f accepted strict m prepared =
    let obeys = strict_files_obey_law f accepted strict in
    let agree = prepared_memories_agree_law f accepted m prepared in
    record { never_forbidden = obeys.never_forbidden m agree; takes_oldest = obeys.takes_oldest m agree }

pub submissions_obey : (s : Submission) (old window : List ℕ) (answer : Verdict) → IsOfTypes s → IsTaken s answer → window ≡ with_bytes old 0 (region_of (file_of s))
    → ObeysGuide s window answer
unfolding file_rights file_starts file_of
submissions_obey s old window answer types taken put m ready =
    let report = taken.report in
    let size = length (region_of (file_of s)) in
    let accepted = faultless s types (unstrict_none s taken.none_broken) in
    let one = prepared_obeys (file_of s) accepted (strict_none s taken.none_broken) m (is_prepared s old window answer m taken put ready) in
    let righted = subst (λ r. Obeys (r ∷ []) m (units_start (file_starts (file_of s)))) (rights_are s size answer report) one in
    subst (λ a. Obeys (rights_of s answer.lists ∷ []) m (units_start (a ∷ []))) (start_is s size answer report) righted

-- And the job may join those that are live.
abbrev job_from : Start → Rights → List Interval → Job
job_from start rights plain = record { start = start; rights = rights; plain = plain }

one_job : (s : Submission) → 0 < length (file_of s).jobs
unfolding file_of
one_job s = omega arith

lists_are : (s : Submission) (size : ℕ) (answer : Verdict) → answer ≡ accepted_verdict size (layout_of (file_of s) 0) (lengths_of (file_of s) 0)
    → lists_in_file (file_of s) 0 ≡ lists_of answer.lists
unfolding lists_report lists_in_file
lists_are s size answer report = ap lists_of (sym (lists_reported s size answer report))

slot_is : (s : Submission) (size : ℕ) (answer : Verdict) → answer ≡ accepted_verdict size (layout_of (file_of s) 0) (lengths_of (file_of s) 0)
    → slot_in (file_of s) 0 ≡ slot_of answer.lists
unfolding lists_report slot_in layout_of
slot_is s size answer report = ap slot_of (sym (lists_reported s size answer report))

pub submissions_may_join : (s : Submission) (old window : List ℕ) (answer : Verdict) → IsOfTypes s → IsTaken s answer → window ≡ with_bytes old 0 (region_of (file_of s))
    → MayJoin s window answer
submissions_may_join s old window answer types taken put d owed =
    let f = file_of s in
    let report = taken.report in
    let size = length (region_of f) in
    let lists = lists_are s size answer report in
    let slot = slot_is s size answer report in
    let job : job_in_file f 0 ≡ job_of_answer s answer =
    ap (λ a. job_from a (job_rights f 0) (plain_of f 0)) (start_is s size answer report)
    ∙ ap (λ r. job_from (start_of answer.lists) r (plain_of f 0)) (rights_are s size answer report)
    ∙ ap (job_from (start_of answer.lists) (rights_of s answer.lists)) (data_is s) in
    subst (λ j. MayHappen d (Admits j)) job
    (may_be_admitted_law d f 0 (record {
      accepted = faultless s types (unstrict_none s taken.none_broken);
      inside = one_job s;
      prepared = is_prepared s old window answer d.state.memory taken put owed.ready;
      apart = record {
        reads = λ p inside. owed.reads p (subst (λ xs. Inside xs p 1) (ap (λ xs. xs ++ codes_of f 0) lists ∙ ap (λ xs. lists_of answer.lists ++ xs) (code_is s)) inside);
        writes = λ p inside. owed.writes p (subst (λ xs. Inside xs p 1) (ap (λ x. x ∷ plain_of f 0) slot ∙ ap (λ xs. slot_of answer.lists ∷ xs) (data_is s)) inside);
      };
    }))

-- Of all jobs of a file: as many items of two lists are the same where each is.
same_row : {X : Type 0} (one other : ℕ → X) (from n : ℕ) → ((j : ℕ) → from ≤ j → j < from + n → one j ≡ other j)
    → map one (range_with_len from n) ≡ map other (range_with_len from n)
same_row one other from zero each = refl
same_row one other from (suc n) each =
    ap (λ x. x ∷ map one (range_with_len (from + 1) n)) (each from (omega arith) (omega arith))
    ∙ ap (λ xs. other from ∷ xs) (same_row one other (from + 1) n (λ j above below. each j (omega (arith, above)) (omega (arith, below))))

each_job : {X : Type 0} (f : FileModel) (one other : ℕ → X) → ((j : ℕ) → j < length f.jobs → one j ≡ other j) → of_jobs f one ≡ of_jobs f other
each_job f one other each = same_row one other 0 (length f.jobs) (λ j above below. each j (omega (arith, below)))

is_below : (j n : ℕ) → j < n → nat_lt j n ≡ true
is_below j n below = grind (arith, nat_tests, below)

module _ (f : FileModel) (few : length f.jobs ≤ most_jobs) (size : ℕ) (answer : JobsAnswer) (report : answer ≡ accepted_jobs size (layouts_of f) (all_lengths_of f)) where
  lists_report_of : (j : ℕ) → j < length f.jobs → report_of answer j ≡ lists_report (layout_of f j) (lengths_of f j)
  unfolding accepted_jobs all_lists lists_at layouts_of all_lengths_of
  lists_report_of j inside =
      let n = length (layouts_of f) in
      let many = as_many_layouts f in
      ap (λ a. report_of a j) report
      ∙ get_or-map-range_with_len (lists_at (layouts_of f) (all_lengths_of f) n) 0 most_jobs j j no_lists (omega (arith, inside, few)) (zero-add j)
      ∙ ap (λ b. if b then lists_report (slice_index_or (layouts_of f) j no_layout) (slice_index_or (all_lengths_of f) j no_lengths) else no_lists)
      (is_below j n (omega (arith, inside, many)))
      ∙ ap (λ l. lists_report l (slice_index_or (all_lengths_of f) j no_lengths)) (get_or-map-range_with_len (layout_of f) 0 (length f.jobs) j j no_layout inside (zero-add j))
      ∙ ap (lists_report (layout_of f j)) (get_or-map-range_with_len (lengths_of f) 0 (length f.jobs) j j no_lengths inside (zero-add j))

  job_rights_are : (j : ℕ) → j < length f.jobs → job_rights f j ≡ rights_of_job f answer j
  unfolding lists_report slot_in lists_in_file layout_of
  job_rights_are j inside = ap (λ l. rights_from (slot_of l) (plain_of f j) (lists_of l) (codes_of f j)) (sym (lists_report_of j inside))

  job_start_is : (j : ℕ) → j < length f.jobs → start_by (layout_of f j) (lengths_of f j) ≡ start_of (report_of answer j)
  unfolding lists_report start_by
  job_start_is j inside = ap start_of (sym (lists_report_of j inside))

  file_place_is : 0 < length f.jobs → (report_of answer 0).lists ≡ f.regions.lists_place
  unfolding lists_report layout_of lists_begin
  file_place_is some = ap (λ l. l.lists) (lists_report_of 0 some)

  file_size_is : answer.size ≡ size
  unfolding accepted_jobs
  file_size_is = ap (λ a. a.size) report

are_prepared : (f : FileModel) (old window : List ℕ) (answer : JobsAnswer) (m : List ℕ) → length f.jobs ≤ most_jobs → 0 < length f.jobs
    → answer ≡ accepted_jobs (length (region_of f)) (layouts_of f) (all_lengths_of f) → window ≡ with_bytes old 0 (region_of f)
    → AreReady f window answer m → IsPrepared f m
are_prepared f old window answer m few some report put ready =
    let region = region_of f in
    let size = file_size_is f few (length region) answer report in
    let place = file_place_is f few (length region) answer report some in
    let front = ap (λ n. take n window) size ∙ window_front old region window put in
    let stands = ap (λ p. window_of m p (length region)) (sym place) ∙ ap (window_of m (report_of answer 0).lists) (sym size) in
    record { long = ready.long; lists = stands ∙ ready.lists ∙ front; code = λ j inside handle number named. ready.code j handle number inside named }

pub files_are_safe : (bytes : List ℕ) (old window : List ℕ) (answer : JobsAnswer) → IsBytes bytes → ArePlaced bytes answer
    → window ≡ with_bytes old 0 (region_of (file_at bytes)) → AreSafeToRun (file_at bytes) window answer
unfolding file_rights file_starts
files_are_safe bytes old window answer are placed put m ready =
    let f = file_at bytes in
    let report = placed.report in
    let few = placed.spelled.well_formed.few_jobs in
    let some = placed.spelled.well_formed.some_job in
    let size = length (region_of f) in
    let sound = prepared_bytes_law bytes are (unstrict_file bytes placed.none_broken) m (are_prepared f old window answer m few some report put ready) in
    let righted = subst (λ r. Sound r (plain_of f) m (units_start (file_starts f))) (each_job f (job_rights f) (rights_of_job f answer) (job_rights_are f few size answer report)) sound in
    subst (λ a. Sound (of_jobs f (rights_of_job f answer)) (plain_of f) m (units_start a))
    (each_job f (λ j. start_by (layout_of f j) (lengths_of f j)) (λ j. start_of (report_of answer j)) (job_start_is f few size answer report)) righted

pub files_obey : (bytes : List ℕ) (old window : List ℕ) (answer : JobsAnswer) → IsBytes bytes → ArePlaced bytes answer
    → window ≡ with_bytes old 0 (region_of (file_at bytes)) → AllObeyGuide (file_at bytes) window answer
unfolding file_rights file_starts
files_obey bytes old window answer are placed put m ready =
    let f = file_at bytes in
    let report = placed.report in
    let few = placed.spelled.well_formed.few_jobs in
    let some = placed.spelled.well_formed.some_job in
    let size = length (region_of f) in
    let prepared = are_prepared f old window answer m few some report put ready in
    let all = prepared_obeys f (faultless_file bytes are placed.none_broken) (strict_file bytes placed.none_broken) m prepared in
    let righted = subst (λ r. Obeys r m (units_start (file_starts f))) (each_job f (job_rights f) (rights_of_job f answer) (job_rights_are f few size answer report)) all in
    subst (λ a. Obeys (of_jobs f (rights_of_job f answer)) m (units_start a))
    (each_job f (λ j. start_by (layout_of f j) (lengths_of f j)) (λ j. start_of (report_of answer j)) (job_start_is f few size answer report)) righted
