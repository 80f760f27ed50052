-- In each run of strict jobs, and where they come and go, each thread keeps to what it was started as.
use Rattle.std.proofs.Common.{◌≡◌, ◌<◌, ℕ, not, Bool, false, List, None, refl, sym, ◌∙◌, subst, arith}
use Rattle.std.proofs.{lemmas.Grind.common_steps, lemmas.Bool.Decides.nat_tests}
use Rattle.emitted_facts.specs.Records.{is_single, code_word, stream_word}
use Rattle.emitted_facts.proofs.Records.{header_in}
use Rattle.bin_walks.specs.Walks.{nothing_kept}
use Rattle.machine_plan.specs.{declared.launch.Launch.Launch, Regions.Interval, Regions.Rights, Regions.HasReadOnly}
use Rattle.machine_plan.proofs.{Words.byte_read}
use Rattle.list_machine.specs.declared.state.Program.{Program, TheVariants.Fragment, TheVariants.Vertex, TheVariants.Coordinate}
use Rattle.list_machine.specs.{Lists.Lists, Start.is_threaded as threaded_flag}
use Rattle.list_law.specs.{Emitted.words_in, Emitted.program_in, Uses.program_launched, Uses.threaded_by}
use Rattle.list_law.proofs.Words.{low_bit}
use Rattle.qpu_law.specs.Home.{Home}
use Rattle.machine.specs.{declared.job.Start.Start, State.job_start, State.units_start}
use Rattle.machine_law.specs.Begins.{LaunchBegins}
use Rattle.machine_law.proofs.{Begins.homes_stay_law, Begins.single_stays, Begins.word_stays}
use Rattle.promises.specs.Days.{Day, after, dawn}
use Rattle.ends_law.proofs.Begins.{bin_starts}
use Rattle.strict_law.specs.Known.{IsHomeOf}
use Rattle.strict_law.specs.Roles.{Roles, program_by, roles_kept, roles_along, roles_of, RunsKeepRoles, DaysKeepRoles}
use Rattle.strict_law.specs.Strict.{DrawStrict, JobStrict}
use Rattle.strict_law.proofs.{Watch.Watch, Watch.Watches, WatchRuns.run_watched, WatchRuns.runs_find, WatchDays.IsOf, WatchDays.days_find, WatchDays.days_watched}
use Rattle.strict_law.proofs.Programs.{has_foreign, LaunchFits, WordFits, WordsFit, binner_fits, renderer_fits, words_begin}
use Rattle.strict_law.proofs.Roles.{QpuFits, starts_fit, went_fits, served_fits, qpu_goes, qpu_found, keeps_role}
use Rattle.list_law.proofs.Emitted.{launched_is}

-- What is read of a record is what its words say.
threaded_is : (m : List ℕ) (word : ℕ) → threaded_by m word ≡ not (is_single (words_in m word))
unfolding threaded_flag is_single
threaded_is m word = grind (arith, common_steps, nat_tests, byte_read, low_bit)

-- A program that may be started in each run.
launch_fits : (rights : List Rights) (plains : ℕ → List Interval) (first m : List ℕ) (j word : ℕ) (program : Program) (threaded there : Bool) (s : ℕ) → program_launched m program threaded word ≡ program_in m word threaded s → threaded ≡ there
    → words_in m word (code_word s) ≡ words_in first word (code_word s) → words_in m word (stream_word s) ≡ words_in first word (stream_word s)
    → (begins : LaunchBegins rights plains first j (program_in first word there s)) → has_foreign program begins.home.code ≡ false → LaunchFits (IsHomeOf rights first j) program (program_launched m program threaded word)
launch_fits rights plains first m j word program threaded there s read same_flag code stream begins fits =
    let is : program_in m word threaded s ≡ program_in first word there s = λ i. record { threaded = same_flag i; code = code i; uniforms = stream i } in
    subst (LaunchFits (IsHomeOf rights first j) program) (sym (read ∙ is)) (record {
      home = begins.home;
      fits = fits;
      stands = (homes_stay_law rights plains first j begins.home begins.buffers begins.begins).stands;
      code = begins.code;
      uniforms = begins.uniforms;
      threaded = begins.threaded;
    })

draw_fits : (rights : List Rights) (plains : ℕ → List Interval) (first : List ℕ) (j word : ℕ) (packet : List ℕ) → DrawStrict rights plains first j word packet → WordFits (HasReadOnly rights first) (IsHomeOf rights first j) word
draw_fits rights plains first j word packet draws m has =
    let begins = draws.begins in
    let room = header_in word in
    let stays : (i : ℕ) → i < 9 → words_in m word i ≡ words_in first word i = λ i below. word_stays rights first m j word i begins.record_lies begins.record_fixed has (omega (arith, room, below)) in
    let single : not (is_single (words_in m word)) ≡ not (is_single (words_in first word)) = single_stays (words_in m word) (words_in first word) (stays 0 (omega arith)) in
    record {
      fragment = launch_fits rights plains first m j word Fragment (threaded_by m word) (not (is_single (words_in first word))) 0 (launched_is m word Fragment (threaded_by m word) 0 (omega arith) (omega arith)) (threaded_is m word ∙ single)
          (stays 1 (omega arith)) (stays 2 (omega arith)) begins.fragment draws.fragment_part;
      vertex = launch_fits rights plains first m j word Vertex false false 1 (launched_is m word Vertex false 1 (omega arith) (omega arith)) refl (stays 4 (omega arith)) (stays 5 (omega arith)) begins.vertex draws.vertex_part;
      coordinate = launch_fits rights plains first m j word Coordinate false false 2 (launched_is m word Coordinate false 2 (omega arith) (omega arith)) refl (stays 7 (omega arith)) (stays 8 (omega arith)) begins.coordinate draws.coordinate_part;
    }

-- All that is known of a job, at its start.
abbrev pub JobWords : List Rights → List ℕ → ℕ → Lists → Type 0
JobWords rights first j s = WordsFit (HasReadOnly rights first) (WordFits (HasReadOnly rights first) (IsHomeOf rights first j)) s

pub job_words : (rights : List Rights) (plains : ℕ → List Interval) (first : List ℕ) (j : ℕ) (start : Start) → JobStrict rights plains first j start → JobWords rights first j (job_start start)
job_words rights plains first j start job =
    words_begin (HasReadOnly rights first) (WordFits (HasReadOnly rights first) (IsHomeOf rights first j)) (job_start start) job.begins.config (DrawStrict rights plains first j) nothing_kept job.begins.packets
    (λ word packet draws. draw_fits rights plains first j word packet draws) job.draws refl refl refl (bin_starts rights plains first j start (DrawStrict rights plains first j) job.begins job.draws)

launch_wider : (program : Program) (A B : Home → Type 0) → ((home : Home) → A home → B home) → (launch : Launch) → LaunchFits A program launch → LaunchFits B program launch
launch_wider program A B goes launch own = record { home = own.home; fits = own.fits; stands = goes own.home own.stands; code = own.code; uniforms = own.uniforms; threaded = own.threaded }

-- The roles are watched.
abbrev pub roles_watch : Watch
roles_watch = record {
  Kept = Roles;
  keeping = roles_kept;
  OfJob = JobWords;
  Binned = λ IsOwn launch. LaunchFits IsOwn Coordinate launch;
  Rendered = λ words IsOwn launch. LaunchFits IsOwn (program_by words) launch;
  OfQpu = λ IsOf roles k q. QpuFits IsOf (roles k) q;
}

pub roles_watched : Watches roles_watch
roles_watched = record {
  begins = job_words;
  binner = λ rights first j who s free words m has job on. binner_fits who (HasReadOnly rights first) (IsHomeOf rights first j) s free words m has job on;
  renderer = λ rights first j who s free words m has job on. renderer_fits who (HasReadOnly rights first) (IsHomeOf rights first j) s free words m has job;
  wider_binned = launch_wider Coordinate;
  wider_rendered = λ words. launch_wider (program_by words);
  binned = λ IsOf u words m roles j launch started qpus. starts_fit IsOf Coordinate roles u j launch started qpus;
  rendered = λ IsOf u words m roles j launch started qpus. starts_fit IsOf (program_by words) roles u j launch started qpus;
  thread = λ IsOf u k q t words m roles is active here left may. went_fits IsOf k q t words m roles active here left;
  others = λ IsOf u k words m roles i q other was. was;
  texture = λ u k tmu words m roles. refl;
  served = λ IsOf roles k tmu q request row left is. served_fits IsOf (roles k) tmu q request row left;
  moves = λ IsHere IsThere N goes roles k q first other left. qpu_goes IsHere IsThere N goes (roles k) q first other left;
  found = λ IsOf second files roles k q left. qpu_found IsOf second files q (roles k) left;
  admitted = λ j roles. refl;
  idle = λ IsOf roles k. record { first = tt; other = tt };
}

pub runs_keep_roles_law : RunsKeepRoles
runs_keep_roles_law rights plains first m starts plain has all happenings found s run event q t word one =
    let none : Roles = λ k second. None in
    let last = run_watched roles_watch roles_watched none rights plains first m starts plain has all happenings found s run in
    keeps_role (IsHomeOf rights first) (roles_along (record { memory = m; units = units_start starts }) happenings none) s event q t word (runs_find rights first s.memory last.holds.has) last.known.qpus one

-- So it is where jobs come and go.
pub days_keep_roles_law : DaysKeepRoles
days_keep_roles_law memory happenings may begins event q t word one =
    let d : Day = after (dawn memory) happenings in
    let none : Roles = λ k second. None in
    let last = days_watched roles_watch roles_watched none memory happenings may begins in
    keeps_role (IsOf d.jobs) (roles_of (dawn memory) happenings none) d.state event q t word (days_find d.jobs d.state.memory last.known.holds) last.now.qpus one
