-- What strict jobs begin with.
use Rattle.std.proofs.Common.{◌≡◌, ◌<◌, ℕ, ◌+◌, not, Bool, false, List, [], ◌∷◌, refl, sym, subst, arith}
use Rattle.emitted_facts.specs.Records.{is_single, code_word, stream_word}
use Rattle.emitted_facts.proofs.Records.{header_in}
use Rattle.bin_walks.specs.Walks.{nothing_kept}
use Rattle.machine_plan.specs.declared.launch.Launch.{Launch}
use Rattle.machine_plan.specs.Regions.{Interval, Rights, rights_of, HasReadOnly}
use Rattle.list_law.specs.{Binning.DrawsSo, Emitted.words_in, Emitted.program_in, Uses.Programs}
use Rattle.list_law.proofs.{Emitted.emitted_programs, Start.walks_so}
use Rattle.qpu_machine.specs.Qpu.{idle_qpu}
use Rattle.qpu_law.specs.Home.{Home}
use Rattle.machine.specs.{declared.job.Start.Start, State.job_start}
use Rattle.machine_law.specs.{Begins.LaunchBegins, Begins.JobBegins, Units.EachAt}
use Rattle.machine_law.proofs.Begins.{homes_stay_law, fetches_stay, single_stays, word_stays, record_stays, lists_so}
use Rattle.strict_law.specs.Strict.{IsStrict, DrawStrict, JobStrict}
use Rattle.strict_law.specs.Known.{LaunchStrict, QpuStrict, IsHomeOf, JobKnown}

-- a program that may be started in each run
launch_strict : (rights : List Rights) (plains : ℕ → List Interval) (first : List ℕ) (j : ℕ) (launch : Launch) → (begins : LaunchBegins rights plains first j launch) → IsStrict begins.home.code → LaunchStrict (IsHomeOf rights first j) launch
launch_strict rights plains first j launch begins strict = record {
  home = begins.home;
  strict = strict;
  stands = (homes_stay_law rights plains first j begins.home begins.buffers begins.begins).stands;
  code = begins.code;
  uniforms = begins.uniforms;
  threaded = begins.threaded;
}

program_strict : (rights : List Rights) (plains : ℕ → List Interval) (first m : List ℕ) (j word : ℕ) (threaded there : Bool) (s : ℕ) → threaded ≡ there → words_in m word (code_word s) ≡ words_in first word (code_word s) → words_in m word (stream_word s) ≡ words_in first word (stream_word s)
    → (begins : LaunchBegins rights plains first j (program_in first word there s)) → IsStrict begins.home.code → LaunchStrict (IsHomeOf rights first j) (program_in m word threaded s)
program_strict rights plains first m j word threaded there s same_flag code stream begins strict =
    let is : program_in m word threaded s ≡ program_in first word there s = λ i. record { threaded = same_flag i; code = code i; uniforms = stream i } in
    subst (LaunchStrict (IsHomeOf rights first j)) (sym is) (launch_strict rights plains first j (program_in first word there s) begins strict)

programs_strict : (rights : List Rights) (plains : ℕ → List Interval) (first m : List ℕ) (j word : ℕ) (packet : List ℕ) → DrawStrict rights plains first j word packet → HasReadOnly rights first m
    → Programs (rights_of rights j).region (LaunchStrict (IsHomeOf rights first j)) m word
programs_strict rights plains first m j word packet draws has =
    let begins = draws.begins in
    let room = header_in word in
    let stays : (i : ℕ) → i < 9 → words_in m word i ≡ words_in first word i = λ i below. word_stays rights first m j word i begins.record_lies begins.record_fixed has (omega (arith, room, below)) in
    let single : not (is_single (words_in m word)) ≡ not (is_single (words_in first word)) = single_stays (words_in m word) (words_in first word) (stays 0 (omega arith)) in
    emitted_programs (rights_of rights j).region (LaunchStrict (IsHomeOf rights first j)) m word (record_stays rights first m j word begins.record_fixed has begins.record_lies)
    (program_strict rights plains first m j word (not (is_single (words_in m word))) (not (is_single (words_in first word))) 0 single (stays 1 (omega arith)) (stays 2 (omega arith)) begins.fragment draws.fragment)
    (program_strict rights plains first m j word false false 1 refl (stays 4 (omega arith)) (stays 5 (omega arith)) begins.vertex draws.vertex)
    (program_strict rights plains first m j word false false 2 refl (stays 7 (omega arith)) (stays 8 (omega arith)) begins.coordinate draws.coordinate)

draws_strict : (rights : List Rights) (plains : ℕ → List Interval) (first : List ℕ) (j word : ℕ) (packet : List ℕ) → DrawStrict rights plains first j word packet
    → DrawsSo (rights_of rights j) (HasReadOnly rights first) (LaunchStrict (IsHomeOf rights first j)) word packet
draws_strict rights plains first j word packet draws = record {
  fetches = λ m has. fetches_stay rights plains first m j word packet draws.begins has;
  programs = λ m has. programs_strict rights plains first m j word packet draws has;
}

-- All that is known of a job at its start.
pub job_known : (rights : List Rights) (plains : ℕ → List Interval) (first : List ℕ) (j : ℕ) (start : Start) → JobStrict rights plains first j start → JobKnown rights first j (job_start start)
job_known rights plains first j start job =
    let begins = job.begins in
    let O = LaunchStrict (IsHomeOf rights first j) in
    record {
      config = begins.config;
      frame = begins.frame;
      allocates = begins.allocates;
      lists =
          lists_so rights plains first O j start begins
          (walks_so begins.config (DrawStrict rights plains first j) (DrawsSo (rights_of rights j) (HasReadOnly rights first) O) (λ word packet draws kind. draws_strict rights plains first j word packet draws) nothing_kept begins.packets job.draws);
    }

pub each_begin : (rights : List Rights) (plains : ℕ → List Interval) (first : List ℕ) (k : ℕ) (starts : List Start) → EachAt (JobStrict rights plains first) k starts → EachAt (JobBegins rights plains first) k starts
each_begin rights plains first k [] all = tt
each_begin rights plains first k (start ∷ starts) all = (all.0.begins, each_begin rights plains first (k + 1) starts all.1)

-- an idle processor has nothing outstanding
pub idle_strict : (IsOf : ℕ → Home → Type 0) → QpuStrict IsOf [] [] idle_qpu
idle_strict IsOf = record {
  first0 = 0;
  first1 = 0;
  other0 = 0;
  other1 = 0;
  first = (refl, refl, refl, refl);
  other = (refl, refl, refl, refl);
  beside = tt;
  rests = tt;
  in0 = record { is = refl; rests = refl };
  in1 = record { is = refl; rests = refl };
}
