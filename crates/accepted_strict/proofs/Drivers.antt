-- A job of a strict file that a driver hands in is strict as if it were alone.
use Rattle.std.proofs.Common.{ℕ, List, [], ◌∷◌, sym, subst, arith, rules}
use Rattle.machine_plan.specs.Regions.{Interval, Rights, HasReadOnly}
use Rattle.machine.specs.declared.job.Start.{Start}
use Rattle.bin_walks.specs.Walks.{nothing_kept}
use Rattle.list_law.proofs.Start.{walks_so}
use Rattle.job_format.specs.Model.{FileModel}
use Rattle.job_check.specs.Emit.{memory_of}
use Rattle.promises.specs.Days.{Day, Job, Happening, Admits, happen, dawn}
use Rattle.promises.specs.{Holdings.plain_of, Holdings.file_rights, Holdings.start_of, Drivers.IsSubmitted, Drivers.DriverMay, Drivers.AllDriverMay}
use Rattle.accepted_law.proofs.{ByJob.rights_are, Joining.all_ground, Joining.has_read_only, Prepared.prepared_memories_agree_law}
use Rattle.day_law.proofs.Alone.{Only, OnlyPlain, program_alone, draw_alone, jobs_begin_alone_law}
use Rattle.driver_law.proofs.Driver.{all_may}
use Rattle.strict_law.specs.{Days.AdmitsStrict, Days.AdmitStrict, Strict.DrawStrict, Strict.JobStrict}
use Rattle.strict_law.proofs.Days.{strict_days_obey_law, loads_take_oldest_law}
use Rattle.strict_law.proofs.RoleRuns.{days_keep_roles_law}
use Rattle.strict_law.proofs.Lists.{draw_selects}
use Rattle.strict_law.proofs.ListDays.{strict_binners_obey_law}
use Rattle.strict_law.proofs.SlotRuns.{days_have_room_law}
use Rattle.accepted_strict.specs.{Files.FileStrict, Drivers.HandsInStrict, Drivers.AllHandInStrict, Drivers.StrictDriversObey}
use Rattle.accepted_strict.proofs.Jobs.{job_strict}

draws_alone : (rights : List Rights) (plains : ℕ → List Interval) (first m : List ℕ) (j word : ℕ) (packet : List ℕ) → HasReadOnly rights first m → DrawStrict rights plains first j word packet
    → DrawStrict (Only rights j) (OnlyPlain plains j) m 0 word packet
unfolding draw_alone program_alone
draws_alone rights plains first m j word packet has draws =
    record {
      begins = draw_alone rights plains first m j word packet has draws.begins;
      fragment = draws.fragment;
      vertex = draws.vertex;
      coordinate = draws.coordinate;
      fragment_part = draws.fragment_part;
      vertex_part = draws.vertex_part;
      coordinate_part = draws.coordinate_part;
      selects = draw_selects rights plains first j word packet draws m has;
    }

strict_alone : (rights : List Rights) (plains : ℕ → List Interval) (first m : List ℕ) (j : ℕ) (start : Start) → HasReadOnly rights first m → JobStrict rights plains first j start → JobStrict (Only rights j) (OnlyPlain plains j) m 0 start
unfolding jobs_begin_alone_law
strict_alone rights plains first m j start has job = record {
  begins = jobs_begin_alone_law rights plains first m j start has job.begins;
  draws = walks_so job.begins.config (DrawStrict rights plains first j) (DrawStrict (Only rights j) (OnlyPlain plains j) m 0) (λ word packet draws kind. draws_alone rights plains first m j word packet has draws) nothing_kept job.begins.packets job.draws;
  list = job.list;
}

submitted_strict : (d : Day) (job : Job) → (submitted : IsSubmitted d job) → FileStrict submitted.file → AdmitsStrict d (Admits job)
submitted_strict d job submitted strict =
    let f : FileModel = submitted.file in
    let j : ℕ = submitted.number in
    let may = submitted.may in
    let m : List ℕ = d.state.memory in
    let has : HasReadOnly (file_rights f) (memory_of f) m = has_read_only f m (prepared_memories_agree_law f may.accepted m may.prepared) in
    let grounds = all_ground f may.accepted.well_formed may.accepted.fits may.accepted.none j may.inside in
    let alone = strict_alone (file_rights f) (plain_of f) (memory_of f) m j (start_of f j) has (job_strict f j may.inside strict grounds) in
    subst (λ (one : Job). AdmitsStrict d (Admits one)) (sym submitted.is)
    (subst (λ (r : Rights). JobStrict (r ∷ []) (λ number. plain_of f j) m 0 (start_of f j)) (rights_are f j may.inside) alone)

admits_strict : (d : Day) (one : Happening) (may : DriverMay d one) → HandsInStrict d one may → AdmitsStrict d one
admits_strict d one may strict = search (rules, arith, submitted_strict)

admit_strict : (d : Day) (happenings : List Happening) (may : AllDriverMay d happenings) → AllHandInStrict d happenings may → AdmitStrict d happenings
admit_strict d [] may strict = tt
admit_strict d (one ∷ later) may strict = (admits_strict d one may.0 strict.0, admit_strict (happen d one) later may.1 strict.1)

pub strict_drivers_obey_law : StrictDriversObey
strict_drivers_obey_law memory happenings may strict =
    let all = all_may (dawn memory) happenings may in
    let admits = admit_strict (dawn memory) happenings may strict in
    record {
      never_forbidden = strict_days_obey_law memory happenings all admits;
      takes_oldest = loads_take_oldest_law memory happenings all admits;
      keeps_roles = days_keep_roles_law memory happenings all admits;
      bins_as_allowed = strict_binners_obey_law memory happenings all admits;
      have_room = days_have_room_law memory happenings all admits;
    }
