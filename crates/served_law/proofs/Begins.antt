-- What jobs whose shaders are served begin with.
use Rattle.std.proofs.Common.{◌≡◌, ℕ, zero, suc, ◌+◌, false, List, [], ◌∷◌, map, replicate, refl, arith}
use Rattle.packets.specs.declared.config.Config.{Config}
use Rattle.bin_walks.specs.Walks.{Kept, nothing_kept, kept_after, Walks}
use Rattle.machine_plan.specs.Regions.{Every, Interval, Rights, rights_of, HasReadOnly}
use Rattle.list_law.specs.Binning.{DrawsSo}
use Rattle.list_law.proofs.Start.{walks_so}
use Rattle.qpu_machine.specs.Qpu.{idle_qpu}
use Rattle.machine.specs.{declared.job.Start.Start, State.job_start, State.units_start}
use Rattle.machine_law.specs.{Begins.JobBegins, Units.EachAt}
use Rattle.machine_law.proofs.Begins.{lists_so}
use Rattle.ends_law.proofs.Begins.{draws_so, bin_starts, render_starts}
use Rattle.served_law.specs.Finish.{DrawServed, JobMayFinish}
use Rattle.promises.specs.Finished.{may_wait}
use Rattle.served_law.specs.Known.{LaunchServed, QpuServed, AllGo, JobServed, UnitsServed}

-- none of the packets that walk ends the list
walks_go : (c : Config) (R : ℕ → List ℕ → Type 0) (kept : Kept) (packets : List (List ℕ)) → Walks c R kept packets → AllGo packets
walks_go c R kept [] walks = tt
walks_go c R kept (packet ∷ packets) walks = (walks.0.no_halt, walks_go c R (kept_after kept packet) packets walks.1)

-- All that is known of a job at its start.
job_served : (rights : List Rights) (plains : ℕ → List Interval) (first : List ℕ) (j : ℕ) (start : Start) → JobMayFinish rights plains first j start → JobServed rights (HasReadOnly rights first) j (job_start start)
job_served rights plains first j start may =
    let begins = may.begins in
    let raised = may.raised in
    let O = LaunchServed rights (HasReadOnly rights first) j in
    let draws = λ (word : ℕ) (packet : List ℕ) (one : DrawServed rights plains first j word packet). draws_so rights plains first (λ code. may_wait code ≡ false) j word packet one.begins one.fragment one.vertex one.coordinate in
    record {
      config = begins.config;
      frame = begins.frame;
      allocates = begins.allocates;
      lists = lists_so rights plains first O j start begins
          (walks_so begins.config (DrawServed rights plains first j) (DrawsSo (rights_of rights j) (HasReadOnly rights first) O) (λ word packet one kind. draws word packet one) nothing_kept begins.packets may.served);
      meets = (
        begins.packets,
        begins.slots,
        record {
          bin = bin_starts rights plains first j start (DrawServed rights plains first j) begins may.served;
          go = walks_go begins.config (DrawServed rights plains first j) nothing_kept begins.packets may.served;
          render = render_starts rights plains first j start begins;
          meets = omega (arith, raised);
        },
      );
    }

each_served : (rights : List Rights) (plains : ℕ → List Interval) (first : List ℕ) (k : ℕ) (starts : List Start) → EachAt (JobMayFinish rights plains first) k starts → EachAt (JobServed rights (HasReadOnly rights first)) k (map job_start starts)
each_served rights plains first k [] all = tt
each_served rights plains first k (start ∷ starts) all = (job_served rights plains first k start all.0, each_served rights plains first (k + 1) starts all.1)

pub each_begin : (rights : List Rights) (plains : ℕ → List Interval) (first : List ℕ) (k : ℕ) (starts : List Start) → EachAt (JobMayFinish rights plains first) k starts → EachAt (JobBegins rights plains first) k starts
each_begin rights plains first k [] all = tt
each_begin rights plains first k (start ∷ starts) all = (all.0.begins, each_begin rights plains first (k + 1) starts all.1)

-- idle processors have nothing outstanding
idle_served : (rights : List Rights) (K : List ℕ → Type 0) (count : ℕ) → Every (QpuServed rights K) (replicate count idle_qpu)
idle_served rights K zero = tt
idle_served rights K (suc count) = (record { first = (refl, refl); other = (refl, refl); led = refl; beside = tt }, idle_served rights K count)

pub start_served : (rights : List Rights) (plains : ℕ → List Interval) (first : List ℕ) (starts : List Start) → EachAt (JobMayFinish rights plains first) 0 starts → UnitsServed rights (HasReadOnly rights first) (units_start starts)
start_served rights plains first starts all = record {
  jobs = each_served rights plains first 0 starts all;
  qpus = idle_served rights (HasReadOnly rights first) 12;
  some = omega arith;
}
