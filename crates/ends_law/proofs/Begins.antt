-- What jobs whose programs are short begin with: all that is left of them, at their start.
use Rattle.std.proofs.Common.{◌≡◌, ◌≤◌, ◌<◌, ℕ, zero, suc, ◌+◌, ◌-◌, ◌*◌, ◌==◌, not, Bool, true, false, List, [], ◌∷◌, length, map, replicate, Option, refl, sym, ap, subst, arith}
use Rattle.field_words.specs.Pieces.{joined_texts as joined_bytes}
use Rattle.packets.specs.{declared.config.Config.Config, declared.packet.Packet.Packet, Packet.slots_text}
use Rattle.emitted_facts.specs.Records.{is_single, code_word, stream_word}
use Rattle.emitted_facts.proofs.Records.{header_in}
use Rattle.bin_walks.specs.Walks.{Kept, nothing_kept, kept_after, Walks}
use Rattle.machine_plan.specs.{Regions.Interval, Regions.Rights, Regions.rights_of, Regions.HasReadOnly}
use Rattle.list_law.specs.{Binning.DrawsSo, Emitted.words_in, Emitted.program_in}
use Rattle.list_law.proofs.{Emitted.emitted_programs, Logs.same, Start.walks_so}
use Rattle.qpu_machine.specs.Qpu.{idle_qpu}
use Rattle.machine.specs.{declared.job.Start.Start, State.job_start, State.units_start}
use Rattle.machine_law.specs.Begins.{LaunchBegins, DrawBegins, JobBegins}
use Rattle.machine_law.proofs.Begins.{homes_stay_law, fetches_stay, single_stays, word_stays, record_stays, text_stays, lists_so}
use Rattle.ends_law.specs.{Ends.DrawShort, Ends.JobShort, Loops.IsShort}
use Rattle.promises.specs.Steps.{room_of, one_if, times, most_times, most_visits, all_entered, job_steps}
use Rattle.ends_law.specs.Left.{EachWithin, LaunchSo, QpuLeft, AllWhole, BinRest, RenderRest, JobEnds, CountedEnds, UnitsLeft}
use Rattle.ends_law.proofs.Rooms.{counted_none}

-- a program that may be started in each run, where S is so of its shader
program_so : (rights : List Rights) (plains : ℕ → List Interval) (first m : List ℕ) (S : List ℕ → Type 0) (j word : ℕ) (threaded there : Bool) (s : ℕ) → threaded ≡ there → words_in m word (code_word s) ≡ words_in first word (code_word s) → words_in m word (stream_word s) ≡ words_in first word (stream_word s)
    → (begins : LaunchBegins rights plains first j (program_in first word there s)) → S begins.home.code → LaunchSo (rights_of rights j) (HasReadOnly rights first) S (program_in m word threaded s)
program_so rights plains first m S j word threaded there s same_flag code stream begins so =
    let O = LaunchSo (rights_of rights j) (HasReadOnly rights first) S in
    let is : program_in m word threaded s ≡ program_in first word there s = λ i. record { threaded = same_flag i; code = code i; uniforms = stream i } in
    subst O (sym is) (record {
      home = begins.home;
      so = so;
      stands = (homes_stay_law rights plains first j begins.home begins.buffers begins.begins).stands;
      code = begins.code;
      uniforms = begins.uniforms;
      threaded = begins.threaded;
    })

pub draws_so : (rights : List Rights) (plains : ℕ → List Interval) (first : List ℕ) (S : List ℕ → Type 0) (j word : ℕ) (packet : List ℕ) → (begins : DrawBegins rights plains first j word packet)
    → S begins.fragment.home.code → S begins.vertex.home.code → S begins.coordinate.home.code → DrawsSo (rights_of rights j) (HasReadOnly rights first) (LaunchSo (rights_of rights j) (HasReadOnly rights first) S) word packet
draws_so rights plains first S j word packet begins fragment vertex coordinate = record {
  fetches = λ m has. fetches_stay rights plains first m j word packet begins has;
  programs = λ m has.
      let room = header_in word in
      let stays : (i : ℕ) → i < 9 → words_in m word i ≡ words_in first word i = λ i below. word_stays rights first m j word i begins.record_lies begins.record_fixed has (omega (arith, room, below)) in
      let single : not (is_single (words_in m word)) ≡ not (is_single (words_in first word)) = single_stays (words_in m word) (words_in first word) (stays 0 (omega arith)) in
      emitted_programs (rights_of rights j).region (LaunchSo (rights_of rights j) (HasReadOnly rights first) S) m word (record_stays rights first m j word begins.record_fixed has begins.record_lies)
      (program_so rights plains first m S j word (not (is_single (words_in m word))) (not (is_single (words_in first word))) 0 single (stays 1 (omega arith)) (stays 2 (omega arith)) begins.fragment fragment)
      (program_so rights plains first m S j word false false 1 refl (stays 4 (omega arith)) (stays 5 (omega arith)) begins.vertex vertex)
      (program_so rights plains first m S j word false false 2 refl (stays 7 (omega arith)) (stays 8 (omega arith)) begins.coordinate coordinate);
}

-- packets that walk are whole
pub walks_whole : (c : Config) (R : ℕ → List ℕ → Type 0) (kept : Kept) (packets : List (List ℕ)) → Walks c R kept packets → AllWhole packets
walks_whole c R kept [] walks = tt
walks_whole c R kept (packet ∷ packets) walks = (record { whole = walks.0.whole; known = walks.0.known }, walks_whole c R (kept_after kept packet) packets walks.1)

pub bin_starts : (rights : List Rights) (plains : ℕ → List Interval) (first : List ℕ) (j : ℕ) (start : Start) (R : ℕ → List ℕ → Type 0) → (begins : JobBegins rights plains first j start) → Walks begins.config R nothing_kept begins.packets
    → BinRest (HasReadOnly rights first) start.bin_place (start.bin_place + start.bin_len) begins.packets
bin_starts rights plains first j start R begins walks = record {
  ends = ap (λ n. start.bin_place + n) (sym begins.bin_len);
  stands = text_stays rights first j start.bin_place (joined_bytes begins.packets) begins.bin_text;
  whole = walks_whole begins.config R nothing_kept begins.packets walks;
}

pub render_starts : (rights : List Rights) (plains : ℕ → List Interval) (first : List ℕ) (j : ℕ) (start : Start) → (begins : JobBegins rights plains first j start) → RenderRest (HasReadOnly rights first) start.render_place (start.render_place + start.render_len) begins.slots
render_starts rights plains first j start begins = record {
  ends = ap (λ n. start.render_place + n) (sym begins.render_len);
  stands = text_stays rights first j start.render_place (slots_text begins.slots) begins.render_text;
  fit = begins.render_fits;
}

-- No place is among them oftener than the one that is most often.
rest_most : (one : ℕ) (others all : List ℕ) (n : ℕ) → n ≤ most_times others all → n ≤ most_times (one ∷ others) all
rest_most one others all n less = omega (arith, less)

found_by : (place one : ℕ) (others all : List ℕ) (n : ℕ) (b : Bool) → (one == place) ≡ b → one_if b + times place others ≡ n + 1 → (times place others ≡ n + 1 → times place all ≤ most_times others all)
    → times place all ≤ most_times (one ∷ others) all
found_by place one others all n true on is later =
    let e : one ≡ place = same one place on in
    let here : times one all ≡ times place all = ap (λ x. times x all) e in
    omega (arith, here)
found_by place one others all n false off is later = rest_most one others all (times place all) (later (omega (arith, is)))

found_most : (place : ℕ) (some all : List ℕ) (n : ℕ) → times place some ≡ n + 1 → times place all ≤ most_times some all
found_most place [] all n is = absurd (omega (arith, is))
found_most place (one ∷ others) all n is = found_by place one others all n (one == place) refl is (λ later. found_most place others all n later)

most_by : (place : ℕ) (all : List ℕ) (n : ℕ) → times place all ≡ n → n ≤ most_times all all
most_by place all zero is = omega arith
most_by place all (suc n) is = let most = found_most place all all n (omega (arith, is)) in omega (arith, most, is)

often_most : (place : ℕ) (slots : List (Option Packet)) → times place (all_entered slots) ≤ most_visits slots
unfolding most_visits
often_most place slots = most_by place (all_entered slots) (times place (all_entered slots)) refl

-- All that is left of a job.
pub job_ends : (rights : List Rights) (plains : ℕ → List Interval) (first : List ℕ) (w j n : ℕ) (start : Start) → JobShort rights plains first w j n start → JobEnds (rights_of rights j) (HasReadOnly rights first) w n (job_start start)
unfolding job_steps
job_ends rights plains first w j n start short =
    let begins = short.begins in
    let within = short.within in
    let room : ℕ = room_of begins.packets in
    let Draws = DrawsSo (rights_of rights j) (HasReadOnly rights first) (LaunchSo (rights_of rights j) (HasReadOnly rights first) (IsShort w)) in
    let none : room - length (job_start start).items ≡ room = omega arith in
    let same_items : (room - length (job_start start).items) * (1 + most_visits begins.slots) ≡ room * (1 + most_visits begins.slots) = ap (λ x. x * (1 + most_visits begins.slots)) none in
    record {
      config = begins.config;
      frame = begins.frame;
      allocates = begins.allocates;
      lists = lists_so rights plains first (LaunchSo (rights_of rights j) (HasReadOnly rights first) (IsShort w)) j start begins
          (walks_so begins.config (DrawShort rights plains first w j) Draws (λ word packet draws kind. draws_so rights plains first (IsShort w) j word packet draws.begins draws.fragment draws.vertex draws.coordinate) nothing_kept begins.packets short.short);
      most = most_visits begins.slots;
      left = (
        begins.packets,
        begins.slots,
        record {
          bin = bin_starts rights plains first j start (DrawShort rights plains first w j) begins short.short;
          render = render_starts rights plains first j start begins;
          most = room;
          room = record { few = omega arith; counted = counted_none begins.config; kept = omega arith; rest = omega arith };
          often = λ tile. (let most = often_most (begins.config.address + 32 * tile) begins.slots in omega (arith, most));
          sum = omega (arith, within, same_items);
        },
      );
    }

each_ends : (rights : List Rights) (plains : ℕ → List Interval) (first : List ℕ) (w k n : ℕ) (starts : List Start) → EachWithin (JobShort rights plains first w) k n starts → EachWithin (CountedEnds (rights_of rights) (HasReadOnly rights first) (λ j. true) w) k n (map job_start starts)
each_ends rights plains first w k n [] all = tt
each_ends rights plains first w k n (start ∷ starts) all = (all.0, (λ own. job_ends rights plains first w k all.0 start all.1), all.2, each_ends rights plains first w (k + 1) (n - all.0) starts all.3)

-- nothing is left of idle processors
pub idle_left : (rights : ℕ → Rights) (K : List ℕ → Type 0) (mine : ℕ → Bool) (k count : ℕ) → EachWithin (QpuLeft rights K mine) k 0 (replicate count idle_qpu)
idle_left rights K mine k zero = tt
idle_left rights K mine k (suc count) = (0, record { firsts = 0; others = 0; first = tt; other = tt; sum = omega arith }, omega arith, idle_left rights K mine (k + 1) count)

pub start_left : (rights : List Rights) (plains : ℕ → List Interval) (first : List ℕ) (w n : ℕ) (starts : List Start) → EachWithin (JobShort rights plains first w) 0 n starts → UnitsLeft (rights_of rights) (HasReadOnly rights first) (λ j. true) w n (units_start starts)
start_left rights plains first w n starts all = record {
  of_jobs = n;
  of_qpus = 0;
  jobs = each_ends rights plains first w 0 n starts all;
  qpus = idle_left (rights_of rights) (HasReadOnly rights first) (λ j. true) 0 12;
  sum = omega arith;
}
