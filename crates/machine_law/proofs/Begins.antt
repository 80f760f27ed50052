-- What jobs may only read stays: homes, primitives that may be drawn, and the texts of lists. So what jobs begin with is known of their units.
use Rattle.std.proofs.Common.{◌≡◌, ◌≤◌, ◌<◌, ℕ, ◌+◌, ◌-◌, ◌*◌, List, length, ◌∙◌, ap, subst, arith, ◌%◌, ◌==◌, not, Bool, false, refl, sym, [], ◌∷◌, rules}
use Rattle.std.specs.Int.{from_le_bytes, w64}
use Rattle.field_words.specs.{Words.u32_at, Pieces.joined_texts as joined_bytes}
use Rattle.machine_plan.specs.Regions.{Inside, Rights, rights_of, IsOutside, HasReadOnly, Interval}
use Rattle.machine_plan.specs.{Memory.bytes_at, declared.launch.Launch.Launch}
use Rattle.machine_plan.proofs.{Memory.inside_part, Memory.bytes_same, Safe.joined_covers, Words.word_read}
use Rattle.uniform_stream.specs.Stream.{uniforms_of}
use Rattle.qpu_law.specs.{Home.Home, Thread.IsHome}
use Rattle.packets.specs.{StateWord.record_size, Packet.slots_text}
use Rattle.emitted_facts.specs.Records.{address_word, shape_word, extension_word, is_single, code_word, stream_word}
use Rattle.emitted_facts.proofs.Records.{entry_in, extension_in, header_in, same_attribute}
use Rattle.list_machine.specs.{Binner.primitive_of, Fetch.record_place, Lists.lists_start}
use Rattle.list_law.specs.Emitted.{words_in, RecordLies, program_in}
use Rattle.list_law.specs.{Uses.Fetches, Uses.Programs, Binning.DrawsSo, Lists.ListsFine}
use Rattle.list_law.proofs.Emitted.{same_count, same_extended, emitted_fetches, emitted_programs}
use Rattle.list_law.proofs.Start.{lists_begin, walks_so}
use Rattle.bin_walks.specs.Walks.{nothing_kept, Walks}
use Rattle.machine.specs.{declared.job.Start.Start, State.job_start}
use Rattle.machine_law.specs.Begins.{FixedStays, HomesStay, LaunchBegins, DrawBegins, DrawsStay, TextBegins, JobBegins}
use Rattle.promises.specs.Rights.{IsFixed}
use Rattle.machine_law.specs.{Jobs.LaunchFine, Jobs.JobFine, Units.EachAt}

-- a part of what no job may write
pub fixed_inside : (rights : List Rights) (place size q n : ℕ) → IsFixed rights place size → place ≤ q → q + n ≤ place + size → IsFixed rights q n
fixed_inside rights place size q n fixed from upto i below =
    subst (λ p. IsOutside rights p) (omega (arith, from)) (fixed (q - place + i) (omega (arith, from, upto, below)))

pub fixed_stays_law : FixedStays
fixed_stays_law rights first m place size fixed lies has = search (rules, arith, bytes_same, inside_part)

-- it stays, where it lies in a job's region
pub fixed_part : (rights : List Rights) (first m : List ℕ) (j place size q n : ℕ) → IsFixed rights place size → HasReadOnly rights first m → place ≤ q → q + n ≤ place + size → Inside (rights_of rights j).region q n
    → bytes_at m q n ≡ bytes_at first q n
fixed_part rights first m j place size q n fixed has from upto lies = search (rules, arith, fixed_stays_law, fixed_inside, joined_covers)

pub home_stays : (rights : List Rights) (first m : List ℕ) (j : ℕ) (home : Home) → IsFixed rights home.place (8 * length home.code) → IsFixed rights home.stream (4 * uniforms_of home.code) → HasReadOnly rights first m
    → IsHome first (rights_of rights j).region home → IsHome m (rights_of rights j).region home
home_stays rights first m j home code stream has stands = record {
  sound = stands.sound;
  few = stands.few;
  low = stands.low;
  stream_low = stands.stream_low;
  addresses = stands.addresses;
  code_in = stands.code_in;
  code_is = λ i below.
      ap (λ bytes. from_le_bytes w64 bytes) (fixed_part rights first m j home.place (8 * length home.code) (home.place + 8 * i) 8 code has (omega arith) (omega (arith, below)) (stands.code_in i below)) ∙ stands.code_is i below;
  stream_in = stands.stream_in;
  stream_is = λ k below.
      ap (λ bytes. u32_at bytes 0) (fixed_part rights first m j home.stream (4 * uniforms_of home.code) (home.stream + 4 * k) 4 stream has (omega arith) (omega (arith, below)) (stands.stream_in k below)) ∙ stands.stream_is k below;
}

pub homes_stay_law : HomesStay
homes_stay_law rights plains first j home buffers begins = search (rules, arith, home_stays)

-- a word of the record is the first memory's
pub word_stays : (rights : List Rights) (first m : List ℕ) (j word i : ℕ) → RecordLies (rights_of rights j).region first word → IsFixed rights (record_place word) (record_size word) → HasReadOnly rights first m → 4 * i + 4 ≤ record_size word
    → words_in m word i ≡ words_in first word i
word_stays rights first m j word i stands fixed has room =
    let p : ℕ = record_place word + 4 * i in
    let lies = inside_part (rights_of rights j).region (record_place word) (record_size word) p 4 stands.inside (omega arith) (omega (arith, room)) in
    let bytes : bytes_at m p 4 ≡ bytes_at first p 4 = fixed_part rights first m j (record_place word) (record_size word) p 4 fixed has (omega arith) (omega (arith, room)) lies in
    sym (word_read m p 4 (omega arith)) ∙ ap (λ b. u32_at b 0) bytes ∙ word_read first p 4 (omega arith)

pub record_stays : (rights : List Rights) (first m : List ℕ) (j word : ℕ) → IsFixed rights (record_place word) (record_size word) → HasReadOnly rights first m → RecordLies (rights_of rights j).region first word → RecordLies (rights_of rights j).region m word
record_stays rights first m j word fixed has stands = search (rules, arith, inside_part, joined_covers)

-- a program of the record, which may be started
launch_stays : (rights : List Rights) (plains : ℕ → List Interval) (first : List ℕ) (j : ℕ) (launch : Launch) → LaunchBegins rights plains first j launch → LaunchFine rights plains first j launch
launch_stays rights plains first j launch begins = search (rules, arith, homes_stay_law)

program_stays : (rights : List Rights) (plains : ℕ → List Interval) (first m : List ℕ) (j word : ℕ) (threaded there : Bool) (s : ℕ) → threaded ≡ there → words_in m word (code_word s) ≡ words_in first word (code_word s) → words_in m word (stream_word s) ≡ words_in first word (stream_word s)
    → LaunchBegins rights plains first j (program_in first word there s) → LaunchFine rights plains first j (program_in m word threaded s)
program_stays rights plains first m j word threaded there s same code stream begins = search (rules, arith, launch_stays)

pub single_stays : (v w : ℕ → ℕ) → v 0 ≡ w 0 → not (is_single v) ≡ not (is_single w)
unfolding is_single
single_stays v w is = ap (λ n. not (n % 2 == 1)) is

pub fetches_stay : (rights : List Rights) (plains : ℕ → List Interval) (first m : List ℕ) (j word : ℕ) (packet : List ℕ) → DrawBegins rights plains first j word packet → HasReadOnly rights first m → Fetches (rights_of rights j).region m word (primitive_of packet)
fetches_stay rights plains first m j word packet begins has =
    let region = (rights_of rights j).region in
    let state = begins.state in
    let counts = same_count state word begins.is_state in
    let stays : (i : ℕ) → 4 * i + 4 ≤ record_size word → words_in m word i ≡ words_in first word i = λ i room. word_stays rights first m j word i begins.record_lies begins.record_fixed has room in
    emitted_fetches (Inside region) region m state word begins.most packet (λ place size lies. lies) (record_stays rights first m j word begins.record_fixed has begins.record_lies) begins.is_state
    (λ t below.
    let room = entry_in word t (omega (arith, counts, below)) in
    same_attribute (Inside region) state begins.most (words_in m word) (words_in first word) t (stays (address_word t) (omega (arith, room))) (stays (shape_word t) (omega (arith, room)))
    (λ on. stays (extension_word t) (let more = extension_in word t (sym (same_extended state word begins.is_state) ∙ on) (omega (arith, counts, below)) in omega (arith, more)))
    (begins.attributes t below))
    begins.kind begins.primitive

programs_stay : (rights : List Rights) (plains : ℕ → List Interval) (first m : List ℕ) (j word : ℕ) (packet : List ℕ) → DrawBegins rights plains first j word packet → HasReadOnly rights first m → Programs (rights_of rights j).region (LaunchFine rights plains first j) m word
programs_stay rights plains first m j word packet begins has =
    let region = (rights_of rights j).region in
    let room = header_in word in
    let stays : (i : ℕ) → i < 9 → words_in m word i ≡ words_in first word i = λ i below. word_stays rights first m j word i begins.record_lies begins.record_fixed has (omega (arith, room, below)) in
    let single : not (is_single (words_in m word)) ≡ not (is_single (words_in first word)) = single_stays (words_in m word) (words_in first word) (stays 0 (omega arith)) in
    emitted_programs region (LaunchFine rights plains first j) m word (record_stays rights first m j word begins.record_fixed has begins.record_lies)
    (program_stays rights plains first m j word (not (is_single (words_in m word))) (not (is_single (words_in first word))) 0 single (stays 1 (omega arith)) (stays 2 (omega arith)) begins.fragment)
    (program_stays rights plains first m j word false false 1 refl (stays 4 (omega arith)) (stays 5 (omega arith)) begins.vertex)
    (program_stays rights plains first m j word false false 2 refl (stays 7 (omega arith)) (stays 8 (omega arith)) begins.coordinate)

pub draws_stay_law : DrawsStay
draws_stay_law rights plains first j word packet begins = search (rules, arith, fetches_stay, programs_stay)

pub text_stays : (rights : List Rights) (first : List ℕ) (j place : ℕ) (text : List ℕ) → TextBegins rights first j place text → (m : List ℕ) → HasReadOnly rights first m → bytes_at m place (length text) ≡ text
text_stays rights first j place text begins m has = search (rules, arith, fixed_stays_law, joined_covers)

-- A job's lists at their beginnings, where O is so of each program that it starts.
pub lists_so : (rights : List Rights) (plains : ℕ → List Interval) (first : List ℕ) (O : Launch → Type 0) (j : ℕ) (start : Start) → (begins : JobBegins rights plains first j start)
    → Walks begins.config (DrawsSo (rights_of rights j) (HasReadOnly rights first) O) nothing_kept begins.packets → ListsFine (rights_of rights j) (HasReadOnly rights first) O begins.config begins.frame (job_start start)
lists_so rights plains first O j start begins walks =
    let Fine = ListsFine (rights_of rights j) (HasReadOnly rights first) O begins.config begins.frame in
    let all : Fine (lists_start start.bin_place (length (joined_bytes begins.packets)) start.render_place (length (slots_text begins.slots))) =
    lists_begin (rights_of rights j) (HasReadOnly rights first) O begins.config begins.frame start.bin_place start.render_place begins.packets begins.slots
    (record { walks = walks; stands = text_stays rights first j start.bin_place (joined_bytes begins.packets) begins.bin_text; reads = begins.bin_text.reads })
    (record {
      walks = begins.render_walks;
      fit = begins.render_fits;
      sets = begins.render_sets;
      stands = text_stays rights first j start.render_place (slots_text begins.slots) begins.render_text;
      reads = begins.render_text.reads;
    }) in
    let binned : Fine (lists_start start.bin_place start.bin_len start.render_place (length (slots_text begins.slots))) =
    subst (λ n. Fine (lists_start start.bin_place n start.render_place (length (slots_text begins.slots)))) (sym begins.bin_len) all in
    subst (λ n. Fine (lists_start start.bin_place start.bin_len start.render_place n)) (sym begins.render_len) binned

job_begins : (rights : List Rights) (plains : ℕ → List Interval) (first : List ℕ) (j : ℕ) (start : Start) → JobBegins rights plains first j start → JobFine rights plains first j (job_start start)
job_begins rights plains first j start begins =
    let O = LaunchFine rights plains first j in
    record {
      config = begins.config;
      frame = begins.frame;
      allocates = begins.allocates;
      lists =
          lists_so rights plains first O j start begins
          (walks_so begins.config (DrawBegins rights plains first j) (DrawsSo (rights_of rights j) (HasReadOnly rights first) O) (λ word packet draws kind. draws_stay_law rights plains first j word packet draws) nothing_kept begins.packets begins.bin_walks);
    }

pub each_begins : (rights : List Rights) (plains : ℕ → List Interval) (first : List ℕ) (n : ℕ) (starts : List Start) → EachAt (JobBegins rights plains first) n starts → EachAt (λ j start. JobFine rights plains first j (job_start start)) n starts
each_begins rights plains first n [] all = tt
each_begins rights plains first n (start ∷ starts) all = (job_begins rights plains first n start all.0, each_begins rights plains first (n + 1) starts all.1)
