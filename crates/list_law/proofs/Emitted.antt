-- What emission promises is what a fetch and a start need.
use Rattle.std.proofs.Common.{◌≡◌, ◌≤◌, ◌<◌, ◌⊎◌, ℕ, ◌+◌, ◌*◌, ◌/◌, ◌%◌, ◌^◌, ◌==◌, not, Bool, true, false, List, slice_index, if◌then◌else◌, refl, sym, ◌∙◌, ap, subst, arith, rules}
use Rattle.std.proofs.{Math.Nat.mul_comm, Math.Nat.mul-le-mul_right, lemmas.Grind.common_steps, lemmas.Bool.Decides.nat_tests}
use Rattle.field_words.specs.Words.{u32_at}
use Rattle.emitted_facts.specs.Records.{address_word, extension_word, attribute_size, attribute_stride, is_single, code_word, stream_word}
use Rattle.emitted_facts.specs.Facts.{IsAttributeIn, IsIndexedPrimitive, IsArrayPrimitive, IsPrimitive}
use Rattle.packets.specs.StateWord.{attribute_count, is_extended, record_size}
use Rattle.emitted_facts.proofs.Records.{entry_in, extension_in, header_in}
use Rattle.machine_plan.specs.{declared.launch.Launch.Launch, Memory.bytes_at, Regions.Interval, Regions.Inside}
use Rattle.machine_plan.proofs.{Memory.inside_part, Words.byte_read, Words.word_read}
use Rattle.list_machine.specs.declared.state.Program.{Program, TheVariants.Fragment, TheVariants.Vertex, TheVariants.Coordinate}
use Rattle.list_machine.specs.Fetch.{index_size, record_place, attribute_place, extension_place, data_size, stride_of, data_place}
use Rattle.list_machine.specs.{Binner.primitive_of, Start.code_offset, Start.is_threaded}
use Rattle.list_law.specs.Uses.{attribute_at, extension_at, Fetches, program_launched, threaded_by, Programs}
use Rattle.list_law.specs.Emitted.{words_in, RecordLies, NamedInside, IsStateOf, program_in}
use Rattle.list_law.proofs.{Logs.same, Logs.not_same, Words.low_byte, Words.next_byte, Words.low_bit}

pub same_count : (state word : ℕ) → IsStateOf state word → attribute_count state ≡ attribute_count word
unfolding attribute_count
same_count state word is = grind (arith, common_steps, nat_tests)

pub same_extended : (state word : ℕ) → IsStateOf state word → is_extended state ≡ is_extended word
unfolding is_extended
same_extended state word is = ap (λ n. n == 1) (omega (arith, is))

-- What is read of an attribute is what its words say.
address_is : (m : List ℕ) (word t : ℕ) → u32_at (attribute_at m word t) 0 ≡ words_in m word (address_word t)
unfolding attribute_place
address_is m word t = word_read m (record_place word + 36 + 8 * t) 8 (omega arith) ∙ ap (λ p. u32_at m p) (omega arith)

shape_at : (base t : ℕ) → base + 36 + 8 * t + 4 ≡ base + 4 * (10 + 2 * t)
shape_at base t = omega arith

first_fits : (region : List Interval) (m : List ℕ) (word t : ℕ) → RecordLies region m word → t < attribute_count word → slice_index m (record_place word + 36 + 8 * t + 4) < 256
first_fits region m word t stands below =
    subst (λ p. slice_index m p < 256) (omega arith) (stands.bytes (36 + 8 * t + 4) (omega (arith, entry_in word t below)))

second_fits : (region : List Interval) (m : List ℕ) (word t : ℕ) → RecordLies region m word → t < attribute_count word → slice_index m (record_place word + 36 + 8 * t + 4 + 1) < 256
second_fits region m word t stands below =
    subst (λ p. slice_index m p < 256) (omega arith) (stands.bytes (36 + 8 * t + 5) (omega (arith, entry_in word t below)))

size_is : (region : List Interval) (m : List ℕ) (word t : ℕ) → RecordLies region m word → t < attribute_count word → data_size (attribute_at m word t) ≡ attribute_size (words_in m word) t
unfolding data_size attribute_size attribute_place
size_is region m word t stands below = grind (arith, common_steps, nat_tests, low_byte, first_fits, byte_read, shape_at)

extension_by : (m : List ℕ) (word t : ℕ) (b : Bool) → 256 * ((if b then u32_at (bytes_at m (extension_place word t) 4) 0 else 0) / 256) ≡ (if b then 256 * (words_in m word (extension_word t) / 256) else 0)
unfolding extension_place
extension_by m word t b = search (rules, arith, word_read)

stride_is : (region : List Interval) (m : List ℕ) (state word t : ℕ) → RecordLies region m word → IsStateOf state word → t < attribute_count word
    → stride_of (attribute_at m word t) (extension_at m word t) ≡ attribute_stride state (words_in m word) t
unfolding stride_of attribute_stride attribute_place
stride_is region m state word t stands is below =
    let p : ℕ = record_place word + 36 + 8 * t in
    let next : p + 5 ≡ p + 4 + 1 = omega arith in
    let read : slice_index (bytes_at m p 8) 5 ≡ slice_index m (p + 4 + 1) = byte_read m p 8 5 (omega arith) ∙ ap (λ q. slice_index m q) next in
    let high : u32_at m (p + 4) / 256 % 256 ≡ slice_index m (p + 4 + 1) = next_byte m (p + 4) (first_fits region m word t stands below) (second_fits region m word t stands below) in
    let more : 256 * (extension_at m word t / 256) ≡ (if is_extended state then 256 * (words_in m word (extension_word t) / 256) else 0) =
    extension_by m word t (is_extended word) ∙ ap (λ b. if b then 256 * (words_in m word (extension_word t) / 256) else 0) (sym (same_extended state word is)) in
    λ i. (read ∙ sym high ∙ ap (λ q. u32_at m q / 256 % 256) (shape_at (record_place word) t)) i + more i

-- The data of a vertex lie where the words say.
vertex_in : (IsNamed : ℕ → ℕ → Type 0) (region : List Interval) (m : List ℕ) (state word most t index : ℕ) → NamedInside IsNamed region → RecordLies region m word → IsStateOf state word → t < attribute_count word
    → IsAttributeIn IsNamed state (words_in m word) most t → index ≤ most
    → Inside region (data_place (attribute_at m word t) (extension_at m word t) index) (data_size (attribute_at m word t))
unfolding data_place
vertex_in IsNamed region m state word most t index names stands is below attribute few = grind (arith, common_steps, nat_tests, address_is, size_is, stride_is, mul_comm, inside_part)

-- The indexes of a primitive.
wide_by : (b : Bool) (one two : ℕ) → (if not b then two else one) ≡ (if b then one else two)
wide_by b one two = search (rules, arith)

is_indexed : (packet : List ℕ) → (primitive_of packet).indexed ≡ true → slice_index packet 0 ≡ 32
unfolding primitive_of
is_indexed packet on = same (slice_index packet 0) 32 on

is_array : (packet : List ℕ) → (slice_index packet 0 ≡ 32) ⊎ (slice_index packet 0 ≡ 33) → (primitive_of packet).indexed ≡ false → slice_index packet 0 ≡ 33
unfolding primitive_of
is_array packet h1 off = search (rules, arith, not_same)

size_in : (packet : List ℕ) → (primitive_of packet).indexed ≡ true → index_size (primitive_of packet) ≡ (if slice_index packet 1 / 16 == 0 then 1 else 2)
unfolding primitive_of index_size
size_in packet on = search (rules, arith, wide_by)

length_in : (packet : List ℕ) → (primitive_of packet).length ≡ u32_at packet 2
unfolding primitive_of
length_in packet = refl

address_in : (packet : List ℕ) → (primitive_of packet).address ≡ u32_at packet 6
unfolding primitive_of
address_in packet = refl

most_in : (packet : List ℕ) → (primitive_of packet).indexed ≡ true → (primitive_of packet).most ≡ u32_at packet 10
unfolding primitive_of
most_in packet on = ap (λ b. if b then u32_at packet 10 else 0) on

index_in : (IsNamed : ℕ → ℕ → Type 0) (region : List Interval) (packet : List ℕ) (most k : ℕ) → NamedInside IsNamed region → IsIndexedPrimitive IsNamed packet most → (primitive_of packet).indexed ≡ true → k < (primitive_of packet).length
    → Inside region ((primitive_of packet).address + k * index_size (primitive_of packet)) (index_size (primitive_of packet))
index_in IsNamed region packet most k names one on below = search (arith, size_in, mul-le-mul_right, length_in, address_in, inside_part)

array_in : (packet : List ℕ) (most k : ℕ) → IsArrayPrimitive packet most → k < (primitive_of packet).length → ((primitive_of packet).address + k) % 2 ^ 32 ≤ most
array_in packet most k one below = grind (arith, common_steps, nat_tests, length_in, address_in)

-- A primitive that was emitted may be fetched under a record that was emitted for it.
pub emitted_fetches : (IsNamed : ℕ → ℕ → Type 0) (region : List Interval) (m : List ℕ) (state word most : ℕ) (packet : List ℕ)
    → NamedInside IsNamed region → RecordLies region m word → IsStateOf state word
    → ((t : ℕ) → t < attribute_count state → IsAttributeIn IsNamed state (words_in m word) most t)
    → (slice_index packet 0 ≡ 32) ⊎ (slice_index packet 0 ≡ 33) → IsPrimitive IsNamed packet most
    → Fetches region m word (primitive_of packet)
unfolding attribute_place extension_place
emitted_fetches IsNamed region m state word most packet names stands is attributes kinds primitive =
    let counts = same_count state word is in
    let base : ℕ = record_place word in record {
      most = most;
      indexes = λ on k below. index_in IsNamed region packet most k names (primitive.indexed (is_indexed packet on)) on below;
      greatest = λ on.
          omega (arith, (primitive.indexed (is_indexed packet on)).greatest, most_in packet on);
      array = λ off k below. array_in packet most k (primitive.array (is_array packet kinds off)) below;
      entries = λ t below.
          let room = entry_in word t below in
          inside_part region base (record_size word) (base + 36 + 8 * t) 8 stands.inside (omega arith) (omega (arith, room));
      extensions = λ on t below.
          let room = extension_in word t on below in
          inside_part region base (record_size word) (base + 100 + 4 * t) 4 stands.inside (omega arith) (omega (arith, room));
      vertices = λ t below index few. vertex_in IsNamed region m state word most t index names stands is below (attributes t (omega (arith, counts, below))) few;
    }

-- The programs.
pub words_at : (m : List ℕ) (word offset i : ℕ) → offset ≡ 4 * i → u32_at (bytes_at m (record_place word + offset) 4) 0 ≡ words_in m word i
words_at m word offset i is = word_read m (record_place word + offset) 4 (omega arith) ∙ ap (λ n. u32_at m (record_place word + n)) is

pub launched_is : (m : List ℕ) (word : ℕ) (program : Program) (threaded : Bool) (s : ℕ) → code_offset program ≡ 4 * code_word s → code_offset program + 4 ≡ 4 * stream_word s → program_launched m program threaded word ≡ program_in m word threaded s
launched_is m word program threaded s code stream = search (rules, arith, word_read, words_at)

threaded_is : (m : List ℕ) (word : ℕ) → threaded_by m word ≡ not (is_single (words_in m word))
unfolding is_threaded is_single
threaded_is m word = grind (arith, common_steps, nat_tests, byte_read, low_bit)

pub emitted_programs : (region : List Interval) (O : Launch → Type 0) (m : List ℕ) (word : ℕ) → RecordLies region m word
    → O (program_in m word (not (is_single (words_in m word))) 0) → O (program_in m word false 1) → O (program_in m word false 2)
    → Programs region O m word
emitted_programs region O m word stands fragment vertex coordinate =
    let room = header_in word in record {
      header = inside_part region (record_place word) (record_size word) (record_place word) 36 stands.inside (omega arith) (omega (arith, room));
      fragment = subst O (sym (ap (λ b. program_launched m Fragment b word) (threaded_is m word) ∙ launched_is m word Fragment (not (is_single (words_in m word))) 0 (omega arith) (omega arith))) fragment;
      vertex = subst O (sym (launched_is m word Vertex false 1 (omega arith) (omega arith))) vertex;
      coordinate = subst O (sym (launched_is m word Coordinate false 2 (omega arith) (omega arith))) coordinate;
    }
