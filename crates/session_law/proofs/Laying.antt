-- A memory table in which no rule is broken: its buffers are whole pages behind the lists' region and the tile slot, and share none.
use Rattle.std.proofs.Common.{◌≡◌, ◌⊎◌, inl, inr, ℕ, zero, suc, ◌+◌, ◌*◌, ◌%◌, ◌^◌, ◌<◌, ◌≤◌, ◌||◌, nat_lt, max, min, false, List, [], ◌∷◌, ◌++◌, length, map, take, slice_index_or, None, arith, refl, sym, ◌∙◌, ap, subst}
use Rattle.std.proofs.{lemmas.Bool.Decides.nat_tests, lemmas.List.append_assoc, lemmas.Nat.from_le_bytes-to_le_bytes_4}
use Rattle.std.specs.{List.flat_map, List.list_any, List.range_with_len, Int.from_le_bytes, Int.w32}
use Rattle.field_words.specs.{Sizes.page_size, Words.u32_at, WordBytes.word}
use Rattle.field_words.specs.Questions.{Question, first_of, each, with_answers}
use Rattle.field_words.proofs.Questions.{passes, answered_none}
use Rattle.buffer_table.specs.Table.{buffer_at, buffer_item, items_of, lists_item, tile_item, item_at, no_item, shares, is_off_page, memory_within, item_questions, all_within, table_questions}
use Rattle.buffer_table.specs.{declared.buffer.Buffer.Buffer, declared.buffer.Kind.Kind, declared.buffer.Regions.Regions}
use Rattle.buffer_table.specs.{declared.buffer.Kind.TheVariants.Plain, declared.buffer.Kind.TheVariants.Code, declared.item.Item.Item}
use Rattle.job_format.specs.{Offsets.entry_offset, Offsets.buffer_count, Text.buffer_text, Text.kind_number}
use Rattle.job_format.specs.Reading.{kind_of, entry_at, buffers_at, regions_at, file_at}
use Rattle.job_check.specs.Faults.{table_refused, table_stage, table_stage_within}
use Rattle.session_pages.specs.Map.{first_place, memory_size}
use Rattle.job_session.specs.Submit.{header_of}
use Rattle.places_law.proofs.Words.{read_past, drop_past}
use Rattle.job_format.proofs.Only.{buffer_long}

-- a buffer of whole pages behind the tile slot
pub record IsWellPlaced (b : Buffer) : Type 0 where
  pub place : b.place % page_size ≡ 0
  pub size : b.size % page_size ≡ 0
  pub some : 1 ≤ b.size
  pub low : first_place ≤ b.place
  pub inside : b.place + b.size ≤ memory_size
  pub content : b.content ≤ b.size
  pub client : b.client < 8

abbrev pub AreApart : Buffer → Buffer → Type 0
AreApart x y = (x.place + x.size ≤ y.place) ⊎ (y.place + y.size ≤ x.place)

abbrev pub ApartFrom : Buffer → List Buffer → Type 0
ApartFrom b [] = Unit {0}
ApartFrom b (other ∷ others) = AreApart b other × ApartFrom b others

abbrev pub AreLaid : List Buffer → Type 0
AreLaid [] = Unit {0}
AreLaid (b ∷ buffers) = IsWellPlaced b × ApartFrom b buffers × AreLaid buffers

-- by index
well_at : (buffers : List Buffer) (i : ℕ) → AreLaid buffers → i < length buffers → IsWellPlaced (buffer_at buffers i)
unfolding buffer_at
well_at [] i laid below = absurd (omega (arith, below))
well_at (b ∷ buffers) zero laid below = laid.0
well_at (b ∷ buffers) (suc i) laid below = well_at buffers i laid.2 (omega (arith, below))

apart_from_at : (b : Buffer) (buffers : List Buffer) (i : ℕ) → ApartFrom b buffers → i < length buffers → AreApart b (buffer_at buffers i)
unfolding buffer_at
apart_from_at b [] i apart below = absurd (omega (arith, below))
apart_from_at b (other ∷ others) zero apart below = apart.0
apart_from_at b (other ∷ others) (suc i) apart below = apart_from_at b others i apart.1 (omega (arith, below))

apart_at : (buffers : List Buffer) (j i : ℕ) → AreLaid buffers → j < i → i < length buffers → AreApart (buffer_at buffers j) (buffer_at buffers i)
unfolding buffer_at
apart_at [] j i laid before below = absurd (omega (arith, below))
apart_at (b ∷ buffers) j zero laid before below = absurd (omega (arith, before))
apart_at (b ∷ buffers) zero (suc i) laid before below = apart_from_at b buffers i laid.1 (omega (arith, below))
apart_at (b ∷ buffers) (suc j) (suc i) laid before below = apart_at buffers j i laid.2 (omega (arith, before)) (omega (arith, below))

-- no byte is shared
not_shared : (x y : Item) → (x.place + x.size ≤ y.place) ⊎ (y.place + y.size ≤ x.place) → shares x y ≡ false
unfolding shares
not_shared x y (inl below) =
    let e : min (x.place + x.size) (y.place + y.size) ≤ max x.place y.place = omega (arith, below) in grind (arith, nat_tests, e)
not_shared x y (inr above) =
    let e : min (x.place + x.size) (y.place + y.size) ≤ max x.place y.place = omega (arith, above) in grind (arith, nat_tests, e)

turned : (x y : Buffer) → AreApart x y → AreApart y x
turned x y (inl below) = inr below
turned x y (inr above) = inl above

earlier_none : (x : Buffer) (buffers : List Buffer) (n : ℕ) → n ≤ length buffers → ((j : ℕ) → j < n → AreApart (buffer_at buffers j) x)
    → list_any (shares (buffer_item x)) (take n (map buffer_item buffers)) ≡ false
unfolding buffer_at
earlier_none x buffers zero few apart = refl
earlier_none x [] (suc n) few apart = absurd (omega (arith, few))
earlier_none x (b ∷ buffers) (suc n) few apart =
    let here = not_shared (buffer_item x) (buffer_item b) (turned b x (apart 0 (omega arith))) in
    let later = earlier_none x buffers n (omega (arith, few)) (λ j below. apart (suc j) (omega (arith, below))) in
    rw (here, later) refl

-- the regions of a session's files
abbrev pub regions : Regions
regions = record { lists_place = 0; lists_size = 4194304; tile_place = 4194304; tile_slots = 1 }

item_is : (buffers : List Buffer) (i : ℕ) → i < length buffers → slice_index_or (map buffer_item buffers) i no_item ≡ buffer_item (buffer_at buffers i)
unfolding buffer_at
item_is [] i below = absurd (omega (arith, below))
item_is (b ∷ buffers) zero below = refl
item_is (b ∷ buffers) (suc i) below = item_is buffers i (omega (arith, below))

on_page : (x : Buffer) → IsWellPlaced x → is_off_page (buffer_item x) ≡ false
unfolding is_off_page
on_page x well =
    let place = well.place in
    let size = well.size in
    let some = well.some in
    grind (arith, nat_tests, place, size, some)

-- no rule is broken by this item, with those before it
record IsQuiet (before : List Item) (x : Item) : Type 0 where
  page : is_off_page x ≡ false
  end : nat_lt memory_size (x.place + x.size) ≡ false
  shared : list_any (shares x) before ≡ false
  full : nat_lt x.size x.content ≡ false

quiet_buffer : (buffers : List Buffer) (i : ℕ) → AreLaid buffers → i < length buffers
    → IsQuiet (take (suc (suc i)) (items_of regions buffers)) (buffer_item (buffer_at buffers i))
quiet_buffer buffers i laid below =
    let well : IsWellPlaced (buffer_at buffers i) = well_at buffers i laid below in
    let inside = well.inside in
    let low = well.low in
    let content = well.content in
    let lists = not_shared (buffer_item (buffer_at buffers i)) (lists_item regions) (inr (omega (arith, low))) in
    let tiles = not_shared (buffer_item (buffer_at buffers i)) (tile_item regions) (inr (omega (arith, low))) in
    let others = earlier_none (buffer_at buffers i) buffers i (omega (arith, below)) (λ j before. apart_at buffers j i laid before below) in
    record {
      page = on_page (buffer_at buffers i) well;
      end = grind (arith, nat_tests, inside);
      shared = λ p. lists p || (tiles p || others p);
      full = grind (arith, nat_tests, content);
    }

buffer_none : (buffers : List Buffer) (i : ℕ) → AreLaid buffers → i < length buffers
    → first_of (item_questions memory_size (items_of regions buffers) (suc (suc i))) ≡ None
unfolding item_questions
buffer_none buffers i laid below =
    let quiet : IsQuiet (take (suc (suc i)) (items_of regions buffers)) (item_at (items_of regions buffers) (suc (suc i))) =
    subst (λ (x : Item). IsQuiet (take (suc (suc i)) (items_of regions buffers)) x) (sym (item_is buffers i below)) (quiet_buffer buffers i laid below) in
    rw (quiet.page, quiet.end, quiet.shared, quiet.full) refl

item_none : (buffers : List Buffer) (k : ℕ) → AreLaid buffers → k < length (items_of regions buffers)
    → first_of (item_questions memory_size (items_of regions buffers) k) ≡ None
unfolding item_questions is_off_page shares
item_none buffers zero laid below = refl
item_none buffers (suc zero) laid below = refl
item_none buffers (suc (suc i)) laid below = buffer_none buffers i laid (omega (arith, below, items_long buffers))
  where
    items_long : (buffers : List Buffer) → length (map buffer_item buffers) ≡ length buffers
    items_long [] = refl
    items_long (b ∷ buffers) = ap (λ (n : ℕ). suc n) (items_long buffers)

each_none : {F : Type 0} (questions : ℕ → List (Question F)) (from n : ℕ) → ((k : ℕ) → from ≤ k → k < from + n → first_of (questions k) ≡ None)
    → first_of (each questions from n) ≡ None
unfolding each
each_none questions from zero none = refl
each_none questions from (suc n) none =
    passes (questions from) (each questions (from + 1) n) (none from (omega arith) (omega arith))
    ∙ each_none questions (from + 1) n (λ k low high. none k (omega arith) (omega arith))

table_none : (buffers : List Buffer) → AreLaid buffers → first_of (table_questions memory_size regions buffers) ≡ None
unfolding all_within memory_within
table_none buffers laid =
    each_none (item_questions memory_size (items_of regions buffers)) 0 (length (items_of regions buffers))
    (λ k low high. item_none buffers k laid (omega (arith, high)))

-- the entries are read back
word_back : (n : ℕ) → n < 2 ^ 32 → from_le_bytes w32 (word n) ≡ n
word_back n small = from_le_bytes-to_le_bytes_4 n small

kind_back : (kind : Kind) → kind_of (from_le_bytes w32 (word (kind_number kind))) ≡ kind
kind_back Plain = refl
kind_back Code = refl

small_number : (n : ℕ) → n ≤ memory_size → n < 2 ^ 32
small_number n few = omega (arith, few)

entry_back : (b : Buffer) (rest : List ℕ) → IsWellPlaced b → entry_at (buffer_text b ++ rest) 0 ≡ b
unfolding entry_at u32_at buffer_text
entry_back b rest well =
    let inside = well.inside in
    let content = well.content in
    let client = well.client in
    let place = word_back b.place (small_number b.place (omega (arith, inside))) in
    let size = word_back b.size (small_number b.size (omega (arith, inside))) in
    let owner = word_back b.client (small_number b.client (omega (arith, client))) in
    let kind = kind_back b.kind in
    let bytes = word_back b.content (small_number b.content (omega (arith, inside, content))) in
    λ p. record { place = place p; size = size p; client = owner p; kind = kind p; content = bytes p }

word_past : (m k : ℕ) (one two : List ℕ) → length one ≡ m → u32_at (one ++ two) (m + k) ≡ u32_at two k
unfolding u32_at
word_past m k one two long = ap (from_le_bytes w32) (drop_past m k one two long)

entry_past : (m k : ℕ) (one two : List ℕ) → length one ≡ m → entry_at (one ++ two) (m + k) ≡ entry_at two k
unfolding entry_at
entry_past m k one two long =
    let place = word_past m k one two long in
    let size = read_past m k 4 one two long in
    let client = read_past m k 8 one two long in
    let kind = read_past m k 12 one two long in
    let content = read_past m k 16 one two long in
    λ p. record { place = place p; size = size p; client = client p; kind = kind_of (kind p); content = content p }

entries_back : (buffers : List Buffer) (tail : List ℕ) (i : ℕ) → AreLaid buffers → i < length buffers
    → entry_at (flat_map buffer_text buffers ++ tail) (20 * i) ≡ buffer_at buffers i
unfolding buffer_at
entries_back [] tail i laid below = absurd (omega (arith, below))
entries_back (b ∷ buffers) tail zero laid below =
    rw (append_assoc (buffer_text b) (flat_map buffer_text buffers) tail) (entry_back b (flat_map buffer_text buffers ++ tail) laid.0)
entries_back (b ∷ buffers) tail (suc i) laid below =
    let e : 20 + 20 * i ≡ 20 * suc i = omega arith in
    rw (append_assoc (buffer_text b) (flat_map buffer_text buffers) tail)
    (ap (λ (at : ℕ). entry_at (buffer_text b ++ (flat_map buffer_text buffers ++ tail)) at) (sym e)
    ∙ (entry_past 20 (20 * i) (buffer_text b) (flat_map buffer_text buffers ++ tail) (buffer_long b)
    ∙ entries_back buffers tail i laid.2 (omega (arith, below))))

range_is : (read : ℕ → Buffer) (from : ℕ) (buffers : List Buffer) → ((i : ℕ) → i < length buffers → read (from + i) ≡ buffer_at buffers i)
    → map read (range_with_len from (length buffers)) ≡ buffers
unfolding buffer_at
range_is read from [] same = refl
range_is read from (b ∷ buffers) same =
    let start : from + 0 ≡ from = omega arith in
    let here : read from ≡ b = ap read (sym start) ∙ same 0 (omega arith) in
    let later = range_is read (from + 1) buffers (λ i below.
    let e : from + 1 + i ≡ from + suc i = omega arith in ap read e ∙ same (suc i) (omega (arith, below))) in
    λ p. here p ∷ later p

pub header_long : (n : ℕ) → length (header_of n) ≡ 36
header_long n = refl

-- the file of a session's submit
abbrev pub file_with : List Buffer → List ℕ → List ℕ
file_with buffers tail = header_of (length buffers) ++ (flat_map buffer_text buffers ++ tail)

pub head_count : (n : ℕ) → n ≤ 64 → buffer_count (header_of n) ≡ n
unfolding u32_at
head_count n few = word_back n (omega (arith, few))

pub count_back : (n : ℕ) (rest : List ℕ) → n ≤ 64 → buffer_count (header_of n ++ rest) ≡ n
unfolding u32_at
count_back n rest few = word_back n (omega (arith, few))

pub buffers_back : (buffers : List Buffer) (tail : List ℕ) → AreLaid buffers → length buffers ≤ 64
    → buffers_at (file_with buffers tail) (buffer_count (file_with buffers tail)) ≡ buffers
unfolding buffers_at
buffers_back buffers tail laid few =
    ap (λ (n : ℕ). map (λ b. entry_at (file_with buffers tail) (entry_offset b)) (range_with_len 0 n)) (count_back (length buffers) (flat_map buffer_text buffers ++ tail) few)
    ∙ range_is (λ b. entry_at (file_with buffers tail) (entry_offset b)) 0 buffers
    (λ i below.
    let e : 0 + i ≡ i = omega arith in
    ap (λ (k : ℕ). entry_at (file_with buffers tail) (entry_offset k)) e
    ∙ (entry_past 36 (20 * i) (header_of (length buffers)) (flat_map buffer_text buffers ++ tail) (header_long (length buffers))
    ∙ entries_back buffers tail i laid below))

pub regions_back : (n : ℕ) (rest : List ℕ) → regions_at (header_of n ++ rest) ≡ regions
unfolding regions_at u32_at
regions_back n rest = refl

pub size_back : (n : ℕ) (rest : List ℕ) → u32_at (header_of n ++ rest) 8 ≡ memory_size
unfolding u32_at
size_back n rest = refl

pub table_passes : (buffers : List Buffer) (tail : List ℕ) → AreLaid buffers → length buffers ≤ 64 → first_of (table_stage (file_at (file_with buffers tail))) ≡ None
unfolding table_stage_within file_at
table_passes buffers tail laid few =
    let size = size_back (length buffers) (flat_map buffer_text buffers ++ tail) in
    let places = regions_back (length buffers) (flat_map buffer_text buffers ++ tail) in
    let entries = buffers_back buffers tail laid few in
    (λ p. first_of (with_answers table_refused (table_questions (size p) (places p) (entries p))))
    ∙ answered_none table_refused (table_questions memory_size regions buffers) (table_none buffers laid)
