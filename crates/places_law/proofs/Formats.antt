-- The rules of the format read no place, and what a file holds beside its buffers' places is the same.
use Rattle.std.proofs.Common.{◌≡◌, ℕ, zero, suc, ◌+◌, ◌*◌, ◌<◌, ◌≤◌, ◌==◌, nat_lt, List, [], ◌∷◌, ◌++◌, map, take, drop, slice_index, inl, inr, arith, refl, sym, ◌∙◌, ap}
use Rattle.std.proofs.lemmas.{List.get_or-drop, Bool.cases_lt}
use Rattle.std.specs.{List.range_with_len, Int.from_le_bytes, Int.w16, Int.w32}
use Rattle.field_words.specs.{Words.u16_at, Words.u32_at, Questions.Question, Questions.Ask, Questions.each}
use Rattle.buffer_table.specs.declared.buffer.Buffer.{Buffer}
use Rattle.job_format.specs.Offsets.{job_size, version_in, buffer_count, job_count, entry_offset, job_offset, job_word, content_size, content_offset, handles_offset, bin_offset, records_offset, uniforms_offset, end_offset}
use Rattle.job_format.specs.Reading.{bytes_cut, kind_of, regions_at, entry_at, surface_at, frame_at, words_at, buffers_at, contents_at, job_at, jobs_at, file_at}
use Rattle.job_format.specs.Faults.{fault, header_questions, entry_questions, job_entry_questions, buffer_questions, job_questions, content_questions, parts_questions, end_questions, format_questions}
use Rattle.job_format.specs.declared.rule.FormatRule.TheVariants.{EndsEarly, BytesFollow}
use Rattle.job_format.specs.declared.rule.Part.TheVariants.{File, Header, Entry, JobEntry, Contents, Handles, BinnerList, Records, Uniforms}
use Rattle.job_format.specs.{declared.rule.Part.Part, declared.rule.Place.Place, Places.start_of, Places.offset_of}
use Rattle.places_law.specs.Moved.{placeless, with_buffers}
use Rattle.places_law.proofs.Words.{SameEntry, ReadAlike}

-- what stands behind the entries
word_far : (a b : List ℕ) (n at c : ℕ) → ReadAlike a b n → entry_offset n ≤ at → u32_at a (at + c) ≡ u32_at b (at + c)
unfolding u32_at
word_far a b n at c alike past = ap (from_le_bytes w32) (alike.behind (at + c) (omega (arith, past)))

word_here : (a b : List ℕ) (n at : ℕ) → ReadAlike a b n → entry_offset n ≤ at → u32_at a at ≡ u32_at b at
unfolding u32_at
word_here a b n at alike past = ap (from_le_bytes w32) (alike.behind at past)

half_far : (a b : List ℕ) (n at c : ℕ) → ReadAlike a b n → entry_offset n ≤ at → u16_at a (at + c) ≡ u16_at b (at + c)
unfolding u16_at
half_far a b n at c alike past = ap (from_le_bytes w16) (alike.behind (at + c) (omega (arith, past)))

byte_from : (a : List ℕ) (at : ℕ) → slice_index (drop at a) 0 ≡ slice_index a at
byte_from a at = get_or-drop {A = ℕ} at a 0 0 ∙ (let e : at + 0 ≡ at = omega arith in ap (λ (k : ℕ). slice_index a k) e)

byte_far : (a b : List ℕ) (n at c : ℕ) → ReadAlike a b n → entry_offset n ≤ at → slice_index a (at + c) ≡ slice_index b (at + c)
byte_far a b n at c alike past =
    sym (byte_from a (at + c))
    ∙ (ap (λ (rest : List ℕ). slice_index rest 0) (alike.behind (at + c) (omega (arith, past))) ∙ byte_from b (at + c))

cut_far : (a b : List ℕ) (n at size : ℕ) → ReadAlike a b n → entry_offset n ≤ at → bytes_cut a at size ≡ bytes_cut b at size
cut_far a b n at size alike past = ap (take size) (alike.behind at past)

-- the numbers in the header
version_same : (a b : List ℕ) (n : ℕ) → ReadAlike a b n → version_in a ≡ version_in b
version_same a b n alike = alike.header 4 (omega arith)

count_same : (a b : List ℕ) (n : ℕ) → ReadAlike a b n → buffer_count a ≡ buffer_count b
count_same a b n alike = alike.header 28 (omega arith)

jobs_same : (a b : List ℕ) (n : ℕ) → ReadAlike a b n → job_count a ≡ job_count b
jobs_same a b n alike = alike.header 32 (omega arith)

-- two lists have the same rules of each item, by index
each_below : {F : Type 0} (one other : ℕ → List (Question F)) (from n : ℕ) → ((k : ℕ) → from ≤ k → k < from + n → one k ≡ other k) → each one from n ≡ each other from n
unfolding each
each_below one other from zero same = refl
each_below one other from (suc n) same =
    let here = same from (omega arith) (omega arith) in
    let later = each_below one other (from + 1) n (λ k low high. same k (omega arith) (omega arith)) in
    λ p. here p ++ later p

range_same : {A : Type 0} (one other : ℕ → A) (from n : ℕ) → ((k : ℕ) → from ≤ k → k < from + n → one k ≡ other k)
    → map one (range_with_len from n) ≡ map other (range_with_len from n)
range_same one other from zero same = refl
range_same one other from (suc n) same =
    let here = same from (omega arith) (omega arith) in
    let later = range_same one other (from + 1) n (λ k low high. same k (omega arith) (omega arith)) in
    λ p. here p ∷ later p

placeless_range : (one other : ℕ → Buffer) (from n : ℕ) → ((k : ℕ) → from ≤ k → k < from + n → placeless (one k) ≡ placeless (other k))
    → map placeless (map one (range_with_len from n)) ≡ map placeless (map other (range_with_len from n))
placeless_range one other from zero same = refl
placeless_range one other from (suc n) same =
    let here = same from (omega arith) (omega arith) in
    let later = placeless_range one other (from + 1) n (λ k low high. same k (omega arith) (omega arith)) in
    λ p. here p ∷ later p

-- where things stand
job_offset_same : (a b : List ℕ) (n : ℕ) → ReadAlike a b n → (j : ℕ) → job_offset a j ≡ job_offset b j
job_offset_same a b n alike j = ap (λ (k : ℕ). entry_offset k + job_size * j) (count_same a b n alike)

job_past : (a b : List ℕ) (n : ℕ) → ReadAlike a b n → (j : ℕ) → entry_offset n ≤ job_offset a j
job_past a b n alike j = omega (arith, alike.count)

job_word_same : (a b : List ℕ) (n : ℕ) → ReadAlike a b n → (j k : ℕ) → job_word a j k ≡ job_word b j k
job_word_same a b n alike j k =
    word_far a b n (job_offset a j) k alike (job_past a b n alike j)
    ∙ ap (λ (at : ℕ). u32_at b (at + k)) (job_offset_same a b n alike j)

content_size_same : (a b : List ℕ) (n : ℕ) → ReadAlike a b n → (i : ℕ) → content_size a i ≡ content_size b i
content_size_same a b n alike i =
    elim (cases_lt i n) [
      | inl below ↦ (alike.entries i below).content
      | inr past ↦ word_far a b n (entry_offset i) 16 alike (omega (arith, past))
    ]

content_offset_same : (a b : List ℕ) (n : ℕ) → ReadAlike a b n → (i : ℕ) → content_offset a i ≡ content_offset b i
unfolding content_offset
content_offset_same a b n alike zero =
    job_offset_same a b n alike (job_count a) ∙ ap (λ (j : ℕ). job_offset b j) (jobs_same a b n alike)
content_offset_same a b n alike (suc i) =
    let before = content_offset_same a b n alike i in
    let size = content_size_same a b n alike i in
    λ p. before p + size p

content_past : (a b : List ℕ) (n : ℕ) → ReadAlike a b n → (i : ℕ) → entry_offset n ≤ content_offset a i
unfolding content_offset
content_past a b n alike zero = job_past a b n alike (job_count a)
content_past a b n alike (suc i) = omega (arith, content_past a b n alike i)

handles_offset_same : (a b : List ℕ) (n : ℕ) → ReadAlike a b n → (j : ℕ) → handles_offset a j ≡ handles_offset b j
unfolding handles_offset
handles_offset_same a b n alike zero =
    ap (λ (k : ℕ). content_offset a k) alike.count
    ∙ (content_offset_same a b n alike n ∙ ap (λ (k : ℕ). content_offset b k) (sym alike.count ∙ count_same a b n alike))
handles_offset_same a b n alike (suc j) =
    let before = handles_offset_same a b n alike j in
    let handles = job_word_same a b n alike j 8 in
    let bin = job_word_same a b n alike j 12 in
    let records = job_word_same a b n alike j 16 in
    let uniforms = job_word_same a b n alike j 24 in
    λ p. before p + 4 * handles p + bin p + records p + uniforms p

handles_past : (a b : List ℕ) (n : ℕ) → ReadAlike a b n → (j : ℕ) → entry_offset n ≤ handles_offset a j
unfolding handles_offset
handles_past a b n alike zero = content_past a b n alike (buffer_count a)
handles_past a b n alike (suc j) = omega (arith, handles_past a b n alike j)

bin_offset_same : (a b : List ℕ) (n : ℕ) → ReadAlike a b n → (j : ℕ) → bin_offset a j ≡ bin_offset b j
unfolding bin_offset
bin_offset_same a b n alike j =
    let before = handles_offset_same a b n alike j in
    let size = job_word_same a b n alike j 8 in
    λ p. before p + 4 * size p

bin_past : (a b : List ℕ) (n : ℕ) → ReadAlike a b n → (j : ℕ) → entry_offset n ≤ bin_offset a j
unfolding bin_offset
bin_past a b n alike j = omega (arith, handles_past a b n alike j)

records_offset_same : (a b : List ℕ) (n : ℕ) → ReadAlike a b n → (j : ℕ) → records_offset a j ≡ records_offset b j
unfolding records_offset
records_offset_same a b n alike j =
    let before = bin_offset_same a b n alike j in
    let size = job_word_same a b n alike j 12 in
    λ p. before p + size p

records_past : (a b : List ℕ) (n : ℕ) → ReadAlike a b n → (j : ℕ) → entry_offset n ≤ records_offset a j
unfolding records_offset
records_past a b n alike j = omega (arith, bin_past a b n alike j)

uniforms_offset_same : (a b : List ℕ) (n : ℕ) → ReadAlike a b n → (j : ℕ) → uniforms_offset a j ≡ uniforms_offset b j
unfolding uniforms_offset
uniforms_offset_same a b n alike j =
    let before = records_offset_same a b n alike j in
    let size = job_word_same a b n alike j 16 in
    λ p. before p + size p

uniforms_past : (a b : List ℕ) (n : ℕ) → ReadAlike a b n → (j : ℕ) → entry_offset n ≤ uniforms_offset a j
unfolding uniforms_offset
uniforms_past a b n alike j = omega (arith, records_past a b n alike j)

end_offset_same : (a b : List ℕ) (n : ℕ) → ReadAlike a b n → (j : ℕ) → end_offset a j ≡ end_offset b j
unfolding end_offset
end_offset_same a b n alike j =
    let before = uniforms_offset_same a b n alike j in
    let size = job_word_same a b n alike j 24 in
    λ p. before p + size p

start_same : (a b : List ℕ) (n : ℕ) → ReadAlike a b n → (part : Part) (i : ℕ) → start_of a part i ≡ start_of b part i
start_same a b n alike File i = refl
start_same a b n alike Header i = refl
start_same a b n alike Entry i = refl
start_same a b n alike JobEntry j = job_offset_same a b n alike j
start_same a b n alike Contents i = content_offset_same a b n alike i
start_same a b n alike Handles j = handles_offset_same a b n alike j
start_same a b n alike BinnerList j = bin_offset_same a b n alike j
start_same a b n alike Records j = records_offset_same a b n alike j
start_same a b n alike Uniforms j = uniforms_offset_same a b n alike j

pub offset_same : (a b : List ℕ) (n : ℕ) → ReadAlike a b n → (place : Place) → offset_of a place ≡ offset_of b place
offset_same a b n alike place = ap (λ (start : ℕ). start + place.at) (start_same a b n alike place.part place.index)

-- the rules of each part
header_same : (a b : List ℕ) (n : ℕ) → ReadAlike a b n → header_questions a ≡ header_questions b
unfolding header_questions
header_same a b n alike =
    rw (alike.long, alike.header 0 (omega arith), version_same a b n alike, count_same a b n alike, jobs_same a b n alike, alike.header 24 (omega arith)) refl

buffer_questions_same : (a b : List ℕ) (n : ℕ) → ReadAlike a b n → (i : ℕ) → i < n → buffer_questions a i ≡ buffer_questions b i
unfolding buffer_questions entry_questions
buffer_questions_same a b n alike i below =
    let entry = alike.entries i below in
    rw (alike.long, entry.kind, entry.content) refl

job_entry_same : (a b : List ℕ) (n j at : ℕ) → ReadAlike a b n → entry_offset n ≤ at → job_entry_questions a j at ≡ job_entry_questions b j at
unfolding job_entry_questions
job_entry_same a b n j at alike past =
    rw (
      alike.long,
      version_same a b n alike,
      word_far a b n at 4 alike past,
      word_far a b n at 8 alike past,
      word_far a b n at 12 alike past,
      word_far a b n at 16 alike past,
      word_far a b n at 20 alike past,
      word_far a b n at 24 alike past,
      byte_far a b n at 121 alike past,
      byte_far a b n at 122 alike past,
      byte_far a b n at 123 alike past,
    ) refl

job_questions_same : (a b : List ℕ) (n : ℕ) → ReadAlike a b n → (j : ℕ) → job_questions a j ≡ job_questions b j
unfolding job_questions
job_questions_same a b n alike j =
    job_entry_same a b n j (job_offset a j) alike (job_past a b n alike j)
    ∙ ap (λ (at : ℕ). job_entry_questions b j at) (job_offset_same a b n alike j)

content_questions_same : (a b : List ℕ) (n : ℕ) → ReadAlike a b n → (i : ℕ) → i < n → content_questions a i ≡ content_questions b i
unfolding content_questions
content_questions_same a b n alike i below =
    let at = content_offset_same a b n alike i in
    let size = (alike.entries i below).content in
    let long = alike.long in
    λ p. Ask (nat_lt (long p) (at p + size p)) (fault EndsEarly Contents i 0) ∷ []

parts_questions_same : (a b : List ℕ) (n : ℕ) → ReadAlike a b n → (j : ℕ) → parts_questions a j ≡ parts_questions b j
unfolding parts_questions
parts_questions_same a b n alike j =
    let long = alike.long in
    let bin = bin_offset_same a b n alike j in
    let records = records_offset_same a b n alike j in
    let uniforms = uniforms_offset_same a b n alike j in
    let ends = end_offset_same a b n alike j in
    λ p. Ask (nat_lt (long p) (bin p)) (fault EndsEarly Handles j 0)
    ∷ (Ask (nat_lt (long p) (records p)) (fault EndsEarly BinnerList j 0)
    ∷ (Ask (nat_lt (long p) (uniforms p)) (fault EndsEarly Records j 0)
    ∷ (Ask (nat_lt (long p) (ends p)) (fault EndsEarly Uniforms j 0) ∷ [])))

end_questions_same : (a b : List ℕ) (n : ℕ) → ReadAlike a b n → end_questions a ≡ end_questions b
unfolding end_questions
end_questions_same a b n alike =
    let long = alike.long in
    let at = handles_offset_same a b n alike (job_count a) ∙ ap (λ (j : ℕ). handles_offset b j) (jobs_same a b n alike) in
    λ p. Ask (nat_lt (at p) (long p)) (fault BytesFollow File 0 (at p)) ∷ []

counted_same : {F : Type 0} (one other : ℕ → List (Question F)) (n m k : ℕ) → n ≡ m → m ≡ k → ((i : ℕ) → i < m → one i ≡ other i) → each one 0 n ≡ each other 0 k
counted_same one other n m k first second same =
    ap (λ (c : ℕ). each one 0 c) first ∙ (each_below one other 0 m (λ i low high. same i (omega (arith, high))) ∙ ap (λ (c : ℕ). each other 0 c) second)

pub format_same : (a b : List ℕ) (n : ℕ) → ReadAlike a b n → format_questions a ≡ format_questions b
unfolding format_questions
format_same a b n alike =
    let header = header_same a b n alike in
    let counts = sym alike.count ∙ count_same a b n alike in
    let buffers = counted_same (buffer_questions a) (buffer_questions b) (buffer_count a) n (buffer_count b) alike.count counts (buffer_questions_same a b n alike) in
    let jobs = counted_same (job_questions a) (job_questions b) (job_count a) (job_count a) (job_count b) refl (jobs_same a b n alike) (λ j below. job_questions_same a b n alike j) in
    let contents = counted_same (content_questions a) (content_questions b) (buffer_count a) n (buffer_count b) alike.count counts (content_questions_same a b n alike) in
    let parts = counted_same (parts_questions a) (parts_questions b) (job_count a) (job_count a) (job_count b) refl (jobs_same a b n alike) (λ j below. parts_questions_same a b n alike j) in
    let ends = end_questions_same a b n alike in
    λ p. header p ++ (buffers p ++ (jobs p ++ (contents p ++ (parts p ++ ends p))))

-- what the file holds
regions_same : (a b : List ℕ) (n : ℕ) → ReadAlike a b n → regions_at a ≡ regions_at b
unfolding regions_at
regions_same a b n alike =
    let lists = alike.header 12 (omega arith) in
    let size = alike.header 16 (omega arith) in
    let tile = alike.header 20 (omega arith) in
    let slots = alike.header 24 (omega arith) in
    λ p. record { lists_place = lists p; lists_size = size p; tile_place = tile p; tile_slots = slots p }

surface_same : (a b : List ℕ) (n at : ℕ) → ReadAlike a b n → entry_offset n ≤ at → surface_at a at ≡ surface_at b at
unfolding surface_at
surface_same a b n at alike past =
    let handle = word_here a b n at alike past in
    let offset = word_far a b n at 4 alike past in
    let bits = half_far a b n at 8 alike past in
    let flags = half_far a b n at 10 alike past in
    λ p. record { hindex = handle p; offset = offset p; bits = bits p; flags = flags p }

surface_far : (a b : List ℕ) (n at c : ℕ) → ReadAlike a b n → entry_offset n ≤ at → surface_at a (at + c) ≡ surface_at b (at + c)
surface_far a b n at c alike past = surface_same a b n (at + c) alike (omega (arith, past))

frame_same : (a b : List ℕ) (n at : ℕ) → ReadAlike a b n → entry_offset n ≤ at → frame_at a at ≡ frame_at b at
unfolding frame_at
frame_same a b n at alike past =
    let width = half_far a b n at 28 alike past in
    let height = half_far a b n at 30 alike past in
    let min_x = byte_far a b n at 32 alike past in
    let min_y = byte_far a b n at 33 alike past in
    let max_x = byte_far a b n at 34 alike past in
    let max_y = byte_far a b n at 35 alike past in
    let first = surface_far a b n at 36 alike past in
    let second = surface_far a b n at 48 alike past in
    let third = surface_far a b n at 60 alike past in
    let fourth = surface_far a b n at 72 alike past in
    let fifth = surface_far a b n at 84 alike past in
    let sixth = surface_far a b n at 96 alike past in
    let clear = word_far a b n at 4 alike past in
    let color = word_far a b n at 108 alike past in
    let other = word_far a b n at 112 alike past in
    let depth = word_far a b n at 116 alike past in
    let stencil = byte_far a b n at 120 alike past in
    λ p. record {
      width = width p;
      height = height p;
      min_x = min_x p;
      min_y = min_y p;
      max_x = max_x p;
      max_y = max_y p;
      surfaces = first p ∷ second p ∷ third p ∷ fourth p ∷ fifth p ∷ sixth p ∷ [];
      clear = clear p == 1;
      clear_color = color p ∷ other p ∷ [];
      clear_z = depth p;
      clear_s = stencil p;
    }

words_same : (a b : List ℕ) (n at count : ℕ) → ReadAlike a b n → entry_offset n ≤ at → words_at a at count ≡ words_at b at count
unfolding words_at
words_same a b n at count alike past =
    range_same (λ i. u32_at a (at + 4 * i)) (λ i. u32_at b (at + 4 * i)) 0 count (λ i low high. word_far a b n at (4 * i) alike past)

cut_same : (a b : List ℕ) (n at other size size_too : ℕ) → ReadAlike a b n → entry_offset n ≤ at → at ≡ other → size ≡ size_too → bytes_cut a at size ≡ bytes_cut b other size_too
cut_same a b n at other size size_too alike past place long =
    cut_far a b n at size alike past ∙ (λ p. bytes_cut b (place p) (long p))

job_same : (a b : List ℕ) (n : ℕ) → ReadAlike a b n → (j : ℕ) → job_at a j ≡ job_at b j
unfolding job_at
job_same a b n alike j =
    let offset = job_offset_same a b n alike j in
    let far = job_past a b n alike j in
    let client = word_here a b n (job_offset a j) alike far ∙ ap (λ (at : ℕ). u32_at b at) offset in
    let handles_at = handles_offset_same a b n alike j in
    let handles_long = job_word_same a b n alike j 8 in
    let handles = words_same a b n (handles_offset a j) (job_word a j 8) alike (handles_past a b n alike j) ∙ (λ p. words_at b (handles_at p) (handles_long p)) in
    let bin = cut_same a b n (bin_offset a j) (bin_offset b j) (job_word a j 12) (job_word b j 12) alike (bin_past a b n alike j)
    (bin_offset_same a b n alike j) (job_word_same a b n alike j 12) in
    let records = cut_same a b n (records_offset a j) (records_offset b j) (job_word a j 16) (job_word b j 16) alike (records_past a b n alike j)
    (records_offset_same a b n alike j) (job_word_same a b n alike j 16) in
    let declared = job_word_same a b n alike j 20 in
    let uniforms = cut_same a b n (uniforms_offset a j) (uniforms_offset b j) (job_word a j 24) (job_word b j 24) alike (uniforms_past a b n alike j)
    (uniforms_offset_same a b n alike j) (job_word_same a b n alike j 24) in
    let frame = frame_same a b n (job_offset a j) alike far ∙ ap (λ (at : ℕ). frame_at b at) offset in
    λ p. record {
      client = client p;
      handles = handles p;
      bin = bin p;
      records = records p;
      declared = declared p;
      uniforms = uniforms p;
      frame = frame p;
    }

contents_same : (a b : List ℕ) (n : ℕ) → ReadAlike a b n → contents_at a n ≡ contents_at b n
unfolding contents_at
contents_same a b n alike =
    range_same (λ i. bytes_cut a (content_offset a i) (content_size a i)) (λ i. bytes_cut b (content_offset b i) (content_size b i)) 0 n
    (λ i low high. cut_same a b n (content_offset a i) (content_offset b i) (content_size a i) (content_size b i) alike (content_past a b n alike i)
    (content_offset_same a b n alike i) (alike.entries i (omega (arith, high))).content)

all_jobs_same : (a b : List ℕ) (n count : ℕ) → ReadAlike a b n → jobs_at a count ≡ jobs_at b count
unfolding jobs_at
all_jobs_same a b n count alike = range_same (job_at a) (job_at b) 0 count (λ j low high. job_same a b n alike j)

entry_placeless : (a b : List ℕ) (at : ℕ) → SameEntry a b at → placeless (entry_at a at) ≡ placeless (entry_at b at)
unfolding entry_at
entry_placeless a b at same =
    let size = same.size in
    let client = same.client in
    let kind = same.kind in
    let content = same.content in
    λ p. record { place = 0; size = size p; client = client p; kind = kind_of (kind p); content = content p }

buffers_placeless : (a b : List ℕ) (n : ℕ) → ReadAlike a b n → map placeless (buffers_at a n) ≡ map placeless (buffers_at b n)
unfolding buffers_at
buffers_placeless a b n alike =
    placeless_range (λ i. entry_at a (entry_offset i)) (λ i. entry_at b (entry_offset i)) 0 n
    (λ i low high. entry_placeless a b (entry_offset i) (alike.entries i (omega (arith, high))))

pub file_buffers : (a b : List ℕ) (n : ℕ) → ReadAlike a b n → map placeless (file_at b).buffers ≡ map placeless (file_at a).buffers
unfolding file_at
file_buffers a b n alike =
    let counts = sym alike.count ∙ count_same a b n alike in
    sym (ap (λ (k : ℕ). map placeless (buffers_at a k)) alike.count
    ∙ (buffers_placeless a b n alike ∙ ap (λ (k : ℕ). map placeless (buffers_at b k)) counts))

pub file_moved : (a b : List ℕ) (n : ℕ) → ReadAlike a b n → with_buffers (file_at a) (file_at b).buffers ≡ file_at b
unfolding file_at
file_moved a b n alike =
    let counts = sym alike.count ∙ count_same a b n alike in
    let version = version_same a b n alike in
    let size = alike.header 8 (omega arith) in
    let regions = regions_same a b n alike in
    let contents = ap (λ (k : ℕ). contents_at a k) alike.count ∙ (contents_same a b n alike ∙ ap (λ (k : ℕ). contents_at b k) counts) in
    let jobs = all_jobs_same a b n (job_count a) alike ∙ ap (λ (k : ℕ). jobs_at b k) (jobs_same a b n alike) in
    λ p. record {
      version = version p;
      mem_size = size p;
      regions = regions p;
      buffers = (file_at b).buffers;
      contents = contents p;
      jobs = jobs p;
    }
