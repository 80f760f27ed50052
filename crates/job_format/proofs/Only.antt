-- The text of a file that fits and is well formed: no rule of the format is broken, and it holds that file.
use Rattle.std.proofs.Common.{◌≡◌, ℕ, zero, suc, ◌+◌, ◌*◌, ◌%◌, ◌<◌, ◌≤◌, ◌^◌, Bool, true, false, List, [], ◌∷◌, ◌++◌, length, map, drop, get_or, refl, sym, ap, subst, arith, ◌∙◌, append_assoc}
use Rattle.std.proofs.lemmas.List.{append-nil}
use Rattle.std.specs.List.{flat_map, AllByRecursion, range_with_len}
use Rattle.field_words.specs.{Sizes.most_list, Sizes.most_code, Words.u32_at, Pieces.IsPiece, Pieces.joined_texts, WordBytes.word}
use Rattle.field_words.proofs.Numbers.{u32_of_piece}
use Rattle.buffer_table.specs.{declared.buffer.Kind.Kind, declared.buffer.Kind.TheVariants.Plain, declared.buffer.Kind.TheVariants.Code}
use Rattle.buffer_table.specs.declared.buffer.Buffer.{Buffer}
use Rattle.job_format.specs.Text.{flag, kind_number, header_text, buffer_text, job_text, parts_text, file_text}
use Rattle.job_format.specs.Offsets.{most_buffers, most_handles, most_jobs, most_first, most_states, version_in, slot_count, buffer_count, job_count, entry_offset, job_offset, job_word, content_size, content_offset, handles_offset, bin_offset, records_offset, uniforms_offset, end_offset}
use Rattle.job_format.specs.Reading.{bytes_cut, regions_at, entry_at, words_at, buffers_at, contents_at, job_at, jobs_at, file_at}
use Rattle.job_format.specs.Model.{JobModel, FileModel}
use Rattle.job_format.specs.File.{BufferFits, JobFits, FitsShader, IsJobWellFormed, IsFileOf}
use Rattle.job_format.proofs.Standing.{content_offset_first, content_offset_step, handles_offset_first, handles_offset_step}
use Rattle.job_format.proofs.{Entries.buffer_back, Passing.HeaderPasses, Passing.EntryPasses, Passing.JobPasses, Passing.Passes}
use Rattle.job_format.proofs.Heads.{HeaderReads, JobReads, SizesFit, header_back, job_back, job_long}
use Rattle.job_format.proofs.Tails.{IsTail, four_joined, tail_front, tail_rest, end_of_tail, whole_tail}

pub buffer_long : (b : Buffer) → length (buffer_text b) ≡ 20
unfolding buffer_text
buffer_long b = refl

-- what the bytes of a buffer's entry say
record EntryReads (bytes : List ℕ) (at : ℕ) (b : Buffer) : Type 0 where
  size : at + 20 ≤ length bytes
  value : entry_at bytes at ≡ b
  kind : u32_at bytes (at + 12) ≡ kind_number b.kind
  content : u32_at bytes (at + 16) ≡ b.content

-- the entries from buffer k on
abbrev EntriesRead : List ℕ → ℕ → List Buffer → Type 0
EntriesRead bytes k [] = Unit {0}
EntriesRead bytes k (b ∷ bs) = EntryReads bytes (entry_offset k) b × EntriesRead bytes (k + 1) bs

entries_back : (bytes : List ℕ) (k : ℕ) (bs : List Buffer) (rest : List ℕ) → AllByRecursion BufferFits bs → IsTail bytes (entry_offset k) (flat_map buffer_text bs ++ rest)
    → EntriesRead bytes k bs × IsTail bytes (entry_offset (k + length bs)) rest
entries_back bytes k [] rest fit tail = (tt, subst (λ p. IsTail bytes p rest) (omega arith) tail)
entries_back bytes k (b ∷ bs) rest fit tail =
    let regrouped : IsTail bytes (entry_offset k) (buffer_text b ++ (flat_map buffer_text bs ++ rest)) =
    subst (λ t. IsTail bytes (entry_offset k) t) (append_assoc (buffer_text b) (flat_map buffer_text bs) rest) tail in
    let piece = tail_front bytes (entry_offset k) 20 (buffer_text b) (flat_map buffer_text bs ++ rest) (buffer_long b) regrouped in
    let after = tail_rest bytes (entry_offset k) 20 (entry_offset (k + 1)) (buffer_text b) (flat_map buffer_text bs ++ rest) (buffer_long b) (omega arith) regrouped in
    let others = entries_back bytes (k + 1) bs rest fit.1 after in
    let r = buffer_back bytes (entry_offset k) b fit.0 piece in (
      (record { size = piece.inside; value = r.0; kind = r.1.0; content = r.1.1 }, others.0),
      subst (λ p. IsTail bytes p rest) (omega arith) others.1,
    )

-- the entries are the list
entries_are : (bytes : List ℕ) (k : ℕ) (bs : List Buffer) → EntriesRead bytes k bs → map (λ b. entry_at bytes (entry_offset b)) (range_with_len k (length bs)) ≡ bs
entries_are bytes k [] read = refl
entries_are bytes k (b ∷ bs) read =
    ap (λ x. x ∷ map (λ i. entry_at bytes (entry_offset i)) (range_with_len (k + 1) (length bs))) read.0.value ∙ ap (λ xs. b ∷ xs) (entries_are bytes (k + 1) bs read.1)

kind_small : (k : Kind) → kind_number k ≤ 1
kind_small Plain = omega arith
kind_small Code = omega arith

code_size : (k : Kind) (size : ℕ) → FitsShader k size → kind_number k ≡ 1 → size ≤ most_code
code_size Plain size fits is_code = absurd (omega (arith, is_code))
code_size Code size fits is_code = fits

-- each entry passes
entries_pass : (bytes : List ℕ) (k : ℕ) (bs : List Buffer) → EntriesRead bytes k bs → AllByRecursion (λ b. FitsShader b.kind b.content) bs → (i : ℕ) → i < length bs → EntryPasses bytes (entry_offset (k + i))
entries_pass bytes k [] read code i below = absurd (omega (arith, below))
entries_pass bytes k (b ∷ bs) read code zero below =
    let r = read.0 in
    let small = kind_small b.kind in
    let passes : EntryPasses bytes (entry_offset k) = record {
      size = r.size;
      kind = subst (λ n. n ≤ 1) (sym r.kind) small;
      code = λ is_code. subst (λ n. n ≤ most_code) (sym r.content) (code_size b.kind b.content code.0 (sym r.kind ∙ is_code));
    } in
    subst (λ m. EntryPasses bytes (entry_offset m)) (omega arith) passes
entries_pass bytes k (b ∷ bs) read code (suc i) below =
    subst (λ m. EntryPasses bytes (entry_offset m)) (omega arith) (entries_pass bytes (k + 1) bs read.1 code.1 i (omega arith))

-- The contents from buffer k on are the texts.
contents_back : (bytes : List ℕ) (k : ℕ) (bs : List Buffer) (cs : List (List ℕ)) (rest : List ℕ) → EntriesRead bytes k bs → map length cs ≡ map (λ b. b.content) bs
    → IsTail bytes (content_offset bytes k) (joined_texts cs ++ rest)
    → (map (λ b. bytes_cut bytes (content_offset bytes b) (content_size bytes b)) (range_with_len k (length bs)) ≡ cs) × IsTail bytes (content_offset bytes (k + length bs)) rest
contents_back bytes k [] [] rest read same tail = (refl, subst (λ p. IsTail bytes (content_offset bytes p) rest) (omega arith) tail)
contents_back bytes k [] (c ∷ cs) rest read same tail = absurd (omega (arith, ap length same))
contents_back bytes k (b ∷ bs) [] rest read same tail = absurd (omega (arith, ap length same))
contents_back bytes k (b ∷ bs) (c ∷ cs) rest read same tail =
    let head : length c ≡ b.content = ap (λ xs. get_or xs 0 0) same in
    let others : map length cs ≡ map (λ b. b.content) bs = ap (drop 1) same in
    let size : content_size bytes k ≡ length c = read.0.content ∙ sym head in
    let regrouped : IsTail bytes (content_offset bytes k) (c ++ (joined_texts cs ++ rest)) =
    subst (λ t. IsTail bytes (content_offset bytes k) t) (append_assoc c (joined_texts cs) rest) tail in
    let piece : IsPiece bytes (content_offset bytes k) (content_size bytes k) c = tail_front bytes (content_offset bytes k) (content_size bytes k) c (joined_texts cs ++ rest) (sym size) regrouped in
    let after = tail_rest bytes (content_offset bytes k) (content_size bytes k) (content_offset bytes (k + 1)) c (joined_texts cs ++ rest) (sym size) (content_offset_step bytes k) regrouped in
    let more = contents_back bytes (k + 1) bs cs rest read.1 others after in (
      ap (λ x. x ∷ map (λ i. bytes_cut bytes (content_offset bytes i) (content_size bytes i)) (range_with_len (k + 1) (length bs))) piece.same ∙ ap (λ xs. c ∷ xs) more.0,
      subst (λ p. IsTail bytes (content_offset bytes p) rest) (omega arith) more.1,
    )

-- The words from word k on are the list.
words_back : (bytes : List ℕ) (at k : ℕ) (ws rest : List ℕ) → AllByRecursion (λ w. w < 2 ^ 32) ws → IsTail bytes (at + 4 * k) (flat_map word ws ++ rest)
    → (map (λ i. u32_at bytes (at + 4 * i)) (range_with_len k (length ws)) ≡ ws) × IsTail bytes (at + 4 * (k + length ws)) rest
words_back bytes at k [] rest fit tail = (refl, subst (λ p. IsTail bytes p rest) (omega arith) tail)
words_back bytes at k (w ∷ ws) rest fit tail =
    let piece = tail_front bytes (at + 4 * k) 4 (word w) (flat_map word ws ++ rest) refl tail in
    let after = tail_rest bytes (at + 4 * k) 4 (at + 4 * (k + 1)) (word w) (flat_map word ws ++ rest) refl (omega arith) tail in
    let more = words_back bytes at (k + 1) ws rest fit.1 after in (
      ap (λ x. x ∷ map (λ i. u32_at bytes (at + 4 * i)) (range_with_len (k + 1) (length ws))) (u32_of_piece bytes (at + 4 * k) w fit.0 piece) ∙ ap (λ xs. w ∷ xs) more.0,
      subst (λ p. IsTail bytes p rest) (omega arith) more.1,
    )

header_long : (f : FileModel) → length (header_text f) ≡ 36
unfolding header_text
header_long f = refl

-- what the bytes of the entry of job k say
record EntryOfJob (bytes : List ℕ) (k : ℕ) (j : JobModel) : Type 0 where
  inside : job_offset bytes k + 124 ≤ length bytes
  fields : JobReads bytes (job_offset bytes k) j

-- the entries from job k on
abbrev JobsRead : List ℕ → ℕ → List JobModel → Type 0
JobsRead bytes k [] = Unit {0}
JobsRead bytes k (j ∷ js) = EntryOfJob bytes k j × JobsRead bytes (k + 1) js

sizes_fit : (j : JobModel) → IsJobWellFormed j → SizesFit j
sizes_fit j w =
    record { handles = omega (arith, w.handles); bin = omega (arith, w.bin); records = omega (arith, w.records); uniforms = omega (arith, w.uniforms) }

jobs_back : (bytes : List ℕ) (k : ℕ) (js : List JobModel) (rest : List ℕ) → AllByRecursion JobFits js → AllByRecursion IsJobWellFormed js → IsTail bytes (job_offset bytes k) (flat_map job_text js ++ rest)
    → JobsRead bytes k js × IsTail bytes (job_offset bytes (k + length js)) rest
jobs_back bytes k [] rest fit well tail = (tt, subst (λ p. IsTail bytes p rest) (omega arith) tail)
jobs_back bytes k (j ∷ js) rest fit well tail =
    let others : List ℕ = flat_map job_text js ++ rest in
    let regrouped : IsTail bytes (job_offset bytes k) (job_text j ++ others) =
    subst (λ t. IsTail bytes (job_offset bytes k) t) (append_assoc (job_text j) (flat_map job_text js) rest) tail in
    let piece = tail_front bytes (job_offset bytes k) 124 (job_text j) others (job_long j fit.0.frame) regrouped in
    let after = tail_rest bytes (job_offset bytes k) 124 (job_offset bytes (k + 1)) (job_text j) others (job_long j fit.0.frame) (omega arith) regrouped in
    let more = jobs_back bytes (k + 1) js rest fit.1 well.1 after in (
      (record { inside = piece.inside; fields = job_back bytes (job_offset bytes k) j fit.0 (sizes_fit j well.0) piece }, more.0),
      subst (λ p. IsTail bytes p rest) (omega arith) more.1,
    )

-- each entry passes
job_passes : (bytes : List ℕ) (k : ℕ) (j : JobModel) → EntryOfJob bytes k j → IsJobWellFormed j → (version_in bytes ≡ 1 → length j.handles ≤ most_first) → JobPasses bytes (job_offset bytes k)
job_passes bytes k j r well first =
    let g = r.fields in
    let flag_small : (b : Bool) → flag b ≤ 1 = λ b. elim b as (λ v. flag v ≤ 1) [ true ↦ omega arith | false ↦ omega arith ] in
    record {
      size = r.inside;
      flags = subst (λ n. n ≤ 1) (sym g.flags) (flag_small j.frame.clear);
      handles = subst (λ n. n ≤ most_handles) (sym g.handles) well.handles;
      first_handles = λ is. subst (λ n. n ≤ most_first) (sym g.handles) (first is);
      bin = subst (λ n. n ≤ most_list) (sym g.bin) well.bin;
      records = subst (λ n. n ≤ most_list) (sym g.records) well.records;
      declared = subst (λ n. n ≤ most_states) (sym g.declared) well.declared;
      uniforms = subst (λ n. n ≤ most_list) (sym g.uniforms) well.uniforms;
      whole_words = subst (λ n. n % 4 ≡ 0) (sym g.uniforms) well.whole_words;
      first = g.first;
      second = g.second;
      third = g.third;
    }

jobs_pass : (bytes : List ℕ) (k : ℕ) (js : List JobModel) → JobsRead bytes k js → AllByRecursion IsJobWellFormed js
    → (version_in bytes ≡ 1 → AllByRecursion (λ j. length j.handles ≤ most_first) js) → (i : ℕ) → i < length js → JobPasses bytes (job_offset bytes (k + i))
jobs_pass bytes k [] read well first i below = absurd (omega (arith, below))
jobs_pass bytes k (j ∷ js) read well first zero below =
    subst (λ m. JobPasses bytes (job_offset bytes m)) (let e : k ≡ k + zero = omega arith in e) (job_passes bytes k j read.0 well.0 (λ is. (first is).0))
jobs_pass bytes k (j ∷ js) read well first (suc i) below =
    subst (λ m. JobPasses bytes (job_offset bytes m)) (let e : (k + 1) + i ≡ k + suc i = omega arith in e)
    (jobs_pass bytes (k + 1) js read.1 well.1 (λ is. (first is).1) i (omega arith))

-- What the bytes of the parts of job k say.
record PartsRead (bytes : List ℕ) (k : ℕ) (j : JobModel) : Type 0 where
  handles : words_at bytes (handles_offset bytes k) (job_word bytes k 8) ≡ j.handles
  bin : bytes_cut bytes (bin_offset bytes k) (job_word bytes k 12) ≡ j.bin
  records : bytes_cut bytes (records_offset bytes k) (job_word bytes k 16) ≡ j.records
  uniforms : bytes_cut bytes (uniforms_offset bytes k) (job_word bytes k 24) ≡ j.uniforms

parts_back : (bytes : List ℕ) (k : ℕ) (j : JobModel) (rest : List ℕ) → JobFits j → JobReads bytes (job_offset bytes k) j → IsTail bytes (handles_offset bytes k) (parts_text j ++ rest)
    → PartsRead bytes k j × IsTail bytes (handles_offset bytes (k + 1)) rest
unfolding parts_text words_at bin_offset records_offset uniforms_offset end_offset
parts_back bytes k j rest fits r tail =
    let handles : ℕ = handles_offset bytes k in
    let behind : List ℕ = j.bin ++ (j.records ++ (j.uniforms ++ rest)) in
    let regrouped : IsTail bytes handles (flat_map word j.handles ++ behind) =
    subst (λ t. IsTail bytes handles t) (four_joined (flat_map word j.handles) j.bin j.records j.uniforms rest) tail in
    let first : IsTail bytes (handles + 4 * 0) (flat_map word j.handles ++ behind) = subst (λ p. IsTail bytes p (flat_map word j.handles ++ behind)) (omega arith) regrouped in
    let w = words_back bytes handles 0 j.handles behind fits.handles first in
    let count = r.handles in
    let t1 : IsTail bytes (bin_offset bytes k) behind = subst (λ p. IsTail bytes p behind) (omega arith) w.1 in
    let bin = tail_front bytes (bin_offset bytes k) (job_word bytes k 12) j.bin (j.records ++ (j.uniforms ++ rest)) (sym r.bin) t1 in
    let t2 = tail_rest bytes (bin_offset bytes k) (job_word bytes k 12) (records_offset bytes k) j.bin (j.records ++ (j.uniforms ++ rest)) (sym r.bin) refl t1 in
    let records = tail_front bytes (records_offset bytes k) (job_word bytes k 16) j.records (j.uniforms ++ rest) (sym r.records) t2 in
    let t3 = tail_rest bytes (records_offset bytes k) (job_word bytes k 16) (uniforms_offset bytes k) j.records (j.uniforms ++ rest) (sym r.records) refl t2 in
    let uniforms = tail_front bytes (uniforms_offset bytes k) (job_word bytes k 24) j.uniforms rest (sym r.uniforms) t3 in
    let t4 = tail_rest bytes (uniforms_offset bytes k) (job_word bytes k 24) (end_offset bytes k) j.uniforms rest (sym r.uniforms) refl t3 in (
      record {
        handles = ap (λ n. map (λ i. u32_at bytes (handles + 4 * i)) (range_with_len 0 n)) r.handles ∙ w.0;
        bin = bin.same;
        records = records.same;
        uniforms = uniforms.same;
      },
      subst (λ p. IsTail bytes p rest) (sym (handles_offset_step bytes k)) t4,
    )

job_is : (bytes : List ℕ) (k : ℕ) (j : JobModel) → JobReads bytes (job_offset bytes k) j → PartsRead bytes k j → job_at bytes k ≡ j
unfolding job_at
job_is bytes k j r p = rw (r.client, p.handles, p.bin, p.records, r.declared, p.uniforms, r.frame) refl

-- The parts from job k on, and so the jobs.
all_parts_back : (bytes : List ℕ) (k : ℕ) (js : List JobModel) (rest : List ℕ) → AllByRecursion JobFits js → JobsRead bytes k js → IsTail bytes (handles_offset bytes k) (flat_map parts_text js ++ rest)
    → (map (job_at bytes) (range_with_len k (length js)) ≡ js) × IsTail bytes (handles_offset bytes (k + length js)) rest
all_parts_back bytes k [] rest fit read tail = (refl, subst (λ p. IsTail bytes (handles_offset bytes p) rest) (omega arith) tail)
all_parts_back bytes k (j ∷ js) rest fit read tail =
    let others : List ℕ = flat_map parts_text js ++ rest in
    let regrouped : IsTail bytes (handles_offset bytes k) (parts_text j ++ others) =
    subst (λ t. IsTail bytes (handles_offset bytes k) t) (append_assoc (parts_text j) (flat_map parts_text js) rest) tail in
    let one = parts_back bytes k j others fit.0 read.0.fields regrouped in
    let more = all_parts_back bytes (k + 1) js rest fit.1 read.1 one.1 in (
      ap (λ x. x ∷ map (job_at bytes) (range_with_len (k + 1) (length js))) (job_is bytes k j read.0.fields one.0) ∙ ap (λ xs. j ∷ xs) more.0,
      subst (λ p. IsTail bytes (handles_offset bytes p) rest) (omega arith) more.1,
    )

text_is : (f : FileModel) → file_text f ≡ header_text f ++ (flat_map buffer_text f.buffers ++ (flat_map job_text f.jobs ++ (joined_texts f.contents ++ flat_map parts_text f.jobs)))
unfolding file_text
text_is f = refl

-- what the whole file's bytes say
record FileReads (bytes : List ℕ) (f : FileModel) : Type 0 where
  header_inside : 36 ≤ length bytes
  header : HeaderReads bytes f
  entries : EntriesRead bytes 0 f.buffers
  job_entries : JobsRead bytes 0 f.jobs
  contents : contents_at bytes (buffer_count bytes) ≡ f.contents
  jobs : jobs_at bytes (job_count bytes) ≡ f.jobs
  end : handles_offset bytes (job_count bytes) ≡ length bytes

file_reads : (bytes : List ℕ) (f : FileModel) → IsFileOf bytes f → FileReads bytes f
unfolding contents_at jobs_at
file_reads bytes f is =
    let w = is.well_formed in
    let few_buffers = w.buffers in
    let few_jobs = w.few_jobs in
    let parts : List ℕ = flat_map parts_text f.jobs in
    let contents : List ℕ = joined_texts f.contents in
    let after_buffers : List ℕ = flat_map job_text f.jobs ++ (contents ++ parts) in
    let after_header : List ℕ = flat_map buffer_text f.buffers ++ after_buffers in
    let t0 : IsTail bytes 0 (header_text f ++ after_header) = whole_tail bytes (header_text f ++ after_header) (is.text ∙ text_is f) in
    let header_piece = tail_front bytes 0 36 (header_text f) after_header (header_long f) t0 in
    let header = header_back bytes f is.fits (omega arith) (omega arith) header_piece in
    let count = header.buffers in
    let jobs_count = header.jobs in
    let t36 = tail_rest bytes 0 36 36 (header_text f) after_header (header_long f) refl t0 in
    let e = entries_back bytes 0 f.buffers after_buffers is.fits.buffers t36 in
    let t_jobs : IsTail bytes (job_offset bytes 0) after_buffers = subst (λ p. IsTail bytes p after_buffers) (omega arith) e.1 in
    let j = jobs_back bytes 0 f.jobs (contents ++ parts) is.fits.jobs w.jobs t_jobs in
    let t_contents : IsTail bytes (content_offset bytes 0) (contents ++ parts) =
    subst (λ p. IsTail bytes p (contents ++ parts)) (let first = content_offset_first bytes in omega arith) j.1 in
    let c = contents_back bytes 0 f.buffers f.contents parts e.0 w.contents t_contents in
    let same_place : content_offset bytes (0 + length f.buffers) ≡ content_offset bytes (buffer_count bytes) = ap (content_offset bytes) (omega arith) in
    let t_parts : IsTail bytes (handles_offset bytes 0) parts =
    subst (λ p. IsTail bytes p parts) (same_place ∙ sym (handles_offset_first bytes)) c.1 in
    let t_parts_nil : IsTail bytes (handles_offset bytes 0) (parts ++ []) = subst (λ t. IsTail bytes (handles_offset bytes 0) t) (sym (append-nil parts)) t_parts in
    let p = all_parts_back bytes 0 f.jobs [] is.fits.jobs j.0 t_parts_nil in
    let last_place : handles_offset bytes (0 + length f.jobs) ≡ handles_offset bytes (job_count bytes) = ap (handles_offset bytes) (omega arith) in
    record {
      header_inside = header_piece.inside;
      header = header;
      entries = e.0;
      job_entries = j.0;
      contents = ap (λ n. map (λ b. bytes_cut bytes (content_offset bytes b) (content_size bytes b)) (range_with_len 0 n)) count ∙ c.0;
      jobs = ap (λ n. map (job_at bytes) (range_with_len 0 n)) jobs_count ∙ p.0;
      end = sym last_place ∙ end_of_tail bytes (handles_offset bytes (0 + length f.jobs)) p.1;
    }

header_passes : (bytes : List ℕ) (f : FileModel) → IsFileOf bytes f → FileReads bytes f → HeaderPasses bytes
header_passes bytes f is r =
    let w = is.well_formed in
    let h = r.header in
    let first : version_in bytes ≡ 1 → f.version ≡ 1 = λ is_first. sym h.version ∙ is_first in
    record {
      size = r.header_inside;
      letters = h.letters;
      a_version = subst (λ n. 1 ≤ n) (sym h.version) w.a_version;
      known = subst (λ n. n ≤ 2) (sym h.version) w.known;
      buffers = subst (λ n. n ≤ most_buffers) (sym h.buffers) w.buffers;
      first_buffers = λ is_first. subst (λ n. n ≤ most_first) (sym h.buffers) (w.first (first is_first)).buffers;
      some_job = subst (λ n. 1 ≤ n) (sym h.jobs) w.some_job;
      few_jobs = subst (λ n. n ≤ most_jobs) (sym h.jobs) w.few_jobs;
      first_jobs = λ is_first. h.jobs ∙ (w.first (first is_first)).one_job;
      slots = λ later some.
          subst (λ n. n ≤ slot_count bytes) (sym h.jobs)
          (subst (λ n. length f.jobs ≤ n) (sym h.tile_slots) (w.slots (sym h.version ∙ later) (subst (λ n. 0 < n) h.tile_slots some)));
    }

reads_pass : (bytes : List ℕ) (f : FileModel) → IsFileOf bytes f → FileReads bytes f → Passes bytes
reads_pass bytes f is r =
    let w = is.well_formed in
    let h = r.header in
    let buffers = h.buffers in
    let jobs = h.jobs in
    record {
      header = header_passes bytes f is r;
      entry = λ b below. subst (λ m. EntryPasses bytes (entry_offset m)) (omega arith) (entries_pass bytes 0 f.buffers r.entries w.code b (omega arith));
      job = λ j below.
          subst (λ m. JobPasses bytes (job_offset bytes m)) (let e : 0 + j ≡ j = omega arith in e)
          (jobs_pass bytes 0 f.jobs r.job_entries w.jobs (λ first. (w.first (sym h.version ∙ first)).handles) j (omega arith));
      end = r.end;
    }

file_is : (bytes : List ℕ) (f : FileModel) → FileReads bytes f → file_at bytes ≡ f
unfolding file_at regions_at buffers_at
file_is bytes f r =
    let h = r.header in
    let buffers : map (λ b. entry_at bytes (entry_offset b)) (range_with_len 0 (buffer_count bytes)) ≡ f.buffers =
    ap (λ n. map (λ b. entry_at bytes (entry_offset b)) (range_with_len 0 n)) h.buffers ∙ entries_are bytes 0 f.buffers r.entries in
    rw (h.version, h.mem_size, h.lists_place, h.lists_size, h.tile_place, h.tile_slots, buffers, r.contents, r.jobs) refl

pub only_file : (bytes : List ℕ) (f : FileModel) → IsFileOf bytes f → Passes bytes × (file_at bytes ≡ f)
only_file bytes f is = let r = file_reads bytes f is in (reads_pass bytes f is r, file_is bytes f r)
