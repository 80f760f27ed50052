-- Where no rule of the format is broken, the bytes are the text of the file that they hold.
use Rattle.std.proofs.Common.{◌≡◌, ℕ, zero, suc, ◌+◌, ◌*◌, ◌<◌, ◌≤◌, ◌==◌, List, [], ◌∷◌, ◌++◌, length, drop, refl, sym, ap, subst, arith, ◌∙◌, add-one, append_assoc, length-drop}
use Rattle.std.proofs.{lemmas.List.append-nil, lemmas.List.length-take-le, lemmas.List.FromFn.length-map-range_with_len}
use Rattle.std.specs.List.{flat_map}
use Rattle.field_words.specs.{Words.IsBytes, Words.u32_at, Pieces.IsPiece, Pieces.joined_texts, WordBytes.word}
use Rattle.field_words.proofs.{Pieces.join_two, Numbers.u32_piece}
use Rattle.job_format.specs.Offsets.{buffer_count, job_count, entry_offset, job_offset, job_word, content_size, content_offset, handles_offset, bin_offset, records_offset, uniforms_offset, end_offset}
use Rattle.job_format.specs.Reading.{bytes_cut, regions_at, entry_at, frame_at, words_at, buffers_at, contents_at, job_at, jobs_at, file_at}
use Rattle.job_format.specs.{Model.FileModel, Text.flag, Text.header_text, Text.buffer_text, Text.job_text, Text.parts_text, Text.file_text}
use Rattle.job_format.proofs.Listed.{words_none, words_more, buffers_none, buffers_more, contents_none, contents_more, jobs_none, jobs_more}
use Rattle.job_format.proofs.Standing.{content_offset_first, content_offset_step, handles_offset_first, handles_offset_step, parts_end}
use Rattle.job_format.proofs.{Entries.buffer_piece, Heads.HeaderReads, Heads.JobReads, Heads.header_piece, Heads.job_piece, Passing.Passes}
use Rattle.job_format.proofs.{Items.flat_map_last, Tails.IsTail, Tails.four_joined, Tails.tail_join, Tails.tail_end, Tails.tail_whole}

pub length_buffers : (bytes : List ℕ) (n : ℕ) → length (buffers_at bytes n) ≡ n
unfolding buffers_at
length_buffers bytes n = length-map-range_with_len (λ b. entry_at bytes (entry_offset b)) 0 n

pub length_jobs : (bytes : List ℕ) (n : ℕ) → length (jobs_at bytes n) ≡ n
unfolding jobs_at
length_jobs bytes n = length-map-range_with_len (job_at bytes) 0 n

pub length_words : (bytes : List ℕ) (at n : ℕ) → length (words_at bytes at n) ≡ n
unfolding words_at
length_words bytes at n = length-map-range_with_len (λ i. u32_at bytes (at + 4 * i)) 0 n

pub length_cut : (bytes : List ℕ) (at n : ℕ) → at + n ≤ length bytes → length (bytes_cut bytes at n) ≡ n
length_cut bytes at n inside = length-take-le n (drop at bytes) (rw length-drop (omega arith))

cut_piece : (bytes : List ℕ) (at n : ℕ) → at + n ≤ length bytes → IsPiece bytes at n (bytes_cut bytes at n)
cut_piece bytes at n inside = record { size = length_cut bytes at n inside; inside = inside; same = refl }

empty_piece : (bytes : List ℕ) (at : ℕ) → at ≤ length bytes → IsPiece bytes at 0 []
empty_piece bytes at inside = record { size = refl; inside = omega arith; same = refl }

same_piece : (bytes : List ℕ) (at m n : ℕ) (one two : List ℕ) → m ≡ n → one ≡ two → IsPiece bytes at m one → IsPiece bytes at n two
same_piece bytes at m n one two long text piece = subst (λ k. IsPiece bytes at k two) long (subst (λ t. IsPiece bytes at m t) text piece)

-- One more item at the end of a list of texts.
joined_last : (xs : List (List ℕ)) (x : List ℕ) → joined_texts (xs ++ x ∷ []) ≡ joined_texts xs ++ x
joined_last [] x = append-nil x
joined_last (y ∷ ys) x = ap (λ rest. y ++ rest) (joined_last ys x) ∙ sym (append_assoc y (joined_texts ys) x)

-- The entries of the first m buffers.
buffers_piece : (bytes : List ℕ) (m : ℕ) → IsBytes bytes → Passes bytes → m ≤ buffer_count bytes → IsPiece bytes 36 (20 * m) (flat_map buffer_text (buffers_at bytes m))
buffers_piece bytes zero fits p small =
    subst (λ bs. IsPiece bytes 36 0 (flat_map buffer_text bs)) (sym (buffers_none bytes)) (empty_piece bytes 36 p.header.size)
buffers_piece bytes (suc m) fits p small =
    let e = p.entry m (omega arith) in
    let last : IsPiece bytes (entry_offset m) 20 (buffer_text (entry_at bytes (entry_offset m))) = buffer_piece bytes (entry_offset m) fits e.size e.kind in
    let both = join_two bytes 36 (20 * m) 20 _ _ (buffers_piece bytes m fits p (omega arith)) last in
    let text : flat_map buffer_text (buffers_at bytes m) ++ buffer_text (entry_at bytes (entry_offset m)) ≡ flat_map buffer_text (buffers_at bytes (suc m)) =
    sym (flat_map_last buffer_text (buffers_at bytes m) (entry_at bytes (entry_offset m))) ∙ ap (flat_map buffer_text) (sym (buffers_more bytes m) ∙ ap (buffers_at bytes) (add-one m)) in
    same_piece bytes 36 (20 * m + 20) (20 * suc m) (flat_map buffer_text (buffers_at bytes m) ++ buffer_text (entry_at bytes (entry_offset m))) (flat_map buffer_text (buffers_at bytes (suc m))) (omega arith) text both

-- The first m of a job's handles.
words_piece : (bytes : List ℕ) (at m : ℕ) → IsBytes bytes → at + 4 * m ≤ length bytes → IsPiece bytes at (4 * m) (flat_map word (words_at bytes at m))
words_piece bytes at zero fits inside =
    subst (λ ws. IsPiece bytes at 0 (flat_map word ws)) (sym (words_none bytes at)) (empty_piece bytes at (omega arith))
words_piece bytes at (suc m) fits inside =
    let last : IsPiece bytes (at + 4 * m) 4 (word (u32_at bytes (at + 4 * m))) = u32_piece bytes (at + 4 * m) fits (omega arith) in
    let both = join_two bytes at (4 * m) 4 _ _ (words_piece bytes at m fits (omega arith)) last in
    let text : flat_map word (words_at bytes at m) ++ word (u32_at bytes (at + 4 * m)) ≡ flat_map word (words_at bytes at (suc m)) =
    sym (flat_map_last word (words_at bytes at m) (u32_at bytes (at + 4 * m))) ∙ ap (flat_map word) (sym (words_more bytes at m) ∙ ap (words_at bytes at) (add-one m)) in
    same_piece bytes at (4 * m + 4) (4 * suc m) (flat_map word (words_at bytes at m) ++ word (u32_at bytes (at + 4 * m))) (flat_map word (words_at bytes at (suc m))) (omega arith) text both

-- The contents from buffer b on, where what follows those of the last is a tail: read backwards.
contents_tail : (bytes : List ℕ) (m : ℕ) (rest : List ℕ) → content_offset bytes m ≤ length bytes → IsTail bytes (content_offset bytes m) rest
    → IsTail bytes (job_offset bytes (job_count bytes)) (joined_texts (contents_at bytes m) ++ rest)
contents_tail bytes zero rest inside tail =
    subst (λ cs. IsTail bytes (job_offset bytes (job_count bytes)) (joined_texts cs ++ rest)) (sym (contents_none bytes))
    (subst (λ p. IsTail bytes p rest) (content_offset_first bytes) tail)
contents_tail bytes (suc m) rest inside tail =
    let step : content_offset bytes (suc m) ≡ content_offset bytes m + content_size bytes m = ap (content_offset bytes) (sym (add-one m)) ∙ content_offset_step bytes m in
    let here : IsPiece bytes (content_offset bytes m) (content_size bytes m) (bytes_cut bytes (content_offset bytes m) (content_size bytes m)) =
    cut_piece bytes (content_offset bytes m) (content_size bytes m) (omega arith) in
    let one : List ℕ = bytes_cut bytes (content_offset bytes m) (content_size bytes m) in
    let joined_tail = tail_join bytes (content_offset bytes m) (content_size bytes m) (content_offset bytes (suc m)) one rest step here tail in
    let before = contents_tail bytes m (one ++ rest) (omega arith) joined_tail in
    let text : joined_texts (contents_at bytes m) ++ (one ++ rest) ≡ joined_texts (contents_at bytes (suc m)) ++ rest =
    sym (append_assoc (joined_texts (contents_at bytes m)) one rest)
    ∙ ap (λ t. t ++ rest) (sym (joined_last (contents_at bytes m) one) ∙ ap joined_texts (sym (contents_more bytes m) ∙ ap (contents_at bytes) (add-one m))) in
    subst (λ t. IsTail bytes (job_offset bytes (job_count bytes)) t) text before

-- The parts of job j end inside the file.
ends_inside : (bytes : List ℕ) (j : ℕ) → Passes bytes → j < job_count bytes → end_offset bytes j ≤ length bytes
ends_inside bytes j p below =
    let step = handles_offset_step bytes j in
    let up = parts_end bytes (j + 1) (job_count bytes) (omega arith) in
    let end = p.end in
    omega arith

-- The parts of job j, where what follows them is a tail.
parts_tail : (bytes : List ℕ) (j : ℕ) (rest : List ℕ) → IsBytes bytes → end_offset bytes j ≤ length bytes → IsTail bytes (end_offset bytes j) rest
    → IsTail bytes (handles_offset bytes j) (parts_text (job_at bytes j) ++ rest)
unfolding parts_text job_at bin_offset records_offset uniforms_offset end_offset
parts_tail bytes j rest fits inside tail =
    let count : ℕ = job_word bytes j 8 in
    let handles : List ℕ = flat_map word (words_at bytes (handles_offset bytes j) count) in
    let bin : List ℕ = bytes_cut bytes (bin_offset bytes j) (job_word bytes j 12) in
    let records : List ℕ = bytes_cut bytes (records_offset bytes j) (job_word bytes j 16) in
    let uniforms : List ℕ = bytes_cut bytes (uniforms_offset bytes j) (job_word bytes j 24) in
    let t4 : IsTail bytes (uniforms_offset bytes j) (uniforms ++ rest) =
    tail_join bytes (uniforms_offset bytes j) (job_word bytes j 24) (end_offset bytes j) uniforms rest refl (cut_piece bytes (uniforms_offset bytes j) (job_word bytes j 24) (omega arith)) tail in
    let t3 = tail_join bytes (records_offset bytes j) (job_word bytes j 16) (uniforms_offset bytes j) records (uniforms ++ rest) refl (cut_piece bytes (records_offset bytes j) (job_word bytes j 16) (omega arith)) t4 in
    let t2 = tail_join bytes (bin_offset bytes j) (job_word bytes j 12) (records_offset bytes j) bin (records ++ (uniforms ++ rest)) refl (cut_piece bytes (bin_offset bytes j) (job_word bytes j 12) (omega arith)) t3 in
    let t1 = tail_join bytes (handles_offset bytes j) (4 * count) (bin_offset bytes j) handles (bin ++ (records ++ (uniforms ++ rest))) refl (words_piece bytes (handles_offset bytes j) count fits (omega arith)) t2 in
    subst (λ t. IsTail bytes (handles_offset bytes j) t) (sym (four_joined handles bin records uniforms rest)) t1

-- The parts of the first m jobs: read backwards.
all_parts_tail : (bytes : List ℕ) (m : ℕ) (rest : List ℕ) → IsBytes bytes → handles_offset bytes m ≤ length bytes → IsTail bytes (handles_offset bytes m) rest
    → IsTail bytes (handles_offset bytes 0) (flat_map parts_text (jobs_at bytes m) ++ rest)
all_parts_tail bytes zero rest fits inside tail =
    subst (λ js. IsTail bytes (handles_offset bytes 0) (flat_map parts_text js ++ rest)) (sym (jobs_none bytes)) tail
all_parts_tail bytes (suc m) rest fits inside tail =
    let step : handles_offset bytes (suc m) ≡ end_offset bytes m = ap (handles_offset bytes) (sym (add-one m)) ∙ handles_offset_step bytes m in
    let up = parts_end bytes m (suc m) (omega arith) in
    let one : List ℕ = parts_text (job_at bytes m) in
    let here : IsTail bytes (handles_offset bytes m) (one ++ rest) =
    parts_tail bytes m rest fits (omega arith) (subst (λ p. IsTail bytes p rest) step tail) in
    let before = all_parts_tail bytes m (one ++ rest) fits (omega arith) here in
    let text : flat_map parts_text (jobs_at bytes m) ++ (one ++ rest) ≡ flat_map parts_text (jobs_at bytes (suc m)) ++ rest =
    sym (append_assoc (flat_map parts_text (jobs_at bytes m)) one rest)
    ∙ ap (λ t. t ++ rest) (sym (flat_map_last parts_text (jobs_at bytes m) (job_at bytes m)) ∙ ap (flat_map parts_text) (sym (jobs_more bytes m) ∙ ap (jobs_at bytes) (add-one m))) in
    subst (λ t. IsTail bytes (handles_offset bytes 0) t) text before

number_of_flag : (n : ℕ) → n ≤ 1 → n ≡ flag (n == 1)
number_of_flag zero small = refl
number_of_flag (suc zero) small = refl
number_of_flag (suc (suc n)) small = absurd (omega (arith, small))

pub job_reads : (bytes : List ℕ) (j : ℕ) → Passes bytes → j < job_count bytes → JobReads bytes (job_offset bytes j) (job_at bytes j)
unfolding job_at frame_at bin_offset records_offset uniforms_offset end_offset
job_reads bytes j p below =
    let inside = ends_inside bytes j p below in
    let passes = p.job j below in
    record {
      client = refl;
      flags = number_of_flag (job_word bytes j 4) passes.flags;
      handles = sym (length_words bytes (handles_offset bytes j) (job_word bytes j 8));
      bin = sym (length_cut bytes (bin_offset bytes j) (job_word bytes j 12) (omega arith));
      records = sym (length_cut bytes (records_offset bytes j) (job_word bytes j 16) (omega arith));
      declared = refl;
      uniforms = sym (length_cut bytes (uniforms_offset bytes j) (job_word bytes j 24) (omega arith));
      frame = refl;
      first = passes.first;
      second = passes.second;
      third = passes.third;
    }

-- The entries of the first m jobs.
jobs_piece : (bytes : List ℕ) (m : ℕ) → IsBytes bytes → Passes bytes → m ≤ job_count bytes → entry_offset (buffer_count bytes) ≤ length bytes
    → IsPiece bytes (entry_offset (buffer_count bytes)) (124 * m) (flat_map job_text (jobs_at bytes m))
jobs_piece bytes zero fits p small inside =
    subst (λ js. IsPiece bytes (entry_offset (buffer_count bytes)) 0 (flat_map job_text js)) (sym (jobs_none bytes)) (empty_piece bytes (entry_offset (buffer_count bytes)) inside)
jobs_piece bytes (suc m) fits p small inside =
    let at : ℕ = entry_offset (buffer_count bytes) in
    let one : List ℕ = job_text (job_at bytes m) in
    let before : List ℕ = flat_map job_text (jobs_at bytes m) in
    let last : IsPiece bytes (at + 124 * m) 124 one = job_piece bytes (job_offset bytes m) (job_at bytes m) fits (p.job m (omega arith)).size (job_reads bytes m p (omega arith)) in
    let both = join_two bytes at (124 * m) 124 before one (jobs_piece bytes m fits p (omega arith) inside) last in
    let text : before ++ one ≡ flat_map job_text (jobs_at bytes (suc m)) =
    sym (flat_map_last job_text (jobs_at bytes m) (job_at bytes m)) ∙ ap (flat_map job_text) (sym (jobs_more bytes m) ∙ ap (jobs_at bytes) (add-one m)) in
    same_piece bytes at (124 * m + 124) (124 * suc m) (before ++ one) (flat_map job_text (jobs_at bytes (suc m))) (omega arith) text both

header_reads : (bytes : List ℕ) → Passes bytes → HeaderReads bytes (file_at bytes)
unfolding file_at regions_at
header_reads bytes p =
    record {
      letters = p.header.letters;
      version = refl;
      mem_size = refl;
      lists_place = refl;
      lists_size = refl;
      tile_place = refl;
      tile_slots = refl;
      buffers = sym (length_buffers bytes (buffer_count bytes));
      jobs = sym (length_jobs bytes (job_count bytes));
    }

-- The entries and the contents end inside the file.
pub contents_in : (bytes : List ℕ) → Passes bytes → content_offset bytes (buffer_count bytes) ≤ length bytes
contents_in bytes p =
    let first = handles_offset_first bytes in
    let up = parts_end bytes 0 (job_count bytes) (omega arith) in
    let end = p.end in
    omega arith

entries_in : (bytes : List ℕ) → Passes bytes → entry_offset (buffer_count bytes) ≤ length bytes
entries_in bytes p = let some = p.header.some_job in let first = (p.job 0 (omega arith)).size in omega arith

file_tail : (bytes : List ℕ) → IsBytes bytes → Passes bytes → IsTail bytes 0 (file_text (file_at bytes))
unfolding file_text file_at
file_tail bytes fits p =
    let n : ℕ = buffer_count bytes in
    let m : ℕ = job_count bytes in
    let f : FileModel = file_at bytes in
    let parts : List ℕ = flat_map parts_text (jobs_at bytes m) in
    let contents : List ℕ = joined_texts (contents_at bytes n) in
    let jobs : List ℕ = flat_map job_text (jobs_at bytes m) in
    let entries : List ℕ = flat_map buffer_text (buffers_at bytes n) in
    let end = p.end in
    let header : IsPiece bytes 0 36 (header_text f) = header_piece bytes f fits p.header.size (header_reads bytes p) in
    let t6 : IsTail bytes (handles_offset bytes 0) (parts ++ []) = all_parts_tail bytes m [] fits (omega arith) (tail_end bytes (handles_offset bytes m) end) in
    let t5 : IsTail bytes (content_offset bytes n) parts =
    subst (λ at. IsTail bytes at parts) (handles_offset_first bytes) (subst (λ t. IsTail bytes (handles_offset bytes 0) t) (append-nil parts) t6) in
    let t4 : IsTail bytes (job_offset bytes m) (contents ++ parts) = contents_tail bytes n parts (contents_in bytes p) t5 in
    let t3 : IsTail bytes (entry_offset n) (jobs ++ (contents ++ parts)) =
    tail_join bytes (entry_offset n) (124 * m) (job_offset bytes m) jobs (contents ++ parts) refl (jobs_piece bytes m fits p (omega arith) (entries_in bytes p)) t4 in
    let t2 = tail_join bytes 36 (20 * n) (entry_offset n) entries (jobs ++ (contents ++ parts)) refl (buffers_piece bytes n fits p (omega arith)) t3 in
    tail_join bytes 0 36 36 (header_text f) (entries ++ (jobs ++ (contents ++ parts))) refl header t2

pub file_text_found : (bytes : List ℕ) → IsBytes bytes → Passes bytes → bytes ≡ file_text (file_at bytes)
file_text_found bytes fits p = tail_whole bytes (file_text (file_at bytes)) (file_tail bytes fits p)
