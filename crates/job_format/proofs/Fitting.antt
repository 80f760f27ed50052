-- A file that is read from bytes has numbers that fit, and is well formed where no rule is broken.
use Rattle.std.proofs.Common.{◌≡◌, ℕ, zero, suc, ◌+◌, ◌*◌, ◌%◌, ◌<◌, ◌≤◌, ◌^◌, List, ◌∷◌, length, map, drop, refl, sym, ap, subst, arith, ◌∙◌}
use Rattle.std.specs.List.{AllByRecursion, range_with_len}
use Rattle.field_words.specs.{Sizes.most_list, Sizes.most_code, Words.IsBytes, Words.u32_at}
use Rattle.field_words.proofs.Numbers.{u16_fits, u32_fits, front_bytes, rest_bytes}
use Rattle.job_format.specs.Offsets.{most_buffers, most_handles, most_jobs, most_first, most_states, version_in, buffer_count, job_count, entry_offset, job_offset, job_word, content_size, content_offset, handles_offset, bin_offset, records_offset, uniforms_offset}
use Rattle.job_format.specs.Reading.{bytes_cut, kind_of, regions_at, surface_at, entry_at, frame_at, words_at, buffers_at, contents_at, job_at, jobs_at, file_at}
use Rattle.job_format.specs.File.{BufferFits, SurfaceFits, FrameFits, JobFits, Fits, FitsShader, IsJobWellFormed, IsFirstVersion, IsWellFormed, IsFileOf}
use Rattle.job_format.proofs.Found.{length_buffers, length_jobs, length_cut, contents_in, job_reads, file_text_found}
use Rattle.job_format.proofs.{Passing.Passes, Standing.content_ends}

-- a fact of each item of a range
all_in : {A : Type 0} (P : A → Type 0) (f : ℕ → A) (a n : ℕ) → ((k : ℕ) → a ≤ k → k < a + n → P (f k)) → AllByRecursion P (map f (range_with_len a n))
all_in P f a zero each = tt
all_in P f a (suc n) each = (each a (omega arith) (omega arith), all_in P f (a + 1) n (λ k from to. each k (omega arith) (omega arith)))

-- two functions of the items of two ranges agree
same_in : {A B : Type 0} (g : A → ℕ) (h : B → ℕ) (f : ℕ → A) (e : ℕ → B) (a n : ℕ) → ((k : ℕ) → a ≤ k → k < a + n → g (f k) ≡ h (e k))
    → map g (map f (range_with_len a n)) ≡ map h (map e (range_with_len a n))
same_in g h f e a zero each = refl
same_in g h f e a (suc n) each =
    ap (λ x. x ∷ map g (map f (range_with_len (a + 1) n))) (each a (omega arith) (omega arith))
    ∙ ap (λ xs. h (e a) ∷ xs) (same_in g h f e (a + 1) n (λ k from to. each k (omega arith) (omega arith)))

cut_bytes : (bytes : List ℕ) (at n : ℕ) → IsBytes bytes → IsBytes (bytes_cut bytes at n)
cut_bytes bytes at n fits = front_bytes n (drop at bytes) (rest_bytes at bytes fits)

entry_fits : (bytes : List ℕ) (at : ℕ) → IsBytes bytes → BufferFits (entry_at bytes at)
unfolding entry_at
entry_fits bytes at fits = record {
  place = u32_fits bytes at fits;
  size = u32_fits bytes (at + 4) fits;
  client = u32_fits bytes (at + 8) fits;
  content = u32_fits bytes (at + 16) fits;
}

surface_fits : (bytes : List ℕ) (at : ℕ) → IsBytes bytes → SurfaceFits (surface_at bytes at)
unfolding surface_at
surface_fits bytes at fits = record {
  hindex = u32_fits bytes at fits;
  offset = u32_fits bytes (at + 4) fits;
  bits = u16_fits bytes (at + 8) fits;
  flags = u16_fits bytes (at + 10) fits;
}

frame_fits : (bytes : List ℕ) (at : ℕ) → IsBytes bytes → FrameFits (frame_at bytes at)
unfolding frame_at
frame_fits bytes at fits = record {
  width = u16_fits bytes (at + 28) fits;
  height = u16_fits bytes (at + 30) fits;
  min_x = fits (at + 32);
  min_y = fits (at + 33);
  max_x = fits (at + 34);
  max_y = fits (at + 35);
  six = refl;
  surfaces = (surface_fits bytes (at + 36) fits, (surface_fits bytes (at + 48) fits, (surface_fits bytes (at + 60) fits, (surface_fits bytes (at + 72) fits, (surface_fits bytes (at + 84) fits, (surface_fits bytes (at + 96) fits, tt))))));
  two = refl;
  clear_color = (u32_fits bytes (at + 108) fits, (u32_fits bytes (at + 112) fits, tt));
  clear_z = u32_fits bytes (at + 116) fits;
  clear_s = fits (at + 120);
}

job_fits : (bytes : List ℕ) (j : ℕ) → IsBytes bytes → JobFits (job_at bytes j)
unfolding job_at words_at
job_fits bytes j fits = record {
  client = u32_fits bytes (job_offset bytes j) fits;
  handles = all_in (λ h. h < 2 ^ 32) (λ i. u32_at bytes (handles_offset bytes j + 4 * i)) 0 (job_word bytes j 8) (λ k from to. u32_fits bytes (handles_offset bytes j + 4 * k) fits);
  bin = cut_bytes bytes (bin_offset bytes j) (job_word bytes j 12) fits;
  records = cut_bytes bytes (records_offset bytes j) (job_word bytes j 16) fits;
  declared = u32_fits bytes (job_offset bytes j + 20) fits;
  uniforms = cut_bytes bytes (uniforms_offset bytes j) (job_word bytes j 24) fits;
  frame = frame_fits bytes (job_offset bytes j) fits;
}

file_fits : (bytes : List ℕ) → IsBytes bytes → Fits (file_at bytes)
unfolding file_at regions_at buffers_at contents_at jobs_at
file_fits bytes fits = record {
  version = u32_fits bytes 4 fits;
  mem_size = u32_fits bytes 8 fits;
  regions = record { lists_place = u32_fits bytes 12 fits; lists_size = u32_fits bytes 16 fits; tile_place = u32_fits bytes 20 fits; tile_slots = u32_fits bytes 24 fits };
  buffers = all_in BufferFits (λ b. entry_at bytes (entry_offset b)) 0 (buffer_count bytes) (λ k from to. entry_fits bytes (entry_offset k) fits);
  contents = all_in IsBytes (λ b. bytes_cut bytes (content_offset bytes b) (content_size bytes b)) 0 (buffer_count bytes) (λ k from to. cut_bytes bytes (content_offset bytes k) (content_size bytes k) fits);
  jobs = all_in JobFits (job_at bytes) 0 (job_count bytes) (λ j from to. job_fits bytes j fits);
}

fits_shader : (kind size : ℕ) → kind ≤ 1 → (kind ≡ 1 → size ≤ most_code) → FitsShader (kind_of kind) size
fits_shader zero size small limit = tt
fits_shader (suc zero) size small limit = limit refl
fits_shader (suc (suc n)) size small limit = absurd (omega (arith, small))

job_well_formed : (bytes : List ℕ) (j : ℕ) → Passes bytes → j < job_count bytes → IsJobWellFormed (job_at bytes j)
job_well_formed bytes j p below =
    let r = job_reads bytes j p below in
    let passes = p.job j below in
    record {
      handles = subst (λ n. n ≤ most_handles) r.handles passes.handles;
      bin = subst (λ n. n ≤ most_list) r.bin passes.bin;
      records = subst (λ n. n ≤ most_list) r.records passes.records;
      declared = subst (λ n. n ≤ most_states) r.declared passes.declared;
      uniforms = subst (λ n. n ≤ most_list) r.uniforms passes.uniforms;
      whole_words = subst (λ n. n % 4 ≡ 0) r.uniforms passes.whole_words;
    }

first_version : (bytes : List ℕ) → Passes bytes → version_in bytes ≡ 1 → IsFirstVersion (file_at bytes)
unfolding file_at jobs_at
first_version bytes p first = record {
  buffers = subst (λ k. k ≤ most_first) (sym (length_buffers bytes (buffer_count bytes))) (p.header.first_buffers first);
  one_job = length_jobs bytes (job_count bytes) ∙ p.header.first_jobs first;
  handles = all_in (λ j. length j.handles ≤ most_first) (job_at bytes) 0 (job_count bytes)
      (λ j from to. subst (λ n. n ≤ most_first) (job_reads bytes j p (omega arith)).handles ((p.job j (omega arith)).first_handles first));
}

file_well_formed : (bytes : List ℕ) → Passes bytes → IsWellFormed (file_at bytes)
unfolding file_at regions_at buffers_at contents_at jobs_at entry_at
file_well_formed bytes p =
    let n : ℕ = buffer_count bytes in
    let inside = contents_in bytes p in
    let h = p.header in
    let jobs : length (jobs_at bytes (job_count bytes)) ≡ job_count bytes = length_jobs bytes (job_count bytes) in
    record {
      a_version = h.a_version;
      known = h.known;
      first = first_version bytes p;
      slots = λ later some. subst (λ k. k ≤ u32_at bytes 24) (sym jobs) (h.slots later some);
      buffers = subst (λ k. k ≤ most_buffers) (sym (length_buffers bytes n)) h.buffers;
      code = all_in (λ b. FitsShader b.kind b.content) (λ b. entry_at bytes (entry_offset b)) 0 n
          (λ k from to. let e = p.entry k (omega arith) in fits_shader (u32_at bytes (entry_offset k + 12)) (u32_at bytes (entry_offset k + 16)) e.kind e.code);
      contents = same_in length (λ b. b.content) (λ b. bytes_cut bytes (content_offset bytes b) (content_size bytes b)) (λ b. entry_at bytes (entry_offset b)) 0 n
          (λ k from to. let ends = content_ends bytes k n (omega arith) in length_cut bytes (content_offset bytes k) (content_size bytes k) (omega arith));
      some_job = subst (λ k. 1 ≤ k) (sym jobs) h.some_job;
      few_jobs = subst (λ k. k ≤ most_jobs) (sym jobs) h.few_jobs;
      jobs = all_in IsJobWellFormed (job_at bytes) 0 (job_count bytes) (λ j from to. job_well_formed bytes j p (omega arith));
    }

-- The bytes are the file that they hold.
pub is_file : (bytes : List ℕ) → IsBytes bytes → Passes bytes → IsFileOf bytes (file_at bytes)
is_file bytes fits p = record { fits = file_fits bytes fits; well_formed = file_well_formed bytes p; text = file_text_found bytes fits p }
