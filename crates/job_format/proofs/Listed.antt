-- Lists that are read item by item: none, and one more.
use Rattle.std.proofs.Common.{◌≡◌, ℕ, ◌+◌, ◌*◌, List, [], ◌∷◌, ◌++◌, map, refl, ap, ◌∙◌, zero-add}
use Rattle.std.proofs.{lemmas.List.map-append, lemmas.List.FromFn.map-range_with_len_more}
use Rattle.field_words.specs.Words.{u32_at}
use Rattle.job_format.specs.Reading.{bytes_cut, entry_at, words_at, buffers_at, contents_at, job_at, jobs_at}
use Rattle.job_format.specs.Offsets.{entry_offset, content_size, content_offset}

pub words_none : (bytes : List ℕ) (at : ℕ) → words_at bytes at 0 ≡ []
unfolding words_at
words_none bytes at = refl

pub words_more : (bytes : List ℕ) (at n : ℕ) → words_at bytes at (n + 1) ≡ words_at bytes at n ++ (u32_at bytes (at + 4 * n) ∷ [])
unfolding words_at
words_more bytes at n = map-range_with_len_more (λ i. u32_at bytes (at + 4 * i)) 0 n n (zero-add n)

pub buffers_none : (bytes : List ℕ) → buffers_at bytes 0 ≡ []
unfolding buffers_at
buffers_none bytes = refl

pub buffers_more : (bytes : List ℕ) (n : ℕ) → buffers_at bytes (n + 1) ≡ buffers_at bytes n ++ (entry_at bytes (entry_offset n) ∷ [])
unfolding buffers_at
buffers_more bytes n = map-range_with_len_more (λ b. entry_at bytes (entry_offset b)) 0 n n (zero-add n)

pub contents_none : (bytes : List ℕ) → contents_at bytes 0 ≡ []
unfolding contents_at
contents_none bytes = refl

pub contents_more : (bytes : List ℕ) (n : ℕ) → contents_at bytes (n + 1) ≡ contents_at bytes n ++ (bytes_cut bytes (content_offset bytes n) (content_size bytes n) ∷ [])
unfolding contents_at
contents_more bytes n = map-range_with_len_more (λ b. bytes_cut bytes (content_offset bytes b) (content_size bytes b)) 0 n n (zero-add n)

pub jobs_none : (bytes : List ℕ) → jobs_at bytes 0 ≡ []
unfolding jobs_at
jobs_none bytes = refl

pub jobs_more : (bytes : List ℕ) (n : ℕ) → jobs_at bytes (n + 1) ≡ jobs_at bytes n ++ (job_at bytes n ∷ [])
unfolding jobs_at
jobs_more bytes n = map-range_with_len_more (job_at bytes) 0 n n (zero-add n)

-- One more of the values, as they are seen.
pub one_more_seen : {V W : Type 0} (view : V → W) (old new : List V) (v : V) (seen : List W) (w : W) → new ≡ old ++ v ∷ [] → map view old ≡ seen → view v ≡ w → map view new ≡ seen ++ w ∷ []
one_more_seen view old new v seen w pushed before one =
    ap (map view) pushed ∙ map-append view old (v ∷ []) ∙ ap (λ front. front ++ view v ∷ []) before ∙ ap (λ last. seen ++ last ∷ []) one
