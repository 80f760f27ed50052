-- Parts put into a memory, and contents that fit it.
use Rattle.std.proofs.Common.{◌≡◌, ℕ, suc, ◌+◌, ◌<◌, ◌≤◌, List, [], ◌∷◌, ◌++◌, length, get_or, map, refl, sym, ap, subst, arith, ◌∙◌}
use Rattle.std.proofs.lemmas.List.{get_or_default}
use Rattle.field_words.specs.Writes.{Part, parts_placed, with_bytes, zeros}
use Rattle.buffer_table.specs.{declared.buffer.Buffer.Buffer, Table.no_buffer, Table.past_end, Table.buffer_at, Sound.IsSound}
use Rattle.buffer_table.proofs.Sounds.{sound_buffer}
use Rattle.job_format.specs.Model.{FileModel}
use Rattle.job_check.specs.{Shaders.table_of, Emit.ContentsFit}
use Rattle.field_words.proofs.Writes.{length_zeros}

-- Parts put one after the other: first those in front, then the rest.
pub placed-append : (memory : List ℕ) (front rest : List Part) → parts_placed memory (front ++ rest) ≡ parts_placed (parts_placed memory front) rest
placed-append memory [] rest = refl
placed-append memory (part ∷ front) rest = placed-append (with_bytes memory part.place part.bytes) front rest

-- Contents that are as long as the entries say fit where each entry does.
pub fits_by : (size : ℕ) (buffers : List Buffer) (contents : List (List ℕ))
    → ((k : ℕ) → k < length buffers → (get_or buffers k no_buffer).place + (get_or buffers k no_buffer).content ≤ size)
    → map length contents ≡ map (λ b. b.content) buffers → ContentsFit size buffers contents
unfolding ContentsFit
fits_by size [] contents fit same = tt
fits_by size (b ∷ buffers) [] fit same = tt
fits_by size (b ∷ buffers) (c ∷ contents) fit same =
    let here : length c ≡ b.content = cc in
    let rest : map length contents ≡ map (λ b. b.content) buffers = cc in
    let first : b.place + b.content ≤ size = fit 0 (omega arith) in
    (omega (arith, here, first), fits_by size buffers contents (λ k below. fit (suc k) (omega (arith, below))) rest)

-- The contents of a sound table's buffers fit its memory.
pub contents_fit : (f : FileModel) → IsSound f.mem_size f.regions f.buffers → map length f.contents ≡ map (λ b. b.content) f.buffers
    → ContentsFit f.mem_size f.buffers f.contents
unfolding buffer_at
contents_fit f sound same =
    fits_by f.mem_size f.buffers f.contents
    (λ k below. let s = sound_buffer (table_of f) k (get_or f.buffers k no_buffer) sound below (get_or_default f.buffers k no_buffer past_end below) in omega (arith, s.1.inside, s.1.content)) same

-- contents fit the memory and the buffers that the code holds
pub fit_at : (f : FileModel) (m : List ℕ) (buffers : List Buffer) (contents : List (List ℕ)) → m ≡ zeros f.mem_size → buffers ≡ f.buffers → contents ≡ f.contents
    → IsSound f.mem_size f.regions f.buffers → map length f.contents ≡ map (λ b. b.content) f.buffers → ContentsFit (length m) buffers contents
fit_at f m buffers contents a b c sound same =
    subst (λ n. ContentsFit n buffers contents) (sym (ap length a ∙ length_zeros f.mem_size))
    (subst (λ x. ContentsFit f.mem_size x contents) (sym b) (subst (ContentsFit f.mem_size f.buffers) (sym c) (contents_fit f sound same)))
