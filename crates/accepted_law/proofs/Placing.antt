-- Parts that are put into a memory one after the other: what stands there at the end.
use Rattle.std.proofs.Common.{◌≡◌, ◌⊎◌, ℕ, zero, suc, ◌+◌, ◌<◌, ◌≤◌, List, [], ◌∷◌, ◌++◌, length, get_or, slice_index, refl, sym, ap, subst, arith, ◌∙◌, rules}
use Rattle.std.proofs.lemmas.{Grind.common_steps, Bool.Decides.nat_tests}
use Rattle.field_words.specs.Writes.{Part, parts_placed, with_bytes}
use Rattle.field_words.proofs.Writes.{length-with_bytes, with_bytes-before, with_bytes-behind, with_bytes-inside}
use Rattle.buffer_table.specs.{declared.buffer.Buffer.Buffer, Table.past_end}
use Rattle.machine_plan.specs.Memory.{bytes_at}
use Rattle.job_check.specs.Emit.{PartsFit, ContentsFit, content_parts}

-- bytes that are those of a text one by one
pub bytes_are : (m : List ℕ) (place : ℕ) (text : List ℕ) → ((i : ℕ) → i < length text → slice_index m (place + i) ≡ slice_index text i) → bytes_at m place (length text) ≡ text
unfolding bytes_at
bytes_are m place [] same = refl
bytes_are m place (x ∷ text) same =
    let rest : bytes_at m (suc place) (length text) ≡ text =
    bytes_are m (suc place) text (λ i below. let e : suc place + i ≡ place + suc i = omega arith in ap (slice_index m) e ∙ same (suc i) (omega (arith, below))) in
    ap (λ y. y ∷ bytes_at m (suc place) (length text)) (ap (slice_index m) (omega arith) ∙ same 0 (omega arith)) ∙ ap (λ ys. x ∷ ys) rest

-- no byte of the n from a place on is at q
abbrev pub IsClear : (q place n : ℕ) → Type 0
IsClear q place n = (q < place) ⊎ (place + n ≤ q)

-- none of the parts touches the byte at q
abbrev pub Misses : ℕ → List Part → Type 0
Misses q [] = Unit {0}
Misses q (part ∷ parts) = IsClear q part.place (length part.bytes) × Misses q parts

with_kept : (m : List ℕ) (place : ℕ) (bytes : List ℕ) (q : ℕ) → place + length bytes ≤ length m → IsClear q place (length bytes)
    → slice_index (with_bytes m place bytes) q ≡ slice_index m q
with_kept m place bytes q fits h5 = search (rules, arith, with_bytes-before, with_bytes-behind)

fit_after : (m : List ℕ) (place : ℕ) (bytes : List ℕ) (parts : List Part) → place + length bytes ≤ length m → PartsFit (length m) parts → PartsFit (length (with_bytes m place bytes)) parts
fit_after m place bytes parts fits rest = subst (λ n. PartsFit n parts) (sym (length-with_bytes m place bytes fits)) rest

-- A byte that no part of two lists touches.
pub misses_append : (q : ℕ) (front rest : List Part) → Misses q front → Misses q rest → Misses q (front ++ rest)
misses_append q [] rest one two = two
misses_append q (part ∷ front) rest one two = (one.0, misses_append q front rest one.1 two)

-- A byte that no part touches stays.
pub placed_kept : (m : List ℕ) (parts : List Part) (q : ℕ) → PartsFit (length m) parts → Misses q parts → slice_index (parts_placed m parts) q ≡ slice_index m q
placed_kept m [] q fit misses = refl
placed_kept m (part ∷ parts) q fit misses = search (rules, arith, fit_after, with_kept, placed_kept (with_bytes m part.place part.bytes) parts q (fit_after m part.place part.bytes parts fit.0 fit.1) misses.1)

-- A byte of the first part stands, where no later part touches it.
pub placed_first : (m : List ℕ) (part : Part) (parts : List Part) (i : ℕ) → PartsFit (length m) (part ∷ parts) → i < length part.bytes → Misses (part.place + i) parts
    → slice_index (parts_placed m (part ∷ parts)) (part.place + i) ≡ slice_index part.bytes i
placed_first m part parts i fit below misses = grind (arith, common_steps, nat_tests, placed_kept, fit_after, with_bytes-inside)

-- Parts fit that are those of two lists that do.
pub fit_append : (size : ℕ) (front rest : List Part) → PartsFit size front → PartsFit size rest → PartsFit size (front ++ rest)
fit_append size [] rest one two = two
fit_append size (part ∷ front) rest one two = (one.0, fit_append size front rest one.1 two)

pub contents_parts_fit : (size : ℕ) (buffers : List Buffer) (contents : List (List ℕ)) → ContentsFit size buffers contents → PartsFit size (content_parts buffers contents)
unfolding ContentsFit content_parts
contents_parts_fit size [] contents fit = tt
contents_parts_fit size (buffer ∷ buffers) [] fit = tt
contents_parts_fit size (buffer ∷ buffers) (content ∷ contents) fit = (fit.0, contents_parts_fit size buffers contents fit.1)

-- A byte that the contents of no buffer hold, and none of the rest.
pub misses_contents : (q : ℕ) (buffers : List Buffer) (contents : List (List ℕ)) (rest : List Part)
    → ((k : ℕ) → k < length buffers → k < length contents → IsClear q (get_or buffers k past_end).place (length (get_or contents k [])))
    → Misses q rest → Misses q (content_parts buffers contents ++ rest)
unfolding content_parts
misses_contents q [] contents rest clear misses = misses
misses_contents q (buffer ∷ buffers) [] rest clear misses = misses
misses_contents q (buffer ∷ buffers) (content ∷ contents) rest clear misses =
    (clear 0 (omega arith) (omega arith), misses_contents q buffers contents rest (λ k one two. clear (suc k) (omega (arith, one)) (omega (arith, two))) misses)

-- A byte of the contents of buffer k stands, where those of no later buffer and none of the rest hold it.
pub content_lies : (m : List ℕ) (buffers : List Buffer) (contents : List (List ℕ)) (rest : List Part) (k i q : ℕ)
    → PartsFit (length m) (content_parts buffers contents ++ rest) → k < length buffers → k < length contents → i < length (get_or contents k [])
    → q ≡ (get_or buffers k past_end).place + i
    → ((j : ℕ) → k < j → j < length buffers → j < length contents → IsClear q (get_or buffers j past_end).place (length (get_or contents j [])))
    → Misses q rest
    → slice_index (parts_placed m (content_parts buffers contents ++ rest)) q ≡ slice_index (get_or contents k []) i
unfolding content_parts
content_lies m [] contents rest k i q fit one two below at clear misses = absurd (omega (arith, one))
content_lies m (buffer ∷ buffers) [] rest k i q fit one two below at clear misses = absurd (omega (arith, two))
content_lies m (buffer ∷ buffers) (content ∷ contents) rest zero i q fit one two below at clear misses =
    ap (slice_index (parts_placed m (content_parts (buffer ∷ buffers) (content ∷ contents) ++ rest))) at
    ∙ placed_first m (record { place = buffer.place; bytes = content }) (content_parts buffers contents ++ rest) i fit below
    (subst (λ p. Misses p (content_parts buffers contents ++ rest)) at
    (misses_contents q buffers contents rest (λ j first second. clear (suc j) (omega arith) (omega (arith, first)) (omega (arith, second))) misses))
content_lies m (buffer ∷ buffers) (content ∷ contents) rest (suc k) i q fit one two below at clear misses =
    content_lies (with_bytes m buffer.place content) buffers contents rest k i q
    (fit_after m buffer.place content (content_parts buffers contents ++ rest) fit.0 fit.1)
    (omega (arith, one)) (omega (arith, two)) below at
    (λ j less first second. clear (suc j) (omega (arith, less)) (omega (arith, first)) (omega (arith, second))) misses

-- A byte of a part stands, where no part behind it touches it.
pub placed_part : (m : List ℕ) (front : List Part) (part : Part) (rest : List Part) (i : ℕ) → PartsFit (length m) (front ++ (part ∷ rest)) → i < length part.bytes
    → Misses (part.place + i) rest → slice_index (parts_placed m (front ++ (part ∷ rest))) (part.place + i) ≡ slice_index part.bytes i
placed_part m [] part rest i fit below misses = placed_first m part rest i fit below misses
placed_part m (first ∷ front) part rest i fit below misses = search (rules, arith, fit_after, placed_part (with_bytes m first.place first.bytes) front part rest i (fit_after m first.place first.bytes (front ++ (part ∷ rest)) fit.0 fit.1) below misses)
