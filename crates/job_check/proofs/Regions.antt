-- The region of the lists, job by job, and the memory that has it.
use Rattle.std.proofs.Common.{◌≡◌, ℕ, zero, suc, ◌+◌, ◌-◌, ◌<◌, ◌≤◌, List, [], ◌∷◌, ◌++◌, length, get_or, map, take, drop, ◌⊎◌, inl, inr, refl, sym, ap, subst, arith, ◌∙◌}
use Rattle.std.proofs.lemmas.Grind.{common_steps}
use Rattle.std.proofs.lemmas.List.{places, same_lists, length-map, length-append}
use Rattle.field_words.specs.Writes.{Part, parts_placed, with_bytes, zeros, memory_emitted}
use Rattle.field_words.proofs.Writes.{length-with_bytes}
use Rattle.phys_mem.specs.Window.{window_of, with_window}
use Rattle.buffer_table.specs.{declared.buffer.Buffer.Buffer, declared.item.Item.Item, Sound.IsSound, Sound.AreApart}
use Rattle.buffer_table.specs.Table.{no_buffer, item_at, items_of, buffer_item}
use Rattle.buffer_table.proofs.Sounds.{item_of_entry}
use Rattle.job_format.specs.Model.{FileModel}
use Rattle.relocation.specs.Layout.{region_end}
use Rattle.job_check.specs.Emit.{PartsFit, parts_moved, list_parts, memory_parts, jobs_parts, memory_of, content_parts}
use Rattle.job_check.specs.Jobs.{lists_begin, layout_of, lists_room}
use Rattle.job_check.specs.Region.{region_size, region_from, region_parts, regions_parts, region_of}
use Rattle.job_check.proofs.{Emission.placed-append, Layouts.begin_from, Layouts.next_begins, Layouts.lists_inside}
use Rattle.job_check.proofs.Windows.{window_placed, length_placed}
use Rattle.phys_mem.proofs.Parts.{window_long}

-- Writes into a list don't touch what is behind it.
write_grown : (m behind : List ℕ) (at : ℕ) (bytes : List ℕ) → at + length bytes ≤ length m → with_bytes (m ++ behind) at bytes ≡ with_bytes m at bytes ++ behind
write_grown m behind at bytes fits = same_lists _ _ (grind (arith, places)) (λ k d h. grind (arith, places))

pub placed_grown : (m behind : List ℕ) (parts : List Part) → PartsFit (length m) parts → parts_placed (m ++ behind) parts ≡ parts_placed m parts ++ behind
placed_grown m behind [] fit = refl
placed_grown m behind (part ∷ parts) fit =
    let after : List ℕ = with_bytes m part.place part.bytes in
    let same : length after ≡ length m = length-with_bytes m part.place part.bytes fit.0 in
    ap (λ x. parts_placed x parts) (write_grown m behind part.place part.bytes fit.0)
    ∙ placed_grown after behind parts (subst (λ n. PartsFit n parts) (sym same) fit.1)

pub zeros_grown : (a b : ℕ) → a ≤ b → zeros a ++ zeros (b - a) ≡ zeros b
unfolding zeros
zeros_grown a b below = same_lists _ _ (grind (arith, places)) (λ k d h. grind (arith, places))

pub zeros_long : (n : ℕ) → length (zeros n) ≡ n
unfolding zeros
zeros_long n = grind (arith, places)

pub emitted_grown : (a b : ℕ) (parts : List Part) → a ≤ b → PartsFit a parts → memory_emitted a parts ++ zeros (b - a) ≡ memory_emitted b parts
emitted_grown a b parts below fit =
    sym (placed_grown (zeros a) (zeros (b - a)) parts (subst (λ n. PartsFit n parts) (sym (zeros_long a)) fit))
    ∙ ap (λ z. parts_placed z parts) (zeros_grown a b below)

-- parts that fit
pub fit_more : (a b : ℕ) (parts : List Part) → a ≤ b → PartsFit a parts → PartsFit b parts
fit_more a b [] below fit = tt
fit_more a b (part ∷ parts) below fit = (omega (arith, below, fit.0), fit_more a b parts below fit.1)

pub fit_moved : (by len size : ℕ) (parts : List Part) → by + len ≤ size → PartsFit len parts → PartsFit size (parts_moved by parts)
fit_moved by len size [] room fit = tt
fit_moved by len size (part ∷ parts) room fit = (omega (arith, room, fit.0), fit_moved by len size parts room fit.1)

pub fit_append : (size : ℕ) (front rest : List Part) → PartsFit size front → PartsFit size rest → PartsFit size (front ++ rest)
fit_append size [] rest a b = b
fit_append size (part ∷ front) rest a b = (a.0, fit_append size front rest a.1 b)

-- parts that are moved
moved_append : (by : ℕ) (front rest : List Part) → parts_moved by (front ++ rest) ≡ parts_moved by front ++ parts_moved by rest
moved_append by [] rest = refl
moved_append by (part ∷ front) rest = ap (λ parts. record { place = by + part.place; bytes = part.bytes } ∷ parts) (moved_append by front rest)

moved_twice : (a b : ℕ) (parts : List Part) → parts_moved a (parts_moved b parts) ≡ parts_moved (a + b) parts
moved_twice a b [] = refl
moved_twice a b (part ∷ parts) =
    let one : a + (b + part.place) ≡ a + b + part.place = omega arith in
    ap (λ k. record { place = k; bytes = part.bytes } ∷ parts_moved a (parts_moved b parts)) one
    ∙ ap (λ ps. record { place = a + b + part.place; bytes = part.bytes } ∷ ps) (moved_twice a b parts)

-- the lists of a job, in the region and in the memory
pub from_is : (f : FileModel) (j : ℕ) → f.regions.lists_place + region_from f j ≡ (layout_of f j).place
unfolding layout_of
from_is f j = omega (arith, begin_from f j)

region_moved : (f : FileModel) (j : ℕ) → parts_moved f.regions.lists_place (region_parts f j) ≡ memory_parts f j
unfolding region_parts memory_parts
region_moved f j = moved_twice f.regions.lists_place (region_from f j) (list_parts f j) ∙ ap (λ k. parts_moved k (list_parts f j)) (from_is f j)

pub regions_moved : (f : FileModel) (n : ℕ) → parts_moved f.regions.lists_place (regions_parts f n) ≡ jobs_parts f n
unfolding regions_parts jobs_parts
regions_moved f zero = refl
regions_moved f (suc n) =
    moved_append f.regions.lists_place (regions_parts f n) (region_parts f n)
    ∙ ap (λ parts. parts ++ parts_moved f.regions.lists_place (region_parts f n)) (regions_moved f n)
    ∙ ap (λ parts. jobs_parts f n ++ parts) (region_moved f n)

-- Each job's lists lie behind those before.
pub size_more : (f : FileModel) (n : ℕ) → region_size f (suc n) ≡ region_from f n + (layout_of f n).end
unfolding region_size layout_of
size_more f n = omega (arith, begin_from f n)

pub size_before : (f : FileModel) (n : ℕ) → region_size f n ≤ region_from f n
unfolding region_size layout_of lists_begin lists_room
size_before f zero = omega arith
size_before f (suc n) = omega (arith, next_begins f n, begin_from f n)

pub size_next : (f : FileModel) (j : ℕ) → region_size f (j + 1) ≡ region_from f j + (layout_of f j).end
size_next f j = let one : j + 1 ≡ suc j = omega arith in ap (region_size f) one ∙ size_more f j

-- The region grown by zeros has room for the lists of job j, and nothing behind them.
pub grown_long : (f : FileModel) (j : ℕ) (old grown : List ℕ) → length old ≡ region_size f j → grown ≡ old ++ zeros (region_from f j + (layout_of f j).end - length old)
    → region_from f j + (layout_of f j).end ≡ length grown
grown_long f j old grown size is =
    let extra = zeros_long (region_from f j + (layout_of f j).end - length old) in
    omega (arith, size, size_before f j, extra, ap length is, length-append old (zeros (region_from f j + (layout_of f j).end - length old)))

-- The lists of a job written into the rest of the region are that job's parts.
rest_joined : (m : List ℕ) (from len : ℕ) (inside : List ℕ) → from + len ≡ length m → length inside ≡ len
    → take from m ++ (inside ++ drop len (drop from m)) ≡ with_window m from inside
rest_joined m from len inside whole long = grind (arith, common_steps)

pub rest_placed : (m : List ℕ) (from len : ℕ) (parts : List Part) → from + len ≡ length m → PartsFit len parts
    → take from m ++ (parts_placed (window_of m from len) parts ++ drop len (drop from m)) ≡ parts_placed m (parts_moved from parts)
rest_placed m from len parts whole fit =
    let fits : from + len ≤ length m = omega (arith, whole) in
    let wide = window_long m from len fits in
    let long = length_placed (window_of m from len) parts (subst (λ n. PartsFit n parts) (sym wide) fit) ∙ wide in
    rest_joined m from len (parts_placed (window_of m from len) parts) whole long ∙ window_placed m from len parts fits fit

-- what a list of the same length leaves of another
pub kept : (n : ℕ) (new old : List ℕ) → n ≡ length old → length new ≡ length old → take n (new ++ drop (length new) old) ≡ new
kept n new old whole long = same_lists _ _ (grind (arith, places)) (λ k d h. grind (arith, places))

-- What lies outside a window leaves it as it was.
abbrev AllOutside : ℕ → ℕ → ℕ → List Part → Type 0
AllOutside size place len [] = Unit {0}
AllOutside size place len (part ∷ parts) = (part.place + length part.bytes ≤ size) × ((part.place + length part.bytes ≤ place) ⊎ (place + len ≤ part.place)) × AllOutside size place len parts

write_outside : (m : List ℕ) (place len at : ℕ) (bytes : List ℕ) → place + len ≤ length m → at + length bytes ≤ length m → (at + length bytes ≤ place) ⊎ (place + len ≤ at)
    → window_of (with_bytes m at bytes) place len ≡ window_of m place len
write_outside m place len at bytes inside fits (inl before) = same_lists _ _ (grind (arith, places)) (λ k d h. grind (arith, places))
write_outside m place len at bytes inside fits (inr behind) = same_lists _ _ (grind (arith, places)) (λ k d h. grind (arith, places))

placed_outside : (m : List ℕ) (place len : ℕ) (parts : List Part) → place + len ≤ length m → AllOutside (length m) place len parts
    → window_of (parts_placed m parts) place len ≡ window_of m place len
placed_outside m place len [] inside out = refl
placed_outside m place len (part ∷ parts) inside out =
    let after : List ℕ = with_bytes m part.place part.bytes in
    let same : length after ≡ length m = length-with_bytes m part.place part.bytes out.0 in
    placed_outside after place len parts (omega (arith, inside, same)) (subst (λ n. AllOutside n place len parts) (sym same) out.2)
    ∙ write_outside m place len part.place part.bytes inside out.0 out.1

-- The contents of a sound table's buffers lie outside the lists' region.
outside_by : (size place len : ℕ) (buffers : List Buffer) (contents : List (List ℕ))
    → ((k : ℕ) → k < length buffers → ((get_or buffers k no_buffer).place + (get_or buffers k no_buffer).content ≤ size)
    × (((get_or buffers k no_buffer).place + (get_or buffers k no_buffer).content ≤ place) ⊎ (place + len ≤ (get_or buffers k no_buffer).place)))
    → map length contents ≡ map (λ b. b.content) buffers → AllOutside size place len (content_parts buffers contents)
unfolding content_parts
outside_by size place len [] contents fit same = tt
outside_by size place len (b ∷ buffers) [] fit same = tt
outside_by size place len (b ∷ buffers) (c ∷ contents) fit same =
    let here : length c ≡ b.content = cc in
    let rest : map length contents ≡ map (λ b. b.content) buffers = cc in
    let first : (b.place + length c ≤ size) × ((b.place + length c ≤ place) ⊎ (place + len ≤ b.place)) =
    subst (λ n. (b.place + n ≤ size) × ((b.place + n ≤ place) ⊎ (place + len ≤ b.place))) (sym here) (fit 0 (omega arith)) in
    (first.0, first.1, outside_by size place len buffers contents (λ k below. fit (suc k) (omega (arith, below))) rest)

one_outside : (f : FileModel) (len k : ℕ) → IsSound f.mem_size f.regions f.buffers → len ≤ f.regions.lists_size → k < length f.buffers
    → ((get_or f.buffers k no_buffer).place + (get_or f.buffers k no_buffer).content ≤ f.mem_size)
    × (((get_or f.buffers k no_buffer).place + (get_or f.buffers k no_buffer).content ≤ f.regions.lists_place) ⊎ (f.regions.lists_place + len ≤ (get_or f.buffers k no_buffer).place))
one_outside f len k sound small below =
    let items = items_of f.regions f.buffers in
    let inside : k + 2 < length items = rw length-map (omega (arith, below)) in
    let back : k + 2 - 2 ≡ k = omega arith in
    let is : item_at items (k + 2) ≡ buffer_item (get_or f.buffers k no_buffer) = item_of_entry f.regions f.buffers (k + 2) no_buffer (omega arith) (omega (arith, below)) ∙ ap (λ i. buffer_item (get_or f.buffers i no_buffer)) back in
    let good = subst (λ (x : Item). (x.place + x.size ≤ f.mem_size) × (x.content ≤ x.size)) is (let s = sound.each_item (k + 2) inside in (s.inside, s.content)) in
    let apart : AreApart (item_at items 0) (buffer_item (get_or f.buffers k no_buffer)) = subst (AreApart (item_at items 0)) is (sound.apart 0 (k + 2) (omega arith) inside) in (
      omega (arith, good.0, good.1),
      elim apart [
        | inl behind ↦ inr (omega (arith, behind, small))
        | inr before ↦ inl (omega (arith, before, good.1))
      ],
    )

window_zeros : (size place len : ℕ) → place + len ≤ size → window_of (zeros size) place len ≡ zeros len
unfolding zeros
window_zeros size place len inside = same_lists _ _ (grind (arith, places)) (λ k d h. grind (arith, places))

-- Written at a place, and put into a window.
write_window : (m : List ℕ) (place : ℕ) (bytes : List ℕ) → place + length bytes ≤ length m → with_bytes m place bytes ≡ with_window m place bytes
write_window m place bytes fits = same_lists _ _ (grind (arith, places)) (λ k d h. grind (arith, places))

region_long : (f : FileModel) → PartsFit (region_size f (length f.jobs)) (regions_parts f (length f.jobs)) → length (region_of f) ≡ region_size f (length f.jobs)
unfolding region_of
region_long f fit =
    let size = region_size f (length f.jobs) in
    let blank = zeros_long size in
    length_placed (zeros size) (regions_parts f (length f.jobs)) (subst (λ k. PartsFit k (regions_parts f (length f.jobs))) (sym blank) fit) ∙ blank

-- The contents, and the region written once: the memory of the file.
pub memory_made : (f : FileModel) (fresh : List ℕ) → fresh ≡ memory_emitted f.mem_size (content_parts f.buffers f.contents) → length fresh ≡ f.mem_size
    → IsSound f.mem_size f.regions f.buffers → map length f.contents ≡ map (λ b. b.content) f.buffers
    → f.regions.lists_place + length (region_of f) ≤ region_end f.regions → PartsFit (region_size f (length f.jobs)) (regions_parts f (length f.jobs))
    → with_bytes fresh f.regions.lists_place (region_of f) ≡ memory_of f
unfolding memory_of region_of
memory_made f fresh is long sound same fits parts_fit =
    let size = region_long f parts_fit in
    let n = length f.jobs in
    let place = f.regions.lists_place in
    let len = region_size f n in
    let contents = content_parts f.buffers f.contents in
    let inside : place + len ≤ f.mem_size = omega (arith, lists_inside f sound, fits, size) in
    let zero_size = zeros_long f.mem_size in
    let out = outside_by f.mem_size place len f.buffers f.contents (λ k below. one_outside f len k sound (omega (arith, fits, size)) below) same in
    let blank : window_of fresh place len ≡ zeros len =
    ap (λ m. window_of m place len) is
    ∙ placed_outside (zeros f.mem_size) place len contents (omega (arith, inside, zero_size)) (subst (λ k. AllOutside k place len contents) (sym zero_size) out)
    ∙ window_zeros f.mem_size place len inside in
    write_window fresh place (memory_emitted len (regions_parts f n)) (omega (arith, inside, size, long))
    ∙ ap (λ w. with_window fresh place (parts_placed w (regions_parts f n))) (sym blank)
    ∙ window_placed fresh place len (regions_parts f n) (omega (arith, inside, long)) parts_fit
    ∙ ap (parts_placed fresh) (regions_moved f n)
    ∙ ap (λ m. parts_placed m (jobs_parts f n)) is
    ∙ sym (placed-append (zeros f.mem_size) contents (jobs_parts f n))
