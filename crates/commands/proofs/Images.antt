-- The memory of an accepted file is zero but for the contents of its buffers and its lists, which lie apart.
use Rattle.std.proofs.Common.{◌≡◌, ℕ, zero, suc, ◌+◌, ◌-◌, ◌/◌, ◌%◌, ◌<◌, ◌≤◌, inl, inr, List, [], ◌∷◌, ◌++◌, length, take, drop, drop-cons, length-append, get_or, map, refl, sym, ap, subst, ◌∙◌, append-nil, arith}
use Rattle.std.proofs.lemmas.List.{length-map}
use Rattle.std.specs.Prelude.{codes}
use Rattle.field_words.specs.Writes.{Part, zeros, memory_emitted}
use Rattle.buffer_table.specs.{declared.buffer.Buffer.Buffer, declared.item.Item.Item, Sound.IsSound, Sound.IsSoundItem, Sound.AreApart}
use Rattle.buffer_table.specs.Table.{no_buffer, item_at, items_of, lists_item, buffer_item}
use Rattle.buffer_table.proofs.Sounds.{item_of_entry}
use Rattle.job_format.specs.{Model.FileModel, File.IsWellFormed}
use Rattle.relocation.specs.{Layout.region_end, declared.layout.Layout.Layout, declared.layout.Lengths.Lengths}
use Rattle.job_check.specs.{Emit.content_parts, Emit.memory_of, Emit.all_lengths_of, Jobs.layouts_of, Region.region_of, Region.IsRegion}
use Rattle.job_check.specs.declared.region.Region.{Region}
use Rattle.job_check.proofs.{Counted.as_many_layouts, Counted.as_many_lengths, Emission.placed-append, Regions.memory_made}
use Rattle.dumper.specs.Parts.{part_at, part_end, parts_text, part_inserted, parts_sorted, Ascend, RowsApart, ApartFrom, AllApart}
use Rattle.dumper.specs.Text.{rows_text, head_text, accepted_text, AreOfVersion}
use Rattle.dumper.proofs.Sorting.{rows_of_sorted, emitted_long, ascend_sorted, ascend_more}
use Rattle.commands.specs.{Verdict.image_of, Reply.rest_text}

-- Parts in items that lie apart lie in rows apart.
part_inside : (memory : ℕ) (x : Item) (bytes : List ℕ) → IsSoundItem memory x → length bytes ≤ x.size → part_end (part_at x.place bytes) ≤ x.place + x.size
part_inside memory x bytes sound fits = omega (arith, sound.size, fits)

rows_apart : (memory : ℕ) (x y : Item) (a b : List ℕ) → IsSoundItem memory x → IsSoundItem memory y → length a ≤ x.size → length b ≤ y.size → AreApart x y
    → RowsApart (part_at x.place a) (part_at y.place b)
rows_apart memory x y a b sx sy fits fits2 (inl before) =
    let h = part_inside memory x a sx fits in
    inl (omega (arith, before, sx.not_empty), omega (arith, before, h))
rows_apart memory x y a b sx sy fits fits2 (inr behind) =
    let h = part_inside memory y b sy fits2 in
    inr (omega (arith, behind, sy.not_empty), omega (arith, behind, h))

-- One part, and contents that lie apart from it.
from_one : (memory : ℕ) (x : Item) (a : List ℕ) (buffers : List Buffer) (contents : List (List ℕ)) (tail : List Part) → IsSoundItem memory x → length a ≤ x.size
    → ((k : ℕ) → k < length buffers → IsSoundItem memory (buffer_item (get_or buffers k no_buffer)))
    → ((k : ℕ) → k < length buffers → AreApart x (buffer_item (get_or buffers k no_buffer)))
    → map length contents ≡ map (λ b. b.content) buffers → ApartFrom (part_at x.place a) tail → ApartFrom (part_at x.place a) (content_parts buffers contents ++ tail)
unfolding content_parts
from_one memory x a [] contents tail sx fits each apart same behind = behind
from_one memory x a (b ∷ buffers) [] tail sx fits each apart same behind = behind
from_one memory x a (b ∷ buffers) (c ∷ contents) tail sx fits each apart same behind =
    let here : length c ≡ b.content = cc in
    let rest : map length contents ≡ map (λ b. b.content) buffers = cc in
    let first : IsSoundItem memory (buffer_item b) = each 0 (omega arith) in
    let small : length c ≤ b.size = omega (arith, here, first.content) in (
      rows_apart memory x (buffer_item b) a c sx first fits small (apart 0 (omega arith)),
      from_one memory x a buffers contents tail sx fits (λ k below. each (suc k) (omega (arith, below))) (λ k below. apart (suc k) (omega (arith, below))) rest behind,
    )

all_apart : (memory : ℕ) (buffers : List Buffer) (contents : List (List ℕ)) (tail : List Part)
    → ((k : ℕ) → k < length buffers → IsSoundItem memory (buffer_item (get_or buffers k no_buffer)))
    → ((j k : ℕ) → j < k → k < length buffers → AreApart (buffer_item (get_or buffers j no_buffer)) (buffer_item (get_or buffers k no_buffer)))
    → ((k : ℕ) → k < length buffers → (bytes : List ℕ) → length bytes ≤ (get_or buffers k no_buffer).size → ApartFrom (part_at (get_or buffers k no_buffer).place bytes) tail)
    → map length contents ≡ map (λ b. b.content) buffers → AllApart memory tail → AllApart memory (content_parts buffers contents ++ tail)
unfolding content_parts
all_apart memory [] contents tail each apart behind same others = others
all_apart memory (b ∷ buffers) [] tail each apart behind same others = others
all_apart memory (b ∷ buffers) (c ∷ contents) tail each apart behind same others =
    let here : length c ≡ b.content = cc in
    let rest : map length contents ≡ map (λ b. b.content) buffers = cc in
    let first : IsSoundItem memory (buffer_item b) = each 0 (omega arith) in
    let small : length c ≤ b.size = omega (arith, here, first.content) in
    let inside = part_inside memory (buffer_item b) c first small in
    let later : (k : ℕ) → k < length buffers → IsSoundItem memory (buffer_item (get_or buffers k no_buffer)) = λ k below. each (suc k) (omega (arith, below)) in (
      omega (arith, first.place),
      omega (arith, inside, first.inside),
      from_one memory (buffer_item b) c buffers contents tail first small later (λ k below. apart 0 (suc k) (omega arith) (omega (arith, below))) rest (behind 0 (omega arith) c small),
      all_apart memory buffers contents tail later (λ j k less below. apart (suc j) (suc k) (omega (arith, less)) (omega (arith, below)))
          (λ k below bytes fits. behind (suc k) (omega (arith, below)) bytes fits) rest others,
    )

-- The items of a file's table.
item_is : (f : FileModel) (k : ℕ) → k < length f.buffers → item_at (items_of f.regions f.buffers) (k + 2) ≡ buffer_item (get_or f.buffers k no_buffer)
item_is f k below =
    let back : k + 2 - 2 ≡ k = omega arith in
    item_of_entry f.regions f.buffers (k + 2) no_buffer (omega arith) (omega (arith, below)) ∙ ap (λ i. buffer_item (get_or f.buffers i no_buffer)) back

item_there : (f : FileModel) (k : ℕ) → k < length f.buffers → k + 2 < length (items_of f.regions f.buffers)
item_there f k below = rw length-map (omega (arith, below))

each_buffer : (f : FileModel) → IsSound f.mem_size f.regions f.buffers → (k : ℕ) → k < length f.buffers → IsSoundItem f.mem_size (buffer_item (get_or f.buffers k no_buffer))
each_buffer f sound k below = subst (IsSoundItem f.mem_size) (item_is f k below) (sound.each_item (k + 2) (item_there f k below))

buffers_apart : (f : FileModel) → IsSound f.mem_size f.regions f.buffers → (j k : ℕ) → j < k → k < length f.buffers
    → AreApart (buffer_item (get_or f.buffers j no_buffer)) (buffer_item (get_or f.buffers k no_buffer))
buffers_apart f sound j k less below =
    let items = items_of f.regions f.buffers in
    let both : AreApart (item_at items (j + 2)) (item_at items (k + 2)) = sound.apart (j + 2) (k + 2) (omega (arith, less)) (item_there f k below) in
    subst (λ x. AreApart x (buffer_item (get_or f.buffers k no_buffer))) (item_is f j (omega (arith, less, below))) (subst (AreApart (item_at items (j + 2))) (item_is f k below) both)

swapped : (x y : Item) → AreApart x y → AreApart y x
swapped x y (inl before) = inr before
swapped x y (inr behind) = inl behind

from_lists : (f : FileModel) → IsSound f.mem_size f.regions f.buffers → (k : ℕ) → k < length f.buffers → AreApart (buffer_item (get_or f.buffers k no_buffer)) (lists_item f.regions)
from_lists f sound k below =
    let items = items_of f.regions f.buffers in
    let both : AreApart (lists_item f.regions) (item_at items (k + 2)) = sound.apart 0 (k + 2) (omega arith) (item_there f k below) in
    swapped (lists_item f.regions) (buffer_item (get_or f.buffers k no_buffer)) (subst (AreApart (lists_item f.regions)) (item_is f k below) both)

-- The file's parts: the contents of its buffers, and its lists.
abbrev pub lists_part : FileModel → Part
lists_part f = part_at f.regions.lists_place (region_of f)

abbrev pub file_parts : FileModel → List Part
file_parts f = content_parts f.buffers f.contents ++ lists_part f ∷ []

abbrev Same : FileModel → Type 0
Same f = map length f.contents ≡ map (λ b. b.content) f.buffers

file_apart : (f : FileModel) → IsSound f.mem_size f.regions f.buffers → Same f → f.regions.lists_place + length (region_of f) ≤ region_end f.regions → AllApart f.mem_size (file_parts f)
file_apart f sound same fits =
    let lists : IsSoundItem f.mem_size (lists_item f.regions) = sound.each_item 0 (omega arith) in
    let small : length (region_of f) ≤ f.regions.lists_size = omega (arith, fits) in
    let inside = part_inside f.mem_size (lists_item f.regions) (region_of f) lists small in
    all_apart f.mem_size f.buffers f.contents (lists_part f ∷ []) (each_buffer f sound) (buffers_apart f sound)
    (λ k below bytes few. (rows_apart f.mem_size (buffer_item (get_or f.buffers k no_buffer)) (lists_item f.regions) bytes (region_of f) (each_buffer f sound k below) lists few small (from_lists f sound k below), tt))
    same (omega (arith, lists.place), omega (arith, inside, lists.inside), tt, tt)

contents_apart : (f : FileModel) → IsSound f.mem_size f.regions f.buffers → Same f → AllApart f.mem_size (content_parts f.buffers f.contents ++ [])
contents_apart f sound same = all_apart f.mem_size f.buffers f.contents [] (each_buffer f sound) (buffers_apart f sound) (λ k below bytes few. tt) same tt

memory_is : (f : FileModel) (region : Region) → IsSound f.mem_size f.regions f.buffers → Same f → IsRegion f region → memory_emitted f.mem_size (file_parts f) ≡ memory_of f
memory_is f region sound same is =
    let contents = content_parts f.buffers f.contents in
    let long : length (memory_emitted f.mem_size contents) ≡ f.mem_size =
    emitted_long f.mem_size contents (subst (AllApart f.mem_size) (append-nil contents) (contents_apart f sound same)) in
    placed-append (zeros f.mem_size) contents (lists_part f ∷ []) ∙ memory_made f (memory_emitted f.mem_size contents) refl long sound same is.fits is.parts_fit

-- By ascending place they end inside the memory.
pub image_ascends : (f : FileModel) (region : Region) (most : ℕ) → IsSound f.mem_size f.regions f.buffers → Same f → IsRegion f region → f.mem_size ≤ most
    → Ascend 0 most (parts_sorted (file_parts f))
image_ascends f region most sound same is small = ascend_more 0 f.mem_size most (parts_sorted (file_parts f)) small (ascend_sorted f.mem_size (file_parts f) (file_apart f sound same is.fits))

-- The head and the lines of the parts are the image.
pub image_made : (f : FileModel) (region : Region) (parts : List Part) (head : List ℕ) → IsSound f.mem_size f.regions f.buffers → Same f → IsRegion f region
    → parts ≡ parts_sorted (file_parts f) → head ≡ head_text f.version f.mem_size region.layouts.items region.lengths.items → head ++ rest_text parts ≡ image_of f
unfolding image_of accepted_text rest_text
image_made f region parts head sound same is parts_are head_is =
    let apart = file_apart f sound same is.fits in
    let memory = memory_is f region sound same is in
    let size : length (memory_of f) ≡ f.mem_size = ap length (sym memory) ∙ emitted_long f.mem_size (file_parts f) apart in
    let whole : f.mem_size % 16 ≡ 0 = omega (arith, sound.pages) in
    let rows : rows_text (memory_of f) 0 (f.mem_size / 16) ≡ parts_text (parts_sorted (file_parts f)) =
    ap (λ m. rows_text m 0 (f.mem_size / 16)) (sym memory) ∙ rows_of_sorted f.mem_size (file_parts f) whole apart in
    let layouts = layouts_of f in
    let lengths = all_lengths_of f in
    ap (λ h. h ++ (parts_text parts ++ codes "end\n")) (head_is ∙ ap (λ l. head_text f.version f.mem_size l region.lengths.items) is.layouts_are ∙ ap (head_text f.version f.mem_size layouts) is.lengths_are)
    ∙ ap (λ p. head_text f.version f.mem_size layouts lengths ++ (parts_text p ++ codes "end\n")) parts_are
    ∙ ap (λ t. head_text f.version f.mem_size layouts lengths ++ (t ++ codes "end\n")) (sym rows)
    ∙ ap (λ n. head_text f.version n layouts lengths ++ (rows_text (memory_of f) 0 (n / 16) ++ codes "end\n")) (sym size)

-- The parts that were put in order are the file's.
pub parts_ordered : (f : FileModel) (region : Region) (buffers : List Buffer) (parts : List Part) → IsRegion f region → buffers ≡ f.buffers
    → parts ≡ parts_sorted (content_parts buffers f.contents ++ part_at f.regions.lists_place region.bytes.items ∷ []) → parts ≡ parts_sorted (file_parts f)
parts_ordered f region buffers parts is same are =
    are
    ∙ ap (λ bs. parts_sorted (content_parts bs f.contents ++ part_at f.regions.lists_place region.bytes.items ∷ [])) same
    ∙ ap (λ bytes. parts_sorted (content_parts f.buffers f.contents ++ part_at f.regions.lists_place bytes ∷ [])) is.bytes_are

-- of a version that there is, with layouts and lengths for each job
pub of_version : (f : FileModel) (layouts : List Layout) (lengths : List Lengths) → IsWellFormed f → layouts ≡ layouts_of f → lengths ≡ all_lengths_of f
    → AreOfVersion f.version layouts lengths
of_version f layouts lengths well layouts_are lengths_are =
    let long : length layouts ≡ length f.jobs = ap length layouts_are ∙ as_many_layouts f in
    let same : length lengths ≡ length f.jobs = ap length lengths_are ∙ as_many_lengths f in
    record { a_version = well.a_version; known = well.known; one_job = λ one. long ∙ (well.first one).one_job; each_job = same ∙ sym long }

take_none : {X : Type 0} (n : ℕ) (xs : List X) → xs ≡ [] → take n xs ≡ []
take_none zero xs is = refl
take_none (suc n) xs is = ap (take (suc n)) is

drop_none : {X : Type 0} (xs : List X) (n : ℕ) → length xs ≤ n → drop n xs ≡ []
drop_none [] zero past = refl
drop_none [] (suc n) past = refl
drop_none (x ∷ xs) zero past = absurd (omega (arith, past))
drop_none (x ∷ xs) (suc n) past = drop_none xs n (omega (arith, past))

-- The last of the contents that are left is taken.
pub rest_taken : {X : Type 0} (all old new : List X) (x : X) → old ≡ take (length old) all → old ≡ new ++ x ∷ [] → new ≡ take (length new) all
rest_taken all old [] x left is = refl
rest_taken [] old (y ∷ new) x left is =
    let none : old ≡ [] = left ∙ take_none (length old) [] refl in
    let clash : suc (length (new ++ x ∷ [])) ≡ 0 = sym (ap length is) ∙ ap length none in
    absurd (omega (arith, clash))
rest_taken (z ∷ all) [] (y ∷ new) x left is = let clash : 0 ≡ suc (length (new ++ x ∷ [])) = ap length is in absurd (omega (arith, clash))
rest_taken (z ∷ all) (w ∷ old) (y ∷ new) x left is =
    let first : y ≡ z = sym (ap (λ l. get_or l 0 y) is) ∙ ap (λ l. get_or l 0 y) left in
    λ i. first i ∷ rest_taken all old new x (ap (drop 1) left) (ap (drop 1) is) i

pub last_taken : {X : Type 0} (all old new : List X) (x : X) → old ≡ take (length old) all → old ≡ new ++ x ∷ [] → drop (length new) all ≡ x ∷ drop (suc (length new)) all
last_taken [] old new x left is =
    let none : old ≡ [] = left ∙ take_none (length old) [] refl in
    let clash : length (new ++ x ∷ []) ≡ 0 = sym (ap length is) ∙ ap length none in
    absurd (omega (arith, clash, length-append new (x ∷ [])))
last_taken (z ∷ all) [] new x left is = let clash : 0 ≡ length (new ++ x ∷ []) = ap length is in absurd (omega (arith, clash, length-append new (x ∷ [])))
last_taken (z ∷ all) (w ∷ old) [] x left is = let first : x ≡ z = sym (ap (λ l. get_or l 0 x) is) ∙ ap (λ l. get_or l 0 x) left in ap (λ y. y ∷ all) (sym first)
last_taken (z ∷ all) (w ∷ old) (y ∷ new) x left is = last_taken all old new x (ap (drop 1) left) (ap (drop 1) is)

-- One part more, before those of later buffers.
pub one_more : {X : Type 0} (f : X → List ℕ) (buffers : List Buffer) (all : List X) (n : ℕ) (d : Buffer) (x : X) (tail parts new : List Part) → n < length buffers
    → drop n all ≡ x ∷ drop (suc n) all → parts ≡ parts_sorted (content_parts (drop (suc n) buffers) (map f (drop (suc n) all)) ++ tail)
    → new ≡ part_inserted (part_at (get_or buffers n d).place (f x)) parts → new ≡ parts_sorted (content_parts (drop n buffers) (map f (drop n all)) ++ tail)
unfolding content_parts parts_sorted
one_more f buffers all n d x tail parts new below next are put =
    let here : drop n buffers ≡ get_or buffers n d ∷ drop (suc n) buffers = drop-cons buffers n d below in
    put ∙ ap (part_inserted (part_at (get_or buffers n d).place (f x))) are ∙ sym (λ i. parts_sorted (content_parts (here i) (map f (next i)) ++ tail))

pub first_part : {X : Type 0} (f : X → List ℕ) (buffers : List Buffer) (all : List X) (n : ℕ) (part : Part) → length buffers ≤ n
    → part_inserted part [] ≡ parts_sorted (content_parts (drop n buffers) (map f (drop n all)) ++ part ∷ [])
unfolding content_parts parts_sorted
first_part f buffers all n part past = ap (λ (bs : List Buffer). parts_sorted (content_parts bs (map f (drop n all)) ++ part ∷ [])) (sym (drop_none buffers n past))
