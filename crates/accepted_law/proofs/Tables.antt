-- Buffers and regions of a sound memory table.
use Rattle.std.proofs.Common.{◌≡◌, inl, inr, ℕ, ◌+◌, ◌*◌, ◌<◌, ◌≤◌, List, length, ap, subst, arith}
use Rattle.std.proofs.lemmas.{Bool.cases_lt, List.get_or_past}
use Rattle.field_words.specs.Sizes.{slot_size}
use Rattle.buffer_table.specs.Table.{items_of, item_at, lists_item, tile_item, buffer_item, buffer_at, past_end, most_place}
use Rattle.buffer_table.specs.declared.buffer.{Buffer.Buffer, Regions.Regions}
use Rattle.buffer_table.specs.Sound.{IsSound, IsSoundItem, AreApart}
use Rattle.buffer_table.proofs.Sounds.{item_of_buffer, length_items}
use Rattle.job_format.specs.{File.IsWellFormed, Model.FileModel}
use Rattle.job_check.specs.Jobs.{slot_of}
use Rattle.job_check.proofs.Layouts.{enough_slots}

pub buffer_sound : (memory : ℕ) (r : Regions) (buffers : List Buffer) → IsSound memory r buffers → (number : ℕ) → number < length buffers → IsSoundItem memory (buffer_item (buffer_at buffers number))
buffer_sound memory r buffers sound number inside =
    subst (IsSoundItem memory) (item_of_buffer r buffers number inside) (sound.each_item (number + 2) (omega (arith, inside, length_items r buffers)))

-- what lies in neither of two that are apart
pub buffers_apart : (memory : ℕ) (r : Regions) (buffers : List Buffer) → IsSound memory r buffers → (j k : ℕ) → j < k → k < length buffers
    → AreApart (buffer_item (buffer_at buffers j)) (buffer_item (buffer_at buffers k))
buffers_apart memory r buffers sound j k less inside =
    let there : AreApart (item_at (items_of r buffers) (j + 2)) (item_at (items_of r buffers) (k + 2)) =
    sound.apart (j + 2) (k + 2) (omega (arith, less)) (omega (arith, inside, length_items r buffers)) in
    let one : AreApart (buffer_item (buffer_at buffers j)) (item_at (items_of r buffers) (k + 2)) =
    subst (λ x. AreApart x (item_at (items_of r buffers) (k + 2))) (item_of_buffer r buffers j (omega (arith, less, inside))) there in
    subst (AreApart (buffer_item (buffer_at buffers j))) (item_of_buffer r buffers k inside) one

pub lists_apart : (memory : ℕ) (r : Regions) (buffers : List Buffer) → IsSound memory r buffers → (k : ℕ) → k < length buffers
    → AreApart (lists_item r) (buffer_item (buffer_at buffers k))
lists_apart memory r buffers sound k inside =
    let there : AreApart (item_at (items_of r buffers) 0) (item_at (items_of r buffers) (k + 2)) = sound.apart 0 (k + 2) (omega arith) (omega (arith, inside, length_items r buffers)) in
    subst (AreApart (lists_item r)) (item_of_buffer r buffers k inside) there

pub tiles_apart : (memory : ℕ) (r : Regions) (buffers : List Buffer) → IsSound memory r buffers → (k : ℕ) → k < length buffers
    → AreApart (tile_item r) (buffer_item (buffer_at buffers k))
tiles_apart memory r buffers sound k inside =
    let there : AreApart (item_at (items_of r buffers) 1) (item_at (items_of r buffers) (k + 2)) = sound.apart 1 (k + 2) (omega arith) (omega (arith, inside, length_items r buffers)) in
    subst (AreApart (tile_item r)) (item_of_buffer r buffers k inside) there

pub regions_apart : (memory : ℕ) (r : Regions) (buffers : List Buffer) → IsSound memory r buffers → AreApart (lists_item r) (tile_item r)
regions_apart memory r buffers sound = sound.apart 0 1 (omega arith) (omega (arith, length_items r buffers))

-- The slot of each job lies in the tile region.
pub record IsSlotInside (f : FileModel) (j : ℕ) : Type 0 where
  pub from : f.regions.tile_place ≤ slot_of f j
  pub upto : slot_of f j + slot_size ≤ f.regions.tile_place + slot_size * f.regions.tile_slots

pub slot_inside : (f : FileModel) (j : ℕ) → IsWellFormed f → IsSound f.mem_size f.regions f.buffers → j < length f.jobs → IsSlotInside f j
unfolding slot_of
slot_inside f j well sound inside = record { from = omega arith; upto = omega (arith, enough_slots f well sound, inside) }

-- Each buffer ends inside the greatest memory; past the last one there is none, of no bytes.
past_is : (buffers : List Buffer) (number : ℕ) → length buffers ≤ number → buffer_at buffers number ≡ past_end
unfolding buffer_at
past_is buffers number past = get_or_past buffers number past_end past

pub buffer_low : (memory : ℕ) (r : Regions) (buffers : List Buffer) → IsSound memory r buffers → (number : ℕ)
    → (buffer_at buffers number).place + (buffer_at buffers number).size ≤ most_place
buffer_low memory r buffers sound number =
    elim (cases_lt number (length buffers)) [
      | inl inside ↦ (let s = buffer_sound memory r buffers sound number inside in omega (arith, s.inside, sound.limit))
      | inr past ↦ (omega (arith, ap (λ x. x.place) (past_is buffers number past), ap (λ x. x.size) (past_is buffers number past)))
    ]
