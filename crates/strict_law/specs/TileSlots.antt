-- The law on the place of a tile slot: the binner keeps 28 bits of the addresses of its lists, and takes the top four from the slot's place.
use Rattle.std.specs.Prelude.{◌≡◌, ◌<◌, ℕ, ◌+◌, ◌/◌, ◌^◌, false}
use Rattle.field_words.specs.Sizes.{slot_size}
use Rattle.strict_lists.specs.Records.{crosses}

-- Any address in a slot that is not refused has the top four bits of the slot's place.
abbrev pub SlotsKeepTop : Type 0
SlotsKeepTop = (place at : ℕ) → crosses place ≡ false → at < slot_size → (place + at) / 2 ^ 28 ≡ place / 2 ^ 28
