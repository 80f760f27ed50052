-- A tile slot that isn't refused.
use Rattle.std.proofs.Common.{◌≡◌, ◌+◌, ◌-◌, ◌/◌, ◌^◌, ◌==◌, not, Bool, true, false, refl, arith}
use Rattle.std.proofs.lemmas.Bool.{eqb-true}
use Rattle.field_words.specs.Sizes.{slot_size}
use Rattle.strict_lists.specs.Records.{crosses}
use Rattle.strict_law.specs.TileSlots.{SlotsKeepTop}

not_off : (b : Bool) → not b ≡ false → b ≡ true
not_off true off = refl
not_off false off = absurd cc

pub slots_keep_top_law : SlotsKeepTop
unfolding crosses
slots_keep_top_law place at none inside =
    let same = eqb-true (place / 2 ^ 28) ((place + (slot_size - 1)) / 2 ^ 28) (not_off (place / 2 ^ 28 == (place + (slot_size - 1)) / 2 ^ 28) none) in
    omega (arith, same, inside)
