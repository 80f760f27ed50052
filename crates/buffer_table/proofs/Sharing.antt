-- Two items share a byte exactly where the test on their ends says so.
use Rattle.std.proofs.Common.{◌≡◌, ◌+◌, ◌<◌, max, min, true, arith}
use Rattle.std.proofs.lemmas.Bool.{ltb-true, Decides.nat_tests}
use Rattle.buffer_table.specs.Table.{ShareByte, SharingMeansByte, shares}
use Rattle.buffer_table.specs.{declared.item.Item.Item}

-- The byte is the greater of the places.
shared_byte : (x y : Item) → shares x y ≡ true → ShareByte x y
unfolding shares
shared_byte x y is =
    let below = ltb-true (max x.place y.place) (min (x.place + x.size) (y.place + y.size)) is in (
      max x.place y.place,
      record { from = omega arith; before = omega (arith, below) },
      record { from = omega arith; before = omega (arith, below) },
    )

byte_shared : (x y : Item) → ShareByte x y → shares x y ≡ true
unfolding shares
byte_shared x y (byte, in_x, in_y) =
    let below : max x.place y.place < min (x.place + x.size) (y.place + y.size) = omega (arith, in_x.from, in_x.before, in_y.from, in_y.before) in
    grind (arith, nat_tests, below)

pub sharing_means_byte : SharingMeansByte
sharing_means_byte x y = (shared_byte x y, byte_shared x y)
