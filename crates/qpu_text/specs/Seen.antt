-- The code's values as the definitions have them. No part of what the crate claims.
use Rattle.qpu_text.specs.{declared.alu.Half.Half as Kept, Alu.Half}

abbrev pub half_seen : Kept → Half
half_seen half = record {
  name = half.name.now;
  sets = half.sets;
  condition = half.condition;
  place = half.place.now;
  pack = half.pack.now;
  first = half.first;
  second = half.second;
  count = half.count;
}
