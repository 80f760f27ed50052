-- The spots of tiles as items are put to the others.
use Rattle.std.proofs.Common.{◌≡◌, ◌≤◌, ◌<◌, ℕ, zero, suc, ◌+◌, ◌==◌, Bool, true, false, List, [], ◌∷◌, ◌++◌, length, replicate, slice_set, slice_index_or, refl, sym, ◌∙◌, ap, subst, arith, if◌then◌else◌}
use Rattle.std.proofs.{lemmas.Bool.Decides.nat_tests, lemmas.List.length-replicate, lemmas.Grind.common_steps}
use Rattle.list_machine.specs.Blocks.{spot_with, one_more, spot_in, spot_of, no_spot, most_tiles, AreSpotsOf}
use Rattle.list_machine.specs.State.{Item, Spot}

-- a tile has at most all items
count_more : (here : Bool) (spot : Spot) (place : ℕ) → (if here then one_more spot place else spot).count ≤ spot.count + 1
count_more true spot place = omega arith
count_more false spot place = omega arith

count_in : (tile : ℕ) (items : List Item) (spot : Spot) → (spot_in tile spot items).count ≤ spot.count + length items
count_in tile [] spot = omega arith
count_in tile (item ∷ items) spot = omega (arith, count_in tile items (spot_with tile spot item), count_more (item.tile == tile) spot item.place)

pub count_limit : (tile : ℕ) (items : List Item) → (spot_of tile items).count ≤ length items
count_limit tile items = omega (arith, count_in tile items no_spot)

-- one item more
spot_on : (tile : ℕ) (items : List Item) (spot : Spot) (item : Item) → spot_in tile spot (items ++ item ∷ []) ≡ spot_with tile (spot_in tile spot items) item
spot_on tile [] spot item = refl
spot_on tile (first ∷ items) spot item = spot_on tile items (spot_with tile spot first) item

in_empty : (n k : ℕ) → slice_index_or (replicate n no_spot) k no_spot ≡ no_spot
in_empty zero k = refl
in_empty (suc n) zero = refl
in_empty (suc n) (suc k) = in_empty n k

empty_are : (n : ℕ) (spots : List Spot) → spots ≡ replicate n no_spot → n ≡ most_tiles → AreSpotsOf [] spots
empty_are n spots are many = record {
  long = ap length are ∙ (length-replicate n no_spot ∙ many);
  each = λ tile inside. ap (λ l. slice_index_or l tile no_spot) are ∙ in_empty n tile;
}

pub spots_begin : (spots : List Spot) → spots ≡ replicate most_tiles no_spot → AreSpotsOf [] spots
spots_begin spots are = empty_are most_tiles spots are refl

-- another tile's spot stays
past : (items : List Item) (item : Item) (tile : ℕ) → (item.tile == tile) ≡ false → spot_of tile items ≡ spot_of tile (items ++ item ∷ [])
past items item tile other = sym (spot_on tile items no_spot item ∙ ap (λ here. if here then one_more (spot_of tile items) item.place else spot_of tile items) other)

here_is : (items : List Item) (item : Item) (tile : ℕ) → (item.tile == tile) ≡ true → one_more (spot_of tile items) item.place ≡ spot_of tile (items ++ item ∷ [])
here_is items item tile same = sym (spot_on tile items no_spot item ∙ ap (λ here. if here then one_more (spot_of tile items) item.place else spot_of tile items) same)

set_here : (spots : List Spot) (n : ℕ) (spot d : Spot) → n < length spots → slice_index_or (slice_set spots n spot) n d ≡ spot
set_here spots n spot d inside = grind (arith, common_steps, inside)

set_past : (spots : List Spot) (n k : ℕ) (spot d : Spot) → (n == k) ≡ false → slice_index_or (slice_set spots n spot) k d ≡ slice_index_or spots k d
set_past spots n k spot d other = grind (arith, nat_tests, common_steps, other)

equal : (n k : ℕ) → (n == k) ≡ true → n ≡ k
equal n k same = grind (arith, nat_tests, same)

each_put : (items : List Item) (spots : List Spot) (item : Item) (tile : ℕ) (here : Bool) → (item.tile == tile) ≡ here → item.tile < most_tiles → tile < most_tiles → AreSpotsOf items spots
    → slice_index_or (slice_set spots item.tile (one_more (spot_of item.tile items) item.place)) tile no_spot ≡ spot_of tile (items ++ item ∷ [])
each_put items spots item tile true is low inside are =
    let same : item.tile ≡ tile = equal item.tile tile is in
    subst (λ k. slice_index_or (slice_set spots item.tile (one_more (spot_of item.tile items) item.place)) k no_spot ≡ spot_of k (items ++ item ∷ [])) same
    (set_here spots item.tile (one_more (spot_of item.tile items) item.place) no_spot (omega (arith, low, are.long)) ∙ here_is items item item.tile (ap (λ k. item.tile == k) same ∙ is))
each_put items spots item tile false is low inside are =
    set_past spots item.tile tile (one_more (spot_of item.tile items) item.place) no_spot is ∙ (are.each tile inside ∙ past items item tile is)

pub spots_put : (items more : List Item) (spots now : List Spot) (item : Item) (spot : Spot) → item.tile < most_tiles → AreSpotsOf items spots → spot ≡ spot_of item.tile items
    → more ≡ items ++ item ∷ [] → now ≡ slice_set spots item.tile (one_more spot item.place) → AreSpotsOf more now
spots_put items more spots now item spot low are spot_is more_is now_is =
    let set : now ≡ slice_set spots item.tile (one_more (spot_of item.tile items) item.place) = now_is ∙ ap (λ s. slice_set spots item.tile (one_more s item.place)) spot_is in record {
      long = ap length set ∙ (grind (arith, common_steps) ∙ are.long);
      each = λ tile inside. ap (λ l. slice_index_or l tile no_spot) set ∙ (each_put items spots item tile (item.tile == tile) refl low inside are ∙ ap (spot_of tile) (sym more_is));
    }
