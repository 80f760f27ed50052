-- The items of tile lists, and the blocks in which they lie.
use Rattle.std.proofs.Common.{◌≡◌, ◌≢◌, ◌≤◌, ◌<◌, ℕ, ◌+◌, ◌*◌, ◌-◌, ◌%◌, ◌==◌, Bool, true, false, List, [], ◌∷◌, ◌++◌, if◌then◌else◌, refl, sym, subst, arith, rules}
use Rattle.std.proofs.lemmas.{Grind.common_steps, List.length-replicate, Bool.Decides.nat_tests}
use Rattle.field_words.specs.declared.access.Way.TheVariants.{Write}
use Rattle.machine_plan.specs.declared.{who.Who.Who, launch.Launch.Launch}
use Rattle.machine_plan.specs.{Memory.bytes_stored, Regions.Rights, Regions.IsSafeIn, Plan.Keeps, Plan.access}
use Rattle.machine_plan.proofs.{Memory.inside_part, Runs.every-append}
use Rattle.packets.specs.declared.config.Config.{Config}
use Rattle.list_machine.specs.Blocks.{tiles_of, further_offset, block_place, has_room, one_more, spot_with, spot_in, spot_of, is_full, next_place, link_place, item_of, zeros, put_here, put_plan}
use Rattle.list_machine.specs.declared.state.{Item.Item, Spot.Spot, Work.Work}
use Rattle.list_machine.specs.Lists.{Lists, with_item, with_block}
use Rattle.list_law.specs.{May.MayWrite, Binning.Allocates, Binning.ItemFine, Binning.FitsIn, Binning.LogFine, Binning.WorkFine}
use Rattle.list_law.proofs.Safe.{write_safe, keeps_if}

pub not_same : (a b : ℕ) → (a == b) ≡ false → a ≢ b
not_same a b h = grind (arith, common_steps, nat_tests, h)

pub same : (a b : ℕ) → (a == b) ≡ true → a ≡ b
same a b h = grind (arith, common_steps, nat_tests, h)

-- what a tile's list has, with one item more
pub spot_last : (tile : ℕ) (spot : Spot) (items : List Item) (item : Item) → spot_in tile spot (items ++ item ∷ []) ≡ spot_with tile (spot_in tile spot items) item
spot_last tile spot [] item = refl
spot_last tile spot (one ∷ items) item = spot_last tile (spot_with tile spot one) items item

fits_by : (c : Config) (spot : Spot) (place : ℕ) (b : Bool) → FitsIn c spot → (b ≡ true → FitsIn c (one_more spot place)) → FitsIn c (if b then one_more spot place else spot)
fits_by c spot place b fits more = search (rules, arith)

-- one more item
pub log_more : (r : Rights) (K : List ℕ → Type 0) (O : Launch → Type 0) (c : Config) (log : List Item) (item : Item) → LogFine r K O c log → ItemFine r K O item → FitsIn c (one_more (spot_of item.tile log) item.place)
    → LogFine r K O c (log ++ item ∷ [])
log_more r K O c log item fine one fits = search (rules, arith, every-append, spot_last, fits_by, same)

-- Places in the allocation.
may_part : (r : Rights) (p n q k : ℕ) → MayWrite r p n → p ≤ q → q + k ≤ p + n → MayWrite r q k
may_part r p n q k may low high = search (rules, arith, inside_part)

some_full : (count : ℕ) → count % 7 ≡ 1 → 0 < count
some_full count full = omega (arith, full)

-- an item is put at a place of the allocation
put_at : (who : Who) (r : Rights) (K : List ℕ → Type 0) (O : Launch → Type 0) (c : Config) (L : ℕ → ℕ → Type 0) (P : List ℕ → Lists → Type 0) (s : Lists) (w : Work) (tile place : ℕ) (m : List ℕ)
    → Allocates r c → LogFine r K O c s.items → WorkFine r K O w → c.address ≤ place → place + 16 * (8 - ((spot_of tile s.items).count + 1 + 5) % 7) ≤ c.address + c.size
    → ((k : List ℕ) → LogFine r K O c (s.items ++ item_of w tile place ∷ []) → P k (with_item s (item_of w tile place)))
    → Keeps who L (IsSafeIn r) P (put_here s w tile place) m
unfolding put_here
put_at who r K O c L P s w tile place m allocates log work from upto ends =
    let room : place + 16 ≤ c.address + c.size = omega (arith, upto) in
    let may : MayWrite r place 16 = may_part r c.address c.size place 16 allocates.all from room in
    let item : ItemFine r K O (item_of w tile place) = record { lies = may.region; uses = work.uses } in
    let fits : FitsIn c (one_more (spot_of tile s.items) place) = record { from = λ some. from; upto = λ some. upto } in (
      subst (λ n. IsSafeIn r (access who Write place n)) (sym (length-replicate {A = ℕ} 16 0)) (write_safe r who place 16 may),
      ends (bytes_stored m place (zeros 16)) (log_more r K O c s.items (item_of w tile place) log item fits),
    )

next_by : (c : Config) (tile : ℕ) (spot : Spot) → 32 * tiles_of c ≤ c.size → tile < tiles_of c → FitsIn c spot → spot.count % 7 ≢ 1 → (b : Bool) → (spot.count == 0) ≡ b
    → (c.address ≤ (if b then c.address + 32 * tile else spot.last + 16)) × ((if b then c.address + 32 * tile else spot.last + 16) + 16 * (8 - (spot.count + 1 + 5) % 7) ≤ c.address + c.size)
next_by c tile spot first below fits free b e = search (rules, arith, same, not_same)

next_at : (c : Config) (tile : ℕ) (spot : Spot) → 32 * tiles_of c ≤ c.size → tile < tiles_of c → FitsIn c spot → spot.count % 7 ≢ 1
    → (c.address ≤ next_place c tile spot) × (next_place c tile spot + 16 * (8 - (spot.count + 1 + 5) % 7) ≤ c.address + c.size)
unfolding next_place
next_at c tile spot first below fits free = next_by c tile spot first below fits free (spot.count == 0) refl

room_is : (c : Config) (blocks : ℕ) → has_room c blocks ≡ true → further_offset c + 128 * (blocks + 1) ≤ c.size
unfolding has_room
room_is c blocks h = grind (arith, common_steps, nat_tests, h)

full_is : (spot : Spot) → is_full spot ≡ true → spot.count % 7 ≡ 1
unfolding is_full
full_is spot h = same (spot.count % 7) 1 h

free_is : (spot : Spot) → is_full spot ≡ false → spot.count % 7 ≢ 1
unfolding is_full
free_is spot h = not_same (spot.count % 7) 1 h

-- An item is put on a tile, where a further block has room.
pub put_keeps : (who : Who) (r : Rights) (K : List ℕ → Type 0) (O : Launch → Type 0) (c : Config) (L : ℕ → ℕ → Type 0) (P : List ℕ → Lists → Type 0) (s : Lists) (w : Work) (tile : ℕ) (m : List ℕ)
    → Allocates r c → LogFine r K O c s.items → WorkFine r K O w → tile < tiles_of c → has_room c s.blocks ≡ true
    → ((k : List ℕ) (place : ℕ) → LogFine r K O c (s.items ++ item_of w tile place ∷ []) → P k (with_item s (item_of w tile place)) × P k (with_item (with_block s) (item_of w tile place)))
    → Keeps who L (IsSafeIn r) P (put_plan s c w tile (spot_of tile s.items)) m
unfolding put_plan link_place block_place
put_keeps who r K O c L P s w tile m allocates log work below room ends = search (rules, arith, keeps_if, full_is, some_full, may_part, length-replicate, write_safe, put_at, room_is, next_at, free_is)
