-- Laws on tile lists and their blocks.
use Rattle.std.proofs.Common.{◌≡◌, ◌≤◌, ◌<◌, ℕ, zero, suc, ◌+◌, ◌-◌, ◌*◌, ◌^◌, List, [], ◌∷◌, ◌++◌, length, slice_set, refl, sym, ◌∙◌, ap, subst, arith, Bool, true, false, if◌then◌else◌, ◌==◌, Option, Some, nat_lt}
use Rattle.std.proofs.{Math.Nat.mul-le-mul, lemmas.Bool.Decides.nat_tests, lemmas.Grind.common_steps}
use Rattle.machine_plan.specs.{Memory.bytes_stored, Plan.Writes, Plan.Shows, Plan.access, Plan.outcome_of}
use Rattle.list_machine.specs.Blocks.{spot_with, one_more, spot_in, spot_of, no_spot, further_offset, has_room, block_place, is_full, next_place, link_place, item_of, item_put, zeros, put_here, put_plan}
use Rattle.list_machine.specs.{State.Access, State.Config, State.Item, State.Spot, State.Who, State.Work, State.Write, Binner.item_may}
use Rattle.list_machine.specs.Lists.{Lists, most_items, AreNear, with_item, with_block}
use Rattle.machine_plan.proofs.Joining.{shows_wrote}

pub tiles_limit : (x y : ℕ) → x < 256 → y < 256 → x * y ≤ 65025
tiles_limit x y across down =
    let a : x ≤ 255 = omega arith in
    let b : y ≤ 255 = omega arith in
    let c : x * y ≤ 255 * 255 = mul-le-mul a b in
    omega arith

-- one zero more is written
pub zeros_more : (m : List ℕ) (p n i : ℕ) → i < n → bytes_stored (slice_set m (p + i) 0) (p + (i + 1)) (zeros (n - (i + 1))) ≡ bytes_stored m (p + i) (zeros (n - i))
unfolding bytes_stored
zeros_more m p n i below =
    let a : n - i ≡ suc (n - (i + 1)) = omega arith in
    let b : suc (p + i) ≡ p + (i + 1) = omega arith in
    sym (ap (λ k. bytes_stored m (p + i) (zeros k)) a ∙ ap (λ q. bytes_stored (slice_set m (p + i) 0) q (zeros (n - (i + 1)))) b)

pub zeros_first : (m : List ℕ) (p n : ℕ) → bytes_stored m (p + 0) (zeros (n - 0)) ≡ bytes_stored m p (zeros n)
zeros_first m p n =
    let a : p + 0 ≡ p = omega arith in
    let b : n - 0 ≡ n = omega arith in
    ap (λ q. bytes_stored m q (zeros (n - 0))) a ∙ ap (λ k. bytes_stored m p (zeros k)) b

pub zeros_done : (m : List ℕ) (p n i : ℕ) → n ≤ i → bytes_stored m (p + i) (zeros (n - i)) ≡ m
unfolding bytes_stored
zeros_done m p n i all =
    let none : n - i ≡ 0 = omega arith in
    ap (λ k. bytes_stored m (p + i) (zeros k)) none

pub length-zeros : (n : ℕ) → length (zeros n) ≡ n
length-zeros zero = refl
length-zeros (suc n) = ap suc (length-zeros n)

-- a tile's last item lies near
last_near : (item : Item) (spot : Spot) (n : ℕ) (here : Bool) → item.place ≤ 2 ^ 34 + 16 * n → spot.last + 16 ≤ 2 ^ 34 + 16 * n → (if here then one_more spot item.place else spot).last + 16 ≤ 2 ^ 34 + 16 * (n + 1)
last_near item spot n true near last = omega (arith, near)
last_near item spot n false near last = omega (arith, last)

spot_from : (tile n : ℕ) (items : List Item) (spot : Spot) → AreNear n items → spot.last + 16 ≤ 2 ^ 34 + 16 * n → (spot_in tile spot items).last + 16 ≤ 2 ^ 34 + 16 * (n + length items)
spot_from tile n [] spot near last = omega (arith, last)
spot_from tile n (item ∷ items) spot near last = omega (arith, spot_from tile (n + 1) items (spot_with tile spot item) near.1 (last_near item spot n (item.tile == tile) near.0 last))

pub spot_near : (tile : ℕ) (items : List Item) → AreNear 0 items → (spot_of tile items).last + 16 ≤ 2 ^ 34 + 16 * length items
spot_near tile items near = omega (arith, spot_from tile 0 items no_spot near (omega arith))

-- room for a block
pub room_few : (c : Config) (blocks : ℕ) → c.size < 2 ^ 32 → has_room c blocks ≡ true → blocks < 2 ^ 25
unfolding has_room
room_few c blocks size room =
    let fits : further_offset c + 128 * (blocks + 1) ≤ c.size = grind (arith, nat_tests, room) in
    omega arith

-- an item was written and is kept
pub here_shows : (who : Who) (s after : Lists) (item : Item) (m k : List ℕ) (before listed : List Access) → listed ≡ before ++ access who Write item.place 16 ∷ [] → k ≡ bytes_stored m item.place (zeros 16) → after ≡ with_item s item
    → Shows (outcome_of who (item_put s item) m) before listed k (Some after)
here_shows who s after item m k before listed listed_is k_is after_is = record { accesses = listed_is; memory_is = k_is; result_is = ap Some after_is }

here_put : (who : Who) (s : Lists) (w : Work) (tile place : ℕ) (item : Item) (m : List ℕ) (before after : List Access) (memory : List ℕ) (result : Option Lists) → item ≡ item_of w tile place
    → Shows (outcome_of who (item_put s item) m) before after memory result → Shows (outcome_of who (put_here s w tile place) m) before after memory result
unfolding put_here
here_put who s w tile place item m before after memory result item_is shows = subst (λ i. Shows (outcome_of who (item_put s i) m) before after memory result) item_is shows

put_is : (s : Lists) (c : Config) (w : Work) (tile : ℕ) (spot : Spot) (full : Bool) → is_full spot ≡ full
    → put_plan s c w tile spot ≡ (if full then Writes (link_place spot) (zeros 16) (put_here (with_block s) w tile (block_place c s.blocks)) else put_here s w tile (next_place c tile spot))
unfolding put_plan
put_is s c w tile spot full is = ap (λ b. if b then Writes (link_place spot) (zeros 16) (put_here (with_block s) w tile (block_place c s.blocks)) else put_here s w tile (next_place c tile spot)) is

-- with a link before it
pub full_shows : (who : Who) (s blocked : Lists) (c : Config) (w : Work) (tile place : ℕ) (spot of_tile : Spot) (item : Item) (m k : List ℕ) (before listed after : List Access) (memory : List ℕ) (result : Option Lists) → spot ≡ of_tile → is_full spot ≡ true → place ≡ block_place c s.blocks → item ≡ item_of w tile place
    → listed ≡ before ++ access who Write (spot.last + 16) 16 ∷ [] → k ≡ bytes_stored m (spot.last + 16) (zeros 16) → blocked ≡ with_block s
    → Shows (outcome_of who (item_put blocked item) k) listed after memory result → Shows (outcome_of who (put_plan s c w tile of_tile) m) before after memory result
unfolding link_place
full_shows who s blocked c w tile place spot of_tile item m k before listed after memory result spot_is full place_is item_is listed_is k_is blocked_is shows =
    let here : Shows (outcome_of who (put_here blocked w tile place) k) listed after memory result = here_put who blocked w tile place item k listed after memory result item_is shows in
    let put = subst (λ q. Shows (outcome_of who (put_here (with_block s) w tile q) k) listed after memory result) place_is (subst (λ b. Shows (outcome_of who (put_here b w tile place) k) listed after memory result) blocked_is here) in
    let linked = shows_wrote who (spot.last + 16) (zeros 16) (put_here (with_block s) w tile (block_place c s.blocks)) m k before listed after memory result listed_is k_is put in
    let all = subst (λ plan. Shows (outcome_of who plan m) before after memory result) (sym (put_is s c w tile spot true full)) linked in
    subst (λ p. Shows (outcome_of who (put_plan s c w tile p) m) before after memory result) spot_is all

-- and without one
pub next_shows : (who : Who) (s : Lists) (c : Config) (w : Work) (tile place : ℕ) (spot of_tile : Spot) (item : Item) (m : List ℕ) (before after : List Access) (memory : List ℕ) (result : Option Lists) → spot ≡ of_tile → is_full spot ≡ false → place ≡ next_place c tile spot → item ≡ item_of w tile place
    → Shows (outcome_of who (item_put s item) m) before after memory result → Shows (outcome_of who (put_plan s c w tile of_tile) m) before after memory result
next_shows who s c w tile place spot of_tile item m before after memory result spot_is open_block place_is item_is shows =
    let here : Shows (outcome_of who (put_here s w tile place) m) before after memory result = here_put who s w tile place item m before after memory result item_is shows in
    let put = subst (λ q. Shows (outcome_of who (put_here s w tile q) m) before after memory result) place_is here in
    let all = subst (λ plan. Shows (outcome_of who plan m) before after memory result) (sym (put_is s c w tile spot false open_block)) put in
    subst (λ p. Shows (outcome_of who (put_plan s c w tile p) m) before after memory result) spot_is all

-- an item that may be put has room
pub item_room : (s : Lists) (c : Config) → c.size < 2 ^ 32 → item_may s (Some c) ≡ true → (s.blocks < 2 ^ 25) × (length s.items < most_items)
item_room s c size may =
    let both : (has_room c s.blocks ≡ true) × (nat_lt (length s.items) most_items ≡ true) = grind (arith, common_steps, may) in
    (room_few c s.blocks size both.0, grind (arith, nat_tests, both.1))
