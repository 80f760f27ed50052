-- The tile lists have room for no more items than their allocation says.
use Rattle.std.proofs.Common.{◌≡◌, ◌≢◌, ◌≤◌, ◌<◌, inl, inr, ℕ, zero, suc, ◌+◌, ◌*◌, ◌%◌, ◌==◌, Bool, true, false, if◌then◌else◌, List, [], ◌∷◌, ◌++◌, length, Some, refl, sym, ◌∙◌, ap, subst, arith}
use Rattle.std.proofs.{lemmas.Bool.cases_lt, lemmas.Grind.common_steps, lemmas.Bool.Decides.nat_tests, lemmas.List.length-append}
use Rattle.std.specs.Prelude.{unwrap_or}
use Rattle.packets.specs.declared.config.Config.{Config}
use Rattle.list_machine.specs.Blocks.{tiles_of, further_offset, has_room, no_spot, one_more, spot_of, is_full}
use Rattle.list_machine.specs.{declared.state.Item.Item, declared.state.Spot.Spot, Lists.most_items}
use Rattle.list_law.specs.Binning.{IsOnly, NotYet, Only}
use Rattle.list_law.proofs.Logs.{spot_last}
use Rattle.ends_law.specs.Room.{on_tiles, further_of, Counted}
use Rattle.promises.specs.Steps.{items_within}

count_by : (tile : ℕ) (items : List Item) (item : Item) (b : Bool) → (item.tile == tile) ≡ b → (spot_of tile (items ++ item ∷ [])).count ≡ (if b then one_more (spot_of tile items) item.place else spot_of tile items).count
count_by tile items item b is =
    ap (λ (s : Spot). s.count) (spot_last tile no_spot items item)
    ∙ ap (λ (x : Bool). (if x then one_more (spot_of tile items) item.place else spot_of tile items).count) is

before_own : (number : ℕ → ℕ) (items : List Item) (item : Item) (n : ℕ) → n ≤ item.tile → on_tiles number (items ++ item ∷ []) n ≡ on_tiles number items n
before_own number items item zero below = refl
before_own number items item (suc n) below =
    let other : (item.tile == n) ≡ false = grind (arith, common_steps, nat_tests, below) in
    let earlier = before_own number items item n (omega (arith, below)) in
    let here : number (spot_of n (items ++ item ∷ [])).count ≡ number (spot_of n items).count = ap number (count_by n items item false other) in
    omega (arith, earlier, here)

behind_own : (number : ℕ → ℕ) (items : List Item) (item : Item) (n : ℕ) → item.tile < n
    → on_tiles number (items ++ item ∷ []) n + number (spot_of item.tile items).count ≡ on_tiles number items n + number ((spot_of item.tile items).count + 1)
behind_own number items item zero below = absurd (omega (arith, below))
behind_own number items item (suc n) below =
    elim (cases_lt item.tile n) [
      | inl earlier ↦
          let other : (item.tile == n) ≡ false = grind (arith, common_steps, nat_tests, earlier) in
          let before = behind_own number items item n earlier in
          let here : number (spot_of n (items ++ item ∷ [])).count ≡ number (spot_of n items).count = ap number (count_by n items item false other) in
          omega (arith, before, here)
      | inr past ↦
          let is : item.tile ≡ n = omega (arith, below, past) in
          let own : (item.tile == n) ≡ true = grind (arith, common_steps, nat_tests, is) in
          let before = before_own number items item n (omega (arith, is)) in
          let here : number (spot_of n (items ++ item ∷ [])).count ≡ number ((spot_of n items).count + 1) = ap number (count_by n items item true own) in
          let first : number (spot_of item.tile items).count ≡ number (spot_of n items).count = ap (λ t. number (spot_of t items).count) is in
          let more : number ((spot_of item.tile items).count + 1) ≡ number ((spot_of n items).count + 1) = ap (λ t. number ((spot_of t items).count + 1)) is in
          omega (arith, before, here, first, more)
    ]

-- So what is counted stays counted, with a further block where the tile's block is full.
counted_on : (c : Config) (blocks : ℕ) (items : List Item) (item : Item) → Counted c blocks items → item.tile < tiles_of c → length (items ++ item ∷ []) ≤ on_tiles (λ n. n) (items ++ item ∷ []) (tiles_of c)
counted_on c blocks items item counted inside =
    let long : length (items ++ item ∷ []) ≡ length items + 1 = length-append items (item ∷ []) in
    let more = behind_own (λ n. n) items item (tiles_of c) inside in
    let on = counted.on in
    omega (arith, long, more, on)

pub counted_here : (c : Config) (blocks : ℕ) (items : List Item) (item : Item) → Counted c blocks items → item.tile < tiles_of c → is_full (spot_of item.tile items) ≡ false → Counted c blocks (items ++ item ∷ [])
unfolding is_full
counted_here c blocks items item counted inside room =
    let other : ((spot_of item.tile items).count % 7 == 1) ≡ false = room in
    let rest : (spot_of item.tile items).count % 7 ≢ 1 = grind (arith, common_steps, nat_tests, other) in
    let more = behind_own further_of items item (tiles_of c) inside in
    let taken = counted.taken in
    record { on = counted_on c blocks items item counted inside; taken = omega (arith, more, taken, rest) }

pub counted_further : (c : Config) (blocks : ℕ) (items : List Item) (item : Item) → Counted c blocks items → item.tile < tiles_of c → Counted c (blocks + 1) (items ++ item ∷ [])
counted_further c blocks items item counted inside =
    let more = behind_own further_of items item (tiles_of c) inside in
    let taken = counted.taken in
    record { on = counted_on c blocks items item counted inside; taken = omega (arith, more, taken) }

-- nothing is on tiles where nothing was put
none_on : (n : ℕ) → on_tiles further_of [] n ≡ 0
none_on zero = refl
none_on (suc n) = let before = none_on n in omega (arith, before)

pub counted_none : (c : Config) → Counted c 0 []
counted_none c = let none = none_on (tiles_of c) in record { on = omega arith; taken = omega (arith, none) }

-- While there is room for a further block, there are fewer items than there is room for.
seven_each : (items : List Item) (n : ℕ) → on_tiles (λ k. k) items n ≤ n + 7 * on_tiles further_of items n
seven_each items zero = omega arith
seven_each items (suc n) = let before = seven_each items n in omega (arith, before)

below_room : (c : Config) (blocks : ℕ) (items : List Item) → Counted c blocks items → has_room c blocks ≡ true → length items < most_items → length items < items_within c
unfolding has_room items_within
below_room c blocks items counted room few =
    let next : further_offset c + 128 * (blocks + 1) ≤ c.size = grind (arith, common_steps, nat_tests, room) in
    let each = seven_each items (tiles_of c) in
    let on = counted.on in
    let taken = counted.taken in
    omega (arith, next, each, on, taken, few)

-- The configuration that is kept is the job's one.
pub only_is : (c kept : Config) → IsOnly c (Some kept) → kept ≡ c
only_is c kept (NotYet none) = absurd cc
only_is c kept (Only is) = ap (λ o. unwrap_or o c) is

pub few_within : (c kept : Config) (blocks most : ℕ) (items : List Item) → IsOnly c (Some kept) → Counted c blocks items → items_within kept ≤ most → has_room kept blocks ≡ true → length items < most_items → length items < most
few_within c kept blocks most items only counted within room few =
    let is = only_is c kept only in
    let below = below_room kept blocks items (subst (λ x. Counted x blocks items) (sym is) counted) room few in
    omega (arith, below, within)
