-- How often the renderer still goes past the items of the tile lists.
use Rattle.std.proofs.Common.{◌≡◌, ◌≤◌, ℕ, zero, suc, ◌+◌, ◌*◌, ◌==◌, ◌&&◌, Bool, true, false, if◌then◌else◌, List, [], ◌∷◌, ◌++◌, Option, Some, None, refl, sym, ◌∙◌, ap, subst, arith}
use Rattle.std.proofs.{lemmas.Grind.common_steps, lemmas.Bool.Decides.nat_tests}
use Rattle.std.specs.Prelude.{drop, nat_le, unwrap_or}
use Rattle.packets.specs.declared.config.Config.{Config}
use Rattle.list_machine.specs.{declared.state.Found.Found, declared.state.Item.Item, declared.state.SubList.SubList}
use Rattle.list_machine.specs.Renderer.{first_of_tile, item_at}
use Rattle.list_law.proofs.Logs.{same}
use Rattle.ends_law.specs.Left.{is_before, is_inside, visits}
use Rattle.promises.specs.Steps.{one_if, times}

-- the renderer stands in a tile's list, at this item or before it
abbrev pub stands_at : ℕ → ℕ → Option SubList
stands_at tile at = Some (record { tile = tile; at = at })

-- It goes past no more of them where it is before no more.
pub visits_fewer : (c : Config) (places : List ℕ) (inside next : Option SubList) (n : ℕ) (items : List Item)
    → ((tile k : ℕ) → one_if (is_before next tile k) ≤ one_if (is_before inside tile k)) → visits c places next n items ≤ visits c places inside n items
visits_fewer c places inside next n [] fewer = omega arith
visits_fewer c places inside next n (item ∷ items) fewer =
    let here = fewer item.tile n in
    let later = visits_fewer c places inside next (n + 1) items fewer in
    omega (arith, here, later)

none_before : (inside : Option SubList) (tile k : ℕ) → one_if (is_before None tile k) ≤ one_if (is_before inside tile k)
none_before inside tile k = omega arith

pub visits_left : (c : Config) (places : List ℕ) (inside : Option SubList) (items : List Item) → visits c places None 0 items ≤ visits c places inside 0 items
visits_left c places inside items = visits_fewer c places inside None 0 items (none_before inside)

both_fewer : (b x y : Bool) → (x ≡ true → y ≡ true) → one_if (b && x) ≤ one_if (b && y)
both_fewer true true y follows = let on : y ≡ true = follows refl in subst (λ z. 1 ≤ one_if z) (sym on) (omega arith)
both_fewer true false y follows = omega arith
both_fewer false x y follows = omega arith

le_follows : (at on k : ℕ) → at ≤ on → nat_le on k ≡ true → nat_le at k ≡ true
le_follows at on k more is = grind (arith, common_steps, nat_tests, more, is)

-- so it is further on
pub visits_on : (c : Config) (places : List ℕ) (tile at on n : ℕ) (items : List Item) → at ≤ on → visits c places (stands_at tile on) n items ≤ visits c places (stands_at tile at) n items
visits_on c places tile at on n items more =
    visits_fewer c places (stands_at tile at) (stands_at tile on) n items (λ one k. both_fewer (one == tile) (nat_le on k) (nat_le at k) (le_follows at on k more))

-- Past the item that it finds it goes past one less.
not_le : (k : ℕ) → nat_le (k + 1) k ≡ false
not_le k = grind (arith, common_steps, nat_tests)

is_le : (at k : ℕ) → at ≤ k → nat_le at k ≡ true
is_le at k below = grind (arith, common_steps, nat_tests, below)

both_off : (b : Bool) → one_if (b && false) ≡ 0
both_off true = refl
both_off false = refl

abbrev OneLess : Config → List ℕ → (tile at n : ℕ) → List Item → Found → Type 0
OneLess c places tile at n items found = (at ≤ found.number) × (visits c places (stands_at tile (found.number + 1)) n items + 1 ≤ visits c places (stands_at tile at) n items)

past_this : (c : Config) (places : List ℕ) (tile at n : ℕ) (item : Item) (items : List Item) → at ≤ n → (item.tile == tile) ≡ true
    → visits c places (stands_at tile (n + 1)) n (item ∷ items) + 1 ≤ visits c places (stands_at tile at) n (item ∷ items)
past_this c places tile at n item items below is =
    let later = visits_on c places tile at (n + 1) (n + 1) items (omega (arith, below)) in
    let off : one_if (item.tile == tile && nat_le (n + 1) n) ≡ 0 = ap (λ b. one_if (item.tile == tile && b)) (not_le n) ∙ both_off (item.tile == tile) in
    let on : one_if (item.tile == tile && nat_le at n) ≡ 1 = ap (λ b. one_if (b && nat_le at n)) is ∙ ap one_if (is_le at n below) in
    omega (arith, later, off, on)

before_more : (b : Bool) (on at n : ℕ) → at ≤ on → one_if (b && nat_le on n) ≤ one_if (b && nat_le at n)
before_more b on at n more = both_fewer b (nat_le on n) (nat_le at n) (le_follows at on n more)

past_later : (c : Config) (places : List ℕ) (tile at n : ℕ) (item : Item) (items : List Item) (found : Found) → at ≤ found.number
    → visits c places (stands_at tile (found.number + 1)) (n + 1) items + 1 ≤ visits c places (stands_at tile at) (n + 1) items
    → visits c places (stands_at tile (found.number + 1)) n (item ∷ items) + 1 ≤ visits c places (stands_at tile at) n (item ∷ items)
past_later c places tile at n item items found below later =
    let here = before_more (item.tile == tile) (found.number + 1) at n (omega (arith, below)) in
    omega (arith, here, later)

found_by : (c : Config) (places : List ℕ) (tile at n : ℕ) (item : Item) (items : List Item) (found : Found) (b : Bool) → at ≤ n → (item.tile == tile) ≡ b
    → (if b then Some (record { number = n; item = item }) else first_of_tile tile (n + 1) items) ≡ Some found
    → (first_of_tile tile (n + 1) items ≡ Some found → OneLess c places tile at (n + 1) items found) → OneLess c places tile at n (item ∷ items) found
found_by c places tile at n item items found true below is here later =
    let same : n ≡ found.number = ap (λ (o : Option Found). (unwrap_or o found).number) here in
    (omega (arith, below, same), subst (λ k. visits c places (stands_at tile (k + 1)) n (item ∷ items) + 1 ≤ visits c places (stands_at tile at) n (item ∷ items)) same (past_this c places tile at n item items below is))
found_by c places tile at n item items found false below is here later =
    let less = later here in
    (less.0, past_later c places tile at n item items found less.0 less.1)

found_less : (c : Config) (places : List ℕ) (tile at n : ℕ) (items : List Item) (found : Found) → at ≤ n → first_of_tile tile n items ≡ Some found → OneLess c places tile at n items found
found_less c places tile at n [] found below here = absurd cc
found_less c places tile at n (item ∷ items) found below here =
    found_by c places tile at n item items found (item.tile == tile) below refl here (λ later. found_less c places tile at (n + 1) items found (omega (arith, below)) later)

drop_less : (c : Config) (places : List ℕ) (tile at n k : ℕ) (items : List Item) (found : Found) → at ≡ n + k → first_of_tile tile at (drop k items) ≡ Some found → OneLess c places tile at n items found
drop_less c places tile at n zero items found is here =
    let same : at ≡ n = omega (arith, is) in
    found_less c places tile at n items found (omega (arith, is)) (subst (λ q. first_of_tile tile q items ≡ Some found) same here)
drop_less c places tile at n (suc k) [] found is here = absurd cc
drop_less c places tile at n (suc k) (item ∷ items) found is here =
    let less = drop_less c places tile at (n + 1) k items found (omega (arith, is)) here in
    (less.0, past_later c places tile at n item items found less.0 less.1)

pub visits_past : (c : Config) (places : List ℕ) (sub : SubList) (items : List Item) (found : Found) → item_at sub items ≡ Some found
    → (sub.at ≤ found.number) × (visits c places (stands_at sub.tile (found.number + 1)) 0 items + 1 ≤ visits c places (Some sub) 0 items)
unfolding item_at
visits_past c places sub items found here = drop_less c places sub.tile sub.at 0 sub.at items found (omega arith) here

-- Where it goes into a tile's list, it goes past the items that the list's place counted.
place_same : (c : Config) (place tile one : ℕ) → place ≡ c.address + 32 * tile → (one == tile) ≡ true → (place == c.address + 32 * one) ≡ true
place_same c place tile one is on =
    let e : one ≡ tile = same one tile on in
    let there : place ≡ c.address + 32 * one = omega (arith, is, e) in
    grind (arith, common_steps, nat_tests, there)

first_only : (a b x : Bool) → (a ≡ true → b ≡ true) → one_if (a && x) ≤ one_if b
first_only true b true follows = let on : b ≡ true = follows refl in subst (λ z. 1 ≤ one_if z) (sym on) (omega arith)
first_only true b false follows = omega arith
first_only false b x follows = omega arith

pub visits_entered : (c : Config) (place tile : ℕ) (places : List ℕ) (n : ℕ) (items : List Item) → place ≡ c.address + 32 * tile
    → visits c places (stands_at tile 0) n items ≤ visits c (place ∷ places) None n items
visits_entered c place tile places n [] is = omega arith
visits_entered c place tile places n (item ∷ items) is =
    let later = visits_entered c place tile places (n + 1) items is in
    let here = first_only (item.tile == tile) (place == c.address + 32 * item.tile) (nat_le 0 n) (place_same c place tile item.tile is) in
    omega (arith, later, here)

and_true : (b : Bool) → one_if (b && true) ≡ one_if b
and_true true = refl
and_true false = refl

pub entered_often : (c : Config) (place tile : ℕ) (places : List ℕ) (one d : ℕ) → place ≡ c.address + 32 * tile → times (c.address + 32 * one) (place ∷ places) + 0 ≤ d
    → times (c.address + 32 * one) places + one_if (one == tile) ≤ d
entered_often c place tile places one d is often =
    let here = first_only (one == tile) (place == c.address + 32 * one) true (place_same c place tile one is) in
    let same_one : one_if (one == tile && true) ≡ one_if (one == tile) = and_true (one == tile) in
    omega (arith, often, here, same_one)

-- One item more is gone past at most as often as d.
before_inside : (inside : Option SubList) (tile n : ℕ) → one_if (is_before inside tile n) ≤ one_if (is_inside inside tile)
before_inside None tile n = omega arith
before_inside (Some sub) tile n = first_only (tile == sub.tile) (tile == sub.tile) (nat_le sub.at n) (λ on. on)

pub visits_more : (c : Config) (places : List ℕ) (inside : Option SubList) (n d : ℕ) (items : List Item) (item : Item) → times (c.address + 32 * item.tile) places + one_if (is_inside inside item.tile) ≤ d
    → visits c places inside n (items ++ item ∷ []) ≤ visits c places inside n items + d
visits_more c places inside n d [] item often = let before = before_inside inside item.tile n in omega (arith, often, before)
visits_more c places inside n d (first ∷ items) item often = let later = visits_more c places inside (n + 1) d items item often in omega (arith, later)
