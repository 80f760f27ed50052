-- A renderer list walks, tile by tile.
use Rattle.std.proofs.Common.{◌≡◌, ℕ, zero, suc, ◌+◌, ◌<◌, ◌≤◌, Bool, true, false, ◌&&◌, ◌==◌, not, List, [], ◌∷◌, ◌++◌, Option, Some, None, is_some, if◌then◌else◌, refl, sym, ap, subst, arith, ◌∙◌, bit_or, eq-eqb}
use Rattle.std.proofs.lemmas.Bool.{false≢true, and_parts}
use Rattle.job_format.specs.declared.file.Frame.{Frame}
use Rattle.packets.specs.declared.packet.Packet.TheVariants.{WaitOnSemaphore, BranchToSubList, StoreTileColor, StoreTileColorAndEnd, LoadFullResolution, StoreTileBuffer, LoadTileBuffer, ClearColors, TileCoordinates}
use Rattle.packets.specs.declared.packet.Packet.{Packet}
use Rattle.render_list.specs.Frame.{place_at, surface_at, is_full, full_place, is_first_tile, is_last_tile, tiles_across, tiles_down, IsTileSet}
use Rattle.render_list.specs.Text.{packet_where, idle_store, head_packet, clear_packet, clear_slots, front_slots, load_packet, load_slot, wait_slot, list_place, list_slot, full_store, full_store_slot, zs_store, zs_store_slot, color_store, color_store_slot, is_there, coordinates_slot, more_after_multisample_color, more_after_multisample_zs, some_before_zs, some_before_color, load_slots, list_slots, write_slots, tile_slots, span_slots, row_slots, all_tile_slots, render_slots}
use Rattle.render_walks.specs.Walks.{View, at_start, pass, IsDoneAt, WalksTo, IsSlotFine, AreFine, OwesFine, IsBetween}

-- Where a front walks, the rest goes on from where it ends.
pub walks_append : (Fine : Packet → ℕ → ℕ → Type 0) (I J : View → Type 0) (k : View) (front rest : List (Option Packet)) → WalksTo Fine I k front
    → ((j : View) → I j → WalksTo Fine J j rest) → WalksTo Fine J k (front ++ rest)
walks_append Fine I J k [] rest walks later = later k walks
walks_append Fine I J k (None ∷ front) rest walks later = walks_append Fine I J k front rest walks later
walks_append Fine I J k (Some packet ∷ front) rest walks later = (walks.0, walks_append Fine I J (pass k packet) front rest walks.1 later)

-- Numbers in a row: each walks from I to I.
pub walks_span : (Fine : Packet → ℕ → ℕ → Type 0) (I : View → Type 0) (slots : ℕ → List (Option Packet)) (first n : ℕ)
    → ((x : ℕ) → first ≤ x → x < first + n → (k : View) → I k → WalksTo Fine I k (slots x))
    → (k : View) → I k → WalksTo Fine I k (span_slots slots first n)
unfolding span_slots
walks_span Fine I slots first zero each k here = here
walks_span Fine I slots first (suc n) each k here =
    walks_append Fine I I k (slots first) (span_slots slots (first + 1) n) (each first (omega arith) (omega arith) k here)
    (walks_span Fine I slots (first + 1) n (λ x above below. each x (omega arith) (omega arith)))

-- The first of them may walk from H.
pub walks_first : (Fine : Packet → ℕ → ℕ → Type 0) (H I : View → Type 0) (slots : ℕ → List (Option Packet)) (first n : ℕ) → 0 < n
    → ((k : View) → H k → WalksTo Fine I k (slots first))
    → ((x : ℕ) → first < x → x < first + n → (k : View) → I k → WalksTo Fine I k (slots x))
    → (k : View) → H k → WalksTo Fine I k (span_slots slots first n)
unfolding span_slots
walks_first Fine H I slots first zero some begins each k here = absurd (omega (arith, some))
walks_first Fine H I slots first (suc n) some begins each k here =
    walks_append Fine I I k (slots first) (span_slots slots (first + 1) n) (begins k here)
    (walks_span Fine I slots (first + 1) n (λ x above below. each x (omega arith) (omega arith)))

-- A front and a rest of fine slots are fine.
fine_front : (Fine : Packet → ℕ → ℕ → Type 0) (x y : ℕ) (front rest : List (Option Packet)) → AreFine Fine x y (front ++ rest) → AreFine Fine x y front
fine_front Fine x y [] rest fine = tt
fine_front Fine x y (slot ∷ front) rest fine = (fine.0, fine_front Fine x y front rest fine.1)

fine_rest : (Fine : Packet → ℕ → ℕ → Type 0) (x y : ℕ) (front rest : List (Option Packet)) → AreFine Fine x y (front ++ rest) → AreFine Fine x y rest
fine_rest Fine x y [] rest fine = fine
fine_rest Fine x y (slot ∷ front) rest fine = fine_rest Fine x y front rest fine.1

-- In a tile: a load that waits is fine at the tile; later the renderer stands at the tile, and no load waits.
record IsLoading (Fine : Packet → ℕ → ℕ → Type 0) (must : Bool) (x y : ℕ) (k : View) : Type 0 where
  framed : k.framed ≡ true
  waits : IsDoneAt Fine k.waiting x y
  waited : must ≡ true → k.waited ≡ true

record IsAt (must : Bool) (x y : ℕ) (k : View) : Type 0 where
  framed : k.framed ≡ true
  idle : k.waiting ≡ None
  waited : must ≡ true → k.waited ≡ true
  at_x : k.x ≡ x
  at_y : k.y ≡ y

-- The loads. One load waits; a second comes behind coordinates and the store that stores nothing.
load_step : (Fine : Packet → ℕ → ℕ → Type 0) (full : Bool) (far bits place : ℕ) (J : View → Type 0) (k : View) (slots : List (Option Packet)) → k.waiting ≡ None
    → WalksTo Fine J (record k { waiting = Some (if full then LoadFullResolution far else LoadTileBuffer bits place) }) slots
    → WalksTo Fine J k (Some (if full then LoadFullResolution far else LoadTileBuffer bits place) ∷ slots)
load_step Fine true far bits place J k slots idle later = (idle, later)
load_step Fine false far bits place J k slots idle later = (idle, later)

load_walks : (Fine : Packet → ℕ → ℕ → Type 0) (frame : Frame) (n left_out place x y : ℕ) (J : View → Type 0) (k : View) (slots : List (Option Packet)) → k.waiting ≡ None
    → WalksTo Fine J (record k { waiting = Some (load_packet frame n left_out place x y) }) slots
    → WalksTo Fine J k (Some (load_packet frame n left_out place x y) ∷ slots)
unfolding load_packet
load_walks Fine frame n left_out place x y J k slots idle later =
    load_step Fine (is_full n (surface_at frame n)) (bit_or (full_place frame place x y) left_out) (surface_at frame n).bits place J k slots idle later

loads_walk : (Fine : Packet → ℕ → ℕ → Type 0) (must : Bool) (frame : Frame) (color zs : Option ℕ) (x y : ℕ) (k : View) → IsBetween must k
    → IsSlotFine Fine x y (load_slot frame 0 2 color x y) → IsSlotFine Fine x y (packet_where (is_some color && is_some zs) idle_store) → IsSlotFine Fine x y (load_slot frame 2 1 zs x y)
    → WalksTo Fine (IsLoading Fine must x y) k
    (load_slot frame 0 2 color x y
    ∷ packet_where (is_some color && is_some zs) (TileCoordinates x y)
    ∷ packet_where (is_some color && is_some zs) idle_store
    ∷ load_slot frame 2 1 zs x y ∷ [])
loads_walk Fine must frame None None x y k between one two three =
    record { framed = between.framed; waits = subst (λ w. IsDoneAt Fine w x y) (sym between.idle) tt; waited = between.waited }
loads_walk Fine must frame (Some color) None x y k between one two three =
    load_walks Fine frame 0 2 color x y (IsLoading Fine must x y) k [] between.idle
    (record { framed = between.framed; waits = one; waited = between.waited })
loads_walk Fine must frame None (Some zs) x y k between one two three =
    load_walks Fine frame 2 1 zs x y (IsLoading Fine must x y) k [] between.idle
    (record { framed = between.framed; waits = three; waited = between.waited })
loads_walk Fine must frame (Some color) (Some zs) x y k between one two three =
    load_walks Fine frame 0 2 color x y (IsLoading Fine must x y) k
    (Some (TileCoordinates x y) ∷ Some idle_store ∷ Some (load_packet frame 2 1 zs x y) ∷ []) between.idle (
      (between.framed, one),
      (
        (between.framed, two),
        load_walks Fine frame 2 1 zs x y (IsLoading Fine must x y) (record k { waiting = None; x = x; y = y }) [] refl
            (record { framed = between.framed; waits = three; waited = between.waited }),
      ),
    )

-- The coordinates do the load that waits. The first tile then waits for the binner, and each runs its list.
list_walks : (Fine : Packet → ℕ → ℕ → Type 0) (must first : Bool) (grid : Option (ℕ × ℕ)) (slot x y : ℕ) (frame : Frame) (k : View)
    → is_first_tile frame x y ≡ first → must ≡ (is_some grid && not first)
    → IsLoading Fine must x y k → IsSlotFine Fine x y (list_slot grid slot x y)
    → WalksTo Fine (IsAt (is_some grid) x y) k (Some (TileCoordinates x y) ∷ wait_slot frame grid x y ∷ list_slot grid slot x y ∷ [])
list_walks Fine must first None slot x y frame k here owes loading fine =
    ((loading.framed, loading.waits), record { framed = loading.framed; idle = refl; waited = λ never. absurd (false≢true never); at_x = refl; at_y = refl })
list_walks Fine must true (Some grid) slot x y frame k here owes loading fine = (
  (loading.framed, loading.waits),
  subst (λ b. WalksTo Fine (IsAt true x y) (record k { waiting = None; x = x; y = y }) (packet_where b WaitOnSemaphore ∷ Some (BranchToSubList (list_place grid slot x y)) ∷ [])) (sym here)
      (tt, ((refl, fine), record { framed = loading.framed; idle = refl; waited = λ b. refl; at_x = refl; at_y = refl })),
)
list_walks Fine must false (Some grid) slot x y frame k here owes loading fine =
    let waited : k.waited ≡ true = loading.waited owes in (
      (loading.framed, loading.waits),
      subst (λ b. WalksTo Fine (IsAt true x y) (record k { waiting = None; x = x; y = y }) (packet_where b WaitOnSemaphore ∷ Some (BranchToSubList (list_place grid slot x y)) ∷ [])) (sym here)
          ((waited, fine), record { framed = loading.framed; idle = refl; waited = λ b. waited; at_x = refl; at_y = refl }),
    )

-- what is fine at the tile is fine where the renderer stands
fine_here : (Fine : Packet → ℕ → ℕ → Type 0) (must : Bool) (x y : ℕ) (k : View) (packet : Packet) → IsAt must x y k → Fine packet x y → Fine packet k.x k.y
fine_here Fine must x y k packet here fine = subst (λ a. Fine packet a k.y) (sym here.at_x) (subst (λ b. Fine packet x b) (sym here.at_y) fine)

-- The writes leave the renderer at the tile.
coordinates_step : (Fine : Packet → ℕ → ℕ → Type 0) (must : Bool) (x y : ℕ) (J : View → Type 0) (k : View) (stands : Bool) (slots : List (Option Packet)) → IsAt must x y k
    → ((j : View) → IsAt must x y j → WalksTo Fine J j slots)
    → WalksTo Fine J k (packet_where stands (TileCoordinates x y) ∷ slots)
coordinates_step Fine must x y J k false slots here later = later k here
coordinates_step Fine must x y J k true slots here later = (
  (here.framed, subst (λ w. IsDoneAt Fine w x y) (sym here.idle) tt),
  later (record k { waiting = None; x = x; y = y }) (record { framed = here.framed; idle = refl; waited = here.waited; at_x = refl; at_y = refl }),
)

full_step : (Fine : Packet → ℕ → ℕ → Type 0) (must : Bool) (x y : ℕ) (J : View → Type 0) (k : View) (frame : Frame) (place : Option ℕ) (left_out : ℕ) (more : Bool) (slots : List (Option Packet))
    → IsAt must x y k → IsSlotFine Fine x y (full_store_slot frame place left_out more x y)
    → ((j : View) → IsAt must x y j → WalksTo Fine J j slots)
    → WalksTo Fine J k (full_store_slot frame place left_out more x y ∷ slots)
unfolding full_store
full_step Fine must x y J k frame None left_out more slots here fine later = later k here
full_step Fine must x y J k frame (Some place) left_out more slots here fine later = ((here.framed, fine_here Fine must x y k (full_store frame place left_out more x y) here fine), later k here)

zs_step : (Fine : Packet → ℕ → ℕ → Type 0) (must : Bool) (x y : ℕ) (J : View → Type 0) (k : View) (frame : Frame) (place : Option ℕ) (more : Bool) (slots : List (Option Packet))
    → IsAt must x y k → IsSlotFine Fine x y (zs_store_slot frame place more x y)
    → ((j : View) → IsAt must x y j → WalksTo Fine J j slots)
    → WalksTo Fine J k (zs_store_slot frame place more x y ∷ slots)
unfolding zs_store
zs_step Fine must x y J k frame None more slots here fine later = later k here
zs_step Fine must x y J k frame (Some place) more slots here fine later = ((here.framed, fine_here Fine must x y k (zs_store frame place more x y) here fine), later k here)

color_by : (Fine : Packet → ℕ → ℕ → Type 0) (must : Bool) (x y : ℕ) (J : View → Type 0) (k : View) (last : Bool) (slots : List (Option Packet)) → IsAt must x y k
    → Fine (if last then StoreTileColorAndEnd else StoreTileColor) x y
    → ((j : View) → IsAt must x y j → WalksTo Fine J j slots)
    → WalksTo Fine J k (Some (if last then StoreTileColorAndEnd else StoreTileColor) ∷ slots)
color_by Fine must x y J k true slots here fine later = ((here.framed, fine_here Fine must x y k StoreTileColorAndEnd here fine), later k here)
color_by Fine must x y J k false slots here fine later = ((here.framed, fine_here Fine must x y k StoreTileColor here fine), later k here)

color_step : (Fine : Packet → ℕ → ℕ → Type 0) (must : Bool) (x y : ℕ) (J : View → Type 0) (k : View) (frame : Frame) (place : Option ℕ) (slots : List (Option Packet))
    → IsAt must x y k → IsSlotFine Fine x y (color_store_slot frame place x y)
    → ((j : View) → IsAt must x y j → WalksTo Fine J j slots)
    → WalksTo Fine J k (color_store_slot frame place x y ∷ slots)
unfolding color_store
color_step Fine must x y J k frame None slots here fine later = later k here
color_step Fine must x y J k frame (Some place) slots here fine later = color_by Fine must x y J k (is_last_tile frame x y) slots here fine later

at_is_between : (must : Bool) (x y : ℕ) (k : View) → IsAt must x y k → IsBetween must k
at_is_between must x y k here = record { framed = here.framed; idle = here.idle; waited = here.waited }

writes_walk : (Fine : Packet → ℕ → ℕ → Type 0) (must : Bool) (frame : Frame) (places : List (Option ℕ)) (x y : ℕ) (k : View) → IsAt must x y k → AreFine Fine x y (write_slots frame places x y)
    → WalksTo Fine (IsBetween must) k (write_slots frame places x y)
unfolding write_slots
writes_walk Fine must frame places x y k here fine =
    let J : View → Type 0 = IsBetween must in
    let s7 = color_store_slot frame (place_at places 1) x y ∷ [] in
    let s6 = coordinates_slot places 1 (some_before_color places) x y ∷ s7 in
    let s5 = zs_store_slot frame (place_at places 3) (is_there places 1) x y ∷ s6 in
    let s4 = coordinates_slot places 3 (some_before_zs places) x y ∷ s5 in
    let s3 = full_store_slot frame (place_at places 5) 1 (more_after_multisample_zs places) x y ∷ s4 in
    let s2 = coordinates_slot places 5 (is_there places 4) x y ∷ s3 in
    full_step Fine must x y J k frame (place_at places 4) 2 (more_after_multisample_color places) s2 here fine.0
    (λ k2 h2. coordinates_step Fine must x y J k2 (is_there places 5 && is_there places 4) s3 h2
    (λ k3 h3. full_step Fine must x y J k3 frame (place_at places 5) 1 (more_after_multisample_zs places) s4 h3 fine.1.1.0
    (λ k4 h4. coordinates_step Fine must x y J k4 (is_there places 3 && some_before_zs places) s5 h4
    (λ k5 h5. zs_step Fine must x y J k5 frame (place_at places 3) (is_there places 1) s6 h5 fine.1.1.1.1.0
    (λ k6 h6. coordinates_step Fine must x y J k6 (is_there places 1 && some_before_color places) s7 h6
    (λ k7 h7. color_step Fine must x y J k7 frame (place_at places 1) [] h7 fine.1.1.1.1.1.1.0
    (λ k8 h8. at_is_between must x y k8 h8)))))))

-- A tile whose packets are fine at its coordinates walks.
pub tile_walks : (Fine : Packet → ℕ → ℕ → Type 0) (frame : Frame) (places : List (Option ℕ)) (grid : Option (ℕ × ℕ)) (slot y x : ℕ)
    → AreFine Fine x y (tile_slots frame places grid slot y x)
    → (k : View) → IsBetween (is_some grid && not (is_first_tile frame x y)) k
    → WalksTo Fine (IsBetween (is_some grid)) k (tile_slots frame places grid slot y x)
unfolding tile_slots load_slots list_slots
tile_walks Fine frame places grid slot y x fine k between =
    let must : Bool = is_some grid && not (is_first_tile frame x y) in
    let loads = load_slots frame places x y in
    let lists = list_slots frame grid slot x y in
    let writes = write_slots frame places x y in
    let loads_fine : AreFine Fine x y loads = fine_front Fine x y loads (lists ++ writes) fine in
    let later_fine : AreFine Fine x y (lists ++ writes) = fine_rest Fine x y loads (lists ++ writes) fine in
    let lists_fine : AreFine Fine x y lists = fine_front Fine x y lists writes later_fine in
    walks_append Fine (IsLoading Fine must x y) (IsBetween (is_some grid)) k loads (lists ++ writes)
    (loads_walk Fine must frame (place_at places 0) (place_at places 2) x y k between loads_fine.0 loads_fine.1.1.0 loads_fine.1.1.1.0)
    (λ j loading. walks_append Fine (IsAt (is_some grid) x y) (IsBetween (is_some grid)) j lists writes
    (list_walks Fine must (is_first_tile frame x y) grid slot x y frame j refl refl loading lists_fine.1.1.0)
    (λ i here. writes_walk Fine (is_some grid) frame places x y i here (fine_rest Fine x y lists writes later_fine)))

-- what must be so where nothing must
between_any : (a b : Bool) (k : View) → (b ≡ true → a ≡ true) → IsBetween a k → IsBetween b k
between_any a b k less between = record { framed = between.framed; idle = between.idle; waited = λ must. between.waited (less must) }

never_both : (a b : Bool) → b ≡ true → (a && not b) ≡ true → ⊥
never_both true true is_b both = false≢true both
never_both false b is_b both = false≢true both
never_both true false is_b both = false≢true is_b

first_is_first : (frame : Frame) → is_first_tile frame frame.min_x frame.min_y ≡ true
unfolding is_first_tile
first_is_first frame = ap (λ b. b && (frame.min_y == frame.min_y)) (eq-eqb frame.min_x frame.min_x refl) ∙ eq-eqb frame.min_y frame.min_y refl

-- A row, whose first tile may be the first of all.
weaker : (frame : Frame) (grid : Option (ℕ × ℕ)) (x y : ℕ) (k : View) → IsBetween (is_some grid) k
    → IsBetween (is_some grid && not (is_first_tile frame x y)) k
weaker frame grid x y k between =
    between_any (is_some grid) (is_some grid && not (is_first_tile frame x y)) k (λ on. (and_parts (is_some grid) (not (is_first_tile frame x y)) on).0) between

row_walks : (Fine : Packet → ℕ → ℕ → Type 0) (frame : Frame) (places : List (Option ℕ)) (grid : Option (ℕ × ℕ)) (slot y : ℕ) → IsTileSet frame
    → OwesFine Fine frame places grid slot → frame.min_y ≤ y → y ≤ frame.max_y
    → (k : View) → IsBetween (is_some grid && not (is_first_tile frame frame.min_x y)) k → WalksTo Fine (IsBetween (is_some grid)) k (row_slots frame places grid slot y)
row_walks Fine frame places grid slot y set owes above below k between =
    walks_first Fine (IsBetween (is_some grid && not (is_first_tile frame frame.min_x y))) (IsBetween (is_some grid)) (tile_slots frame places grid slot y) frame.min_x (tiles_across frame)
    (omega (arith, set.across))
    (λ j here. tile_walks Fine frame places grid slot y frame.min_x (owes.tiles frame.min_x y (omega arith) set.across above below) j here)
    (λ x right left j here. tile_walks Fine frame places grid slot y x (owes.tiles x y (omega (arith, right)) (omega (arith, left, set.across)) above below) j (weaker frame grid x y j here))
    k between

all_walk : (Fine : Packet → ℕ → ℕ → Type 0) (frame : Frame) (places : List (Option ℕ)) (grid : Option (ℕ × ℕ)) (slot : ℕ) → IsTileSet frame
    → OwesFine Fine frame places grid slot
    → (k : View) → IsBetween false k → WalksTo Fine (IsBetween (is_some grid)) k (all_tile_slots frame places grid slot)
all_walk Fine frame places grid slot set owes k between =
    let first = is_first_tile frame frame.min_x frame.min_y in
    walks_first Fine (IsBetween false) (IsBetween (is_some grid)) (row_slots frame places grid slot) frame.min_y (tiles_down frame)
    (omega (arith, set.down))
    (λ j here. row_walks Fine frame places grid slot frame.min_y set owes (omega arith) set.down j
    (between_any false (is_some grid && not first) j (λ both. absurd (never_both (is_some grid) first (first_is_first frame) both)) here))
    (λ y below above j here. row_walks Fine frame places grid slot y set owes (omega (arith, below)) (omega (arith, above, set.down)) j (weaker frame grid frame.min_x y j here))
    k between

-- The head and what clears.
clears_walk : (Fine : Packet → ℕ → ℕ → Type 0) (clear : Bool) (k : View) (values : Packet) (first second z stencil : ℕ) → values ≡ ClearColors first second z stencil
    → k.framed ≡ true → k.waiting ≡ None → Fine (StoreTileBuffer 0 0) 0 0
    → WalksTo Fine (IsBetween false) k (packet_where clear values ∷ packet_where clear (TileCoordinates 0 0) ∷ packet_where clear (StoreTileBuffer 0 0) ∷ [])
clears_walk Fine false k values first second z stencil is framed idle fine = record { framed = framed; idle = idle; waited = λ never. absurd (false≢true never) }
clears_walk Fine true k values first second z stencil is framed idle fine =
    subst (λ p. WalksTo Fine (IsBetween false) k (Some p ∷ Some (TileCoordinates 0 0) ∷ Some (StoreTileBuffer 0 0) ∷ [])) (sym is)
    (tt, ((framed, subst (λ w. IsDoneAt Fine w 0 0) (sym idle) tt), ((framed, fine), record { framed = framed; idle = refl; waited = λ never. absurd (false≢true never) })))

front_walks : (Fine : Packet → ℕ → ℕ → Type 0) (frame : Frame) (places : List (Option ℕ)) → Fine (StoreTileBuffer 0 0) 0 0
    → WalksTo Fine (IsBetween false) at_start (front_slots frame places)
unfolding front_slots head_packet clear_slots clear_packet
front_walks Fine frame places fine =
    (tt, clears_walk Fine frame.clear (record at_start { framed = true }) (clear_packet frame) _ _ _ _ refl refl refl fine)

-- The whole list walks.
pub render_walks : (Fine : Packet → ℕ → ℕ → Type 0) (frame : Frame) (places : List (Option ℕ)) (grid : Option (ℕ × ℕ)) (slot : ℕ) → IsTileSet frame
    → OwesFine Fine frame places grid slot
    → WalksTo Fine (IsBetween (is_some grid)) at_start (render_slots frame places grid slot)
unfolding render_slots
render_walks Fine frame places grid slot set owes =
    walks_append Fine (IsBetween false) (IsBetween (is_some grid)) at_start (front_slots frame places) (all_tile_slots frame places grid slot)
    (front_walks Fine frame places owes.clears)
    (all_walk Fine frame places grid slot set owes)
