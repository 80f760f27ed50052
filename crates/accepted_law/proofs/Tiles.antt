-- Each packet of a tile may be done, where each surface lies in its buffer and the tile is one of the binner's grid.
use Rattle.std.proofs.Common.{◌≡◌, ◌≤◌, ◌<◌, inl, ℕ, ◌+◌, ◌*◌, ◌%◌, ◌==◌, ◌&&◌, Bool, true, false, List, Option, Some, None, if◌then◌else◌, refl, sym, ap, arith, ◌∙◌, bit_or, lit<, rules}
use Rattle.std.proofs.{Math.Nat.mul-le-mul_right, lemmas.Grind.common_steps, lemmas.Bool.Decides.nat_tests}
use Rattle.std.specs.Int.Bits.{or_zero_r}
use Rattle.job_format.specs.declared.file.{Frame.Frame as JobFrame, Surface.Surface}
use Rattle.packets.specs.declared.packet.Packet.TheVariants.{StoreTileColor, StoreTileColorAndEnd, LoadFullResolution, LoadTileBuffer, TileCoordinates}
use Rattle.packets.specs.declared.{packet.Packet.Packet, config.Config.Config}
use Rattle.field_words.specs.Words.{bits_of}
use Rattle.texture_layouts.specs.{declared.format.Style.Style, Format.frame_style, Format.general_style}
use Rattle.tile_memory.specs.Slots.{alloc_offset}
use Rattle.machine_plan.specs.Regions.{Rights}
use Rattle.render_list.specs.Text.{number_where, packet_where, idle_store, color_place, color_bits, load_packet, load_slot, wait_slot, list_place, list_slot, full_store, full_store_slot, zs_store, zs_store_slot, color_store, color_store_slot, is_there, more_after_multisample_color, more_after_multisample_zs, some_before_zs, some_before_color, load_slots, list_slots, write_slots, tile_slots}
use Rattle.render_list.specs.Frame.{place_at, surface_at, is_full, full_place, is_last_tile}
use Rattle.render_list.specs.Surfaces.{surface_tiling, surface_pixel, surface_style}
use Rattle.render_walks.specs.Walks.{IsSlotFine, AreFine}
use Rattle.render_walks.proofs.Numbers.{small_where}
use Rattle.list_machine.specs.{declared.state.Frame.Frame, Blocks.tiles_of, Surfaces.names_none}
use Rattle.list_law.specs.{Start.frame_of, Rendering.StoresSurface, Rendering.LoadsSurface, Rendering.MayDo}
use Rattle.accepted_law.proofs.Frames.{IsPlainAt, IsSurfaceAt, AreSurfacesAt, aligned_or, aligned_same, style_kept}

-- The machine's frame, by the place of the surface that colour is written to.
abbrev pub head : JobFrame → Option ℕ → Frame
head frame color = record { address = color_place color; width = frame.width; height = frame.height; bits = color_bits frame color }

-- Where a binner's grid is given, the tile lists of the configuration are its tiles', and the set's tiles are in it.
pub record IsGridFor (c : Config) (frame : JobFrame) (slot : ℕ) (grid : ℕ × ℕ) : Type 0 where
  pub address : c.address ≡ slot + alloc_offset (grid.0 * grid.1)
  pub tiles : c.tiles_x * c.tiles_y ≡ grid.0 * grid.1
  pub across : frame.max_x < grid.0
  pub down : frame.max_y < grid.1

abbrev pub HasGridFor : Config → JobFrame → ℕ → Option (ℕ × ℕ) → Type 0
HasGridFor c frame slot None = Unit {0}
HasGridFor c frame slot (Some grid) = IsGridFor c frame slot grid

-- A surface whose style is listed may be stored and loaded at its place.
stores : (r : Rights) (frame : JobFrame) (color : Option ℕ) (k : ℕ) (surface : Surface) (base : ℕ) (found : Option Style)
    → surface_style k surface ≡ found → IsPlainAt r frame k surface base → StoresSurface r found (head frame color) base
stores r frame color k surface base found is plain = record { style_is = plain.style; styled = sym is ∙ plain.is; pixel = plain.short; writes = plain.writes }

loads : (r : Rights) (frame : JobFrame) (color : Option ℕ) (k : ℕ) (surface : Surface) (base : ℕ) (found : Option Style)
    → surface_style k surface ≡ found → IsPlainAt r frame k surface base → LoadsSurface r found (head frame color) base
loads r frame color k surface base found is plain = record { style_is = plain.style; styled = sym is ∙ plain.is; pixel = plain.short; reads = plain.writes.region }

-- All surfaces but the one that colour is written to have general bits.
general_at : (k : ℕ) (surface : Surface) → (k == 1) ≡ false → surface_style k surface ≡ general_style surface.bits
unfolding surface_tiling surface_pixel
general_at k surface other = grind (arith, common_steps, nat_tests)

-- A tile of a surface in full resolution begins at a multiple of 16.
full_whole : (frame : JobFrame) (base x y : ℕ) → base % 16 ≡ 0 → full_place frame base x y % 16 ≡ 0
unfolding full_place
full_whole frame base x y whole = omega (arith, whole)

-- A packet that stands only sometimes.
fine_where : (Fine : Packet → ℕ → ℕ → Type 0) (x y : ℕ) (test : Bool) (packet : Packet) → Fine packet x y → IsSlotFine Fine x y (packet_where test packet)
fine_where Fine x y test packet fine = search (rules, arith)

-- The loads.
load_by : (r : Rights) (c : Config) (frame : JobFrame) (color : Option ℕ) (k left_out base x y : ℕ) (full : Bool) → is_full k (surface_at frame k) ≡ full → (k == 1) ≡ false → left_out < 16
    → x ≤ frame.max_x → y ≤ frame.max_y → IsSurfaceAt r frame k base
    → MayDo r c (head frame color) (if full then LoadFullResolution (bit_or (full_place frame base x y) left_out) else LoadTileBuffer (surface_at frame k).bits base) x y
load_by r c frame color k left_out base x y full is other small right down here = search (rules, arith, aligned_or, full_whole, aligned_same, loads, general_at)

fine_load : (r : Rights) (c : Config) (frame : JobFrame) (color : Option ℕ) (k left_out : ℕ) (place : Option ℕ) (x y : ℕ) → (k == 1) ≡ false → left_out < 16
    → x ≤ frame.max_x → y ≤ frame.max_y → ((base : ℕ) → place ≡ Some base → IsSurfaceAt r frame k base)
    → IsSlotFine (MayDo r c (head frame color)) x y (load_slot frame k left_out place x y)
unfolding load_packet
fine_load r c frame color k left_out place x y other small right down surfaces = search (rules, arith, load_by)

-- The sub-list.
tile_below : (across down x y : ℕ) → x < across → y < down → y * across + x < across * down
tile_below across down x y right low = grind (arith, common_steps, nat_tests, mul-le-mul_right)

fine_list : (r : Rights) (c : Config) (f : Frame) (frame : JobFrame) (grid : Option (ℕ × ℕ)) (slot x y : ℕ) → HasGridFor c frame slot grid → x ≤ frame.max_x → y ≤ frame.max_y
    → IsSlotFine (MayDo r c f) x y (list_slot grid slot x y)
unfolding list_place tiles_of
fine_list r c f frame None slot x y is right down = tt
fine_list r c f frame (Some grid) slot x y is right down = record {
  tile = y * grid.0 + x;
  below = omega (arith, is.tiles, tile_below grid.0 grid.1 x y (omega (arith, right, is.across)) (omega (arith, down, is.down)));
  is = ap (λ n. n + 32 * (y * grid.0 + x)) (sym is.address);
}

fine_wait : (r : Rights) (c : Config) (f : Frame) (frame : JobFrame) (grid : Option (ℕ × ℕ)) (x y : ℕ) → IsSlotFine (MayDo r c f) x y (wait_slot frame grid x y)
fine_wait r c f frame grid x y = search (rules, arith, fine_where)

-- The stores in full resolution, of surfaces that are always so.
fine_full : (r : Rights) (c : Config) (f : Frame) (frame : JobFrame) (k left_out : ℕ) (place : Option ℕ) (more : Bool) (x y : ℕ) → is_full k (surface_at frame k) ≡ true → left_out ≤ 2
    → x ≤ frame.max_x → y ≤ frame.max_y → ((base : ℕ) → place ≡ Some base → IsSurfaceAt r frame k base)
    → IsSlotFine (MayDo r c f) x y (full_store_slot frame place left_out more x y)
unfolding full_store
fine_full r c f frame k left_out place more x y full small right down surfaces = search (rules, arith, small_where, aligned_or, full_whole)

-- The store of depth and stencil, by general bits, of which one says that colour stays.
zs_style : (more : Bool) (bits : ℕ) → general_style (bit_or bits (number_where more 8192)) ≡ general_style bits
zs_style true bits = style_kept bits
zs_style false bits = ap general_style (or_zero_r bits)

fine_zs : (r : Rights) (c : Config) (frame : JobFrame) (color place : Option ℕ) (more : Bool) (x y : ℕ) → ((base : ℕ) → place ≡ Some base → IsSurfaceAt r frame 3 base)
    → IsSlotFine (MayDo r c (head frame color)) x y (zs_store_slot frame place more x y)
unfolding zs_store
fine_zs r c frame color place more x y surfaces = search (rules, arith, small_where, stores, general_at, zs_style, aligned_or)

-- The store of colour, by the frame's bits.
color_by : (r : Rights) (c : Config) (f : Frame) (last : Bool) (x y : ℕ) → StoresSurface r (frame_style f.bits) f f.address → MayDo r c f (if last then StoreTileColorAndEnd else StoreTileColor) x y
color_by r c f last x y stored = search (rules, arith)

fine_color : (r : Rights) (c : Config) (frame : JobFrame) (color : Option ℕ) (x y : ℕ) → ((base : ℕ) → color ≡ Some base → IsSurfaceAt r frame 1 base)
    → IsSlotFine (MayDo r c (head frame color)) x y (color_store_slot frame color x y)
unfolding color_store is_full surface_tiling surface_pixel
fine_color r c frame None x y surfaces = tt
fine_color r c frame (Some base) x y surfaces =
    let surface : Surface = surface_at frame 1 in
    color_by r c (head frame (Some base)) (is_last_tile frame x y) x y
    (stores r frame (Some base) 1 surface base (frame_style surface.bits) refl ((surfaces base refl).plain refl))

-- a general store that stores nothing names no buffer
pub names_none_at : (bits : ℕ) → (bits_of bits 2 0 == 0) ≡ true → names_none bits ≡ true
unfolding names_none
names_none_at bits none = none

-- A tile.
pub tile_fine : (r : Rights) (c : Config) (frame : JobFrame) (places : List (Option ℕ)) (grid : Option (ℕ × ℕ)) (slot y x : ℕ) → AreSurfacesAt r frame places → HasGridFor c frame slot grid
    → x ≤ frame.max_x → y ≤ frame.max_y → AreFine (MayDo r c (frame_of frame places)) x y (tile_slots frame places grid slot y x)
unfolding tile_slots load_slots list_slots write_slots is_full
tile_fine r c frame places grid slot y x surfaces is right down =
    let color : Option ℕ = place_at places 1 in
    let f : Frame = head frame color in
    let Fine : Packet → ℕ → ℕ → Type 0 = MayDo r c f in
    let at : Packet = TileCoordinates x y in
    let both : Bool = is_there places 0 && is_there places 2 in (
      fine_load r c frame color 0 2 (place_at places 0) x y refl (lit< tt) right down (surfaces 0),
      (
        fine_where Fine x y both at tt,
        (
          fine_where Fine x y both idle_store (inl (names_none_at 57344 refl)),
          (
            fine_load r c frame color 2 1 (place_at places 2) x y refl (lit< tt) right down (surfaces 2),
            (
              tt,
              (
                fine_wait r c f frame grid x y,
                (
                  fine_list r c f frame grid slot x y is right down,
                  (
                    fine_full r c f frame 4 2 (place_at places 4) (more_after_multisample_color places) x y refl (omega arith) right down (surfaces 4),
                    (
                      fine_where Fine x y (is_there places 5 && is_there places 4) at tt,
                      (
                        fine_full r c f frame 5 1 (place_at places 5) (more_after_multisample_zs places) x y refl (omega arith) right down (surfaces 5),
                        (
                          fine_where Fine x y (is_there places 3 && some_before_zs places) at tt,
                          (
                            fine_zs r c frame color (place_at places 3) (is_there places 1) x y (surfaces 3),
                            (
                              fine_where Fine x y (is_there places 1 && some_before_color places) at tt,
                              (fine_color r c frame color x y (surfaces 1), tt),
                            ),
                          ),
                        ),
                      ),
                    ),
                  ),
                ),
              ),
            ),
          ),
        ),
      ),
    )
