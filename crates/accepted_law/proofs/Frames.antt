-- What the rules of a frame promise of each of its surfaces: where it lies, and how its pixels do.
use Rattle.std.proofs.Common.{◌≡◌, ◌≤◌, ◌<◌, ℕ, ◌+◌, ◌*◌, ◌-◌, ◌/◌, ◌%◌, ◌^◌, ◌==◌, ◌&&◌, ◌||◌, not, Bool, true, false, List, Option, Some, None, if◌then◌else◌, refl, sym, ap, subst, arith, ◌∙◌, bit_or, rules}
use Rattle.std.proofs.lemmas.Nat.{or_shifted, or_shr, or_mod}
use Rattle.std.specs.{Prelude.is_some, Prelude.IfSome, Int.Bits.or_zero_r}
use Rattle.field_words.specs.{Words.bits_of, Questions.first_of}
use Rattle.buffer_table.specs.{Table.TableModel, Table.buffer_at, Table.most_place, Handles.data_of}
use Rattle.shader_records.specs.Named.{IsDataIn}
use Rattle.job_format.specs.declared.file.{Frame.Frame as JobFrame, Surface.Surface}
use Rattle.texture_layouts.specs.Format.{tiling_named, buffer_pixel, general_tiling, general_pixel, frame_tiling, frame_pixel, style_named, general_style, IsShort}
use Rattle.texture_layouts.specs.declared.{surface.Tiling.Tiling, format.Style.Style}
use Rattle.texture_layouts.proofs.Styles.{general_short, frame_short}
use Rattle.render_list.specs.Surfaces.{surface_questions, has_unlisted_tiling, has_unlisted_format, is_unaligned, is_full_with_bits, buffer_size, surface_tiling, surface_pixel, surface_style, styled_size, place_behind, place_in}
use Rattle.render_list.specs.Frame.{place_at, surface_at, is_present, is_full, full_tile, full_place}
use Rattle.render_list.proofs.Checked.{IsChecked, is_checked, size_named, full_inside, plain_inside, inside_by}
use Rattle.render_list.proofs.Places.{full_place_grows}
use Rattle.machine_plan.specs.Regions.{Rights}
use Rattle.list_machine.specs.Surfaces.{aligned_address, whole_size}
use Rattle.list_law.specs.May.{MayWrite}

-- A buffer of this place and size begins at a page, ends inside the greatest memory, and the job may write each part of it.
pub record IsRoom (r : Rights) (place size : ℕ) : Type 0 where
  pub page : place % 4096 ≡ 0
  pub low : place + size ≤ most_place
  pub writes : (p n : ℕ) → place ≤ p → p + n ≤ place + size → MayWrite r p n

-- so each data buffer that the handles name
abbrev pub HasRoom : Rights → TableModel → List ℕ → Type 0
HasRoom r table handles = (place size : ℕ) → IsDataIn table handles place size → IsRoom r place size

-- A surface that isn't in full resolution: its tiling and its pixel are listed, and the job may write all its bytes.
pub record IsPlainAt (r : Rights) (frame : JobFrame) (k : ℕ) (surface : Surface) (base : ℕ) : Type 0 where
  pub style : Style
  pub is : surface_style k surface ≡ Some style
  pub short : IsShort style.cpp
  pub writes : MayWrite r base (styled_size frame (Some style))

-- One in full resolution: the job may write each tile of the set, all of which lie below 2^32.
pub record IsFullAt (r : Rights) (frame : JobFrame) (base : ℕ) : Type 0 where
  pub low : full_place frame base frame.max_x frame.max_y < 2 ^ 32
  pub writes : (x y : ℕ) → x ≤ frame.max_x → y ≤ frame.max_y → MayWrite r (full_place frame base x y) whole_size

-- Surface k of the frame at its place.
pub record IsSurfaceAt (r : Rights) (frame : JobFrame) (k base : ℕ) : Type 0 where
  pub whole : base % 16 ≡ 0
  pub low : base < 2 ^ 32
  pub general : (k == 3) ≡ true → is_full k (surface_at frame k) ≡ false
  pub plain : is_full k (surface_at frame k) ≡ false → IsPlainAt r frame k (surface_at frame k) base
  pub full : is_full k (surface_at frame k) ≡ true → IsFullAt r frame base

-- each surface that has a place
abbrev pub AreSurfacesAt : Rights → JobFrame → List (Option ℕ) → Type 0
AreSurfacesAt r frame places = (k base : ℕ) → place_at places k ≡ Some base → IsSurfaceAt r frame k base

-- The rules, as facts on numbers.
listed_tiling : (k : ℕ) (surface : Surface) → is_full k surface ≡ false → has_unlisted_tiling k surface ≡ false → is_some (surface_tiling k surface) ≡ true
unfolding has_unlisted_tiling
listed_tiling k surface plain listed = grind (arith, plain, listed)

listed_pixel : (k : ℕ) (surface : Surface) → is_full k surface ≡ false → has_unlisted_format k surface ≡ false → is_some (surface_pixel k surface) ≡ true
unfolding has_unlisted_format
listed_pixel k surface plain listed = grind (arith, plain, listed)

offset_whole : (surface : Surface) → is_unaligned surface ≡ false → surface.offset % 16 ≡ 0
unfolding is_unaligned
offset_whole surface whole = grind (arith, whole)

both_false : (a b c : Bool) → a ≡ true → (b && (a || c)) ≡ false → b ≡ false
both_false a b c here none = search (rules, arith)

never_full : (k : ℕ) (surface : Surface) → is_full_with_bits k surface ≡ false → (k == 3) ≡ true → is_full k surface ≡ false
unfolding is_full_with_bits
never_full k surface none here = both_false (k == 3) (is_full k surface) (not (surface.bits == 0)) here none

-- A surface with a place is present, and its handle names a data buffer.
record IsFoundIn (table : TableModel) (present : Bool) (offset : ℕ) (found : Option ℕ) (base : ℕ) : Type 0 where
  number : ℕ
  here : present ≡ true
  named : found ≡ Some number
  place_is : (buffer_at table.buffers number).place + offset ≡ base

found_by : (table : TableModel) (present : Bool) (offset : ℕ) (found : Option ℕ) (base : ℕ) → (if present then place_behind table offset found else None) ≡ Some base → IsFoundIn table present offset found base
found_by table present offset found base is = search (rules, arith)

found_in : (table : TableModel) (handles : List ℕ) (surface : Surface) (base : ℕ) → place_in table handles surface ≡ Some base
    → IsFoundIn table (is_present surface) surface.offset (data_of table handles surface.hindex) base
unfolding place_in
found_in table handles surface base is = found_by table (is_present surface) surface.offset (data_of table handles surface.hindex) base is

-- Where tiling and pixel are listed, so is the style, and its pixels are short.
some_style : (tiling : Option Tiling) (pixel : Option ℕ) → is_some tiling ≡ true → is_some pixel ≡ true → is_some (style_named tiling pixel) ≡ true
some_style tiling pixel tiled listed = search (rules, arith)

short_by : (color : Bool) (bits : ℕ)
    → IfSome (style_named (if color then frame_tiling bits else general_tiling bits) (if color then frame_pixel bits else general_pixel bits)) (λ s. IsShort s.cpp)
short_by color bits = search (rules, arith, frame_short, general_short)

surface_short : (k : ℕ) (surface : Surface) → IfSome (surface_style k surface) (λ s. IsShort s.cpp)
unfolding surface_tiling surface_pixel
surface_short k surface = short_by (k == 1) surface.bits

plain_by : (r : Rights) (frame : JobFrame) (k : ℕ) (surface : Surface) (base : ℕ) (found : Option Style) → surface_style k surface ≡ found → is_some found ≡ true
    → IfSome found (λ s. IsShort s.cpp) → MayWrite r base (styled_size frame found) → IsPlainAt r frame k surface base
plain_by r frame k surface base found is some short writes = search (rules, arith)

plain_at : (r : Rights) (frame : JobFrame) (k : ℕ) (surface : Surface) (table : TableModel) (handles : List ℕ) (place base : ℕ)
    → IsRoom r place (buffer_size table handles surface) → place + surface.offset ≡ base
    → IsChecked frame k surface table handles → is_full k surface ≡ false → IsPlainAt r frame k surface base
plain_at r frame k surface table handles place base room is listed plain = search (rules, arith, plain_inside, plain_by, some_style, listed_tiling, listed_pixel, surface_short)

full_at : (r : Rights) (frame : JobFrame) (k : ℕ) (surface : Surface) (table : TableModel) (handles : List ℕ) (place base : ℕ)
    → IsRoom r place (buffer_size table handles surface) → place + surface.offset ≡ base
    → IsChecked frame k surface table handles → is_full k surface ≡ true → IsFullAt r frame base
unfolding full_place
full_at r frame k surface table handles place base room is listed full =
    let inside = full_inside frame k surface (buffer_size table handles surface) full listed.full in
    record {
      low = omega (arith, is, inside, room.low);
      writes = λ x y right down.
          let grows : base + 16384 * full_tile frame x y ≤ base + 16384 * full_tile frame frame.max_x frame.max_y = full_place_grows frame base x y frame.max_x frame.max_y right down in
          room.writes (base + 16384 * full_tile frame x y) 16384 (omega (arith, is)) (omega (arith, is, inside, grows));
    }

-- Surface k, where it has a place and no rule of it is broken.
pub surface_is : (r : Rights) (frame : JobFrame) (table : TableModel) (handles : List ℕ) (k base : ℕ) → HasRoom r table handles
    → first_of (surface_questions frame table handles k) ≡ None → place_in table handles (surface_at frame k) ≡ Some base → IsSurfaceAt r frame k base
surface_is r frame table handles k base rooms none is =
    let surface : Surface = surface_at frame k in
    let found : IsFoundIn table (is_present surface) surface.offset (data_of table handles surface.hindex) base = found_in table handles surface base is in
    let place : ℕ = (buffer_at table.buffers found.number).place in
    let size : ℕ = buffer_size table handles surface in
    let room : IsRoom r place size =
    subst (IsRoom r place) (sym (size_named table handles surface found.number found.named))
    (rooms place (buffer_at table.buffers found.number).size (record { handle = surface.hindex; number = found.number; named = found.named; place_is = refl; size_is = refl })) in
    let listed : IsChecked frame k surface table handles = is_checked frame table handles k found.here none in
    record {
      whole = omega (arith, found.place_is, offset_whole surface listed.whole, room.page);
      low = omega (arith, found.place_is, inside_by (is_full k surface) frame k surface size refl listed.plain listed.full, room.low);
      general = never_full k surface listed.bits;
      plain = plain_at r frame k surface table handles place base room found.place_is listed;
      full = full_at r frame k surface table handles place base room found.place_is listed;
    }

-- Low bits of an address don't count.
pub aligned_or : (base low : ℕ) → base % 16 ≡ 0 → low < 16 → aligned_address (bit_or base low) ≡ base
unfolding aligned_address
aligned_or base low whole small =
    let e : base / 16 * 2 ^ 4 ≡ base = omega (arith, whole) in
    ap (λ n. n - n % 16) (subst (λ n. bit_or n low ≡ n + low) e (or_shifted (base / 16) 4 low small)) ∙ (omega (arith, whole, small))

pub aligned_same : (base : ℕ) → base % 16 ≡ 0 → aligned_address base ≡ base
unfolding aligned_address
aligned_same base whole = omega (arith, whole)

-- The bit by which a store doesn't clear changes no field of the bits.
field_kept : (bits high low : ℕ) → 8192 / 2 ^ low % 2 ^ (high + 1 - low) ≡ 0 → bits_of (bit_or bits 8192) high low ≡ bits_of bits high low
field_kept bits high low none =
    ap (λ n. n % 2 ^ (high + 1 - low)) (or_shr bits 8192 low)
    ∙ or_mod (bits / 2 ^ low) (8192 / 2 ^ low) (high + 1 - low)
    ∙ ap (bit_or (bits / 2 ^ low % 2 ^ (high + 1 - low))) none
    ∙ or_zero_r (bits / 2 ^ low % 2 ^ (high + 1 - low))

tiling_kept : (bits : ℕ) → general_tiling (bit_or bits 8192) ≡ general_tiling bits
unfolding general_tiling
tiling_kept bits = ap tiling_named (field_kept bits 5 4 refl)

pixel_kept : (bits : ℕ) → general_pixel (bit_or bits 8192) ≡ general_pixel bits
unfolding general_pixel
pixel_kept bits =
    ap (λ n. buffer_pixel n (bits_of (bit_or bits 8192) 9 8)) (field_kept bits 2 0 refl)
    ∙ ap (λ n. buffer_pixel (bits_of bits 2 0) n) (field_kept bits 9 8 refl)

pub style_kept : (bits : ℕ) → general_style (bit_or bits 8192) ≡ general_style bits
style_kept bits = ap (λ t. style_named t (general_pixel (bit_or bits 8192))) (tiling_kept bits) ∙ ap (λ p. style_named (general_tiling bits) p) (pixel_kept bits)
