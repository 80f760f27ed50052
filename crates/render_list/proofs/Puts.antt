-- Slots that are written one behind the other.
use Rattle.std.proofs.Common.{◌≡◌, ℕ, ◌+◌, Bool, true, false, ◌||◌, ◌&&◌, List, [], ◌∷◌, ◌++◌, length, take, drop, Option, Some, None, is_some, refl, ap, ◌∙◌, length-append}
use Rattle.packets.specs.{declared.packet.Packet.Packet, Packet.slots_text, declared.packet.Packet.TheVariants.TileCoordinates}
use Rattle.packets.proofs.Slots.{slots_append}
use Rattle.job_format.specs.declared.file.Frame.{Frame}
use Rattle.render_list.specs.Text.{packet_where, is_there, idle_store, load_slot, load_slots, full_store_slot, zs_store_slot, color_store_slot}
use Rattle.render_list.specs.Text.{more_after_multisample_color, more_after_multisample_zs, some_before_zs, some_before_color, write_slots}
use Rattle.render_list.specs.Frame.{place_at}

pub length_two : (front rest : List (Option Packet)) → length (slots_text (front ++ rest)) ≡ length (slots_text front) + length (slots_text rest)
length_two front rest = ap length (slots_append front rest) ∙ length-append (slots_text front) (slots_text rest)

-- the first of them, and the others
pub text_of_parts : (frame : Frame) (places : List (Option ℕ)) (x y : ℕ) → slots_text (write_slots frame places x y)
    ≡ slots_text (take 3 (write_slots frame places x y)) ++ slots_text (drop 3 (write_slots frame places x y))
unfolding write_slots
text_of_parts frame places x y = slots_append (take 3 (write_slots frame places x y)) (drop 3 (write_slots frame places x y))

pub length_of_parts : (frame : Frame) (places : List (Option ℕ)) (x y : ℕ) → length (slots_text (write_slots frame places x y))
    ≡ length (slots_text (take 3 (write_slots frame places x y))) + length (slots_text (drop 3 (write_slots frame places x y)))
unfolding write_slots
length_of_parts frame places x y = length_two (take 3 (write_slots frame places x y)) (drop 3 (write_slots frame places x y))

-- Where nothing is written before colour, the text of a tile's writes is that of its write.
alone_by : (frame : Frame) (color zs plain last : Option ℕ) (before_zs before_color more_color more_zs : Bool) (x y : ℕ) → ((is_some color || is_some zs) || is_some plain) ≡ false → before_color ≡ false
    → slots_text (full_store_slot frame color 2 more_color x y
    ∷ (packet_where (is_some zs && is_some color) (TileCoordinates x y)
    ∷ (full_store_slot frame zs 1 more_zs x y
    ∷ (packet_where (is_some plain && before_zs) (TileCoordinates x y)
    ∷ (zs_store_slot frame plain (is_some last) x y
    ∷ (packet_where (is_some last && before_color) (TileCoordinates x y)
    ∷ (color_store_slot frame last x y ∷ [])))))))
    ≡ slots_text (color_store_slot frame last x y ∷ [])
alone_by frame None None None None before_zs before_color more_color more_zs x y absent none = refl
alone_by frame None None None (Some place) before_zs before_color more_color more_zs x y absent none =
    ap (λ b. slots_text (packet_where b (TileCoordinates x y) ∷ (color_store_slot frame (Some place) x y ∷ []))) none
alone_by frame None None (Some place) last before_zs before_color more_color more_zs x y absent none = absurd (let wrong : true ≡ false = absent in cc)
alone_by frame None (Some place) plain last before_zs before_color more_color more_zs x y absent none = absurd (let wrong : true ≡ false = absent in cc)
alone_by frame (Some place) zs plain last before_zs before_color more_color more_zs x y absent none = absurd (let wrong : true ≡ false = absent in cc)

pub color_alone : (frame : Frame) (places : List (Option ℕ)) (x y : ℕ) → some_before_color places ≡ false
    → slots_text (write_slots frame places x y) ≡ slots_text (color_store_slot frame (place_at places 1) x y ∷ [])
unfolding write_slots some_before_color some_before_zs
color_alone frame places x y none =
    alone_by frame (place_at places 4) (place_at places 5) (place_at places 3) (place_at places 1) (some_before_zs places) (some_before_color places)
    (more_after_multisample_color places) (more_after_multisample_zs places) x y none none

-- Where nothing is loaded, the loads have no text.
no_loads_by : (frame : Frame) (color zs : Option ℕ) (x y : ℕ) → (is_some color || is_some zs) ≡ false
    → slots_text (load_slot frame 0 2 color x y
    ∷ (packet_where (is_some color && is_some zs) (TileCoordinates x y) ∷ (packet_where (is_some color && is_some zs) idle_store ∷ (load_slot frame 2 1 zs x y ∷ []))))
    ≡ []
no_loads_by frame None None x y absent = refl
no_loads_by frame None (Some place) x y absent = absurd (let wrong : true ≡ false = absent in cc)
no_loads_by frame (Some place) zs x y absent = absurd (let wrong : true ≡ false = absent in cc)

pub no_loads : (frame : Frame) (places : List (Option ℕ)) (x y : ℕ) → (is_there places 0 || is_there places 2) ≡ false → slots_text (load_slots frame places x y) ≡ []
unfolding load_slots
no_loads frame places x y absent = no_loads_by frame (place_at places 0) (place_at places 2) x y absent
