-- The slots of a list, front by front.
use Rattle.std.proofs.Common.{◌≡◌, ℕ, zero, suc, ◌+◌, ◌-◌, ◌<◌, ◌≤◌, List, [], ◌++◌, length, Option, ap, arith, ◌∙◌, length-append}
use Rattle.std.specs.List.{flat_map, range_with_len}
use Rattle.job_format.specs.declared.file.Frame.{Frame}
use Rattle.packets.specs.{declared.packet.Packet.Packet, Packet.slots_text}
use Rattle.packets.proofs.Slots.{slots_append}
use Rattle.render_list.specs.Text.{span_slots, front_slots, all_tile_slots, render_slots}

-- the first numbers of a row, and the others
pub span_step : (slots : ℕ → List (Option Packet)) (x end : ℕ) → x < end
    → slots_text (span_slots slots x (end - x)) ≡ slots_text (slots x) ++ slots_text (span_slots slots (x + 1) (end - (x + 1)))
unfolding span_slots
span_step slots x end below =
    let e : end - x ≡ suc (end - (x + 1)) = omega arith in
    ap (λ n. slots_text (flat_map slots (range_with_len x n))) e
    ∙ slots_append (slots x) (flat_map slots (range_with_len (x + 1) (end - (x + 1))))

pub span_end : (slots : ℕ → List (Option Packet)) (x end : ℕ) → end ≤ x → slots_text (span_slots slots x (end - x)) ≡ []
unfolding span_slots
span_end slots x end past =
    let e : end - x ≡ zero = omega arith in
    ap (λ n. slots_text (flat_map slots (range_with_len x n))) e

-- the head with what clears, and the tiles
pub render_parts : (frame : Frame) (places : List (Option ℕ)) (grid : Option (ℕ × ℕ)) (slot : ℕ)
    → slots_text (render_slots frame places grid slot) ≡ slots_text (front_slots frame places) ++ slots_text (all_tile_slots frame places grid slot)
unfolding render_slots
render_parts frame places grid slot = slots_append (front_slots frame places) (all_tile_slots frame places grid slot)

pub length_parts : (frame : Frame) (places : List (Option ℕ)) (grid : Option (ℕ × ℕ)) (slot : ℕ)
    → length (slots_text (render_slots frame places grid slot)) ≡ length (slots_text (front_slots frame places)) + length (slots_text (all_tile_slots frame places grid slot))
length_parts frame places grid slot =
    ap length (render_parts frame places grid slot) ∙ length-append (slots_text (front_slots frame places)) (slots_text (all_tile_slots frame places grid slot))
