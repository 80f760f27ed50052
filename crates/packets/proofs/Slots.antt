-- Texts of slots.
use Rattle.std.proofs.Common.{◌≡◌, ℕ, ◌+◌, ◌<◌, List, [], ◌∷◌, ◌++◌, length, drop, get_or, Option, Some, None, refl, sym, ap, ◌∙◌, append_assoc, add-one, drop-cons}
use Rattle.packets.specs.{declared.packet.Packet.Packet, Packet.packet_text, Packet.slots_text}

-- the first of them stands before the others
pub slots_cons : (slot : Option Packet) (slots : List (Option Packet)) → slots_text (slot ∷ slots) ≡ slots_text (slot ∷ []) ++ slots_text slots
slots_cons None slots = refl
slots_cons (Some packet) slots = sym (append_assoc (packet_text packet) [] (slots_text slots))

pub slots_append : (front rest : List (Option Packet)) → slots_text (front ++ rest) ≡ slots_text front ++ slots_text rest
slots_append [] rest = refl
slots_append (None ∷ front) rest = slots_append front rest
slots_append (Some packet ∷ front) rest = ap (λ t. packet_text packet ++ t) (slots_append front rest) ∙ sym (append_assoc (packet_text packet) (slots_text front) (slots_text rest))

-- from place i of a list on
pub slots_step : (slots : List (Option Packet)) (i : ℕ) → i < length slots
    → slots_text (drop i slots) ≡ slots_text (get_or slots i None ∷ []) ++ slots_text (drop (i + 1) slots)
slots_step slots i below =
    let cut : drop i slots ≡ get_or slots i None ∷ drop (i + 1) slots = rw (add-one, drop-cons slots i None) refl in
    ap slots_text cut ∙ slots_cons (get_or slots i None) (drop (i + 1) slots)
