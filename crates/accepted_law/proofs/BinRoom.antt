-- An emitted binner list is no longer than the one that it comes from.
use Rattle.std.proofs.Common.{◌≡◌, ℕ, ◌+◌, ◌≤◌, Bool, true, if◌then◌else◌, List, [], ◌∷◌, None, length, arith, length-append, rules}
use Rattle.std.proofs.lemmas.Bool.{eqb-true}
use Rattle.std.specs.Int.{to_le_bytes, w32}
use Rattle.field_words.specs.{Words.u32_at, Questions.first_of, Questions.with_answers}
use Rattle.field_words.proofs.{Nones.front_none, Nones.rest_none, Nones.none_answered, Writes.length-with_bytes}
use Rattle.relocation.specs.declared.layout.Layout.{Layout}
use Rattle.bin_list.specs.{declared.seen.Seen.Seen, Faults.fault, Seen.place, Seen.seen_before}
use Rattle.bin_list.specs.Packets.{packets, packets_passed}
use Rattle.bin_list.specs.Rules.{GivenModel, index_buffer, packet_questions, questions_of_packets}
use Rattle.bin_list.specs.Emitted.{index_text, packet_text, texts}
use Rattle.bin_list.proofs.Least.{cut_place}
use Rattle.bin_walks.proofs.{Fine.cut_fine, Texts.state_long, Texts.config_long}
use Rattle.bin_walks.proofs.Walking.{long_indexed, long_state, long_config}

index_long : (given : GivenModel) (seen : Seen) (p : List ℕ) → 14 ≤ length p → length (index_text given seen p) ≡ length p
unfolding index_text
index_long given seen p whole = length-with_bytes p 6 (to_le_bytes w32 ((index_buffer given seen).place + u32_at p 6)) (omega (arith, whole))

within_if : (b : Bool) (xs ys : List ℕ) (n : ℕ) → (b ≡ true → length xs ≤ n) → length ys ≤ n → length (if b then xs else ys) ≤ n
within_if b xs ys n one two = search (rules, arith)

-- A packet is emitted as no more bytes than it has.
packet_within : (given : GivenModel) (layout : Layout) (seen : Seen) (p : List ℕ) → first_of (packet_questions given seen p) ≡ None → length (packet_text given layout seen p) ≤ length p
unfolding packet_text
packet_within given layout seen p none = search (rules, arith, cut_fine, within_if, eqb-true, long_indexed, index_long, long_state, state_long, long_config, config_long)

texts_within : (given : GivenModel) (layout : Layout) (all : List (List ℕ)) → first_of (questions_of_packets given all) ≡ None → length (texts given layout all) ≤ place all
texts_within given layout [] none = omega arith
texts_within given layout (p ∷ earlier) none =
    let seen = seen_before earlier in
    let rules = with_answers (fault (place earlier)) (packet_questions given seen p) in
    let before = texts_within given layout earlier (front_none (questions_of_packets given earlier) rules none) in
    let here = packet_within given layout seen p (none_answered (fault (place earlier)) (packet_questions given seen p) (rest_none (questions_of_packets given earlier) rules none)) in
    omega (arith, before, here, length-append (texts given layout earlier) (packet_text given layout seen p))

pub list_within : (given : GivenModel) (layout : Layout) (list : List ℕ) → first_of (questions_of_packets given (packets_passed list)) ≡ None → length (texts given layout (packets_passed list)) ≤ length list
unfolding packets_passed packets
list_within given layout list none = search (rules, arith, texts_within, cut_place)
