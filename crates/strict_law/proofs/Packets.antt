-- No packet of a strict binner list is forbidden.
use Rattle.std.proofs.Common.{◌≡◌, ◌≢◌, ◌≤◌, inl, inr, ℕ, ◌+◌, ◌/◌, ◌%◌, ◌==◌, ◌&&◌, ◌||◌, not, Bool, true, false, nat_lt, nat_le, List, [], ◌∷◌, slice_index, Option, Some, None, if◌then◌else◌, refl, sym, ◌∙◌, ap, arith}
use Rattle.std.proofs.lemmas.Bool.{and_parts, eq-eqb, ne_eqb, or_cases, true≢false}
use Rattle.std.proofs.{lemmas.Grind.common_steps, lemmas.Bool.Decides.nat_tests, lemmas.List.Sums.sum_by-cons}
use Rattle.std.specs.Prelude.{count_by, unwrap_or}
use Rattle.std.specs.List.{list_any}
use Rattle.field_words.specs.Questions.{first_of, with_answers}
use Rattle.field_words.proofs.{Nones.front_none, Nones.rest_none, Nones.none_answered, Questions.none_broken}
use Rattle.packets.specs.Opcode.{start_tile_binning, indexed_primitive_list, array_primitive_list, primitive_list_format, gl_shader_state}
use Rattle.packets.specs.declared.config.Config.{Config}
use Rattle.bin_walks.specs.Walks.{Kept, kept_after, nothing_kept, Drawing, Tame}
use Rattle.field_words.specs.Words.{u32_at}
use Rattle.bin_list.specs.{Packets.opcode, Seen.last_opcode, Seen.latest, Seen.place, Packets.draws}
use Rattle.list_law.proofs.Logs.{same}
use Rattle.promises.specs.Steps.{one_if}
use Rattle.strict_lists.specs.Rules.{primitives_in, is_started, e9, e10, e13, is_reset, course_before, packet_questions, list_fault, asked_from}
use Rattle.strict_law.specs.Lists.{has_kind, is_start, IsForbiddenPacket, HasNoKind, IsOneTooMany, SelectsMissing, LacksReset, SetsFormat}
use Rattle.strict_law.specs.Records.{selects_missing}

-- What the rules say of one packet, where none is broken.
pub record BreaksNone (executed : List (List ℕ)) (packet : List ℕ) : Type 0 where
  pub kind : e9 packet ≡ false
  pub count : e10 (course_before executed) packet ≡ false
  pub format : e13 (course_before executed) packet ≡ false

pub breaks_none : (executed : List (List ℕ)) (packet : List ℕ) (packets : List (List ℕ)) → first_of (asked_from executed (packet ∷ packets)) ≡ None → BreaksNone executed packet
unfolding packet_questions
breaks_none executed packet packets none =
    let front = front_none (with_answers (list_fault (place executed)) (packet_questions (course_before executed) packet)) (asked_from (packet ∷ executed) packets) none in
    let stands = none_broken (packet_questions (course_before executed) packet) (none_answered (list_fault (place executed)) (packet_questions (course_before executed) packet) front) in
    record { kind = stands.0; count = stands.1.0; format = stands.1.1.0 }

pub rest_strict : (executed : List (List ℕ)) (packet : List ℕ) (packets : List (List ℕ)) → first_of (asked_from executed (packet ∷ packets)) ≡ None → first_of (asked_from (packet ∷ executed) packets) ≡ None
rest_strict executed packet packets none =
    rest_none (with_answers (list_fault (place executed)) (packet_questions (course_before executed) packet)) (asked_from (packet ∷ executed) packets) none

-- E9
kind_by : (indexed array : Bool) (b : ℕ) → (indexed || array) ≡ true → ((indexed && (nat_lt 1 (b / 16) || nat_lt 6 (b % 16))) || (array && nat_lt 6 b)) ≡ false
    → (if indexed then nat_le (b / 16) 1 && nat_le (b % 16) 6 else nat_le b 6) ≡ true
kind_by true array b draws off = grind (arith, common_steps, nat_tests, off)
kind_by false true b draws off = grind (arith, common_steps, nat_tests, off)
kind_by false false b draws off = absurd cc

kind_is : (packet : List ℕ) → draws packet ≡ true → e9 packet ≡ false → has_kind packet ≡ true
unfolding draws e9 has_kind
kind_is packet drawn off = kind_by (opcode packet == indexed_primitive_list) (opcode packet == array_primitive_list) (slice_index packet 1) drawn off

-- E10
drawn_count : (executed : List (List ℕ)) → count_by draws executed ≡ primitives_in executed
drawn_count [] = refl
drawn_count (packet ∷ executed) =
    let rest = drawn_count executed in
    let first = sum_by-cons (λ p. if draws p then 1 else 0) packet executed in
    omega (arith, rest, first)

count_by_bool : (b : Bool) (n : ℕ) → n ≤ 7920 → (b && n == 7920) ≡ false → n + one_if b ≤ 7920
count_by_bool true n few off = grind (arith, common_steps, nat_tests, off)
count_by_bool false n few off = omega (arith, few)

pub count_next : (executed : List (List ℕ)) (packet : List ℕ) → primitives_in executed ≤ 7920 → BreaksNone executed packet → primitives_in (packet ∷ executed) ≤ 7920
unfolding e10 course_before
count_next executed packet few none = count_by_bool (draws packet) (primitives_in executed) few none.count

room_by : (b : Bool) (n : ℕ) → b ≡ true → (b && n == 7920) ≡ false → n ≤ 7920 → nat_le 7920 n ≡ true → ⊥
room_by true n on off few over = grind (arith, common_steps, nat_tests, off, over)
room_by false n on off few over = absurd cc

not_over : (executed : List (List ℕ)) (packet : List ℕ) → primitives_in executed ≤ 7920 → draws packet ≡ true → e10 (course_before executed) packet ≡ false → nat_le 7920 (count_by draws executed) ≡ true → ⊥
unfolding e10 course_before
not_over executed packet few drawn off over =
    room_by (draws packet) (primitives_in executed) drawn off few (ap (λ n. nat_le 7920 n) (sym (drawn_count executed)) ∙ over)

-- E13
reset_by : (b : Bool) (reset other : Bool) → b ≡ true → (if b then not reset else other) ≡ false → reset ≡ true
reset_by true true other on off = refl
reset_by true false other on off = absurd cc
reset_by false reset other on off = absurd cc

reset_there : (executed : List (List ℕ)) (packet : List ℕ) → last_opcode executed ≡ start_tile_binning → e13 (course_before executed) packet ≡ false → (opcode packet ≡ primitive_list_format) × (slice_index packet 1 ≡ 18)
unfolding e13 course_before is_reset
reset_there executed packet start off =
    let reset = reset_by (last_opcode executed == start_tile_binning) (opcode packet == primitive_list_format && slice_index packet 1 == 18) (is_started executed && opcode packet == primitive_list_format) (eq-eqb (last_opcode executed) start_tile_binning start) off in
    let parts = and_parts (opcode packet == primitive_list_format) (slice_index packet 1 == 18) reset in
    (same (opcode packet) primitive_list_format parts.0, same (slice_index packet 1) 18 parts.1)

started_is : (executed : List (List ℕ)) → list_any is_start executed ≡ is_started executed
unfolding is_start
started_is [] = refl
started_is (packet ∷ executed) = ap (λ b. opcode packet == start_tile_binning || b) (started_is executed)

format_by : (b started format : Bool) (first : Bool) → b ≡ false → started ≡ true → format ≡ true → (if b then first else started && format) ≡ false → ⊥
format_by b started format first not_last on sets off = true≢false (cc)

sets_none : (executed : List (List ℕ)) (packet : List ℕ) → list_any is_start executed ≡ true → last_opcode executed ≢ start_tile_binning → opcode packet ≡ primitive_list_format → e13 (course_before executed) packet ≡ false → ⊥
unfolding e13 course_before
sets_none executed packet started not_last sets off =
    format_by (last_opcode executed == start_tile_binning) (is_started executed) (opcode packet == primitive_list_format) (not (is_reset packet)) (ne_eqb (last_opcode executed) start_tile_binning not_last) (sym (started_is executed) ∙ started)
    (eq-eqb (opcode packet) primitive_list_format sets) off

-- E11, of the state that the last packet of its kind before named
pub record SelectsThere (m : List ℕ) (executed : List (List ℕ)) (packet : List ℕ) : Type 0 where
  pub none : draws packet ≡ true → (state : List ℕ) → latest gl_shader_state executed ≡ Some state → selects_missing m (u32_at state 1) ≡ false

-- what a binner keeps of the packets that it executed, in the words of those who emit lists
abbrev pub kept_before : List (List ℕ) → Kept
kept_before [] = nothing_kept
kept_before (packet ∷ executed) = kept_after (kept_before executed) packet

word_by : (b : Bool) (word : ℕ) (state packet : List ℕ) (kept : Option ℕ) (last : Option (List ℕ)) → word ≡ u32_at packet 1 → (last ≡ Some state → kept ≡ Some (u32_at state 1)) → (if b then Some packet else last) ≡ Some state
    → (if b then Some word else kept) ≡ Some (u32_at state 1)
word_by true word state packet kept last is earlier named = ap (λ n. Some n) (is ∙ ap (λ p. u32_at p 1) (ap (λ o. unwrap_or o packet) named))
word_by false word state packet kept last is earlier named = earlier named

word_kept : (executed : List (List ℕ)) (state : List ℕ) → latest gl_shader_state executed ≡ Some state → (kept_before executed).word ≡ Some (u32_at state 1)
unfolding kept_after
word_kept [] state is = absurd cc
word_kept (packet ∷ executed) state is =
    word_by (opcode packet == gl_shader_state) (u32_at packet 1) state packet (kept_before executed).word (latest gl_shader_state executed) refl (word_kept executed state) is

drawing_selects : (m : List ℕ) (R : ℕ → List ℕ → Type 0) (executed : List (List ℕ)) (packet state : List ℕ) → ((word : ℕ) → R word packet → selects_missing m word ≡ false) → Drawing R (kept_before executed) packet → latest gl_shader_state executed ≡ Some state
    → selects_missing m (u32_at state 1) ≡ false
drawing_selects m R executed packet state none drawing is =
    let same : drawing.word ≡ u32_at state 1 = ap (λ o. unwrap_or o drawing.word) (sym drawing.kept_word ∙ word_kept executed state is) in
    ap (λ word. selects_missing m word) (sym same) ∙ none drawing.word drawing.allowed

pub selects_there : (m : List ℕ) (c : Config) (R : ℕ → List ℕ → Type 0) (executed : List (List ℕ)) (packet : List ℕ) → ((word : ℕ) → R word packet → selects_missing m word ≡ false) → Tame c R (kept_before executed) packet → SelectsThere m executed packet
unfolding draws
selects_there m c R executed packet none tame = record {
  none = λ drawn state is.
      elim (or_cases (opcode packet == indexed_primitive_list) (opcode packet == array_primitive_list) drawn) [
        | inl indexed ↦ drawing_selects m R executed packet state none (tame.indexed (same (opcode packet) indexed_primitive_list indexed)) is
        | inr array ↦ drawing_selects m R executed packet state none (tame.array (same (opcode packet) array_primitive_list array)) is
      ];
}

pub packet_obeys : (m : List ℕ) (executed : List (List ℕ)) (packet : List ℕ) → SelectsThere m executed packet → primitives_in executed ≤ 7920 → BreaksNone executed packet → IsForbiddenPacket m executed packet → ⊥
packet_obeys m executed packet there few none (HasNoKind drawn off) = true≢false (sym (kind_is packet drawn none.kind) ∙ off)
packet_obeys m executed packet there few none (IsOneTooMany drawn over) = not_over executed packet few drawn none.count over
packet_obeys m executed packet there few none (LacksReset start other) = (let reset = reset_there executed packet start none.format in other reset.0 reset.1)
packet_obeys m executed packet there few none (SetsFormat started later sets) = sets_none executed packet started later sets none.format
packet_obeys m executed packet there few none (SelectsMissing state drawn is missing) = true≢false (sym missing ∙ there.none drawn state is)
