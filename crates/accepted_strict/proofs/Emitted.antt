-- A binner list that breaks no strict rule is emitted as one that doesn't either: what the rules ask of stays as it is, and the packets that
-- are dropped don't stand behind the start of binning.
use Rattle.std.proofs.Common.{◌≡◌, ◌≢◌, ◌≤◌, ℕ, ◌+◌, ◌/◌, ◌%◌, ◌==◌, ◌&&◌, ◌||◌, not, Bool, true, false, nat_lt, List, [], ◌∷◌, ◌++◌, length, take, drop, slice_index, None, if◌then◌else◌, refl, sym, ◌∙◌, ap, arith}
use Rattle.std.proofs.lemmas.Bool.{eqb-true, true≢false}
use Rattle.std.proofs.lemmas.List.{append_cancel_left, get_or_append_left, get_or-take, length-append, length-drop, length-take, take_all, take-append-le}
use Rattle.std.specs.Prelude.{min, ◌-◌}
use Rattle.std.specs.Int.{to_le_bytes, w32}
use Rattle.field_words.specs.{Pieces.joined_texts, Questions.first_of, Questions.with_answers, Writes.with_bytes}
use Rattle.field_words.proofs.{Nones.front_none, Nones.rest_none, Nones.none_answered, Questions.answered_none, Questions.none_broken, Questions.passes, Questions.first_none}
use Rattle.relocation.specs.declared.layout.Layout.{Layout}
use Rattle.packets.specs.Opcode.{start_tile_binning, indexed_primitive_list, array_primitive_list, primitive_list_format, gl_shader_state, tile_binning_mode, buffer_handles}
use Rattle.packets.specs.Length.{bin_length}
use Rattle.bin_list.specs.{declared.seen.Seen.Seen, Packets.opcode, Seen.last_opcode, Seen.place, Seen.seen_before, Rules.GivenModel, Packets.draws}
use Rattle.bin_list.specs.Emitted.{index_text, packet_text}
use Rattle.bin_walks.specs.Emission.{emission}
use Rattle.bin_walks.proofs.Texts.{state_opcode, config_opcode}
use Rattle.ends_law.specs.Left.{IsWhole, AllWhole}
use Rattle.strict_lists.specs.Rules.{primitives_in, is_started, e9, e10, e13, is_reset, most_primitives, course_before, packet_questions, list_fault, asked_from}

-- Whole packets are cut in one way.
some_long : (packet : List ℕ) → IsWhole packet → 1 ≤ length packet
some_long packet whole =
    let long = whole.whole in
    let known = whole.known in
    omega (arith, long, known)

joined_some : (packet : List ℕ) (packets : List (List ℕ)) → IsWhole packet → joined_texts (packet ∷ packets) ≡ [] → ⊥
joined_some packet packets whole is =
    let some = some_long packet whole in
    let long = sym (length-append packet (joined_texts packets)) ∙ ap length is in
    omega (arith, some, long)

first_byte : (packet rest : List ℕ) → 1 ≤ length packet → slice_index (packet ++ rest) 0 ≡ opcode packet
first_byte packet rest some = get_or_append_left packet rest 0 0 (omega (arith, some))

take_front : (packet rest : List ℕ) → take (length packet) (packet ++ rest) ≡ packet
take_front packet rest = take-append-le (length packet) packet rest (omega arith) ∙ take_all (length packet) packet (omega arith)

front_same : (packet other rest more : List ℕ) → IsWhole packet → IsWhole other → packet ++ rest ≡ other ++ more → packet ≡ other
front_same packet other rest more whole beside is =
    let here = first_byte packet rest (some_long packet whole) in
    let there = first_byte other more (some_long other beside) in
    let code : opcode packet ≡ opcode other = sym here ∙ (ap (λ bytes. slice_index bytes 0) is ∙ there) in
    let long : length packet ≡ length other = whole.whole ∙ (ap bin_length code ∙ sym beside.whole) in
    sym (take_front packet rest) ∙ (ap (λ n. take n (packet ++ rest)) long ∙ (ap (λ bytes. take (length other) bytes) is ∙ take_front other more))

pub joined_once : (packets others : List (List ℕ)) → AllWhole packets → AllWhole others → joined_texts packets ≡ joined_texts others → packets ≡ others
joined_once [] [] whole beside is = refl
joined_once [] (other ∷ others) whole beside is = absurd (joined_some other others beside.0 (sym is))
joined_once (packet ∷ packets) [] whole beside is = absurd (joined_some packet packets whole.0 is)
joined_once (packet ∷ packets) (other ∷ others) whole beside is =
    let same : packet ≡ other = front_same packet other (joined_texts packets) (joined_texts others) whole.0 beside.0 is in
    let later : joined_texts packets ≡ joined_texts others = append_cancel_left other (joined_texts packets) (joined_texts others) (ap (λ p. p ++ joined_texts packets) (sym same) ∙ is) in
    ap (λ p. p ∷ packets) same ∙ ap (λ ps. other ∷ ps) (joined_once packets others whole.1 beside.1 later)

-- What stays of a packet: its opcode, and the byte behind that, but for the two kinds that are written anew.
record IsLike (p text : List ℕ) : Type 0 where
  same : opcode text ≡ opcode p
  byte : (opcode p == gl_shader_state) ≡ false → (opcode p == tile_binning_mode) ≡ false → slice_index text 1 ≡ slice_index p 1

first_there : (p : List ℕ) → opcode p ≡ indexed_primitive_list → 1 ≤ length p
first_there [] is = absurd (omega (arith, is))
first_there (byte ∷ p) is = omega arith

like_bytes : (p : List ℕ) (n : ℕ) → opcode p ≡ indexed_primitive_list → IsWhole (with_bytes p 6 (to_le_bytes w32 n)) → IsLike p (with_bytes p 6 (to_le_bytes w32 n))
unfolding bin_length
like_bytes p n is whole =
    let text : List ℕ = with_bytes p 6 (to_le_bytes w32 n) in
    let some = first_there p is in
    let head : List ℕ = take 6 p in
    let tail : List ℕ = to_le_bytes w32 n ++ drop 10 p in
    let top : length head ≡ min 6 (length p) = length-take 6 p in
    let under : length (drop 10 p) ≡ length p - 10 = length-drop 10 p in
    let sum : length text ≡ length head + length tail = length-append head tail in
    let ends : length tail ≡ 4 + length (drop 10 p) = length-append (to_le_bytes w32 n) (drop 10 p) in
    let same : opcode text ≡ opcode p = get_or_append_left head tail 0 0 (omega (arith, top, some)) ∙ get_or-take 6 p 0 0 (omega arith) in
    let long : length text ≡ 14 = whole.whole ∙ ap bin_length (same ∙ is) in
    let two : 14 ≤ length p = omega (arith, top, under, sum, ends, long) in
    record { same = same; byte = λ no_state no_config. get_or_append_left head tail 0 1 (omega (arith, top, two)) ∙ get_or-take 6 p 1 0 (omega arith) }

like_by : (P : List ℕ → Type 0) (handles indexed names configures : Bool) (x y z p : List ℕ) → handles ≡ false → (indexed ≡ true → P x) → (names ≡ true → P y) → (configures ≡ true → P z) → P p
    → P (if handles then [] else (if indexed then x else (if names then y else (if configures then z else p))))
like_by P true indexed names configures x y z p off on_x on_y on_z on_p = absurd (true≢false off)
like_by P false true names configures x y z p off on_x on_y on_z on_p = on_x refl
like_by P false false true configures x y z p off on_x on_y on_z on_p = on_y refl
like_by P false false false true x y z p off on_x on_y on_z on_p = on_z refl
like_by P false false false false x y z p off on_x on_y on_z on_p = on_p

like_text : (given : GivenModel) (layout : Layout) (seen : Seen) (p : List ℕ) → (opcode p == buffer_handles) ≡ false → IsWhole (packet_text given layout seen p) → IsLike p (packet_text given layout seen p)
unfolding packet_text index_text
like_text given layout seen p kept =
    like_by (λ text. IsWhole text → IsLike p text) (opcode p == buffer_handles) (opcode p == indexed_primitive_list) (opcode p == gl_shader_state) (opcode p == tile_binning_mode) _ _ _ p kept
    (λ yes whole. like_bytes p _ (eqb-true (opcode p) indexed_primitive_list yes) whole)
    (λ yes whole. record { same = state_opcode layout seen p ∙ sym (eqb-true (opcode p) gl_shader_state yes); byte = λ no_state no_config. absurd (true≢false (sym yes ∙ no_state)) })
    (λ yes whole. record { same = config_opcode layout p ∙ sym (eqb-true (opcode p) tile_binning_mode yes); byte = λ no_state no_config. absurd (true≢false (sym yes ∙ no_config)) })
    (λ whole. record { same = refl; byte = λ no_state no_config. refl })

-- So what the rules ask of one packet stays.
by_head : (ask : ℕ → ℕ → Bool) (p text : List ℕ) (names configures : Bool) → (opcode p == gl_shader_state) ≡ names → (opcode p == tile_binning_mode) ≡ configures → ((n : ℕ) → ask gl_shader_state n ≡ false) → ((n : ℕ) → ask tile_binning_mode n ≡ false) → IsLike p text
    → ask (opcode text) (slice_index text 1) ≡ ask (opcode p) (slice_index p 1)
by_head ask p text true configures name config of_name of_config like =
    let is = eqb-true (opcode p) gl_shader_state name in
    ap (λ o. ask o (slice_index text 1)) (like.same ∙ is) ∙ (of_name (slice_index text 1) ∙ (sym (of_name (slice_index p 1)) ∙ ap (λ o. ask o (slice_index p 1)) (sym is)))
by_head ask p text false true name config of_name of_config like =
    let is = eqb-true (opcode p) tile_binning_mode config in
    ap (λ o. ask o (slice_index text 1)) (like.same ∙ is) ∙ (of_config (slice_index text 1) ∙ (sym (of_config (slice_index p 1)) ∙ ap (λ o. ask o (slice_index p 1)) (sym is)))
by_head ask p text false false name config of_name of_config like =
    ap (λ o. ask o (slice_index text 1)) like.same ∙ ap (λ n. ask (opcode p) n) (like.byte name config)

kind_stays : (p text : List ℕ) → IsLike p text → e9 text ≡ e9 p
unfolding e9
kind_stays p text like =
    by_head (λ o n. (o == indexed_primitive_list && (nat_lt 1 (n / 16) || nat_lt 6 (n % 16))) || (o == array_primitive_list && nat_lt 6 n)) p text (opcode p == gl_shader_state) (opcode p == tile_binning_mode) refl refl (λ n. refl) (λ n. refl) like

reset_stays : (p text : List ℕ) → IsLike p text → is_reset text ≡ is_reset p
unfolding is_reset
reset_stays p text like = by_head (λ o n. o == primitive_list_format && n == 18) p text (opcode p == gl_shader_state) (opcode p == tile_binning_mode) refl refl (λ n. refl) (λ n. refl) like

primitive_stays : (p text : List ℕ) → IsLike p text → draws text ≡ draws p
unfolding draws
primitive_stays p text like = ap (λ o. o == indexed_primitive_list || o == array_primitive_list) like.same

-- What the rules ask of the packets before stays too.
record Follows (earlier texts : List (List ℕ)) : Type 0 where
  count : primitives_in texts ≡ primitives_in earlier
  started : is_started texts ≡ is_started earlier
  last : (last_opcode texts == start_tile_binning) ≡ (last_opcode earlier == start_tile_binning)

count_stays : (p text : List ℕ) (earlier texts : List (List ℕ)) → IsLike p text → Follows earlier texts → e10 (course_before texts) text ≡ e10 (course_before earlier) p
unfolding e10 course_before
count_stays p text earlier texts like follows = ap (λ b. b && primitives_in texts == most_primitives) (primitive_stays p text like) ∙ ap (λ n. draws p && n == most_primitives) follows.count

format_stays : (p text : List ℕ) (earlier texts : List (List ℕ)) → IsLike p text → Follows earlier texts → e13 (course_before texts) text ≡ e13 (course_before earlier) p
unfolding e13 course_before
format_stays p text earlier texts like follows =
    ap (λ b. if b then not (is_reset text) else is_started texts && opcode text == primitive_list_format) follows.last
    ∙ (ap (λ b. if last_opcode earlier == start_tile_binning then not b else is_started texts && opcode text == primitive_list_format) (reset_stays p text like)
    ∙ (ap (λ b. if last_opcode earlier == start_tile_binning then not (is_reset p) else b && opcode text == primitive_list_format) follows.started
    ∙ ap (λ o. if last_opcode earlier == start_tile_binning then not (is_reset p) else is_started earlier && o == primitive_list_format) like.same))

kept_follows : (p text : List ℕ) (earlier texts : List (List ℕ)) → IsLike p text → Follows earlier texts → Follows (p ∷ earlier) (text ∷ texts)
kept_follows p text earlier texts like follows = record {
  count = ap (λ n. n + (if draws text then 1 else 0)) follows.count ∙ ap (λ b. primitives_in earlier + (if b then 1 else 0)) (primitive_stays p text like);
  started = ap (λ o. o == start_tile_binning || is_started texts) like.same ∙ ap (λ b. opcode p == start_tile_binning || b) follows.started;
  last = ap (λ o. o == start_tile_binning) like.same;
}

-- A packet of buffer handles, which is dropped, doesn't stand behind the start of binning.
no_last : (b : Bool) (reset format : Bool) → (if b then not reset else format) ≡ false → reset ≡ false → b ≡ false
no_last true reset format off none = absurd (true≢false (sym (ap not none) ∙ off))
no_last false reset format off none = refl

no_primitive : (p : List ℕ) → opcode p ≡ buffer_handles → draws p ≡ false
unfolding draws
no_primitive p is = ap (λ o. o == indexed_primitive_list || o == array_primitive_list) is

no_reset : (p : List ℕ) → opcode p ≡ buffer_handles → is_reset p ≡ false
unfolding is_reset
no_reset p is = ap (λ o. o == primitive_list_format && slice_index p 1 == 18) is

no_start : (p : List ℕ) (earlier : List (List ℕ)) → opcode p ≡ buffer_handles → e13 (course_before earlier) p ≡ false → (last_opcode earlier == start_tile_binning) ≡ false
unfolding e13 course_before
no_start p earlier is off = no_last (last_opcode earlier == start_tile_binning) (is_reset p) (is_started earlier && opcode p == primitive_list_format) off (no_reset p is)

dropped_follows : (p : List ℕ) (earlier texts : List (List ℕ)) → opcode p ≡ buffer_handles → e13 (course_before earlier) p ≡ false → Follows earlier texts → Follows (p ∷ earlier) texts
dropped_follows p earlier texts is off follows =
    let none = no_primitive p is in
    let count : primitives_in earlier ≡ primitives_in (p ∷ earlier) = omega (arith, ap (λ b. primitives_in earlier + (if b then 1 else 0)) none) in
    record {
      count = follows.count ∙ count;
      started = follows.started ∙ ap (λ o. o == start_tile_binning || is_started earlier) (sym is);
      last = follows.last ∙ (no_start p earlier is off ∙ ap (λ o. o == start_tile_binning) (sym is));
    }

-- The whole list.
record AsksNone (earlier : List (List ℕ)) (p : List ℕ) (later : List (List ℕ)) : Type 0 where
  kind : e9 p ≡ false
  count : e10 (course_before earlier) p ≡ false
  format : e13 (course_before earlier) p ≡ false
  rest : first_of (asked_from (p ∷ earlier) later) ≡ None

asks_none : (earlier : List (List ℕ)) (p : List ℕ) (later : List (List ℕ)) → first_of (asked_from earlier (p ∷ later)) ≡ None → AsksNone earlier p later
unfolding packet_questions
asks_none earlier p later none =
    let asked = with_answers (list_fault (place earlier)) (packet_questions (course_before earlier) p) in
    let broken = none_broken (packet_questions (course_before earlier) p) (none_answered (list_fault (place earlier)) (packet_questions (course_before earlier) p) (front_none asked (asked_from (p ∷ earlier) later) none)) in
    record { kind = broken.0; count = broken.1.0; format = broken.1.1.0; rest = rest_none asked (asked_from (p ∷ earlier) later) none }

none_asked : (earlier : List (List ℕ)) (p : List ℕ) (later : List (List ℕ)) → AsksNone earlier p later → first_of (asked_from earlier (p ∷ later)) ≡ None
unfolding packet_questions
none_asked earlier p later none =
    let questions = packet_questions (course_before earlier) p in
    let front = answered_none (list_fault (place earlier)) questions (first_none questions (none.kind, (none.count, (none.format, tt)))) in
    passes (with_answers (list_fault (place earlier)) questions) (asked_from (p ∷ earlier) later) front ∙ none.rest

by_drop : (b : Bool) (texts : List (List ℕ)) (text : List ℕ) (rest : List (List ℕ)) → AllWhole (if b then rest else text ∷ rest) → (b ≡ true → AllWhole rest → first_of (asked_from texts rest) ≡ None)
    → (b ≡ false → IsWhole text → AllWhole rest → first_of (asked_from texts (text ∷ rest)) ≡ None) → first_of (asked_from texts (if b then rest else text ∷ rest)) ≡ None
by_drop true texts text rest whole drops keeps = drops refl whole
by_drop false texts text rest whole drops keeps = keeps refl whole.0 whole.1

emitted_from : (given : GivenModel) (layout : Layout) (earlier texts later : List (List ℕ)) → Follows earlier texts → first_of (asked_from earlier later) ≡ None → AllWhole (emission given layout earlier later) → first_of (asked_from texts (emission given layout earlier later)) ≡ None
emitted_from given layout earlier texts [] follows none whole = refl
emitted_from given layout earlier texts (p ∷ later) follows none whole =
    let one = asks_none earlier p later none in
    let text : List ℕ = packet_text given layout (seen_before earlier) p in
    by_drop (opcode p == buffer_handles) texts text (emission given layout (p ∷ earlier) later) whole
    (λ drop rest. emitted_from given layout (p ∷ earlier) texts later (dropped_follows p earlier texts (eqb-true (opcode p) buffer_handles drop) one.format follows) one.rest rest)
    (λ keep this rest.
    let like = like_text given layout (seen_before earlier) p keep this in
    none_asked texts text (emission given layout (p ∷ earlier) later)
    (record {
      kind = kind_stays p text like ∙ one.kind;
      count = count_stays p text earlier texts like follows ∙ one.count;
      format = format_stays p text earlier texts like follows ∙ one.format;
      rest = emitted_from given layout (p ∷ earlier) (text ∷ texts) later (kept_follows p text earlier texts like follows) one.rest rest;
    }))

pub emitted_strict : (given : GivenModel) (layout : Layout) (list : List (List ℕ)) → first_of (asked_from [] list) ≡ None → AllWhole (emission given layout [] list) → first_of (asked_from [] (emission given layout [] list)) ≡ None
emitted_strict given layout list none whole = emitted_from given layout [] [] list (record { count = refl; started = refl; last = refl }) none whole
