-- The walk over a list, packet by packet.
use Rattle.std.proofs.Common.{◌≡◌, ◌≢◌, ◌⊎◌, inl, inr, ℕ, ◌+◌, ◌≤◌, Bool, true, false, List, [], ◌∷◌, ◌++◌, Option, Some, None, IsSome, length, refl, sym, ap, subst, arith, ◌∙◌, length-append}
use Rattle.std.proofs.{lemmas.Bool.eqb-false, lemmas.Bool.eqb-true}
use Rattle.std.specs.Prelude.{if◌then◌else◌, ◌==◌}
use Rattle.field_words.specs.{Questions.first_of, Questions.with_answers, Writes.with_bytes}
use Rattle.field_words.proofs.Questions.{passes, stops, answered_none, answered_some}
use Rattle.field_words.proofs.Writes.{length-with_bytes, with_nothing, with_two}
use Rattle.relocation.specs.declared.layout.Layout.{Layout}
use Rattle.packets.specs.{Opcode.gl_shader_state}
use Rattle.bin_list.specs.{declared.fault.ListFault.ListFault, declared.seen.Seen.Seen, declared.state.State.State, Faults.fault}
use Rattle.bin_list.specs.Packets.{opcode, front_packet, behind, packets, onto, packets_passed}
use Rattle.bin_list.specs.Seen.{is_there, byte_of, word_of, place, states_in, seen_before, seen_after}
use Rattle.bin_list.specs.{declared.check.Read.Read, declared.rule.BinRule.BinRule, Rules.GivenModel, Rules.packet_questions, Rules.questions_of_packets}
use Rattle.bin_list.specs.{Fine.IsBounded, States.states_of, Collected.all_states, Emitted.packet_text, Emitted.texts}
use Rattle.bin_list.specs.Info.{IsRead, MeetsState}
use Rattle.bin_list.proofs.Packets.{front_behind, packets_step, packets_none}

-- Bytes that are left, by the loop's test.
pub some_left : (bytes : List ℕ) → (length bytes == 0) ≡ false → 1 ≤ length bytes
some_left bytes test = let some : length bytes ≢ 0 = eqb-false (length bytes) 0 test in omega arith

pub none_left : (bytes : List ℕ) → (length bytes == 0) ≡ true → length bytes ≡ 0
none_left bytes test = eqb-true (length bytes) 0 test

-- What is seen goes on by one packet.
there_if : (b : Bool) (p : List ℕ) (o : Option (List ℕ)) → is_there (if b then Some p else o) ≡ (if b then true else is_there o)
there_if true p o = refl
there_if false p o = refl

byte_if : (b : Bool) (at : ℕ) (p : List ℕ) (o : Option (List ℕ)) → byte_of at (if b then Some p else o) ≡ (if b then byte_of at (Some p) else byte_of at o)
byte_if true at p o = refl
byte_if false at p o = refl

word_if : (b : Bool) (at : ℕ) (p : List ℕ) (o : Option (List ℕ)) → word_of at (if b then Some p else o) ≡ (if b then word_of at (Some p) else word_of at o)
word_if true at p o = refl
word_if false at p o = refl

pub seen_step : (p : List ℕ) (earlier : List (List ℕ)) → seen_before (p ∷ earlier) ≡ seen_after (seen_before earlier) p
unfolding seen_before seen_after
seen_step p earlier = simp (there_if, byte_if, word_if)

-- What stands at a packet stands in the whole list: what is asked before comes first.
asked_onto : (given : GivenModel) (earlier later : List (List ℕ)) (f : ListFault) → first_of (questions_of_packets given earlier) ≡ Some f
    → first_of (questions_of_packets given (onto earlier later)) ≡ Some f
asked_onto given earlier [] f some = some
asked_onto given earlier (p ∷ later) f some =
    asked_onto given (p ∷ earlier) later f (stops (questions_of_packets given earlier) (with_answers (fault (place earlier)) (packet_questions given (seen_before earlier) p)) f some)

-- How far the walk has come: which packets were read, and which the bytes that are left are cut into.
pub record IsUnderway (given : GivenModel) (layout : Layout) (list window rest : List ℕ) (seen : Seen) (end : ℕ) (out : List ℕ) (done : List State) (current : Option State) : Type 0 where
  pub earlier : List (List ℕ)
  pub whole : onto earlier (packets rest) ≡ packets_passed list
  pub seen_is : seen ≡ seen_before earlier
  pub fine : first_of (questions_of_packets given earlier) ≡ None
  pub bounded : IsBounded seen
  pub inside : seen.at + length rest ≤ length list
  pub bytes : out ≡ with_bytes window layout.bin (texts given layout earlier)
  pub end_is : end ≡ layout.bin + length (texts given layout earlier)
  pub near : length (texts given layout earlier) ≤ seen.at
  pub room : length out ≡ length window
  pub states : all_states done current (packets rest) ≡ states_of (packets list)
  pub begun : IsSome current → 1 ≤ seen.states

none_some : IsSome {T = State} None → ⊥
none_some some = cc

pub begins : {given : GivenModel} {layout : Layout} {list window : List ℕ} {seen : Seen} {end : ℕ} {done : List State} {current : Option State}
    → layout.bin + length list ≤ length window → seen ≡ seen_before [] → end ≡ layout.bin → done ≡ [] → current ≡ None
    → IsUnderway given layout list window list seen end window done current
unfolding packets_passed seen_before
begins {layout} {list} {window} {current} room nothing first none_done none =
    record {
      earlier = [];
      whole = refl;
      seen_is = nothing;
      fine = refl;
      bounded = subst IsBounded (sym nothing) (record { states = omega arith; records = omega arith });
      inside = omega (arith, ap (λ s. s.at) nothing);
      bytes = sym (with_nothing window layout.bin (omega arith));
      end_is = omega arith;
      near = omega arith;
      room = refl;
      states = ap (λ d. all_states d current (packets list)) none_done ∙ ap (λ o. all_states [] o (packets list)) none;
      begun = λ some. absurd (none_some (subst IsSome none some));
    }

-- the rules of the packet at the front, by what was seen
here_asked : (given : GivenModel) (earlier : List (List ℕ)) (seen : Seen) (p : List ℕ) (rule : BinRule) → seen ≡ seen_before earlier
    → first_of (packet_questions given seen p) ≡ Some rule → first_of (questions_of_packets given earlier) ≡ None → first_of (questions_of_packets given (p ∷ earlier)) ≡ Some (fault seen.at rule)
unfolding seen_before
here_asked given earlier seen p rule is some fine =
    let at : seen.at ≡ place earlier = ap (λ s. s.at) is in
    passes (questions_of_packets given earlier) (with_answers (fault (place earlier)) (packet_questions given (seen_before earlier) p)) fine
    ∙ answered_some (fault (place earlier)) (packet_questions given (seen_before earlier) p) rule (subst (λ s. first_of (packet_questions given s p) ≡ Some rule) is some)
    ∙ ap (λ n. Some (fault n rule)) (sym at)

here_fine : (given : GivenModel) (earlier : List (List ℕ)) (seen : Seen) (p : List ℕ) → seen ≡ seen_before earlier
    → first_of (packet_questions given seen p) ≡ None → first_of (questions_of_packets given earlier) ≡ None → first_of (questions_of_packets given (p ∷ earlier)) ≡ None
here_fine given earlier seen p is none fine =
    passes (questions_of_packets given earlier) (with_answers (fault (place earlier)) (packet_questions given (seen_before earlier) p)) fine
    ∙ answered_none (fault (place earlier)) (packet_questions given (seen_before earlier) p) (subst (λ s. first_of (packet_questions given s p) ≡ None) is none)

-- the packet at the front fits the window
pub room_fits : {given : GivenModel} {layout : Layout} {list window rest : List ℕ} {seen : Seen} {end : ℕ} {out : List ℕ} {done : List State} {current : Option State}
    → IsUnderway given layout list window rest seen end out done current → layout.bin + length list ≤ length window
    → (packet behind : List ℕ) → length packet + length behind ≤ length rest → end + length packet ≤ length out
room_fits under room packet behind fits = omega (arith, under.end_is, under.near, under.inside, under.room, room)

-- A rule that is broken at the packet at the front is the first of all.
pub stops_at : {given : GivenModel} {layout : Layout} {list window rest : List ℕ} {seen : Seen} {end : ℕ} {out : List ℕ} {done : List State} {current : Option State}
    → IsUnderway given layout list window rest seen end out done current → 1 ≤ length rest
    → (rule : BinRule) → first_of (packet_questions given seen (front_packet rest)) ≡ Some rule
    → first_of (questions_of_packets given (packets_passed list)) ≡ Some (fault seen.at rule)
stops_at {given} {list = list} {rest} {seen} under some rule broken =
    let here = here_asked given under.earlier seen (front_packet rest) rule under.seen_is broken under.fine in
    ap (λ l. first_of (questions_of_packets given l)) (sym under.whole ∙ ap (onto under.earlier) (packets_step rest some))
    ∙ asked_onto given (front_packet rest ∷ under.earlier) (packets (behind rest)) (fault seen.at rule) here

-- A state packet adds one to the states, and no packet takes one away.
states_grow : (b : Bool) (n : ℕ) → n ≤ (if b then n + 1 else n)
states_grow true n = omega arith
states_grow false n = omega arith

keeps_states : (seen : Seen) (p : List ℕ) → seen.states ≤ (seen_after seen p).states
unfolding seen_after
keeps_states seen p = states_grow (opcode p == gl_shader_state) seen.states

adds_state : (seen : Seen) (p : List ℕ) → opcode p ≡ gl_shader_state → 1 ≤ (seen_after seen p).states
unfolding seen_after
adds_state seen p is = let e : (seen_after seen p).states ≡ seen.states + 1 = rw is refl in omega arith

place_after : (seen : Seen) (p : List ℕ) → (seen_after seen p).at ≡ seen.at + length p
unfolding seen_after
place_after seen p = refl

-- The packet at the front is written.
pub goes_on : {given : GivenModel} {layout : Layout} {list window rest : List ℕ} {seen : Seen} {end : ℕ} {out : List ℕ} {done : List State} {current : Option State}
    → IsUnderway given layout list window rest seen end out done current → 1 ≤ length rest
    → layout.bin + length list ≤ length window
    → {packet : List ℕ} → packet ≡ front_packet rest
    → first_of (packet_questions given seen packet) ≡ None
    → {seen2 : Seen} → seen2 ≡ seen_after seen packet → IsBounded seen2
    → {end2 : ℕ} {out2 : List ℕ} → out2 ≡ with_bytes out end (packet_text given layout seen packet) → end2 ≡ end + length (packet_text given layout seen packet)
    → length (packet_text given layout seen packet) ≤ length packet
    → {done2 : List State} {current2 : Option State} → ((later : List (List ℕ)) → all_states done2 current2 later ≡ all_states done current (packet ∷ later))
    → (IsSome current2 → IsSome current ⊎ (opcode packet ≡ gl_shader_state))
    → {rest2 : List ℕ} → rest2 ≡ behind rest
    → IsUnderway given layout list window rest2 seen2 end2 out2 done2 current2
goes_on {given} {layout} {list} {window} {rest} {seen} {end} {out} {done} {current} under some room {packet} packet_is none {seen2} seen2_is bounded {end2} {out2} puts moves short {done2} {current2} states begun {rest2} rest2_is =
    let earlier = under.earlier in
    let split = front_behind rest in
    let long : length packet ≡ length (front_packet rest) = ap length packet_is in
    let left : length rest2 ≡ length (behind rest) = ap length rest2_is in
    let at2 : seen2.at ≡ seen.at + length packet = ap (λ s. s.at) seen2_is ∙ place_after seen packet in
    let front = texts given layout earlier in
    let text = packet_text given layout (seen_before earlier) packet in
    let text_is : packet_text given layout seen packet ≡ text = ap (λ s. packet_text given layout s packet) under.seen_is in
    let same : length (packet_text given layout seen packet) ≡ length text = ap length text_is in
    let total : length (front ++ text) ≡ length front + length text = length-append front text in
    let fits : layout.bin + length (front ++ text) ≤ length window = omega (arith, total, same, short, long, split, under.near, under.inside, room) in
    record {
      earlier = packet ∷ earlier;
      whole =
          ap (λ p. onto (p ∷ earlier) (packets rest2)) packet_is
          ∙ ap (λ r. onto (front_packet rest ∷ earlier) (packets r)) rest2_is
          ∙ sym (ap (onto earlier) (packets_step rest some)) ∙ under.whole;
      seen_is = seen2_is ∙ ap (λ s. seen_after s packet) under.seen_is ∙ sym (seen_step packet earlier);
      fine = here_fine given earlier seen packet under.seen_is none under.fine;
      bounded = bounded;
      inside = omega (arith, at2, long, left, split, under.inside);
      bytes =
          puts
          ∙ ap (λ o. with_bytes o end (packet_text given layout seen packet)) under.bytes
          ∙ ap (λ e. with_bytes (with_bytes window layout.bin front) e (packet_text given layout seen packet)) under.end_is
          ∙ ap (with_bytes (with_bytes window layout.bin front) (layout.bin + length front)) text_is
          ∙ sym (with_two window layout.bin front text fits);
      end_is = omega (arith, moves, same, total, under.end_is);
      near = omega (arith, at2, same, short, total, under.near);
      room = ap length puts ∙ length-with_bytes out end (packet_text given layout seen packet) (omega (arith, same, total, fits, under.end_is, under.room)) ∙ under.room;
      states =
          ap (λ r. all_states done2 current2 (packets r)) rest2_is
          ∙ states (packets (behind rest))
          ∙ ap (λ p. all_states done current (p ∷ packets (behind rest))) packet_is
          ∙ sym (ap (all_states done current) (packets_step rest some)) ∙ under.states;
      begun = λ now.
          let grown : seen2.states ≡ (seen_after seen packet).states = ap (λ s. s.states) seen2_is in
          elim (begun now) [
            | inl before ↦ let kept = keeps_states seen packet in let one = under.begun before in omega (arith, grown, kept, one)
            | inr here ↦ let one = adds_state seen packet here in omega (arith, grown, one)
          ];
    }

-- Where a state is in view, one was passed, and no rule is broken up to it.
pub meets : {given : GivenModel} {layout : Layout} {list window rest : List ℕ} {seen : Seen} {end : ℕ} {out : List ℕ} {done : List State} {current : Option State}
    → IsUnderway given layout list window rest seen end out done current → IsSome current → MeetsState given list
unfolding seen_before
meets {rest} {seen} under some =
    let one : 1 ≤ seen.states = under.begun some in
    let is : seen.states ≡ states_in under.earlier = ap (λ s. s.states) under.seen_is in
    record { earlier = under.earlier; later = packets rest; whole = under.whole; fine = under.fine; some = omega (arith, one, is) }

-- Nothing is left: no rule is broken, and the whole was read and written.
pub through : {given : GivenModel} {layout : Layout} {list window rest out : List ℕ} (read : Read)
    → IsUnderway given layout list window rest read.seen read.end out read.states.done.items read.states.current → length rest ≡ 0
    → (first_of (questions_of_packets given (packets_passed list)) ≡ None) × IsRead given layout list read × (out ≡ with_bytes window layout.bin (texts given layout (packets_passed list)))
through {given} {layout} {list} {window} read under none =
    let empty : packets _ ≡ [] = packets_none _ none in
    let all : under.earlier ≡ packets_passed list = sym (ap (onto under.earlier) empty) ∙ under.whole in
    let near : length (texts given layout under.earlier) ≤ length list = omega (arith, under.near, under.inside) in (
      ap (λ e. first_of (questions_of_packets given e)) (sym all) ∙ under.fine,
      record {
        seen = under.seen_is ∙ ap seen_before all;
        end = under.end_is ∙ ap (λ e. layout.bin + length (texts given layout e)) all;
        near = subst (λ e. length (texts given layout e) ≤ length list) all near;
        states = sym (ap (all_states read.states.done.items read.states.current) empty) ∙ under.states;
        begun = under.begun;
      },
      under.bytes ∙ ap (λ e. with_bytes window layout.bin (texts given layout e)) all,
    )
