-- Packets that are only copied.
use Rattle.std.proofs.Common.{◌≡◌, ℕ, false, List, [], ◌∷◌, ◌++◌, Option, Some, None, length, sym, ap, arith, ◌∙◌}
use Rattle.std.proofs.Math.Nat.{zero-max}
use Rattle.std.specs.Prelude.{nat_lt}
use Rattle.field_words.specs.Questions.{Question, first_of}
use Rattle.field_words.proofs.Questions.{passes}
use Rattle.relocation.specs.declared.layout.Layout.{Layout}
use Rattle.packets.specs.Length.{bin_length}
use Rattle.bin_list.specs.{declared.rule.BinRule.BinRule, declared.seen.Seen.Seen, declared.state.State.State, Packets.opcode, Fine.IsPlain}
use Rattle.bin_list.specs.{Seen.seen_after, Seen.seen_past, States.draws_to, Collected.states_to_come, Collected.all_states}
use Rattle.bin_list.specs.{Rules.GivenModel, Rules.cut_questions, Rules.kind_questions, Rules.packet_questions, Emitted.packet_text}

plain_kind : (given : GivenModel) (seen : Seen) (p : List ℕ) → IsPlain p → kind_questions given seen p ≡ []
unfolding kind_questions
plain_kind given seen p plain =
    simp (plain.no_flush, plain.no_start, plain.no_increment, plain.no_indexes, plain.no_array, plain.no_state, plain.no_config)

plain_cut : (p : List ℕ) → IsPlain p → first_of (cut_questions p) ≡ None
unfolding cut_questions
plain_cut p plain =
    let whole = plain.whole in
    let b : nat_lt (length p) (bin_length (opcode p)) ≡ false = grind arith in
    simp (plain.known, b)

end_empty : (questions : List (Question BinRule)) → first_of questions ≡ None → first_of (questions ++ []) ≡ None
end_empty questions none = passes questions [] none

pub plain_none : (given : GivenModel) (seen : Seen) (p : List ℕ) → IsPlain p → first_of (packet_questions given seen p) ≡ None
unfolding packet_questions
plain_none given seen p plain =
    ap (λ qs. first_of (cut_questions p ++ qs)) (plain_kind given seen p plain)
    ∙ end_empty (cut_questions p) (plain_cut p plain)

pub plain_text : (given : GivenModel) (layout : Layout) (seen : Seen) (p : List ℕ) → IsPlain p → packet_text given layout seen p ≡ p
unfolding packet_text
plain_text given layout seen p plain = simp (plain.no_handles, plain.no_indexes, plain.no_state, plain.no_config)

pub plain_seen : (seen : Seen) (p : List ℕ) → IsPlain p → seen_past seen p ≡ seen_after seen p
unfolding seen_past seen_after
plain_seen seen p plain = simp (plain.no_handles, plain.no_start, plain.no_state, plain.no_config)

draws_nothing : (p : List ℕ) → IsPlain p → draws_to p ≡ 0
unfolding draws_to
draws_nothing p plain = simp (plain.no_indexes, plain.no_array)

to_come : (current : Option State) (p : List ℕ) (later : List (List ℕ)) → IsPlain p → states_to_come current (p ∷ later) ≡ states_to_come current later
to_come None p later plain = simp (plain.no_state)
to_come (Some s) p later plain = simp (plain.no_state, draws_nothing p plain, zero-max)

pub plain_states : (done : List State) (current : Option State) (p : List ℕ) → IsPlain p → (later : List (List ℕ)) → all_states done current later ≡ all_states done current (p ∷ later)
plain_states done current p plain later = ap (λ ss. done ++ ss) (sym (to_come current p later plain))
