-- What a list without faults tells is sound.
use Rattle.std.proofs.Common.{◌≡◌, ℕ, ◌*◌, ◌≤◌, ◌<◌, true, List, [], None, length, sym, ap, subst, arith, ◌∙◌}
use Rattle.std.specs.Prelude.{All}
use Rattle.field_words.specs.Questions.{first_of}
use Rattle.field_words.proofs.Questions.{none_broken}
use Rattle.tile_memory.specs.Slots.{slot_fits}
use Rattle.bin_list.specs.{declared.info.BinInfo.BinInfo, declared.seen.Seen.Seen, Packets.packets, Packets.packets_passed, Seen.seen_before}
use Rattle.bin_list.specs.{Rules.GivenModel, Rules.end_questions, Rules.questions_of_packets, States.states_of, Report.IsSoundInfo}
use Rattle.bin_list.proofs.Facts.{IsGrid, has_grid, configured, few_states, counted, low_words}

pub started : (seen : Seen) → first_of (end_questions seen) ≡ None → seen.started ≡ true
unfolding end_questions
started seen none = let asked = none_broken (end_questions seen) none in grind (arith, asked.0)

grid : (given : GivenModel) (list : List ℕ) → first_of (questions_of_packets given (packets_passed list)) ≡ None → first_of (end_questions (seen_before (packets_passed list))) ≡ None
    → IsGrid (seen_before (packets_passed list)).tiles_x (seen_before (packets_passed list)).tiles_y
unfolding seen_before
grid given list none end = has_grid given (packets_passed list) none (configured given (packets_passed list) none (started (seen_before (packets_passed list)) end))

few : (given : GivenModel) (list : List ℕ) → first_of (questions_of_packets given (packets_passed list)) ≡ None → length (states_of (packets list)) ≤ given.declared
unfolding packets_passed
few given list none =
    let most = few_states given (packets_passed list) none in
    let count = counted [] (packets list) in
    omega arith

words : (given : GivenModel) (list : List ℕ) → first_of (questions_of_packets given (packets_passed list)) ≡ None → All (λ s. s.word < 16) (states_of (packets list))
unfolding packets_passed
words given list none = low_words given [] (packets list) none

pub sound_info : (given : GivenModel) (list : List ℕ) (seen : Seen) (info : BinInfo) → first_of (questions_of_packets given (packets_passed list)) ≡ None → seen ≡ seen_before (packets_passed list)
    → first_of (end_questions seen) ≡ None → info.tiles_x ≡ seen.tiles_x → info.tiles_y ≡ seen.tiles_y → info.states.items ≡ states_of (packets list)
    → IsSoundInfo given.declared info
sound_info given list seen info none is end across down states =
    let report = grid given list none (subst (λ s. first_of (end_questions s) ≡ None) is end) in
    let x : info.tiles_x ≡ (seen_before (packets_passed list)).tiles_x = across ∙ ap (λ s. s.tiles_x) is in
    let y : info.tiles_y ≡ (seen_before (packets_passed list)).tiles_y = down ∙ ap (λ s. s.tiles_y) is in
    record {
      across = omega (arith, x, report.some_across);
      down = omega (arith, y, report.some_down);
      room = ap (λ n. slot_fits (n * info.tiles_y)) x ∙ ap (λ n. slot_fits ((seen_before (packets_passed list)).tiles_x * n)) y ∙ report.room;
      few = omega (arith, ap length states, few given list none);
      words = subst (All (λ s. s.word < 16)) (sym states) (words given list none);
    }
