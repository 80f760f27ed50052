-- The law.
use Rattle.std.proofs.Common.{◌≡◌, true, ◌&&◌, [], None, length, refl, arith}
use Rattle.std.proofs.lemmas.Bool.{eqb-true, and_parts, false≢true}
use Rattle.std.specs.Prelude.{◌==◌}
use Rattle.field_words.specs.Questions.{first_of, with_answers}
use Rattle.field_words.proofs.{Questions.none_broken, Nones.front_none, Nones.rest_none, Nones.none_answered}
use Rattle.packets.specs.Opcode.{flush, increment_semaphore}
use Rattle.bin_list.specs.{declared.seen.Seen.Seen, Packets.packets, Packets.packets_passed, Packets.onto, Packets.front_packets, Seen.seen_before}
use Rattle.bin_list.specs.{Rules.given_of, Rules.questions_of_packets, Rules.end_questions, Rules.questions_of, Faults.fault, States.states_of}
use Rattle.bin_list.proofs.{Facts.configured, Least.cut_place}
use Rattle.bin_walks.specs.{Walks.nothing_kept, Emission.config_of, Law.EmittedListsWalk}
use Rattle.bin_walks.proofs.Walking.{texts_joined, walk_on, are_cut, Known, Goes}

ends_with : (seen : Seen) → first_of (end_questions seen) ≡ None → (seen.started ≡ true) × (seen.last ≡ flush)
unfolding end_questions
ends_with seen none =
    let asked = none_broken (end_questions seen) none in
    let two : (seen.before_last == increment_semaphore && seen.last == flush) ≡ true = grind (arith, asked.1.0) in
    ((let s : seen.started ≡ true = grind (arith, asked.0) in s), eqb-true seen.last flush (and_parts (seen.before_last == increment_semaphore) (seen.last == flush) two).1)

pub emitted_lists_walk_law : EmittedListsWalk
unfolding packets_passed packets questions_of seen_before
emitted_lists_walk_law list declared table handles layout short few low buffers none =
    let given = given_of list declared table handles in
    let ps = front_packets (length list) list in
    let all = onto [] ps in
    let fine : first_of (questions_of_packets given all) ≡ None = front_none (questions_of_packets given all) (with_answers (fault given.size) (end_questions (seen_before all))) none in
    let end : first_of (end_questions (seen_before all)) ≡ None =
    none_answered (fault given.size) (end_questions (seen_before all)) (rest_none (questions_of_packets given all) (with_answers (fault given.size) (end_questions (seen_before all))) none) in
    let report = ends_with (seen_before all) end in
    let config = config_of layout (seen_before all).tiles_x (seen_before all).tiles_y in
    let known : Known given layout config [] ps = record {
      premises = record { few = few; low = low; buffers = buffers };
      fine = fine;
      cuts = are_cut (length list) list;
      some = tt;
      inside = let c = cut_place (length list) list [] in omega arith;
      short = short;
      ends = report.1;
      there = configured given all fine report.0;
      grid = refl;
    } in
    let goes : Goes layout config (states_of ps) [] ps nothing_kept = record {
      view = λ some. absurd (omega arith);
      config_is = λ there. absurd (false≢true there);
      started_is = λ there. absurd (false≢true there);
      states = λ word s stands. stands;
    } in
    record {
      text = texts_joined given layout [] ps;
      walks = walk_on given layout config (states_of ps) [] ps nothing_kept known goes;
    }
