-- The walk over a list, packet by packet.
use Rattle.std.proofs.Common.{◌≡◌, ◌≤◌, ◌+◌, ℕ, false, List, [], ◌∷◌, ◌++◌, Some, None, length, refl, sym, ap, arith, ◌∙◌}
use Rattle.field_words.specs.Questions.{first_of, with_answers}
use Rattle.field_words.proofs.Questions.{passes, stops, answered_none, answered_some}
use Rattle.bin_list.specs.{Packets.front_packet, Packets.behind, Packets.packets, Seen.place}
use Rattle.bin_list.proofs.Packets.{packets_step, packets_none}
use Rattle.strict_lists.specs.{declared.course.Course.Course, declared.rule.ListRule.ListRule}
use Rattle.strict_lists.specs.Rules.{course_before, packet_questions, list_fault, asked_from, list_questions}
use Rattle.strict_lists.specs.Walk.{course_after, IsUnderway}

pub begins : (list : List ℕ) → IsUnderway list list (record { at = 0; last = 0; started = false; primitives = 0 })
unfolding course_before list_questions
begins list = record { earlier = []; kept = refl; inside = omega arith; near = omega arith; none = refl }

course_step : (packet : List ℕ) (earlier : List (List ℕ)) → course_after (course_before earlier) packet ≡ course_before (packet ∷ earlier)
unfolding course_before course_after
course_step packet earlier = refl

-- what is asked of the bytes that are left, at a packet
left : (list rest : List ℕ) (course : Course) (u : IsUnderway list rest course) → 1 ≤ length rest
    → first_of (list_questions list)
    ≡ first_of (with_answers (list_fault course.at) (packet_questions course (front_packet rest)) ++ asked_from (front_packet rest ∷ u.earlier) (packets (behind rest)))
unfolding course_before
left list rest course u some =
    sym u.none ∙ ap (λ l. first_of (asked_from u.earlier l)) (packets_step rest some)
    ∙ ap (λ (c : Course). first_of (with_answers (list_fault (place u.earlier)) (packet_questions c (front_packet rest)) ++ asked_from (front_packet rest ∷ u.earlier) (packets (behind rest)))) (sym u.kept)
    ∙ ap (λ m. first_of (with_answers (list_fault m) (packet_questions course (front_packet rest)) ++ asked_from (front_packet rest ∷ u.earlier) (packets (behind rest)))) (sym (ap (λ (c : Course). c.at) u.kept))

pub stops_at : (list rest packet : List ℕ) (course : Course) (rule : ListRule) → IsUnderway list rest course → 1 ≤ length rest → packet ≡ front_packet rest
    → Some rule ≡ first_of (packet_questions course packet) → first_of (list_questions list) ≡ Some (list_fault course.at rule)
stops_at list rest packet course rule u some is broken =
    let here = answered_some (list_fault course.at) (packet_questions course (front_packet rest)) rule (ap (λ p. first_of (packet_questions course p)) (sym is) ∙ sym broken) in
    left list rest course u some
    ∙ stops (with_answers (list_fault course.at) (packet_questions course (front_packet rest))) (asked_from (front_packet rest ∷ u.earlier) (packets (behind rest))) (list_fault course.at rule) here

moved : (next course : Course) (packet : List ℕ) → next ≡ course_after course packet → next.at ≡ course.at + length packet
unfolding course_after
moved next course packet after = ap (λ (c : Course). c.at) after

pub goes_on : (list rest packet later : List ℕ) (course next : Course) → IsUnderway list rest course → 1 ≤ length rest → packet ≡ front_packet rest
    → later ≡ behind rest → length packet + length later ≤ length rest → None ≡ first_of (packet_questions course packet)
    → next ≡ course_after course packet → next.primitives ≤ next.at → IsUnderway list later next
goes_on list rest packet later course next u some is rest_is fits broken after near =
    let none = answered_none (list_fault course.at) (packet_questions course (front_packet rest)) (ap (λ p. first_of (packet_questions course p)) (sym is) ∙ sym broken) in
    let e : next.at ≡ course.at + length packet = moved next course packet after in
    record {
      earlier = front_packet rest ∷ u.earlier;
      kept = after ∙ ap (λ p. course_after course p) is ∙ ap (λ c. course_after c (front_packet rest)) u.kept ∙ course_step (front_packet rest) u.earlier;
      inside = omega (arith, e, fits, u.inside);
      near = near;
      none =
          ap (λ l. first_of (asked_from (front_packet rest ∷ u.earlier) (packets l))) rest_is
          ∙ sym (passes (with_answers (list_fault course.at) (packet_questions course (front_packet rest))) (asked_from (front_packet rest ∷ u.earlier) (packets (behind rest))) none)
          ∙ sym (left list rest course u some);
    }

pub through : (list rest : List ℕ) (course : Course) → IsUnderway list rest course → length rest ≡ 0 → first_of (list_questions list) ≡ None
through list rest course u none = sym u.none ∙ ap (λ l. first_of (asked_from u.earlier l)) (packets_none rest none)
