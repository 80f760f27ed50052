-- The rules of a list are asked in the order of place and number, so the first that is broken is the least.
use Rattle.std.proofs.Common.{◌≡◌, ℕ, zero, suc, ◌+◌, ◌≤◌, ◌<◌, Bool, true, false, List, [], ◌∷◌, length, refl, inl, inr, arith}
use Rattle.std.specs.Prelude.{if◌then◌else◌, ◌==◌}
use Rattle.field_words.specs.Questions.{Question, with_answers}
use Rattle.field_words.proofs.Least.{IsOrder, Rises, pairs, wider, rises_append, rises_answered}
use Rattle.packets.specs.Opcode.{flush, start_tile_binning, increment_semaphore, indexed_primitive_list, array_primitive_list, gl_shader_state, tile_binning_mode}
use Rattle.bin_list.specs.declared.rule.BinRule.TheVariants.{UnknownOpcode, CutOff, NoEnd}
use Rattle.bin_list.specs.Rules.{GivenModel, cut_questions, flush_questions, start_questions, increment_questions, primitive_questions, index_questions, array_questions, state_questions, config_questions, kind_questions, packet_questions, end_questions, questions_of_packets, questions_of}
use Rattle.bin_list.specs.{declared.fault.ListFault.ListFault, declared.rule.BinRule.BinRule, declared.seen.Seen.Seen}
use Rattle.bin_list.specs.{Faults.number_of, Faults.fault, Faults.IsUpTo, Seen.place, Seen.seen_before}
use Rattle.bin_list.specs.Packets.{opcode, front_packet, behind, front_packets, packets, onto, packets_passed}
use Rattle.bin_list.proofs.Packets.{front_some, front_behind}

pub order : IsOrder IsUpTo
order = pairs (λ (f : ListFault). (f.at, f.number))

-- The numbers at one packet go up.
abbrev ByNumber : BinRule → BinRule → Type 0
ByNumber one other = number_of one ≤ number_of other

up_if : (n : BinRule) (b : Bool) (one two : List (Question BinRule)) → Rises ByNumber n one NoEnd → Rises ByNumber n two NoEnd → Rises ByNumber n (if b then one else two) NoEnd
up_if n true one two first second = first
up_if n false one two first second = second

up_kind : (given : GivenModel) (seen : Seen) (p : List ℕ) → Rises ByNumber CutOff (kind_questions given seen p) NoEnd
unfolding kind_questions flush_questions start_questions increment_questions primitive_questions index_questions array_questions state_questions config_questions
up_kind given seen p =
    up_if CutOff (opcode p == flush) _ _ (omega arith, omega arith)
    (up_if CutOff (opcode p == start_tile_binning) _ _ (omega arith, (omega arith, omega arith))
    (up_if CutOff (opcode p == increment_semaphore) _ _ (omega arith, omega arith)
    (up_if CutOff (opcode p == indexed_primitive_list) _ _ (omega arith, (omega arith, (omega arith, (omega arith, omega arith))))
    (up_if CutOff (opcode p == array_primitive_list) _ _ (omega arith, (omega arith, (omega arith, omega arith)))
    (up_if CutOff (opcode p == gl_shader_state) _ _ (omega arith, (omega arith, omega arith))
    (up_if CutOff (opcode p == tile_binning_mode) _ _ (omega arith, (omega arith, (omega arith, (omega arith, omega arith)))) (omega arith)))))))

up_packet : (given : GivenModel) (seen : Seen) (p : List ℕ) → Rises ByNumber UnknownOpcode (packet_questions given seen p) NoEnd
unfolding packet_questions cut_questions
up_packet given seen p = (omega arith, (omega arith, up_kind given seen p))

up_end : (seen : Seen) → Rises ByNumber UnknownOpcode (end_questions seen) NoEnd
unfolding end_questions
up_end seen = (omega arith, (omega arith, omega arith))

-- Each packet has a byte.
abbrev AreSome : List (List ℕ) → Type 0
AreSome [] = Unit {0}
AreSome (p ∷ ps) = (1 ≤ length p) × AreSome ps

cut_some : (n : ℕ) (bytes : List ℕ) → AreSome (front_packets n bytes)
cut_some zero bytes = tt
cut_some (suc n) [] = tt
cut_some (suc n) (o ∷ body) = (front_some (o ∷ body) (omega arith), cut_some n (behind (o ∷ body)))

onto_some : (earlier later : List (List ℕ)) → AreSome earlier → AreSome later → AreSome (onto earlier later)
onto_some earlier [] one two = one
onto_some earlier (p ∷ later) one two = onto_some (p ∷ earlier) later (two.0, one) two.1

-- what is asked at one place, before what is asked at a later one
rises_at : (at high : ℕ) (questions : List (Question BinRule)) → at < high → Rises ByNumber UnknownOpcode questions NoEnd
    → Rises IsUpTo (fault at UnknownOpcode) (with_answers (fault at) questions) (fault high UnknownOpcode)
rises_at at high questions below up =
    wider IsUpTo (fault at UnknownOpcode) (fault at UnknownOpcode) (fault at NoEnd) (fault high UnknownOpcode) (with_answers (fault at) questions) order
    (order.same (fault at UnknownOpcode)) (rises_answered ByNumber IsUpTo (fault at) (λ a b less. inr (refl, less)) UnknownOpcode NoEnd questions up) (inl below)

rises_asked : (given : GivenModel) (earlier : List (List ℕ)) → AreSome earlier → Rises IsUpTo (fault 0 UnknownOpcode) (questions_of_packets given earlier) (fault (place earlier) UnknownOpcode)
rises_asked given [] some = order.same (fault 0 UnknownOpcode)
rises_asked given (p ∷ earlier) some =
    let one = some.0 in
    let here = packet_questions given (seen_before earlier) p in
    rises_append IsUpTo (fault 0 UnknownOpcode) (fault (place earlier) UnknownOpcode) (fault (place earlier + length p) UnknownOpcode)
    (questions_of_packets given earlier) (with_answers (fault (place earlier)) here) order (rises_asked given earlier some.1)
    (rises_at (place earlier) (place earlier + length p) here (omega arith) (up_packet given (seen_before earlier) p))

-- The packets take no more bytes than the list.
pub cut_place : (n : ℕ) (bytes : List ℕ) (earlier : List (List ℕ)) → place (onto earlier (front_packets n bytes)) ≤ place earlier + length bytes
cut_place zero bytes earlier = omega arith
cut_place (suc n) [] earlier = omega arith
cut_place (suc n) (o ∷ body) earlier =
    let whole = front_behind (o ∷ body) in
    let rest = cut_place n (behind (o ∷ body)) (front_packet (o ∷ body) ∷ earlier) in
    omega arith

pub rises_list : (given : GivenModel) (list : List ℕ) → given.size ≡ length list
    → Rises IsUpTo (fault 0 UnknownOpcode) (questions_of given (packets_passed list)) (fault (given.size + 1) UnknownOpcode)
unfolding questions_of packets_passed packets
rises_list given list size =
    let all = onto [] (front_packets (length list) list) in
    let some : AreSome all = onto_some [] (front_packets (length list) list) tt (cut_some (length list) list) in
    let fits : place all ≤ given.size = let e = cut_place (length list) list [] in omega arith in
    rises_append IsUpTo (fault 0 UnknownOpcode) (fault given.size UnknownOpcode) (fault (given.size + 1) UnknownOpcode) (questions_of_packets given all)
    (with_answers (fault given.size) (end_questions (seen_before all))) order
    (wider IsUpTo (fault 0 UnknownOpcode) (fault 0 UnknownOpcode) (fault (place all) UnknownOpcode) (fault given.size UnknownOpcode) (questions_of_packets given all) order
    (order.same (fault 0 UnknownOpcode)) (rises_asked given all some) (grind arith))
    (rises_at given.size (given.size + 1) (end_questions (seen_before all)) (omega arith) (up_end (seen_before all)))
