-- Where no strict rule is broken at an instruction, a request that it sends has room.
use Rattle.std.proofs.Common.{◌≡◌, ◌≤◌, ◌<◌, ℕ, Bool, true, false, ◌||◌, List, length, None, if◌then◌else◌, sym, arith, ◌∙◌, nat_le}
use Rattle.std.proofs.lemmas.Bool.{or_parts, and_cases, or_left, or_right, true≢false, leb-false}
use Rattle.std.proofs.Common.{inl, inr}
use Rattle.field_words.specs.Questions.{first_of}
use Rattle.field_words.proofs.Questions.{none_broken}
use Rattle.qpu_isa.specs.Terms.{writes_s}
use Rattle.shader_flow.specs.{Flow.word, Flow.is_threaded}
use Rattle.strict_rules.specs.Queue.{queue_of, requests_of, most_requests}
use Rattle.strict_rules.specs.Rules.{e2, meets_requests, loads_none, lacks_slot, lacks_room, leaves_requests, e3, index_questions, waits_at}

pub no_e3 : (code : List ℕ) (i : ℕ) → first_of (index_questions code i) ≡ None → e3 code i ≡ false
unfolding index_questions
no_e3 code i none = (none_broken (index_questions code i) none).1.1.0

pub never_waits : (code : List ℕ) (i : ℕ) → waits_at code i ≡ false → e3 code i ≡ false
unfolding waits_at
never_waits code i none = (or_parts (e2 code i) (e3 code i) none).1

has_room : (code : List ℕ) (i : ℕ) → e3 code i ≡ false → lacks_room code i ≡ false
unfolding e3
has_room code i none =
    let late = (or_parts (meets_requests code i || (loads_none code 0 i || loads_none code 1 i)) (lacks_slot code i || (lacks_room code i || leaves_requests code i)) none).1 in
    (or_parts (lacks_room code i) (leaves_requests code i) (or_parts (lacks_slot code i) (lacks_room code i || leaves_requests code i) late).1).0

pub room_for : (code : List ℕ) (i : ℕ) → lacks_room code i ≡ false → (writes_s (word code i) 0 || writes_s (word code i) 1) ≡ true → requests_of code i < most_requests code
unfolding lacks_room
room_for code i room some =
    elim (and_cases (writes_s (word code i) 0 || writes_s (word code i) 1) (nat_le (most_requests code) (requests_of code i)) room) [
      | inl silent ↦ absurd (true≢false (sym some ∙ silent))
      | inr below ↦ leb-false (most_requests code) (requests_of code i) below
    ]

few : (threaded : Bool) → (if threaded then 2 else 4) ≤ 4
few true = omega arith
few false = omega arith

few_requests : (code : List ℕ) → most_requests code ≤ 4
unfolding most_requests
few_requests code = few (is_threaded code)

parts : (code : List ℕ) (i : ℕ) → requests_of code i < most_requests code → (length (queue_of code 0 i) < 4) × (length (queue_of code 1 i) < 4)
unfolding requests_of
parts code i below = let most = few_requests code in (omega (arith, below, most), omega (arith, below, most))

pub room_first : (code : List ℕ) (i : ℕ) → e3 code i ≡ false → writes_s (word code i) 0 ≡ true → length (queue_of code 0 i) < 4
room_first code i none some = (parts code i (room_for code i (has_room code i none) (or_left (writes_s (word code i) 0) (writes_s (word code i) 1) some))).0

pub room_second : (code : List ℕ) (i : ℕ) → e3 code i ≡ false → writes_s (word code i) 1 ≡ true → length (queue_of code 1 i) < 4
room_second code i none some = (parts code i (room_for code i (has_room code i none) (or_right (writes_s (word code i) 0) (writes_s (word code i) 1) some))).1
