-- The strict rules on a binner list, each as a sentence about a packet and those before it, which come the nearest first.
use Rattle.std.specs.Prelude.{ℕ, ◌+◌, ◌/◌, ◌%◌, ◌==◌, Bool, false, not, ◌&&◌, ◌||◌, List, [], ◌∷◌, ◌++◌, slice_index, nat_lt, if◌then◌else◌}
use Rattle.field_words.specs.Questions.{Question, Ask, with_answers}
use Rattle.packets.specs.Opcode.{start_tile_binning, indexed_primitive_list, array_primitive_list, primitive_list_format}
use Rattle.bin_list.specs.{Packets.opcode, Packets.packets, Seen.place, Seen.last_opcode, Packets.draws}
use Rattle.strict_lists.specs.{declared.course.Course.Course, declared.rule.ListRule.ListRule, declared.rule.ListFault.ListFault}
use Rattle.strict_lists.specs.declared.rule.ListRule.TheVariants.{PrimitiveKind, PrimitiveCount, ListFormat}

abbrev pub number_of : ListRule → ℕ
number_of PrimitiveKind = 9
number_of PrimitiveCount = 10
number_of ListFormat = 13

-- how many primitives there are
abbrev pub primitives_in : List (List ℕ) → ℕ
primitives_in [] = 0
primitives_in (packet ∷ earlier) = primitives_in earlier + (if draws packet then 1 else 0)

-- binning was started
abbrev pub is_started : List (List ℕ) → Bool
is_started [] = false
is_started (packet ∷ earlier) = opcode packet == start_tile_binning || is_started earlier

-- An indexed primitive's byte has the index type, 0 or 1, over its mode, 0 to 6; an array's is the mode alone.
unfoldable pub e9 : List ℕ → Bool
e9 packet =
    (opcode packet == indexed_primitive_list && (nat_lt 1 (slice_index packet 1 / 16) || nat_lt 6 (slice_index packet 1 % 16)))
    || (opcode packet == array_primitive_list && nat_lt 6 (slice_index packet 1))

-- the most primitives of a list
abbrev pub most_primitives : ℕ
most_primitives = 7920

-- what is asked of the packets before: where the next one begins, the last one's opcode, whether binning was started, and how many
-- primitives there are
unfoldable pub course_before : List (List ℕ) → Course
course_before earlier =
    record { at = place earlier; last = last_opcode earlier; started = is_started earlier; primitives = primitives_in earlier }

-- one primitive too many
unfoldable pub e10 : Course → List ℕ → Bool
e10 course packet = draws packet && course.primitives == most_primitives

-- the reset that a tile list begins with
unfoldable pub is_reset : List ℕ → Bool
is_reset packet = opcode packet == primitive_list_format && slice_index packet 1 == 18

-- what comes directly behind the start of binning isn't the reset; or a format comes later
unfoldable pub e13 : Course → List ℕ → Bool
e13 course packet =
    if course.last == start_tile_binning then not (is_reset packet) else course.started && opcode packet == primitive_list_format

-- these rules in the order of their numbers
unfoldable pub packet_questions : Course → List ℕ → List (Question ListRule)
packet_questions course packet =
    Ask (e9 packet) PrimitiveKind ∷ Ask (e10 course packet) PrimitiveCount ∷ Ask (e13 course packet) ListFormat ∷ []

-- a rule with the place of the packet that breaks it
unfoldable pub list_fault : ℕ → ListRule → ListFault
list_fault at rule = record { rule = rule; at = at }

-- those of all packets, in the order of the list
abbrev pub asked_from : List (List ℕ) → List (List ℕ) → List (Question ListFault)
asked_from earlier [] = []
asked_from earlier (packet ∷ later) =
    with_answers (list_fault (place earlier)) (packet_questions (course_before earlier) packet) ++ asked_from (packet ∷ earlier) later

unfoldable pub list_questions : List ℕ → List (Question ListFault)
list_questions list = asked_from [] (packets list)
