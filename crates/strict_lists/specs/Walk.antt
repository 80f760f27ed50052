-- How far the walk over a list has come. No part of what the crate claims.
use Rattle.std.specs.Prelude.{◌≡◌, ◌≤◌, ℕ, ◌+◌, ◌==◌, ◌||◌, List, length, if◌then◌else◌}
use Rattle.field_words.specs.Questions.{first_of}
use Rattle.packets.specs.Opcode.{start_tile_binning}
use Rattle.bin_list.specs.Packets.{opcode, packets, draws}
use Rattle.strict_lists.specs.{declared.course.Course.Course, Rules.course_before, Rules.asked_from, Rules.list_questions}

-- what is kept one packet later
unfoldable pub course_after : Course → List ℕ → Course
course_after course packet = record {
  at = course.at + length packet;
  last = opcode packet;
  started = (opcode packet == start_tile_binning || course.started);
  primitives = course.primitives + (if draws packet then 1 else 0);
}

pub record IsUnderway (list rest : List ℕ) (course : Course) : Type 0 where
  pub earlier : List (List ℕ)
  pub kept : course ≡ course_before earlier
  pub inside : course.at + length rest ≤ length list
  pub near : course.primitives ≤ course.at
  pub none : first_of (asked_from earlier (packets rest)) ≡ first_of (list_questions list)
