-- What no real shader does, though no rule forbids it: each note as a sentence about the instruction at i, and which notes a shader gets.
use Rattle.std.specs.Prelude.{ℕ, ◌+◌, ◌==◌, Bool, false, not, ◌&&◌, ◌||◌, List, [], ◌∷◌, nat_lt, nat_le, Option, None, Some}
use Rattle.field_words.specs.Questions.{Question, Ask, each, first_of}
use Rattle.qpu_isa.specs.Terms.{is_alu, is_branch, is_switch, has_small, names_address}
use Rattle.qpu_isa.specs.Word.{sig_of, waddr_add_of, waddr_mul_of, op_add_of, op_mul_of, raddr_b_of, add_a_of, add_b_of, mul_a_of, mul_b_of}
use Rattle.shader_flow.specs.{Bounded.is_back, Bounded.last_below, Flow.word, Flow.end_of, Flow.checked_of}
use Rattle.shader_notes.specs.{declared.note.Note.Note, declared.note.Notes.Notes}
use Rattle.shader_notes.specs.declared.note.Note.TheVariants.{LastUnmarked, MarkedEarly, LockedEarly, TileAtStart, EndWrites, Register14, DepthLast, ReadEarly, RotatedEarly}
use Rattle.strict_rules.specs.Words.{reads_address}

-- a read or write of the tile buffer: signal 8 (a colour), or write addresses 44 to 47
unfoldable pub accesses_tile : ℕ → Bool
accesses_tile word =
    sig_of word == 8
    || ((names_address word 44 || names_address word 45) || (names_address word 46 || names_address word 47))

-- such a read or write, or a wait for the scoreboard
unfoldable pub locks : ℕ → Bool
locks word = sig_of word == 4 || accesses_tile word

-- a unit writes a register of file A or B
unfoldable pub writes_file : ℕ → Bool
writes_file word = not (is_branch word) && (nat_lt (waddr_add_of word) 32 || nat_lt (waddr_mul_of word) 32)

-- a unit writes an address from 52 to 55, whose special function r4 then has
unfoldable pub is_function : ℕ → Bool
is_function address = nat_lt 51 address && nat_lt address 56

unfoldable pub asks_function : ℕ → Bool
asks_function word = not (is_branch word) && (is_function (waddr_add_of word) || is_function (waddr_mul_of word))

-- an operand of a unit that does something is r4
unfoldable pub reads_r4 : ℕ → Bool
reads_r4 word =
    is_alu word
    && ((not (op_add_of word == 0) && (add_a_of word == 4 || add_b_of word == 4))
    || (not (op_mul_of word == 0) && (mul_a_of word == 4 || mul_b_of word == 4)))

-- small immediates from 48 on rotate the multiply unit's vector; this accumulator is one of its operands
unfoldable pub rotates : ℕ → ℕ → Bool
rotates word number =
    (has_small word && nat_le 48 (raddr_b_of word))
    && (not (op_mul_of word == 0) && (mul_a_of word == number || mul_b_of word == number))

-- the instruction before writes an accumulator that this one rotates: r0 to r3, or r5
unfoldable pub rotates_new : (before word : ℕ) → Bool
rotates_new before word =
    ((rotates word 0 && names_address before 32) || (rotates word 1 && names_address before 33))
    || ((rotates word 2 && names_address before 34) || ((rotates word 3 && names_address before 35) || (rotates word 5 && names_address before 37)))

-- the last switch of the shader, where it has one
unfoldable pub last_switch : List ℕ → Option ℕ
last_switch code = last_below (checked_of code) (λ k. is_switch (word code k))

abbrev pub is_number : ℕ → Option ℕ → Bool
is_number i None = false
is_number i (Some number) = i == number

abbrev pub is_below : ℕ → Option ℕ → Bool
is_below i None = false
is_below i (Some number) = nat_lt i number

-- of two threads' switches the last alone has signal 6, and all others have signal 2
unfoldable pub last_unmarked : List ℕ → ℕ → Bool
last_unmarked code i = sig_of (word code i) == 2 && is_number i (last_switch code)

unfoldable pub marked_early : List ℕ → ℕ → Bool
marked_early code i = sig_of (word code i) == 6 && is_below i (last_switch code)

-- before it the tile buffer isn't accessed, and the scoreboard not waited for
unfoldable pub locked_early : List ℕ → ℕ → Bool
locked_early code i = locks (word code i) && is_below i (last_switch code)

-- nor is the tile buffer in the first two instructions
unfoldable pub tile_at_start : List ℕ → ℕ → Bool
tile_at_start code i = nat_lt i 2 && accesses_tile (word code i)

-- the program end writes no register of a file
unfoldable pub end_writes : List ℕ → ℕ → Bool
end_writes code i = i == end_of code && writes_file (word code i)

-- it and the two instructions behind it don't use register 14 of a file
unfoldable pub register_14 : List ℕ → ℕ → Bool
register_14 code i = nat_le (end_of code) i && (reads_address (word code i) 14 || names_address (word code i) 14)

-- the last of them doesn't write depth (44)
unfoldable pub depth_last : List ℕ → ℕ → Bool
depth_last code i = i == end_of code + 2 && names_address (word code i) 44

-- r4 isn't read in the two instructions behind a special function, which then isn't there
unfoldable pub read_early : List ℕ → ℕ → Bool
read_early code i =
    reads_r4 (word code i) && (is_back i 1 (λ k. asks_function (word code k)) || is_back i 2 (λ k. asks_function (word code k)))

-- no accumulator is rotated that the instruction before has written
unfoldable pub rotated_early : List ℕ → ℕ → Bool
rotated_early code i = is_back i 1 (λ k. rotates_new (word code k) (word code i))

-- the note is true of the instruction
unfoldable pub is_noted : List ℕ → Note → ℕ → Bool
is_noted code LastUnmarked i = last_unmarked code i
is_noted code MarkedEarly i = marked_early code i
is_noted code LockedEarly i = locked_early code i
is_noted code TileAtStart i = tile_at_start code i
is_noted code EndWrites i = end_writes code i
is_noted code Register14 i = register_14 code i
is_noted code DepthLast i = depth_last code i
is_noted code ReadEarly i = read_early code i
is_noted code RotatedEarly i = rotated_early code i

-- the first checked instruction of which it is
unfoldable pub noted_at : List ℕ → Note → ℕ → List (Question ℕ)
noted_at code note i = Ask (is_noted code note i) i ∷ []

unfoldable pub first_noted : List ℕ → Note → Option ℕ
first_noted code note = first_of (each (noted_at code note) 0 (checked_of code))

-- the notes that a shader gets: each once, at the first instruction of which it is true
unfoldable pub notes_of : List ℕ → Notes
notes_of code = record {
  last_unmarked = first_noted code LastUnmarked;
  marked_early = first_noted code MarkedEarly;
  locked_early = first_noted code LockedEarly;
  tile_at_start = first_noted code TileAtStart;
  end_writes = first_noted code EndWrites;
  register_14 = first_noted code Register14;
  depth_last = first_noted code DepthLast;
  read_early = first_noted code ReadEarly;
  rotated_early = first_noted code RotatedEarly;
}
