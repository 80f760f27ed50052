-- What an ALU instruction does, as familiar text.
use Rattle.std.specs.Prelude.{ℕ, Bool, not, ◌&&◌, ◌||◌, ◌==◌, nat_lt, List, [], ◌∷◌, ◌++◌, codes, if◌then◌else◌}
use Rattle.qpu_isa.specs.Word.{sig_of, unpack_of, pm_of, pack_of, cond_add_of, cond_mul_of, sf_of, ws_of, waddr_add_of, waddr_mul_of, op_mul_of, op_add_of, raddr_a_of, raddr_b_of, add_a_of, add_b_of, mul_a_of, mul_b_of}
use Rattle.qpu_isa.specs.Terms.{has_small}
use Rattle.qpu_text.specs.Pieces.{named_in, if_so}
use Rattle.qpu_text.specs.Names.{add_names, multiply_names, accumulators_names, conditions_names, read_a_names, read_b_names, write_a_names, write_b_names, small_names, unpack_names, pack_a_names, pack_multiply_names, signals_names}

-- what file B reads: a register, or with signal 13 a value
unfoldable pub file_b : ℕ → List ℕ
file_b word = if has_small word then named_in small_names (raddr_b_of word) else named_in read_b_names (raddr_b_of word)

-- An operand: an accumulator, or what a file reads. What file A reads can be unpacked, or instead r4.
unfoldable pub operand_text : ℕ → ℕ → List ℕ
operand_text word selector =
    if selector == 6 then named_in read_a_names (raddr_a_of word) ++ if_so (not (pm_of word)) (named_in unpack_names (unpack_of word))
    else (if selector == 7 then file_b word
    else named_in accumulators_names selector ++ if_so (pm_of word && selector == 4) (named_in unpack_names (unpack_of word)))

-- where a result goes, on the side of file A or B
unfoldable pub place_text : Bool → ℕ → List ℕ
place_text on_a address = if on_a then named_in write_a_names address else named_in write_b_names address

-- Half of an instruction: its operation, and whether it sets the flags; on which condition, where and how packed the result is
-- written; and how many operands it has.
pub record Half : Type 0 where
  pub name : List ℕ
  pub sets : Bool
  pub condition : ℕ
  pub place : List ℕ
  pub pack : List ℕ
  pub first : ℕ
  pub second : ℕ
  pub count : ℕ

-- an operation's operands: 0 for none, 1 where the second doesn't count
unfoldable pub is_copy : ℕ → Bool
is_copy word = op_add_of word == 21 && add_a_of word == add_b_of word

unfoldable pub is_multiply_copy : ℕ → Bool
is_multiply_copy word = op_mul_of word == 4 && mul_a_of word == mul_b_of word

unfoldable pub is_unary : ℕ → Bool
is_unary operation = (operation == 7 || operation == 8) || (operation == 23 || operation == 24)

unfoldable pub add_count : ℕ → ℕ
add_count word = if op_add_of word == 0 then 0 else (if is_copy word || is_unary (op_add_of word) then 1 else 2)

unfoldable pub multiply_count : ℕ → ℕ
multiply_count word = if op_mul_of word == 0 then 0 else (if is_multiply_copy word then 1 else 2)

-- whether the multiply unit's result sets the flags; else the add unit's does
unfoldable pub flags_by_multiply : ℕ → Bool
flags_by_multiply word = op_add_of word == 0 && (not (op_mul_of word == 0) || waddr_add_of word == 39)

unfoldable pub add_half : ℕ → Half
add_half word = record {
  name = (if is_copy word then codes "mov" else named_in add_names (op_add_of word));
  sets = (sf_of word && not (flags_by_multiply word));
  condition = cond_add_of word;
  place = place_text (not (ws_of word)) (waddr_add_of word);
  pack = if_so (not (pm_of word) && not (ws_of word)) (named_in pack_a_names (pack_of word));
  first = add_a_of word;
  second = add_b_of word;
  count = add_count word;
}

unfoldable pub multiply_half : ℕ → Half
multiply_half word = record {
  name = (if is_multiply_copy word then codes "mov" else named_in multiply_names (op_mul_of word));
  sets = (sf_of word && flags_by_multiply word);
  condition = cond_mul_of word;
  place = place_text (ws_of word) (waddr_mul_of word);
  pack = (if pm_of word then named_in pack_multiply_names (pack_of word) else if_so (ws_of word) (named_in pack_a_names (pack_of word)));
  first = mul_a_of word;
  second = mul_b_of word;
  count = multiply_count word;
}

-- an operand behind a comma, where the operation has it
unfoldable pub source_text : ℕ → ℕ → Bool → List ℕ
source_text word selector has = if has then codes ", " ++ operand_text word selector else []

unfoldable pub half_text : ℕ → Half → List ℕ
half_text word half =
    half.name ++ (if_so half.sets (codes ".sf") ++ (named_in conditions_names half.condition ++ (codes " " ++ (half.place ++ (half.pack
    ++ (source_text word half.first (nat_lt 0 half.count) ++ source_text word half.second (nat_lt 1 half.count)))))))

-- a unit does something
unfoldable pub adds : ℕ → Bool
adds word = not (op_add_of word == 0 && waddr_add_of word == 39)

unfoldable pub multiplies : ℕ → Bool
multiplies word = not (op_mul_of word == 0 && waddr_mul_of word == 39)

unfoldable pub halves_text : ℕ → List ℕ
halves_text word =
    if adds word then half_text word (add_half word) ++ (if multiplies word then codes "; " ++ half_text word (multiply_half word) else [])
    else (if multiplies word then half_text word (multiply_half word) else codes "nop" ++ if_so (sf_of word) (codes ".sf"))

-- an operand of a half is this one
abbrev pub half_has : ℕ → ℕ → ℕ → ℕ → Bool
half_has selector count first second = (nat_lt 0 count && first == selector) || (nat_lt 1 count && second == selector)

unfoldable pub has_operand : ℕ → ℕ → Bool
has_operand word selector =
    half_has selector (add_count word) (add_a_of word) (add_b_of word)
    || half_has selector (multiply_count word) (mul_a_of word) (mul_b_of word)

-- what a file reads that is no operand: a uniform is taken all the same
unfoldable pub read_text : Bool → List ℕ → List ℕ
read_text is name = if is then codes "; reads " ++ name else []

unfoldable pub reads_text : ℕ → List ℕ
reads_text word =
    read_text (not (raddr_a_of word == 39) && not (has_operand word 6)) (named_in read_a_names (raddr_a_of word))
    ++ read_text (not (has_small word) && (not (raddr_b_of word == 39) && not (has_operand word 7))) (named_in read_b_names (raddr_b_of word))

-- the multiply unit's result moves between the elements
unfoldable pub rotation_text : ℕ → List ℕ
rotation_text word = if has_small word && nat_lt 47 (raddr_b_of word) then codes "; " ++ named_in small_names (raddr_b_of word) else []

unfoldable pub alu_text : ℕ → List ℕ
alu_text word = halves_text word ++ (rotation_text word ++ (reads_text word ++ named_in signals_names (sig_of word)))
