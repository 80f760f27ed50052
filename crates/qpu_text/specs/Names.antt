-- The names of operations, registers and signals, by number.
use Rattle.std.specs.Prelude.{ℕ, List, map}
use Rattle.qpu_text.specs.declared.tables.TheConstants.{ADD, MULTIPLY, ACCUMULATORS, CONDITIONS, READ_A, READ_B, WRITE_A, WRITE_B, SMALL, UNPACK, PACK_A, PACK_MULTIPLY, SIGNALS, BRANCHES, MODES}

abbrev pub add_names : List (List ℕ)
add_names = map (λ row. row.now) ADD

abbrev pub multiply_names : List (List ℕ)
multiply_names = map (λ row. row.now) MULTIPLY

abbrev pub accumulators_names : List (List ℕ)
accumulators_names = map (λ row. row.now) ACCUMULATORS

abbrev pub conditions_names : List (List ℕ)
conditions_names = map (λ row. row.now) CONDITIONS

abbrev pub read_a_names : List (List ℕ)
read_a_names = map (λ row. row.now) READ_A

abbrev pub read_b_names : List (List ℕ)
read_b_names = map (λ row. row.now) READ_B

abbrev pub write_a_names : List (List ℕ)
write_a_names = map (λ row. row.now) WRITE_A

abbrev pub write_b_names : List (List ℕ)
write_b_names = map (λ row. row.now) WRITE_B

abbrev pub small_names : List (List ℕ)
small_names = map (λ row. row.now) SMALL

abbrev pub unpack_names : List (List ℕ)
unpack_names = map (λ row. row.now) UNPACK

abbrev pub pack_a_names : List (List ℕ)
pack_a_names = map (λ row. row.now) PACK_A

abbrev pub pack_multiply_names : List (List ℕ)
pack_multiply_names = map (λ row. row.now) PACK_MULTIPLY

abbrev pub signals_names : List (List ℕ)
signals_names = map (λ row. row.now) SIGNALS

abbrev pub branches_names : List (List ℕ)
branches_names = map (λ row. row.now) BRANCHES

abbrev pub modes_names : List (List ℕ)
modes_names = map (λ row. row.now) MODES
