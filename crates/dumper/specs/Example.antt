-- The text of `gen`: what became of an example job.
use Rattle.std.specs.{Prelude.ℕ, Prelude.List, Prelude.◌++◌, Prelude.codes, Fmt.decimal, List.sum}
use Rattle.relocation.specs.declared.layout.Lengths.{Lengths}

-- a line of a name and a number
unfoldable pub number_line : List ℕ → ℕ → List ℕ
number_line name number = name ++ (codes " " ++ (decimal number ++ codes "\n"))

-- how long the emitted lists are
unfoldable pub lengths_text : Lengths → List ℕ
lengths_text lengths =
    number_line (codes "bin") lengths.bin
    ++ (number_line (codes "records") lengths.records
    ++ (number_line (codes "uniforms") lengths.uniforms
    ++ number_line (codes "render") lengths.render))

-- What is printed of an accepted example: its number, how many bytes its file has, how long its emitted lists are, and the sum of
-- all bytes of its memory.
unfoldable pub example_text : ℕ → ℕ → List ℕ → Lengths → List ℕ
example_text number input memory lengths =
    number_line (codes "gen") number
    ++ (number_line (codes "input") input
    ++ (codes "accepted\n"
    ++ (lengths_text lengths
    ++ number_line (codes "sum") (sum memory))))
