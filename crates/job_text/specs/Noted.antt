-- Shader text with a note above each instruction.
use Rattle.std.specs.Prelude.{ℕ, zero, suc, List, [], ◌++◌, length, codes, decimal, slice_index, Option}
use Rattle.qpu_asm.specs.Printed.{line_text as asm_line_text}
use Rattle.job_text.specs.{Notes.description, Taken.uniform_at}

-- "# 8: add tmu0_s, r1, uniform; takes uniform 3", and below it the line that assembles to the word
unfoldable pub noted_line : ℕ → ℕ → Option ℕ → List ℕ
noted_line i word uniform =
    codes "# " ++ (decimal i ++ (codes ": " ++ (description word uniform ++ (codes "\n" ++ asm_line_text word))))

-- the lines of the first n instructions of a shader
unfoldable pub noted_lines : List ℕ → ℕ → List ℕ
noted_lines code zero = []
noted_lines code (suc i) = noted_lines code i ++ noted_line i (slice_index code i) (uniform_at code i)

abbrev pub noted_text : List ℕ → List ℕ
noted_text code = noted_lines code (length code)
