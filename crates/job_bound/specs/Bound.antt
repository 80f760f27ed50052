-- What the bound of a file is, and how it is printed.
use Rattle.std.specs.Prelude.{◌≡◌, ◌<◌, ◌≤◌, ℕ, ◌+◌, ◌++◌, List, length, Option, Some, None, codes, slice_index_or, decimal}
use Rattle.field_words.specs.Questions.{first_of}
use Rattle.buffer_table.specs.{declared.buffer.Kind.Kind, declared.buffer.Kind.TheVariants.Plain, declared.buffer.Kind.TheVariants.Code}
use Rattle.buffer_table.specs.Table.{buffer_at}
use Rattle.job_format.specs.Model.{FileModel}
use Rattle.job_check.specs.{Offsets.content_offset, Shaders.words_of, Shaders.content_of}
use Rattle.promises.specs.Bounded.{steps, longest_of, bound_of}
use Rattle.job_bound.specs.{Back.branches, Back.wait_places, Back.first_place, Items.items_of, declared.bound.Bound.Bound}
use Rattle.job_bound.specs.declared.bound.Bound.TheVariants.{Steps, Loops}
use Rattle.job_bound.specs.declared.named.Sought.TheVariants.{LeadsBack, MayWait}
use Rattle.job_bound.specs.declared.programs.Program.{Program}

-- Where no branch leads back, the most steps, how many more for each step in which a renderer stays at an item, how many items there may be,
-- and the place of the first instruction that may wait for a request that isn't there; else the place of the first branch that does.
abbrev pub bound_by : Option ℕ → FileModel → Bound
bound_by None f = Steps (bound_of f) (longest_of f + 1) (items_of f) (first_place MayWait f)
bound_by (Some offset) f = Loops offset

unfoldable pub bound_in : FileModel → Bound
bound_in f = bound_by (first_place LeadsBack f) f

-- the lines that are printed
abbrev pub text_of : Bound → List ℕ
text_of (Steps most stay items None) = codes "steps " ++ (decimal most ++ (codes " and " ++ (decimal stay ++ codes " a stay\nends\n")))
text_of (Steps most stay items (Some offset)) =
    codes "steps " ++ (decimal most ++ (codes " and " ++ (decimal stay ++ (codes " a stay\nmay wait at " ++ (decimal offset ++ codes "\n")))))
text_of (Loops offset) = codes "loops at " ++ (decimal offset ++ codes "\n")

unfoldable pub bound_text : FileModel → List ℕ
bound_text f = text_of (bound_in f)

-- the shader in buffer b, where it is a Code buffer
abbrev pub code_for : Kind → List ℕ → Option (List ℕ)
code_for Plain content = None
code_for Code content = Some (words_of content)

unfoldable pub code_in : FileModel → ℕ → Option (List ℕ)
code_in f b = code_for (buffer_at f.buffers b).kind (content_of f b)

-- no shader has more than 8,192 instructions, of at most two steps each
abbrev pub most_program : ℕ
most_program = 16384

-- no packet of a binner list takes more steps than this, with those of its primitive; and no job
abbrev pub most_packet : ℕ
most_packet = 8796093022208

abbrev pub most_job : ℕ
most_job = 9223372036855824389

-- what is kept of it: the most steps of a program, and the places of the first branch that leads back and of the first instruction that may
-- wait for a request that isn't there
pub record IsProgramOf (code : Option (List ℕ)) (place : ℕ) (program : Program) : Type 0 where
  pub steps_is : program.steps ≡ steps code
  pub back_is : program.back ≡ first_of (branches code place)
  pub wait_is : program.wait ≡ first_of (wait_places code place)
  pub few : program.steps ≤ most_program

abbrev pub no_program : Program
no_program = record { steps = 0; back = None; wait = None }

-- so of the first n buffers
pub record AreProgramsUpTo (f : FileModel) (n : ℕ) (programs : List Program) : Type 0 where
  pub count : length programs ≡ n
  pub each : (b : ℕ) → b < n → IsProgramOf (code_in f b) (content_offset f b) (slice_index_or programs b no_program)

abbrev pub AreProgramsOf : FileModel → List Program → Type 0
AreProgramsOf f programs = AreProgramsUpTo f (length f.buffers) programs
