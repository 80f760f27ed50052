-- The shaders in buffers, and those that handles name.
use Rattle.std.proofs.Common.{◌≡◌, ℕ, suc, ◌+◌, ◌<◌, ◌≤◌, true, ◌&&◌, not, max, List, [], ◌∷◌, ◌++◌, length, get_or, Some, None, refl, sym, ap, subst, arith, ◌∙◌, if◌then◌else◌, inl, inr, length-append}
use Rattle.std.proofs.{lemmas.Bool.Decides.nat_tests, lemmas.Grind.common_steps, lemmas.List.get_or_append_left}
use Rattle.std.proofs.{Math.Seq.get_or-append_seam, lemmas.Bool.cases_lt}
use Rattle.std.specs.Prelude.{slice_index}
use Rattle.buffer_table.specs.{declared.buffer.Kind.Kind, Table.buffer_at}
use Rattle.buffer_table.specs.declared.buffer.Kind.TheVariants.{Plain, Code}
use Rattle.buffer_table.specs.Handles.{AreNumbersOf, is_plain, is_named, code_of}
use Rattle.job_format.specs.Model.{FileModel}
use Rattle.job_check.specs.{Jobs.job_of, Offsets.content_offset, Shaders.table_of, Shaders.content_of}
use Rattle.promises.specs.Bounded.{shader_in, shader_named, greatest_below}
use Rattle.job_bound.specs.Bound.{code_for, code_in, IsProgramOf, AreProgramsUpTo, no_program}
use Rattle.job_bound.specs.declared.programs.Program.{Program}

-- what a handle names that is a buffer's number
named_by : (f : FileModel) (kind : Kind) (number : ℕ) → shader_in f (if true && not (is_plain kind) then Some number else None) ≡ code_for kind (content_of f number)
named_by f Plain number = refl
named_by f Code number = refl

is_there : (f : FileModel) (handles : List ℕ) (i : ℕ) → AreNumbersOf (table_of f) handles → i < length handles → is_named (table_of f) handles i ≡ true
is_there f handles i numbers inside = let below = numbers i inside in grind (arith, common_steps, nat_tests, below, inside)

pub named_at : (f : FileModel) (j i : ℕ) → AreNumbersOf (table_of f) (job_of f j).handles → i < length (job_of f j).handles
    → shader_named f j i ≡ code_in f (slice_index (job_of f j).handles i)
unfolding shader_named code_in code_of
named_at f j i numbers inside =
    let number : ℕ = slice_index (job_of f j).handles i in
    let kind : Kind = (buffer_at f.buffers number).kind in
    ap (λ b. shader_in f (if b && not (is_plain kind) then Some number else None)) (is_there f (job_of f j).handles i numbers inside) ∙ named_by f kind number

-- the greatest of one more
pub greatest_more : (n : ℕ) (number : ℕ → ℕ) → greatest_below (n + 1) number ≡ max (greatest_below n number) (number n)
unfolding greatest_below
greatest_more n number = let one : n + 1 ≡ suc n = omega arith in ap (λ k. greatest_below k number) one

pub greatest_none : (number : ℕ → ℕ) → greatest_below 0 number ≡ 0
unfolding greatest_below
greatest_none number = refl

-- One program more.
pub programs_more : (f : FileModel) (n : ℕ) (programs : List Program) (program : Program) → AreProgramsUpTo f n programs → IsProgramOf (code_in f n) (content_offset f n) program
    → AreProgramsUpTo f (n + 1) (programs ++ program ∷ [])
programs_more f n programs program all one = record {
  count = length-append programs (program ∷ []) ∙ ap (λ k. k + 1) all.count;
  each = λ b below.
      elim (cases_lt b n) [
        | inl earlier ↦ subst (IsProgramOf (code_in f b) (content_offset f b)) (sym (get_or_append_left programs (program ∷ []) no_program b (omega (arith, earlier, all.count)))) (all.each b earlier)
        | inr past ↦
            let same : b ≡ length programs = omega (arith, below, past, all.count) in
            let last : n ≡ b = omega (arith, below, past) in
            subst (λ k. IsProgramOf (code_in f k) (content_offset f k) (get_or (programs ++ program ∷ []) b no_program)) last
            (subst (IsProgramOf (code_in f n) (content_offset f n)) (sym (ap (λ k. get_or (programs ++ program ∷ []) k no_program) same ∙ get_or-append_seam programs program [] no_program)) one)
      ];
}

-- What is kept of the buffer that a handle names is kept of what it names.
pub program_is : (f : FileModel) (j i number : ℕ) (programs : List Program) → AreNumbersOf (table_of f) (job_of f j).handles → AreProgramsUpTo f (length f.buffers) programs
    → i < length (job_of f j).handles → number ≡ slice_index (job_of f j).handles i
    → (number < length programs) × IsProgramOf (shader_named f j i) (content_offset f (slice_index (job_of f j).handles i)) (get_or programs number no_program)
program_is f j i number programs numbers all inside is =
    let handle : ℕ = slice_index (job_of f j).handles i in
    let below : handle < length f.buffers = numbers i inside in (
      omega (arith, below, is, all.count),
      subst (λ code. IsProgramOf code (content_offset f handle) (get_or programs number no_program)) (sym (named_at f j i numbers inside))
          (subst (λ k. IsProgramOf (code_in f handle) (content_offset f handle) (get_or programs k no_program)) (sym is) (all.each handle below)),
    )

-- the greatest so far, and one more
pub greatest_on : (n now one most : ℕ) (number : ℕ → ℕ) → now ≡ greatest_below n number → one ≡ number n → now ≤ most → one ≤ most
    → (max now one ≡ greatest_below (n + 1) number) × (max now one ≤ most)
greatest_on n now one most number is next few small =
    (ap (λ k. max k one) is ∙ ap (λ k. max (greatest_below n number) k) next ∙ sym (greatest_more n number), omega (arith, few, small))
