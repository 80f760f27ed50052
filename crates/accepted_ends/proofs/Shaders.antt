-- Where no shader of a file has a loop, each that a job starts is short.
use Rattle.std.proofs.Common.{◌≡◌, ◌≤◌, ◌<◌, inl, inr, ℕ, zero, suc, Bool, false, List, length, Option, Some, sym, ◌∙◌, ap, arith}
use Rattle.std.proofs.lemmas.Bool.{cases_lt}
use Rattle.buffer_table.proofs.Named.{code_is}
use Rattle.shader_flow.{specs.Bounded.some_below, proofs.Bounded.some_below_not}
use Rattle.job_format.specs.Model.{FileModel}
use Rattle.job_check.specs.{Shaders.table_of, Jobs.job_of}
use Rattle.accepted_law.specs.Ends.{IsShaderOf, DrawShaders}
use Rattle.promises.specs.Bounded.{shader_in, shader_named, loops, steps, job_loops, file_loops, greatest_below, job_longest, longest_of}
use Rattle.promises.specs.{Holdings.plain_of, Holdings.file_rights, Steps.program_steps}
use Rattle.ends_law.specs.{Ends.DrawShort, Loops.IsShort}

pub upto_greatest : (n k : ℕ) (number : ℕ → ℕ) → k < n → number k ≤ greatest_below n number
unfolding greatest_below
upto_greatest zero k number below = absurd (omega (arith, below))
upto_greatest (suc n) k number below =
    elim (cases_lt k n) [
      | inl earlier ↦ let less = upto_greatest n k number earlier in omega (arith, less)
      | inr past ↦ let same : k ≡ n = omega (arith, below, past) in let e : number k ≡ number n = ap number same in omega (arith, e)
    ]

pub named_is : (f : FileModel) (j : ℕ) (code : List ℕ) → (is : IsShaderOf f j code) → shader_named f j is.handle ≡ Some code
unfolding shader_named
named_is f j code is = ap (shader_in f) is.named ∙ ap (λ words. Some words) (sym is.is)

-- What a test says of no shader that a handle names, it says not of this one.
pub named_off : (test : Option (List ℕ) → Bool) (f : FileModel) (j : ℕ) (code : List ℕ) → some_below (length f.jobs) (λ k. some_below (length (job_of f k).handles) (λ i. test (shader_named f k i))) ≡ false → j < length f.jobs → IsShaderOf f j code → test (Some code) ≡ false
named_off test f j code none inside is =
    let handle_in = (code_is (table_of f) (job_of f j).handles is.handle is.number is.named).handle_in in
    let of_job = some_below_not (length f.jobs) j (λ k. some_below (length (job_of f k).handles) (λ i. test (shader_named f k i))) none inside in
    sym (ap test (named_is f j code is)) ∙ some_below_not (length (job_of f j).handles) is.handle (λ i. test (shader_named f j i)) of_job handle_in

few_steps : (f : FileModel) (j : ℕ) (code : List ℕ) → j < length f.jobs → IsShaderOf f j code → program_steps code ≤ longest_of f
unfolding longest_of job_longest
few_steps f j code inside is =
    let handle_in = (code_is (table_of f) (job_of f j).handles is.handle is.number is.named).handle_in in
    let of_job = upto_greatest (length f.jobs) j (λ k. job_longest f k) inside in
    let of_handle = upto_greatest (length (job_of f j).handles) is.handle (λ i. steps (shader_named f j i)) handle_in in
    let same : steps (shader_named f j is.handle) ≡ program_steps code = ap steps (named_is f j code is) in
    omega (arith, of_job, of_handle, same)

is_short : (f : FileModel) (j : ℕ) (code : List ℕ) → file_loops f ≡ false → j < length f.jobs → IsShaderOf f j code → IsShort (longest_of f) code
unfolding file_loops job_loops
is_short f j code none inside is = record { no_loop = named_off loops f j code none inside is; short = few_steps f j code inside is }

pub draws_short : (f : FileModel) (j : ℕ) (m : List ℕ) (word : ℕ) (packet : List ℕ) → file_loops f ≡ false → j < length f.jobs → DrawShaders f j m word packet → DrawShort (file_rights f) (plain_of f) m (longest_of f) j word packet
draws_short f j m word packet none inside draws = record {
  begins = draws.begins;
  fragment = is_short f j draws.begins.fragment.home.code none inside draws.fragment;
  vertex = is_short f j draws.begins.vertex.home.code none inside draws.vertex;
  coordinate = is_short f j draws.begins.coordinate.home.code none inside draws.coordinate;
}
