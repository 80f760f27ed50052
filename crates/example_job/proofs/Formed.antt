-- An example's file is well formed, whatever its number.
use Rattle.std.proofs.Common.{◌≡◌, ◌≤◌, ℕ, suc, zero, ◌+◌, ◌*◌, [], ◌∷◌, length, replicate, arith, refl, ap}
use Rattle.field_words.specs.{Pieces.joined_texts, Sizes.most_list}
use Rattle.job_format.specs.File.{IsWellFormed, IsJobWellFormed}
use Rattle.example_job.specs.{Noise.next_state, Noise.noise, Lists.states_from, Lists.bin_of, Lists.record_bytes, Lists.records_of}
use Rattle.example_job.specs.Example.{job_of, file_of, vertex_bytes}

pub noise_length : (x n : ℕ) → length (noise x n) ≡ n
unfolding noise
noise_length x zero = refl
noise_length x (suc n) = ap suc (noise_length (next_state x) n)

states_length : (j n : ℕ) → length (joined_texts (states_from j n)) ≡ 15 * n + 2
states_length j zero = refl
states_length j (suc n) = omega (arith, states_length (j + 1) n)

pub bin_length : (across down count : ℕ) → length (bin_of across down count) ≡ 15 * count + 19
unfolding bin_of
bin_length across down count = omega (arith, states_length 0 count)

records_joined : (n : ℕ) → length (joined_texts (replicate n record_bytes)) ≡ 60 * n
records_joined zero = refl
records_joined (suc n) = omega (arith, records_joined n)

pub records_length : (count : ℕ) → length (records_of count) ≡ 60 * count
unfolding records_of
records_length count = records_joined count

job_formed : (across down count : ℕ) → 60 * count ≤ most_list → IsJobWellFormed (job_of across down count)
job_formed across down count few = record {
  handles = omega arith;
  bin = omega (arith, few, bin_length across down count);
  records = omega (arith, few, records_length count);
  declared = omega (arith, few);
  uniforms = omega arith;
  whole_words = refl;
}

pub well_formed : (seed across down count : ℕ) → 60 * count ≤ most_list → IsWellFormed (file_of seed across down count)
unfolding file_of
well_formed seed across down count few = record {
  a_version = omega arith;
  known = omega arith;
  first = λ is_first. record { buffers = omega arith; one_job = refl; handles = (omega arith, tt) };
  slots = λ later some. omega arith;
  buffers = omega arith;
  code = (omega arith, (tt, (tt, tt)));
  contents = ap (λ n. 24 ∷ n ∷ 0 ∷ []) (noise_length seed vertex_bytes);
  some_job = omega arith;
  few_jobs = omega arith;
  jobs = (job_formed across down count few, tt);
}
