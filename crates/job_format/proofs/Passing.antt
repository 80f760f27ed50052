-- What each part of a file has where no rule of the format is broken.
use Rattle.std.proofs.Common.{◌≡◌, ℕ, ◌+◌, ◌-◌, ◌%◌, ◌<◌, ◌≤◌, List, length, None, get_or, refl, ap, arith}
use Rattle.field_words.specs.{Sizes.most_list, Sizes.most_code, Words.u32_at, Questions.Question, Questions.first_of, Questions.each}
use Rattle.field_words.proofs.{Questions.none_broken, Nones.front_none, Nones.rest_none, Nones.each_none}
use Rattle.job_format.specs.Faults.{magic, header_questions, entry_questions, buffer_questions, job_entry_questions, job_questions, content_questions, parts_questions, end_questions, last_questions, rest_questions, jobs_and_rest_questions, body_questions, format_questions}
use Rattle.job_format.specs.Offsets.{most_buffers, most_handles, most_jobs, most_first, most_states, version_in, slot_count, buffer_count, job_count, entry_offset, job_offset, handles_offset, end_offset}
use Rattle.job_format.specs.{declared.rule.FormatFault.FormatFault, Whole.HasParts}
use Rattle.job_format.proofs.Versions.{version_passes, buffers_pass, handles_pass, jobs_pass, slots_pass}
use Rattle.job_format.proofs.Standing.{handles_offset_step}

-- the header's facts
pub record HeaderPasses (bytes : List ℕ) : Type 0 where
  pub size : 36 ≤ length bytes
  pub letters : u32_at bytes 0 ≡ magic
  pub a_version : 1 ≤ version_in bytes
  pub known : version_in bytes ≤ 2
  pub buffers : buffer_count bytes ≤ most_buffers
  pub first_buffers : version_in bytes ≡ 1 → buffer_count bytes ≤ most_first
  pub some_job : 1 ≤ job_count bytes
  pub few_jobs : job_count bytes ≤ most_jobs
  pub first_jobs : version_in bytes ≡ 1 → job_count bytes ≡ 1
  pub slots : version_in bytes ≡ 2 → 0 < slot_count bytes → job_count bytes ≤ slot_count bytes

-- a buffer's entry
pub record EntryPasses (bytes : List ℕ) (at : ℕ) : Type 0 where
  pub size : at + 20 ≤ length bytes
  pub kind : u32_at bytes (at + 12) ≤ 1
  pub code : u32_at bytes (at + 12) ≡ 1 → u32_at bytes (at + 16) ≤ most_code

-- a job's entry
pub record JobPasses (bytes : List ℕ) (at : ℕ) : Type 0 where
  pub size : at + 124 ≤ length bytes
  pub flags : u32_at bytes (at + 4) ≤ 1
  pub handles : u32_at bytes (at + 8) ≤ most_handles
  pub first_handles : version_in bytes ≡ 1 → u32_at bytes (at + 8) ≤ most_first
  pub bin : u32_at bytes (at + 12) ≤ most_list
  pub records : u32_at bytes (at + 16) ≤ most_list
  pub declared : u32_at bytes (at + 20) ≤ most_states
  pub uniforms : u32_at bytes (at + 24) ≤ most_list
  pub whole_words : u32_at bytes (at + 24) % 4 ≡ 0
  pub first : get_or bytes (at + 121) 0 ≡ 0
  pub second : get_or bytes (at + 122) 0 ≡ 0
  pub third : get_or bytes (at + 123) 0 ≡ 0

header_passes : (bytes : List ℕ) → first_of (header_questions bytes) ≡ None → HeaderPasses bytes
unfolding header_questions
header_passes bytes none =
    let n = none_broken (header_questions bytes) none in
    let version = version_passes (version_in bytes) n.1.1.0 in
    let buffers = buffers_pass (version_in bytes) (buffer_count bytes) n.1.1.1.0 in
    let jobs = jobs_pass (version_in bytes) (job_count bytes) n.1.1.1.1.0 in
    record {
      size = grind (arith, n.0);
      letters = grind (arith, n.1.0);
      a_version = version.0;
      known = version.1;
      buffers = buffers.0;
      first_buffers = buffers.1;
      some_job = jobs.0;
      few_jobs = jobs.1.0;
      first_jobs = jobs.1.1;
      slots = slots_pass (version_in bytes) (slot_count bytes) (job_count bytes) n.1.1.1.1.1.0;
    }

entry_passes : (bytes : List ℕ) (b at : ℕ) → first_of (entry_questions bytes b at) ≡ None → EntryPasses bytes at
unfolding entry_questions
entry_passes bytes b at none =
    let n = none_broken (entry_questions bytes b at) none in
    record {
      size = grind (arith, n.0);
      kind = grind (arith, n.1.0);
      code = λ is_code. grind (arith, n.1.1.0, is_code);
    }

job_passes : (bytes : List ℕ) (j at : ℕ) → first_of (job_entry_questions bytes j at) ≡ None → JobPasses bytes at
unfolding job_entry_questions
job_passes bytes j at none =
    let n = none_broken (job_entry_questions bytes j at) none in
    let rest = n.1.1.1.1.1 in
    let handles = handles_pass (version_in bytes) (u32_at bytes (at + 8)) n.1.1.0 in
    record {
      size = grind (arith, n.0);
      flags = grind (arith, n.1.0);
      handles = handles.0;
      first_handles = handles.1;
      bin = grind (arith, n.1.1.1.0);
      records = grind (arith, n.1.1.1.1.0);
      declared = grind (arith, rest.0);
      uniforms = grind (arith, rest.1.0);
      whole_words = grind (arith, rest.1.1.0);
      first = grind (arith, rest.1.1.1.0);
      second = grind (arith, rest.1.1.1.1.0);
      third = grind (arith, rest.1.1.1.1.1.0);
    }

-- all of them together
pub record Passes (bytes : List ℕ) : Type 0 where
  pub header : HeaderPasses bytes
  pub entry : (b : ℕ) → b < buffer_count bytes → EntryPasses bytes (entry_offset b)
  pub job : (j : ℕ) → j < job_count bytes → JobPasses bytes (job_offset bytes j)
  pub end : handles_offset bytes (job_count bytes) ≡ length bytes

parts_inside : (bytes : List ℕ) (j : ℕ) → first_of (parts_questions bytes j) ≡ None → end_offset bytes j ≤ length bytes
unfolding parts_questions
parts_inside bytes j none = let n = none_broken (parts_questions bytes j) none in grind (arith, n.1.1.1.0)

end_inside : (bytes : List ℕ) → first_of (end_questions bytes) ≡ None → length bytes ≤ handles_offset bytes (job_count bytes)
unfolding end_questions
end_inside bytes none = let n = none_broken (end_questions bytes) none in grind (arith, n.0)

-- the parts of the last job end with the file
ends_with : (bytes : List ℕ) → 1 ≤ job_count bytes → first_of (last_questions bytes) ≡ None → handles_offset bytes (job_count bytes) ≡ length bytes
ends_with bytes some none =
    let count : ℕ = job_count bytes in
    let last : ℕ = count - 1 in
    let parts = front_none (each (parts_questions bytes) 0 count) (end_questions bytes) none in
    let inside = parts_inside bytes last (each_none (parts_questions bytes) 0 count last parts (omega arith) (omega (arith, some))) in
    let here : handles_offset bytes count ≡ handles_offset bytes (last + 1) = ap (handles_offset bytes) (let e : count ≡ last + 1 = omega (arith, some) in e) in
    let step = handles_offset_step bytes last in
    let past = end_inside bytes (rest_none (each (parts_questions bytes) 0 count) (end_questions bytes) none) in
    omega arith

pub passes_all : (bytes : List ℕ) → first_of (format_questions bytes) ≡ None → Passes bytes
unfolding format_questions buffer_questions job_questions
passes_all bytes none =
    let buffers : List (Question FormatFault) = each (buffer_questions bytes) 0 (buffer_count bytes) in
    let jobs : List (Question FormatFault) = each (job_questions bytes) 0 (job_count bytes) in
    let body : first_of (body_questions bytes) ≡ None = rest_none (header_questions bytes) (body_questions bytes) none in
    let after : first_of (jobs_and_rest_questions bytes) ≡ None = rest_none buffers (jobs_and_rest_questions bytes) body in
    let rest : first_of (rest_questions bytes) ≡ None = rest_none jobs (rest_questions bytes) after in
    let last : first_of (last_questions bytes) ≡ None = rest_none (each (content_questions bytes) 0 (buffer_count bytes)) (last_questions bytes) rest in
    let header = header_passes bytes (front_none (header_questions bytes) (body_questions bytes) none) in
    record {
      header = header;
      entry = λ b below.
          entry_passes bytes b (entry_offset b)
          (each_none (buffer_questions bytes) 0 (buffer_count bytes) b (front_none buffers (jobs_and_rest_questions bytes) body) (omega arith) (omega (arith, below)));
      job = λ j below.
          job_passes bytes j (job_offset bytes j)
          (each_none (job_questions bytes) 0 (job_count bytes) j (front_none jobs (rest_questions bytes) after) (omega arith) (omega (arith, below)));
      end = ends_with bytes header.some_job last;
    }

pub has_parts : (bytes : List ℕ) → first_of (format_questions bytes) ≡ None → HasParts bytes (buffer_count bytes) (job_count bytes)
has_parts bytes none =
    let p = passes_all bytes none in
    let h = p.header in
    let some = h.some_job in
    let end = p.end in
    let last = (p.job (job_count bytes - 1) (omega arith)).size in
    record {
      header = record { whole = h.size; buffers_named = refl; jobs_named = refl; few_buffers = h.buffers; few_jobs = h.few_jobs };
      entries = omega arith;
      handles = λ j below. (p.job j below).handles;
      end = omega arith;
    }
