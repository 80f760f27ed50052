-- Where the bytes are a file, no rule of the format is broken.
use Rattle.std.proofs.Common.{◌≡◌, ℕ, zero, suc, ◌+◌, ◌<◌, ◌≤◌, List, ◌++◌, length, None, refl, arith, ◌∙◌}
use Rattle.std.proofs.lemmas.Bool.{le-ltb}
use Rattle.field_words.specs.{Words.u32_at, Questions.Question, Questions.first_of, Questions.each}
use Rattle.field_words.proofs.Questions.{passes, first_none}
use Rattle.job_format.specs.Faults.{header_questions, entry_questions, buffer_questions, job_entry_questions, job_questions, content_questions, parts_questions, end_questions, last_questions, rest_questions, jobs_and_rest_questions, body_questions, format_questions}
use Rattle.job_format.specs.Offsets.{version_in, slot_count, buffer_count, job_count, entry_offset, job_offset, handles_offset, bin_offset, records_offset, uniforms_offset, end_offset}
use Rattle.job_format.proofs.{Found.contents_in, Passing.HeaderPasses, Passing.EntryPasses, Passing.JobPasses, Passing.Passes}
use Rattle.job_format.proofs.Standing.{content_ends, handles_offset_step, parts_end}
use Rattle.job_format.proofs.Versions.{version_none, buffers_none, handles_none, jobs_none, slots_none}

-- Items of which none has a fault.
each_passes : {F : Type 0} (questions : ℕ → List (Question F)) (i n : ℕ) → ((k : ℕ) → i ≤ k → k < i + n → first_of (questions k) ≡ None) → first_of (each questions i n) ≡ None
unfolding each
each_passes questions i zero none = refl
each_passes questions i (suc n) none =
    passes (questions i) (each questions (i + 1) n) (none i (omega arith) (omega arith))
    ∙ each_passes questions (i + 1) n (λ k from to. none k (omega arith) (omega arith))

-- none of a front and none of a rest
both_pass : {F : Type 0} (front rest : List (Question F)) → first_of front ≡ None → first_of rest ≡ None → first_of (front ++ rest) ≡ None
both_pass front rest none_front none_rest = passes front rest none_front ∙ none_rest

header_none : (bytes : List ℕ) → HeaderPasses bytes → first_of (header_questions bytes) ≡ None
unfolding header_questions
header_none bytes p =
    let v : ℕ = version_in bytes in
    first_none (header_questions bytes) (
      grind (arith, p.size),
      (
        grind (arith, p.letters),
        (
          version_none v p.a_version p.known,
          (
            buffers_none v (buffer_count bytes) p.buffers p.first_buffers,
            (jobs_none v (job_count bytes) p.some_job p.few_jobs p.first_jobs, (slots_none v (slot_count bytes) (job_count bytes) p.slots, tt)),
          ),
        ),
      ),
    )

entry_none : (bytes : List ℕ) (b at : ℕ) → EntryPasses bytes at → first_of (entry_questions bytes b at) ≡ None
unfolding entry_questions
entry_none bytes b at p =
    first_none (entry_questions bytes b at) (grind (arith, p.size), (grind (arith, p.kind), (grind (arith, p.code), tt)))

job_none : (bytes : List ℕ) (j at : ℕ) → JobPasses bytes at → first_of (job_entry_questions bytes j at) ≡ None
unfolding job_entry_questions
job_none bytes j at p =
    first_none (job_entry_questions bytes j at) (
      grind (arith, p.size),
      (
        grind (arith, p.flags),
        (
          handles_none (version_in bytes) (u32_at bytes (at + 8)) p.handles p.first_handles,
          (
            grind (arith, p.bin),
            (
              grind (arith, p.records),
              (
                grind (arith, p.declared),
                (grind (arith, p.uniforms), (grind (arith, p.whole_words), (grind (arith, p.first), (grind (arith, p.second), (grind (arith, p.third), tt))))),
              ),
            ),
          ),
        ),
      ),
    )

parts_none : (bytes : List ℕ) (j : ℕ) → handles_offset bytes (j + 1) ≤ length bytes → first_of (parts_questions bytes j) ≡ None
unfolding parts_questions end_offset uniforms_offset records_offset bin_offset
parts_none bytes j inside =
    let step = handles_offset_step bytes j in
    first_none (parts_questions bytes j) (le-ltb _ _ (omega arith), (le-ltb _ _ (omega arith), (le-ltb _ _ (omega arith), (le-ltb _ _ (omega arith), tt))))

end_none : (bytes : List ℕ) → handles_offset bytes (job_count bytes) ≡ length bytes → first_of (end_questions bytes) ≡ None
unfolding end_questions
end_none bytes end = first_none (end_questions bytes) (le-ltb _ _ (omega arith), tt)

pub format_none : (bytes : List ℕ) → Passes bytes → first_of (format_questions bytes) ≡ None
unfolding format_questions buffer_questions job_questions content_questions
format_none bytes p =
    let n : ℕ = buffer_count bytes in
    let jobs : ℕ = job_count bytes in
    let inside = contents_in bytes p in
    let end = p.end in
    let entries : first_of (each (buffer_questions bytes) 0 n) ≡ None =
    each_passes (buffer_questions bytes) 0 n (λ k from to. entry_none bytes k (entry_offset k) (p.entry k (omega arith))) in
    let job_entries : first_of (each (job_questions bytes) 0 jobs) ≡ None =
    each_passes (job_questions bytes) 0 jobs (λ k from to. job_none bytes k (job_offset bytes k) (p.job k (omega arith))) in
    let contents : first_of (each (content_questions bytes) 0 n) ≡ None =
    each_passes (content_questions bytes) 0 n
    (λ k from to. let ends = content_ends bytes k n (omega arith) in first_none (content_questions bytes k) (le-ltb _ _ (omega arith), tt)) in
    let parts : first_of (each (parts_questions bytes) 0 jobs) ≡ None =
    each_passes (parts_questions bytes) 0 jobs (λ k from to. let ends = parts_end bytes (k + 1) jobs (omega arith) in parts_none bytes k (omega arith)) in
    let last : first_of (last_questions bytes) ≡ None = both_pass (each (parts_questions bytes) 0 jobs) (end_questions bytes) parts (end_none bytes end) in
    both_pass (header_questions bytes) (body_questions bytes) (header_none bytes p.header)
    (both_pass (each (buffer_questions bytes) 0 n) (jobs_and_rest_questions bytes) entries
    (both_pass (each (job_questions bytes) 0 jobs) (rest_questions bytes) job_entries
    (both_pass (each (content_questions bytes) 0 n) (last_questions bytes) contents last)))
