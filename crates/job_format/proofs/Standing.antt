-- Where the parts stand.
use Rattle.std.proofs.Common.{◌≡◌, ◌<◌, ◌≤◌, ℕ, zero, suc, ◌+◌, ◌-◌, List, length, refl, ap, subst, add-one, add-zero, arith}
use Rattle.job_format.specs.Offsets.{buffer_count, job_count, job_offset, content_size, content_offset, handles_offset, bin_offset, records_offset, uniforms_offset, end_offset}
use Rattle.job_format.specs.Whole.{HasParts}

pub content_offset_step : (bytes : List ℕ) (b : ℕ) → content_offset bytes (b + 1) ≡ content_offset bytes b + content_size bytes b
unfolding content_offset
content_offset_step bytes b = ap (content_offset bytes) (add-one b)

pub content_offset_first : (bytes : List ℕ) → content_offset bytes 0 ≡ job_offset bytes (job_count bytes)
unfolding content_offset
content_offset_first bytes = refl

pub handles_offset_step : (bytes : List ℕ) (j : ℕ) → handles_offset bytes (j + 1) ≡ end_offset bytes j
unfolding handles_offset bin_offset records_offset uniforms_offset end_offset
handles_offset_step bytes j = ap (handles_offset bytes) (add-one j)

pub handles_offset_first : (bytes : List ℕ) → handles_offset bytes 0 ≡ content_offset bytes (buffer_count bytes)
unfolding handles_offset
handles_offset_first bytes = refl

-- What doesn't fall from one item to the next doesn't fall at all.
climbs : (place : ℕ → ℕ) → ((i : ℕ) → place i ≤ place (i + 1)) → (i n : ℕ) → place i ≤ place (i + n)
climbs place step i zero = let same : place (i + zero) ≡ place i = ap place (add-zero i) in omega arith
climbs place step i (suc n) =
    let next : place (i + suc n) ≡ place ((i + n) + 1) = ap place (let e : i + suc n ≡ (i + n) + 1 = omega arith in e) in
    let one = step (i + n) in
    let rest = climbs place step i n in
    omega arith

climbs_to : (place : ℕ → ℕ) → ((i : ℕ) → place i ≤ place (i + 1)) → (i count : ℕ) → i ≤ count → place i ≤ place count
climbs_to place step i count before =
    let e : i + (count - i) ≡ count = omega arith in subst (λ k. place i ≤ place k) e (climbs place step i (count - i))

-- The contents of a buffer end before those of the last do,
pub content_ends : (bytes : List ℕ) (b count : ℕ) → b < count → content_offset bytes b + content_size bytes b ≤ content_offset bytes count
content_ends bytes b count below =
    let step = content_offset_step bytes b in
    let up = climbs_to (content_offset bytes) (λ i. let s = content_offset_step bytes i in omega arith) (b + 1) count (omega arith) in
    omega arith

-- and so do the parts of a job.
parts_climb : (bytes : List ℕ) (j : ℕ) → handles_offset bytes j ≤ handles_offset bytes (j + 1)
unfolding bin_offset records_offset uniforms_offset end_offset
parts_climb bytes j = let step = handles_offset_step bytes j in omega arith

pub parts_end : (bytes : List ℕ) (j count : ℕ) → j ≤ count → handles_offset bytes j ≤ handles_offset bytes count
parts_end bytes j count before = climbs_to (handles_offset bytes) (parts_climb bytes) j count before

-- The contents lie in a file that has all its parts.
pub contents_inside : (bytes : List ℕ) (buffers jobs : ℕ) → HasParts bytes buffers jobs → content_offset bytes buffers ≤ length bytes
contents_inside bytes buffers jobs parts =
    let end = parts.end in
    let up = parts_end bytes 0 jobs (omega arith) in
    let first = handles_offset_first bytes in
    let same : content_offset bytes buffers ≡ content_offset bytes (buffer_count bytes) = ap (content_offset bytes) parts.header.buffers_named in
    omega arith
