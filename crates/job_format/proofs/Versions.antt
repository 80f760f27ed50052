-- The tests that go by the version, as facts, in both directions.
use Rattle.std.proofs.Common.{◌≡◌, ℕ, ◌<◌, ◌≤◌, not, false, nat_lt, arith}
use Rattle.job_format.specs.Offsets.{most_buffers, most_handles, most_jobs, most_first, buffer_limit, handle_limit}
use Rattle.job_format.specs.Faults.{is_version, is_miscounted, lacks_slots}

pub buffer_limit_most : (v : ℕ) → buffer_limit v ≤ most_buffers
unfolding buffer_limit
buffer_limit_most v = grind arith

-- what passes
pub version_passes : (v : ℕ) → not (is_version v) ≡ false → (1 ≤ v) × (v ≤ 2)
unfolding is_version
version_passes v is = (grind (arith, is), grind (arith, is))

pub buffers_pass : (v n : ℕ) → nat_lt (buffer_limit v) n ≡ false → (n ≤ most_buffers) × (v ≡ 1 → n ≤ most_first)
unfolding buffer_limit
buffers_pass v n is = (grind (arith, is), λ first. grind (arith, is, first))

pub handles_pass : (v n : ℕ) → nat_lt (handle_limit v) n ≡ false → (n ≤ most_handles) × (v ≡ 1 → n ≤ most_first)
unfolding handle_limit
handles_pass v n is = (grind (arith, is), λ first. grind (arith, is, first))

pub jobs_pass : (v n : ℕ) → is_miscounted v n ≡ false → (1 ≤ n) × ((n ≤ most_jobs) × (v ≡ 1 → n ≡ 1))
unfolding is_miscounted
jobs_pass v n is = (grind (arith, is), (grind (arith, is), λ first. grind (arith, is, first)))

pub slots_pass : (v slots n : ℕ) → lacks_slots v slots n ≡ false → v ≡ 2 → 0 < slots → n ≤ slots
unfolding lacks_slots
slots_pass v slots n is later some = grind (arith, is, later, some)

-- and back
pub version_none : (v : ℕ) → 1 ≤ v → v ≤ 2 → not (is_version v) ≡ false
unfolding is_version
version_none v some known = grind (arith, some, known)

pub buffers_none : (v n : ℕ) → n ≤ most_buffers → (v ≡ 1 → n ≤ most_first) → nat_lt (buffer_limit v) n ≡ false
unfolding buffer_limit
buffers_none v n few first = grind (arith, few, first)

pub handles_none : (v n : ℕ) → n ≤ most_handles → (v ≡ 1 → n ≤ most_first) → nat_lt (handle_limit v) n ≡ false
unfolding handle_limit
handles_none v n few first = grind (arith, few, first)

pub jobs_none : (v n : ℕ) → 1 ≤ n → n ≤ most_jobs → (v ≡ 1 → n ≡ 1) → is_miscounted v n ≡ false
unfolding is_miscounted
jobs_none v n some few first = grind (arith, some, few, first)

pub slots_none : (v slots n : ℕ) → (v ≡ 2 → 0 < slots → n ≤ slots) → lacks_slots v slots n ≡ false
unfolding lacks_slots
slots_none v slots n enough = grind (arith, enough)
