-- Each slot's pages stay pages of the memory.
use Rattle.std.proofs.Common.{◌≡◌, ◌≤◌, ◌<◌, ◌+◌, ℕ, List, replicate, get_or, arith}
use Rattle.std.proofs.lemmas.List.{get_or-replicate}
use Rattle.session_pages.specs.Runs.{page_count}
use Rattle.job_session.specs.Desk.{SlotsFit, slot_count}

none_fits : (n slot : ℕ) → slot < n → get_or (replicate n 0) slot 0 + get_or (replicate n 0) slot 0 ≤ page_count
none_fits n slot inside = rw (get_or-replicate {A = ℕ} n slot 0 0 inside) (omega arith)

pub none_fit : (firsts counts : List ℕ) → firsts ≡ replicate slot_count 0 → counts ≡ replicate slot_count 0
    → SlotsFit firsts counts
none_fit firsts counts none zero = λ slot inside. rw (none, zero) (none_fits slot_count slot inside)
