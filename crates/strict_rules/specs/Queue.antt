-- The requests that a shader has sent to the TMUs and not loaded, its instructions taken in the order of their indexes.
use Rattle.std.specs.Prelude.{ℕ, zero, suc, ◌+◌, ◌-◌, Bool, ◌||◌, List, [], ◌∷◌, ◌++◌, length, drop, map, sum, nat_lt, if◌then◌else◌, Option, None, Some}
use Rattle.qpu_isa.specs.Terms.{is_switch, writes_s, loads}
use Rattle.shader_flow.specs.{Bounded.last_below, Flow.word, Flow.checked_of, Flow.is_threaded, Pending.pending_of}
use Rattle.strict_rules.specs.{declared.state.Request.Request}

-- a TMU keeps setup words before the instruction at i
unfoldable pub keeps_words : List ℕ → ℕ → Bool
keeps_words code i = nat_lt 0 (pending_of code 0 i) || nat_lt 0 (pending_of code 1 i)

-- the request of a TMU that a write of its S at i sends; its slots are that write and the words that the TMU keeps before it
unfoldable pub request_at : List ℕ → ℕ → ℕ → Request
request_at code tmu i = record { sent = i; slots = pending_of code tmu i + 1 }

-- what an instruction leaves of a queue: a load takes the oldest request, if there is one, and then a write of S appends its own
unfoldable pub queue_after : ℕ → ℕ → Request → List Request → List Request
queue_after word tmu request queue =
    (if loads word tmu then drop 1 queue else queue) ++ (if writes_s word tmu then request ∷ [] else [])

-- the requests of a TMU that are outstanding before the instruction at i, oldest first
unfoldable pub queue_of : List ℕ → ℕ → ℕ → List Request
queue_of code tmu zero = []
queue_of code tmu (suc i) =
    if nat_lt i (checked_of code) then queue_after (word code i) tmu (request_at code tmu i) (queue_of code tmu i) else queue_of code tmu i

-- those of both TMUs
unfoldable pub requests_of : List ℕ → ℕ → ℕ
requests_of code i = length (queue_of code 0 i) + length (queue_of code 1 i)

-- their slots, and those of the words that are kept
abbrev pub slots_in : List Request → ℕ
slots_in queue = sum (map (λ r. r.slots) queue)

unfoldable pub slots_of : List ℕ → ℕ → ℕ
slots_of code i = (slots_in (queue_of code 0 i) + slots_in (queue_of code 1 i)) + (pending_of code 0 i + pending_of code 1 i)

-- A processor's room: 8 slots and the results of 4 requests, of which a shader that switches may use half.
unfoldable pub most_slots : List ℕ → ℕ
most_slots code = if is_threaded code then 4 else 8

unfoldable pub most_requests : List ℕ → ℕ
most_requests code = if is_threaded code then 2 else 4

-- where a switch acts
abbrev pub acts_at : Option ℕ → ℕ
acts_at None = 0
acts_at (Some s) = s + 3

-- where the last switch up to i acts, one at s at s + 3; 0 where none does
unfoldable pub last_act : List ℕ → ℕ → ℕ
last_act code i = acts_at (last_below (i - 2) (λ s. is_switch (word code s)))
