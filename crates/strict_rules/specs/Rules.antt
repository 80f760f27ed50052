-- The strict rules on shaders, each as a sentence about the instruction at i, and all in the order of refusal.
use Rattle.std.specs.{Prelude.ℕ, Prelude.◌+◌, Prelude.◌==◌, Prelude.Bool, Prelude.not, Prelude.◌&&◌, Prelude.◌||◌, Prelude.List, Prelude.[], Prelude.◌∷◌, Prelude.length, Prelude.nat_lt, Prelude.nat_le, List.list_any}
use Rattle.field_words.specs.Questions.{Question, Ask, each, with_answers}
use Rattle.qpu_isa.specs.Terms.{is_switch, writes_tmu, writes_s, loads}
use Rattle.shader_flow.specs.{Bounded.some_below, Flow.word, Flow.end_of, Flow.checked_of, Flow.is_target, Flow.is_threaded, Pending.takes}
use Rattle.strict_rules.specs.{declared.state.Request.Request, declared.rule.StrictRule.StrictRule, declared.rule.StrictFault.StrictFault}
use Rattle.strict_rules.specs.declared.rule.StrictRule.TheVariants.{SetupAtSwitch, SetupAtEnd, Requests, Stretch, LastThree, Coupled, Mutex}
use Rattle.strict_rules.specs.Words.{reads_address, uses_vpm, uses_tile, coupled_of}
use Rattle.strict_rules.specs.Queue.{keeps_words, queue_of, requests_of, slots_of, most_slots, most_requests, last_act}

-- a switch that acts while a TMU keeps setup words
unfoldable pub e1 : List ℕ → ℕ → Bool
e1 code i = is_switch (word code i) && keeps_words code (i + 3)

-- the program end, behind which a TMU keeps setup words
unfoldable pub e2 : List ℕ → ℕ → Bool
e2 code i = i == end_of code && keeps_words code (i + 3)

-- a target while a request is outstanding
unfoldable pub meets_requests : List ℕ → ℕ → Bool
meets_requests code i = is_target code i && nat_lt 0 (requests_of code i)

-- a load for which no request is outstanding
unfoldable pub loads_none : List ℕ → ℕ → ℕ → Bool
loads_none code tmu i = loads (word code i) tmu && length (queue_of code tmu i) == 0

-- a TMU write for which there is no slot
unfoldable pub lacks_slot : List ℕ → ℕ → Bool
lacks_slot code i = (writes_tmu (word code i) 0 || writes_tmu (word code i) 1) && nat_le (most_slots code) (slots_of code i)

-- a request for whose result there is no room
unfoldable pub lacks_room : List ℕ → ℕ → Bool
lacks_room code i = (writes_s (word code i) 0 || writes_s (word code i) 1) && nat_le (most_requests code) (requests_of code i)

-- the program end, behind which a request is outstanding
unfoldable pub leaves_requests : List ℕ → ℕ → Bool
leaves_requests code i = i == end_of code && nat_lt 0 (requests_of code (i + 3))

-- requests and loads don't match, or have no room
unfoldable pub e3 : List ℕ → ℕ → Bool
e3 code i =
    (meets_requests code i || (loads_none code 0 i || loads_none code 1 i))
    || (lacks_slot code i || (lacks_room code i || leaves_requests code i))

-- some request of the queue was sent before an instruction
abbrev pub has_older : ℕ → List Request → Bool
has_older i queue = list_any (λ r. nat_lt r.sent i) queue

-- a load of a request that no switch has acted after: the oldest was sent at or behind where the last switch acted
unfoldable pub loads_early : List ℕ → ℕ → ℕ → Bool
loads_early code tmu i =
    loads (word code i) tmu && (nat_lt 0 (length (queue_of code tmu i)) && not (has_older (last_act code i) (queue_of code tmu i)))

-- a switch that acts over a request which the one before has acted after already
unfoldable pub switches_late : List ℕ → ℕ → Bool
switches_late code i =
    is_switch (word code i)
    && (has_older (last_act code i) (queue_of code 0 (i + 3)) || has_older (last_act code i) (queue_of code 1 (i + 3)))

-- in a shader that switches, each request is loaded in the stretch that the next switch begins
unfoldable pub e4 : List ℕ → ℕ → Bool
e4 code i = is_threaded code && ((loads_early code 0 i || loads_early code 1 i) || switches_late code i)

-- one of the last three instructions takes a uniform, reads a varying (35), or uses the VPM
unfoldable pub e5 : List ℕ → ℕ → Bool
e5 code i = nat_le (end_of code) i && (takes code i || (reads_address (word code i) 35 || uses_vpm (word code i)))

-- more than one coupled access
unfoldable pub e6 : List ℕ → ℕ → Bool
e6 code i = nat_lt 1 (coupled_of (word code i))

-- the mutex is read
unfoldable pub e7 : List ℕ → ℕ → Bool
e7 code i = reads_address (word code i) 51

-- these rules in the order of their numbers
unfoldable pub index_questions : List ℕ → ℕ → List (Question StrictRule)
index_questions code i =
    Ask (e1 code i) SetupAtSwitch ∷ Ask (e2 code i) SetupAtEnd ∷ Ask (e3 code i) Requests ∷ Ask (e4 code i) Stretch
    ∷ Ask (e5 code i) LastThree ∷ Ask (e6 code i) Coupled ∷ Ask (e7 code i) Mutex ∷ []

-- a rule with the index where it is broken
unfoldable pub strict_at : ℕ → StrictRule → StrictFault
strict_at i rule = record { rule = rule; at = i }

-- all rules at all checked instructions, by index and then by number
unfoldable pub questions_at : List ℕ → ℕ → List (Question StrictFault)
questions_at code i = with_answers (strict_at i) (index_questions code i)

unfoldable pub strict_questions : List ℕ → List (Question StrictFault)
strict_questions code = each (questions_at code) 0 (checked_of code)

-- What only vertex and coordinate shaders may use, and what only fragment shaders may, at some checked instruction: E8 of each
-- shader that a record names.
unfoldable pub has_vpm_part : List ℕ → Bool
has_vpm_part code = some_below (checked_of code) (λ k. uses_vpm (word code k))

unfoldable pub has_tile_part : List ℕ → Bool
has_tile_part code = some_below (checked_of code) (λ k. uses_tile (word code k))

-- At the instruction a program may wait for ever, as requests and loads don't match or have no room; or it ends and leaves set-up words or
-- requests, whose room a later program lacks.
unfoldable pub waits_at : List ℕ → ℕ → Bool
waits_at code i = e2 code i || e3 code i

-- Is it so at the instruction at i? It is answered by i, and asked of each checked instruction.
unfoldable pub wait_question : List ℕ → ℕ → List (Question ℕ)
wait_question code i = Ask (waits_at code i) i ∷ []

unfoldable pub wait_questions : List ℕ → List (Question ℕ)
wait_questions code = each (wait_question code) 0 (checked_of code)
