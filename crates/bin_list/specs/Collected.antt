-- The states of a list while it is read: those that are done, the one in view, and those of the packets to come.
use Rattle.std.specs.Prelude.{ℕ, max, List, ◌∷◌, ◌++◌, Option, Some, None}
use Rattle.bin_list.specs.{declared.state.State.State, States.state, States.greatest, States.states_of}

abbrev pub with_index : ℕ → Option State → Option State
with_index index None = None
with_index index (Some s) = Some (state s.word (max s.max_index index))

abbrev pub states_to_come : Option State → List (List ℕ) → List State
states_to_come None later = states_of later
states_to_come (Some s) later = state s.word (max s.max_index (greatest later)) ∷ states_of later

abbrev pub all_states : List State → Option State → List (List ℕ) → List State
all_states done current later = done ++ states_to_come current later
