-- What follows where no rule of a list is broken.
use Rattle.std.proofs.Common.{◌≡◌, ℕ, ◌+◌, ◌*◌, ◌<◌, ◌≤◌, Bool, true, false, List, [], ◌∷◌, Option, Some, None, length, refl, sym, ap, arith, ◌∙◌}
use Rattle.std.proofs.{lemmas.List.Elements.All-cons, lemmas.Bool.eqb-true}
use Rattle.std.specs.Prelude.{if◌then◌else◌, ◌==◌, All, slice_index}
use Rattle.field_words.specs.{Words.u32_at, Questions.first_of, Questions.with_answers}
use Rattle.field_words.proofs.{Questions.none_broken, Nones.front_none, Nones.rest_none, Nones.none_answered}
use Rattle.packets.specs.Opcode.{start_tile_binning, gl_shader_state, tile_binning_mode}
use Rattle.tile_memory.specs.Slots.{slot_fits}
use Rattle.bin_list.specs.Rules.{GivenModel, cut_questions, kind_questions, start_questions, state_questions, config_questions, packet_questions, questions_of_packets}
use Rattle.bin_list.specs.{declared.seen.Seen.Seen, declared.state.State.State, Packets.opcode, Packets.onto, Faults.fault}
use Rattle.bin_list.specs.Seen.{latest, is_there, byte_of, states_in, seen_before}
use Rattle.bin_list.specs.States.{greatest, state, states_of}

-- Where no rule of the list is broken, none of a front of it is.
pub onto_none : (given : GivenModel) (earlier later : List (List ℕ)) → first_of (questions_of_packets given (onto earlier later)) ≡ None → first_of (questions_of_packets given earlier) ≡ None
onto_none given earlier [] none = none
onto_none given earlier (p ∷ later) none =
    front_none (questions_of_packets given earlier) _ (onto_none given (p ∷ earlier) later none)

-- so at each packet
pub packet_none : (given : GivenModel) (earlier : List (List ℕ)) (p : List ℕ) → first_of (questions_of_packets given (p ∷ earlier)) ≡ None
    → first_of (packet_questions given (seen_before earlier) p) ≡ None
packet_none given earlier p none =
    none_answered (fault _) (packet_questions given (seen_before earlier) p) (rest_none (questions_of_packets given earlier) (with_answers (fault _) (packet_questions given (seen_before earlier) p)) none)

pub kind_none : (given : GivenModel) (seen : Seen) (p : List ℕ) → first_of (packet_questions given seen p) ≡ None → first_of (kind_questions given seen p) ≡ None
unfolding packet_questions
kind_none given seen p none = rest_none (cut_questions p) (kind_questions given seen p) none

-- the rules of three kinds
kind_start : (given : GivenModel) (seen : Seen) (p : List ℕ) → opcode p ≡ start_tile_binning → kind_questions given seen p ≡ start_questions seen
unfolding kind_questions
kind_start given seen p is = rw is refl

kind_state : (given : GivenModel) (seen : Seen) (p : List ℕ) → opcode p ≡ gl_shader_state → kind_questions given seen p ≡ state_questions given seen p
unfolding kind_questions
kind_state given seen p is = rw is refl

pub kind_config : (given : GivenModel) (seen : Seen) (p : List ℕ) → opcode p ≡ tile_binning_mode → kind_questions given seen p ≡ config_questions seen p
unfolding kind_questions
kind_config given seen p is = rw is refl

pub start_fine : (given : GivenModel) (seen : Seen) (p : List ℕ) → first_of (packet_questions given seen p) ≡ None → opcode p ≡ start_tile_binning → seen.configured ≡ true
unfolding start_questions
start_fine given seen p none is =
    let asked = none_broken (start_questions seen) (sym (ap first_of (kind_start given seen p is)) ∙ kind_none given seen p none) in
    grind (arith, asked.1.0)

pub state_fine : (given : GivenModel) (seen : Seen) (p : List ℕ) → first_of (packet_questions given seen p) ≡ None → opcode p ≡ gl_shader_state
    → (seen.states < given.declared) × (u32_at p 1 < 16)
unfolding state_questions
state_fine given seen p none is =
    let asked = none_broken (state_questions given seen p) (sym (ap first_of (kind_state given seen p is)) ∙ kind_none given seen p none) in
    (grind (arith, asked.0), grind (arith, asked.1.0))

pub record IsGrid (across down : ℕ) : Type 0 where
  pub some_across : 1 ≤ across
  pub some_down : 1 ≤ down
  pub room : slot_fits (across * down) ≡ true

pub config_fine : (given : GivenModel) (seen : Seen) (p : List ℕ) → first_of (packet_questions given seen p) ≡ None → opcode p ≡ tile_binning_mode
    → IsGrid (slice_index p 13) (slice_index p 14)
unfolding config_questions
config_fine given seen p none is =
    let asked = none_broken (config_questions seen p) (sym (ap first_of (kind_config given seen p is)) ∙ kind_none given seen p none) in
    record { some_across = grind (arith, asked.1.0); some_down = grind (arith, asked.1.0); room = grind (arith, asked.1.1.1.0) }

-- The states: no more than declared, each with a word below 16.
count_if : (b : Bool) (n declared : ℕ) → n ≤ declared → (b ≡ true → n < declared) → (if b then n + 1 else n) ≤ declared
count_if true n declared few less = let l = less refl in omega arith
count_if false n declared few less = few

pub few_states : (given : GivenModel) (earlier : List (List ℕ)) → first_of (questions_of_packets given earlier) ≡ None → states_in earlier ≤ given.declared
unfolding seen_before
few_states given [] none = omega arith
few_states given (p ∷ earlier) none =
    count_if (opcode p == gl_shader_state) (states_in earlier) given.declared
    (few_states given earlier (onto_none given earlier (p ∷ []) none))
    (λ is. (state_fine given (seen_before earlier) p (packet_none given earlier p none) (eqb-true (opcode p) gl_shader_state is)).0)

counted_if : (b : Bool) (n m : ℕ) (s : State) (ss : List State) → m ≡ (if b then n + 1 else n) + length ss → m ≡ n + length (if b then s ∷ ss else ss)
counted_if true n m s ss is = omega arith
counted_if false n m s ss is = is

-- the list of the states has as many as were counted
pub counted : (earlier later : List (List ℕ)) → states_in (onto earlier later) ≡ states_in earlier + length (states_of later)
counted earlier [] = omega arith
counted earlier (p ∷ later) =
    counted_if (opcode p == gl_shader_state) (states_in earlier) (states_in (onto (p ∷ earlier) later)) (state (u32_at p 1) (greatest later)) (states_of later)
    (counted (p ∷ earlier) later)

all_if : (P : State → Type 0) (b : Bool) (s : State) (ss : List State) → (b ≡ true → P s) → All P ss → All P (if b then s ∷ ss else ss)
all_if P true s ss here rest = All-cons P s ss (here refl) rest
all_if P false s ss here rest = rest

pub low_words : (given : GivenModel) (earlier later : List (List ℕ)) → first_of (questions_of_packets given (onto earlier later)) ≡ None → All (λ s. s.word < 16) (states_of later)
low_words given earlier [] none = λ k d below. absurd (omega arith)
low_words given earlier (p ∷ later) none =
    all_if (λ s. s.word < 16) (opcode p == gl_shader_state) (state (u32_at p 1) (greatest later)) (states_of later)
    (λ is. (state_fine given (seen_before earlier) p (packet_none given earlier p (onto_none given (p ∷ earlier) later none)) (eqb-true (opcode p) gl_shader_state is)).1)
    (low_words given (p ∷ earlier) later none)

-- The grid: where there was a configuration, it is that of the last one.
grid_if : (b : Bool) (p : List ℕ) (o : Option (List ℕ)) → (b ≡ true → IsGrid (slice_index p 13) (slice_index p 14))
    → (is_there o ≡ true → IsGrid (byte_of 13 o) (byte_of 14 o))
    → is_there (if b then Some p else o) ≡ true → IsGrid (byte_of 13 (if b then Some p else o)) (byte_of 14 (if b then Some p else o))
grid_if true p o here before there = here refl
grid_if false p o here before there = before there

pub has_grid : (given : GivenModel) (earlier : List (List ℕ)) → first_of (questions_of_packets given earlier) ≡ None → is_there (latest tile_binning_mode earlier) ≡ true
    → IsGrid (byte_of 13 (latest tile_binning_mode earlier)) (byte_of 14 (latest tile_binning_mode earlier))
has_grid given [] none there = cc
has_grid given (p ∷ earlier) none there =
    grid_if (opcode p == tile_binning_mode) p (latest tile_binning_mode earlier)
    (λ is. config_fine given (seen_before earlier) p (packet_none given earlier p none) (eqb-true (opcode p) tile_binning_mode is))
    (has_grid given earlier (onto_none given earlier (p ∷ []) none)) there

-- A start has a configuration before it, which is still there later.
there_later : (b : Bool) (p : List ℕ) (o : Option (List ℕ)) → is_there o ≡ true → is_there (if b then Some p else o) ≡ true
there_later true p o there = refl
there_later false p o there = there

start_if : (b : Bool) (p : List ℕ) (o : Option (List ℕ)) (T : Type 0) → (b ≡ true → T) → (is_there o ≡ true → T) → is_there (if b then Some p else o) ≡ true → T
start_if true p o T here before there = here refl
start_if false p o T here before there = before there

pub configured : (given : GivenModel) (earlier : List (List ℕ)) → first_of (questions_of_packets given earlier) ≡ None → is_there (latest start_tile_binning earlier) ≡ true
    → is_there (latest tile_binning_mode earlier) ≡ true
unfolding seen_before
configured given [] none there = cc
configured given (p ∷ earlier) none there =
    there_later (opcode p == tile_binning_mode) p (latest tile_binning_mode earlier)
    (start_if (opcode p == start_tile_binning) p (latest start_tile_binning earlier) (is_there (latest tile_binning_mode earlier) ≡ true)
    (λ is. start_fine given (seen_before earlier) p (packet_none given earlier p none) (eqb-true (opcode p) start_tile_binning is))
    (configured given earlier (onto_none given earlier (p ∷ []) none)) there)
