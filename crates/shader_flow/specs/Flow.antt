-- Where a shader may go: its end, its checked instructions, and the targets of its branches. A shader is its list of words.
use Rattle.std.specs.Prelude.{◌≡◌, ◌≤◌, ◌<◌, ℕ, suc, ◌+◌, ◌%◌, ◌==◌, Bool, false, not, ◌&&◌, ◌||◌, List, [], ◌∷◌, length, min, nat_lt, slice_index, slice_index_or, if◌then◌else◌}
use Rattle.field_words.specs.Sizes.{most_words}
use Rattle.qpu_isa.specs.{Word.imm_of, Word.relative_of, Word.register_of, Terms.is_end, Terms.is_branch, Terms.is_switch, Terms.target_of}
use Rattle.shader_flow.specs.{declared.state.Flow.Flow, Bounded.some_below, Bounded.is_back}

-- the instruction at an index
abbrev pub word : List ℕ → ℕ → ℕ
word code i = slice_index code i

-- the index of the first program end, or the number of words where there is none
unfoldable pub end_of : List ℕ → ℕ
end_of [] = 0
end_of (first ∷ later) = if is_end first then 0 else suc (end_of later)

-- How many instructions are checked: those up to the program end, and the two after it, which it still executes.
unfoldable pub checked_of : List ℕ → ℕ
checked_of code = min (length code) (end_of code + 3)

-- the three instructions after a branch are executed before it acts; they are its slots
unfoldable pub in_slots : List ℕ → ℕ → Bool
in_slots code i =
    is_back i 1 (λ k. is_branch (word code k)) || (is_back i 2 (λ k. is_branch (word code k)) || is_back i 3 (λ k. is_branch (word code k)))

-- a switch acts after two further instructions
unfoldable pub after_switch : List ℕ → ℕ → Bool
after_switch code i = is_back i 1 (λ k. is_switch (word code k)) || is_back i 2 (λ k. is_switch (word code k))

-- a branch at i leads to past the program end; one that leads to before the first instruction has such a target too
unfoldable pub leads_outside : List ℕ → ℕ → Bool
leads_outside code i = nat_lt (end_of code) (target_of (word code i) i)

-- a branch whose target is known: relative, by no register, to a whole instruction inside the program
unfoldable pub is_sound_branch : List ℕ → ℕ → Bool
is_sound_branch code i =
    (is_branch (word code i) && (relative_of (word code i) && not (register_of (word code i))))
    && (imm_of (word code i) % 8 == 0 && not (leads_outside code i))

-- a sound branch at b makes i a target: it leads there, or its slots end there
unfoldable pub makes_target : List ℕ → ℕ → ℕ → Bool
makes_target code b i = is_sound_branch code b && (i == b + 4 || i == target_of (word code b) b)

-- execution may come to i otherwise than from the instruction before it, by a branch before the program end
unfoldable pub is_target : List ℕ → ℕ → Bool
is_target code i = some_below (end_of code) (λ b. makes_target code b i)

-- the marks are those of before, and one for each index of which the test is true
abbrev pub AddsMarks : List Bool → List Bool → (ℕ → Bool) → Type 0
AddsMarks old new test = (i : ℕ) → i < length old → slice_index_or new i false ≡ (slice_index_or old i false || test i)

-- a checked instruction is a switch, so two threads share the processor
unfoldable pub is_threaded : List ℕ → Bool
is_threaded code = some_below (checked_of code) (λ k. is_switch (word code k))

-- the shader has at most 8,192 words, and its program end is at this index
pub record EndsAt (code : List ℕ) (end : ℕ) : Type 0 where
  pub few : length code ≤ most_words
  pub last : end ≡ end_of code

-- What `flow` keeps of a shader of at most 8,192 words: its program end, a mark for each target from 0 to the number of words,
-- and whether it switches threads.
pub record IsFlow (code : List ℕ) (flow : Flow) : Type 0 where
  pub ends : EndsAt code flow.end
  pub size : length flow.targets.items ≡ length code + 1
  pub marks : (i : ℕ) → i ≤ length code → slice_index_or flow.targets.items i false ≡ is_target code i
  pub threaded_is : flow.threaded ≡ is_threaded code
