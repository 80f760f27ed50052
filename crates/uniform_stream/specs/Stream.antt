-- Where the uniform stream stands, and what is written to its address.
use Rattle.std.specs.Prelude.{◌≡◌, ◌<◌, ℕ, ◌+◌, ◌==◌, Bool, false, not, ◌&&◌, ◌||◌, List, [], ◌∷◌, ◌++◌, map, length, slice_index, slice_index_or, nat_lt, if◌then◌else◌}
use Rattle.qpu_isa.specs.Terms.{is_address_write, is_backward}
use Rattle.shader_flow.specs.{Bounded.some_below, Bounded.some_in, Bounded.is_back, Bounded.indexes, Pending.count_of, Pending.pending_of, Flow.word, Flow.checked_of, Flow.is_target}
use Rattle.uniform_stream.specs.declared.state.Stream.{Stream}

-- a checked instruction writes the address of the uniforms
unfoldable pub writes_address : List ℕ → ℕ → Bool
writes_address code i = nat_lt i (checked_of code) && is_address_write (word code i)

-- the stream begins anew at the first instruction and after each write of its address
unfoldable pub is_restart : List ℕ → ℕ → Bool
is_restart code i = i == 0 || is_back i 1 (writes_address code)

-- The stream's position at i is known: from some restart on, up to i, execution comes from nowhere else.
unfoldable pub is_known : List ℕ → ℕ → Bool
is_known code i = some_below (i + 1) (λ r. is_restart code r && not (some_in r (i + 1) (is_target code)))

-- a backward branch, and no write of the address after its slots
unfoldable pub leaves_open : List ℕ → ℕ → Bool
leaves_open code b = is_backward (word code b) && not (some_in (b + 4) (checked_of code) (writes_address code))

-- Some backward branch has no write of the address after its slots. So the stream could be read on past its end, and its last
-- word says where it begins.
unfoldable pub is_open : List ℕ → Bool
is_open code = some_below (checked_of code) (leaves_open code)

-- the words of the stream that hold its own address: those that address writes take, and one at the end where it is open
unfoldable pub address_words_of : List ℕ → List ℕ
address_words_of code =
    map (count_of code) (indexes (checked_of code) (writes_address code)) ++ (if is_open code then count_of code (length code) ∷ [] else [])

-- how many words the stream has
unfoldable pub uniforms_of : List ℕ → ℕ
uniforms_of code = count_of code (length code) + (if is_open code then 1 else 0)

-- The uniforms taken and the setup words pending before so many instructions, these address words, and whether the position is known at
-- so many.
pub record IsFilled (code : List ℕ) (counted known : ℕ) (words : List ℕ) (stream : Stream) : Type 0 where
  pub counts_size : length stream.counts.items ≡ counted
  pub counts_are : (i : ℕ) → i < counted → slice_index stream.counts.items i ≡ count_of code i
  pub pending0_size : length stream.pending0.items ≡ counted
  pub pending0_are : (i : ℕ) → i < counted → slice_index stream.pending0.items i ≡ pending_of code 0 i
  pub pending1_size : length stream.pending1.items ≡ counted
  pub pending1_are : (i : ℕ) → i < counted → slice_index stream.pending1.items i ≡ pending_of code 1 i
  pub address_words_are : stream.address_words.items ≡ words
  pub known_size : length stream.known.items ≡ known
  pub known_are : (i : ℕ) → i < known → slice_index_or stream.known.items i false ≡ is_known code i

-- what `stream` keeps: the counts from 0 to the number of words, the address words, and what is known at each instruction
abbrev pub IsStream : List ℕ → Stream → Type 0
IsStream code stream = IsFilled code (length code + 1) (length code) (address_words_of code) stream
