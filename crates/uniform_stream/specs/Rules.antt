-- The rules on the uniform stream and on TMU writes, each as a sentence about the instruction at i.
use Rattle.std.specs.Prelude.{ℕ, Bool, not, ◌&&◌, ◌||◌, List, [], ◌∷◌, nat_lt, nat_le}
use Rattle.field_words.specs.Questions.{Question, Ask}
use Rattle.qpu_isa.specs.Terms.{names_forbidden, is_relative_address_write, is_address_write, reads_uniform_of, writes_tmu, has_two_tmu_writes, has_conditional_tmu_write}
use Rattle.qpu_isa.specs.Setups.{has_setup}
use Rattle.shader_flow.specs.{Bounded.is_back, Flow.word, Flow.in_slots, Flow.is_target, Pending.pending_of, Pending.takes}
use Rattle.uniform_stream.specs.Stream.{is_known}

-- a register that reaches other units: TMU no-swap, host interrupt, alpha mask, VPM DMA address, mutex
unfoldable pub s14 : List ℕ → ℕ → Bool
s14 code i = names_forbidden (word code i)

-- an address of the uniforms that is relative to another element
unfoldable pub s15 : List ℕ → ℕ → Bool
s15 code i = is_relative_address_write (word code i)

-- an address write in a branch's slots
unfoldable pub s17 : List ℕ → ℕ → Bool
s17 code i = is_address_write (word code i) && in_slots code i

-- an address write stands one or two before
unfoldable pub after_address_write : List ℕ → ℕ → Bool
after_address_write code i =
    is_back i 1 (λ k. is_address_write (word code k)) || is_back i 2 (λ k. is_address_write (word code k))

-- a uniform taken before a new address is in force
unfoldable pub s18 : List ℕ → ℕ → Bool
s18 code i = takes code i && after_address_write code i

-- a uniform taken, by no address write, where the stream's position isn't known
unfoldable pub s19 : List ℕ → ℕ → Bool
s19 code i = takes code i && (not (is_address_write (word code i)) && not (is_known code i))

-- both units write a TMU
unfoldable pub s20 : List ℕ → ℕ → Bool
s20 code i = has_two_tmu_writes (word code i)

-- a TMU write that isn't done always
unfoldable pub s21 : List ℕ → ℕ → Bool
s21 code i = has_conditional_tmu_write (word code i)

-- a write of the TMU finds four setup words
unfoldable pub is_full : List ℕ → ℕ → ℕ → Bool
is_full code i tmu = writes_tmu (word code i) tmu && nat_le 4 (pending_of code tmu i)

unfoldable pub s22 : List ℕ → ℕ → Bool
s22 code i = is_full code i 0 || is_full code i 1

-- a setup write in an instruction that reads a uniform
unfoldable pub s23 : List ℕ → ℕ → Bool
s23 code i = has_setup (word code i) (pending_of code 0 i) (pending_of code 1 i) && reads_uniform_of (word code i)

-- a target while a TMU keeps setup words
unfoldable pub s25 : List ℕ → ℕ → Bool
s25 code i = is_target code i && (nat_lt 0 (pending_of code 0 i) || nat_lt 0 (pending_of code 1 i))

-- the rules that can be broken at an instruction that writes registers alone
unfoldable pub quiet_questions : List ℕ → ℕ → List (Question ℕ)
quiet_questions code i = Ask (s18 code i) 18 ∷ Ask (s19 code i) 19 ∷ Ask (s25 code i) 25 ∷ []

-- These rules in the order of their numbers. Past the checked instructions those on the word alone can still be broken; the
-- checker asks checked instructions alone.
unfoldable pub stream_questions : List ℕ → ℕ → List (Question ℕ)
stream_questions code i =
    Ask (s14 code i) 14 ∷ Ask (s15 code i) 15 ∷ Ask (s17 code i) 17 ∷ Ask (s18 code i) 18 ∷ Ask (s19 code i) 19
    ∷ Ask (s20 code i) 20 ∷ Ask (s21 code i) 21 ∷ Ask (s22 code i) 22 ∷ Ask (s23 code i) 23 ∷ Ask (s25 code i) 25 ∷ []
