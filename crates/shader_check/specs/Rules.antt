-- The rules on facts and on the whole shader, and all rules in the order of refusal.
use Rattle.std.specs.Prelude.{ℕ, ◌+◌, ◌*◌, ◌==◌, Bool, not, ◌&&◌, ◌||◌, List, [], ◌∷◌, ◌++◌, length, nat_le}
use Rattle.field_words.specs.Questions.{Question, Ask, each, with_answers}
use Rattle.qpu_isa.specs.Terms.{add_names, has_small, is_address_write, is_add_packed, is_add_with_uniform, first_register, passes, reads_upper, names_upper}
use Rattle.qpu_isa.specs.{Word.sig_of, Word.ws_of, Word.cond_add_of, Setups.adds_direct, Setups.muls_direct}
use Rattle.shader_flow.specs.Rules.{s3, s4, s5, s6, s7, s8, s9, s10, s11, s12, s13, s27}
use Rattle.shader_flow.specs.{Bounded.some_below, Flow.word, Flow.end_of, Flow.checked_of, Flow.is_threaded}
use Rattle.shader_flow.specs.Pending.{pending_of, count_of}
use Rattle.uniform_stream.specs.Rules.{s14, s15, s17, s18, s19, s20, s21, s22, s23, s25}
use Rattle.clamp_facts.specs.Facts.{is_immediate, is_clamped}
use Rattle.shader_check.specs.declared.fault.ShaderFault.{ShaderFault}

-- none, scoreboard unlock, colour load, or a load from a TMU: signals under which the sum is what the add unit writes
unfoldable pub has_quiet_signal : ℕ → Bool
has_quiet_signal word =
    (sig_of word == 1 || sig_of word == 5) || (sig_of word == 8 || (sig_of word == 10 || sig_of word == 11))

-- the add unit, always and not packed, writes its sum to the uniforms' address on the A side
unfoldable pub adds_address : ℕ → Bool
adds_address word = (not (ws_of word) && add_names word 40) && (cond_add_of word == 1 && not (is_add_packed word))

-- the first operand of the add unit is a register that holds the value, or one for which a clamp holds
abbrev pub adds_value : List ℕ → ℕ → ℕ → Bool
adds_value code i value = passes (first_register (word code i)) (λ reg. is_immediate code i reg value)

abbrev pub adds_clamped : List ℕ → ℕ → Bool
adds_clamped code i = passes (first_register (word code i)) (is_clamped code i)

-- The new address is that of a word of the stream: the uniform taken here, which holds the stream's place, and four bytes for
-- each word up to the one taken here.
unfoldable pub is_exact_address_write : List ℕ → ℕ → Bool
is_exact_address_write code i =
    (is_add_with_uniform (word code i) && has_quiet_signal (word code i))
    && (adds_address (word code i) && adds_value code i (4 * (count_of code i + 1)))

-- an address write that isn't exact
unfoldable pub s16 : List ℕ → ℕ → Bool
s16 code i = is_address_write (word code i) && not (is_exact_address_write code i)

-- the add unit's, or the multiply unit's, write of either TMU's S is direct
unfoldable pub direct_by_add : List ℕ → ℕ → Bool
direct_by_add code i = adds_direct (word code i) 0 (pending_of code 0 i) || adds_direct (word code i) 1 (pending_of code 1 i)

unfoldable pub direct_by_mul : List ℕ → ℕ → Bool
direct_by_mul code i = muls_direct (word code i) 0 (pending_of code 0 i) || muls_direct (word code i) 1 (pending_of code 1 i)

-- the address is a uniform, a buffer's place, and a number clamped by another uniform
unfoldable pub is_clamped_write : List ℕ → ℕ → Bool
is_clamped_write code i =
    (is_add_with_uniform (word code i) && (not (has_small (word code i)) && not (is_add_packed (word code i))))
    && adds_clamped code i

-- a direct write that isn't clamped
unfoldable pub s24 : List ℕ → ℕ → Bool
s24 code i = (direct_by_add code i && not (is_clamped_write code i)) || direct_by_mul code i

-- no words
unfoldable pub s1 : List ℕ → Bool
s1 code = length code == 0

-- no program end with its two further instructions
unfoldable pub s2 : List ℕ → Bool
s2 code = nat_le (length code) (end_of code + 2)

-- the instruction reads or writes the upper half of a file, registers 16 to 31
unfoldable pub uses_upper : ℕ → Bool
uses_upper word = reads_upper word || names_upper word

-- the upper half of a file in a shader that switches threads, since there it is the other thread's
unfoldable pub s26 : List ℕ → Bool
s26 code = is_threaded code && some_below (checked_of code) (λ k. uses_upper (word code k))

-- the rules on facts at the instruction at i
unfoldable pub fact_questions : List ℕ → ℕ → List (Question ℕ)
fact_questions code i = Ask (s16 code i) 16 ∷ Ask (s24 code i) 24 ∷ []

-- all rules on the instruction at i, in the order of their numbers
unfoldable pub index_questions : List ℕ → ℕ → List (Question ℕ)
index_questions code i =
    Ask (s3 code i) 3 ∷ Ask (s4 code i) 4 ∷ Ask (s5 code i) 5 ∷ Ask (s6 code i) 6 ∷ Ask (s7 code i) 7 ∷ Ask (s8 code i) 8
    ∷ Ask (s9 code i) 9 ∷ Ask (s10 code i) 10 ∷ Ask (s11 code i) 11 ∷ Ask (s12 code i) 12 ∷ Ask (s13 code i) 13
    ∷ Ask (s14 code i) 14 ∷ Ask (s15 code i) 15 ∷ Ask (s16 code i) 16 ∷ Ask (s17 code i) 17 ∷ Ask (s18 code i) 18
    ∷ Ask (s19 code i) 19 ∷ Ask (s20 code i) 20 ∷ Ask (s21 code i) 21 ∷ Ask (s22 code i) 22 ∷ Ask (s23 code i) 23
    ∷ Ask (s24 code i) 24 ∷ Ask (s25 code i) 25 ∷ Ask (s27 code i) 27 ∷ []

-- the rules on the whole shader
unfoldable pub whole_questions : List ℕ → List (Question ℕ)
whole_questions code = Ask (s1 code) 1 ∷ Ask (s2 code) 2 ∷ Ask (s26 code) 26 ∷ []

-- a rule's number with the index where it is broken
unfoldable pub fault_at : ℕ → ℕ → ShaderFault
fault_at i number = record { number = number; index = i }

-- the questions of one instruction, and all rules in the order of refusal: by index, then by number; the rules on the whole
-- shader stand past its last word
unfoldable pub questions_at : List ℕ → ℕ → List (Question ShaderFault)
questions_at code i = with_answers (fault_at i) (index_questions code i)

unfoldable pub shader_questions : List ℕ → List (Question ShaderFault)
shader_questions code = each (questions_at code) 0 (checked_of code) ++ with_answers (fault_at (length code)) (whole_questions code)
