-- The rules on signals, branches and switches, each as a sentence about the instruction at i.
use Rattle.std.specs.Prelude.{ℕ, ◌+◌, ◌%◌, ◌==◌, Bool, not, ◌&&◌, ◌||◌, List, [], ◌∷◌, nat_lt}
use Rattle.field_words.specs.Questions.{Question, Ask}
use Rattle.qpu_isa.specs.Word.{sig_of, mode_of, imm_of, relative_of, register_of, waddr_add_of, waddr_mul_of}
use Rattle.qpu_isa.specs.Terms.{is_branch, is_switch, is_load_imm}
use Rattle.shader_flow.specs.Flow.{word, end_of, in_slots, after_switch, leads_outside}

-- a breakpoint, a coverage load, a colour load and end, or an alpha mask load: signals that no shader needs
unfoldable pub s3 : List ℕ → ℕ → Bool
s3 code i =
    (sig_of (word code i) == 0 || sig_of (word code i) == 7) || (sig_of (word code i) == 9 || sig_of (word code i) == 12)

-- a branch in the slots of a branch
unfoldable pub s4 : List ℕ → ℕ → Bool
s4 code i = is_branch (word code i) && in_slots code i

-- a branch whose target comes from a register
unfoldable pub s5 : List ℕ → ℕ → Bool
s5 code i = is_branch (word code i) && register_of (word code i)

-- a branch to an absolute place
unfoldable pub s6 : List ℕ → ℕ → Bool
s6 code i = is_branch (word code i) && not (relative_of (word code i))

-- a branch into the middle of an instruction
unfoldable pub s7 : List ℕ → ℕ → Bool
s7 code i = is_branch (word code i) && not (imm_of (word code i) % 8 == 0)

-- a branch to before the first instruction, or past the program end
unfoldable pub s8 : List ℕ → ℕ → Bool
s8 code i = is_branch (word code i) && (imm_of (word code i) % 8 == 0 && leads_outside code i)

-- a branch whose slots go past the program end
unfoldable pub s9 : List ℕ → ℕ → Bool
s9 code i = is_branch (word code i) && nat_lt (end_of code) (i + 4)

-- a branch that also writes
unfoldable pub s10 : List ℕ → ℕ → Bool
s10 code i = is_branch (word code i) && not (waddr_add_of (word code i) == 39 && waddr_mul_of (word code i) == 39)

-- a switch while a switch is on its way
unfoldable pub s11 : List ℕ → ℕ → Bool
s11 code i = is_switch (word code i) && after_switch code i

-- a branch while a switch is on its way
unfoldable pub s12 : List ℕ → ℕ → Bool
s12 code i = is_branch (word code i) && after_switch code i

-- a switch in a branch's slots, or one that acts after the program end
unfoldable pub s13 : List ℕ → ℕ → Bool
s13 code i = is_switch (word code i) && (in_slots code i || nat_lt (end_of code) (i + 3))

-- a load immediate in a mode that does not exist
unfoldable pub s27 : List ℕ → ℕ → Bool
s27 code i = is_load_imm (word code i) && not (mode_of (word code i) == 0 || (mode_of (word code i) == 1 || mode_of (word code i) == 3))

-- the rules on branches, and those on switches
unfoldable pub branch_questions : List ℕ → ℕ → List (Question ℕ)
branch_questions code i =
    Ask (s4 code i) 4 ∷ Ask (s5 code i) 5 ∷ Ask (s6 code i) 6 ∷ Ask (s7 code i) 7 ∷ Ask (s8 code i) 8 ∷ Ask (s9 code i) 9
    ∷ Ask (s10 code i) 10 ∷ Ask (s12 code i) 12 ∷ []

unfoldable pub switch_questions : List ℕ → ℕ → List (Question ℕ)
switch_questions code i = Ask (s11 code i) 11 ∷ Ask (s13 code i) 13 ∷ []

-- these rules in the order of their numbers
unfoldable pub flow_questions : List ℕ → ℕ → List (Question ℕ)
flow_questions code i =
    Ask (s3 code i) 3 ∷ Ask (s4 code i) 4 ∷ Ask (s5 code i) 5 ∷ Ask (s6 code i) 6 ∷ Ask (s7 code i) 7 ∷ Ask (s8 code i) 8
    ∷ Ask (s9 code i) 9 ∷ Ask (s10 code i) 10 ∷ Ask (s11 code i) 11 ∷ Ask (s12 code i) 12 ∷ Ask (s13 code i) 13
    ∷ Ask (s27 code i) 27 ∷ []
