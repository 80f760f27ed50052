-- What a thread runs, and what is known before each of its instructions.
use Rattle.std.specs.Prelude.{◌≡◌, ◌≢◌, ◌≤◌, ◌<◌, ℕ, ◌+◌, ◌-◌, ◌*◌, ◌%◌, ◌^◌, ◌⊎◌, true, false, List, length, Some, None}
use Rattle.field_words.specs.Questions.{first_of}
use Rattle.qpu_isa.specs.{Word.imm_of, Terms.is_branch, Terms.is_switch, Terms.is_end, Terms.is_address_write, Terms.target_of}
use Rattle.shader_flow.specs.{Flow.word, Flow.end_of, Flow.is_target, Flow.is_threaded, Pending.pending_of}
use Rattle.shader_check.specs.Rules.{shader_questions}
use Rattle.qpu_machine.specs.{declared.state.Mark.Mark, declared.state.Thread.Thread, declared.state.Fate.TheVariants.Ends, Wild.is_wild}
use Rattle.qpu_machine.specs.{Step.ThreadTurn, Step.turn_executed, Writes.awake}

-- A shader, where its words stand in memory, its stream of uniforms, and where that stands.
pub record Home : Type 0 where
  pub code : List ℕ
  pub place : ℕ
  pub words : List ℕ
  pub stream : ℕ

-- no rule of shaders is broken in it
abbrev pub HasNoFault : List ℕ → Type 0
HasNoFault code = first_of (shader_questions code) ≡ None

-- it is no branch, switch, program end or write of the uniforms' address
pub record IsQuiet (w : ℕ) : Type 0 where
  pub branch : is_branch w ≡ false
  pub switch : is_switch w ≡ false
  pub end : is_end w ≡ false
  pub address : is_address_write w ≡ false

-- The mark is that of the instruction k places before n, and says where that leads if it was a branch taken.
pub record IsExact (place : ℕ) (code : List ℕ) (n k : ℕ) (m : Mark) : Type 0 where
  pub back : k ≤ n
  pub is : m.word ≡ word code (n - k)
  pub leads : (p : ℕ) → m.to ≡ Some p → (is_branch m.word ≡ true) × (p ≡ (place + 8 * (n - k) + 32 + imm_of m.word) % 2 ^ 32)

-- the program begins there, or a branch may lead there
abbrev pub IsRoot : List ℕ → ℕ → Type 0
IsRoot code root = (root ≡ 0) ⊎ (is_target code root ≡ true)

-- The thread came to n from a root that is less than k places before it, and the mark says nothing.
pub record IsBlank (code : List ℕ) (n k : ℕ) (m : Mark) : Type 0 where
  pub root : ℕ
  pub is : IsRoot code root
  pub from : root ≤ n
  pub near : n < root + k
  pub quiet : IsQuiet m.word
  pub leads : m.to ≡ None

abbrev pub MarkIs : ℕ → List ℕ → ℕ → ℕ → Mark → Type 0
MarkIs place code n k m = IsExact place code n k m ⊎ IsBlank code n k m

-- The thread is about to execute the instruction at n: its place, its three marks, and whether it may switch.
pub record IsAt (h : Home) (n : ℕ) (t : Thread) : Type 0 where
  pub place : t.place ≡ h.place + 8 * n
  pub inside : n ≤ end_of h.code + 2
  pub threaded : t.threaded ≡ is_threaded h.code
  pub mark1 : MarkIs h.place h.code n 1 t.last1
  pub mark2 : MarkIs h.place h.code n 2 t.last2
  pub mark3 : MarkIs h.place h.code n 3 t.last3

-- A TMU keeps as many setup words as the rules say.
pub record ArePending (code : List ℕ) (n : ℕ) (t : Thread) : Type 0 where
  pub tmu0 : length t.setups0.items ≡ pending_of code 0 n
  pub tmu1 : length t.setups1.items ≡ pending_of code 1 n

-- The thread comes to `to` by a branch three places before, of which that is the target.
pub record Jumps (code : List ℕ) (n to : ℕ) : Type 0 where
  pub from : 3 ≤ n
  pub branch : is_branch (word code (n - 3)) ≡ true
  pub is : to ≡ target_of (word code (n - 3)) (n - 3)
  pub target : is_target code to ≡ true

-- It does so because the mark three back says so, and then no mark says that a branch was taken.
pub record Lands (code : List ℕ) (n to : ℕ) (t next : Thread) : Type 0 where
  pub jump : Jumps code n to
  pub led : ℕ
  pub led_is : t.last3.to ≡ Some led
  pub none1 : next.last1.to ≡ None
  pub none2 : next.last2.to ≡ None
  pub none3 : next.last3.to ≡ None

-- After the instruction at n the thread is at the next one, or at such a target.
pub record GoesTo (h : Home) (n : ℕ) (t next : Thread) : Type 0 where
  pub to : ℕ
  pub way : (to ≡ n + 1) ⊎ Lands h.code n to t next
  pub at : IsAt h to next

-- the shader's code ends below 4 GiB
abbrev pub IsLow : Home → Type 0
IsLow h = h.place + 8 * length h.code ≤ 2 ^ 32

-- the thread as it begins to work, with its uniform pointer there, and after the instruction, which took this uniform
abbrev pub thread_readied : ℕ → List ℕ → Thread → Thread
thread_readied uniforms words t = awake words (record t { uniforms = uniforms })

abbrev pub turn_done : ℕ → ℕ → ℕ → List ℕ → Thread → ThreadTurn
turn_done word uniform uniforms words t = turn_executed word uniform words (thread_readied uniforms words t)

-- The law that no instruction is undefined.
abbrev pub NeverWild : Type 0
NeverWild = (h : Home) (n : ℕ) (t : Thread) → HasNoFault h.code → IsAt h n t → ArePending h.code n t → is_wild t (word h.code n) ≡ false

-- The law that a thread stays at an instruction that is checked, with marks that say what it executed, until it ends.
abbrev pub StaysInCode : Type 0
StaysInCode =
    (h : Home) (n uniform uniforms : ℕ) (words : List ℕ) (t : Thread) → HasNoFault h.code → IsLow h → IsAt h n t
    → (turn_done (word h.code n) uniform uniforms words t).leaves.fate ≢ Ends
    → GoesTo h n t (turn_done (word h.code n) uniform uniforms words t).thread
