-- One instruction of a thread: when it may be executed, and what it does.
use Rattle.std.specs.Prelude.{ℕ, ◌+◌, ◌==◌, ◌&&◌, ◌||◌, not, Bool, nat_le, if◌then◌else◌, List, length, Option, option_map}
use Rattle.std.specs.Int.{from_le_bytes, w64}
use Rattle.field_words.specs.Words.{u32_at}
use Rattle.qpu_isa.specs.Terms.{writes_s, loads}
use Rattle.machine_plan.specs.{Plan.Plan, Plan.Done, Plan.Wilds, Plan.Reads, Glance.Glance, Glance.Now, Glance.At}
use Rattle.qpu_machine.specs.{State.Leaves, State.Thread, Operands.add_row, Operands.mul_row, Wild.takes_one, Wild.is_wild}
use Rattle.qpu_machine.specs.Writes.{awake, past_uniform, after_work, fate_of, after_rest, ask_made}

-- what an instruction comes to: the thread after it, a request that it made, and the thread's fate
pub record ThreadTurn : Type 0 where
  pub thread : Thread
  pub leaves : Leaves

abbrev pub turn_of : Thread → Leaves → ThreadTurn
turn_of thread leaves = record { thread = thread; leaves = leaves }

-- what an instruction comes to that may be undefined
abbrev pub turn_taken : Thread → Option Leaves → Option ThreadTurn
turn_taken thread leaves = option_map (turn_of thread) leaves

-- The instruction executed, by what the two units came to. Both computed with what the registers held
-- before.
unfoldable pub executed_with : ℕ → ℕ → List ℕ → List ℕ → List ℕ → Thread → ThreadTurn
executed_with word uniform sum product words t = record {
  thread = after_rest (fate_of t) (after_work word uniform sum product words t);
  leaves = record { asked = ask_made word uniform sum product t; fate = fate_of t };
}

-- the instruction executed, with the uniform that it took; one that takes none is handed 0
unfoldable pub turn_executed : ℕ → ℕ → List ℕ → Thread → ThreadTurn
turn_executed word uniform words t = executed_with word uniform (add_row t word uniform words) (mul_row t word uniform words) words t

-- An undefined instruction does nothing more. Else the thread takes its uniform, and then works.
unfoldable pub word_plan : Thread → ℕ → List ℕ → Plan ThreadTurn
word_plan t word words =
    if is_wild t word then Wilds
    else (if takes_one t word then Reads t.uniforms 4 (λ bytes. Done (turn_executed word (u32_at bytes 0) words (awake words (past_uniform t))))
    else Done (turn_executed word 0 words (awake words t)))

-- The thread reads the instruction at its place.
unfoldable pub thread_plan : Thread → List ℕ → Plan ThreadTurn
thread_plan t words = Reads t.place 8 (λ bytes. word_plan t (from_le_bytes w64 bytes) words)

-- An instruction is held up where it loads from a TMU without a finished result, or sends to one that
-- has eight requests and results of this thread. `queued` are its requests in that TMU's queue.
unfoldable pub is_held_by : ℕ → ℕ → ℕ → ℕ → Bool
is_held_by word tmu queued finished = (loads word tmu && finished == 0) || (writes_s word tmu && nat_le 8 (queued + finished))

unfoldable pub is_held : Thread → ℕ → ℕ → ℕ → Bool
is_held t word queued0 queued1 = is_held_by word 0 queued0 (length t.results0.items) || is_held_by word 1 queued1 (length t.results1.items)

-- it looks at the instruction, which is no access
unfoldable pub thread_ready : Thread → ℕ → ℕ → Glance Bool
thread_ready t queued0 queued1 = At t.place 8 (λ bytes. Now (not (is_held t (from_le_bytes w64 bytes) queued0 queued1)))
