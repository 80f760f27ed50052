-- What the hardware's guide forbids a thread of a shader processor, said of a state of the machine and of an event in it.
--
-- What a state doesn't show has no case, and is said of all that happened before: that a load takes the oldest request that its processor
-- sent to the TMU (`Order`), how many of the processor's slots its requests fill, as none keeps how many words made it (`Slots`), and that a
-- thread uses nothing of programs of the other kind, as none keeps which it is (`Roles`).
use Rattle.std.specs.Prelude.{◌≡◌, ℕ, ◌+◌, ◌-◌, ◌==◌, Bool, true, not, ◌&&◌, ◌||◌, nat_lt, nat_le, length, Some}
use Rattle.std.specs.Int.{from_le_bytes, w64}
use Rattle.field_words.specs.declared.access.Actor.TheVariants.{Qpu as TheQpu}
use Rattle.qpu_isa.specs.Word.{sig_of, waddr_add_of, waddr_mul_of, raddr_a_of, raddr_b_of}
use Rattle.qpu_isa.specs.Terms.{is_alu, is_branch, is_end, has_small, names_address, writes_s, loads}
use Rattle.qpu_isa.specs.Setups.{setups_kept}
use Rattle.machine_plan.specs.Memory.{bytes_at}
use Rattle.qpu_machine.specs.{declared.state.Qpu.Qpu, declared.state.Thread.Thread}
use Rattle.qpu_machine.specs.declared.state.Fate.TheVariants.{Ends, Switches}
use Rattle.qpu_machine.specs.{Qpu.active_of, Qpu.queue_count, Qpu.resting_of, Wild.takes_one, Writes.fate_of}
use Rattle.machine.specs.{State.State, State.item_at, Step.Event}
use Rattle.promises.specs.{Steps.one_if, Finished.count_unloaded}

-- The event is a step of a processor whose active thread executes this instruction.
pub record Executes (s : State) (event : Event) (q : Qpu) (t : Thread) (word : ℕ) : Type 0 where
  pub k : ℕ
  pub unit : event.unit ≡ TheQpu k
  pub is : item_at s.units.qpus k ≡ Some q
  pub active : active_of q ≡ Some t
  pub next : word ≡ from_le_bytes w64 (bytes_at s.memory t.place 8)

-- behind the instruction a TMU keeps set-up words of the thread
unfoldable pub keeps_words : Thread → ℕ → Bool
keeps_words t word = nat_lt 0 (length (setups_kept word 0 0 t.setups0.items)) || nat_lt 0 (length (setups_kept word 1 0 t.setups1.items))

-- a TMU keeps set-up words of the thread now
unfoldable pub has_words : Thread → Bool
has_words t = nat_lt 0 (length t.setups0.items) || nat_lt 0 (length t.setups1.items)

-- How many requests and results of the active thread a TMU has: none of these was loaded.
unfoldable pub unloaded0 : Qpu → Thread → ℕ
unloaded0 q t = queue_count q.second q.queue0.items + length t.results0.items

unfoldable pub unloaded1 : Qpu → Thread → ℕ
unloaded1 q t = queue_count q.second q.queue1.items + length t.results1.items

-- it loads from a TMU that has nothing of the thread
unfoldable pub loads_nothing : Qpu → Thread → ℕ → Bool
loads_nothing q t word = (loads word 0 && unloaded0 q t == 0) || (loads word 1 && unloaded1 q t == 0)

-- it sends a request
unfoldable pub sends : ℕ → Bool
sends word = writes_s word 0 || writes_s word 1

-- behind the instruction a TMU still has something of the thread
unfoldable pub leaves_requests : Qpu → Thread → ℕ → Bool
leaves_requests q t word =
    nat_lt 0 ((unloaded0 q t - one_if (loads word 0)) + one_if (writes_s word 0))
    || nat_lt 0 ((unloaded1 q t - one_if (loads word 1)) + one_if (writes_s word 1))

-- An ALU instruction reads this address, whatever its operands select. With signal 13 the read of file B is a value.
unfoldable pub reads : ℕ → ℕ → Bool
reads word address = is_alu word && (raddr_a_of word == address || (raddr_b_of word == address && not (has_small word)))

-- 48 to 50 are the VPM, the memory of vertices
unfoldable pub touches : ℕ → ℕ → Bool
touches word address = reads word address || names_address word address

unfoldable pub touches_vertices : ℕ → Bool
touches_vertices word = (touches word 48 || touches word 49) || touches word 50

-- it is the program end, or one of the two instructions that the thread still executes
unfoldable pub is_last : Thread → ℕ → Bool
is_last t word = is_end word || (is_end t.last1.word || is_end t.last2.word)

-- it takes a uniform, reads a varying (35), or touches the VPM
unfoldable pub uses_closed : Thread → ℕ → Bool
uses_closed t word = takes_one t word || (reads word 35 || touches_vertices word)

-- 44 to 47 are the tile buffer, 52 to 55 the special functions, 56 to 63 the TMUs
unfoldable pub is_peripheral : ℕ → Bool
is_peripheral address = (nat_lt 43 address && nat_lt address 48) || nat_lt 51 address

-- How many peripherals an instruction uses: a write by each unit, a load of a colour or of a TMU's result by signal, the mutex (51).
unfoldable pub peripherals : ℕ → ℕ
peripherals word =
    (one_if (not (is_branch word) && is_peripheral (waddr_add_of word)) + one_if (not (is_branch word) && is_peripheral (waddr_mul_of word)))
    + (one_if (sig_of word == 8 || (loads word 0 || loads word 1)) + one_if (reads word 51))

-- What the guide forbids. Of set-up words: that a thread keeps any when it switches, or while it rests, as the processor's other thread's
-- words would complete them, or when it ends, as the next program's would. Of requests: that one is loaded that nobody sent, that a processor has
-- more than the four that it has room for, and that a thread that ends leaves one.
pub data IsForbidden (s : State) (event : Event) : Type 0 where
  SwitchesWithWords : (q : Qpu) (t : Thread) (word : ℕ) → Executes s event q t word → fate_of t ≡ Switches → keeps_words t word ≡ true → IsForbidden s event
  RestsWithWords : (k : ℕ) (q : Qpu) (t : Thread) → item_at s.units.qpus k ≡ Some q → resting_of q ≡ Some t → has_words t ≡ true → IsForbidden s event
  EndsWithWords : (q : Qpu) (t : Thread) (word : ℕ) → Executes s event q t word → fate_of t ≡ Ends → keeps_words t word ≡ true → IsForbidden s event
  LoadsNothing : (q : Qpu) (t : Thread) (word : ℕ) → Executes s event q t word → loads_nothing q t word ≡ true → IsForbidden s event
  LacksRoom : (q : Qpu) (t : Thread) (word : ℕ) → Executes s event q t word → sends word ≡ true → nat_le 4 (count_unloaded q) ≡ true → IsForbidden s event
  LeavesRequests : (q : Qpu) (t : Thread) (word : ℕ) → Executes s event q t word → fate_of t ≡ Ends → leaves_requests q t word ≡ true → IsForbidden s event
  UsesClosed : (q : Qpu) (t : Thread) (word : ℕ) → Executes s event q t word → is_last t word ≡ true → uses_closed t word ≡ true → IsForbidden s event
  UsesTwo : (q : Qpu) (t : Thread) (word : ℕ) → Executes s event q t word → nat_lt 1 (peripherals word) ≡ true → IsForbidden s event
  TakesMutex : (q : Qpu) (t : Thread) (word : ℕ) → Executes s event q t word → reads word 51 ≡ true → IsForbidden s event
