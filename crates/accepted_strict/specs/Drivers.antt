-- The law for a driver that hands in jobs of strict files alone, one after the other, for ever.
use Rattle.std.specs.Prelude.{◌≡◌, ◌<◌, ℕ, true, List, [], ◌∷◌, Some, None}
use Rattle.qpu_machine.specs.{declared.state.Qpu.Qpu, declared.state.Thread.Thread}
use Rattle.machine.specs.{State.item_at, Step.Event}
use Rattle.promises.specs.Days.{Day, Happening, Steps, Changes, Finds, Admits, Retires, Resets, after, dawn, happen}
use Rattle.promises.specs.Drivers.{DriverMay, AllDriverMay}
use Rattle.strict_law.specs.Lists.{ExecutesPacket, IsForbiddenPacket, executed_of}
use Rattle.strict_law.specs.{Forbidden.Executes, Forbidden.IsForbidden, Order.oldest_of, Order.orders_of, Roles.KeepsRole, Roles.roles_of, Slots.HasRoom, Slots.slots_of}
use Rattle.accepted_strict.specs.Files.{FileStrict}
use Rattle.qpu_isa.specs.Terms.{loads}

-- the file breaks no strict rule of whose jobs one is handed in
abbrev pub HandsInStrict : (d : Day) (one : Happening) → DriverMay d one → Type 0
HandsInStrict d (Steps event) may = Unit {0}
HandsInStrict d (Changes m) may = Unit {0}
HandsInStrict d (Finds k second files) may = Unit {0}
HandsInStrict d (Admits job) may = FileStrict may.file
HandsInStrict d (Retires j) may = Unit {0}
HandsInStrict d Resets may = Unit {0}

-- so it is of each
abbrev pub AllHandInStrict : (d : Day) (happenings : List Happening) → AllDriverMay d happenings → Type 0
AllHandInStrict d [] may = Unit {0}
AllHandInStrict d (one ∷ later) may = HandsInStrict d one may.0 × AllHandInStrict (happen d one) later may.1

-- After this has happened no event is forbidden; a load takes the oldest request that the processor has sent to the texture unit and not
-- loaded, both threads' counted; an instruction that a thread executes uses nothing of programs of another kind than that as which it was
-- started; a processor's requests, and the words that are kept for others, have room in its slots; and no packet that a binner executes is
-- forbidden.
pub record DayObeys (memory : List ℕ) (happenings : List Happening) : Type 0 where
  pub never_forbidden : (event : Event) → IsForbidden (after (dawn memory) happenings).state event → ⊥
  pub takes_oldest : (event : Event) (q : Qpu) (t : Thread) (word : ℕ)
      → (one : Executes (after (dawn memory) happenings).state event q t word)
      → (tmu : ℕ) → tmu < 2 → loads word tmu ≡ true
      → oldest_of (orders_of (dawn memory) happenings (λ j n. []) one.k tmu) ≡ Some q.second
  pub keeps_roles : (event : Event) (q : Qpu) (t : Thread) (word : ℕ)
      → (one : Executes (after (dawn memory) happenings).state event q t word)
      → KeepsRole (roles_of (dawn memory) happenings (λ k second. None) one.k q.second) word
  pub bins_as_allowed : (event : Event) (j : ℕ) (packet : List ℕ) → ExecutesPacket (after (dawn memory) happenings).state event j packet
      → IsForbiddenPacket (after (dawn memory) happenings).state.memory (executed_of (dawn memory) happenings (λ k. []) j) packet → ⊥
  pub have_room : (k : ℕ) (q : Qpu) → item_at (after (dawn memory) happenings).state.units.qpus k ≡ Some q
      → HasRoom (slots_of (dawn memory) happenings (λ j tmu second. []) k) q

-- So it is of whatever may happen to a machine whose driver hands in jobs of such files alone.
abbrev pub StrictDriversObey : Type 0
StrictDriversObey =
    (memory : List ℕ) (happenings : List Happening) → (may : AllDriverMay (dawn memory) happenings)
    → AllHandInStrict (dawn memory) happenings may → DayObeys memory happenings
