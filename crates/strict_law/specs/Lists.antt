-- What the hardware's guide forbids of a job's binner list, said of a packet that the binner executes, and of those that it executed
-- before; and the law that it executes no such packet.
--
-- A state doesn't show what a binner executed before it. So its packets are kept beside the state, as requests are in `Order`.
use Rattle.std.specs.Prelude.{◌≡◌, ◌≢◌, ℕ, ◌/◌, ◌%◌, ◌==◌, ◌&&◌, Bool, true, false, nat_le, if◌then◌else◌}
use Rattle.std.specs.Prelude.{List, [], ◌∷◌, count_by, slice_index, Option, Some, None}
use Rattle.std.specs.List.{list_any}
use Rattle.field_words.specs.declared.access.{Access.Access, Actor.Actor}
use Rattle.field_words.specs.declared.access.Actor.TheVariants.{Binner as TheBinner, Renderer as TheRenderer, Qpu as TheQpu, Tmu as TheTmu}
use Rattle.field_words.specs.Words.{u32_at}
use Rattle.packets.specs.Opcode.{start_tile_binning, indexed_primitive_list, primitive_list_format, gl_shader_state}
use Rattle.packets.specs.Length.{bin_taken}
use Rattle.bin_list.specs.{Packets.opcode, Seen.last_opcode, Seen.latest, Packets.draws}
use Rattle.machine_plan.specs.{Memory.bytes_at, Regions.Interval, Regions.Rights, Regions.HasReadOnly}
use Rattle.machine_plan.specs.Others.{Happening as Sole, OthersRun}
use Rattle.list_machine.specs.{declared.state.Work.Work, Lists.Lists}
use Rattle.machine.specs.{declared.job.Start.Start, State.Picked, State.State, State.Units, State.binner_job, State.units_start}
use Rattle.machine.specs.Step.{Event, ready, turn}
use Rattle.machine_law.specs.{Jobs.ArePlain, Units.EachAt}
use Rattle.promises.specs.Days.{Day, Happening, after, dawn}
use Rattle.day_law.specs.Day.{AllMayHappen}
use Rattle.strict_law.specs.{Days.AdmitStrict, Kept.Keeping, Kept.kept_along, Kept.kept_of, Records.selects_missing, Strict.JobStrict}

-- the packet that begins at a place
abbrev pub packet_at : List ℕ → ℕ → List ℕ
packet_at m place = bytes_at m place (bin_taken (slice_index m place))

-- The event is a step of the binner in which it executes this packet for job j: it has no primitive in work.
pub record ExecutesPacket (s : State) (event : Event) (j : ℕ) (packet : List ℕ) : Type 0 where
  pub lists : Lists
  pub unit : event.unit ≡ TheBinner
  pub is : binner_job s.units ≡ Some (record { number = j; item = lists })
  pub no_work : lists.binner.work ≡ None
  pub next : packet ≡ packet_at s.memory lists.binner.place

-- By job, the packets that its binner has executed, the latest first.
abbrev pub Executed : Type 0
Executed = ℕ → List (List ℕ)

-- what a step of a binner with this work, or none, at a place of its list leaves of that
abbrev pub executed_by : Option Work → ℕ → List ℕ → List (List ℕ) → List (List ℕ)
executed_by None place m packets = packet_at m place ∷ packets
executed_by (Some work) place m packets = packets

abbrev pub executed_in : Option (Picked Lists) → List ℕ → Executed → Executed
executed_in None m executed = executed
executed_in (Some one) m executed =
    λ j. if j == one.number then executed_by one.item.binner.work one.item.binner.place m (executed j) else executed j

-- a step of a unit over this memory
abbrev pub executed_after : Units → Actor → List ℕ → Executed → Executed
executed_after u TheBinner m executed = executed_in (binner_job u) m executed
executed_after u TheRenderer m executed = executed
executed_after u (TheQpu k) m executed = executed
executed_after u (TheTmu k n) m executed = executed

-- along a run of jobs that begin together, and where jobs come and go; a job that is admitted has executed none
abbrev pub executed_kept : Keeping Executed
executed_kept = record { step = λ u unit words m executed. executed_after u unit m executed; admit = λ count executed j. if j == count then [] else executed j; reset = λ executed. executed }

abbrev pub executed_along : State → List (Sole Event) → Executed → Executed
executed_along s happenings executed = kept_along executed_kept s happenings executed

abbrev pub executed_of : Day → List Happening → Executed → Executed
executed_of d happenings executed = kept_of executed_kept d happenings executed

-- A primitive's mode is 0 to 6. An indexed one has it in the low four bits of a byte, below the type of its indexes, 0 or 1.
unfoldable pub has_kind : List ℕ → Bool
has_kind packet =
    if opcode packet == indexed_primitive_list then nat_le (slice_index packet 1 / 16) 1 && nat_le (slice_index packet 1 % 16) 6
    else nat_le (slice_index packet 1) 6

-- it starts binning
unfoldable pub is_start : List ℕ → Bool
is_start packet = opcode packet == start_tile_binning

-- What the guide forbids of a packet that is executed over this memory, after these, of which the latest comes first. Of one that draws:
-- that its primitive is of no kind, is one more than the 7,920 that a counter of the hardware counts, or is drawn under a state whose record
-- selects an attribute that the state doesn't have. Of another: that it stands directly behind the start of binning, and isn't the packet
-- that resets the format of tile lists, 56 with the value 18 (0x12); or that it sets the format later. So each primitive that is put on a
-- tile's list lies behind that reset.
pub data IsForbiddenPacket (m : List ℕ) (earlier : List (List ℕ)) (packet : List ℕ) : Type 0 where
  HasNoKind : draws packet ≡ true → has_kind packet ≡ false → IsForbiddenPacket m earlier packet
  IsOneTooMany : draws packet ≡ true → nat_le 7920 (count_by draws earlier) ≡ true → IsForbiddenPacket m earlier packet
  SelectsMissing : (state : List ℕ) → draws packet ≡ true → latest gl_shader_state earlier ≡ Some state
      → selects_missing m (u32_at state 1) ≡ true → IsForbiddenPacket m earlier packet
  LacksReset : last_opcode earlier ≡ start_tile_binning → (opcode packet ≡ primitive_list_format → slice_index packet 1 ≡ 18 → ⊥)
      → IsForbiddenPacket m earlier packet
  SetsFormat : list_any is_start earlier ≡ true → last_opcode earlier ≢ start_tile_binning
      → opcode packet ≡ primitive_list_format → IsForbiddenPacket m earlier packet

-- In each run from these units over this memory, whichever unit steps next, whatever words answer it, and also while others write: no
-- packet is forbidden that a binner executes, after those that it executed for that job.
pub record BinsAsAllowed (rights : List Rights) (memory : List ℕ) (start : Units) : Type 0 where
  pub every_run : (happenings : List (Sole Event)) (found : List Access) (s : State)
      → OthersRun ready turn rights (record { memory = memory; units = start }) happenings found s
      → (event : Event) (j : ℕ) (packet : List ℕ) → ExecutesPacket s event j packet
      → IsForbiddenPacket s.memory (executed_along (record { memory = memory; units = start }) happenings (λ k. []) j) packet → ⊥

-- So it is for any strict jobs, over each memory that has what jobs may only read as the first.
abbrev pub StrictListsObey : Type 0
StrictListsObey =
    (rights : List Rights) (plains : ℕ → List Interval) (first m : List ℕ) (starts : List Start)
    → ArePlain rights plains → HasReadOnly rights first m
    → EachAt (JobStrict rights plains first) 0 starts → BinsAsAllowed rights m (units_start starts)

-- So it is after whatever may happen to a machine to which only strict jobs are admitted, in any order, and for ever.
abbrev pub StrictBinnersObey : Type 0
StrictBinnersObey =
    (memory : List ℕ) (happenings : List Happening) → AllMayHappen (dawn memory) happenings → AdmitStrict (dawn memory) happenings
    → (event : Event) (j : ℕ) (packet : List ℕ) → ExecutesPacket (after (dawn memory) happenings).state event j packet
    → IsForbiddenPacket (after (dawn memory) happenings).state.memory (executed_of (dawn memory) happenings (λ k. []) j) packet → ⊥
