-- How many steps are left: of each thread, processor and job, and of all units together.
use Rattle.std.specs.Prelude.{◌≡◌, ◌≤◌, ◌≢◌, ℕ, ◌+◌, ◌-◌, ◌*◌, ◌==◌, ◌&&◌, ◌||◌, Bool, false, nat_le, List, [], ◌∷◌, length, Option, Some, None, IfSome, IsTrue, is_some, count_by}
use Rattle.field_words.specs.Pieces.{joined_texts as joined_bytes}
use Rattle.machine_plan.specs.{declared.launch.Launch.Launch, Memory.bytes_at, Regions.Interval, Regions.Rights, Regions.rights_of, Regions.HasReadOnly}
use Rattle.packets.specs.{declared.config.Config.Config, declared.packet.Packet.Packet, Length.bin_length, Packet.slots_text}
use Rattle.bin_list.specs.Packets.{opcode}
use Rattle.render_walks.specs.Walks.{AllFit}
use Rattle.list_machine.specs.{declared.state.Frame.Frame, declared.state.Item.Item, declared.state.SubList.SubList, declared.state.Work.Work, Binner.has_binner_work, Lists.Lists, Renderer.has_renderer_work}
use Rattle.list_law.specs.{Binning.Allocates, Lists.ListsFine}
use Rattle.qpu_machine.specs.{declared.state.Qpu.Qpu, declared.state.Request.Request, declared.state.Thread.Thread}
use Rattle.qpu_law.specs.{Home.Home, Home.IsAt, Thread.IsHome}
use Rattle.shader_flow.specs.Flow.{is_threaded}
use Rattle.machine.specs.{State.Units, State.State, Step.Event, Step.may, Step.step, Step.unit_job}
use Rattle.machine_law.specs.{Jobs.ArePlain, Laws.AreFine}
use Rattle.ends_law.specs.{Loops.IsShort, Room.room_by, Room.Counted}
use Rattle.promises.specs.Steps.{has_loop, steps_before, program_steps, room_of, unit_stays, one_if, bin_steps, render_steps, times, all_entered}
use Rattle.ends_law.specs.Steps.{work_left}

-- each item of a list, numbered from k on, with its share of n
abbrev pub EachWithin : {X : Type 0} → (ℕ → ℕ → X → Type 0) → ℕ → ℕ → List X → Type 0
EachWithin P k n [] = Unit {0}
EachWithin P k n (x ∷ xs) = (share : ℕ) × P k share x × (share ≤ n) × EachWithin P (k + 1) (n - share) xs

-- A job with these rights may start the program: S is so of its shader, whose words stand in each memory of K.
pub record LaunchSo (r : Rights) (K : List ℕ → Type 0) (S : List ℕ → Type 0) (launch : Launch) : Type 0 where
  pub home : Home
  pub so : S home.code
  pub stands : (m : List ℕ) → K m → IsHome m r.region home
  pub code : launch.code ≡ home.place
  pub uniforms : launch.uniforms ≡ home.stream
  pub threaded : launch.threaded ≡ is_threaded home.code

-- A thread of a job with these rights stands before an instruction of a shader of which S is so, and which stands in each memory of K.
pub record ThreadAt (r : Rights) (K : List ℕ → Type 0) (S : List ℕ → Type 0) (t : Thread) : Type 0 where
  pub home : Home
  pub so : S home.code
  pub stands : (m : List ℕ) → K m → IsHome m r.region home
  pub index : ℕ
  pub at : IsAt home index t

-- Its shader has no loop, and what is left of it takes at most n steps.
pub record ThreadLeft (r : Rights) (K : List ℕ → Type 0) (n : ℕ) (t : Thread) : Type 0 where
  pub there : ThreadAt r K (λ code. has_loop code ≡ false) t
  pub left : program_steps there.home.code ≤ steps_before there.home.code there.index + n

-- so does that of a thread slot, where a job's thread runs there that is counted
abbrev pub SlotLeft : (ℕ → Rights) → (List ℕ → Type 0) → (ℕ → Bool) → ℕ → Option Thread → Type 0
SlotLeft rights K mine n slot = IfSome slot (λ t. IsTrue (mine t.job) → ThreadLeft (rights t.job) K n t)

-- so many of the requests are of jobs that are counted
abbrev pub request_count : (ℕ → Bool) → List Request → ℕ
request_count mine requests = count_by (λ request. mine request.job) requests

-- so do both threads of a processor, and each such request takes one step
pub record QpuLeft (rights : ℕ → Rights) (K : List ℕ → Type 0) (mine : ℕ → Bool) (k n : ℕ) (q : Qpu) : Type 0 where
  pub firsts : ℕ
  pub others : ℕ
  pub first : SlotLeft rights K mine firsts q.first
  pub other : SlotLeft rights K mine others q.other
  pub sum : firsts + others + (request_count mine q.queue0.items + request_count mine q.queue1.items) ≤ n

-- The renderer still goes past item n of a tile in the list in which it is.
abbrev pub is_before : Option SubList → ℕ → ℕ → Bool
is_before None tile n = false
is_before (Some sub) tile n = tile == sub.tile && nat_le sub.at n

-- The renderer is in the list of the tile.
abbrev pub is_inside : Option SubList → ℕ → Bool
is_inside None tile = false
is_inside (Some sub) tile = tile == sub.tile

-- How often it goes past one of these items, numbered from n on, where the rest of its list goes into these lists.
abbrev pub visits : Config → List ℕ → Option SubList → ℕ → List Item → ℕ
visits c places inside n [] = 0
visits c places inside n (item ∷ items) =
    times (c.address + 32 * item.tile) places + one_if (is_before inside item.tile n) + visits c places inside (n + 1) items

-- a packet of a binner list that is whole
pub record IsWhole (packet : List ℕ) : Type 0 where
  pub whole : length packet ≡ bin_length (opcode packet)
  pub known : bin_length (opcode packet) ≢ 0

abbrev pub AllWhole : List (List ℕ) → Type 0
AllWhole [] = Unit {0}
AllWhole (packet ∷ packets) = IsWhole packet × AllWhole packets

-- These packets are the rest of a binner's list, from this place to its end.
pub record BinRest (K : List ℕ → Type 0) (place end : ℕ) (packets : List (List ℕ)) : Type 0 where
  pub ends : place + length (joined_bytes packets) ≡ end
  pub stands : (m : List ℕ) → K m → bytes_at m place (length (joined_bytes packets)) ≡ joined_bytes packets
  pub whole : AllWhole packets

-- These slots are the rest of a renderer's.
pub record RenderRest (K : List ℕ → Type 0) (place end : ℕ) (slots : List (Option Packet)) : Type 0 where
  pub ends : place + length (slots_text slots) ≡ end
  pub stands : (m : List ℕ) → K m → bytes_at m place (length (slots_text slots)) ≡ slots_text slots
  pub fit : AllFit slots

-- No more items are put than `most`.
pub record RoomLeft (c : Config) (most : ℕ) (config : Option Config) (blocks : ℕ) (items : List Item) (packets : List (List ℕ)) : Type 0 where
  pub few : length items ≤ most
  pub counted : Counted c blocks items
  pub kept : room_by config ≤ most
  pub rest : room_of packets ≤ most

-- What is left of the list units of a job with configuration c takes at most n steps, where the binner stands at a place of its list, with this
-- work, the renderer at another of its own, in this tile's list, this configuration is kept, so many further blocks are taken, and the tile
-- lists have these items. An item that is put is gone past at most d times.
pub record ListsLeft (K : List ℕ → Type 0) (c : Config) (w d n place end : ℕ) (work : Option Work) (there upto : ℕ) (inside : Option SubList) (config : Option Config) (blocks : ℕ) (items : List Item) (packets : List (List ℕ)) (slots : List (Option Packet)) : Type 0 where
  pub bin : BinRest K place end packets
  pub render : RenderRest K there upto slots
  pub most : ℕ
  pub room : RoomLeft c most config blocks items packets
  pub often : (tile : ℕ) → times (c.address + 32 * tile) (all_entered slots) + one_if (is_inside inside tile) ≤ d
  pub sum : bin_steps w packets + work_left w work + (most - length items) * (1 + d) + (render_steps slots + one_if (is_some inside))
      + visits c (all_entered slots) inside 0 items ≤ n

-- so it is of a job's lists, where the renderer is in this tile's list
abbrev pub StandLeft : (List ℕ → Type 0) → Config → (w d n : ℕ) → Lists → Option SubList → List (List ℕ) → List (Option Packet) → Type 0
StandLeft K c w d n s inside packets slots = ListsLeft K c w d n s.binner.place s.binner.end s.binner.work s.renderer.place s.renderer.end inside s.binner.kept.config s.blocks s.items packets slots

abbrev pub JobLeft : (List ℕ → Type 0) → Config → (w d n : ℕ) → Lists → Type 0
JobLeft K c w d n s = (packets : List (List ℕ)) × (slots : List (Option Packet)) × StandLeft K c w d n s s.renderer.inside packets slots

-- So it is of a job with these rights, whose programs are short.
pub record JobEnds (r : Rights) (K : List ℕ → Type 0) (w n : ℕ) (s : Lists) : Type 0 where
  pub config : Config
  pub frame : Frame
  pub allocates : Allocates r config
  pub lists : ListsFine r K (LaunchSo r K (IsShort w)) config frame s
  pub most : ℕ
  pub left : JobLeft K config w most n s

-- so of job j, where it is counted and its lists have work left
abbrev pub CountedEnds : (ℕ → Rights) → (List ℕ → Type 0) → (ℕ → Bool) → (w j n : ℕ) → Lists → Type 0
CountedEnds rights K mine w j n s = IsTrue (mine j && (has_binner_work s || has_renderer_work s)) → JobEnds (rights j) K w n s

-- What is left of all units for the jobs that are counted takes at most n steps.
pub record UnitsLeft (rights : ℕ → Rights) (K : List ℕ → Type 0) (mine : ℕ → Bool) (w n : ℕ) (u : Units) : Type 0 where
  pub of_jobs : ℕ
  pub of_qpus : ℕ
  pub jobs : EachWithin (CountedEnds rights K mine w) 0 of_jobs u.jobs
  pub qpus : EachWithin (QpuLeft rights K mine) 0 of_qpus u.qpus
  pub sum : of_jobs + of_qpus ≤ n

-- The law of one step: from a state of which all is known, one for a job that is counted leaves less, but for w + 1 more where the renderer
-- stays at an item; and one for another job leaves as much.
pub record StepLess (rights : ℕ → Rights) (K : List ℕ → Type 0) (mine : ℕ → Bool) (w n cost stay : ℕ) (u : Units) : Type 0 where
  pub rest : ℕ
  pub left : UnitsLeft rights K mine w rest u
  pub less : rest + cost ≤ n + (1 + w) * stay

abbrev pub StepsLess : Type 0
StepsLess =
    (rights : List Rights) (plains : ℕ → List Interval) (first : List ℕ) (mine : ℕ → Bool) (w n : ℕ) (s : State) (event : Event)
    → ArePlain rights plains → HasReadOnly rights first s.memory → AreFine rights plains first s.units
    → UnitsLeft (rights_of rights) (HasReadOnly rights first) mine w n s.units → IsTrue (may s event)
    → StepLess (rights_of rights) (HasReadOnly rights first) mine w n (one_if (mine (unit_job s.units event.unit)))
    (one_if (mine (unit_job s.units event.unit) && unit_stays s.units event.unit event.words)) (step s event).state.units
