-- What the list units of one job keep, and what a step of one of them comes to.
use Rattle.std.specs.Prelude.{ℕ, Bool, false, true, ◌+◌, ◌*◌, ◌-◌, ◌^◌, ◌<◌, ◌≤◌, List, [], ◌∷◌, ◌++◌, length, Option, None}
use Rattle.field_words.specs.declared.access.Actor.TheVariants.{Binner as TheBinner, Renderer as TheRenderer}
use Rattle.list_machine.specs.State.{Binner, Item, Kept, Launch, Renderer, Who, Work}

-- What the list units of one job keep: its binner and its renderer; how often the semaphore is still
-- to be raised, and the semaphore; whether its tile lists are closed; how many further blocks of their
-- memory are taken; and the items of all tile lists, the oldest first.
pub record Lists : Type 0 where
  pub binner : Binner
  pub renderer : Renderer
  pub pending : ℕ
  pub semaphore : ℕ
  pub closed : Bool
  pub blocks : ℕ
  pub items : List Item

-- what a step of a list unit comes to: what the job's list units keep, and the program that it
-- starts, where it starts one
pub record Turned : Type 0 where
  pub lists : Lists
  pub launch : Option Launch

abbrev pub turned_to : Lists → Option Launch → Turned
turned_to lists launch = record { lists = lists; launch = launch }

-- a step that starts no program
abbrev pub quiet : Lists → Turned
quiet lists = turned_to lists None

-- the units that step for a job
abbrev pub binner_of : ℕ → Who
binner_of job = record { unit = TheBinner; job = job }

abbrev pub renderer_of : ℕ → Who
renderer_of job = record { unit = TheRenderer; job = job }

-- the list units of a job at its start: both stand at the beginnings of their lists, and all else is
-- empty or zero
abbrev pub lists_start : (bin_place bin_len render_place render_len : ℕ) → Lists
lists_start bin_place bin_len render_place render_len = record {
  binner = record { place = bin_place; end = bin_place + bin_len; kept = record { config = None; started = false; word = None }; work = None };
  renderer = record { place = render_place; end = render_place + render_len; frame = None; x = 0; y = 0; waiting = None; inside = None };
  pending = 0;
  semaphore = 0;
  closed = false;
  blocks = 0;
  items = [];
}

-- the lists but for one part
abbrev pub with_binner : Lists → Binner → Lists
with_binner s binner = record s { binner = binner }

abbrev pub with_renderer : Lists → Renderer → Lists
with_renderer s renderer = record s { renderer = renderer }

abbrev pub with_kept : Lists → Kept → Lists
with_kept s kept = with_binner s (record (s.binner) { kept = kept })

abbrev pub with_work : Lists → Option Work → Lists
with_work s work = with_binner s (record (s.binner) { work = work })

-- the binner stands at this place
abbrev pub with_place : Lists → ℕ → Lists
with_place s place = with_binner s (record (s.binner) { place = place })

-- the binner has gone past a packet of this length
abbrev pub past : Lists → ℕ → Lists
past s len = with_place s (s.binner.place + len)

-- the semaphore is to be raised once more
abbrev pub after_increment : Lists → Lists
after_increment s = record s { pending = s.pending + 1 }

-- all tile lists are closed, and the semaphore is raised as often as was asked
abbrev pub after_flush : Lists → Lists
after_flush s = record s { closed = true; semaphore = s.semaphore + s.pending; pending = 0 }

-- one is taken from the semaphore
abbrev pub with_taken : Lists → Lists
with_taken s = record s { semaphore = s.semaphore - 1 }

-- one item more, and one block more
abbrev pub with_item : Lists → Item → Lists
with_item s item = record s { items = s.items ++ item ∷ [] }

abbrev pub with_block : Lists → Lists
with_block s = record s { blocks = s.blocks + 1 }

-- An undefined step ends its unit's work: the unit goes to its list's end. The binner drops its primitive,
-- the renderer the load that waits and the tile list that it is in.
abbrev pub binner_ended : Lists → Lists
binner_ended s = with_binner s (record (s.binner) { place = s.binner.end; work = None })

abbrev pub renderer_ended : Lists → Lists
renderer_ended s = with_renderer s (record (s.renderer) { place = s.renderer.end; waiting = None; inside = None })

-- the most items that a job's tile lists have together
abbrev pub most_items : ℕ
most_items = 32768

-- item n, counted from this number on, lies near
abbrev pub AreNear : ℕ → List Item → Type 0
AreNear n [] = Unit {0}
AreNear n (item ∷ items) = (item.place ≤ 2 ^ 34 + 16 * n) × AreNear (n + 1) items

-- the semaphore may be asked for once more, by the packet that the binner is just past
abbrev pub MayIncrement : Lists → Type 0
MayIncrement s = (s.pending + s.semaphore < s.binner.place) × (s.pending + s.semaphore < s.binner.end)

-- The numbers that are kept stay small: a list ends below 2^33, a unit goes at most one packet past
-- its list's end, and the semaphore is raised at most once a packet.
pub record IsNear (s : Lists) : Type 0 where
  pub binner_end : s.binner.end < 2 ^ 33
  pub binner_place : s.binner.place ≤ s.binner.end + 16
  pub counted : s.pending + s.semaphore ≤ s.binner.place
  pub ended : s.pending + s.semaphore ≤ s.binner.end
  pub renderer_end : s.renderer.end < 2 ^ 33
  pub renderer_place : s.renderer.place ≤ s.renderer.end + 16
  pub blocks : s.blocks ≤ 2 ^ 25
  pub few : length s.items ≤ most_items
  pub items : AreNear 0 s.items
