-- Loads and stores of surfaces.
use Rattle.std.specs.Prelude.{ℕ, Bool, ◌==◌, ◌-◌, ◌%◌, if◌then◌else◌, List, Option, Some, None}
use Rattle.field_words.specs.Words.{bits_of}
use Rattle.arrayvec.specs.ArrayVec.{ArrayVec}
use Rattle.machine_plan.specs.{Plan.Plan, Plan.Done, Plan.Wilds, Plan.Reads, Plan.Writes, Turn.Carries, Turn.CarriesAnywhere, Turn.if_tame}
use Rattle.list_machine.specs.State.{Access, Cover, Frame, Full, General, Load, Who}
use Rattle.list_machine.specs.{Lists.Lists, Store.bytes_chosen}
use Rattle.list_machine.specs.Cover.{cover_for, part_count, parts_written, parts_read}
use Rattle.texture_layouts.specs.Format.{general_style, frame_style}

-- Code has carried out a store, tame or undefined, and came to whatever is next: it left this memory as that, and listed the accesses.
abbrev pub Stores : Who → (Plan Lists → Plan Lists) → (memory left : List ℕ) → (before after : ArrayVec Access) → Bool → Type 0
Stores who store memory left before after tame = (s : Lists) → Carries who (store (Done s)) memory left before after (if_tame tame s)

-- code has carried out a load, over any memory
abbrev pub Loads : Who → (Plan Lists → Plan Lists) → (before after : ArrayVec Access) → Bool → Type 0
Loads who load before after tame = (s : Lists) → CarriesAnywhere who (load (Done s)) before after (if_tame tame s)

-- all parts of a cover are written, or read; without a cover that is undefined
unfoldable pub cover_written : {R : Type 0} → Option Cover → List ℕ → Plan R → Plan R
cover_written None words next = Wilds
cover_written (Some c) words next = parts_written c words 0 (part_count c) next

unfoldable pub cover_read : {R : Type 0} → Option Cover → Plan R → Plan R
cover_read None next = Wilds
cover_read (Some c) next = parts_read c 0 (part_count c) next

-- an address without its low four bits
unfoldable pub aligned_address : ℕ → ℕ
aligned_address address = address - address % 16

-- General bits name no buffer: then nothing is done, whatever the other bits say, and also before the
-- frame is set.
unfoldable pub names_none : ℕ → Bool
names_none bits = bits_of bits 2 0 == 0

-- A store of tile (x, y) by general bits, and a load. The surface is as large as the frame.
unfoldable pub general_written : {R : Type 0} → ℕ → ℕ → Option Frame → ℕ → ℕ → List ℕ → Plan R → Plan R
general_written bits address frame x y words next =
    if names_none bits then next else cover_written (cover_for (general_style bits) frame (aligned_address address) x y) words next

unfoldable pub general_read : {R : Type 0} → ℕ → ℕ → Option Frame → ℕ → ℕ → Plan R → Plan R
general_read bits address frame x y next =
    if names_none bits then next else cover_read (cover_for (general_style bits) frame (aligned_address address) x y) next

-- A store of tile (x, y) of the frame, at the frame's address as it stands.
unfoldable pub frame_written : {R : Type 0} → Option Frame → ℕ → ℕ → List ℕ → Plan R → Plan R
frame_written None x y words next = Wilds
frame_written (Some frame) x y words next = cover_written (cover_for (frame_style frame.bits) (Some frame) frame.address x y) words next

-- The bytes of a tile in full resolution.
abbrev pub whole_size : ℕ
whole_size = 16384

-- A store of a tile in full resolution, and a load.
unfoldable pub whole_written : {R : Type 0} → ℕ → List ℕ → Plan R → Plan R
whole_written address words next = Writes (aligned_address address) (bytes_chosen words 0 whole_size) next

unfoldable pub whole_read : {R : Type 0} → ℕ → Plan R → Plan R
whole_read address next = Reads (aligned_address address) whole_size (λ bytes. next)

-- A load that waits, done at tile (x, y).
abbrev pub load_read : {R : Type 0} → Load → Option Frame → ℕ → ℕ → Plan R → Plan R
load_read (Full address) frame x y next = whole_read address next
load_read (General bits address) frame x y next = general_read bits address frame x y next

abbrev pub waiting_read : {R : Type 0} → Option Load → Option Frame → ℕ → ℕ → Plan R → Plan R
waiting_read None frame x y next = next
waiting_read (Some load) frame x y next = load_read load frame x y next
