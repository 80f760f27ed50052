-- The configuration of the job's grid is the job's to write.
use Rattle.std.proofs.Common.{◌≡◌, inl, ℕ, ◌+◌, ◌-◌, ◌*◌, ◌≤◌, Bool, true, false, not, ◌==◌, List, None, length, refl, arith, lit≤, rules}
use Rattle.std.proofs.lemmas.{Bool.leb-true, Bool.eqb-true, Bool.not-false, Bool.Decides.nat_tests, Grind.common_steps}
use Rattle.field_words.specs.{Sizes.page_size, Sizes.slot_size, Words.rounded_up, Questions.first_of}
use Rattle.field_words.proofs.{Numbers.rounded, Nones.front_none, Nones.rest_none, Nones.none_answered}
use Rattle.tile_memory.specs.Slots.{alloc_offset, slot_fits}
use Rattle.bin_list.specs.{Packets.packets, Packets.packets_passed, Seen.seen_before, Rules.GivenModel, Rules.questions_of, Rules.bin_questions}
use Rattle.bin_list.proofs.{Facts.has_grid, Facts.configured, Sound.started}
use Rattle.job_format.specs.Model.{FileModel}
use Rattle.job_check.specs.{Shaders.table_of, Jobs.job_of, Jobs.has_bin, Jobs.slot_of}
use Rattle.list_machine.specs.Blocks.{tiles_of}
use Rattle.list_law.specs.{May.MayWrite, Binning.Allocates}
use Rattle.accepted_law.specs.Holdings.{across_of, down_of, config_for}
use Rattle.promises.specs.Holdings.{slot_in, job_rights}
use Rattle.accepted_law.specs.{Settled.Settled, Parts.FilesAllocate}
use Rattle.accepted_law.proofs.ByJob.{rights_are}

-- The grid has room in a slot; where there is no binner list it has no tiles.
grid_room : (given : GivenModel) (list : List ℕ) → first_of (questions_of given (packets_passed list)) ≡ None
    → slot_fits ((seen_before (packets_passed list)).tiles_x * (seen_before (packets_passed list)).tiles_y) ≡ true
unfolding questions_of seen_before
grid_room given list none = grind (arith, common_steps, nat_tests, front_none, none_answered, rest_none, has_grid, configured, started)

nothing_fits : slot_fits (0 * 0) ≡ true
unfolding slot_fits alloc_offset rounded_up
nothing_fits = refl

empty_room : (list : List ℕ) → length list ≡ 0 → slot_fits ((seen_before (packets_passed list)).tiles_x * (seen_before (packets_passed list)).tiles_y) ≡ true
unfolding packets_passed packets seen_before
empty_room list none = search (rules, arith, nothing_fits)

not_some : (n : ℕ) → not (n == 0) ≡ false → n ≡ 0
not_some n is = eqb-true n 0 (not-false (n == 0) is)

room_by : (f : FileModel) (j : ℕ) (b : Bool) → not (length (job_of f j).bin == 0) ≡ b
    → (b ≡ true → first_of (bin_questions (job_of f j).bin (job_of f j).declared (table_of f) (job_of f j).handles) ≡ None)
    → slot_fits (across_of f j * down_of f j) ≡ true
room_by f j b is none = search (rules, arith, grid_room, empty_room, not_some)

room_of : (f : FileModel) (j : ℕ) → Settled f j → slot_fits (across_of f j * down_of f j) ≡ true
unfolding has_bin
room_of f j s = room_by f j (not (length (job_of f j).bin == 0)) refl s.bin

record HasRoom (tiles : ℕ) : Type 0 where
  states : 48 * tiles ≤ alloc_offset tiles
  lists : alloc_offset tiles + 32 * tiles ≤ slot_size

has_room : (tiles : ℕ) → slot_fits tiles ≡ true → HasRoom tiles
unfolding slot_fits alloc_offset
has_room tiles fits =
    record { states = (rounded (48 * tiles) page_size (lit≤ tt)).least; lists = leb-true (alloc_offset tiles + 32 * tiles) slot_size fits }

lies_in_slot : (f : FileModel) (j p n : ℕ) → slot_of f j ≤ p → p + n ≤ slot_of f j + slot_size → MayWrite (job_rights f j) p n
unfolding slot_in
lies_in_slot f j p n from upto = record { region = inl (record { from = from; upto = upto }); writable = inl (record { from = from; upto = upto }) }

allocates : (f : FileModel) (j : ℕ) → HasRoom (across_of f j * down_of f j) → Allocates (job_rights f j) (config_for f j)
unfolding config_for tiles_of
allocates f j room =
    let tiles = across_of f j * down_of f j in
    let states = room.states in
    record {
      states = lies_in_slot f j (slot_of f j) (48 * tiles) (omega arith) (omega (arith, states, room.lists));
      all = lies_in_slot f j (slot_of f j + alloc_offset tiles) (slot_size - alloc_offset tiles) (omega arith) (omega (arith, room.lists));
      first = omega (arith, room.lists);
    }

pub files_allocate_law : FilesAllocate
files_allocate_law f j grounds = search (arith, rights_are, allocates, has_room, room_of)
