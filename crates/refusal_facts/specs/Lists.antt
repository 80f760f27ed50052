-- B10: the indexes that a packet of a binner list draws. B12: its shader states. X1: the room of the lists.
use Rattle.std.specs.Prelude.{ℕ, ◌+◌, ◌-◌, ◌==◌, List, [], ◌∷◌, length, option_map, option_and_then, Option, Some, None, if◌then◌else◌}
use Rattle.field_words.specs.Words.{u32_at}
use Rattle.bin_list.specs.{Packets.opcode, Packets.packets, Rules.index_size, States.states_of}
use Rattle.packets.specs.Opcode.{buffer_handles}
use Rattle.job_format.specs.Model.{FileModel}
use Rattle.job_check.specs.Jobs.{layout_of, end_of}
use Rattle.refusal_facts.specs.declared.fact.{BufferFact.BufferFact, IndexFact.IndexFact, RoomFact.RoomFact, StateFact.StateFact}
use Rattle.refusal_facts.specs.{declared.lists.Draw.Draw, Named.KnownModel, Named.named}

-- what a packet draws with the handle that is in force
unfoldable pub draw_of : (handle : ℕ) → List ℕ → Draw
draw_of handle packet = record { handle = handle; address = u32_at packet 6; count = u32_at packet 2; bytes = index_size packet }

-- the handle that is in force behind a packet
unfoldable pub handle_behind : List ℕ → (handle : ℕ) → ℕ
handle_behind packet handle = if opcode packet == buffer_handles then u32_at packet 1 else handle

-- The packets of a list stand one after the other from a place on. What the one that begins at a byte draws, where the handle is that of the
-- last packet of handles before it, and 0 where there is none.
unfoldable pub draw_among : (byte : ℕ) → List (List ℕ) → (at handle : ℕ) → Option Draw
draw_among byte [] at handle = None
draw_among byte (packet ∷ later) at handle =
    if at == byte then Some (draw_of handle packet)
    else draw_among byte later (at + length packet) (handle_behind packet handle)

abbrev pub index_fact : Draw → BufferFact → IndexFact
index_fact draw buffer = record { buffer = buffer; address = draw.address; count = draw.count; bytes = draw.bytes }

abbrev pub indexes_of : KnownModel → Draw → Option IndexFact
indexes_of known draw = option_map (index_fact draw) (named known draw.handle)

unfoldable pub indexes_at : KnownModel → (byte : ℕ) → Option IndexFact
indexes_at known byte = option_and_then (indexes_of known) (draw_among byte (packets known.job.bin) 0 0)

abbrev pub states_fact : KnownModel → StateFact
states_fact known = record { declared = known.job.declared; states = length (states_of (packets known.job.bin)) }

-- what the lists of a job need of their region, from its first byte on, with those of the jobs before it
unfoldable pub region_room : FileModel → (j : ℕ) → RoomFact
region_room f j = record { needs = end_of (layout_of f j) - f.regions.lists_place; has = f.regions.lists_size }
