-- What lies at a place of the memory of an accepted file: a tile slot, a list of a job, or a buffer.
use Rattle.std.specs.Prelude.{ℕ, ◌+◌, ◌-◌, ◌*◌, ◌/◌, ◌%◌, ◌&&◌, nat_le, nat_lt, Bool, List, [], ◌∷◌, if◌then◌else◌}
use Rattle.field_words.specs.Sizes.{slot_size}
use Rattle.buffer_table.specs.declared.buffer.Buffer.{Buffer}
use Rattle.job_format.specs.Model.{FileModel}
use Rattle.relocation.specs.declared.layout.Layout.{Layout}
use Rattle.run_text.specs.declared.spot.Spot.TheVariants.{Slot, BinList, Records, Uniforms, RenderList, Spare, InBuffer, Nowhere}
use Rattle.run_text.specs.declared.spot.Spot.{Spot as TheSpot}

-- the place is one of so many bytes
abbrev pub is_in : (begin size place : ℕ) → Bool
is_in begin size place = nat_le begin place && nat_lt place (begin + size)

-- which of a job's lists lies so far behind where its lists begin, and how far into it: each has the room up to the next one
unfoldable pub list_spot : Layout → (job offset : ℕ) → TheSpot
list_spot layout job offset =
    if nat_lt offset layout.records then BinList job offset
    else (if nat_lt offset layout.uniforms then Records job (offset - layout.records)
    else (if nat_lt offset layout.render then Uniforms job (offset - layout.uniforms) else RenderList job (offset - layout.render)))

-- that of the first job whose lists hold the place; the first of these jobs has this number
unfoldable pub lists_spot : (job : ℕ) → List Layout → (place : ℕ) → TheSpot
lists_spot job [] place = Spare
lists_spot job (layout ∷ layouts) place =
    if is_in layout.place layout.end place then list_spot layout job (place - layout.place) else lists_spot (job + 1) layouts place

-- the first buffer that holds the place, and how far into it
unfoldable pub buffer_spot : (number : ℕ) → List Buffer → (place : ℕ) → TheSpot
buffer_spot number [] place = Nowhere
buffer_spot number (buffer ∷ buffers) place =
    if is_in buffer.place buffer.size place then InBuffer number (place - buffer.place) else buffer_spot (number + 1) buffers place

-- how far the place is into the tile slots: which one, and how far into it
unfoldable pub slot_spot : (into : ℕ) → TheSpot
slot_spot into = Slot (into / slot_size) (into % slot_size)

-- What lies at a place of the memory of a file, whose jobs' lists lie as these layouts say.
unfoldable pub spot_of : FileModel → List Layout → (place : ℕ) → TheSpot
spot_of file layouts place =
    if is_in file.regions.tile_place (slot_size * file.regions.tile_slots) place then slot_spot (place - file.regions.tile_place)
    else (if is_in file.regions.lists_place file.regions.lists_size place then lists_spot 0 layouts place else buffer_spot 0 file.buffers place)
