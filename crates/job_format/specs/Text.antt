-- The text of a job file: its parts, one after the other. All numbers are little
-- endian.
use Rattle.std.specs.Prelude.{ℕ, Bool, true, false, List, [], ◌∷◌, ◌++◌, length, codes, flat_map}
use Rattle.field_words.specs.{Pieces.joined_texts, WordBytes.half, WordBytes.word}
use Rattle.buffer_table.specs.{declared.buffer.Kind.Kind, declared.buffer.Kind.TheVariants.Plain, declared.buffer.Kind.TheVariants.Code}
use Rattle.buffer_table.specs.declared.buffer.Buffer.{Buffer}
use Rattle.job_format.specs.{declared.file.Surface.Surface, declared.file.Frame.Frame, Model.JobModel, Model.FileModel}

-- 36 bytes: the magic, the version, the memory's size, the two regions, the counts
unfoldable pub header_text : FileModel → List ℕ
header_text f = codes "VC4J" ++ (word f.version ++ (word f.mem_size ++ (word f.regions.lists_place ++ (word f.regions.lists_size ++ (word f.regions.tile_place ++ (word f.regions.tile_slots ++ (word (length f.buffers) ++ word (length f.jobs))))))))

abbrev pub kind_number : Kind → ℕ
kind_number Plain = 0
kind_number Code = 1

-- 20 bytes
unfoldable pub buffer_text : Buffer → List ℕ
buffer_text b = word b.place ++ (word b.size ++ (word b.client ++ (word (kind_number b.kind) ++ word b.content)))

-- 12 bytes
unfoldable pub surface_text : Surface → List ℕ
surface_text s = word s.hindex ++ (word s.offset ++ (half s.bits ++ half s.flags))

abbrev pub flag : Bool → ℕ
flag true = 1
flag false = 0

-- 96 bytes: the frame's size, tiles and surfaces, the values to clear with, and three zeros
unfoldable pub frame_text : Frame → List ℕ
frame_text f = half f.width ++ (half f.height ++ ((f.min_x ∷ f.min_y ∷ f.max_x ∷ f.max_y ∷ []) ++ (flat_map surface_text f.surfaces ++ (flat_map word f.clear_color ++ (word f.clear_z ++ (f.clear_s ∷ 0 ∷ 0 ∷ 0 ∷ []))))))

-- 124 bytes: client, flags, the lengths of the job's parts, and its frame
unfoldable pub job_text : JobModel → List ℕ
job_text j = word j.client ++ (word (flag j.frame.clear) ++ (word (length j.handles) ++ (word (length j.bin) ++ (word (length j.records) ++ (word j.declared ++ (word (length j.uniforms) ++ frame_text j.frame))))))

-- what a job's parts hold: handles, binner list, records, uniforms
unfoldable pub parts_text : JobModel → List ℕ
parts_text j = flat_map word j.handles ++ (j.bin ++ (j.records ++ j.uniforms))

-- the whole file
unfoldable pub file_text : FileModel → List ℕ
file_text f = header_text f ++ (flat_map buffer_text f.buffers ++ (flat_map job_text f.jobs ++ (joined_texts f.contents ++ flat_map parts_text f.jobs)))
