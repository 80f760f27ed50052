-- The facts of a refusal of a file: what the file says at the refusal's place, by its rule.
use Rattle.std.specs.Prelude.{ℕ, ◌+◌, ◌-◌, ◌/◌, ◌==◌, ◌||◌, Bool, nat_lt, List, [], length, slice_get, option_map, option_and_then, unwrap_or, Option, Some, None, if◌then◌else◌}
use Rattle.field_words.specs.Questions.{first_of}
use Rattle.job_format.specs.declared.rule.Stage.TheVariants.{F, M, H, B, A, U, G, X}
use Rattle.job_format.specs.{declared.rule.Refusal.Refusal, declared.rule.FormatFault.FormatFault, declared.rule.Place.Place, declared.rule.Stage.Stage}
use Rattle.job_format.specs.{Faults.format_questions, Model.FileModel, Reading.file_at}
use Rattle.job_check.specs.{Faults.shaders_stage, Jobs.job_of, Shaders.shaders_of}
use Rattle.job_format.specs.{declared.file.Frame.Frame, declared.file.Surface.Surface}
use Rattle.qpu_isa.specs.Shader.{ShaderModel}
use Rattle.render_list.specs.Surfaces.{plain_end, full_end}
use Rattle.refusal_facts.specs.declared.fact.Facts.{Facts}
use Rattle.refusal_facts.specs.declared.fact.Facts.TheVariants.{Nothing, Room, Off, Past, Pair, Handle, Level, Name, Pixels, Tile, Indexes, States, Region}
use Rattle.refusal_facts.specs.declared.fact.Facts.TheVariants.{Surface as SurfaceEnd}
use Rattle.refusal_facts.specs.{Cuts.cut_at, Items.items_in, Items.index_of, Items.item_fact, Items.pair_at, Items.content_room}
use Rattle.refusal_facts.specs.{Lists.indexes_at, Lists.states_fact, Lists.region_room, Named.KnownModel, Named.handle_at, Named.name_at, Named.end_at}
use Rattle.refusal_facts.specs.{Records.record_facts, Sources.source_at, Textures.texture_end}

-- M2 to M5, of an item of the memory table; one past the last is none
abbrev pub item_facts : FileModel → (number k : ℕ) → Option Facts
item_facts f number k =
    if number == 2 then Some (Off (item_fact (items_in f) k))
    else (if number == 3 then Some (Past (record { item = item_fact (items_in f) k; memory = f.mem_size }))
    else (if number == 4 then option_map Pair (pair_at (items_in f) k)
    else (if number == 5 then Some (Room (content_room (items_in f) k)) else None)))

unfoldable pub table_facts : FileModel → (number k : ℕ) → Option Facts
table_facts f number k = if nat_lt k (2 + length f.buffers) then item_facts f number k else None

-- B10 and B12, of a job, at a byte of its binner list
unfoldable pub bin_facts : KnownModel → (number at : ℕ) → Option Facts
bin_facts known number at =
    if number == 10 then option_map Indexes (indexes_at known at)
    else (if number == 12 then Some (States (states_fact known)) else None)

-- one of a frame's sides is over the limit
unfoldable pub is_wide : Frame → Bool
is_wide frame = nat_lt 4096 frame.width || nat_lt 4096 frame.height

-- G10 of a surface: the frame's sides, or where the surface ends
unfoldable pub large_facts : KnownModel → (k : ℕ) → Surface → Option Facts
large_facts known k surface =
    if is_wide known.job.frame then Some (Pixels (record { width = known.job.frame.width; height = known.job.frame.height }))
    else option_map SurfaceEnd (end_at known surface.hindex (plain_end known.job.frame k surface))

-- G6, G10 and G12, of surface k of a job
unfoldable pub surface_facts : KnownModel → (number k : ℕ) → Surface → Option Facts
surface_facts known number k surface =
    if number == 6 then Some (Name (name_at known surface.hindex))
    else (if number == 10 then large_facts known k surface
    else (if number == 12 then option_map Tile (end_at known surface.hindex (full_end known.job.frame surface)) else None))

abbrev pub frame_facts : KnownModel → (number k : ℕ) → Option Facts
frame_facts known number k = option_and_then (surface_facts known number k) (slice_get known.job.frame.surfaces k)

-- U7, of a job, at a place in its uniforms
abbrev pub uniform_facts : KnownModel → (number : ℕ) → Place → Option Facts
uniform_facts known number place =
    if number == 7 then option_map Level (option_and_then (texture_end known place.at) (source_at known place)) else None

-- H1, B, A, U and G, of a job, at a place in its handles, its binner list, its records, its uniforms or its entry
unfoldable pub job_facts : KnownModel → Stage → (number : ℕ) → Place → Option Facts
job_facts known H number place = option_map Handle (handle_at known (place.at / 4))
job_facts known B number place = bin_facts known number place.at
job_facts known A number place = option_and_then (record_facts known number place.at) (source_at known place)
job_facts known U number place = uniform_facts known number place
job_facts known G number place = frame_facts known number ((place.at - 36) / 12)
job_facts known stage number place = None

abbrev pub known_in : FileModel → List (Option ShaderModel) → (j : ℕ) → KnownModel
known_in f shaders j = record { job = job_of f j; buffers = f.buffers; shaders = shaders }

-- What is known of the shaders, by buffer: nothing where a rule on one is broken. Only A and U speak of them.
abbrev pub shaders_unless : FileModel → Option Refusal → List (Option ShaderModel)
shaders_unless f None = shaders_of f
shaders_unless f (Some refusal) = []

abbrev pub known_shaders : FileModel → List (Option ShaderModel)
known_shaders f = shaders_unless f (first_of (shaders_stage f))

unfoldable pub shaders_for : FileModel → Stage → List (Option ShaderModel)
shaders_for f A = known_shaders f
shaders_for f U = known_shaders f
shaders_for f stage = []

-- of a file that was read: M, and X1 and the others of a job of this number, where there is one
unfoldable pub file_facts : FileModel → List (Option ShaderModel) → Stage → (number : ℕ) → Place → Option Facts
file_facts f shaders M number place = table_facts f number (index_of place)
file_facts f shaders X number place = if nat_lt place.index (length f.jobs) then Some (Region (region_room f place.index)) else None
file_facts f shaders stage number place =
    if nat_lt place.index (length f.jobs) then job_facts (known_in f shaders place.index) stage number place else None

abbrev pub read_facts : List ℕ → Option FormatFault → Stage → (number : ℕ) → Place → Option Facts
read_facts bytes None stage number place = file_facts (file_at bytes) (shaders_for (file_at bytes) stage) stage number place
read_facts bytes (Some fault) stage number place = None

-- F2 of a part
abbrev pub format_facts : List ℕ → (number : ℕ) → Place → Option Facts
format_facts bytes number place = if number == 2 then Some (Room (cut_at bytes place)) else None

-- by stage: those of the format of the bytes, and all others of the file that the bytes hold, where they hold one
unfoldable pub stage_facts : List ℕ → Stage → (number : ℕ) → Place → Option Facts
stage_facts bytes F number place = format_facts bytes number place
stage_facts bytes stage number place = read_facts bytes (first_of (format_questions bytes)) stage number place

unfoldable pub facts_of : List ℕ → Refusal → Facts
facts_of bytes refusal = unwrap_or (stage_facts bytes refusal.rule.stage refusal.rule.number refusal.place) Nothing
