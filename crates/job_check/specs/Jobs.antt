-- The jobs of a file, and where the lists of each go.
use Rattle.std.specs.Prelude.{ℕ, zero, suc, ◌+◌, ◌==◌, Bool, not, ◌&&◌, false, nat_le, List, [], length, map, slice_index_or, Option, Some, None, if◌then◌else◌}
use Rattle.std.specs.List.{range_with_len}
use Rattle.bin_list.specs.{declared.seen.Seen.Seen, declared.state.State.State, Packets.packets, Packets.packets_passed, States.states_of}
use Rattle.bin_list.specs.{Seen.seen_before, Emitted.bin_text}
use Rattle.shader_records.specs.{Inputs.InputModel, Emission.emitted_records, Emission.emitted_uniforms, Emitted.streams_place}
use Rattle.job_check.specs.Shaders.{table_of, shaders_of}
use Rattle.tile_memory.specs.Slots.{slot_place}
use Rattle.job_format.specs.{declared.file.Frame.Frame, Model.FileModel, Model.JobModel}
use Rattle.relocation.specs.{declared.layout.Layout.Layout, Layout.layout_at, Layout.lists_end, Layout.begins_after}
use Rattle.render_list.specs.{Surfaces.places_of, Text.render_text, Length.render_length}

-- job j; past the end a job of nothing
abbrev pub no_frame : Frame
no_frame = record { width = 0; height = 0; min_x = 0; min_y = 0; max_x = 0; max_y = 0; surfaces = []; clear = false; clear_color = []; clear_z = 0; clear_s = 0 }

abbrev pub no_job : JobModel
no_job = record { client = 0; handles = []; bin = []; records = []; declared = 0; uniforms = []; frame = no_frame }

unfoldable pub job_of : FileModel → ℕ → JobModel
job_of f j = slice_index_or f.jobs j no_job

-- job j uses tile slot j
unfoldable pub slot_of : FileModel → ℕ → ℕ
slot_of f j = slot_place f.regions.tile_place j

-- the absolute places of the surfaces of job j
unfoldable pub places_in : FileModel → ℕ → List (Option ℕ)
places_in f j = places_of (job_of f j).frame (table_of f) (job_of f j).handles

-- job j has a binner list
unfoldable pub has_bin : FileModel → ℕ → Bool
has_bin f j = not (length (job_of f j).bin == 0)

-- the binner's grid in tiles across and down, where job j has a binner list
abbrev pub grid_from : Seen → ℕ × ℕ
grid_from seen = (seen.tiles_x, seen.tiles_y)

unfoldable pub grid_of : FileModel → ℕ → Option (ℕ × ℕ)
grid_of f j = if has_bin f j then Some (grid_from (seen_before (packets_passed (job_of f j).bin))) else None

-- the renderer list of job j
unfoldable pub render_list_of : FileModel → ℕ → List ℕ
render_list_of f j = render_text (job_of f j).frame (places_in f j) (grid_of f j) (slot_of f j)

-- the smallest tile isn't over the largest
unfoldable pub has_tiles : Frame → Bool
has_tiles frame = nat_le frame.min_x frame.max_x && nat_le frame.min_y frame.max_y

-- The room of the renderer list in the layout: its length, and nothing where the tile set is reversed, which a rule
-- on the frame refuses.
unfoldable pub render_room : Frame → Bool → ℕ
render_room frame has_bin = if has_tiles frame then render_length frame has_bin else 0

-- the room that the lists of job j take, by the sizes of their sources
unfoldable pub lists_room : FileModel → ℕ → ℕ
lists_room f j = lists_end (length (job_of f j).bin) (length (job_of f j).records) (length (job_of f j).uniforms) (render_room (job_of f j).frame (has_bin f j))

-- where they begin: those of job 0 with the lists' region, and those of each further job behind the lists of the job before it
unfoldable pub lists_begin : FileModel → ℕ → ℕ
lists_begin f zero = f.regions.lists_place
lists_begin f (suc j) = begins_after (lists_begin f j) (lists_room f j)

-- where the lists of job j lie
unfoldable pub layout_of : FileModel → ℕ → Layout
layout_of f j = layout_at (lists_begin f j) (length (job_of f j).bin) (length (job_of f j).records) (length (job_of f j).uniforms) (render_room (job_of f j).frame (has_bin f j)) (slot_of f j)

-- where those of all jobs lie
unfoldable pub layouts_of : FileModel → List Layout
layouts_of f = map (layout_of f) (range_with_len 0 (length f.jobs))

-- where in memory the lists with this layout end
abbrev pub end_of : Layout → ℕ
end_of layout = layout.place + layout.end

-- the shader states of job j
unfoldable pub states_in : FileModel → ℕ → List State
states_in f j = states_of (packets (job_of f j).bin)

-- what the check of the shader records of job j is given
unfoldable pub input_for : FileModel → ℕ → InputModel
input_for f j = record { states = states_in f j; records = (job_of f j).records; uniforms = (job_of f j).uniforms; table = table_of f; handles = (job_of f j).handles; shaders = shaders_of f }

-- The lists that the hardware is given for job j. Where the file gives no binner list, nothing is emitted of its records
-- and uniforms either.
unfoldable pub bin_list_of : FileModel → ℕ → List ℕ
bin_list_of f j = if has_bin f j then bin_text (job_of f j).bin (job_of f j).declared (table_of f) (job_of f j).handles (layout_of f j) else []

unfoldable pub records_of : FileModel → ℕ → List ℕ
records_of f j = if has_bin f j then emitted_records (input_for f j) (streams_place (layout_of f j)) else []

unfoldable pub streams_of : FileModel → ℕ → List ℕ
streams_of f j = if has_bin f j then emitted_uniforms (input_for f j) (streams_place (layout_of f j)) else []
