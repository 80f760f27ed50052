-- How long a renderer list is: each packet has its length, and each tile has the same packets, but for
-- the byte before the first tile that waits for the binner.
use Rattle.std.specs.Prelude.{ℕ, ◌+◌, ◌*◌, ◌||◌, Bool, false, if◌then◌else◌}
use Rattle.job_format.specs.declared.file.Frame.{Frame}
use Rattle.render_list.specs.{Frame.surface_at, Frame.is_present, Frame.is_full, Frame.tiles_across, Frame.tiles_down, Text.number_where}

-- a load in full resolution has 5 bytes, another 7
unfoldable pub load_size : Frame → ℕ → ℕ
load_size frame k = if is_full k (surface_at frame k) then 5 else 7

-- the two loads, and 10 bytes between them
unfoldable pub loads_size : Frame → Bool → Bool → ℕ
loads_size frame color zs = number_where color (load_size frame 0) + number_where zs (number_where color 10 + load_size frame 2)

-- a write, and 3 bytes of coordinates where another came before
abbrev pub write_size : Bool → Bool → ℕ → ℕ
write_size present some_before packet = number_where present (number_where some_before 3 + packet)

-- the writes: multisample colour, multisample ZS, ZS, colour
unfoldable pub writes_size : Bool → Bool → Bool → Bool → ℕ
writes_size multisample_color multisample_zs zs color =
    write_size multisample_color false 5
    + (write_size multisample_zs multisample_color 5
    + (write_size zs (multisample_color || multisample_zs) 7
    + write_size color ((multisample_color || multisample_zs) || zs) 1))

-- the loads by the surfaces that the frame has
abbrev pub frame_loads : Frame → ℕ
frame_loads frame = loads_size frame (is_present (surface_at frame 0)) (is_present (surface_at frame 2))

abbrev pub frame_writes : Frame → ℕ
frame_writes frame =
    writes_size (is_present (surface_at frame 4)) (is_present (surface_at frame 5)) (is_present (surface_at frame 3)) (is_present (surface_at frame 1))

-- loads, coordinates, with a binner list the branch to the tile's own list, and writes
unfoldable pub tile_size : Frame → Bool → ℕ
tile_size frame has_bin = frame_loads frame + (3 + (number_where has_bin 5 + frame_writes frame))

-- the head, the clear part and the tiles
unfoldable pub render_length : Frame → Bool → ℕ
render_length frame has_bin =
    11 + (number_where frame.clear 24 + (tiles_down frame * (tiles_across frame * tile_size frame has_bin) + number_where has_bin 1))
