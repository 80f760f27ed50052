-- How many steps a renderer list takes: each of its packets one, and one more where a tile's own list that it went into is left. Each tile
-- has the same packets, but for the one before the first tile that waits for the binner.
use Rattle.std.specs.Prelude.{ℕ, ◌+◌, ◌*◌, ◌||◌, Bool, false}
use Rattle.job_format.specs.declared.file.Frame.{Frame}
use Rattle.render_list.specs.{Frame.surface_at, Frame.is_present, Frame.tiles_across, Frame.tiles_down, Text.number_where}

-- the two loads, and two packets between them
unfoldable pub loads_steps : Bool → Bool → ℕ
loads_steps color zs = number_where color 1 + number_where zs (number_where color 2 + 1)

-- a write, and coordinates where another came before
abbrev pub write_steps : Bool → Bool → ℕ
write_steps present some_before = number_where present (number_where some_before 1 + 1)

-- the writes: multisample colour, multisample ZS, ZS, colour
unfoldable pub writes_steps : Bool → Bool → Bool → Bool → ℕ
writes_steps multisample_color multisample_zs zs color =
    write_steps multisample_color false
    + (write_steps multisample_zs multisample_color
    + (write_steps zs (multisample_color || multisample_zs)
    + write_steps color ((multisample_color || multisample_zs) || zs)))

-- the loads by the surfaces that the frame has
abbrev pub frame_loads : Frame → ℕ
frame_loads frame = loads_steps (is_present (surface_at frame 0)) (is_present (surface_at frame 2))

abbrev pub frame_writes : Frame → ℕ
frame_writes frame =
    writes_steps (is_present (surface_at frame 4)) (is_present (surface_at frame 5)) (is_present (surface_at frame 3)) (is_present (surface_at frame 1))

-- loads, coordinates, with a binner list the tile's own list, which is gone into and left, and writes
unfoldable pub tile_steps : Frame → Bool → ℕ
tile_steps frame has_bin = frame_loads frame + (1 + (number_where has_bin 2 + frame_writes frame))

-- the head, the clear part and the tiles
unfoldable pub frame_steps : Frame → Bool → ℕ
frame_steps frame has_bin =
    1 + (number_where frame.clear 3 + (tiles_down frame * (tiles_across frame * tile_steps frame has_bin) + number_where has_bin 1))
