-- How long a packet is, in a binner list and in a renderer list.
use Rattle.std.specs.Prelude.{ℕ, ◌==◌, ◌||◌, if◌then◌else◌}
use Rattle.packets.specs.Opcode.{halt, nop, flush, start_tile_binning, increment_semaphore, indexed_primitive_list, array_primitive_list, primitive_list_format, gl_shader_state, configuration_bits, flat_shade_flags, point_size, line_width, rht_x_boundary, depth_offset, clip_window, viewport_offset, clipper_xy_scaling, clipper_z_scaling, tile_binning_mode, buffer_handles, branch_to_sub_list, store_full_resolution, load_full_resolution, store_tile_buffer, load_tile_buffer, tile_rendering_mode, clear_colors, tile_coordinates}

-- The bytes of a packet by its opcode, the opcode among them; 0 where no packet of a binner list has
-- this opcode.
unfoldable pub bin_length : ℕ → ℕ
bin_length o =
    if (o == halt) || ((o == nop) || ((o == flush) || ((o == start_tile_binning) || (o == increment_semaphore)))) then 1
    else (if o == primitive_list_format then 2
    else (if o == rht_x_boundary then 3
    else (if o == configuration_bits then 4
    else (if (o == gl_shader_state) || ((o == flat_shade_flags) || ((o == point_size) || ((o == line_width) || ((o == depth_offset) || (o == viewport_offset))))) then 5
    else (if (o == clip_window) || ((o == clipper_xy_scaling) || ((o == clipper_z_scaling) || (o == buffer_handles))) then 9
    else (if o == array_primitive_list then 10
    else (if o == indexed_primitive_list then 14
    else (if o == tile_binning_mode then 16
    else 0))))))))

-- The bytes by which a reader goes on: those of the packet, and one where no packet has this opcode.
unfoldable pub bin_taken : ℕ → ℕ
bin_taken o = if bin_length o == 0 then 1 else bin_length o

-- The bytes by which a reader of a renderer list goes on by a packet's opcode: those of the packet, and
-- one where no packet of a renderer list has this opcode.
unfoldable pub render_taken : ℕ → ℕ
render_taken o =
    if o == clear_colors then 14
    else (if o == tile_rendering_mode then 11
    else (if (o == store_tile_buffer) || (o == load_tile_buffer) then 7
    else (if (o == branch_to_sub_list) || ((o == store_full_resolution) || (o == load_full_resolution)) then 5
    else (if o == tile_coordinates then 3
    else 1))))
