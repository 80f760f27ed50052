-- The opcodes of control lists, by the hardware guide's names of their packets.
use Rattle.std.specs.Prelude.{ℕ}

abbrev pub halt : ℕ
halt = 0

abbrev pub nop : ℕ
nop = 1

abbrev pub flush : ℕ
flush = 4

abbrev pub start_tile_binning : ℕ
start_tile_binning = 6

abbrev pub increment_semaphore : ℕ
increment_semaphore = 7

abbrev pub wait_on_semaphore : ℕ
wait_on_semaphore = 8

abbrev pub branch_to_sub_list : ℕ
branch_to_sub_list = 17

abbrev pub store_tile_color : ℕ
store_tile_color = 24

abbrev pub store_tile_color_and_end : ℕ
store_tile_color_and_end = 25

abbrev pub store_full_resolution : ℕ
store_full_resolution = 26

abbrev pub load_full_resolution : ℕ
load_full_resolution = 27

abbrev pub store_tile_buffer : ℕ
store_tile_buffer = 28

abbrev pub load_tile_buffer : ℕ
load_tile_buffer = 29

abbrev pub indexed_primitive_list : ℕ
indexed_primitive_list = 32

abbrev pub array_primitive_list : ℕ
array_primitive_list = 33

abbrev pub primitive_list_format : ℕ
primitive_list_format = 56

abbrev pub gl_shader_state : ℕ
gl_shader_state = 64

abbrev pub configuration_bits : ℕ
configuration_bits = 96

abbrev pub flat_shade_flags : ℕ
flat_shade_flags = 97

abbrev pub point_size : ℕ
point_size = 98

abbrev pub line_width : ℕ
line_width = 99

abbrev pub rht_x_boundary : ℕ
rht_x_boundary = 100

abbrev pub depth_offset : ℕ
depth_offset = 101

abbrev pub clip_window : ℕ
clip_window = 102

abbrev pub viewport_offset : ℕ
viewport_offset = 103

abbrev pub clipper_xy_scaling : ℕ
clipper_xy_scaling = 105

abbrev pub clipper_z_scaling : ℕ
clipper_z_scaling = 106

abbrev pub tile_binning_mode : ℕ
tile_binning_mode = 112

abbrev pub tile_rendering_mode : ℕ
tile_rendering_mode = 113

abbrev pub clear_colors : ℕ
clear_colors = 114

abbrev pub tile_coordinates : ℕ
tile_coordinates = 115

abbrev pub buffer_handles : ℕ
buffer_handles = 254
