-- What the tests of a surface open.
use Rattle.std.specs.Prelude.{⊤}
use Rattle.render_list.specs.Surfaces.{is_reversed, is_outside_grid, is_outside_frame, has_unknown_flag, has_unknown_bit, is_unnamed, surface_tiling, surface_pixel, has_unlisted_tiling, has_unlisted_format, is_unaligned, buffer_size, plain_end, is_too_large, is_full_with_bits, full_end, is_too_large_full, is_written}

unfoldable pub tests : ⊤
unfolding is_reversed is_outside_grid is_outside_frame has_unknown_flag has_unknown_bit is_unnamed surface_tiling surface_pixel has_unlisted_tiling has_unlisted_format is_unaligned buffer_size plain_end is_too_large is_full_with_bits full_end is_too_large_full is_written
tests = tt
