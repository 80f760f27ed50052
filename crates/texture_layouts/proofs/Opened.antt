-- What the functions of a module open.
use Rattle.std.specs.Prelude.{⊤}
use Rattle.texture_layouts.specs.Setup.{texture_of, faces_of, base_of, is_cube_word, levels_of, type_of, kind_of, stride_of, cube_stride_of, pixel_bytes_of, pixels_of, side_of}
use Rattle.texture_layouts.specs.Fits.{is_unlisted}

unfoldable pub setup : ⊤
unfolding texture_of faces_of is_unlisted base_of is_cube_word levels_of type_of kind_of stride_of cube_stride_of pixel_bytes_of pixels_of side_of
setup = tt
