-- The fields of a binner list's packets, and what is said of them.
use Rattle.std.specs.Prelude.{ℕ, List, [], ◌∷◌, ◌++◌, take, drop, codes, decimal, ◌==◌, if◌then◌else◌}
use Rattle.field_words.specs.Words.{u32_at}
use Rattle.packets.specs.Opcode.{halt, nop, flush, start_tile_binning, increment_semaphore, indexed_primitive_list, array_primitive_list, primitive_list_format, gl_shader_state, configuration_bits, flat_shade_flags, point_size, line_width, rht_x_boundary, depth_offset, clip_window, viewport_offset, clipper_xy_scaling, clipper_z_scaling, tile_binning_mode, buffer_handles}
use Rattle.job_text.specs.declared.note.Field.TheVariants.{Address, BinnerFlags, Boundary, CenterX, CenterY, ClipBottom, ClipLeft, ConfigurationBits, DepthFactor, DepthUnits, FirstIndex, FlatFlags, FurtherHandle, Height, IndexHandle, IndexMode, Length, ListFormat, ListsAddress, ListsBytes, MaxIndex, OffsetZ, PointWidth, PrimitiveMode, ScaleX, ScaleY, ScaleZ, StateWord, StatesAddress, TilesAcross, TilesDown, Width}
use Rattle.job_text.specs.{declared.note.Field.Field, Names.field_name, Names.field_size, Meanings.field_meaning}

-- the name of the packet of an opcode, and the fields behind the opcode, in order
unfoldable pub packet_row : ℕ → List ℕ × List Field
packet_row o =
    if o == halt then (codes "halt", [])
    else (if o == nop then (codes "nop", [])
    else (if o == flush then (codes "flush", [])
    else (if o == start_tile_binning then (codes "start of tile binning", [])
    else (if o == increment_semaphore then (codes "increment of the semaphore", [])
    else (if o == indexed_primitive_list then (codes "indexed primitive list", IndexMode ∷ Length ∷ Address ∷ MaxIndex ∷ [])
    else (if o == array_primitive_list then (codes "array primitive list", PrimitiveMode ∷ Length ∷ FirstIndex ∷ [])
    else (if o == primitive_list_format then (codes "primitive list format", ListFormat ∷ [])
    else (if o == gl_shader_state then (codes "GL shader state", StateWord ∷ [])
    else (if o == configuration_bits then (codes "configuration bits", ConfigurationBits ∷ [])
    else (if o == flat_shade_flags then (codes "flat shade flags", FlatFlags ∷ [])
    else (if o == point_size then (codes "point size", PointWidth ∷ [])
    else (if o == line_width then (codes "line width", PointWidth ∷ [])
    else (if o == rht_x_boundary then (codes "right hand triangle x boundary", Boundary ∷ [])
    else (if o == depth_offset then (codes "depth offset", DepthFactor ∷ DepthUnits ∷ [])
    else (if o == clip_window then (codes "clip window", ClipLeft ∷ ClipBottom ∷ Width ∷ Height ∷ [])
    else (if o == viewport_offset then (codes "viewport offset", CenterX ∷ CenterY ∷ [])
    else (if o == clipper_xy_scaling then (codes "clipper xy scaling", ScaleX ∷ ScaleY ∷ [])
    else (if o == clipper_z_scaling then (codes "clipper z scaling", ScaleZ ∷ OffsetZ ∷ [])
    else (if o == tile_binning_mode then (
      codes "tile binning mode configuration",
      ListsAddress ∷ ListsBytes ∷ StatesAddress ∷ TilesAcross ∷ TilesDown ∷ BinnerFlags ∷ [],
    )
    else (if o == buffer_handles then (codes "buffer handles", IndexHandle ∷ FurtherHandle ∷ [])
    else (codes "no packet", [])))))))))))))))))))))

-- a field's name and number, and what the number means
unfoldable pub field_valued : Field → List ℕ → List ℕ
field_valued field bytes =
    field_name field ++ (codes " " ++ (decimal (u32_at bytes 0) ++ field_meaning field (u32_at bytes 0)))

-- the fields that bytes hold one after the other
unfoldable pub fields_text : List Field → List ℕ → List ℕ
fields_text [] bytes = []
fields_text (field ∷ fields) bytes =
    (codes ", " ++ field_valued field (take (field_size field) bytes)) ++ fields_text fields (drop (field_size field) bytes)

-- the name of a packet, and its fields
unfoldable pub packet_text : ℕ → List ℕ → List ℕ
packet_text o bytes = (packet_row o).0 ++ fields_text (packet_row o).1 bytes
