-- What a field's number means, as it is said behind the number.
use Rattle.std.specs.Prelude.{ℕ, ◌++◌, List, [], map, codes, decimal, ◌==◌, ◌%◌, ◌/◌, ◌^◌, Option, Some, None, if◌then◌else◌}
use Rattle.packets.specs.StateWord.{attribute_count, is_extended}
use Rattle.texture_layouts.specs.declared.surface.Tiling.TheVariants.{Raster, T, Lt}
use Rattle.texture_layouts.specs.{declared.surface.Tiling.Tiling, declared.format.Style.Style, Format.general_style, Format.frame_style}
use Rattle.texture_layouts.specs.Surface.{size_for}
use Rattle.job_text.specs.declared.note.Field.TheVariants.{Word, Kind, Flags, HandleIndex, FrameBits, GeneralBits, SurfaceFlags, PrimitiveMode, IndexMode, StateWord, ConfigurationBits, PointWidth, CenterX, CenterY, ScaleX, ScaleY, ScaleZ, OffsetZ, BinnerFlags, RecordFlags, Address}
use Rattle.job_text.specs.declared.note.Field.{Field}
use Rattle.job_text.specs.declared.meanings.TheConstants.{DEPTHS}
use Rattle.job_text.specs.Floats.{float_text, sixteenths_text}
use Rattle.qpu_text.specs.{Load.hex_text, Pieces.named_in, Pieces.if_so}

abbrev pub tiling_name : Tiling → List ℕ
tiling_name Raster = codes "raster"
tiling_name T = codes "T"
tiling_name Lt = codes "Lt"

-- how a surface's pixels lie
abbrev pub style_text : Option Style → List ℕ
style_text None = codes " (no tiling or no format)"
style_text (Some style) = codes " (" ++ (tiling_name style.tiling ++ (codes " tiling, " ++ (decimal style.cpp ++ codes " bytes a pixel)")))

-- how the pixels of a surface lie, by the bits of its field
abbrev pub bits_style : Field → ℕ → Option Style
bits_style FrameBits n = frame_style (n % 65536)
bits_style GeneralBits n = general_style (n % 65536)
bits_style field n = None

-- the bytes that a surface of a frame's width and height takes
abbrev pub size_text : Option Style → ℕ → ℕ → List ℕ
size_text None width height = []
size_text (Some style) width height = codes ", " ++ (decimal (size_for style.tiling width height style.cpp) ++ codes " bytes")

-- which primitives the vertices make
unfoldable pub mode_name : ℕ → List ℕ
mode_name n =
    if n == 0 then codes "points"
    else (if n == 1 then codes "lines"
    else (if n == 2 then codes "line loop"
    else (if n == 3 then codes "line strip"
    else (if n == 4 then codes "triangles"
    else (if n == 5 then codes "triangle strip"
    else (if n == 6 then codes "triangle fan"
    else codes "no mode"))))))

-- the bytes of an index: one where bits 7:4 of the mode are zero
unfoldable pub index_text : ℕ → List ℕ
index_text n = if n / 16 == 0 then codes "; 1 byte an index)" else codes "; 2 bytes an index)"

unfoldable pub kind_text : ℕ → List ℕ
kind_text n = if n == 0 then codes " (data)" else (if n == 1 then codes " (code)" else codes " (no kind)")

-- what a shader state's word says of its record
unfoldable pub extended_text : ℕ → List ℕ
extended_text n = if is_extended n then codes ", extended)" else codes ")"

unfoldable pub state_text : ℕ → List ℕ
state_text n = codes " (attributes: " ++ (decimal (attribute_count n) ++ extended_text n)

-- a flag of the configuration bits by its name, where it is set
unfoldable pub flag_text : ℕ → ℕ → List ℕ → List ℕ
flag_text n bit name = if_so (n / 2 ^ bit % 2 == 1) name

-- those of faces, of edges and samples, and of depths
unfoldable pub face_flags : ℕ → List ℕ
face_flags n =
    flag_text n 0 (codes ", front faces") ++ (flag_text n 1 (codes ", back faces") ++ flag_text n 2 (codes ", clockwise is front"))

unfoldable pub edge_flags : ℕ → List ℕ
edge_flags n =
    flag_text n 3 (codes ", depth offset") ++ (flag_text n 4 (codes ", smooth points and lines") ++ flag_text n 6 (codes ", four samples a pixel"))

unfoldable pub depth_flags : ℕ → List ℕ
depth_flags n =
    flag_text n 15 (codes ", depth written") ++ (flag_text n 16 (codes ", early depth test") ++ flag_text n 17 (codes ", early depth written"))

unfoldable pub flags_text : ℕ → List ℕ
flags_text n = face_flags n ++ (edge_flags n ++ depth_flags n)

-- the function of the depth test
unfoldable pub depth_text : ℕ → List ℕ
depth_text n = codes " (depth test " ++ named_in (map (λ row. row.now) DEPTHS) (n / 4096 % 8)

unfoldable pub configuration_text : ℕ → List ℕ
configuration_text n = depth_text n ++ (flags_text n ++ codes ")")

-- what the number of a field means; nothing where the name says it
abbrev pub field_meaning : Field → ℕ → List ℕ
field_meaning (Word name) n = codes " (" ++ (hex_text n ++ codes ")")
field_meaning Address n = codes " (" ++ (hex_text n ++ codes ")")
field_meaning ConfigurationBits n = configuration_text n
field_meaning PointWidth n = float_text n
field_meaning CenterX n = sixteenths_text (n % 65536)
field_meaning CenterY n = sixteenths_text (n % 65536)
field_meaning ScaleX n = float_text n
field_meaning ScaleY n = float_text n
field_meaning ScaleZ n = float_text n
field_meaning OffsetZ n = float_text n
field_meaning Kind n = kind_text n
field_meaning Flags n = if_so (n == 1) (codes " (the clear values are used)")
field_meaning HandleIndex n = if_so (n == 4294967295) (codes " (absent)")
field_meaning FrameBits n = style_text (frame_style (n % 65536))
field_meaning GeneralBits n = style_text (general_style (n % 65536))
field_meaning SurfaceFlags n = if_so (n % 2 == 1) (codes " (full resolution)")
field_meaning PrimitiveMode n = codes " (" ++ (mode_name (n % 16) ++ codes ")")
field_meaning IndexMode n = codes " (" ++ (mode_name (n % 16) ++ index_text n)
field_meaning StateWord n = state_text n
field_meaning BinnerFlags n = if_so (n % 2 == 1) (codes " (four samples a pixel)")
field_meaning RecordFlags n = if_so (n % 2 == 1) (codes " (single-threaded)")
field_meaning field n = []
