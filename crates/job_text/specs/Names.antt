-- What a line says of its bytes.
use Rattle.std.specs.Prelude.{ℕ, ◌++◌, List, [], codes, decimal, Option, Some, None}
use Rattle.job_text.specs.declared.note.Field.TheVariants.{Plain, Word, Kind, Flags, Width, Height, HandleIndex, FrameBits, GeneralBits, SurfaceFlags, PrimitiveMode, IndexMode, Length, FirstIndex, MaxIndex, ListFormat, StateWord, ConfigurationBits, FlatFlags, PointWidth, Boundary, DepthFactor, DepthUnits, ClipLeft, ClipBottom, CenterX, CenterY, ScaleX, ScaleY, ScaleZ, OffsetZ, ListsAddress, ListsBytes, StatesAddress, TilesAcross, TilesDown, BinnerFlags, IndexHandle, FurtherHandle, RecordFlags, Address}
use Rattle.job_text.specs.declared.note.Role.TheVariants.{ColorRead, ColorWrite, ZsRead, ZsWrite, SampleColorWrite, SampleZsWrite}
use Rattle.job_text.specs.declared.note.Part.TheVariants.{Header, Buffer, Job, Surface, Record, Shader, Attribute}
use Rattle.job_text.specs.declared.note.Stage.TheVariants.{Fragment, Vertex, Coordinate}
use Rattle.job_text.specs.{declared.note.Field.Field, declared.note.Role.Role, declared.note.Part.Part, declared.note.Stage.Stage}

abbrev pub role_name : Role → List ℕ
role_name ColorRead = codes "colour read"
role_name ColorWrite = codes "colour write"
role_name ZsRead = codes "ZS read"
role_name ZsWrite = codes "ZS write"
role_name SampleColorWrite = codes "multisample colour write"
role_name SampleZsWrite = codes "multisample ZS write"

-- the name of a field, and how many bytes it has
abbrev pub field_row : Field → List ℕ × ℕ
field_row (Plain name size) = (name.now, size)
field_row (Word name) = (name.now, 4)
field_row Kind = (codes "kind", 4)
field_row Flags = (codes "flags", 4)
field_row Width = (codes "width", 2)
field_row Height = (codes "height", 2)
field_row HandleIndex = (codes "handle's index", 4)
field_row FrameBits = (codes "bits", 2)
field_row GeneralBits = (codes "bits", 2)
field_row SurfaceFlags = (codes "flags", 2)
field_row PrimitiveMode = (codes "mode", 1)
field_row IndexMode = (codes "mode and index type", 1)
field_row Length = (codes "length", 4)
field_row FirstIndex = (codes "first index", 4)
field_row MaxIndex = (codes "maximum index", 4)
field_row ListFormat = (codes "format", 1)
field_row StateWord = (codes "word", 4)
field_row ConfigurationBits = (codes "bits", 3)
field_row FlatFlags = (codes "flags", 4)
field_row PointWidth = (codes "value", 4)
field_row Boundary = (codes "boundary", 2)
field_row DepthFactor = (codes "factor", 2)
field_row DepthUnits = (codes "units", 2)
field_row ClipLeft = (codes "left", 2)
field_row ClipBottom = (codes "bottom", 2)
field_row CenterX = (codes "x", 2)
field_row CenterY = (codes "y", 2)
field_row ScaleX = (codes "x scale", 4)
field_row ScaleY = (codes "y scale", 4)
field_row ScaleZ = (codes "z scale", 4)
field_row OffsetZ = (codes "z offset", 4)
field_row ListsAddress = (codes "allocation address", 4)
field_row ListsBytes = (codes "allocation size", 4)
field_row StatesAddress = (codes "state address", 4)
field_row TilesAcross = (codes "tiles across", 1)
field_row TilesDown = (codes "tiles down", 1)
field_row BinnerFlags = (codes "flags", 1)
field_row IndexHandle = (codes "handle of the index buffer", 4)
field_row FurtherHandle = (codes "further handle", 4)
field_row RecordFlags = (codes "flags", 2)
field_row Address = (codes "address", 4)

abbrev pub field_name : Field → List ℕ
field_name field = (field_row field).0

abbrev pub field_size : Field → ℕ
field_size field = (field_row field).1

-- the buffer that a handle names, where it names one
abbrev pub named_text : Option ℕ → List ℕ
named_text None = []
named_text (Some buffer) = codes " (buffer " ++ (decimal buffer ++ codes ")")

-- a job's number before what is said of a part of it
unfoldable pub of_job : ℕ → List ℕ → List ℕ
of_job j text = codes "job " ++ (decimal j ++ (codes " " ++ text))

abbrev pub stage_name : Stage → List ℕ
stage_name Fragment = codes "fragment shader"
stage_name Vertex = codes "vertex shader"
stage_name Coordinate = codes "coordinate shader"

-- the part of the file that a field belongs to
abbrev pub part_text : Part → List ℕ
part_text Header = codes "header"
part_text (Buffer b) = codes "buffer " ++ decimal b
part_text (Job j) = codes "job " ++ decimal j
part_text (Surface j role) = of_job j (role_name role)
part_text (Record j k) = of_job j (codes "record " ++ decimal k)
part_text (Shader j k stage) = of_job j (codes "record " ++ (decimal k ++ (codes " " ++ stage_name stage)))
part_text (Attribute j k t) = of_job j (codes "record " ++ (decimal k ++ (codes " attribute " ++ decimal t)))
