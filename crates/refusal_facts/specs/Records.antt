-- A: what a shader record says where a rule is broken.
use Rattle.std.specs.Prelude.{ℕ, ◌+◌, ◌-◌, ◌*◌, ◌/◌, ◌==◌, ◌||◌, length, slice_get, option_map, Option, Some, None, if◌then◌else◌}
use Rattle.field_words.specs.Words.{u32_at}
use Rattle.emitted_facts.specs.Records.{address_word, attribute_size, attribute_stride, is_single}
use Rattle.packets.specs.StateWord.{record_size}
use Rattle.shader_records.specs.Sources.{handles_size, is_threaded, word_from}
use Rattle.refusal_facts.specs.declared.fact.{AttributeFact.AttributeFact, BufferFact.BufferFact, RoomFact.RoomFact, ThreadFact.ThreadFact, UseFact.UseFact, VertexFact.VertexFact}
use Rattle.refusal_facts.specs.declared.fact.{Facts.Facts, Facts.TheVariants.Room, Facts.TheVariants.Name, Facts.TheVariants.Threads, Facts.TheVariants.Use, Facts.TheVariants.Attribute, Facts.TheVariants.Vertex}
use Rattle.refusal_facts.specs.{declared.sources.Source.Source, declared.sources.User.User}
use Rattle.refusal_facts.specs.{Named.KnownModel, Named.named, Named.name_at, Sources.shader_of, Sources.taken, Sources.user_of}

-- where a record begins, behind its handles, and its words by number
abbrev pub record_at : Source → ℕ
record_at source = source.at + handles_size source.state

abbrev pub record_word : KnownModel → Source → ℕ → ℕ
record_word known source = word_from known.job.records (record_at source)

-- A1 and A2: so many bytes of the records are needed from a place on
abbrev pub room : KnownModel → (needs at : ℕ) → RoomFact
room known needs at = record { needs = needs; has = length known.job.records - at }

-- A5: the buffer of the fragment shader, whether the flags say that it is single-threaded, and whether it switches threads
unfoldable pub threads_of : KnownModel → Source → Option ThreadFact
threads_of known source =
    option_map (λ number. record { buffer = number; single = is_single (record_word known source); threaded = is_threaded (shader_of known source 0) })
    (slice_get known.job.handles (u32_at known.job.records source.at))

-- A8: the shader, and the bytes of uniforms that it takes and that are left
abbrev pub use_fact : KnownModel → Source → User → UseFact
use_fact known source user =
    record { stage = user.stage; needs = taken known source user.stage; has = length known.job.uniforms - user.from }

-- the attribute whose two words have a byte of the records
abbrev pub attribute_of : Source → ℕ → ℕ
attribute_of source at = (at - record_at source - 36) / 8

-- A9: the buffer that its handle names, and where in it its data of the first vertex lie
abbrev pub attribute_fact : KnownModel → Source → (t : ℕ) → BufferFact → AttributeFact
attribute_fact known source t buffer =
    record { buffer = buffer; address = record_word known source (address_word t); length = attribute_size (record_word known source) t }

unfoldable pub attribute_at : KnownModel → Source → (t : ℕ) → Option AttributeFact
attribute_at known source t = option_map (attribute_fact known source t) (named known (u32_at known.job.records (source.at + (12 + 4 * t))))

-- A10: the attribute, how far the next vertex's data are, and the greatest index
abbrev pub vertex_fact : KnownModel → Source → (t : ℕ) → AttributeFact → VertexFact
vertex_fact known source t attribute =
    record { attribute = attribute; stride = attribute_stride source.state (record_word known source) t; index = source.most }

unfoldable pub vertex_at : KnownModel → Source → (t : ℕ) → Option VertexFact
vertex_at known source t = option_map (vertex_fact known source t) (attribute_at known source t)

-- A1 to A5, A9 and A10, of a record, at a byte of the records, and A8 at one of the uniforms
unfoldable pub record_facts : KnownModel → (number at : ℕ) → Source → Option Facts
record_facts known number at source =
    if number == 1 then Some (Room (room known (handles_size source.state) at))
    else (if number == 2 then Some (Room (room known (record_size source.state) at))
    else (if number == 3 || number == 4 then Some (Name (name_at known (u32_at known.job.records at)))
    else (if number == 5 then option_map Threads (threads_of known source)
    else (if number == 8 then Some (Use (use_fact known source (user_of known source at)))
    else (if number == 9 then option_map Attribute (attribute_at known source (attribute_of source at))
    else (if number == 10 then option_map Vertex (vertex_at known source (attribute_of source at)) else None))))))
