-- A `&` to the contents is a `&` to the bytes.
use Rattle.std.proofs.Common.{ℕ, length}
use denote.Array.{Array}
use denote.Builtin.{u8}
use denote.Param.Shared.{Sharable, array_shared, copy_shared}
use denote.Struct.Field.{u8-field, array_field}
use denote.Struct.Laws.{u8-copy}
use denote.Struct.Lending.{lent_at_shr_laws, Lends-lies, of_Lends}
use Rattle.phys_mem.specs.contracts.contents.Contents as C
use Rattle.phys_mem.proofs.contents.Contents.TheLaw.Statement.{statement}

abbrev row_of : (n : ℕ) → Sharable (array_field u8-field n)
row_of n = array_shared u8-field (copy_shared u8-field u8-copy) n

pub shares : statement
shares = of_Lends C.struct C.the_codes C.the_heap C.the_lent
    (λ c p. lent_at_shr_laws (Array u8 (length c.bytes)) (row_of (length c.bytes)).shr_laws c.at c.bytes) tt
    (λ M 𝓤 𝓛 c p. Lends-lies 𝓛 (Array u8 (length c.bytes)) C.the_row.lives c.at c.bytes ((row_of (length c.bytes)).shares M 𝓤 𝓛 c.bytes))
