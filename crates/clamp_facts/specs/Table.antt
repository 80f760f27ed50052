-- The table of facts: an entry for each register that a unit can write.
use Rattle.std.specs.Prelude.{ℕ, List, replicate, slice_index_or, slice_set, if◌then◌else◌}
use Rattle.qpu_isa.specs.{declared.inst.Reg.Reg, declared.inst.Reg.TheVariants.A, declared.inst.Reg.TheVariants.B, declared.inst.Reg.TheVariants.Acc}
use Rattle.clamp_facts.specs.{declared.fact.Fact.Fact, declared.fact.Fact.TheVariants.Nothing, declared.fact.Entry.Entry, Facts.is_delayed}

-- the entries of A0 to A31, B0 to B31 and r0 to r3
pub record Table : Type 0 where
  pub a : List Entry
  pub b : List Entry
  pub acc : List Entry

abbrev pub no_entry : Entry
no_entry = record { fact = Nothing; place = 0 }

abbrev pub entry_of : Table → Reg → Entry
entry_of table (A number) = slice_index_or table.a number no_entry
entry_of table (B number) = slice_index_or table.b number no_entry
entry_of table (Acc number) = slice_index_or table.acc number no_entry

-- that entry alone is another
abbrev pub with_entry : Table → Reg → Entry → Table
with_entry table (A number) entry = record table { a = slice_set table.a number entry }
with_entry table (B number) entry = record table { b = slice_set table.b number entry }
with_entry table (Acc number) entry = record table { acc = slice_set table.acc number entry }

-- all are nothing, or those of the accumulators are
abbrev pub blank_table : Table
blank_table = record { a = replicate 32 no_entry; b = replicate 32 no_entry; acc = replicate 4 no_entry }

abbrev pub without_accumulators : Table → Table
without_accumulators table = record table { acc = replicate 4 no_entry }

-- what an entry says at an index: of a file register, nothing yet in the instruction after it was put
unfoldable pub fact_seen : Entry → ℕ → Reg → Fact
fact_seen entry at reg = if is_delayed entry.place at reg then Nothing else entry.fact
