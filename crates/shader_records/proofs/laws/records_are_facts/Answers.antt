use Rattle.shader_records.proofs.RecordsInMemory.{records_in_memory}
use Rattle.shader_records.proofs.laws.records_are_facts.Goals as goal

pub returns : goal.returns
returns c = λ input records first memory k inputs fits none below room emitted. records_in_memory input records first memory k inputs fits none below room emitted
