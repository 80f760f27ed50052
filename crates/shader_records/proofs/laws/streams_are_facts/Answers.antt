use Rattle.shader_records.proofs.StreamFacts.{emitted_stream_is}
use Rattle.shader_records.proofs.laws.streams_are_facts.Goals as goal

pub returns : goal.returns
returns c = λ input from shader stream sound none. emitted_stream_is input from shader stream sound none
