-- What is left decides as the whole does.
use Rattle.std.proofs.Common.{◌≡◌, ◌-◌, length}
use Rattle.field_words.specs.Questions.{first_of, each}
use Rattle.qpu_isa.specs.Shader.{shader_view}
use Rattle.refusal_facts.specs.Textures.{sample_question}
use Rattle.refusal_facts.proofs.textures.sample_among.Given as goal

abbrev pub invariant-loop-i : goal.invariant-loop-i
invariant-loop-i l = first_of (each (sample_question (shader_view l.info) l.from l.at) l.i (length l.info.samples.items - l.i))
    ≡ first_of (each (sample_question (shader_view l.info) l.from l.at) 0 (length l.info.samples.items))
