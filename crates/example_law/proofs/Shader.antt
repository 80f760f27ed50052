-- No rule is broken by the shader of an example.
use Rattle.std.proofs.Common.{◌≡◌, None, refl}
use Rattle.field_words.specs.{Questions.first_of, Questions.each, Questions.with_answers, Words.u64_at}
use Rattle.example_law.proofs.Numbers.{report}
use Rattle.job_check.specs.Shaders.{words_in, code_questions, report_of}
use Rattle.example_job.specs.Example.{shader}
use Rattle.shader_check.proofs.Opened.{shaders}

pub shader_no_fault : first_of (code_questions shader) ≡ None
unfolding each with_answers u64_at words_in code_questions shaders
shader_no_fault = refl

pub shader_reported : report_of (words_in shader 3) ≡ report
unfolding each with_answers u64_at words_in report_of shaders
shader_reported = refl
