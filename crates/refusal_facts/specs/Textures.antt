-- U7: the texture whose first set-up word stands at a byte of a job's uniforms, and where its level 0 ends.
use Rattle.std.specs.Prelude.{ℕ, ◌+◌, ◌-◌, ◌*◌, ◌==◌, List, [], ◌∷◌, length, option_and_then, Option, Some, None, if◌then◌else◌}
use Rattle.field_words.specs.{Questions.Question, Questions.Ask, Questions.each, Questions.first_of, Words.u32_at}
use Rattle.emitted_facts.specs.Facts.{setup}
use Rattle.qpu_isa.specs.Shader.{ShaderModel, sample_at}
use Rattle.shader_records.specs.{Rules.first_word_at, Sources.word_from}
use Rattle.texture_layouts.specs.{Fits.is_unlisted, Setup.TextureModel, Setup.texture_of, Setup.faces_of, Setup.face_place, Setup.size_at}
use Rattle.refusal_facts.specs.{declared.fact.EndFact.EndFact, declared.sources.Source.Source, declared.sources.User.User}
use Rattle.refusal_facts.specs.{Named.KnownModel, Named.end_at, Sources.shader_of, Sources.user_of}

-- the sample of a shader, whose uniforms begin at a place, that has its first set-up word at a byte
unfoldable pub sample_question : ShaderModel → (from at i : ℕ) → List (Question ℕ)
sample_question shader from at i = Ask (first_word_at shader from i == at) i ∷ []

unfoldable pub sample_among : ShaderModel → (from at : ℕ) → Option ℕ
sample_among shader from at = first_of (each (sample_question shader from at) 0 (length shader.samples))

-- a set-up word of a sample, and the texture that the four describe
unfoldable pub setup_word : KnownModel → ShaderModel → (from i n : ℕ) → ℕ
setup_word known shader from i n = setup (word_from known.job.uniforms (from + 4 * length shader.samples)) (sample_at shader i) n

abbrev pub texture_at : KnownModel → ShaderModel → (from i : ℕ) → TextureModel
texture_at known shader from i =
    texture_of (setup_word known shader from i 0) (setup_word known shader from i 1) (setup_word known shader from i 2) (setup_word known shader from i 3)

-- where level 0 of the last face ends in the buffer, where the type is listed
unfoldable pub level_end : TextureModel → Option ℕ
level_end t = if is_unlisted t then None else Some (face_place t (faces_of t - 1) + size_at t 0)

-- of sample i, by the handle for its buffer
unfoldable pub sample_end : KnownModel → ShaderModel → (from i : ℕ) → Option EndFact
sample_end known shader from i =
    option_and_then (end_at known (u32_at known.job.uniforms (from + 4 * i))) (level_end (texture_at known shader from i))

abbrev pub shader_end : KnownModel → (from at : ℕ) → ShaderModel → Option EndFact
shader_end known from at shader = option_and_then (sample_end known shader from) (sample_among shader from at)

abbrev pub user_end : KnownModel → Source → (at : ℕ) → User → Option EndFact
user_end known source at user = option_and_then (shader_end known user.from at) (shader_of known source user.stage)

unfoldable pub texture_end : KnownModel → (at : ℕ) → Source → Option EndFact
texture_end known at source = user_end known source at (user_of known source at)
