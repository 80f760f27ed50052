-- What a submission's blocks tell of its shaders.
use Rattle.std.specs.Prelude.{◌≡◌, ◌==◌, ◌<◌, ℕ, List, slice_get, Option, Some, None, if◌then◌else◌}
use Rattle.qpu_isa.specs.Shader.{ShaderModel}
use Rattle.strict_check.specs.{declared.findings.Findings.Findings, Findings.findings_nothing}
use Rattle.vc4check_c.specs.{declared.submission.GivenBuffer.GivenBuffer, Block.read_of, Block.findings_in_block, Block.IsReadable, Block.IsBlockOf}

-- what is reported of the shader in a buffer by the block of a Code one
unfoldable pub read_in : GivenBuffer → Option ShaderModel
read_in given = if given.kind == 1 then Some (read_of given.known.now) else None

-- and what was found of it by the strict check
unfoldable pub findings_by_block : GivenBuffer → Findings
findings_by_block given = if given.kind == 1 then findings_in_block given.known.now else findings_nothing

-- The blocks of the first n Code buffers can be read.
abbrev pub AreReadable : List GivenBuffer → ℕ → Type 0
AreReadable buffers n = (b : ℕ) (given : GivenBuffer) → b < n → slice_get buffers b ≡ Some given → given.kind ≡ 1 → IsReadable given.known.now

-- What the caller owes of the blocks: that of a Code buffer was made of the shader, if it can be read. One that can't, as one of no entry,
-- may hold anything: the call checks the shaders then.
abbrev pub AreKnown : List GivenBuffer → Type 0
AreKnown buffers = (b : ℕ) (given : GivenBuffer) → slice_get buffers b ≡ Some given → given.kind ≡ 1 → IsReadable given.known.now → IsBlockOf given.content.now given.known.now
