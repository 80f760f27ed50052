-- What a check without a fault leaves in the window of the lists' region.
use Rattle.std.specs.Prelude.{◌≡◌, ℕ, ◌+◌, List, length}
use Rattle.field_words.specs.Writes.{with_bytes}
use Rattle.relocation.specs.declared.layout.Layout.{Layout}
use Rattle.shader_records.specs.{declared.info.RecordInfo.RecordInfo, Inputs.InputModel}
use Rattle.shader_records.specs.Emission.{emitted_records, emitted_uniforms}

-- where the streams stand in memory
abbrev pub streams_place : Layout → ℕ
streams_place layout = layout.place + layout.uniforms

-- The emitted records and uniforms stand at their offsets, no other byte changed, and their lengths are reported.
pub record IsEmitted (input : InputModel) (layout : Layout) (old new : List ℕ) (info : RecordInfo) : Type 0 where
  pub records : info.records ≡ length (emitted_records input (streams_place layout))
  pub uniforms : info.uniforms ≡ length (emitted_uniforms input (streams_place layout))
  pub bytes : new ≡ with_bytes (with_bytes old layout.records (emitted_records input (streams_place layout))) layout.uniforms (emitted_uniforms input (streams_place layout))
