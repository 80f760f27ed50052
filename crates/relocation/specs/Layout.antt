-- The parts of a job's lists: binner list, records, uniforms and renderer list, in this order. Each but the first begins where the one
-- before ends, rounded up to 16. The lists of the file's first job begin where the lists' region does, and those of each further job
-- where those of the job before it end, rounded up to 16.
use Rattle.std.specs.Prelude.{◌≡◌, ◌≤◌, ℕ, ◌+◌, ◌%◌}
use Rattle.field_words.specs.Words.{rounded_up}
use Rattle.buffer_table.specs.declared.buffer.Regions.{Regions}
use Rattle.relocation.specs.declared.layout.Layout.{Layout}

unfoldable pub records_start : (bin : ℕ) → ℕ
records_start bin = rounded_up bin 16

unfoldable pub uniforms_start : (bin records : ℕ) → ℕ
uniforms_start bin records = rounded_up (records_start bin + records) 16

unfoldable pub render_start : (bin records uniforms : ℕ) → ℕ
render_start bin records uniforms = rounded_up (uniforms_start bin records + uniforms) 16

-- the end of the renderer list, and so of all
abbrev pub lists_end : (bin records uniforms render : ℕ) → ℕ
lists_end bin records uniforms render = render_start bin records uniforms + render

-- the layout of parts of these sizes, from a place in memory on
abbrev pub layout_at : (place bin records uniforms render slot : ℕ) → Layout
layout_at place bin records uniforms render slot = record {
  place = place;
  bin = 0;
  records = records_start bin;
  uniforms = uniforms_start bin records;
  render = render_start bin records uniforms;
  end = lists_end bin records uniforms render;
  slot = slot;
}

abbrev pub layout_for : Regions → (bin records uniforms render slot : ℕ) → Layout
layout_for regions bin records uniforms render slot = layout_at regions.lists_place bin records uniforms render slot

-- where the lists' region ends
abbrev pub region_end : Regions → ℕ
region_end regions = regions.lists_place + regions.lists_size

-- where lists begin that come after those from `place` to `place + end`
unfoldable pub begins_after : (place end : ℕ) → ℕ
begins_after place end = rounded_up (place + end) 16

-- The parts lie apart, each from a multiple of 16 on, and the last ends where the layout ends.
pub record StandApart (layout : Layout) (bin records uniforms render : ℕ) : Type 0 where
  pub first : layout.bin + bin ≤ layout.records
  pub second : layout.records + records ≤ layout.uniforms
  pub third : layout.uniforms + uniforms ≤ layout.render
  pub last : layout.render + render ≡ layout.end
  pub records_aligned : layout.records % 16 ≡ 0
  pub uniforms_aligned : layout.uniforms % 16 ≡ 0
  pub render_aligned : layout.render % 16 ≡ 0
