-- The sections that the code knows.
use Rattle.std.specs.{BTreeMap.get_by, Cmp.Lexicographic.slice_cmp, Ordering.nat_cmp}
use Rattle.job_make.specs.declared.sections.Sections.{Sections as Known}
use Rattle.job_make.specs.declared.sections.Sections.TheVariants.{Any, Of}
use Rattle.job_make.specs.Made.{Sections, any_section}

abbrev pub sections_in : Known → Sections
sections_in Any name = any_section name
sections_in (Of by_name) name = get_by (λ key. slice_cmp nat_cmp name key.now) by_name
