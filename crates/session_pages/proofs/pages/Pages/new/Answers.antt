use Rattle.std.proofs.Common.{◌∙◌, ap, length}
use Rattle.field_words.proofs.Writes.{length_zeros}
use Rattle.session_pages.specs.Map.{memory_size}
use Rattle.session_pages.specs.Runs.{page_count}
use Rattle.session_pages.proofs.pages.Pages.new.Goals as goal

pub invariant_of-result : goal.invariant_of-result
invariant_of-result c = record {
  sized = ap length c.in_ok-memory.ensures ∙ length_zeros memory_size;
  known = ap length c.in_ok-owners.ensures ∙ length_zeros page_count;
}
