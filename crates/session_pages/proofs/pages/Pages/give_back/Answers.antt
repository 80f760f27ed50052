use Rattle.std.proofs.Common.{◌≡◌, ◌+◌, ◌*◌, ◌≤◌, ◌∙◌, ℕ, List, ap, length, replicate, arith}
use Rattle.std.proofs.lemmas.List.{length-replicate}
use Rattle.field_words.specs.Writes.{zeros}
use Rattle.field_words.proofs.Writes.{length_zeros, length-with_bytes}
use Rattle.session_pages.specs.Map.{memory_size, place_of}
use Rattle.session_pages.specs.Runs.{page_count}
use Rattle.session_pages.proofs.pages.Pages.give_back.Goals as goal

cleared_fits : (memory : List ℕ) (first pages place : ℕ) → first + pages ≤ page_count → place ≡ place_of first → length memory ≡ memory_size
    → place + length (zeros (4096 * pages)) ≤ length memory
cleared_fits memory first pages place inside is sized = rw (length_zeros (4096 * pages), sized) (omega arith)

freed_fits : (owners : List ℕ) (first pages : ℕ) → first + pages ≤ page_count → length owners ≡ page_count → first + length {A = ℕ} (replicate pages 0) ≤ length owners
freed_fits owners first pages inside known = rw (length-replicate {A = ℕ} pages 0, known) inside

pub invariant_of-self : goal.invariant_of-self
invariant_of-self c = record {
  sized = ap length c.clear.ensures
      ∙ (length-with_bytes _ _ _ (cleared_fits _ c.args.first c.args.pages c.place_of_page-place.result c.requires c.place_of_page-place.ensures c.self.invariant.sized) ∙ c.self.invariant.sized);
  known = ap length c.hold.ensures ∙ (length-with_bytes _ _ _ (freed_fits _ c.args.first c.args.pages c.requires c.self.invariant.known) ∙ c.self.invariant.known);
}
