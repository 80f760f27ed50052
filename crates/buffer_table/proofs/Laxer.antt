-- A memory table without faults under a limit is one under any greater limit.
use Rattle.std.proofs.{Common.◌≡◌, Common.ℕ, Common.◌≤◌, Common.List, Common.None, Common.arith, Common.◌∙◌, lemmas.Bool.Decides.nat_tests}
use Rattle.std.proofs.lemmas.Grind.{common_steps}
use Rattle.field_words.specs.Questions.{first_of}
use Rattle.field_words.proofs.{Questions.none_broken, Questions.passes, Nones.front_none, Nones.rest_none}
use Rattle.buffer_table.specs.{declared.buffer.Buffer.Buffer, declared.buffer.Regions.Regions}
use Rattle.buffer_table.specs.Table.{items_of, memory_within, items_questions, all_within, table_within}

memory_laxer : (small large memory : ℕ) → small ≤ large → first_of (memory_within small memory) ≡ None → first_of (memory_within large memory) ≡ None
unfolding memory_within
memory_laxer small large memory order none =
    let asked = none_broken (memory_within small memory) none in
    grind (arith, common_steps, nat_tests, asked.0, order)

pub laxer : (small large memory : ℕ) (r : Regions) (buffers : List Buffer) → small ≤ large → first_of (table_within small memory r buffers) ≡ None
    → first_of (table_within large memory r buffers) ≡ None
unfolding all_within
laxer small large memory r buffers order none =
    let items = items_questions memory (items_of r buffers) in
    passes (memory_within large memory) items (memory_laxer small large memory order (front_none (memory_within small memory) items none))
    ∙ rest_none (memory_within small memory) items none
