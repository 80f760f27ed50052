-- The laws are about the answer of `found_parts`.
use Rattle.std.proofs.Common.{◌≡◌, arith}
use Rattle.field_words.proofs.Questions.{names_first}
use Rattle.job_format.specs.{Faults.format_questions, Parts.parts_view, Reading.file_at}
use Rattle.job_format.proofs.Laws.{found_by, only_by, exact_by}
use Rattle.job_format.proofs.reading.read_parts.Goals as goal

pub returns-clause-first : goal.returns-clause-first
returns-clause-first c = names_first (format_questions c.args.bytes.now) (λ f. parts_view f ≡ file_at c.args.bytes.now) c.found_parts.result c.found_parts.ensures.answers

pub returns-clause-found : goal.returns-clause-found
returns-clause-found c = found_by parts_view c.args.bytes.now (λ i. omega (arith, c.type_inv.bytes i)) c.found_parts.result c.found_parts.ensures.answers

pub returns-clause-only : goal.returns-clause-only
returns-clause-only c = only_by parts_view c.args.bytes.now c.found_parts.result c.found_parts.ensures.answers

pub returns-clause-exact : goal.returns-clause-exact
returns-clause-exact c = exact_by c.args.bytes.now (λ i. omega (arith, c.type_inv.bytes i))
