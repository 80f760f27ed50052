use Rattle.std.proofs.Common.{◌≡◌, ◌++◌, ◌-◌, replicate}
use Rattle.field_words.specs.Pieces.{joined_texts}
use Rattle.example_job.specs.Lists.{record_bytes}
use Rattle.example_job.proofs.lists.records.Given as goal

abbrev pub invariant-loop : goal.invariant-loop
invariant-loop l = l.bytes.items ++ joined_texts (replicate (l.fn.count - l.counter) record_bytes) ≡ joined_texts (replicate l.fn.count record_bytes)
