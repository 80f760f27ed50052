use Rattle.std.proofs.Common.{◌≡◌, ◌++◌, ◌-◌}
use Rattle.field_words.specs.Pieces.{joined_texts}
use Rattle.example_job.specs.Lists.{packets_of, states_from}
use Rattle.example_job.proofs.lists.bin_list.Given as goal

abbrev pub invariant-loop-j : goal.invariant-loop-j
invariant-loop-j l = l.list.items ++ joined_texts (states_from l.j (l.fn.count - l.j)) ≡ joined_texts (packets_of l.fn.across l.fn.down l.fn.count)
