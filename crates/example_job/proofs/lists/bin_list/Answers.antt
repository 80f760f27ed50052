use Rattle.std.proofs.Common.{◌+◌, ◌-◌, ◌++◌, ◌∙◌, ap, ℕ}
use Rattle.field_words.specs.Pieces.{joined_texts}
use Rattle.example_job.specs.Lists.{packets_of, states_from}
use Rattle.example_job.proofs.Texts.{states_more}
use Rattle.example_job.proofs.lists.bin_list.Goals as goal

pub loop-j-preserved : goal.loop-j-preserved
loop-j-preserved c =
    let a = c.args in
    let j : ℕ = c.loop-j.j in
    ap (λ list. list ++ joined_texts (states_from (j + 1) (a.count - (j + 1)))) (c.in_ok-put_state.ensures)
    ∙ states_more c.loop-j.list.items a.count j (joined_texts (packets_of a.across a.down a.count)) c.loop-j-test.true c.loop-j.invariant
