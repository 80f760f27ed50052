-- The rows of the arm's table.
use Rattle.std.proofs.Common.{rules}
use Rattle.rule_words.specs.Names.{rows_in}
use Rattle.rule_words.proofs.name.rows_in.Goals as goal

pub returns-in-F : goal.returns-in-F
unfolding rows_in
returns-in-F c = search rules

pub returns-in-M : goal.returns-in-M
unfolding rows_in
returns-in-M c = search rules

pub returns-in-S : goal.returns-in-S
unfolding rows_in
returns-in-S c = search rules

pub returns-in-H : goal.returns-in-H
unfolding rows_in
returns-in-H c = search rules

pub returns-in-B : goal.returns-in-B
unfolding rows_in
returns-in-B c = search rules

pub returns-in-A : goal.returns-in-A
unfolding rows_in
returns-in-A c = search rules

pub returns-in-U : goal.returns-in-U
unfolding rows_in
returns-in-U c = search rules

pub returns-in-G : goal.returns-in-G
unfolding rows_in
returns-in-G c = search rules

pub returns-in-X : goal.returns-in-X
unfolding rows_in
returns-in-X c = search rules

pub returns-in-E : goal.returns-in-E
unfolding rows_in
returns-in-E c = search rules
