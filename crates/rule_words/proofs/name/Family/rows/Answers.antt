-- The rows of the arm's table.
use Rattle.std.proofs.Common.{rules}
use Rattle.rule_words.specs.Names.{rows_of}
use Rattle.rule_words.proofs.name.Family.rows.Goals as goal

pub returns-in-O : goal.returns-in-O
unfolding rows_of
returns-in-O c = search rules

pub returns-in-Q : goal.returns-in-Q
unfolding rows_of
returns-in-Q c = search rules

pub returns-in-J : goal.returns-in-J
unfolding rows_of
returns-in-J c = search rules

pub returns-in-Kind : goal.returns-in-Kind
unfolding rows_of
returns-in-Kind c = search rules
