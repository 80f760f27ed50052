-- The laws.
use Rattle.job_safety.proofs.Packets.{bin_lists_past_law, render_lists_past_law}
use Rattle.job_safety.proofs.strength.lists_past_are_unsafe.Goals as goal

pub returns-clause-bin : goal.returns-clause-bin
returns-clause-bin c = bin_lists_past_law

pub returns-clause-render : goal.returns-clause-render
returns-clause-render c = render_lists_past_law
