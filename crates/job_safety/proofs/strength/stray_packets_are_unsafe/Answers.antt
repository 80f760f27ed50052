-- The laws.
use Rattle.job_safety.proofs.Packets.{stray_bin_law, stray_render_law, stray_starts_law}
use Rattle.job_safety.proofs.strength.stray_packets_are_unsafe.Goals as goal

pub returns-clause-bin : goal.returns-clause-bin
returns-clause-bin c = stray_bin_law

pub returns-clause-render : goal.returns-clause-render
returns-clause-render c = stray_render_law

pub returns-clause-start : goal.returns-clause-start
returns-clause-start c = stray_starts_law
