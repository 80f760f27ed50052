-- The entry is that of a sound table.
use Rattle.std.proofs.Common.{◌≡◌, subst}
use Rattle.buffer_table.specs.{Table.TableModel, Table.buffer_at, Sound.IsSound}
use Rattle.buffer_table.proofs.Sounds.{sound_buffer}
use Rattle.buffer_table.proofs.table.Table.buffer.Goals as goal

pub returns-clause-sound : goal.returns-clause-sound
returns-clause-sound c =
    let P : TableModel → Type 0 = λ t. IsSound t.memory t.regions t.buffers in
    let Q : TableModel → Type 0 = λ t. c.entry_of.result ≡ buffer_at t.buffers c.args.number in
    sound_buffer c.args.self.now c.args.number c.entry_of.result (subst P c.self.view_is c.self.invariant) c.requires (subst Q c.self.view_is c.entry_of.ensures)
