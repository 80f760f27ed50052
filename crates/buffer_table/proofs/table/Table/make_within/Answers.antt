-- No rule of the table is broken, so it is sound.
use Rattle.std.proofs.Common.{sym, ◌∙◌, ap}
use Rattle.field_words.specs.Questions.{first_of}
use Rattle.field_words.proofs.Questions.{first_is}
use Rattle.buffer_table.specs.Table.{table_within}
use Rattle.buffer_table.proofs.Sounds.{memory_limit, sound_copy}
use Rattle.buffer_table.proofs.table.Table.make_within.Goals as goal

pub invariant_of-result : goal.invariant_of-result
invariant_of-result c =
    sound_copy c.args.limit c.args.mem_size c.args.regions c.args.buffers.now.items c.deref-2.result.now c.requires.limit
    (ap (λ b. first_of (table_within c.args.limit c.args.mem_size c.args.regions b)) (sym c.deref.ensures.value) ∙ sym c.in_default.ensures)
    c.deref-2.ensures.value

pub returns-clause-sound : goal.returns-clause-sound
returns-clause-sound c =
    sound_copy c.args.limit c.args.mem_size c.args.regions c.args.buffers.now.items c.deref-2.result.now c.requires.limit
    (ap (λ b. first_of (table_within c.args.limit c.args.mem_size c.args.regions b)) (sym c.deref.ensures.value) ∙ sym c.in_default.ensures)
    c.deref-2.ensures.value

pub returns-in-Some-clause-first : goal.returns-in-Some-clause-first
returns-in-Some-clause-first c =
    first_is (table_within c.args.limit c.args.mem_size c.args.regions c.args.buffers.now.items) c.in-Some.fault
    (ap (λ b. first_of (table_within c.args.limit c.args.mem_size c.args.regions b)) (sym c.deref.ensures.value) ∙ sym c.in-Some.ensures)

pub returns-clause-small : goal.returns-clause-small
returns-clause-small c =
    memory_limit c.args.limit c.args.mem_size c.args.regions c.args.buffers.now.items
    (ap (λ b. first_of (table_within c.args.limit c.args.mem_size c.args.regions b)) (sym c.deref.ensures.value) ∙ sym c.in_default.ensures)
