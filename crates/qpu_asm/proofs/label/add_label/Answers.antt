use Rattle.std.proofs.{Common.sym, Common.◌∙◌, lemmas.Map.Text.btree_map_updates_str}
use Rattle.qpu_asm.proofs.Assembling.{label_known, label_new}
use Rattle.qpu_asm.proofs.label.add_label.Goals as goal

pub returns-in-Some : goal.returns-in-Some
returns-in-Some c = label_known _ _ _ _ _ (sym c.find_spot.ensures ∙ c.in-Some.is)

pub returns-in_ok-insert-in-None : goal.returns-in_ok-insert-in-None
returns-in_ok-insert-in-None c =
    label_new _ _ _ _ _ (sym c.find_spot.ensures ∙ c.in-None.is) (btree_map_updates_str c.args.name.now c.args.labels.now.spots c.insert.new.self _ c.in_ok-insert-in-None.ensures.updates)
