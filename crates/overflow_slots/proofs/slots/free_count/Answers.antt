use Rattle.std.proofs.Common.{ℕ, Bool, ◌==◌, ◌∙◌, refl, ap, ◌+◌, arith, get_or, eq-eqb, ne_eqb}
use Rattle.overflow_slots.specs.Search.{count_where}
use Rattle.overflow_slots.proofs.Searches.{count_yes, count_no}
use Rattle.overflow_slots.proofs.slots.free_count.Goals.{then-owners-slot-eq0, else-owners-slot-eq0}
use Rattle.overflow_slots.proofs.slots.free_count.Goals as goal

pub loop-slot-init : goal.loop-slot-init
unfolding count_where
loop-slot-init c = record { low = omega arith; count = refl }

pub loop-slot-preserved : goal.loop-slot-preserved
loop-slot-preserved c =
    let before = c.loop-slot.invariant in
    let passes : ℕ → Bool = λ slot. get_or c.args.owners.now slot 0 == 0 in
    elim c.if-owners-slot-eq0.branch [
      | then-owners-slot-eq0 w ↦
          let yes = count_yes passes c.loop-slot.slot (eq-eqb _ 0 w.if-owners-slot-eq0.true) in
          rw w.count-is (record { low = omega (arith, before.low); count = ap (λ n. n + 1) before.count ∙ yes })
      | else-owners-slot-eq0 w ↦
          let no = count_no passes c.loop-slot.slot (ne_eqb _ 0 w.if-owners-slot-eq0.false) in
          rw w.count-is (record { low = omega (arith, before.low); count = before.count ∙ no })
    ]
