-- There is a start for each layout.
use Rattle.std.proofs.Common.{◌≡◌, ◌∙◌, ap, length, sym, arith}
use Rattle.job_safety.proofs.{Starts.starts_long, accepting.set_up.Goals.After-deref-3}
use Rattle.job_safety.proofs.accepting.set_up.Goals as goal

starts_as_many : (c : After-deref-3) → length c.deref-3.result.now ≡ length c.deref.result.now
starts_as_many c =
    ap length c.deref-3.ensures.value ∙ ap length c.in_ok-starts.ensures
    ∙ starts_long c.deref.result.now c.deref-2.result.now (ap length c.deref-2.ensures.value ∙ c.requires.as_many ∙ ap length (sym c.deref.ensures.value))

pub new-requires-clause-some : goal.new-requires-clause-some
new-requires-clause-some c = omega (arith, starts_as_many c, ap length c.deref.ensures.value, c.requires.some)

pub new-requires-clause-few : goal.new-requires-clause-few
new-requires-clause-few c = omega (arith, starts_as_many c, ap length c.deref.ensures.value, c.requires.few)
