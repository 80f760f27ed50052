use Rattle.std.proofs.Common.{ℕ, Bool, sym, arith, eq-eqb, ne_eqb}
use Rattle.session_pages.specs.Map.{is_free}
use Rattle.session_pages.proofs.Lowest.{found, never, barred, one_more}
use Rattle.session_pages.proofs.owners.first_run.Goals.{then-owners-page-ne0, else-owners-page-ne0+else-page-first}
use Rattle.session_pages.proofs.owners.first_run.Goals as goal

pub returns-then-page-first-clause-first : goal.returns-then-page-first-clause-first
returns-then-page-first-clause-first c =
    sym (found (is_free c.args.owners.now) c.args.pages c.loop-page.first c.loop-page.page c.requires.some c.loop-page-test.true
    (omega arith) c.loop-page.invariant.begun c.loop-page.invariant.none c.loop-page.invariant.free (eq-eqb _ 0 c.if-owners-page-ne0.false))

pub loop-page-preserved : goal.loop-page-preserved
loop-page-preserved c =
    let free : ℕ → Bool = is_free c.args.owners.now in
    let was = c.loop-page.invariant in
    elim c.if-owners-page-ne0.branch [
      | then-owners-page-ne0 w ↦ rw w.first-is (record {
        begun = omega arith;
        short = omega (arith, c.requires.some);
        none = barred free c.args.pages c.loop-page.first c.loop-page.page was.short was.none (ne_eqb _ 0 w.if-owners-page-ne0.true);
        free = λ j low high. absurd (omega (arith, low, high));
      })
      | else-owners-page-ne0+else-page-first w ↦ rw w.first-is (record {
        begun = omega (arith, was.begun);
        short = omega (arith, was.short, w.if-page-first.false);
        none = was.none;
        free = λ j low high. one_more free c.loop-page.first c.loop-page.page j low high was.free (eq-eqb _ 0 w.if-owners-page-ne0.false);
      })
    ]

pub returns-clause-first : goal.returns-clause-first
returns-clause-first c =
    sym (never (is_free c.args.owners.now) c.args.pages c.loop-page.first c.loop-page.page c.loop-page-test.false c.loop-page.invariant.short c.loop-page.invariant.none)
