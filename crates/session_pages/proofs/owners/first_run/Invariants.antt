use Rattle.std.proofs.Common.{◌≡◌, ℕ, ◌+◌, ◌≤◌, ◌<◌, true, false}
use Rattle.session_pages.specs.Map.{is_free}
use Rattle.session_pages.specs.Runs.{is_run}
use Rattle.session_pages.proofs.owners.first_run.Given as goal

abbrev pub invariant-loop-page : goal.invariant-loop-page
invariant-loop-page l = record {
  begun : l.first ≤ l.page;
  short : l.page < l.first + l.pages;
  none : (j : ℕ) → j < l.first → is_run (is_free l.owners) l.pages j ≡ false;
  free : (j : ℕ) → l.first ≤ j → j < l.page → is_free l.owners j ≡ true;
}
