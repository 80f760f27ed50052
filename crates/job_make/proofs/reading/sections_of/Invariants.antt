-- The sections of what is left, and those so far.
use Rattle.std.proofs.Common.{◌≡◌, ◌+◌, ◌≤◌, length, List, ℕ}
use Rattle.std.specs.{Option.option_or, BTreeMap.get_by, Cmp.Lexicographic.slice_cmp, Ordering.nat_cmp}
use Rattle.script.specs.Lines.{lines_of}
use Rattle.job_make.specs.Made.{section_from, text_sections}
use Rattle.job_make.proofs.reading.sections_of.Given as goal

abbrev pub invariant-loop-rest : goal.invariant-loop-rest
invariant-loop-rest l = record {
  line : l.line + length l.rest ≤ length l.fn.text + 1;
  named : (name : List ℕ) → option_or (section_from l.line l.inside (lines_of l.rest) name) (get_by (λ key. slice_cmp nat_cmp name key.now) l.by_name)
      ≡ text_sections l.fn.text name;
}

abbrev pub decreases-loop-rest : goal.decreases-loop-rest
decreases-loop-rest l = length l.rest
