-- What is reported of a driver's submission.
use Rattle.std.specs.Prelude.{◌≡◌, ℕ, ◌≤◌, List, length, drop, Option, Some, None}
use Rattle.field_words.specs.Questions.{first_of, IsFirst}
use Rattle.job_format.specs.declared.rule.Part.TheVariants.{File, Header, Entry, JobEntry, Contents, Handles, BinnerList, Records, Uniforms}
use Rattle.job_format.specs.{declared.rule.Part.Part, declared.rule.Refusal.Refusal}
use Rattle.relocation.specs.{declared.layout.Layout.Layout, declared.layout.Lengths.Lengths, Layout.region_end}
use Rattle.job_check.specs.{Emit.lengths_of, Emit.IsInside, Jobs.layout_of}
use Rattle.job_check.specs.Region.{region_of}
use Rattle.vc4check_c.specs.{declared.submission.Submission.Submission, Jobs.letter_code}
use Rattle.vc4check_c.specs.{declared.submit.Verdict.Verdict, Jobs.lists_report, Jobs.no_lists}
use Rattle.vc4check_c.specs.Submission.{file_of, hardware_questions}

-- of an accepted one: how many bytes its lists take, where they lie and how long they are
unfoldable pub accepted_verdict : ℕ → Layout → Lengths → Verdict
accepted_verdict size layout lengths = record {
  offset = 0;
  letter = 0;
  number = 0;
  part = 0;
  index = 0;
  size = size;
  lists = lists_report layout lengths;
}

-- The parts of a submission by number. Its numbers stand for the header; it has no file.
unfoldable pub part_number : Part → ℕ
part_number File = 0
part_number Header = 0
part_number Entry = 1
part_number JobEntry = 2
part_number Contents = 3
part_number Handles = 4
part_number BinnerList = 5
part_number Records = 6
part_number Uniforms = 7

-- of a refused one: the rule, and the place of what it is about
unfoldable pub refused_verdict : Refusal → Verdict
refused_verdict refusal = record {
  offset = refusal.place.at;
  letter = letter_code refusal.rule.stage;
  number = refusal.rule.number;
  part = part_number refusal.place.part;
  index = refusal.place.index;
  size = 0;
  lists = no_lists;
}

-- No rule is broken by the submission; its lists lie in the lists' region in their order; and this is reported.
pub record IsTaken (s : Submission) (verdict : Verdict) : Type 0 where
  pub none_broken : first_of (hardware_questions s) ≡ None
  pub inside : length (region_of (file_of s)) ≤ s.lists_size
  pub placed : IsInside (region_end (file_of s).regions) (layout_of (file_of s) 0)
  pub report : verdict ≡ accepted_verdict (length (region_of (file_of s))) (layout_of (file_of s) 0) (lengths_of (file_of s) 0)

-- Whatever its blocks hold: the lists' bytes lie in the window and in their region, and what is behind them in the window stays.
pub record IsFront (s : Submission) (old new : List ℕ) (verdict : Verdict) : Type 0 where
  pub inside : verdict.size ≤ s.lists_size
  pub fits : verdict.size ≤ length old
  pub behind : drop verdict.size new ≡ drop verdict.size old

-- A rule is broken, none before it in the order of refusal is, and it is reported, with its place.
abbrev pub IsNotTaken : Submission → Option Refusal → Verdict → Type 0
IsNotTaken s None verdict = ⊥
IsNotTaken s (Some refusal) verdict = IsFirst (hardware_questions s) refusal × (verdict ≡ refused_verdict refusal)
