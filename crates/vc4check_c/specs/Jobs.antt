-- What is reported of a job file, job by job.
use Rattle.std.specs.Prelude.{◌≡◌, ℕ, nat_lt, List, length, map, replicate, slice_index, slice_index_or, Option, Some, None, if◌then◌else◌}
use Rattle.std.specs.List.{range_with_len}
use Rattle.field_words.specs.Questions.{IsFirst}
use Rattle.job_format.specs.{declared.rule.Stage.Stage, declared.rule.Rule.Rule, declared.rule.Refusal.Refusal, Places.offset_of, Rules.letter, Offsets.most_jobs, File.IsFileOf, Reading.file_at}
use Rattle.relocation.specs.{declared.layout.Layout.Layout, declared.layout.Lengths.Lengths}
use Rattle.job_check.specs.{Emit.memory_of, Emit.all_lengths_of, Emit.IsPlaced, Jobs.layouts_of, Whole.all_questions, Whole.refusal_of}
use Rattle.vc4check_c.specs.{declared.jobs.JobLists.JobLists, declared.jobs.JobsAnswer.JobsAnswer}

-- of one job: where its lists lie, and how many bytes of each were emitted
unfoldable pub lists_report : Layout → Lengths → JobLists
lists_report layout lengths = record {
  lists = layout.place;
  slot = layout.slot;
  bin = layout.bin;
  records = layout.records;
  uniforms = layout.uniforms;
  render = layout.render;
  end = layout.end;
  bin_length = lengths.bin;
  records_length = lengths.records;
  uniforms_length = lengths.uniforms;
  render_length = lengths.render;
}

-- of no job
abbrev pub no_lists : JobLists
no_lists = record { lists = 0; slot = 0; bin = 0; records = 0; uniforms = 0; render = 0; end = 0; bin_length = 0; records_length = 0; uniforms_length = 0; render_length = 0 }

abbrev pub no_layout : Layout
no_layout = record { place = 0; bin = 0; records = 0; uniforms = 0; render = 0; end = 0; slot = 0 }

abbrev pub no_lengths : Lengths
no_lengths = record { bin = 0; records = 0; uniforms = 0; render = 0 }

-- of the first n jobs in order, and of none behind them
unfoldable pub lists_at : List Layout → List Lengths → ℕ → ℕ → JobLists
lists_at layouts lengths n j =
    if nat_lt j n then lists_report (slice_index_or layouts j no_layout) (slice_index_or lengths j no_lengths) else no_lists

unfoldable pub all_lists : List Layout → List Lengths → ℕ → List JobLists
all_lists layouts lengths n = map (lists_at layouts lengths n) (range_with_len 0 most_jobs)

-- of an accepted file: how long its memory is, how many jobs it has, and what is reported of each
unfoldable pub accepted_jobs : ℕ → List Layout → List Lengths → JobsAnswer
accepted_jobs size layouts lengths = record {
  offset = 0;
  letter = 0;
  number = 0;
  size = size;
  jobs = length layouts;
  lists = all_lists layouts lengths (length layouts);
}

-- the letter that the program prints for a stage is one byte
abbrev pub letter_code : Stage → ℕ
letter_code stage = slice_index (letter stage) 0

-- of a refused one: the rule, and the offset in the file of what it is about
unfoldable pub refused_jobs : Rule → (offset : ℕ) → JobsAnswer
refused_jobs rule offset = record {
  offset = offset;
  letter = letter_code rule.stage;
  number = rule.number;
  size = 0;
  jobs = 0;
  lists = replicate most_jobs no_lists;
}

-- No rule is broken: the bytes spell their file, its memory is as long as the file asks, whole pages of at most 64 MiB in which the lists of
-- each job lie in their order.
pub record IsSound (bytes : List ℕ) : Type 0 where
  pub none_broken : refusal_of bytes ≡ None
  pub spelled : IsFileOf bytes (file_at bytes)
  pub asked : length (memory_of (file_at bytes)) ≡ (file_at bytes).mem_size
  pub placed : IsPlaced (memory_of (file_at bytes)) (layouts_of (file_at bytes))

-- So it is, and this is reported of the file.
pub record AreAccepted (bytes : List ℕ) (answer : JobsAnswer) : Type 0 where
  pub sound : IsSound bytes
  pub report : answer ≡ accepted_jobs (length (memory_of (file_at bytes))) (layouts_of (file_at bytes)) (all_lengths_of (file_at bytes))

-- A rule is broken, none before it in the order of refusal is, and it is reported.
abbrev pub AreRefused : List ℕ → Option Refusal → JobsAnswer → Type 0
AreRefused bytes None answer = ⊥
AreRefused bytes (Some refusal) answer = IsFirst (all_questions bytes) refusal × (answer ≡ refused_jobs refusal.rule (offset_of bytes refusal.place))
