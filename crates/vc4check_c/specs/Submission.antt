-- A driver's submission: the job file that it stands for, and what is asked of its numbers before any other rule.
use Rattle.std.specs.Prelude.{ℕ, ◌%◌, Bool, not, ◌==◌, nat_lt, List, [], ◌∷◌, ◌++◌, length, map, slice_index, slice_get, Option, Some, None, if◌then◌else◌}
use Rattle.field_words.specs.{Sizes.most_list, Sizes.most_code, Questions.Question, Questions.Ask, Questions.each}
use Rattle.buffer_table.specs.{declared.buffer.Kind.Kind, declared.buffer.Kind.TheVariants.Plain, declared.buffer.Kind.TheVariants.Code}
use Rattle.buffer_table.specs.declared.buffer.Buffer.{Buffer}
use Rattle.job_format.specs.{declared.file.Surface.Surface, declared.file.Frame.Frame, declared.rule.Stage.TheVariants.F}
use Rattle.job_format.specs.declared.rule.FormatRule.TheVariants.{OverLimit, WithoutMeaning}
use Rattle.job_format.specs.declared.rule.Part.TheVariants.{Header, Entry, JobEntry}
use Rattle.job_format.specs.{Rules.format_rule_number, Model.JobModel, Model.FileModel, declared.rule.Place.Place, declared.rule.Refusal.Refusal, Places.place_in}
use Rattle.job_format.specs.Offsets.{most_buffers, most_handles, most_states}
use Rattle.job_check.specs.Faults.{refusal_by, place_stages}
use Rattle.vc4check_c.specs.{declared.submission.GivenBuffer.GivenBuffer, declared.submission.GivenSurface.GivenSurface}
use Rattle.vc4check_c.specs.{declared.submission.GivenFrame.GivenFrame, declared.submission.Submission.Submission, Hardware.hardware_stages}

unfoldable pub surface_in : GivenSurface → Surface
surface_in given = record { hindex = given.hindex; offset = given.offset; bits = given.bits; flags = given.flags }

unfoldable pub frame_in : GivenFrame → (flags : ℕ) → Frame
frame_in given flags = record {
  width = given.width;
  height = given.height;
  min_x = given.min_x;
  min_y = given.min_y;
  max_x = given.max_x;
  max_y = given.max_y;
  surfaces = map surface_in given.surfaces;
  clear = flags == 1;
  clear_color = given.clear_color;
  clear_z = given.clear_z;
  clear_s = given.clear_s;
}

abbrev pub kind_in : ℕ → Kind
kind_in kind = if kind == 1 then Code else Plain

-- the shader in a Code buffer, and nothing of a data buffer
unfoldable pub content_in : GivenBuffer → List ℕ
content_in given = if given.kind == 1 then given.content.now else []

unfoldable pub entry_in : GivenBuffer → Buffer
entry_in given = record {
  place = given.address;
  size = given.size;
  client = given.client;
  kind = kind_in given.kind;
  content = length (content_in given);
}

unfoldable pub job_in : Submission → JobModel
job_in s = record {
  client = s.client;
  handles = s.handles.now;
  bin = s.bin.now;
  records = s.records.now;
  declared = s.states;
  uniforms = s.uniforms.now;
  frame = frame_in s.frame s.flags;
}

-- The file of version 2: its one job has one tile slot, and what is reported of no buffer is the memory's.
unfoldable pub file_of : Submission → FileModel
file_of s = record {
  version = 2;
  mem_size = s.end;
  regions = record { lists_place = s.lists; lists_size = s.lists_size; tile_place = s.slot; tile_slots = 1 };
  buffers = map entry_in s.buffers.now;
  contents = map content_in s.buffers.now;
  jobs = job_in s ∷ [];
}

-- F4: a number is over its limit; F5: it has no meaning. Both are reported at a field of the file.
abbrev pub over : (number limit : ℕ) → Place → Question Refusal
over number limit place = Ask (nat_lt limit number) (refusal_by F (format_rule_number OverLimit) place)

abbrev pub unknown : Bool → Place → Question Refusal
unknown broken place = Ask broken (refusal_by F (format_rule_number WithoutMeaning) place)

-- of a buffer: its kind, and the length of its shader
unfoldable pub entry_questions : GivenBuffer → (b : ℕ) → List (Question Refusal)
entry_questions given b =
    unknown (nat_lt 1 given.kind) (place_in Entry b 12) ∷ (over (length (content_in given)) most_code (place_in Entry b 16) ∷ [])

abbrev pub entry_questions_at : Option GivenBuffer → ℕ → List (Question Refusal)
entry_questions_at None b = []
entry_questions_at (Some given) b = entry_questions given b

unfoldable pub buffer_questions : List GivenBuffer → ℕ → List (Question Refusal)
buffer_questions buffers b = entry_questions_at (slice_get buffers b) b

-- of the job: its flags, counts and lengths, and the three bytes of the frame that have to be zero
unfoldable pub job_questions : Submission → List (Question Refusal)
job_questions s =
    unknown (nat_lt 1 s.flags) (place_in JobEntry 0 4)
    ∷ (over (length s.handles.now) most_handles (place_in JobEntry 0 8)
    ∷ (over (length s.bin.now) most_list (place_in JobEntry 0 12)
    ∷ (over (length s.records.now) most_list (place_in JobEntry 0 16)
    ∷ (over s.states most_states (place_in JobEntry 0 20)
    ∷ (over (length s.uniforms.now) most_list (place_in JobEntry 0 24)
    ∷ (unknown (not (length s.uniforms.now % 4 == 0)) (place_in JobEntry 0 24)
    ∷ (unknown (not (slice_index s.frame.pad 0 == 0)) (place_in JobEntry 0 121)
    ∷ (unknown (not (slice_index s.frame.pad 1 == 0)) (place_in JobEntry 0 122)
    ∷ (unknown (not (slice_index s.frame.pad 2 == 0)) (place_in JobEntry 0 123) ∷ [])))))))))

-- of all buffers
abbrev pub entries_questions : List GivenBuffer → List (Question Refusal)
entries_questions buffers = each (buffer_questions buffers) 0 (length buffers)

-- What is asked of the submission's own numbers: the rules of the format that a file of it could break.
unfoldable pub own_questions : Submission → List (Question Refusal)
own_questions s = over (length s.buffers.now) most_buffers (place_in Header 0 28) ∷ (entries_questions s.buffers.now ++ job_questions s)

-- All rules of a submission but the strict ones, in the order of refusal: its own, and those of the file that it stands for.
abbrev pub submission_questions : Submission → List (Question Refusal)
submission_questions s = own_questions s ++ place_stages (file_of s)

-- and with the strict ones behind them, as hardware needs
abbrev pub hardware_questions : Submission → List (Question Refusal)
hardware_questions s = own_questions s ++ hardware_stages (file_of s)
