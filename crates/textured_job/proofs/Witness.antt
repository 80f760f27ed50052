-- The bytes of both files are accepted, and have all that the laws speak of.
use Rattle.std.proofs.Common.{◌≡◌, ◌≢◌, ◌<◌, ◌≤◌, ◌^◌, ℕ, Bool, true, List, [], ◌∷◌, length, None, refl, sym, ap, subst, arith, ◌∙◌, lit<}
use Rattle.std.proofs.lemmas.Bool.{and_parts, Decides.nat_tests}
use Rattle.std.specs.{List.AllByRecursion, Prelude.nat_lt, Prelude.◌&&◌}
use Rattle.field_words.specs.{Questions.first_of, Questions.with_answers, Words.IsBytes}
use Rattle.field_words.proofs.Questions.{passes, answered_none}
use Rattle.job_format.specs.File.{BufferFits, SurfaceFits, FrameFits, JobFits, Fits, IsJobWellFormed, IsWellFormed, IsFileOf}
use Rattle.job_format.specs.Text.{header_text, buffer_text, surface_text, frame_text, job_text, parts_text, file_text}
use Rattle.job_format.specs.{Faults.format_questions, Model.FileModel, Reading.file_at}
use Rattle.buffer_table.specs.declared.buffer.Kind.{Kind, TheVariants.Plain, TheVariants.Code}
use Rattle.job_format.proofs.Laws.{read_again}
use Rattle.job_check.specs.{Faults.file_stages, Jobs.job_of, Whole.all_questions, Whole.format_refused, Whole.refusal_of, Whole.questions_within}
use Rattle.strict_check.specs.{Stages.strict_stages, Whole.strict_questions, Whole.strict_refusal_of}
use Rattle.shader_records.specs.Sources.{shader_used}
use Rattle.render_list.specs.Frame.{no_surface}
use Rattle.textured_job.specs.Job.{code_bytes, fragment_words, vertex_words, fragment_report, page, colour_write, frame, bin_list, records, uniforms, job, textured_file, two_clients, one_client}
use Rattle.textured_job.specs.Laws.{UsesAll, HasAll, IsAccepted, IsWitness, IsWitnessOfTwo, textured_bytes, two_clients_bytes, one_client_bytes}
use Rattle.textured_job.proofs.Cases.{Case, Alone, First, Second, Single, file_in, number_in}
use Rattle.textured_job.proofs.{Lists.bin_there, Records.drawn_is}
use Rattle.textured_job.proofs.Strict.{strict_none}
use Rattle.textured_job.proofs.Whole.{input_is, file_none, file_none_of_two, file_none_of_one}
use Rattle.accepted_law.proofs.ByteTexts.{bytes_cons}

-- each number of the list is below 256
abbrev all_small : List ℕ → Bool
all_small [] = true
all_small (x ∷ xs) = nat_lt x 256 && all_small xs

is_small : (x : ℕ) → nat_lt x 256 ≡ true → x < 256
is_small x small = grind (arith, nat_tests, small)

bytes_of : (xs : List ℕ) → all_small xs ≡ true → IsBytes xs
bytes_of [] all = λ i. lit< tt
bytes_of (x ∷ xs) all =
    let both = and_parts (nat_lt x 256) (all_small xs) all in
    bytes_cons x xs (is_small x both.0) (bytes_of xs both.1)

text_bytes : IsBytes textured_bytes
unfolding textured_file code_bytes header_text buffer_text surface_text frame_text job_text parts_text file_text
text_bytes = bytes_of textured_bytes refl

one_text_bytes : IsBytes one_client_bytes
unfolding two_clients one_client code_bytes header_text buffer_text surface_text frame_text job_text parts_text file_text
one_text_bytes = bytes_of one_client_bytes refl

two_text_bytes : IsBytes two_clients_bytes
unfolding two_clients code_bytes header_text buffer_text surface_text frame_text job_text parts_text file_text
two_text_bytes = bytes_of two_clients_bytes refl

fragment_bytes : IsBytes (code_bytes fragment_words)
unfolding code_bytes
fragment_bytes = bytes_of (code_bytes fragment_words) refl

vertex_bytes : IsBytes (code_bytes vertex_words)
unfolding code_bytes
vertex_bytes = bytes_of (code_bytes vertex_words) refl

-- the numbers fit their fields
absent_fits : SurfaceFits no_surface
absent_fits = record { hindex = lit< tt; offset = lit< tt; bits = lit< tt; flags = lit< tt }

written_fits : SurfaceFits colour_write
written_fits = record { hindex = lit< tt; offset = lit< tt; bits = lit< tt; flags = lit< tt }

-- a client's buffers, their contents, and a job
page_fits : (client place : ℕ) (kind : Kind) (content : ℕ) → client < 2 ^ 32 → place < 2 ^ 32 → content < 2 ^ 32 → BufferFits (page client place kind content)
page_fits client place kind content is_client is_place is_content = record { place = is_place; size = lit< tt; client = is_client; content = is_content }

frame_fits : FrameFits frame
frame_fits = record {
  width = lit< tt;
  height = lit< tt;
  min_x = lit< tt;
  min_y = lit< tt;
  max_x = lit< tt;
  max_y = lit< tt;
  six = refl;
  surfaces = (absent_fits, (written_fits, (absent_fits, (absent_fits, (absent_fits, (absent_fits, tt))))));
  two = refl;
  clear_color = (lit< tt, (lit< tt, tt));
  clear_z = lit< tt;
  clear_s = lit< tt;
}

job_fits : (client : ℕ) (handles : List ℕ) → client < 2 ^ 32 → AllByRecursion (λ h. h < 2 ^ 32) handles → JobFits (job client handles)
job_fits client handles is_client are_handles = record {
  client = is_client;
  handles = are_handles;
  bin = bytes_of bin_list refl;
  records = bytes_of records refl;
  declared = lit< tt;
  uniforms = bytes_of uniforms refl;
  frame = frame_fits;
}

first_job_fits : JobFits (job 1 (0 ∷ 1 ∷ 2 ∷ 3 ∷ []))
first_job_fits = job_fits 1 (0 ∷ 1 ∷ 2 ∷ 3 ∷ []) (lit< tt) (lit< tt, (lit< tt, (lit< tt, (lit< tt, tt))))

second_job_fits : JobFits (job 2 (4 ∷ 5 ∷ 6 ∷ 7 ∷ []))
second_job_fits = job_fits 2 (4 ∷ 5 ∷ 6 ∷ 7 ∷ []) (lit< tt) (lit< tt, (lit< tt, (lit< tt, (lit< tt, tt))))

empty_bytes : IsBytes []
empty_bytes = bytes_of [] refl

fits : Fits textured_file
unfolding textured_file
fits = record {
  version = lit< tt;
  mem_size = lit< tt;
  regions = record { lists_place = lit< tt; lists_size = lit< tt; tile_place = lit< tt; tile_slots = lit< tt };
  buffers = (
    page_fits 1 0x81000 Code 136 (lit< tt) (lit< tt) (lit< tt),
    (
      page_fits 1 0x82000 Code 24 (lit< tt) (lit< tt) (lit< tt),
      (page_fits 1 0x83000 Plain 0 (lit< tt) (lit< tt) (lit< tt), (page_fits 1 0x84000 Plain 0 (lit< tt) (lit< tt) (lit< tt), tt)),
    ),
  );
  contents = (fragment_bytes, (vertex_bytes, (empty_bytes, (empty_bytes, tt))));
  jobs = (first_job_fits, tt);
}

two_fit : Fits two_clients
unfolding two_clients
two_fit = record {
  version = lit< tt;
  mem_size = lit< tt;
  regions = record { lists_place = lit< tt; lists_size = lit< tt; tile_place = lit< tt; tile_slots = lit< tt };
  buffers = (
    page_fits 1 0x101000 Code 136 (lit< tt) (lit< tt) (lit< tt),
    (
      page_fits 1 0x102000 Code 24 (lit< tt) (lit< tt) (lit< tt),
      (
        page_fits 1 0x103000 Plain 0 (lit< tt) (lit< tt) (lit< tt),
        (
          page_fits 1 0x104000 Plain 0 (lit< tt) (lit< tt) (lit< tt),
          (
            page_fits 2 0x105000 Code 136 (lit< tt) (lit< tt) (lit< tt),
            (
              page_fits 2 0x106000 Code 24 (lit< tt) (lit< tt) (lit< tt),
              (page_fits 2 0x107000 Plain 0 (lit< tt) (lit< tt) (lit< tt), (page_fits 2 0x108000 Plain 0 (lit< tt) (lit< tt) (lit< tt), tt)),
            ),
          ),
        ),
      ),
    ),
  );
  contents = (fragment_bytes, (vertex_bytes, (empty_bytes, (empty_bytes, (fragment_bytes, (vertex_bytes, (empty_bytes, (empty_bytes, tt))))))));
  jobs = (first_job_fits, (second_job_fits, tt));
}

one_fits : Fits one_client
unfolding two_clients one_client
one_fits = record {
  version = lit< tt;
  mem_size = lit< tt;
  regions = record { lists_place = lit< tt; lists_size = lit< tt; tile_place = lit< tt; tile_slots = lit< tt };
  buffers = (
    page_fits 1 0x101000 Code 136 (lit< tt) (lit< tt) (lit< tt),
    (
      page_fits 1 0x102000 Code 24 (lit< tt) (lit< tt) (lit< tt),
      (page_fits 1 0x103000 Plain 0 (lit< tt) (lit< tt) (lit< tt), (page_fits 1 0x104000 Plain 0 (lit< tt) (lit< tt) (lit< tt), tt)),
    ),
  );
  contents = (fragment_bytes, (vertex_bytes, (empty_bytes, (empty_bytes, tt))));
  jobs = (first_job_fits, tt);
}

job_well_formed : (client : ℕ) (handles : List ℕ) → length handles ≤ 4 → IsJobWellFormed (job client handles)
job_well_formed client handles few =
    record { handles = omega (arith, few); bin = omega arith; records = omega arith; declared = omega arith; uniforms = omega arith; whole_words = refl }

well_formed : IsWellFormed textured_file
unfolding textured_file code_bytes
well_formed = record {
  a_version = omega arith;
  known = omega arith;
  first = λ is_first. record { buffers = omega arith; one_job = refl; handles = (omega arith, tt) };
  slots = λ later some. omega arith;
  buffers = omega arith;
  code = (omega arith, (omega arith, (tt, (tt, tt))));
  contents = refl;
  some_job = omega arith;
  few_jobs = omega arith;
  jobs = (job_well_formed 1 (0 ∷ 1 ∷ 2 ∷ 3 ∷ []) (omega arith), tt);
}

two_well_formed : IsWellFormed two_clients
unfolding two_clients code_bytes
two_well_formed = record {
  a_version = omega arith;
  known = omega arith;
  first = λ is_first. absurd (omega (arith, is_first));
  slots = λ later some. omega arith;
  buffers = omega arith;
  code = (omega arith, (omega arith, (tt, (tt, (omega arith, (omega arith, (tt, (tt, tt))))))));
  contents = refl;
  some_job = omega arith;
  few_jobs = omega arith;
  jobs = (job_well_formed 1 (0 ∷ 1 ∷ 2 ∷ 3 ∷ []) (omega arith), (job_well_formed 2 (4 ∷ 5 ∷ 6 ∷ 7 ∷ []) (omega arith), tt));
}

one_well_formed : IsWellFormed one_client
unfolding two_clients one_client code_bytes
one_well_formed = record {
  a_version = omega arith;
  known = omega arith;
  first = λ is_first. absurd (omega (arith, is_first));
  slots = λ later some. omega arith;
  buffers = omega arith;
  code = (omega arith, (omega arith, (tt, (tt, tt))));
  contents = refl;
  some_job = omega arith;
  few_jobs = omega arith;
  jobs = (job_well_formed 1 (0 ∷ 1 ∷ 2 ∷ 3 ∷ []) (omega arith), tt);
}

pub is_file : IsFileOf textured_bytes textured_file
is_file = record { fits = fits; well_formed = well_formed; text = refl }

pub two_are_file : IsFileOf two_clients_bytes two_clients
two_are_file = record { fits = two_fit; well_formed = two_well_formed; text = refl }

pub one_is_file : IsFileOf one_client_bytes one_client
one_is_file = record { fits = one_fits; well_formed = one_well_formed; text = refl }

-- bytes of a file which breaks no rule are accepted
accepted : (bytes : List ℕ) (f : FileModel) → IsBytes bytes → IsFileOf bytes f → first_of (file_stages f) ≡ None → first_of (strict_stages f) ≡ None → IsAccepted bytes
unfolding refusal_of questions_within strict_refusal_of strict_questions
accepted bytes f are_bytes is none strict =
    let again = read_again bytes f is in
    let asked : first_of (all_questions bytes) ≡ None =
    passes (with_answers format_refused (format_questions bytes)) (file_stages (file_at bytes)) (answered_none format_refused (format_questions bytes) again.0)
    ∙ (ap (λ g. first_of (file_stages g)) again.1 ∙ none) in
    record {
      are_bytes = are_bytes;
      spells = subst (IsFileOf bytes) (sym again.1) is;
      none = asked;
      strict = passes (all_questions bytes) (strict_stages (file_at bytes)) asked ∙ (ap (λ g. first_of (strict_stages g)) again.1 ∙ strict);
    }

-- the fragment shader has a texture, then a direct sample
uses_all : UsesAll fragment_report
uses_all = record {
  threaded = refl;
  texture = 0;
  texture_in = lit< tt;
  is_texture = refl;
  direct = 1;
  direct_in = lit< tt;
  is_direct = refl;
}

has_all : (c : Case) → HasAll (file_in c) (number_in c)
has_all c = record {
  bin = bin_there c;
  states = subst (λ i. 0 < length i.states) (sym (input_is c)) (lit< tt);
  shader = fragment_report;
  drawn = ap (λ i. shader_used i 0 0) (input_is c) ∙ drawn_is c;
  uses = uses_all;
}

one_in : length textured_file.jobs ≡ 1
unfolding textured_file
one_in = refl

pub two_in : length two_clients.jobs ≡ 2
unfolding two_clients
two_in = refl

clients_differ : (job_of two_clients 0).client ≢ (job_of two_clients 1).client
unfolding two_clients job_of
clients_differ same = absurd (omega (arith, same))

pub textured_witness : IsWitness textured_bytes
textured_witness =
    let again = (read_again textured_bytes textured_file is_file).1 in
    record {
      accepted = accepted textured_bytes textured_file text_bytes is_file file_none (strict_none Alone);
      one_job = ap (λ f. length f.jobs) again ∙ one_in;
      has = subst (λ f. HasAll f 0) (sym again) (has_all Alone);
    }

pub two_clients_witness : IsWitnessOfTwo two_clients_bytes
two_clients_witness =
    let again = (read_again two_clients_bytes two_clients two_are_file).1 in
    record {
      accepted = accepted two_clients_bytes two_clients two_text_bytes two_are_file file_none_of_two (strict_none First);
      two_jobs = ap (λ f. length f.jobs) again ∙ two_in;
      two_clients = subst (λ f. (job_of f 0).client ≢ (job_of f 1).client) (sym again) clients_differ;
      first = subst (λ f. HasAll f 0) (sym again) (has_all First);
      second = subst (λ f. HasAll f 1) (sym again) (has_all Second);
    }

pub one_client_accepted : IsAccepted one_client_bytes
one_client_accepted = accepted one_client_bytes one_client one_text_bytes one_is_file file_none_of_one (strict_none Single)
