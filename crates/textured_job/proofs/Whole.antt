-- No rule is broken by either file.
use Rattle.std.proofs.Common.{◌≡◌, None, refl, ℕ, List, [], ◌∷◌, ◌++◌, Option, Some, ◌∙◌}
use Rattle.std.proofs.{lemmas.Grind.common_steps, lemmas.Bool.Decides.nat_tests, Common.arith}
use Rattle.field_words.specs.{Questions.first_of, Questions.each, Questions.with_answers, Questions.Question, Words.u64_at}
use Rattle.qpu_isa.specs.Shader.{ShaderModel}
use Rattle.job_check.specs.Shaders.{words_in, code_questions, report_of, content_of, shader_of, shaders_up_to}
use Rattle.job_check.specs.Faults.{shader_stage, shader_refused, shaders_stage, records_stage, lists_stages, job_stages, file_stages, stages_within}
use Rattle.job_check.specs.Jobs.{job_of, states_in, input_for}
use Rattle.textured_job.specs.Job.{code_bytes, fragment_words, vertex_words, fragment_report, vertex_report, textured_file, two_clients, one_client}
use Rattle.field_words.proofs.Questions.{passes, answered_none}
use Rattle.buffer_table.specs.Table.{buffer_at}
use Rattle.job_format.specs.{declared.rule.Refusal.Refusal, Model.FileModel}
use Rattle.textured_job.proofs.Cases.{Case, Alone, First, Second, Single, file_in, number_in, input_in}
use Rattle.textured_job.proofs.Lists.{table_none, table_none_of_two, table_none_of_one, handles_none, bin_there, bin_none, states_are, surfaces_none, layout_none}
use Rattle.textured_job.proofs.Records.{records_asked}
use Rattle.shader_check.proofs.Opened.{shaders}

-- No rule is broken by the two shaders, and what is reported of them.

pub fragment_no_fault : first_of (code_questions (code_bytes fragment_words)) ≡ None
unfolding each with_answers u64_at words_in code_questions code_bytes shaders
fragment_no_fault = refl

pub vertex_no_fault : first_of (code_questions (code_bytes vertex_words)) ≡ None
unfolding each with_answers u64_at words_in code_questions code_bytes shaders
vertex_no_fault = refl

pub fragment_is_reported : report_of (words_in (code_bytes fragment_words) 17) ≡ fragment_report
unfolding each with_answers u64_at words_in report_of code_bytes shaders
fragment_is_reported = refl

pub vertex_is_reported : report_of (words_in (code_bytes vertex_words) 3) ≡ vertex_report
unfolding each with_answers u64_at words_in report_of code_bytes shaders
vertex_is_reported = refl

-- the shaders of a client, in buffers b and b + 1 of a file
client_none : (f : FileModel) (b d : ℕ) (rest : List (Question Refusal)) → first_of rest ≡ None
    → first_of (with_answers (shader_refused b) (code_questions (code_bytes fragment_words)) ++ (with_answers (shader_refused d) (code_questions (code_bytes vertex_words)) ++ rest)) ≡ None
client_none f b d rest none = grind (arith, common_steps, nat_tests, passes, answered_none, fragment_no_fault, vertex_no_fault)

shaders_none : first_of (shaders_stage textured_file) ≡ None
unfolding textured_file shaders_stage shader_stage each with_answers content_of buffer_at
shaders_none = client_none textured_file 0 1 [] refl

shaders_none_of_two : first_of (shaders_stage two_clients) ≡ None
unfolding two_clients shaders_stage shader_stage each with_answers content_of buffer_at
shaders_none_of_two = grind (arith, common_steps, nat_tests, client_none)

shaders_none_of_one : first_of (shaders_stage one_client) ≡ None
unfolding two_clients one_client shaders_stage shader_stage each with_answers content_of buffer_at
shaders_none_of_one = client_none one_client 0 1 [] refl

abbrev fragment_tells : ShaderModel
fragment_tells = report_of (words_in (code_bytes fragment_words) 17)

abbrev vertex_tells : ShaderModel
vertex_tells = report_of (words_in (code_bytes vertex_words) 3)

-- what is computed of a client's shaders, and of all in the file
abbrev tells : ShaderModel → ShaderModel → List (Option ShaderModel)
tells fragment vertex = Some fragment ∷ Some vertex ∷ None ∷ None ∷ []

abbrev tells_in : Case → ShaderModel → ShaderModel → List (Option ShaderModel)
tells_in Alone fragment vertex = tells fragment vertex
tells_in First fragment vertex = tells fragment vertex ++ tells fragment vertex
tells_in Second fragment vertex = tells fragment vertex ++ tells fragment vertex
tells_in Single fragment vertex = tells fragment vertex

reports_are : (c : Case) → tells_in c fragment_report vertex_report ≡ (input_in c).shaders
reports_are Alone = refl
reports_are First = refl
reports_are Second = refl
reports_are Single = refl

input_computed : (c : Case) → input_for (file_in c) (number_in c) ≡ record (input_in c) { states = states_in (file_in c) (number_in c); shaders = tells_in c fragment_tells vertex_tells }
unfolding textured_file two_clients one_client input_for job_of shader_of shaders_up_to content_of buffer_at code_bytes
input_computed Alone = refl
input_computed First = refl
input_computed Second = refl
input_computed Single = refl

pub input_is : (c : Case) → input_for (file_in c) (number_in c) ≡ input_in c
input_is c = grind (arith, common_steps, nat_tests, input_computed, input_in, states_are, fragment_is_reported, vertex_is_reported, reports_are)

records_none : (c : Case) → first_of (records_stage (file_in c) (number_in c)) ≡ None
unfolding records_stage
records_none c = grind (arith, common_steps, nat_tests, file_in, number_in, answered_none, input_is, records_asked, bin_there)

-- all of a job
job_none : (c : Case) → first_of (job_stages (file_in c) (number_in c)) ≡ None
unfolding job_stages lists_stages
job_none c =
    grind (arith, common_steps, nat_tests, file_in, number_in, passes, bin_none, records_none, surfaces_none, handles_none, layout_none)

one_job_none : first_of (each (job_stages textured_file) 0 1) ≡ None
unfolding each
one_job_none = passes (job_stages textured_file 0) [] (job_none Alone)

two_jobs_none : first_of (each (job_stages two_clients) 0 2) ≡ None
unfolding each
two_jobs_none =
    passes (job_stages two_clients 0) (job_stages two_clients 1 ++ []) (job_none First)
    ∙ passes (job_stages two_clients 1) [] (job_none Second)

single_job_none : first_of (each (job_stages one_client) 0 1) ≡ None
unfolding each
single_job_none = passes (job_stages one_client 0) [] (job_none Single)

pub file_none : first_of (file_stages textured_file) ≡ None
unfolding stages_within textured_file
file_none = grind (arith, common_steps, nat_tests, passes, table_none, shaders_none, one_job_none)

pub file_none_of_two : first_of (file_stages two_clients) ≡ None
unfolding stages_within two_clients
file_none_of_two = grind (arith, common_steps, nat_tests, passes, table_none_of_two, shaders_none_of_two, two_jobs_none)

pub file_none_of_one : first_of (file_stages one_client) ≡ None
unfolding stages_within two_clients one_client
file_none_of_one = grind (arith, common_steps, nat_tests, passes, table_none_of_one, shaders_none_of_one, single_job_none)
