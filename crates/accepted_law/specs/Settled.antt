-- What is known of a file in which no rule is broken, stage by stage, and of the memory that it is emitted as.
use Rattle.std.specs.Prelude.{◌≡◌, ◌≤◌, ◌<◌, ℕ, ◌+◌, ◌%◌, true, List, length, None, Some}
use Rattle.field_words.specs.{Sizes.page_size, Sizes.slot_size, Words.IsBytes, Questions.first_of}
use Rattle.buffer_table.specs.{declared.buffer.Kind.TheVariants.Code, Table.buffer_at, Table.most_place, Sound.IsSound}
use Rattle.buffer_table.specs.Handles.{AreNumbersOf, code_of}
use Rattle.bin_list.specs.Rules.{bin_questions}
use Rattle.shader_records.specs.{Inputs.AreShadersOf, Rules.all_questions, Named.IsDataIn}
use Rattle.render_list.specs.Surfaces.{surface_faults}
use Rattle.job_format.specs.{File.IsWellFormed, File.IsJobWellFormed, File.Fits, File.JobFits, Model.FileModel}
use Rattle.relocation.specs.Layout.{region_end}
use Rattle.job_check.specs.Jobs.{job_of, has_bin, grid_of, input_for, layout_of, slot_of, bin_list_of, records_of, streams_of, render_list_of}
use Rattle.job_check.specs.Shaders.{table_of, content_of, code_questions, shaders_of}
use Rattle.machine_plan.specs.Memory.{bytes_at}
use Rattle.promises.specs.Holdings.{OfEachJob, plain_of, lists_of, file_rights, rights_at}
use Rattle.promises.specs.Rights.{IsOneOf, IsFixed}

-- Of such a file and its job j: the memory table is sound, each Code buffer holds a shader in which no rule is broken, the handles of the job
-- are numbers of buffers, no rule is broken in its lists, its frame and its surfaces, and its lists end in the lists' region.
pub record Settled (f : FileModel) (j : ℕ) : Type 0 where
  pub well_formed : IsWellFormed f
  pub fits : Fits f
  pub inside : j < length f.jobs
  pub limits : IsJobWellFormed (job_of f j)
  pub job_fits : JobFits (job_of f j)
  pub sound : IsSound f.mem_size f.regions f.buffers
  pub codes : (number : ℕ) → number < length f.buffers → (buffer_at f.buffers number).kind ≡ Code → first_of (code_questions (content_of f number)) ≡ None
  pub shaders : AreShadersOf (table_of f) (shaders_of f)
  pub numbers : AreNumbersOf (table_of f) (job_of f j).handles
  pub bin : has_bin f j ≡ true → first_of (bin_questions (job_of f j).bin (job_of f j).declared (table_of f) (job_of f j).handles) ≡ None
  pub records : has_bin f j ≡ true → first_of (all_questions (input_for f j)) ≡ None
  pub surfaces : first_of (surface_faults (job_of f j).frame (grid_of f j) (table_of f) (job_of f j).handles) ≡ None
  pub lists : (layout_of f j).place + (layout_of f j).end ≤ region_end f.regions

-- So it is for each job.
abbrev pub AreSettled : FileModel → Type 0
AreSettled f = OfEachJob f (Settled f)

-- The memory is of the file's size and holds bytes: each buffer's contents at its place, and the four lists of job j at their
-- places.
pub record Holds (f : FileModel) (j : ℕ) (m : List ℕ) : Type 0 where
  pub long : length m ≡ f.mem_size
  pub bytes : IsBytes m
  pub contents : (number : ℕ) → number < length f.buffers → bytes_at m (buffer_at f.buffers number).place (length (content_of f number)) ≡ content_of f number
  pub bin : bytes_at m ((layout_of f j).place + (layout_of f j).bin) (length (bin_list_of f j)) ≡ bin_list_of f j
  pub records : bytes_at m ((layout_of f j).place + (layout_of f j).records) (length (records_of f j)) ≡ records_of f j
  pub uniforms : bytes_at m ((layout_of f j).place + (layout_of f j).uniforms) (length (streams_of f j)) ≡ streams_of f j
  pub render : bytes_at m ((layout_of f j).place + (layout_of f j).render) (length (render_list_of f j)) ≡ render_list_of f j

-- The emitted lists are no longer than their room in the layout, and the last one ends in the lists' region.
pub record ListsEnd (f : FileModel) (j : ℕ) : Type 0 where
  pub bin : (layout_of f j).bin + length (bin_list_of f j) ≤ (layout_of f j).records
  pub records : (layout_of f j).records + length (records_of f j) ≤ (layout_of f j).uniforms
  pub uniforms : (layout_of f j).uniforms + length (streams_of f j) ≤ (layout_of f j).render
  pub render : (layout_of f j).render + length (render_list_of f j) ≤ (layout_of f j).end
  pub region : (layout_of f j).place + (layout_of f j).end ≤ region_end f.regions

-- What is known of the rights of job j: each thing that it holds is an interval of its region, its data buffers may be written by it, and
-- its lists and code by no job. No two items of a sound table share a byte, and each buffer begins at a page.
pub record Grounds (f : FileModel) (j : ℕ) (m : List ℕ) : Type 0 where
  pub settled : Settled f j
  pub holds : Holds f j m
  pub ends : ListsEnd f j
  pub named_data : (place size : ℕ) → IsDataIn (table_of f) (job_of f j).handles place size → IsOneOf (plain_of f j) place size
  pub data_reads : (place size : ℕ) → IsOneOf (plain_of f j) place size → IsOneOf (rights_at f j).region place size
  pub data_writes : (place size : ℕ) → IsOneOf (plain_of f j) place size → IsOneOf (rights_at f j).writable place size
  pub data_page : (place size : ℕ) → IsOneOf (plain_of f j) place size → place % page_size ≡ 0
  pub data_low : (place size : ℕ) → IsOneOf (plain_of f j) place size → place + size ≤ most_place
  pub code : (handle number : ℕ) → code_of (table_of f) (job_of f j).handles handle ≡ Some number
      → IsOneOf (rights_at f j).region (buffer_at f.buffers number).place (buffer_at f.buffers number).size
  pub lists : (place size : ℕ) → IsOneOf (lists_of f j) place size → IsOneOf (rights_at f j).region place size
  pub slot : IsOneOf (rights_at f j).region (slot_of f j) slot_size
  pub code_fixed : (handle number : ℕ) → code_of (table_of f) (job_of f j).handles handle ≡ Some number
      → IsFixed (file_rights f) (buffer_at f.buffers number).place (buffer_at f.buffers number).size
  pub lists_fixed : (place size : ℕ) → IsOneOf (lists_of f j) place size → IsFixed (file_rights f) place size
