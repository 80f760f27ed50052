-- The memory in which the job of an accepted submit may run.
use Rattle.std.specs.Prelude.{◌≡◌, ◌≢◌, ◌<◌, ◌≤◌, ℕ, ◌+◌, ◌*◌, List, length, Ok}
use Rattle.field_words.specs.{Sizes.page_size, Words.IsBytes, Writes.with_bytes}
use Rattle.phys_mem.specs.Window.{window_of}
use Rattle.buffer_table.specs.declared.buffer.Kind.TheVariants.{Code}
use Rattle.job_format.specs.{Model.FileModel, Reading.file_at}
use Rattle.job_check.specs.Region.{region_of}
use Rattle.machine_plan.specs.Regions.{Inside}
use Rattle.promises.specs.{Holdings.rights_at, Prepared.MayRunOver}
use Rattle.session_pages.specs.Map.{place_of, memory_size}
use Rattle.job_session.specs.{Own.most_buffers, Session.Past}
use Rattle.job_session.specs.Desk.{Desk, first_page, page_total, kind_of, bytes_of, submit_answer}
use Rattle.session_law.specs.{Agree.client_count, Agree.Agrees, Lying.lying_file}

-- the file of a submit with the client's buffers where they lie, and the relocated lists of its job
abbrev pub file_in : Desk → ℕ → List ℕ → FileModel
file_in desk client parts = file_at (lying_file desk client parts)

abbrev pub lists_in : Desk → ℕ → List ℕ → List ℕ
lists_in desk client parts = region_of (file_in desk client parts)

-- the session's memory with these lists at its front, which is kept for them
abbrev pub with_lists : Desk → ℕ → List ℕ → List ℕ
with_lists desk client parts = with_bytes desk.map.memory 0 (lists_in desk client parts)

-- A client's submit to a session that agrees with the calls before was accepted; all bytes are below 256.
pub record IsAccepted (past : Past) (desk : Desk) (client : ℕ) (parts : List ℕ) : Type 0 where
  pub known : client < client_count
  pub agrees : Agrees past desk
  pub bytes : IsBytes desk.map.memory
  pub parts_bytes : IsBytes parts
  pub accepted : submit_answer desk client parts ≡ Ok tt

-- The memory has the lists at its front, and each Code buffer of the client as in the session. All its other bytes may be anything.
pub record IsReady (desk : Desk) (client : ℕ) (parts m : List ℕ) : Type 0 where
  pub long : length m ≡ memory_size
  pub lists : window_of m 0 (length (lists_in desk client parts)) ≡ lists_in desk client parts
  pub code : (id : ℕ) → id < most_buffers → kind_of desk client id ≡ Code
      → window_of m (place_of (first_page desk client id)) (page_size * page_total desk client id) ≡ bytes_of desk client id

abbrev pub ReadyMemoriesMayRun : Type 0
ReadyMemoriesMayRun =
    (past : Past) (desk : Desk) (client : ℕ) (parts m : List ℕ) → IsAccepted past desk client parts → IsReady desk client parts m
    → MayRunOver (file_in desk client parts) m

-- The session's own memory with the lists is such a one.
abbrev pub SubmitsMayRun : Type 0
SubmitsMayRun =
    (past : Past) (desk : Desk) (client : ℕ) (parts : List ℕ) → IsAccepted past desk client parts
    → MayRunOver (file_in desk client parts) (with_lists desk client parts)

-- No byte of another client's live buffer lies in what the job may reach: it lies in the pages that the buffer has.
abbrev pub SubmitsReachOwn : Type 0
SubmitsReachOwn =
    (past : Past) (desk : Desk) (client : ℕ) (parts : List ℕ) → IsAccepted past desk client parts
    → (other id p : ℕ) → other < client_count → other ≢ client → id < most_buffers
    → place_of (first_page desk other id) ≤ p → p < place_of (first_page desk other id) + page_size * page_total desk other id
    → Inside (rights_at (file_in desk client parts) 0).region p 1 → ⊥
