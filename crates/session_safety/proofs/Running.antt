-- The job of an accepted submit may run over the session's memory.
use Rattle.std.proofs.Common.{◌≡◌, ℕ, ◌+◌, ◌-◌, ◌*◌, ◌<◌, ◌≤◌, List, ◌++◌, Option, Some, None, Ok, length, drop, append-nil, arith, refl, sym, ◌∙◌, ap, subst}
use Rattle.field_words.specs.{Sizes.page_size, Questions.first_of, Questions.with_answers, Writes.with_bytes, Writes.zeros}
use Rattle.field_words.proofs.{Nones.front_none, Nones.none_answered, Writes.length-with_bytes, Writes.with_bytes-behind}
use Rattle.phys_mem.specs.Window.{window_of}
use Rattle.buffer_table.specs.{declared.buffer.Buffer.Buffer, declared.buffer.Kind.Kind, declared.buffer.Kind.TheVariants.Code}
use Rattle.buffer_table.specs.{declared.buffer.Regions.Regions, Table.buffer_at}
use Rattle.buffer_table.proofs.Named.{code_is}
use Rattle.job_format.specs.{declared.rule.Refusal.Refusal, Faults.format_questions, Reading.file_at}
use Rattle.job_format.proofs.Passing.{passes_all}
use Rattle.job_check.specs.{Faults.file_stages, Jobs.job_of, Region.region_of, Shaders.table_of, Shaders.content_of as content_in}
use Rattle.job_check.specs.Whole.{format_refused, all_questions, refusal_of, questions_within}
use Rattle.promises.specs.Prepared.{IsFaultless, content_filled, HasContent, IsPrepared}
use Rattle.accepted_law.proofs.Prepared.{region_within}
use Rattle.job_safety.proofs.{Prepared.prepared_jobs_law, Safety.bytes_spell, Safety.faultless}
use Rattle.session_pages.specs.Map.{memory_size, place_of}
use Rattle.job_session.specs.{Checked.rule_option, Checked.file_refusal, Own.most_buffers, Session.Past, Submit.content_of, Submit.buffer_laid, Submit.with_client}
use Rattle.job_session.specs.Desk.{Desk, first_page, page_total, kind_of, bytes_of, job_answer}
use Rattle.session_law.specs.{Agree.client_count, Agree.Agrees, Lying.lying, Lying.lying_file}
use Rattle.session_law.proofs.Bytes.{window_same}
use Rattle.session_law.proofs.{Laying.regions, Laying.regions_back, Laying.size_back, Lying.slot_held, Lying.submits_are_of_places}
use Rattle.session_law.proofs.Writing.{room_in}
use Rattle.session_safety.specs.Running.{file_in, lists_in, with_lists, IsAccepted, IsReady, SubmitsMayRun, ReadyMemoriesMayRun}
use Rattle.session_safety.proofs.{Bytes.file_bytes, Contents.IsLying, Contents.front_take, Contents.lies, Contents.whole_entry}
use Rattle.session_law.proofs.Outcomes.{bytes_long}

-- No rule of the file is broken.
none_by : (bytes : List ℕ) (refusal : Option Refusal) → job_answer (rule_option bytes refusal) ≡ Ok tt → refusal ≡ None
none_by bytes None is = refl
none_by bytes (Some refusal) is = absurd (cc)

none_broken : (past : Past) (desk : Desk) (client : ℕ) (parts : List ℕ) → IsAccepted past desk client parts → first_of (all_questions (lying_file desk client parts)) ≡ None
unfolding refusal_of file_refusal
none_broken past desk client parts accepted =
    none_by (lying_file desk client parts) (refusal_of (lying_file desk client parts)) (sym (submits_are_of_places past desk client parts accepted.known accepted.agrees) ∙ accepted.accepted)

pub is_faultless : (past : Past) (desk : Desk) (client : ℕ) (parts : List ℕ) → IsAccepted past desk client parts → IsFaultless (file_in desk client parts)
is_faultless past desk client parts accepted =
    let bytes = lying_file desk client parts in
    let none = none_broken past desk client parts accepted in
    faultless bytes (bytes_spell bytes (file_bytes desk client parts accepted.bytes accepted.parts_bytes) none) none

pub entry_whole : (past : Past) (desk : Desk) (client : ℕ) (parts : List ℕ) → IsAccepted past desk client parts → 124 ≤ length (with_client client parts)
unfolding questions_within
entry_whole past desk client parts accepted =
    let bytes = lying_file desk client parts in
    let format = none_answered format_refused (format_questions bytes)
    (front_none (with_answers format_refused (format_questions bytes)) (file_stages (file_at bytes)) (none_broken past desk client parts accepted)) in
    let passes = passes_all bytes format in
    whole_entry desk client parts (passes.job 0 (omega (arith, passes.header.some_job))).size

size_is : (desk : Desk) (client : ℕ) (parts : List ℕ) → (file_in desk client parts).mem_size ≡ memory_size
unfolding file_at lying_file
size_is desk client parts = size_back (length (lying desk client 0 most_buffers)) _

pub regions_are : (desk : Desk) (client : ℕ) (parts : List ℕ) → (file_in desk client parts).regions ≡ regions
unfolding file_at lying_file
regions_are desk client parts = regions_back (length (lying desk client 0 most_buffers)) _

filled_whole : (bytes : List ℕ) → content_filled bytes (length bytes) ≡ bytes
unfolding zeros
filled_whole bytes = let none : length bytes - length bytes ≡ 0 = omega arith in ap (λ n. bytes ++ zeros n) none ∙ append-nil bytes

slot_stands : (past : Past) (desk : Desk) (client : ℕ) (m : List ℕ) (b : Buffer) (bytes : List ℕ) → Agrees past desk → client < client_count → IsLying desk client b bytes
    → b.kind ≡ Code
    → ((id : ℕ) → id < most_buffers → kind_of desk client id ≡ Code
    → window_of m (place_of (first_page desk client id)) (page_size * page_total desk client id) ≡ bytes_of desk client id)
    → HasContent m b bytes
slot_stands past desk client m b bytes agrees known at kind code =
    let id = at.id in
    let own = bytes_of desk client id in
    let is_code : kind_of desk client id ≡ Code = sym (ap (λ (e : Buffer). e.kind) at.is) ∙ kind in
    let content : bytes ≡ own = at.bytes_are ∙ ap (λ (k : Kind). content_of k own) is_code in
    let long = bytes_long past desk client id agrees (record { known = known; small = at.small }) in
    let has : HasContent m (buffer_laid client (place_of (first_page desk client id)) (slot_held desk client id)) own =
    ap (window_of m (place_of (first_page desk client id))) long ∙ code id at.small is_code ∙ sym (filled_whole own) in
    subst (λ (e : Buffer). HasContent m e bytes) (sym at.is)
    (subst (λ (c : List ℕ). HasContent m (buffer_laid client (place_of (first_page desk client id)) (slot_held desk client id)) c) (sym content) has)

is_prepared : (past : Past) (desk : Desk) (client : ℕ) (parts m : List ℕ) → IsAccepted past desk client parts → IsReady desk client parts m → IsPrepared (file_in desk client parts) m
is_prepared past desk client parts m accepted ready =
    let f = file_in desk client parts in
    let place : f.regions.lists_place ≡ 0 = ap (λ (r : Regions). r.lists_place) (regions_are desk client parts) in
    record {
      long = ready.long ∙ sym (size_is desk client parts);
      lists = ap (λ p. window_of m p (length (region_of f))) place ∙ ready.lists;
      code = λ j inside handle number named.
          let is = code_is (table_of f) (job_of f j).handles handle number named in
          slot_stands past desk client m (buffer_at f.buffers number) (content_in f number) accepted.agrees accepted.known
          (lies past desk client number parts accepted.agrees accepted.known (entry_whole past desk client parts accepted) is.inside) is.kind_is ready.code;
    }

pub ready_memories_may_run : ReadyMemoriesMayRun
ready_memories_may_run past desk client parts m accepted ready =
    let file = is_faultless past desk client parts accepted in
    prepared_jobs_law (file_in desk client parts) file.well_formed file.fits file.none m (is_prepared past desk client parts m accepted ready)

-- The session's memory with the lists.
front_window : (m r : List ℕ) → window_of (with_bytes m 0 r) 0 (length r) ≡ r
front_window m r = front_take r (drop (0 + length r) m)

is_ready : (past : Past) (desk : Desk) (client : ℕ) (parts : List ℕ) → IsAccepted past desk client parts → IsReady desk client parts (with_lists desk client parts)
is_ready past desk client parts accepted =
    let memory = desk.map.memory in
    let lists = lists_in desk client parts in
    let sized = accepted.agrees.sized.map.sized in
    let places = regions_are desk client parts in
    let inside = region_within (file_in desk client parts) (is_faultless past desk client parts accepted) in
    let place : (file_in desk client parts).regions.lists_place ≡ 0 = ap (λ (r : Regions). r.lists_place) places in
    let size : (file_in desk client parts).regions.lists_size ≡ 4194304 = ap (λ (r : Regions). r.lists_size) places in
    let within : length lists ≤ 4194304 = omega (arith, inside, place, size) in
    let fits : 0 + length lists ≤ length memory = omega (arith, within, sized) in
    let long = length-with_bytes memory 0 lists fits in
    record {
      long = long ∙ sized;
      lists = front_window memory lists;
      code = λ id small kind.
          window_same memory (with_lists desk client parts) (place_of (first_page desk client id)) (page_size * page_total desk client id)
          (room_in past desk client id accepted.agrees (record { known = accepted.known; small = small })) long
          (λ k below. with_bytes-behind memory 0 lists (place_of (first_page desk client id) + k) fits (omega (arith, within)));
    }

pub submits_may_run : SubmitsMayRun
submits_may_run past desk client parts accepted =
    ready_memories_may_run past desk client parts (with_lists desk client parts) accepted (is_ready past desk client parts accepted)
