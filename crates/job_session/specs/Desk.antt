-- What a session keeps, and what calls answer and leave, by page map and slots alone. Each client has 64 slots.
use Rattle.std.specs.Prelude.{◌≡◌, ◌≤◌, ◌<◌, ℕ, ◌+◌, ◌*◌, ◌==◌, Bool, true, not, ◌&&◌, ◌||◌, nat_lt, List, length, slice_index, slice_index_or, slice_set, replicate, Option, Some, None, Result, Ok, Err, is_ok, if◌then◌else◌}
use Rattle.std.specs.Int.{div_ceil}
use Rattle.field_words.specs.{Sizes.page_size, declared.stop.Stop.Stop}
use Rattle.field_words.specs.declared.stop.Stop.TheVariants.{Fault, NoMemory}
use Rattle.buffer_table.specs.{declared.buffer.Kind.Kind, declared.buffer.Kind.TheVariants.Plain, declared.buffer.Kind.TheVariants.Code}
use Rattle.job_session.specs.declared.denied.BrokenRule.{BrokenRule}
use Rattle.overflow_slots.specs.Search.{first_where}
use Rattle.phys_mem.specs.Window.{window_of}
use Rattle.session_pages.specs.Runs.{page_count}
use Rattle.session_pages.specs.Map.{PageMap, all_free, free_run, with_run, without_run, with_part, place_of}
use Rattle.job_session.specs.{declared.denied.Denied.Denied, Own.Held, Own.most_buffers, Own.most_pages, Own.most_read}
use Rattle.job_session.specs.declared.denied.Denied.TheVariants.{Session, Job}
use Rattle.job_session.specs.Checked.{shader_refusal, session_rules}

-- The map of pages; and for each slot its buffer's first page, how many pages it has, where 0 says that no buffer lives there, and
-- its kind.
pub record Desk : Type 0 where
  pub map : PageMap
  pub firsts : List ℕ
  pub counts : List ℕ
  pub kinds : List Kind

abbrev pub slot_count : ℕ
slot_count = 512

abbrev pub slot_of : ℕ → ℕ → ℕ
slot_of client id = most_buffers * client + id

-- each slot's pages are pages of the memory
abbrev pub SlotsFit : List ℕ → List ℕ → Type 0
SlotsFit firsts counts = (slot : ℕ) → slot < slot_count → slice_index firsts slot + slice_index counts slot ≤ page_count

abbrev pub empty : Desk
empty = record {
  map = all_free;
  firsts = replicate slot_count 0;
  counts = replicate slot_count 0;
  kinds = replicate slot_count Plain;
}

abbrev pub first_page : Desk → ℕ → ℕ → ℕ
first_page desk client id = slice_index desk.firsts (slot_of client id)

abbrev pub page_total : Desk → ℕ → ℕ → ℕ
page_total desk client id = slice_index desk.counts (slot_of client id)

abbrev pub kind_of : Desk → ℕ → ℕ → Kind
kind_of desk client id = slice_index_or desk.kinds (slot_of client id) Plain

abbrev pub is_vacant : List ℕ → ℕ → ℕ → Bool
is_vacant counts client id = slice_index counts (slot_of client id) == 0

abbrev pub least_id : List ℕ → ℕ → Option ℕ
least_id counts client = first_where (is_vacant counts client) 0 most_buffers

-- the client has a live buffer of this id
abbrev pub is_live : Desk → ℕ → ℕ → Bool
is_live desk client id = nat_lt id most_buffers && not (is_vacant desk.counts client id)

-- a client's buffers as the slots hold them: each one's kind, and the bytes of its pages
abbrev pub bytes_of : Desk → ℕ → ℕ → List ℕ
bytes_of desk client id = window_of desk.map.memory (place_of (first_page desk client id)) (page_size * page_total desk client id)

unfoldable pub held_in : Desk → ℕ → ℕ → Option Held
held_in desk client id =
    if is_live desk client id then Some (record { kind = kind_of desk client id; bytes = bytes_of desk client id }) else None

-- 6: no run of free pages is long enough
abbrev pub placed_id : ℕ → Option ℕ → Result ℕ ℕ
placed_id id None = Err 6
placed_id id (Some first) = Ok id

-- 4: each id is in use
abbrev pub created_id : Desk → ℕ → Option ℕ → Result ℕ ℕ
created_id desk pages None = Err 4
created_id desk pages (Some id) = placed_id id (free_run desk.map pages)

abbrev pub new_id : Desk → ℕ → ℕ → Result ℕ ℕ
new_id desk client pages = created_id desk pages (least_id desk.counts client)

-- 5: no page, or over 1,024
abbrev pub create_answer : Desk → ℕ → ℕ → Result ℕ ℕ
create_answer desk client pages = if (pages == 0) || nat_lt most_pages pages then Err 5 else new_id desk client pages

abbrev pub with_place : Desk → ℕ → ℕ → ℕ → Kind → Option ℕ → Desk
with_place desk client id pages kind None = desk
with_place desk client id pages kind (Some first) = record {
  map = with_run desk.map pages (slot_of client id + 1) (Some first);
  firsts = slice_set desk.firsts (slot_of client id) first;
  counts = slice_set desk.counts (slot_of client id) pages;
  kinds = slice_set desk.kinds (slot_of client id) kind;
}

-- what a new buffer leaves: its pages as they were; a refusal and want of memory change nothing
abbrev pub after_place : {F : Type 0} → Desk → ℕ → ℕ → Kind → Result ℕ F → Desk
after_place desk client pages kind (Err stop) = desk
after_place desk client pages kind (Ok id) = with_place desk client id pages kind (free_run desk.map pages)

-- what `create` leaves
abbrev pub after_create : Desk → ℕ → ℕ → Result ℕ ℕ → Desk
after_create desk client pages answer = after_place desk client pages Plain answer

-- the least number of pages that holds a shader
abbrev pub pages_for : List ℕ → ℕ
pages_for bytes = div_ceil (length bytes) page_size

-- the rules of shaders, and then 4 and 6
abbrev pub denied_id : Result ℕ ℕ → Result ℕ Denied
denied_id (Ok id) = Ok id
denied_id (Err refusal) = Err (Session refusal)

abbrev pub made_id : Desk → ℕ → List ℕ → Option BrokenRule → Result ℕ Denied
made_id desk client bytes (Some refusal) = Err (Job refusal)
made_id desk client bytes None = denied_id (new_id desk client (pages_for bytes))

abbrev pub code_answer : Desk → ℕ → List ℕ → Result ℕ Denied
code_answer desk client bytes = made_id desk client bytes (shader_refusal bytes)

-- bytes were written from a buffer's byte on
abbrev pub with_written : Desk → ℕ → ℕ → ℕ → List ℕ → Desk
with_written desk client id at part = record {
  map = with_part desk.map (first_page desk client id) at part;
  firsts = desk.firsts;
  counts = desk.counts;
  kinds = desk.kinds;
}

-- what `code` leaves: a new Code buffer, at whose front the bytes were written
abbrev pub after_code : {F : Type 0} → Desk → ℕ → List ℕ → Result ℕ F → Desk
after_code desk client bytes (Err stop) = desk
after_code desk client bytes (Ok id) =
    with_written (with_place desk client id (pages_for bytes) Code (free_run desk.map (pages_for bytes))) client id 0 bytes

-- 1: no such buffer
abbrev pub free_answer : Desk → ℕ → ℕ → Result (Unit {0}) ℕ
free_answer desk client id = if is_live desk client id then Ok tt else Err 1

-- what `free` leaves: the pages are free, and zero
abbrev pub after_free : Desk → ℕ → ℕ → Desk
after_free desk client id =
    if is_live desk client id then record {
      map = without_run desk.map (first_page desk client id) (page_total desk client id);
      firsts = desk.firsts;
      counts = slice_set desk.counts (slot_of client id) 0;
      kinds = desk.kinds;
    } else desk

-- bytes from `at` on lie in the buffer
abbrev pub lies_in : Desk → ℕ → ℕ → ℕ → ℕ → Bool
lies_in desk client id at len = not (nat_lt (page_size * page_total desk client id) (at + len))

-- 3: it is Code; 2: past the buffer's end
abbrev pub write_in : Desk → ℕ → ℕ → ℕ → ℕ → Kind → Result (Unit {0}) ℕ
write_in desk client id at len Code = Err 3
write_in desk client id at len Plain = if lies_in desk client id at len then Ok tt else Err 2

-- 1: no such buffer
abbrev pub write_answer : Desk → ℕ → ℕ → ℕ → ℕ → Result (Unit {0}) ℕ
write_answer desk client id at len =
    if is_live desk client id then write_in desk client id at len (kind_of desk client id) else Err 1

-- what `write` leaves: a refusal changes nothing
abbrev pub after_write : Desk → ℕ → ℕ → ℕ → List ℕ → Result (Unit {0}) ℕ → Desk
after_write desk client id at part (Err refusal) = desk
after_write desk client id at part (Ok done) = with_written desk client id at part

-- 1; 2: over 256 bytes, or past the buffer's end
abbrev pub read_answer : Desk → ℕ → ℕ → ℕ → ℕ → Result (List ℕ) ℕ
read_answer desk client id at len =
    if is_live desk client id then (if not (nat_lt most_read len) && lies_in desk client id at len then
    Ok (window_of desk.map.memory (place_of (first_page desk client id) + at) len)
    else Err 2) else Err 1

-- a job is refused by the first rule that its file breaks, over what the slots hold
abbrev pub job_answer : Option BrokenRule → Result (Unit {0}) Denied
job_answer None = Ok tt
job_answer (Some refusal) = Err (Job refusal)

abbrev pub submit_answer : Desk → ℕ → List ℕ → Result (Unit {0}) Denied
submit_answer desk client parts = job_answer (session_rules.job client (held_in desk client) parts)

-- `read` stops with the answer's refusal; want of memory is reported only where there is none
abbrev pub IsStop : Stop ℕ → Result (List ℕ) ℕ → Type 0
IsStop (Fault refusal) answer = answer ≡ Err refusal
IsStop NoMemory answer = is_ok answer ≡ true

-- `code` and `submit` stop with the answer's refusal, or for want of memory
abbrev pub IsRefusal : {A : Type 0} → Result A Denied → Stop Denied → Type 0
IsRefusal answer (Fault denied) = answer ≡ Err denied
IsRefusal answer NoMemory = Unit {0}
