-- One client's buffers by its own commands alone: no pages, no memory, no other client.
use Rattle.std.specs.Prelude.{ℕ, ◌+◌, ◌*◌, ◌-◌, ◌==◌, Bool, true, false, ◌||◌, nat_lt, List, [], ◌∷◌, ◌++◌, length, take, drop, Option, Some, None, if◌then◌else◌}
use Rattle.std.specs.Int.{div_ceil}
use Rattle.field_words.specs.{Sizes.page_size, Writes.with_bytes, Writes.zeros}
use Rattle.buffer_table.specs.{declared.buffer.Kind.Kind, declared.buffer.Kind.TheVariants.Plain, declared.buffer.Kind.TheVariants.Code}
use Rattle.overflow_slots.specs.Search.{first_where}

abbrev pub most_buffers : ℕ
most_buffers = 64

abbrev pub most_pages : ℕ
most_pages = 1024

abbrev pub most_read : ℕ
most_read = 256

-- a live buffer
pub record Held : Type 0 where
  pub kind : Kind
  pub bytes : List ℕ

-- what a client asks for; F is what a rule on shaders or jobs answers
pub data Command : Type 0 where
  Create : ℕ → Command
  Make : List ℕ → Command
  Write : ℕ → ℕ → List ℕ → Command
  Read : ℕ → ℕ → ℕ → Command
  Free : ℕ → Command
  Submit : List ℕ → Command

pub data Reply (F : Type 0) : Type 0 where
  Id : ℕ → Reply F
  Done : Reply F
  Bytes : List ℕ → Reply F
  Accepted : Reply F
  Refused : ℕ → Reply F
  Broken : F → Reply F

-- The rules on shaders and on jobs. A job's rules see the client and its own live buffers.
pub record Rules (F : Type 0) : Type 0 where
  pub code : List ℕ → Option F
  pub job : ℕ → (ℕ → Option Held) → List ℕ → Option F

-- A command's outcome: a reply, with the buffers that it leaves; or a new buffer, which still has to find its pages.
pub data Outcome (F : Type 0) : Type 0 where
  Answered : Reply F → (ℕ → Option Held) → Outcome F
  NewBuffer : ℕ → Held → Outcome F

abbrev pub free_if : Option Held → Bool
free_if None = true
free_if (Some held) = false

abbrev pub is_free_id : (ℕ → Option Held) → ℕ → Bool
is_free_id own id = free_if (own id)

-- the buffers with one more, or one less
abbrev pub with_buffer : (ℕ → Option Held) → ℕ → Option Held → ℕ → Option Held
with_buffer own id held = λ other. if other == id then held else own other

-- 4: each id is in use
abbrev pub new_by : {F : Type 0} → (ℕ → Option Held) → Held → Option ℕ → Outcome F
new_by own held None = Answered (Refused 4) own
new_by own held (Some id) = NewBuffer id held

abbrev pub new_buffer : {F : Type 0} → (ℕ → Option Held) → Held → Outcome F
new_buffer own held = new_by own held (first_where (is_free_id own) 0 most_buffers)

-- 5: no page, or over 1,024
abbrev pub create_of : {F : Type 0} → (ℕ → Option Held) → ℕ → Outcome F
create_of own pages =
    if (pages == 0) || nat_lt most_pages pages then Answered (Refused 5) own
    else new_buffer own (record { kind = Plain; bytes = zeros (page_size * pages) })

-- a shader's bytes in the least number of pages, the rest zero
abbrev pub bytes_padded : List ℕ → List ℕ
bytes_padded bytes = bytes ++ zeros (page_size * div_ceil (length bytes) page_size - length bytes)

abbrev pub make_by : {F : Type 0} → (ℕ → Option Held) → List ℕ → Option F → Outcome F
make_by own bytes (Some fault) = Answered (Broken fault) own
make_by own bytes None = new_buffer own (record { kind = Code; bytes = bytes_padded bytes })

-- 1: no such buffer; 3: it is Code; 2: past its end
abbrev pub write_in : {F : Type 0} → (ℕ → Option Held) → ℕ → ℕ → List ℕ → Kind → List ℕ → Outcome F
write_in own id at part Code bytes = Answered (Refused 3) own
write_in own id at part Plain bytes =
    if nat_lt (length bytes) (at + length part) then Answered (Refused 2) own
    else Answered Done (with_buffer own id (Some (record { kind = Plain; bytes = with_bytes bytes at part })))

abbrev pub write_by : {F : Type 0} → (ℕ → Option Held) → ℕ → ℕ → List ℕ → Option Held → Outcome F
write_by own id at part None = Answered (Refused 1) own
write_by own id at part (Some held) = write_in own id at part held.kind held.bytes

-- 1; 2: past its end, or over 256 bytes
abbrev pub read_by : {F : Type 0} → (ℕ → Option Held) → ℕ → ℕ → Option Held → Outcome F
read_by own at len None = Answered (Refused 1) own
read_by own at len (Some held) =
    if nat_lt most_read len || nat_lt (length held.bytes) (at + len) then Answered (Refused 2) own
    else Answered (Bytes (take len (drop at held.bytes))) own

-- 1
abbrev pub free_by : {F : Type 0} → (ℕ → Option Held) → ℕ → Option Held → Outcome F
free_by own id None = Answered (Refused 1) own
free_by own id (Some held) = Answered Done (with_buffer own id None)

abbrev pub submit_by : {F : Type 0} → (ℕ → Option Held) → Option F → Outcome F
submit_by own None = Answered Accepted own
submit_by own (Some fault) = Answered (Broken fault) own

unfoldable pub outcome : {F : Type 0} → Rules F → ℕ → (ℕ → Option Held) → Command → Outcome F
outcome rules client own (Create pages) = create_of own pages
outcome rules client own (Make bytes) = make_by own bytes (rules.code bytes)
outcome rules client own (Write id at part) = write_by own id at part (own id)
outcome rules client own (Read id at len) = read_by own at len (own id)
outcome rules client own (Free id) = free_by own id (own id)
outcome rules client own (Submit parts) = submit_by own (rules.job client own parts)

-- the reply, and what it leaves, where pages never run out
abbrev pub own_reply : {F : Type 0} → Outcome F → Reply F
own_reply (Answered reply own) = reply
own_reply (NewBuffer id held) = Id id

abbrev pub own_after : {F : Type 0} → (ℕ → Option Held) → Outcome F → ℕ → Option Held
own_after old (Answered reply own) = own
own_after old (NewBuffer id held) = with_buffer old id (Some held)

unfoldable pub own_replies : {F : Type 0} → Rules F → ℕ → (ℕ → Option Held) → List Command → List (Reply F)
own_replies rules client own [] = []
own_replies rules client own (command ∷ commands) =
    own_reply (outcome rules client own command) ∷ own_replies rules client (own_after own (outcome rules client own command)) commands
