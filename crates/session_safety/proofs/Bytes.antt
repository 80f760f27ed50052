-- The file of a submit is bytes.
use Rattle.std.proofs.Common.{lit<, ◌≡◌, ℕ, zero, suc, ◌+◌, ◌*◌, Bool, true, false, List, [], ◌∷◌, ◌++◌, Option, Some, None, length, take, drop, nat_lt, codes, refl, subst, if◌then◌else◌}
use Rattle.std.specs.List.{flat_map}
use Rattle.field_words.specs.{Words.IsBytes, WordBytes.word}
use Rattle.field_words.proofs.Numbers.{front_bytes, rest_bytes}
use Rattle.buffer_table.specs.{declared.buffer.Buffer.Buffer, declared.buffer.Kind.Kind}
use Rattle.buffer_table.specs.declared.buffer.Kind.TheVariants.{Plain, Code}
use Rattle.job_format.specs.Text.{buffer_text, kind_number}
use Rattle.session_pages.specs.Map.{memory_size, place_of}
use Rattle.job_session.specs.Submit.{content_of, contents_at, contents_from, with_client, header_of, job_bytes}
use Rattle.job_session.specs.Own.{Held}
use Rattle.job_session.specs.Desk.{Desk, held_in, is_live, kind_of, bytes_of, first_page, page_total}
use Rattle.session_law.specs.Lying.{lying, lying_file}
use Rattle.accepted_law.proofs.ByteTexts.{bytes_none, bytes_cons, bytes_append, bytes_if, bytes_word}

-- a word in front of bytes
word_onto : (n : ℕ) (rest : List ℕ) → IsBytes rest → IsBytes (word n ++ rest)
word_onto n rest are = bytes_append (word n) rest (bytes_word n) are

letters : IsBytes (codes "VC4J")
letters = bytes_cons 86 (67 ∷ (52 ∷ (74 ∷ []))) (lit< tt) (bytes_cons 67 (52 ∷ (74 ∷ [])) (lit< tt) (bytes_cons 52 (74 ∷ []) (lit< tt) (bytes_cons 74 [] (lit< tt) bytes_none)))

abbrev last_two : ℕ → List ℕ
last_two n = word n ++ word 1

abbrev behind_size : ℕ → List ℕ
behind_size n = word 0 ++ (word 4194304 ++ (word 4194304 ++ (word 1 ++ last_two n)))

header_bytes : (n : ℕ) → IsBytes (header_of n)
header_bytes n =
    let last : IsBytes (last_two n) = word_onto n (word 1) (bytes_word 1) in
    let slots : IsBytes (word 1 ++ last_two n) = word_onto 1 (last_two n) last in
    let tiles : IsBytes (word 4194304 ++ (word 1 ++ last_two n)) = word_onto 4194304 (word 1 ++ last_two n) slots in
    let lists : IsBytes (word 4194304 ++ (word 4194304 ++ (word 1 ++ last_two n))) = word_onto 4194304 (word 4194304 ++ (word 1 ++ last_two n)) tiles in
    let places : IsBytes (behind_size n) = word_onto 0 (word 4194304 ++ (word 4194304 ++ (word 1 ++ last_two n))) lists in
    let size : IsBytes (word memory_size ++ behind_size n) = word_onto memory_size (behind_size n) places in
    let version : IsBytes (word 2 ++ (word memory_size ++ behind_size n)) = word_onto 2 (word memory_size ++ behind_size n) size in
    bytes_append (codes "VC4J") (word 2 ++ (word memory_size ++ behind_size n)) letters version

entry_bytes : (b : Buffer) → IsBytes (buffer_text b)
unfolding buffer_text
entry_bytes b =
    let last : IsBytes (word (kind_number b.kind) ++ word b.content) = word_onto (kind_number b.kind) (word b.content) (bytes_word b.content) in
    let client : IsBytes (word b.client ++ (word (kind_number b.kind) ++ word b.content)) = word_onto b.client (word (kind_number b.kind) ++ word b.content) last in
    let size : IsBytes (word b.size ++ (word b.client ++ (word (kind_number b.kind) ++ word b.content))) = word_onto b.size (word b.client ++ (word (kind_number b.kind) ++ word b.content)) client in
    word_onto b.place (word b.size ++ (word b.client ++ (word (kind_number b.kind) ++ word b.content))) size

entries_bytes : (buffers : List Buffer) → IsBytes (flat_map buffer_text buffers)
entries_bytes [] = bytes_none
entries_bytes (b ∷ buffers) = bytes_append (buffer_text b) (flat_map buffer_text buffers) (entry_bytes b) (entries_bytes buffers)

kind_bytes : (kind : Kind) (bytes : List ℕ) → IsBytes bytes → IsBytes (content_of kind bytes)
kind_bytes Plain bytes are = bytes_none
kind_bytes Code bytes are = are

content_bytes : (x : Option Held) → ((held : Held) → x ≡ Some held → IsBytes held.bytes) → IsBytes (contents_at x)
content_bytes None are = bytes_none
content_bytes (Some held) are = kind_bytes held.kind held.bytes (are held refl)

contents_bytes : (own : ℕ → Option Held) (id n : ℕ) → ((other : ℕ) (held : Held) → own other ≡ Some held → IsBytes held.bytes) → IsBytes (contents_from own id n)
unfolding contents_from
contents_bytes own id zero are = bytes_none
contents_bytes own id (suc n) are =
    bytes_append (contents_at (own id)) (contents_from own (id + 1) n) (content_bytes (own id) (are id)) (contents_bytes own (id + 1) n are)

slot_bytes : (desk : Desk) (client id : ℕ) → IsBytes desk.map.memory → IsBytes (bytes_of desk client id)
slot_bytes desk client id are = front_bytes (4096 * page_total desk client id) (drop (place_of (first_page desk client id)) desk.map.memory) (rest_bytes (place_of (first_page desk client id)) desk.map.memory are)

held_by : (kind : Kind) (bytes : List ℕ) (live : Bool) (held : Held) → IsBytes bytes
    → (if live then Some (record { kind = kind; bytes = bytes }) else None) ≡ Some held → IsBytes held.bytes
held_by kind bytes true held are is = let same : bytes ≡ held.bytes = cc in subst IsBytes same are
held_by kind bytes false held are is = absurd (cc)

held_bytes : (desk : Desk) (client id : ℕ) (held : Held) → IsBytes desk.map.memory → held_in desk client id ≡ Some held → IsBytes held.bytes
unfolding held_in
held_bytes desk client id held are is = held_by (kind_of desk client id) (bytes_of desk client id) (is_live desk client id) held (slot_bytes desk client id are) is

job_are : (contents parts : List ℕ) → IsBytes contents → IsBytes parts → IsBytes (job_bytes contents parts)
job_are contents parts one two =
    bytes_if (nat_lt (length parts) 124) parts (take 124 parts ++ (contents ++ drop 124 parts)) two
    (bytes_append (take 124 parts) (contents ++ drop 124 parts) (front_bytes 124 parts two) (bytes_append contents (drop 124 parts) one (rest_bytes 124 parts two)))

parts_are : (client : ℕ) (parts : List ℕ) → IsBytes parts → IsBytes (with_client client parts)
parts_are client parts are =
    bytes_append (take (length parts) (word client)) (drop 4 parts) (front_bytes (length parts) (word client) (bytes_word client)) (rest_bytes 4 parts are)

pub file_bytes : (desk : Desk) (client : ℕ) (parts : List ℕ) → IsBytes desk.map.memory → IsBytes parts → IsBytes (lying_file desk client parts)
unfolding lying_file
file_bytes desk client parts memory are =
    let buffers : List Buffer = lying desk client 0 64 in
    let job : List ℕ = job_bytes (contents_from (held_in desk client) 0 64) (with_client client parts) in
    bytes_append (header_of (length buffers)) (flat_map buffer_text buffers ++ job) (header_bytes (length buffers))
    (bytes_append (flat_map buffer_text buffers) job (entries_bytes buffers)
    (job_are (contents_from (held_in desk client) 0 64) (with_client client parts)
    (contents_bytes (held_in desk client) 0 64 (λ other held is. held_bytes desk client other held memory is)) (parts_are client parts are)))
