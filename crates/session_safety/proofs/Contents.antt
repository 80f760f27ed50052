-- What the file of a submit has as the contents of a client's buffers: the bytes of their pages.
use Rattle.std.proofs.Common.{length-take-le, ◌≡◌, ◌⊎◌, inl, inr, ℕ, zero, suc, ◌+◌, ◌*◌, ◌<◌, ◌≤◌, nat_lt, Bool, true, false, List, [], ◌∷◌, ◌++◌, Option, Some, None, length, take, drop, arith, refl, sym, ◌∙◌, ap, subst, zero-add}
use Rattle.std.proofs.{lemmas.Bool.Decides.nat_tests, lemmas.List.append_assoc, lemmas.List.length-append}
use Rattle.std.proofs.lemmas.List.FromFn.{get_or-map-range_with_len}
use Rattle.std.specs.{Prelude.slice_index_or, List.flat_map}
use Rattle.field_words.specs.Words.{u32_at}
use Rattle.buffer_table.specs.{declared.buffer.Buffer.Buffer, Table.buffer_at, Table.past_end}
use Rattle.job_format.specs.Offsets.{entry_offset, buffer_count, job_count, job_offset, content_size, content_offset}
use Rattle.job_format.specs.{Reading.bytes_cut, Reading.entry_at, Reading.buffers_at, Reading.contents_at, Reading.file_at, Text.buffer_text}
use Rattle.job_check.specs.Shaders.{content_of as content_in}
use Rattle.session_pages.specs.Map.{place_of}
use Rattle.job_session.specs.Submit.{content_of, buffer_laid, laid_at, contents_at as gives, contents_from, with_client, header_of, job_bytes}
use Rattle.job_session.specs.{Own.Held, Own.most_buffers, Session.Past}
use Rattle.job_session.specs.Desk.{Desk, first_page, kind_of, bytes_of, held_in}
use Rattle.places_law.proofs.Words.{drop_past, flat_long}
use Rattle.session_law.specs.{Agree.client_count, Agree.Agrees, Lying.lying, Lying.lying_file}
use Rattle.session_law.proofs.Laying.{AreLaid, file_with, count_back, buffers_back, header_long}
use Rattle.session_law.proofs.Lying.{HasHeld, HasNone, slot_held, slot_is, lying_laid, lying_few}

-- how many bytes of contents stand before those of buffer k
abbrev before : List Buffer → ℕ → ℕ
before buffers zero = 0
before [] (suc k) = 0
before (b ∷ buffers) (suc k) = b.content + before buffers k

before_more : (buffers : List Buffer) (k : ℕ) → k < length buffers → before buffers (suc k) ≡ before buffers k + (buffer_at buffers k).content
unfolding buffer_at
before_more [] k below = absurd (omega (arith, below))
before_more (b ∷ buffers) zero below = omega arith
before_more (b ∷ buffers) (suc k) below = omega (arith, before_more buffers k (omega (arith, below)))

-- A buffer in the list is that of an id, and its contents are the bytes that it gives.
pub record IsLying (desk : Desk) (client : ℕ) (b : Buffer) (bytes : List ℕ) : Type 0 where
  pub id : ℕ
  pub small : id < most_buffers
  pub is : b ≡ buffer_laid client (place_of (first_page desk client id)) (slot_held desk client id)
  pub bytes_are : bytes ≡ content_of (kind_of desk client id) (bytes_of desk client id)

pub front_take : (one rest : List ℕ) → take (length one) (one ++ rest) ≡ one
front_take [] rest = refl
front_take (x ∷ one) rest = ap (λ xs. x ∷ xs) (front_take one rest)

-- each buffer of what a slot gives, and of the slots behind it, is that of an id
step : (desk : Desk) (client id n : ℕ) (x : Option Held) (k : ℕ) (rest : List ℕ) → id < most_buffers → (x ≡ None) ⊎ (x ≡ Some (slot_held desk client id))
    → ((j : ℕ) → j < length (lying desk client (id + 1) n)
    → IsLying desk client (buffer_at (lying desk client (id + 1) n) j)
    (bytes_cut (contents_from (held_in desk client) (id + 1) n ++ rest) (before (lying desk client (id + 1) n) j) (buffer_at (lying desk client (id + 1) n) j).content))
    → k < length (laid_at client (place_of (first_page desk client id)) x ++ lying desk client (id + 1) n)
    → IsLying desk client (buffer_at (laid_at client (place_of (first_page desk client id)) x ++ lying desk client (id + 1) n) k)
    (bytes_cut ((gives x ++ contents_from (held_in desk client) (id + 1) n) ++ rest) (before (laid_at client (place_of (first_page desk client id)) x ++ lying desk client (id + 1) n) k)
    (buffer_at (laid_at client (place_of (first_page desk client id)) x ++ lying desk client (id + 1) n) k).content)
unfolding buffer_at
step desk client id n None k rest small is later below = later k below
step desk client id n (Some held) k rest small (inl is) later below = absurd (cc)
step desk client id n (Some held) zero rest small (inr is) later below =
    let same : held ≡ slot_held desk client id = cc in
    let one = content_of held.kind held.bytes in
    let c = contents_from (held_in desk client) (id + 1) n in
    record {
      id = id;
      small = small;
      is = ap (buffer_laid client (place_of (first_page desk client id))) same;
      bytes_are = ap (take (length one)) (append_assoc one c rest) ∙ front_take one (c ++ rest) ∙ ap (λ (h : Held). content_of h.kind h.bytes) same;
    }
step desk client id n (Some held) (suc k) rest small (inr is) later below =
    let one = content_of held.kind held.bytes in
    let c = contents_from (held_in desk client) (id + 1) n in
    let buffers = lying desk client (id + 1) n in
    let behind : drop (before buffers k) (c ++ rest) ≡ drop (length one + before buffers k) ((one ++ c) ++ rest) =
    sym (ap (drop (length one + before buffers k)) (append_assoc one c rest) ∙ drop_past (length one) (before buffers k) one (c ++ rest) refl) in
    subst (λ (bytes : List ℕ). IsLying desk client (buffer_at buffers k) (take (buffer_at buffers k).content bytes)) behind (later k (omega (arith, below)))

slot_cases : (desk : Desk) (client id : ℕ) → HasNone desk client id ⊎ HasHeld desk client id → (held_in desk client id ≡ None) ⊎ (held_in desk client id ≡ Some (slot_held desk client id))
slot_cases desk client id (inl none) = inl none.is
slot_cases desk client id (inr held) = inr held.is

found : (past : Past) (desk : Desk) (client id n k : ℕ) (rest : List ℕ) → Agrees past desk → client < client_count → id + n ≤ most_buffers
    → k < length (lying desk client id n)
    → IsLying desk client (buffer_at (lying desk client id n) k)
    (bytes_cut (contents_from (held_in desk client) id n ++ rest) (before (lying desk client id n) k) (buffer_at (lying desk client id n) k).content)
unfolding lying contents_from
found past desk client id zero k rest agrees known few below = absurd (omega (arith, below))
found past desk client id (suc n) k rest agrees known few below =
    step desk client id n (held_in desk client id) k rest (omega (arith, few))
    (slot_cases desk client id (slot_is past desk client id agrees (record { known = known; small = omega (arith, few) })))
    (λ j inside. found past desk client (id + 1) n j rest agrees known (omega (arith, few)) inside) below

-- The file's entries and contents, by number.
entry_read : (bytes : List ℕ) (n b : ℕ) → b < n → buffer_at (buffers_at bytes n) b ≡ entry_at bytes (entry_offset b)
unfolding buffers_at buffer_at
entry_read bytes n b inside = get_or-map-range_with_len (λ k. entry_at bytes (entry_offset k)) 0 n b b past_end inside (zero-add b)

content_read : (bytes : List ℕ) (n b : ℕ) → b < n → slice_index_or (contents_at bytes n) b [] ≡ bytes_cut bytes (content_offset bytes b) (content_size bytes b)
unfolding contents_at
content_read bytes n b inside = get_or-map-range_with_len (λ k. bytes_cut bytes (content_offset bytes k) (content_size bytes k)) 0 n b b [] inside (zero-add b)

size_read : (bytes : List ℕ) (n b : ℕ) → b < n → content_size bytes b ≡ (buffer_at (buffers_at bytes n) b).content
unfolding entry_at
size_read bytes n b inside = sym (ap (λ (e : Buffer). e.content) (entry_read bytes n b inside))

offset_is : (bytes : List ℕ) (n : ℕ) (buffers : List Buffer) → buffers_at bytes n ≡ buffers → length buffers ≤ n → (k : ℕ) → k ≤ length buffers
    → content_offset bytes k ≡ job_offset bytes (job_count bytes) + before buffers k
unfolding content_offset
offset_is bytes n buffers is few zero upto = omega arith
offset_is bytes n buffers is few (suc k) upto =
    let earlier = offset_is bytes n buffers is few k (omega (arith, upto)) in
    let size = size_read bytes n k (omega (arith, upto, few)) ∙ ap (λ (bs : List Buffer). (buffer_at bs k).content) is in
    omega (arith, earlier, size, before_more buffers k (omega (arith, upto)))

-- Behind the header, the entries and the job's entry stand the contents.
one_job : (n : ℕ) (rest : List ℕ) → job_count (header_of n ++ rest) ≡ 1
unfolding u32_at
one_job n rest = refl

long_bytes : (contents parts : List ℕ) → 124 ≤ length parts → job_bytes contents parts ≡ take 124 parts ++ (contents ++ drop 124 parts)
long_bytes contents parts long = let no : nat_lt (length parts) 124 ≡ false = grind (arith, nat_tests) in rw no refl

contents_lie : (buffers : List Buffer) (contents parts : List ℕ) (k : ℕ) → length buffers ≤ 64 → 124 ≤ length parts
    → drop (job_offset (file_with buffers (job_bytes contents parts)) (job_count (file_with buffers (job_bytes contents parts))) + k) (file_with buffers (job_bytes contents parts))
    ≡ drop k (contents ++ drop 124 parts)
contents_lie buffers contents parts k few long =
    let tail = job_bytes contents parts in
    let entries = flat_map buffer_text buffers in
    let count = count_back (length buffers) (entries ++ tail) few in
    let jobs = one_job (length buffers) (entries ++ tail) in
    let start : job_offset (file_with buffers tail) (job_count (file_with buffers tail)) + k ≡ 36 + (20 * length buffers + (124 + k)) = omega (arith, count, jobs) in
    let front : length (take 124 parts) ≡ 124 = length-take-le 124 parts long in
    ap (λ n. drop n (file_with buffers tail)) start
    ∙ drop_past 36 (20 * length buffers + (124 + k)) (header_of (length buffers)) (entries ++ tail) (header_long (length buffers))
    ∙ drop_past (20 * length buffers) (124 + k) entries tail (flat_long buffers)
    ∙ ap (drop (124 + k)) (long_bytes contents parts long)
    ∙ drop_past 124 k (take 124 parts) (contents ++ drop 124 parts) front

-- So the contents of a buffer of the file are those of its slot.
lies_in : (past : Past) (desk : Desk) (client number : ℕ) (buffers : List Buffer) (contents parts : List ℕ) → Agrees past desk → client < client_count
    → buffers ≡ lying desk client 0 most_buffers → contents ≡ contents_from (held_in desk client) 0 most_buffers → AreLaid buffers → length buffers ≤ 64
    → 124 ≤ length parts → (bytes : List ℕ) → bytes ≡ file_with buffers (job_bytes contents parts) → number < length (buffers_at bytes (buffer_count bytes))
    → IsLying desk client (buffer_at (buffers_at bytes (buffer_count bytes)) number) (slice_index_or (contents_at bytes (buffer_count bytes)) number [])
lies_in past desk client number buffers contents parts agrees known buffers_are contents_are laid few long bytes bytes_are inside =
    let read : buffers_at bytes (buffer_count bytes) ≡ buffers =
    ap (λ (bs : List ℕ). buffers_at bs (buffer_count bs)) bytes_are ∙ buffers_back buffers (job_bytes contents parts) laid few in
    let count : buffer_count bytes ≡ length buffers = ap buffer_count bytes_are ∙ count_back (length buffers) (flat_map buffer_text buffers ++ job_bytes contents parts) few in
    let below : number < length buffers = omega (arith, inside, ap length read) in
    let named : number < buffer_count bytes = omega (arith, below, count) in
    let size : content_size bytes number ≡ (buffer_at buffers number).content = size_read bytes (buffer_count bytes) number named ∙ ap (λ (bs : List Buffer). (buffer_at bs number).content) read in
    let offset = offset_is bytes (buffer_count bytes) buffers read (omega (arith, count)) number (omega (arith, below)) in
    let there : drop (content_offset bytes number) bytes ≡ drop (before buffers number) (contents ++ drop 124 parts) =
    ap (λ n. drop n bytes) offset
    ∙ ap (λ (bs : List ℕ). drop (job_offset bs (job_count bs) + before buffers number) bs) bytes_are
    ∙ contents_lie buffers contents parts (before buffers number) few long in
    let content : slice_index_or (contents_at bytes (buffer_count bytes)) number [] ≡ bytes_cut (contents ++ drop 124 parts) (before buffers number) (buffer_at buffers number).content =
    content_read bytes (buffer_count bytes) number named
    ∙ ap (λ n. take n (drop (content_offset bytes number) bytes)) size
    ∙ ap (take (buffer_at buffers number).content) there in
    let slot : IsLying desk client (buffer_at buffers number) (bytes_cut (contents ++ drop 124 parts) (before buffers number) (buffer_at buffers number).content) =
    subst (λ (bs : List Buffer). IsLying desk client (buffer_at bs number) (bytes_cut (contents ++ drop 124 parts) (before bs number) (buffer_at bs number).content)) (sym buffers_are)
    (subst (λ (c : List ℕ). IsLying desk client (buffer_at (lying desk client 0 most_buffers) number)
    (bytes_cut (c ++ drop 124 parts) (before (lying desk client 0 most_buffers) number) (buffer_at (lying desk client 0 most_buffers) number).content)) (sym contents_are)
    (found past desk client 0 most_buffers number (drop 124 parts) agrees known (omega arith) (omega (arith, below, ap length buffers_are)))) in
    subst (λ (c : List ℕ). IsLying desk client (buffer_at (buffers_at bytes (buffer_count bytes)) number) c) (sym content)
    (subst (λ (bs : List Buffer). IsLying desk client (buffer_at bs number) (bytes_cut (contents ++ drop 124 parts) (before buffers number) (buffer_at buffers number).content)) (sym read) slot)

pub lies : (past : Past) (desk : Desk) (client number : ℕ) (parts : List ℕ) → Agrees past desk → client < client_count → 124 ≤ length (with_client client parts)
    → number < length (file_at (lying_file desk client parts)).buffers
    → IsLying desk client (buffer_at (file_at (lying_file desk client parts)).buffers number) (content_in (file_at (lying_file desk client parts)) number)
unfolding lying_file file_at content_in
lies past desk client number parts agrees known long inside =
    lies_in past desk client number (lying desk client 0 most_buffers) (contents_from (held_in desk client) 0 most_buffers) (with_client client parts)
    agrees known refl refl (lying_laid past desk client 0 most_buffers agrees known (omega arith)) (lying_few desk client 0 most_buffers) long
    (lying_file desk client parts) refl inside

-- An accepted file has the whole entry of its job.
short_by : (buffers : List Buffer) (contents parts : List ℕ) → length buffers ≤ 64
    → job_offset (file_with buffers (job_bytes contents parts)) 0 + 124 ≤ length (file_with buffers (job_bytes contents parts))
    → (b : Bool) → nat_lt (length parts) 124 ≡ b → 124 ≤ length parts
short_by buffers contents parts few ends false is = grind (arith, nat_tests)
short_by buffers contents parts few ends true is =
    let tail = job_bytes contents parts in
    let same : tail ≡ parts = rw is refl in
    let count = count_back (length buffers) (flat_map buffer_text buffers ++ tail) few in
    let short : length parts < 124 = grind (arith, nat_tests) in
    let whole : length (file_with buffers tail) ≡ 36 + (20 * length buffers + length parts) =
    length-append (header_of (length buffers)) (flat_map buffer_text buffers ++ tail)
    ∙ ap (λ n. 36 + n) (length-append (flat_map buffer_text buffers) tail ∙ omega (arith, flat_long buffers, ap length same)) in
    absurd (omega (arith, ends, whole, count, short))

pub whole_entry : (desk : Desk) (client : ℕ) (parts : List ℕ) → job_offset (lying_file desk client parts) 0 + 124 ≤ length (lying_file desk client parts)
    → 124 ≤ length (with_client client parts)
unfolding lying_file
whole_entry desk client parts ends =
    short_by (lying desk client 0 most_buffers) (contents_from (held_in desk client) 0 most_buffers) (with_client client parts) (lying_few desk client 0 most_buffers) ends
    (nat_lt (length (with_client client parts)) 124) refl
