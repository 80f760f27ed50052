-- A submit's answer is also that of the file with the client's buffers where they lie.
use Rattle.job_session.proofs.Held.{held_none}
use Rattle.session_law.proofs.Bytes.{within_yes, window_length}
use Rattle.std.proofs.Common.{◌≡◌, ◌⊎◌, inl, inr, ℕ, zero, suc, ◌+◌, ◌*◌, ◌%◌, ◌<◌, ◌≤◌, nat_le, Bool, true, false, List, [], ◌∷◌, ◌++◌, length, map, Option, Some, None, arith, refl, sym, ◌∙◌, ap}
use Rattle.std.proofs.lemmas.Bool.Decides.{nat_tests}
use Rattle.std.specs.List.{flat_map}
use Rattle.field_words.specs.{Sizes.page_size, Questions.first_of}
use Rattle.buffer_table.specs.{declared.buffer.Buffer.Buffer, declared.buffer.Kind.Kind}
use Rattle.buffer_table.specs.declared.buffer.Kind.TheVariants.{Plain, Code}
use Rattle.job_format.specs.{declared.rule.Place.Place, declared.rule.Refusal.Refusal, Places.offset_of, Text.buffer_text, Reading.file_at}
use Rattle.job_check.specs.{Faults.table_stage, Whole.refusal_of}
use Rattle.session_pages.specs.Map.{first_place, memory_size, place_of}
use Rattle.job_session.specs.Submit.{content_of, buffer_laid, laid_at, size_of, buffers_packed, contents_from, with_client, header_of, job_bytes, file_of}
use Rattle.job_session.specs.Desk.{Desk, slot_of, first_page, page_total, kind_of, bytes_of, held_in, job_answer}
use Rattle.job_session.specs.{Checked.rule_option, Checked.file_refusal, Own.Held, Own.most_buffers, Session.Past}
use Rattle.places_law.specs.Moved.{placeless, AreMoved}
use Rattle.places_law.proofs.{Tables.count_placeless, Wholes.moved_are_alike}
use Rattle.session_law.specs.{Agree.IsKey, Agree.client_count, Agree.Agrees, Lying.lying, Lying.lying_file, Lying.SubmitsAreOfPlaces}
use Rattle.session_law.proofs.Laying.{IsWellPlaced, AreApart, ApartFrom, AreLaid, head_count, table_passes}
use Rattle.session_law.proofs.{Changing.slot_below, Changing.held_live, Writing.room_in}
use Rattle.session_law.proofs.Counting.{pages_sum, slots_clash, few_pages}

-- what a slot with pages holds
abbrev pub slot_held : Desk → ℕ → ℕ → Held
slot_held desk client id = record { kind = kind_of desk client id; bytes = bytes_of desk client id }

pub record HasHeld (desk : Desk) (client id : ℕ) : Type 0 where
  pub is : held_in desk client id ≡ Some (slot_held desk client id)
  pub some : 1 ≤ page_total desk client id
  pub size : length (bytes_of desk client id) ≡ page_size * page_total desk client id

pub record HasNone (desk : Desk) (client id : ℕ) : Type 0 where
  pub is : held_in desk client id ≡ None
  pub none : page_total desk client id ≡ 0

slot_by : (past : Past) (desk : Desk) (client id : ℕ) → Agrees past desk → IsKey client id → (b : Bool) → nat_le (page_total desk client id) 0 ≡ b
    → HasNone desk client id ⊎ HasHeld desk client id
slot_by past desk client id agrees key true is =
    let none : page_total desk client id ≡ 0 = grind (arith, nat_tests) in
    inl (record { is = held_none desk client id none; none = none })
slot_by past desk client id agrees key false is =
    let some : 1 ≤ page_total desk client id = grind (arith, nat_tests) in
    inr (record {
      is = held_live desk client id key.small some;
      some = some;
      size = window_length desk.map.memory (place_of (first_page desk client id)) (page_size * page_total desk client id) (room_in past desk client id agrees key);
    })

pub slot_is : (past : Past) (desk : Desk) (client id : ℕ) → Agrees past desk → IsKey client id → HasNone desk client id ⊎ HasHeld desk client id
slot_is past desk client id agrees key = slot_by past desk client id agrees key (nat_le (page_total desk client id) 0) refl

-- a live buffer at a place of whole pages with room behind it
few_contents : (kind : Kind) (bytes : List ℕ) → length (content_of kind bytes) ≤ length bytes
few_contents Plain bytes = omega arith
few_contents Code bytes = omega arith

well_placed : (desk : Desk) (client id place : ℕ) → client < client_count → HasHeld desk client id → place % page_size ≡ 0 → first_place ≤ place
    → place + page_size * page_total desk client id ≤ memory_size → IsWellPlaced (buffer_laid client place (slot_held desk client id))
well_placed desk client id place known held whole low room =
    let size = held.size in
    let some = held.some in
    record {
      place = whole;
      size = rw size (omega arith);
      some = omega (arith, size, some);
      low = low;
      inside = omega (arith, size, room);
      content = few_contents (kind_of desk client id) (bytes_of desk client id);
      client = known;
    }

-- one behind the other
abbrev AllFrom : ℕ → List Buffer → Type 0
AllFrom low [] = Unit {0}
AllFrom low (b ∷ buffers) = (low ≤ b.place) × AllFrom low buffers

from_by : (client place low : ℕ) (x : Option Held) (rest : ℕ → List Buffer) → low ≤ place → ((p : ℕ) → low ≤ p → AllFrom low (rest p))
    → AllFrom low (laid_at client place x ++ rest (place + size_of x))
from_by client place low None rest below later = later (place + 0) (omega (arith, below))
from_by client place low (Some held) rest below later = (below, later (place + length held.bytes) (omega (arith, below)))

packed_from : (client : ℕ) (own : ℕ → Option Held) (id n place low : ℕ) → low ≤ place → AllFrom low (buffers_packed client own id n place)
unfolding buffers_packed
packed_from client own id zero place low below = tt
packed_from client own id (suc n) place low below =
    from_by client place low (own id) (buffers_packed client own (id + 1) n) below (λ p under. packed_from client own (id + 1) n p low under)

behind_all : (b : Buffer) (buffers : List Buffer) → AllFrom (b.place + b.size) buffers → ApartFrom b buffers
behind_all b [] from = tt
behind_all b (other ∷ others) from = (inl from.0, behind_all b others from.1)

packed_laid : (past : Past) (desk : Desk) (client id n place : ℕ) → Agrees past desk → client < client_count → id + n ≤ most_buffers → place % page_size ≡ 0
    → first_place ≤ place → place + page_size * pages_sum desk client id n ≤ memory_size → AreLaid (buffers_packed client (held_in desk client) id n place)
unfolding buffers_packed pages_sum
packed_laid past desk client id zero place agrees known few whole low room = tt
packed_laid past desk client id (suc n) place agrees known few whole low room =
    packed_by desk client id n place known whole low room (slot_is past desk client id agrees (record { known = known; small = omega (arith, few) }))
    (λ p e l r. packed_laid past desk client (id + 1) n p agrees known (omega (arith, few)) e l r)
  where
    packed_by : (desk : Desk) (client id n place : ℕ) → client < client_count → place % page_size ≡ 0
        → first_place ≤ place → place + page_size * (page_total desk client id + pages_sum desk client (id + 1) n) ≤ memory_size
        → HasNone desk client id ⊎ HasHeld desk client id
        → ((p : ℕ) → p % page_size ≡ 0 → first_place ≤ p → p + page_size * pages_sum desk client (id + 1) n ≤ memory_size
        → AreLaid (buffers_packed client (held_in desk client) (id + 1) n p))
        → AreLaid (laid_at client place (held_in desk client id) ++ buffers_packed client (held_in desk client) (id + 1) n (place + size_of (held_in desk client id)))
    packed_by desk client id n place known whole low room (inl none) later =
        let same : place + 0 ≡ place = omega arith in
        rw none.is (later (place + 0) (rw same whole) (omega (arith, low)) (omega (arith, room)))
    packed_by desk client id n place known whole low room (inr held) later =
        let size = held.size in
        let next : ℕ = place + length (bytes_of desk client id) in
        rw held.is (
          well_placed desk client id place known held whole low (omega (arith, room)),
          behind_all (buffer_laid client place (slot_held desk client id)) (buffers_packed client (held_in desk client) (id + 1) n (place + length (bytes_of desk client id)))
              (packed_from client (held_in desk client) (id + 1) n (place + length (bytes_of desk client id)) (place + length (bytes_of desk client id)) (omega arith)),
          later (place + length (bytes_of desk client id)) (omega (arith, whole, size)) (omega (arith, low)) (omega (arith, room, size)),
        )

-- each where its pages lie
pages_apart : (past : Past) (desk : Desk) (client id other : ℕ) → Agrees past desk → IsKey client id → IsKey client other → id < other
    → 1 ≤ page_total desk client id → 1 ≤ page_total desk client other
    → (b c d : Bool) → nat_le (first_page desk client id + page_total desk client id) (first_page desk client other) ≡ b
    → nat_le (first_page desk client other + page_total desk client other) (first_page desk client id) ≡ c → nat_le (first_page desk client id) (first_page desk client other) ≡ d
    → (first_page desk client id + page_total desk client id ≤ first_page desk client other) ⊎ (first_page desk client other + page_total desk client other ≤ first_page desk client id)
pages_apart past desk client id other agrees key too order some also true c d one two three = inl (grind (arith, nat_tests))
pages_apart past desk client id other agrees key too order some also false true d one two three = inr (grind (arith, nat_tests))
pages_apart past desk client id other agrees key too order some also false false true one two three =
    let fits = agrees.sized.fits (slot_of client other) (slot_below client other too) in
    let low : first_page desk client id ≤ first_page desk client other = grind (arith, nat_tests) in
    let high : first_page desk client other < first_page desk client id + page_total desk client id = grind (arith, nat_tests) in
    absurd (slots_clash past desk client id other (first_page desk client other) agrees key too order (omega (arith, fits, also))
    (within_yes (first_page desk client id) (page_total desk client id) (first_page desk client other) low high)
    (within_yes (first_page desk client other) (page_total desk client other) (first_page desk client other) (omega arith) (omega (arith, also))))
pages_apart past desk client id other agrees key too order some also false false false one two three =
    let fits = agrees.sized.fits (slot_of client id) (slot_below client id key) in
    let low : first_page desk client other ≤ first_page desk client id = grind (arith, nat_tests) in
    let high : first_page desk client id < first_page desk client other + page_total desk client other = grind (arith, nat_tests) in
    absurd (slots_clash past desk client id other (first_page desk client id) agrees key too order (omega (arith, fits, some))
    (within_yes (first_page desk client id) (page_total desk client id) (first_page desk client id) (omega arith) (omega (arith, some)))
    (within_yes (first_page desk client other) (page_total desk client other) (first_page desk client id) low high))

places_apart : (desk : Desk) (client id other : ℕ) → HasHeld desk client id → HasHeld desk client other
    → (first_page desk client id + page_total desk client id ≤ first_page desk client other) ⊎ (first_page desk client other + page_total desk client other ≤ first_page desk client id)
    → AreApart (buffer_laid client (place_of (first_page desk client id)) (slot_held desk client id)) (buffer_laid client (place_of (first_page desk client other)) (slot_held desk client other))
places_apart desk client id other one two (inl below) = let size = one.size in inl (omega (arith, size, below))
places_apart desk client id other one two (inr above) = let size = two.size in inr (omega (arith, size, above))

lying_apart : (past : Past) (desk : Desk) (client id other n : ℕ) → Agrees past desk → IsKey client id → HasHeld desk client id → id < other → other + n ≤ most_buffers
    → ApartFrom (buffer_laid client (place_of (first_page desk client id)) (slot_held desk client id)) (lying desk client other n)
unfolding lying
lying_apart past desk client id other zero agrees key held order few = tt
lying_apart past desk client id other (suc n) agrees key held order few =
    let too : IsKey client other = record { known = key.known; small = omega (arith, few) } in
    apart_by past desk client id other (lying desk client (other + 1) n) agrees key too held order (slot_is past desk client other agrees too)
    (lying_apart past desk client id (other + 1) n agrees key held (omega (arith, order)) (omega (arith, few)))
  where
    apart_by : (past : Past) (desk : Desk) (client id other : ℕ) (rest : List Buffer) → Agrees past desk → IsKey client id → IsKey client other → HasHeld desk client id → id < other
        → HasNone desk client other ⊎ HasHeld desk client other
        → ApartFrom (buffer_laid client (place_of (first_page desk client id)) (slot_held desk client id)) rest
        → ApartFrom (buffer_laid client (place_of (first_page desk client id)) (slot_held desk client id)) (laid_at client (place_of (first_page desk client other)) (held_in desk client other) ++ rest)
    apart_by past desk client id other rest agrees key too held order (inl none) later = rw none.is later
    apart_by past desk client id other rest agrees key too held order (inr also) later =
        rw also.is (
          places_apart desk client id other held also
              (pages_apart past desk client id other agrees key too order held.some also.some
              (nat_le (first_page desk client id + page_total desk client id) (first_page desk client other))
              (nat_le (first_page desk client other + page_total desk client other) (first_page desk client id))
              (nat_le (first_page desk client id) (first_page desk client other)) refl refl refl),
          later,
        )

pub lying_laid : (past : Past) (desk : Desk) (client id n : ℕ) → Agrees past desk → client < client_count → id + n ≤ most_buffers → AreLaid (lying desk client id n)
unfolding lying
lying_laid past desk client id zero agrees known few = tt
lying_laid past desk client id (suc n) agrees known few =
    let key : IsKey client id = record { known = known; small = omega (arith, few) } in
    lying_by past desk client id n agrees key (omega (arith, few)) (slot_is past desk client id agrees key) (lying_laid past desk client (id + 1) n agrees known (omega (arith, few)))
  where
    lying_by : (past : Past) (desk : Desk) (client id n : ℕ) → Agrees past desk → IsKey client id → id + 1 + n ≤ most_buffers → HasNone desk client id ⊎ HasHeld desk client id
        → AreLaid (lying desk client (id + 1) n)
        → AreLaid (laid_at client (place_of (first_page desk client id)) (held_in desk client id) ++ lying desk client (id + 1) n)
    lying_by past desk client id n agrees key few (inl none) later = rw none.is later
    lying_by past desk client id n agrees key few (inr held) later =
        let fits = agrees.sized.fits (slot_of client id) (slot_below client id key) in
        rw held.is (
          well_placed desk client id (place_of (first_page desk client id)) key.known held (omega arith) (omega arith) (omega (arith, fits)),
          lying_apart past desk client id (id + 1) n agrees key held (omega arith) few,
          later,
        )

-- the two lists are the same but for places
one_placeless : (client one two : ℕ) (x : Option Held) (xs ys : List Buffer) → map placeless xs ≡ map placeless ys
    → map placeless (laid_at client one x ++ xs) ≡ map placeless (laid_at client two x ++ ys)
one_placeless client one two None xs ys same = same
one_placeless client one two (Some held) xs ys same = ap (λ (rest : List Buffer). placeless (buffer_laid client one held) ∷ rest) same

lists_placeless : (desk : Desk) (client id n place : ℕ) → map placeless (lying desk client id n) ≡ map placeless (buffers_packed client (held_in desk client) id n place)
unfolding lying buffers_packed
lists_placeless desk client id zero place = refl
lists_placeless desk client id (suc n) place =
    one_placeless client (place_of (first_page desk client id)) place (held_in desk client id) (lying desk client (id + 1) n)
    (buffers_packed client (held_in desk client) (id + 1) n (place + size_of (held_in desk client id)))
    (lists_placeless desk client (id + 1) n (place + size_of (held_in desk client id)))

at_most_one : (client place : ℕ) (x : Option Held) (rest : List Buffer) (n : ℕ) → length rest ≤ n → length (laid_at client place x ++ rest) ≤ suc n
at_most_one client place None rest n few = omega (arith, few)
at_most_one client place (Some held) rest n few = omega (arith, few)

packed_few : (client : ℕ) (own : ℕ → Option Held) (id n place : ℕ) → length (buffers_packed client own id n place) ≤ n
unfolding buffers_packed
packed_few client own id zero place = omega arith
packed_few client own id (suc n) place =
    at_most_one client place (own id) (buffers_packed client own (id + 1) n (place + size_of (own id))) n (packed_few client own (id + 1) n (place + size_of (own id)))

files_moved : (desk : Desk) (client : ℕ) (parts : List ℕ) → AreMoved (file_of client (held_in desk client) parts) (lying_file desk client parts)
unfolding file_of lying_file
files_moved desk client parts =
    let same = lists_placeless desk client 0 most_buffers first_place in
    let counts : length (lying desk client 0 most_buffers) ≡ length (buffers_packed client (held_in desk client) 0 most_buffers first_place) =
    sym (count_placeless (lying desk client 0 most_buffers)) ∙ (ap length same ∙ count_placeless (buffers_packed client (held_in desk client) 0 most_buffers first_place)) in
    record {
      head = header_of (length (buffers_packed client (held_in desk client) 0 most_buffers first_place));
      buffers = buffers_packed client (held_in desk client) 0 most_buffers first_place;
      others = lying desk client 0 most_buffers;
      tail = job_bytes (contents_from (held_in desk client) 0 most_buffers) (with_client client parts);
      one = refl;
      two = ap (λ (n : ℕ). header_of n ++ (flat_map buffer_text (lying desk client 0 most_buffers)
          ++ job_bytes (contents_from (held_in desk client) 0 most_buffers) (with_client client parts))) counts;
      header = refl;
      count = head_count (length (buffers_packed client (held_in desk client) 0 most_buffers first_place)) (packed_few client (held_in desk client) 0 most_buffers first_place);
      same = same;
    }

packed_stands : (past : Past) (desk : Desk) (client : ℕ) (parts : List ℕ) → Agrees past desk → client < client_count
    → first_of (table_stage (file_at (file_of client (held_in desk client) parts))) ≡ None
unfolding file_of
packed_stands past desk client parts agrees known =
    let most = few_pages past desk client agrees known in
    table_passes (buffers_packed client (held_in desk client) 0 most_buffers first_place)
    (job_bytes (contents_from (held_in desk client) 0 most_buffers) (with_client client parts))
    (packed_laid past desk client 0 most_buffers first_place agrees known (omega arith) (omega arith) (omega arith) (omega (arith, most)))
    (packed_few client (held_in desk client) 0 most_buffers first_place)

pub lying_few : (desk : Desk) (client id n : ℕ) → length (lying desk client id n) ≤ n
unfolding lying
lying_few desk client id zero = omega arith
lying_few desk client id (suc n) =
    at_most_one client (place_of (first_page desk client id)) (held_in desk client id) (lying desk client (id + 1) n) n (lying_few desk client (id + 1) n)

lying_stands : (past : Past) (desk : Desk) (client : ℕ) (parts : List ℕ) → Agrees past desk → client < client_count
    → first_of (table_stage (file_at (lying_file desk client parts))) ≡ None
unfolding lying_file
lying_stands past desk client parts agrees known =
    table_passes (lying desk client 0 most_buffers)
    (job_bytes (contents_from (held_in desk client) 0 most_buffers) (with_client client parts))
    (lying_laid past desk client 0 most_buffers agrees known (omega arith)) (lying_few desk client 0 most_buffers)

-- the same rule, at the same offset
rule_same : (one two : List ℕ) → ((place : Place) → offset_of one place ≡ offset_of two place) → (found : Option Refusal) → rule_option one found ≡ rule_option two found
rule_same one two same None = refl
rule_same one two same (Some refusal) = ap (λ (offset : ℕ). Some (record { rule = refusal.rule; offset = offset })) (same refusal.place)

pub submits_are_of_places : SubmitsAreOfPlaces
unfolding file_refusal
submits_are_of_places past desk client parts known agrees =
    let one : List ℕ = file_of client (held_in desk client) parts in
    let two : List ℕ = lying_file desk client parts in
    let same = moved_are_alike one two (files_moved desk client parts)
    (packed_stands past desk client parts agrees known) (lying_stands past desk client parts agrees known) in
    ap job_answer (sym (ap (rule_option two) same.0 ∙ rule_same two one same.1 (refusal_of one)))
