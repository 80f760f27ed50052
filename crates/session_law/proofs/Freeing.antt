-- A buffer's pages are given back.
use Rattle.overflow_slots.proofs.Searches.{apart_by}
use Rattle.session_law.proofs.Bytes.{is_within, is_inside, within_none, held_inside, held_outside, length_held, written_apart, zero_at}
use Rattle.job_session.proofs.Held.{held_none}
use Rattle.std.proofs.Common.{ne_eqb, ◌≡◌, inl, inr, ℕ, ◌+◌, ◌-◌, ◌*◌, ◌<◌, ◌≤◌, ◌==◌, ◌&&◌, not, Bool, true, false, List, length, slice_index, slice_set, None, arith, refl, sym, ◌∙◌, ap, subst}
use Rattle.std.proofs.lemmas.List.{get_or-set_same, get_or-set_other, length-set}
use Rattle.field_words.specs.{Sizes.page_size, Writes.with_bytes, Writes.zeros}
use Rattle.field_words.proofs.Writes.{length_zeros, length-with_bytes, with_bytes-inside}
use Rattle.session_pages.specs.{Runs.page_count, Map.place_of, Map.without_run}
use Rattle.job_session.specs.{Own.with_buffer, Places.covers, Places.is_used, Places.without, Session.Past, Session.with_own}
use Rattle.job_session.specs.Desk.{Desk, SlotsFit, slot_count, slot_of, first_page, page_total}
use Rattle.session_law.specs.Agree.{IsKey, IsSized, place_in, owner_at, Agrees}
use Rattle.session_law.proofs.Changing.{IsChange, change_agrees, slot_below, same_slot}
use Rattle.session_law.proofs.{Listing.listed_without, Listing.used_without, Writing.own_page, Writing.room_in, Writing.before_page}
use Rattle.std.proofs.lemmas.Bool.{eqb-true}

-- the desk without the slot's buffer
abbrev pub freed_at : Desk → ℕ → ℕ → Desk
freed_at desk client id = record {
  map = without_run desk.map (first_page desk client id) (page_total desk client id);
  firsts = desk.firsts;
  counts = slice_set desk.counts (slot_of client id) 0;
  kinds = desk.kinds;
}

fits_by : (firsts counts : List ℕ) (slot other : ℕ) → SlotsFit firsts counts → length counts ≡ slot_count → slot < slot_count → other < slot_count
    → (b : Bool) → (other == slot) ≡ b → slice_index firsts other + slice_index (slice_set counts slot 0) other ≤ page_count
fits_by firsts counts slot other fits long inside below true is =
    let before = fits slot inside in
    rw (eqb-true other slot is, get_or-set_same counts slot 0 0 (omega arith)) (omega (arith, before))
fits_by firsts counts slot other fits long inside below false is =
    rw (get_or-set_other counts slot other 0 0 (apart_by other slot is)) (fits other below)

run_fits : (past : Past) (desk : Desk) (client id : ℕ) → Agrees past desk → IsKey client id
    → first_page desk client id + page_total desk client id ≤ length desk.map.owners
run_fits past desk client id agrees key = rw agrees.sized.map.known (agrees.sized.fits (slot_of client id) (slot_below client id key))

zeros_fit : (past : Past) (desk : Desk) (client id : ℕ) → Agrees past desk → IsKey client id
    → place_of (first_page desk client id) + length (zeros (page_size * page_total desk client id)) ≤ length desk.map.memory
zeros_fit past desk client id agrees key =
    omega (arith, length_zeros (page_size * page_total desk client id), room_in past desk client id agrees key)

freed_sized : (past : Past) (desk : Desk) (client id : ℕ) → Agrees past desk → IsKey client id → IsSized (freed_at desk client id)
freed_sized past desk client id agrees key = record {
  map = record {
    sized = length-with_bytes desk.map.memory (place_of (first_page desk client id)) (zeros (page_size * page_total desk client id))
        (zeros_fit past desk client id agrees key) ∙ agrees.sized.map.sized;
    known = length_held desk.map.owners (first_page desk client id) (page_total desk client id) 0 (run_fits past desk client id agrees key) ∙ agrees.sized.map.known;
  };
  firsts = agrees.sized.firsts;
  counts = length-set desk.counts (slot_of client id) 0 ∙ agrees.sized.counts;
  kinds = agrees.sized.kinds;
  fits = λ other below. fits_by desk.firsts desk.counts (slot_of client id) other agrees.sized.fits agrees.sized.counts (slot_below client id key) below (other == slot_of client id) refl;
}

freed_pages : (past : Past) (desk : Desk) (client id : ℕ) → Agrees past desk → IsKey client id → page_total (freed_at desk client id) client id ≡ 0
freed_pages past desk client id agrees key =
    get_or-set_same desk.counts (slot_of client id) 0 0 (omega (arith, agrees.sized.counts, slot_below client id key))

freed_others : (desk : Desk) (client id c i : ℕ) → IsKey client id → IsKey c i → (c ≡ client → i ≡ id → ⊥)
    → place_in (freed_at desk client id) c i ≡ place_in desk c i
freed_others desk client id c i key other apart =
    let far : slot_of c i ≡ slot_of client id → ⊥ = λ is. let both = same_slot client id c i key other is in apart both.0 both.1 in
    let counts = get_or-set_other desk.counts (slot_of client id) (slot_of c i) 0 0 far in
    λ p. record { client = c; id = i; first = first_page desk c i; pages = counts p }

freed_in : (past : Past) (desk : Desk) (client id page : ℕ) → Agrees past desk → IsKey client id
    → is_within (first_page desk client id) (page_total desk client id) page ≡ true → owner_at (freed_at desk client id) page ≡ 0
freed_in past desk client id page agrees key is =
    held_inside desk.map.owners (first_page desk client id) (page_total desk client id) 0 page (run_fits past desk client id agrees key) is

freed_out : (past : Past) (desk : Desk) (client id page : ℕ) → Agrees past desk → IsKey client id
    → is_within (first_page desk client id) (page_total desk client id) page ≡ false → owner_at (freed_at desk client id) page ≡ owner_at desk page
freed_out past desk client id page agrees key is =
    held_outside desk.map.owners (first_page desk client id) (page_total desk client id) 0 page (run_fits past desk client id agrees key) is

freed_here : (past : Past) (desk : Desk) (client id page : ℕ) → Agrees past desk → IsKey client id → page < page_count
    → (b : Bool) → is_within (first_page desk client id) (page_total desk client id) page ≡ b
    → (owner_at (freed_at desk client id) page == slot_of client id + 1) ≡ false
freed_here past desk client id page agrees key inside true is =
    let free = freed_in past desk client id page agrees key is in
    ne_eqb (owner_at (freed_at desk client id) page) (slot_of client id + 1) (λ e. omega (arith, free, e))
freed_here past desk client id page agrees key inside false is =
    ap (λ (owner : ℕ). owner == slot_of client id + 1) (freed_out past desk client id page agrees key is)
    ∙ (sym (agrees.owned client id page key inside) ∙ is)

freed_covers : (past : Past) (desk : Desk) (client id page : ℕ) → Agrees past desk → IsKey client id
    → covers (place_in (freed_at desk client id) client id) page ≡ false
freed_covers past desk client id page agrees key =
    ap (λ (n : ℕ). is_within (first_page desk client id) n page) (freed_pages past desk client id agrees key) ∙ within_none (first_page desk client id) page

freed_byte : (past : Past) (desk : Desk) (client id page at : ℕ) → Agrees past desk → IsKey client id → at < page_size
    → is_within (first_page desk client id) (page_total desk client id) page ≡ false
    → slice_index (freed_at desk client id).map.memory (place_of page + at) ≡ slice_index desk.map.memory (place_of page + at)
freed_byte past desk client id page at agrees key small is =
    written_apart desk.map.memory (place_of (first_page desk client id)) (zeros (page_size * page_total desk client id)) (place_of page + at)
    (zeros_fit past desk client id agrees key)
    (λ low high. before_page (first_page desk client id) (page_total desk client id) page at small is (omega arith)
    (omega (arith, length_zeros (page_size * page_total desk client id))))

cleared_at : (memory : List ℕ) (first pages page at : ℕ) → place_of first + page_size * pages ≤ length memory → first ≤ page → page < first + pages
    → at < page_size → slice_index (with_bytes memory (place_of first) (zeros (page_size * pages))) (place_of page + at) ≡ 0
cleared_at memory first pages page at fits low high small =
    let n : ℕ = page_size * pages in
    let k : ℕ = page_size * (page - first) + at in
    let long : length (zeros n) ≡ n = length_zeros n in
    let e : place_of first + k ≡ place_of page + at = omega arith in
    let below : k < length (zeros n) = omega (arith, long) in
    subst (λ (p : ℕ). slice_index (with_bytes memory (place_of first) (zeros (page_size * pages))) p ≡ 0) e
    (with_bytes-inside memory (place_of first) (zeros n) k (omega (arith, long)) below ∙ zero_at n k)

freed_zero : (past : Past) (desk : Desk) (client id page at : ℕ) → Agrees past desk → IsKey client id → at < page_size
    → is_within (first_page desk client id) (page_total desk client id) page ≡ true
    → slice_index (freed_at desk client id).map.memory (place_of page + at) ≡ 0
freed_zero past desk client id page at agrees key small is =
    let in_run = is_inside (first_page desk client id) (page_total desk client id) page is in
    cleared_at desk.map.memory (first_page desk client id) (page_total desk client id) page at (room_in past desk client id agrees key) in_run.0 in_run.1 small

free_change : (past : Past) (desk : Desk) (client id : ℕ) → Agrees past desk → IsKey client id
    → IsChange desk (freed_at desk client id) client id (first_page desk client id) (page_total desk client id)
free_change past desk client id agrees key = record {
  sized = freed_sized past desk client id agrees key;
  others = λ c i other apart. (freed_others desk client id c i key other apart, refl);
  before = λ page inside is. inr (own_page past desk client id page agrees key inside is);
  behind = λ page inside is. inl (freed_in past desk client id page agrees key is);
  outside = λ page inside is. freed_out past desk client id page agrees key is;
  here = λ page inside. freed_covers past desk client id page agrees key
      ∙ sym (freed_here past desk client id page agrees key inside (is_within (first_page desk client id) (page_total desk client id) page) refl);
  bytes = λ page at inside small is. freed_byte past desk client id page at agrees key small is;
  cleared = λ page at inside small is free. freed_zero past desk client id page at agrees key small is;
}

and_yes : (u : Bool) → (u && true) ≡ u
and_yes true = refl
and_yes false = refl

and_none : (u : Bool) → (u && false) ≡ false
and_none true = refl
and_none false = refl

free_used : (past : Past) (desk : Desk) (client id page : ℕ) → Agrees past desk → IsKey client id → page < page_count
    → (b : Bool) → is_within (first_page desk client id) (page_total desk client id) page ≡ b
    → (is_used past.places page && not (covers (place_in desk client id) page)) ≡ not (owner_at (freed_at desk client id) page == 0)
free_used past desk client id page agrees key inside true is =
    ap (λ (c : Bool). is_used past.places page && not c) is
    ∙ (and_none (is_used past.places page)
    ∙ ap (λ (owner : ℕ). not (owner == 0)) (sym (freed_in past desk client id page agrees key is)))
free_used past desk client id page agrees key inside false is =
    ap (λ (c : Bool). is_used past.places page && not c) is
    ∙ (and_yes (is_used past.places page)
    ∙ (agrees.used page inside
    ∙ ap (λ (owner : ℕ). not (owner == 0)) (sym (freed_out past desk client id page agrees key is))))

pub free_agrees : (past : Past) (desk : Desk) (client id : ℕ) → Agrees past desk → IsKey client id
    → Agrees (record { own = with_own past client (with_buffer (past.own client) id None); places = without client id past.places }) (freed_at desk client id)
free_agrees past desk client id agrees key =
    change_agrees past desk (freed_at desk client id) client id (first_page desk client id) (page_total desk client id) None (without client id past.places)
    agrees key (free_change past desk client id agrees key)
    (held_none (freed_at desk client id) client id (freed_pages past desk client id agrees key))
    (listed_without (freed_at desk client id) desk client id past.places (λ c i other apart. freed_others desk client id c i key other apart) agrees.listed)
    (λ page inside. used_without past desk client id page past.places agrees key inside agrees.listed
    ∙ free_used past desk client id page agrees key inside (is_within (first_page desk client id) (page_total desk client id) page) refl)
