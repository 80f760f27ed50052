-- One slot changes, with the pages that it has or gets: all others stay as they are.
use Rattle.overflow_slots.proofs.Searches.{apart_by}
use Rattle.job_session.proofs.Held.{held_some}
use Rattle.session_law.proofs.Bytes.{is_within, window_same}
use Rattle.std.proofs.Common.{ne_eqb, ◌≡◌, ◌⊎◌, inl, inr, ℕ, ◌+◌, ◌*◌, ◌/◌, ◌%◌, ◌<◌, ◌≤◌, ◌==◌, ◌&&◌, not, nat_lt, Bool, true, false, if◌then◌else◌, List, slice_index, Option, Some, None, arith, refl, sym, ◌∙◌, ap, subst}
use Rattle.std.proofs.lemmas.Bool.Decides.{nat_tests}
use Rattle.field_words.specs.Sizes.{page_size}
use Rattle.buffer_table.specs.declared.buffer.Kind.{Kind}
use Rattle.session_pages.specs.{Runs.page_count, Map.place_of}
use Rattle.job_session.specs.Desk.{Desk, slot_count, slot_of, first_page, page_total, kind_of, bytes_of, held_in}
use Rattle.job_session.specs.{Own.Held, Own.most_buffers, Own.with_buffer, Places.Place, Places.covers, Places.is_used}
use Rattle.job_session.specs.Session.{Past, with_own}
use Rattle.session_law.specs.Agree.{IsKey, IsSized, place_in, owner_at, client_count, AreListed, Agrees}
use Rattle.std.proofs.lemmas.Bool.{eqb-true}

pub slot_below : (client id : ℕ) → IsKey client id → slot_of client id < slot_count
slot_below client id key = omega (arith, key.known, key.small)

-- a slot's number tells its client and its id
pub same_slot : (client id c i : ℕ) → IsKey client id → IsKey c i → slot_of c i ≡ slot_of client id → (c ≡ client) × (i ≡ id)
same_slot client id c i key other is = (omega (arith, key.small, other.small), omega (arith, key.small, other.small))

-- what a slot gives, by its parts
abbrev pub held_if : Bool → Held → Option Held
held_if b held = if b then Some held else None

abbrev pub held_of : ℕ → ℕ → Kind → List ℕ → Option Held
held_of id pages kind bytes = held_if (nat_lt id most_buffers && not (pages == 0)) (record { kind = kind; bytes = bytes })

pub held_is : (desk : Desk) (client id : ℕ) → held_in desk client id ≡ held_of id (page_total desk client id) (kind_of desk client id) (bytes_of desk client id)
unfolding held_in
held_is desk client id = refl

pub held_live : (desk : Desk) (client id : ℕ) → id < most_buffers → 1 ≤ page_total desk client id
    → held_in desk client id ≡ Some (record { kind = kind_of desk client id; bytes = bytes_of desk client id })
held_live desk client id small some = held_some desk client id small (λ none. omega (arith, none, some))

pub held_past : (desk : Desk) (client id : ℕ) → (id < most_buffers → ⊥) → held_in desk client id ≡ None
unfolding held_in
held_past desk client id past = let e : nat_lt id most_buffers ≡ false = grind (arith, nat_tests) in rw e refl

held_parts : (left desk : Desk) (client id : ℕ) → page_total left client id ≡ page_total desk client id → kind_of left client id ≡ kind_of desk client id
    → bytes_of left client id ≡ bytes_of desk client id → held_in left client id ≡ held_in desk client id
held_parts left desk client id pages kind bytes =
    held_is left client id ∙ ((λ p. held_of id (pages p) (kind p) (bytes p)) ∙ sym (held_is desk client id))

-- A slot changes, and so may these pages, which are free or its own; nothing else does.
pub record IsChange (desk left : Desk) (client id first pages : ℕ) : Type 0 where
  pub sized : IsSized left
  pub others : (c i : ℕ) → IsKey c i → (c ≡ client → i ≡ id → ⊥) → (place_in left c i ≡ place_in desk c i) × (kind_of left c i ≡ kind_of desk c i)
  pub before : (page : ℕ) → page < page_count → is_within first pages page ≡ true → (owner_at desk page ≡ 0) ⊎ (owner_at desk page ≡ slot_of client id + 1)
  pub behind : (page : ℕ) → page < page_count → is_within first pages page ≡ true → (owner_at left page ≡ 0) ⊎ (owner_at left page ≡ slot_of client id + 1)
  pub outside : (page : ℕ) → page < page_count → is_within first pages page ≡ false → owner_at left page ≡ owner_at desk page
  pub here : (page : ℕ) → page < page_count → covers (place_in left client id) page ≡ (owner_at left page == slot_of client id + 1)
  pub bytes : (page at : ℕ) → page < page_count → at < page_size → is_within first pages page ≡ false
      → slice_index left.map.memory (place_of page + at) ≡ slice_index desk.map.memory (place_of page + at)
  pub cleared : (page at : ℕ) → page < page_count → at < page_size → is_within first pages page ≡ true → owner_at left page ≡ 0
      → slice_index left.map.memory (place_of page + at) ≡ 0

-- a page that is free or the slot's own is no page of another slot
not_theirs : (owner slot other : ℕ) → (owner ≡ 0) ⊎ (owner ≡ slot + 1) → (other ≡ slot → ⊥) → (owner == other + 1) ≡ false
not_theirs owner slot other (inl none) apart = ne_eqb owner (other + 1) (λ e. omega (arith, none, e))
not_theirs owner slot other (inr ours) apart = ne_eqb owner (other + 1) (λ e. apart (omega (arith, ours, e)))

apart_slots : (client id c i : ℕ) → IsKey client id → IsKey c i → (c ≡ client → i ≡ id → ⊥) → slot_of c i ≡ slot_of client id → ⊥
apart_slots client id c i key other apart is = let both = same_slot client id c i key other is in apart both.0 both.1

-- another slot's pages are no pages of the change
theirs_by : (past : Past) (desk left : Desk) (client id first pages c i page : ℕ) → Agrees past desk → IsChange desk left client id first pages
    → IsKey client id → IsKey c i → (c ≡ client → i ≡ id → ⊥) → page < page_count
    → covers (place_in desk c i) page ≡ true → (b : Bool) → is_within first pages page ≡ b → is_within first pages page ≡ false
theirs_by past desk left client id first pages c i page agrees change key other apart inside cover false is = is
theirs_by past desk left client id first pages c i page agrees change key other apart inside cover true is =
    let no : (owner_at desk page == slot_of c i + 1) ≡ false =
    not_theirs (owner_at desk page) (slot_of client id) (slot_of c i) (change.before page inside is) (apart_slots client id c i key other apart) in
    let yes : true ≡ (owner_at desk page == slot_of c i + 1) = sym cover ∙ agrees.owned c i page other inside in
    let clash : true ≡ false = yes ∙ no in
    absurd (grind (arith, clash))

pub theirs : (past : Past) (desk left : Desk) (client id first pages c i page : ℕ) → Agrees past desk → IsChange desk left client id first pages
    → IsKey client id → IsKey c i → (c ≡ client → i ≡ id → ⊥) → page < page_count
    → covers (place_in desk c i) page ≡ true → is_within first pages page ≡ false
theirs past desk left client id first pages c i page agrees change key other apart inside cover =
    theirs_by past desk left client id first pages c i page agrees change key other apart inside cover (is_within first pages page) refl

-- a byte of a slot's pages, by its page and its place there
pub byte_page : (first k : ℕ) → place_of (first + k / page_size) + k % page_size ≡ place_of first + k
byte_page first k = omega arith

pub page_covered : (first pages k : ℕ) → k < page_size * pages → is_within first pages (first + k / page_size) ≡ true
page_covered first pages k below =
    let e : k / page_size < pages = omega arith in grind (arith, nat_tests)

pub page_small : (first pages k : ℕ) → k < page_size * pages → first + pages ≤ page_count → first + k / page_size < page_count
page_small first pages k below fits = omega arith

other_byte : (past : Past) (desk left : Desk) (client id first pages c i k : ℕ) → Agrees past desk → IsChange desk left client id first pages
    → IsKey client id → IsKey c i → (c ≡ client → i ≡ id → ⊥) → k < page_size * page_total desk c i
    → slice_index left.map.memory (place_of (first_page desk c i) + k) ≡ slice_index desk.map.memory (place_of (first_page desk c i) + k)
other_byte past desk left client id first pages c i k agrees change key other apart below =
    let page : ℕ = first_page desk c i + k / page_size in
    let small : page < page_count = page_small (first_page desk c i) (page_total desk c i) k below (agrees.sized.fits (slot_of c i) (slot_below c i other)) in
    let free : is_within first pages page ≡ false =
    theirs past desk left client id first pages c i page agrees change key other apart small (page_covered (first_page desk c i) (page_total desk c i) k below) in
    let same : slice_index left.map.memory (place_of page + k % page_size) ≡ slice_index desk.map.memory (place_of page + k % page_size) =
    change.bytes page (k % page_size) small (omega arith) free in
    subst (λ (p : ℕ). slice_index left.map.memory p ≡ slice_index desk.map.memory p) (byte_page (first_page desk c i) k) same

-- another slot's bytes stay
other_bytes : (past : Past) (desk left : Desk) (client id first pages c i : ℕ) → Agrees past desk → IsChange desk left client id first pages
    → IsKey client id → IsKey c i → (c ≡ client → i ≡ id → ⊥) → bytes_of left c i ≡ bytes_of desk c i
other_bytes past desk left client id first pages c i agrees change key other apart =
    let place = (change.others c i other apart).0 in
    let starts : first_page left c i ≡ first_page desk c i = ap (λ (p : Place). p.first) place in
    let counts : page_total left c i ≡ page_total desk c i = ap (λ (p : Place). p.pages) place in
    let fits = agrees.sized.fits (slot_of c i) (slot_below c i other) in
    rw (starts, counts)
    (window_same desk.map.memory left.map.memory (place_of (first_page desk c i)) (page_size * page_total desk c i)
    (omega (arith, fits, agrees.sized.map.sized)) (change.sized.map.sized ∙ sym agrees.sized.map.sized)
    (λ k below. other_byte past desk left client id first pages c i k agrees change key other apart below))

other_held_by : (past : Past) (desk left : Desk) (client id first pages c i : ℕ) → Agrees past desk → IsChange desk left client id first pages
    → IsKey client id → c < client_count → (c ≡ client → i ≡ id → ⊥) → (b : Bool) → nat_lt i most_buffers ≡ b → held_in left c i ≡ held_in desk c i
other_held_by past desk left client id first pages c i agrees change key known apart true is =
    let other : IsKey c i = record { known = known; small = grind (arith, nat_tests) } in
    let same = change.others c i other apart in
    held_parts left desk c i (ap (λ (p : Place). p.pages) same.0) same.1
    (other_bytes past desk left client id first pages c i agrees change key other apart)
other_held_by past desk left client id first pages c i agrees change key known apart false is =
    let past_end : i < most_buffers → ⊥ = λ h. absurd (grind (arith, nat_tests)) in
    held_past left c i past_end ∙ sym (held_past desk c i past_end)

pub other_held : (past : Past) (desk left : Desk) (client id first pages c i : ℕ) → Agrees past desk → IsChange desk left client id first pages
    → IsKey client id → c < client_count → (c ≡ client → i ≡ id → ⊥) → held_in left c i ≡ held_in desk c i
other_held past desk left client id first pages c i agrees change key known apart =
    other_held_by past desk left client id first pages c i agrees change key known apart (nat_lt i most_buffers) refl

-- each client's buffers, with the slot's new one
own_id : (past : Past) (desk left : Desk) (client id first pages i : ℕ) (x : Option Held) → Agrees past desk → IsChange desk left client id first pages
    → IsKey client id → held_in left client id ≡ x → (b : Bool) → (i == id) ≡ b
    → (if b then x else past.own client i) ≡ held_in left client i
own_id past desk left client id first pages i x agrees change key new true is =
    rw (eqb-true i id is) (sym new)
own_id past desk left client id first pages i x agrees change key new false is =
    ap (λ (own : ℕ → Option Held). own i) (agrees.held client key.known)
    ∙ sym (other_held past desk left client id first pages client i agrees change key key.known (λ c e. apart_by i id is e))

own_client : (past : Past) (desk left : Desk) (client id first pages c : ℕ) (x : Option Held) → Agrees past desk → IsChange desk left client id first pages
    → IsKey client id → held_in left client id ≡ x → c < client_count → (b : Bool) → (c == client) ≡ b
    → (if b then with_buffer (past.own client) id x else past.own c) ≡ held_in left c
own_client past desk left client id first pages c x agrees change key new known true is =
    rw (eqb-true c client is) (λ p i. own_id past desk left client id first pages i x agrees change key new (i == id) refl p)
own_client past desk left client id first pages c x agrees change key new known false is =
    agrees.held c known
    ∙ (λ p i. sym (other_held past desk left client id first pages c i agrees change key known (λ e j. apart_by c client is e)) p)

owned_by : (past : Past) (desk left : Desk) (client id first pages c i page : ℕ) → Agrees past desk → IsChange desk left client id first pages
    → IsKey client id → IsKey c i → (c ≡ client → i ≡ id → ⊥) → page < page_count → (b : Bool) → is_within first pages page ≡ b
    → covers (place_in desk c i) page ≡ (owner_at left page == slot_of c i + 1)
owned_by past desk left client id first pages c i page agrees change key other apart inside true is =
    let far = apart_slots client id c i key other apart in
    agrees.owned c i page other inside
    ∙ (not_theirs (owner_at desk page) (slot_of client id) (slot_of c i) (change.before page inside is) far
    ∙ sym (not_theirs (owner_at left page) (slot_of client id) (slot_of c i) (change.behind page inside is) far))
owned_by past desk left client id first pages c i page agrees change key other apart inside false is =
    agrees.owned c i page other inside ∙ ap (λ (owner : ℕ). owner == slot_of c i + 1) (sym (change.outside page inside is))

left_owned : (past : Past) (desk left : Desk) (client id first pages c i page : ℕ) → Agrees past desk → IsChange desk left client id first pages
    → IsKey client id → IsKey c i → page < page_count → (b : Bool) → (slot_of c i == slot_of client id) ≡ b
    → covers (place_in left c i) page ≡ (owner_at left page == slot_of c i + 1)
left_owned past desk left client id first pages c i page agrees change key other inside true is =
    let both = same_slot client id c i key other (eqb-true (slot_of c i) (slot_of client id) is) in
    rw (both.0, both.1) (change.here page inside)
left_owned past desk left client id first pages c i page agrees change key other inside false is =
    let apart : c ≡ client → i ≡ id → ⊥ = λ e j. apart_by (slot_of c i) (slot_of client id) is (omega (arith, e, j)) in
    ap (λ (p : Place). covers p page) (change.others c i other apart).0
    ∙ owned_by past desk left client id first pages c i page agrees change key other apart inside (is_within first pages page) refl

left_zero : (past : Past) (desk left : Desk) (client id first pages page at : ℕ) → Agrees past desk → IsChange desk left client id first pages
    → page < page_count → at < page_size → owner_at left page ≡ 0 → (b : Bool) → is_within first pages page ≡ b
    → slice_index left.map.memory (place_of page + at) ≡ 0
left_zero past desk left client id first pages page at agrees change inside small free true is = change.cleared page at inside small is free
left_zero past desk left client id first pages page at agrees change inside small free false is =
    change.bytes page at inside small is ∙ agrees.zero page at inside small (sym (change.outside page inside is) ∙ free)

pub change_agrees : (past : Past) (desk left : Desk) (client id first pages : ℕ) (x : Option Held) (places : List Place) → Agrees past desk
    → IsKey client id → IsChange desk left client id first pages → held_in left client id ≡ x → AreListed left places
    → ((page : ℕ) → page < page_count → is_used places page ≡ not (owner_at left page == 0))
    → Agrees (record { own = with_own past client (with_buffer (past.own client) id x); places = places }) left
change_agrees past desk left client id first pages x places agrees key change new listed used = record {
  sized = change.sized;
  held = λ c known. own_client past desk left client id first pages c x agrees change key new known (c == client) refl;
  owned = λ c i page other inside. left_owned past desk left client id first pages c i page agrees change key other inside (slot_of c i == slot_of client id) refl;
  listed = listed;
  used = used;
  zero = λ page at inside small free. left_zero past desk left client id first pages page at agrees change inside small free (is_within first pages page) refl;
}
