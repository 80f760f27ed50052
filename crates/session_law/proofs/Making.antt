-- A buffer is made at free pages.
use Rattle.overflow_slots.proofs.Searches.{apart_by}
use Rattle.std.proofs.Common.{ne_eqb, eq-eqb, ◌≡◌, inl, inr, ℕ, ◌+◌, ◌*◌, ◌/◌, ◌%◌, ◌<◌, ◌≤◌, ◌==◌, ◌||◌, not, Bool, true, false, List, ◌∷◌, length, slice_index, slice_set, Some, arith, refl, sym, ◌∙◌, ap, subst}
use Rattle.std.proofs.lemmas.List.{get_or-set_same, get_or-set_other, length-set}
use Rattle.field_words.specs.{Sizes.page_size, Writes.zeros}
use Rattle.field_words.proofs.Writes.{length_zeros}
use Rattle.buffer_table.specs.{declared.buffer.Kind.Kind, declared.buffer.Kind.TheVariants.Plain}
use Rattle.session_pages.specs.{Runs.page_count, Map.place_of}
use Rattle.job_session.specs.Desk.{Desk, SlotsFit, slot_count, slot_of, first_page, page_total, kind_of, bytes_of, held_in, with_place}
use Rattle.job_session.specs.{Own.Held, Own.with_buffer, Places.Place, Places.covers, Places.is_used, Session.Past, Session.with_own}
use Rattle.session_law.specs.Agree.{IsKey, IsSized, place_in, owner_at, AreListed, Agrees}
use Rattle.session_law.proofs.Bytes.{is_within, within_none, held_inside, held_outside, length_held, window_is, zero_at}
use Rattle.session_law.proofs.Changing.{IsChange, change_agrees, slot_below, same_slot, held_live, page_small, page_covered, byte_page}
use Rattle.session_law.proofs.Listing.{listed_same}
use Rattle.std.proofs.lemmas.Bool.{eqb-true}

-- a slot gets a table's entry, and the others keep theirs
fits_by : (firsts counts : List ℕ) (slot first pages other : ℕ) → SlotsFit firsts counts → length firsts ≡ slot_count → length counts ≡ slot_count
    → slot < slot_count → first + pages ≤ page_count → other < slot_count → (b : Bool) → (other == slot) ≡ b
    → slice_index (slice_set firsts slot first) other + slice_index (slice_set counts slot pages) other ≤ page_count
fits_by firsts counts slot first pages other fits long_firsts long_counts inside room below true is =
    rw (eqb-true other slot is, get_or-set_same firsts slot first 0 (omega arith), get_or-set_same counts slot pages 0 (omega arith)) room
fits_by firsts counts slot first pages other fits long_firsts long_counts inside room below false is =
    rw (get_or-set_other firsts slot other first 0 (apart_by other slot is), get_or-set_other counts slot other pages 0 (apart_by other slot is)) (fits other below)

pub set_fits : (firsts counts : List ℕ) (slot first pages : ℕ) → SlotsFit firsts counts → length firsts ≡ slot_count → length counts ≡ slot_count
    → slot < slot_count → first + pages ≤ page_count → SlotsFit (slice_set firsts slot first) (slice_set counts slot pages)
set_fits firsts counts slot first pages fits long_firsts long_counts inside room =
    λ other below. fits_by firsts counts slot first pages other fits long_firsts long_counts inside room below (other == slot) refl

-- the desk with the new slot
abbrev pub made_at : Desk → ℕ → ℕ → ℕ → Kind → ℕ → Desk
made_at desk client id pages kind first = with_place desk client id pages kind (Some first)

pub made_first : (desk : Desk) (client id pages first : ℕ) (kind : Kind) → IsKey client id → IsSized desk → first_page (made_at desk client id pages kind first) client id ≡ first
made_first desk client id pages first kind key sized =
    get_or-set_same desk.firsts (slot_of client id) first 0 (omega (arith, sized.firsts, slot_below client id key))

pub made_pages : (desk : Desk) (client id pages first : ℕ) (kind : Kind) → IsKey client id → IsSized desk → page_total (made_at desk client id pages kind first) client id ≡ pages
made_pages desk client id pages first kind key sized =
    get_or-set_same desk.counts (slot_of client id) pages 0 (omega (arith, sized.counts, slot_below client id key))

pub made_kind : (desk : Desk) (client id pages first : ℕ) (kind : Kind) → IsKey client id → IsSized desk → kind_of (made_at desk client id pages kind first) client id ≡ kind
made_kind desk client id pages first kind key sized =
    get_or-set_same desk.kinds (slot_of client id) kind Plain (omega (arith, sized.kinds, slot_below client id key))

made_others : (desk : Desk) (client id pages first c i : ℕ) (kind : Kind) → IsKey client id → IsKey c i → (c ≡ client → i ≡ id → ⊥)
    → (place_in (made_at desk client id pages kind first) c i ≡ place_in desk c i) × (kind_of (made_at desk client id pages kind first) c i ≡ kind_of desk c i)
made_others desk client id pages first c i kind key other apart =
    let far : slot_of c i ≡ slot_of client id → ⊥ = λ is. let both = same_slot client id c i key other is in apart both.0 both.1 in
    let starts = get_or-set_other desk.firsts (slot_of client id) (slot_of c i) first 0 far in
    let counts = get_or-set_other desk.counts (slot_of client id) (slot_of c i) pages 0 far in
    (λ p. record { client = c; id = i; first = starts p; pages = counts p }, get_or-set_other desk.kinds (slot_of client id) (slot_of c i) kind Plain far)

-- the run of pages is free, and the slot too
pub record HasRoom (desk : Desk) (client id pages first : ℕ) : Type 0 where
  pub key : IsKey client id
  pub vacant : page_total desk client id ≡ 0
  pub some : 1 ≤ pages
  pub fits : first + pages ≤ page_count
  pub free : (page : ℕ) → page < page_count → is_within first pages page ≡ true → owner_at desk page ≡ 0

made_sized : (desk : Desk) (client id pages first : ℕ) (kind : Kind) → IsSized desk → HasRoom desk client id pages first → IsSized (made_at desk client id pages kind first)
made_sized desk client id pages first kind sized room = record {
  map = record {
    sized = sized.map.sized;
    known = length_held desk.map.owners first pages (slot_of client id + 1) (rw sized.map.known room.fits) ∙ sized.map.known;
  };
  firsts = length-set desk.firsts (slot_of client id) first ∙ sized.firsts;
  counts = length-set desk.counts (slot_of client id) pages ∙ sized.counts;
  kinds = length-set desk.kinds (slot_of client id) kind ∙ sized.kinds;
  fits = set_fits desk.firsts desk.counts (slot_of client id) first pages sized.fits sized.firsts sized.counts (slot_below client id room.key) room.fits;
}

owner_in : (desk : Desk) (client id pages first page : ℕ) (kind : Kind) → IsSized desk → HasRoom desk client id pages first
    → is_within first pages page ≡ true → owner_at (made_at desk client id pages kind first) page ≡ slot_of client id + 1
owner_in desk client id pages first page kind sized room is =
    held_inside desk.map.owners first pages (slot_of client id + 1) page (rw sized.map.known room.fits) is

owner_out : (desk : Desk) (client id pages first page : ℕ) (kind : Kind) → IsSized desk → HasRoom desk client id pages first
    → is_within first pages page ≡ false → owner_at (made_at desk client id pages kind first) page ≡ owner_at desk page
owner_out desk client id pages first page kind sized room is =
    held_outside desk.map.owners first pages (slot_of client id + 1) page (rw sized.map.known room.fits) is

here_by : (past : Past) (desk : Desk) (client id pages first page : ℕ) (kind : Kind) → Agrees past desk → HasRoom desk client id pages first
    → page < page_count → (b : Bool) → is_within first pages page ≡ b
    → is_within first pages page ≡ (owner_at (made_at desk client id pages kind first) page == slot_of client id + 1)
here_by past desk client id pages first page kind agrees room inside true is =
    is ∙ sym (ap (λ (owner : ℕ). owner == slot_of client id + 1) (owner_in desk client id pages first page kind agrees.sized room is) ∙ eq-eqb (slot_of client id + 1) (slot_of client id + 1) refl)
here_by past desk client id pages first page kind agrees room inside false is =
    let before : is_within (first_page desk client id) (page_total desk client id) page ≡ (owner_at desk page == slot_of client id + 1) = agrees.owned client id page room.key inside in
    let none : is_within (first_page desk client id) (page_total desk client id) page ≡ false =
    ap (λ (n : ℕ). is_within (first_page desk client id) n page) room.vacant ∙ within_none (first_page desk client id) page in
    is ∙ (sym none ∙ (before ∙ sym (ap (λ (owner : ℕ). owner == slot_of client id + 1) (owner_out desk client id pages first page kind agrees.sized room is))))

make_here : (past : Past) (desk : Desk) (client id pages first page : ℕ) (kind : Kind) → Agrees past desk → HasRoom desk client id pages first
    → page < page_count
    → covers (place_in (made_at desk client id pages kind first) client id) page ≡ (owner_at (made_at desk client id pages kind first) page == slot_of client id + 1)
make_here past desk client id pages first page kind agrees room inside =
    let starts = made_first desk client id pages first kind room.key agrees.sized in
    let counts = made_pages desk client id pages first kind room.key agrees.sized in
    (λ p. is_within (starts p) (counts p) page) ∙ here_by past desk client id pages first page kind agrees room inside (is_within first pages page) refl

make_change : (past : Past) (desk : Desk) (client id pages first : ℕ) (kind : Kind) → Agrees past desk → HasRoom desk client id pages first
    → IsChange desk (made_at desk client id pages kind first) client id first pages
make_change past desk client id pages first kind agrees room = record {
  sized = made_sized desk client id pages first kind agrees.sized room;
  others = λ c i other apart. made_others desk client id pages first c i kind room.key other apart;
  before = λ page inside is. inl (room.free page inside is);
  behind = λ page inside is. inr (owner_in desk client id pages first page kind agrees.sized room is);
  outside = λ page inside is. owner_out desk client id pages first page kind agrees.sized room is;
  here = λ page inside. make_here past desk client id pages first page kind agrees room inside;
  bytes = λ page at inside small is. refl;
  cleared = λ page at inside small is free.
      let held = owner_in desk client id pages first page kind agrees.sized room is in
      let clash : slot_of client id + 1 ≡ 0 = sym held ∙ free in
      absurd (omega (arith, clash));
}

-- the new buffer's bytes are zero
make_byte : (past : Past) (desk : Desk) (client id pages first k : ℕ) → Agrees past desk → HasRoom desk client id pages first → k < page_size * pages
    → slice_index desk.map.memory (place_of first + k) ≡ 0
make_byte past desk client id pages first k agrees room below =
    let page : ℕ = first + k / page_size in
    let small : page < page_count = page_small first pages k below room.fits in
    let zero : slice_index desk.map.memory (place_of page + k % page_size) ≡ 0 =
    agrees.zero page (k % page_size) small (omega arith) (room.free page small (page_covered first pages k below)) in
    subst (λ (p : ℕ). slice_index desk.map.memory p ≡ 0) (byte_page first k) zero

abbrev pub zero_buffer : Kind → ℕ → Held
zero_buffer kind pages = record { kind = kind; bytes = zeros (page_size * pages) }

pub make_bytes : (past : Past) (desk : Desk) (client id pages first : ℕ) (kind : Kind) → Agrees past desk → HasRoom desk client id pages first
    → bytes_of (made_at desk client id pages kind first) client id ≡ zeros (page_size * pages)
make_bytes past desk client id pages first kind agrees room =
    rw (made_first desk client id pages first kind room.key agrees.sized, made_pages desk client id pages first kind room.key agrees.sized)
    (window_is desk.map.memory (place_of first) (page_size * pages) (zeros (page_size * pages))
    (omega (arith, room.fits, agrees.sized.map.sized)) (length_zeros (page_size * pages))
    (λ k below. make_byte past desk client id pages first k agrees room below ∙ sym (zero_at (page_size * pages) k)))

make_held : (past : Past) (desk : Desk) (client id pages first : ℕ) (kind : Kind) → Agrees past desk → HasRoom desk client id pages first
    → held_in (made_at desk client id pages kind first) client id ≡ Some (zero_buffer kind pages)
make_held past desk client id pages first kind agrees room =
    let counts = made_pages desk client id pages first kind room.key agrees.sized in
    let kinds = made_kind desk client id pages first kind room.key agrees.sized in
    let bytes = make_bytes past desk client id pages first kind agrees room in
    held_live (made_at desk client id pages kind first) client id room.key.small (rw counts room.some)
    ∙ (λ p. Some (record { kind = kinds p; bytes = bytes p }))

abbrev pub new_place : ℕ → ℕ → ℕ → ℕ → Place
new_place client id first pages = record { client = client; id = id; first = first; pages = pages }

make_listed : (past : Past) (desk : Desk) (client id pages first : ℕ) (kind : Kind) → Agrees past desk → HasRoom desk client id pages first
    → AreListed (made_at desk client id pages kind first) (new_place client id first pages ∷ past.places)
make_listed past desk client id pages first kind agrees room =
    let starts = made_first desk client id pages first kind room.key agrees.sized in
    let counts = made_pages desk client id pages first kind room.key agrees.sized in (
      record { key = room.key; some = room.some; is = λ p. record { client = client; id = id; first = starts p; pages = counts p } },
      listed_same (made_at desk client id pages kind first) desk past.places
          (λ c i other some. (made_others desk client id pages first c i kind room.key other (λ e j. make_apart desk client id c i room.vacant some e j)).0) agrees.listed,
    )
  where
    make_apart : (desk : Desk) (client id c i : ℕ) → page_total desk client id ≡ 0 → 1 ≤ page_total desk c i → c ≡ client → i ≡ id → ⊥
    make_apart desk client id c i none some e j =
        let clash : 1 ≤ page_total desk client id = rw (sym e, sym j) some in omega (arith, clash, none)

used_make : (past : Past) (desk : Desk) (client id pages first page : ℕ) (kind : Kind) → Agrees past desk → HasRoom desk client id pages first
    → page < page_count → (b : Bool) → is_within first pages page ≡ b
    → (is_within first pages page || is_used past.places page) ≡ not (owner_at (made_at desk client id pages kind first) page == 0)
used_make past desk client id pages first page kind agrees room inside true is =
    let held = owner_in desk client id pages first page kind agrees.sized room is in
    let yes : (owner_at (made_at desk client id pages kind first) page == 0) ≡ false = ne_eqb (owner_at (made_at desk client id pages kind first) page) 0 (λ z. omega (arith, held, z)) in
    ap (λ (b : Bool). b || is_used past.places page) is ∙ sym (ap not yes)
used_make past desk client id pages first page kind agrees room inside false is =
    ap (λ (b : Bool). b || is_used past.places page) is
    ∙ (agrees.used page inside ∙ ap (λ (owner : ℕ). not (owner == 0)) (sym (owner_out desk client id pages first page kind agrees.sized room is)))

make_used : (past : Past) (desk : Desk) (client id pages first page : ℕ) (kind : Kind) → Agrees past desk → HasRoom desk client id pages first
    → page < page_count → is_used (new_place client id first pages ∷ past.places) page ≡ not (owner_at (made_at desk client id pages kind first) page == 0)
unfolding is_used
make_used past desk client id pages first page kind agrees room inside =
    used_make past desk client id pages first page kind agrees room inside (is_within first pages page) refl

pub make_agrees : (past : Past) (desk : Desk) (client id pages first : ℕ) (kind : Kind) → Agrees past desk → HasRoom desk client id pages first
    → Agrees (record {
      own = with_own past client (with_buffer (past.own client) id (Some (zero_buffer kind pages)));
      places = new_place client id first pages ∷ past.places;
    }) (made_at desk client id pages kind first)
make_agrees past desk client id pages first kind agrees room =
    change_agrees past desk (made_at desk client id pages kind first) client id first pages (Some (zero_buffer kind pages)) (new_place client id first pages ∷ past.places)
    agrees room.key (make_change past desk client id pages first kind agrees room) (make_held past desk client id pages first kind agrees room)
    (make_listed past desk client id pages first kind agrees room)
    (λ page inside. make_used past desk client id pages first page kind agrees room inside)
