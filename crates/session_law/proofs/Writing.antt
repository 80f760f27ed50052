-- Bytes are written into a buffer.
use Rattle.std.proofs.Common.{◌≡◌, inr, ℕ, ◌+◌, ◌*◌, ◌<◌, ◌≤◌, ◌==◌, true, false, List, length, slice_index, Some, arith, refl, sym, ◌∙◌, ap}
use Rattle.field_words.specs.{Sizes.page_size, Writes.with_bytes}
use Rattle.field_words.proofs.Writes.{length-with_bytes}
use Rattle.session_pages.specs.{Runs.page_count, Map.place_of}
use Rattle.job_session.specs.Desk.{Desk, slot_of, first_page, page_total, kind_of, bytes_of, held_in, with_written}
use Rattle.job_session.specs.{Own.Held, Own.with_buffer, Session.Past, Session.with_own}
use Rattle.session_law.specs.Agree.{IsKey, IsSized, owner_at, Agrees}
use Rattle.session_law.proofs.Bytes.{is_within, is_outside, window_written, written_apart}
use Rattle.session_law.proofs.{Changing.IsChange, Changing.change_agrees, Changing.slot_below, Changing.held_live, Listing.listed_same}
use Rattle.std.proofs.lemmas.Bool.{eqb-true}

-- a buffer has pages, and the bytes end in them
pub record Lies (desk : Desk) (client id at : ℕ) (part : List ℕ) : Type 0 where
  pub key : IsKey client id
  pub some : 1 ≤ page_total desk client id
  pub inside : at + length part ≤ page_size * page_total desk client id

-- a slot's pages are its own
pub own_page : (past : Past) (desk : Desk) (client id page : ℕ) → Agrees past desk → IsKey client id → page < page_count
    → is_within (first_page desk client id) (page_total desk client id) page ≡ true → owner_at desk page ≡ slot_of client id + 1
own_page past desk client id page agrees key inside is =
    let ours : (owner_at desk page == slot_of client id + 1) ≡ true = sym (agrees.owned client id page key inside) ∙ is in
    eqb-true (owner_at desk page) (slot_of client id + 1) ours

pub room_in : (past : Past) (desk : Desk) (client id : ℕ) → Agrees past desk → IsKey client id
    → place_of (first_page desk client id) + page_size * page_total desk client id ≤ length desk.map.memory
room_in past desk client id agrees key =
    let fits = agrees.sized.fits (slot_of client id) (slot_below client id key) in omega (arith, fits, agrees.sized.map.sized)

written_sized : (past : Past) (desk : Desk) (client id at : ℕ) (part : List ℕ) → Agrees past desk → Lies desk client id at part → IsSized (with_written desk client id at part)
written_sized past desk client id at part agrees lies = record {
  map = record {
    sized = length-with_bytes desk.map.memory (place_of (first_page desk client id) + at) part
        (omega (arith, lies.inside, room_in past desk client id agrees lies.key)) ∙ agrees.sized.map.sized;
    known = agrees.sized.map.known;
  };
  firsts = agrees.sized.firsts;
  counts = agrees.sized.counts;
  kinds = agrees.sized.kinds;
  fits = agrees.sized.fits;
}

-- a byte of a page that isn't the buffer's
pub before_page : (first pages page at : ℕ) → at < page_size → is_within first pages page ≡ false → place_of first ≤ place_of page + at
    → place_of page + at < place_of first + page_size * pages → ⊥
before_page first pages page at small is low high = is_outside first pages page is (omega arith) (omega arith)

written_byte : (past : Past) (desk : Desk) (client id at : ℕ) (part : List ℕ) (page i : ℕ) → Agrees past desk → Lies desk client id at part
    → i < page_size → is_within (first_page desk client id) (page_total desk client id) page ≡ false
    → slice_index (with_written desk client id at part).map.memory (place_of page + i) ≡ slice_index desk.map.memory (place_of page + i)
written_byte past desk client id at part page i agrees lies small is =
    written_apart desk.map.memory (place_of (first_page desk client id) + at) part (place_of page + i)
    (omega (arith, lies.inside, room_in past desk client id agrees lies.key))
    (λ low high. before_page (first_page desk client id) (page_total desk client id) page i small is (omega arith) (omega (arith, lies.inside)))

write_change : (past : Past) (desk : Desk) (client id at : ℕ) (part : List ℕ) → Agrees past desk → Lies desk client id at part
    → IsChange desk (with_written desk client id at part) client id (first_page desk client id) (page_total desk client id)
write_change past desk client id at part agrees lies = record {
  sized = written_sized past desk client id at part agrees lies;
  others = λ c i other apart. (refl, refl);
  before = λ page inside is. inr (own_page past desk client id page agrees lies.key inside is);
  behind = λ page inside is. inr (own_page past desk client id page agrees lies.key inside is);
  outside = λ page inside is. refl;
  here = λ page inside. agrees.owned client id page lies.key inside;
  bytes = λ page i inside small is. written_byte past desk client id at part page i agrees lies small is;
  cleared = λ page i inside small is free.
      let held = own_page past desk client id page agrees lies.key inside is in
      let clash : slot_of client id + 1 ≡ 0 = sym held ∙ free in
      absurd (omega (arith, clash));
}

abbrev pub written_buffer : Desk → ℕ → ℕ → ℕ → List ℕ → Held
written_buffer desk client id at part = record { kind = kind_of desk client id; bytes = with_bytes (bytes_of desk client id) at part }

write_held : (past : Past) (desk : Desk) (client id at : ℕ) (part : List ℕ) → Agrees past desk → Lies desk client id at part
    → held_in (with_written desk client id at part) client id ≡ Some (written_buffer desk client id at part)
write_held past desk client id at part agrees lies =
    held_live (with_written desk client id at part) client id lies.key.small lies.some
    ∙ ap (λ (bytes : List ℕ). Some (record { kind = kind_of desk client id; bytes = bytes }))
    (window_written desk.map.memory (place_of (first_page desk client id)) (page_size * page_total desk client id) at part
    (room_in past desk client id agrees lies.key) lies.inside)

pub write_agrees : (past : Past) (desk : Desk) (client id at : ℕ) (part : List ℕ) → Agrees past desk → Lies desk client id at part
    → Agrees (record {
      own = with_own past client (with_buffer (past.own client) id (Some (written_buffer desk client id at part)));
      places = past.places;
    }) (with_written desk client id at part)
write_agrees past desk client id at part agrees lies =
    change_agrees past desk (with_written desk client id at part) client id (first_page desk client id) (page_total desk client id)
    (Some (written_buffer desk client id at part)) past.places agrees lies.key (write_change past desk client id at part agrees lies)
    (write_held past desk client id at part agrees lies)
    (listed_same (with_written desk client id at part) desk past.places (λ c i other some. refl) agrees.listed)
    (λ page inside. agrees.used page inside)
