-- Buffers lie in their places, and all other pages are zero.
use Rattle.std.proofs.Common.{◌≡◌, ℕ, zero, suc, ◌+◌, ◌*◌, ◌<◌, ◌≤◌, ◌==◌, ◌||◌, not, Bool, true, false, List, [], ◌∷◌, length, slice_index_or, Option, Some, None, arith, refl, sym, ◌∙◌, ap, subst}
use Rattle.std.proofs.lemmas.Bool.Decides.{nat_tests}
use Rattle.std.specs.List.{Contains}
use Rattle.field_words.specs.Sizes.{page_size}
use Rattle.phys_mem.specs.Window.{window_of}
use Rattle.session_pages.specs.{Runs.page_count, Map.place_of}
use Rattle.job_session.specs.Desk.{Desk, slot_of, first_page, page_total, kind_of, bytes_of, is_live, empty}
use Rattle.job_session.specs.{Own.Held, Places.Place, Places.covers, Places.is_used, Session.Past, Session.none_yet}
use Rattle.session_law.specs.Agree.{IsKey, client_count, place_in, owner_at, AreListed, IsListed, Agrees}
use Rattle.session_law.specs.{History.desk_left, History.past_left, Kept.LiesAt, Kept.HasPlace, Kept.IsLive, Kept.IsKept, Laws.MemoryIsKept}
use Rattle.session_law.proofs.Bytes.{within_yes, window_length}
use Rattle.session_law.proofs.{Changing.same_slot, Changing.slot_below, Changing.held_live, Listing.listed_some, Answering.histories_agree}
use Rattle.session_law.proofs.{Writing.own_page, Writing.room_in, Outcomes.live_key, Outcomes.live_held, Outcomes.dead_held}
use Rattle.std.proofs.lemmas.Bool.{eqb-true}

-- some place covers a used page
record Covering (desk : Desk) (places : List Place) (page : ℕ) : Type 0 where
  place : Place
  among : Contains places place
  listed : IsListed desk place
  cover : covers place page ≡ true

covering_later : (desk : Desk) (place : Place) (places : List Place) (page : ℕ) → Covering desk places page → Covering desk (place ∷ places) page
covering_later desk place places page found = record {
  place = found.place;
  among = (suc found.among.0, omega (arith, found.among.1), found.among.2);
  listed = found.listed;
  cover = found.cover;
}

covering_by : (desk : Desk) (place : Place) (places : List Place) (page : ℕ) → IsListed desk place → (is_used places page ≡ true → Covering desk places page)
    → (b : Bool) → covers place page ≡ b → (b || is_used places page) ≡ true → Covering desk (place ∷ places) page
covering_by desk place places page listed later true is used =
    record { place = place; among = (0, omega arith, refl); listed = listed; cover = is }
covering_by desk place places page listed later false is used = covering_later desk place places page (later used)

covering : (desk : Desk) (places : List Place) (page : ℕ) → AreListed desk places → is_used places page ≡ true → Covering desk places page
unfolding is_used
covering desk [] page listed used = let clash : false ≡ true = used in absurd (grind (arith, clash))
covering desk (place ∷ places) page listed used =
    covering_by desk place places page listed.0 (covering desk places page listed.1) (covers place page) refl used

listed_by : (desk : Desk) (places : List Place) (place : Place) → AreListed desk places → (k : ℕ) → k < length places → slice_index_or places k place ≡ place
    → IsListed desk place
listed_by desk [] place listed k below is = absurd (omega (arith, below))
listed_by desk (first ∷ places) place listed zero below is = subst (λ (p : Place). IsListed desk p) is listed.0
listed_by desk (first ∷ places) place listed (suc k) below is = listed_by desk places place listed.1 k (omega (arith, below)) is

-- a slot's bytes lie at its place
slot_lies : (past : Past) (desk : Desk) (client id : ℕ) → Agrees past desk → IsKey client id
    → LiesAt desk.map.memory (record { kind = kind_of desk client id; bytes = bytes_of desk client id }) (place_in desk client id)
slot_lies past desk client id agrees key =
    let long : length (bytes_of desk client id) ≡ page_size * page_total desk client id =
    window_length desk.map.memory (place_of (first_page desk client id)) (page_size * page_total desk client id) (room_in past desk client id agrees key) in
    record { sized = long; bytes = ap (λ (n : ℕ). window_of desk.map.memory (place_of (first_page desk client id)) n) long }

-- the first page of a live slot is used, and what covers it is the slot's own place
first_used : (past : Past) (desk : Desk) (client id : ℕ) → Agrees past desk → IsKey client id → 1 ≤ page_total desk client id
    → (first_page desk client id < page_count) × (owner_at desk (first_page desk client id) ≡ slot_of client id + 1) × (is_used past.places (first_page desk client id) ≡ true)
first_used past desk client id agrees key some =
    let fits = agrees.sized.fits (slot_of client id) (slot_below client id key) in
    let inside : first_page desk client id < page_count = omega (arith, fits, some) in
    let ours : owner_at desk (first_page desk client id) ≡ slot_of client id + 1 =
    own_page past desk client id (first_page desk client id) agrees key inside
    (within_yes (first_page desk client id) (page_total desk client id) (first_page desk client id) (omega arith) (omega (arith, some))) in
    let taken : (owner_at desk (first_page desk client id) == 0) ≡ false = grind (arith, nat_tests, ours) in
    (inside, ours, agrees.used (first_page desk client id) inside ∙ ap not taken)

own_cover : (past : Past) (desk : Desk) (client id page : ℕ) (place : Place) → Agrees past desk → IsKey client id → page < page_count
    → owner_at desk page ≡ slot_of client id + 1 → IsListed desk place → covers place page ≡ true → (place.client ≡ client) × (place.id ≡ id)
own_cover past desk client id page place agrees key inside ours listed cover =
    let theirs : (owner_at desk page == slot_of place.client place.id + 1) ≡ true =
    sym (agrees.owned place.client place.id page listed.key inside) ∙ (ap (λ (p : Place). covers p page) listed.is ∙ cover) in
    let second = eqb-true (owner_at desk page) (slot_of place.client place.id + 1) theirs in
    same_slot client id place.client place.id key listed.key (omega (arith, ours, second))

found_place : (past : Past) (desk : Desk) (client id : ℕ) (place : Place) → Agrees past desk → IsKey client id → Contains past.places place → IsListed desk place
    → place.client ≡ client → place.id ≡ id → HasPlace past desk client id (record { kind = kind_of desk client id; bytes = bytes_of desk client id })
found_place past desk client id place agrees key among listed client_is id_is =
    let client_back = sym client_is in
    let id_back = sym id_is in
    let e : place_in desk client id ≡ place = (λ p. place_in desk (client_back p) (id_back p)) ∙ listed.is in
    record {
      place = place;
      among = among;
      client_is = client_is;
      id_is = id_is;
      lies = subst (λ (p : Place). LiesAt desk.map.memory (record { kind = kind_of desk client id; bytes = bytes_of desk client id }) p) e
          (slot_lies past desk client id agrees key);
    }

slot_place : (past : Past) (desk : Desk) (client id : ℕ) → Agrees past desk → IsKey client id → 1 ≤ page_total desk client id
    → HasPlace past desk client id (record { kind = kind_of desk client id; bytes = bytes_of desk client id })
slot_place past desk client id agrees key some =
    placed_by past desk client id agrees key (first_used past desk client id agrees key some).0 (first_used past desk client id agrees key some).1
    (covering desk past.places (first_page desk client id) agrees.listed (first_used past desk client id agrees key some).2)
  where
    placed_by : (past : Past) (desk : Desk) (client id : ℕ) → Agrees past desk → IsKey client id → first_page desk client id < page_count
        → owner_at desk (first_page desk client id) ≡ slot_of client id + 1 → Covering desk past.places (first_page desk client id)
        → HasPlace past desk client id (record { kind = kind_of desk client id; bytes = bytes_of desk client id })
    placed_by past desk client id agrees key inside ours found =
        let both = own_cover past desk client id (first_page desk client id) found.place agrees key inside ours found.listed found.cover in
        found_place past desk client id found.place agrees key found.among found.listed both.0 both.1

some_inj : (a b : Held) → Some a ≡ Some b → a ≡ b
some_inj a b is = cc

buffer_by : (past : Past) (desk : Desk) (client id : ℕ) (held : Held) → Agrees past desk → client < client_count → past.own client id ≡ Some held
    → (b : Bool) → is_live desk client id ≡ b → HasPlace past desk client id held
buffer_by past desk client id held agrees known is true live =
    let key = live_key desk client id known live in
    let same : record { kind = kind_of desk client id; bytes = bytes_of desk client id } ≡ held =
    some_inj (record { kind = kind_of desk client id; bytes = bytes_of desk client id }) held (sym (live_held past desk client id agrees known live) ∙ is) in
    subst (λ (h : Held). HasPlace past desk client id h) same (slot_place past desk client id agrees key.0 key.1)
buffer_by past desk client id held agrees known is false dead =
    let clash : None ≡ Some held = sym (dead_held past desk client id agrees known dead) ∙ is in
    let out : ⊥ = cc in absurd out

place_live : (past : Past) (desk : Desk) (place : Place) → Agrees past desk → IsListed desk place → IsLive past desk place
place_live past desk place agrees listed =
    let some = listed_some desk place listed in
    record {
      held = record { kind = kind_of desk place.client place.id; bytes = bytes_of desk place.client place.id };
      live = ap (λ (own : ℕ → Option Held). own place.id) (agrees.held place.client listed.key.known)
          ∙ held_live desk place.client place.id listed.key.small some;
      lies = subst (λ (p : Place). LiesAt desk.map.memory (record { kind = kind_of desk place.client place.id; bytes = bytes_of desk place.client place.id }) p) listed.is
          (slot_lies past desk place.client place.id agrees listed.key);
    }

-- two places with a page in common are one
one_place : (past : Past) (desk : Desk) (one other : Place) (page : ℕ) → Agrees past desk → IsListed desk one → IsListed desk other → page < page_count
    → covers one page ≡ true → covers other page ≡ true → one ≡ other
one_place past desk one other page agrees listed also inside cover covered =
    let ours : (owner_at desk page == slot_of one.client one.id + 1) ≡ true =
    sym (agrees.owned one.client one.id page listed.key inside) ∙ (ap (λ (p : Place). covers p page) listed.is ∙ cover) in
    let both = own_cover past desk one.client one.id page other agrees listed.key inside (eqb-true (owner_at desk page) (slot_of one.client one.id + 1) ours) also covered in
    let client_back = sym both.0 in
    let id_back = sym both.1 in
    sym listed.is ∙ ((λ p. place_in desk (client_back p) (id_back p)) ∙ also.is)

free_owner : (owner : ℕ) (u : Bool) → u ≡ not (owner == 0) → u ≡ false → owner ≡ 0
free_owner owner u is free = let e : not (owner == 0) ≡ false = sym is ∙ free in grind (arith, nat_tests)

pub kept : (past : Past) (desk : Desk) → Agrees past desk → IsKept past desk
kept past desk agrees = record {
  buffers = λ client id held known is. buffer_by past desk client id held agrees known is (is_live desk client id) refl;
  places = λ place among. place_live past desk place agrees (listed_by desk past.places place agrees.listed among.0 among.1 among.2);
  apart = λ one other page among too inside cover covered. one_place past desk one other page agrees
      (listed_by desk past.places one agrees.listed among.0 among.1 among.2) (listed_by desk past.places other agrees.listed too.0 too.1 too.2) inside cover covered;
  zero = λ page at inside small free. agrees.zero page at inside small (free_owner (owner_at desk page) (is_used past.places page) (agrees.used page inside) free);
}

pub memory_is_kept : MemoryIsKept
memory_is_kept calls known = kept (past_left none_yet calls) (desk_left empty calls) (histories_agree calls known)
