-- The list of places, when one slot changes.
use Rattle.std.proofs.Common.{eq-eqb, ◌≡◌, ℕ, ◌+◌, ◌<◌, ◌≤◌, ◌==◌, ◌&&◌, ◌||◌, not, Bool, true, false, if◌then◌else◌, List, [], ◌∷◌, arith, refl, sym, ◌∙◌, ap}
use Rattle.session_pages.specs.Runs.{page_count}
use Rattle.job_session.specs.{Places.Place, Places.covers, Places.is_used, Places.is_of, Places.without, Session.Past}
use Rattle.job_session.specs.Desk.{Desk, slot_of, page_total}
use Rattle.session_law.proofs.Runs.{both_true}
use Rattle.session_law.specs.Agree.{IsKey, place_in, owner_at, AreListed, IsListed, Agrees}
use Rattle.session_law.proofs.Changing.{same_slot}
use Rattle.std.proofs.lemmas.Bool.{eqb-true}

-- an entry of the list has pages
pub listed_some : (desk : Desk) (place : Place) → IsListed desk place → 1 ≤ page_total desk place.client place.id
listed_some desk place listed =
    let e : page_total desk place.client place.id ≡ place.pages = ap (λ (p : Place). p.pages) listed.is in
    rw e listed.some

-- slots with pages stay
listed_one : (left desk : Desk) (place : Place)
    → ((c i : ℕ) → IsKey c i → 1 ≤ page_total desk c i → place_in left c i ≡ place_in desk c i) → IsListed desk place → IsListed left place
listed_one left desk place same listed = record {
  key = listed.key;
  some = listed.some;
  is = same place.client place.id listed.key (listed_some desk place listed) ∙ listed.is;
}

pub listed_same : (left desk : Desk) (places : List Place)
    → ((c i : ℕ) → IsKey c i → 1 ≤ page_total desk c i → place_in left c i ≡ place_in desk c i) → AreListed desk places → AreListed left places
listed_same left desk [] same listed = tt
listed_same left desk (place ∷ places) same listed =
    (listed_one left desk place same listed.0, listed_same left desk places same listed.1)

-- one slot is taken out of the list
pub is_of_key : (client id : ℕ) (place : Place) → is_of client id place ≡ true → (place.client ≡ client) × (place.id ≡ id)
is_of_key client id place is =
    let both = both_true (place.client == client) (place.id == id) is in
    (eqb-true place.client client both.0, eqb-true place.id id both.1)

not_of_key : (client id : ℕ) (place : Place) → is_of client id place ≡ false → place.client ≡ client → place.id ≡ id → ⊥
not_of_key client id place is c i =
    let yes : is_of client id place ≡ true = rw (c, i, eq-eqb client client refl, eq-eqb id id refl) refl in
    let clash : true ≡ false = sym yes ∙ is in
    absurd (grind (arith, clash))

without_by : (left desk : Desk) (client id : ℕ) (place : Place) (places : List Place)
    → ((c i : ℕ) → IsKey c i → (c ≡ client → i ≡ id → ⊥) → place_in left c i ≡ place_in desk c i) → IsListed desk place
    → AreListed left (without client id places) → (b : Bool) → is_of client id place ≡ b
    → AreListed left (if b then without client id places else place ∷ without client id places)
without_by left desk client id place places same listed later true is = later
without_by left desk client id place places same listed later false is = (
  record {
    key = listed.key;
    some = listed.some;
    is = same place.client place.id listed.key (not_of_key client id place is) ∙ listed.is;
  },
  later,
)

pub listed_without : (left desk : Desk) (client id : ℕ) (places : List Place)
    → ((c i : ℕ) → IsKey c i → (c ≡ client → i ≡ id → ⊥) → place_in left c i ≡ place_in desk c i) → AreListed desk places
    → AreListed left (without client id places)
unfolding without
listed_without left desk client id [] same listed = tt
listed_without left desk client id (place ∷ places) same listed =
    without_by left desk client id place places same listed.0 (listed_without left desk client id places same listed.1) (is_of client id place) refl

-- which pages are used then
or_and_not : (b u : Bool) → (u && not b) ≡ ((b || u) && not b)
or_and_not true true = refl
or_and_not true false = refl
or_and_not false true = refl
or_and_not false false = refl

apart_and_not : (a b u : Bool) → (a ≡ true → b ≡ false) → (a || (u && not b)) ≡ ((a || u) && not b)
apart_and_not true b u apart = sym (ap not (apart refl))
apart_and_not false b u apart = refl

apart_cover : (past : Past) (desk : Desk) (client id page : ℕ) (place : Place) → Agrees past desk → IsKey client id → page < page_count → IsListed desk place
    → is_of client id place ≡ false → covers place page ≡ true → (b : Bool) → covers (place_in desk client id) page ≡ b → covers (place_in desk client id) page ≡ false
apart_cover past desk client id page place agrees key inside listed is cover false here = here
apart_cover past desk client id page place agrees key inside listed is cover true here =
    let ours : (owner_at desk page == slot_of client id + 1) ≡ true = sym (agrees.owned client id page key inside) ∙ here in
    let theirs : (owner_at desk page == slot_of place.client place.id + 1) ≡ true =
    sym (agrees.owned place.client place.id page listed.key inside) ∙ (ap (λ (p : Place). covers p page) listed.is ∙ cover) in
    let first = eqb-true (owner_at desk page) (slot_of client id + 1) ours in
    let second = eqb-true (owner_at desk page) (slot_of place.client place.id + 1) theirs in
    let both = same_slot client id place.client place.id key listed.key (omega (arith, first, second)) in
    absurd (not_of_key client id place is both.0 both.1)

used_by : (past : Past) (desk : Desk) (client id page : ℕ) (place : Place) (places : List Place) → Agrees past desk → IsKey client id → page < page_count
    → IsListed desk place → is_used (without client id places) page ≡ (is_used places page && not (covers (place_in desk client id) page))
    → (b : Bool) → is_of client id place ≡ b
    → is_used (if b then without client id places else place ∷ without client id places) page
    ≡ ((covers place page || is_used places page) && not (covers (place_in desk client id) page))
unfolding is_used
used_by past desk client id page place places agrees key inside listed later true is =
    let both = is_of_key client id place is in
    let e : place_in desk client id ≡ place = rw (sym both.0, sym both.1) listed.is in
    let cover : covers (place_in desk client id) page ≡ covers place page = ap (λ (p : Place). covers p page) e in
    later
    ∙ (or_and_not (covers (place_in desk client id) page) (is_used places page)
    ∙ ap (λ (b : Bool). (b || is_used places page) && not (covers (place_in desk client id) page)) cover)
used_by past desk client id page place places agrees key inside listed later false is =
    ap (λ (b : Bool). covers place page || b) later
    ∙ apart_and_not (covers place page) (covers (place_in desk client id) page) (is_used places page)
    (λ cover. apart_cover past desk client id page place agrees key inside listed is cover (covers (place_in desk client id) page) refl)

pub used_without : (past : Past) (desk : Desk) (client id page : ℕ) (places : List Place) → Agrees past desk → IsKey client id → page < page_count
    → AreListed desk places → is_used (without client id places) page ≡ (is_used places page && not (covers (place_in desk client id) page))
unfolding is_used without
used_without past desk client id page [] agrees key inside listed = refl
used_without past desk client id page (place ∷ places) agrees key inside listed =
    used_by past desk client id page place places agrees key inside listed.0
    (used_without past desk client id page places agrees key inside listed.1) (is_of client id place) refl
