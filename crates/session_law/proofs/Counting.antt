-- A client's buffers have no more pages than there are.
use Rattle.std.proofs.Common.{◌≡◌, ℕ, zero, suc, ◌+◌, ◌-◌, ◌<◌, ◌≤◌, ◌==◌, ◌&&◌, ◌||◌, min, Bool, true, false, if◌then◌else◌, arith, refl, sym, ◌∙◌, ap}
use Rattle.std.proofs.lemmas.Bool.Decides.{nat_tests}
use Rattle.overflow_slots.specs.Search.{count_where}
use Rattle.session_pages.specs.Runs.{page_count}
use Rattle.job_session.specs.{Own.most_buffers, Places.covers, Session.Past, Desk.Desk, Desk.slot_of, Desk.first_page, Desk.page_total}
use Rattle.session_law.specs.Agree.{IsKey, client_count, place_in, owner_at, Agrees}
use Rattle.session_law.proofs.Bytes.{is_within}
use Rattle.session_law.proofs.Changing.{slot_below}
use Rattle.std.proofs.lemmas.Bool.{eqb-true}

-- how many pages the buffers of n ids from one on have, and whether one of them has the page
unfoldable pub pages_sum : Desk → ℕ → ℕ → ℕ → ℕ
pages_sum desk client id zero = 0
pages_sum desk client id (suc n) = page_total desk client id + pages_sum desk client (id + 1) n

unfoldable pub has_page : Desk → ℕ → ℕ → ℕ → ℕ → Bool
has_page desk client id zero page = false
has_page desk client id (suc n) page = covers (place_in desk client id) page || has_page desk client (id + 1) n page

one_more : (b : Bool) (n : ℕ) → n + (if b then 1 else 0) ≤ n + 1
one_more true n = omega arith
one_more false n = omega arith

count_most : (p : ℕ → Bool) (n : ℕ) → count_where p n ≤ n
unfolding count_where
count_most p zero = omega arith
count_most p (suc n) =
    let before = count_most p n in
    let here = one_more (p n) (count_where p n) in
    omega (arith, before, here)

or_step : (b c : Bool) (x y : ℕ) → (b && c) ≡ false → x + y + (if b || c then 1 else 0) ≡ (x + (if b then 1 else 0)) + (y + (if c then 1 else 0))
or_step true true x y apart = let clash : true ≡ false = apart in absurd (grind (arith, clash))
or_step true false x y apart = omega arith
or_step false true x y apart = omega arith
or_step false false x y apart = omega arith

count_or : (p q : ℕ → Bool) (n : ℕ) → ((k : ℕ) → k < n → (p k && q k) ≡ false) → count_where (λ k. p k || q k) n ≡ count_where p n + count_where q n
unfolding count_where
count_or p q zero apart = refl
count_or p q (suc n) apart =
    ap (λ (before : ℕ). before + (if p n || q n then 1 else 0)) (count_or p q n (λ k below. apart k (omega arith)))
    ∙ or_step (p n) (q n) (count_where p n) (count_where q n) (apart n (omega arith))

run_step : (first pages n : ℕ) (b : Bool) → is_within first pages n ≡ b → min pages (n - first) + (if b then 1 else 0) ≡ min pages (suc n - first)
run_step first pages n true is = grind (arith, nat_tests)
run_step first pages n false is = grind (arith, nat_tests)

count_run : (first pages n : ℕ) → count_where (is_within first pages) n ≡ min pages (n - first)
unfolding count_where
count_run first pages zero = omega arith
count_run first pages (suc n) =
    ap (λ (before : ℕ). before + (if is_within first pages n then 1 else 0)) (count_run first pages n)
    ∙ run_step first pages n (is_within first pages n) refl

-- two slots of a client have no page in common
pub slots_clash : (past : Past) (desk : Desk) (client id other page : ℕ) → Agrees past desk → IsKey client id → IsKey client other → id < other → page < page_count
    → covers (place_in desk client id) page ≡ true → covers (place_in desk client other) page ≡ true → ⊥
slots_clash past desk client id other page agrees key too apart inside one two =
    let ours : (owner_at desk page == slot_of client id + 1) ≡ true = sym (agrees.owned client id page key inside) ∙ one in
    let theirs : (owner_at desk page == slot_of client other + 1) ≡ true = sym (agrees.owned client other page too inside) ∙ two in
    let first = eqb-true (owner_at desk page) (slot_of client id + 1) ours in
    let second = eqb-true (owner_at desk page) (slot_of client other + 1) theirs in
    omega (arith, first, second, apart)

later_by : (past : Past) (desk : Desk) (client id other n page : ℕ) → Agrees past desk → IsKey client id → IsKey client other → id < other → page < page_count
    → covers (place_in desk client id) page ≡ true → has_page desk client (other + 1) n page ≡ false → (b : Bool) → covers (place_in desk client other) page ≡ b
    → (b || has_page desk client (other + 1) n page) ≡ false
later_by past desk client id other n page agrees key too apart inside one later true is = absurd (slots_clash past desk client id other page agrees key too apart inside one is)
later_by past desk client id other n page agrees key too apart inside one later false is = later

none_later : (past : Past) (desk : Desk) (client id other n page : ℕ) → Agrees past desk → IsKey client id → id < other → other + n ≤ most_buffers → page < page_count
    → covers (place_in desk client id) page ≡ true → has_page desk client other n page ≡ false
unfolding has_page
none_later past desk client id other zero page agrees key apart few inside one = refl
none_later past desk client id other (suc n) page agrees key apart few inside one =
    later_by past desk client id other n page agrees key (record { known = key.known; small = omega (arith, few) }) apart inside one
    (none_later past desk client id (other + 1) n page agrees key (omega (arith, apart)) (omega (arith, few)) inside one) (covers (place_in desk client other) page) refl

apart_by : (past : Past) (desk : Desk) (client id n page : ℕ) → Agrees past desk → IsKey client id → id + 1 + n ≤ most_buffers → page < page_count
    → (b : Bool) → covers (place_in desk client id) page ≡ b → (b && has_page desk client (id + 1) n page) ≡ false
apart_by past desk client id n page agrees key few inside true is = none_later past desk client id (id + 1) n page agrees key (omega arith) few inside is
apart_by past desk client id n page agrees key few inside false is = refl

count_none : (n : ℕ) → count_where (λ k. false) n ≡ 0
unfolding count_where
count_none zero = refl
count_none (suc n) = ap (λ (before : ℕ). before + 0) (count_none n)

-- so their pages are counted one after the other
sum_counts : (past : Past) (desk : Desk) (client id n : ℕ) → Agrees past desk → client < client_count → id + n ≤ most_buffers
    → count_where (has_page desk client id n) page_count ≡ pages_sum desk client id n
unfolding has_page pages_sum
sum_counts past desk client id zero agrees known few = count_none page_count
sum_counts past desk client id (suc n) agrees known few =
    let key : IsKey client id = record { known = known; small = omega (arith, few) } in
    let fits = agrees.sized.fits (slot_of client id) (slot_below client id key) in
    let here : min (page_total desk client id) (page_count - first_page desk client id) ≡ page_total desk client id = omega (arith, fits) in
    let later = sum_counts past desk client (id + 1) n agrees known (omega (arith, few)) in
    count_or (covers (place_in desk client id)) (has_page desk client (id + 1) n) page_count
    (λ page inside. apart_by past desk client id n page agrees key (omega (arith, few)) inside (covers (place_in desk client id) page) refl)
    ∙ (ap (λ (one : ℕ). one + count_where (has_page desk client (id + 1) n) page_count)
    (count_run (first_page desk client id) (page_total desk client id) page_count ∙ here)
    ∙ ap (λ (rest : ℕ). page_total desk client id + rest) later)

pub few_pages : (past : Past) (desk : Desk) (client : ℕ) → Agrees past desk → client < client_count → pages_sum desk client 0 most_buffers ≤ page_count
few_pages past desk client agrees known =
    let same = sum_counts past desk client 0 most_buffers agrees known (omega arith) in
    let most = count_most (has_page desk client 0 most_buffers) page_count in
    omega (arith, same, most)
