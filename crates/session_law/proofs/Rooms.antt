-- Slots and page map give the least id and the run of pages that the buffers and the list of places give.
use Rattle.std.proofs.Common.{◌≡◌, ◌<◌, ◌≤◌, ◌==◌, ◌&&◌, ◌+◌, not, nat_le, nat_lt, ℕ, zero, suc, Bool, true, false, Option, Some, refl, ◌∙◌, ap, arith}
use Rattle.std.proofs.lemmas.Bool.Decides.{nat_tests}
use Rattle.overflow_slots.specs.Search.{first_where}
use Rattle.overflow_slots.proofs.Searches.{first_found, first_same}
use Rattle.session_pages.specs.{Runs.page_count, Runs.all_where, Runs.is_run, Runs.first_run, Map.free_run, Map.is_free}
use Rattle.job_session.specs.{Own.Held, Own.most_buffers, Own.free_if, Own.is_free_id, Places.least_place, Places.is_used, Session.Past}
use Rattle.job_session.specs.Desk.{Desk, page_total, kind_of, bytes_of, held_in, is_vacant, least_id}
use Rattle.session_law.specs.Agree.{IsKey, client_count, owner_at, Agrees}
use Rattle.session_law.proofs.{Bytes.is_inside, Runs.run_found}
use Rattle.session_law.proofs.{Changing.held_if, Changing.held_is, Making.HasRoom}
use Rattle.std.proofs.lemmas.Bool.{eqb-true}

free_by : (b v : Bool) (held : Held) → b ≡ true → free_if (held_if (b && not v) held) ≡ v
free_by true true held is = refl
free_by true false held is = refl
free_by false v held is = let clash : false ≡ true = is in absurd (grind (arith, clash))

vacant : (desk : Desk) (client id : ℕ) → id < most_buffers → free_if (held_in desk client id) ≡ is_vacant desk.counts client id
vacant desk client id small =
    let e : nat_lt id most_buffers ≡ true = grind (arith, nat_tests) in
    ap free_if (held_is desk client id)
    ∙ free_by (nat_lt id most_buffers) (page_total desk client id == 0) (record { kind = kind_of desk client id; bytes = bytes_of desk client id }) e

pub same_id : (past : Past) (desk : Desk) (client : ℕ) → Agrees past desk → client < client_count
    → first_where (is_free_id (past.own client)) 0 most_buffers ≡ least_id desk.counts client
same_id past desk client agrees known =
    ap (λ (own : ℕ → Option Held). first_where (is_free_id own) 0 most_buffers) (agrees.held client known)
    ∙ first_same (is_free_id (held_in desk client)) (is_vacant desk.counts client) 0 most_buffers
    (λ id below. vacant desk client id (omega (arith, below)))

-- an id that was found is small, and its slot has no pages
pub id_found : (desk : Desk) (client id : ℕ) → least_id desk.counts client ≡ Some id → (id < most_buffers) × (page_total desk client id ≡ 0)
id_found desk client id is =
    let found = first_found (is_vacant desk.counts client) 0 most_buffers id is in
    (omega (arith, found.0), eqb-true (page_total desk client id) 0 found.1)

all_same : (p q : ℕ → Bool) (from n : ℕ) → ((k : ℕ) → k < from + n → p k ≡ q k) → all_where p from n ≡ all_where q from n
unfolding all_where
all_same p q from zero same = refl
all_same p q from (suc n) same =
    rw (same from (omega arith)) (ap (λ later. q from && later) (all_same p q (from + 1) n (λ k h. same k (omega arith))))

run_by : (p q : ℕ → Bool) (n first : ℕ) → ((k : ℕ) → k < page_count → p k ≡ q k) → (b : Bool) → nat_le (first + n) page_count ≡ b
    → (b && all_where p first n) ≡ (b && all_where q first n)
run_by p q n first same true is =
    let inside : first + n ≤ page_count = grind (arith, nat_tests) in
    all_same p q first n (λ k below. same k (omega arith))
run_by p q n first same false is = refl

run_same : (p q : ℕ → Bool) (n : ℕ) → ((k : ℕ) → k < page_count → p k ≡ q k) → first_run p n ≡ first_run q n
unfolding first_run is_run
run_same p q n same =
    first_same (is_run p n) (is_run q n) 0 page_count (λ first below. run_by p q n first same (nat_le (first + n) page_count) refl)

not_not : (b : Bool) → not (not b) ≡ b
not_not true = refl
not_not false = refl

pub same_room : (past : Past) (desk : Desk) (pages : ℕ) → Agrees past desk → least_place past.places pages ≡ free_run desk.map pages
unfolding least_place
same_room past desk pages agrees =
    run_same (λ page. not (is_used past.places page)) (is_free desk.map.owners) pages
    (λ page inside. ap not (agrees.used page inside) ∙ not_not (owner_at desk page == 0))

-- a run that was found is inside, and free
pub room_found : (desk : Desk) (client id pages first : ℕ) → IsKey client id → page_total desk client id ≡ 0 → 1 ≤ pages → free_run desk.map pages ≡ Some first
    → HasRoom desk client id pages first
room_found desk client id pages first key none some is =
    let found = run_found desk.map pages first is in
    record {
      key = key;
      vacant = none;
      some = some;
      fits = found.0;
      free = λ page inside cover. let in_run = is_inside first pages page cover in found.1 page in_run.0 in_run.1;
    }
