-- A client's part of a processor after what a step does to it: the same by the part alone where the step is for a job of the client, and
-- the part as it was where it is for another's.
use Rattle.std.proofs.Common.{◌≡◌, ℕ, Bool, true, false, if◌then◌else◌, List, ◌∷◌, Option, Some, None, refl, ◌∙◌, ap, append-nil, arith, rules}
use Rattle.std.proofs.{lemmas.Bool.false≢true, lemmas.List.Elements.filter-append}
use Rattle.std.specs.Prelude.{IfSome, drop, ◌==◌, option_map, unwrap_or, is_none}
use Rattle.qpu_machine.specs.Qpu.{active_of, woken_slot, queue_with, after_turn, oldest, queue_of, with_result, after_drop, result_given, after_service, in_first, in_other}
use Rattle.qpu_machine.specs.{declared.state.Asked.Asked, declared.state.Qpu.Qpu, declared.state.Request.Request}
use Rattle.qpu_machine.specs.declared.state.Thread.{Thread}
use Rattle.apart_law.specs.Part.{Part, thread_seen, requests_of, part_of}
use Rattle.apart_law.specs.Tied.{RestsFresh, IsTied}
use Rattle.promises.specs.Trail.{Client}

pub some_same : {X : Type 0} (x y : X) → Some x ≡ Some y → x ≡ y
some_same x y e = ap (λ o. unwrap_or o x) e

pub some_none : {X : Type 0} (x : X) → Some x ≡ None → ⊥
some_none x e = false≢true (ap (λ o. is_none o) e)

pub sees : (mine : Client) (t : Thread) → mine t.job ≡ true → thread_seen mine (Some t) ≡ Some t
sees mine t own = ap (λ b. if b then Some t else None) own

pub sees_none : (mine : Client) (t : Thread) → mine t.job ≡ false → thread_seen mine (Some t) ≡ None
sees_none mine t others = ap (λ b. if b then Some t else None) others

-- what changes a thread but not its job
seen_by : (f : Thread → Thread) (t : Thread) (own : Bool) → (if own then Some (f t) else None) ≡ option_map f (if own then Some t else None)
seen_by f t own = search (rules, arith)

seen_map : (mine : Client) (f : Thread → Thread) → ((t : Thread) → (f t).job ≡ t.job) → (slot : Option Thread) → thread_seen mine (option_map f slot) ≡ option_map f (thread_seen mine slot)
seen_map mine f same slot = search (rules, arith, seen_by)

seen_woken : (mine : Client) (over : Bool) (slot : Option Thread) → thread_seen mine (woken_slot over slot) ≡ woken_slot over (thread_seen mine slot)
seen_woken mine over slot = search (rules, arith, seen_map)

-- a thread that is fresh is the same after it is woken
pub woken_same : (over : Bool) (slot : Option Thread) → IfSome slot (λ t. t.fresh ≡ true) → woken_slot over slot ≡ slot
woken_same over slot fresh = search (rules, arith)

-- requests
pub own_request : (mine : Client) (r : Request) (requests : List Request) → mine r.job ≡ true → requests_of mine (r ∷ requests) ≡ r ∷ requests_of mine requests
own_request mine r requests own = ap (λ b. if b then r ∷ requests_of mine requests else requests_of mine requests) own

others_request : (mine : Client) (r : Request) (requests : List Request) → mine r.job ≡ false → requests_of mine (r ∷ requests) ≡ requests_of mine requests
others_request mine r requests others = ap (λ b. if b then r ∷ requests_of mine requests else requests_of mine requests) others

-- a test that chooses is left in place
pub chosen_of : {X Y : Type 0} (f : X → Y) (b : Bool) (x y : X) → f (if b then x else y) ≡ (if b then f x else f y)
chosen_of f b x y = search (rules, arith)

chosen_same : {X : Type 0} (b : Bool) (x y z : X) → x ≡ z → y ≡ z → (if b then x else y) ≡ z
chosen_same b x y z first second = search (rules, arith)

asked_own : (mine : Client) (tmu : ℕ) (second : Bool) (job : ℕ) (asked : Option Asked) (requests : List Request) → mine job ≡ true
    → requests_of mine (queue_with tmu second job asked requests) ≡ queue_with tmu second job asked (requests_of mine requests)
asked_own mine tmu second job asked requests own = search (rules, arith, filter-append, own_request, chosen_of)

asked_other : (mine : Client) (tmu : ℕ) (second : Bool) (job : ℕ) (asked : Option Asked) (requests : List Request) → mine job ≡ false
    → requests_of mine (queue_with tmu second job asked requests) ≡ requests_of mine requests
asked_other mine tmu second job asked requests others = search (rules, arith, filter-append, others_request, append-nil, chosen_of, chosen_same)

-- the part after a step of the active thread
abbrev pub part_settled : Bool → ℕ → Option Thread → Bool → Option Asked → Part → Part
part_settled second job own over asked p = record {
  first = if second then woken_slot over p.first else own;
  other = if second then own else woken_slot over p.other;
  queue0 = queue_with 0 second job asked p.queue0;
  queue1 = queue_with 1 second job asked p.queue1;
}

pub settled_part : (mine : Client) (q : Qpu) (job : ℕ) (own : Option Thread) (over : Bool) (asked : Option Asked) → mine job ≡ true
    → part_of mine (after_turn q job own over asked) ≡ part_settled q.second job (thread_seen mine own) over asked (part_of mine q)
unfolding after_turn
settled_part mine q job own over asked is = search (rules, arith, chosen_of, seen_woken, asked_own)

other_settled_by : (mine : Client) (q : Qpu) (second : Bool) (job : ℕ) (own : Option Thread) (over : Bool) (asked : Option Asked) → mine job ≡ false → thread_seen mine own ≡ None → RestsFresh (record q { second = second })
    → thread_seen mine (active_of (record q { second = second })) ≡ None → part_of mine (after_turn (record q { second = second }) job own over asked) ≡ part_of mine q
unfolding after_turn
other_settled_by mine q second job own over asked others none fresh active = search (rules, arith, woken_same, asked_other)

pub other_settled : (mine : Client) (q : Qpu) (job : ℕ) (own : Option Thread) (over : Bool) (asked : Option Asked) → mine job ≡ false → thread_seen mine own ≡ None → RestsFresh q → thread_seen mine (active_of q) ≡ None
    → part_of mine (after_turn q job own over asked) ≡ part_of mine q
other_settled mine q job own over asked others none fresh active = other_settled_by mine q q.second job own over asked others none fresh active

-- the oldest request goes
own_drops : (mine : Client) (requests : List Request) (r : Request) → oldest requests ≡ Some r → mine r.job ≡ true → requests_of mine (drop 1 requests) ≡ drop 1 (requests_of mine requests)
own_drops mine requests r is own = search (rules, arith, some_same, own_request)

other_drops : (mine : Client) (requests : List Request) (r : Request) → oldest requests ≡ Some r → mine r.job ≡ false → requests_of mine (drop 1 requests) ≡ requests_of mine requests
other_drops mine requests r is others = search (rules, arith, some_same, others_request)

abbrev pub part_dropped : ℕ → Part → Part
part_dropped tmu p = record {
  first = p.first;
  other = p.other;
  queue0 = if tmu == 0 then drop 1 p.queue0 else p.queue0;
  queue1 = if tmu == 0 then p.queue1 else drop 1 p.queue1;
}

own_dropped_by : (mine : Client) (zero : Bool) (a b : List Request) (r : Request) → oldest (if zero then a else b) ≡ Some r → mine r.job ≡ true
    → (requests_of mine (if zero then drop 1 a else a) ≡ (if zero then drop 1 (requests_of mine a) else requests_of mine a))
    × (requests_of mine (if zero then b else drop 1 b) ≡ (if zero then requests_of mine b else drop 1 (requests_of mine b)))
own_dropped_by mine zero a b r is own = search (rules, arith, own_drops)

pub dropped_part : (mine : Client) (q : Qpu) (tmu : ℕ) (r : Request) → oldest (queue_of q tmu) ≡ Some r → mine r.job ≡ true → part_of mine (after_drop q tmu) ≡ part_dropped tmu (part_of mine q)
unfolding after_drop
dropped_part mine q tmu r is own = search (rules, arith, own_dropped_by)

other_dropped_by : (mine : Client) (zero : Bool) (a b : List Request) (r : Request) → oldest (if zero then a else b) ≡ Some r → mine r.job ≡ false
    → (requests_of mine (if zero then drop 1 a else a) ≡ requests_of mine a) × (requests_of mine (if zero then b else drop 1 b) ≡ requests_of mine b)
other_dropped_by mine zero a b r is others = search (rules, arith, other_drops)

pub other_dropped : (mine : Client) (q : Qpu) (tmu : ℕ) (r : Request) → oldest (queue_of q tmu) ≡ Some r → mine r.job ≡ false → part_of mine (after_drop q tmu) ≡ part_of mine q
unfolding after_drop
other_dropped mine q tmu r is others = search (rules, arith, other_dropped_by)

-- a thread gets a result
abbrev pub part_given : ℕ → Bool → Option (List ℕ) → Part → Part
part_given tmu second row p = record {
  first = if second then p.first else option_map (with_result tmu row) p.first;
  other = if second then option_map (with_result tmu row) p.other else p.other;
  queue0 = p.queue0;
  queue1 = p.queue1;
}

seen_given : (mine : Client) (tmu : ℕ) (row : Option (List ℕ)) (slot : Option Thread) → thread_seen mine (option_map (with_result tmu row) slot) ≡ option_map (with_result tmu row) (thread_seen mine slot)
seen_given mine tmu row slot = seen_map mine (with_result tmu row) (λ t. refl) slot

given_by : (mine : Client) (q : Qpu) (tmu : ℕ) (second : Bool) (row : Option (List ℕ)) → part_of mine (result_given q tmu second row) ≡ part_given tmu second row (part_of mine q)
unfolding result_given
given_by mine q tmu second row = search (rules, arith, seen_given)

none_given : (tmu : ℕ) (second : Bool) (row : Option (List ℕ)) (p : Part) → (if second then p.other else p.first) ≡ None → part_given tmu second row p ≡ p
none_given tmu second row p none = search (rules, arith)

-- the part after its oldest request was served
abbrev pub part_served : ℕ → Request → Option (List ℕ) → Part → Part
part_served tmu request row p = part_given tmu request.second row (part_dropped tmu p)

pub served_part : (mine : Client) (q : Qpu) (tmu : ℕ) (r : Request) (row : Option (List ℕ)) → oldest (queue_of q tmu) ≡ Some r → mine r.job ≡ true → part_of mine (after_service q tmu r row) ≡ part_served tmu r row (part_of mine q)
served_part mine q tmu r row is own = given_by mine (after_drop q tmu) tmu r.second row ∙ ap (part_given tmu r.second row) (dropped_part mine q tmu r is own)

-- a request of another client's job is tied to a thread of that job, or to none
tied_none : (mine : Client) (slot : Option Thread) (job : ℕ) → IfSome slot (λ t. t.job ≡ job) → mine job ≡ false → thread_seen mine slot ≡ None
tied_none mine slot job tied others = search (rules, arith, sees_none)

pub other_served : (mine : Client) (q : Qpu) (tmu : ℕ) (r : Request) (row : Option (List ℕ)) → oldest (queue_of q tmu) ≡ Some r → mine r.job ≡ false → IsTied q r → part_of mine (after_service q tmu r row) ≡ part_of mine q
other_served mine q tmu r row is others tied = search (rules, arith, chosen_of, tied_none, given_by, other_dropped, none_given)

-- a program starts
abbrev pub part_in : Bool → Option Thread → Part → Part
part_in second slot p = record { first = if second then p.first else slot; other = if second then slot else p.other; queue0 = p.queue0; queue1 = p.queue1 }

pub in_first_part : (mine : Client) (q : Qpu) (t : Thread) → part_of mine (in_first q t) ≡ part_in false (thread_seen mine (Some t)) (part_of mine q)
unfolding in_first
in_first_part mine q t = refl

pub in_other_part : (mine : Client) (q : Qpu) (t : Thread) → part_of mine (in_other q t) ≡ part_in true (thread_seen mine (Some t)) (part_of mine q)
unfolding in_other
in_other_part mine q t = refl
