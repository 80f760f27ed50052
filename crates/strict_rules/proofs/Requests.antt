-- One more instruction: the requests that are outstanding, and where the last switch acted.
use Rattle.std.proofs.Common.{◌≡◌, ◌≤◌, ◌<◌, ◌+◌, ◌-◌, ℕ, zero, suc, Bool, true, false, ◌&&◌, ◌||◌, List, [], ◌∷◌, ◌++◌, length, drop, if◌then◌else◌, Option, Some, None, refl, sym, ap, inl, inr, arith, ◌∙◌, nat_lt, append-nil, length-append, length-drop, drop-drop}
use Rattle.std.proofs.Math.ListN.{drop_of_length-le}
use Rattle.std.proofs.lemmas.Bool.{cases_lt, lt-ltb, le-ltb}
use Rattle.std.specs.List.{list_any}
use Rattle.qpu_isa.specs.Terms.{is_switch, writes_s, loads}
use Rattle.shader_flow.specs.{Bounded.last_below, Flow.word, Flow.checked_of, Pending.pending_of}
use Rattle.shader_flow.proofs.Bounded.{last_below-suc, last_below_found}
use Rattle.strict_rules.specs.{declared.state.Request.Request, Rules.has_older, Queue.request_at, Queue.queue_after, Queue.queue_of, Queue.acts_at, Queue.last_act, Walk.load_count}

queue_next : (code : List ℕ) (tmu i : ℕ)
    → queue_of code tmu (i + 1)
    ≡ (if nat_lt i (checked_of code) then queue_after (word code i) tmu (request_at code tmu i) (queue_of code tmu i) else queue_of code tmu i)
unfolding queue_of
queue_next code tmu i = let e : i + 1 ≡ suc i = omega arith in ap (queue_of code tmu) e

pub queue_inside : (code : List ℕ) (tmu i : ℕ) → i < checked_of code
    → queue_of code tmu (i + 1) ≡ queue_after (word code i) tmu (request_at code tmu i) (queue_of code tmu i)
queue_inside code tmu i inside =
    queue_next code tmu i
    ∙ ap (λ b. if b then queue_after (word code i) tmu (request_at code tmu i) (queue_of code tmu i) else queue_of code tmu i)
    (lt-ltb i (checked_of code) inside)

pub queue_past : (code : List ℕ) (tmu i : ℕ) → checked_of code ≤ i → queue_of code tmu (i + 1) ≡ queue_of code tmu i
queue_past code tmu i past =
    queue_next code tmu i
    ∙ ap (λ b. if b then queue_after (word code i) tmu (request_at code tmu i) (queue_of code tmu i) else queue_of code tmu i)
    (le-ltb i (checked_of code) past)

-- how many there are
left_length : (taken : Bool) (queue : List Request) → length (if taken then drop 1 queue else queue) ≡ (if taken then length queue - 1 else length queue)
left_length true queue = length-drop 1 queue
left_length false queue = refl

one_length : (sends : Bool) (r : Request) → length (if sends then r ∷ [] else []) ≡ (if sends then 1 else 0)
one_length true r = refl
one_length false r = refl

sent_length : (sends : Bool) (r : Request) (queue : List Request) → length (queue ++ (if sends then r ∷ [] else [])) ≡ length queue + (if sends then 1 else 0)
sent_length sends r queue = length-append queue (if sends then r ∷ [] else []) ∙ ap (λ n. length queue + n) (one_length sends r)

pub after_length : (word tmu : ℕ) (r : Request) (queue : List Request)
    → length (queue_after word tmu r queue) ≡ (if loads word tmu then length queue - 1 else length queue) + (if writes_s word tmu then 1 else 0)
unfolding queue_after
after_length word tmu r queue =
    sent_length (writes_s word tmu) r (if loads word tmu then drop 1 queue else queue)
    ∙ ap (λ n. n + (if writes_s word tmu then 1 else 0)) (left_length (loads word tmu) queue)

pub count_inside : (code : List ℕ) (tmu i : ℕ) → i < checked_of code
    → length (queue_of code tmu (i + 1))
    ≡ (if loads (word code i) tmu then length (queue_of code tmu i) - 1 else length (queue_of code tmu i)) + (if writes_s (word code i) tmu then 1 else 0)
count_inside code tmu i inside =
    ap length (queue_inside code tmu i inside) ∙ after_length (word code i) tmu (request_at code tmu i) (queue_of code tmu i)

-- those that were sent before an instruction: one that is sent later isn't among them
drop_empty : {X : Type 0} (n : ℕ) → ◌≡◌ {A = List X} (drop n []) []
drop_empty zero = refl
drop_empty (suc n) = refl

any_one_more : (p : Request → Bool) (n : ℕ) (queue : List Request) (r : Request) → p r ≡ false
    → list_any p (drop n (queue ++ r ∷ [])) ≡ list_any p (drop n queue)
any_one_more p zero [] r not = ap (λ b. b || false) not
any_one_more p zero (q ∷ queue) r not = ap (λ b. p q || b) (any_one_more p zero queue r not)
any_one_more p (suc n) [] r not = ap (list_any p) (drop_empty n)
any_one_more p (suc n) (q ∷ queue) r not = any_one_more p n queue r not

any_sent : (p : Request → Bool) (n : ℕ) (sends : Bool) (r : Request) (queue : List Request) → p r ≡ false
    → list_any p (drop n (queue ++ (if sends then r ∷ [] else []))) ≡ list_any p (drop n queue)
any_sent p n true r queue not = any_one_more p n queue r not
any_sent p n false r queue not = ap (λ q. list_any p (drop n q)) (append-nil queue)

any_left : (p : Request → Bool) (n : ℕ) (taken : Bool) (queue : List Request)
    → list_any p (drop n (if taken then drop 1 queue else queue)) ≡ list_any p (drop ((if taken then 1 else 0) + n) queue)
any_left p n true queue = ap (list_any p) (drop-drop n 1 queue)
any_left p n false queue = let e : n ≡ 0 + n = omega arith in ap (λ m. list_any p (drop m queue)) e

any_after : (p : Request → Bool) (n word tmu : ℕ) (r : Request) (queue : List Request) → p r ≡ false
    → list_any p (drop n (queue_after word tmu r queue)) ≡ list_any p (drop ((if loads word tmu then 1 else 0) + n) queue)
unfolding queue_after
any_after p n word tmu r queue not =
    any_sent p n (writes_s word tmu) r (if loads word tmu then drop 1 queue else queue) not ∙ any_left p n (loads word tmu) queue

older_now : (code : List ℕ) (tmu i a : ℕ) → a ≤ i → nat_lt (request_at code tmu i).sent a ≡ false
unfolding request_at
older_now code tmu i a after = le-ltb i a after

count_here : (code : List ℕ) (tmu i : ℕ) → i < checked_of code → load_count code tmu i ≡ (if loads (word code i) tmu then 1 else 0)
unfolding load_count
count_here code tmu i inside = ap (λ b. if b && loads (word code i) tmu then 1 else 0) (lt-ltb i (checked_of code) inside)

count_past : (code : List ℕ) (tmu i : ℕ) → checked_of code ≤ i → load_count code tmu i ≡ 0
unfolding load_count
count_past code tmu i past = ap (λ b. if b && loads (word code i) tmu then 1 else 0) (le-ltb i (checked_of code) past)

older_next : (code : List ℕ) (tmu i n a : ℕ) → a ≤ i
    → list_any (λ r. nat_lt r.sent a) (drop n (queue_of code tmu (i + 1)))
    ≡ list_any (λ r. nat_lt r.sent a) (drop (load_count code tmu i + n) (queue_of code tmu i))
older_next code tmu i n a after =
    elim (cases_lt i (checked_of code)) [
      | inl inside ↦
          ap (λ q. list_any (λ r. nat_lt r.sent a) (drop n q)) (queue_inside code tmu i inside)
          ∙ any_after (λ r. nat_lt r.sent a) n (word code i) tmu (request_at code tmu i) (queue_of code tmu i) (older_now code tmu i a after)
          ∙ ap (λ m. list_any (λ r. nat_lt r.sent a) (drop (m + n) (queue_of code tmu i))) (sym (count_here code tmu i inside))
      | inr past ↦
          (let e : n ≡ 0 + n = omega arith in
          ap (λ q. list_any (λ r. nat_lt r.sent a) (drop n q)) (queue_past code tmu i past)
          ∙ ap (λ m. list_any (λ r. nat_lt r.sent a) (drop m (queue_of code tmu i))) e
          ∙ ap (λ m. list_any (λ r. nat_lt r.sent a) (drop (m + n) (queue_of code tmu i))) (sym (count_past code tmu i past)))
    ]

-- three instructions on
pub older_ahead : (code : List ℕ) (tmu i a : ℕ) → a ≤ i
    → list_any (λ r. nat_lt r.sent a) (queue_of code tmu (i + 3))
    ≡ list_any (λ r. nat_lt r.sent a) (drop (load_count code tmu i + load_count code tmu (i + 1) + load_count code tmu (i + 2)) (queue_of code tmu i))
older_ahead code tmu i a after =
    let three : i + 3 ≡ i + 2 + 1 = omega arith in
    let two : i + 2 ≡ i + 1 + 1 = omega arith in
    let sums : load_count code tmu i + (load_count code tmu (i + 1) + (load_count code tmu (i + 2) + 0))
    ≡ load_count code tmu i + load_count code tmu (i + 1) + load_count code tmu (i + 2) = omega arith in
    ap (λ m. list_any (λ r. nat_lt r.sent a) (queue_of code tmu m)) three
    ∙ older_next code tmu (i + 2) 0 a (omega (arith, after))
    ∙ ap (λ m. list_any (λ r. nat_lt r.sent a) (drop (load_count code tmu (i + 2) + 0) (queue_of code tmu m))) two
    ∙ older_next code tmu (i + 1) (load_count code tmu (i + 2) + 0) a (omega (arith, after))
    ∙ older_next code tmu i (load_count code tmu (i + 1) + (load_count code tmu (i + 2) + 0)) a after
    ∙ ap (λ m. list_any (λ r. nat_lt r.sent a) (drop m (queue_of code tmu i))) sums

-- where the last switch acted
acts_near : (i : ℕ) (code : List ℕ) (last : Option ℕ) → last_below (i - 2) (λ s. is_switch (word code s)) ≡ last → acts_at last ≤ i
acts_near i code None found = omega arith
acts_near i code (Some s) found =
    let here = last_below_found (i - 2) s (λ s. is_switch (word code s)) found in omega (arith, here.0)

pub acted_near : (code : List ℕ) (i : ℕ) → last_act code i ≤ i
unfolding last_act
acted_near code i = acts_near i code (last_below (i - 2) (λ s. is_switch (word code s))) refl

pub acted_here : (code : List ℕ) (i : ℕ) → 2 ≤ i → is_switch (word code (i - 2)) ≡ true → last_act code (i + 1) ≡ i + 1
unfolding last_act
acted_here code i two here =
    let e : i + 1 - 2 ≡ i - 2 + 1 = omega (arith, two) in
    let sum : i - 2 + 3 ≡ i + 1 = omega (arith, two) in
    ap (λ n. acts_at (last_below n (λ s. is_switch (word code s)))) e
    ∙ ap acts_at (last_below-suc (i - 2) (λ s. is_switch (word code s)))
    ∙ ap (λ b. acts_at (if b then Some (i - 2) else last_below (i - 2) (λ s. is_switch (word code s)))) here
    ∙ sum

pub acted_same : (code : List ℕ) (i : ℕ) → 2 ≤ i → is_switch (word code (i - 2)) ≡ false → last_act code (i + 1) ≡ last_act code i
unfolding last_act
acted_same code i two none =
    let e : i + 1 - 2 ≡ i - 2 + 1 = omega (arith, two) in
    ap (λ n. acts_at (last_below n (λ s. is_switch (word code s)))) e
    ∙ ap acts_at (last_below-suc (i - 2) (λ s. is_switch (word code s)))
    ∙ ap (λ b. acts_at (if b then Some (i - 2) else last_below (i - 2) (λ s. is_switch (word code s)))) none

pub acted_early : (code : List ℕ) (i : ℕ) → i < 2 → last_act code (i + 1) ≡ last_act code i
unfolding last_act
acted_early code i early =
    let e : i + 1 - 2 ≡ i - 2 = omega (arith, early) in ap (λ n. acts_at (last_below n (λ s. is_switch (word code s)))) e

-- before the first instruction
pub queue_zero : (code : List ℕ) (tmu : ℕ) → queue_of code tmu 0 ≡ []
unfolding queue_of
queue_zero code tmu = refl

pub acted_zero : (code : List ℕ) → last_act code 0 ≡ 0
unfolding last_act last_below
acted_zero code = refl

-- a queue as the code keeps it, after the instruction
pub kept_requests : (code : List ℕ) (tmu at pending : ℕ) (queue after : List Request) → at < checked_of code → pending ≡ pending_of code tmu at
    → queue ≡ queue_of code tmu at → after ≡ queue_after (word code at) tmu (record { sent = at; slots = pending + 1 }) queue
    → after ≡ queue_of code tmu (at + 1)
unfolding request_at
kept_requests code tmu at pending queue after inside words requests is =
    is
    ∙ ap (λ n. queue_after (word code at) tmu (record { sent = at; slots = n + 1 }) queue) words
    ∙ ap (λ q. queue_after (word code at) tmu (record { sent = at; slots = pending_of code tmu at + 1 }) q) requests
    ∙ sym (queue_inside code tmu at inside)

-- a queue as the code keeps it, behind those that the next three instructions load
pub older_kept : (code : List ℕ) (tmu at a taken : ℕ) (queue : List Request) → a ≡ last_act code at → queue ≡ queue_of code tmu at
    → taken ≡ load_count code tmu at + load_count code tmu (at + 1) + load_count code tmu (at + 2)
    → has_older a (drop taken queue) ≡ has_older (last_act code at) (queue_of code tmu (at + 3))
older_kept code tmu at a taken queue latest requests is =
    ap (λ b. has_older b (drop taken queue)) latest
    ∙ ap (λ q. has_older (last_act code at) (drop taken q)) requests
    ∙ ap (λ n. has_older (last_act code at) (drop n (queue_of code tmu at))) is
    ∙ sym (older_ahead code tmu at (last_act code at) (acted_near code at))

pub none_behind : (a taken : ℕ) (queue : List Request) → length queue ≤ taken → false ≡ has_older a (drop taken queue)
none_behind a taken queue past = sym (ap (has_older a) (drop_of_length-le queue past))
