-- Requests in the order in which a processor sent them: after an instruction, and where another thread becomes active.
use Rattle.std.proofs.Common.{◌≡◌, ◌≤◌, inl, inr, ℕ, zero, suc, ◌+◌, ◌-◌, ◌⊎◌, Bool, true, false, ◌&&◌, not, List, [], ◌∷◌, ◌++◌, replicate, if◌then◌else◌, refl, sym, ◌∙◌, ap, subst, arith, append-nil, append_assoc}
use Rattle.std.proofs.lemmas.List.{replicate_more}
use Rattle.std.specs.Prelude.{is_some, Option, Some, None}
use Rattle.qpu_machine.specs.declared.state.Fate.{Fate, TheVariants.Ends, TheVariants.Switches, TheVariants.GoesOn}
use Rattle.qpu_machine.specs.{Qpu.gives_way, declared.state.Thread.Thread}
use Rattle.promises.specs.Steps.{one_if}
use Rattle.strict_law.specs.{Known.Ordered, Known.InOrder, Known.next_old, Order.without, Order.order_with, Order.oldest_of}
use Rattle.strict_law.proofs.Threads.{TmuGoes}

-- so many of the active thread's, then of the one that rests, then of the active thread's again
abbrev pub three : Bool → (old rest new : ℕ) → List Bool
three second old rest new = replicate old second ++ (replicate rest (not second) ++ replicate new second)

-- the thread's own oldest stands first
without_own : (second : Bool) (n : ℕ) (order : List Bool) → without second (replicate (suc n) second ++ order) ≡ replicate n second ++ order
without_own true n order = refl
without_own false n order = refl

load_own : (second : Bool) (old rest new : ℕ) → (1 ≤ old) ⊎ ((rest ≡ 0) × (1 ≤ new)) → without second (three second old rest new) ≡ three second (old - 1) rest (new - (1 - old))
load_own second (suc old) rest new (inl some) =
    let one : old ≡ suc old - 1 = omega arith in
    let two : new ≡ new - (1 - suc old) = omega arith in
    without_own second old (replicate rest (not second) ++ replicate new second) ∙ (ap (λ n. three second n rest new) one ∙ ap (λ n. three second (suc old - 1) rest n) two)
load_own second zero rest new (inl some) = absurd (omega (arith, some))
load_own second (suc old) rest new (inr none) =
    let one : old ≡ suc old - 1 = omega arith in
    let two : new ≡ new - (1 - suc old) = omega arith in
    without_own second old (replicate rest (not second) ++ replicate new second) ∙ (ap (λ n. three second n rest new) one ∙ ap (λ n. three second (suc old - 1) rest n) two)
load_own second zero rest zero (inr none) = let some = none.1 in absurd (omega (arith, some))
load_own second zero rest (suc new) (inr none) =
    let one : new ≡ suc new - (1 - 0) = omega arith in
    ap (λ n. without second (three second 0 n (suc new))) none.0
    ∙ (ap (λ q. without second q) (sym (append-nil (replicate (suc new) second)))
    ∙ (without_own second new []
    ∙ (append-nil (replicate new second) ∙ (ap (λ n. three second 0 n new) (sym none.0) ∙ ap (λ n. three second 0 rest n) one))))

load_by : (second load : Bool) (old rest new : ℕ) → (load ≡ true → (1 ≤ old) ⊎ ((rest ≡ 0) × (1 ≤ new))) → (if load then without second (three second old rest new) else three second old rest new) ≡ three second (old - one_if load) rest (new - (one_if load - old))
load_by second true old rest new has = load_own second old rest new (has refl)
load_by second false old rest new has =
    let one : old ≡ old - 0 = omega arith in
    let two : new ≡ new - (0 - old) = omega arith in
    ap (λ n. three second n rest new) one ∙ ap (λ n. three second (old - 0) rest n) two

send_by : (second send : Bool) (old rest new : ℕ) → three second old rest new ++ (if send then second ∷ [] else []) ≡ three second old rest (new + one_if send)
send_by second true old rest new =
    append_assoc (replicate old second) (replicate rest (not second) ++ replicate new second) (second ∷ [])
    ∙ ap (λ q. replicate old second ++ q) (append_assoc (replicate rest (not second)) (replicate new second) (second ∷ []) ∙ ap (λ q. replicate rest (not second) ++ q) (replicate_more new second))
send_by second false old rest new =
    let one : new ≡ new + 0 = omega arith in
    append-nil (three second old rest new) ∙ ap (λ n. three second old rest n) one

pub has_by : (old all rest : ℕ) (threaded : Bool) → old ≤ all → 1 ≤ all → (1 ≤ old) ⊎ (threaded ≡ false) → (threaded ≡ false → rest ≡ 0) → (1 ≤ old) ⊎ ((rest ≡ 0) × (1 ≤ all - old))
has_by old all rest threaded few some (inl one) single = inl one
has_by zero all rest threaded few some (inr off) single = inr (single off, omega (arith, some))
has_by (suc old) all rest threaded few some (inr off) single = inl (omega arith)

left_is : (load : Bool) (old all next send : ℕ) → old ≤ all → (load ≡ true → 1 ≤ all) → next ≡ (all - one_if load) + send → ((all - old) - (one_if load - old)) + send ≡ next - (old - one_if load)
left_is true old all next send few some is = let has = some refl in omega (arith, few, has, is)
left_is false old all next send few some is = omega (arith, few, is)

-- after an instruction of the active thread
order_goes : (second load send threaded : Bool) (order : List Bool) (old all rest next : ℕ) (fate : Fate) → order ≡ three second old rest (all - old) → TmuGoes load send threaded old all next fate → (threaded ≡ false → rest ≡ 0)
    → order_with load send second order ≡ three second (old - one_if load) rest (next - (old - one_if load))
order_goes second load send threaded order old all rest next fate is goes single =
    let few = goes.few in
    let next_is = goes.next_is in
    let has : load ≡ true → (1 ≤ old) ⊎ ((rest ≡ 0) × (1 ≤ all - old)) = λ on. has_by old all rest threaded few (goes.some on) (goes.takes on) single in
    let left : ℕ = (all - old) - (one_if load - old) in
    let count : left + one_if send ≡ next - (old - one_if load) = left_is load old all next (one_if send) few goes.some next_is in
    ap (λ q. (if load then without second q else q) ++ (if send then second ∷ [] else [])) is
    ∙ (ap (λ q. q ++ (if send then second ∷ [] else [])) (load_by second load old rest (all - old) has)
    ∙ (send_by second send (old - one_if load) rest left ∙ ap (λ n. three second (old - one_if load) rest n) count))

-- Where it gives way, and the other one runs, that one is active.
abbrev pub Settled : Bool → Bool → List Bool → (old all rest_old rest_all : ℕ) → Type 0
Settled true second order old all rest_old rest_all = Ordered (not second) order rest_old rest_all old all
Settled false second order old all rest_old rest_all = Ordered second order old all rest_old rest_all

none_more : (old all : ℕ) → old ≡ all → 0 ≡ all - old
none_more old all is = omega (arith, is)

turned : (second : Bool) (order : List Bool) (all rest_old rest_all : ℕ) → order ≡ replicate rest_all second ++ replicate all (not second) → rest_old ≡ rest_all → Ordered second order rest_old rest_all all all
turned second order all rest_old rest_all is rests = record {
  is = is ∙ (ap (λ n. replicate n second ++ replicate all (not second)) (sym rests) ∙ ap (λ q. replicate rest_old second ++ q) (sym (append-nil (replicate all (not second))) ∙ ap (λ n. replicate all (not second) ++ replicate n second) (none_more rest_old rest_all rests)));
  rests = refl;
}

turns : (second : Bool) (order : List Bool) (all rest_old rest_all : ℕ) → order ≡ three second 0 rest_all all → rest_old ≡ rest_all → Ordered (not second) order rest_old rest_all all all
turns true order all rest_old rest_all is rests = turned false order all rest_old rest_all is rests
turns false order all rest_old rest_all is rests = turned true order all rest_old rest_all is rests

no_old : (second : Bool) (order : List Bool) (old rest next : ℕ) → old ≡ 0 → order ≡ three second old rest (next - old) → order ≡ three second 0 rest next
no_old second order old rest next gone is =
    let same : next - old ≡ next = omega (arith, gone) in
    is ∙ (ap (λ n. three second old rest n) same ∙ ap (λ n. three second n rest next) gone)

same_new : (second : Bool) (rest next : ℕ) → three second 0 rest next ≡ three second 0 rest (next - 0)
same_new second rest next = let e : next ≡ next - 0 = omega arith in ap (λ n. three second 0 rest n) e

stays_own : (second : Bool) (order : List Bool) (old rest next : ℕ) → old ≡ 0 → rest ≡ 0 → order ≡ three second old rest (next - old) → order ≡ three second next rest (next - next)
stays_own second order old rest next gone none is =
    let e : 0 ≡ next - next = omega arith in
    no_old second order old rest next gone is
    ∙ (ap (λ n. three second 0 n next) none
    ∙ (sym (append-nil (replicate next second)) ∙ (ap (λ n. three second next n 0) (sym none) ∙ ap (λ n. three second next rest n) e)))

ended : (load send : Bool) (old all next : ℕ) → old ≤ all → next ≡ (all - one_if load) + one_if send → next ≡ 0 → old - one_if load ≡ 0
ended load send old all next few is over = omega (arith, few, is, over)

turns_over : (second : Bool) (order : List Bool) (next rest_old rest_all : ℕ) → next ≡ 0 → order ≡ three second 0 rest_all next → rest_old ≡ rest_all → Ordered (not second) order rest_old rest_all 0 next
turns_over second order next rest_old rest_all over is rests =
    subst (λ n. Ordered (not second) order rest_old rest_all n next) over (turns second order next rest_old rest_all is rests)

pub settled_order : (second load send threaded : Bool) (order : List Bool) (old all rest_old rest_all next : ℕ) (fate : Fate) (rest : Option Thread) → Ordered second order old all rest_old rest_all → TmuGoes load send threaded old all next fate
    → (threaded ≡ false → rest_all ≡ 0) → (fate ≡ Ends → next ≡ 0) → (rest ≡ None → rest_all ≡ 0)
    → Settled (gives_way fate && is_some rest) second (order_with load send second order) (next_old fate (old - one_if load) next) next rest_old rest_all
settled_order second load send threaded order old all rest_old rest_all next GoesOn rest before goes single over none =
    record { is = order_goes second load send threaded order old all rest_all next GoesOn before.is goes single; rests = before.rests }
settled_order second load send threaded order old all rest_old rest_all next Switches None before goes single over none =
    let gone = goes.switched refl in
    let is = order_goes second load send threaded order old all rest_all next Switches before.is goes single in
    record { is = stays_own second (order_with load send second order) (old - one_if load) rest_all next gone (none refl) is; rests = before.rests }
settled_order second load send threaded order old all rest_old rest_all next Switches (Some t) before goes single over none =
    let gone = goes.switched refl in
    let is = order_goes second load send threaded order old all rest_all next Switches before.is goes single in
    turns second (order_with load send second order) next rest_old rest_all (no_old second (order_with load send second order) (old - one_if load) rest_all next gone is) before.rests
settled_order second load send threaded order old all rest_old rest_all next Ends None before goes single over none =
    let gone = ended load send old all next goes.few goes.next_is (over refl) in
    let is = order_goes second load send threaded order old all rest_all next Ends before.is goes single in
    record { is = no_old second (order_with load send second order) (old - one_if load) rest_all next gone is ∙ same_new second rest_all next; rests = before.rests }
settled_order second load send threaded order old all rest_old rest_all next Ends (Some t) before goes single over none =
    let gone = ended load send old all next goes.few goes.next_is (over refl) in
    let is = order_goes second load send threaded order old all rest_all next Ends before.is goes single in
    turns_over second (order_with load send second order) next rest_old rest_all (over refl) (no_old second (order_with load send second order) (old - one_if load) rest_all next gone is) before.rests

-- by the first thread's and the other one's
pub in_settled_other : (over : Bool) (order : List Bool) (first_old first_all other_old other_all : ℕ) → Settled over true order other_old other_all first_old first_all → InOrder (if over then false else true) order first_old first_all other_old other_all
in_settled_other true order first_old first_all other_old other_all settled = settled
in_settled_other false order first_old first_all other_old other_all settled = settled

pub in_settled_first : (over : Bool) (order : List Bool) (other_old other_all first_old first_all : ℕ) → Settled over false order first_old first_all other_old other_all → InOrder (if over then true else false) order first_old first_all other_old other_all
in_settled_first true order other_old other_all first_old first_all settled = settled
in_settled_first false order other_old other_all first_old first_all settled = settled

-- where nothing is left
pub none_left : (second : Bool) (order : List Bool) (first_all other_all : ℕ) (first_old other_old : ℕ) → first_all ≡ 0 → other_all ≡ 0 → first_old ≡ 0 → other_old ≡ 0 → InOrder second order first_old first_all other_old other_all → order ≡ []
none_left true order first_all other_all first_old other_old one two three four ordered =
    ordered.is ∙ (ap (λ n. replicate n true ++ (replicate first_all false ++ replicate (other_all - n) true)) four ∙ (ap (λ n. replicate n false ++ replicate (other_all - 0) true) one ∙ ap (λ n. replicate (n - 0) true) two))
none_left false order first_all other_all first_old other_old one two three four ordered =
    ordered.is ∙ (ap (λ n. replicate n false ++ (replicate other_all true ++ replicate (first_all - n) false)) three ∙ (ap (λ n. replicate n true ++ replicate (first_all - 0) false) two ∙ ap (λ n. replicate (n - 0) false) one))

pub empty_order : (second : Bool) (order : List Bool) → order ≡ [] → InOrder second order 0 0 0 0
empty_order true order is = record { is = is; rests = refl }
empty_order false order is = record { is = is; rests = refl }

-- the oldest, where a load takes one of the active thread's
pub oldest_own : (second : Bool) (order : List Bool) (old rest new : ℕ) → order ≡ three second old rest new → (1 ≤ old) ⊎ ((rest ≡ 0) × (1 ≤ new)) → oldest_of order ≡ Some second
oldest_own second order (suc old) rest new is has = ap (λ q. oldest_of q) is
oldest_own second order zero rest new is (inl some) = absurd (omega (arith, some))
oldest_own second order zero rest zero is (inr none) = let some = none.1 in absurd (omega (arith, some))
oldest_own second order zero rest (suc new) is (inr none) = ap (λ q. oldest_of q) (is ∙ ap (λ n. three second 0 n (suc new)) none.0)
