-- Two threads of a processor that run both run threaded programs, whatever steps are taken.
use Rattle.std.proofs.Common.{◌≡◌, ◌&&◌, Bool, true, false, Option, Some, None, List, ℕ, refl, sym, ◌∙◌, if◌then◌else◌}
use Rattle.std.proofs.lemmas.Bool.{and_parts, true≢false}
use Rattle.std.specs.Prelude.{is_none, option_map}
use Rattle.qpu_machine.specs.declared.state.Fate.{Fate, TheVariants.GoesOn, TheVariants.Switches, TheVariants.Ends}
use Rattle.qpu_machine.specs.{declared.state.Qpu.Qpu, declared.state.Thread.Thread, Qpu.left_by, Qpu.woken_slot, Qpu.with_result, Qpu.has_none, Qpu.is_beside}
use Rattle.served_law.specs.Known.{AreBeside}

-- Two threads: it is so of each two that run threaded programs as these do.
abbrev pub IsLike : Option Thread → Option Thread → Type 0
IsLike None slot = Unit {0}
IsLike (Some t) None = ⊥
IsLike (Some t) (Some o) = t.threaded ≡ o.threaded

beside_like : (first other own : Option Thread) → IsLike own first → AreBeside first other → AreBeside own other
beside_like first other None like beside = tt
beside_like None other (Some t) like beside = absurd like
beside_like (Some o) None (Some t) like beside = tt
beside_like (Some o) (Some other) (Some t) like beside = (like ∙ beside.0, beside.1)

pub beside_turn : (first other : Option Thread) → AreBeside first other → AreBeside other first
beside_turn None None beside = tt
beside_turn None (Some o) beside = tt
beside_turn (Some t) None beside = tt
beside_turn (Some t) (Some o) beside = (beside.1, beside.0)

pub beside_both : (first other one two : Option Thread) → IsLike one first → IsLike two other → AreBeside first other → AreBeside one two
beside_both first other one two like alike beside =
    beside_turn two one (beside_like other one two alike (beside_turn one other (beside_like first other one like beside)))

pub like_same : (slot : Option Thread) → IsLike slot slot
like_same None = tt
like_same (Some t) = refl

pub like_woken : (over : Bool) (slot : Option Thread) → IsLike (woken_slot over slot) slot
like_woken false slot = like_same slot
like_woken true None = tt
like_woken true (Some t) = refl

pub like_result : (tmu : ℕ) (row : Option (List ℕ)) (slot : Option Thread) → IsLike (option_map (with_result tmu row) slot) slot
like_result tmu row None = tt
like_result tmu row (Some t) = refl

pub like_left : (t next : Thread) (fate : Fate) → next.threaded ≡ t.threaded → IsLike (left_by fate next) (Some t)
like_left t next GoesOn same = same
like_left t next Switches same = same
like_left t next Ends same = tt

-- Where a program starts, it is so too.
beside_none : (t : Thread) (other : Option Thread) → is_none other ≡ true → AreBeside (Some t) other
beside_none t None none = tt
beside_none t (Some o) none = absurd (true≢false (sym none))

pub beside_threaded : (t : Thread) (other : Option Thread) → t.threaded ≡ true → is_beside other ≡ true → AreBeside (Some t) other
beside_threaded t None is beside = tt
beside_threaded t (Some o) is beside = (is, beside)

pub runs_beside : (threaded : Bool) (t : Thread) (q : Qpu) → t.threaded ≡ threaded → (if threaded then is_beside q.other else (is_none q.other && has_none true q)) ≡ true → AreBeside (Some t) q.other
runs_beside true t q is may = beside_threaded t q.other is may
runs_beside false t q is may = beside_none t q.other (and_parts (is_none q.other) (has_none true q) may).0
