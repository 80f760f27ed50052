-- A program starts: in the client's parts where it is one of its jobs', by the slot alone, and in none of them where it is another's.
use Rattle.std.proofs.Common.{◌≡◌, ℕ, Bool, true, false, if◌then◌else◌, List, [], ◌∷◌, map, slice_index_or, slice_set, Option, Some, None, refl, sym, ◌∙◌, ap, arith, rules}
use Rattle.std.proofs.{lemmas.Bool.and_parts, lemmas.Bool.false≢true, lemmas.List.map-set, Math.ListN.get_or-map}
use Rattle.std.specs.Prelude.{is_none}
use Rattle.machine_plan.specs.{declared.launch.Launch.Launch, declared.launch.Slot.Slot}
use Rattle.qpu_machine.specs.Qpu.{takes_first, takes_other, in_first, in_other, in_slot, started_in, slot_from, idle_qpu}
use Rattle.qpu_machine.specs.{declared.state.Qpu.Qpu, declared.state.Thread.Thread, Start.thread_of}
use Rattle.qpu_machine.proofs.Starts.{finds, found_in}
use Rattle.machine.specs.Step.{with_launch}
use Rattle.apart_law.specs.Part.{Part, thread_seen, part_of}
use Rattle.promises.specs.Trail.{Client, slot_for}
use Rattle.apart_law.proofs.Parts.{part_in, in_first_part, in_other_part, sees_none}

-- the parts, where this is put in a slot
abbrev placed : Client → Option Slot → Option Thread → List Part → List Part
placed mine None slot parts = parts
placed mine (Some place) slot parts = slice_set parts place.qpu (part_in place.second slot (slice_index_or parts place.qpu (part_of mine idle_qpu)))

in_slot_part : (mine : Client) (second : Bool) (q : Qpu) (t : Thread) → part_of mine (in_slot second q t) ≡ part_in second (thread_seen mine (Some t)) (part_of mine q)
in_slot_part mine second q t = search (rules, arith, in_other_part, in_first_part)

started_placed : (mine : Client) (threaded : Bool) (t : Thread) (qpus : List Qpu) (place : Option Slot) → slot_from threaded 0 qpus ≡ place
    → map (part_of mine) (started_in threaded t qpus) ≡ placed mine place (thread_seen mine (Some t)) (map (part_of mine) qpus)
started_placed mine threaded t qpus None is = search (rules, arith, finds)
started_placed mine threaded t qpus (Some place) is =
    let found = found_in threaded qpus place is in
    let q : Qpu = slice_index_or qpus place.qpu idle_qpu in
    ap (map (part_of mine)) (found.starts t)
    ∙ (map-set (part_of mine) qpus place.qpu (in_slot place.second q t)
    ∙ ap (λ p. slice_set (map (part_of mine) qpus) place.qpu p)
    (in_slot_part mine place.second q t ∙ ap (part_in place.second (thread_seen mine (Some t))) (sym (get_or-map (part_of mine) qpus place.qpu idle_qpu))))

-- in two machines whose parts are alike the same starts in the same slot
pub launches_alike : (mine : Client) (j : ℕ) (launch : Option Launch) (us vs : List Qpu) → map (part_of mine) us ≡ map (part_of mine) vs → slot_for launch us ≡ slot_for launch vs
    → map (part_of mine) (with_launch j launch us) ≡ map (part_of mine) (with_launch j launch vs)
launches_alike mine j launch us vs alike same = search (rules, arith, started_placed)

-- a slot that takes a program is idle
idle_none : (mine : Client) (slot : Option Thread) → is_none slot ≡ true → thread_seen mine slot ≡ None
idle_none mine slot idle = search (rules, arith, false≢true)

first_idle : (threaded : Bool) (q : Qpu) → takes_first threaded q ≡ true → is_none q.first ≡ true
unfolding takes_first
first_idle threaded q takes = (and_parts _ _ (and_parts _ _ takes).0).0

other_idle : (threaded : Bool) (q : Qpu) → takes_other threaded q ≡ true → is_none q.other ≡ true
unfolding takes_other
other_idle threaded q takes = (and_parts _ _ (and_parts _ _ (and_parts _ _ takes).1).0).0

others_in_first : (mine : Client) (threaded : Bool) (q : Qpu) (t : Thread) → mine t.job ≡ false → takes_first threaded q ≡ true → part_of mine (in_first q t) ≡ part_of mine q
others_in_first mine threaded q t others takes = search (rules, arith, sees_none, idle_none, first_idle, in_first_part, part_in)

others_in_other : (mine : Client) (threaded : Bool) (q : Qpu) (t : Thread) → mine t.job ≡ false → takes_other threaded q ≡ true → part_of mine (in_other q t) ≡ part_of mine q
others_in_other mine threaded q t others takes = search (rules, arith, sees_none, idle_none, other_idle, in_other_part, part_in)

others_by : (mine : Client) (threaded first other : Bool) (t : Thread) (q : Qpu) (qpus rest : List Qpu) → mine t.job ≡ false → takes_first threaded q ≡ first → takes_other threaded q ≡ other
    → map (part_of mine) rest ≡ map (part_of mine) qpus
    → map (part_of mine) (if first then in_first q t ∷ qpus else (if other then in_other q t ∷ qpus else q ∷ rest)) ≡ map (part_of mine) (q ∷ qpus)
others_by mine threaded first other t q qpus rest others takes there same = search (rules, arith, others_in_first, others_in_other)

others_started : (mine : Client) (threaded : Bool) (t : Thread) (qpus : List Qpu) → mine t.job ≡ false → map (part_of mine) (started_in threaded t qpus) ≡ map (part_of mine) qpus
others_started mine threaded t [] others = refl
others_started mine threaded t (q ∷ qpus) others = search (rules, arith, others_by, others_started mine threaded t qpus others)

job_started : (mine : Client) (j : ℕ) (launch : Launch) → mine j ≡ false → mine (thread_of j launch).job ≡ false
unfolding thread_of
job_started mine j launch others = others

pub launches_silent : (mine : Client) (j : ℕ) (launch : Option Launch) (qpus : List Qpu) → mine j ≡ false → map (part_of mine) (with_launch j launch qpus) ≡ map (part_of mine) qpus
launches_silent mine j None qpus others = refl
launches_silent mine j (Some launch) qpus others = others_started mine launch.threaded (thread_of j launch) qpus (job_started mine j launch others)
