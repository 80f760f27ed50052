-- Where no unit may step, all is finished, or the binner's job waits for room.
use Rattle.std.proofs.Common.{◌≡◌, ◌≤◌, ◌<◌, ◌⊎◌, inl, inr, ℕ, zero, suc, ◌+◌, ◌==◌, ◌&&◌, ◌||◌, Bool, true, false, if◌then◌else◌, List, [], ◌∷◌, ◌++◌, length, slice_index, Option, Some, None, IfSome, refl, sym, ◌∙◌, ap, subst, arith}
use Rattle.std.proofs.{lemmas.Bool.and_from, lemmas.Bool.and_parts, lemmas.Bool.not-false, lemmas.Bool.or_parts, lemmas.Bool.true≢false, lemmas.Bool.false≢true, lemmas.Grind.common_steps}
use Rattle.std.proofs.{lemmas.Bool.Decides.nat_tests, lemmas.List.length-append}
use Rattle.std.specs.{Prelude.is_some, Prelude.is_none, Prelude.nat_lt, List.list_all}
use Rattle.field_words.specs.declared.access.Access.{Access}
use Rattle.field_words.specs.declared.access.Actor.TheVariants.{Binner as TheBinner, Renderer as TheRenderer, Qpu as TheQpu, Tmu as TheTmu}
use Rattle.field_words.specs.Pieces.{joined_texts as joined_bytes}
use Rattle.packets.specs.{declared.packet.Packet.Packet, Opcode.wait_on_semaphore}
use Rattle.machine_plan.specs.Regions.{Every, Interval, Inside, Rights, rights_of, IsSafeAccess, HasReadOnly}
use Rattle.machine_plan.specs.{declared.launch.Free.Free, Glance.Now, Glance.At, Glance.glance_result, Memory.bytes_at, Others.Happening, Others.OthersRun, World.Owes}
use Rattle.machine_plan.proofs.Others.{Holds, run_holds}
use Rattle.list_machine.specs.{declared.state.SubList.SubList, declared.state.Work.Work, Lists.Lists, Start.can_start}
use Rattle.list_machine.specs.Binner.{has_binner_work, item_may, work_may, binner_may as may_bin, binner_ready}
use Rattle.list_machine.specs.Renderer.{has_renderer_work, may_pass, ready_in, renderer_ready}
use Rattle.list_law.proofs.{Bytes.none_left, Logs.same}
use Rattle.apart_law.proofs.{Parts.some_same, Places.first_is}
use Rattle.qpu_machine.specs.Qpu.{active_of, queue_count, ready_by, qpu_ready, oldest, takes_first, takes_other, slot_from, free_in, is_idle}
use Rattle.qpu_machine.specs.{declared.state.Qpu.Qpu, declared.state.Request.Request, declared.state.Thread.Thread, Step.thread_ready}
use Rattle.machine.specs.declared.job.Start.{Start}
use Rattle.machine.specs.State.{Units, State, Picked, first_where, item_at, binner_job, renderer_job, units_start}
use Rattle.machine.specs.Step.{Event, is_ahead, binner_may, renderer_may, qpu_may, tmu_may, unit_turn, ready, turn, is_enabled, is_finished}
use Rattle.machine_law.specs.{Jobs.ArePlain, Laws.AreFine, Units.EachAt}
use Rattle.machine_law.proofs.{Begins.each_begins, Owes.units_owe_law, Owes.start_fine}
use Rattle.ends_law.specs.Left.{BinRest, RenderRest}
use Rattle.ends_law.proofs.{Plans.keeps_both, Rests.render_skip, Rests.slot_first}
use Rattle.served_law.specs.{Finish.JobMayFinish, Finish.JobsFinish, Raises.waits_in, Raises.raised_by}
use Rattle.promises.specs.Finished.{WaitsForRoom, UnitsWait, IsStill}
use Rattle.served_law.specs.Known.{ThreadServed, SlotServed, QpuServed, JobMeets, JobServed, UnitsServed}
use Rattle.served_law.proofs.{Begins.each_begin, Begins.start_served, Machine.unit_serves, Processors.active_served}
use Rattle.served_law.proofs.{Renderer.byte_waits, Room.all_few, Threads.thread_may}

-- A processor of which no unit may step is idle.
no_requests : (requests : List Request) → is_some (oldest requests) ≡ false → requests ≡ []
no_requests [] none = refl
no_requests (request ∷ requests) none = absurd (true≢false none)

slot_idle : (rights : List Rights) (K : List ℕ → Type 0) (q : Qpu) (slot : Option Thread) (m : List ℕ) → K m → queue_count q.second q.queue0.items ≡ 0 → queue_count q.second q.queue1.items ≡ 0
    → SlotServed rights K (queue_count q.second q.queue0.items) (queue_count q.second q.queue1.items) slot → glance_result (ready_by slot q) m ≡ false → is_some slot ≡ false
slot_idle rights K q None m here none0 none1 thread still = refl
slot_idle rights K q (Some t) m here none0 none1 thread still =
    let alone : ThreadServed rights K 0 0 t = subst (λ n. ThreadServed rights K 0 n t) none1 (subst (λ n. ThreadServed rights K n (queue_count q.second q.queue1.items) t) none0 thread) in
    let may : glance_result (thread_ready t 0 0) m ≡ true = thread_may rights K t m here alone in
    let same_queues : glance_result (thread_ready t (queue_count q.second q.queue0.items) (queue_count q.second q.queue1.items)) m ≡ glance_result (thread_ready t 0 0) m =
    ap (λ n. glance_result (thread_ready t n (queue_count q.second q.queue1.items)) m) none0 ∙ ap (λ n. glance_result (thread_ready t 0 n) m) none1 in
    absurd (true≢false (sym may ∙ (sym same_queues ∙ still)))

both_idle : (second : Bool) (first other : Option Thread) → (is_some (if second then other else first) || is_none (if second then first else other)) ≡ true → is_some (if second then other else first) ≡ false → (is_none first && is_none other) ≡ true
both_idle true None None led none = refl
both_idle true (Some t) None led none = absurd (false≢true led)
both_idle true first (Some t) led none = absurd (true≢false none)
both_idle false None None led none = refl
both_idle false None (Some t) led none = absurd (false≢true led)
both_idle false (Some t) other led none = absurd (true≢false none)

qpu_idle : (rights : List Rights) (K : List ℕ → Type 0) (q : Qpu) (m : List ℕ) → K m → QpuServed rights K q → glance_result (qpu_ready q) m ≡ false → is_some (oldest q.queue0.items) ≡ false → is_some (oldest q.queue1.items) ≡ false → is_idle q ≡ true
qpu_idle rights K q m here known still still0 still1 =
    let none0 = no_requests q.queue0.items still0 in
    let none1 = no_requests q.queue1.items still1 in
    let count0 : queue_count q.second q.queue0.items ≡ 0 = ap (λ (rs : List Request). queue_count q.second rs) none0 in
    let count1 : queue_count q.second q.queue1.items ≡ 0 = ap (λ (rs : List Request). queue_count q.second rs) none1 in
    let alone = slot_idle rights K q (active_of q) m here count0 count1 (active_served rights K q known) still in
    and_from (is_none q.first && is_none q.other) (length q.queue0.items == 0 && length q.queue1.items == 0) (both_idle q.second q.first q.other known.led alone)
    (and_from (length q.queue0.items == 0) (length q.queue1.items == 0) (ap (λ (rs : List Request). length rs == 0) none0) (ap (λ (rs : List Request). length rs == 0) none1))

-- no unit of processor k may step
record QpuStill (m : List ℕ) (q : Qpu) : Type 0 where
  thread : glance_result (qpu_ready q) m ≡ false
  tmu0 : is_some (oldest q.queue0.items) ≡ false
  tmu1 : is_some (oldest q.queue1.items) ≡ false

still_at : (m : List ℕ) (found : Option Qpu) → glance_result (qpu_may found) m ≡ false → glance_result (tmu_may found 0) m ≡ false → glance_result (tmu_may found 1) m ≡ false → IfSome found (QpuStill m)
still_at m None still still0 still1 = tt
still_at m (Some q) still still0 still1 = record { thread = still; tmu0 = still0; tmu1 = still1 }

all_idle : (rights : List Rights) (K : List ℕ → Type 0) (qpus : List Qpu) (m : List ℕ) → K m → Every (QpuServed rights K) qpus → ((k : ℕ) → IfSome (item_at qpus k) (QpuStill m)) → list_all is_idle qpus ≡ true
all_idle rights K [] m here all still = refl
all_idle rights K (q ∷ qpus) m here all still =
    let one : QpuStill m q = still 0 in
    and_from (is_idle q) (list_all is_idle qpus) (qpu_idle rights K q m here all.0 one.thread one.tmu0 one.tmu1) (all_idle rights K qpus m here all.1 (λ k. still (suc k)))

-- Then a program that isn't threaded could start.
none_of : (requests : List Request) → (length requests == 0) ≡ true → requests ≡ []
none_of [] none = refl
none_of (request ∷ requests) none = let e : suc (length requests) ≡ 0 = same (suc (length requests)) 0 none in absurd (omega (arith, e))

none_takes : (first other : Option Thread) (second : Bool) → (is_none first && is_none other) ≡ true → takes_first false (record { first = first; other = other; second = second; queue0 = record { items = [] }; queue1 = record { items = [] } }) ≡ true
unfolding takes_first
none_takes None None second idle = refl
none_takes None (Some t) second idle = absurd (false≢true idle)
none_takes (Some t) other second idle = absurd (false≢true idle)

idle_takes : (q : Qpu) → is_idle q ≡ true → takes_first false q ≡ true
idle_takes q idle =
    let parts = and_parts (is_none q.first && is_none q.other) (length q.queue0.items == 0 && length q.queue1.items == 0) idle in
    let empty = and_parts (length q.queue0.items == 0) (length q.queue1.items == 0) parts.1 in
    let takes = none_takes q.first q.other q.second parts.0 in
    subst (λ (rs : List Request). takes_first false (record { first = q.first; other = q.other; second = q.second; queue0 = record { items = rs }; queue1 = record { items = q.queue1.items } }) ≡ true) (sym (none_of q.queue0.items empty.0))
    (subst (λ (rs : List Request). takes_first false (record { first = q.first; other = q.other; second = q.second; queue0 = record { items = [] }; queue1 = record { items = rs } }) ≡ true) (sym (none_of q.queue1.items empty.1)) takes)

may_start : (qpus : List Qpu) → 1 ≤ length qpus → list_all is_idle qpus ≡ true → is_some (slot_from false 0 qpus) ≡ true
may_start [] some idle = absurd (omega (arith, some))
may_start (q ∷ qpus) some idle =
    let takes : takes_first false q ≡ true = idle_takes q (and_parts (is_idle q) (list_all is_idle qpus) idle).0 in
    ap (λ b. is_some (if b then Some (record { qpu = 0; second = false }) else (if takes_other false q then Some (record { qpu = 0; second = true }) else slot_from false 1 qpus))) takes

-- A binner that may not step though a program could start waits for room.
room_by : (s : Lists) (work : Work) (free : Free) (due more : Bool) → work.due ≡ due → nat_lt work.done work.primitive.length ≡ more → is_some free.plain ≡ true
    → (if due then can_start false free else (if more then true else item_may s s.binner.kept.config)) ≡ false → s.binner.work ≡ Some work → WaitsForRoom s
room_by s work free true more due_is more_is starts still is = absurd (true≢false (sym starts ∙ still))
room_by s work free false true due_is more_is starts still is = absurd (true≢false still)
room_by s work free false false due_is more_is starts still is = record { work = work; is = is; started = due_is; fetched = more_is; full = still }

none_has : (below : Bool) → (below || false) ≡ true → below ≡ false → ⊥
none_has true has still = true≢false still
none_has false has still = false≢true has

waits_by : (s : Lists) (work : Option Work) (free : Free) → is_some free.plain ≡ true → (nat_lt s.binner.place s.binner.end || is_some work) ≡ true → may_bin s work free ≡ false → s.binner.work ≡ work → WaitsForRoom s
unfolding work_may
waits_by s None free starts has still is = absurd (none_has (nat_lt s.binner.place s.binner.end) has still)
waits_by s (Some work) free starts has still is = room_by s work free work.due (nat_lt work.done work.primitive.length) refl refl starts still is

binner_waits : (s : Lists) (free : Free) (m : List ℕ) → is_some free.plain ≡ true → has_binner_work s ≡ true → glance_result (binner_ready s free) m ≡ false → WaitsForRoom s
unfolding binner_ready
binner_waits s free m starts has still = waits_by s s.binner.work free starts has still refl

-- A renderer that may not step has a wait before it that nothing raised, so the job's binner has work.
front_waits : (K : List ℕ → Type 0) (place end : ℕ) (m : List ℕ) (slots : List (Option Packet)) → K m → place < end → RenderRest K place end slots → (slice_index m place == wait_on_semaphore) ≡ true → 1 ≤ waits_in slots
front_waits K place end m [] here below rest on = absurd (none_left place end rest.ends below)
front_waits K place end m (None ∷ slots) here below rest on = front_waits K place end m slots here below (render_skip K place end slots rest) on
front_waits K place end m (Some packet ∷ slots) here below rest on =
    let one = byte_waits packet (sym (ap (λ o. o == wait_on_semaphore) (slot_first K place end m packet slots here rest)) ∙ on) in
    omega (arith, one)

no_packets : (K : List ℕ → Type 0) (place end : ℕ) (packets : List (List ℕ)) → BinRest K place end packets → nat_lt place end ≡ false → packets ≡ []
no_packets K place end [] rest past = refl
no_packets K place end (packet ∷ packets) rest past =
    let all = rest.whole in
    let whole = all.0.whole in
    let known = all.0.known in
    let ends = rest.ends in
    let long : length (packet ++ joined_bytes packets) ≡ length packet + length (joined_bytes packets) = length-append packet (joined_bytes packets) in
    let over : end ≤ place = grind (arith, common_steps, nat_tests, past) in
    absurd (omega (arith, whole, known, long, ends, over))

stuck_at : (rights : List Rights) (K : List ℕ → Type 0) (j : ℕ) (s : Lists) (m : List ℕ) → K m → JobServed rights K j s → s.renderer.place < s.renderer.end → may_pass s (slice_index m s.renderer.place) ≡ false → nat_lt s.binner.place s.binner.end ≡ false → ⊥
unfolding may_pass
stuck_at rights K j s m here job below still past =
    let all : JobMeets K s = job.meets in
    let slots : List (Option Packet) = all.1 in
    let left = all.2 in
    let at : Bool = slice_index m s.renderer.place == wait_on_semaphore in
    let held = and_parts at (s.semaphore == 0) (not-false (at && s.semaphore == 0) still) in
    let one = front_waits K s.renderer.place s.renderer.end m slots here below left.render held.0 in
    let zero_semaphore = same s.semaphore 0 held.1 in
    let none = no_packets K s.binner.place s.binner.end all.0 left.bin past in
    let meets : waits_in slots ≤ s.semaphore + raised_by s.pending [] = subst (λ (ps : List (List ℕ)). waits_in slots ≤ s.semaphore + raised_by s.pending ps) none left.meets in
    omega (arith, one, zero_semaphore, meets)

stuck_in : (rights : List Rights) (K : List ℕ → Type 0) (j : ℕ) (s : Lists) (m : List ℕ) (inside : Option SubList) (below : Bool) → K m → JobServed rights K j s → (nat_lt s.renderer.place s.renderer.end) ≡ below → (below || is_some inside) ≡ true
    → glance_result (ready_in s inside) m ≡ false → nat_lt s.binner.place s.binner.end ≡ false → ⊥
unfolding bytes_at
stuck_in rights K j s m (Some sub) below here job is has still past = true≢false still
stuck_in rights K j s m None false here job is has still past = false≢true has
stuck_in rights K j s m None true here job is has still past =
    let under : s.renderer.place < s.renderer.end = grind (arith, common_steps, nat_tests, is) in
    let stops : may_pass s (slice_index m s.renderer.place) ≡ false =
    subst (λ (b : Bool). glance_result (if b then At s.renderer.place 1 (λ head. Now (may_pass s (slice_index head 0))) else Now false) m ≡ false) is still in
    stuck_at rights K j s m here job under stops past

renderer_stuck : (rights : List Rights) (K : List ℕ → Type 0) (j : ℕ) (s : Lists) (m : List ℕ) → K m → JobServed rights K j s → has_renderer_work s ≡ true → glance_result (renderer_ready s) m ≡ false → has_binner_work s ≡ false → ⊥
unfolding renderer_ready
renderer_stuck rights K j s m here job has still none =
    stuck_in rights K j s m s.renderer.inside (nat_lt s.renderer.place s.renderer.end) here job refl has still (or_parts (nat_lt s.binner.place s.binner.end) (is_some s.binner.work) none).0

-- what is known of an item by its number
record Numbered {X : Type 0} (P : ℕ → X → Type 0) (x : X) : Type 0 where
  number : ℕ
  known : P number x

at_number : {X : Type 0} (P : ℕ → X → Type 0) (n k : ℕ) (xs : List X) (x : X) → EachAt P n xs → item_at xs k ≡ Some x → Numbered P x
at_number P n k [] x all is = absurd cc
at_number {X = X} P n zero (y ∷ xs) x all is = subst (λ (o : X). Numbered P o) (some_same y x is) (record { number = n; known = all.0 })
at_number P n (suc k) (y ∷ xs) x all is = at_number P (n + 1) k xs x all.1 is

-- where no item passes a test
none_by : {X : Type 0} (p : X → Bool) (n k : ℕ) (y : X) (xs : List X) (x : X) (passes : Bool) → p y ≡ passes → (first_where p (n + 1) xs ≡ None → (i : ℕ) → item_at xs i ≡ Some x → p x ≡ false)
    → (if passes then Some (record { number = n; item = y }) else first_where p (n + 1) xs) ≡ None → item_at (y ∷ xs) k ≡ Some x → p x ≡ false
none_by p n k y xs x true passes later none is = absurd cc
none_by p n zero y xs x false passes later none is = ap p (sym (some_same y x is)) ∙ passes
none_by p n (suc k) y xs x false passes later none is = later none k is

none_pass : {X : Type 0} (p : X → Bool) (n k : ℕ) (xs : List X) (x : X) → first_where p n xs ≡ None → item_at xs k ≡ Some x → p x ≡ false
none_pass p n k [] x none is = absurd cc
none_pass p n k (y ∷ xs) x none is = none_by p n k y xs x (p y) refl (λ rest i there. none_pass p (n + 1) i xs x rest there) none is

-- The renderer's job has work for the binner, where the renderer may not step.
no_stuck : (rights : List Rights) (K : List ℕ → Type 0) (u : Units) (r : Picked Lists) (m : List ℕ) → K m → UnitsServed rights K u → renderer_job u ≡ Some r → glance_result (renderer_ready r.item) m ≡ false → has_binner_work r.item ≡ false → ⊥
no_stuck rights K u r m here all is still none =
    let first = first_is has_renderer_work u.jobs r is in
    let job = at_number (JobServed rights K) 0 r.number u.jobs r.item all.jobs first.at in
    renderer_stuck rights K job.number r.item m here job.known first.passes still none

-- the cases
both_none : (binner renderer : Option (Picked Lists)) (idle : Bool) → binner ≡ None → renderer ≡ None → idle ≡ true → ((is_none binner && is_none renderer) && idle) ≡ true
both_none binner renderer idle one two three =
    ap (λ (o : Option (Picked Lists)). (is_none o && is_none renderer) && idle) one ∙ (ap (λ (o : Option (Picked Lists)). is_none o && idle) two ∙ three)

ahead_below : (n : ℕ) (r : Picked Lists) → nat_lt (r.number + 1) n ≡ true → r.number < n
ahead_below n r ahead = let below : r.number + 1 < n = grind (arith, common_steps, nat_tests, ahead) in omega (arith, below)

is_held : (rights : List Rights) (K : List ℕ → Type 0) (u : Units) (b : Picked Lists) (renderer : Option (Picked Lists)) (m : List ℕ) → K m → UnitsServed rights K u → binner_job u ≡ Some b → renderer_job u ≡ renderer
    → glance_result (renderer_may renderer) m ≡ false → is_ahead b.number renderer ≡ true → ⊥
is_held rights K u b None m here all first second still ahead = false≢true ahead
is_held rights K u b (Some r) m here all first second still ahead =
    let ours = first_is has_binner_work u.jobs b first in
    let theirs = first_is has_renderer_work u.jobs r second in
    no_stuck rights K u r m here all second still (ours.before r.number r.item (ahead_below b.number r ahead) theirs.at)

binner_by : (u : Units) (b : Picked Lists) (m : List ℕ) (ahead : Bool) → (ahead ≡ true → ⊥) → is_some (free_in u.qpus).plain ≡ true → has_binner_work b.item ≡ true
    → glance_result (if ahead then Now false else binner_ready b.item (free_in u.qpus)) m ≡ false → WaitsForRoom b.item
binner_by u b m true never starts has still = absurd (never refl)
binner_by u b m false never starts has still = binner_waits b.item (free_in u.qpus) m starts has still

by_units : (rights : List Rights) (K : List ℕ → Type 0) (u : Units) (binner renderer : Option (Picked Lists)) (m : List ℕ) → K m → UnitsServed rights K u → binner_job u ≡ binner → renderer_job u ≡ renderer → list_all is_idle u.qpus ≡ true
    → glance_result (binner_may u binner) m ≡ false → glance_result (renderer_may renderer) m ≡ false → (((is_none (binner_job u) && is_none (renderer_job u)) && list_all is_idle u.qpus) ≡ true) ⊎ UnitsWait u
by_units rights K u None None m here all first second idle still_first still_second = inl (both_none (binner_job u) (renderer_job u) (list_all is_idle u.qpus) first second idle)
by_units rights K u None (Some r) m here all first second idle still_first still_second =
    let at = (first_is has_renderer_work u.jobs r second).at in
    absurd (no_stuck rights K u r m here all second still_second (none_pass has_binner_work 0 r.number u.jobs r.item first at))
by_units rights K u (Some b) renderer m here all first second idle still_first still_second =
    let held : is_ahead b.number (renderer_job u) ≡ true → ⊥ = λ ahead. is_held rights K u b renderer m here all first second still_second (ap (is_ahead b.number) (sym second) ∙ ahead) in
    inr (record {
      one = b;
      is = first;
      waits = binner_by u b m (is_ahead b.number (renderer_job u)) held (may_start u.qpus all.some idle) (first_is has_binner_work u.jobs b first).passes still_first;
      idle = idle;
    })

stands_still : (rights : List Rights) (K : List ℕ → Type 0) (t : State) → K t.memory → UnitsServed rights K t.units → IsStill t → (is_finished t ≡ true) ⊎ UnitsWait t.units
unfolding is_enabled is_finished
stands_still rights K t here all still =
    let u : Units = t.units in
    let idle = all_idle rights K u.qpus t.memory here all.qpus (λ k. still_at t.memory (item_at u.qpus k) (still (TheQpu k)) (still (TheTmu k 0)) (still (TheTmu k 1))) in
    by_units rights K u (binner_job u) (renderer_job u) t.memory here all refl refl idle (still TheBinner) (still TheRenderer)

-- What the units owe, with what is known of them here.
owes_both : (rights : List Rights) (plains : ℕ → List Interval) (first : List ℕ) → ArePlain rights plains → Owes ready turn rights first (λ u. AreFine rights plains first u × UnitsServed rights (HasReadOnly rights first) u)
unfolding ready turn
owes_both rights plains first plain =
    let owes = units_owe_law rights plains first plain in
    record {
      looks = λ u m e known has. owes.looks u m e known.0 has;
      keeps = λ u m e known has may.
          let one = unit_turn u e.unit e.words in
          keeps_both one.who (Inside (rights_of rights one.who.job).region) (IsSafeAccess rights) (AreFine rights plains first) (UnitsServed rights (HasReadOnly rights first)) one.plan m
          (owes.keeps u m e known.0 has may) (unit_serves rights (HasReadOnly rights first) u e.unit e.words m has known.1 may);
    }

record IsKnown (rights : List Rights) (first : List ℕ) (t : State) : Type 0 where
  has : HasReadOnly rights first t.memory
  units : UnitsServed rights (HasReadOnly rights first) t.units

ran_known : (rights : List Rights) (plains : ℕ → List Interval) (first m : List ℕ) (starts : List Start) → ArePlain rights plains → HasReadOnly rights first m → EachAt (JobMayFinish rights plains first) 0 starts
    → (happenings : List (Happening Event)) (found : List Access) (t : State) → OthersRun ready turn rights (record { memory = m; units = units_start starts }) happenings found t → IsKnown rights first t
ran_known rights plains first m starts plain has all happenings found t run =
    let I : Units → Type 0 = λ u. AreFine rights plains first u × UnitsServed rights (HasReadOnly rights first) u in
    let w : State = record { memory = m; units = units_start starts } in
    let fine = start_fine rights plains first starts (each_begins rights plains first 0 starts (each_begin rights plains first 0 starts all)) in
    let ran = run_holds ready turn rights first I (owes_both rights plains first plain) happenings w (record { units = (fine, start_served rights plains first starts all); has = has }) run.allowed in
    let last : Holds rights first I t = subst (λ (s : State). Holds rights first I s) (sym run.last) ran.0 in
    let known = last.units in
    record { has = last.has; units = known.1 }

pub jobs_finish_law : JobsFinish
jobs_finish_law rights plains first m starts plain has all = record {
  every_run = λ happenings found t run still.
      let known = ran_known rights plains first m starts plain has all happenings found t run in
      stands_still rights (HasReadOnly rights first) t known.has known.units still;
  room = λ happenings found t run.
      let known = ran_known rights plains first m starts plain has all happenings found t run in
      all_few rights (HasReadOnly rights first) t.units.qpus t.memory known.has known.units.qpus;
}
