-- A machine in which a list unit is to read outside, at a primitive or at an item, is not safe.
use Rattle.std.proofs.Common.{◌≡◌, ◌<◌, inl, inr, ℕ, zero, suc, ◌+◌, ◌%◌, ◌^◌, ◌==◌, Bool, IsTrue, true, false, List, [], Option, Some, None, refl, sym, ap, subst, ◌∙◌, arith}
use Rattle.std.proofs.lemmas.Bool.Decides.{nat_tests}
use Rattle.std.specs.Prelude.{if◌then◌else◌, nat_lt}
use Rattle.field_words.specs.declared.access.Actor.TheVariants.{Binner as TheBinner, Renderer as TheRenderer}
use Rattle.field_words.specs.Words.{u32_at}
use Rattle.packets.specs.StateWord.{attribute_count, is_extended}
use Rattle.machine_plan.specs.{declared.launch.Free.Free, declared.launch.Launch.Launch, declared.who.Who.Who, Choice.word_at}
use Rattle.machine_plan.specs.{Glance.glance_result, Glance.Now, Memory.bytes_at, Memory.bytes_stored, World.Safe, World.plan_mapped, World.plan_followed}
use Rattle.machine_plan.specs.Plan.{Plan, Done, Wilds, Reads, Looks, Writes, outcome_of}
use Rattle.machine_plan.specs.Regions.{Every, Rights, rights_of, Inside, IsSafeAccess}
use Rattle.list_machine.specs.declared.state.Program.TheVariants.{Fragment, Vertex, Coordinate}
use Rattle.list_machine.specs.Binner.{binner_plan, binner_by, work_plan, binner_ready, binner_may, work_may, fetched_with, started_with}
use Rattle.list_machine.specs.Fetch.{index_size, index_in, index_plan, draws_nothing, record_place, attribute_place, extension_place, data_size, data_place, data_plan, extended_plan, attribute_plan, attributes_plan, indexed_plan, fetch_plan}
use Rattle.list_machine.specs.Renderer.{item_at, at_item, item_fetched, vertex_plan, program_plan, choice_plan, found_plan, plan_in, renderer_plan, ready_in, renderer_ready}
use Rattle.list_machine.specs.{declared.state.Found.Found, declared.state.Primitive.Primitive, declared.state.Program.Program}
use Rattle.list_machine.specs.{declared.state.SubList.SubList, declared.state.Work.Work}
use Rattle.list_machine.specs.Lists.{Lists, turned_to, binner_of, renderer_of}
use Rattle.list_machine.specs.Start.{can_start, launch_plan, start_as, start_plan, is_threaded}
use Rattle.list_law.specs.Uses.{attribute_at, extension_at}
use Rattle.qpu_machine.specs.Qpu.{free_in}
use Rattle.machine.specs.Step.{Event, with_lists, ready, turn, is_enabled, is_ahead, binner_may as may_bin, renderer_may}
use Rattle.machine.specs.State.{Units, renderer_job}
use Rattle.job_safety.proofs.{Packets.AllSafe, Steps.first_step, Steps.mapped_accesses}
use Rattle.strength_law.specs.Vertices.{IsAtWork, IsAtListed, ItemReadsPastAreUnsafe, BinnerFetches, RendererFetches, Fetches, index_place, index_of, IndexesPastAreUnsafe, IsOfAttribute, AttributesPastAreUnsafe, BinnerStarts, choice_of, threaded_by, RendererStarts, IsOfRecord, RecordsPastAreUnsafe}

-- the job of a unit may reach these bytes
abbrev pub MayReach : List Rights → Who → ℕ → ℕ → Type 0
MayReach jobs who place len = Inside (rights_of jobs who.job).region place len

-- the binner with a primitive in work
at_work : (lists : Lists) (free : Free) (words : List ℕ) (work : Work) → lists.binner.work ≡ Some work → binner_plan lists free words ≡ work_plan lists work free words
unfolding binner_plan
at_work lists free words work is = ap (λ w. binner_by lists w free words) is

work_step : (jobs : List Rights) (m : List ℕ) (u : Units) (j : ℕ) (lists : Lists) (work : Work) (words : List ℕ) → IsAtWork m u j lists work → Safe ready turn jobs m u
    → AllSafe jobs (binner_of j) m (work_plan lists work (free_in u.qpus) words)
unfolding turn ready is_enabled
work_step jobs m u j lists work words at safe =
    let e : Event = record { unit = TheBinner; words = words } in
    let is : (outcome_of (turn u e).who (turn u e).plan m).accesses ≡ (outcome_of (binner_of j) (work_plan lists work (free_in u.qpus) words) m).accesses =
    rw at.job_is (mapped_accesses (with_lists u j) (binner_of j) (binner_plan lists (free_in u.qpus) words) m
    ∙ ap (λ plan. (outcome_of (binner_of j) plan m).accesses) (at_work lists (free_in u.qpus) words work at.work_is)) in
    subst (Every (IsSafeAccess jobs)) is (first_step jobs m u e at.may safe)

-- the renderer at an item
at_listed : (lists : Lists) (free : Free) (words : List ℕ) (sub : SubList) (found : Found) → lists.renderer.inside ≡ Some sub → item_at sub lists.items ≡ Some found
    → renderer_plan lists free words ≡ found_plan lists free words sub (Some found)
unfolding renderer_plan
at_listed lists free words sub found inside is = ap (λ s. plan_in lists free words s) inside ∙ ap (λ f. found_plan lists free words sub f) is

may_go_on : (lists : Lists) (m : List ℕ) (sub : SubList) → lists.renderer.inside ≡ Some sub → IsTrue (glance_result (renderer_ready lists) m)
unfolding renderer_ready
may_go_on lists m sub inside = ap (λ s. glance_result (ready_in lists s) m) inside

listed_step : (jobs : List Rights) (m : List ℕ) (u : Units) (j : ℕ) (lists : Lists) (sub : SubList) (found : Found) (words : List ℕ) → IsAtListed u j lists sub found → Safe ready turn jobs m u
    → AllSafe jobs (renderer_of j) m (found_plan lists (free_in u.qpus) words sub (Some found))
unfolding turn ready
listed_step jobs m u j lists sub found words at safe =
    let e : Event = record { unit = TheRenderer; words = words } in
    let may : IsTrue (glance_result (ready u e) m) = subst (λ job. IsTrue (glance_result (renderer_may job) m)) (sym at.job_is) (may_go_on lists m sub at.inside_is) in
    let is : (outcome_of (turn u e).who (turn u e).plan m).accesses ≡ (outcome_of (renderer_of j) (found_plan lists (free_in u.qpus) words sub (Some found)) m).accesses =
    rw at.job_is (mapped_accesses (with_lists u j) (renderer_of j) (renderer_plan lists (free_in u.qpus) words) m
    ∙ ap (λ plan. (outcome_of (renderer_of j) plan m).accesses) (at_listed lists (free_in u.qpus) words sub found at.inside_is at.found_is)) in
    subst (Every (IsSafeAccess jobs)) is (first_step jobs m u e may safe)

pub item_reads_past_law : ItemReadsPastAreUnsafe
item_reads_past_law jobs m u j lists sub found at past safe = past (listed_step jobs m u j lists sub found [] at safe).0.inside

-- a plan before another one, and one whose result is handed on
front_safe : {R T : Type 0} (jobs : List Rights) (who : Who) (plan : Plan R) (further : R → Plan T) (m : List ℕ) → AllSafe jobs who m (plan_followed plan further) → AllSafe jobs who m plan
front_safe jobs who (Done r) further m all = tt
front_safe jobs who Wilds further m all = all
front_safe jobs who (Reads place len next) further m all = (all.0, front_safe jobs who (next (bytes_at m place len)) further m all.1)
front_safe jobs who (Looks place len next) further m all = front_safe jobs who (next (bytes_at m place len)) further m all
front_safe jobs who (Writes place bytes next) further m all = (all.0, front_safe jobs who next further (bytes_stored m place bytes) all.1)

unmapped : {R T : Type 0} (jobs : List Rights) (put : R → T) (who : Who) (plan : Plan R) (m : List ℕ) → AllSafe jobs who m (plan_mapped put plan) → AllSafe jobs who m plan
unmapped jobs put who plan m all = subst (Every (IsSafeAccess jobs)) (mapped_accesses put who plan m) all

-- the index
index_read : (jobs : List Rights) (who : Who) (m : List ℕ) (p : Primitive) (number : ℕ) → p.indexed ≡ true → AllSafe jobs who m (index_plan p number) → MayReach jobs who (index_place p number) (index_size p)
unfolding index_plan
index_read jobs who m p number indexed all =
    (subst (λ b. AllSafe jobs who m (if b then Reads (index_place p number) (index_size p) (λ bytes. Done (index_in p bytes)) else Done ((p.address + number) % 2 ^ 32))) indexed all).0.inside

index_by : (jobs : List Rights) (who : Who) (m : List ℕ) (p : Primitive) (number : ℕ) (further : ℕ → Plan ℕ) (indexed : Bool)
    → AllSafe jobs who m (plan_followed (if indexed then Reads (index_place p number) (index_size p) (λ bytes. Done (index_in p bytes)) else Done ((p.address + number) % 2 ^ 32)) further)
    → AllSafe jobs who m (further (if indexed then index_in p (bytes_at m (index_place p number) (index_size p)) else (p.address + number) % 2 ^ 32))
index_by jobs who m p number further true all = all.1
index_by jobs who m p number further false all = all

index_done : (jobs : List Rights) (who : Who) (m : List ℕ) (p : Primitive) (number : ℕ) (further : ℕ → Plan ℕ) → AllSafe jobs who m (plan_followed (index_plan p number) further) → AllSafe jobs who m (further (index_of m p number))
unfolding index_plan
index_done jobs who m p number further all = index_by jobs who m p number further p.indexed all

-- an attribute
extended_by : (jobs : List Rights) (who : Who) (m : List ℕ) (state index attribute : ℕ) (further : ℕ → Plan ℕ) (bytes : List ℕ) (extended : Bool)
    → AllSafe jobs who m (plan_followed (if extended then Reads (extension_place state attribute) 4 (λ extension. data_plan bytes (u32_at extension 0) index) else data_plan bytes 0 index) further)
    → MayReach jobs who (data_place bytes (if extended then u32_at (bytes_at m (extension_place state attribute) 4) 0 else 0) index) (data_size bytes) × AllSafe jobs who m (further index)
unfolding data_plan
extended_by jobs who m state index attribute further bytes true all = (all.1.0.inside, all.1.1)
extended_by jobs who m state index attribute further bytes false all = (all.0.inside, all.1)

attribute_done : (jobs : List Rights) (who : Who) (m : List ℕ) (state index attribute : ℕ) (further : ℕ → Plan ℕ) → AllSafe jobs who m (plan_followed (attribute_plan state index attribute) further)
    → MayReach jobs who (data_place (attribute_at m state attribute) (extension_at m state attribute) index) (data_size (attribute_at m state attribute)) × AllSafe jobs who m (further index)
unfolding attribute_plan extended_plan
attribute_done jobs who m state index attribute further all = extended_by jobs who m state index attribute further (attribute_at m state attribute) (is_extended state) all.1

-- what is read of one attribute: its bytes, the extension, the data
pub record IsReached (jobs : List Rights) (who : Who) (m : List ℕ) (state index attribute : ℕ) : Type 0 where
  pub bytes : MayReach jobs who (attribute_place state attribute) 8
  pub extension : is_extended state ≡ true → MayReach jobs who (extension_place state attribute) 4
  pub data_there : MayReach jobs who (data_place (attribute_at m state attribute) (extension_at m state attribute) index) (data_size (attribute_at m state attribute))

extension_read : (jobs : List Rights) (who : Who) (m : List ℕ) (state index attribute : ℕ) (bytes : List ℕ) → is_extended state ≡ true → AllSafe jobs who m (extended_plan state index attribute bytes)
    → MayReach jobs who (extension_place state attribute) 4
unfolding extended_plan
extension_read jobs who m state index attribute bytes is all =
    (subst (λ b. AllSafe jobs who m (if b then Reads (extension_place state attribute) 4 (λ extension. data_plan bytes (u32_at extension 0) index) else data_plan bytes 0 index)) is all).0.inside

attribute_reached : (jobs : List Rights) (who : Who) (m : List ℕ) (state index attribute : ℕ) (further : ℕ → Plan ℕ) → AllSafe jobs who m (plan_followed (attribute_plan state index attribute) further)
    → IsReached jobs who m state index attribute
unfolding attribute_plan
attribute_reached jobs who m state index attribute further all =
    let front = front_safe jobs who (attribute_plan state index attribute) further m all in
    record {
      bytes = front.0.inside;
      extension = λ is. extension_read jobs who m state index attribute (attribute_at m state attribute) is front.1;
      data_there = (attribute_done jobs who m state index attribute further all).0;
    }

attributes_reached : (jobs : List Rights) (who : Who) (m : List ℕ) (state first n index k : ℕ) → k < n → AllSafe jobs who m (attributes_plan state first n index) → IsReached jobs who m state index (first + k)
unfolding attributes_plan
attributes_reached jobs who m state first zero index k few all = absurd (omega (arith, few))
attributes_reached jobs who m state first (suc n) index zero few all =
    let here : first ≡ first + 0 = omega arith in
    subst (IsReached jobs who m state index) here (attribute_reached jobs who m state index first (attributes_plan state (first + 1) n) all)
attributes_reached jobs who m state first (suc n) index (suc k) few all =
    let next : first + 1 + k ≡ first + suc k = omega arith in
    subst (IsReached jobs who m state index) next
    (attributes_reached jobs who m state (first + 1) n index k (omega (arith, few)) (attribute_done jobs who m state index first (attributes_plan state (first + 1) n) all).1)

drawn_by : (jobs : List Rights) (who : Who) (m : List ℕ) (draws_none : Bool) (index : ℕ) (plan : Plan ℕ) → draws_none ≡ false → AllSafe jobs who m (if draws_none then Done index else plan) → AllSafe jobs who m plan
drawn_by jobs who m true index plan is all = absurd cc
drawn_by jobs who m false index plan is all = all

vertex_reached : (jobs : List Rights) (who : Who) (m : List ℕ) (p : Primitive) (state number attribute : ℕ) → draws_nothing p (index_of m p number) ≡ false → attribute < attribute_count state
    → AllSafe jobs who m (fetch_plan p state number) → IsReached jobs who m state (index_of m p number) attribute
unfolding fetch_plan indexed_plan
vertex_reached jobs who m p state number attribute draws few all =
    let index : ℕ = index_of m p number in
    let counted : 0 + attribute ≡ attribute = omega arith in
    subst (IsReached jobs who m state index) counted
    (attributes_reached jobs who m state 0 (attribute_count state) index attribute few
    (drawn_by jobs who m (draws_nothing p index) index (attributes_plan state 0 (attribute_count state) index) draws (index_done jobs who m p number (indexed_plan p state) all)))

-- a unit that fetches, for its job
pub record IsFetched (jobs : List Rights) (m : List ℕ) (j : ℕ) (p : Primitive) (state number : ℕ) : Type 0 where
  pub who : Who
  pub job_is : who.job ≡ j
  pub all : AllSafe jobs who m (fetch_plan p state number)

more_is : (done length : ℕ) → done < length → nat_lt done length ≡ true
more_is done length more = grind (arith, nat_tests, more)

some_is : (length : ℕ) → 0 < length → (length == 0) ≡ false
some_is length some = grind (arith, nat_tests, some)

bin_fetched : (jobs : List Rights) (m : List ℕ) (u : Units) (j : ℕ) (p : Primitive) (state number : ℕ) (is : BinnerFetches m u j p state number) → Safe ready turn jobs m u
    → AllSafe jobs (binner_of j) m (fetch_plan is.work.primitive is.work.word is.work.done)
unfolding work_plan
bin_fetched jobs m u j p state number is safe =
    let w : Work = is.work in
    let plan : work_plan is.lists w (free_in u.qpus) [] ≡ plan_mapped (fetched_with is.lists w) (fetch_plan w.primitive w.word w.done) = rw (is.none_due, more_is w.done w.primitive.length is.more) refl in
    unmapped jobs (fetched_with is.lists w) (binner_of j) (fetch_plan w.primitive w.word w.done) m (subst (AllSafe jobs (binner_of j) m) plan (work_step jobs m u j is.lists w [] is.at safe))

render_fetched : (jobs : List Rights) (m : List ℕ) (u : Units) (j : ℕ) (p : Primitive) (state number : ℕ) (is : RendererFetches u j p state number) → Safe ready turn jobs m u
    → AllSafe jobs (renderer_of j) m (fetch_plan is.found.item.primitive is.found.item.word (word_at is.words 1 % is.found.item.primitive.length))
unfolding choice_plan vertex_plan
render_fetched jobs m u j p state number is safe =
    let here : Lists = at_item is.lists is.sub.tile is.found.number in
    let fetch : Plan ℕ = fetch_plan is.found.item.primitive is.found.item.word (word_at is.words 1 % is.found.item.primitive.length) in
    let plan : choice_plan is.lists (free_in u.qpus) is.words is.sub is.found ≡ plan_mapped (item_fetched here) fetch = rw (is.chosen, some_is is.found.item.primitive.length is.some) refl in
    unmapped jobs (item_fetched here) (renderer_of j) fetch m (subst (AllSafe jobs (renderer_of j) m) plan (listed_step jobs m u j is.lists is.sub is.found is.words is.at safe).1)

vertex_fetched : (jobs : List Rights) (m : List ℕ) (u : Units) (j : ℕ) (p : Primitive) (state number : ℕ) → Fetches m u j p state number → Safe ready turn jobs m u → IsFetched jobs m j p state number
vertex_fetched jobs m u j p state number (inl is) safe = record {
  who = binner_of j;
  job_is = refl;
  all = subst (λ n. AllSafe jobs (binner_of j) m (fetch_plan p state n)) is.number_is
      (subst (λ s. AllSafe jobs (binner_of j) m (fetch_plan p s is.work.done)) is.state_is
      (subst (λ q. AllSafe jobs (binner_of j) m (fetch_plan q is.work.word is.work.done)) is.primitive_is (bin_fetched jobs m u j p state number is safe)));
}
vertex_fetched jobs m u j p state number (inr is) safe = record {
  who = renderer_of j;
  job_is = refl;
  all = subst (λ n. AllSafe jobs (renderer_of j) m (fetch_plan p state n)) is.number_is
      (subst (λ s. AllSafe jobs (renderer_of j) m (fetch_plan p s (word_at is.words 1 % is.found.item.primitive.length))) is.state_is
      (subst (λ q. AllSafe jobs (renderer_of j) m (fetch_plan q is.found.item.word (word_at is.words 1 % is.found.item.primitive.length))) is.primitive_is (render_fetched jobs m u j p state number is safe)));
}

-- what a job may reach, by its number
by_job : (jobs : List Rights) (who : Who) (j place len : ℕ) → who.job ≡ j → MayReach jobs who place len → Inside (rights_of jobs j).region place len
by_job jobs who j place len is may = subst (λ n. Inside (rights_of jobs n).region place len) is may

pub indexes_past_law : IndexesPastAreUnsafe
unfolding fetch_plan
indexes_past_law jobs m u j p state number fetches indexed past safe =
    let is : IsFetched jobs m j p state number = vertex_fetched jobs m u j p state number fetches safe in
    past (by_job jobs is.who j (index_place p number) (index_size p) is.job_is
    (index_read jobs is.who m p number indexed (front_safe jobs is.who (index_plan p number) (indexed_plan p state) m is.all)))

part_reached : (jobs : List Rights) (who : Who) (m : List ℕ) (state index attribute place len : ℕ) → IsOfAttribute m state index attribute place len
    → IsReached jobs who m state index attribute → MayReach jobs who place len
part_reached jobs who m state index attribute place len (inl is) reached = rw (is.0, is.1) reached.bytes
part_reached jobs who m state index attribute place len (inr (inl is)) reached = rw (is.1.0, is.1.1) (reached.extension is.0)
part_reached jobs who m state index attribute place len (inr (inr is)) reached = rw (is.0, is.1) reached.data_there

pub attributes_past_law : AttributesPastAreUnsafe
attributes_past_law jobs m u j p state number attribute fetches draws few place len part past safe =
    let is : IsFetched jobs m j p state number = vertex_fetched jobs m u j p state number fetches safe in
    past (by_job jobs is.who j place len is.job_is
    (part_reached jobs is.who m state (index_of m p number) attribute place len part (vertex_reached jobs is.who m p state number attribute draws few is.all)))

-- the start of a program
launch_reads : (jobs : List Rights) (who : Who) (m : List ℕ) (program : Program) (threaded : Bool) (state place len : ℕ) → IsOfRecord program state place len
    → AllSafe jobs who m (launch_plan program threaded state) → MayReach jobs who place len
unfolding launch_plan
launch_reads jobs who m program threaded state place len (inl is) all = rw (is.0, is.1) all.0.inside
launch_reads jobs who m program threaded state place len (inr (inl is)) all = rw (is.0, is.1) all.1.0.inside
launch_reads jobs who m program threaded state place len (inr (inr is)) all = rw (is.0, is.1) all.1.1.0.inside

started : (jobs : List Rights) (who : Who) (m : List ℕ) (program : Program) (threaded : Bool) (free : Free) (state : ℕ) → can_start threaded free ≡ true
    → AllSafe jobs who m (start_as program threaded free state) → AllSafe jobs who m (launch_plan program threaded state)
unfolding start_as
started jobs who m program threaded free state can all = subst (λ b. AllSafe jobs who m (if b then launch_plan program threaded state else Done None)) can all

start_reads : (jobs : List Rights) (who : Who) (m : List ℕ) (program : Program) (free : Free) (state : ℕ) → can_start (threaded_by m program state) free ≡ true
    → AllSafe jobs who m (start_plan program free state) → AllSafe jobs who m (launch_plan program (threaded_by m program state) state)
unfolding start_plan
start_reads jobs who m Fragment free state can all = started jobs who m Fragment (is_threaded (bytes_at m (record_place state) 2)) free state can all
start_reads jobs who m Vertex free state can all = started jobs who m Vertex false free state can all
start_reads jobs who m Coordinate free state can all = started jobs who m Coordinate false free state can all

-- the binner may step where its program can start
unheld : (m : List ℕ) (held may : Bool) → IsTrue (glance_result (if held then Now false else Now may) m) → may ≡ true
unheld m true may is = absurd cc
unheld m false may is = is

may_start : (lists : Lists) (free : Free) (w : Work) → w.due ≡ true → binner_may lists (Some w) free ≡ can_start false free
unfolding work_may
may_start lists free w due = rw due refl

due_can : (m : List ℕ) (u : Units) (j : ℕ) (lists : Lists) (w : Work) → IsAtWork m u j lists w → w.due ≡ true → can_start false (free_in u.qpus) ≡ true
unfolding is_enabled binner_ready
due_can m u j lists w at due =
    let held : Bool = is_ahead j (renderer_job u) in
    let picked : IsTrue (glance_result (if held then Now false else Now (binner_may lists lists.binner.work (free_in u.qpus))) m) =
    subst (λ job. IsTrue (glance_result (may_bin u job) m)) at.job_is at.may in
    let may : IsTrue (glance_result (if held then Now false else Now (binner_may lists (Some w) (free_in u.qpus))) m) =
    subst (λ x. IsTrue (glance_result (if held then Now false else Now (binner_may lists x (free_in u.qpus))) m)) at.work_is picked in
    sym (may_start lists (free_in u.qpus) w due) ∙ unheld m held (binner_may lists (Some w) (free_in u.qpus)) may

bin_starts : (jobs : List Rights) (m : List ℕ) (u : Units) (j : ℕ) (program : Program) (state : ℕ) (is : BinnerStarts m u j program state) → Safe ready turn jobs m u
    → AllSafe jobs (binner_of j) m (launch_plan Coordinate false is.work.word)
unfolding work_plan
bin_starts jobs m u j program state is safe =
    let w : Work = is.work in
    let plan : work_plan is.lists w (free_in u.qpus) [] ≡ plan_mapped (started_with is.lists w) (start_plan Coordinate (free_in u.qpus) w.word) = rw is.due refl in
    start_reads jobs (binner_of j) m Coordinate (free_in u.qpus) w.word (due_can m u j is.lists w is.at is.due)
    (unmapped jobs (started_with is.lists w) (binner_of j) (start_plan Coordinate (free_in u.qpus) w.word) m (subst (AllSafe jobs (binner_of j) m) plan (work_step jobs m u j is.lists w [] is.at safe)))

chosen_start : (lists : Lists) (free : Free) (words : List ℕ) (sub : SubList) (found : Found) (program : Program) → word_at words 0 % 4 ≡ choice_of program
    → choice_plan lists free words sub found ≡ plan_mapped (turned_to (at_item lists sub.tile found.number)) (start_plan program free found.item.word)
unfolding choice_plan program_plan
chosen_start lists free words sub found Vertex is = rw is refl
chosen_start lists free words sub found Fragment is = rw is refl
chosen_start lists free words sub found Coordinate is = absurd (omega (arith, is))

render_starts : (jobs : List Rights) (m : List ℕ) (u : Units) (j : ℕ) (program : Program) (state : ℕ) (is : RendererStarts m u j program state) → Safe ready turn jobs m u
    → AllSafe jobs (renderer_of j) m (launch_plan program (threaded_by m program state) state)
render_starts jobs m u j program state is safe =
    let here : Lists = at_item is.lists is.sub.tile is.found.number in
    let start : Plan (Option Launch) = start_plan program (free_in u.qpus) is.found.item.word in
    let plan = chosen_start is.lists (free_in u.qpus) is.words is.sub is.found program is.chosen in
    let all : AllSafe jobs (renderer_of j) m start =
    unmapped jobs (turned_to here) (renderer_of j) start m (subst (AllSafe jobs (renderer_of j) m) plan (listed_step jobs m u j is.lists is.sub is.found is.words is.at safe).1) in
    start_reads jobs (renderer_of j) m program (free_in u.qpus) state is.can (subst (λ s. AllSafe jobs (renderer_of j) m (start_plan program (free_in u.qpus) s)) is.state_is all)

pub records_past_law : RecordsPastAreUnsafe
records_past_law jobs m u j program state (inl is) place len of_record past safe =
    let all : AllSafe jobs (binner_of j) m (launch_plan Coordinate false state) = subst (λ s. AllSafe jobs (binner_of j) m (launch_plan Coordinate false s)) is.state_is (bin_starts jobs m u j program state is safe) in
    past (launch_reads jobs (binner_of j) m program false state place len of_record (subst (λ p. AllSafe jobs (binner_of j) m (launch_plan p false state)) is.program_is all))
records_past_law jobs m u j program state (inr is) place len of_record past safe =
    past (launch_reads jobs (renderer_of j) m program (threaded_by m program state) state place len of_record (render_starts jobs m u j program state is safe))
