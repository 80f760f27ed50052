-- The laws of machines of any units, also while others write: what units owe makes every run safe, and makes bytes outside the jobs'
-- regions be without effect.
use Rattle.std.proofs.Common.{◌≡◌, ℕ, Bool, IsTrue, List, [], ◌∷◌, ◌++◌, length, slice_index, map, refl, sym, ◌∙◌, ap, subst}
use Rattle.std.specs.Prelude.{unwrap_or}
use Rattle.field_words.specs.declared.access.Access.{Access}
use Rattle.machine_plan.specs.Regions.{Inside, IsIn, Every, Rights, rights_of, regions_joined, IsSafeAccess, IsOutside, HasReadOnly, Agree}
use Rattle.machine_plan.specs.Others.{Happening, Steps, Changes, MayHappen, happen, AllMayHappen, OthersRun, IsLeft, IsSafeAmong, SafeAmong, IsAlike, AreAlike, SameAmong}
use Rattle.machine_plan.specs.{declared.who.Who.Who, Glance.Glance, Glance.glance_result, Plan.Plan, Plan.outcome_of, Plan.Keeps}
use Rattle.machine_plan.specs.Runs.{Allowed, Run, found_by, state_reached}
use Rattle.machine_plan.specs.World.{World, Turn, world_may, world_step, Safe, Same, Owes}
use Rattle.machine_plan.proofs.Plans.{SameBut, footprint, kept, length-carried, keeps_accesses, keeps_looks, keeps_weaker}
use Rattle.machine_plan.proofs.Runs.{every-append, every-front, every-back}
use Rattle.machine_plan.proofs.{Safe.joined_covers, Safe.all_safe_miss, Worlds.glance_alike, Worlds.keeps_result}

-- what is known of a state to which a run comes
pub record Holds {U : Type 0} (jobs : List Rights) (first : List ℕ) (I : U → Type 0) (w : World U) : Type 0 where
  pub units : I w.units
  pub has : HasReadOnly jobs first w.memory

-- a turn of safe accesses leaves what no job may write
turn_left : {U : Type 0} (jobs : List Rights) (t : Turn U) (m : List ℕ) (p : ℕ) → IsOutside jobs p → Every (IsSafeAccess jobs) (outcome_of t.who t.plan m).accesses
    → slice_index (outcome_of t.who t.plan m).memory p ≡ slice_index m p
turn_left jobs t m p out safe = kept t.who t.plan m p (all_safe_miss jobs p out (outcome_of t.who t.plan m).accesses safe)

-- what happens keeps what is known, and makes safe accesses alone
happen_holds : {U E : Type 0} (ready : U → E → Glance Bool) (turn : U → E → Turn U) (jobs : List Rights) (first : List ℕ) (I : U → Type 0) → Owes ready turn jobs first I
    → (w : World U) (one : Happening E) → Holds jobs first I w → MayHappen ready jobs w one → Holds jobs first I (happen turn w one).state × Every (IsSafeAccess jobs) (happen turn w one).accesses
happen_holds ready turn jobs first I owes w (Steps e) holds may =
    let t = turn w.units e in
    let L = Inside (rights_of jobs t.who.job).region in
    let keeps = owes.keeps w.units w.memory e holds.units holds.has may in
    let safe : Every (IsSafeAccess jobs) (outcome_of t.who t.plan w.memory).accesses = keeps_accesses t.who L (IsSafeAccess jobs) (λ k next. I next) t.plan w.memory keeps in (
      record {
        units = keeps_result t.who L (IsSafeAccess jobs) I (λ wild. wild.tame refl) t.plan w.memory t.wild keeps;
        has = record {
          long = length-carried t.who t.plan w.memory ∙ holds.has.long;
          same = λ p lies out. turn_left jobs t w.memory p out safe ∙ holds.has.same p lies out;
        };
      },
      safe,
    )
happen_holds ready turn jobs first I owes w (Changes m) holds changed = (
  record {
    units = holds.units;
    has = record {
      long = changed.long ∙ holds.has.long;
      same = λ p lies out. changed.same p lies out ∙ holds.has.same p lies out;
    };
  },
  tt,
)

pub run_holds : {U E : Type 0} (ready : U → E → Glance Bool) (turn : U → E → Turn U) (jobs : List Rights) (first : List ℕ) (I : U → Type 0) → Owes ready turn jobs first I
    → (happenings : List (Happening E)) (w : World U) → Holds jobs first I w → AllMayHappen ready turn jobs w happenings
    → Holds jobs first I (state_reached (happen turn) w happenings) × Every (IsSafeAccess jobs) (found_by (happen turn) w happenings)
run_holds ready turn jobs first I owes [] w holds may = (holds, tt)
run_holds ready turn jobs first I owes (one ∷ later) w holds may =
    let now = happen_holds ready turn jobs first I owes w one holds may.0 in
    let rest = run_holds ready turn jobs first I owes later (happen turn w one).state now.0 may.1 in
    (rest.0, every-append (IsSafeAccess jobs) (happen turn w one).accesses (found_by (happen turn) (happen turn w one).state later) now.1 rest.1)

-- no run changes the memory's length
run_long : {U E : Type 0} (ready : U → E → Glance Bool) (turn : U → E → Turn U) (jobs : List Rights) (happenings : List (Happening E)) (w : World U) → AllMayHappen ready turn jobs w happenings
    → length (state_reached (happen turn) w happenings).memory ≡ length w.memory
run_long ready turn jobs [] w may = refl
run_long ready turn jobs (Steps e ∷ later) w may = run_long ready turn jobs later (world_step turn w e).state may.1 ∙ length-carried (turn w.units e).who (turn w.units e).plan w.memory
run_long ready turn jobs (Changes m ∷ later) w may = run_long ready turn jobs later (record { memory = m; units = w.units }) may.1 ∙ may.0.long

-- a run of safe accesses leaves what no job may write, where the others do
run_left : {U E : Type 0} (turn : U → E → Turn U) (jobs : List Rights) (p : ℕ) → IsOutside jobs p → (happenings : List (Happening E)) (w : World U) → Every (IsSafeAccess jobs) (found_by (happen turn) w happenings)
    → IsLeft turn p w happenings → slice_index (state_reached (happen turn) w happenings).memory p ≡ slice_index w.memory p
run_left turn jobs p out [] w safe left = refl
run_left turn jobs p out (Steps e ∷ later) w safe left =
    let now = world_step turn w e in
    let rest : List Access = found_by (happen turn) now.state later in
    run_left turn jobs p out later now.state (every-back (IsSafeAccess jobs) now.accesses rest safe) left
    ∙ turn_left jobs (turn w.units e) w.memory p out (every-front (IsSafeAccess jobs) now.accesses rest safe)
run_left turn jobs p out (Changes m ∷ later) w safe left = run_left turn jobs p out later (record { memory = m; units = w.units }) safe left.1 ∙ left.0

-- so it is safe
run_safe : {U E : Type 0} (ready : U → E → Glance Bool) (turn : U → E → Turn U) (jobs : List Rights) (w : World U) (happenings : List (Happening E)) (found : List Access) (t : World U)
    → OthersRun ready turn jobs w happenings found t → Every (IsSafeAccess jobs) found → IsSafeAmong turn jobs w happenings found t.memory
run_safe ready turn jobs w happenings found t run safe = record {
  accesses = safe;
  long = ap (λ s. length s.memory) run.last ∙ run_long ready turn jobs happenings w run.allowed;
  kept = λ p out left. ap (λ s. slice_index s.memory p) run.last ∙ run_left turn jobs p out happenings w (subst (Every (IsSafeAccess jobs)) run.accesses safe) left;
}

-- What the units owe makes every run safe, from each memory that has what jobs may only read.
pub safe_law : {U E : Type 0} (ready : U → E → Glance Bool) (turn : U → E → Turn U) (jobs : List Rights) (first m : List ℕ) (I : U → Type 0) (start : U)
    → Owes ready turn jobs first I → HasReadOnly jobs first m → I start → SafeAmong ready turn jobs m start
safe_law {U = U} ready turn jobs first m I start owes has begins = record {
  every_run = λ happenings found t run.
      let w : World U = record { memory = m; units = start } in
      let ran = run_holds ready turn jobs first I owes happenings w (record { units = begins; has = has }) run.allowed in
      run_safe ready turn jobs w happenings found t run (subst (Every (IsSafeAccess jobs)) (sym run.accesses) ran.1);
}

-- two states that differ in memory alone, which agrees where jobs may reach
record Alike {U : Type 0} (jobs : List Rights) (w v : World U) : Type 0 where
  pub units : v.units ≡ w.units
  pub memory : Agree (regions_joined jobs) w.memory v.memory

-- what happens in the other state, and is alike
record GoesAlike {U E : Type 0} (ready : U → E → Glance Bool) (turn : U → E → Turn U) (jobs : List Rights) (w v : World U) (one other : Happening E) : Type 0 where
  pub may : MayHappen ready jobs v other
  pub accesses : (happen turn w one).accesses ≡ (happen turn v other).accesses
  pub alike : Alike jobs (happen turn w one).state (happen turn v other).state

plan_alike : {U : Type 0} (jobs : List Rights) (I : U → Type 0) (who : Who) (plan : Plan U) (m k : List ℕ) → Agree (regions_joined jobs) m k
    → Keeps who (Inside (rights_of jobs who.job).region) (IsSafeAccess jobs) (λ k next. I next) plan m → SameBut (regions_joined jobs) (outcome_of who plan m) (outcome_of who plan k)
plan_alike jobs I who plan m k agree keeps =
    let all = regions_joined jobs in
    let loose = keeps_weaker who (Inside (rights_of jobs who.job).region) (Inside all) (IsSafeAccess jobs) (IsIn all) (λ k next. I next) (λ _ _. Unit {0})
    (joined_covers jobs who.job) (λ a safe. joined_covers jobs a.job a.place a.len safe.inside) (λ _ _ _. tt) plan m keeps in
    footprint who all plan m k agree (keeps_looks who (Inside all) (IsIn all) (λ _ _. Unit {0}) plan m loose) (keeps_accesses who (Inside all) (IsIn all) (λ _ _. Unit {0}) plan m loose)

step_alike : {U E : Type 0} (ready : U → E → Glance Bool) (turn : U → E → Turn U) (jobs : List Rights) (first : List ℕ) (I : U → Type 0) → Owes ready turn jobs first I
    → (u : U) (m k : List ℕ) (e : E) → I u → HasReadOnly jobs first m → Agree (regions_joined jobs) m k → IsTrue (glance_result (ready u e) m)
    → GoesAlike ready turn jobs (record { memory = m; units = u }) (record { memory = k; units = u }) (Steps e) (Steps e)
step_alike ready turn jobs first I owes u m k e here has agree may =
    let t = turn u e in
    let same = plan_alike jobs I t.who t.plan m k agree (owes.keeps u m e here has may) in
    record {
      may = subst IsTrue (glance_alike (Inside (rights_of jobs t.who.job).region) (regions_joined jobs) (joined_covers jobs t.who.job) (ready u e) m k agree (owes.looks u m e here has)) may;
      accesses = same.accesses;
      alike = record { units = ap (λ r. unwrap_or r t.wild) (sym same.result); memory = same.memory };
    }

happen_alike : {U E : Type 0} (ready : U → E → Glance Bool) (turn : U → E → Turn U) (jobs : List Rights) (first : List ℕ) (I : U → Type 0) → Owes ready turn jobs first I
    → (w v : World U) (one other : Happening E) → Holds jobs first I w → Alike jobs w v → MayHappen ready jobs w one → IsAlike (regions_joined jobs) one other → GoesAlike ready turn jobs w v one other
happen_alike ready turn jobs first I owes w v (Steps e) (Steps d) holds alike may same =
    subst (λ other. GoesAlike ready turn jobs w v (Steps e) (Steps other)) same
    (subst (λ u. GoesAlike ready turn jobs w (record { memory = v.memory; units = u }) (Steps e) (Steps e)) (sym alike.units)
    (step_alike ready turn jobs first I owes w.units w.memory v.memory e holds.units holds.has alike.memory may))
happen_alike ready turn jobs first I owes w v (Changes m) (Changes k) holds alike may same = record {
  may = record {
    long = sym same.long ∙ may.long ∙ alike.memory.long;
    same = λ p lies out. sym (same.same p lies) ∙ may.same p lies out ∙ alike.memory.same p lies;
  };
  accesses = refl;
  alike = record { units = alike.units; memory = same };
}
happen_alike ready turn jobs first I owes w v (Steps e) (Changes k) holds alike may same = absurd same
happen_alike ready turn jobs first I owes w v (Changes m) (Steps d) holds alike may same = absurd same

-- and a whole run
record RanAlike {U E : Type 0} (ready : U → E → Glance Bool) (turn : U → E → Turn U) (jobs : List Rights) (w v : World U) (happenings others : List (Happening E)) : Type 0 where
  pub may : AllMayHappen ready turn jobs v others
  pub accesses : found_by (happen turn) w happenings ≡ found_by (happen turn) v others
  pub alike : Alike jobs (state_reached (happen turn) w happenings) (state_reached (happen turn) v others)

run_alike : {U E : Type 0} (ready : U → E → Glance Bool) (turn : U → E → Turn U) (jobs : List Rights) (first : List ℕ) (I : U → Type 0) → Owes ready turn jobs first I
    → (w v : World U) (happenings others : List (Happening E)) → Holds jobs first I w → Alike jobs w v → AllMayHappen ready turn jobs w happenings → AreAlike (regions_joined jobs) happenings others
    → RanAlike ready turn jobs w v happenings others
run_alike ready turn jobs first I owes w v [] [] holds alike may same = record { may = tt; accesses = refl; alike = alike }
run_alike ready turn jobs first I owes w v (one ∷ later) (other ∷ others) holds alike may same =
    let now = happen_alike ready turn jobs first I owes w v one other holds alike may.0 same.0 in
    let begun = happen_holds ready turn jobs first I owes w one holds may.0 in
    let rest = run_alike ready turn jobs first I owes (happen turn w one).state (happen turn v other).state later others begun.0 now.alike may.1 same.1 in
    record { may = (now.may, rest.may); accesses = cc; alike = rest.alike }
run_alike ready turn jobs first I owes w v [] (other ∷ others) holds alike may same = absurd same
run_alike ready turn jobs first I owes w v (one ∷ later) [] holds alike may same = absurd same

-- What the units owe makes bytes outside the jobs' regions be without effect.
pub same_law : {U E : Type 0} (ready : U → E → Glance Bool) (turn : U → E → Turn U) (jobs : List Rights) (first m : List ℕ) (I : U → Type 0) (start : U)
    → Owes ready turn jobs first I → HasReadOnly jobs first m → I start → SameAmong ready turn jobs m start
same_law {U = U} ready turn jobs first m I start owes has begins = record {
  every_memory = λ other agree happenings others found t same run.
      let w : World U = record { memory = m; units = start } in
      let v : World U = record { memory = other; units = start } in
      let ran = run_alike ready turn jobs first I owes w v happenings others (record { units = begins; has = has }) (record { units = refl; memory = agree }) run.allowed same in
      let ends : Alike jobs t (state_reached (happen turn) v others) = subst (λ s. Alike jobs s (state_reached (happen turn) v others)) (sym run.last) ran.alike in
      record {
        last = state_reached (happen turn) v others;
        run = record { allowed = ran.may; accesses = run.accesses ∙ ran.accesses; last = refl };
        units_alike = ends.units;
        memory_alike = ends.memory;
      };
}

-- a run of the machine is such a run, in which nobody else writes
steps_allowed : {U E : Type 0} (ready : U → E → Glance Bool) (turn : U → E → Turn U) (jobs : List Rights) (events : List E) (w : World U) → Allowed (world_may ready) (world_step turn) w events
    → AllMayHappen ready turn jobs w (map Steps events)
steps_allowed ready turn jobs [] w may = tt
steps_allowed ready turn jobs (e ∷ events) w may = (may.0, steps_allowed ready turn jobs events (world_step turn w e).state may.1)

allowed_steps : {U E : Type 0} (ready : U → E → Glance Bool) (turn : U → E → Turn U) (jobs : List Rights) (events : List E) (w : World U) → AllMayHappen ready turn jobs w (map Steps events)
    → Allowed (world_may ready) (world_step turn) w events
allowed_steps ready turn jobs [] w may = tt
allowed_steps ready turn jobs (e ∷ events) w may = (may.0, allowed_steps ready turn jobs events (world_step turn w e).state may.1)

steps_found : {U E : Type 0} (turn : U → E → Turn U) (events : List E) (w : World U) → found_by (world_step turn) w events ≡ found_by (happen turn) w (map Steps events)
steps_found turn [] w = refl
steps_found turn (e ∷ events) w = ap (λ found. (world_step turn w e).accesses ++ found) (steps_found turn events (world_step turn w e).state)

steps_reach : {U E : Type 0} (turn : U → E → Turn U) (events : List E) (w : World U) → state_reached (world_step turn) w events ≡ state_reached (happen turn) w (map Steps events)
steps_reach turn [] w = refl
steps_reach turn (e ∷ events) w = steps_reach turn events (world_step turn w e).state

steps_left : {U E : Type 0} (turn : U → E → Turn U) (p : ℕ) (events : List E) (w : World U) → IsLeft turn p w (map Steps events)
steps_left turn p [] w = tt
steps_left turn p (e ∷ events) w = steps_left turn p events (world_step turn w e).state

steps_alike : {U E : Type 0} (turn : U → E → Turn U) (jobs : List Rights) (events : List E) → AreAlike (regions_joined jobs) (map Steps events) (map Steps events)
steps_alike turn jobs [] = tt
steps_alike turn jobs (e ∷ events) = (refl, steps_alike turn jobs events)

pub run_others : {U E : Type 0} (ready : U → E → Glance Bool) (turn : U → E → Turn U) (jobs : List Rights) (w : World U) (events : List E) (found : List Access) (t : World U)
    → Run (world_may ready) (world_step turn) w events found t → OthersRun ready turn jobs w (map Steps events) found t
run_others ready turn jobs w events found t run = record {
  allowed = steps_allowed ready turn jobs events w run.allowed;
  accesses = run.accesses ∙ steps_found turn events w;
  last = run.last ∙ steps_reach turn events w;
}

-- so jobs that are safe while others write are safe
pub safe_alone : {U E : Type 0} (ready : U → E → Glance Bool) (turn : U → E → Turn U) (jobs : List Rights) (first : List ℕ) (start : U) → SafeAmong ready turn jobs first start → Safe ready turn jobs first start
safe_alone {U = U} ready turn jobs first start safe = record {
  every_run = λ events found t run.
      let w : World U = record { memory = first; units = start } in
      let among = safe.every_run (map Steps events) found t (run_others ready turn jobs w events found t run) in
      record { accesses = among.accesses; kept = record { long = among.long; same = λ p out. among.kept p out (steps_left turn p events w) } };
}

-- and so it is of bytes outside
pub same_alone : {U E : Type 0} (ready : U → E → Glance Bool) (turn : U → E → Turn U) (jobs : List Rights) (first : List ℕ) (start : U) → SafeAmong ready turn jobs first start → SameAmong ready turn jobs first start
    → Same ready turn jobs (regions_joined jobs) first start
same_alone {U = U} ready turn jobs first start safe same = record {
  every_memory = λ other agree events found t run.
      let v : World U = record { memory = other; units = start } in
      let all = map Steps events in
      let alone = (safe_alone ready turn jobs first start safe).every_run events found t run in
      let ran = same.every_memory other agree all all found t (steps_alike turn jobs events) (run_others ready turn jobs (record { memory = first; units = start }) events found t run) in
      let there = run_safe ready turn jobs v all found ran.last ran.run alone.accesses in (
        alone.kept,
        record {
          last = ran.last;
          run = record {
            allowed = allowed_steps ready turn jobs events v ran.run.allowed;
            accesses = ran.run.accesses ∙ sym (steps_found turn events v);
            last = ran.run.last ∙ sym (steps_reach turn events v);
          };
          units_alike = ran.units_alike;
          memory_alike = ran.memory_alike;
          kept = record { long = there.long; same = λ p out. there.kept p out (steps_left turn p events v) };
        },
      );
}
