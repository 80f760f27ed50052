-- A step of a processor or a texture unit that reaches outside is not safe.
use Rattle.std.proofs.Common.{◌≡◌, ◌<◌, ℕ, zero, suc, ◌-◌, ◌%◌, Bool, IsTrue, true, false, List, [], ◌∷◌, ◌++◌, length, Some, None, refl, ap, subst, ◌∙◌, arith}
use Rattle.std.proofs.lemmas.Bool.Decides.{nat_tests}
use Rattle.std.specs.Prelude.{Option, IfSome, nat_lt, slice_index, if◌then◌else◌}
use Rattle.field_words.specs.declared.access.{Access.Access, Actor.TheVariants.Qpu as TheQpu, Actor.TheVariants.Tmu as TheTmu}
use Rattle.field_words.specs.Words.{u32_at}
use Rattle.machine_plan.specs.{declared.who.Who.Who, Memory.bytes_at, Plan.Plan, Plan.Wilds, Plan.outcome_of}
use Rattle.machine_plan.specs.{Glance.glance_result, Runs.state_reached, World.Safe, World.plan_mapped}
use Rattle.machine_plan.specs.Regions.{Every, Inside, Rights, rights_of, IsSafeAccess}
use Rattle.machine_plan.proofs.{Runs.every-front, Worlds.carried_mapped}
use Rattle.qpu_machine.specs.Request.{direct_plan, chosen_place, chosen_length, read_at, texture_reads, is_undefined, texture_plan, ask_plan}
use Rattle.qpu_machine.specs.declared.state.{Request.Request, Thread.Thread}
use Rattle.qpu_machine.specs.{Qpu.went, Qpu.plan_by, Qpu.after_service, Qpu.serving, Step.thread_plan}
use Rattle.texture_layouts.specs.Setup.{TextureModel, texture_of}
use Rattle.machine.specs.{State.Units, State.State, Step.Event, Step.with_qpu, Step.ready, Step.turn, Step.step, Step.is_enabled}
use Rattle.job_safety.specs.Strength.{IsPast, IsActive, CodePastIsUnsafe, IsOldest, DirectReadsPastAreUnsafe, IsChosenPast, TexturesPastAreUnsafe}

-- each access of the first step of a safe machine is safe
pub first_step : (jobs : List Rights) (m : List ℕ) (u : Units) (e : Event) → IsTrue (glance_result (ready u e) m) → Safe ready turn jobs m u
    → Every (IsSafeAccess jobs) (outcome_of (turn u e).who (turn u e).plan m).accesses
first_step jobs m u e may safe =
    let start : State = record { memory = m; units = u } in
    let found : List Access = (step start e).accesses ++ [] in
    let all = safe.every_run (e ∷ []) found (state_reached step start (e ∷ [])) (record { allowed = (may, tt); accesses = refl; last = refl }) in
    every-front (IsSafeAccess jobs) (step start e).accesses [] all.accesses

-- the accesses of a plan with its result handed on
pub mapped_accesses : {R T : Type 0} (put : R → T) (who : Who) (plan : Plan R) (m : List ℕ) → (outcome_of who (plan_mapped put plan) m).accesses ≡ (outcome_of who plan m).accesses
mapped_accesses put who plan m = ap (λ o. o.accesses) (carried_mapped put who plan m)

-- the active thread of a processor
pub thread_step : (jobs : List Rights) (m : List ℕ) (u : Units) (k : ℕ) (thread : Thread) → IsActive m u k thread → Safe ready turn jobs m u
    → Every (IsSafeAccess jobs) (outcome_of (record { unit = TheQpu k; job = thread.job }) (thread_plan thread []) m).accesses
unfolding turn ready is_enabled
thread_step jobs m u k thread at safe =
    let e : Event = record { unit = TheQpu k; words = [] } in
    let who : Who = record { unit = TheQpu k; job = thread.job } in
    let is : (outcome_of (turn u e).who (turn u e).plan m).accesses ≡ (outcome_of who (thread_plan thread []) m).accesses =
    rw (at.qpu_is, at.active_is) (mapped_accesses (with_qpu u k) who (plan_by (Some thread) at.qpu []) m ∙ mapped_accesses (went at.qpu thread) who (thread_plan thread []) m) in
    subst (Every (IsSafeAccess jobs)) is (first_step jobs m u e at.may safe)

pub code_past_law : CodePastIsUnsafe
unfolding thread_plan
code_past_law jobs m u k thread at past safe = past (thread_step jobs m u k thread at safe).0.inside

-- there are two texture units
is_unit : (n : ℕ) → n < 2 → nat_lt n 2 ≡ true
is_unit n below = grind (arith, nat_tests)

-- the oldest request of a texture unit
pub request_step : (jobs : List Rights) (m : List ℕ) (u : Units) (k unit : ℕ) (request : Request) (words : List ℕ) → IsOldest u k unit request → Safe ready turn jobs m u
    → Every (IsSafeAccess jobs) (outcome_of (record { unit = TheTmu k unit; job = request.job }) (ask_plan request.ask words) m).accesses
unfolding turn ready
request_step jobs m u k unit request words at safe =
    let e : Event = record { unit = TheTmu k unit; words = words } in
    let who : Who = record { unit = TheTmu k unit; job = request.job } in
    let is : (outcome_of (turn u e).who (turn u e).plan m).accesses ≡ (outcome_of who (ask_plan request.ask words) m).accesses =
    rw (at.qpu_is, at.oldest_is) (mapped_accesses (with_qpu u k) who (serving (Some request) at.qpu unit words) m ∙ mapped_accesses (after_service at.qpu unit request) who (ask_plan request.ask words) m) in
    subst (Every (IsSafeAccess jobs)) is (first_step jobs m u e (rw (at.qpu_is, is_unit unit at.unit_is, at.oldest_is) refl) safe)

-- each word of a direct request
direct_reads : (jobs : List Rights) (who : Who) (m row found : List ℕ) (i : ℕ) → i < length row → Every (IsSafeAccess jobs) (outcome_of who (direct_plan row found) m).accesses
    → Inside (rights_of jobs who.job).region (slice_index row i - slice_index row i % 4) 4
unfolding direct_plan
direct_reads jobs who m [] found i inside all = absurd (omega (arith, inside))
direct_reads jobs who m (address ∷ row) found zero inside all = all.0.inside
direct_reads jobs who m (address ∷ row) found (suc i) inside all =
    direct_reads jobs who m row (found ++ (u32_at (bytes_at m (address - address % 4) 4) 0 ∷ [])) i (omega arith) all.1

pub direct_reads_past_law : DirectReadsPastAreUnsafe
direct_reads_past_law jobs m u k unit request at row is i inside past safe =
    let who : Who = record { unit = TheTmu k unit; job = request.job } in
    let served = subst (λ ask. Every (IsSafeAccess jobs) (outcome_of who (ask_plan ask []) m).accesses) is (request_step jobs m u k unit request [] at safe) in
    past (direct_reads jobs who m row [] i inside (subst (Every (IsSafeAccess jobs)) (mapped_accesses Some who (direct_plan row []) m) served))

-- the first read of a texture
read_past : {R : Type 0} (jobs : List Rights) (who : Who) (m : List ℕ) (chosen : Option ℕ) (len : ℕ) (next : Plan R) → IfSome chosen (λ place. IsPast jobs who.job place len)
    → Every (IsSafeAccess jobs) (outcome_of who (read_at chosen len next) m).accesses → ⊥
read_past jobs who m None len next past all = all.0.tame refl
read_past jobs who m (Some place) len next past all = past all.0.inside

texture_past : (jobs : List Rights) (who : Who) (m : List ℕ) (texture : TextureModel) (words : List ℕ) → IsChosenPast jobs who.job texture words
    → Every (IsSafeAccess jobs) (outcome_of who (texture_reads texture words 0 128) m).accesses → ⊥
unfolding texture_reads
texture_past jobs who m texture words past all = read_past jobs who m (chosen_place texture words 0) (chosen_length texture words 0) (texture_reads texture words 1 127) past all

pub undefined_or : {R : Type 0} (jobs : List Rights) (who : Who) (m : List ℕ) (undefined : Bool) (plan : Plan R) → Every (IsSafeAccess jobs) (outcome_of who (if undefined then Wilds else plan) m).accesses
    → Every (IsSafeAccess jobs) (outcome_of who plan m).accesses
undefined_or jobs who m true plan all = absurd (all.0.tame refl)
undefined_or jobs who m false plan all = all

pub textures_past_law : TexturesPastAreUnsafe
unfolding texture_plan
textures_past_law jobs m u k unit request at four is words past safe =
    let who : Who = record { unit = TheTmu k unit; job = request.job } in
    let texture : TextureModel = texture_of (slice_index four 0) (slice_index four 1) (slice_index four 2) (slice_index four 3) in
    let served = subst (λ ask. Every (IsSafeAccess jobs) (outcome_of who (ask_plan ask words) m).accesses) is (request_step jobs m u k unit request words at safe) in
    texture_past jobs who m texture words past
    (undefined_or jobs who m (is_undefined (slice_index four 0) (slice_index four 1) (slice_index four 2) (slice_index four 3)) (texture_reads texture words 0 128) served)
