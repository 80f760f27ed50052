-- A run that goes one step further.
use Rattle.std.proofs.Common.{◌≡◌, ◌≤◌, ◌<◌, ℕ, suc, ◌+◌, ◌-◌, Bool, IsTrue, true, false, List, [], ◌∷◌, ◌++◌, length, slice_index, Option, None, Some, refl, sym, ◌∙◌, ap, subst, append-nil, append_assoc, arith}
use Rattle.std.proofs.lemmas.List.Elements.{filter_passes, All-filter}
use Rattle.field_words.specs.{declared.access.Access.Access, declared.access.Actor.Actor}
use Rattle.std.specs.{List.range_with_len, Prelude.All, Prelude.filter}
use Rattle.machine_plan.specs.{Runs.Allowed, Runs.state_reached, World.Moves}
use Rattle.machine.specs.{State.State, Step.Event, Step.is_enabled, Step.may, Step.ready, Step.step, Step.job_of, Step.is_finished}
use Rattle.replay.specs.declared.trace.Ending.TheVariants.{Finished, Waiting, Spent}
use Rattle.replay.specs.Units.{unit_count, unit_at, word_count, enabled_units, is_of, units_preferred, candidates}
use Rattle.replay.specs.Run.{IsPicked, IsTurn, Follows, lines_of, accesses_numbered, accesses_of, IsEnded, IsOver, StepsBy, IsKept, HasMore, HasKept, HasTrace, HasLog}
use Rattle.replay.specs.{declared.logged.Kept.Kept, declared.logged.Log.Log, declared.trace.Ending.Ending, declared.trace.Trace.Trace}
use Rattle.replay.specs.{declared.trace.TraceLine.TraceLine, declared.units.UnitKind.UnitKind, Trace.line_of}

-- a unit among those that may step may step, also among the favoured ones
all_may : (s : State) → All (λ n. IsTrue (is_enabled s (unit_at n))) (enabled_units s)
all_may s = filter_passes (λ n. is_enabled s (unit_at n)) (range_with_len 0 unit_count)

all_preferred : (P : ℕ → Type 0) (these those : List ℕ) → All P these → All P those → All P (units_preferred these those)
all_preferred P [] those here there = there
all_preferred P (n ∷ these) those here there = here

candidates_may : (favoured : Option UnitKind) (s : State) → All (λ n. IsTrue (is_enabled s (unit_at n))) (candidates favoured (enabled_units s))
unfolding candidates
candidates_may None s = all_may s
candidates_may (Some kind) s =
    all_preferred (λ n. IsTrue (is_enabled s (unit_at n))) (filter (λ n. is_of kind (unit_at n)) (enabled_units s)) (enabled_units s)
    (All-filter (λ n. is_of kind (unit_at n)) (λ n. IsTrue (is_enabled s (unit_at n))) (enabled_units s) (all_may s)) (all_may s)

-- so may the unit that is picked
pub picked_may : (Chooses : ℕ → ℕ → ℕ → Type 0) (i : ℕ) (favoured : Option UnitKind) (s : State) (unit : Actor) → IsPicked Chooses i (candidates favoured (enabled_units s)) unit → IsTrue (is_enabled s unit)
picked_may Chooses i favoured s unit pick = subst (λ u. IsTrue (is_enabled s u)) (sym pick.is) (candidates_may favoured s pick.place 0 pick.within)

-- what was followed so far
pub record Followed (Chooses Answers : ℕ → ℕ → ℕ → Type 0) (favoured : Option UnitKind) (start now : State) (done : ℕ) (events : List Event) : Type 0 where
  pub follows : Follows Chooses Answers favoured 0 start events
  pub allowed : Allowed may step start events
  pub count : length events ≡ done
  pub now_is : now ≡ state_reached step start events

-- and what was kept of it
pub record Noted (Chooses Answers : ℕ → ℕ → ℕ → Type 0) (favoured : Option UnitKind) (start now : State) (done : ℕ) (kept : Kept) : Type 0 where
  pub events : List Event
  pub followed : Followed Chooses Answers favoured start now done events
  pub kept_is : IsKept kept.logs start events kept

follows_more : (Chooses Answers : ℕ → ℕ → ℕ → Type 0) (favoured : Option UnitKind) (i : ℕ) (s : State) (events : List Event) (event : Event) → Follows Chooses Answers favoured i s events → IsTurn Chooses Answers favoured (i + length events) (state_reached step s events) event → Follows Chooses Answers favoured i s (events ++ event ∷ [])
follows_more Chooses Answers favoured i s [] event h turn = let same : i + 0 ≡ i = omega arith in (subst (λ k. IsTurn Chooses Answers favoured k s event) same turn, tt)
follows_more Chooses Answers favoured i s (first ∷ events) event h turn =
    let same : i + suc (length events) ≡ i + 1 + length events = omega arith in
    (h.0, follows_more Chooses Answers favoured (i + 1) (step s first).state events event h.1 (subst (λ k. IsTurn Chooses Answers favoured k (state_reached step (step s first).state events) event) same turn))

allowed_more : (s : State) (events : List Event) (event : Event) → Allowed may step s events → IsTrue (may (state_reached step s events) event) → Allowed may step s (events ++ event ∷ [])
allowed_more s [] event h can = (can, tt)
allowed_more s (first ∷ events) event h can = (h.0, allowed_more (step s first).state events event h.1 can)

lines_more : (s : State) (events : List Event) (event : Event) → lines_of s (events ++ event ∷ []) ≡ lines_of s events ++ line_of event.unit (job_of (state_reached step s events) event.unit) (step (state_reached step s events) event).accesses ∷ []
lines_more s [] event = refl
lines_more s (first ∷ events) event = ap (λ rest. line_of first.unit (job_of s first.unit) (step s first).accesses ∷ rest) (lines_more (step s first).state events event)

reached_more : (s : State) (events : List Event) (event : Event) → state_reached step s (events ++ event ∷ []) ≡ (step (state_reached step s events) event).state
reached_more s [] event = refl
reached_more s (first ∷ events) event = reached_more (step s first).state events event

one_longer : (events : List Event) (event : Event) → length (events ++ event ∷ []) ≡ length events + 1
one_longer [] event = refl
one_longer (first ∷ events) event = let h = one_longer events event in omega (arith, h)

may_is : (s : State) (event : Event) → IsTrue (is_enabled s event.unit) → IsTrue (may s event)
unfolding is_enabled ready
may_is s event can = can

accesses_more : (i : ℕ) (s : State) (events : List Event) (event : Event) → accesses_of i s (events ++ event ∷ []) ≡ accesses_of i s events ++ accesses_numbered (i + length events) (step (state_reached step s events) event).accesses
accesses_more i s [] event = let same : i ≡ i + 0 = omega arith in append-nil (accesses_numbered i (step s event).accesses) ∙ ap (λ k. accesses_numbered k (step s event).accesses) same
accesses_more i s (first ∷ events) event =
    let same : i + 1 + length events ≡ i + suc (length events) = omega arith in
    let last = (step (state_reached step (step s first).state events) event).accesses in
    ap (λ rest. accesses_numbered i (step s first).accesses ++ rest) (accesses_more (i + 1) (step s first).state events event ∙ ap (λ k. accesses_of (i + 1) (step s first).state events ++ accesses_numbered k last) same)
    ∙ sym (append_assoc (accesses_numbered i (step s first).accesses) (accesses_of (i + 1) (step s first).state events) (accesses_numbered (i + suc (length events)) last))

followed_more : (Chooses Answers : ℕ → ℕ → ℕ → Type 0) (favoured : Option UnitKind) (start now next : State) (done : ℕ) (events : List Event) (listed : List Access) (line : TraceLine) → Followed Chooses Answers favoured start now done events
    → (by : StepsBy Chooses Answers favoured done now next listed line) → Followed Chooses Answers favoured start next (done + 1) (events ++ by.event ∷ [])
followed_more Chooses Answers favoured start now next done events listed line h by =
    let place : done ≡ 0 + length events = omega (arith, h.count) in
    let turn : IsTurn Chooses Answers favoured (0 + length events) (state_reached step start events) by.event =
    subst (λ k. IsTurn Chooses Answers favoured k (state_reached step start events) by.event) place (subst (λ s. IsTurn Chooses Answers favoured done s by.event) h.now_is by.turn) in
    record {
      follows = follows_more Chooses Answers favoured 0 start events by.event h.follows turn;
      allowed = allowed_more start events by.event h.allowed (subst (λ s. IsTrue (may s by.event)) h.now_is (may_is now by.event by.may));
      count = one_longer events by.event ∙ ap (λ n. n + 1) h.count;
      now_is = by.next_is ∙ (ap (λ s. (step s by.event).state) h.now_is ∙ sym (reached_more start events by.event));
    }

kept_more : (logs : Bool) (start : State) (events : List Event) (event : Event) (i : ℕ) (line : TraceLine) (listed : List Access) (kept all : Kept) → i ≡ 0 + length events
    → line ≡ line_of event.unit (job_of (state_reached step start events) event.unit) (step (state_reached step start events) event).accesses → listed ≡ (step (state_reached step start events) event).accesses
    → IsKept logs start events kept → HasMore logs i line listed kept all → IsKept logs start (events ++ event ∷ []) all
kept_more true start events event i line listed kept all place line_is listed_is before more =
    more ∙ (ap (λ ks. ks ++ accesses_numbered i listed) before ∙ (ap (λ k. accesses_of 0 start events ++ accesses_numbered k listed) place
    ∙ (ap (λ l. accesses_of 0 start events ++ accesses_numbered (0 + length events) l) listed_is ∙ sym (accesses_more 0 start events event))))
kept_more false start events event i line listed kept all place line_is listed_is before more =
    more ∙ (ap (λ ls. ls ++ line ∷ []) before ∙ (ap (λ l. lines_of start events ++ l ∷ []) line_is ∙ sym (lines_more start events event)))

pub noted_more : (Chooses Answers : ℕ → ℕ → ℕ → Type 0) (favoured : Option UnitKind) (start now next : State) (done : ℕ) (listed : List Access) (kept all : Kept) (line : TraceLine) → Noted Chooses Answers favoured start now done kept
    → StepsBy Chooses Answers favoured done now next listed line → all.logs ≡ kept.logs → HasMore kept.logs done line listed kept all → Noted Chooses Answers favoured start next (done + 1) all
noted_more Chooses Answers favoured start now next done listed kept all line h by logs more =
    let here = h.followed.now_is in
    let kept_now = kept_more kept.logs start h.events by.event done line listed kept all (omega (arith, h.followed.count))
    (by.line_is ∙ ap (λ s. line_of by.event.unit (job_of s by.event.unit) (step s by.event).accesses) here) (by.listed_is ∙ ap (λ s. (step s by.event).accesses) here) h.kept_is more in
    record {
      events = h.events ++ by.event ∷ [];
      followed = followed_more Chooses Answers favoured start now next done h.events listed line h.followed by;
      kept_is = subst (λ b. IsKept b start (h.events ++ by.event ∷ []) all) (sym logs) kept_now;
    }

pub over_ends : (s : State) (steps done : ℕ) (ending : Ending) → IsOver s ending → IsEnded s steps done ending
over_ends s steps done Finished h = h
over_ends s steps done Waiting h = h
over_ends s steps done Spent h = absurd h

pub noted_ends : (Chooses Answers : ℕ → ℕ → ℕ → Type 0) (favoured : Option UnitKind) (start now : State) (steps done : ℕ) (kept : Kept) (ending : Ending) → Noted Chooses Answers favoured start now done kept → done ≤ steps
    → IsEnded now steps done ending → HasKept Chooses Answers favoured start steps kept done ending
noted_ends Chooses Answers favoured start now steps done kept ending h most ends = (
  h.events,
  record {
    run = record { allowed = h.followed.allowed; accesses = refl; last = refl };
    follows = h.followed.follows;
    most = omega (arith, h.followed.count, most);
    ends = subst (λ n. IsEnded (state_reached step start h.events) steps n ending) (sym h.followed.count) (subst (λ s. IsEnded s steps done ending) h.followed.now_is ends);
  },
  h.kept_is,
  sym h.followed.count,
)

-- the lines that were kept are a trace, and the accesses a log
pub trace_of : (Chooses Answers : ℕ → ℕ → ℕ → Type 0) (favoured : Option UnitKind) (s : State) (steps done : ℕ) (kept : Kept) (trace : Trace) → kept.logs ≡ false → trace.lines.items ≡ kept.lines.items
    → HasKept Chooses Answers favoured s steps kept done trace.ending → HasTrace Chooses Answers favoured s steps trace
trace_of Chooses Answers favoured s steps done kept trace logs same h =
    (h.0, record { by = h.1; lines = same ∙ subst (λ b. IsKept b s h.0 kept) logs h.2 })

pub log_of : (Chooses Answers : ℕ → ℕ → ℕ → Type 0) (favoured : Option UnitKind) (s : State) (steps done : ℕ) (kept : Kept) (log : Log) → kept.logs ≡ true → log.accesses.items ≡ kept.accesses.items → log.steps ≡ done
    → HasKept Chooses Answers favoured s steps kept done log.ending → HasLog Chooses Answers favoured s steps log
log_of Chooses Answers favoured s steps done kept log logs same count h =
    (h.0, record { by = h.1; accesses = same ∙ subst (λ b. IsKept b s h.0 kept) logs h.2; count = count ∙ h.3 })

-- the code's step is one that the script gave
pub steps_by : (Chooses Answers : ℕ → ℕ → ℕ → Type 0) (favoured : Option UnitKind) (i : ℕ) (s next : State) (unit : Actor) (words : List ℕ) (listed found : List Access) (job : ℕ) (line : TraceLine)
    → is_finished s ≡ false → IsPicked Chooses i (candidates favoured (enabled_units s)) unit → length words ≡ word_count unit → ((k : ℕ) → k < length words → Answers i k (slice_index words k))
    → Moves (step s (record { unit = unit; words = words })) found next → listed ≡ found → job ≡ job_of s unit → line ≡ line_of unit job listed → StepsBy Chooses Answers favoured i s next listed line
steps_by Chooses Answers favoured i s next unit words listed found job line goes picked long answers moves listed_is job_is line_is = record {
  event = record { unit = unit; words = words };
  turn = record {
    goes = goes;
    picked = picked;
    count = long;
    words = answers;
  };
  may = picked_may Chooses i favoured s unit picked;
  next_is = moves.state_is;
  listed_is = listed_is ∙ moves.accesses_are;
  line_is = line_is ∙ (ap (λ j. line_of unit j listed) job_is ∙ ap (line_of unit (job_of s unit)) (listed_is ∙ moves.accesses_are));
}
