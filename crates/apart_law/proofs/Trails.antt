-- Two runs whose trails are equal: step by step, the steps that leave no entry on either side first.
use Rattle.std.proofs.Common.{◌≡◌, true, List, [], ◌∷◌, ◌++◌, Option, Some, None, refl, sym, ◌∙◌, ap}
use Rattle.std.proofs.{lemmas.Bool.false≢true, lemmas.List.Elements.filter-append}
use Rattle.std.specs.{Prelude.drop, Prelude.slice_index_or, List.list_any}
use Rattle.field_words.specs.declared.access.Access.{Access}
use Rattle.machine_plan.specs.Runs.{Moved, found_by, state_reached}
use Rattle.apart_law.specs.Steps.{StepsAlike}
use Rattle.promises.specs.Trail.{Client, accesses_of, with_entry, entries_of}

-- each event in turn may be
abbrev pub AllMay : {S E : Type 0} → (S → E → Moved S) → (S → E → Type 0) → S → List E → Type 0
AllMay move may s [] = Unit {0}
AllMay move may s (event ∷ events) = may s event × AllMay move may (move s event).state events

-- two runs made these accesses, and ended in these states
pub record RanAlike {S : Type 0} (mine : Client) (A : S → S → Type 0) (found others : List Access) (s t : S) : Type 0 where
  pub accesses : accesses_of mine found ≡ accesses_of mine others
  pub states : A s t

-- accesses of another client's in front
joined_reported : (mine : Client) (now later : List Access) → accesses_of mine (now ++ later) ≡ accesses_of mine now ++ accesses_of mine later
joined_reported mine now later = filter-append (λ (a : Access). mine a.job) now later

later_reported : (mine : Client) (now later : List Access) → accesses_of mine now ≡ [] → accesses_of mine (now ++ later) ≡ accesses_of mine later
later_reported mine now later none = joined_reported mine now later ∙ ap (λ l. l ++ accesses_of mine later) none

both_reported : (mine : Client) (now later there others : List Access) → accesses_of mine now ≡ accesses_of mine there → accesses_of mine later ≡ accesses_of mine others → accesses_of mine (now ++ later) ≡ accesses_of mine (there ++ others)
both_reported mine now later there others first rest = joined_reported mine now later ∙ ((λ i. first i ++ rest i) ∙ sym (joined_reported mine there others))

not_empty : {X : Type 0} (x : X) (xs : List X) → [] ≡ x ∷ xs → ⊥
not_empty x xs e = false≢true (ap (λ l. list_any (λ y. true) l) e)

module _ {S E X : Type 0} (entry : S → E → Option X) (move : S → E → Moved S) (mine : Client) (may might : S → E → Type 0) (I J : S → Type 0) (A : S → S → Type 0) (alike : StepsAlike entry move mine may might I J A) where
  -- from t on, where that is alike to w, each run with these entries ends alike to a run that makes these accesses and ends in s
  abbrev EndsAlike : List Access → S → List X → S → S → List E → Type 0
  EndsAlike found s entries w t events = J t → A w t → AllMay move might t events → entries ≡ entries_of entry move t events → RanAlike mine A found (found_by move t events) s (state_reached move t events)

  -- the other run takes a step that leaves no entry
  other_quiet : (found : List Access) (s : S) (entries : List X) (w t : S) (event : E) (events : List E) → entry t event ≡ None → EndsAlike found s entries w (move t event).state events → J t → A w t → might t event → AllMay move might (move t event).state events
      → entries ≡ entries_of entry move (move t event).state events → RanAlike mine A found (found_by move t (event ∷ events)) s (state_reached move (move t event).state events)
  other_quiet found s entries w t event events none later known same can all is =
      let quiet = alike.others_quiet w t event known can same none in
      let rest = later (alike.others_keep t event known can) quiet.1 all is in
      record { accesses = rest.accesses ∙ sym (later_reported mine (move t event).accesses (found_by move (move t event).state events) quiet.0); states = rest.states }

  -- the first run is at its end
  end_by : (s t : S) (event : E) (events : List E) (left : Option X) → entry t event ≡ left → EndsAlike [] s [] s (move t event).state events → J t → A s t → might t event → AllMay move might (move t event).state events
      → [] ≡ with_entry left (entries_of entry move (move t event).state events) → RanAlike mine A [] (found_by move t (event ∷ events)) s (state_reached move (move t event).state events)
  end_by s t event events None none later known same can all is = other_quiet [] s [] s t event events none later known same can all is
  end_by s t event events (Some x) one later known same can all is = absurd (not_empty x (entries_of entry move (move t event).state events) is)

  at_end : (s t : S) (events : List E) → EndsAlike [] s [] s t events
  at_end s t [] known same all is = record { accesses = refl; states = same }
  at_end s t (event ∷ events) known same all is = end_by s t event events (entry t event) refl (at_end s (move t event).state events) known same all.0 all.1 is

  -- the first run takes a step that leaves an entry, and the other comes to one that leaves the same
  both_step : (w t : S) (first event : E) (x y : X) (found : List Access) (s : S) (entries : List X) (events : List E) → I w → may w first → entry w first ≡ Some x → entry t event ≡ Some y
      → EndsAlike found s entries (move w first).state (move t event).state events → J t → A w t → might t event → AllMay move might (move t event).state events
      → x ∷ entries ≡ y ∷ entries_of entry move (move t event).state events → RanAlike mine A ((move w first).accesses ++ found) (found_by move t (event ∷ events)) s (state_reached move (move t event).state events)
  both_step w t first event x y found s entries events held goes one other later known same can all is =
      let heads : x ≡ y = ap (λ l. slice_index_or l 0 x) is in
      let both = alike.both w t first event x held known goes can same one (other ∙ ap Some (sym heads)) in
      let rest = later (alike.others_keep t event known can) both.1 all (ap (λ l. drop 1 l) is) in
      record { accesses = both_reported mine (move w first).accesses found (move t event).accesses (found_by move (move t event).state events) both.0 rest.accesses; states = rest.states }

  entry_by : (w t : S) (first event : E) (x : X) (left : Option X) (found : List Access) (s : S) (entries : List X) (events : List E) → I w → may w first → entry w first ≡ Some x → entry t event ≡ left
      → ((t : S) (events : List E) → EndsAlike found s entries (move w first).state t events) → EndsAlike ((move w first).accesses ++ found) s (x ∷ entries) w (move t event).state events
      → J t → A w t → might t event → AllMay move might (move t event).state events
      → x ∷ entries ≡ with_entry left (entries_of entry move (move t event).state events) → RanAlike mine A ((move w first).accesses ++ found) (found_by move t (event ∷ events)) s (state_reached move (move t event).state events)
  entry_by w t first event x None found s entries events held goes one none later again known same can all is =
      other_quiet ((move w first).accesses ++ found) s (x ∷ entries) w t event events none again known same can all is
  entry_by w t first event x (Some y) found s entries events held goes one other later again known same can all is =
      both_step w t first event x y found s entries events held goes one other (later (move t event).state events) known same can all is

  with_first : (w : S) (first : E) (x : X) (found : List Access) (s : S) (entries : List X) → I w → may w first → entry w first ≡ Some x → ((t : S) (events : List E) → EndsAlike found s entries (move w first).state t events)
      → (t : S) (events : List E) → EndsAlike ((move w first).accesses ++ found) s (x ∷ entries) w t events
  with_first w first x found s entries held goes one later t [] known same all is = absurd (not_empty x entries (sym is))
  with_first w first x found s entries held goes one later t (event ∷ events) known same all is =
      entry_by w t first event x (entry t event) found s entries events held goes one refl later (with_first w first x found s entries held goes one later (move t event).state events) known same all.0 all.1 is

  -- the first run's next step, with or without an entry
  first_by : (w : S) (first : E) (left : Option X) (found : List Access) (s : S) (entries : List X) → I w → may w first → entry w first ≡ left → ((t : S) (events : List E) → EndsAlike found s entries (move w first).state t events)
      → (t : S) (events : List E) → EndsAlike ((move w first).accesses ++ found) s (with_entry left entries) w t events
  first_by w first None found s entries held goes none later t events known same all is =
      let quiet = alike.quiet w t first held goes same none in
      let rest = later t events known quiet.1 all is in
      record { accesses = later_reported mine (move w first).accesses found quiet.0 ∙ rest.accesses; states = rest.states }
  first_by w first (Some x) found s entries held goes one later t events known same all is = with_first w first x found s entries held goes one later t events known same all is

  -- two runs with equal trails from states that are alike
  pub trails_alike : (w : S) (firsts : List E) → I w → AllMay move may w firsts → (t : S) (events : List E) → EndsAlike (found_by move w firsts) (state_reached move w firsts) (entries_of entry move w firsts) w t events
  trails_alike w [] held all t events = at_end w t events
  trails_alike w (first ∷ firsts) held all t events =
      first_by w first (entry w first) (found_by move (move w first).state firsts) (state_reached move (move w first).state firsts) (entries_of entry move (move w first).state firsts) held all.0 refl
      (trails_alike (move w first).state firsts (alike.keeps w first held all.0) all.1) t events
