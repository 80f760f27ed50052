-- Stages one after the other.
use Rattle.std.proofs.Common.{◌≡◌, ℕ, true, false, inl, inr, ◌+◌, ◌<◌, ◌≤◌, List, ◌++◌, Some, None, Option, Result, Ok, Err, IfOk, IfSome, refl, sym, subst}
use Rattle.std.proofs.lemmas.Bool.{le-ltb, lt-ltb, cases_lt, false≢true}
use Rattle.std.specs.Result.{IsErrAnd}
use Rattle.field_words.specs.{declared.stop.Stop.Stop}
use Rattle.field_words.specs.Questions.{Question, first_of, Refuses, Answers}
use Rattle.field_words.proofs.{Questions.first_none, Nones.front_none}
use Rattle.job_format.specs.{Model.FileModel, Places.place_in, declared.rule.Stage.TheVariants.X, declared.rule.Part.TheVariants.JobEntry}
use Rattle.relocation.specs.Layout.{region_end}
use Rattle.job_check.specs.Faults.{refusal_by, layout_stage, table_stage, shaders_stage, jobs_stages, file_stages, stages_within}
use Rattle.job_check.specs.{Jobs.layout_of, Region.Under}

-- What leaves by a `?` is the fault that it was.
pub exits : {X F : Type 0} (questions : List (Question F)) (P : X → Type 0) (result : Result X (Stop F)) (stop : Stop F) → IsErrAnd result (λ e. e ≡ stop) → Refuses questions stop → Answers questions P result
exits questions P (Ok made) stop is refuses = absurd is
exits questions P (Err other) stop is refuses = subst (Refuses questions) (sym is) refuses

-- the lists fit, or they don't
pub layout_fits : (f : FileModel) (j : ℕ) → (layout_of f j).place + (layout_of f j).end ≤ region_end f.regions → first_of (layout_stage f j) ≡ None
unfolding layout_stage
layout_fits f j fits = first_none (layout_stage f j) (le-ltb (region_end f.regions) ((layout_of f j).place + (layout_of f j).end) fits, tt)

pub layout_over : (f : FileModel) (j : ℕ) → region_end f.regions < (layout_of f j).place + (layout_of f j).end
    → first_of (layout_stage f j) ≡ Some (refusal_by X 1 (place_in JobEntry j 12))
unfolding layout_stage
layout_over f j past = rw (lt-ltb (region_end f.regions) ((layout_of f j).place + (layout_of f j).end) past) refl

pub is_past : (f : FileModel) (j : ℕ) → ((layout_of f j).place + (layout_of f j).end ≤ region_end f.regions → false ≡ true) → region_end f.regions < (layout_of f j).place + (layout_of f j).end
is_past f j fits =
    elim (cases_lt (region_end f.regions) ((layout_of f j).place + (layout_of f j).end)) [
      | inl past ↦ past
      | inr inside ↦ absurd (false≢true (fits inside))
    ]

-- what follows from a clause on Ok
pub if_ok : {X E : Type 0} {P Q : Type 0} (result : Result X E) → (P → Q) → IfOk result (λ _. P) → IfOk result (λ _. Q)
if_ok (Ok x) follows h = follows h
if_ok (Err e) follows h = tt

-- what holds where what was reported does
pub under : {X : Type 0} {P : Type 0} (report : Option X) (Holds : X → Type 0) → (IfSome report Holds → P) → Under report Holds P
under None Holds follows = follows tt
under (Some report) Holds follows = follows

pub under_more : {X : Type 0} {P Q : Type 0} (report : Option X) (Holds : X → Type 0) → (P → Q) → Under report Holds P → Under report Holds Q
under_more None Holds follows p = follows p
under_more (Some report) Holds follows p = λ holds. follows (p holds)

-- what follows of an answer
pub ok_of : {X F : Type 0} (questions : List (Question F)) (P Q : X → Type 0) (result : Result X (Stop F)) → Answers questions P result → ((made : X) → P made → Q made) → IfOk result Q
ok_of questions P Q (Ok made) answers follows = follows made answers.1
ok_of questions P Q (Err stop) answers follows = tt

-- and what stands at all events
pub if_always : {X E : Type 0} {Q : Type 0} (result : Result X E) → Q → IfOk result (λ _. Q)
if_always (Ok x) stands = stands
if_always (Err e) stands = tt

-- and from two
pub if_both : {X E : Type 0} {P Q R : Type 0} (result : Result X E) → (P → Q → R) → IfOk result (λ _. P) → IfOk result (λ _. Q) → IfOk result (λ _. R)
if_both (Ok x) follows p q = follows p q
if_both (Err e) follows p q = tt

-- where no rule of a file is broken, none of its memory table is
pub table_none : (f : FileModel) → first_of (file_stages f) ≡ None → first_of (table_stage f) ≡ None
unfolding stages_within
table_none f none = front_none (table_stage f) (shaders_stage f ++ jobs_stages f) none
