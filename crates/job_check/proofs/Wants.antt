-- What want of memory hides.
use Rattle.std.proofs.Common.{◌≡◌, ℕ, zero, suc, ◌+◌, ◌<◌, Bool, true, false, List, ◌++◌, length, Result, Ok, Err, Option, None, Some, if◌then◌else◌, refl, sym, ap, arith, ◌∙◌, append_assoc, append-nil}
use Rattle.field_words.specs.{declared.stop.Stop.Stop, declared.stop.Stop.TheVariants.Fault, declared.stop.Stop.TheVariants.NoMemory}
use Rattle.field_words.specs.Questions.{Question, first_of, each, with_answers, NeverHidesFault}
use Rattle.field_words.proofs.Questions.{passes}
use Rattle.buffer_table.specs.{declared.buffer.Kind.Kind, declared.buffer.Kind.TheVariants.Plain, declared.buffer.Kind.TheVariants.Code}
use Rattle.buffer_table.specs.Table.{buffer_at}
use Rattle.job_format.specs.{declared.rule.Refusal.Refusal, Model.FileModel}
use Rattle.job_check.specs.Faults.{shader_refused, shader_questions_in, shader_stage, whole_questions_in, whole_stage, HidesNoShader}
use Rattle.job_check.specs.Shaders.{content_of, code_questions}

-- where no rule is broken, want of memory hides none
pub never_hidden : {X F : Type 0} (questions : List (Question F)) (result : Result X (Stop F)) → first_of questions ≡ None → NeverHidesFault questions result
never_hidden questions (Ok made) none = tt
never_hidden questions (Err (Fault fault)) none = tt
never_hidden questions (Err NoMemory) none = none

-- the questions of one item more
each_last : {F : Type 0} (questions : ℕ → List (Question F)) (i n : ℕ) → each questions i (suc n) ≡ each questions i n ++ questions (i + n)
unfolding each
each_last questions i zero = let same : i ≡ i + 0 = omega arith in append-nil (questions i) ∙ ap questions same
each_last questions i (suc n) =
    let same : i + 1 + n ≡ i + suc n = omega arith in
    ap (λ qs. questions i ++ qs) (each_last questions (i + 1) n)
    ∙ (sym (append_assoc (questions i) (each questions (i + 1) n) (questions (i + 1 + n)))
    ∙ ap (λ k. (questions i ++ each questions (i + 1) n) ++ questions k) same)

pub none_before : {F : Type 0} (questions : ℕ → List (Question F)) (n : ℕ) → first_of (each questions 0 n) ≡ None → first_of (questions n) ≡ None
    → first_of (each questions 0 (n + 1)) ≡ None
none_before questions n none here =
    let one : n + 1 ≡ suc n = omega arith in
    let same : 0 + n ≡ n = omega arith in
    ap (λ k. first_of (each questions 0 k)) one
    ∙ (ap first_of (each_last questions 0 n) ∙ (passes (each questions 0 n) (questions (0 + n)) none ∙ (ap (λ k. first_of (questions k)) same ∙ here)))

first_alone : {F : Type 0} (broken : Bool) (answer : F) (rest : Option F) → (if broken then Some answer else rest) ≡ None → (if broken then Some answer else None) ≡ None
first_alone true answer rest is = is
first_alone false answer rest is = refl

whole_by : (f : FileModel) (b : ℕ) (kind : Kind) (content : List ℕ) → first_of (with_answers (shader_refused b) (shader_questions_in kind content)) ≡ None
    → first_of (with_answers (shader_refused b) (whole_questions_in kind content)) ≡ None
unfolding with_answers code_questions
whole_by f b Plain content none = refl
whole_by f b Code content none = first_alone _ _ _ none

-- a shader without faults has whole words
pub whole_none : (f : FileModel) (b : ℕ) → first_of (shader_stage f b) ≡ None → first_of (whole_stage f b) ≡ None
unfolding shader_stage whole_stage
whole_none f b none = whole_by f b (buffer_at f.buffers b).kind (content_of f b) none

-- want of memory at a shader whose bytes are whole words, and before which no rule is broken
pub ended : {X : Type 0} (f : FileModel) (b : ℕ) (result : Result X (Stop Refusal)) → b < length f.buffers → first_of (each (shader_stage f) 0 b) ≡ None
    → first_of (whole_stage f b) ≡ None → HidesNoShader f result
ended f b (Ok made) inside before whole = tt
ended f b (Err (Fault fault)) inside before whole = tt
ended f b (Err NoMemory) inside before whole = (b, record { inside = inside; before = before; whole = whole })
