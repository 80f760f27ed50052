-- Code that did what an instruction says carried out its plan.
use Rattle.std.proofs.Common.{◌≡◌, ℕ, List, [], ◌∷◌, ◌++◌, Bool, true, false, if◌then◌else◌, Some, None, Option, refl, sym, ◌∙◌, ap, subst, append-nil}
use Rattle.std.specs.Int.{from_le_bytes, w64}
use Rattle.field_words.specs.Words.{u32_at}
use Rattle.machine_plan.specs.{Memory.bytes_at, Plan.Plan, Plan.Done, Plan.Wilds, Plan.Reads, Plan.Shows, Plan.access, Plan.outcome_of}
use Rattle.machine_plan.proofs.Reading.{shows_read}
use Rattle.qpu_machine.specs.{State.Access, State.Read, State.Thread, State.Who, State.Wild, Writes.awake, Writes.past_uniform}
use Rattle.qpu_machine.specs.{Wild.takes_one, Wild.is_wild, Step.ThreadTurn, Step.turn_executed, Step.word_plan, Step.thread_plan}

-- the plan of an instruction by the two tests
abbrev pub by_tests : Bool → Bool → Thread → ℕ → List ℕ → Plan ThreadTurn
by_tests wild takes t word words =
    if wild then Wilds
    else (if takes then Reads t.uniforms 4 (λ bytes. Done (turn_executed word (u32_at bytes 0) words (awake words (past_uniform t))))
    else Done (turn_executed word 0 words (awake words t)))

by_tests_is : (t : Thread) (word : ℕ) (words : List ℕ) → word_plan t word words ≡ by_tests (is_wild t word) (takes_one t word) t word words
unfolding word_plan
by_tests_is t word words = refl

pub plan_is : (t : Thread) (word : ℕ) (words : List ℕ) (wild takes : Bool) → is_wild t word ≡ wild → takes_one t word ≡ takes → by_tests wild takes t word words ≡ word_plan t word words
plan_is t word words wild takes wild_is takes_is =
    sym (by_tests_is t word words ∙ (ap (λ b. by_tests b (takes_one t word) t word words) wild_is ∙ ap (λ b. by_tests wild b t word words) takes_is))

abbrev pub Obeys : Who → Thread → ℕ → List ℕ → List ℕ → List Access → List Access → Option ThreadTurn → Type 0
Obeys who t word words m before listed result = Shows (outcome_of who (word_plan t word words) m) before listed m result

pub wild_shows : (who : Who) (t : Thread) (word : ℕ) (words m : List ℕ) (before listed : List Access) → is_wild t word ≡ true → listed ≡ before ++ access who Wild 0 0 ∷ [] → Obeys who t word words m before listed None
wild_shows who t word words m before listed wild listed_is =
    subst (λ plan. Shows (outcome_of who plan m) before listed m None) (plan_is t word words true (takes_one t word) wild refl)
    (record { accesses = listed_is; memory_is = refl; result_is = refl })

takes_shows : (who : Who) (t : Thread) (word uniform : ℕ) (words m : List ℕ) (before listed : List Access) (turn : ThreadTurn) → is_wild t word ≡ false → takes_one t word ≡ true
    → listed ≡ before ++ access who Read t.uniforms 4 ∷ [] → uniform ≡ u32_at (bytes_at m t.uniforms 4) 0 → turn_executed word uniform words (awake words (past_uniform t)) ≡ turn
    → Obeys who t word words m before listed (Some turn)
takes_shows who t word uniform words m before listed turn tame takes listed_is uniform_is turn_is =
    let same : turn ≡ turn_executed word (u32_at (bytes_at m t.uniforms 4) 0) words (awake words (past_uniform t)) =
    sym turn_is ∙ ap (λ u. turn_executed word u words (awake words (past_uniform t))) uniform_is in
    subst (λ plan. Shows (outcome_of who plan m) before listed m (Some turn)) (plan_is t word words false true tame takes)
    (record { accesses = listed_is; memory_is = refl; result_is = ap Some same })

plain_shows : (who : Who) (t : Thread) (word : ℕ) (words m : List ℕ) (before : List Access) (turn : ThreadTurn) → is_wild t word ≡ false → takes_one t word ≡ false
    → turn_executed word 0 words (awake words t) ≡ turn → Obeys who t word words m before before (Some turn)
plain_shows who t word words m before turn tame takes turn_is =
    subst (λ plan. Shows (outcome_of who plan m) before before m (Some turn)) (plan_is t word words false false tame takes)
    (record { accesses = sym (append-nil before); memory_is = refl; result_is = ap Some (sym turn_is) })

-- One that isn't undefined, with its uniform or without.
pub fed_shows : (who : Who) (t fed : Thread) (word uniform : ℕ) (words m : List ℕ) (before listed : List Access) (turn : ThreadTurn) (takes : Bool) → takes_one t word ≡ takes → is_wild t word ≡ false
    → fed ≡ (if takes then past_uniform t else t) → uniform ≡ (if takes then u32_at (bytes_at m t.uniforms 4) 0 else 0)
    → listed ≡ (if takes then before ++ access who Read t.uniforms 4 ∷ [] else before) → turn_executed word uniform words (awake words fed) ≡ turn → Obeys who t word words m before listed (Some turn)
fed_shows who t fed word uniform words m before listed turn true takes tame fed_is uniform_is listed_is turn_is =
    takes_shows who t word uniform words m before listed turn tame takes listed_is uniform_is (ap (λ s. turn_executed word uniform words (awake words s)) (sym fed_is) ∙ turn_is)
fed_shows who t fed word uniform words m before listed turn false takes tame fed_is uniform_is listed_is turn_is =
    subst (λ l. Obeys who t word words m before l (Some turn)) (sym listed_is)
    (plain_shows who t word words m before turn tame takes (ap (λ u. turn_executed word u words (awake words t)) (sym uniform_is) ∙ (ap (λ s. turn_executed word uniform words (awake words s)) (sym fed_is) ∙ turn_is)))

pub thread_shows : (who : Who) (t : Thread) (word : ℕ) (words m bytes : List ℕ) (before listed after : List Access) (result : Option ThreadTurn) → bytes ≡ bytes_at m t.place 8 → word ≡ from_le_bytes w64 bytes
    → listed ≡ before ++ access who Read t.place 8 ∷ [] → Obeys who t word words m listed after result → Shows (outcome_of who (thread_plan t words) m) before after m result
unfolding thread_plan
thread_shows who t word words m bytes before listed after result bytes_are word_is listed_is obeys =
    shows_read who t.place 8 (λ b. word_plan t (from_le_bytes w64 b) words) m bytes before listed after m result listed_is bytes_are
    (subst (λ w. Obeys who t w words m listed after result) word_is obeys)
