-- What no strict rule's being broken says of a checked instruction.
use Rattle.std.proofs.Common.{◌≡◌, ◌<◌, ℕ, ◌+◌, Bool, true, false, ◌||◌, List, [], ◌∷◌, ◌++◌, length, if◌then◌else◌, nat_lt, refl, sym, ap, arith, ◌∙◌, length-append}
use Rattle.std.proofs.lemmas.Bool.{or_parts}
use Rattle.field_words.proofs.{Questions.none_broken, Nones.each_none, Nones.none_answered}
use Rattle.qpu_isa.specs.{Terms.tmu_writes, Terms.writes_tmu, Terms.writes_s, Setups.setups_kept}
use Rattle.shader_flow.specs.{Flow.word, Flow.checked_of, Flow.is_target, Pending.pending_of}
use Rattle.shader_flow.proofs.Counts.{pending_inside}
use Rattle.shader_check.proofs.{Clean.clean, Setups.one_word, Setups.no_word}
use Rattle.uniform_stream.specs.Rules.{s25}
use Rattle.qpu_law.specs.Home.{HasNoFault}
use Rattle.qpu_law.proofs.Going.{behind, fine_at}
use Rattle.promises.specs.Steps.{one_if}
use Rattle.served_law.proofs.Shaders.{ServesAt, serves_by, zero_by, none_at, target_checked}
use Rattle.strict_rules.specs.Queue.{queue_of}
use Rattle.strict_rules.specs.Rules.{e1, e2, e4, e5, e6, e7, index_questions, questions_at, strict_questions, strict_at}
use Rattle.strict_law.specs.Strict.{IsStrict}

pub record StrictAt (code : List ℕ) (i : ℕ) : Type 0 where
  pub no1 : e1 code i ≡ false
  pub no2 : e2 code i ≡ false
  pub requests : ServesAt code i
  pub no4 : e4 code i ≡ false
  pub no5 : e5 code i ≡ false
  pub no6 : e6 code i ≡ false
  pub no7 : e7 code i ≡ false

pub strict_here : (code : List ℕ) → IsStrict code → (i : ℕ) → i < checked_of code → StrictAt code i
unfolding strict_questions questions_at index_questions
strict_here code strict i inside =
    let here = each_none (questions_at code) 0 (checked_of code) i strict (omega arith) (omega (arith, inside)) in
    let r = none_broken (index_questions code i) (none_answered (strict_at i) (index_questions code i) here) in
    let requests = serves_by code i r.1.1.0 in
    record {
      no1 = r.0;
      no2 = r.1.0;
      requests = requests;
      no4 = r.1.1.1.0;
      no5 = r.1.1.1.1.0;
      no6 = r.1.1.1.1.1.0;
      no7 = r.1.1.1.1.1.1.0;
    }

-- Set-up words: an instruction keeps one more by a write of another register than S.
pub writes_one : (code : List ℕ) (n tmu : ℕ) (writes : Bool) → HasNoFault code → n < checked_of code → writes_tmu (word code n) tmu ≡ writes → tmu_writes (word code n) tmu ≡ one_if writes
writes_one code n tmu true sound inside is = one_word code n tmu (clean code sound n inside) is
writes_one code n tmu false sound inside is = no_word (word code n) tmu is

kept_by : (sent writes : Bool) (u pending : ℕ) (items : List ℕ) → length items ≡ pending
    → length (if sent then [] else (if writes then items ++ (u ∷ []) else items)) ≡ (if sent then 0 else pending + one_if writes)
kept_by true writes u pending items long = refl
kept_by false true u pending items long = length-append items (u ∷ []) ∙ ap (λ n. n + 1) long
kept_by false false u pending items long = omega (arith, long)

pub kept_long : (code : List ℕ) (n tmu u : ℕ) (items : List ℕ) → HasNoFault code → n < checked_of code → length items ≡ pending_of code tmu n
    → length (setups_kept (word code n) tmu u items) ≡ pending_of code tmu (n + 1)
unfolding setups_kept
kept_long code n tmu u items sound inside long =
    kept_by (writes_s (word code n) tmu) (writes_tmu (word code n) tmu) u (pending_of code tmu n) items long
    ∙ (ap (λ k. if writes_s (word code n) tmu then 0 else pending_of code tmu n + k) (sym (writes_one code n tmu (writes_tmu (word code n) tmu) sound inside refl))
    ∙ sym (pending_inside code tmu n inside))

-- At a target nothing is kept and nothing is outstanding.
pub record IsEmptyAt (code : List ℕ) (i : ℕ) : Type 0 where
  pub pending0 : pending_of code 0 i ≡ 0
  pub pending1 : pending_of code 1 i ≡ 0
  pub queue0 : length (queue_of code 0 i) ≡ 0
  pub queue1 : length (queue_of code 1 i) ≡ 0

pub empty_at : (code : List ℕ) (i : ℕ) → HasNoFault code → IsStrict code → is_target code i ≡ true → IsEmptyAt code i
unfolding s25
empty_at code i sound strict target =
    let inside : i < checked_of code = target_checked code i sound target in
    let kept = or_parts (nat_lt 0 (pending_of code 0 i)) (nat_lt 0 (pending_of code 1 i))
    (behind (is_target code i) (nat_lt 0 (pending_of code 0 i) || nat_lt 0 (pending_of code 1 i)) target (fine_at code sound i inside).no25) in
    let none = none_at code i (strict_here code strict i inside).requests.meets target in
    record {
      pending0 = zero_by (pending_of code 0 i) kept.0;
      pending1 = zero_by (pending_of code 1 i) kept.1;
      queue0 = none.queue0;
      queue1 = none.queue1;
    }
