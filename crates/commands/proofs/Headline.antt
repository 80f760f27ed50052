-- What was accepted may run.
use Rattle.std.proofs.Common.{◌≡◌, ℕ, List, None, Some, IfSome, true, false, refl, sym, subst, arith, ◌∙◌}
use Rattle.std.specs.{Prelude.Bool, Prelude.Option, Io.KnownBytes.Appends}
use Rattle.job_format.specs.{declared.rule.Refusal.Refusal, Reading.file_at}
use Rattle.field_words.proofs.Nones.{front_none}
use Rattle.job_check.specs.Whole.{all_questions, refusal_of}
use Rattle.strict_check.specs.{Stages.strict_stages, Whole.strict_questions}
use Rattle.job_safety.proofs.Safety.{may_run}
use Rattle.commands.specs.{declared.command.Command.Command, declared.command.Command.TheVariants.Check, Headline.IsSafelyAccepted}
use Rattle.commands.specs.{Asked.questions_by, Asked.refusal_by, Verdict.image_of, Verdict.IsVerdict, Answer.IsAnswer, Run.IsAnswered}

-- where none of the rules that are asked is broken, none is but maybe a strict one
none_broken : (strict : Bool) (bytes : List ℕ) → refusal_by strict bytes ≡ None → refusal_of bytes ≡ None
unfolding refusal_of strict_questions
none_broken false bytes none = none
none_broken true bytes none = front_none (all_questions bytes) (strict_stages (file_at bytes)) none

-- status 0 comes only there
by_verdict : (strict : Bool) (bytes : List ℕ) (found : Option Refusal) (status : ℕ) (text : List ℕ) (before now : Option (List ℕ)) → refusal_by strict bytes ≡ found
    → status ≡ 0 → IsVerdict bytes (questions_by strict bytes) found (λ f out. out ≡ image_of f) status text → Appends before now text → IsSafelyAccepted bytes before now
unfolding image_of
by_verdict strict bytes None status text before now none zero (is_zero, text_is, is) appends =
    record { printed = subst (Appends before now) text_is appends; may_run = may_run bytes is (none_broken strict bytes none) }
by_verdict strict bytes (Some refusal) status text before now some zero (is_one, text_is, first) appends = let wrong : 1 ≡ 0 = sym is_one ∙ zero in absurd (omega (arith, wrong))

by_check : (strict : Bool) (bytes : List ℕ) (status : ℕ) (before now : Option (List ℕ)) → status ≡ 0 → IsAnswered (IsAnswer (Check strict) bytes) status before now
    → IsSafelyAccepted bytes before now
by_check strict bytes status before now zero (text, answer, appends) = by_verdict strict bytes (refusal_by strict bytes) status text before now refl zero answer appends

pub safely_accepted : (left : Option (List ℕ)) (command : Command) (strict : Bool) (status : ℕ) (before now : Option (List ℕ)) → command ≡ Check strict → status ≡ 0
    → IfSome left (λ bytes. IsAnswered (IsAnswer command bytes) status before now) → IfSome left (λ bytes. IsSafelyAccepted bytes before now)
safely_accepted None command strict status before now is zero answered = tt
safely_accepted (Some bytes) command strict status before now is zero answered =
    by_check strict bytes status before now zero (subst (λ c. IsAnswered (IsAnswer c bytes) status before now) is answered)
