-- What a run over memory leaves is a report.
use Rattle.std.proofs.Common.{◌≡◌, ◌≢◌, ◌≤◌, ◌<◌, ◌⊎◌, ◌↔◌, ◌-◌, inl, inr, ℕ, List, [], ◌++◌, length, None, Some, Ok, Err, IfErr, true, false, refl, sym, ap, subst, arith}
use Rattle.std.proofs.lemmas.Bool.{cases_order}
use Rattle.std.specs.Prelude.{Option, Result}
use Rattle.std.specs.Result.{result_ok}
use Rattle.commands.specs.declared.cause.Cause.{Cause}
use Rattle.commands.specs.declared.cause.Cause.TheVariants.{Words}
use Rattle.commands.specs.declared.command.{Command.Command, Task.Task, Task.TheVariants.Read, Task.TheVariants.Make, Task.TheVariants.Tell}
use Rattle.commands.specs.declared.help.Topic.{Topic}
use Rattle.commands.specs.declared.word_fault.WordFault.{WordFault}
use Rattle.commands.specs.{Answer.IsAnswer, Answer.IsExampleAnswer, Cause.IsCause, Cause.is_reported, Run.IsAnswered, Run.IsServed, Run.IsSaid, Topics.IsTopicAnswer, Words.limit_of}
use Rattle.job_io.specs.Faults.{Rose, count_after}
use Rattle.vc4check_web.specs.Call.{IsReply, IsReport}

by_order : (status : ℕ) → (status ≡ 2) ⊎ ((status < 2) ⊎ (2 < status)) → (status ≡ 6) ⊎ ((status < 6) ⊎ (6 < status))
    → status ≤ 6 → status ≢ 2 → status ≢ 3 → status ≢ 4 → status ≢ 5 → (status < 2) ⊎ (status ≡ 6)
by_order status (inl is) six most two three four five = absurd (two is)
by_order status (inr (inl few)) six most two three four five = inl few
by_order status (inr (inr more)) (inl is) most two three four five = inr is
by_order status (inr (inr more)) (inr six) most two three four five = inr (omega (arith, more, most, three, four, five, six))

-- what a run's status can be where its words ask for something, and there is memory
few_or_six : (status : ℕ) → status ≤ 6 → status ≢ 2 → status ≢ 3 → status ≢ 4 → status ≢ 5 → (status < 2) ⊎ (status ≡ 6)
few_or_six status most two three four five = by_order status (cases_order status 2) (cases_order status 6) most two three four five

-- input that was read to its end is within the limit
within_by : (n limit rest status : ℕ) → (n ≡ limit) ⊎ ((n < limit) ⊎ (limit < n)) → rest ≡ 0 → (limit < n - rest → status ≡ 6) → status < 2 → n ≤ limit
within_by n limit rest status (inl same) none over few = omega (arith, same)
within_by n limit rest status (inr (inl less)) none over few = omega (arith, less)
within_by n limit rest status (inr (inr more)) none over few = let six = over (omega (arith, more, none)) in absurd (omega (arith, six, few))

sizes_by : (command : Command) (input rest before text : List ℕ) (status : ℕ) → (status < 2) ⊎ (status ≡ 6)
    → IsServed command (Some input) (Some rest) (Some before) (Some text) status
    → ((length input ≤ limit_of command) × (status < 2)) ⊎ ((limit_of command < length input) × (status ≡ 6))
sizes_by command input rest before text status (inl few) served =
    inl (within_by (length input) (limit_of command) (length rest) status (cases_order (length input) (limit_of command)) (ap length (served.all (inl few))) served.long.1 few, few)
sizes_by command input rest before text status (inr six) served = let over = served.long.0 six in inr (omega (arith, over), six)

-- what was appended to an empty sink is all that it holds
answered_by : (IsText : ℕ → List ℕ → Type 0) (status : ℕ) (before text : List ℕ) → before ≡ [] → IsAnswered IsText status (Some before) (Some text) → IsText status text
answered_by IsText status before text empty (report, answer, appends) = subst (IsText status) (sym (subst (λ b. text ≡ b ++ report) empty appends)) answer

not_two : (status : ℕ) → (status < 2) ⊎ (status ≡ 6) → status ≢ 2
not_two status (inl few) two = omega (arith, few, two)
not_two status (inr six) two = omega (arith, six, two)

reply_by : (command : Command) (input rest before text : List ℕ) (status : ℕ) (cause : Option Cause) → before ≡ [] → (status < 2) ⊎ (status ≡ 6)
    → (1 < status → text ≡ []) → IsServed command (Some input) (Some rest) (Some before) (Some text) status
    → (is_reported command status ≡ true → IsCause command input cause) → (is_reported command status ≡ false → status ≢ 2 → cause ≡ None)
    → IsReply command input status text cause
reply_by command input rest before text status cause empty statuses nothing served why quiet = record {
  statuses = sizes_by command input rest before text status statuses served;
  answered = λ few. answered_by (IsAnswer command input) status before text empty (served.answered few);
  why = why;
  nothing = λ six. nothing (omega (arith, six));
  quiet = λ silent. quiet silent (not_two status statuses);
}

done_by : (status : ℕ) → (status ≡ 0) ⊎ ((status ≡ 4) ⊎ (status ≡ 5)) → status ≢ 4 → status ≢ 5 → status ≡ 0
done_by status (inl done) four five = done
done_by status (inr (inl is)) four five = absurd (four is)
done_by status (inr (inr is)) four five = absurd (five is)

said_by : (IsText : ℕ → List ℕ → Type 0) (source source_now before text : List ℕ) (status : ℕ) (cause : Option Cause) → before ≡ [] → status ≢ 4 → status ≢ 5
    → IsSaid IsText source source_now (Some before) (Some text) status → (status ≢ 2 → cause ≡ None) → IsText status text × (cause ≡ None)
said_by IsText source source_now before text status cause empty four five said quiet =
    let done = done_by status said.statuses four five in
    (answered_by IsText status before text empty (said.answered (omega (arith, done))), quiet (λ e. omega (arith, e, done)))

asks : (task : Task) (status : ℕ) → ((status ≡ 2) ↔ (Some task ≡ None)) → status ≢ 2
asks task status words two = let clash : Some task ≡ None = words.0 two in cc

-- tasks that read, and those that don't
same_command : (one other : Command) → Some (Read one) ≡ Some (Read other) → one ≡ other
same_command one other same = cc

no_make : (number : ℕ) (command : Command) → Some (Make number) ≡ Some (Read command) → ⊥
no_make number command same = cc

no_tell : (topic : Topic) (command : Command) → Some (Tell topic) ≡ Some (Read command) → ⊥
no_tell topic command same = cc

-- a source that never fails is no reason to end
pub never_failed : (status : ℕ) → (status ≡ 3 → Rose 0 0) → status ≢ 3
never_failed status rose three = let more : count_after 0 ≤ 0 = rose three in omega (arith, more)

-- A run of these words over this input, with a sink that was empty and that has this text now, is reported.
pub reported : (asked : Result Task WordFault) (input rest before text : List ℕ) (status : ℕ) (cause : Option Cause)
    → before ≡ [] → status ≤ 6 → status ≢ 3 → status ≢ 4 → status ≢ 5 → ((status ≡ 2) ↔ (result_ok asked ≡ None)) → (1 < status → text ≡ [])
    → ((command : Command) → result_ok asked ≡ Some (Read command) → IsServed command (Some input) (Some rest) (Some before) (Some text) status)
    → ((number : ℕ) → result_ok asked ≡ Some (Make number) → IsSaid (IsExampleAnswer number) input rest (Some before) (Some text) status)
    → ((topic : Topic) → result_ok asked ≡ Some (Tell topic) → IsSaid (IsTopicAnswer topic) input rest (Some before) (Some text) status)
    → ((command : Command) → result_ok asked ≡ Some (Read command) → is_reported command status ≡ true → IsCause command input cause)
    → IfErr asked (λ fault. cause ≡ Some (Words fault))
    → (((command : Command) → result_ok asked ≡ Some (Read command) → is_reported command status ≡ false) → status ≢ 2 → cause ≡ None)
    → IsReport asked input status text cause
reported (Err fault) input rest before text status cause empty most three four five words nothing served made said why wrong quiet =
    let two = words.1 refl in (two, nothing (omega (arith, two)), wrong)
reported (Ok (Read command)) input rest before text status cause empty most three four five words nothing served made said why wrong quiet =
    reply_by command input rest before text status cause empty (few_or_six status most (asks (Read command) status words) three four five) nothing (served command refl) (why command refl)
    (λ silent. quiet (λ other same. subst (λ c. is_reported c status ≡ false) (same_command command other same) silent))
reported (Ok (Make number)) input rest before text status cause empty most three four five words nothing served made said why wrong quiet =
    said_by (IsExampleAnswer number) input rest before text status cause empty four five (made number refl)
    (quiet (λ command same. absurd (no_make number command same)))
reported (Ok (Tell topic)) input rest before text status cause empty most three four five words nothing served made said why wrong quiet =
    said_by (IsTopicAnswer topic) input rest before text status cause empty four five (said topic refl)
    (quiet (λ command same. absurd (no_tell topic command same)))
