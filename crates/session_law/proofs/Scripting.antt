-- A script is answered as the history of its calls says.
use Rattle.std.proofs.Common.{◌≡◌, ℕ, ◌<◌, ◌≤◌, ◌&&◌, nat_le, Bool, true, false, if◌then◌else◌, List, [], ◌∷◌, ◌++◌, Option, Some, None, arith, refl, ap}
use Rattle.std.proofs.lemmas.Bool.Decides.{nat_tests}
use Rattle.script.specs.{Lines.before, Lines.behind, Lines.lines_of, Number.number_of, Number.is_number, Number.number_within}
use Rattle.script.specs.Replies.{replies_from}
use Rattle.job_session.specs.{Own.Command, Session.Call, Session.Past, Session.none_yet, Desk.Desk, Desk.empty, Replies.desk_reply}
use Rattle.job_session.specs.Calls.{last_client, call_by, call_of, command_named}
use Rattle.job_session.specs.Text.{reply_line, call_reply, call_after, line_reply, line_after, replies}
use Rattle.std.specs.List.{flat_map}
use Rattle.session_law.specs.Scripts.{report_of, past_with, line_report, past_after_line, onto_calls, calls_in, ScriptsAreOfHistories, ScriptsAreOfCalls}
use Rattle.session_law.specs.{History.AreKnown, History.desk_replies, Agree.client_count, Agree.Agrees}
use Rattle.session_law.proofs.Answering.{calls_are_answered, new_sessions_agree}
use Rattle.session_law.proofs.Runs.{both_true}

some_number : (a b : ℕ) → Some a ≡ Some b → a ≡ b
some_number a b is = cc

some_call : (a b : Call) → Some a ≡ Some b → a ≡ b
some_call a b is = cc

-- the client on a line is one of eight
within_by : (most : ℕ) (word : List ℕ) (number : ℕ) (b : Bool) → (is_number word && nat_le (number_of word) most) ≡ b
    → (if b then Some (number_of word) else None) ≡ Some number → number ≤ most
within_by most word number true is found =
    let small : nat_le (number_of word) most ≡ true = (both_true (is_number word) (nat_le (number_of word) most) is).1 in
    let e = some_number (number_of word) number found in
    let low : number_of word ≤ most = grind (arith, nat_tests) in
    omega (arith, e, low)
within_by most word number false is found = let clash : ⊥ = cc in absurd clash

within : (most : ℕ) (word : List ℕ) (number : ℕ) → number_within most word ≡ Some number → number ≤ most
unfolding number_within
within most word number found = within_by most word number (is_number word && nat_le (number_of word) most) refl found

client_of : (client : Option ℕ) (command : Option Command) (call : Call) → call_by client command ≡ Some call → client ≡ Some call.client
client_of None command call is = let clash : ⊥ = cc in absurd clash
client_of (Some client) None call is = let clash : ⊥ = cc in absurd clash
client_of (Some client) (Some command) call is =
    ap (λ (c : Call). Some c.client) (some_call (record { client = client; command = command }) call is)

known : (line : List ℕ) (call : Call) → call_of line ≡ Some call → call.client < client_count
unfolding call_of
known line call is =
    let client = client_of (number_within last_client (before 32 (behind 32 line))) (command_named (before 32 line) (behind 32 (behind 32 line))) call is in
    let small = within last_client (before 32 (behind 32 line)) call.client client in
    omega (arith, small)

line_by : (past : Past) (desk : Desk) (call : Option Call) → ((c : Call) → call ≡ Some c → c.client < client_count) → Agrees past desk
    → (call_reply desk call ≡ report_of past call) × Agrees (past_with past call) (call_after desk call)
line_by past desk None small agrees = (refl, agrees)
line_by past desk (Some call) small agrees =
    let answered = calls_are_answered past desk call (small call refl) agrees in
    (ap reply_line answered.reply, answered.left)

scripts_from : (lines : List (List ℕ)) (past : Past) (desk : Desk) → Agrees past desk
    → replies_from line_reply line_after desk lines ≡ replies_from line_report past_after_line past lines
unfolding replies_from
scripts_from [] past desk agrees = refl
scripts_from (line ∷ lines) past desk agrees =
    let here = line_by past desk (call_of line) (known line) agrees in
    let report = here.0 in
    let later = scripts_from lines (past_after_line past line) (line_after desk line) here.1 in
    λ p. report p ++ later p

pub scripts_are_of_histories : ScriptsAreOfHistories
unfolding replies
scripts_are_of_histories text = scripts_from (lines_of text) none_yet empty new_sessions_agree

-- the calls on the lines, one after the other
one_known : (call : Option Call) (calls : List Call) → ((c : Call) → call ≡ Some c → c.client < client_count) → AreKnown calls → AreKnown (onto_calls call calls)
one_known None calls small later = later
one_known (Some call) calls small later = (small call refl, later)

all_known : (lines : List (List ℕ)) → AreKnown (calls_in lines)
unfolding calls_in
all_known [] = tt
all_known (line ∷ lines) = one_known (call_of line) (calls_in lines) (known line) (all_known lines)

one_reported : (desk : Desk) (call : Option Call) (calls : List Call) (rest : List ℕ) → rest ≡ flat_map reply_line (desk_replies (call_after desk call) calls)
    → (call_reply desk call ++ rest) ≡ flat_map reply_line (desk_replies desk (onto_calls call calls))
unfolding desk_replies
one_reported desk None calls rest later = later
one_reported desk (Some call) calls rest later = ap (λ (bytes : List ℕ). reply_line (desk_reply desk call) ++ bytes) later

report_from : (lines : List (List ℕ)) (desk : Desk) → replies_from line_reply line_after desk lines ≡ flat_map reply_line (desk_replies desk (calls_in lines))
unfolding replies_from calls_in desk_replies
report_from [] desk = refl
report_from (line ∷ lines) desk =
    one_reported desk (call_of line) (calls_in lines) (replies_from line_reply line_after (line_after desk line) lines) (report_from lines (line_after desk line))

pub scripts_are_of_calls : ScriptsAreOfCalls
unfolding replies
scripts_are_of_calls text = record { known = all_known (lines_of text); report = report_from (lines_of text) empty }
