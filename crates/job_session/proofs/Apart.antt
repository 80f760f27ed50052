-- Clients are apart.
use Rattle.std.proofs.Common.{◌≡◌, ◌==◌, ◌+◌, ◌*◌, ◌||◌, nat_lt, ℕ, Bool, true, false, refl, ◌∙◌, List, [], ◌∷◌, length, take, drop, Option, None, Some, arith, if◌then◌else◌}
use Rattle.std.proofs.lemmas.Bool.Decides.{nat_tests}
use Rattle.job_session.specs.declared.denied.BrokenRule.{BrokenRule}
use Rattle.buffer_table.specs.{declared.buffer.Kind.Kind, declared.buffer.Kind.TheVariants.Plain, declared.buffer.Kind.TheVariants.Code}
use Rattle.field_words.specs.{Sizes.page_size, Writes.with_bytes, Writes.zeros}
use Rattle.overflow_slots.specs.Search.{first_where}
use Rattle.job_session.specs.Own.{Held, Command, Create, Make, Write, Read, Free, Submit, Reply, Bytes, Done, Refused, Rules, Outcome, Answered, NewBuffer, outcome, own_reply, own_after, own_replies}
use Rattle.job_session.specs.Own.{most_buffers, most_pages, most_read, is_free_id, with_buffer, new_by, new_buffer, bytes_padded, make_by, write_in, write_by, read_by, free_by, submit_by}
use Rattle.job_session.specs.Session.{Call, Past, none_yet, reply_by, past_by, placed_reply, placed_past, pages_of, outcome_of, reply_to, after, replies_to, commands_of}
use Rattle.job_session.specs.{Places.least_place, Laws.is_full, Laws.other_replies, Laws.other_commands, Laws.RepliesAreOwn}
use Rattle.std.proofs.lemmas.Bool.{eqb-true}

itself : (n : ℕ) → (n == n) ≡ true
itself n = grind (arith, nat_tests)

-- a call of another client leaves a client's buffers alone
unseen_placed : (past : Past) (client other id : ℕ) (held : Held) (found : Option ℕ) → (client == other) ≡ false
    → (placed_past past other id held found).own client ≡ past.own client
unseen_placed past client other id held None apart = refl
unseen_placed past client other id held (Some first) apart = rw apart refl

unseen_by : {F : Type 0} (past : Past) (client : ℕ) (call : Call) (o : Outcome F) → (client == call.client) ≡ false
    → (past_by past call o).own client ≡ past.own client
unseen_by past client call (Answered reply own) apart = rw apart refl
unseen_by past client call (NewBuffer id held) apart = unseen_placed past client call.client id held (least_place past.places (pages_of held)) apart

-- what is answered without a new buffer is never that memory is full
abbrev NotFull : {F : Type 0} → Outcome F → Type 0
NotFull (Answered reply own) = is_full reply ≡ false
NotFull (NewBuffer id held) = Unit {0}

if_not_full : (F : Type 0) (b : Bool) (one other : Outcome F) → NotFull one → NotFull other → NotFull (if b then one else other)
if_not_full F true one other is later = is
if_not_full F false one other is later = later

new_not_full : (F : Type 0) (own : ℕ → Option Held) (held : Held) (found : Option ℕ) → NotFull {F = F} (new_by own held found)
new_not_full F own held None = refl
new_not_full F own held (Some id) = tt

make_not_full : (F : Type 0) (own : ℕ → Option Held) (bytes : List ℕ) (fault : Option F) → NotFull (make_by own bytes fault)
make_not_full F own bytes (Some fault) = refl
make_not_full F own bytes None = new_not_full F own (record { kind = Code; bytes = bytes_padded bytes }) (first_where (is_free_id own) 0 most_buffers)

write_in_not_full : (F : Type 0) (own : ℕ → Option Held) (id at : ℕ) (part : List ℕ) (kind : Kind) (bytes : List ℕ) → NotFull {F = F} (write_in own id at part kind bytes)
write_in_not_full F own id at part Code bytes = refl
write_in_not_full F own id at part Plain bytes =
    if_not_full F (nat_lt (length bytes) (at + length part)) (Answered (Refused 2) own) (Answered Done (with_buffer own id (Some (record { kind = Plain; bytes = with_bytes bytes at part })))) refl refl

write_not_full : (F : Type 0) (own : ℕ → Option Held) (id at : ℕ) (part : List ℕ) (held : Option Held) → NotFull {F = F} (write_by own id at part held)
write_not_full F own id at part None = refl
write_not_full F own id at part (Some held) = write_in_not_full F own id at part held.kind held.bytes

read_not_full : (F : Type 0) (own : ℕ → Option Held) (at len : ℕ) (held : Option Held) → NotFull {F = F} (read_by own at len held)
read_not_full F own at len None = refl
read_not_full F own at len (Some held) =
    if_not_full F (nat_lt most_read len || nat_lt (length held.bytes) (at + len)) (Answered (Refused 2) own) (Answered (Bytes (take len (drop at held.bytes))) own) refl refl

free_not_full : (F : Type 0) (own : ℕ → Option Held) (id : ℕ) (held : Option Held) → NotFull {F = F} (free_by own id held)
free_not_full F own id None = refl
free_not_full F own id (Some held) = refl

submit_not_full : (F : Type 0) (own : ℕ → Option Held) (fault : Option F) → NotFull (submit_by own fault)
submit_not_full F own None = refl
submit_not_full F own (Some fault) = refl

outcome_not_full : (F : Type 0) (rules : Rules F) (client : ℕ) (own : ℕ → Option Held) (command : Command) → NotFull (outcome rules client own command)
unfolding outcome
outcome_not_full F rules client own (Create pages) =
    let held : Held = record { kind = Plain; bytes = zeros (page_size * pages) } in
    if_not_full F ((pages == 0) || nat_lt most_pages pages) (Answered (Refused 5) own) (new_buffer own held) refl
    (new_not_full F own held (first_where (is_free_id own) 0 most_buffers))
outcome_not_full F rules client own (Make bytes) = make_not_full F own bytes (rules.code bytes)
outcome_not_full F rules client own (Write id at part) = write_not_full F own id at part (own id)
outcome_not_full F rules client own (Read id at len) = read_not_full F own at len (own id)
outcome_not_full F rules client own (Free id) = free_not_full F own id (own id)
outcome_not_full F rules client own (Submit parts) = submit_not_full F own (rules.job client own parts)

-- A client's own call: where memory is full nothing changes, and else the reply and its buffers are its own.
abbrev OwnStep : {F : Type 0} → (is_full : Bool) → Reply F → Outcome F → (before behind : ℕ → Option Held) → Type 0
OwnStep true reply o before behind = behind ≡ before
OwnStep false reply o before behind = (reply ≡ own_reply o) × (behind ≡ own_after before o)

own_placed : (F : Type 0) (past : Past) (client id : ℕ) (held : Held) (found : Option ℕ)
    → OwnStep (is_full (placed_reply {F = F} id found)) (placed_reply {F = F} id found) (NewBuffer id held) (past.own client) ((placed_past past client id held found).own client)
own_placed F past client id held None = refl
own_placed F past client id held (Some first) = (refl, rw (itself client) refl)

own_by : (F : Type 0) (past : Past) (call : Call) (o : Outcome F) → NotFull o
    → OwnStep (is_full (reply_by past o)) (reply_by past o) o (past.own call.client) ((past_by past call o).own call.client)
own_by F past call (Answered reply own) other = rw other (refl, rw (itself call.client) refl)
own_by F past call (NewBuffer id held) other = own_placed F past call.client id held (least_place past.places (pages_of held))

from_own : (F : Type 0) (rules : Rules F) (client : ℕ) (past : Past) (call : Call) → client ≡ call.client
    → OwnStep (is_full (reply_to rules past call)) (reply_to rules past call) (outcome rules client (past.own client) call.command) (past.own client) ((after rules past call).own client)
unfolding reply_to after
from_own F rules client past call is = rw is (own_by F past call (outcome_of rules past call) (outcome_not_full F rules call.client (past.own call.client) call.command))

unseen : (F : Type 0) (rules : Rules F) (client : ℕ) (past : Past) (call : Call) → (client == call.client) ≡ false → (after rules past call).own client ≡ past.own client
unfolding after
unseen F rules client past call apart = unseen_by past client call (outcome_of rules past call) apart

joined : (F : Type 0) (rules : Rules F) (client : ℕ) (before behind : ℕ → Option Held) (command : Command) (commands : List Command) (reply : Reply F) (replies : List (Reply F)) (full : Bool)
    → OwnStep full reply (outcome rules client before command) before behind
    → other_replies replies ≡ own_replies rules client behind (other_commands commands replies)
    → (if full then other_replies replies else reply ∷ other_replies replies)
    ≡ own_replies rules client before (if full then other_commands commands replies else command ∷ other_commands commands replies)
unfolding own_replies
joined F rules client before behind command commands reply replies true step later = later ∙ rw step refl
joined F rules client before behind command commands reply replies false step later = rw (step.0, later, step.1) refl

from_by : (F : Type 0) (rules : Rules F) (client : ℕ) (past : Past) (call : Call) (calls : List Call) (mine : Bool) → (client == call.client) ≡ mine
    → other_replies (replies_to client rules (after rules past call) calls)
    ≡ own_replies rules client ((after rules past call).own client) (other_commands (commands_of client calls) (replies_to client rules (after rules past call) calls))
    → other_replies (if mine then reply_to rules past call ∷ replies_to client rules (after rules past call) calls else replies_to client rules (after rules past call) calls)
    ≡ own_replies rules client (past.own client) (other_commands (if mine then call.command ∷ commands_of client calls else commands_of client calls)
    (if mine then reply_to rules past call ∷ replies_to client rules (after rules past call) calls else replies_to client rules (after rules past call) calls))
from_by F rules client past call calls true is later =
    joined F rules client (past.own client) ((after rules past call).own client) call.command (commands_of client calls) (reply_to rules past call)
    (replies_to client rules (after rules past call) calls) (is_full (reply_to rules past call)) (from_own F rules client past call (eqb-true client call.client is)) later
from_by F rules client past call calls false is later = later ∙ rw (unseen F rules client past call is) refl

from_here : (F : Type 0) (rules : Rules F) (client : ℕ) (calls : List Call) (past : Past)
    → other_replies (replies_to client rules past calls) ≡ own_replies rules client (past.own client) (other_commands (commands_of client calls) (replies_to client rules past calls))
unfolding replies_to own_replies commands_of
from_here F rules client [] past = refl
from_here F rules client (call ∷ calls) past = from_by F rules client past call calls (client == call.client) refl (from_here F rules client calls (after rules past call))

pub replies_are_own : RepliesAreOwn
replies_are_own rules client calls = from_here BrokenRule rules client calls none_yet
