-- Calls answer and leave what the calls before them say, from a new session on.
use Rattle.job_session.proofs.{Held.held_none, Apart.replies_are_own}
use Rattle.session_law.proofs.Bytes.{is_within, within_none, zero_at}
use Rattle.std.proofs.Common.{ne_eqb, ◌≡◌, ℕ, ◌+◌, ◌<◌, ◌==◌, not, nat_lt, Bool, true, false, if◌then◌else◌, List, [], ◌∷◌, ◌++◌, length, get_or, slice_index, replicate, None, arith, refl, sym, ◌∙◌, ap}
use Rattle.std.proofs.{lemmas.Bool.Decides.nat_tests, lemmas.List.get_or-replicate, lemmas.List.length-replicate}
use Rattle.job_session.specs.Own.{Command, Create, Make, Write, Read, Free, Submit, outcome, most_buffers}
use Rattle.job_session.specs.Desk.{Desk, SlotsFit, slot_count, slot_of, empty, first_page, page_total, held_in}
use Rattle.job_session.specs.{Places.covers, Places.is_used, Checked.session_rules}
use Rattle.job_session.specs.Session.{Call, Past, none_yet, reply_to, after, replies_to}
use Rattle.job_session.specs.Replies.{desk_reply, desk_after, command_reply, command_after}
use Rattle.buffer_table.specs.declared.buffer.Kind.TheVariants.{Plain}
use Rattle.field_words.specs.Writes.{zeros}
use Rattle.field_words.proofs.Writes.{length_zeros}
use Rattle.session_pages.specs.{Runs.page_count, Map.memory_size, Map.place_of}
use Rattle.session_law.specs.Laws.{NewSessionsAgree, CallsAreAnswered, HistoriesAgree, SessionsGoOn, RepliesAreOfHistories, ClientsAreApart}
use Rattle.session_law.specs.Agree.{IsKey, client_count, place_in, owner_at, Agrees}
use Rattle.session_law.specs.History.{AreKnown, desk_left, past_left, desk_replies_to}
use Rattle.session_law.proofs.{Changing.held_past, Changing.slot_below, Creating.create_meets, Coding.code_meets}
use Rattle.session_law.proofs.Outcomes.{Meets, write_meets, read_meets, free_meets, submit_meets}

-- a new session
record IsNew (desk : Desk) (bytes pages slots : ℕ) : Type 0 where
  memory : desk.map.memory ≡ zeros bytes
  owners : desk.map.owners ≡ zeros pages
  firsts : desk.firsts ≡ replicate slots 0
  counts : desk.counts ≡ replicate slots 0
  kinds : length desk.kinds ≡ slot_count
  bytes_are : bytes ≡ memory_size
  pages_are : pages ≡ page_count
  slots_are : slots ≡ slot_count

new_fits : (desk : Desk) (bytes pages slots : ℕ) → IsNew desk bytes pages slots → SlotsFit desk.firsts desk.counts
new_fits desk bytes pages slots new = λ slot inside.
    let zero : get_or (replicate slots 0) slot 0 ≡ 0 = get_or-replicate {A = ℕ} slots slot 0 0 (omega (arith, new.slots_are, inside)) in
    rw (new.firsts, new.counts, zero) (omega arith)

new_pages : (desk : Desk) (bytes pages slots client id : ℕ) → IsNew desk bytes pages slots → IsKey client id → page_total desk client id ≡ 0
new_pages desk bytes pages slots client id new key =
    rw new.counts (get_or-replicate {A = ℕ} slots (slot_of client id) 0 0 (omega (arith, new.slots_are, slot_below client id key)))

new_held_by : (desk : Desk) (bytes pages slots client id : ℕ) → IsNew desk bytes pages slots → client < client_count → (b : Bool) → nat_lt id most_buffers ≡ b
    → None ≡ held_in desk client id
new_held_by desk bytes pages slots client id new known true is =
    sym (held_none desk client id (new_pages desk bytes pages slots client id new (record { known = known; small = grind (arith, nat_tests) })))
new_held_by desk bytes pages slots client id new known false is = sym (held_past desk client id (λ h. absurd (grind (arith, nat_tests))))

owner_none : (desk : Desk) (bytes pages slots page : ℕ) → IsNew desk bytes pages slots → slice_index desk.map.owners page ≡ 0
owner_none desk bytes pages slots page new = rw new.owners (zero_at pages page)

new_owned : (desk : Desk) (bytes pages slots client id page : ℕ) → IsNew desk bytes pages slots → IsKey client id
    → covers (place_in desk client id) page ≡ (owner_at desk page == slot_of client id + 1)
new_owned desk bytes pages slots client id page new key =
    let free = owner_none desk bytes pages slots page new in
    ap (λ (n : ℕ). is_within (first_page desk client id) n page) (new_pages desk bytes pages slots client id new key)
    ∙ (within_none (first_page desk client id) page
    ∙ sym (ne_eqb (owner_at desk page) (slot_of client id + 1) (λ e. omega (arith, free, e))))

new_agrees : (desk : Desk) (bytes pages slots : ℕ) → IsNew desk bytes pages slots → Agrees none_yet desk
unfolding is_used
new_agrees desk bytes pages slots new = record {
  sized = record {
    map = record {
      sized = ap length new.memory ∙ (length_zeros bytes ∙ new.bytes_are);
      known = ap length new.owners ∙ (length_zeros pages ∙ new.pages_are);
    };
    firsts = ap length new.firsts ∙ (length-replicate slots 0 ∙ new.slots_are);
    counts = ap length new.counts ∙ (length-replicate slots 0 ∙ new.slots_are);
    kinds = new.kinds;
    fits = new_fits desk bytes pages slots new;
  };
  held = λ client known. λ p id. new_held_by desk bytes pages slots client id new known (nat_lt id most_buffers) refl p;
  owned = λ client id page key inside. new_owned desk bytes pages slots client id page new key;
  listed = tt;
  used = λ page inside. sym (ap (λ (owner : ℕ). not (owner == 0)) (owner_none desk bytes pages slots page new));
  zero = λ page at inside small free. rw new.memory (zero_at bytes (place_of page + at));
}

pub new_sessions_agree : NewSessionsAgree
new_sessions_agree = new_agrees empty memory_size page_count slot_count (record {
  memory = refl;
  owners = refl;
  firsts = refl;
  counts = refl;
  kinds = length-replicate slot_count Plain;
  bytes_are = refl;
  pages_are = refl;
  slots_are = refl;
})

-- one call
step : (past : Past) (desk : Desk) (client : ℕ) (command : Command) → Agrees past desk → client < client_count
    → Meets past (record { client = client; command = command }) (command_reply desk client command) (command_after desk client command)
    (outcome session_rules client (past.own client) command)
unfolding command_reply command_after outcome
step past desk client (Create pages) agrees known = create_meets past desk client pages agrees known
step past desk client (Make bytes) agrees known = code_meets past desk client bytes agrees known
step past desk client (Write id at part) agrees known = write_meets past desk client id at part agrees known
step past desk client (Read id at len) agrees known = read_meets past desk client id at len agrees known
step past desk client (Free id) agrees known = free_meets past desk client id agrees known
step past desk client (Submit parts) agrees known = submit_meets past desk client parts agrees known

pub calls_are_answered : CallsAreAnswered
unfolding reply_to after
calls_are_answered past desk call known agrees =
    let met = step past desk call.client call.command agrees known in
    record { reply = met.0; left = met.1 }

-- calls one after the other
histories_from : (calls : List Call) (past : Past) (desk : Desk) → AreKnown calls → Agrees past desk → Agrees (past_left past calls) (desk_left desk calls)
unfolding past_left desk_left
histories_from [] past desk known agrees = agrees
histories_from (call ∷ calls) past desk known agrees =
    histories_from calls (after session_rules past call) (desk_after desk call) known.1 (calls_are_answered past desk call known.0 agrees).left

pub histories_agree : HistoriesAgree
histories_agree calls known = histories_from calls none_yet empty known new_sessions_agree

left_more : (calls : List Call) (call : Call) (desk : Desk) → desk_after (desk_left desk calls) call ≡ desk_left desk (calls ++ call ∷ [])
unfolding desk_left
left_more [] call desk = refl
left_more (first ∷ calls) call desk = left_more calls call (desk_after desk first)

pub sessions_go_on : SessionsGoOn
sessions_go_on calls call desk known client is = record {
  reply = ap (λ (d : Desk). desk_reply d call) is
      ∙ (calls_are_answered (past_left none_yet calls) (desk_left empty calls) call client (histories_agree calls known)).reply;
  left = ap (λ (d : Desk). desk_after d call) is ∙ left_more calls call empty;
}

replies_from : (client : ℕ) (calls : List Call) (past : Past) (desk : Desk) → AreKnown calls → Agrees past desk
    → desk_replies_to client desk calls ≡ replies_to client session_rules past calls
unfolding desk_replies_to replies_to
replies_from client [] past desk known agrees = refl
replies_from client (call ∷ calls) past desk known agrees =
    let answered = calls_are_answered past desk call known.0 agrees in
    let later = replies_from client calls (after session_rules past call) (desk_after desk call) known.1 answered.left in
    λ p. if client == call.client then answered.reply p ∷ later p else later p

pub replies_are_of_histories : RepliesAreOfHistories
replies_are_of_histories client calls known = replies_from client calls none_yet empty known new_sessions_agree

pub clients_are_apart : ClientsAreApart
clients_are_apart client calls known =
    rw (replies_are_of_histories client calls known) (replies_are_own session_rules client calls)
