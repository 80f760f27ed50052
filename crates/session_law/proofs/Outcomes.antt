-- What each call answers and leaves, where the desk agrees with the calls before.
use Rattle.std.proofs.Common.{ne_eqb, ◌≡◌, ℕ, ◌+◌, ◌*◌, ◌<◌, ◌≤◌, ◌==◌, ◌&&◌, ◌||◌, not, nat_lt, Bool, true, false, if◌then◌else◌, List, [], ◌∷◌, length, take, drop, Option, Some, None, Ok, Err, arith, refl, sym, ◌∙◌, ap, subst}
use Rattle.std.proofs.lemmas.Bool.Decides.{nat_tests}
use Rattle.field_words.specs.{Sizes.page_size, Writes.with_bytes}
use Rattle.buffer_table.specs.{declared.buffer.Kind.Kind, declared.buffer.Kind.TheVariants.Plain, declared.buffer.Kind.TheVariants.Code}
use Rattle.job_session.specs.declared.denied.BrokenRule.{BrokenRule}
use Rattle.phys_mem.specs.Window.{window_of}
use Rattle.session_pages.specs.Map.{place_of}
use Rattle.job_session.specs.Own.{Held, Write, Read, Free, Submit, Reply, Done, Bytes, Refused, Outcome, Answered, most_buffers, most_read, with_buffer, write_by, read_by, free_by, submit_by}
use Rattle.job_session.specs.Desk.{Desk, first_page, page_total, kind_of, bytes_of, held_in, is_live, lies_in, write_in, write_answer, after_write, read_answer, free_answer, after_free, job_answer, submit_answer}
use Rattle.job_session.specs.{Own.write_in as own_write_in, Places.Place, Places.is_of, Places.without, Checked.session_rules}
use Rattle.job_session.specs.Session.{Call, Past, with_own, reply_by, past_by}
use Rattle.job_session.specs.Replies.{done_reply, read_reply, submitted_reply}
use Rattle.session_law.specs.Agree.{IsKey, client_count, AreListed, IsListed, Agrees}
use Rattle.session_law.proofs.{Bytes.window_length, Bytes.read_window, Runs.both_true}
use Rattle.session_law.proofs.{Listing.is_of_key, Listing.listed_some, Writing.Lies, Writing.write_agrees, Writing.room_in}
use Rattle.session_law.proofs.Freeing.{free_agrees}
use Rattle.std.proofs.lemmas.Bool.{eqb-true}

-- nothing changes
own_by : (past : Past) (client c : ℕ) (b : Bool) → (c == client) ≡ b → (if b then past.own client else past.own c) ≡ past.own c
own_by past client c true is = ap past.own (sym (eqb-true c client is))
own_by past client c false is = refl

own_same : (past : Past) (client : ℕ) → with_own past client (past.own client) ≡ past.own
own_same past client = λ p c. own_by past client c (c == client) refl p

pub same_agrees : (past : Past) (desk : Desk) (client : ℕ) → Agrees past desk
    → Agrees (record { own = with_own past client (past.own client); places = past.places }) desk
same_agrees past desk client agrees =
    subst (λ (own : ℕ → ℕ → Option Held). Agrees (record { own = own; places = past.places }) desk) (sym (own_same past client)) agrees

-- a call's reply, and that what it leaves agrees
abbrev pub Meets : Past → Call → Reply BrokenRule → Desk → Outcome BrokenRule → Type 0
Meets past call reply left o = (reply ≡ reply_by past o) × Agrees (past_by past call o) left

-- whether the client has the buffer
pub live_key : (desk : Desk) (client id : ℕ) → client < client_count → is_live desk client id ≡ true → IsKey client id × (1 ≤ page_total desk client id)
live_key desk client id known live =
    let both = both_true (nat_lt id most_buffers) (not (page_total desk client id == 0)) live in
    let small : nat_lt id most_buffers ≡ true = both.0 in
    let some : not (page_total desk client id == 0) ≡ true = both.1 in
    (record { known = known; small = grind (arith, nat_tests) }, grind (arith, nat_tests))

pub live_held : (past : Past) (desk : Desk) (client id : ℕ) → Agrees past desk → client < client_count → is_live desk client id ≡ true
    → past.own client id ≡ Some (record { kind = kind_of desk client id; bytes = bytes_of desk client id })
unfolding held_in
live_held past desk client id agrees known live =
    ap (λ (own : ℕ → Option Held). own id) (agrees.held client known) ∙ rw live refl

pub dead_held : (past : Past) (desk : Desk) (client id : ℕ) → Agrees past desk → client < client_count → is_live desk client id ≡ false → past.own client id ≡ None
unfolding held_in
dead_held past desk client id agrees known dead =
    ap (λ (own : ℕ → Option Held). own id) (agrees.held client known) ∙ rw dead refl

-- no place is that of a buffer that the client doesn't have
absent : (desk : Desk) (client id : ℕ) (place : Place) → IsListed desk place → is_live desk client id ≡ false → is_of client id place ≡ false
absent desk client id place listed dead = absent_by desk client id place listed dead (is_of client id place) refl
  where
    absent_by : (desk : Desk) (client id : ℕ) (place : Place) → IsListed desk place → is_live desk client id ≡ false → (b : Bool) → is_of client id place ≡ b → b ≡ false
    absent_by desk client id place listed dead false is = refl
    absent_by desk client id place listed dead true is =
        let both = is_of_key client id place is in
        let some : 1 ≤ page_total desk client id = rw (sym both.0, sym both.1) (listed_some desk place listed) in
        let small : id < most_buffers = rw (sym both.1) listed.key.small in
        let live : is_live desk client id ≡ true = live_yes desk client id small some in
        let clash : true ≡ false = sym live ∙ dead in
        clash
      where
        live_yes : (desk : Desk) (client id : ℕ) → id < most_buffers → 1 ≤ page_total desk client id → is_live desk client id ≡ true
        live_yes desk client id small some =
            let e : nat_lt id most_buffers ≡ true = grind (arith, nat_tests) in
            let n : (page_total desk client id == 0) ≡ false = ne_eqb (page_total desk client id) 0 (λ z. omega (arith, some, z)) in
            rw (e, n) refl

without_none : (desk : Desk) (client id : ℕ) (places : List Place) → AreListed desk places → is_live desk client id ≡ false → without client id places ≡ places
unfolding without
without_none desk client id [] listed dead = refl
without_none desk client id (place ∷ places) listed dead =
    rw (absent desk client id place listed.0 dead) (ap (λ (rest : List Place). place ∷ rest) (without_none desk client id places listed.1 dead))

-- free
free_step : (past : Past) (desk : Desk) (client id : ℕ) → Agrees past desk → client < client_count → (b : Bool) → is_live desk client id ≡ b
    → Meets past (record { client = client; command = Free id }) (done_reply (free_answer desk client id)) (after_free desk client id)
    (free_by (past.own client) id (past.own client id))
free_step past desk client id agrees known true live =
    let key = live_key desk client id known live in
    rw (live, live_held past desk client id agrees known live) (refl, free_agrees past desk client id agrees key.0)
free_step past desk client id agrees known false dead =
    rw (dead, dead_held past desk client id agrees known dead) (
      refl,
      subst (λ (places : List Place). Agrees (record { own = with_own past client (past.own client); places = places }) desk)
          (sym (without_none desk client id past.places agrees.listed dead)) (same_agrees past desk client agrees),
    )

pub free_meets : (past : Past) (desk : Desk) (client id : ℕ) → Agrees past desk → client < client_count
    → Meets past (record { client = client; command = Free id }) (done_reply (free_answer desk client id)) (after_free desk client id)
    (free_by (past.own client) id (past.own client id))
free_meets past desk client id agrees known = free_step past desk client id agrees known (is_live desk client id) refl

-- write
pub bytes_long : (past : Past) (desk : Desk) (client id : ℕ) → Agrees past desk → IsKey client id → length (bytes_of desk client id) ≡ page_size * page_total desk client id
bytes_long past desk client id agrees key =
    window_length desk.map.memory (place_of (first_page desk client id)) (page_size * page_total desk client id) (room_in past desk client id agrees key)

write_long : (past : Past) (desk : Desk) (client id at : ℕ) (part : List ℕ) → Agrees past desk → IsKey client id → 1 ≤ page_total desk client id
    → kind_of desk client id ≡ Plain → (b : Bool) → nat_lt (page_size * page_total desk client id) (at + length part) ≡ b
    → Meets past (record { client = client; command = Write id at part }) (done_reply (if not b then Ok tt else Err 2))
    (after_write desk client id at part (if not b then Ok tt else Err 2))
    (if b then Answered (Refused 2) (past.own client)
    else Answered Done (with_buffer (past.own client) id (Some (record { kind = Plain; bytes = with_bytes (bytes_of desk client id) at part }))))
write_long past desk client id at part agrees key some plain true is = (refl, same_agrees past desk client agrees)
write_long past desk client id at part agrees key some plain false is =
    let inside : at + length part ≤ page_size * page_total desk client id = grind (arith, nat_tests) in
    let lies : Lies desk client id at part = record { key = key; some = some; inside = inside } in (
      refl,
      subst (λ (kind : Kind). Agrees (record {
        own = with_own past client (with_buffer (past.own client) id (Some (record { kind = kind; bytes = with_bytes (bytes_of desk client id) at part })));
        places = past.places;
      }) (after_write desk client id at part (Ok tt))) plain (write_agrees past desk client id at part agrees lies),
    )

write_kind : (past : Past) (desk : Desk) (client id at : ℕ) (part : List ℕ) → Agrees past desk → IsKey client id → 1 ≤ page_total desk client id
    → (kind : Kind) → kind_of desk client id ≡ kind
    → Meets past (record { client = client; command = Write id at part }) (done_reply (write_in desk client id at (length part) kind))
    (after_write desk client id at part (write_in desk client id at (length part) kind))
    (own_write_in (past.own client) id at part kind (bytes_of desk client id))
write_kind past desk client id at part agrees key some Code is = (refl, same_agrees past desk client agrees)
write_kind past desk client id at part agrees key some Plain is =
    subst (λ (n : ℕ). Meets past (record { client = client; command = Write id at part }) (done_reply (write_in desk client id at (length part) Plain))
    (after_write desk client id at part (write_in desk client id at (length part) Plain))
    (if nat_lt n (at + length part) then Answered (Refused 2) (past.own client)
    else Answered Done (with_buffer (past.own client) id (Some (record { kind = Plain; bytes = with_bytes (bytes_of desk client id) at part })))))
    (sym (bytes_long past desk client id agrees key))
    (write_long past desk client id at part agrees key some is (nat_lt (page_size * page_total desk client id) (at + length part)) refl)

write_step : (past : Past) (desk : Desk) (client id at : ℕ) (part : List ℕ) → Agrees past desk → client < client_count → (b : Bool) → is_live desk client id ≡ b
    → Meets past (record { client = client; command = Write id at part }) (done_reply (write_answer desk client id at (length part)))
    (after_write desk client id at part (write_answer desk client id at (length part)))
    (write_by (past.own client) id at part (past.own client id))
write_step past desk client id at part agrees known true live =
    let key = live_key desk client id known live in
    rw (live, live_held past desk client id agrees known live)
    (write_kind past desk client id at part agrees key.0 key.1 (kind_of desk client id) refl)
write_step past desk client id at part agrees known false dead =
    rw (dead, dead_held past desk client id agrees known dead) (refl, same_agrees past desk client agrees)

pub write_meets : (past : Past) (desk : Desk) (client id at : ℕ) (part : List ℕ) → Agrees past desk → client < client_count
    → Meets past (record { client = client; command = Write id at part }) (done_reply (write_answer desk client id at (length part)))
    (after_write desk client id at part (write_answer desk client id at (length part)))
    (write_by (past.own client) id at part (past.own client id))
write_meets past desk client id at part agrees known = write_step past desk client id at part agrees known (is_live desk client id) refl

-- read
abbrev report : List ℕ → Reply BrokenRule
report bytes = Bytes bytes

read_long : (past : Past) (desk : Desk) (client id at len : ℕ) → Agrees past desk → (many past_end : Bool)
    → nat_lt (page_size * page_total desk client id) (at + len) ≡ past_end
    → Meets past (record { client = client; command = Read id at len })
    (read_reply (if not many && not past_end then Ok (window_of desk.map.memory (place_of (first_page desk client id) + at) len) else Err 2)) desk
    (if many || past_end then Answered (Refused 2) (past.own client) else Answered (Bytes (take len (drop at (bytes_of desk client id)))) (past.own client))
read_long past desk client id at len agrees true true is = (refl, same_agrees past desk client agrees)
read_long past desk client id at len agrees true false is = (refl, same_agrees past desk client agrees)
read_long past desk client id at len agrees false true is = (refl, same_agrees past desk client agrees)
read_long past desk client id at len agrees false false is =
    let inside : at + len ≤ page_size * page_total desk client id = grind (arith, nat_tests) in (
      ap report
          (read_window desk.map.memory (place_of (first_page desk client id)) (page_size * page_total desk client id) at len inside),
      same_agrees past desk client agrees,
    )

read_live : (past : Past) (desk : Desk) (client id at len : ℕ) → Agrees past desk → IsKey client id
    → Meets past (record { client = client; command = Read id at len })
    (read_reply (if not (nat_lt most_read len) && lies_in desk client id at len then Ok (window_of desk.map.memory (place_of (first_page desk client id) + at) len) else Err 2)) desk
    (read_by (past.own client) at len (Some (record { kind = kind_of desk client id; bytes = bytes_of desk client id })))
read_live past desk client id at len agrees key =
    subst (λ (n : ℕ). Meets past (record { client = client; command = Read id at len })
    (read_reply (if not (nat_lt most_read len) && lies_in desk client id at len then Ok (window_of desk.map.memory (place_of (first_page desk client id) + at) len) else Err 2)) desk
    (if nat_lt most_read len || nat_lt n (at + len) then Answered (Refused 2) (past.own client) else Answered (Bytes (take len (drop at (bytes_of desk client id)))) (past.own client)))
    (sym (bytes_long past desk client id agrees key))
    (read_long past desk client id at len agrees (nat_lt most_read len) (nat_lt (page_size * page_total desk client id) (at + len)) refl)

read_step : (past : Past) (desk : Desk) (client id at len : ℕ) → Agrees past desk → client < client_count → (b : Bool) → is_live desk client id ≡ b
    → Meets past (record { client = client; command = Read id at len }) (read_reply (read_answer desk client id at len)) desk
    (read_by (past.own client) at len (past.own client id))
read_step past desk client id at len agrees known true live =
    let key = live_key desk client id known live in
    rw (live, live_held past desk client id agrees known live) (read_live past desk client id at len agrees key.0)
read_step past desk client id at len agrees known false dead =
    rw (dead, dead_held past desk client id agrees known dead) (refl, same_agrees past desk client agrees)

pub read_meets : (past : Past) (desk : Desk) (client id at len : ℕ) → Agrees past desk → client < client_count
    → Meets past (record { client = client; command = Read id at len }) (read_reply (read_answer desk client id at len)) desk
    (read_by (past.own client) at len (past.own client id))
read_meets past desk client id at len agrees known = read_step past desk client id at len agrees known (is_live desk client id) refl

-- submit
submit_by_rule : (past : Past) (desk : Desk) (client : ℕ) (parts : List ℕ) → Agrees past desk → (refusal : Option BrokenRule)
    → Meets past (record { client = client; command = Submit parts }) (submitted_reply (job_answer refusal)) desk (submit_by (past.own client) refusal)
submit_by_rule past desk client parts agrees None = (refl, same_agrees past desk client agrees)
submit_by_rule past desk client parts agrees (Some refusal) = (refl, same_agrees past desk client agrees)

pub submit_meets : (past : Past) (desk : Desk) (client : ℕ) (parts : List ℕ) → Agrees past desk → client < client_count
    → Meets past (record { client = client; command = Submit parts }) (submitted_reply (submit_answer desk client parts)) desk
    (submit_by (past.own client) (session_rules.job client (past.own client) parts))
submit_meets past desk client parts agrees known =
    subst (λ (own : ℕ → Option Held). Meets past (record { client = client; command = Submit parts })
    (submitted_reply (job_answer (session_rules.job client own parts))) desk (submit_by (past.own client) (session_rules.job client (past.own client) parts)))
    (agrees.held client known)
    (submit_by_rule past desk client parts agrees (session_rules.job client (past.own client) parts))
