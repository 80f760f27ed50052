-- Memory is full for a call exactly where there is no room for its buffer.
use Rattle.std.proofs.Common.{◌≡◌, ◌↔◌, ℕ, zero, suc, take, drop, ◌+◌, ◌<◌, ◌≤◌, ◌==◌, ◌||◌, not, nat_le, nat_lt, Bool, true, false, if◌then◌else◌, List, length, Option, Some, None, arith, refl, sym, ◌∙◌, ap}
use Rattle.std.proofs.lemmas.Bool.Decides.{nat_tests}
use Rattle.field_words.specs.Writes.{with_bytes}
use Rattle.buffer_table.specs.{declared.buffer.Kind.Kind, declared.buffer.Kind.TheVariants.Plain, declared.buffer.Kind.TheVariants.Code}
use Rattle.job_session.specs.declared.denied.BrokenRule.{BrokenRule}
use Rattle.session_pages.proofs.Lowest.{all_are, run_never, first_is}
use Rattle.overflow_slots.specs.Search.{first_where}
use Rattle.overflow_slots.proofs.Searches.{first_found}
use Rattle.session_pages.specs.Runs.{page_count, all_where, is_run, first_run}
use Rattle.job_session.specs.Own.{Held, Command, Create, Make, Write, Read, Free, Submit, Reply, Done, Bytes, Refused, Answered, most_buffers, most_pages, most_read, with_buffer, free_if, is_free_id, new_by, create_of, make_by, write_by, write_in, read_by, free_by, submit_by, outcome}
use Rattle.job_session.specs.{Places.Place, Places.is_used, Places.least_place, Checked.shader_refusal, Checked.session_rules}
use Rattle.job_session.specs.{Session.Past, Session.pages_of, Session.placed_reply, Session.reply_by, Session.reply_to, Desk.pages_for}
use Rattle.session_law.specs.{Full.IsRoom, Full.HasNoRoom, Full.IsFullFor, Laws.FullIsExact, Laws.PlacesAreLowest}
use Rattle.session_law.proofs.Runs.{both_true, all_found}
use Rattle.session_law.proofs.{Making.zero_buffer, Creating.zero_pages, Coding.shader_buffer, Coding.padded_pages, Coding.some_pages}
use Rattle.session_law.proofs.{Shaders.shader_some, Answering.calls_are_answered}

-- a number that passes is found, or one before it
none_by : (p : ℕ → Bool) (from n k : ℕ) → from ≤ k → k < from + suc n → p k ≡ true
    → (from + 1 ≤ k → k < from + 1 + n → first_where p (from + 1) n ≡ None → ⊥) → (b : Bool) → p from ≡ b
    → (if b then Some from else first_where p (from + 1) n) ≡ None → (d : Bool) → nat_le k from ≡ d → ⊥
none_by p from n k low high here later true is none d same = let clash : ⊥ = cc in clash
none_by p from n k low high here later false is none true same =
    let e : k ≡ from = grind (arith, nat_tests) in
    let clash : true ≡ false = sym here ∙ (ap p e ∙ is) in
    absurd (grind (arith, clash))
none_by p from n k low high here later false is none false same =
    let past : from < k = grind (arith, nat_tests) in later (omega arith) (omega arith) none

never_none : (p : ℕ → Bool) (from n k : ℕ) → from ≤ k → k < from + n → p k ≡ true → first_where p from n ≡ None → ⊥
unfolding first_where
never_none p from zero k low high here none = absurd (omega (arith, low, high))
never_none p from (suc n) k low high here none =
    none_by p from n k low high here (λ a b. never_none p (from + 1) n k a b here) (p from) refl none (nat_le k from) refl

-- the runs of pages that lie in no buffer
abbrev unused : List Place → ℕ → Bool
unused places page = not (is_used places page)

not_true : (b : Bool) → not b ≡ true → b ≡ false
not_true true is = let clash : false ≡ true = is in absurd (grind (arith, clash))
not_true false is = refl

room_run : (places : List Place) (pages first : ℕ) → IsRoom places pages first → is_run (unused places) pages first ≡ true
unfolding is_run
room_run places pages first room =
    let fits : first + pages ≤ page_count = room.fits in
    let e : nat_le (first + pages) page_count ≡ true = grind (arith, nat_tests) in
    let all = all_are (unused places) first pages (λ page low high. ap not (room.free page low high)) in
    rw (e, all) refl

run_room : (places : List Place) (pages first : ℕ) → is_run (unused places) pages first ≡ true → IsRoom places pages first
unfolding is_run
run_room places pages first is =
    let both = both_true (nat_le (first + pages) page_count) (all_where (unused places) first pages) is in
    let low : nat_le (first + pages) page_count ≡ true = both.0 in
    record {
      fits = grind (arith, nat_tests);
      free = λ page a b. not_true (is_used places page) (all_found (unused places) first pages page both.1 a b);
    }

no_run_by : (places : List Place) (pages first : ℕ) → (IsRoom places pages first → ⊥) → (b : Bool) → is_run (unused places) pages first ≡ b
    → is_run (unused places) pages first ≡ false
no_run_by places pages first out true is = absurd (out (run_room places pages first is))
no_run_by places pages first out false is = is

place_none : (places : List Place) (pages : ℕ) → ((first : ℕ) → IsRoom places pages first → ⊥) → least_place places pages ≡ None
unfolding least_place
place_none places pages out =
    run_never (unused places) pages (λ first inside. no_run_by places pages first (out first) (is_run (unused places) pages first) refl)

none_place : (places : List Place) (pages : ℕ) → 1 ≤ pages → least_place places pages ≡ None → (first : ℕ) → IsRoom places pages first → ⊥
unfolding least_place first_run
none_place places pages some none first room =
    let fits = room.fits in
    never_none (is_run (unused places) pages) 0 page_count first (omega arith) (omega (arith, fits, some)) (room_run places pages first room) none

-- the first that passes is the least
before_by : (p : ℕ → Bool) (from n k j : ℕ) → from ≤ j → j < k → (first_where p (from + 1) n ≡ Some k → from + 1 ≤ j → p j ≡ false) → (b : Bool) → p from ≡ b
    → (if b then Some from else first_where p (from + 1) n) ≡ Some k → (d : Bool) → nat_le j from ≡ d → p j ≡ false
before_by p from n k j low high later true is found d same =
    let e : from ≡ k = cc in absurd (omega (arith, low, high, e))
before_by p from n k j low high later false is found true same =
    let e : j ≡ from = grind (arith, nat_tests) in ap p e ∙ is
before_by p from n k j low high later false is found false same =
    let past : from < j = grind (arith, nat_tests) in later found (omega arith)

none_before : (p : ℕ → Bool) (from n k j : ℕ) → first_where p from n ≡ Some k → from ≤ j → j < k → p j ≡ false
unfolding first_where
none_before p from zero k j found low high = let clash : ⊥ = cc in absurd clash
none_before p from (suc n) k j found low high =
    before_by p from n k j low high (λ more below. none_before p (from + 1) n k j more below high) (p from) refl found (nat_le j from) refl

pub places_are_lowest : PlacesAreLowest
unfolding least_place first_run
places_are_lowest places pages first some = (
  (λ is.
      let found = first_found (is_run (unused places) pages) 0 page_count first is in
      record {
        room = run_room places pages first found.1;
        lowest = λ lower below room.
            let clash : true ≡ false =
            sym (room_run places pages lower room) ∙ none_before (is_run (unused places) pages) 0 page_count first lower is (omega arith) below in
            absurd (grind (arith, clash));
      }),
  (λ least.
      let fits = least.room.fits in
      first_is (is_run (unused places) pages) 0 page_count first (omega arith) (omega (arith, fits, some))
      (λ lower low below. no_run_by places pages lower (least.lowest lower below) (is_run (unused places) pages lower) refl)
      (room_run places pages first least.room)),
)

-- a reply that isn't refusal 6
abbrev refusal : ℕ → Reply BrokenRule
refusal number = Refused number

other_number : (number : ℕ) → (number ≡ 6 → ⊥) → refusal number ≡ refusal 6 → ⊥
other_number number other is = let e : number ≡ 6 = cc in other e

free_none : (held : Option Held) → free_if held ≡ true → held ≡ None
free_none None is = refl
free_none (Some held) is = let clash : false ≡ true = is in absurd (grind (arith, clash))

-- a new buffer
placed_full : (id : ℕ) (found : Option ℕ) → placed_reply {F = BrokenRule} id found ≡ refusal 6 → found ≡ None
placed_full id None is = refl
placed_full id (Some first) is = let clash : ⊥ = cc in absurd clash

new_full : (past : Past) (client pages : ℕ) (held : Held) → pages_of held ≡ pages → 1 ≤ pages → (ids : Option ℕ)
    → first_where (is_free_id (past.own client)) 0 most_buffers ≡ ids → reply_by past (new_by {F = BrokenRule} (past.own client) held ids) ≡ refusal 6 → HasNoRoom past client pages
new_full past client pages held long some None is six = absurd (other_number 4 (λ e. omega (arith, e)) six)
new_full past client pages held long some (Some id) is six =
    let found = first_found (is_free_id (past.own client)) 0 most_buffers id is in
    let none : least_place past.places pages ≡ None =
    ap (λ (n : ℕ). least_place past.places n) (sym long) ∙ placed_full id (least_place past.places (pages_of held)) six in
    record {
      id = id;
      small = omega (arith, found.0);
      unused = free_none (past.own client id) found.1;
      none = none_place past.places pages some none;
    }

full_new : (past : Past) (client pages : ℕ) (held : Held) → pages_of held ≡ pages → HasNoRoom past client pages → (ids : Option ℕ)
    → first_where (is_free_id (past.own client)) 0 most_buffers ≡ ids → reply_by past (new_by {F = BrokenRule} (past.own client) held ids) ≡ refusal 6
full_new past client pages held long full None is =
    absurd (never_none (is_free_id (past.own client)) 0 most_buffers full.id (omega arith) (omega (arith, full.small)) (ap free_if full.unused) is)
full_new past client pages held long full (Some id) is =
    ap (λ (n : ℕ). placed_reply id (least_place past.places n)) long
    ∙ ap (λ (found : Option ℕ). placed_reply id found) (place_none past.places pages full.none)

-- create
create_full : (past : Past) (client pages : ℕ) (b : Bool) → ((pages == 0) || nat_lt most_pages pages) ≡ b
    → reply_by past (if b then Answered (Refused 5) (past.own client) else
    new_by (past.own client) (zero_buffer Plain pages) (first_where (is_free_id (past.own client)) 0 most_buffers)) ≡ refusal 6
    → IsFullFor past client (Create pages)
create_full past client pages true is six = absurd (other_number 5 (λ e. omega (arith, e)) six)
create_full past client pages false is six =
    let some : 1 ≤ pages = grind (arith, nat_tests) in
    let small : pages ≤ most_pages = grind (arith, nat_tests) in (
      some,
      small,
      new_full past client pages (zero_buffer Plain pages) (zero_pages Plain pages) some
          (first_where (is_free_id (past.own client)) 0 most_buffers) refl six,
    )

full_create : (past : Past) (client pages : ℕ) → IsFullFor past client (Create pages) → reply_by past (create_of {F = BrokenRule} (past.own client) pages) ≡ refusal 6
full_create past client pages full =
    let some : 1 ≤ pages = full.0 in
    let small : pages ≤ most_pages = full.1 in
    let e : ((pages == 0) || nat_lt most_pages pages) ≡ false = grind (arith, nat_tests) in
    rw e (full_new past client pages (zero_buffer Plain pages) (zero_pages Plain pages) full.2 (first_where (is_free_id (past.own client)) 0 most_buffers) refl)

-- code
make_full : (past : Past) (client : ℕ) (bytes : List ℕ) (fault : Option BrokenRule) → shader_refusal bytes ≡ fault
    → reply_by past (make_by (past.own client) bytes fault) ≡ refusal 6 → IsFullFor past client (Make bytes)
make_full past client bytes (Some fault) is six = let clash : ⊥ = cc in absurd clash
make_full past client bytes None is six = (
  is,
  new_full past client (pages_for bytes) (shader_buffer bytes) (padded_pages bytes) (some_pages bytes (shader_some bytes is))
      (first_where (is_free_id (past.own client)) 0 most_buffers) refl six,
)

full_make : (past : Past) (client : ℕ) (bytes : List ℕ) → IsFullFor past client (Make bytes)
    → reply_by past (make_by (past.own client) bytes (shader_refusal bytes)) ≡ refusal 6
full_make past client bytes full =
    rw full.0 (full_new past client (pages_for bytes) (shader_buffer bytes) (padded_pages bytes) full.1 (first_where (is_free_id (past.own client)) 0 most_buffers) refl)

-- the other calls
write_ends : (past : Past) (own : ℕ → Option Held) (id at : ℕ) (part : List ℕ) (next : ℕ → Option Held) (b : Bool)
    → reply_by past (if b then Answered (Refused 2) own else Answered Done next) ≡ refusal 6 → ⊥
write_ends past own id at part next true six = other_number 2 (λ e. omega (arith, e)) six
write_ends past own id at part next false six = let clash : ⊥ = cc in clash

write_full : (past : Past) (own : ℕ → Option Held) (id at : ℕ) (part bytes : List ℕ) (kind : Kind)
    → reply_by past (write_in {F = BrokenRule} own id at part kind bytes) ≡ refusal 6 → ⊥
write_full past own id at part bytes Code six = other_number 3 (λ e. omega (arith, e)) six
write_full past own id at part bytes Plain six =
    write_ends past own id at part (with_buffer own id (Some (record { kind = Plain; bytes = with_bytes bytes at part }))) (nat_lt (length bytes) (at + length part)) six

write_not : (past : Past) (own : ℕ → Option Held) (id at : ℕ) (part : List ℕ) (held : Option Held)
    → reply_by past (write_by {F = BrokenRule} own id at part held) ≡ refusal 6 → ⊥
write_not past own id at part None six = other_number 1 (λ e. omega (arith, e)) six
write_not past own id at part (Some held) six = write_full past own id at part held.bytes held.kind six

read_ends : (past : Past) (own : ℕ → Option Held) (bytes : List ℕ) (b : Bool)
    → reply_by past (if b then Answered (Refused 2) own else Answered (Bytes bytes) own) ≡ refusal 6 → ⊥
read_ends past own bytes true six = other_number 2 (λ e. omega (arith, e)) six
read_ends past own bytes false six = let clash : ⊥ = cc in clash

read_not : (past : Past) (own : ℕ → Option Held) (at len : ℕ) (held : Option Held)
    → reply_by past (read_by {F = BrokenRule} own at len held) ≡ refusal 6 → ⊥
read_not past own at len None six = other_number 1 (λ e. omega (arith, e)) six
read_not past own at len (Some held) six =
    read_ends past own (take len (drop at held.bytes)) (nat_lt most_read len || nat_lt (length held.bytes) (at + len)) six

free_not : (past : Past) (own : ℕ → Option Held) (id : ℕ) (held : Option Held) → reply_by past (free_by {F = BrokenRule} own id held) ≡ refusal 6 → ⊥
free_not past own id None six = other_number 1 (λ e. omega (arith, e)) six
free_not past own id (Some held) six = let clash : ⊥ = cc in clash

submit_not : (past : Past) (own : ℕ → Option Held) (fault : Option BrokenRule) → reply_by past (submit_by own fault) ≡ refusal 6 → ⊥
submit_not past own None six = let clash : ⊥ = cc in clash
submit_not past own (Some fault) six = let clash : ⊥ = cc in clash

full_of : (past : Past) (client : ℕ) (command : Command) → (reply_by past (outcome session_rules client (past.own client) command) ≡ refusal 6) ↔ IsFullFor past client command
unfolding outcome
full_of past client (Create pages) =
    (λ six. create_full past client pages ((pages == 0) || nat_lt most_pages pages) refl six, full_create past client pages)
full_of past client (Make bytes) = (λ six. make_full past client bytes (shader_refusal bytes) refl six, full_make past client bytes)
full_of past client (Write id at part) = (write_not past (past.own client) id at part (past.own client id), λ out. absurd out)
full_of past client (Read id at len) = (read_not past (past.own client) at len (past.own client id), λ out. absurd out)
full_of past client (Free id) = (free_not past (past.own client) id (past.own client id), λ out. absurd out)
full_of past client (Submit parts) = (submit_not past (past.own client) (session_rules.job client (past.own client) parts), λ out. absurd out)

pub full_is_exact : FullIsExact
unfolding reply_to
full_is_exact past desk call known agrees =
    let reply = (calls_are_answered past desk call known agrees).reply in
    let full = full_of past call.client call.command in
    (λ six. full.0 (sym reply ∙ six), λ none. reply ∙ full.1 none)
