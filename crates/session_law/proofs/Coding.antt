-- What `code` answers and leaves.
use Rattle.std.proofs.Common.{eq-eqb, ◌≡◌, ℕ, ◌-◌, ◌*◌, ◌<◌, ◌≤◌, ◌==◌, Bool, true, false, List, ◌∷◌, ◌++◌, length, Option, Some, None, arith, refl, sym, ◌∙◌, ap, subst}
use Rattle.std.proofs.{lemmas.List.places, lemmas.List.length-append, lemmas.Grind.same_number_lists}
use Rattle.field_words.specs.{Sizes.page_size, Writes.with_bytes, Writes.zeros}
use Rattle.field_words.proofs.Writes.{length_zeros}
use Rattle.buffer_table.specs.declared.buffer.Kind.TheVariants.{Code}
use Rattle.job_session.specs.declared.denied.BrokenRule.{BrokenRule}
use Rattle.session_pages.specs.Map.{free_run}
use Rattle.job_session.specs.Desk.{Desk, page_total, bytes_of, least_id, placed_id, created_id, denied_id, made_id, code_answer, after_code, pages_for, with_written}
use Rattle.job_session.specs.{Own.Held, Own.Make, Own.NewBuffer, Own.with_buffer, Own.new_by, Own.make_by, Own.bytes_padded, Replies.made_reply}
use Rattle.job_session.specs.{Places.Place, Places.least_place, Session.Past, Session.with_own, Session.pages_of}
use Rattle.job_session.specs.Checked.{shader_refusal, session_rules}
use Rattle.session_law.specs.Agree.{IsKey, client_count, Agrees}
use Rattle.session_law.proofs.Making.{HasRoom, make_agrees, made_at, made_pages, made_kind, make_bytes, new_place, zero_buffer}
use Rattle.session_law.proofs.{Writing.Lies, Writing.write_agrees, Writing.written_buffer, Outcomes.Meets, Outcomes.same_agrees}
use Rattle.session_law.proofs.{Rooms.same_id, Rooms.same_room, Rooms.id_found, Rooms.room_found, Shaders.shader_some}

-- the shader's pages hold it
pub pages_hold : (bytes : List ℕ) → length bytes ≤ page_size * pages_for bytes
pages_hold bytes = omega arith

pub some_pages : (bytes : List ℕ) → 1 ≤ length bytes → 1 ≤ pages_for bytes
some_pages bytes some = omega arith

padded_length : (bytes : List ℕ) → length (bytes_padded bytes) ≡ page_size * pages_for bytes
padded_length bytes =
    length-append bytes (zeros (page_size * pages_for bytes - length bytes))
    ∙ omega (arith, length_zeros (page_size * pages_for bytes - length bytes), pages_hold bytes)

abbrev pub shader_buffer : List ℕ → Held
shader_buffer bytes = record { kind = Code; bytes = bytes_padded bytes }

pub padded_pages : (bytes : List ℕ) → pages_of (shader_buffer bytes) ≡ pages_for bytes
padded_pages bytes = omega (arith, padded_length bytes)

-- the bytes written over zeros
padded_at : (n : ℕ) (bytes : List ℕ) → length bytes ≤ n → with_bytes (zeros n) 0 bytes ≡ bytes ++ zeros (n - length bytes)
unfolding zeros
padded_at n bytes fits = same_number_lists _ _ (grind (arith, places)) (λ k below. grind (arith, places))

-- of two changes of one buffer the second stays
abbrev with_new : Past → ℕ → ℕ → Option Held → List Place → Past
with_new past client id x places = record { own = with_own past client (with_buffer (past.own client) id x); places = places }

twice_at : (past : Past) (client id c i : ℕ) (x y : Option Held) (places : List Place) (a b : Bool) → (c == client) ≡ a → (i == id) ≡ b
    → with_own (with_new past client id x places) client (with_buffer (with_own past client (with_buffer (past.own client) id x) client) id y) c i
    ≡ with_own past client (with_buffer (past.own client) id y) c i
twice_at past client id c i x y places true true first second = rw (first, second) refl
twice_at past client id c i x y places true false first second = rw (first, second, eq-eqb client client refl, second) refl
twice_at past client id c i x y places false b first second = rw first refl

twice : (past : Past) (client id : ℕ) (x y : Option Held) (places : List Place)
    → with_own (with_new past client id x places) client (with_buffer (with_own past client (with_buffer (past.own client) id x) client) id y)
    ≡ with_own past client (with_buffer (past.own client) id y)
twice past client id x y places = λ p c i. twice_at past client id c i x y places (c == client) (i == id) refl refl p

-- the buffer is made, and the bytes are written into it
code_held : (past : Past) (desk : Desk) (client id first : ℕ) (bytes : List ℕ) → Agrees past desk → HasRoom desk client id (pages_for bytes) first
    → written_buffer (made_at desk client id (pages_for bytes) Code first) client id 0 bytes ≡ shader_buffer bytes
code_held past desk client id first bytes agrees room =
    let kinds = made_kind desk client id (pages_for bytes) first Code room.key agrees.sized in
    let before = make_bytes past desk client id (pages_for bytes) first Code agrees room in
    let after : with_bytes (bytes_of (made_at desk client id (pages_for bytes) Code first) client id) 0 bytes ≡ bytes_padded bytes =
    ap (λ (b : List ℕ). with_bytes b 0 bytes) before ∙ padded_at (page_size * pages_for bytes) bytes (pages_hold bytes) in
    λ p. record { kind = kinds p; bytes = after p }

code_agrees : (past : Past) (desk : Desk) (client id first : ℕ) (bytes : List ℕ) → Agrees past desk → HasRoom desk client id (pages_for bytes) first
    → Agrees (with_new past client id (Some (shader_buffer bytes)) (new_place client id first (pages_for bytes) ∷ past.places))
    (with_written (made_at desk client id (pages_for bytes) Code first) client id 0 bytes)
code_agrees past desk client id first bytes agrees room =
    let counts = made_pages desk client id (pages_for bytes) first Code room.key agrees.sized in
    let places : List Place = new_place client id first (pages_for bytes) ∷ past.places in
    let lies : Lies (made_at desk client id (pages_for bytes) Code first) client id 0 bytes =
    record { key = room.key; some = rw counts room.some; inside = rw counts (omega (arith, pages_hold bytes)) } in
    let held = code_held past desk client id first bytes agrees room in
    let own = twice past client id (Some (zero_buffer Code (pages_for bytes))) (Some (shader_buffer bytes)) places in
    subst (λ (o : ℕ → ℕ → Option Held). Agrees (record { own = o; places = places }) (with_written (made_at desk client id (pages_for bytes) Code first) client id 0 bytes)) own
    (subst (λ (h : Held). Agrees (record {
      own = with_own (with_new past client id (Some (zero_buffer Code (pages_for bytes))) places) client
          (with_buffer (with_own past client (with_buffer (past.own client) id (Some (zero_buffer Code (pages_for bytes)))) client) id (Some h));
      places = places;
    }) (with_written (made_at desk client id (pages_for bytes) Code first) client id 0 bytes)) held
    (write_agrees (with_new past client id (Some (zero_buffer Code (pages_for bytes))) places) (made_at desk client id (pages_for bytes) Code first) client id 0 bytes
    (make_agrees past desk client id (pages_for bytes) first Code agrees room) lies))

code_found : (past : Past) (desk : Desk) (client id : ℕ) (bytes : List ℕ) (found : Option ℕ) → Agrees past desk → IsKey client id → page_total desk client id ≡ 0
    → 1 ≤ pages_for bytes → free_run desk.map (pages_for bytes) ≡ found → least_place past.places (pages_of (shader_buffer bytes)) ≡ found
    → Meets past (record { client = client; command = Make bytes }) (made_reply (denied_id (placed_id id found))) (after_code desk client bytes (denied_id (placed_id id found)))
    (NewBuffer id (shader_buffer bytes))
code_found past desk client id bytes None agrees key none some is room = rw room (refl, agrees)
code_found past desk client id bytes (Some first) agrees key none some is room =
    rw (room, is) (
      refl,
      subst (λ (n : ℕ). Agrees (with_new past client id (Some (shader_buffer bytes)) (new_place client id first n ∷ past.places))
          (with_written (made_at desk client id (pages_for bytes) Code first) client id 0 bytes)) (sym (padded_pages bytes))
          (code_agrees past desk client id first bytes agrees (room_found desk client id (pages_for bytes) first key none some is)),
    )

code_id : (past : Past) (desk : Desk) (client : ℕ) (bytes : List ℕ) (ids : Option ℕ) → Agrees past desk → client < client_count → 1 ≤ pages_for bytes → least_id desk.counts client ≡ ids
    → Meets past (record { client = client; command = Make bytes }) (made_reply (denied_id (created_id desk (pages_for bytes) ids)))
    (after_code desk client bytes (denied_id (created_id desk (pages_for bytes) ids)))
    (new_by (past.own client) (shader_buffer bytes) ids)
code_id past desk client bytes None agrees known some is = (refl, same_agrees past desk client agrees)
code_id past desk client bytes (Some id) agrees known some is =
    let found = id_found desk client id is in
    code_found past desk client id bytes (free_run desk.map (pages_for bytes)) agrees (record { known = known; small = found.0 }) found.1 some refl
    (ap (λ (n : ℕ). least_place past.places n) (padded_pages bytes) ∙ same_room past desk (pages_for bytes) agrees)

code_step : (past : Past) (desk : Desk) (client : ℕ) (bytes : List ℕ) → Agrees past desk → client < client_count → (refusal : Option BrokenRule) → shader_refusal bytes ≡ refusal
    → Meets past (record { client = client; command = Make bytes }) (made_reply (made_id desk client bytes refusal)) (after_code desk client bytes (made_id desk client bytes refusal))
    (make_by (past.own client) bytes refusal)
code_step past desk client bytes agrees known (Some refusal) is = (refl, same_agrees past desk client agrees)
code_step past desk client bytes agrees known None is =
    rw (same_id past desk client agrees known)
    (code_id past desk client bytes (least_id desk.counts client) agrees known (some_pages bytes (shader_some bytes is)) refl)

pub code_meets : (past : Past) (desk : Desk) (client : ℕ) (bytes : List ℕ) → Agrees past desk → client < client_count
    → Meets past (record { client = client; command = Make bytes }) (made_reply (code_answer desk client bytes)) (after_code desk client bytes (code_answer desk client bytes))
    (make_by (past.own client) bytes (session_rules.code bytes))
code_meets past desk client bytes agrees known = code_step past desk client bytes agrees known (shader_refusal bytes) refl
