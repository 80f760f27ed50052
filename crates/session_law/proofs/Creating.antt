-- What `create` answers and leaves.
use Rattle.std.proofs.Common.{◌≡◌, ℕ, ◌*◌, ◌<◌, ◌≤◌, ◌==◌, ◌||◌, nat_lt, Bool, true, false, ◌∷◌, Option, Some, None, arith, refl, sym, ◌∙◌, ap, subst}
use Rattle.std.proofs.lemmas.Bool.Decides.{nat_tests}
use Rattle.field_words.specs.Sizes.{page_size}
use Rattle.field_words.proofs.Writes.{length_zeros}
use Rattle.buffer_table.specs.{declared.buffer.Kind.Kind, declared.buffer.Kind.TheVariants.Plain}
use Rattle.session_pages.specs.Map.{free_run}
use Rattle.job_session.specs.{Own.Create, Own.NewBuffer, Own.most_pages, Own.with_buffer, Own.new_by, Own.create_of, Places.least_place}
use Rattle.job_session.specs.{Session.Past, Session.with_own, Session.pages_of, Replies.created_reply}
use Rattle.job_session.specs.Desk.{Desk, page_total, least_id, placed_id, created_id, create_answer, after_create}
use Rattle.session_law.specs.Agree.{IsKey, client_count, Agrees}
use Rattle.session_law.proofs.Making.{make_agrees, made_at, new_place, zero_buffer}
use Rattle.session_law.proofs.{Rooms.same_id, Rooms.same_room, Rooms.id_found, Rooms.room_found, Outcomes.Meets, Outcomes.same_agrees}

pub zero_pages : (kind : Kind) (pages : ℕ) → pages_of (zero_buffer kind pages) ≡ pages
zero_pages kind pages = omega (arith, length_zeros (page_size * pages))

create_found : (past : Past) (desk : Desk) (client id pages : ℕ) (found : Option ℕ) → Agrees past desk → IsKey client id → page_total desk client id ≡ 0 → 1 ≤ pages
    → free_run desk.map pages ≡ found → least_place past.places (pages_of (zero_buffer Plain pages)) ≡ found
    → Meets past (record { client = client; command = Create pages }) (created_reply (placed_id id found)) (after_create desk client pages (placed_id id found))
    (NewBuffer id (zero_buffer Plain pages))
create_found past desk client id pages None agrees key none some is room = rw room (refl, agrees)
create_found past desk client id pages (Some first) agrees key none some is room =
    rw (room, is) (
      refl,
      subst (λ (n : ℕ). Agrees (record {
        own = with_own past client (with_buffer (past.own client) id (Some (zero_buffer Plain pages)));
        places = new_place client id first n ∷ past.places;
      }) (made_at desk client id pages Plain first)) (sym (zero_pages Plain pages))
          (make_agrees past desk client id pages first Plain agrees (room_found desk client id pages first key none some is)),
    )

create_id : (past : Past) (desk : Desk) (client pages : ℕ) (ids : Option ℕ) → Agrees past desk → client < client_count → 1 ≤ pages → least_id desk.counts client ≡ ids
    → Meets past (record { client = client; command = Create pages }) (created_reply (created_id desk pages ids)) (after_create desk client pages (created_id desk pages ids))
    (new_by (past.own client) (zero_buffer Plain pages) ids)
create_id past desk client pages None agrees known some is = (refl, same_agrees past desk client agrees)
create_id past desk client pages (Some id) agrees known some is =
    let found = id_found desk client id is in
    create_found past desk client id pages (free_run desk.map pages) agrees (record { known = known; small = found.0 }) found.1 some refl
    (ap (λ (n : ℕ). least_place past.places n) (zero_pages Plain pages) ∙ same_room past desk pages agrees)

create_step : (past : Past) (desk : Desk) (client pages : ℕ) → Agrees past desk → client < client_count → (b : Bool) → ((pages == 0) || nat_lt most_pages pages) ≡ b
    → Meets past (record { client = client; command = Create pages }) (created_reply (create_answer desk client pages))
    (after_create desk client pages (create_answer desk client pages)) (create_of (past.own client) pages)
create_step past desk client pages agrees known true is = rw is (refl, same_agrees past desk client agrees)
create_step past desk client pages agrees known false is =
    let some : 1 ≤ pages = grind (arith, nat_tests) in
    rw (is, same_id past desk client agrees known) (create_id past desk client pages (least_id desk.counts client) agrees known some refl)

pub create_meets : (past : Past) (desk : Desk) (client pages : ℕ) → Agrees past desk → client < client_count
    → Meets past (record { client = client; command = Create pages }) (created_reply (create_answer desk client pages))
    (after_create desk client pages (create_answer desk client pages)) (create_of (past.own client) pages)
create_meets past desk client pages agrees known = create_step past desk client pages agrees known ((pages == 0) || nat_lt most_pages pages) refl
