-- What a slot holds.
use Rattle.std.proofs.Common.{◌≡◌, ℕ, ◌+◌, ◌*◌, ◌≤◌, ◌<◌, ◌&&◌, Bool, true, false, not, nat_lt, List, [], ◌++◌, length, drop, append-nil, refl, sym, ◌∙◌, ap, arith, eq-eqb, ne_eqb, None, Some}
use Rattle.std.proofs.{lemmas.Bool.Decides.nat_tests, Common.length-take-le, Common.length-drop}
use Rattle.phys_mem.specs.Window.{window_of}
use Rattle.buffer_table.specs.{declared.buffer.Kind.Kind, declared.buffer.Kind.TheVariants.Plain, declared.buffer.Kind.TheVariants.Code}
use Rattle.session_pages.specs.{Map.memory_size, Map.place_of, Runs.page_count}
use Rattle.std.specs.Prelude.{slice_index, slice_index_or}
use Rattle.job_session.specs.Desk.{Desk, SlotsFit, slot_of, first_page, page_total, kind_of, bytes_of, held_in}
use Rattle.job_session.specs.Submit.{content_of, laid_in, contents_at}

and_not : (b : Bool) → (b && not true) ≡ false
and_not true = refl
and_not false = refl

pub held_none : (desk : Desk) (client id : ℕ) → page_total desk client id ≡ 0 → held_in desk client id ≡ None
unfolding held_in
held_none desk client id none = rw (eq-eqb (page_total desk client id) 0 none, and_not (nat_lt id 64)) refl

pub held_some : (desk : Desk) (client id : ℕ) → id < 64 → (page_total desk client id ≡ 0 → ⊥)
    → held_in desk client id ≡ Some (record { kind = kind_of desk client id; bytes = bytes_of desk client id })
unfolding held_in
held_some desk client id inside some =
    let low : nat_lt id 64 ≡ true = grind (arith, nat_tests) in
    rw (low, ne_eqb (page_total desk client id) 0 some) refl

-- a slot's pages lie in the memory
window_size : (memory : List ℕ) (first pages : ℕ) → first + pages ≤ page_count → length memory ≡ memory_size
    → length (window_of memory (place_of first) (4096 * pages)) ≡ 4096 * pages
window_size memory first pages fits sized =
    length-take-le (4096 * pages) (drop (place_of first) memory) (rw (length-drop (place_of first) memory, sized) (omega arith))

pub not_code : (kind : Kind) → (kind ≡ Code → ⊥) → kind ≡ Plain
not_code Plain never = refl
not_code Code never = absurd (never refl)

-- The lemmas below speak of a slot by its number, as the code does.
pub laid_none : (desk : Desk) (client id slot place : ℕ) → slot ≡ slot_of client id → slice_index desk.counts slot ≡ 0
    → None ≡ laid_in client place (held_in desk client id)
laid_none desk client id slot place at none =
    ap (laid_in client place) (sym (held_none desk client id (ap (slice_index desk.counts) (sym at) ∙ none)))

pub laid_some : (desk : Desk) (client id slot place whose content : ℕ) → id < 64 → client < 8 → slot ≡ slot_of client id → (slice_index desk.counts slot ≡ 0 → ⊥)
    → SlotsFit desk.firsts desk.counts → length desk.map.memory ≡ memory_size → whose ≡ client
    → ((bytes : List ℕ) → length bytes ≡ 4096 * slice_index desk.counts slot → content ≡ length (content_of (slice_index_or desk.kinds slot Plain) bytes))
    → Some (record { place = place; size = 4096 * slice_index desk.counts slot; client = whose; kind = slice_index_or desk.kinds slot Plain; content = content })
    ≡ laid_in client place (held_in desk client id)
laid_some desk client id slot place whose content inside few at some fit sized is gives =
    let bytes : List ℕ = bytes_of desk client id in
    let here : slice_index desk.counts slot ≡ page_total desk client id = ap (slice_index desk.counts) at in
    let there : slice_index_or desk.kinds slot Plain ≡ kind_of desk client id = ap (λ k. slice_index_or desk.kinds k Plain) at in
    let fits = fit (slot_of client id) (omega arith) in
    let long : length bytes ≡ 4096 * page_total desk client id = window_size desk.map.memory (first_page desk client id) (page_total desk client id) fits sized in
    let given : content ≡ length (content_of (slice_index_or desk.kinds slot Plain) bytes) = gives bytes (long ∙ ap (λ n. 4096 * n) (sym here)) in
    rw (held_some desk client id inside (λ none. some (here ∙ none)), given, there, here, is, long) refl

pub put_none : (desk : Desk) (client id : ℕ) (file : List ℕ) → page_total desk client id ≡ 0 → file ≡ file ++ contents_at (held_in desk client id)
put_none desk client id file none =
    sym (append-nil file) ∙ ap (λ held. file ++ contents_at held) (sym (held_none desk client id none))

contents_known : (desk : Desk) (client id slot : ℕ) → id < 64 → slot ≡ slot_of client id → (slice_index desk.counts slot ≡ 0 → ⊥)
    → contents_at (held_in desk client id) ≡ content_of (slice_index_or desk.kinds slot Plain) (bytes_of desk client id)
contents_known desk client id slot inside at some =
    let here : slice_index desk.counts slot ≡ page_total desk client id = ap (slice_index desk.counts) at in
    ap contents_at (held_some desk client id inside (λ none. some (here ∙ none)))
    ∙ ap (λ k. content_of (slice_index_or desk.kinds k Plain) (bytes_of desk client id)) (sym at)

pub put_plain : (desk : Desk) (client id slot : ℕ) (file : List ℕ) → id < 64 → slot ≡ slot_of client id → (slice_index desk.counts slot ≡ 0 → ⊥)
    → slice_index_or desk.kinds slot Plain ≡ Plain → file ≡ file ++ contents_at (held_in desk client id)
put_plain desk client id slot file inside at some is =
    let none : contents_at (held_in desk client id) ≡ [] = contents_known desk client id slot inside at some ∙ ap (λ kind. content_of kind (bytes_of desk client id)) is in
    sym (append-nil file) ∙ ap (λ bytes. file ++ bytes) (sym none)

pub put_code : (desk : Desk) (client id slot : ℕ) (file bytes more : List ℕ) → id < 64 → slot ≡ slot_of client id → (slice_index desk.counts slot ≡ 0 → ⊥)
    → slice_index_or desk.kinds slot Plain ≡ Code
    → bytes ≡ window_of desk.map.memory (place_of (slice_index desk.firsts slot) + 0) (4096 * slice_index desk.counts slot) → more ≡ file ++ bytes
    → more ≡ file ++ contents_at (held_in desk client id)
put_code desk client id slot file bytes more inside at some is read put =
    let all : contents_at (held_in desk client id) ≡ bytes_of desk client id = contents_known desk client id slot inside at some ∙ ap (λ kind. content_of kind (bytes_of desk client id)) is in
    let there : place_of (slice_index desk.firsts slot) + 0 ≡ place_of (slice_index desk.firsts slot) = omega arith in
    put ∙ ap (λ t. file ++ t)
    (read ∙ ap (λ place. window_of desk.map.memory place (4096 * slice_index desk.counts slot)) there
    ∙ ap (λ k. window_of desk.map.memory (place_of (slice_index desk.firsts k)) (4096 * slice_index desk.counts k)) at
    ∙ sym all)
