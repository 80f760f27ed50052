-- An accepted submit's job reaches no byte of another client's live buffer.
use Rattle.std.proofs.Common.{◌≡◌, ◌≢◌, ◌⊎◌, inl, inr, ℕ, ◌+◌, ◌-◌, ◌*◌, ◌/◌, ◌<◌, ◌≤◌, List, ◌++◌, length, arith, sym, ◌∙◌, ap, subst}
use Rattle.field_words.specs.Sizes.{page_size}
use Rattle.buffer_table.specs.{declared.buffer.Buffer.Buffer, declared.buffer.Regions.Regions, Table.buffer_at, Handles.data_of, Handles.code_of}
use Rattle.buffer_table.proofs.Named.{data_is, code_is}
use Rattle.job_check.specs.{Emit.memory_of, Jobs.job_of, Jobs.slot_of, Shaders.table_of}
use Rattle.promises.specs.Holdings.{plain_of, codes_of, lists_of, slot_in, job_rights, rights_at}
use Rattle.promises.specs.Rights.{IsOneOf}
use Rattle.accepted_law.specs.Settled.{Grounds}
use Rattle.accepted_law.proofs.{ByJob.rights_are, Fixed.in_one, Grounds.four_lie, Intervals.both_lists, Intervals.named_by, Joining.all_ground}
use Rattle.session_pages.specs.{Runs.page_count, Map.first_place, Map.place_of}
use Rattle.job_session.specs.{Session.Past}
use Rattle.job_session.specs.Desk.{Desk, slot_of as slot_number, first_page, page_total}
use Rattle.session_law.specs.Agree.{IsKey, client_count, owner_at, Agrees}
use Rattle.session_law.proofs.{Bytes.within_yes, Writing.room_in}
use Rattle.session_safety.specs.Running.{file_in, IsAccepted, SubmitsReachOwn}
use Rattle.session_safety.proofs.{Contents.IsLying, Contents.lies, Running.is_faultless, Running.entry_whole, Running.regions_are}
use Rattle.session_law.proofs.Outcomes.{bytes_long}
use Rattle.std.proofs.lemmas.Bool.{eqb-true}

-- a byte of a buffer's pages
record IsByteOf (desk : Desk) (client id p : ℕ) : Type 0 where
  from : place_of (first_page desk client id) ≤ p
  upto : p < place_of (first_page desk client id) + page_size * page_total desk client id

-- the page that has it, and whose slot that page is
page_of : (p : ℕ) → ℕ
page_of p = (p - first_place) / page_size

owner_is : (past : Past) (desk : Desk) (client id p : ℕ) → Agrees past desk → IsKey client id → IsByteOf desk client id p
    → owner_at desk (page_of p) ≡ slot_number client id + 1
unfolding page_of
owner_is past desk client id p agrees key byte =
    let page = (p - first_place) / page_size in
    let room = room_in past desk client id agrees key in
    let low : first_page desk client id ≤ page = omega (arith, byte.from) in
    let high : page < first_page desk client id + page_total desk client id = omega (arith, byte.from, byte.upto) in
    let inside : page < page_count = omega (arith, room, high, agrees.sized.map.sized) in
    eqb-true (owner_at desk page) (slot_number client id + 1)
    (sym (agrees.owned client id page key inside) ∙ within_yes (first_page desk client id) (page_total desk client id) page low high)

-- no byte is of two clients' pages
clients_clash : (past : Past) (desk : Desk) (client id other theirs p : ℕ) → Agrees past desk → IsKey client id → IsKey other theirs → other ≢ client
    → IsByteOf desk client id p → IsByteOf desk other theirs p → ⊥
clients_clash past desk client id other theirs p agrees key too apart one two =
    let first = owner_is past desk client id p agrees key one in
    let second = owner_is past desk other theirs p agrees too two in
    apart (omega (arith, first, second, key.small, too.small))

-- one of the client's buffers in the file
in_buffer : (past : Past) (desk : Desk) (client place size p : ℕ) (b : Buffer) (bytes : List ℕ) → Agrees past desk → client < client_count → IsLying desk client b bytes
    → place ≡ b.place → size ≡ b.size → place ≤ p → p + 1 ≤ place + size → (id : ℕ) × (IsKey client id × IsByteOf desk client id p)
in_buffer past desk client place size p b bytes agrees known at place_is size_is from upto =
    let id = at.id in
    let key : IsKey client id = record { known = known; small = at.small } in
    let long = bytes_long past desk client id agrees key in
    let there : b.place ≡ place_of (first_page desk client id) = ap (λ (e : Buffer). e.place) at.is in
    let room : b.size ≡ page_size * page_total desk client id = ap (λ (e : Buffer). e.size) at.is ∙ long in
    (id, (key, record { from = omega (arith, place_is, there, from); upto = omega (arith, place_is, size_is, there, room, upto) }))

-- behind the lists and the tile slot, a byte that the job may reach is one of its client's pages
Reached : Desk → ℕ → ℕ → Type 0
Reached desk client p = (p < first_place) ⊎ ((id : ℕ) × (IsKey client id × IsByteOf desk client id p))

in_interval : (past : Past) (desk : Desk) (client : ℕ) (parts : List ℕ) (place size p : ℕ) → IsAccepted past desk client parts
    → Grounds (file_in desk client parts) 0 (memory_of (file_in desk client parts)) → IsOneOf (job_rights (file_in desk client parts) 0).region place size
    → place ≤ p → p + 1 ≤ place + size → Reached desk client p
unfolding Reached slot_in slot_of plain_of codes_of
in_interval past desk client parts place size p accepted grounds (inl slot) from upto =
    let f = file_in desk client parts in
    let tiles : f.regions.tile_place ≡ 4194304 = ap (λ (r : Regions). r.tile_place) (regions_are desk client parts) in
    let place_is = ap (λ i. i.place) slot in
    let size_is = ap (λ i. i.size) slot in
    inl (omega (arith, tiles, place_is, size_is, upto))
in_interval past desk client parts place size p accepted grounds (inr other) from upto =
    let f = file_in desk client parts in
    let whole = entry_whole past desk client parts accepted in
    elim (both_lists (plain_of f 0) (lists_of f 0 ++ codes_of f 0) place size other) [
      | inl plain ↦
          let by = named_by (data_of (table_of f) (job_of f 0).handles) f.buffers (length (job_of f 0).handles) place size plain in
          let is = data_is (table_of f) (job_of f 0).handles by.handle by.number by.named in
          inr (in_buffer past desk client place size p (buffer_at f.buffers by.number) _ accepted.agrees accepted.known
          (lies past desk client by.number parts accepted.agrees accepted.known whole is.inside) by.place_is by.size_is from upto)
      | inr fixed ↦ elim (both_lists (lists_of f 0) (codes_of f 0) place size fixed) [
        | inl list ↦
            let in_lists = four_lie f 0 grounds.ends place size list in
            let start : f.regions.lists_place ≡ 0 = ap (λ (r : Regions). r.lists_place) (regions_are desk client parts) in
            let room : f.regions.lists_size ≡ 4194304 = ap (λ (r : Regions). r.lists_size) (regions_are desk client parts) in
            inl (omega (arith, in_lists.upto, start, room, upto))
        | inr code ↦
            let by = named_by (code_of (table_of f) (job_of f 0).handles) f.buffers (length (job_of f 0).handles) place size code in
            let is = code_is (table_of f) (job_of f 0).handles by.handle by.number by.named in
            inr (in_buffer past desk client place size p (buffer_at f.buffers by.number) _ accepted.agrees accepted.known
            (lies past desk client by.number parts accepted.agrees accepted.known whole is.inside) by.place_is by.size_is from upto)
      ]
    ]

clash : (past : Past) (desk : Desk) (client other id p : ℕ) → Agrees past desk → IsKey other id → other ≢ client → IsByteOf desk other id p → Reached desk client p → ⊥
unfolding Reached
clash past desk client other id p agrees key apart byte (inl low) = omega (arith, byte.from, low)
clash past desk client other id p agrees key apart byte (inr own) = clients_clash past desk client own.0 other id p agrees own.1.0 key apart own.1.1 byte

pub submits_reach_own : SubmitsReachOwn
submits_reach_own past desk client parts accepted other id p known apart small from upto inside =
    let f = file_in desk client parts in
    let file = is_faultless past desk client parts accepted in
    let some = file.well_formed.some_job in
    let found = in_one (rights_at f 0).region p 1 inside in
    let one = subst (λ r. IsOneOf r.region found.place found.size) (rights_are f 0 (omega (arith, some))) found.one in
    clash past desk client other id p accepted.agrees (record { known = known; small = small }) apart (record { from = from; upto = upto })
    (in_interval past desk client parts found.place found.size p accepted (all_ground f file.well_formed file.fits file.none 0 (omega (arith, some))) one found.from found.upto)
