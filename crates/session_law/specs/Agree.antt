-- What a desk holds is what the calls before left: each client's buffers, where they lie, and zero pages everywhere else.
use Rattle.std.specs.Prelude.{◌≡◌, ◌≤◌, ◌<◌, ℕ, ◌+◌, ◌==◌, not, List, [], ◌∷◌, length, slice_index}
use Rattle.field_words.specs.Sizes.{page_size}
use Rattle.session_pages.specs.{Runs.page_count, Map.place_of, Map.IsWhole}
use Rattle.job_session.specs.{Own.most_buffers, Places.Place, Places.covers, Places.is_used, Session.Past}
use Rattle.job_session.specs.Desk.{Desk, SlotsFit, slot_count, slot_of, first_page, page_total, held_in}

-- clients are numbered from 0 to 7
abbrev pub client_count : ℕ
client_count = 8

-- a slot
pub record IsKey (client id : ℕ) : Type 0 where
  pub known : client < client_count
  pub small : id < most_buffers

-- the place of a slot's buffer
abbrev pub place_in : Desk → ℕ → ℕ → Place
place_in desk client id = record { client = client; id = id; first = first_page desk client id; pages = page_total desk client id }

abbrev pub owner_at : Desk → ℕ → ℕ
owner_at desk page = slice_index desk.map.owners page

-- the memory and the tables have their sizes, and each slot's pages are pages of the memory
pub record IsSized (desk : Desk) : Type 0 where
  pub map : IsWhole desk.map.memory desk.map.owners
  pub firsts : length desk.firsts ≡ slot_count
  pub counts : length desk.counts ≡ slot_count
  pub kinds : length desk.kinds ≡ slot_count
  pub fits : SlotsFit desk.firsts desk.counts

-- a place in the list is that of a live buffer
pub record IsListed (desk : Desk) (place : Place) : Type 0 where
  pub key : IsKey place.client place.id
  pub some : 1 ≤ place.pages
  pub is : place_in desk place.client place.id ≡ place

abbrev pub AreListed : Desk → List Place → Type 0
AreListed desk [] = Unit {0}
AreListed desk (place ∷ places) = IsListed desk place × AreListed desk places

-- A desk agrees with the calls before it. The slots hold each client's buffers; the page map names for each page the buffer that has
-- it; the list of places has the same buffers at the same pages; and all bytes of free pages are zero.
pub record Agrees (past : Past) (desk : Desk) : Type 0 where
  pub sized : IsSized desk
  pub held : (client : ℕ) → client < client_count → past.own client ≡ held_in desk client
  pub owned : (client id page : ℕ) → IsKey client id → page < page_count
      → covers (place_in desk client id) page ≡ (owner_at desk page == slot_of client id + 1)
  pub listed : AreListed desk past.places
  pub used : (page : ℕ) → page < page_count → is_used past.places page ≡ not (owner_at desk page == 0)
  pub zero : (page at : ℕ) → page < page_count → at < page_size → owner_at desk page ≡ 0
      → slice_index desk.map.memory (place_of page + at) ≡ 0
