-- What the memory holds after calls.
use Rattle.std.specs.Prelude.{◌≡◌, ◌<◌, ℕ, ◌+◌, ◌*◌, true, false, List, length, slice_index, Some, Contains}
use Rattle.field_words.specs.Sizes.{page_size}
use Rattle.phys_mem.specs.Window.{window_of}
use Rattle.session_pages.specs.{Runs.page_count, Map.place_of}
use Rattle.job_session.specs.{Own.Held, Places.Place, Places.covers, Places.is_used, Session.Past, Desk.Desk}
use Rattle.session_law.specs.Agree.{client_count}

-- a buffer's bytes are all those of its pages
pub record LiesAt (memory : List ℕ) (held : Held) (place : Place) : Type 0 where
  pub sized : length held.bytes ≡ page_size * place.pages
  pub bytes : window_of memory (place_of place.first) (length held.bytes) ≡ held.bytes

-- one of the places is the buffer's
pub record HasPlace (past : Past) (desk : Desk) (client id : ℕ) (held : Held) : Type 0 where
  pub place : Place
  pub among : Contains past.places place
  pub client_is : place.client ≡ client
  pub id_is : place.id ≡ id
  pub lies : LiesAt desk.map.memory held place

-- a place is that of a live buffer
pub record IsLive (past : Past) (desk : Desk) (place : Place) : Type 0 where
  pub held : Held
  pub live : past.own place.client place.id ≡ Some held
  pub lies : LiesAt desk.map.memory held place

-- each live buffer lies in its pages, each place is a live buffer's, no page is in two places, and all bytes of all other pages are
-- zero
pub record IsKept (past : Past) (desk : Desk) : Type 0 where
  pub buffers : (client id : ℕ) (held : Held) → client < client_count → past.own client id ≡ Some held → HasPlace past desk client id held
  pub places : (place : Place) → Contains past.places place → IsLive past desk place
  pub apart : (one other : Place) (page : ℕ) → Contains past.places one → Contains past.places other → page < page_count
      → covers one page ≡ true → covers other page ≡ true → one ≡ other
  pub zero : (page at : ℕ) → page < page_count → at < page_size → is_used past.places page ≡ false
      → slice_index desk.map.memory (place_of page + at) ≡ 0
