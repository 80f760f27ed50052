-- When memory is full for a call.
use Rattle.std.specs.Prelude.{◌≡◌, ◌≤◌, ◌<◌, ℕ, ◌+◌, false, List, None}
use Rattle.session_pages.specs.Runs.{page_count}
use Rattle.job_session.specs.Own.{Command, Create, Make, Write, Read, Free, Submit, most_buffers, most_pages}
use Rattle.job_session.specs.{Places.Place, Places.is_used, Session.Past, Checked.shader_refusal, Desk.pages_for}

-- so many pages from one on lie in no live buffer
pub record IsRoom (places : List Place) (pages first : ℕ) : Type 0 where
  pub fits : first + pages ≤ page_count
  pub free : (page : ℕ) → first ≤ page → page < first + pages → is_used places page ≡ false

-- the client has an id left, and there is no room for so many pages
pub record HasNoRoom (past : Past) (client pages : ℕ) : Type 0 where
  pub id : ℕ
  pub small : id < most_buffers
  pub unused : past.own client id ≡ None
  pub none : (first : ℕ) → IsRoom past.places pages first → ⊥

-- No earlier refusal of the call applies, and there is no room for its buffer.
abbrev pub IsFullFor : Past → ℕ → Command → Type 0
IsFullFor past client (Create pages) = (1 ≤ pages) × (pages ≤ most_pages) × HasNoRoom past client pages
IsFullFor past client (Make bytes) = (shader_refusal bytes ≡ None) × HasNoRoom past client (pages_for bytes)
IsFullFor past client (Write id at part) = ⊥
IsFullFor past client (Read id at len) = ⊥
IsFullFor past client (Free id) = ⊥
IsFullFor past client (Submit parts) = ⊥

-- the lowest of them
pub record IsLowestRoom (places : List Place) (pages first : ℕ) : Type 0 where
  pub room : IsRoom places pages first
  pub lowest : (lower : ℕ) → lower < first → IsRoom places pages lower → ⊥
