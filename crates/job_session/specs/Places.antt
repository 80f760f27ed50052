-- Where live buffers lie: a list of them, each with its client, its id, its first page and how many pages it has.
use Rattle.std.specs.Prelude.{ℕ, ◌+◌, ◌==◌, Bool, false, not, ◌&&◌, ◌||◌, nat_le, nat_lt, List, [], ◌∷◌, Option, if◌then◌else◌}
use Rattle.session_pages.specs.Runs.{first_run}

pub record Place : Type 0 where
  pub client : ℕ
  pub id : ℕ
  pub first : ℕ
  pub pages : ℕ

abbrev pub covers : Place → ℕ → Bool
covers place page = nat_le place.first page && nat_lt page (place.first + place.pages)

unfoldable pub is_used : List Place → ℕ → Bool
is_used [] page = false
is_used (place ∷ places) page = covers place page || is_used places page

-- the lowest run of so many pages that lie in no live buffer
unfoldable pub least_place : List Place → ℕ → Option ℕ
least_place places pages = first_run (λ page. not (is_used places page)) pages

abbrev pub is_of : ℕ → ℕ → Place → Bool
is_of client id place = (place.client == client) && (place.id == id)

unfoldable pub without : ℕ → ℕ → List Place → List Place
without client id [] = []
without client id (place ∷ places) = if is_of client id place then without client id places else place ∷ without client id places
