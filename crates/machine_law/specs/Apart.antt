-- The law of clients on one machine: neighbours are apart.
use Rattle.std.specs.Prelude.{◌≡◌, ℕ, true, List}
use Rattle.machine_plan.specs.Regions.{rights_of, HasReadOnly, Agree}
use Rattle.machine.specs.State.{item_at}
use Rattle.promises.specs.Apart.{regions_of, IsUnshared, Beginning, RunsApart, RunsApartAmong}
use Rattle.promises.specs.Trail.{Client}
use Rattle.machine_law.specs.{Begins.JobBegins, Jobs.ArePlain, Units.EachAt}

-- What a run begins with is as the laws of the machine ask.
pub record BeginsSoundly (b : Beginning) : Type 0 where
  pub plain : ArePlain b.rights b.plains
  pub jobs : EachAt (JobBegins b.rights b.plains b.memory) 0 b.starts

-- Both begin soundly, and in neither may another client's job write what is this client's. The client's jobs are the same, with the same
-- numbers, rights and lists' places. All else may differ, also how many jobs there are.
pub record AreNeighbours (mine : Client) (b c : Beginning) : Type 0 where
  pub begins : BeginsSoundly b
  pub other_begins : BeginsSoundly c
  pub unshared : IsUnshared mine b.rights
  pub other_unshared : IsUnshared mine c.rights
  pub rights : (j : ℕ) → mine j ≡ true → rights_of b.rights j ≡ rights_of c.rights j
  pub starts : (j : ℕ) → mine j ≡ true → item_at b.starts j ≡ item_at c.starts j

-- Clients are apart: so it is of all runs from neighbours whose memories agree on the regions of the client's jobs.
abbrev pub ClientsApart : Type 0
ClientsApart =
    (mine : Client) (b c : Beginning) → AreNeighbours mine b c → Agree (regions_of mine 0 b.rights) b.memory c.memory
    → RunsApart mine b c b.memory c.memory

-- So they are from all memories that agree there, each with what jobs may only read as its own first memory.
abbrev pub ClientsApartAnywhere : Type 0
ClientsApartAnywhere =
    (mine : Client) (b c : Beginning) (m n : List ℕ) → AreNeighbours mine b c → HasReadOnly b.rights b.memory m
    → HasReadOnly c.rights c.memory n → Agree (regions_of mine 0 b.rights) m n → RunsApart mine b c m n

-- And so they are while others write.
abbrev pub ClientsApartWithOthers : Type 0
ClientsApartWithOthers =
    (mine : Client) (b c : Beginning) (m n : List ℕ) → AreNeighbours mine b c → HasReadOnly b.rights b.memory m
    → HasReadOnly c.rights c.memory n → Agree (regions_of mine 0 b.rights) m n → RunsApartAmong mine b c m n
