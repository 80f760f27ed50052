-- What a job may reach is its own client's: its slot and its lists, which are made for it, and buffers of that client.
use Rattle.std.specs.Prelude.{◌≡◌, ◌<◌, ◌⊎◌, ℕ, None, length}
use Rattle.field_words.specs.Questions.{first_of}
use Rattle.buffer_table.specs.Table.{buffer_at}
use Rattle.job_format.specs.Model.{FileModel}
use Rattle.job_check.specs.{Jobs.job_of, Faults.place_stages}
use Rattle.promises.specs.{Rights.IsOneOf, Holdings.OfEachJob, Holdings.lists_of, Holdings.rights_at}
use Rattle.accepted_law.specs.Held.{IsSlot}

-- a buffer of the file, of job j's client
pub record IsOwnBuffer (f : FileModel) (j place size : ℕ) : Type 0 where
  pub number : ℕ
  pub inside : number < length f.buffers
  pub client_is : (buffer_at f.buffers number).client ≡ (job_of f j).client
  pub place_is : place ≡ (buffer_at f.buffers number).place
  pub size_is : size ≡ (buffer_at f.buffers number).size

-- Where no rule is broken, what each job may reach is its slot, its four emitted lists, and buffers of its own client.
abbrev pub RightsAreOwn : Type 0
RightsAreOwn =
    (f : FileModel) → first_of (place_stages f) ≡ None → OfEachJob f (λ j. (place size : ℕ) → IsOneOf (rights_at f j).region place size
    → IsSlot f j place size ⊎ (IsOneOf (lists_of f j) place size ⊎ IsOwnBuffer f j place size))
