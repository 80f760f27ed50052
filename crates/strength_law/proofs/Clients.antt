-- What a job may reach is its own client's.
use Rattle.std.proofs.Common.{◌≡◌, ◌⊎◌, inl, inr, ℕ, ◌<◌, None, length, slice_index, subst}
use Rattle.field_words.specs.Questions.{first_of}
use Rattle.buffer_table.specs.Table.{buffer_at}
use Rattle.buffer_table.proofs.Named.{data_is, code_is}
use Rattle.job_format.specs.Model.{FileModel}
use Rattle.job_check.specs.{Shaders.table_of, Jobs.job_of, Faults.place_stages}
use Rattle.accepted_law.specs.Held.{IsSlot, IsToReach}
use Rattle.promises.specs.{Holdings.IsNamedCode, Holdings.lists_of, Rights.IsOneOf}
use Rattle.accepted_law.proofs.{Intervals.rights_are_held_law, Settling.handles_clear}
use Rattle.accepted_law.proofs.Unshared.{of_client, data_number, code_number}
use Rattle.shader_records.specs.Named.{IsDataIn}
use Rattle.strength_law.specs.Clients.{IsOwnBuffer, RightsAreOwn}

-- the buffer of a handle is the client's
own_of : (f : FileModel) (j : ℕ) → j < length f.jobs → first_of (place_stages f) ≡ None → (handle number : ℕ) → handle < length (job_of f j).handles → slice_index (job_of f j).handles handle ≡ number
    → (buffer_at f.buffers number).client ≡ (job_of f j).client
own_of f j inside none handle number handle_in is =
    subst (λ n. (buffer_at f.buffers n).client ≡ (job_of f j).client) is
    (of_client (table_of f) (job_of f j).client (job_of f j).handles (handles_clear f j inside none) handle handle_in)

data_own : (f : FileModel) (j : ℕ) → j < length f.jobs → first_of (place_stages f) ≡ None → (place size : ℕ) → IsDataIn (table_of f) (job_of f j).handles place size → IsOwnBuffer f j place size
data_own f j inside none place size named =
    let of = data_is (table_of f) (job_of f j).handles named.handle named.number named.named in
    record {
      number = named.number;
      inside = of.inside;
      client_is = own_of f j inside none named.handle named.number of.handle_in (data_number (table_of f) (job_of f j).handles named.handle named.number named.named);
      place_is = named.place_is;
      size_is = named.size_is;
    }

code_own : (f : FileModel) (j : ℕ) → j < length f.jobs → first_of (place_stages f) ≡ None → (place size : ℕ) → IsNamedCode f j place size → IsOwnBuffer f j place size
code_own f j inside none place size named =
    let of = code_is (table_of f) (job_of f j).handles named.handle named.number named.named in
    record {
      number = named.number;
      inside = of.inside;
      client_is = own_of f j inside none named.handle named.number of.handle_in (code_number (table_of f) (job_of f j).handles named.handle named.number named.named);
      place_is = named.place_is;
      size_is = named.size_is;
    }

held_own : (f : FileModel) (j : ℕ) → j < length f.jobs → first_of (place_stages f) ≡ None → (place size : ℕ) → IsToReach f j place size
    → IsSlot f j place size ⊎ (IsOneOf (lists_of f j) place size ⊎ IsOwnBuffer f j place size)
held_own f j inside none place size (inl (inl slot)) = inl slot
held_own f j inside none place size (inl (inr named)) = inr (inr (data_own f j inside none place size named))
held_own f j inside none place size (inr (inl list)) = inr (inl list)
held_own f j inside none place size (inr (inr code)) = inr (inr (code_own f j inside none place size code))

pub rights_own_law : RightsAreOwn
rights_own_law f none j inside place size one = held_own f j inside none place size ((rights_are_held_law f j inside).region place size one)
