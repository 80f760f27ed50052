-- Shader records in memory that select attributes which their states don't have.
use Rattle.std.specs.Prelude.{ℕ, ◌+◌, ◌/◌, ◌^◌, ◌==◌, ◌||◌, not, Bool, List, slice_index}
use Rattle.packets.specs.StateWord.{attribute_count}
use Rattle.list_machine.specs.Fetch.{record_place}

-- A bit of byte 14 selects an attribute for the vertex shader, one of byte 26 for the coordinate shader; one is set at or above the number
-- of attributes of the state with this word.
unfoldable pub selects_missing : List ℕ → ℕ → Bool
selects_missing m word =
    not (slice_index m (record_place word + 14) / 2 ^ attribute_count word == 0)
    || not (slice_index m (record_place word + 26) / 2 ^ attribute_count word == 0)
