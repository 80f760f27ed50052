-- What a list without faults tells.
use Rattle.std.specs.Prelude.{◌≡◌, ◌≤◌, ℕ, ◌+◌, List, [], length, None, IsSome}
use Rattle.field_words.specs.Questions.{first_of}
use Rattle.buffer_table.specs.Table.{TableModel}
use Rattle.relocation.specs.declared.layout.Layout.{Layout}
use Rattle.bin_list.specs.{declared.check.Read.Read, declared.info.BinInfo.BinInfo, Packets.packets, Packets.packets_passed, Packets.onto, Collected.all_states}
use Rattle.bin_list.specs.{Seen.seen_before, Seen.states_in, Rules.GivenModel, Rules.given_of, Rules.questions_of_packets, States.states_of, Emitted.texts}

-- the grid of the list's configuration, the states, and the length of the emitted list
pub record IsInfoOf (given : GivenModel) (layout : Layout) (list : List ℕ) (info : BinInfo) : Type 0 where
  pub tiles_x : info.tiles_x ≡ (seen_before (packets_passed list)).tiles_x
  pub tiles_y : info.tiles_y ≡ (seen_before (packets_passed list)).tiles_y
  pub states : info.states.items ≡ states_of (packets list)
  pub length_is : info.length ≡ length (texts given layout (packets_passed list))

abbrev pub IsInfo : List ℕ → ℕ → TableModel → List ℕ → Layout → BinInfo → Type 0
IsInfo list declared table handles layout info = IsInfoOf (given_of list declared table handles) layout list info

-- what was reported of a list that was read to its end
pub record IsRead (given : GivenModel) (layout : Layout) (list : List ℕ) (read : Read) : Type 0 where
  pub seen : read.seen ≡ seen_before (packets_passed list)
  pub end : read.end ≡ layout.bin + length (texts given layout (packets_passed list))
  pub near : length (texts given layout (packets_passed list)) ≤ length list
  pub states : all_states read.states.done.items read.states.current [] ≡ states_of (packets list)
  pub begun : IsSome read.states.current → 1 ≤ read.seen.states

-- A shader state stands in the list, and no rule is broken before it or at it. Only then is memory taken.
pub record MeetsState (given : GivenModel) (list : List ℕ) : Type 0 where
  pub earlier : List (List ℕ)
  pub later : List (List ℕ)
  pub whole : onto earlier later ≡ packets_passed list
  pub fine : first_of (questions_of_packets given earlier) ≡ None
  pub some : 1 ≤ states_in earlier
