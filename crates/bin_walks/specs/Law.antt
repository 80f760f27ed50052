-- The law: an emitted list walks.
use Rattle.std.specs.Prelude.{◌≡◌, ◌≤◌, ◌<◌, ℕ, ◌+◌, List, [], length, None}
use Rattle.field_words.specs.{Questions.first_of, Pieces.joined_texts, Sizes.most_list}
use Rattle.buffer_table.specs.Table.{TableModel, most_place, buffer_at}
use Rattle.relocation.specs.declared.layout.Layout.{Layout}
use Rattle.bin_list.specs.{Packets.packets, Packets.packets_passed, Seen.seen_before, Rules.given_of, Rules.bin_questions, Fine.IsLow}
use Rattle.bin_list.specs.{States.states_of, Emitted.bin_text}
use Rattle.bin_walks.specs.{Walks.nothing_kept, Walks.Walks, Emission.emission, Emission.config_of, Draws.IsDrawn}

pub record IsWalked (list : List ℕ) (declared : ℕ) (table : TableModel) (handles : List ℕ) (layout : Layout) : Type 0 where
  pub text : bin_text list declared table handles layout ≡ joined_texts (emission (given_of list declared table handles) layout [] (packets list))
  pub walks :
      Walks (config_of layout (seen_before (packets_passed list)).tiles_x (seen_before (packets_passed list)).tiles_y)
      (IsDrawn table handles layout (states_of (packets list))) nothing_kept (emission (given_of list declared table handles) layout [] (packets list))

abbrev pub EmittedListsWalk : Type 0
EmittedListsWalk =
    (list : List ℕ) (declared : ℕ) (table : TableModel) (handles : List ℕ) (layout : Layout)
    → length list ≤ most_list → declared ≤ 65536 → IsLow layout
    → ((number : ℕ) → number < length table.buffers → (buffer_at table.buffers number).place + (buffer_at table.buffers number).size ≤ most_place)
    → first_of (bin_questions list declared table handles) ≡ None
    → IsWalked list declared table handles layout
