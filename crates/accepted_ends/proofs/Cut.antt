-- A list of packets that walks is cut into these packets again.
use Rattle.std.proofs.Common.{◌≡◌, ◌≢◌, ℕ, List, [], ◌∷◌, length, sym}
use Rattle.std.proofs.lemmas.Bool.{ne_eqb}
use Rattle.field_words.specs.Pieces.{joined_texts}
use Rattle.packets.specs.{declared.config.Config.Config, Length.bin_length, Opcode.halt}
use Rattle.bin_list.specs.Packets.{opcode, packets}
use Rattle.bin_list.proofs.Packets.{AreWhole, packets_joined}
use Rattle.bin_walks.specs.Walks.{Kept, kept_after, Tame, Walks}
use Rattle.list_law.proofs.Binning.{taken_is}

are_whole : (c : Config) (R : ℕ → List ℕ → Type 0) (kept : Kept) (list : List (List ℕ)) → Walks c R kept list → AreWhole list
are_whole c R kept [] walks = tt
are_whole c R kept (packet ∷ later) walks =
    let tame : Tame c R kept packet = walks.0 in
    let whole : length packet ≡ bin_length (opcode packet) = tame.whole in
    let known : bin_length (opcode packet) ≢ 0 = tame.known in (
      record { taken = sym (taken_is packet whole known); goes_on = ne_eqb (opcode packet) halt tame.no_halt },
      are_whole c R (kept_after kept packet) later walks.1,
    )

pub packets_walk : (c : Config) (R : ℕ → List ℕ → Type 0) (kept : Kept) (list : List (List ℕ)) → Walks c R kept list → packets (joined_texts list) ≡ list
packets_walk c R kept list walks = packets_joined list (are_whole c R kept list walks)
