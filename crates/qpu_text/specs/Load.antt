-- What a load immediate does, as familiar text.
use Rattle.std.specs.Prelude.{ℕ, not, ◌&&◌, ◌==◌, List, [], ◌++◌, codes, if◌then◌else◌}
use Rattle.std.specs.Int.{to_be_bytes, w32}
use Rattle.hex.specs.Hex.{encode_lower}
use Rattle.qpu_isa.specs.Word.{pm_of, pack_of, cond_add_of, cond_mul_of, sf_of, ws_of, waddr_add_of, waddr_mul_of, mode_of, imm_of}
use Rattle.qpu_text.specs.Pieces.{named_in, if_so}
use Rattle.qpu_text.specs.Alu.{place_text}
use Rattle.qpu_text.specs.Names.{conditions_names, modes_names, pack_a_names, pack_multiply_names}

-- where one unit puts the value, on which condition and how packed
unfoldable pub target_text : ℕ → List ℕ → List ℕ → List ℕ
target_text condition place pack = codes "load" ++ (named_in conditions_names condition ++ (codes " " ++ (place ++ pack)))

unfoldable pub add_target : ℕ → List ℕ
add_target word =
    target_text (cond_add_of word) (place_text (not (ws_of word)) (waddr_add_of word))
    (if_so (not (pm_of word) && not (ws_of word)) (named_in pack_a_names (pack_of word)))

unfoldable pub multiply_target : ℕ → List ℕ
multiply_target word =
    target_text (cond_mul_of word) (place_text (ws_of word) (waddr_mul_of word))
    (if pm_of word then named_in pack_multiply_names (pack_of word) else if_so (ws_of word) (named_in pack_a_names (pack_of word)))

-- both targets, the first one unless the second is alone
unfoldable pub targets_text : ℕ → List ℕ
targets_text word =
    if waddr_mul_of word == 39 then add_target word
    else (if waddr_add_of word == 39 then multiply_target word else add_target word ++ (codes "; " ++ multiply_target word))

-- a value in hexadecimal
unfoldable pub hex_text : ℕ → List ℕ
hex_text value = codes "0x" ++ encode_lower (to_be_bytes w32 value)

unfoldable pub load_text : ℕ → List ℕ
load_text word =
    targets_text word ++ (codes ", " ++ (hex_text (imm_of word) ++ (named_in modes_names (mode_of word) ++ if_so (sf_of word) (codes ".sf"))))
