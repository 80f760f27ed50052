-- What a branch does, as familiar text.
use Rattle.std.specs.Prelude.{ℕ, Bool, not, ◌==◌, ◌-◌, ◌^◌, nat_lt, List, [], ◌++◌, codes, decimal, if◌then◌else◌}
use Rattle.qpu_isa.specs.Word.{cond_of, relative_of, register_of, raddr_of, ws_of, waddr_add_of, waddr_mul_of, imm_of}
use Rattle.qpu_text.specs.Pieces.{named_in}
use Rattle.qpu_text.specs.Alu.{place_text}
use Rattle.qpu_text.specs.Names.{branches_names, read_a_names}

-- how far, from the third instruction behind on, or to which address
unfoldable pub distance_text : Bool → ℕ → List ℕ
distance_text relative immediate =
    if relative
    then (if nat_lt immediate (2 ^ 31) then codes "+" ++ decimal immediate else codes "-" ++ decimal (2 ^ 32 - immediate))
    else codes "to " ++ decimal immediate

unfoldable pub register_text : ℕ → List ℕ
register_text word = if register_of word then codes " + " ++ named_in read_a_names (raddr_of word) else []

-- a register that gets the address behind
unfoldable pub link_text : Bool → ℕ → List ℕ
link_text on_a address = if address == 39 then [] else codes ", link " ++ place_text on_a address

unfoldable pub branch_text : ℕ → List ℕ
branch_text word =
    (codes "branch " ++ (named_in branches_names (cond_of word) ++ codes ", "))
    ++ (distance_text (relative_of word) (imm_of word)
    ++ (register_text word ++ (link_text (not (ws_of word)) (waddr_add_of word) ++ link_text (ws_of word) (waddr_mul_of word))))
