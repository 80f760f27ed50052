-- Instructions and words: which fields a word has, and which word has these fields.
use Rattle.std.specs.Prelude.{ℕ, ◌+◌, ◌*◌, ◌^◌, ◌<◌, ◌≡◌, ◌==◌, Bool, if◌then◌else◌}
use Rattle.qpu_isa.specs.Word.{sig_of, unpack_of, pm_of, pack_of, cond_add_of, cond_mul_of, sf_of, ws_of, waddr_add_of, waddr_mul_of, op_mul_of, op_add_of, raddr_a_of, raddr_b_of, add_a_of, add_b_of, mul_a_of, mul_b_of, mode_of, imm_of, spare_of, cond_of, relative_of, register_of, raddr_of}
use Rattle.qpu_isa.specs.{declared.inst.Alu.Alu, declared.inst.LoadImm.LoadImm, declared.inst.Branch.Branch, declared.inst.Inst.Inst}
use Rattle.qpu_isa.specs.declared.inst.Inst.TheVariants as kind

-- the fields of a word, by its signal
unfoldable pub alu_of : ℕ → Alu
alu_of word = record {
  sig = sig_of word;
  unpack = unpack_of word;
  pm = pm_of word;
  pack = pack_of word;
  cond_add = cond_add_of word;
  cond_mul = cond_mul_of word;
  sf = sf_of word;
  ws = ws_of word;
  waddr_add = waddr_add_of word;
  waddr_mul = waddr_mul_of word;
  op_mul = op_mul_of word;
  op_add = op_add_of word;
  raddr_a = raddr_a_of word;
  raddr_b = raddr_b_of word;
  add_a = add_a_of word;
  add_b = add_b_of word;
  mul_a = mul_a_of word;
  mul_b = mul_b_of word;
}

unfoldable pub load_imm_of : ℕ → LoadImm
load_imm_of word = record {
  mode = mode_of word;
  pm = pm_of word;
  pack = pack_of word;
  cond_add = cond_add_of word;
  cond_mul = cond_mul_of word;
  sf = sf_of word;
  ws = ws_of word;
  waddr_add = waddr_add_of word;
  waddr_mul = waddr_mul_of word;
  imm = imm_of word;
}

unfoldable pub branch_of : ℕ → Branch
branch_of word = record {
  spare = spare_of word;
  cond = cond_of word;
  relative = relative_of word;
  register = register_of word;
  raddr = raddr_of word;
  ws = ws_of word;
  waddr_add = waddr_add_of word;
  waddr_mul = waddr_mul_of word;
  imm = imm_of word;
}

unfoldable pub inst_of : ℕ → Inst
inst_of word =
    if sig_of word == 14 then kind.LoadImm (load_imm_of word)
    else (if sig_of word == 15 then kind.Branch (branch_of word) else kind.Alu (alu_of word))

-- each field is within its width
pub record IsAluWithin (alu : Alu) : Type 0 where
  pub sig : alu.sig < 16
  pub unpack : alu.unpack < 8
  pub pack : alu.pack < 16
  pub cond_add : alu.cond_add < 8
  pub cond_mul : alu.cond_mul < 8
  pub waddr_add : alu.waddr_add < 64
  pub waddr_mul : alu.waddr_mul < 64
  pub op_mul : alu.op_mul < 8
  pub op_add : alu.op_add < 32
  pub raddr_a : alu.raddr_a < 64
  pub raddr_b : alu.raddr_b < 64
  pub add_a : alu.add_a < 8
  pub add_b : alu.add_b < 8
  pub mul_a : alu.mul_a < 8
  pub mul_b : alu.mul_b < 8

pub record IsLoadImmWithin (load : LoadImm) : Type 0 where
  pub mode : load.mode < 8
  pub pack : load.pack < 16
  pub cond_add : load.cond_add < 8
  pub cond_mul : load.cond_mul < 8
  pub waddr_add : load.waddr_add < 64
  pub waddr_mul : load.waddr_mul < 64
  pub imm : load.imm < 2 ^ 32

pub record IsBranchWithin (branch : Branch) : Type 0 where
  pub spare : branch.spare < 16
  pub cond : branch.cond < 16
  pub raddr : branch.raddr < 32
  pub waddr_add : branch.waddr_add < 64
  pub waddr_mul : branch.waddr_mul < 64
  pub imm : branch.imm < 2 ^ 32

abbrev pub IsWithin : Inst → Type 0
IsWithin (kind.Alu alu) = IsAluWithin alu
IsWithin (kind.LoadImm load) = IsLoadImmWithin load
IsWithin (kind.Branch branch) = IsBranchWithin branch

-- a flag's bit
abbrev pub bit : Bool → ℕ
bit flag = if flag then 1 else 0

-- the word with these fields
unfoldable pub alu_word : Alu → ℕ
alu_word alu =
    alu.sig * 2 ^ 60 + alu.unpack * 2 ^ 57 + bit alu.pm * 2 ^ 56 + alu.pack * 2 ^ 52 + alu.cond_add * 2 ^ 49
    + alu.cond_mul * 2 ^ 46 + bit alu.sf * 2 ^ 45 + bit alu.ws * 2 ^ 44 + alu.waddr_add * 2 ^ 38
    + alu.waddr_mul * 2 ^ 32 + alu.op_mul * 2 ^ 29 + alu.op_add * 2 ^ 24 + alu.raddr_a * 2 ^ 18
    + alu.raddr_b * 2 ^ 12 + alu.add_a * 2 ^ 9 + alu.add_b * 2 ^ 6 + alu.mul_a * 2 ^ 3 + alu.mul_b

unfoldable pub load_imm_word : LoadImm → ℕ
load_imm_word load =
    14 * 2 ^ 60 + load.mode * 2 ^ 57 + bit load.pm * 2 ^ 56 + load.pack * 2 ^ 52 + load.cond_add * 2 ^ 49
    + load.cond_mul * 2 ^ 46 + bit load.sf * 2 ^ 45 + bit load.ws * 2 ^ 44 + load.waddr_add * 2 ^ 38
    + load.waddr_mul * 2 ^ 32 + load.imm

unfoldable pub branch_word : Branch → ℕ
branch_word branch =
    15 * 2 ^ 60 + branch.spare * 2 ^ 56 + branch.cond * 2 ^ 52 + bit branch.relative * 2 ^ 51
    + bit branch.register * 2 ^ 50 + branch.raddr * 2 ^ 45 + bit branch.ws * 2 ^ 44 + branch.waddr_add * 2 ^ 38
    + branch.waddr_mul * 2 ^ 32 + branch.imm

abbrev pub word_of : Inst → ℕ
word_of (kind.Alu alu) = alu_word alu
word_of (kind.LoadImm load) = load_imm_word load
word_of (kind.Branch branch) = branch_word branch

-- Each word is the word of its fields.
abbrev pub WordsReturn : Type 0
WordsReturn = (word : ℕ) → word < 2 ^ 64 → word_of (inst_of word) ≡ word
