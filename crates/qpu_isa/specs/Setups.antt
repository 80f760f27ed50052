-- The setup words that a TMU (texture and memory unit) keeps, as one instruction finds and leaves them, and the uniform that an
-- instruction takes.
use Rattle.std.specs.Prelude.{ℕ, ◌==◌, Bool, not, ◌&&◌, ◌||◌, List, [], ◌∷◌, ◌++◌, if◌then◌else◌}
use Rattle.qpu_isa.specs.Terms.{add_names, mul_names, add_writes_tmu, mul_writes_tmu, writes_tmu, writes_s, s_address, reads_uniform_of}

-- Where a TMU keeps no setup words (`pending` is 0), a write of its S is direct: it asks for the word at an address that the
-- shader computed. Every other TMU write is a setup write, and takes a uniform.
unfoldable pub adds_direct : ℕ → ℕ → ℕ → Bool
adds_direct word tmu pending = add_names word (s_address tmu) && pending == 0

unfoldable pub muls_direct : ℕ → ℕ → ℕ → Bool
muls_direct word tmu pending = mul_names word (s_address tmu) && pending == 0

-- either unit's is
unfoldable pub is_direct : ℕ → ℕ → ℕ → Bool
is_direct word tmu pending = adds_direct word tmu pending || muls_direct word tmu pending

unfoldable pub adds_setup : ℕ → ℕ → ℕ → Bool
adds_setup word tmu pending = add_writes_tmu word tmu && not (adds_direct word tmu pending)

unfoldable pub muls_setup : ℕ → ℕ → ℕ → Bool
muls_setup word tmu pending = mul_writes_tmu word tmu && not (muls_direct word tmu pending)

-- either unit has a setup write of either TMU, which keep that many
unfoldable pub has_setup : ℕ → ℕ → ℕ → Bool
has_setup word pending0 pending1 =
    (adds_setup word 0 pending0 || muls_setup word 0 pending0) || (adds_setup word 1 pending1 || muls_setup word 1 pending1)

-- an instruction takes one uniform where it reads one, has a setup write, or both
unfoldable pub takes_with : ℕ → ℕ → ℕ → Bool
takes_with word pending0 pending1 = reads_uniform_of word || has_setup word pending0 pending1

-- What a TMU keeps after an instruction, where an item stands for it: nothing where it sends, and one more where it is written.
unfoldable pub setups_kept : ℕ → ℕ → ℕ → List ℕ → List ℕ
setups_kept word tmu item items = if writes_s word tmu then [] else (if writes_tmu word tmu then items ++ (item ∷ []) else items)
