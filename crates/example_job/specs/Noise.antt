-- Numbers that look random, from a seed: each next state is the state times a constant plus another, modulo 2^64, and gives its
-- upper byte.
use Rattle.std.specs.Prelude.{ℕ, zero, suc, ◌+◌, ◌*◌, ◌/◌, ◌%◌, ◌^◌, List, [], ◌∷◌}

-- the state after x
unfoldable pub next_state : ℕ → ℕ
next_state x = (x * 6364136223846793005 + 1442695040888963407) % 2 ^ 64

-- the bytes of the next n states
unfoldable pub noise : ℕ → ℕ → List ℕ
noise x zero = []
noise x (suc n) = next_state x / 2 ^ 56 ∷ noise (next_state x) n
