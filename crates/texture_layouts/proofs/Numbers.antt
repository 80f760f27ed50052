-- Rows of at most 65,599 are below 2^49.
use Rattle.std.proofs.{Common.ℕ, Common.◌*◌, Common.◌^◌, Common.◌<◌, Common.◌≤◌, Common.arith, lemmas.Nat.mul-le}

pub row_limit : (row across : ℕ) → row < 2 ^ 32 → across ≤ 65599 → row * across ≤ 2 ^ 32 * 65599
row_limit row across below limit = mul-le row across (2 ^ 32) 65599 (omega arith) limit
