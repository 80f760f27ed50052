-- All tiles of a set take less than five million bytes.
use Rattle.std.proofs.Common.{◌*◌, ◌≤◌, ℕ, arith}

pub tiles_limit : (down across size : ℕ) → down ≤ 256 → across ≤ 256 → size ≤ 72 → down * (across * size) ≤ 4718592
tiles_limit down across size h k l = grind arith
