-- The items of tile lists lie near.
use Rattle.std.proofs.Common.{◌≤◌, ℕ, ◌+◌, ◌*◌, ◌^◌, List, [], ◌∷◌, ◌++◌, length, arith}
use Rattle.list_machine.specs.{State.Item, Lists.AreNear}

near_from : (n : ℕ) (items : List Item) (item : Item) → AreNear n items → item.place ≤ 2 ^ 34 + 16 * (n + length items) → AreNear n (items ++ item ∷ [])
near_from n [] item near here = (omega (arith, here), tt)
near_from n (first ∷ items) item near here = (near.0, near_from (n + 1) items item near.1 (omega (arith, here)))

pub near_push : (items : List Item) (item : Item) → AreNear 0 items → item.place ≤ 2 ^ 34 + 16 * length items → AreNear 0 (items ++ item ∷ [])
near_push items item near here = near_from 0 items item near (omega (arith, here))
