-- Items by ascending place, as their numbers. No part of what the crate claims.
use Rattle.std.specs.Prelude.{◌≡◌, ℕ, Bool, true, false, ◌+◌, ◌≤◌, ◌<◌, List, length, take, nat_le}
use Rattle.std.specs.List.{All, list_any}
use Rattle.std.specs.List.Sorted.{IsNonDecreasingBy, IsPartitionPoint}
use Rattle.buffer_table.specs.{declared.item.Item.Item, Table.item_at}

abbrev pub place_in : List Item → ℕ → ℕ
place_in items k = (item_at items k).place

abbrev pub end_in : List Item → ℕ → ℕ
end_in items k = (item_at items k).place + (item_at items k).size

-- The numbers are those of as many first items: what is asked of any item is answered alike. Neither places nor ends fall, and each item
-- has a byte.
pub record IsOrder (items : List Item) (numbers : List ℕ) : Type 0 where
  pub inside : length numbers ≤ length items
  pub same : (p : Item → Bool) → list_any p (take (length numbers) items) ≡ list_any (λ k. p (item_at items k)) numbers
  pub places : IsNonDecreasingBy (place_in items) numbers
  pub ends : IsNonDecreasingBy (end_in items) numbers
  pub some : All (λ k. 0 < (item_at items k).size) numbers

-- the first `at` of them end at or before a place, and the others behind it
abbrev pub IsSplit : List Item → List ℕ → ℕ → ℕ → Type 0
IsSplit items numbers place at =
    (at ≤ length numbers) × IsPartitionPoint (λ k. nat_le (end_in items k) place ≡ true) (λ k. nat_le (end_in items k) place ≡ false) numbers at
