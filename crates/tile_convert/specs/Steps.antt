-- A copy on its way.
use Rattle.std.specs.Prelude.{◌≡◌, ◌<◌, ◌≤◌, ◌⊎◌, ℕ, ◌+◌, List, length, slice_index}
use Rattle.tile_convert.specs.{declared.order.Order.Order, Picture.place_in}

-- `count` bytes at `to` are those of the source at `from`, and all others are as before
pub record IsPartCopied (source : List ℕ) (from : ℕ) (old : List ℕ) (to count : ℕ) (new : List ℕ) : Type 0 where
  pub size : length new ≡ length old
  pub part : (k : ℕ) → k < count → slice_index new (to + k) ≡ slice_index source (from + k)
  pub rest : (i : ℕ) → ((k : ℕ) → k < count → i ≡ to + k → ⊥) → slice_index new i ≡ slice_index old i

-- pixel (u, v) stands before (x, y), by rows
abbrev pub IsBefore : ℕ → ℕ → ℕ → ℕ → ℕ → Type 0
IsBefore width u v x y = (u < width) × ((v < y) ⊎ ((v ≡ y) × (u < x)))

-- The pixels before (x, y) have been copied, and all other bytes are as before.
pub record IsCopied (from to : Order) (width cpp : ℕ) (source old new : List ℕ) (x y : ℕ) : Type 0 where
  pub size : length new ≡ length old
  pub pixels : (u v b : ℕ) → IsBefore width u v x y → b < cpp
      → slice_index new (place_in to width cpp u v + b) ≡ slice_index source (place_in from width cpp u v + b)
  pub rest : (i : ℕ) → ((u v b : ℕ) → IsBefore width u v x y → b < cpp → i ≡ place_in to width cpp u v + b → ⊥)
      → slice_index new i ≡ slice_index old i

-- so many bytes hold row y
abbrev pub HasRow : Order → ℕ → ℕ → ℕ → ℕ → Type 0
HasRow order width cpp y size = (x : ℕ) → x < width → place_in order width cpp x y + cpp ≤ size
