-- The heat: a strip of boxes for reads and one for writes, which shows how many accesses touch each box; over the memory's strip, paled.
use Rattle.std.specs.Prelude.{ℕ, ◌+◌, ◌-◌, ◌*◌, ◌/◌, ◌%◌, ◌^◌, ◌==◌, min, List, [], ◌∷◌, ◌++◌, length, slice_index_or, codes, if◌then◌else◌, decimal}
use Rattle.pictures.specs.{Forest.Forest, Forest.Nothing, Forest.Leaf, Forest.Beside, Forest.word_attribute, Forest.number_attribute, Parts.block, Parts.label, Parts.each}

-- the row of the drawing at which the two strips begin
abbrev pub heat_top : ℕ
heat_top = 712

-- a number's tone: how many digits it has, and seven at most
abbrev pub tone_of : ℕ → ℕ
tone_of count = min (length (decimal count)) 7

-- the box of this number, which so many accesses touch
unfoldable pub heat_part : (class : List ℕ) → (x n count : ℕ) → Forest
heat_part class x n count =
    if count == 0 then Nothing else block (x + 18 * (n % 16)) (heat_top + 12 * (n / 16)) (class ++ decimal (tone_of count))

abbrev pub heat_at : (class : List ℕ) → (x : ℕ) → (counts : List ℕ) → ℕ → Forest
heat_at class x counts n = heat_part class x n (slice_index_or counts n 0)

-- the memory's strip once more, paled
unfoldable pub ground : (x : ℕ) → Forest
ground x = Leaf (codes "use")
    (word_attribute (codes "href") (codes "#strip") ∷ number_attribute (codes "x") (x - 96) ∷ number_attribute (codes "y") (heat_top - 72) ∷ word_attribute (codes "class") (codes "pale") ∷ [])

-- a strip with its title
unfoldable pub heat_strip : (class title : List ℕ) → (x : ℕ) → (counts : List ℕ) → Forest
heat_strip class title x counts =
    Beside (label x (heat_top - 12) (codes "note") title) (Beside (ground x) (each (heat_at class x counts) (length counts)))

-- what the tones mean: each begins at ten times the number of the one before
unfoldable pub tone_part : ℕ → Forest
tone_part n =
    Beside (block 724 (heat_top + 20 * n) (codes "read" ++ decimal (n + 1)))
    (Beside (block 742 (heat_top + 20 * n) (codes "write" ++ decimal (n + 1))) (label 840 (heat_top + 11 + 20 * n) (codes "end") (decimal (10 ^ n))))

unfoldable pub tone_parts : Forest
tone_parts = each tone_part 7

unfoldable pub heat_legend : Forest
heat_legend = Beside (label 724 (heat_top - 12) (codes "note") (codes "accesses of a box, from")) tone_parts

-- both strips: how many reads touch each box, and how many writes
unfoldable pub heat : (reads writes : List ℕ) → Forest
heat reads writes =
    Beside (heat_strip (codes "read") (codes "reads") 96 reads) (Beside (heat_strip (codes "write") (codes "writes") 408 writes) heat_legend)
