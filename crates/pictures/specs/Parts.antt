-- Parts of a drawing.
use Rattle.std.specs.Prelude.{ℕ, zero, suc, false, List, [], ◌∷◌, ◌++◌, codes, flat_map}
use Rattle.std.specs.Fmt.{decimal, digits}
use Rattle.pictures.specs.Forest.{Forest, Attribute, Nothing, Words, Leaf, Element, Beside, word_attribute, number_attribute, attribute_text, forest_text}
use Rattle.pictures.specs.declared.parts.TheConstants.{STYLE, NAMESPACE}

-- a box of 18 columns and 12 rows
abbrev pub block_attributes : (x y : ℕ) → (class : List ℕ) → List Attribute
block_attributes x y class =
    number_attribute (codes "x") x ∷ number_attribute (codes "y") y ∷ number_attribute (codes "width") 18 ∷ number_attribute (codes "height") 12
    ∷ word_attribute (codes "class") class ∷ []

abbrev pub block : (x y : ℕ) → (class : List ℕ) → Forest
block x y class = Leaf (codes "rect") (block_attributes x y class)

abbrev pub paper : (height : ℕ) → Forest
paper height = Leaf (codes "rect")
    (number_attribute (codes "x") 0 ∷ number_attribute (codes "y") 0 ∷ number_attribute (codes "width") 960 ∷ number_attribute (codes "height") height
    ∷ word_attribute (codes "class") (codes "paper") ∷ [])

abbrev pub label : (x y : ℕ) → (class words : List ℕ) → Forest
label x y class words = Element (codes "text") (number_attribute (codes "x") x ∷ number_attribute (codes "y") y ∷ word_attribute (codes "class") class ∷ []) (Words words)

unfoldable pub hex : ℕ → List ℕ
hex number = codes "0x" ++ digits 16 false number

-- the first n of these, one after the other
abbrev pub each : (ℕ → Forest) → ℕ → Forest
each part zero = Nothing
each part (suc n) = Beside (each part n) (part n)

-- an element with words in it alone
abbrev pub word_element : (name words : List ℕ) → Forest
word_element name words = Element name [] (Words words)

abbrev pub root_attributes : (height : ℕ) → List Attribute
root_attributes height =
    word_attribute (codes "xmlns") NAMESPACE.now ∷ number_attribute (codes "width") 960 ∷ number_attribute (codes "height") height
    ∷ word_attribute (codes "viewBox") (codes "0 0 960 " ++ decimal height) ∷ []

-- A drawing of 960 columns and so many rows, with its title, on paper of its own.
abbrev pub drawing : (height : ℕ) → (title : List ℕ) → Forest → Forest
drawing height title inside =
    Element (codes "svg") (root_attributes height)
    (Beside (word_element (codes "title") title) (Beside (word_element (codes "style") STYLE.now) (Beside (paper height) inside)))

-- what stands before what is in a drawing
abbrev pub opening : (height : ℕ) → (title : List ℕ) → List ℕ
opening height title =
    codes "<" ++ (codes "svg" ++ (flat_map attribute_text (root_attributes height) ++ (codes ">" ++ (forest_text (word_element (codes "title") title)
    ++ (forest_text (word_element (codes "style") STYLE.now) ++ forest_text (paper height))))))
