-- A drawing as elements with attributes, and the text that writes it.
use Rattle.std.specs.Prelude.{ℕ, ◌==◌, List, [], ◌∷◌, ◌++◌, codes, if◌then◌else◌, decimal, flat_map}

pub record Attribute : Type 0 where
  pub name : List ℕ
  pub value : List ℕ

-- Nothing; words; an element without and with things in it; and two of these, one after the other.
pub data Forest : Type 0 where
  Nothing : Forest
  Words : List ℕ → Forest
  Leaf : List ℕ → List Attribute → Forest
  Element : List ℕ → List Attribute → Forest → Forest
  Beside : Forest → Forest → Forest

-- the four bytes that have a meaning in a text's elements and attributes have names there
abbrev pub escape : ℕ → List ℕ
escape byte =
    if byte == 38 then codes "&amp;"
    else (if byte == 60 then codes "&lt;"
    else (if byte == 62 then codes "&gt;"
    else (if byte == 34 then codes "&quot;" else byte ∷ [])))

unfoldable pub words_escaped : List ℕ → List ℕ
words_escaped words = flat_map escape words

-- attributes whose values are words and numbers
abbrev pub word_attribute : List ℕ → List ℕ → Attribute
word_attribute name value = record { name = name; value = value }

abbrev pub number_attribute : List ℕ → ℕ → Attribute
number_attribute name number = record { name = name; value = decimal number }

unfoldable pub attribute_text : Attribute → List ℕ
attribute_text attribute = codes " " ++ (attribute.name ++ (codes "=\"" ++ (words_escaped attribute.value ++ codes "\"")))

-- An element stands between its name with its attributes and its name again, and each ends a line.
abbrev pub forest_text : Forest → List ℕ
forest_text Nothing = []
forest_text (Words words) = words_escaped words
forest_text (Leaf name attributes) = codes "<" ++ (name ++ (flat_map attribute_text attributes ++ codes "/>\n"))
forest_text (Element name attributes inside) =
    codes "<" ++ (name ++ (flat_map attribute_text attributes ++ (codes ">" ++ (forest_text inside ++ (codes "</" ++ (name ++ codes ">\n"))))))
forest_text (Beside first second) = forest_text first ++ forest_text second
