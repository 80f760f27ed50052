-- The words of a shader record.
--
-- Word 0 has the flags, of which bit 0 says that the fragment shader is single-threaded. Words 1, 4 and 7
-- are the places of the fragment, vertex and coordinate shader's code, words 2, 5 and 8 those of their
-- uniform streams. Attribute t is two words from word 9 + 2t on: the address of its data, and then its
-- size less one in the first byte and the low byte of its stride in the second. An extended record has
-- a word 25 + t more for each attribute, of which bits 31:8 are bits 31:8 of the stride.
use Rattle.std.specs.Prelude.{ℕ, ◌+◌, ◌*◌, ◌/◌, ◌%◌, ◌==◌, Bool, if◌then◌else◌}
use Rattle.packets.specs.StateWord.{is_extended}

-- The shaders by number: 0 fragment, 1 vertex, 2 coordinate. The words of their code and streams.
abbrev pub code_word : ℕ → ℕ
code_word s = 3 * s + 1

abbrev pub stream_word : ℕ → ℕ
stream_word s = 3 * s + 2

-- the words of attribute t
abbrev pub address_word : ℕ → ℕ
address_word t = 9 + 2 * t

abbrev pub shape_word : ℕ → ℕ
shape_word t = 10 + 2 * t

abbrev pub extension_word : ℕ → ℕ
extension_word t = 25 + t

-- Words are given by number. How many bytes a vertex has in the attribute's data, and how far the next
-- vertex's are.
unfoldable pub attribute_size : (ℕ → ℕ) → ℕ → ℕ
attribute_size word t = word (shape_word t) % 256 + 1

unfoldable pub attribute_stride : ℕ → (ℕ → ℕ) → ℕ → ℕ
attribute_stride state word t =
    word (shape_word t) / 256 % 256 + (if is_extended state then 256 * (word (extension_word t) / 256) else 0)

-- the fragment shader is said to be single-threaded
unfoldable pub is_single : (ℕ → ℕ) → Bool
is_single word = word 0 % 2 == 1
