-- How long a record is, what lies in it, and what of it its words determine.
use Rattle.std.proofs.Common.{◌≡◌, ℕ, ◌+◌, ◌*◌, ◌/◌, ◌%◌, ◌<◌, ◌≤◌, Bool, true, false, if◌then◌else◌, refl, ap, arith, ◌∙◌}
use Rattle.emitted_facts.specs.Records.{attribute_size, attribute_stride, address_word, shape_word, extension_word}
use Rattle.emitted_facts.specs.Facts.{IsAttributeIn}
use Rattle.packets.specs.StateWord.{attribute_count, is_extended, record_size}

pub count_limits : (state : ℕ) → (1 ≤ attribute_count state) × (attribute_count state ≤ 8)
unfolding attribute_count
count_limits state = (grind arith, grind arith)

record_from : (b : Bool) (count : ℕ) → count ≤ 8 → 36 + 8 * count ≤ (if b then 100 + 4 * count else 36 + 8 * count)
record_from true count few = omega arith
record_from false count few = omega arith

pub attributes_in : (state : ℕ) → 36 + 8 * attribute_count state ≤ record_size state
unfolding record_size
attributes_in state = record_from (is_extended state) (attribute_count state) (count_limits state).1

pub extended_from : (state : ℕ) → is_extended state ≡ true → record_size state ≡ 100 + 4 * attribute_count state
unfolding record_size
extended_from state extended = ap (λ b. if b then 100 + 4 * attribute_count state else 36 + 8 * attribute_count state) extended

-- the two words of an attribute, the one that extends it, and the words before all attributes
pub entry_in : (state t : ℕ) → t < attribute_count state → 44 + 8 * t ≤ record_size state
entry_in state t below = let all = attributes_in state in omega (arith, all, below)

pub extension_in : (state t : ℕ) → is_extended state ≡ true → t < attribute_count state → 104 + 4 * t ≤ record_size state
extension_in state t extended below = let size = extended_from state extended in omega (arith, size, below)

pub header_in : (state : ℕ) → 36 ≤ record_size state
header_in state = let all = attributes_in state in omega (arith, all)

-- Words that are the same make an attribute the same.
pub same_size : (one two : ℕ → ℕ) (t : ℕ) → one (shape_word t) ≡ two (shape_word t) → attribute_size one t ≡ attribute_size two t
unfolding attribute_size
same_size one two t same = ap (λ w. w % 256 + 1) same

high_bits : (b : Bool) (x y : ℕ) → (b ≡ true → x ≡ y) → (if b then 256 * (x / 256) else 0) ≡ (if b then 256 * (y / 256) else 0)
high_bits true x y same = ap (λ w. 256 * (w / 256)) (same refl)
high_bits false x y same = refl

pub same_stride : (state : ℕ) (one two : ℕ → ℕ) (t : ℕ) → one (shape_word t) ≡ two (shape_word t)
    → (is_extended state ≡ true → one (extension_word t) ≡ two (extension_word t)) → attribute_stride state one t ≡ attribute_stride state two t
unfolding attribute_stride
same_stride state one two t same extension =
    ap (λ w. w / 256 % 256 + (if is_extended state then 256 * (one (extension_word t) / 256) else 0)) same
    ∙ ap (λ h. two (shape_word t) / 256 % 256 + h) (high_bits (is_extended state) (one (extension_word t)) (two (extension_word t)) extension)

pub same_attribute : (IsNamed : ℕ → ℕ → Type 0) (state most : ℕ) (one two : ℕ → ℕ) (t : ℕ) → one (address_word t) ≡ two (address_word t) → one (shape_word t) ≡ two (shape_word t)
    → (is_extended state ≡ true → one (extension_word t) ≡ two (extension_word t)) → IsAttributeIn IsNamed state two most t → IsAttributeIn IsNamed state one most t
same_attribute IsNamed state most one two t address shape extension is =
    let bytes = same_size one two t shape in
    let stride = same_stride state one two t shape extension in
    record {
      place = is.place;
      size = is.size;
      named = is.named;
      from = let f = is.from in omega (arith, f, address);
      upto = λ index upto. let ends = is.upto index upto in let product = ap (λ s. s * index) stride in omega (arith, ends, address, bytes, product);
    }
