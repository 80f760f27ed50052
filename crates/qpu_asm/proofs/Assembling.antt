-- A text line by line: its labels, faults and words.
use Rattle.std.proofs.Common.{◌≡◌, ℕ, ◌+◌, ◌≤◌, Bool, true, false, List, [], ◌∷◌, ◌++◌, length, map, refl, sym, ◌∙◌, ap, arith, Ok, Option, None, Some, inl, inr, bytes_eq, Bor, if◌then◌else◌}
use Rattle.std.proofs.lemmas.Bool.{cases_Bool}
use Rattle.std.specs.{Map.update, Map.lookup, BTreeMap.is_at, Cmp.Lexicographic.slice_cmp, Ordering.nat_cmp}
use Rattle.field_words.specs.declared.stop.Stop.{Stop}
use Rattle.field_words.specs.declared.stop.Stop.TheVariants as stop
use Rattle.script.specs.Lines.{lines_of}
use Rattle.qpu_asm.specs.{declared.fault.AsmFault.AsmFault, declared.label.Spot.Spot, declared.label.Labels.Labels, Seen.spots_in, Items.Spots, Assembly.Assembled, Assembly.IsFaultOf}
use Rattle.qpu_asm.specs.Lines.{Line, Blank, Label, BadLabel, Coded, read_line}
use Rattle.qpu_asm.specs.Labels.{LabelSpot, size_of, label_on, labels_from, labels_of, spot_among, or_spot, spots_with, read_lines, spots_of}
use Rattle.qpu_asm.specs.{Walk.line_words, Walk.lines_words}
use Rattle.qpu_asm.proofs.{Bytes.bytes_same, Faults.text_assembles}

pub same_everywhere : {A B : Type 0} (f g : A → B) → ((x : A) → f x ≡ g x) → f ≡ g
same_everywhere f g h = λ i x. h x i

-- the lines of a text that begins with a line
pub lines_first : (text rest first : List ℕ) (line : Line) → lines_of text ≡ first ∷ lines_of rest → line ≡ read_line first
    → read_lines text ≡ line ∷ read_lines rest
unfolding read_lines
lines_first text rest first line is reads = ap (map read_line) is ∙ ap (λ l. l ∷ map read_line (lines_of rest)) (sym reads)

pub lines_none : (text : List ℕ) → length text ≤ 0 → read_lines text ≡ []
unfolding read_lines lines_of
lines_none [] none = refl
lines_none (byte ∷ bytes) none = absurd (omega arith)

-- labels: those of the lines so far, and then those of the lines that are left
abbrev pub with_lines : Spots → ℕ → ℕ → List Line → Spots
with_lines spots line index lines name = or_spot (spots name) (spot_among (labels_from line index lines) name)

or_by : (spot above below : Option Spot) → or_spot (or_spot spot above) below ≡ or_spot spot (or_spot above below)
or_by None above below = refl
or_by (Some spot) above below = refl

among_if : (here : Bool) (spot : Spot) (above below : Option Spot) → (if here then Some spot else or_spot above below) ≡ or_spot (if here then Some spot else above) below
among_if true spot above below = refl
among_if false spot above below = refl

among_both : (above below : List LabelSpot) (name : List ℕ) → spot_among (above ++ below) name ≡ or_spot (spot_among above name) (spot_among below name)
unfolding spot_among
among_both [] below name = refl
among_both (label ∷ above) below name =
    ap (λ other. if bytes_eq label.name name then Some label.spot else other) (among_both above below name)
    ∙ among_if (bytes_eq label.name name) label.spot (spot_among above name) (spot_among below name)

or_none : (spot : Option Spot) → or_spot spot None ≡ spot
or_none None = refl
or_none (Some spot) = refl

with_at : (spots : Spots) (line index : ℕ) (first : Line) (name : List ℕ) → spots_with spots line index first name ≡ or_spot (spots name) (spot_among (label_on line index first) name)
unfolding spot_among
with_at spots line index Blank name = sym (or_none (spots name))
with_at spots line index (Label other) name = refl
with_at spots line index BadLabel name = sym (or_none (spots name))
with_at spots line index (Coded opcode items) name = sym (or_none (spots name))

pub labels_step : (old new all : Spots) (lines later : List Line) (first : Line) (line index size : ℕ) → lines ≡ first ∷ later → size ≡ size_of first
    → new ≡ spots_with old line index first → with_lines old line index lines ≡ all → with_lines new (line + 1) (index + size) later ≡ all
unfolding labels_from
labels_step old new all lines later first line index size is sized added same =
    let below : Spots = spot_among (labels_from (line + 1) (index + size_of first) later) in
    let step : (name : List ℕ) → or_spot (spots_with old line index first name) (below name) ≡ with_lines old line index (first ∷ later) name =
    λ name. ap (λ spot. or_spot spot (below name)) (with_at old line index first name)
    ∙ (or_by (old name) (spot_among (label_on line index first) name) (below name)
    ∙ ap (or_spot (old name)) (sym (among_both (label_on line index first) (labels_from (line + 1) (index + size_of first) later) name))) in
    rw (sized, added) (same_everywhere _ _ step ∙ (ap (with_lines old line index) (sym is) ∙ same))

-- a label that stands already stays where it stood, and a new one is put to the others
pub label_known : (spots : Spots) (name : List ℕ) (line index : ℕ) (first : Spot) → spots name ≡ Some first → spots ≡ spots_with spots line index (Label name)
label_known spots name line index first is = same_everywhere _ _ (λ other. elim (cases_Bool (bytes_eq name other)) [
  | inl same ↦ let e = ap spots (sym (bytes_same name other same)) ∙ is in rw e refl
  | inr apart ↦ rw apart (sym (or_none (spots other)))
])

pub label_new : (old new : Spots) (name : List ℕ) (line index : ℕ) → old name ≡ None
    → ((other : List ℕ) → new other ≡ update bytes_eq old name (Some (record { line = line; index = index })) other) → new ≡ spots_with old line index (Label name)
label_new old new name line index none put = same_everywhere _ _ (λ other. put other ∙ elim (cases_Bool (bytes_eq name other)) [
  | inl same ↦ let e = ap old (sym (bytes_same name other same)) ∙ none in rw (same, e) refl
  | inr apart ↦ rw apart (sym (or_none (old other)))
])

pub labels_begin : (labels : Labels) (text : List ℕ) → labels.spots.entries ≡ [] → with_lines (spots_in labels) 1 0 (read_lines text) ≡ spots_of text
unfolding labels_of
labels_begin labels text is =
    let below : Spots = spot_among (labels_from 1 0 (read_lines text)) in
    same_everywhere _ _ (λ name. ap (λ entries. or_spot (lookup (is_at (λ (key : Bor (List ℕ)). slice_cmp nat_cmp name key.now)) entries) (below name)) is)

pub labels_end : (spots all : Spots) (text : List ℕ) (line index : ℕ) → length text ≤ 0 → with_lines spots line index (read_lines text) ≡ all → spots ≡ all
unfolding labels_from spot_among
labels_end spots all text line index none same =
    same_everywhere _ _ (λ name. sym (or_none (spots name))) ∙ (ap (with_lines spots line index) (sym (lines_none text none)) ∙ same)

pub size_low : (line : Line) → size_of line ≤ 1
size_low Blank = omega arith
size_low (Label name) = omega arith
size_low BadLabel = omega arith
size_low (Coded opcode items) = omega arith

-- words and faults
pub words_step : (spots : Spots) (lines later : List Line) (first : Line) (line : ℕ) (words new : List ℕ) → lines ≡ first ∷ later
    → line_words spots line words first ≡ Ok new → lines_words spots (line + 1) later new ≡ lines_words spots line lines words
unfolding lines_words
words_step spots lines later first line words new is put = rw (is, put) refl

pub fault_step : (spots : Spots) (lines later : List Line) (first : Line) (line : ℕ) (words : List ℕ) (answer : Stop AsmFault) → lines ≡ first ∷ later
    → IsFaultOf (line_words spots line words first) answer → IsFaultOf (lines_words spots line lines words) answer
unfolding lines_words
fault_step spots lines later first line words (stop.Fault fault) is report = rw (is, report) refl
fault_step spots lines later first line words stop.NoMemory is report = tt

pub words_end : (spots : Spots) (text : List ℕ) (line : ℕ) (words : List ℕ) → length text ≤ 0 → lines_words spots line (read_lines text) words ≡ Ok words
unfolding lines_words
words_end spots text line words none = rw (lines_none text none) refl

pub words_begin : (spots : Spots) (text words : List ℕ) → spots ≡ spots_of text → words ≡ [] → lines_words spots 1 (read_lines text) words ≡ Assembled text
words_begin spots text words is none = rw (is, none) (text_assembles text)
