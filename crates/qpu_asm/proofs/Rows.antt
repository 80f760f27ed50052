-- Rows one after another.
use Rattle.std.proofs.Common.{◌≡◌, ℕ, ◌+◌, ◌/◌, ◌%◌, ◌^◌, ◌≤◌, ◌<◌, Bool, true, false, ◌==◌, ◌&&◌, ◌||◌, not, nat_lt, nat_le, List, [], ◌∷◌, ◌++◌, length, take, slice_index_or, sym, ◌∙◌, ap, arith, ltb-true, leb-true, if◌then◌else◌, lit≤, le_trans, pow_mono, refl}
use Rattle.std.proofs.lemmas.{Bool.and_parts, List.take_more, List.flat_map_more}
use Rattle.std.specs.List.{list_all, flat_map}
use Rattle.qpu_isa.specs.Fields.{width_of, values_of}
use Rattle.qpu_asm.specs.{declared.table.Row.Row, Table.widths_of, Table.alu_kind, Table.load_imm_kind, Table.branch_kind, Table.nop_kind}
use Rattle.qpu_asm.specs.{Walk.is_ready, Walk.are_ready, Walk.field_text, Printed.item_texts, Printed.spaced_words, Printed.rows_text, Printed.kind_of, Printed.line_text}
use Rattle.qpu_asm.specs.Seen.{row_seen, rows_seen}
use Rattle.qpu_asm.specs.Table as table

pub none_left : {A : Type 0} (xs : List A) → length xs ≡ 0 → xs ≡ []
none_left [] is = refl
none_left (x ∷ xs) is = absurd (omega arith)

pub ready_parts : (row : table.Row) (rows : List table.Row) → are_ready (row ∷ rows) ≡ true → (is_ready row ≡ true) × (are_ready rows ≡ true)
unfolding are_ready
ready_parts row rows ready = and_parts (is_ready row) (list_all is_ready rows) ready

pub record RowFacts (row : table.Row) : Type 0 where
  pub low : 1 ≤ row.width
  pub high : row.width ≤ 32
  pub fallback : row.fallback < 2 ^ row.width
  pub below : row.below ≤ 2 ^ row.width
  pub named : list_all (λ named. nat_lt named.value (2 ^ row.width)) row.named ≡ true
  pub label : (not row.takes_label || row.width == 32) ≡ true

pub row_facts : (row : table.Row) → is_ready row ≡ true → RowFacts row
unfolding is_ready
row_facts row ready =
    let parts = and_parts (nat_le 1 row.width && nat_le row.width 32)
    ((nat_lt row.fallback (2 ^ row.width) && nat_le row.below (2 ^ row.width))
    && (list_all (λ named. nat_lt named.value (2 ^ row.width)) row.named && (not row.takes_label || row.width == 32))) ready in
    let widths = and_parts (nat_le 1 row.width) (nat_le row.width 32) parts.0 in
    let values = and_parts (nat_lt row.fallback (2 ^ row.width) && nat_le row.below (2 ^ row.width))
    (list_all (λ named. nat_lt named.value (2 ^ row.width)) row.named && (not row.takes_label || row.width == 32)) parts.1 in
    let bounds = and_parts (nat_lt row.fallback (2 ^ row.width)) (nat_le row.below (2 ^ row.width)) values.0 in
    let others = and_parts (list_all (λ named. nat_lt named.value (2 ^ row.width)) row.named) (not row.takes_label || row.width == 32) values.1 in
    record {
      low = leb-true 1 row.width widths.0;
      high = leb-true row.width 32 widths.1;
      fallback = ltb-true row.fallback (2 ^ row.width) bounds.0;
      below = leb-true row.below (2 ^ row.width) bounds.1;
      named = others.0;
      label = others.1;
    }

-- the first row
pub width_first : (rest later : List Row) (row : Row) → rest ≡ row ∷ later
    → width_of (widths_of (rows_seen rest)) ≡ row.width + width_of (widths_of (rows_seen later))
unfolding width_of
width_first rest later row is = ap (λ rows. width_of (widths_of (rows_seen rows))) is

pub width_none : (rest : List Row) → length rest ≡ 0 → width_of (widths_of (rows_seen rest)) ≡ 0
unfolding width_of
width_none rest is = ap (λ rows. width_of (widths_of (rows_seen rows))) (none_left rest is)

pub ready_first : (rest later : List Row) (row : Row) → rest ≡ row ∷ later → are_ready (rows_seen rest) ≡ true
    → RowFacts (row_seen row) × (are_ready (rows_seen later) ≡ true)
ready_first rest later row is ready =
    let parts = ready_parts (row_seen row) (rows_seen later) (sym (ap (λ rows. are_ready (rows_seen rows)) is) ∙ ready) in
    (row_facts (row_seen row) parts.0, parts.1)

-- the text of the rows that are left
text_by : (same : Bool) (item : List ℕ) (items : List (List ℕ)) → spaced_words (if same then items else item ∷ items) ≡ (if same then [] else 32 ∷ item) ++ spaced_words items
unfolding spaced_words
text_by true item items = refl
text_by false item items = refl

pub text_first : (rest later : List Row) (row : Row) (word low value : ℕ) → rest ≡ row ∷ later
    → low ≡ width_of (widths_of (rows_seen later)) → value ≡ word / 2 ^ low % 2 ^ row.width
    → rows_text (rows_seen rest) word ≡ field_text (row_seen row) value ++ rows_text (rows_seen later) word
unfolding item_texts values_of
text_first rest later row word low value is at field = rw (is, field, at) (text_by _ _ _)

pub text_none : (rest : List Row) (word : ℕ) → length rest ≡ 0 → rows_text (rows_seen rest) word ≡ []
unfolding item_texts spaced_words
text_none rest word is = ap (λ rows. rows_text (rows_seen rows) word) (none_left rest is)

-- one more line
pub lines_more : (words : List ℕ) (i d : ℕ) (old new : List ℕ) → i < length words → old ≡ flat_map line_text (take i words)
    → new ≡ old ++ line_text (slice_index_or words i d) → new ≡ flat_map line_text (take (i + 1) words)
lines_more words i d old new below before put =
    put ∙ (ap (λ l. l ++ line_text (slice_index_or words i d)) before
    ∙ (flat_map_more line_text [] (take i words) (slice_index_or words i d) ∙ ap (flat_map line_text) (sym (take_more words i d below))))

pub kind_cases : (P : table.Kind → Type 0) (nop load branch : Bool) → P nop_kind → P load_imm_kind → P branch_kind → P alu_kind
    → P (if nop then nop_kind else (if load then load_imm_kind else (if branch then branch_kind else alu_kind)))
kind_cases P true load branch a b c d = a
kind_cases P false true branch a b c d = b
kind_cases P false false true a b c d = c
kind_cases P false false false a b c d = d

-- the tables' rows are ready, and fit a word
pub kind_ready : (word : ℕ) → are_ready (kind_of word).rows ≡ true
unfolding kind_of are_ready is_ready
kind_ready word = kind_cases (λ kind. are_ready kind.rows ≡ true) _ _ _ refl refl refl refl

pub kind_wide : (word : ℕ) → width_of (widths_of (kind_of word).rows) ≤ 64
unfolding kind_of width_of
kind_wide word = kind_cases (λ kind. width_of (widths_of kind.rows) ≤ 64) _ _ _ (lit≤ tt) (lit≤ tt) (lit≤ tt) (lit≤ tt)

pub row_below : (row : table.Row) → RowFacts row → row.below ≤ 2 ^ 32
row_below row facts = le_trans facts.below (pow_mono facts.high)
