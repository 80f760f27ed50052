-- The walk over a text's lines ends with what the text assembles to.
use Rattle.std.proofs.Common.{◌≡◌, inl, inr, ℕ, ◌+◌, ◌*◌, ◌^◌, ◌<◌, Bool, true, false, nat_lt, nat_le, ◌==◌, List, [], ◌∷◌, ◌++◌, length, map, refl, sym, ◌∙◌, ap, subst, arith, Option, None, Some, Result, Ok, Err, IfErr, append_assoc, append-nil, length-append, eq-eqb, if◌then◌else◌}
use Rattle.std.specs.Option.{option_to_list}
use Rattle.std.proofs.{lemmas.Bool.cases_Bool, lemmas.Bool.Decides.nat_tests}
use Rattle.field_words.specs.{Least.IsBroken, Least.IsLeast, declared.stop.Stop.Stop}
use Rattle.field_words.specs.declared.stop.Stop.TheVariants.{Fault, NoMemory}
use Rattle.qpu_isa.specs.Fields.{fields_joined}
use Rattle.script.specs.Lines.{before, behind}
use Rattle.qpu_asm.specs.Items.{Spots, mistake_number, read_value, is_row, has_row, has_value, kind_named}
use Rattle.qpu_asm.specs.Faults.{rows_behind, rows_after, mistakes_in, value_mistakes, named_mistakes, item_mistakes, items_mistakes, kind_mistakes, line_mistakes, fault_on, lines_faults, text_faults, IsUpTo, all_broken, AnswersLeast}
use Rattle.qpu_asm.specs.Assembly.{value_or, row_values, kind_word, code_word, words_on, words_from, text_words, is_up_to, least_fault, words_or_least, Assembled, IsFaultOf}
use Rattle.qpu_asm.specs.Walk.{least_of, Partial, with_value, skip_to, read_named, read_item, read_items, word_or_fault, closed_word, kind_code, option_code, code_of, with_word, line_words, if_words, lines_words}
use Rattle.qpu_asm.specs.{declared.fault.AsmFault.AsmFault, declared.fault.Mistake.Mistake, declared.fault.Mistake.TheVariants.UnknownWord}
use Rattle.qpu_asm.specs.Table.{Row, Kind, widths_of, fallbacks_of}
use Rattle.qpu_asm.specs.Lines.{Line, Blank, Label, BadLabel, Coded}
use Rattle.qpu_asm.specs.Labels.{size_of, is_before, read_lines, spots_of}

-- the least of a mistake so far and others
least_after : Option Mistake → List Mistake → Option Mistake
least_after fault [] = fault
least_after fault (mistake ∷ mistakes) = least_after (Some (least_of mistake fault)) mistakes

after_both : (fault : Option Mistake) (xs ys : List Mistake) → least_after fault (xs ++ ys) ≡ least_after (least_after fault xs) ys
unfolding least_after
after_both fault [] ys = refl
after_both fault (x ∷ xs) ys = after_both (Some (least_of x fault)) xs ys

-- the items so far leave these rows, and this fault
abbrev IsAt : Partial → List Row → Option Mistake → Type 0
IsAt partial rows fault = (partial.rows ≡ rows) × (partial.fault ≡ fault)

value_at : (row : Row) (partial : Partial) (read : Result ℕ Mistake) → IsAt (with_value row partial read) partial.rows (least_after partial.fault (mistakes_in read))
unfolding least_after
value_at row partial (Ok value) = (refl, refl)
value_at row partial (Err mistake) = (refl, refl)

skip_at : (name : List ℕ) (read : Row → Result ℕ Mistake) (fault : Option Mistake) (word : ℕ) (rows : List Row)
    → IsAt (skip_to name read fault word rows) (rows_behind name rows) (least_after fault (value_mistakes name read rows))
unfolding skip_to rows_behind value_mistakes least_after
skip_at name read fault word [] = (refl, refl)
skip_at name read fault word (row ∷ rows) = elim (cases_Bool (is_row name row)) [
  | inl here ↦ rw here (value_at row (record { word = word; rows = rows; fault = fault }) (read row))
  | inr other ↦ rw other (skip_at name read fault (word * 2 ^ row.width + row.fallback) rows)
]

named_at : (spots : Spots) (index : ℕ) (all : List Row) (partial : Partial) (name text : List ℕ)
    → IsAt (read_named spots index all partial name text) (if has_row name partial.rows then rows_behind name partial.rows else partial.rows)
    (least_after partial.fault (named_mistakes spots index all partial.rows name text))
unfolding read_named named_mistakes least_after
named_at spots index all partial name text = elim (cases_Bool (has_row name partial.rows)) [
  | inl here ↦ rw here (skip_at name (read_value spots index name text) partial.fault partial.word partial.rows)
  | inr other ↦ rw other (refl, refl)
]

item_at : (spots : Spots) (index : ℕ) (all : List Row) (partial : Partial) (item : List ℕ)
    → IsAt (read_item spots index all partial item) (rows_after item partial.rows) (least_after partial.fault (item_mistakes spots index all partial.rows item))
unfolding read_item rows_after item_mistakes least_after
item_at spots index all partial item = elim (cases_Bool (has_value item)) [
  | inl here ↦ rw here (named_at spots index all partial (before 61 item) (behind 61 item))
  | inr other ↦ rw other (refl, refl)
]

-- an item alone has its own mistake, where it has one
IsAlone : List Mistake → Type 0
IsAlone mistakes = option_to_list (least_after None mistakes) ≡ mistakes

read_alone : (read : Result ℕ Mistake) → IsAlone (mistakes_in read)
unfolding IsAlone least_after
read_alone (Ok value) = refl
read_alone (Err mistake) = refl

value_alone : (name : List ℕ) (read : Row → Result ℕ Mistake) (rows : List Row) → IsAlone (value_mistakes name read rows)
unfolding IsAlone least_after value_mistakes
value_alone name read [] = refl
value_alone name read (row ∷ rows) = elim (cases_Bool (is_row name row)) [
  | inl here ↦ rw here (read_alone (read row))
  | inr other ↦ rw other (value_alone name read rows)
]

item_alone : (spots : Spots) (index : ℕ) (all rows : List Row) (item : List ℕ) → IsAlone (item_mistakes spots index all rows item)
unfolding IsAlone least_after item_mistakes named_mistakes
item_alone spots index all rows item = elim (cases_Bool (has_value item)) [
  | inl has ↦ elim (cases_Bool (has_row (before 61 item) rows)) [
    | inl here ↦ rw (has, here) (value_alone (before 61 item) (read_value spots index (before 61 item) (behind 61 item)) rows)
    | inr other ↦ rw (has, other) refl
  ]
  | inr none ↦ rw none refl
]

pub item_reported : (spots : Spots) (index word : ℕ) (all rows : List Row) (item : List ℕ) (partial : Partial)
    → partial ≡ read_item spots index all (record { word = word; rows = rows; fault = None }) item
    → (partial.rows ≡ rows_after item rows) × (option_to_list partial.fault ≡ item_mistakes spots index all rows item)
unfolding IsAlone
item_reported spots index word all rows item partial is =
    let at = item_at spots index all (record { word = word; rows = rows; fault = None }) item in
    (ap (λ p. p.rows) is ∙ at.0, ap (λ p. option_to_list p.fault) is ∙ (ap option_to_list at.1 ∙ item_alone spots index all rows item))

items_at : (spots : Spots) (index : ℕ) (all : List Row) (partial : Partial) (items : List (List ℕ))
    → (read_items spots index all partial items).fault ≡ least_after partial.fault (items_mistakes spots index all partial.rows items)
unfolding read_items items_mistakes least_after
items_at spots index all partial [] = refl
items_at spots index all partial (item ∷ items) =
    let here = item_at spots index all partial item in
    let next : Partial = read_item spots index all partial item in
    items_at spots index all next items
    ∙ (ap (λ rows. least_after next.fault (items_mistakes spots index all rows items)) here.0
    ∙ (ap (λ fault. least_after fault (items_mistakes spots index all (rows_after item partial.rows) items)) here.1
    ∙ sym (after_both partial.fault (item_mistakes spots index all partial.rows item) (items_mistakes spots index all (rows_after item partial.rows) items))))

-- items without mistakes
none_both : {A : Type 0} (xs ys : List A) → xs ++ ys ≡ [] → (xs ≡ []) × (ys ≡ [])
none_both [] ys none = (refl, none)
none_both (x ∷ xs) ys none = cc

clean_by : (value row : Bool) (mistake : Mistake) (mistakes : List Mistake)
    → (if value then (if row then mistakes else mistake ∷ []) else UnknownWord ∷ []) ≡ [] → (value ≡ true) × (row ≡ true) × (mistakes ≡ [])
clean_by true true mistake mistakes none = (refl, refl, none)
clean_by true false mistake mistakes none = cc
clean_by false row mistake mistakes none = cc

clean : (spots : Spots) (index : ℕ) (all rows : List Row) (item : List ℕ) → item_mistakes spots index all rows item ≡ []
    → (has_value item ≡ true) × (has_row (before 61 item) rows ≡ true)
    × (value_mistakes (before 61 item) (read_value spots index (before 61 item) (behind 61 item)) rows ≡ [])
unfolding item_mistakes named_mistakes
clean spots index all rows item none = clean_by (has_value item) (has_row (before 61 item) rows) _ _ none

good_value : (fallback : ℕ) (read : Result ℕ Mistake) → mistakes_in read ≡ [] → read ≡ Ok (value_or fallback read)
good_value fallback (Ok value) none = refl
good_value fallback (Err mistake) none = cc

values_none : (spots : Spots) (index : ℕ) (rows : List Row) → row_values spots index rows [] ≡ fallbacks_of rows
unfolding row_values
values_none spots index [] = refl
values_none spots index (row ∷ rows) = ap (λ values. row.fallback ∷ values) (values_none spots index rows)

values_here : (spots : Spots) (index : ℕ) (rows : List Row) (row : Row) (item : List ℕ) (items : List (List ℕ)) → is_row (before 61 item) row ≡ true
    → row_values spots index (row ∷ rows) (item ∷ items)
    ≡ value_or row.fallback (read_value spots index (before 61 item) (behind 61 item) row) ∷ row_values spots index rows items
unfolding row_values
values_here spots index rows row item items here = rw here refl

values_later : (spots : Spots) (index : ℕ) (rows : List Row) (row : Row) (item : List ℕ) (items : List (List ℕ)) → is_row (before 61 item) row ≡ false
    → row_values spots index (row ∷ rows) (item ∷ items) ≡ row.fallback ∷ row_values spots index rows (item ∷ items)
unfolding row_values
values_later spots index rows row item items other = rw other refl

-- the item of the first row that may come
item_here : (spots : Spots) (index : ℕ) (all rows : List Row) (row : Row) (word value : ℕ) (item : List ℕ) → has_value item ≡ true → is_row (before 61 item) row ≡ true
    → read_value spots index (before 61 item) (behind 61 item) row ≡ Ok value
    → read_item spots index all (record { word = word; rows = row ∷ rows; fault = None }) item ≡ record { word = word * 2 ^ row.width + value; rows = rows; fault = None }
unfolding read_item read_named has_row skip_to
item_here spots index all rows row word value item has here good = rw (has, here, good) refl

-- the item of a later one
item_later : (spots : Spots) (index : ℕ) (all rows : List Row) (row : Row) (word : ℕ) (item : List ℕ) → has_value item ≡ true
    → is_row (before 61 item) row ≡ false → has_row (before 61 item) rows ≡ true
    → read_item spots index all (record { word = word; rows = row ∷ rows; fault = None }) item
    ≡ read_item spots index all (record { word = word * 2 ^ row.width + row.fallback; rows = rows; fault = None }) item
unfolding read_item read_named has_row skip_to
item_later spots index all rows row word item has other there = rw (has, other, there) refl

rows_here : (item : List ℕ) (row : Row) (rows : List Row) → has_value item ≡ true → is_row (before 61 item) row ≡ true → rows_after item (row ∷ rows) ≡ rows
unfolding rows_after rows_behind has_row
rows_here item row rows has here = rw (has, here) refl

mistakes_here : (name : List ℕ) (read : Row → Result ℕ Mistake) (row : Row) (rows : List Row) → is_row name row ≡ true
    → value_mistakes name read (row ∷ rows) ≡ mistakes_in (read row)
unfolding value_mistakes
mistakes_here name read row rows here = rw here refl

has_later : (name : List ℕ) (row : Row) (rows : List Row) → is_row name row ≡ false → has_row name (row ∷ rows) ≡ has_row name rows
unfolding has_row
has_later name row rows other = rw other refl

mistakes_later : (spots : Spots) (index : ℕ) (all rows : List Row) (row : Row) (item : List ℕ) (items : List (List ℕ)) → has_value item ≡ true
    → is_row (before 61 item) row ≡ false → has_row (before 61 item) rows ≡ true
    → items_mistakes spots index all (row ∷ rows) (item ∷ items) ≡ items_mistakes spots index all rows (item ∷ items)
unfolding items_mistakes item_mistakes named_mistakes value_mistakes rows_after rows_behind has_row
mistakes_later spots index all rows row item items has other there = rw (has, other, there) refl

no_row : (spots : Spots) (index : ℕ) (all : List Row) (item : List ℕ) → item_mistakes spots index all [] item ≡ [] → ⊥
unfolding has_row
no_row spots index all item none = let wrong : false ≡ true = (clean spots index all [] item none).1 in cc

joined_values : (spots : Spots) (index : ℕ) (all rows : List Row) (word : ℕ) (items : List (List ℕ)) → items_mistakes spots index all rows items ≡ []
    → closed_word (read_items spots index all (record { word = word; rows = rows; fault = None }) items)
    ≡ Ok (fields_joined word (widths_of rows) (row_values spots index rows items))
unfolding read_items closed_word fields_joined row_values items_mistakes
joined_values spots index all [] word [] none = refl
joined_values spots index all [] word (item ∷ items) none = absurd (no_row spots index all item (none_both (item_mistakes spots index all [] item) _ none).0)
joined_values spots index all (row ∷ rows) word [] none = ap (λ values. Ok (fields_joined (word * 2 ^ row.width + row.fallback) (widths_of rows) values)) (sym (values_none spots index rows))
joined_values spots index all (row ∷ rows) word (item ∷ items) none =
    let name : List ℕ = before 61 item in
    let read : Result ℕ Mistake = read_value spots index name (behind 61 item) row in
    let parts = none_both (item_mistakes spots index all (row ∷ rows) item) (items_mistakes spots index all (rows_after item (row ∷ rows)) items) none in
    let facts = clean spots index all (row ∷ rows) item parts.0 in
    elim (cases_Bool (is_row name row)) [
      | inl here ↦
          let good = good_value row.fallback read (sym (mistakes_here name (read_value spots index name (behind 61 item)) row rows here) ∙ facts.2) in
          let left = subst (λ r. items_mistakes spots index all r items ≡ []) (rows_here item row rows facts.0 here) parts.1 in
          let value : ℕ = value_or row.fallback read in
          ap (λ p. closed_word (read_items spots index all p items)) (item_here spots index all rows row word value item facts.0 here good)
          ∙ (joined_values spots index all rows (word * 2 ^ row.width + value) items left
          ∙ ap (λ values. Ok (fields_joined word (widths_of (row ∷ rows)) values)) (sym (values_here spots index rows row item items here)))
      | inr other ↦
          let there = sym (has_later name row rows other) ∙ facts.1 in
          let left = sym (mistakes_later spots index all rows row item items facts.0 other there) ∙ none in
          ap (λ p. closed_word (read_items spots index all p items)) (item_later spots index all rows row word item facts.0 other there)
          ∙ (joined_values spots index all rows (word * 2 ^ row.width + row.fallback) (item ∷ items) left
          ∙ ap (λ values. Ok (fields_joined word (widths_of (row ∷ rows)) values)) (sym (values_later spots index rows row item items other)))
    ]

-- a line's least mistake
later_mistake : (line : ℕ) (m n : Mistake) → is_up_to (fault_on line n) (fault_on line m) ≡ nat_le (mistake_number n) (mistake_number m)
later_mistake line m n =
    let same : line == line ≡ true = eq-eqb line line refl in
    let none : nat_lt line line ≡ false = grind (arith, nat_tests) in
    rw (none, same) refl

-- with the same test on both sides
chosen : {A B C : Type 0} (here there : Bool) (f : A → C) (g : B → C) (a b : A) (x y : B) → here ≡ there → f a ≡ g x → f b ≡ g y
    → f (if here then a else b) ≡ g (if there then x else y)
chosen true true f g a b x y same one other = one
chosen true false f g a b x y same one other = cc
chosen false true f g a b x y same one other = cc
chosen false false f g a b x y same one other = other

least_line : (line word : ℕ) (words : List ℕ) (m : Mistake) (ms : List Mistake)
    → with_word line words (word_or_fault word (least_after (Some m) ms)) ≡ Err (least_fault (fault_on line m) (map (fault_on line) ms))
unfolding least_after least_fault
least_line line word words m [] = refl
least_line line word words m (n ∷ ms) =
    chosen (nat_le (mistake_number n) (mistake_number m)) (is_up_to (fault_on line n) (fault_on line m))
    (λ mistake. with_word line words (word_or_fault word (least_after (Some mistake) ms))) (λ fault. Err (least_fault fault (map (fault_on line) ms)))
    n m (fault_on line n) (fault_on line m) (sym (later_mistake line m n)) (least_line line word words n ms) (least_line line word words m ms)

kind_line : (line word : ℕ) (words : List ℕ) (partial : Partial) (ms : List Mistake) → (ms ≡ [] → closed_word partial ≡ Ok word)
    → partial.fault ≡ least_after None ms → with_word line words (closed_word partial) ≡ words_or_least (words ++ word ∷ []) (map (fault_on line) ms)
unfolding closed_word least_after
kind_line line word words partial [] good at = ap (with_word line words) (good refl)
kind_line line word words partial (m ∷ ms) good at =
    ap (λ fault. with_word line words (word_or_fault (fields_joined partial.word (widths_of partial.rows) (fallbacks_of partial.rows)) fault)) at
    ∙ least_line line (fields_joined partial.word (widths_of partial.rows) (fallbacks_of partial.rows)) words m ms

coded_line : (spots : Spots) (line : ℕ) (words : List ℕ) (items : List (List ℕ)) (kind : Option Kind)
    → with_word line words (option_code spots (length words) items kind)
    ≡ words_or_least (words ++ code_word spots (length words) items kind ∷ []) (map (fault_on line) (kind_mistakes spots (length words) items kind))
unfolding kind_code kind_word least_fault
coded_line spots line words items None = refl
coded_line spots line words items (Some kind) =
    let start : Partial = record { word = kind.above; rows = kind.rows; fault = None } in
    kind_line line (kind_word spots (length words) items kind) words (read_items spots (length words) kind.rows start items) _
    (joined_values spots (length words) kind.rows kind.rows kind.above items) (items_at spots (length words) kind.rows start items)

line_at : (spots : Spots) (line : ℕ) (words : List ℕ) (first : Line)
    → line_words spots line words first ≡ words_or_least (words ++ words_on spots (length words) first) (map (fault_on line) (line_mistakes spots line (length words) first))
unfolding line_words words_on line_mistakes code_of least_fault
line_at spots line words Blank = ap Ok (sym (append-nil words))
line_at spots line words (Label name) = elim (cases_Bool (is_before line (spots name))) [
  | inl here ↦ rw here refl
  | inr other ↦ rw other (ap Ok (sym (append-nil words)))
]
line_at spots line words BadLabel = refl
line_at spots line words (Coded opcode items) = coded_line spots line words items (kind_named opcode)

-- faults on later lines
AreAfter : ℕ → List AsmFault → Type 0
AreAfter line [] = Unit {0}
AreAfter line (fault ∷ faults) = (line < fault.line) × AreAfter line faults

after_front : (line bound : ℕ) (ms : List Mistake) (faults : List AsmFault) → bound < line → AreAfter bound faults → AreAfter bound (map (fault_on line) ms ++ faults)
unfolding AreAfter
after_front line bound [] faults below after = after
after_front line bound (m ∷ ms) faults below after = (below, after_front line bound ms faults below after)

lines_after : (spots : Spots) (bound line index : ℕ) (lines : List Line) → bound < line → AreAfter bound (lines_faults spots line index lines)
unfolding AreAfter lines_faults
lines_after spots bound line index [] below = tt
lines_after spots bound line index (first ∷ lines) below =
    after_front line bound (line_mistakes spots line index first) (lines_faults spots (line + 1) (index + size_of first) lines) below
    (lines_after spots bound (line + 1) (index + size_of first) lines (omega arith))

not_up : (one other : AsmFault) → other.line < one.line → is_up_to one other ≡ false
not_up one other below =
    let late : nat_lt one.line other.line ≡ false = grind (arith, nat_tests) in
    let apart : one.line == other.line ≡ false = grind (arith, nat_tests) in
    rw (late, apart) refl

least_before : (line : ℕ) (fault : AsmFault) (faults : List AsmFault) → fault.line ≡ line → AreAfter line faults → least_fault fault faults ≡ fault
unfolding AreAfter least_fault
least_before line fault [] on after = refl
least_before line fault (other ∷ others) on after =
    rw (not_up other fault (omega (arith, after.0))) (least_before line fault others on after.1)

least_front : (line : ℕ) (fault : AsmFault) (ms : List Mistake) (faults : List AsmFault) → fault.line ≡ line → AreAfter line faults
    → least_fault fault (map (fault_on line) ms) ≡ least_fault fault (map (fault_on line) ms ++ faults)
unfolding least_fault
least_front line fault [] faults on after = sym (least_before line fault faults on after)
least_front line fault (m ∷ ms) faults on after =
    chosen (is_up_to (fault_on line m) fault) (is_up_to (fault_on line m) fault)
    (λ f. least_fault f (map (fault_on line) ms)) (λ f. least_fault f (map (fault_on line) ms ++ faults))
    (fault_on line m) fault (fault_on line m) fault refl (least_front line (fault_on line m) ms faults refl after) (least_front line fault ms faults on after)

-- all lines
sized : (spots : Spots) (words : List ℕ) (first : Line) → length (words ++ words_on spots (length words) first) ≡ length words + size_of first
unfolding words_on
sized spots words Blank = length-append words []
sized spots words (Label name) = length-append words []
sized spots words BadLabel = length-append words []
sized spots words (Coded opcode items) = length-append words (code_word spots (length words) items (kind_named opcode) ∷ [])

front : (line : ℕ) (ms : List Mistake) (more all : List ℕ) (faults : List AsmFault) (later : List ℕ → Result (List ℕ) AsmFault)
    → later more ≡ words_or_least all faults → AreAfter line faults
    → if_words (words_or_least more (map (fault_on line) ms)) later ≡ words_or_least all (map (fault_on line) ms ++ faults)
front line [] more all faults later is after = is
front line (m ∷ ms) more all faults later is after = ap Err (least_front line (fault_on line m) ms faults refl after)

lines_at : (spots : Spots) (line : ℕ) (words : List ℕ) (lines : List Line)
    → lines_words spots line lines words ≡ words_or_least (words ++ words_from spots (length words) lines) (lines_faults spots line (length words) lines)
unfolding lines_words words_from lines_faults
lines_at spots line words [] = ap Ok (sym (append-nil words))
lines_at spots line words (first ∷ lines) =
    let more : List ℕ = words ++ words_on spots (length words) first in
    let index : ℕ = length words + size_of first in
    let rest : lines_words spots (line + 1) lines more ≡ words_or_least (words ++ (words_on spots (length words) first ++ words_from spots index lines)) (lines_faults spots (line + 1) index lines) =
    lines_at spots (line + 1) more lines
    ∙ (ap (λ n. words_or_least (more ++ words_from spots n lines) (lines_faults spots (line + 1) n lines)) (sized spots words first)
    ∙ ap (λ all. words_or_least all (lines_faults spots (line + 1) index lines)) (append_assoc words (words_on spots (length words) first) (words_from spots index lines))) in
    ap (λ w. if_words w (λ new. lines_words spots (line + 1) lines new)) (line_at spots line words first)
    ∙ front line (line_mistakes spots line (length words) first) more _ _ (λ new. lines_words spots (line + 1) lines new) rest
    (lines_after spots line (line + 1) index lines (omega arith))

pub text_assembles : (text : List ℕ) → lines_words (spots_of text) 1 (read_lines text) [] ≡ Assembled text
unfolding Assembled text_words text_faults
text_assembles text = lines_at (spots_of text) 1 [] (read_lines text)

-- The fault that a text assembles to is the least of all.
least_up : (fault other : AsmFault) → (IsUpTo (if is_up_to other fault then other else fault) fault) × (IsUpTo (if is_up_to other fault then other else fault) other)
least_up fault other = elim (cases_Bool (is_up_to other fault)) [
  | inl here ↦ rw here (grind (arith, nat_tests, here), grind arith)
  | inr later ↦ rw later (grind arith, grind (arith, nat_tests, later))
]

up_on : (a b c : AsmFault) → IsUpTo a b → IsUpTo b c → IsUpTo a c
up_on a b c one two = grind arith

below_first : (fault : AsmFault) (faults : List AsmFault) → IsUpTo (least_fault fault faults) fault
unfolding least_fault
below_first fault [] = grind arith
below_first fault (other ∷ others) =
    let less : AsmFault = if is_up_to other fault then other else fault in
    up_on (least_fault less others) less fault (below_first less others) (least_up fault other).0

below_all : (fault : AsmFault) (faults : List AsmFault) (one : AsmFault) → IsBroken (all_broken (fault ∷ faults)) one → IsUpTo (least_fault fault faults) one
unfolding least_fault
below_all fault faults one (inl here) = subst (λ f. IsUpTo (least_fault fault faults) f) here.1 (below_first fault faults)
below_all fault [] one (inr none) = absurd none
below_all fault (other ∷ others) one (inr (inl here)) =
    let less : AsmFault = if is_up_to other fault then other else fault in
    subst (λ f. IsUpTo (least_fault less others) f) here.1 (up_on (least_fault less others) less other (below_first less others) (least_up fault other).1)
below_all fault (other ∷ others) one (inr (inr later)) =
    let less : AsmFault = if is_up_to other fault then other else fault in
    below_all less others one (inr later)

least_broken : (fault : AsmFault) (faults : List AsmFault) → IsBroken (all_broken (fault ∷ faults)) (least_fault fault faults)
unfolding least_fault
least_broken fault [] = inl (refl, refl)
least_broken fault (other ∷ others) = elim (cases_Bool (is_up_to other fault)) [
  | inl here ↦ rw here (inr (least_broken other others))
  | inr later ↦ rw later (elim (least_broken fault others) [ inl first ↦ inl first | inr rest ↦ inr (inr rest) ])
]

least_of_all : (words : List ℕ) (faults : List AsmFault) (fault : AsmFault) → words_or_least words faults ≡ Err fault → IsLeast IsUpTo (all_broken faults) fault
least_of_all words [] fault is = cc
least_of_all words (first ∷ faults) fault is =
    let e : least_fault first faults ≡ fault = cc in
    subst (IsLeast IsUpTo (all_broken (first ∷ faults))) e (record { broken = least_broken first faults; least = below_all first faults })

faultless : (words all : List ℕ) (faults : List AsmFault) → words_or_least all faults ≡ Ok words → faults ≡ []
faultless words all [] is = refl
faultless words all (fault ∷ faults) is = cc

pub answers_words : (text words : List ℕ) → Assembled text ≡ Ok words → text_faults text ≡ []
unfolding Assembled
answers_words text words is = faultless words (text_words text) (text_faults text) is

pub answers_least : {X : Type 0} (text : List ℕ) (result : Result X (Stop AsmFault)) → IfErr result (IsFaultOf (Assembled text)) → ((made : X) → result ≡ Ok made → text_faults text ≡ [])
    → AnswersLeast (text_faults text) result
unfolding Assembled
answers_least text (Ok made) report good = good made refl
answers_least text (Err (Fault fault)) report good = least_of_all (text_words text) (text_faults text) fault report
answers_least text (Err NoMemory) report good = tt
