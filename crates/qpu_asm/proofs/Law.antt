-- Assembling what was printed gives the same words.
use Rattle.std.proofs.Common.{◌≡◌, ℕ, suc, inl, inr, ◌+◌, ◌*◌, ◌/◌, ◌%◌, ◌^◌, ◌≤◌, ◌<◌, Bool, true, false, not, ◌==◌, ◌&&◌, nat_le, List, [], ◌∷◌, ◌++◌, length, map, get_or, refl, sym, ◌∙◌, ap, subst, arith, eqb-true, leb-true, lt-ltb, drop, filter, mod-lt, pow_pos, decimal, Option, None, Some, Ok, IfSome, bytes_eq, if◌then◌else◌, All, append_assoc, append-nil, length-append}
use Rattle.std.proofs.lemmas.Bool.{and_parts, and_from, not-true, false≢true, cases_Bool, eqb-false}
use Rattle.std.proofs.{lemmas.List.Sums.AllPass-from_list_all}
use Rattle.std.proofs.{lemmas.List.Splits.slice_split_at, lemmas.List.Splits.slice_split_none, Math.Nat.div-eq_of_lt}
use Rattle.std.specs.{List.list_all, List.slice_split}
use Rattle.script.specs.{Lines.lines_of, Number.is_number}
use Rattle.qpu_isa.specs.{Word.sig_of, Fields.fields_joined, Fields.width_of, Fields.values_of}
use Rattle.qpu_isa.proofs.{Fields.joined-values_of, Words.above-sig}
use Rattle.qpu_asm.specs.Table.{Named, Row, Kind, widths_of, nop_kind, alu_kind, load_imm_kind, branch_kind, alu_rows}
use Rattle.qpu_asm.specs.Items.{has_value, Spots, find_named, or_number, read_number, read_plain, read_value, is_row, has_row, kind_named}
use Rattle.qpu_asm.specs.Walk.{Partial, lacks, skip_to, read_named, read_item, read_items, closed_word, kind_code, code_of, option_code, lines_words, line_words, with_word, if_words}
use Rattle.qpu_asm.specs.Printed.{name_of, or_decimal, value_text, item_text, item_texts, kind_of, spaced_words, kind_text, word_text, line_text, AsmText, PrintedReturns}
use Rattle.qpu_asm.specs.Lines.{Coded, is_full, words_of, read_line, line_of, is_comment, ends_label}
use Rattle.qpu_asm.specs.Labels.{read_lines, spots_of}
use Rattle.qpu_asm.proofs.{Bytes.bytes_itself, Bytes.bytes_same, Words.kept_full, Rows.kind_cases, Bytes.cut_name, Bytes.lacks_append, Bytes.digits_lack, Assembling.words_end}
use Rattle.qpu_asm.proofs.{Faults.text_assembles, Decimals.decimal_digits, Decimals.decimal_value, Decimals.decimal_number}

-- a word: no space, no line feed
is_word : List ℕ → Bool
is_word bytes = lacks 32 bytes && lacks 10 bytes

option_is : Option ℕ → ℕ → Bool
option_is None value = false
option_is (Some other) value = other == value

-- each name of a value is a word and no number, and is read as the value
is_named : List Named → Named → Bool
is_named all named = is_word named.name && (not (is_number named.name) && option_is (find_named all named.name) named.value)

-- what is printed of a row is read back
is_read : Row → Bool
is_read row = (is_word row.name && lacks 61 row.name) && (nat_le row.below (2 ^ 32) && list_all (is_named row.named) row.named)

-- no row takes a later row's name, which a later one has
are_apart : List Row → Bool
are_apart [] = true
are_apart (row ∷ rows) = list_all (λ later. not (is_row later.name row) && has_row later.name rows) rows && are_apart rows

AreBelow : List Row → List ℕ → Type 0
AreBelow [] [] = Unit {0}
AreBelow [] (value ∷ values) = ⊥
AreBelow (row ∷ rows) [] = ⊥
AreBelow (row ∷ rows) (value ∷ values) = (value < row.below) × AreBelow rows values

word_append : (xs ys : List ℕ) → is_word xs ≡ true → is_word ys ≡ true → is_word (xs ++ ys) ≡ true
unfolding is_word
word_append xs ys a b =
    let x = and_parts (lacks 32 xs) (lacks 10 xs) a in
    let y = and_parts (lacks 32 ys) (lacks 10 ys) b in
    and_from (lacks 32 (xs ++ ys)) (lacks 10 (xs ++ ys)) (lacks_append 32 xs ys x.0 y.0) (lacks_append 10 xs ys x.1 y.1)

-- a value that is read back as written
abbrev IsRead : List Named → ℕ → List ℕ → Type 0
IsRead all value name = (find_named all name ≡ Some value) × (is_word name ≡ true)

option_is_some : (found : Option ℕ) (value : ℕ) → option_is found value ≡ true → found ≡ Some value
unfolding option_is
option_is_some None value is = absurd (false≢true is)
option_is_some (Some other) value is = ap Some (eqb-true other value is)

name_by : (all : List Named) (one : Named) (value : ℕ) (later : Option (List ℕ)) (same : Bool) → (one.value == value) ≡ same → is_named all one ≡ true
    → IfSome later (IsRead all value) → IfSome (if same then Some one.name else later) (IsRead all value)
unfolding is_named
name_by all one value later true at test rest =
    let parts = and_parts (is_word one.name) (not (is_number one.name) && option_is (find_named all one.name) one.value) test in
    let found = and_parts (not (is_number one.name)) (option_is (find_named all one.name) one.value) parts.1 in
    (option_is_some (find_named all one.name) one.value found.1 ∙ ap Some (eqb-true one.value value at), parts.0)
name_by all one value later false at test rest = rest

name_back : (all named : List Named) (value : ℕ) → list_all (is_named all) named ≡ true → IfSome (name_of named value) (IsRead all value)
unfolding name_of
name_back all [] value test = tt
name_back all (one ∷ others) value test =
    let parts = and_parts (is_named all one) (list_all (is_named all) others) test in
    name_by all one value (name_of others value) (one.value == value) refl parts.0 (name_back all others value parts.1)

-- a number is no name
no_name : (all named : List Named) (text : List ℕ) → list_all (is_named all) named ≡ true → is_number text ≡ true → find_named named text ≡ None
unfolding find_named is_named
no_name all [] text test number = refl
no_name all (one ∷ others) text test number =
    let parts = and_parts (is_named all one) (list_all (is_named all) others) test in
    let names = and_parts (is_word one.name) (not (is_number one.name) && option_is (find_named all one.name) one.value) parts.0 in
    let other = not-true (is_number one.name) (and_parts (not (is_number one.name)) (option_is (find_named all one.name) one.value) names.1).0 in
    elim (cases_Bool (bytes_eq one.name text)) [
      | inl same ↦ absurd (false≢true (sym other ∙ (ap is_number (bytes_same one.name text same) ∙ number)))
      | inr apart ↦ rw apart (no_name all others text parts.1 number)
    ]

read_back_number : (below n : ℕ) → n < 2 ^ 64 → n < below → read_number below (decimal n) ≡ Ok n
unfolding read_number
read_back_number below n small under =
    rw (decimal_number n small, decimal_value n small, lt-ltb n below under) refl

record ReadFacts (row : Row) : Type 0 where
  word : is_word row.name ≡ true
  equals : lacks 61 row.name ≡ true
  below : row.below ≤ 2 ^ 32
  named : list_all (is_named row.named) row.named ≡ true

read_facts : (row : Row) → is_read row ≡ true → ReadFacts row
unfolding is_read
read_facts row test =
    let parts = and_parts (is_word row.name && lacks 61 row.name) (nat_le row.below (2 ^ 32) && list_all (is_named row.named) row.named) test in
    let names = and_parts (is_word row.name) (lacks 61 row.name) parts.0 in
    let values = and_parts (nat_le row.below (2 ^ 32)) (list_all (is_named row.named) row.named) parts.1 in
    record { word = names.0; equals = names.1; below = leb-true row.below (2 ^ 32) values.0; named = values.1 }

text_back : (row : Row) (value : ℕ) → ReadFacts row → value < row.below → (name : Option (List ℕ)) → IfSome name (IsRead row.named value)
    → (or_number row.below (or_decimal value name) (find_named row.named (or_decimal value name)) ≡ Ok value) × (is_word (or_decimal value name) ≡ true)
unfolding is_word
text_back row value facts under None back =
    let small : value < 2 ^ 64 = omega (arith, facts.below) in
    let all = decimal_digits value small in (
      ap (or_number row.below (decimal value)) (no_name row.named row.named (decimal value) facts.named (decimal_number value small)) ∙ read_back_number row.below value small under,
      and_from (lacks 32 (decimal value)) (lacks 10 (decimal value)) (digits_lack 32 (decimal value) (omega arith) all) (digits_lack 10 (decimal value) (omega arith) all),
    )
text_back row value facts under (Some name) back = (ap (or_number row.below name) back.0, back.1)

value_back : (row : Row) (value : ℕ) → ReadFacts row → value < row.below → (read_plain row (value_text row value) ≡ Ok value) × (is_word (value_text row value) ≡ true)
unfolding read_plain value_text
value_back row value facts under = text_back row value facts under (name_of row.named value) (name_back row.named row.named value facts.named)

-- an item is cut at its `=`
item_cut : (spots : Spots) (index : ℕ) (all : List Row) (partial : Partial) (row : Row) (value : ℕ) → ReadFacts row
    → read_item spots index all partial (item_text row value) ≡ read_named spots index all partial row.name (value_text row value)
unfolding read_item item_text has_value
item_cut spots index all partial row value facts =
    let cut = cut_name 61 row.name (value_text row value) facts.equals in
    let longer : length row.name < length (row.name ++ 61 ∷ value_text row value) = omega (arith, length-append row.name (61 ∷ value_text row value)) in
    rw (cut.0, cut.1, lt-ltb _ _ longer) refl

row_itself : (row : Row) → is_row row.name row ≡ true
unfolding is_row
row_itself row = rw (bytes_itself row.name) refl

-- a row's own item
item_read : (spots : Spots) (index : ℕ) (all rows : List Row) (row : Row) (word value : ℕ) → ReadFacts row → value < row.below
    → read_item spots index all (record { word = word; rows = row ∷ rows; fault = None }) (item_text row value)
    ≡ record { word = word * 2 ^ row.width + value; rows = rows; fault = None }
unfolding read_named has_row skip_to read_value
item_read spots index all rows row word value facts under =
    item_cut spots index all _ row value facts ∙ rw (row_itself row, bytes_itself row.name, (value_back row value facts under).0) refl

-- an item of a later row
item_passes : (spots : Spots) (index : ℕ) (all rows : List Row) (row later : Row) (word value : ℕ) → ReadFacts later
    → is_row later.name row ≡ false → has_row later.name rows ≡ true
    → read_item spots index all (record { word = word; rows = row ∷ rows; fault = None }) (item_text later value)
    ≡ read_item spots index all (record { word = word * 2 ^ row.width + row.fallback; rows = rows; fault = None }) (item_text later value)
unfolding read_named has_row skip_to
item_passes spots index all rows row later word value facts other there =
    item_cut spots index all _ later value facts ∙ (rw (other, there) refl ∙ sym (item_cut spots index all _ later value facts))

-- a row that no item names has its default
default_read : (spots : Spots) (index : ℕ) (all rows later : List Row) (row : Row) (word : ℕ) (values : List ℕ) → list_all is_read later ≡ true
    → list_all (λ r. not (is_row r.name row) && has_row r.name rows) later ≡ true
    → closed_word (read_items spots index all (record { word = word; rows = row ∷ rows; fault = None }) (item_texts later values))
    ≡ closed_word (read_items spots index all (record { word = word * 2 ^ row.width + row.fallback; rows = rows; fault = None }) (item_texts later values))
unfolding read_items item_texts closed_word fields_joined
default_read spots index all rows [] row word values test away = refl
default_read spots index all rows (r ∷ later) row word [] test away = refl
default_read spots index all rows (r ∷ later) row word (value ∷ values) test away =
    let parts = and_parts (is_read r) (list_all is_read later) test in
    let names = and_parts (not (is_row r.name row) && has_row r.name rows) (list_all (λ q. not (is_row q.name row) && has_row q.name rows) later) away in
    let here = and_parts (not (is_row r.name row)) (has_row r.name rows) names.0 in
    elim (cases_Bool (value == r.fallback)) [
      | inl same ↦ rw same (default_read spots index all rows later row word values parts.1 names.1)
      | inr other ↦ rw other (ap (λ p. closed_word (read_items spots index all p (item_texts later values)))
          (item_passes spots index all rows row r word value (read_facts r parts.0) (not-true (is_row r.name row) here.0) here.1))
    ]

reads : (spots : Spots) (index : ℕ) (all rows : List Row) (word : ℕ) (values : List ℕ) → list_all is_read rows ≡ true → AreBelow rows values → are_apart rows ≡ true
    → closed_word (read_items spots index all (record { word = word; rows = rows; fault = None }) (item_texts rows values)) ≡ Ok (fields_joined word (widths_of rows) values)
unfolding read_items item_texts closed_word fields_joined are_apart AreBelow
reads spots index all [] word [] test under away = refl
reads spots index all [] word (value ∷ values) test under away = absurd under
reads spots index all (row ∷ rows) word [] test under away = absurd under
reads spots index all (row ∷ rows) word (value ∷ values) test under away =
    let parts = and_parts (is_read row) (list_all is_read rows) test in
    let names = and_parts (list_all (λ later. not (is_row later.name row) && has_row later.name rows) rows) (are_apart rows) away in
    elim (cases_Bool (value == row.fallback)) [
      | inl same ↦ rw same (default_read spots index all rows rows row word values parts.1 names.0
          ∙ (reads spots index all rows (word * 2 ^ row.width + row.fallback) values parts.1 under.1 names.1
          ∙ ap (λ v. Ok (fields_joined (word * 2 ^ row.width + v) (widths_of rows) values)) (sym (eqb-true value row.fallback same))))
      | inr other ↦ rw other (ap (λ p. closed_word (read_items spots index all p (item_texts rows values))) (item_read spots index all rows row word value (read_facts row parts.0) under.0)
          ∙ reads spots index all rows (word * 2 ^ row.width + value) values parts.1 under.1 names.1)
    ]

-- words and lines of printed text
parted : (at : ℕ) (bytes : List ℕ) → lacks at bytes ≡ true → All (λ b. (b == at) ≡ false) bytes
unfolding lacks
parted at bytes test k d inside = not-true (get_or bytes k d == at) (AllPass-from_list_all (λ b. not (b == at)) bytes test k d inside)

AreWords : List (List ℕ) → Type 0
AreWords [] = Unit {0}
AreWords (word ∷ words) = (is_word word ≡ true) × (is_full word ≡ true) × AreWords words

words_spaced : (word : List ℕ) (items : List (List ℕ)) → is_word word ≡ true → is_full word ≡ true → AreWords items → words_of (word ++ spaced_words items) ≡ word ∷ items
unfolding words_of spaced_words AreWords is_word
words_spaced word [] plain full rest =
    let lone = parted 32 word (and_parts (lacks 32 word) (lacks 10 word) plain).0 in
    rw (append-nil word, slice_split_none (λ b. b == 32) word lone) (kept_full word [] full)
words_spaced word (item ∷ items) plain full rest =
    let lone = parted 32 word (and_parts (lacks 32 word) (lacks 10 word) plain).0 in
    ap (filter is_full) (slice_split_at (λ b. b == 32) word 32 (item ++ spaced_words items) lone refl)
    ∙ (kept_full word (slice_split (λ b. b == 32) (item ++ spaced_words items)) full
    ∙ ap (λ words. word ∷ words) (words_spaced item items rest.0 rest.1 rest.2))

line_first_of : (line text : List ℕ) → lacks 10 line ≡ true → lines_of (line ++ 10 ∷ text) ≡ line ∷ lines_of text
unfolding lines_of lacks
line_first_of [] text test = refl
line_first_of (byte ∷ bytes) text test =
    let parts = and_parts (not (byte == 10)) (lacks 10 bytes) test in
    rw (not-true (byte == 10) parts.0, line_first_of bytes text parts.1) refl

full_append : (xs ys : List ℕ) (y : ℕ) → is_full (xs ++ y ∷ ys) ≡ true
unfolding is_full
full_append [] ys y = refl
full_append (x ∷ xs) ys y = refl

items_words : (rows : List Row) (values : List ℕ) → list_all is_read rows ≡ true → AreBelow rows values → AreWords (item_texts rows values)
unfolding item_texts AreBelow AreWords item_text is_word lacks
items_words [] values test under = tt
items_words (row ∷ rows) [] test under = absurd under
items_words (row ∷ rows) (value ∷ values) test under =
    let parts = and_parts (is_read row) (list_all is_read rows) test in
    let facts = read_facts row parts.0 in
    let later = items_words rows values parts.1 under.1 in
    elim (cases_Bool (value == row.fallback)) [
      | inl same ↦ rw same later
      | inr other ↦ rw other (word_append row.name (61 ∷ value_text row value) facts.word (value_back row value facts under.0).1, full_append row.name (value_text row value) 61, later)
    ]

spaced_lineless : (items : List (List ℕ)) → AreWords items → lacks 10 (spaced_words items) ≡ true
unfolding spaced_words AreWords lacks is_word
spaced_lineless [] rest = refl
spaced_lineless (item ∷ items) rest = lacks_append 10 item (spaced_words items) (and_parts (lacks 32 item) (lacks 10 item) rest.0).1 (spaced_lineless items rest.2)

-- the fields of a word are below what the rows say
below_widths : (rows : List Row) (word : ℕ) → list_all (λ row. row.below == 2 ^ row.width) rows ≡ true → AreBelow rows (values_of (widths_of rows) word)
unfolding AreBelow values_of
below_widths [] word test = tt
below_widths (row ∷ rows) word test =
    let parts = and_parts (row.below == 2 ^ row.width) (list_all (λ r. r.below == 2 ^ r.width) rows) test in
    let e : row.below ≡ 2 ^ row.width = eqb-true row.below (2 ^ row.width) parts.0 in (
      subst (λ n. word / 2 ^ width_of (widths_of rows) % 2 ^ row.width < n) (sym e) (mod-lt (word / 2 ^ width_of (widths_of rows)) (pow_pos row.width)),
      below_widths rows word parts.1,
    )

-- a kind's table: its opcode is a word, and its items are read back
record IsReadable (kind : Kind) : Type 0 where
  read : list_all is_read kind.rows ≡ true
  away : are_apart kind.rows ≡ true
  opcode : is_word kind.opcode ≡ true
  full : is_full kind.opcode ≡ true
  comment : is_comment kind.opcode ≡ false
  label : ends_label kind.opcode ≡ false
  known : kind_named kind.opcode ≡ Some kind

readable : (word : ℕ) → IsReadable (kind_of word)
unfolding kind_of is_read is_named are_apart is_word lacks option_is find_named is_number is_row has_row is_full is_comment ends_label kind_named
readable word = kind_cases IsReadable _ _ _
    (record { read = refl; away = refl; opcode = refl; full = refl; comment = refl; label = refl; known = refl })
    (record { read = refl; away = refl; opcode = refl; full = refl; comment = refl; label = refl; known = refl })
    (record { read = refl; away = refl; opcode = refl; full = refl; comment = refl; label = refl; known = refl })
    (record { read = refl; away = refl; opcode = refl; full = refl; comment = refl; label = refl; known = refl })

alu_signal : (word : ℕ) → (sig_of word == 14) ≡ false → (sig_of word == 15) ≡ false → word / 2 ^ 60 % 2 ^ 4 < 14
unfolding sig_of
alu_signal word load branch = omega (arith, eqb-false _ _ load, eqb-false _ _ branch)

-- a word's fields are below their limits
IsBelow : ℕ → Kind → Type 0
IsBelow word kind = AreBelow kind.rows (values_of (widths_of kind.rows) word)

below_by : (word : ℕ) (nop load branch : Bool) → (sig_of word == 14) ≡ load → (sig_of word == 15) ≡ branch
    → IsBelow word (if nop then nop_kind else (if load then load_imm_kind else (if branch then branch_kind else alu_kind)))
unfolding IsBelow AreBelow values_of width_of
below_by word true load branch b c = tt
below_by word false true branch b c = below_widths load_imm_kind.rows word refl
below_by word false false true b c = below_widths branch_kind.rows word refl
below_by word false false false b c = (alu_signal word b c, below_widths (drop 1 alu_rows) word refl)

word_below : (word : ℕ) → IsBelow word (kind_of word)
unfolding kind_of
word_below word = below_by word (word == nop_kind.above) (sig_of word == 14) (sig_of word == 15) refl refl

-- and joined they give the word
IsJoined : ℕ → Kind → Type 0
IsJoined word kind = fields_joined kind.above (widths_of kind.rows) (values_of (widths_of kind.rows) word) ≡ word

joined_below : (word : ℕ) (kind : Kind) → word / 2 ^ width_of (widths_of kind.rows) ≡ kind.above → IsJoined word kind
unfolding IsJoined
joined_below word kind top = rw (← top) (joined-values_of (widths_of kind.rows) word)

joined_by : (word : ℕ) → word < 2 ^ 64 → (nop load branch : Bool) → (word == nop_kind.above) ≡ nop → (sig_of word == 14) ≡ load → (sig_of word == 15) ≡ branch
    → IsJoined word (if nop then nop_kind else (if load then load_imm_kind else (if branch then branch_kind else alu_kind)))
unfolding IsJoined fields_joined values_of width_of
joined_by word small true load branch a b c = sym (eqb-true word nop_kind.above a)
joined_by word small false true branch a b c = joined_below word load_imm_kind (above-sig word small ∙ eqb-true (sig_of word) 14 b)
joined_by word small false false true a b c = joined_below word branch_kind (above-sig word small ∙ eqb-true (sig_of word) 15 c)
joined_by word small false false false a b c = joined_below word alu_kind (div-eq_of_lt small)

word_joined : (word : ℕ) → word < 2 ^ 64 → IsJoined word (kind_of word)
unfolding kind_of
word_joined word small = joined_by word small (word == nop_kind.above) (sig_of word == 14) (sig_of word == 15) refl refl refl

items_of : ℕ → Kind → List (List ℕ)
items_of word kind = item_texts kind.rows (values_of (widths_of kind.rows) word)

-- a printed line is read as its instruction
line_read : (word : ℕ) (kind : Kind) → IsReadable kind → IsBelow word kind → read_line (kind_text word kind) ≡ Coded kind.opcode (items_of word kind)
unfolding read_line line_of kind_text items_of IsBelow
line_read word kind r f =
    rw (words_spaced kind.opcode (items_of word kind) r.opcode r.full (items_words kind.rows (values_of (widths_of kind.rows) word) r.read f), r.comment, r.label) refl

code_read : (spots : Spots) (index word : ℕ) (kind : Kind) → IsReadable kind → IsBelow word kind → IsJoined word kind
    → code_of spots index kind.opcode (items_of word kind) ≡ Ok word
unfolding code_of kind_code items_of IsBelow IsJoined
code_read spots index word kind r f j =
    ap (option_code spots index (items_of word kind)) r.known
    ∙ (reads spots index kind.rows kind.rows kind.above (values_of (widths_of kind.rows) word) r.read f r.away ∙ ap Ok j)

-- the text of a word is on one line
kind_lacks : (word : ℕ) (kind : Kind) → IsReadable kind → IsBelow word kind → lacks 10 (kind_text word kind) ≡ true
unfolding kind_text items_of is_word IsBelow
kind_lacks word kind r f =
    lacks_append 10 kind.opcode (spaced_words (items_of word kind)) (and_parts (lacks 32 kind.opcode) (lacks 10 kind.opcode) r.opcode).1
    (spaced_lineless (items_of word kind) (items_words kind.rows (values_of (widths_of kind.rows) word) r.read f))

lines_step : (word : ℕ) (text : List ℕ) → read_lines (line_text word ++ text) ≡ Coded (kind_of word).opcode (items_of word (kind_of word)) ∷ read_lines text
unfolding read_lines line_text word_text
lines_step word text =
    let kind : Kind = kind_of word in
    let r : IsReadable kind = readable word in
    let f : IsBelow word kind = word_below word in
    let line : List ℕ = kind_text word kind in
    ap (λ t. map read_line (lines_of t)) (append_assoc line (10 ∷ []) text)
    ∙ (ap (map read_line) (line_first_of line text (kind_lacks word kind r f)) ∙ ap (λ l. l ∷ map read_line (lines_of text)) (line_read word kind r f))

all_words : (spots : Spots) (words : List ℕ) (line : ℕ) (before : List ℕ) → All (λ word. word < 2 ^ 64) words
    → lines_words spots line (read_lines (AsmText words)) before ≡ Ok (before ++ words)
unfolding AsmText lines_words line_words
all_words spots [] line before small = words_end spots [] line before (omega arith) ∙ ap Ok (sym (append-nil before))
all_words spots (word ∷ words) line before small =
    let here : word < 2 ^ 64 = small 0 0 (omega arith) in
    ap (λ ls. lines_words spots line ls before) (lines_step word (AsmText words))
    ∙ (ap (λ code. if_words (with_word line before code) (λ more. lines_words spots (line + 1) (read_lines (AsmText words)) more))
    (code_read spots (length before) word (kind_of word) (readable word) (word_below word) (word_joined word here))
    ∙ (all_words spots words (line + 1) (before ++ word ∷ []) (λ k d h. small (suc k) d (omega arith)) ∙ ap Ok (append_assoc before (word ∷ []) words)))

pub each_returns : PrintedReturns
each_returns words small = sym (text_assembles (AsmText words)) ∙ all_words (spots_of (AsmText words)) words 1 [] small
