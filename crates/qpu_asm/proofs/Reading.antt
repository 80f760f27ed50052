-- Items one after another.
use Rattle.std.proofs.Common.{◌≡◌, ℕ, ◌+◌, ◌*◌, ◌^◌, ◌≤◌, ◌<◌, Bool, true, false, ◌==◌, ◌&&◌, ◌||◌, not, nat_lt, List, [], ◌∷◌, length, refl, sym, ◌∙◌, ap, subst, arith, Option, None, Some, Result, Ok, Err, IfOk, IfSome, lit≤, if◌then◌else◌, ltb-true, eqb-true, pow-add, pow_pos, mul-le-mul_right, mul_assoc, mul-le-mul_left, bytes_eq}
use Rattle.std.proofs.lemmas.Bool.{and_parts, false≢true}
use Rattle.std.specs.List.{list_all}
use Rattle.qpu_isa.specs.Fields.{fields_joined, width_of}
use Rattle.script.specs.Number.{number_of, is_number}
use Rattle.qpu_asm.specs.Table.{Row, Named, widths_of, fallbacks_of, nop_kind, alu_kind, load_imm_kind, branch_kind}
use Rattle.qpu_asm.specs.Items.{Spots, read_value, read_plain, or_number, read_number, find_named, read_target, distance, distance_to, is_row, kind_named}
use Rattle.qpu_asm.specs.{declared.label.Spot.Spot, declared.fault.Mistake.Mistake, Lines.is_name, Seen.row_seen, Seen.rows_seen}
use Rattle.qpu_asm.specs.declared.fault.Mistake.TheVariants.{BadOperand, OutOfRange}
use Rattle.qpu_asm.specs.Walk.{IsOpen, is_ready, are_ready, skip_to, with_value}
use Rattle.qpu_asm.specs.declared.table.Row as code
use Rattle.qpu_asm.proofs.Rows.{RowFacts, row_facts, ready_parts, none_left}

-- the room for a row's field and those after it
pub room_parts : (word : ℕ) (row : Row) (rows : List Row) → IsOpen word (row ∷ rows) → (word + 1) * 2 ^ row.width * 2 ^ width_of (widths_of rows) ≤ 2 ^ 64
unfolding width_of
room_parts word row rows o =
    subst (λ n. n ≤ 2 ^ 64) (ap (λ n. (word + 1) * n) (pow-add 2 row.width (width_of (widths_of rows))) ∙ sym (mul_assoc (word + 1) (2 ^ row.width) (2 ^ width_of (widths_of rows)))) o.room

pub open_room : (word : ℕ) (row : Row) (rows : List Row) → IsOpen word (row ∷ rows) → (word + 1) * 2 ^ row.width ≤ 2 ^ 64
open_room word row rows o =
    let big : 1 ≤ 2 ^ width_of (widths_of rows) = pow_pos _ in
    omega (arith, room_parts word row rows o, mul-le-mul_left ((word + 1) * 2 ^ row.width) big)

pub open_step : (word : ℕ) (row : Row) (rows : List Row) (value : ℕ) → IsOpen word (row ∷ rows) → value < 2 ^ row.width
    → IsOpen (word * 2 ^ row.width + value) rows
open_step word row rows value o small = record {
  room =
      let more : (word * 2 ^ row.width + value) + 1 ≤ (word + 1) * 2 ^ row.width = omega arith in
      omega (arith, room_parts word row rows o, mul-le-mul_right (2 ^ width_of (widths_of rows)) more);
  ready = (ready_parts row rows o.ready).1;
}

pub open_facts : (word : ℕ) (row : Row) (rows : List Row) → IsOpen word (row ∷ rows) → RowFacts row
open_facts word row rows o = row_facts row (ready_parts row rows o.ready).0

-- every value that is read fits its row
some_if : (P : ℕ → Type 0) (here : Bool) (value : ℕ) (other : Option ℕ) → P value → IfSome other P → IfSome (if here then Some value else other) P
some_if P true value other a b = a
some_if P false value other a b = b

find_small : (limit : ℕ) (named : List Named) (text : List ℕ) → list_all (λ one. nat_lt one.value limit) named ≡ true → IfSome (find_named named text) (λ value. value < limit)
unfolding find_named
find_small limit [] text all = tt
find_small limit (one ∷ others) text all =
    let parts = and_parts (nat_lt one.value limit) (list_all (λ one. nat_lt one.value limit) others) all in
    some_if (λ value. value < limit) (bytes_eq one.name text) one.value (find_named others text) (ltb-true one.value limit parts.0) (find_small limit others text parts.1)

abbrev read_if : Bool → Bool → ℕ → Result ℕ Mistake
read_if number small value = if number then (if small then Ok value else Err OutOfRange) else Err BadOperand

number_small : (number small : Bool) (value below limit : ℕ) → nat_lt value below ≡ small → below ≤ limit → IfOk (read_if number small value) (λ n. n < limit)
number_small true true value below limit at under = omega (arith, ltb-true value below at)
number_small true false value below limit at under = tt
number_small false small value below limit at under = tt

plain_by : (row : Row) (text : List ℕ) → RowFacts row → (found : Option ℕ) → IfSome found (λ value. value < 2 ^ row.width) → IfOk (or_number row.below text found) (λ value. value < 2 ^ row.width)
unfolding read_number
plain_by row text facts None small = number_small (is_number text) (nat_lt (number_of text) row.below) (number_of text) row.below (2 ^ row.width) refl facts.below
plain_by row text facts (Some value) small = small

distance_small : (index : ℕ) (spot : Option Spot) → IfOk (distance_to index spot) (λ value. value < 2 ^ 32)
unfolding distance
distance_small index None = tt
distance_small index (Some spot) = omega arith

target_by : (named : Bool) (index : ℕ) (spot : Option Spot) → IfOk (if named then distance_to index spot else Err BadOperand) (λ value. value < 2 ^ 32)
target_by true index spot = distance_small index spot
target_by false index spot = tt

value_by : (spots : Spots) (index : ℕ) (name text : List ℕ) (row : Row) → RowFacts row → (plain label : Bool) → row.takes_label ≡ label
    → (plain || (label && bytes_eq (116 ∷ 111 ∷ []) name)) ≡ true → IfOk (if plain then read_plain row text else read_target spots index text) (λ value. value < 2 ^ row.width)
unfolding read_plain read_target
value_by spots index name text row facts true label at named = plain_by row text facts (find_named row.named text) (find_small (2 ^ row.width) row.named text facts.named)
value_by spots index name text row facts false true at named =
    let wide : row.width ≡ 32 = eqb-true row.width 32 (sym (ap (λ b. not b || row.width == 32) at) ∙ facts.label) in
    rw wide (target_by (is_name text) index (spots text))
value_by spots index name text row facts false false at named = absurd (false≢true named)

pub value_small : (spots : Spots) (index : ℕ) (name text : List ℕ) (row : Row) → RowFacts row → is_row name row ≡ true
    → IfOk (read_value spots index name text row) (λ value. value < 2 ^ row.width)
unfolding read_value is_row
value_small spots index name text row facts named = value_by spots index name text row facts (bytes_eq row.name name) row.takes_label refl named

-- the code's rows one after another
pub open_first : (word : ℕ) (rest later : List code.Row) (row : code.Row) → rest ≡ row ∷ later → IsOpen word (rows_seen rest)
    → IsOpen word (row_seen row ∷ rows_seen later)
open_first word rest later row is o = subst (λ rows. IsOpen word (rows_seen rows)) is o

pub default_facts : (word : ℕ) (rest later : List code.Row) (row : code.Row) → rest ≡ row ∷ later → IsOpen word (rows_seen rest) → RowFacts (row_seen row)
default_facts word rest later row is o = open_facts word (row_seen row) (rows_seen later) (open_first word rest later row is o)

-- a default is put below the word
pub default_room : (word : ℕ) (rest later : List code.Row) (row : code.Row) → rest ≡ row ∷ later → IsOpen word (rows_seen rest) → (word + 1) * 2 ^ row.width ≤ 2 ^ 64
default_room word rest later row is o = open_room word (row_seen row) (rows_seen later) (open_first word rest later row is o)

pub default_narrow : (word : ℕ) (rest later : List code.Row) (row : code.Row) → rest ≡ row ∷ later → IsOpen word (rows_seen rest) → row.width ≤ 32
default_narrow word rest later row is o = (default_facts word rest later row is o).high

pub default_small : (word : ℕ) (rest later : List code.Row) (row : code.Row) → rest ≡ row ∷ later → IsOpen word (rows_seen rest) → row.fallback < 2 ^ row.width
default_small word rest later row is o = (default_facts word rest later row is o).fallback

pub default_open : (word : ℕ) (rest later : List code.Row) (row : code.Row) → rest ≡ row ∷ later → IsOpen word (rows_seen rest)
    → IsOpen (word * 2 ^ row.width + row.fallback) (rows_seen later)
default_open word rest later row is o =
    open_step word (row_seen row) (rows_seen later) row.fallback (open_first word rest later row is o) (default_small word rest later row is o)

pub defaults_first : (word : ℕ) (rest later : List code.Row) (row : code.Row) → rest ≡ row ∷ later
    → fields_joined (word * 2 ^ row.width + row.fallback) (widths_of (rows_seen later)) (fallbacks_of (rows_seen later))
    ≡ fields_joined word (widths_of (rows_seen rest)) (fallbacks_of (rows_seen rest))
unfolding fields_joined
defaults_first word rest later row is = rw is refl

pub defaults_none : (word : ℕ) (rest : List code.Row) → length rest ≡ 0
    → fields_joined word (widths_of (rows_seen rest)) (fallbacks_of (rows_seen rest)) ≡ word
unfolding fields_joined
defaults_none word rest is = rw (none_left rest is) refl

-- up to the row that is named
pub skip_reaches : (name : List ℕ) (read : Row → Result ℕ Mistake) (fault : Option Mistake) (word : ℕ) (rest later : List code.Row) (row : code.Row)
    → rest ≡ row ∷ later → is_row name (row_seen row) ≡ true
    → with_value (row_seen row) (record { word = word; rows = rows_seen later; fault = fault }) (read (row_seen row)) ≡ skip_to name read fault word (rows_seen rest)
unfolding skip_to
skip_reaches name read fault word rest later row is here = rw (is, here) refl

pub skip_passes : (name : List ℕ) (read : Row → Result ℕ Mistake) (fault : Option Mistake) (word : ℕ) (rest later : List code.Row) (row : code.Row)
    → rest ≡ row ∷ later → is_row name (row_seen row) ≡ false
    → skip_to name read fault (word * 2 ^ row.width + row.fallback) (rows_seen later) ≡ skip_to name read fault word (rows_seen rest)
unfolding skip_to
skip_passes name read fault word rest later row is other = rw (is, other) refl

pub skip_ends : (name : List ℕ) (read : Row → Result ℕ Mistake) (fault : Option Mistake) (word : ℕ) (rest : List code.Row) → length rest ≡ 0
    → record { word = word; rows = rows_seen rest; fault = fault } ≡ skip_to name read fault word (rows_seen rest)
unfolding skip_to
skip_ends name read fault word rest is = rw (none_left rest is) refl

-- the tables' kinds have room in a word
chosen_open : (nop alu load branch : Bool)
    → IfSome (if nop then Some nop_kind else (if alu then Some alu_kind else (if load then Some load_imm_kind else (if branch then Some branch_kind else None))))
    (λ kind. IsOpen kind.above kind.rows)
unfolding are_ready is_ready width_of
chosen_open true alu load branch = record { room = lit≤ tt; ready = refl }
chosen_open false true load branch = record { room = lit≤ tt; ready = refl }
chosen_open false false true branch = record { room = lit≤ tt; ready = refl }
chosen_open false false false true = record { room = lit≤ tt; ready = refl }
chosen_open false false false false = tt

pub kind_open : (word : List ℕ) → IfSome (kind_named word) (λ kind. IsOpen kind.above kind.rows)
unfolding kind_named
kind_open word = chosen_open _ _ _ _
