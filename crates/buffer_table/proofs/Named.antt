-- Handles without faults are numbers of buffers, and what a handle names is a buffer of its kind.
use Rattle.std.proofs.Common.{◌≡◌, ◌<◌, ℕ, Bool, true, false, not, ◌&&◌, nat_lt, if◌then◌else◌, List, length, slice_index, Some, None, is_some, refl, ap, subst, arith}
use Rattle.std.proofs.lemmas.Bool.{and_parts, ltb-true}
use Rattle.field_words.specs.Questions.{first_of}
use Rattle.field_words.proofs.{Questions.none_broken, Nones.each_none}
use Rattle.buffer_table.specs.Handles.{handle_questions, handles_questions, AreNumbersOf, IsNamed, IsData, IsCode, is_plain, is_named, data_of, code_of}
use Rattle.buffer_table.specs.{declared.buffer.Kind.Kind, declared.buffer.Kind.TheVariants.Plain, declared.buffer.Kind.TheVariants.Code}
use Rattle.buffer_table.specs.Table.{TableModel, buffer_at}

pub are_numbers : (t : TableModel) (client : ℕ) (numbers : List ℕ) → first_of (handles_questions t client numbers) ≡ None → AreNumbersOf t numbers
unfolding handles_questions handle_questions
are_numbers t client numbers none i inside =
    let here : first_of (handle_questions t client numbers i) ≡ None =
    each_none (handle_questions t client numbers) 0 (length numbers) i none (omega arith) (omega (arith, inside)) in
    let asked = none_broken (handle_questions t client numbers i) here in
    grind (arith, asked.0)

-- A handle that names a data buffer, and one that names a Code buffer.
plain_kind : (kind : Kind) → is_plain kind ≡ true → kind ≡ Plain
plain_kind Plain is = refl
plain_kind Code is = absurd (cc)

code_kind : (kind : Kind) → not (is_plain kind) ≡ true → kind ≡ Code
code_kind Plain is = absurd (cc)
code_kind Code is = refl

some_if : (b : Bool) (x : ℕ) → is_some (if b then Some x else None) ≡ true → b ≡ true
some_if true x is = refl
some_if false x is = absurd (cc)

chosen_if : (b : Bool) (x number : ℕ) → (if b then Some x else None) ≡ Some number → x ≡ number
chosen_if true x number is = cc
chosen_if false x number is = absurd (cc)

named : (t : TableModel) (handles : List ℕ) (handle : ℕ) → is_named t handles handle ≡ true → IsNamed t handles handle
named t handles handle is =
    let two = and_parts (nat_lt handle (length handles)) (nat_lt (slice_index handles handle) (length t.buffers)) is in
    (ltb-true handle (length handles) two.0, ltb-true (slice_index handles handle) (length t.buffers) two.1)

pub data_named : (t : TableModel) (handles : List ℕ) (handle : ℕ) → is_some (data_of t handles handle) ≡ true → IsData t handles handle
unfolding data_of
data_named t handles handle is =
    let kind : Kind = (buffer_at t.buffers (slice_index handles handle)).kind in
    let two = and_parts (is_named t handles handle) (is_plain kind) (some_if (is_named t handles handle && is_plain kind) (slice_index handles handle) is) in
    (named t handles handle two.0, plain_kind kind two.1)

code_named : (t : TableModel) (handles : List ℕ) (handle : ℕ) → is_some (code_of t handles handle) ≡ true → IsCode t handles handle
unfolding code_of
code_named t handles handle is =
    let kind : Kind = (buffer_at t.buffers (slice_index handles handle)).kind in
    let two = and_parts (is_named t handles handle) (not (is_plain kind)) (some_if (is_named t handles handle && not (is_plain kind)) (slice_index handles handle) is) in
    (named t handles handle two.0, code_kind kind two.1)

-- The buffer that a handle names, of that kind.
pub record IsBufferOf (t : TableModel) (handles : List ℕ) (kind : Kind) (handle number : ℕ) : Type 0 where
  pub handle_in : handle < length handles
  pub inside : number < length t.buffers
  pub kind_is : (buffer_at t.buffers number).kind ≡ kind

buffer_of : (t : TableModel) (handles : List ℕ) (kind : Kind) (handle number : ℕ) → slice_index handles handle ≡ number → IsNamed t handles handle
    → (buffer_at t.buffers (slice_index handles handle)).kind ≡ kind → IsBufferOf t handles kind handle number
buffer_of t handles kind handle number is there of_kind = record {
  handle_in = there.0;
  inside = subst (λ n. n < length t.buffers) is there.1;
  kind_is = subst (λ n. (buffer_at t.buffers n).kind ≡ kind) is of_kind;
}

pub data_is : (t : TableModel) (handles : List ℕ) (handle number : ℕ) → data_of t handles handle ≡ Some number → IsBufferOf t handles Plain handle number
unfolding data_of
data_is t handles handle number is =
    let there = data_named t handles handle (ap is_some is) in
    buffer_of t handles Plain handle number (chosen_if (is_named t handles handle && is_plain (buffer_at t.buffers (slice_index handles handle)).kind) (slice_index handles handle) number is) there.0 there.1

pub code_is : (t : TableModel) (handles : List ℕ) (handle number : ℕ) → code_of t handles handle ≡ Some number → IsBufferOf t handles Code handle number
unfolding code_of
code_is t handles handle number is =
    let there = code_named t handles handle (ap is_some is) in
    buffer_of t handles Code handle number (chosen_if (is_named t handles handle && not (is_plain (buffer_at t.buffers (slice_index handles handle)).kind)) (slice_index handles handle) number is) there.0 there.1
