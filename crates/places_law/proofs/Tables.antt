-- What is read of a memory table whose buffers lie at other places.
use Rattle.std.proofs.Common.{◌≡◌, ℕ, zero, suc, ◌&&◌, ◌||◌, ◌==◌, not, nat_lt, nat_le, if◌then◌else◌, List, [], ◌∷◌, length, map, slice_index, Some, None, refl, ap}
use Rattle.field_words.specs.Questions.{Question, Ask, each}
use Rattle.buffer_table.specs.{declared.buffer.Buffer.Buffer, Table.TableModel, Table.buffer_at}
use Rattle.buffer_table.specs.Handles.{handle_questions, handles_questions, is_plain, data_of, code_of}
use Rattle.places_law.specs.Moved.{placeless}

-- two tables with the same buffers, but for their places
pub record AreAlike (t u : TableModel) : Type 0 where
  pub count : length t.buffers ≡ length u.buffers
  pub entries : (number : ℕ) → placeless (buffer_at t.buffers number) ≡ placeless (buffer_at u.buffers number)

-- the entry without its place
pub entry_placeless : (buffers : List Buffer) (number : ℕ) → buffer_at (map placeless buffers) number ≡ placeless (buffer_at buffers number)
unfolding buffer_at
entry_placeless [] number = refl
entry_placeless (buffer ∷ buffers) zero = refl
entry_placeless (buffer ∷ buffers) (suc number) = entry_placeless buffers number

pub count_placeless : (buffers : List Buffer) → length (map placeless buffers) ≡ length buffers
count_placeless [] = refl
count_placeless (buffer ∷ buffers) = ap (λ (n : ℕ). suc n) (count_placeless buffers)

-- what is read of an entry
pub kind_same : (t u : TableModel) → AreAlike t u → (number : ℕ) → (buffer_at t.buffers number).kind ≡ (buffer_at u.buffers number).kind
kind_same t u alike number = ap (λ (b : Buffer). b.kind) (alike.entries number)

pub size_same : (t u : TableModel) → AreAlike t u → (number : ℕ) → (buffer_at t.buffers number).size ≡ (buffer_at u.buffers number).size
size_same t u alike number = ap (λ (b : Buffer). b.size) (alike.entries number)

pub client_same : (t u : TableModel) → AreAlike t u → (number : ℕ) → (buffer_at t.buffers number).client ≡ (buffer_at u.buffers number).client
client_same t u alike number = ap (λ (b : Buffer). b.client) (alike.entries number)

-- what a handle names
pub data_same : (t u : TableModel) → AreAlike t u → (handles : List ℕ) (i : ℕ) → data_of t handles i ≡ data_of u handles i
unfolding data_of
data_same t u alike handles i =
    let kind = kind_same t u alike (slice_index handles i) in
    let count = alike.count in
    λ p. if (nat_lt i (length handles) && nat_lt (slice_index handles i) (count p)) && is_plain (kind p) then Some (slice_index handles i) else None

pub code_same : (t u : TableModel) → AreAlike t u → (handles : List ℕ) (i : ℕ) → code_of t handles i ≡ code_of u handles i
unfolding code_of
code_same t u alike handles i =
    let kind = kind_same t u alike (slice_index handles i) in
    let count = alike.count in
    λ p. if (nat_lt i (length handles) && nat_lt (slice_index handles i) (count p)) && not (is_plain (kind p)) then Some (slice_index handles i) else None

-- rules of each item that are the same
pub each_same : {F : Type 0} (one other : ℕ → List (Question F)) (from n : ℕ) → ((k : ℕ) → one k ≡ other k) → each one from n ≡ each other from n
each_same one other from n same = λ p. each (λ k. same k p) from n

-- H1
handle_same : (t u : TableModel) → AreAlike t u → (client : ℕ) (numbers : List ℕ) (i : ℕ) → handle_questions t client numbers i ≡ handle_questions u client numbers i
unfolding handle_questions
handle_same t u alike client numbers i =
    let owner = client_same t u alike (slice_index numbers i) in
    let count = alike.count in
    λ p. Ask (nat_le (count p) (slice_index numbers i) || not (owner p == client)) i ∷ []

pub handles_same : (t u : TableModel) → AreAlike t u → (client : ℕ) (numbers : List ℕ) → handles_questions t client numbers ≡ handles_questions u client numbers
unfolding handles_questions
handles_same t u alike client numbers =
    each_same (handle_questions t client numbers) (handle_questions u client numbers) 0 (length numbers) (handle_same t u alike client numbers)
