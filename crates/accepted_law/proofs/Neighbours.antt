-- Two accepted files that are neighbours for a client are the same to it.
use Rattle.std.proofs.Common.{◌≡◌, ℕ, zero, suc, ◌<◌, ◌&&◌, Bool, true, not, if◌then◌else◌, List, [], ◌∷◌, Option, Some, None, length, map, slice_index, refl, sym, ap, arith, zero-add, ◌∙◌, rules}
use Rattle.std.proofs.lemmas.{List.FromFn.length-map-range_with_len, List.FromFn.get_or-map-range_with_len, Option.slice_get-get_or}
use Rattle.std.proofs.lemmas.{Grind.common_steps, Bool.Decides.nat_tests}
use Rattle.std.specs.List.{range_with_len}
use Rattle.field_words.specs.Sizes.{slot_size}
use Rattle.buffer_table.specs.{declared.buffer.Buffer.Buffer, declared.buffer.Kind.Kind, Table.TableModel, Table.buffer_at}
use Rattle.buffer_table.specs.Handles.{AreNumbersOf, is_plain, is_named, data_of, code_of}
use Rattle.relocation.specs.declared.layout.{Layout.Layout, Lengths.Lengths}
use Rattle.job_format.specs.Model.{FileModel}
use Rattle.job_check.specs.{Shaders.table_of, Emit.lengths_of, Jobs.job_of, Jobs.layout_of}
use Rattle.machine_plan.specs.Regions.{Interval}
use Rattle.machine.specs.{State.item_at}
use Rattle.machine_law.specs.Apart.{BeginsSoundly, AreNeighbours}
use Rattle.promises.specs.Apart.{IsUnshared, jobs_of, named_at, StandAlike, PlacedAlike, AreNeighbourFiles, beginning_of}
use Rattle.promises.specs.Holdings.{interval, interval_where, named_buffers, plain_of, codes_of, lists_in, lists_of, slot_in, job_rights, file_rights}
use Rattle.promises.specs.Holdings.{start_by, start_of, file_starts}
use Rattle.promises.specs.Prepared.{IsFaultless}
use Rattle.machine_law.proofs.Apart.{apart_anywhere_law, apart_with_others_law}
use Rattle.accepted_law.specs.Neighbours.{AcceptedApart}
use Rattle.accepted_law.proofs.{ByJob.rights_are, Settling.files_settle_law, Unshared.job_is_of, Unshared.clients_unshared_law}
use Rattle.accepted_law.proofs.Joining.{files_begin_law, has_read_only, all_begin}

-- What a handle gives to the data buffers of its job, and to the Code buffers, by the buffer that it names alone.
abbrev pub given_if : Bool → Buffer → List Interval
given_if gives b = if gives then interval b.place b.size ∷ [] else []

where_if : (buffers : List Buffer) (named gives : Bool) (number : ℕ) → named ≡ true
    → interval_where buffers (if named && gives then Some number else None) ≡ given_if gives (buffer_at buffers number)
where_if buffers named gives number is = search (rules, arith)

is_there : (t : TableModel) (handles : List ℕ) → AreNumbersOf t handles → (i : ℕ) → i < length handles → is_named t handles i ≡ true
is_there t handles numbers i inside = grind (arith, inside, numbers i inside)

data_given : (t : TableModel) (handles : List ℕ) → AreNumbersOf t handles → (i : ℕ) → i < length handles
    → interval_where t.buffers (data_of t handles i) ≡ given_if (is_plain (buffer_at t.buffers (slice_index handles i)).kind) (buffer_at t.buffers (slice_index handles i))
unfolding data_of
data_given t handles numbers i inside = grind (arith, common_steps, nat_tests, where_if, is_there)

code_given : (t : TableModel) (handles : List ℕ) → AreNumbersOf t handles → (i : ℕ) → i < length handles
    → interval_where t.buffers (code_of t handles i) ≡ given_if (not (is_plain (buffer_at t.buffers (slice_index handles i)).kind)) (buffer_at t.buffers (slice_index handles i))
unfolding code_of
code_given t handles numbers i inside = grind (arith, common_steps, nat_tests, where_if, is_there)

-- So buffers that stand alike give the same.
stand_alike : (test : Kind → Bool) (one other : Buffer) → StandAlike one other → given_if (test one.kind) one ≡ given_if (test other.kind) other
stand_alike test one other alike = grind (arith, common_steps, nat_tests)

same_named : (names others : ℕ → Option ℕ) (buffers table : List Buffer) (n : ℕ) → ((i : ℕ) → i < n → interval_where buffers (names i) ≡ interval_where table (others i))
    → named_buffers names buffers n ≡ named_buffers others table n
unfolding named_buffers
same_named names others buffers table zero each = refl
same_named names others buffers table (suc n) each = grind (arith, common_steps, nat_tests, same_named names others buffers table n)

-- Two files with a job that has the same places in both, and whose handles are numbers of buffers in both.
record HasJob (f g : FileModel) (j : ℕ) : Type 0 where
  places : PlacedAlike f g j
  one : AreNumbersOf (table_of f) (job_of f j).handles
  other : AreNumbersOf (table_of g) (job_of g j).handles

same_plain : (f g : FileModel) (j : ℕ) → HasJob f g j → plain_of f j ≡ plain_of g j
unfolding plain_of
same_plain f g j has =
    same_named (data_of (table_of f) (job_of f j).handles) (data_of (table_of g) (job_of g j).handles) f.buffers g.buffers (length (job_of f j).handles)
    (λ i below.
    data_given (table_of f) (job_of f j).handles has.one i below
    ∙ stand_alike is_plain (named_at f j i) (named_at g j i) (has.places.named i below)
    ∙ sym (data_given (table_of g) (job_of g j).handles has.other i (omega (arith, below, has.places.handles))))
    ∙ ap (named_buffers (data_of (table_of g) (job_of g j).handles) g.buffers) has.places.handles

same_codes : (f g : FileModel) (j : ℕ) → HasJob f g j → codes_of f j ≡ codes_of g j
unfolding codes_of
same_codes f g j has =
    same_named (code_of (table_of f) (job_of f j).handles) (code_of (table_of g) (job_of g j).handles) f.buffers g.buffers (length (job_of f j).handles)
    (λ i below.
    code_given (table_of f) (job_of f j).handles has.one i below
    ∙ stand_alike (λ k. not (is_plain k)) (named_at f j i) (named_at g j i) (has.places.named i below)
    ∙ sym (code_given (table_of g) (job_of g j).handles has.other i (omega (arith, below, has.places.handles))))
    ∙ ap (named_buffers (code_of (table_of g) (job_of g j).handles) g.buffers) has.places.handles

-- Slot, lists and beginnings are the same.
same_slot : (f g : FileModel) (j : ℕ) → layout_of f j ≡ layout_of g j → slot_in f j ≡ slot_in g j
unfolding slot_in layout_of
same_slot f g j layout = ap (λ l. interval l.slot slot_size) layout

by_both : {X : Type 0} (make : Layout → Lengths → X) (f g : FileModel) (j : ℕ) → PlacedAlike f g j → make (layout_of f j) (lengths_of f j) ≡ make (layout_of g j) (lengths_of g j)
by_both make f g j places = ap (λ l. make l (lengths_of f j)) places.layout ∙ ap (make (layout_of g j)) places.lengths

same_lists : (f g : FileModel) (j : ℕ) → PlacedAlike f g j → lists_of f j ≡ lists_of g j
unfolding lists_of
same_lists f g j places = by_both lists_in f g j places

same_rights : (f g : FileModel) (j : ℕ) → HasJob f g j → job_rights f j ≡ job_rights g j
same_rights f g j has = grind (arith, common_steps, nat_tests, same_slot, same_plain, same_lists, same_codes)

start_at : (f : FileModel) (j : ℕ) → j < length f.jobs → item_at (file_starts f) j ≡ Some (start_of f j)
unfolding file_starts
start_at f j inside =
    let long = length-map-range_with_len (start_of f) 0 (length f.jobs) in
    slice_get-get_or (map (start_of f) (range_with_len 0 (length f.jobs))) j (start_of f j) (omega (arith, inside, long))
    ∙ ap (λ s. Some s) (get_or-map-range_with_len (start_of f) 0 (length f.jobs) j j (start_of f j) inside (zero-add j))

-- A job of the client is one of both files.
both_have : (c : ℕ) (f g : FileModel) → IsFaultless f → IsFaultless g → AreNeighbourFiles c f g → (j : ℕ) → jobs_of c f j ≡ true
    → (j < length f.jobs) × (j < length g.jobs) × HasJob f g j
both_have c f g one other near j mine = search (rules, arith, job_is_of, files_settle_law)

begins_soundly : (f : FileModel) → IsFaultless f → BeginsSoundly (beginning_of f)
begins_soundly f file = search (rules, arith, files_begin_law, all_begin)

unshared_by : (c : ℕ) (f g : FileModel) → ((j : ℕ) → jobs_of c f j ≡ jobs_of c g j) → IsUnshared (jobs_of c g) (file_rights g) → IsUnshared (jobs_of c f) (file_rights g)
unshared_by c f g jobs unshared j k p mine other reached written = unshared j k p (sym (jobs j) ∙ mine) (sym (jobs k) ∙ other) reached written

neighbours : (c : ℕ) (f g : FileModel) → IsFaultless f → IsFaultless g → AreNeighbourFiles c f g → AreNeighbours (jobs_of c f) (beginning_of f) (beginning_of g)
neighbours c f g one other near = record {
  begins = begins_soundly f one;
  other_begins = begins_soundly g other;
  unshared = clients_unshared_law c f one;
  other_unshared = unshared_by c f g near.jobs (clients_unshared_law c g other);
  rights = λ j mine.
      let have = both_have c f g one other near j mine in
      rights_are f j have.0 ∙ same_rights f g j have.2 ∙ sym (rights_are g j have.1);
  starts = λ j mine.
      let have = both_have c f g one other near j mine in
      start_at f j have.0 ∙ ap (λ s. Some s) (by_both start_by f g j have.2.places) ∙ sym (start_at g j have.1);
}

pub accepted_apart_law : AcceptedApart
accepted_apart_law c f g one other near =
    let both = neighbours c f g one other near in
    record {
      alone = λ m n alike.
          apart_anywhere_law (jobs_of c f) (beginning_of f) (beginning_of g) m n both
          (has_read_only f m alike.one) (has_read_only g n alike.other) alike.client;
      while_others_write = λ m n alike.
          apart_with_others_law (jobs_of c f) (beginning_of f) (beginning_of g) m n both
          (has_read_only f m alike.one) (has_read_only g n alike.other) alike.client;
    }
