-- What a client's jobs may reach is no other client's to write.
use Rattle.std.proofs.Common.{◌≡◌, ◌⊎◌, inl, inr, ℕ, ◌+◌, ◌&&◌, ◌<◌, ◌≤◌, Bool, true, false, not, if◌then◌else◌, List, ◌∷◌, ◌++◌, Some, None, length, slice_index, sym, subst, arith, ◌∙◌, rules}
use Rattle.std.proofs.lemmas.{Bool.cases_lt, Bool.and_parts, Bool.ltb-true, Bool.eqb-true, Bool.Decides.nat_tests, Grind.common_steps}
use Rattle.field_words.specs.{Sizes.slot_size, Questions.first_of}
use Rattle.field_words.proofs.{Questions.none_broken, Nones.each_none}
use Rattle.buffer_table.specs.Handles.{handle_questions, handles_questions, is_named, is_plain, data_of, code_of}
use Rattle.buffer_table.specs.Table.{TableModel, buffer_at}
use Rattle.buffer_table.proofs.Named.{data_is}
use Rattle.job_format.specs.Model.{FileModel}
use Rattle.job_check.specs.{Shaders.table_of, Faults.place_stages, Jobs.job_of, Jobs.slot_of}
use Rattle.machine_plan.specs.Regions.{LiesIn, Inside}
use Rattle.promises.specs.Holdings.{plain_of, lists_of, codes_of, slot_in, job_rights}
use Rattle.promises.specs.{Rights.IsOneOf, Prepared.IsFaultless, Apart.jobs_of}
use Rattle.accepted_law.specs.{Settled.Settled, Neighbours.ClientsUnshared}
use Rattle.accepted_law.proofs.{ByJob.rights_are, ByJob.rights_past, Joining.lists_and_code_fixed_law}
use Rattle.accepted_law.proofs.{Fixed.LiesInOne, Fixed.in_one, Fixed.fixed_byte, Intervals.named_by, Tables.tiles_apart}
use Rattle.accepted_law.proofs.{Grounds.slot_apart, Grounds.two_apart, Grounds.less_by, Settling.files_settle_law, Settling.handles_clear}
use Rattle.machine_law.proofs.Apart.{inside_either}

-- Each handle names a buffer of the job's own client.
pub of_client : (t : TableModel) (client : ℕ) (numbers : List ℕ) → first_of (handles_questions t client numbers) ≡ None
    → (i : ℕ) → i < length numbers → (buffer_at t.buffers (slice_index numbers i)).client ≡ client
unfolding handles_questions handle_questions
of_client t client numbers none i inside =
    let here : first_of (handle_questions t client numbers i) ≡ None =
    each_none (handle_questions t client numbers) 0 (length numbers) i none (omega arith) (omega (arith, inside)) in
    grind (arith, (none_broken (handle_questions t client numbers i) here).0)

chosen : (b : Bool) (x number : ℕ) → (if b then Some x else None) ≡ Some number → x ≡ number
chosen b x number is = search (rules, arith)

pub data_number : (t : TableModel) (handles : List ℕ) (handle number : ℕ) → data_of t handles handle ≡ Some number → slice_index handles handle ≡ number
unfolding data_of
data_number t handles handle number is = chosen (is_named t handles handle && is_plain (buffer_at t.buffers (slice_index handles handle)).kind) (slice_index handles handle) number is

pub code_number : (t : TableModel) (handles : List ℕ) (handle number : ℕ) → code_of t handles handle ≡ Some number → slice_index handles handle ≡ number
unfolding code_of
code_number t handles handle number is = chosen (is_named t handles handle && not (is_plain (buffer_at t.buffers (slice_index handles handle)).kind)) (slice_index handles handle) number is

-- A data buffer of the job is one of its client's.
record IsOwned (f : FileModel) (j place size : ℕ) : Type 0 where
  number : ℕ
  inside : number < length f.buffers
  client_is : (buffer_at f.buffers number).client ≡ (job_of f j).client
  place_is : place ≡ (buffer_at f.buffers number).place
  size_is : size ≡ (buffer_at f.buffers number).size

owned : (f : FileModel) (j : ℕ) → first_of (place_stages f) ≡ None → j < length f.jobs → (place size : ℕ) → IsOneOf (plain_of f j) place size → IsOwned f j place size
unfolding plain_of
owned f j none job place size one =
    let handles : List ℕ = (job_of f j).handles in
    let by = named_by (data_of (table_of f) handles) f.buffers (length handles) place size one in
    let of = data_is (table_of f) handles by.handle by.number by.named in
    let client = of_client (table_of f) (job_of f j).client handles (handles_clear f j job none) by.handle of.handle_in in
    record {
      number = by.number;
      inside = of.inside;
      client_is = subst (λ n. (buffer_at f.buffers n).client ≡ (job_of f j).client) (data_number (table_of f) handles by.handle by.number by.named) client;
      place_is = by.place_is;
      size_is = by.size_is;
    }

-- No byte lies in both of two intervals that are apart.
no_both : (p place size q n : ℕ) → (place + size ≤ q) ⊎ (q + n ≤ place) → place ≤ p → p + 1 ≤ place + size → q ≤ p → p + 1 ≤ q + n → ⊥
no_both p place size q n h5 from upto at past = search (rules, arith)

slots_apart : (f : FileModel) (j k : ℕ) → (j ≡ k → ⊥) → (slot_of f j + slot_size ≤ slot_of f k) ⊎ (slot_of f k + slot_size ≤ slot_of f j)
unfolding slot_of
slots_apart f j k differ = grind (arith, common_steps, nat_tests, cases_lt, less_by)

-- A slot and a buffer: the slots of all jobs lie in the tile region.
slot_and_buffer : (f : FileModel) (j p : ℕ) → Settled f j → (k : ℕ) → k < length f.jobs → (number : ℕ) → number < length f.buffers
    → slot_of f k ≤ p → p + 1 ≤ slot_of f k + slot_size
    → (buffer_at f.buffers number).place ≤ p → p + 1 ≤ (buffer_at f.buffers number).place + (buffer_at f.buffers number).size → ⊥
slot_and_buffer f j p s k job number inside from upto at past =
    no_both p (slot_of f k) slot_size (buffer_at f.buffers number).place (buffer_at f.buffers number).size
    (slot_apart f j k (buffer_at f.buffers number).place (buffer_at f.buffers number).size s job (tiles_apart f.mem_size f.regions f.buffers s.sound number inside))
    from upto at past

-- Two jobs of two clients in a file in which no rule is broken.
record AreTwo (f : FileModel) (j k : ℕ) : Type 0 where
  none : first_of (place_stages f) ≡ None
  settled : Settled f j
  one : j < length f.jobs
  other : k < length f.jobs
  clients : (job_of f j).client ≡ (job_of f k).client → ⊥

-- They have no byte of slot and data buffers in common.
plain_and_slot : (f : FileModel) (j k p : ℕ) → AreTwo f j k → (i : ℕ) → i < length f.jobs → (l : ℕ) → l < length f.jobs → LiesInOne (plain_of f i) p 1 → LiesIn p 1 (slot_in f l) → ⊥
unfolding slot_in
plain_and_slot f j k p two i one l other found slot =
    let own = owned f i two.none one found.place found.size found.one in
    let from = found.from in
    let upto = found.upto in
    slot_and_buffer f j p two.settled l other own.number own.inside slot.from slot.upto (omega (arith, from, own.place_is)) (omega (arith, upto, own.place_is, own.size_is))

plain_and_plain : (f : FileModel) (j k p : ℕ) → AreTwo f j k → LiesInOne (plain_of f j) p 1 → LiesInOne (plain_of f k) p 1 → ⊥
plain_and_plain f j k p two found there = search (rules, arith, owned, no_both, two_apart)

slot_and_slot : (f : FileModel) (j k p : ℕ) → AreTwo f j k → LiesIn p 1 (slot_in f j) → LiesIn p 1 (slot_in f k) → ⊥
unfolding slot_in
slot_and_slot f j k p two one other = grind (arith, common_steps, nat_tests, no_both, slots_apart)

both_written : (f : FileModel) (j k p : ℕ) → AreTwo f j k → Inside (job_rights f j).writable p 1 → Inside (job_rights f k).writable p 1 → ⊥
both_written f j k p two (inl one) (inl other) = slot_and_slot f j k p two one other
both_written f j k p two (inl one) (inr other) = plain_and_slot f j k p two k two.other j two.one (in_one (plain_of f k) p 1 other) one
both_written f j k p two (inr one) (inl other) = plain_and_slot f j k p two j two.one k two.other (in_one (plain_of f j) p 1 one) other
both_written f j k p two (inr one) (inr other) = plain_and_plain f j k p two (in_one (plain_of f j) p 1 one) (in_one (plain_of f k) p 1 other)

-- a job of the client, and one that isn't
pub record IsJobOf (c : ℕ) (f : FileModel) (j : ℕ) : Type 0 where
  pub inside : j < length f.jobs
  pub client_is : (job_of f j).client ≡ c

pub job_is_of : (c : ℕ) (f : FileModel) (j : ℕ) → jobs_of c f j ≡ true → IsJobOf c f j
unfolding jobs_of
job_is_of c f j mine = search (rules, arith, and_parts, ltb-true, eqb-true)

other_client : (c : ℕ) (f : FileModel) (k : ℕ) → k < length f.jobs → jobs_of c f k ≡ false → (job_of f k).client ≡ c → ⊥
unfolding jobs_of
other_client c f k inside other is = grind (arith, inside, other, is)

reached_unwritten : (c : ℕ) (f : FileModel) (j k p : ℕ) → IsFaultless f → IsJobOf c f j → k < length f.jobs → ((job_of f k).client ≡ c → ⊥)
    → Inside (job_rights f j).region p 1 → Inside (job_rights f k).writable p 1 → ⊥
reached_unwritten c f j k p file own there differ reached written =
    let two : AreTwo f j k = record {
      none = file.none;
      settled = files_settle_law f file.well_formed file.fits file.none j own.inside;
      one = own.inside;
      other = there;
      clients = λ same. differ (sym same ∙ own.client_is);
    } in
    elim (inside_either (slot_in f j ∷ plain_of f j) (lists_of f j ++ codes_of f j) p 1 reached) [
      | inl here ↦ both_written f j k p two here written
      | inr read ↦
          fixed_byte f j p (lists_and_code_fixed_law f file.well_formed file.fits file.none j own.inside) read k
          (subst (λ r. Inside r.writable p 1) (sym (rights_are f k there)) written)
    ]

pub clients_unshared_law : ClientsUnshared
clients_unshared_law c f file j k p mine other reached written = search (rules, arith, job_is_of, cases_lt, reached_unwritten, other_client, rights_are, rights_past)
