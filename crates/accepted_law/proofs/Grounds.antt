-- What the rights of a job have, and what no job may write.
use Rattle.std.proofs.Common.{◌≡◌, ◌⊎◌, inl, inr, ℕ, ◌+◌, ◌*◌, ◌%◌, ◌<◌, ◌≤◌, ◌++◌, Some, length, refl, sym, ap, subst, arith, ◌∙◌, rules}
use Rattle.std.proofs.lemmas.{Bool.cases_lt, Bool.Decides.nat_tests, Grind.common_steps}
use Rattle.field_words.specs.Sizes.{page_size, slot_size}
use Rattle.buffer_table.specs.declared.buffer.Kind.TheVariants.{Plain, Code}
use Rattle.buffer_table.specs.{Table.buffer_at, Table.most_place, Handles.data_of, Handles.code_of}
use Rattle.buffer_table.proofs.Named.{data_is, code_is}
use Rattle.shader_records.specs.Named.{IsDataIn}
use Rattle.job_format.specs.Model.{FileModel}
use Rattle.relocation.specs.Layout.{region_end}
use Rattle.job_check.specs.Jobs.{job_of, slot_of, layout_of, bin_list_of, records_of, streams_of, render_list_of}
use Rattle.job_check.specs.{Shaders.table_of, Emit.lengths_of}
use Rattle.job_check.proofs.Layouts.{layout_numbers, begin_from}
use Rattle.machine_plan.specs.Regions.{Inside, IsOutside}
use Rattle.promises.specs.Holdings.{OfEachJob, interval, plain_of, codes_of, lists_of, slot_in, job_rights, file_rights}
use Rattle.promises.specs.Rights.{IsOneOf, IsFixed}
use Rattle.accepted_law.specs.{Settled.Settled, Settled.ListsEnd, Parts.FilesGround}
use Rattle.accepted_law.proofs.Tables.{buffer_sound, buffers_apart, lists_apart, tiles_apart, regions_apart, slot_inside}
use Rattle.accepted_law.proofs.Intervals.{one_left, one_right, named_there, named_by}
use Rattle.accepted_law.proofs.{Placing.IsClear, Fixed.LiesInOne, Fixed.in_one, Holding.lists_end, Holding.holds_all}
use Rattle.accepted_law.proofs.ByJob.{rights_are, rights_past, in_region, in_writable}

-- A data buffer of job j.
record IsPlainAt (f : FileModel) (place size : ℕ) : Type 0 where
  number : ℕ
  inside : number < length f.buffers
  kind_is : (buffer_at f.buffers number).kind ≡ Plain
  place_is : place ≡ (buffer_at f.buffers number).place
  size_is : size ≡ (buffer_at f.buffers number).size

plain_at : (f : FileModel) (j place size : ℕ) → IsOneOf (plain_of f j) place size → IsPlainAt f place size
unfolding plain_of
plain_at f j place size one =
    let by = named_by (data_of (table_of f) (job_of f j).handles) f.buffers (length (job_of f j).handles) place size one in
    let of = data_is (table_of f) (job_of f j).handles by.handle by.number by.named in
    record { number = by.number; inside = of.inside; kind_is = of.kind_is; place_is = by.place_is; size_is = by.size_is }

data_there : (f : FileModel) (j place size : ℕ) → IsDataIn (table_of f) (job_of f j).handles place size → IsOneOf (plain_of f j) place size
unfolding plain_of
data_there f j place size named =
    let buffers = f.buffers in
    let of = data_is (table_of f) (job_of f j).handles named.handle named.number named.named in
    let there = named_there (data_of (table_of f) (job_of f j).handles) buffers (length (job_of f j).handles) named.handle named.number of.handle_in named.named in
    let all = plain_of f j in
    subst (λ n. IsOneOf all place n) (sym named.size_is)
    (subst (λ p. IsOneOf all p (buffer_at buffers named.number).size) (sym named.place_is) there)

code_there : (f : FileModel) (j handle number : ℕ) → code_of (table_of f) (job_of f j).handles handle ≡ Some number
    → IsOneOf (codes_of f j) (buffer_at f.buffers number).place (buffer_at f.buffers number).size
unfolding codes_of
code_there f j handle number named =
    let of = code_is (table_of f) (job_of f j).handles handle number named in
    named_there (code_of (table_of f) (job_of f j).handles) f.buffers (length (job_of f j).handles) handle number of.handle_in named

-- A byte that is neither in the tile slot nor in a data buffer is no job's to write.
not_clear : (p place n : ℕ) → IsClear p place n → place ≤ p → p + 1 ≤ place + n → ⊥
not_clear p place n h3 from upto = search (rules, arith)

plain_clear : (f : FileModel) (j p : ℕ) → ((number : ℕ) → number < length f.buffers → (buffer_at f.buffers number).kind ≡ Plain → IsClear p (buffer_at f.buffers number).place (buffer_at f.buffers number).size)
    → LiesInOne (plain_of f j) p 1 → ⊥
plain_clear f j p clear found = grind (arith, common_steps, nat_tests, plain_at, not_clear)

not_written : (f : FileModel) (j p : ℕ) → IsClear p (slot_of f j) slot_size
    → ((number : ℕ) → number < length f.buffers → (buffer_at f.buffers number).kind ≡ Plain → IsClear p (buffer_at f.buffers number).place (buffer_at f.buffers number).size)
    → Inside (job_rights f j).writable p 1 → ⊥
unfolding slot_in
not_written f j p slot clear h5 = search (rules, arith, not_clear, plain_clear, in_one)

-- It is no byte of any job's slot, and of no data buffer of the file, whoever names it.
outside_all : (f : FileModel) (p : ℕ) → OfEachJob f (λ j. IsClear p (slot_of f j) slot_size)
    → ((number : ℕ) → number < length f.buffers → (buffer_at f.buffers number).kind ≡ Plain → IsClear p (buffer_at f.buffers number).place (buffer_at f.buffers number).size)
    → IsOutside (file_rights f) p
outside_all f p slots clear j written = search (arith, cases_lt, not_written, rights_are, rights_past)

-- A byte of an interval that is apart from another is clear of it.
clear_in : (place size q n i : ℕ) → (q + n ≤ place) ⊎ (place + size ≤ q) → i < size → IsClear (place + i) q n
clear_in place size q n i h5 below = search (rules, arith)

turned : (p n q m : ℕ) → (p + n ≤ q) ⊎ (q + m ≤ p) → (q + m ≤ p) ⊎ (p + n ≤ q)
turned p n q m h4 = search (rules, arith)

-- The slots of all jobs lie in the tile region.
pub slot_apart : (f : FileModel) (j k place size : ℕ) → Settled f j → k < length f.jobs → (f.regions.tile_place + slot_size * f.regions.tile_slots ≤ place) ⊎ (place + size ≤ f.regions.tile_place)
    → (slot_of f k + slot_size ≤ place) ⊎ (place + size ≤ slot_of f k)
slot_apart f j k place size s there h7 = search (rules, arith, slot_inside)

other_kind : (f : FileModel) (one other : ℕ) → (buffer_at f.buffers one).kind ≡ Code → (buffer_at f.buffers other).kind ≡ Plain → one ≡ other → ⊥
other_kind f one other code plain same = cc

pub less_by : (m n : ℕ) → m ≤ n → (m ≡ n → ⊥) → m < n
less_by m n upto differ = elim (cases_lt m n) [ inl less ↦ less | inr past ↦ absurd (differ (omega (arith, upto, past))) ]

pub two_apart : (f : FileModel) (j : ℕ) → Settled f j → (one other : ℕ) → one < length f.buffers → other < length f.buffers → (one ≡ other → ⊥)
    → ((buffer_at f.buffers other).place + (buffer_at f.buffers other).size ≤ (buffer_at f.buffers one).place)
    ⊎ ((buffer_at f.buffers one).place + (buffer_at f.buffers one).size ≤ (buffer_at f.buffers other).place)
two_apart f j s one other inside there differ =
    elim (cases_lt one other) [
      | inl less ↦
          turned (buffer_at f.buffers one).place (buffer_at f.buffers one).size (buffer_at f.buffers other).place (buffer_at f.buffers other).size
          (buffers_apart f.mem_size f.regions f.buffers s.sound one other less there)
      | inr past ↦ buffers_apart f.mem_size f.regions f.buffers s.sound other one (let less : other < one = less_by other one past (λ e. differ (sym e)) in less) inside
    ]

code_outside : (f : FileModel) (j : ℕ) → Settled f j → (number : ℕ) → number < length f.buffers → (buffer_at f.buffers number).kind ≡ Code
    → IsFixed (file_rights f) (buffer_at f.buffers number).place (buffer_at f.buffers number).size
code_outside f j s number inside code = search (rules, arith, outside_all, clear_in, slot_apart, tiles_apart, two_apart, other_kind)

-- The lists' region is no job's to write.
region_clear : (place size q n p : ℕ) → (place + size ≤ q) ⊎ (q + n ≤ place) → place ≤ p → p < place + size → IsClear p q n
region_clear place size q n p h5 from upto = search (rules, arith)

region_outside : (f : FileModel) (j : ℕ) → Settled f j → (p : ℕ) → f.regions.lists_place ≤ p → p < region_end f.regions → IsOutside (file_rights f) p
region_outside f j s p from upto = search (arith, outside_all, region_clear, turned, slot_apart, regions_apart, lists_apart)

pub record IsInLists (f : FileModel) (j place size : ℕ) : Type 0 where
  pub from : f.regions.lists_place ≤ place
  pub within : place + size ≤ (layout_of f j).place + (layout_of f j).end
  pub upto : place + size ≤ region_end f.regions

lies_by : (f : FileModel) (j offset n place size : ℕ) → ListsEnd f j → f.regions.lists_place ≤ (layout_of f j).place → offset + n ≤ (layout_of f j).end
    → interval ((layout_of f j).place + offset) n ≡ interval place size → IsInLists f j place size
lies_by f j offset n place size ends at upto is = search (rules, arith)

-- each of the four lists lies in that region
pub four_lie : (f : FileModel) (j : ℕ) → ListsEnd f j → (place size : ℕ) → IsOneOf (lists_of f j) place size → IsInLists f j place size
unfolding lists_of lengths_of
four_lie f j ends place size one =
    let from : f.regions.lists_place ≤ (layout_of f j).place = omega (arith, (layout_numbers f j (layout_of f j) refl).0, begin_from f j) in
    let render : (layout_of f j).render ≤ (layout_of f j).end = omega (arith, ends.render) in
    let uniforms : (layout_of f j).uniforms ≤ (layout_of f j).render = omega (arith, ends.uniforms) in
    let records : (layout_of f j).records ≤ (layout_of f j).uniforms = omega (arith, ends.records) in
    let first : (layout_of f j).bin + length (bin_list_of f j) ≤ (layout_of f j).end = omega (arith, ends.bin, records, uniforms, render) in
    let second : (layout_of f j).records + length (records_of f j) ≤ (layout_of f j).end = omega (arith, ends.records, uniforms, render) in
    let third : (layout_of f j).uniforms + length (streams_of f j) ≤ (layout_of f j).end = omega (arith, ends.uniforms, render) in
    elim one [
      | inl is ↦ lies_by f j (layout_of f j).bin (length (bin_list_of f j)) place size ends from first is
      | inr (inl is) ↦ lies_by f j (layout_of f j).records (length (records_of f j)) place size ends from second is
      | inr (inr (inl is)) ↦ lies_by f j (layout_of f j).uniforms (length (streams_of f j)) place size ends from third is
      | inr (inr (inr (inl is))) ↦ lies_by f j (layout_of f j).render (length (render_list_of f j)) place size ends from ends.render is
      | inr (inr (inr (inr none))) ↦ absurd none
    ]

lists_outside : (f : FileModel) (j : ℕ) → Settled f j → ListsEnd f j → (place size : ℕ) → IsOneOf (lists_of f j) place size → IsFixed (file_rights f) place size
lists_outside f j s ends place size one = search (arith, four_lie, region_outside)

-- a data buffer begins at a page and ends in the memory
plain_page : (f : FileModel) (j : ℕ) → Settled f j → (place size : ℕ) → IsOneOf (plain_of f j) place size → place % page_size ≡ 0
plain_page f j s place size one =
    let at = plain_at f j place size one in
    ap (λ p. p % page_size) at.place_is ∙ (buffer_sound f.mem_size f.regions f.buffers s.sound at.number at.inside).place

plain_low : (f : FileModel) (j : ℕ) → Settled f j → (place size : ℕ) → IsOneOf (plain_of f j) place size → place + size ≤ most_place
plain_low f j s place size one =
    let at = plain_at f j place size one in
    omega (arith, at.place_is, at.size_is, (buffer_sound f.mem_size f.regions f.buffers s.sound at.number at.inside).inside, s.sound.limit)

code_fixed_by : (f : FileModel) (j : ℕ) → Settled f j → (handle number : ℕ) → code_of (table_of f) (job_of f j).handles handle ≡ Some number
    → IsFixed (file_rights f) (buffer_at f.buffers number).place (buffer_at f.buffers number).size
code_fixed_by f j s handle number named =
    let of = code_is (table_of f) (job_of f j).handles handle number named in
    code_outside f j s number of.inside of.kind_is

slot_there : (f : FileModel) (j : ℕ) → IsOneOf (job_rights f j).region (slot_of f j) slot_size
unfolding slot_in
slot_there f j = inl refl

pub files_ground_law : FilesGround
files_ground_law f all j inside =
    let s = all j inside in
    let ends = lists_end f j s in
    let plain = plain_of f j in
    let lists = lists_of f j in
    let codes = codes_of f j in
    record {
      settled = s;
      holds = holds_all f j s all;
      ends = ends;
      named_data = data_there f j;
      data_reads = λ place size one. in_region f j place size inside (inr (one_left plain (lists ++ codes) place size one));
      data_writes = λ place size one. in_writable f j place size inside (inr one);
      data_page = plain_page f j s;
      data_low = plain_low f j s;
      code = λ handle number named.
          in_region f j (buffer_at f.buffers number).place (buffer_at f.buffers number).size inside
          (inr (one_right plain (lists ++ codes) (buffer_at f.buffers number).place (buffer_at f.buffers number).size
          (one_right lists codes (buffer_at f.buffers number).place (buffer_at f.buffers number).size (code_there f j handle number named))));
      lists = λ place size one. in_region f j place size inside (inr (one_right plain (lists ++ codes) place size (one_left lists codes place size one)));
      slot = in_region f j (slot_of f j) slot_size inside (slot_there f j);
      code_fixed = code_fixed_by f j s;
      lists_fixed = lists_outside f j s ends;
    }
