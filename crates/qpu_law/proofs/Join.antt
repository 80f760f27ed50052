-- A step of a thread keeps what is known of it.
use Rattle.std.proofs.Common.{◌≡◌, ◌<◌, ◌≤◌, inl, inr, ℕ, zero, suc, ◌+◌, ◌-◌, ◌%◌, ◌^◌, Bool, true, false, ◌&&◌, ◌||◌, ◌==◌, not, Option, Some, None, List, [], ◌∷◌, ◌++◌, map, length, refl, sym, ap, subst, arith, ◌∙◌, nat_lt, if◌then◌else◌, ◌≢◌, ◌⊎◌, ◌*◌, rules}
use Rattle.std.proofs.lemmas.Bool.{and_from, and_right, or_from, or_cases, or_left, or_right, or_parts, lt-ltb, true≢false, and_parts, not-true}
use Rattle.std.proofs.lemmas.{List.map-append, Grind.common_steps, Bool.Decides.nat_tests}
use Rattle.std.specs.{Prelude.slice_index, Prelude.slice_get, Prelude.unwrap_or, Int.from_le_bytes, Int.w64}
use Rattle.field_words.specs.{Questions.first_of, Words.u32_at}
use Rattle.qpu_isa.specs.Terms.{writes_s, s_address, names_address, add_names, mul_names, is_add_with_uniform, is_add_packed, first_register, is_load_imm, is_alu, is_uniform_operand, is_address_write, operand_register}
use Rattle.qpu_isa.specs.{declared.inst.Reg.Reg, Word.add_a_of, Word.add_b_of, Word.op_add_of}
use Rattle.qpu_isa.specs.Setups.{is_direct, adds_direct, muls_direct}
use Rattle.shader_flow.specs.{Flow.word, Flow.checked_of, Flow.end_of, Pending.count_of, Pending.pending_of, Pending.takes}
use Rattle.clamp_facts.specs.Facts.{is_clamped, is_immediate}
use Rattle.clamp_facts.proofs.Clamps.{clamped_found, clamps_parts}
use Rattle.shader_check.specs.Info.{setups_held, asks, is_sample, sample_tmu, is_direct_sample, clamp_parts, sample_parts, sample_of}
use Rattle.shader_check.specs.Rules.{s24, direct_by_add, direct_by_mul, is_clamped_write, is_exact_address_write}
use Rattle.shader_check.proofs.{Clean.clean, Parts.directs, Positions.clamp_parts_one, Setups.sets_one, Setups.s_writes}
use Rattle.shader_check.proofs.Roles.{direct_parts, reads_takes, sets_takes, sum_parts, passed}
use Rattle.shader_check.proofs.SoundInfo.{address_takes, count_total, total_le}
use Rattle.emitted_facts.specs.Facts.{word_or_zero, setup}
use Rattle.machine_plan.specs.Regions.{Interval, Every, LiesIn, Inside, Rights, IsSafeIn}
use Rattle.machine_plan.specs.{Choice.word_at, Memory.bytes_at, declared.who.Who.Who}
use Rattle.machine_plan.specs.Plan.{Plan, Done, Wilds, Reads, Keeps}
use Rattle.texture_layouts.specs.Fits.{texture_questions}
use Rattle.qpu_alu.specs.Operation.{add_result_of}
use Rattle.qpu_machine.specs.declared.state.{Ask.TheVariants.Direct, Ask.TheVariants.Texture, Asked.Asked, Thread.Thread}
use Rattle.qpu_machine.specs.Operands.{operand, sums, add_row, mul_row}
use Rattle.qpu_machine.specs.{Row.lanes, Wild.takes_one, Wild.is_wild, Step.ThreadTurn, Step.turn_executed, Step.word_plan, Step.thread_plan}
use Rattle.qpu_machine.specs.Writes.{four, ask_of, ask_made, awake, past_uniform, switches}
use Rattle.qpu_machine.specs.declared.state.Fate.TheVariants.{Ends, Switches}
use Rattle.qpu_law.specs.{Asks.IsWordIn, Asks.IsFineAsk, Samples.AsksAreFine, Facts.FactsHold}
use Rattle.promises.specs.Rights.{IsOneOf}
use Rattle.qpu_law.specs.Home.{Home, thread_readied, HasNoFault, IsAt, ArePending, Lands, turn_done}
use Rattle.qpu_law.specs.Stream.{uniform_at, held_words, AreSetups}
use Rattle.qpu_law.specs.Thread.{IsHome, IsThread, HasSamples, Stands, Left, ThreadsKeep}
use Rattle.qpu_law.proofs.Going.{asked_is, fine_at, in_checked, fate_is, is_went, ends, stays_in_code_law, checked_is, never_wild, takes_same}
use Rattle.qpu_law.proofs.Values.{carried_operand, first_is, sum_lane, alu_loads_not, lane_at, immediate_found, facts_on, facts_jump, rows_on, fresh_is}
use Rattle.qpu_law.proofs.Pointer.{are_pending, IsPast, uniform_is, exact_at, added_at, pointer_goes, setups_on, setups_jump}
use Rattle.shader_flow.proofs.Ends.{checked_of-le}
use Rattle.uniform_stream.specs.Stream.{uniforms_of, writes_address}
use Rattle.machine_plan.proofs.Safe.{read_safe}

-- What a thread asks for.

-- word k of the setup words in work
word_k : (words : List ℕ) (count : ℕ → ℕ) (xs : List ℕ) (k : ℕ) → slice_index (map (λ i. slice_index words (count i)) xs) k ≡ word_or_zero (λ c. slice_index words c) (slice_get (map count xs) k)
word_k words count [] k = refl
word_k words count (x ∷ xs) zero = refl
word_k words count (x ∷ xs) (suc k) = word_k words count xs k

word_low : (h : Home) (o : Option ℕ) → ((k : ℕ) → slice_index h.words k < 2 ^ 32) → word_or_zero (λ c. slice_index h.words c) o < 2 ^ 32
word_low h o low = search (rules, arith)

-- a sample's setup words are the stream's at its parts
parts_word : (h : Home) (n : ℕ) → ℕ → ℕ
parts_word h n k = word_or_zero (λ c. slice_index h.words c) (slice_get (map (count_of h.code) (sample_parts h.code n)) k)

record SetupsAre (h : Home) (n : ℕ) : Type 0 where
  first : setup (λ c. slice_index h.words c) (sample_of h.code n) 0 ≡ parts_word h n 0
  second : setup (λ c. slice_index h.words c) (sample_of h.code n) 1 ≡ parts_word h n 1
  third : setup (λ c. slice_index h.words c) (sample_of h.code n) 2 ≡ parts_word h n 2
  fourth : setup (λ c. slice_index h.words c) (sample_of h.code n) 3 ≡ parts_word h n 3

setups_are : (h : Home) (n : ℕ) → SetupsAre h n
unfolding sample_of parts_word
setups_are h n = record { first = refl; second = refl; third = refl; fourth = refl }

every_lane : (P : ℕ → Type 0) (f : ℕ → ℕ) → ((e : ℕ) → e < 16 → P (f e)) → Every P (lanes f)
every_lane P f each = (each 0 (omega arith), (each 1 (omega arith), (each 2 (omega arith), (each 3 (omega arith), (each 4 (omega arith), (each 5 (omega arith), (each 6 (omega arith), (each 7 (omega arith), (each 8 (omega arith), (each 9 (omega arith), (each 10 (omega arith), (each 11 (omega arith), (each 12 (omega arith), (each 13 (omega arith), (each 14 (omega arith), (each 15 (omega arith), tt))))))))))))))))

sum_row : (t : Thread) (w u : ℕ) (words : List ℕ) → is_add_packed w ≡ false → is_load_imm w ≡ false
    → add_row t w u words ≡ sums (op_add_of w) (operand t w (add_a_of w) u words) (operand t w (add_b_of w) u words) words
unfolding add_row
sum_row t w u words plain no_load = grind (arith, common_steps, nat_tests)

every_sum : (P : ℕ → Type 0) (op : ℕ) (x y words : List ℕ) → ((e : ℕ) → e < 16 → P (slice_index (sums op x y words) e)) → Every P (sums op x y words)
unfolding sums
every_sum P op x y words each =
    let f : ℕ → ℕ = λ e. unwrap_or (add_result_of op (slice_index x e % 2 ^ 32) (slice_index y e % 2 ^ 32)) (word_at words (1 + e)) in
    every_lane P f (λ e below. subst (λ v. P v) (lane_at f e below) (each e below))

address_in : (x u source place bound size : ℕ) → x ≤ bound → u ≡ source + place → source + bound + 4 ≤ size → place + size ≤ 2 ^ 32 → place % 4096 ≡ 0
    → (a : ℕ) → a ≡ (x % 2 ^ 32 + u % 2 ^ 32) % 2 ^ 32 → LiesIn (a - a % 4) 4 (record { place = place; size = size })
address_in x u source place bound size upto u_is room low page a is = search (rules, arith)

-- the parts of a clamped write
record IsClampedWrite (code : List ℕ) (n : ℕ) : Type 0 where
  sum : is_add_with_uniform (word code n) ≡ true
  plain : is_add_packed (word code n) ≡ false
  reg : Reg
  first : first_register (word code n) ≡ Some reg
  clamped : is_clamped code n reg ≡ true

clamped_write : (code : List ℕ) (n : ℕ) → is_clamped_write code n ≡ true → IsClampedWrite code n
unfolding is_clamped_write
clamped_write code n is = search (rules, arith, and_parts, passed, not-true)

sum_alu : (w : ℕ) → is_add_with_uniform w ≡ true → is_alu w ≡ true
unfolding is_add_with_uniform
sum_alu w is = (and_parts (is_alu w) (op_add_of w == 12) (and_parts (is_alu w && op_add_of w == 12) (is_uniform_operand w (add_b_of w)) is).0).0

direct_words : (h : Home) (n j : ℕ) → is_direct_sample h.code n ≡ true → clamp_parts h.code n ≡ j ∷ [] → (parts_word h n 0 ≡ uniform_at h n) × (parts_word h n 1 ≡ uniform_at h j)
unfolding parts_word sample_parts
direct_words h n j direct parts = grind (arith, common_steps, nat_tests)

direct_is : (code : List ℕ) (n : ℕ) → (sample_of code n).direct ≡ is_direct_sample code n
unfolding sample_of
direct_is code n = refl

direct_fine : (h : Home) (buffers region : List Interval) (m : List ℕ) (n u p : ℕ) (words : List ℕ) (t : Thread) → IsHome m region h → HasSamples buffers h → IsThread h n t
    → (takes h.code n ≡ true → u ≡ uniform_at h n) → is_sample h.code n ≡ true → is_direct_sample h.code n ≡ true → is_clamped_write h.code n ≡ true
    → IsFineAsk (IsOneOf buffers) (Direct (add_row (thread_readied p words t) (word h.code n) u words))
direct_fine h buffers region m n u p words t home has is taken sample direct clamp =
    let code = h.code in
    let w = word code n in
    let inside : n < checked_of code = in_checked code n home.sound is.at.inside in
    let parts = clamped_write code n clamp in
    let found = clamped_found code n parts.reg parts.clamped in
    let carries = clamps_parts code found.0 n parts.reg found.1 in
    let positions = direct_words h n found.0 direct (clamp_parts_one code n found.0 parts.reg parts.first found.2) in
    let s = has.samples n sample in
    let set = setups_are h n in
    let u_is : u ≡ s.source + s.place = taken (reads_takes code n inside (sum_parts w parts.sum).0) ∙ (sym positions.0 ∙ (sym set.first ∙ s.base)) in
    let room = s.direct (direct_is code n ∙ direct) in
    let row = sum_row (thread_readied p words t) w u words parts.plain (alu_loads_not w (sum_alu w parts.sum)) in
    let within : Interval = record { place = s.place; size = s.size } in
    let each : (e : ℕ) → e < 16 → IsWordIn within (slice_index (add_row (thread_readied p words t) w u words) e) =
    λ e below.
    (let report = carried_operand h found.0 n u p words t (add_a_of w) parts.reg is.at is.facts carries.0 (first_is w parts.reg parts.first) e below in
    address_in (slice_index (operand (thread_readied p words t) w (add_a_of w) u words) e) u s.source s.place (uniform_at h found.0) s.size (report.clamped carries.1) u_is
    (omega (arith, room, set.second ∙ positions.1)) (has.low s.place s.size s.named) (has.page s.place s.size s.named)
    (slice_index (add_row (thread_readied p words t) w u words) e) (sum_lane (thread_readied p words t) w u words e below parts.plain parts.sum)) in
    record {
      place = s.place;
      size = s.size;
      named = s.named;
      reads = subst (λ r. Every (IsWordIn within) r) (sym row)
          (every_sum (IsWordIn within) (op_add_of w) (operand (thread_readied p words t) w (add_a_of w) u words) (operand (thread_readied p words t) w (add_b_of w) u words) words
          (λ e below. subst (λ r. IsWordIn within (slice_index r e)) row (each e below)));
    }

parts_by : (code : List ℕ) (n tmu : ℕ) → is_direct_sample code n ≡ false → sample_tmu (word code n) ≡ tmu → sample_parts code n ≡ setups_held code tmu n ++ (n ∷ [])
unfolding sample_parts
parts_by code n tmu direct tmu_is = grind (arith, common_steps, nat_tests)

slot_by : (h : Home) (n k : ℕ) → slice_index (map (uniform_at h) (sample_parts h.code n)) k ≡ parts_word h n k
unfolding parts_word
slot_by h n k = word_k h.words (count_of h.code) (sample_parts h.code n) k

low_by : (h : Home) (n k : ℕ) → ((c : ℕ) → slice_index h.words c < 2 ^ 32) → parts_word h n k < 2 ^ 32
unfolding parts_word
low_by h n k low = word_low h (slice_get (map (count_of h.code) (sample_parts h.code n)) k) low

texture_fine : (h : Home) (buffers : List Interval) (n tmu u : ℕ) (items : List ℕ) → HasSamples buffers h → is_sample h.code n ≡ true → is_direct_sample h.code n ≡ false
    → sample_tmu (word h.code n) ≡ tmu → items ≡ held_words h tmu n → u ≡ uniform_at h n → IsFineAsk (IsOneOf buffers) (Texture (four (items ++ (u ∷ []))))
unfolding four
texture_fine h buffers n tmu u items has sample direct tmu_is items_are u_is =
    let code = h.code in
    let s = has.samples n sample in
    let set = setups_are h n in
    let parts : sample_parts code n ≡ setups_held code tmu n ++ (n ∷ []) = parts_by code n tmu direct tmu_is in
    let all : items ++ (u ∷ []) ≡ map (uniform_at h) (sample_parts code n) =
    ap (λ xs. xs ++ (u ∷ [])) items_are ∙ (ap (λ v. held_words h tmu n ++ (v ∷ [])) u_is ∙ (sym (map-append (uniform_at h) (setups_held code tmu n) (n ∷ [])) ∙ ap (map (uniform_at h)) (sym parts))) in
    let slot : (k : ℕ) → slice_index (items ++ (u ∷ [])) k ≡ parts_word h n k = λ k. ap (λ xs. slice_index xs k) all ∙ slot_by h n k in
    let one_is = slot 1 ∙ sym set.second in
    let two_is = slot 2 ∙ sym set.third in
    let three_is = slot 3 ∙ sym set.fourth in
    record {
      place = s.place;
      size = s.size;
      named = s.named;
      reads = record {
        source = s.source;
        base = (slot 0 ∙ sym set.first) ∙ s.base;
        word = subst (λ v. v < 2 ^ 32) (sym (slot 0)) (low_by h n 0 has.words);
        page = has.page s.place s.size s.named;
        rules = ap (λ v. first_of (texture_questions s.source v (slice_index (items ++ (u ∷ [])) 2) (slice_index (items ++ (u ∷ [])) 3) s.size)) one_is
            ∙ (ap (λ v. first_of (texture_questions s.source (setup (λ c. slice_index h.words c) (sample_of code n) 1) v (slice_index (items ++ (u ∷ [])) 3) s.size)) two_is
            ∙ (ap (λ v. first_of (texture_questions s.source (setup (λ c. slice_index h.words c) (sample_of code n) 1) (setup (λ c. slice_index h.words c) (sample_of code n) 2) v s.size)) three_is
            ∙ s.texture (direct_is code n ∙ direct)));
      };
    }

direct_now : (w tmu pending : ℕ) → writes_s w tmu ≡ true → (pending == 0) ≡ true → is_direct w tmu pending ≡ true
unfolding writes_s names_address is_direct adds_direct muls_direct
direct_now w tmu pending writes none = grind (arith, common_steps, nat_tests, or_cases, or_left, and_from, or_right)

direct_not : (w tmu pending : ℕ) → (pending == 0) ≡ false → is_direct w tmu pending ≡ false
unfolding is_direct adds_direct muls_direct
direct_not w tmu pending some = grind (arith, common_steps, nat_tests, or_from, and_right)

no_mul : (code : List ℕ) (n : ℕ) → s24 code n ≡ false → direct_by_mul code n ≡ false
unfolding s24
no_mul code n none = (or_parts (direct_by_add code n && not (is_clamped_write code n)) (direct_by_mul code n) none).1

no_mul_at : (code : List ℕ) (n tmu : ℕ) → tmu < 2 → direct_by_mul code n ≡ false → muls_direct (word code n) tmu (pending_of code tmu n) ≡ false
unfolding direct_by_mul
no_mul_at code n tmu small none = search (rules, arith, or_parts)

add_by : (a m z : Bool) → (a || m) ≡ true → z ≡ true → (m && z) ≡ false → a ≡ true
add_by a m z either is none = search (rules, arith, true≢false)

add_writes : (w tmu pending : ℕ) → writes_s w tmu ≡ true → (pending == 0) ≡ true → muls_direct w tmu pending ≡ false → add_names w (s_address tmu) ≡ true
unfolding writes_s names_address muls_direct
add_writes w tmu pending writes none muls = add_by (add_names w (s_address tmu)) (mul_names w (s_address tmu)) (pending == 0) writes none muls

direct_sample_is : (code : List ℕ) (n tmu : ℕ) → sample_tmu (word code n) ≡ tmu → is_direct_sample code n ≡ is_direct (word code n) tmu (pending_of code tmu n)
unfolding is_direct_sample
direct_sample_is code n tmu is = ap (λ k. is_direct (word code n) k (pending_of code k n)) is

ask_by : (h : Home) (buffers region : List Interval) (m : List ℕ) (n u p tmu : ℕ) (words product items : List ℕ) (t : Thread) (c : Bool) → IsHome m region h → HasSamples buffers h → IsThread h n t
    → (takes h.code n ≡ true → u ≡ uniform_at h n) → is_sample h.code n ≡ true → tmu < 2 → writes_s (word h.code n) tmu ≡ true → sample_tmu (word h.code n) ≡ tmu
    → items ≡ held_words h tmu n → (pending_of h.code tmu n == 0) ≡ c
    → IsFineAsk (IsOneOf buffers)
    (if c then Direct (if add_names (word h.code n) (s_address tmu) then add_row (thread_readied p words t) (word h.code n) u words else product) else Texture (four (items ++ (u ∷ []))))
ask_by h buffers region m n u p tmu words product items t true home has is taken sample small writes tmu_is items_are none =
    let w = word h.code n in
    let inside : n < checked_of h.code = in_checked h.code n home.sound is.at.inside in
    let direct : is_direct w tmu (pending_of h.code tmu n) ≡ true = direct_now w tmu (pending_of h.code tmu n) writes none in
    let clamp = (direct_parts h.code n (clean h.code home.sound n inside) (directs h.code n tmu small direct)).1 in
    let muls = no_mul_at h.code n tmu small (no_mul h.code n (fine_at h.code home.sound n inside).no24) in
    let adds : add_names w (s_address tmu) ≡ true = add_writes w tmu (pending_of h.code tmu n) writes none muls in
    subst (λ b. IsFineAsk (IsOneOf buffers) (Direct (if b then add_row (thread_readied p words t) w u words else product))) (sym adds)
    (direct_fine h buffers region m n u p words t home has is taken sample (direct_sample_is h.code n tmu tmu_is ∙ direct) clamp)
ask_by h buffers region m n u p tmu words product items t false home has is taken sample small writes tmu_is items_are some =
    let w = word h.code n in
    let inside : n < checked_of h.code = in_checked h.code n home.sound is.at.inside in
    let direct : is_direct w tmu (pending_of h.code tmu n) ≡ false = direct_not w tmu (pending_of h.code tmu n) some in
    let takes_it : takes h.code n ≡ true = sets_takes h.code n inside (sets_one h.code tmu n small (s_writes w tmu writes) direct) in
    texture_fine h buffers n tmu u items has sample (direct_sample_is h.code n tmu tmu_is ∙ direct) tmu_is items_are (taken takes_it)

ask_fine : (h : Home) (buffers region : List Interval) (m : List ℕ) (n u p tmu : ℕ) (words product items : List ℕ) (t : Thread) → IsHome m region h → HasSamples buffers h → IsThread h n t
    → (takes h.code n ≡ true → u ≡ uniform_at h n) → is_sample h.code n ≡ true → tmu < 2 → writes_s (word h.code n) tmu ≡ true → sample_tmu (word h.code n) ≡ tmu
    → items ≡ held_words h tmu n → length items ≡ pending_of h.code tmu n
    → IsFineAsk (IsOneOf buffers) (ask_of (word h.code n) tmu u (add_row (thread_readied p words t) (word h.code n) u words) product items)
unfolding ask_of
ask_fine h buffers region m n u p tmu words product items t home has is taken sample small writes tmu_is items_are size =
    ask_by h buffers region m n u p tmu words product items t (length items == 0) home has is taken sample small writes tmu_is items_are (ap (λ k. k == 0) (sym size))

sample_now : (code : List ℕ) (n tmu : ℕ) → n < checked_of code → (writes_s (word code n) 0 || writes_s (word code n) 1) ≡ true → is_sample code n ≡ true
unfolding is_sample asks
sample_now code n tmu inside writes = and_from (nat_lt n (checked_of code)) (writes_s (word code n) 0 || writes_s (word code n) 1) (lt-ltb n (checked_of code) inside) writes

sample_zero : (w : ℕ) → writes_s w 0 ≡ true → sample_tmu w ≡ 0
unfolding sample_tmu
sample_zero w is = ap (λ b. if b then 0 else 1) is

sample_one : (w : ℕ) → writes_s w 0 ≡ false → sample_tmu w ≡ 1
unfolding sample_tmu
sample_one w is = ap (λ b. if b then 0 else 1) is

same_ask : (x y : Asked) → Some x ≡ Some y → x ≡ y
same_ask x y is = cc

asked_by : (h : Home) (buffers region : List Interval) (m : List ℕ) (n u p : ℕ) (words : List ℕ) (t : Thread) (a b : Bool) → IsHome m region h → HasSamples buffers h → IsThread h n t
    → (takes h.code n ≡ true → u ≡ uniform_at h n) → writes_s (word h.code n) 0 ≡ a → writes_s (word h.code n) 1 ≡ b
    → (ask : Asked)
    → (if a then Some (record { tmu = 0; ask = ask_of (word h.code n) 0 u (add_row (thread_readied p words t) (word h.code n) u words) (mul_row (thread_readied p words t) (word h.code n) u words) t.setups0.items })
    else (if b then Some (record { tmu = 1; ask = ask_of (word h.code n) 1 u (add_row (thread_readied p words t) (word h.code n) u words) (mul_row (thread_readied p words t) (word h.code n) u words) t.setups1.items }) else None)) ≡ Some ask
    → IsFineAsk (IsOneOf buffers) ask.ask
asked_by h buffers region m n u p words t true b home has is taken first second ask asks_it =
    let inside : n < checked_of h.code = in_checked h.code n home.sound is.at.inside in
    let size = are_pending h n t home.sound (omega (arith, inside)) is.setups in
    let one : Asked = record { tmu = 0; ask = ask_of (word h.code n) 0 u (add_row (thread_readied p words t) (word h.code n) u words) (mul_row (thread_readied p words t) (word h.code n) u words) t.setups0.items } in
    subst (λ (x : Asked). IsFineAsk (IsOneOf buffers) x.ask) (same_ask one ask asks_it)
    (ask_fine h buffers region m n u p 0 words (mul_row (thread_readied p words t) (word h.code n) u words) t.setups0.items t home has is taken
    (sample_now h.code n 0 inside (or_left (writes_s (word h.code n) 0) (writes_s (word h.code n) 1) first)) (omega arith) first (sample_zero (word h.code n) first) is.setups.tmu0 size.tmu0)
asked_by h buffers region m n u p words t false true home has is taken first second ask asks_it =
    let inside : n < checked_of h.code = in_checked h.code n home.sound is.at.inside in
    let size = are_pending h n t home.sound (omega (arith, inside)) is.setups in
    let one : Asked = record { tmu = 1; ask = ask_of (word h.code n) 1 u (add_row (thread_readied p words t) (word h.code n) u words) (mul_row (thread_readied p words t) (word h.code n) u words) t.setups1.items } in
    subst (λ (x : Asked). IsFineAsk (IsOneOf buffers) x.ask) (same_ask one ask asks_it)
    (ask_fine h buffers region m n u p 1 words (mul_row (thread_readied p words t) (word h.code n) u words) t.setups1.items t home has is taken
    (sample_now h.code n 1 inside (or_right (writes_s (word h.code n) 0) (writes_s (word h.code n) 1) second)) (omega arith) second (sample_one (word h.code n) first) is.setups.tmu1 size.tmu1)
asked_by h buffers region m n u p words t false false home has is taken first second ask asks_it = absurd cc

pub asks_are_fine_law : AsksAreFine
unfolding ask_made awake
asks_are_fine_law h buffers region m n u p words t home has is taken ask asks_it =
    asked_by h buffers region m n u p words t (writes_s (word h.code n) 0) (writes_s (word h.code n) 1) home has is taken refl refl ask
    (sym (asked_is (word h.code n) u p words t) ∙ asks_it)

-- What an exact address write is made of.
pub record IsExactSum (code : List ℕ) (n : ℕ) (reg : Reg) : Type 0 where
  pub sum : is_add_with_uniform (word code n) ≡ true
  pub first : operand_register (word code n) (add_a_of (word code n)) ≡ Some reg
  pub value : is_immediate code n reg (4 * (count_of code n + 1)) ≡ true

exact_sum : (code : List ℕ) (n : ℕ) → is_exact_address_write code n ≡ true → (reg : Reg) × IsExactSum code n reg
unfolding is_exact_address_write first_register
exact_sum code n is = search (rules, arith, and_parts, passed)

whole_sum : (v u stream count most : ℕ) → v ≡ 4 * (count + 1) → u ≡ stream → count < most → stream + 4 * most < 2 ^ 32
    → (v % 2 ^ 32 + u % 2 ^ 32) % 2 ^ 32 % 2 ^ 32 ≡ stream + 4 * (count + 1)
whole_sum v u stream count most v_is u_is less low = omega (arith, v_is, u_is, less, low)

write_at : (code : List ℕ) (n : ℕ) → n < checked_of code → is_address_write (word code n) ≡ true → writes_address code n ≡ true
unfolding writes_address
write_at code n inside is = and_from (nat_lt n (checked_of code)) (is_address_write (word code n)) (lt-ltb n (checked_of code) inside) is

-- A write of the address leads to the word after the one that it takes.
address_sum : (h : Home) (m : List ℕ) (rights : Rights) (n u p : ℕ) (words : List ℕ) (t : Thread) → IsHome m rights.region h → IsThread h n t
    → (takes h.code n ≡ true → u ≡ uniform_at h n) → is_address_write (word h.code n) ≡ true
    → slice_index (add_row (thread_readied p words t) (word h.code n) u words) 0 % 2 ^ 32 ≡ h.stream + 4 * (count_of h.code n + 1)
address_sum h m rights n u p words t home is taken writes =
    let code = h.code in
    let w = word code n in
    let inside : n < checked_of code = in_checked code n home.sound is.at.inside in
    let takes_it : takes code n ≡ true = address_takes code n (clean code home.sound n inside) inside writes in
    let exact = exact_sum code n (exact_at code n home.sound inside writes) in
    let added = added_at code n home.sound inside writes in
    let found = immediate_found code n exact.0 (4 * (count_of code n + 1)) exact.1.value in
    let report = carried_operand h found.0 n u p words t (add_a_of w) exact.0 is.at is.facts found.1 exact.1.first 0 (omega arith) in
    let v_is : slice_index (operand (thread_readied p words t) w (add_a_of w) u words) 0 ≡ 4 * (count_of code n + 1) = report.loaded (4 * (count_of code n + 1)) found.2 in
    let here : writes_address code n ≡ true = write_at code n inside writes in
    let u_is : u ≡ h.stream = taken takes_it ∙ home.addresses (count_of code n) (inl (record { by = n; writes = here; is = refl })) in
    let less = count_total code n inside takes_it in
    let most = total_le code in
    ap (λ v. v % 2 ^ 32) (sum_lane (thread_readied p words t) w u words 0 (omega arith) added.plain exact.1.sum)
    ∙ whole_sum (slice_index (operand (thread_readied p words t) w (add_a_of w) u words) 0) u h.stream (count_of code n) (uniforms_of code) v_is u_is (omega (arith, less, most)) home.stream_low

setups_goes : (h : Home) (n to : ℕ) (t next : Thread) → IsThread h n t → IsAt h to next → HasNoFault h.code → n + 1 < checked_of h.code
    → (to ≡ n + 1) ⊎ Lands h.code n to t next → AreSetups h (n + 1) next → AreSetups h to next
setups_goes h n to t next is at none inside (inl on) are = subst (λ i. AreSetups h i next) (sym on) are
setups_goes h n to t next is at none inside (inr way) are = search (rules, arith, setups_jump, in_checked)

facts_goes : (h : Home) (n to : ℕ) (t next : Thread) → (to ≡ n + 1) ⊎ Lands h.code n to t next → FactsHold h (n + 1) next → FactsHold h to next
facts_goes h n to t next h5 facts = search (rules, arith, facts_jump)

-- after the instruction, where the thread lives on
stands_after : (h : Home) (m : List ℕ) (rights : Rights) (n u p : ℕ) (words : List ℕ) (t : Thread) → IsHome m rights.region h → IsThread h n t
    → (takes h.code n ≡ true → u ≡ uniform_at h n) → IsPast h n p t → (turn_done (word h.code n) u p words t).leaves.fate ≢ Ends → Stands h (turn_done (word h.code n) u p words t).thread
stands_after h m rights n u p words t home is taken past lives =
    let next = (turn_done (word h.code n) u p words t).thread in
    let inside : n < checked_of h.code = in_checked h.code n home.sound is.at.inside in
    let more : n ≢ end_of h.code + 2 = λ last. lives (fate_is (word h.code n) u p words t ∙ ends h n t home.sound is.at last) in
    let on_in : n + 1 < checked_of h.code = omega (arith, checked_is h.code home.sound, is.at.inside, more) in
    let goes = stays_in_code_law h n u p words t home.sound home.low is.at lives in
    record {
      index = goes.to;
      is = record {
        at = goes.at;
        rows = rows_on (word h.code n) u p words t is.rows;
        facts = facts_goes h n goes.to t next goes.way (facts_on h n u p words t inside is.at is.rows is.facts taken);
        setups = setups_goes h n goes.to t next is goes.at home.sound on_in goes.way (setups_on h n u p words t inside taken is.setups);
        pointer = pointer_goes h n goes.to u p words t home.sound home.few home.stream_low on_in
            (address_sum h m rights n u p words t home is taken) past goes.way is.pointer;
      };
    }

fresh_by : (w u p : ℕ) (words : List ℕ) (t : Thread) → (turn_done w u p words t).leaves.fate ≡ Switches → (turn_done w u p words t).thread.fresh ≡ true
fresh_by w u p words t is = fresh_is w u p words t ∙ ap (λ f. switches f || false) (sym (fate_is w u p words t) ∙ is)

left : (h : Home) (buffers : List Interval) (m : List ℕ) (rights : Rights) (n u p : ℕ) (words : List ℕ) (t : Thread) → IsHome m rights.region h → HasSamples buffers h → IsThread h n t
    → (takes h.code n ≡ true → u ≡ uniform_at h n) → IsPast h n p t → Left h buffers t m m (turn_done (word h.code n) u p words t)
left h buffers m rights n u p words t home has is taken past =
    let went = is_went (word h.code n) u p words t in
    record {
      memory = refl;
      stands = stands_after h m rights n u p words t home is taken past;
      asks = asks_are_fine_law h buffers rights.region m n u p words t home has is taken;
      job = went.job;
      threaded = went.threaded;
      rests = fresh_by (word h.code n) u p words t;
    }

-- the two ways to go on
taken_keeps : (h : Home) (buffers : List Interval) (m : List ℕ) (rights : Rights) (n : ℕ) (words : List ℕ) (t : Thread) (who : Who) → IsHome m rights.region h → HasSamples buffers h → IsThread h n t → takes h.code n ≡ true
    → Keeps who (Inside rights.region) (IsSafeIn rights) (λ k turn. Left h buffers t m k turn) (Reads t.uniforms 4 (λ bytes. Done (turn_executed (word h.code n) (u32_at bytes 0) words (awake words (past_uniform t))))) m
unfolding past_uniform
taken_keeps h buffers m rights n words t who home has is takes_it =
    let fetch = uniform_is h n t home.sound home.addresses is.pointer takes_it in
    let value : u32_at (bytes_at m t.uniforms 4) 0 ≡ uniform_at h n =
    ap (λ q. u32_at (bytes_at m q 4) 0) fetch.is ∙ (home.stream_is fetch.at fetch.below ∙ fetch.same) in (
      read_safe rights who t.uniforms 4 (subst (λ q. Inside rights.region q 4) (sym fetch.is) (home.stream_in fetch.at fetch.below)),
      left h buffers m rights n (u32_at (bytes_at m t.uniforms 4) 0) ((t.uniforms + 4) % 2 ^ 32) words t home has is (λ again. value)
          (record { taken = λ again. refl; untaken = λ none. absurd (true≢false (sym takes_it ∙ none)) }),
    )

untaken_keeps : (h : Home) (buffers : List Interval) (m : List ℕ) (rights : Rights) (n : ℕ) (words : List ℕ) (t : Thread) (who : Who) → IsHome m rights.region h → HasSamples buffers h → IsThread h n t → takes h.code n ≡ false
    → Keeps who (Inside rights.region) (IsSafeIn rights) (λ k turn. Left h buffers t m k turn) (Done (turn_executed (word h.code n) 0 words (awake words t))) m
untaken_keeps h buffers m rights n words t who home has is untaken =
    left h buffers m rights n 0 t.uniforms words t home has is (λ again. absurd (true≢false (sym again ∙ untaken)))
    (record { taken = λ again. absurd (true≢false (sym again ∙ untaken)); untaken = λ none. refl })

choice_keeps : (h : Home) (buffers : List Interval) (m : List ℕ) (rights : Rights) (n : ℕ) (words : List ℕ) (t : Thread) (who : Who) (b : Bool) → IsHome m rights.region h → HasSamples buffers h → IsThread h n t → takes h.code n ≡ b
    → Keeps who (Inside rights.region) (IsSafeIn rights) (λ k turn. Left h buffers t m k turn)
    (if b then Reads t.uniforms 4 (λ bytes. Done (turn_executed (word h.code n) (u32_at bytes 0) words (awake words (past_uniform t)))) else Done (turn_executed (word h.code n) 0 words (awake words t))) m
choice_keeps h buffers m rights n words t who true home has is taken = taken_keeps h buffers m rights n words t who home has is taken
choice_keeps h buffers m rights n words t who false home has is untaken = untaken_keeps h buffers m rights n words t who home has is untaken

word_keeps : (h : Home) (buffers : List Interval) (m : List ℕ) (rights : Rights) (n : ℕ) (words : List ℕ) (t : Thread) (who : Who) → IsHome m rights.region h → HasSamples buffers h → IsThread h n t
    → Keeps who (Inside rights.region) (IsSafeIn rights) (λ k turn. Left h buffers t m k turn) (word_plan t (word h.code n) words) m
unfolding word_plan
word_keeps h buffers m rights n words t who home has is =
    let w = word h.code n in
    let inside : n < checked_of h.code = in_checked h.code n home.sound is.at.inside in
    let pending : ArePending h.code n t = are_pending h n t home.sound (omega (arith, inside)) is.setups in
    let tame : is_wild t w ≡ false = never_wild h n t home.sound is.at pending in
    let on : Plan ThreadTurn =
    if takes_one t w then Reads t.uniforms 4 (λ bytes. Done (turn_executed w (u32_at bytes 0) words (awake words (past_uniform t)))) else Done (turn_executed w 0 words (awake words t)) in
    subst (λ b. Keeps who (Inside rights.region) (IsSafeIn rights) (λ k turn. Left h buffers t m k turn) (if b then Wilds else on) m) (sym tame)
    (choice_keeps h buffers m rights n words t who (takes_one t w) home has is (sym (takes_same h.code n t inside pending)))

pub threads_keep_law : ThreadsKeep
unfolding thread_plan
threads_keep_law h buffers m rights n t who words home has is =
    let there : n < length h.code = omega (arith, in_checked h.code n home.sound is.at.inside, checked_of-le h.code) in
    let place = is.at.place in
    let read : from_le_bytes w64 (bytes_at m t.place 8) ≡ word h.code n = ap (λ q. from_le_bytes w64 (bytes_at m q 8)) place ∙ home.code_is n there in (
      read_safe rights who t.place 8 (subst (λ q. Inside rights.region q 8) (sym place) (home.code_in n there)),
      subst (λ w. Keeps who (Inside rights.region) (IsSafeIn rights) (λ k turn. Left h buffers t m k turn) (word_plan t w words) m) (sym read)
          (word_keeps h buffers m rights n words t who home has is),
    )
