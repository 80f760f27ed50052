-- What a register holds after an instruction.
use Rattle.std.proofs.Common.{◌≡◌, ◌≢◌, ◌<◌, inl, inr, ℕ, ◌+◌, ◌-◌, Bool, true, false, ◌&&◌, ◌||◌, ◌==◌, not, Option, List, [], length, refl, sym, ap, arith, ◌∙◌, nat_lt, nat_le, if◌then◌else◌, ◌≤◌, ◌⊎◌, ◌%◌, ◌^◌, Some, None, subst, rules}
use Rattle.std.proofs.lemmas.Bool.{cases_Bool, and_from, or_parts, eqb-true, eqb-false, lt-ltb, le-leb, agree_below_at, and_parts, not-true, or_cases, true≢false, ltb-true, cases_eq, leb-true, false_from_ne_true, not_from_false}
use Rattle.std.proofs.lemmas.List.{length-set, get_or-set_same, get_or-set_other, get_or-replicate, FromFn.get_or-map-range_with_len}
use Rattle.std.proofs.{Math.Bool.not-not, lemmas.Grind.common_steps, lemmas.Bool.Decides.nat_tests}
use Rattle.std.specs.Prelude.{slice_index, slice_index_or, slice_set, unwrap_or}
use Rattle.qpu_isa.specs.declared.inst.Reg.{Reg, TheVariants.A, TheVariants.B, TheVariants.Acc}
use Rattle.qpu_isa.specs.Word.{ws_of, waddr_add_of, waddr_mul_of, cond_add_of, cond_mul_of, raddr_a_of, raddr_b_of, add_a_of, add_b_of, op_add_of}
use Rattle.qpu_isa.specs.Terms.{is_branch, add_names, mul_names, add_names_reg, mul_names_reg, names, sets_alone, is_add_packed, is_alu, is_load_imm, has_small, is_plain, is_uniform_operand, loaded_value, is_max_with_zero, is_min_with_uniform, is_add_with_uniform, operand_register, is_accumulator, is_switch, first_register}
use Rattle.qpu_isa.specs.Report.{IsRegister}
use Rattle.qpu_machine.specs.declared.state.{Thread.Thread, Fate.TheVariants.GoesOn, Fate.TheVariants.Switches, Fate.TheVariants.Ends}
use Rattle.qpu_machine.specs.Operands.{add_row, mul_row, read_a, read_b, small_row, operand, immediate_row, sums}
use Rattle.qpu_machine.specs.Writes.{awake, file_after, acc_after, add_address, mul_address, written_at, after_add, after_multiply, after_writes, after_setup, after_load, r4_after, went_on, after_work, after_rest, fate_of, switches}
use Rattle.qpu_machine.specs.Row.{lanes, has_lane, rows_merged, mask_of, chosen_row, chosen_rows, row_of_word}
use Rattle.qpu_machine.specs.Step.{turn_executed, executed_with}
use Rattle.qpu_law.specs.{Home.thread_readied, Home.turn_done, Home.Home, Home.IsAt, Stream.uniform_at}
use Rattle.qpu_law.specs.Facts.{row_of, HasRows, IsMade, Tells, FactsHold}
use Rattle.qpu_alu.specs.Operation.{add_result_of, signed_min, signed_max}
use Rattle.qpu_alu.proofs.Order.{signed_max_zero, signed_max_zero_first, signed_min-upto}
use Rattle.machine_plan.specs.Choice.{word_at}
use Rattle.shader_flow.specs.{Flow.word, Flow.is_target, Flow.checked_of, Bounded.some_in, Pending.takes}
use Rattle.shader_flow.proofs.Bounded.{some_in_not, some_in_none, some_below_here, some_below_none, some_below_not}
use Rattle.clamp_facts.specs.Facts.{stays, switches_between, is_delayed, carrier_of, is_max_at, is_not_negative, makes_clamp, fact_of_write, fact_by, fact_at, is_immediate}
use Rattle.clamp_facts.specs.{declared.fact.Fact.Fact, Upkeep.IsCarrier, Readings.is_value, Readings.value_in}
use Rattle.clamp_facts.proofs.Carriers.{stays_quiet, sets_parts, carried_parts, carrier_found, value_of_made}
use Rattle.shader_check.proofs.Roles.{reads_takes, min_parts, passed}

pub lane_at : (f : ℕ → ℕ) (e : ℕ) → e < 16 → slice_index (lanes f) e ≡ f e
lane_at f e below = get_or-map-range_with_len f 0 16 e e 0 below (omega arith)

full_lane : (e : ℕ) → e < 16 → has_lane 65535 e ≡ true
unfolding has_lane
full_lane e below = agree_below_at (has_lane 65535) (λ k. true) 16 e refl below

pub merged_full : (old new : List ℕ) (e : ℕ) → e < 16 → slice_index (rows_merged 65535 old new) e ≡ slice_index new e
unfolding rows_merged
merged_full old new e below = search (rules, arith, lane_at, full_lane)

-- a file
file_other_by : (on : Bool) (address reg mask : ℕ) (value : List ℕ) (file : List (List ℕ)) → (on && address == reg) ≡ false
    → slice_index_or (if on && nat_lt address 32 then slice_set file address (rows_merged mask (slice_index_or file address []) value) else file) reg [] ≡ slice_index_or file reg []
file_other_by on address reg mask value file other = search (rules, arith, eqb-false, cases_Bool, get_or-set_other)

file_other : (on : Bool) (address reg mask : ℕ) (value : List ℕ) (file : List (List ℕ)) → (on && address == reg) ≡ false
    → slice_index_or (file_after on address mask value file) reg [] ≡ slice_index_or file reg []
unfolding file_after
file_other on address reg mask value file other = file_other_by on address reg mask value file other

file_set : (on : Bool) (address reg mask : ℕ) (value : List ℕ) (file : List (List ℕ)) → on ≡ true → address ≡ reg → reg < 32 → length file ≡ 32
    → slice_index_or (file_after on address mask value file) reg [] ≡ rows_merged mask (slice_index_or file reg []) value
unfolding file_after
file_set on address reg mask value file is same low size = grind (arith, common_steps, nat_tests, lt-ltb, get_or-set_same)

file_size : (on : Bool) (address mask : ℕ) (value : List ℕ) (file : List (List ℕ)) → length (file_after on address mask value file) ≡ length file
unfolding file_after
file_size on address mask value file = grind (arith, common_steps, nat_tests, cases_Bool, length-set)

-- r0 to r3
acc_other : (address reg mask : ℕ) (value words : List ℕ) (acc : List (List ℕ)) → (address == 32 + reg) ≡ false → reg < 4
    → slice_index_or (acc_after address mask value words acc) reg [] ≡ slice_index_or acc reg []
unfolding acc_after
acc_other address reg mask value words acc other low = grind (arith, nat_tests, get_or-set_other, low, eqb-false address (32 + reg) other)

acc_set : (address reg mask : ℕ) (value words : List ℕ) (acc : List (List ℕ)) → address ≡ 32 + reg → reg < 4 → length acc ≡ 6
    → slice_index_or (acc_after address mask value words acc) reg [] ≡ rows_merged mask (slice_index_or acc reg []) value
unfolding acc_after
acc_set address reg mask value words acc is low size = grind (arith, common_steps, nat_tests, and_from, le-leb, lt-ltb, get_or-set_same)

acc_size : (address mask : ℕ) (value words : List ℕ) (acc : List (List ℕ)) → length (acc_after address mask value words acc) ≡ length acc
unfolding acc_after
acc_size address mask value words acc = grind (arith, common_steps, length-set)

-- loads change r4 alone
r4_other : (w : ℕ) (words : List ℕ) (results0 results1 : List (Option (List ℕ))) (acc : List (List ℕ)) (reg : ℕ) → reg < 4
    → slice_index_or (r4_after w words results0 results1 acc) reg [] ≡ slice_index_or acc reg []
unfolding r4_after
r4_other w words results0 results1 acc reg low = grind (arith, nat_tests, get_or-set_other, low)

r4_size : (w : ℕ) (words : List ℕ) (results0 results1 : List (Option (List ℕ))) (acc : List (List ℕ)) → length (r4_after w words results0 results1 acc) ≡ length acc
unfolding r4_after
r4_size w words results0 results1 acc = grind (arith, common_steps, length-set)

-- The units' write addresses, as the rules name them.
named_same : (branch : Bool) (address k : ℕ) → k ≢ 39 → ((if branch then 39 else address) == k) ≡ (not branch && address == k)
named_same branch address k other = search (rules, arith)

add_same : (w k : ℕ) → k ≢ 39 → (add_address w == k) ≡ add_names w k
unfolding add_address add_names
add_same w k other = named_same (is_branch w) (waddr_add_of w) k other

mul_same : (w k : ℕ) → k ≢ 39 → (mul_address w == k) ≡ mul_names w k
unfolding mul_address mul_names
mul_same w k other = named_same (is_branch w) (waddr_mul_of w) k other

below_apart : (k : ℕ) → k < 36 → k ≢ 39
below_apart k low is = omega (arith, low, is)

-- after the add unit's write, and after both
abbrev summed : ℕ → ℕ → ℕ → List ℕ → Thread → Thread
summed w u p words t = after_add w (add_row (thread_readied p words t) w u words) words (thread_readied p words t)

written_row : (w u p : ℕ) (words : List ℕ) (t : Thread) (reg : Reg) → IsRegister reg
    → row_of (turn_done w u p words t).thread reg ≡ row_of (after_multiply w (mul_row (thread_readied p words t) w u words) words (summed w u p words t)) reg
unfolding turn_executed executed_with after_rest after_work went_on after_load after_setup after_writes after_multiply written_at after_add awake
written_row w u p words t reg known = search (rules, arith, r4_other)

add_leaves : (w : ℕ) (value words : List ℕ) (t : Thread) (reg : Reg) → IsRegister reg → add_names_reg w reg ≡ false → row_of (after_add w value words t) reg ≡ row_of t reg
unfolding after_add written_at add_names_reg
add_leaves w value words t reg low none = search (rules, arith, file_other, add_same, below_apart, not-not, acc_other)

mul_leaves : (w : ℕ) (value words : List ℕ) (t : Thread) (reg : Reg) → IsRegister reg → mul_names_reg w reg ≡ false → row_of (after_multiply w value words t) reg ≡ row_of t reg
unfolding after_multiply written_at mul_names_reg
mul_leaves w value words t reg low none = search (rules, arith, file_other, mul_same, below_apart, acc_other)

-- An instruction that doesn't name a register leaves it as the thread began.
pub register_same : (w u p : ℕ) (words : List ℕ) (t : Thread) (reg : Reg) → IsRegister reg → names w reg ≡ false
    → row_of (turn_done w u p words t).thread reg ≡ row_of (thread_readied p words t) reg
unfolding names
register_same w u p words t reg known none = grind (arith, common_steps, nat_tests, or_parts, written_row, mul_leaves, add_leaves)

full_mask : (cond : ℕ) (words : List ℕ) → cond ≡ 1 → mask_of cond words 0 ≡ 65535
unfolding mask_of
full_mask cond words is = ap (λ c. mask_of c words 0) is

address_is : (w k : ℕ) → k ≢ 39 → add_names w k ≡ true → add_address w ≡ k
address_is w k other named = eqb-true (add_address w) k (add_same w k other ∙ named)

add_sets : (w : ℕ) (value words : List ℕ) (t : Thread) (reg : Reg) → IsRegister reg → HasRows t → add_names_reg w reg ≡ true
    → row_of (after_add w value words t) reg ≡ rows_merged (mask_of (cond_add_of w) words 0) (row_of t reg) value
unfolding after_add written_at add_names_reg
add_sets w value words t reg low rows named = search (rules, arith, and_parts, file_set, address_is, below_apart, not-not, acc_set)

chosen_size : (words : List ℕ) → length (chosen_rows words) ≡ 6
unfolding chosen_rows
chosen_size words = refl

ready_size : (fresh : Bool) (words : List ℕ) (acc : List (List ℕ)) → length acc ≡ 6 → length (if fresh then chosen_rows words else acc) ≡ 6
ready_size fresh words acc size = search (rules, arith, chosen_size)

pub ready_rows : (p : ℕ) (words : List ℕ) (t : Thread) → HasRows t → HasRows (thread_readied p words t)
unfolding awake
ready_rows p words t rows = record { a = rows.a; b = rows.b; acc = ready_size t.fresh words t.acc rows.acc }

-- One that alone sets a register leaves in each element what its add unit came to.
pub register_set : (w u p : ℕ) (words : List ℕ) (t : Thread) (reg : Reg) → IsRegister reg → HasRows t → sets_alone w reg ≡ true
    → (e : ℕ) → e < 16 → slice_index (row_of (turn_done w u p words t).thread reg) e ≡ slice_index (add_row (thread_readied p words t) w u words) e
unfolding sets_alone
register_set w u p words t reg known rows alone e below = search (rules, arith, and_parts, written_row, mul_leaves, not-true, add_sets, ready_rows, full_mask, eqb-true, merged_full)

pub rows_on : (w u p : ℕ) (words : List ℕ) (t : Thread) → HasRows t → HasRows (turn_done w u p words t).thread
unfolding turn_executed executed_with after_rest after_work went_on after_load after_setup after_writes after_multiply after_add written_at awake
rows_on w u p words t rows =
    let ready = ready_rows p words t rows in
    let t0 = thread_readied p words t in
    let sum = add_row t0 w u words in
    let product = mul_row t0 w u words in
    let m0 = mask_of (cond_add_of w) words 0 in
    let m16 = mask_of (cond_mul_of w) words 16 in
    record {
      a = file_size (ws_of w) (mul_address w) m16 product (file_after (not (ws_of w)) (add_address w) m0 sum t0.a) ∙ (file_size (not (ws_of w)) (add_address w) m0 sum t0.a ∙ ready.a);
      b = file_size (not (ws_of w)) (mul_address w) m16 product (file_after (not (not (ws_of w))) (add_address w) m0 sum t0.b) ∙ (file_size (not (not (ws_of w))) (add_address w) m0 sum t0.b ∙ ready.b);
      acc = r4_size w words t.results0.items t.results1.items (acc_after (mul_address w) m16 product words (acc_after (add_address w) m0 sum words t0.acc))
          ∙ (acc_size (mul_address w) m16 product words (acc_after (add_address w) m0 sum words t0.acc) ∙ (acc_size (add_address w) m0 sum words t0.acc ∙ ready.acc));
    }

-- fresh after the instruction exactly where it switches
pub fresh_is : (w u p : ℕ) (words : List ℕ) (t : Thread) → (turn_done w u p words t).thread.fresh ≡ (switches (fate_of t) || false)
unfolding awake turn_executed executed_with after_rest after_work went_on after_load after_setup after_writes after_multiply after_add written_at fate_of
fresh_is w u p words t = refl

-- What the add unit comes to, where a rule looks at it.

pub filled_at : (x e : ℕ) → e < 16 → slice_index (row_of_word x) e ≡ x
filled_at x e below = get_or-replicate 16 e x 0 below

-- a uniform operand is the uniform in each element
uniform_a : (plain : Bool) (address : ℕ) (u : ℕ) (free later : List ℕ) → plain ≡ true → (address == 32) ≡ true
    → (if not plain then free else (if address == 32 then row_of_word u else later)) ≡ row_of_word u
uniform_a plain address u free later h5 is = search (rules, arith, true≢false)

uniform_b : (small : Bool) (address : ℕ) (u : ℕ) (other later : List ℕ) → (address == 32 && not small) ≡ true
    → (if small then other else (if address == 32 then row_of_word u else later)) ≡ row_of_word u
uniform_b small address u other later is = search (rules, arith, and_parts, true≢false)

pub uniform_operand : (t : Thread) (w sel u : ℕ) (words : List ℕ) → is_uniform_operand w sel ≡ true → operand t w sel u words ≡ row_of_word u
unfolding is_uniform_operand operand read_a read_b
uniform_operand t w sel u words is = grind (arith, common_steps, nat_tests, and_parts, or_cases, eqb-true, uniform_a, uniform_b)

-- an operation's lane
pub add_lane : (t : Thread) (w u : ℕ) (words : List ℕ) (e : ℕ) → e < 16 → is_add_packed w ≡ false → is_load_imm w ≡ false
    → slice_index (add_row t w u words) e
    ≡ unwrap_or (add_result_of (op_add_of w) (slice_index (operand t w (add_a_of w) u words) e % 2 ^ 32) (slice_index (operand t w (add_b_of w) u words) e % 2 ^ 32)) (word_at words (1 + e))
unfolding add_row sums
add_lane t w u words e below plain no_load =
    ap (λ b. slice_index (if b then chosen_row words 1 else (if is_load_imm w then immediate_row w words 1 else sums (op_add_of w) (operand t w (add_a_of w) u words) (operand t w (add_b_of w) u words) words)) e) plain
    ∙ (ap (λ b. slice_index (if b then immediate_row w words 1 else sums (op_add_of w) (operand t w (add_a_of w) u words) (operand t w (add_b_of w) u words) words) e) no_load
    ∙ lane_at (λ k. unwrap_or (add_result_of (op_add_of w) (slice_index (operand t w (add_a_of w) u words) k % 2 ^ 32) (slice_index (operand t w (add_b_of w) u words) k % 2 ^ 32)) (word_at words (1 + k))) e below)

sum_of : (a b d : ℕ) → unwrap_or (add_result_of 12 a b) d ≡ (a + b) % 2 ^ 32
unfolding add_result_of
sum_of a b d = refl

min_of : (a b d : ℕ) → unwrap_or (add_result_of 18 a b) d ≡ signed_min a b
unfolding add_result_of
min_of a b d = refl

max_of : (a b d : ℕ) → unwrap_or (add_result_of 19 a b) d ≡ signed_max a b
unfolding add_result_of
max_of a b d = refl

pub alu_loads_not : (w : ℕ) → is_alu w ≡ true → is_load_imm w ≡ false
unfolding is_alu is_load_imm
alu_loads_not w is = grind (arith, nat_tests, is)

small_loads_not : (w : ℕ) → has_small w ≡ true → is_load_imm w ≡ false
unfolding has_small is_load_imm
small_loads_not w is = grind (arith, nat_tests, is)

-- the sum with a uniform
pub sum_lane : (t : Thread) (w u : ℕ) (words : List ℕ) (e : ℕ) → e < 16 → is_add_packed w ≡ false → is_add_with_uniform w ≡ true
    → slice_index (add_row t w u words) e ≡ (slice_index (operand t w (add_a_of w) u words) e % 2 ^ 32 + u % 2 ^ 32) % 2 ^ 32
unfolding is_add_with_uniform
sum_lane t w u words e below plain is = search (rules, arith, and_parts, uniform_operand, filled_at, add_lane, alu_loads_not, eqb-true, sum_of)

-- the minimum with a uniform, of a number that isn't negative
pub min_lane : (t : Thread) (w u : ℕ) (words : List ℕ) (e : ℕ) → e < 16 → is_add_packed w ≡ false → is_min_with_uniform w ≡ true
    → slice_index (operand t w (add_a_of w) u words) e < 2 ^ 31 → slice_index (add_row t w u words) e ≤ u
unfolding is_min_with_uniform
min_lane t w u words e below plain is low = search (rules, arith, and_parts, add_lane, alu_loads_not, eqb-true, min_of, signed_min-upto, uniform_operand, filled_at)

-- the maximum with the value 0
zero_by : (small : Bool) (v : ℕ) (words other : List ℕ) → small ≡ true → v ≡ 0 → (if small then small_row v words else other) ≡ row_of_word 0
unfolding small_row
zero_by small v words other is none = search (rules, arith, true≢false)

zero_operand : (t : Thread) (w u : ℕ) (words : List ℕ) → has_small w ≡ true → raddr_b_of w ≡ 0 → operand t w 7 u words ≡ row_of_word 0
unfolding operand read_b small_row
zero_operand t w u words small zero_is = zero_by (has_small w) (raddr_b_of w) words _ small zero_is

max_zero : (a b : ℕ) → a < 2 ^ 32 → b < 2 ^ 32 → (a ≡ 0) ⊎ (b ≡ 0) → signed_max a b < 2 ^ 31
max_zero a b a_fits b_fits h4 = search (rules, arith, signed_max_zero_first, signed_max_zero)

pub max_lane : (t : Thread) (w u : ℕ) (words : List ℕ) (e : ℕ) → e < 16 → is_add_packed w ≡ false → is_max_with_zero w ≡ true
    → slice_index (add_row t w u words) e < 2 ^ 31
unfolding is_max_with_zero
max_lane t w u words e below plain is = search (rules, arith, and_parts, eqb-true, add_lane, small_loads_not, max_of, zero_operand, filled_at, or_cases, max_zero)

-- a value that is loaded
loaded_parts : (load mode : Bool) (imm v : ℕ) → (if load && mode then Some imm else None) ≡ Some v → (load ≡ true) × (mode ≡ true) × (imm ≡ v)
loaded_parts load mode imm v is = search (rules, arith)

pub load_lane : (t : Thread) (w u : ℕ) (words : List ℕ) (e v : ℕ) → e < 16 → is_add_packed w ≡ false → loaded_value w ≡ Some v
    → slice_index (add_row t w u words) e ≡ v
unfolding add_row immediate_row loaded_value
load_lane t w u words e v below plain is = grind (arith, common_steps, nat_tests, loaded_parts, filled_at)

-- What an instruction computes with, where a fact stands for its register.

-- no target stands between
pub untargeted : (code : List ℕ) (j n : ℕ) (reg : Reg) → IsMade code j n reg → (k : ℕ) → j < k → k ≤ n → is_target code k ≡ false
unfolding stays
untargeted code j n reg made k after upto =
    let parts = and_parts (not (some_in (j + 1) n (λ i. names (word code i) reg))) (not (some_in (j + 1) (n + 1) (is_target code)) && not (is_accumulator reg && switches_between code j n)) made.still in
    let second = and_parts (not (some_in (j + 1) (n + 1) (is_target code))) (not (is_accumulator reg && switches_between code j n)) parts.1 in
    some_in_not (j + 1) (n + 1) k (is_target code) (not-true (some_in (j + 1) (n + 1) (is_target code)) second.0) (omega (arith, after)) (omega (arith, upto))

-- the last executed instruction doesn't name it, unless it made it
pub last_unnamed : (h : Home) (j n : ℕ) (reg : Reg) (t : Thread) → IsAt h n t → IsMade h.code j n reg → n ≢ j + 1 → names t.last1.word reg ≡ false
last_unnamed h j n reg t at made far = grind (arith, common_steps, nat_tests, stays_quiet, true≢false, untargeted)

-- A readable register is what a plain operand reads.
pub record IsRead (t : Thread) (reg : Reg) : Type 0 where
  pub known : IsRegister reg
  pub unnamed : is_accumulator reg ≡ false → names t.last1.word reg ≡ false
  pub awake : is_accumulator reg ≡ true → t.fresh ≡ false

read_a_by : (plain : Bool) (address : ℕ) (named : Bool) (u : ℕ) (own free : List ℕ) → plain ≡ true → address < 32 → named ≡ false
    → (if not plain then free else (if address == 32 then row_of_word u else (if address == 39 then row_of_word 0 else (if nat_lt address 32 && not named then own else free)))) ≡ own
read_a_by plain address named u own free h6 low none = search (rules, arith, true≢false)

read_b_by : (small : Bool) (address : ℕ) (named : Bool) (u : ℕ) (own free other : List ℕ) → small ≡ false → address < 32 → named ≡ false
    → (if small then other else (if address == 32 then row_of_word u else (if address == 39 then row_of_word 0 else (if nat_lt address 32 && not named then own else free)))) ≡ own
read_b_by small address named u own free other plain low none = search (rules, arith, true≢false)

-- what the selector names
data Selects (w sel : ℕ) : Reg → Type 0 where
  OfAcc : sel < 4 → Selects w sel (Acc sel)
  OfA : sel ≡ 6 → raddr_a_of w < 32 → Selects w sel (A (raddr_a_of w))
  OfB : sel ≡ 7 → raddr_b_of w < 32 → has_small w ≡ false → Selects w sel (B (raddr_b_of w))

some_same : (x y : Reg) → Some x ≡ Some y → x ≡ y
some_same x y is = cc

abbrev rest_of : ℕ → ℕ → Option Reg
rest_of w sel =
    if nat_lt sel 4 then Some (Acc sel)
    else (if sel == 6 && nat_lt (raddr_a_of w) 32 then Some (A (raddr_a_of w))
    else (if sel == 7 && (nat_lt (raddr_b_of w) 32 && not (has_small w)) then Some (B (raddr_b_of w)) else None))

-- by the tests in turn
by_tests : (w sel : ℕ) (reg : Reg) (c a b : Bool) → nat_lt sel 4 ≡ c → (sel == 6 && nat_lt (raddr_a_of w) 32) ≡ a → (sel == 7 && (nat_lt (raddr_b_of w) 32 && not (has_small w))) ≡ b
    → (if c then Some (Acc sel) else (if a then Some (A (raddr_a_of w)) else (if b then Some (B (raddr_b_of w)) else None))) ≡ Some reg → Selects w sel reg
by_tests w sel reg true a b low is_a is_b is = subst (λ r. Selects w sel r) (some_same (Acc sel) reg is) (OfAcc (ltb-true sel 4 low))
by_tests w sel reg false true b low is_a is_b is =
    let parts = and_parts (sel == 6) (nat_lt (raddr_a_of w) 32) is_a in
    subst (λ r. Selects w sel r) (some_same (A (raddr_a_of w)) reg is) (OfA (eqb-true sel 6 parts.0) (ltb-true (raddr_a_of w) 32 parts.1))
by_tests w sel reg false false true low is_a is_b is =
    let parts = and_parts (sel == 7) (nat_lt (raddr_b_of w) 32 && not (has_small w)) is_b in
    let second = and_parts (nat_lt (raddr_b_of w) 32) (not (has_small w)) parts.1 in
    subst (λ r. Selects w sel r) (some_same (B (raddr_b_of w)) reg is) (OfB (eqb-true sel 7 parts.0) (ltb-true (raddr_b_of w) 32 second.0) (not-true (has_small w) second.1))
by_tests w sel reg false false false low is_a is_b is = absurd cc

selects_by : (w sel : ℕ) (reg : Reg) → rest_of w sel ≡ Some reg → Selects w sel reg
selects_by w sel reg is = search (rules, arith, by_tests)

selects : (w sel : ℕ) (reg : Reg) → operand_register w sel ≡ Some reg → (is_plain w sel ≡ true) × Selects w sel reg
unfolding operand_register
selects w sel reg is = grind (arith, common_steps, nat_tests, cases_Bool, selects_by)

known_by : (w sel : ℕ) (reg : Reg) → Selects w sel reg → IsRegister reg
known_by w sel reg h3 = search (rules, arith)

ready_acc : (fresh : Bool) (chosen acc : List (List ℕ)) (k : ℕ) → fresh ≡ false → slice_index_or (if fresh then chosen else acc) k [] ≡ slice_index_or acc k []
ready_acc fresh chosen acc k is = search (rules, arith, true≢false)

-- the thread begins to work with the registers that it has
pub ready_row : (p : ℕ) (words : List ℕ) (t : Thread) (reg : Reg) → (is_accumulator reg ≡ true → t.fresh ≡ false) → row_of (thread_readied p words t) reg ≡ row_of t reg
unfolding awake is_accumulator
ready_row p words t reg woken = search (rules, arith, ready_acc)

operand_of : (w sel u p : ℕ) (words : List ℕ) (t : Thread) (reg : Reg) → is_plain w sel ≡ true → Selects w sel reg → (is_accumulator reg ≡ false → names t.last1.word reg ≡ false)
    → operand (thread_readied p words t) w sel u words ≡ row_of (thread_readied p words t) reg
unfolding operand read_a read_b is_accumulator awake
operand_of w sel u p words t reg plain (OfAcc low) unnamed = grind (arith, nat_tests, low, plain)
operand_of w sel u p words t reg plain (OfA is low) unnamed = grind (arith, common_steps, nat_tests, read_a_by)
operand_of w sel u p words t reg plain (OfB is low big) unnamed = grind (arith, common_steps, nat_tests, read_b_by)

pub operand_is : (w sel u p : ℕ) (words : List ℕ) (t : Thread) (reg : Reg) → operand_register w sel ≡ Some reg → (is_accumulator reg ≡ false → names t.last1.word reg ≡ false)
    → (is_accumulator reg ≡ true → t.fresh ≡ false) → operand (thread_readied p words t) w sel u words ≡ row_of t reg
operand_is w sel u p words t reg is unnamed woken =
    let parts = selects w sel reg is in
    operand_of w sel u p words t reg parts.0 parts.1 unnamed ∙ ready_row p words t reg woken

-- Facts on registers, from one instruction to the next.

pub made_of : (code : List ℕ) (j n : ℕ) (reg : Reg) → IsCarrier code j n reg → IsMade code j n reg
made_of code j n reg one = let parts = carried_parts code j n reg one.carried in record { before = one.below; set_there = parts.0; still = parts.1 }

not_next : (j n : ℕ) (reg : Reg) → is_delayed j n reg ≡ false → is_accumulator reg ≡ false → n ≢ j + 1
unfolding is_delayed
not_next j n reg ready file is = grind (arith, common_steps, nat_tests, and_from, not_from_false, true≢false)

-- What carries to an operand says what is read.
pub carried_operand : (h : Home) (j n u p : ℕ) (words : List ℕ) (t : Thread) (sel : ℕ) (reg : Reg) → IsAt h n t → FactsHold h n t → IsCarrier h.code j n reg
    → operand_register (word h.code n) sel ≡ Some reg → (e : ℕ) → e < 16 → Tells h j (slice_index (operand (thread_readied p words t) (word h.code n) sel u words) e)
carried_operand h j n u p words t sel reg at facts one is e below =
    let made_there = made_of h.code j n reg one in
    let known = known_by (word h.code n) sel reg (selects (word h.code n) sel reg is).1 in
    let row : operand (thread_readied p words t) (word h.code n) sel u words ≡ row_of t reg =
    operand_is (word h.code n) sel u p words t reg is
    (λ file. last_unnamed h j n reg t at made_there (not_next j n reg ((carried_parts h.code j n reg one.carried).2) file))
    (λ acc. facts.kept j reg known made_there acc) in
    subst (λ r. Tells h j (slice_index r e)) (sym row) (facts.report j reg known made_there e below)

is_max_found : (code : List ℕ) (n : ℕ) (reg : Reg) (o : Option ℕ) → carrier_of code n reg ≡ o → is_max_at code o ≡ true → (j : ℕ) × IsCarrier code j n reg × (is_max_with_zero (word code j) ≡ true)
is_max_found code n reg None is max = absurd (true≢false (sym max))
is_max_found code n reg (Some j) is max = (j, carrier_found code j n reg is, max)

not_negative_by : (code : List ℕ) (n : ℕ) (reg : Reg) → is_not_negative code n reg ≡ true → (j : ℕ) × IsCarrier code j n reg × (is_max_with_zero (word code j) ≡ true)
unfolding is_not_negative
not_negative_by code n reg is = is_max_found code n reg (carrier_of code n reg) refl is

alone_plain : (w : ℕ) (reg : Reg) → sets_alone w reg ≡ true → is_add_packed w ≡ false
unfolding sets_alone
alone_plain w reg is = grind (arith, common_steps, nat_tests, not-true, and_parts)

clamp_parts : (code : List ℕ) (n : ℕ) → makes_clamp code n ≡ true
    → (is_min_with_uniform (word code n) ≡ true) × ((reg : Reg) × (first_register (word code n) ≡ Some reg) × (is_not_negative code n reg ≡ true))
unfolding makes_clamp
clamp_parts code n is = grind (arith, common_steps, nat_tests, and_parts, passed)

pub first_is : (w : ℕ) (reg : Reg) → first_register w ≡ Some reg → operand_register w (add_a_of w) ≡ Some reg
unfolding first_register
first_is w reg is = is

-- What an instruction makes is as it says.
made_tells : (h : Home) (n u p : ℕ) (words : List ℕ) (t : Thread) → n < checked_of h.code → IsAt h n t → FactsHold h n t → (takes h.code n ≡ true → u ≡ uniform_at h n)
    → is_add_packed (word h.code n) ≡ false → (e : ℕ) → e < 16 → Tells h n (slice_index (add_row (thread_readied p words t) (word h.code n) u words) e)
made_tells h n u p words t inside at facts taken plain e below =
    let w = word h.code n in
    record {
      loaded = λ v is. load_lane (thread_readied p words t) w u words e v below plain is;
      not_negative = λ is. max_lane (thread_readied p words t) w u words e below plain is;
      clamped = λ is.
          (let parts = clamp_parts h.code n is in
          let found = not_negative_by h.code n parts.1.0 parts.1.2 in
          let report : Tells h found.0 (slice_index (operand (thread_readied p words t) w (add_a_of w) u words) e) =
          carried_operand h found.0 n u p words t (add_a_of w) parts.1.0 at facts found.1 (first_is w parts.1.0 parts.1.1) e below in
          let upto = min_lane (thread_readied p words t) w u words e below plain parts.0 (report.not_negative found.2) in
          let is_taken : u ≡ uniform_at h n = taken (reads_takes h.code n inside (min_parts w parts.0).0) in
          subst (λ v. slice_index (add_row (thread_readied p words t) w u words) e ≤ v) is_taken upto);
    }

-- What is made at n + 1 was made at n, or by the instruction at n.
between_less : (code : List ℕ) (j n : ℕ) → switches_between code j (n + 1) ≡ false → switches_between code j n ≡ false
unfolding switches_between
between_less code j n none =
    some_below_none n (λ s. is_switch (word code s) && (nat_le j (s + 2) && nat_le (s + 3) n))
    (λ s below. false_from_ne_true (is_switch (word code s) && (nat_le j (s + 2) && nat_le (s + 3) n))
    (λ is.
    let one = and_parts (is_switch (word code s)) (nat_le j (s + 2) && nat_le (s + 3) n) is in
    let two = and_parts (nat_le j (s + 2)) (nat_le (s + 3) n) one.1 in
    let less = leb-true (s + 3) n two.1 in
    let there : (is_switch (word code s) && (nat_le j (s + 2) && nat_le (s + 3) (n + 1))) ≡ true =
    and_from (is_switch (word code s)) (nat_le j (s + 2) && nat_le (s + 3) (n + 1)) one.0 (and_from (nat_le j (s + 2)) (nat_le (s + 3) (n + 1)) two.0 (le-leb (s + 3) (n + 1) (omega (arith, less)))) in
    true≢false (sym there ∙ some_below_not (n + 1) s (λ k. is_switch (word code k) && (nat_le j (k + 2) && nat_le (k + 3) (n + 1))) none (omega (arith, below)))))

acc_less : (acc a b : Bool) → (a ≡ false → b ≡ false) → not (acc && a) ≡ true → not (acc && b) ≡ true
acc_less acc a b less is = search (rules, arith, not_from_false, not-true)

stays_less : (code : List ℕ) (j n : ℕ) (reg : Reg) → stays code j (n + 1) reg ≡ true → stays code j n reg ≡ true
unfolding stays
stays_less code j n reg is =
    let name : ℕ → Bool = λ k. names (word code k) reg in
    let one = and_parts (not (some_in (j + 1) (n + 1) name)) (not (some_in (j + 1) (n + 1 + 1) (is_target code)) && not (is_accumulator reg && switches_between code j (n + 1))) is in
    let two = and_parts (not (some_in (j + 1) (n + 1 + 1) (is_target code))) (not (is_accumulator reg && switches_between code j (n + 1))) one.1 in
    and_from (not (some_in (j + 1) n name)) (not (some_in (j + 1) (n + 1) (is_target code)) && not (is_accumulator reg && switches_between code j n))
    (not_from_false (some_in (j + 1) n name)
    (some_in_none (j + 1) n name (λ k from to. some_in_not (j + 1) (n + 1) k name (not-true (some_in (j + 1) (n + 1) name) one.0) from (omega (arith, to)))))
    (and_from (not (some_in (j + 1) (n + 1) (is_target code))) (not (is_accumulator reg && switches_between code j n))
    (not_from_false (some_in (j + 1) (n + 1) (is_target code))
    (some_in_none (j + 1) (n + 1) (is_target code) (λ k from to. some_in_not (j + 1) (n + 1 + 1) k (is_target code) (not-true (some_in (j + 1) (n + 1 + 1) (is_target code)) two.0) from (omega (arith, to)))))
    (acc_less (is_accumulator reg) (switches_between code j (n + 1)) (switches_between code j n) (between_less code j n) two.1))

-- An accumulator with a fact isn't one of a thread that switches.
acc_between : (acc a : Bool) → acc ≡ true → not (acc && a) ≡ true → a ≡ false
acc_between acc a is none = search (rules, arith, not-true, true≢false)

none_between : (code : List ℕ) (j n : ℕ) (reg : Reg) → stays code j n reg ≡ true → is_accumulator reg ≡ true → switches_between code j n ≡ false
unfolding stays
none_between code j n reg is acc = grind (arith, common_steps, nat_tests, and_parts, acc_between)

switch_between : (code : List ℕ) (j n : ℕ) → 2 ≤ n → j ≤ n → is_switch (word code (n - 2)) ≡ true → switches_between code j (n + 1) ≡ true
unfolding switches_between
switch_between code j n two upto is =
    some_below_here (n + 1) (n - 2) (λ s. is_switch (word code s) && (nat_le j (s + 2) && nat_le (s + 3) (n + 1))) (omega arith)
    (and_from (is_switch (word code (n - 2))) (nat_le j (n - 2 + 2) && nat_le (n - 2 + 3) (n + 1)) is
    (and_from (nat_le j (n - 2 + 2)) (nat_le (n - 2 + 3) (n + 1)) (le-leb j (n - 2 + 2) (omega (arith, upto, two))) (le-leb (n - 2 + 3) (n + 1) (omega (arith, two)))))

no_switch_here : (h : Home) (j n : ℕ) (reg : Reg) (t : Thread) → IsAt h n t → j ≤ n → stays h.code j (n + 1) reg ≡ true → is_accumulator reg ≡ true → is_switch t.last2.word ≡ false
no_switch_here h j n reg t at upto still acc = search (rules, arith, false_from_ne_true, true≢false, switch_between, none_between)

fate_by : (end switch : Bool) → switch ≡ false → (switches (if end then Ends else (if switch then Switches else GoesOn)) || false) ≡ false
fate_by end switch none = search (rules, arith, true≢false)

stays_awake : (h : Home) (j n u p : ℕ) (words : List ℕ) (reg : Reg) (t : Thread) → IsAt h n t → j ≤ n → stays h.code j (n + 1) reg ≡ true → is_accumulator reg ≡ true
    → (turn_done (word h.code n) u p words t).thread.fresh ≡ false
unfolding fate_of
stays_awake h j n u p words reg t at upto still acc = search (rules, arith, fresh_is, fate_by, no_switch_here)

pub facts_on : (h : Home) (n u p : ℕ) (words : List ℕ) (t : Thread) → n < checked_of h.code → IsAt h n t → HasRows t → FactsHold h n t → (takes h.code n ≡ true → u ≡ uniform_at h n)
    → FactsHold h (n + 1) (turn_done (word h.code n) u p words t).thread
facts_on h n u p words t inside at rows facts taken =
    let w = word h.code n in
    record {
      report = λ j reg known here e below.
          elim (cases_eq j n) [
            | inl same ↦
                (let alone : sets_alone w reg ≡ true = subst (λ i. sets_alone (word h.code i) reg ≡ true) same (sets_parts h.code j reg here.set_there).1 in
                let value = register_set w u p words t reg known rows alone e below in
                subst (λ i. Tells h i (slice_index (row_of (turn_done w u p words t).thread reg) e)) (sym same)
                (subst (λ v. Tells h n v) (sym value) (made_tells h n u p words t inside at facts taken (alone_plain w reg alone) e below)))
            | inr other ↦
                (let before = here.before in
                let less : j < n = omega (arith, before, other) in
                let earlier : IsMade h.code j n reg = record { before = less; set_there = here.set_there; still = stays_less h.code j n reg here.still } in
                let row = register_same w u p words t reg known (stays_quiet h.code j (n + 1) n reg here.still less (omega arith)) ∙ ready_row p words t reg (λ acc. facts.kept j reg known earlier acc) in
                subst (λ r. Tells h j (slice_index r e)) (sym row) (facts.report j reg known earlier e below))
          ];
      kept = λ j reg known here acc. (let before = here.before in stays_awake h j n u p words reg t at (omega (arith, before)) here.still acc);
    }

pub facts_jump : (h : Home) (to : ℕ) (next : Thread) → is_target h.code to ≡ true → FactsHold h to next
facts_jump h to next target = search (rules, arith, true≢false, untargeted)

-- A register that a rule calls an immediate has that value.
value_is : (fact : Fact) (v : ℕ) → is_value fact v ≡ true → value_in fact ≡ Some v
value_is fact v is = search (rules, arith, true≢false, eqb-true)

immediate_by : (code : List ℕ) (n : ℕ) (reg : Reg) (v : ℕ) (o : Option ℕ) → carrier_of code n reg ≡ o → is_value (fact_by code o) v ≡ true
    → (j : ℕ) × IsCarrier code j n reg × (loaded_value (word code j) ≡ Some v)
immediate_by code n reg v None is value = absurd (true≢false (sym value))
immediate_by code n reg v (Some j) is value = (j, carrier_found code j n reg is, sym (value_of_made code j) ∙ value_is (fact_of_write code j) v value)

pub immediate_found : (code : List ℕ) (n : ℕ) (reg : Reg) (v : ℕ) → is_immediate code n reg v ≡ true → (j : ℕ) × IsCarrier code j n reg × (loaded_value (word code j) ≡ Some v)
unfolding is_immediate fact_at
immediate_found code n reg v is = immediate_by code n reg v (carrier_of code n reg) refl is
