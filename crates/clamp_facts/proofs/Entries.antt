-- The table's entries, by the registers that an instruction names.
use Rattle.std.proofs.Common.{◌≡◌, ◌≢◌, ◌≤◌, ◌<◌, ◌+◌, ◌-◌, ◌==◌, ℕ, zero, suc, Bool, true, false, not, ◌&&◌, ◌||◌, List, Option, Some, None, length, replicate, get_or, set, get_or-set_other, get_or-set_same, if◌then◌else◌, refl, sym, ap, subst, inl, inr, arith, ◌∙◌, nat_lt}
use Rattle.std.proofs.lemmas.Bool.{cases_Bool, and_left, and_right, or_left, or_right, true≢false, false_from_ne_true, eqb-true, eqb-false, ltb-true, ltb-false, lt-ltb}
use Rattle.std.proofs.{Math.ListN.length-set, lemmas.Bool.Decides.nat_tests}
use Rattle.field_words.specs.Sizes.{most_words}
use Rattle.qpu_isa.specs.Terms.{is_branch, names, add_names_reg, mul_names_reg, add_names, mul_names, sets_alone, is_accumulator, is_add_packed, is_switch}
use Rattle.qpu_isa.specs.{declared.inst.Reg.Reg, Word.ws_of, Word.waddr_add_of, Word.waddr_mul_of, Word.cond_add_of}
use Rattle.qpu_isa.specs.declared.inst.Reg.TheVariants.{A, B, Acc}
use Rattle.qpu_isa.specs.Report.{IsRegister, is_named}
use Rattle.shader_flow.specs.{Bounded.is_back, Flow.word, Flow.checked_of, Flow.is_target}
use Rattle.clamp_facts.specs.Facts.{sets, maker_of, fact_of_write, fact_at, fact_by, carrier_of, if_readable, is_delayed}
use Rattle.clamp_facts.specs.Table.{Table, no_entry, entry_of, with_entry, blank_table, without_accumulators, fact_seen}
use Rattle.clamp_facts.specs.Upkeep.{Keeps, IsTableOf, register_at, add_register, mul_register, setter, maker_added, maker_written}
use Rattle.clamp_facts.specs.{declared.fact.Fact.Fact, declared.fact.Fact.TheVariants.Nothing, declared.fact.Entry.Entry}
use Rattle.clamp_facts.proofs.Keeping.{is_cut, maker_cut, maker_next}

-- whether both are one register
abbrev pub same_reg : Reg → Reg → Bool
same_reg (A m) (A n) = m == n
same_reg (A m) (B n) = false
same_reg (A m) (Acc n) = false
same_reg (B m) (A n) = false
same_reg (B m) (B n) = m == n
same_reg (B m) (Acc n) = false
same_reg (Acc m) (A n) = false
same_reg (Acc m) (B n) = false
same_reg (Acc m) (Acc n) = m == n

abbrev pub is_reg : Option Reg → Reg → Bool
is_reg None reg = false
is_reg (Some r) reg = same_reg r reg

pub same_reg_is : (r reg : Reg) → same_reg r reg ≡ true → r ≡ reg
same_reg_is (A m) (A n) same = ap A (eqb-true m n same)
same_reg_is (A m) (B n) same = absurd (true≢false (sym same))
same_reg_is (A m) (Acc n) same = absurd (true≢false (sym same))
same_reg_is (B m) (A n) same = absurd (true≢false (sym same))
same_reg_is (B m) (B n) same = ap B (eqb-true m n same)
same_reg_is (B m) (Acc n) same = absurd (true≢false (sym same))
same_reg_is (Acc m) (A n) same = absurd (true≢false (sym same))
same_reg_is (Acc m) (B n) same = absurd (true≢false (sym same))
same_reg_is (Acc m) (Acc n) same = ap Acc (eqb-true m n same)

-- two numbers of which one is less are not equal
pub apart : (m n : ℕ) → (m ≡ n → ⊥) → (m == n) ≡ false
apart m n differ = false_from_ne_true (m == n) (λ same. differ (eqb-true m n same))

eq_self : (n : ℕ) → (n == n) ≡ true
eq_self n = grind (arith, nat_tests)

or_false : (b : Bool) → (b || false) ≡ b
or_false true = refl
or_false false = refl

-- the register of a write address is the one that it names
low_named : (on_a : Bool) (address : ℕ) (reg : Reg) → address < 32 → same_reg (if on_a then A address else B address) reg ≡ is_named on_a address reg
unfolding is_named
low_named true address (A n) low = refl
low_named true address (B n) low = refl
low_named true address (Acc n) low = sym (apart address (32 + n) (λ same. omega (arith, same, low)))
low_named false address (A n) low = refl
low_named false address (B n) low = refl
low_named false address (Acc n) low = sym (apart address (32 + n) (λ same. omega (arith, same, low)))

mid_named : (on_a : Bool) (address : ℕ) (reg : Reg) → 32 ≤ address → IsRegister reg → same_reg (Acc (address - 32)) reg ≡ is_named on_a address reg
unfolding is_named
mid_named on_a address (A n) past small = sym (and_right on_a (address == n) (apart address n (λ same. omega (arith, same, past, small))))
mid_named on_a address (B n) past small = sym (and_right (not on_a) (address == n) (apart address n (λ same. omega (arith, same, past, small))))
mid_named on_a address (Acc n) past small =
    elim (cases_Bool (address == 32 + n)) [
      | inl same ↦ (let e = eqb-true address (32 + n) same in let d : address - 32 ≡ n = omega (arith, e) in ap (λ m. m == n) d ∙ (eq_self n ∙ sym same))
      | inr other ↦ apart (address - 32) n (λ same. let e : address ≡ 32 + n = omega (arith, same, past) in eqb-false address (32 + n) other e) ∙ sym other
    ]

high_named : (on_a : Bool) (address : ℕ) (reg : Reg) → 36 ≤ address → IsRegister reg → false ≡ is_named on_a address reg
unfolding is_named
high_named on_a address (A n) past small = sym (and_right on_a (address == n) (apart address n (λ same. omega (arith, same, past, small))))
high_named on_a address (B n) past small = sym (and_right (not on_a) (address == n) (apart address n (λ same. omega (arith, same, past, small))))
high_named on_a address (Acc n) past small = sym (apart address (32 + n) (λ same. omega (arith, same, past, small)))

pub register_named : (on_a : Bool) (address : ℕ) (reg : Reg) → IsRegister reg → is_reg (register_at on_a address) reg ≡ is_named on_a address reg
unfolding register_at
register_named on_a address reg small =
    elim (cases_Bool (nat_lt address 32)) [
      | inl low ↦
          ap (λ b. is_reg (if b then Some (if on_a then A address else B address) else (if nat_lt address 36 then Some (Acc (address - 32)) else None)) reg) low
          ∙ low_named on_a address reg (ltb-true address 32 low)
      | inr past ↦
          ap (λ b. is_reg (if b then Some (if on_a then A address else B address) else (if nat_lt address 36 then Some (Acc (address - 32)) else None)) reg) past
          ∙ elim (cases_Bool (nat_lt address 36)) [
            | inl mid ↦ ap (λ b. is_reg (if b then Some (Acc (address - 32)) else None) reg) mid ∙ mid_named on_a address reg (ltb-false address 32 past) small
            | inr high ↦ ap (λ b. is_reg (if b then Some (Acc (address - 32)) else None) reg) high ∙ high_named on_a address reg (ltb-false address 36 high) small
          ]
    ]

not_not : (b : Bool) → not (not b) ≡ b
not_not true = refl
not_not false = refl

none_here : (b c : Bool) → false ≡ (b && (not true && c))
none_here true c = refl
none_here false c = refl

pub add_named : (w : ℕ) (reg : Reg) (branches : Bool) → is_branch w ≡ branches → IsRegister reg
    → is_reg (if branches then None else register_at (not (ws_of w)) (waddr_add_of w)) reg ≡ add_names_reg w reg
unfolding add_names_reg add_names is_named
add_named w (A n) true is small = rw is (none_here (not (ws_of w)) (waddr_add_of w == n))
add_named w (B n) true is small = rw is (none_here (ws_of w) (waddr_add_of w == n))
add_named w (Acc n) true is small = rw is refl
add_named w (A n) false is small = register_named (not (ws_of w)) (waddr_add_of w) (A n) small ∙ rw is refl
add_named w (B n) false is small = register_named (not (ws_of w)) (waddr_add_of w) (B n) small ∙ rw (is, not_not (ws_of w)) refl
add_named w (Acc n) false is small = register_named (not (ws_of w)) (waddr_add_of w) (Acc n) small ∙ rw is refl

pub mul_named : (w : ℕ) (reg : Reg) (branches : Bool) → is_branch w ≡ branches → IsRegister reg
    → is_reg (if branches then None else register_at (ws_of w) (waddr_mul_of w)) reg ≡ mul_names_reg w reg
unfolding mul_names_reg mul_names is_named
mul_named w (A n) true is small = rw is (none_here (ws_of w) (waddr_mul_of w == n))
mul_named w (B n) true is small = rw is (none_here (not (ws_of w)) (waddr_mul_of w == n))
mul_named w (Acc n) true is small = rw is refl
mul_named w (A n) false is small = register_named (ws_of w) (waddr_mul_of w) (A n) small ∙ rw is refl
mul_named w (B n) false is small = register_named (ws_of w) (waddr_mul_of w) (B n) small ∙ rw is refl
mul_named w (Acc n) false is small = register_named (ws_of w) (waddr_mul_of w) (Acc n) small ∙ rw is refl

pub add_is : (w : ℕ) (reg : Reg) → IsRegister reg → is_reg (add_register w) reg ≡ add_names_reg w reg
unfolding add_register
add_is w reg small = add_named w reg (is_branch w) refl small

pub mul_is : (w : ℕ) (reg : Reg) → IsRegister reg → is_reg (mul_register w) reg ≡ mul_names_reg w reg
unfolding mul_register
mul_is w reg small = mul_named w reg (is_branch w) refl small

-- one entry is another, and all others stay
put_in : (xs : List Entry) (m n : ℕ) (e : Entry) → m < length xs → get_or (set xs m e) n no_entry ≡ (if m == n then e else get_or xs n no_entry)
put_in xs m n e inside =
    elim (cases_Bool (m == n)) [
      | inl same ↦
          (let at = eqb-true m n same in
          ap (λ k. get_or (set xs m e) k no_entry) (sym at) ∙ (get_or-set_same xs m e no_entry inside ∙ sym (ap (λ b. if b then e else get_or xs n no_entry) same)))
      | inr other ↦
          (let differ : n ≢ m = λ at. eqb-false m n other (sym at) in
          get_or-set_other xs m n e no_entry differ ∙ sym (ap (λ b. if b then e else get_or xs n no_entry) other))
    ]

pub entry_put : (code : List ℕ) (makers : Reg → Option ℕ) (t : Table) (r reg : Reg) (e : Entry) → IsTableOf code makers t → IsRegister r
    → entry_of (with_entry t r e) reg ≡ (if same_reg r reg then e else entry_of t reg)
entry_put code makers t (A m) (A n) e is small = put_in t.a m n e (omega (arith, is.a_size, small))
entry_put code makers t (A m) (B n) e is small = refl
entry_put code makers t (A m) (Acc n) e is small = refl
entry_put code makers t (B m) (A n) e is small = refl
entry_put code makers t (B m) (B n) e is small = put_in t.b m n e (omega (arith, is.b_size, small))
entry_put code makers t (B m) (Acc n) e is small = refl
entry_put code makers t (Acc m) (A n) e is small = refl
entry_put code makers t (Acc m) (B n) e is small = refl
entry_put code makers t (Acc m) (Acc n) e is small = put_in t.acc m n e (omega (arith, is.acc_size, small))

pub record HasSizes (t : Table) : Type 0 where
  pub a_size : length t.a ≡ 32
  pub b_size : length t.b ≡ 32
  pub acc_size : length t.acc ≡ 4

pub sizes_put : (code : List ℕ) (makers : Reg → Option ℕ) (t : Table) (r : Reg) (e : Entry) → IsTableOf code makers t → HasSizes (with_entry t r e)
sizes_put code makers t (A m) e is = record { a_size = length-set t.a m e ∙ is.a_size; b_size = is.b_size; acc_size = is.acc_size }
sizes_put code makers t (B m) e is = record { a_size = is.a_size; b_size = length-set t.b m e ∙ is.b_size; acc_size = is.acc_size }
sizes_put code makers t (Acc m) e is = record { a_size = is.a_size; b_size = is.b_size; acc_size = length-set t.acc m e ∙ is.acc_size }

-- a put keeps the table, where the entry is for who makes what stands in its register and all others stay
pub put_keeps : (code : List ℕ) (old new : Reg → Option ℕ) (t : Table) (r : Reg) (e : Entry) → IsTableOf code old t → IsRegister r
    → Keeps code (new r) e → ((reg : Reg) → IsRegister reg → same_reg r reg ≡ false → new reg ≡ old reg) → IsTableOf code new (with_entry t r e)
put_keeps code old new t r e is small here others =
    let sizes = sizes_put code old t r e is in
    record {
      few = is.few;
      a_size = sizes.a_size;
      b_size = sizes.b_size;
      acc_size = sizes.acc_size;
      each = λ reg in-file. elim (cases_Bool (same_reg r reg)) [
        | inl same ↦
            (let e-is = entry_put code old t r reg e is small ∙ ap (λ b. if b then e else entry_of t reg) same in
            subst (Keeps code (new reg)) (sym e-is) (subst (λ x. Keeps code (new x) e) (same_reg_is r reg same) here))
        | inr other ↦
            (let e-is = entry_put code old t r reg e is small ∙ ap (λ b. if b then e else entry_of t reg) other in
            subst (Keeps code (new reg)) (sym e-is) (subst (λ o. Keeps code o (entry_of t reg)) (sym (others reg in-file other)) (is.each reg in-file)))
      ];
    }

pub skip_keeps : (code : List ℕ) (old new : Reg → Option ℕ) (t : Table) → IsTableOf code old t
    → ((reg : Reg) → IsRegister reg → new reg ≡ old reg) → IsTableOf code new t
skip_keeps code old new t is same = record {
  few = is.few;
  a_size = is.a_size;
  b_size = is.b_size;
  acc_size = is.acc_size;
  each = λ reg in-file. subst (λ o. Keeps code o (entry_of t reg)) (sym (same reg in-file)) (is.each reg in-file);
}

-- the add unit's write
pub sets_inside : (code : List ℕ) (at : ℕ) (reg : Reg) → at < checked_of code → sets code at reg ≡ sets_alone (word code at) reg
unfolding sets
sets_inside code at reg inside = ap (λ b. b && sets_alone (word code at) reg) (lt-ltb at (checked_of code) inside)

pub setter_keeps : (code : List ℕ) (at : ℕ) (reg : Reg) (fact put : Fact) → at < checked_of code → fact ≡ fact_of_write code at
    → put ≡ (if sets_alone (word code at) reg then fact else Nothing) → Keeps code (setter code at reg) (record { fact = put; place = at })
setter_keeps code at reg fact put inside fact-is put-is =
    elim (cases_Bool (sets_alone (word code at) reg)) [
      | inl alone ↦
          subst (λ b. Keeps code (if b then Some at else None) (record { fact = put; place = at })) (sym (sets_inside code at reg inside ∙ alone))
          (put-is ∙ (ap (λ b. if b then fact else Nothing) alone ∙ fact-is), refl)
      | inr other ↦
          subst (λ b. Keeps code (if b then Some at else None) (record { fact = put; place = at })) (sym (sets_inside code at reg inside ∙ other))
          (put-is ∙ ap (λ b. if b then fact else Nothing) other)
    ]

pub added_here : (code : List ℕ) (at : ℕ) (reg : Reg) → add_names_reg (word code at) reg ≡ true → maker_added code at reg ≡ setter code at reg
unfolding maker_added
added_here code at reg named = ap (λ b. if b then setter code at reg else maker_of code at reg) named

pub added_other : (code : List ℕ) (at : ℕ) (reg : Reg) → add_names_reg (word code at) reg ≡ false → maker_added code at reg ≡ maker_of code at reg
unfolding maker_added
added_other code at reg quiet = ap (λ b. if b then setter code at reg else maker_of code at reg) quiet

same_self : (r : Reg) → same_reg r r ≡ true
same_self (A m) = eq_self m
same_self (B m) = eq_self m
same_self (Acc m) = eq_self m

pub add_keeps : (code : List ℕ) (at : ℕ) (r : Reg) (fact put : Fact) (t : Table) → at < checked_of code → fact ≡ fact_of_write code at
    → Some r ≡ add_register (word code at) → IsRegister r → put ≡ (if sets_alone (word code at) r then fact else Nothing)
    → IsTableOf code (maker_of code at) t → IsTableOf code (maker_added code at) (with_entry t r (record { fact = put; place = at }))
add_keeps code at r fact put t inside fact-is named small put-is is =
    let named-is : (reg : Reg) → IsRegister reg → same_reg r reg ≡ add_names_reg (word code at) reg = λ reg in-file. ap (λ o. is_reg o reg) named ∙ add_is (word code at) reg in-file in
    put_keeps code (maker_of code at) (maker_added code at) t r (record { fact = put; place = at }) is small
    (subst (λ o. Keeps code o (record { fact = put; place = at })) (sym (added_here code at r (sym (named-is r small) ∙ same_self r))) (setter_keeps code at r fact put inside fact-is put-is))
    (λ reg in-file other. added_other code at reg (sym (named-is reg in-file) ∙ other))

pub add_none : (code : List ℕ) (at : ℕ) (t : Table) → None ≡ add_register (word code at)
    → IsTableOf code (maker_of code at) t → IsTableOf code (maker_added code at) t
add_none code at t none is =
    skip_keeps code (maker_of code at) (maker_added code at) t is
    (λ reg in-file. added_other code at reg (sym (ap (λ o. is_reg o reg) none ∙ add_is (word code at) reg in-file)))

-- the multiply unit's
sets_not : (code : List ℕ) (at : ℕ) (reg : Reg) → mul_names_reg (word code at) reg ≡ true → sets code at reg ≡ false
unfolding sets sets_alone
sets_not code at reg named =
    and_right (nat_lt at (checked_of code)) ((add_names_reg (word code at) reg && not (mul_names_reg (word code at) reg)) && (cond_add_of (word code at) == 1 && not (is_add_packed (word code at))))
    (and_left (add_names_reg (word code at) reg && not (mul_names_reg (word code at) reg)) (cond_add_of (word code at) == 1 && not (is_add_packed (word code at)))
    (and_right (add_names_reg (word code at) reg) (not (mul_names_reg (word code at) reg)) (ap not named)))

pub multiplied : (code : List ℕ) (at : ℕ) (reg : Reg) → mul_names_reg (word code at) reg ≡ true → maker_written code at reg ≡ None
unfolding maker_written names
multiplied code at reg named =
    ap (λ b. if b then setter code at reg else maker_of code at reg) (or_right (add_names_reg (word code at) reg) (mul_names_reg (word code at) reg) named)
    ∙ ap (λ b. if b then Some at else None) (sets_not code at reg named)

pub written_other : (code : List ℕ) (at : ℕ) (reg : Reg) → mul_names_reg (word code at) reg ≡ false → maker_written code at reg ≡ maker_added code at reg
unfolding maker_written maker_added names
written_other code at reg quiet =
    ap (λ b. if add_names_reg (word code at) reg || b then setter code at reg else maker_of code at reg) quiet
    ∙ ap (λ b. if b then setter code at reg else maker_of code at reg) (or_false (add_names_reg (word code at) reg))

pub mul_keeps : (code : List ℕ) (at : ℕ) (r : Reg) (t : Table) → Some r ≡ mul_register (word code at) → IsRegister r
    → IsTableOf code (maker_added code at) t → IsTableOf code (maker_written code at) (with_entry t r (record { fact = Nothing; place = at }))
mul_keeps code at r t named small is =
    let named-is : (reg : Reg) → IsRegister reg → same_reg r reg ≡ mul_names_reg (word code at) reg = λ reg in-file. ap (λ o. is_reg o reg) named ∙ mul_is (word code at) reg in-file in
    put_keeps code (maker_added code at) (maker_written code at) t r (record { fact = Nothing; place = at }) is small
    (subst (λ o. Keeps code o (record { fact = Nothing; place = at })) (sym (multiplied code at r (sym (named-is r small) ∙ same_self r))) refl)
    (λ reg in-file other. written_other code at reg (sym (named-is reg in-file) ∙ other))

pub mul_none : (code : List ℕ) (at : ℕ) (t : Table) → None ≡ mul_register (word code at)
    → IsTableOf code (maker_added code at) t → IsTableOf code (maker_written code at) t
mul_none code at t none is =
    skip_keeps code (maker_added code at) (maker_written code at) t is
    (λ reg in-file. written_other code at reg (sym (ap (λ o. is_reg o reg) none ∙ mul_is (word code at) reg in-file)))

-- forgetting
pub no_entries : (n k : ℕ) → get_or (replicate n no_entry) k no_entry ≡ no_entry
no_entries zero k = refl
no_entries (suc n) zero = refl
no_entries (suc n) (suc k) = no_entries n k

pub blank_entry : (reg : Reg) → entry_of blank_table reg ≡ no_entry
blank_entry (A n) = no_entries 32 n
blank_entry (B n) = no_entries 32 n
blank_entry (Acc n) = no_entries 4 n

pub blank_keeps : (code : List ℕ) (new : Reg → Option ℕ) → length code ≤ most_words → ((reg : Reg) → new reg ≡ None) → IsTableOf code new blank_table
blank_keeps code new few none = record {
  few = few;
  a_size = refl;
  b_size = refl;
  acc_size = refl;
  each = λ reg in-file. subst (λ o. Keeps code o (entry_of blank_table reg)) (sym (none reg)) (ap (λ e. e.fact) (blank_entry reg));
}

pub target_keeps : (code : List ℕ) (at : ℕ) → length code ≤ most_words → is_target code (at + 1) ≡ true → IsTableOf code (maker_of code (at + 1)) blank_table
unfolding is_cut
target_keeps code at few target =
    blank_keeps code (maker_of code (at + 1)) few
    (λ reg. maker_cut code at reg (or_left (is_target code (at + 1)) (is_accumulator reg && is_back at 2 (λ k. is_switch (word code k))) target))

pub kept_entry : (code : List ℕ) (at : ℕ) (t : Table) → is_target code (at + 1) ≡ false → is_back at 2 (λ k. is_switch (word code k)) ≡ true
    → IsTableOf code (maker_written code at) t → (reg : Reg) → IsRegister reg → Keeps code (maker_of code (at + 1) reg) (entry_of (without_accumulators t) reg)
unfolding is_cut is_accumulator
kept_entry code at t none acts is (A n) small =
    subst (λ o. Keeps code o (entry_of t (A n))) (sym (maker_next code at (A n) (ap (λ b. b || (false && is_back at 2 (λ k. is_switch (word code k)))) none))) (is.each (A n) small)
kept_entry code at t none acts is (B n) small =
    subst (λ o. Keeps code o (entry_of t (B n))) (sym (maker_next code at (B n) (ap (λ b. b || (false && is_back at 2 (λ k. is_switch (word code k)))) none))) (is.each (B n) small)
kept_entry code at t none acts is (Acc n) small =
    subst (λ o. Keeps code o (entry_of (without_accumulators t) (Acc n)))
    (sym (maker_cut code at (Acc n) (or_right (is_target code (at + 1)) (true && is_back at 2 (λ k. is_switch (word code k))) acts)))
    (ap (λ e. e.fact) (no_entries 4 n))

pub switch_keeps : (code : List ℕ) (at : ℕ) (t : Table) → is_target code (at + 1) ≡ false → is_back at 2 (λ k. is_switch (word code k)) ≡ true
    → IsTableOf code (maker_written code at) t → IsTableOf code (maker_of code (at + 1)) (without_accumulators t)
switch_keeps code at t none acts is = record {
  few = is.few;
  a_size = is.a_size;
  b_size = is.b_size;
  acc_size = refl;
  each = λ reg in-file. kept_entry code at t none acts is reg in-file;
}

pub quiet_keeps : (code : List ℕ) (at : ℕ) (t : Table) → is_target code (at + 1) ≡ false → is_back at 2 (λ k. is_switch (word code k)) ≡ false
    → IsTableOf code (maker_written code at) t → IsTableOf code (maker_of code (at + 1)) t
unfolding is_cut
quiet_keeps code at t none quiet is =
    skip_keeps code (maker_written code at) (maker_of code (at + 1)) t is
    (λ reg in-file. maker_next code at reg (ap (λ b. b || (is_accumulator reg && is_back at 2 (λ k. is_switch (word code k)))) none
    ∙ and_right (is_accumulator reg) (is_back at 2 (λ k. is_switch (word code k))) quiet))

-- what an entry says is what is known
pub seen_by : (code : List ℕ) (at : ℕ) (reg : Reg) (o : Option ℕ) (e : Entry) → Keeps code o e → fact_seen e at reg ≡ fact_by code (if_readable at reg o)
unfolding fact_seen
seen_by code at reg None e none =
    elim (cases_Bool (is_delayed e.place at reg)) [
      | inl late ↦ ap (λ b. if b then Nothing else e.fact) late
      | inr ready ↦ ap (λ b. if b then Nothing else e.fact) ready ∙ none
    ]
seen_by code at reg (Some j) e is =
    elim (cases_Bool (is_delayed j at reg)) [
      | inl late ↦
          ap (λ p. if is_delayed p at reg then Nothing else e.fact) is.1 ∙ (ap (λ b. if b then Nothing else e.fact) late
          ∙ sym (ap (λ b. fact_by code (if b then None else Some j)) late))
      | inr ready ↦
          ap (λ p. if is_delayed p at reg then Nothing else e.fact) is.1 ∙ (ap (λ b. if b then Nothing else e.fact) ready ∙ (is.0
          ∙ sym (ap (λ b. fact_by code (if b then None else Some j)) ready)))
    ]

pub seen_is : (code : List ℕ) (at : ℕ) (reg : Reg) (t : Table) → IsRegister reg → IsTableOf code (maker_of code at) t → fact_seen (entry_of t reg) at reg ≡ fact_at code at reg
unfolding fact_at carrier_of
seen_is code at reg t small is = seen_by code at reg (maker_of code at reg) (entry_of t reg) (is.each reg small)
