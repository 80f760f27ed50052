-- Keeping the table: what one instruction changes of who made what stands in a register.
use Rattle.std.proofs.Common.{◌≡◌, ◌≤◌, ◌<◌, ◌+◌, ◌-◌, ℕ, Bool, true, false, not, ◌&&◌, ◌||◌, List, Some, None, if◌then◌else◌, refl, sym, ap, subst, inl, inr, arith, ◌∙◌, nat_le}
use Rattle.std.proofs.lemmas.Bool.{cases_lt, cases_Bool, and_parts, and_from, and_left, and_right, or_left, or_right, or_cases, true≢false, false_from_ne_true, le-leb, leb-true}
use Rattle.qpu_isa.specs.{declared.inst.Reg.Reg, Terms.names, Terms.is_accumulator, Terms.is_switch}
use Rattle.shader_flow.specs.{Bounded.some_in, Bounded.some_below, Bounded.is_back, Bounded.last_below, Flow.word, Flow.is_target}
use Rattle.shader_flow.proofs.Bounded.{some_below-suc, some_below_here, some_below_none, some_below_found, some_in_none, same_tests, last_below-suc, last_below_none, last_below_same}
use Rattle.clamp_facts.specs.{Facts.sets, Facts.stays, Facts.switches_between, Facts.maker_of, Upkeep.setter, Upkeep.maker_written}
use Rattle.clamp_facts.proofs.Carriers.{sets_names}

-- what stands in the register can't be known past the instruction at i
unfoldable pub is_cut : List ℕ → Reg → ℕ → Bool
is_cut code reg i = is_target code (i + 1) || (is_accumulator reg && is_back i 2 (λ k. is_switch (word code k)))

pub some_in_last : (from to : ℕ) (p : ℕ → Bool) → from ≤ to → some_in from (to + 1) p ≡ (some_in from to p || p to)
unfolding some_in
some_in_last from to p less =
    some_below-suc to (λ k. nat_le from k && p k)
    ∙ ap (λ b. some_below to (λ k. nat_le from k && p k) || (b && p to)) (le-leb from to less)

-- the switches between, with one more
abbrev pub acts : List ℕ → ℕ → ℕ → ℕ → Bool
acts code j i s = is_switch (word code s) && (nat_le j (s + 2) && nat_le (s + 3) i)

pub acts_parts : (code : List ℕ) (j i s : ℕ) → acts code j i s ≡ true → (is_switch (word code s) ≡ true) × (j ≤ s + 2) × (s + 3 ≤ i)
acts_parts code j i s is =
    let both = and_parts (is_switch (word code s)) (nat_le j (s + 2) && nat_le (s + 3) i) is in
    let rest = and_parts (nat_le j (s + 2)) (nat_le (s + 3) i) both.1 in
    (both.0, leb-true j (s + 2) rest.0, leb-true (s + 3) i rest.1)

pub acts_from : (code : List ℕ) (j i s : ℕ) → is_switch (word code s) ≡ true → j ≤ s + 2 → s + 3 ≤ i → acts code j i s ≡ true
acts_from code j i s is low high =
    and_from (is_switch (word code s)) (nat_le j (s + 2) && nat_le (s + 3) i) is
    (and_from (nat_le j (s + 2)) (nat_le (s + 3) i) (le-leb j (s + 2) low) (le-leb (s + 3) i high))

pub back_parts : (code : List ℕ) (i : ℕ) → is_back i 2 (λ k. is_switch (word code k)) ≡ true → (2 ≤ i) × (is_switch (word code (i - 2)) ≡ true)
unfolding is_back
back_parts code i back =
    let both = and_parts (nat_le 2 i) (is_switch (word code (i - 2))) back in
    (leb-true 2 i both.0, both.1)

pub back_from : (code : List ℕ) (i s : ℕ) → s + 2 ≡ i → is_switch (word code s) ≡ true → is_back i 2 (λ k. is_switch (word code k)) ≡ true
unfolding is_back
back_from code i s at is =
    let e : s ≡ i - 2 = omega (arith, at) in
    and_from (nat_le 2 i) (is_switch (word code (i - 2))) (le-leb 2 i (omega (arith, at))) (subst (λ m. is_switch (word code m) ≡ true) e is)

pub between_more : (code : List ℕ) (j i : ℕ) → j ≤ i
    → switches_between code j (i + 1) ≡ (switches_between code j i || is_back i 2 (λ k. is_switch (word code k)))
unfolding switches_between
between_more code j i less =
    same_tests (some_below (i + 1) (acts code j (i + 1))) (some_below i (acts code j i) || is_back i 2 (λ k. is_switch (word code k)))
    (λ some.
    let found = some_below_found (i + 1) (acts code j (i + 1)) some in
    let parts = acts_parts code j (i + 1) found.0 found.2 in
    elim (cases_lt (found.0 + 2) i) [
      | inl earlier ↦ or_left (some_below i (acts code j i)) (is_back i 2 (λ k. is_switch (word code k)))
          (some_below_here i found.0 (acts code j i) (omega (arith, earlier)) (acts_from code j i found.0 parts.0 parts.1 (omega (arith, earlier))))
      | inr here ↦ or_right (some_below i (acts code j i)) (is_back i 2 (λ k. is_switch (word code k)))
          (back_from code i found.0 (omega (arith, here, parts.2)) parts.0)
    ])
    (λ some. elim (or_cases (some_below i (acts code j i)) (is_back i 2 (λ k. is_switch (word code k))) some) [
      | inl earlier ↦
          (let found = some_below_found i (acts code j i) earlier in
          let parts = acts_parts code j i found.0 found.2 in
          some_below_here (i + 1) found.0 (acts code j (i + 1)) (omega (arith, found.1)) (acts_from code j (i + 1) found.0 parts.0 parts.1 (omega (arith, parts.2))))
      | inr back ↦
          (let parts = back_parts code i back in
          some_below_here (i + 1) (i - 2) (acts code j (i + 1)) (omega (arith, parts.0)) (acts_from code j (i + 1) (i - 2) parts.1 (omega (arith, less, parts.0)) (omega (arith, parts.0))))
    ])

pub between_none : (code : List ℕ) (i : ℕ) → switches_between code i i ≡ false
unfolding switches_between
between_none code i =
    some_below_none i (acts code i i)
    (λ s below. false_from_ne_true (acts code i i s) (λ is. let parts = acts_parts code i i s is in omega (arith, parts.1, parts.2)))

-- names, targets, switches: what stays past one more instruction
pub stays_law : (a n b t c d k : Bool)
    → (not (a || n) && (not (b || t) && not (c && (d || k)))) ≡ ((not a && (not b && not (c && d))) && (not n && not (t || (c && k))))
stays_law true n b t c d k = refl
stays_law false true true t c d k = refl
stays_law false true false t true true k = refl
stays_law false true false t true false k = refl
stays_law false true false t false d k = refl
stays_law false false true t c d k = refl
stays_law false false false true true true k = refl
stays_law false false false true true false k = refl
stays_law false false false true false d k = refl
stays_law false false false false true true k = refl
stays_law false false false false true false k = refl
stays_law false false false false false d k = refl

pub stays_more : (code : List ℕ) (j i : ℕ) (reg : Reg) → j < i
    → stays code j (i + 1) reg ≡ (stays code j i reg && (not (names (word code i) reg) && not (is_cut code reg i)))
unfolding stays is_cut
stays_more code j i reg below =
    ap (λ b. not b && (not (some_in (j + 1) (i + 1 + 1) (is_target code)) && not (is_accumulator reg && switches_between code j (i + 1))))
    (some_in_last (j + 1) i (λ k. names (word code k) reg) (omega (arith, below)))
    ∙ (ap (λ b. not (some_in (j + 1) i (λ k. names (word code k) reg) || names (word code i) reg) && (not b && not (is_accumulator reg && switches_between code j (i + 1))))
    (some_in_last (j + 1) (i + 1) (is_target code) (omega (arith, below)))
    ∙ (ap (λ b. not (some_in (j + 1) i (λ k. names (word code k) reg) || names (word code i) reg)
    && (not (some_in (j + 1) (i + 1) (is_target code) || is_target code (i + 1)) && not (is_accumulator reg && b)))
    (between_more code j i (omega (arith, below)))
    ∙ stays_law (some_in (j + 1) i (λ k. names (word code k) reg)) (names (word code i) reg) (some_in (j + 1) (i + 1) (is_target code)) (is_target code (i + 1))
    (is_accumulator reg) (switches_between code j i) (is_back i 2 (λ k. is_switch (word code k)))))

pub here_law : (t c k : Bool) → (not false && (not (false || t) && not (c && (false || k)))) ≡ not (t || (c && k))
here_law true c k = refl
here_law false c k = refl

pub stays_here : (code : List ℕ) (i : ℕ) (reg : Reg) → stays code i (i + 1) reg ≡ not (is_cut code reg i)
unfolding stays is_cut
stays_here code i reg =
    ap (λ b. not b && (not (some_in (i + 1) (i + 1 + 1) (is_target code)) && not (is_accumulator reg && switches_between code i (i + 1))))
    (some_in_none (i + 1) (i + 1) (λ k. names (word code k) reg) (λ k from to. let no : ⊥ = omega (arith, from, to) in absurd no))
    ∙ (ap (λ b. not false && (not b && not (is_accumulator reg && switches_between code i (i + 1))))
    (some_in_last (i + 1) (i + 1) (is_target code) (omega arith)
    ∙ ap (λ b. b || is_target code (i + 1)) (some_in_none (i + 1) (i + 1) (is_target code) (λ k from to. let no : ⊥ = omega (arith, from, to) in absurd no)))
    ∙ (ap (λ b. not false && (not (false || is_target code (i + 1)) && not (is_accumulator reg && b)))
    (between_more code i i (omega arith) ∙ ap (λ b. b || is_back i 2 (λ k. is_switch (word code k))) (between_none code i))
    ∙ here_law (is_target code (i + 1)) (is_accumulator reg) (is_back i 2 (λ k. is_switch (word code k)))))

-- a candidate at i + 1
abbrev pub stands : List ℕ → ℕ → Reg → ℕ → Bool
stands code i reg j = sets code j reg && stays code j i reg

-- past a cut nobody made what stands there
pub maker_cut : (code : List ℕ) (i : ℕ) (reg : Reg) → is_cut code reg i ≡ true → maker_of code (i + 1) reg ≡ None
unfolding maker_of
maker_cut code i reg cut =
    last_below_none (i + 1) (stands code (i + 1) reg)
    (λ k below. and_right (sets code k reg) (stays code k (i + 1) reg)
    (elim (cases_lt k i) [
      | inl earlier ↦
          stays_more code k i reg earlier
          ∙ and_right (stays code k i reg) (not (names (word code i) reg) && not (is_cut code reg i))
          (and_right (not (names (word code i) reg)) (not (is_cut code reg i)) (ap not cut))
      | inr last ↦
          (let e : k ≡ i = omega (arith, below, last) in
          ap (λ m. stays code m (i + 1) reg) e ∙ (stays_here code i reg ∙ ap not cut))
    ]))

pub and_true : (b : Bool) → (b && true) ≡ b
and_true true = refl
and_true false = refl

-- else it is the instruction at i, where that names the register, or the one before
pub maker_named : (code : List ℕ) (i : ℕ) (reg : Reg) → is_cut code reg i ≡ false → names (word code i) reg ≡ true → maker_of code (i + 1) reg ≡ setter code i reg
unfolding maker_of
maker_named code i reg on named =
    last_below-suc i (stands code (i + 1) reg)
    ∙ (ap (λ b. if b then Some i else last_below i (stands code (i + 1) reg)) (ap (λ b. sets code i reg && b) (stays_here code i reg ∙ ap not on) ∙ and_true (sets code i reg))
    ∙ ap (λ o. if sets code i reg then Some i else o)
    (last_below_none i (stands code (i + 1) reg)
    (λ k below. and_right (sets code k reg) (stays code k (i + 1) reg)
    (stays_more code k i reg below
    ∙ and_right (stays code k i reg) (not (names (word code i) reg) && not (is_cut code reg i)) (and_left (not (names (word code i) reg)) (not (is_cut code reg i)) (ap not named))))))

pub maker_same : (code : List ℕ) (i : ℕ) (reg : Reg) → is_cut code reg i ≡ false → names (word code i) reg ≡ false → maker_of code (i + 1) reg ≡ maker_of code i reg
unfolding maker_of
maker_same code i reg on quiet =
    last_below-suc i (stands code (i + 1) reg)
    ∙ (ap (λ b. if b then Some i else last_below i (stands code (i + 1) reg))
    (and_left (sets code i reg) (stays code i (i + 1) reg)
    (false_from_ne_true (sets code i reg) (λ sets-it. true≢false (sym (sets_names code i reg sets-it) ∙ quiet))))
    ∙ last_below_same i (stands code (i + 1) reg) (stands code i reg)
    (λ k below. ap (λ b. sets code k reg && b)
    (stays_more code k i reg below
    ∙ (ap (λ b. stays code k i reg && (not b && not (is_cut code reg i))) quiet
    ∙ (ap (λ b. stays code k i reg && (true && not b)) on ∙ and_true (stays code k i reg))))))

pub maker_next : (code : List ℕ) (i : ℕ) (reg : Reg) → is_cut code reg i ≡ false → maker_of code (i + 1) reg ≡ maker_written code i reg
unfolding maker_written
maker_next code i reg on =
    elim (cases_Bool (names (word code i) reg)) [
      | inl named ↦ maker_named code i reg on named ∙ sym (ap (λ b. if b then setter code i reg else maker_of code i reg) named)
      | inr quiet ↦ maker_same code i reg on quiet ∙ sym (ap (λ b. if b then setter code i reg else maker_of code i reg) quiet)
    ]
