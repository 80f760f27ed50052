-- What is known of uniforms, one instruction more.
use Rattle.std.proofs.Common.{◌≡◌, ℕ, zero, suc, ◌+◌, ◌-◌, ◌≤◌, ◌<◌, ◌^◌, Bool, true, false, not, ◌&&◌, ◌||◌, ◌==◌, nat_lt, List, [], ◌∷◌, ◌++◌, length, slice_index, Option, Some, None, refl, sym, ◌∙◌, ap, arith, ltb-true, lt-ltb, if◌then◌else◌}
use Rattle.std.proofs.lemmas.Bool.Decides.{nat_tests}
use Rattle.qpu_isa.specs.{Terms.tmu_writes, Terms.writes_s, Terms.is_end, Setups.takes_with, Setups.has_setup, Setups.adds_setup, Setups.muls_setup, Setups.adds_direct, Setups.muls_direct}
use Rattle.shader_flow.specs.{Flow.end_of, Flow.checked_of, Pending.takes, Pending.pending_of, Pending.count_of}
use Rattle.job_text.specs.Noted.{noted_line, noted_lines}
use Rattle.job_text.specs.{declared.code.Taking.Taking, Taken.IsTaking, Taken.uniform_at, Taken.as_number, Taken.takes_now, Taken.keeps_next}

-- whether a TMU keeps words is all that counts of how many it keeps
number_is : (k : Bool) (p : ℕ) → k ≡ nat_lt 0 p → (as_number k == 0) ≡ (p == 0)
number_is true p is = grind (arith, nat_tests, is)
number_is false p is = grind (arith, nat_tests, is)

same_takes : (word a b p q : ℕ) → (a == 0) ≡ (p == 0) → (b == 0) ≡ (q == 0) → takes_with word a b ≡ takes_with word p q
unfolding takes_with has_setup adds_setup muls_setup adds_direct muls_direct
same_takes word a b p q e f = rw (e, f) refl

-- an instruction is checked up to the two behind the program end
checked_is : (code : List ℕ) (i : ℕ) → i < length code → nat_lt (i - end_of code) 3 ≡ nat_lt i (checked_of code)
unfolding checked_of
checked_is code i below = grind (arith, nat_tests, below)

checked_near : (code : List ℕ) (i : ℕ) → nat_lt i (checked_of code) ≡ true → i ≤ end_of code + 3
unfolding checked_of
checked_near code i is = omega (arith, ltb-true _ _ is)

near_checked : (code : List ℕ) (i : ℕ) → i < length code → i < end_of code + 3 → nat_lt i (checked_of code) ≡ true
unfolding checked_of
near_checked code i below near = lt-ltb _ _ (omega (arith, below, near))

takes_by : (code : List ℕ) (i w : ℕ) (now : Taking) → i < length code → w ≡ slice_index code i → IsTaking code i now → (is : Bool)
    → nat_lt i (checked_of code) ≡ is → takes_now now w ≡ takes code i
unfolding takes_now takes
takes_by code i w now below here taking true test =
    let near = checked_near code i test in
    let end = ap (λ n. nat_lt n 3) taking.behind ∙ checked_is code i below in
    let with_words = same_takes w (as_number now.keeps0) (as_number now.keeps1) (pending_of code 0 i) (pending_of code 1 i)
    (number_is now.keeps0 (pending_of code 0 i) (taking.keeps0 near)) (number_is now.keeps1 (pending_of code 1 i) (taking.keeps1 near)) in
    ap (λ x. x && takes_with w (as_number now.keeps0) (as_number now.keeps1)) end
    ∙ ap (λ y. nat_lt i (checked_of code) && y) (with_words ∙ ap (λ v. takes_with v (pending_of code 0 i) (pending_of code 1 i)) here)
takes_by code i w now below here taking false test =
    let end = ap (λ n. nat_lt n 3) taking.behind ∙ (checked_is code i below ∙ test) in
    ap (λ x. x && takes_with w (as_number now.keeps0) (as_number now.keeps1)) end
    ∙ sym (ap (λ x. x && takes_with (slice_index code i) (pending_of code 0 i) (pending_of code 1 i)) test)

takes_is : (code : List ℕ) (i w : ℕ) (now : Taking) → i < length code → w ≡ slice_index code i → IsTaking code i now → takes_now now w ≡ takes code i
takes_is code i w now below here taking = takes_by code i w now below here taking (nat_lt i (checked_of code)) refl

pub uniform_is : (code : List ℕ) (i w : ℕ) (now : Taking) (is : Bool) → takes_now now w ≡ is → i < length code → w ≡ slice_index code i
    → IsTaking code i now → (if is then Some now.count else None) ≡ uniform_at code i
unfolding uniform_at
uniform_is code i w now is test below here taking =
    ap (λ b. if b then Some now.count else None) (sym test ∙ takes_is code i w now below here taking)
    ∙ ap (λ n. if takes code i then Some n else None) taking.count

count_by : (n i : ℕ) (is : Bool) → n ≤ i → n + (if is then 1 else 0) ≤ suc i
count_by n i true few = omega (arith, few)
count_by n i false few = omega (arith, few)

count_few : (code : List ℕ) (i : ℕ) → count_of code i ≤ i
unfolding count_of
count_few code zero = omega arith
count_few code (suc i) = count_by (count_of code i) i (takes code i) (count_few code i)

count_more : (n : ℕ) (is : Bool) → (if is then n + 1 else n) ≡ n + (if is then 1 else 0)
count_more n true = refl
count_more n false = omega arith

end_by : (e i : ℕ) (first : Bool) → e ≤ i → (if first then 0 else suc e) ≤ suc i
end_by e i true up = omega arith
end_by e i false up = omega (arith, up)

-- a program end isn't before the first one
end_here : (code : List ℕ) (i : ℕ) → i < length code → is_end (slice_index code i) ≡ true → end_of code ≤ i
unfolding end_of
end_here [] i below is = absurd (omega (arith, below))
end_here (w ∷ later) zero below is = rw is (omega arith)
end_here (w ∷ later) (suc i) below is = end_by (end_of later) i (is_end w) (end_here later i (omega (arith, below)) is)

later_by : (e i : ℕ) (first : Bool) → (i ≤ e → i < e) → suc i ≤ (if first then 0 else suc e) → suc i < (if first then 0 else suc e)
later_by e i true more up = absurd (omega (arith, up))
later_by e i false more up = let far : i < e = more (omega (arith, up)) in omega (arith, far)

-- what is no program end isn't the first one
end_later : (code : List ℕ) (i : ℕ) → i < length code → is_end (slice_index code i) ≡ false → i ≤ end_of code → i < end_of code
unfolding end_of
end_later [] i below is up = absurd (omega (arith, below))
end_later (w ∷ later) zero below is up = rw is (omega arith)
end_later (w ∷ later) (suc i) below is up = later_by (end_of later) i (is_end w) (end_later later i (omega (arith, below)) is) up

behind_by : (code : List ℕ) (i : ℕ) (is : Bool) → i < length code → is_end (slice_index code i) ≡ is
    → (if nat_lt 0 (i - end_of code) || is then i - end_of code + 1 else 0) ≡ suc i - end_of code
behind_by code i true below is = let here = end_here code i below is in grind (arith, nat_tests, here)
behind_by code i false below is = let later = end_later code i below is in grind (arith, nat_tests, later)

keeps_by : (s k : Bool) (p t : ℕ) → k ≡ nat_lt 0 p → (not s && (k || nat_lt 0 t)) ≡ nat_lt 0 (if s then 0 else p + t)
keeps_by true k p t is = refl
keeps_by false k p t is = rw is (grind (arith, nat_tests))

keeps_more : (code : List ℕ) (i tmu w : ℕ) (k : Bool) → i < length code → w ≡ slice_index code i → suc i ≤ end_of code + 3
    → k ≡ nat_lt 0 (pending_of code tmu i) → keeps_next w tmu k ≡ nat_lt 0 (pending_of code tmu (suc i))
unfolding keeps_next pending_of
keeps_more code i tmu w k below here near is =
    let checked = near_checked code i below (omega (arith, near)) in
    rw (here, checked) (keeps_by (writes_s (slice_index code i) tmu) k (pending_of code tmu i) (tmu_writes (slice_index code i) tmu) is)

-- What is known behind an instruction, by what is known before it.
pub taking_more : (code : List ℕ) (i w : ℕ) (now after : Taking)
    → (now.count + 1 < 2 ^ 64 → after.count ≡ (if takes_now now w then now.count + 1 else now.count))
    → (now.behind + 1 < 2 ^ 64 → after.behind ≡ (if nat_lt 0 now.behind || is_end w then now.behind + 1 else 0))
    → after.keeps0 ≡ keeps_next w 0 now.keeps0 → after.keeps1 ≡ keeps_next w 1 now.keeps1
    → length code < 2 ^ 64 → i < length code → w ≡ slice_index code i → IsTaking code i now → IsTaking code (suc i) after
unfolding count_of
taking_more code i w now after count behind keeps0 keeps1 few below here taking =
    let fits : now.count + 1 < 2 ^ 64 = omega (arith, few, below, taking.count, count_few code i) in
    let room : now.behind + 1 < 2 ^ 64 = omega (arith, few, below, taking.behind) in
    record {
      count = count fits
          ∙ (ap (λ b. if b then now.count + 1 else now.count) (takes_is code i w now below here taking)
          ∙ (count_more now.count (takes code i) ∙ ap (λ n. n + (if takes code i then 1 else 0)) taking.count));
      behind = behind room
          ∙ (ap (λ n. if nat_lt 0 n || is_end w then n + 1 else 0) taking.behind
          ∙ (ap (λ v. if nat_lt 0 (i - end_of code) || is_end v then i - end_of code + 1 else 0) here
          ∙ behind_by code i (is_end (slice_index code i)) below refl));
      keeps0 = λ near. keeps0 ∙ keeps_more code i 0 w now.keeps0 below here near (taking.keeps0 (omega (arith, near)));
      keeps1 = λ near. keeps1 ∙ keeps_more code i 1 w now.keeps1 below here near (taking.keeps1 (omega (arith, near)));
    }

-- nothing is taken before the first instruction
pub taking_none : (code : List ℕ) (now : Taking) → now.count ≡ 0 → now.behind ≡ 0 → now.keeps0 ≡ false → now.keeps1 ≡ false → IsTaking code 0 now
unfolding count_of pending_of
taking_none code now count behind keeps0 keeps1 =
    record { count = count; behind = behind ∙ omega arith; keeps0 = λ near. keeps0; keeps1 = λ near. keeps1 }

pub noted_none : (words text : List ℕ) → text ≡ [] → text ≡ noted_lines words 0
unfolding noted_lines
noted_none words text is = is

-- one line more
pub noted_more : (words : List ℕ) (i w : ℕ) (uniform : Option ℕ) (old new : List ℕ) → w ≡ slice_index words i → uniform ≡ uniform_at words i
    → old ≡ noted_lines words i → new ≡ old ++ noted_line i w uniform → new ≡ noted_lines words (i + 1)
unfolding noted_lines
noted_more words i w uniform old new here takes before put =
    let e : suc i ≡ i + 1 = omega arith in
    put ∙ (ap (λ l. l ++ noted_line i w uniform) before
    ∙ (ap (λ v. noted_lines words i ++ noted_line i v uniform) here
    ∙ (ap (λ u. noted_lines words i ++ noted_line i (slice_index words i) u) takes ∙ ap (noted_lines words) e)))
