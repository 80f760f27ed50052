-- The loops that carry out a request.
use Rattle.std.proofs.Common.{◌≡◌, ◌≤◌, ◌<◌, ℕ, suc, ◌+◌, ◌-◌, ◌%◌, List, [], ◌∷◌, ◌++◌, length, take, drop, slice_index, slice_set, Option, Some, None, Bool, true, false, if◌then◌else◌, refl, sym, ◌∙◌, ap, subst, arith, drop-cons}
use Rattle.std.proofs.{lemmas.List.take_more_set, lemmas.Grind.common_steps}
use Rattle.field_words.specs.Words.{u32_at}
use Rattle.qpu_machine.specs.Request.{direct_plan, chosen_place, chosen_length, read_at, texture_reads, is_undefined, texture_plan}
use Rattle.qpu_machine.specs.State.{Access, Read, Who, Wild}
use Rattle.machine_plan.specs.Memory.{bytes_at}
use Rattle.machine_plan.specs.Plan.{Plan, Done, Wilds, Reads, Outcome, Shows, access, outcome_of}
use Rattle.machine_plan.proofs.Reading.{IsLeft, left_read, left_done, left_wild}
use Rattle.texture_layouts.specs.Setup.{TextureModel, texture_of}

-- what a direct request has left to do past element e, with what it found before
abbrev pub DirectLeft : Who → List ℕ → List ℕ → List ℕ → List Access → List Access → ℕ → Type 0
DirectLeft who row found m before now e = IsLeft (outcome_of who (direct_plan row []) m) (outcome_of who (direct_plan (drop e row) (take e found)) m) before now

drop_more : (row : List ℕ) (e : ℕ) → e < length row → drop e row ≡ slice_index row e ∷ drop (e + 1) row
drop_more row e below =
    let one : suc e ≡ e + 1 = omega arith in
    drop-cons row e 0 below ∙ ap (λ k. slice_index row e ∷ drop k row) one

pub direct_more : (who : Who) (row found m : List ℕ) (before now listed : List Access) (e word : ℕ) → e < 16 → length row ≡ 16 → length found ≡ 16
    → word ≡ u32_at (bytes_at m (slice_index row e - slice_index row e % 4) 4) 0 → listed ≡ now ++ access who Read (slice_index row e - slice_index row e % 4) 4 ∷ []
    → DirectLeft who row found m before now e → DirectLeft who row (slice_set found e word) m before listed (e + 1)
unfolding direct_plan
direct_more who row found m before now listed e word below row_size found_size word_is listed_is left =
    let a = slice_index row e in
    let place = a - a % 4 in
    let later = drop (e + 1) row in
    let whole : Outcome (List ℕ) = outcome_of who (direct_plan row []) m in
    let next : List ℕ → Plan (List ℕ) = λ bytes. direct_plan later (take e found ++ (u32_at bytes 0 ∷ [])) in
    let here : IsLeft whole (outcome_of who (Reads place 4 next) m) before now =
    subst (λ rest. IsLeft whole (outcome_of who (direct_plan rest (take e found)) m) before now) (drop_more row e (omega (arith, below, row_size))) left in
    let read : IsLeft whole (outcome_of who (next (bytes_at m place 4)) m) before (now ++ access who Read place 4 ∷ []) = left_read who place 4 next m whole before now here in
    let found_is : take e found ++ u32_at (bytes_at m place 4) 0 ∷ [] ≡ take (e + 1) (slice_set found e word) =
    ap (λ w. take e found ++ w ∷ []) (sym word_is) ∙ sym (take_more_set found e word (omega (arith, below, found_size))) in
    let taken : IsLeft whole (outcome_of who (direct_plan later (take (e + 1) (slice_set found e word))) m) before (now ++ access who Read place 4 ∷ []) =
    subst (λ f. IsLeft whole (outcome_of who (direct_plan later f) m) before (now ++ access who Read place 4 ∷ [])) found_is read in
    subst (λ l. IsLeft whole (outcome_of who (direct_plan later (take (e + 1) (slice_set found e word))) m) before l) (sym listed_is) taken

drop_all : (row : List ℕ) (e : ℕ) → length row ≤ e → drop e row ≡ []
drop_all row e all = grind (arith, common_steps, all)

take_all : (row : List ℕ) (e : ℕ) → length row ≤ e → take e row ≡ row
take_all row e all = grind (arith, common_steps, all)

pub direct_end : (who : Who) (row found m : List ℕ) (before now : List Access) (e : ℕ) → 16 ≤ e → length row ≡ 16 → length found ≡ 16
    → DirectLeft who row found m before now e → Shows (outcome_of who (direct_plan row []) m) before now m (Some found)
unfolding direct_plan
direct_end who row found m before now e all row_size found_size left =
    let whole : Outcome (List ℕ) = outcome_of who (direct_plan row []) m in
    let none : IsLeft whole (outcome_of who (direct_plan [] (take e found)) m) before now =
    subst (λ rest. IsLeft whole (outcome_of who (direct_plan rest (take e found)) m) before now) (drop_all row e (omega (arith, all, row_size))) left in
    let done : IsLeft whole (outcome_of who (Done found) m) before now =
    subst (λ f. IsLeft whole (outcome_of who (Done f) m) before now) (take_all found e (omega (arith, all, found_size))) none in
    left_done who found m whole before now done

-- what a texture's request has left to do from read i on
abbrev pub TextureLeft : Who → TextureModel → List ℕ → List ℕ → List Access → List Access → ℕ → Type 0
TextureLeft who t words m before now i = IsLeft (outcome_of who (texture_reads t words 0 128) m) (outcome_of who (texture_reads t words i (128 - i)) m) before now

reads_more : (t : TextureModel) (words : List ℕ) (i : ℕ) → i < 128 → texture_reads t words i (128 - i) ≡ read_at (chosen_place t words i) (chosen_length t words i) (texture_reads t words (i + 1) (128 - (i + 1)))
unfolding texture_reads
reads_more t words i below =
    let left : 128 - i ≡ suc (128 - (i + 1)) = omega (arith, below) in
    ap (λ n. texture_reads t words i n) left

abbrev pub LeftOf : Who → TextureModel → List ℕ → List ℕ → List Access → List Access → Plan (Option (List ℕ)) → Type 0
LeftOf who t words m before now plan = IsLeft (outcome_of who (texture_reads t words 0 128) m) (outcome_of who plan m) before now

at_read : (who : Who) (t : TextureModel) (words m : List ℕ) (before now : List Access) (i : ℕ) (place : Option ℕ) → i < 128 → chosen_place t words i ≡ place → TextureLeft who t words m before now i
    → LeftOf who t words m before now (read_at place (chosen_length t words i) (texture_reads t words (i + 1) (128 - (i + 1))))
at_read who t words m before now i place below place_is left =
    let rest = texture_reads t words (i + 1) (128 - (i + 1)) in
    subst (LeftOf who t words m before now) (reads_more t words i below ∙ ap (λ p. read_at p (chosen_length t words i) rest) place_is) left

pub texture_more : (who : Who) (t : TextureModel) (words m : List ℕ) (before now listed : List Access) (i place len : ℕ) → i < 128 → Some place ≡ chosen_place t words i → len ≡ chosen_length t words i
    → listed ≡ now ++ access who Read place len ∷ [] → TextureLeft who t words m before now i → TextureLeft who t words m before listed (i + 1)
texture_more who t words m before now listed i place len below place_is len_is listed_is left =
    let whole : Outcome (Option (List ℕ)) = outcome_of who (texture_reads t words 0 128) m in
    let rest = texture_reads t words (i + 1) (128 - (i + 1)) in
    let here = at_read who t words m before now i (Some place) below (sym place_is) left in
    let read : IsLeft whole (outcome_of who rest m) before (now ++ access who Read place (chosen_length t words i) ∷ []) = left_read who place (chosen_length t words i) (λ bytes. rest) m whole before now here in
    let listed_so : now ++ access who Read place (chosen_length t words i) ∷ [] ≡ listed = ap (λ n. now ++ access who Read place n ∷ []) (sym len_is) ∙ sym listed_is in
    subst (λ l. IsLeft whole (outcome_of who rest m) before l) listed_so read

pub texture_wild : (who : Who) (t : TextureModel) (words m : List ℕ) (before now listed : List Access) (i : ℕ) → i < 128 → None ≡ chosen_place t words i
    → listed ≡ now ++ access who Wild 0 0 ∷ [] → TextureLeft who t words m before now i → Shows (outcome_of who (texture_reads t words 0 128) m) before listed m None
texture_wild who t words m before now listed i below place_is listed_is left =
    let here = at_read who t words m before now i None below (sym place_is) left in
    left_wild who m (outcome_of who (texture_reads t words 0 128) m) before now listed here listed_is

pub texture_end : (who : Who) (t : TextureModel) (words m : List ℕ) (before now : List Access) (i : ℕ) → 128 ≤ i → TextureLeft who t words m before now i → Shows (outcome_of who (texture_reads t words 0 128) m) before now m (Some None)
unfolding texture_reads
texture_end who t words m before now i all left =
    let none : 128 - i ≡ 0 = omega (arith, all) in
    left_done who None m (outcome_of who (texture_reads t words 0 128) m) before now (subst (λ n. LeftOf who t words m before now (texture_reads t words i n)) none left)

-- the plan of a texture by the test
plan_by : (p0 p1 p2 p3 : ℕ) (words : List ℕ) (undefined : Bool) → is_undefined p0 p1 p2 p3 ≡ undefined → texture_plan p0 p1 p2 p3 words ≡ (if undefined then Wilds else texture_reads (texture_of p0 p1 p2 p3) words 0 128)
unfolding texture_plan
plan_by p0 p1 p2 p3 words undefined is = ap (λ b. if b then Wilds else texture_reads (texture_of p0 p1 p2 p3) words 0 128) is

pub texture_undefined : (who : Who) (p0 p1 p2 p3 : ℕ) (words m : List ℕ) (before listed : List Access) → is_undefined p0 p1 p2 p3 ≡ true → listed ≡ before ++ access who Wild 0 0 ∷ []
    → Shows (outcome_of who (texture_plan p0 p1 p2 p3 words) m) before listed m None
texture_undefined who p0 p1 p2 p3 words m before listed undefined listed_is =
    subst (λ plan. Shows (outcome_of who plan m) before listed m None) (sym (plan_by p0 p1 p2 p3 words true undefined)) (record { accesses = listed_is; memory_is = refl; result_is = refl })

pub texture_listed : (who : Who) (t : TextureModel) (p0 p1 p2 p3 : ℕ) (words m : List ℕ) (before listed : List Access) (result : Option (Option (List ℕ))) → is_undefined p0 p1 p2 p3 ≡ false → t ≡ texture_of p0 p1 p2 p3
    → Shows (outcome_of who (texture_reads t words 0 128) m) before listed m result → Shows (outcome_of who (texture_plan p0 p1 p2 p3 words) m) before listed m result
texture_listed who t p0 p1 p2 p3 words m before listed result defined texture_is shows =
    subst (λ plan. Shows (outcome_of who plan m) before listed m result) (sym (plan_by p0 p1 p2 p3 words false defined)) (subst (λ s. Shows (outcome_of who (texture_reads s words 0 128) m) before listed m result) texture_is shows)
