-- Laws on the fetch of a vertex.
use Rattle.std.proofs.Common.{◌≡◌, ◌≤◌, ◌<◌, ℕ, suc, ◌+◌, ◌-◌, ◌*◌, ◌%◌, ◌^◌, List, Some, Bool, true, false, if◌then◌else◌, ◌++◌, ◌∷◌, [], refl, sym, ◌∙◌, ap, subst, arith}
use Rattle.std.proofs.Math.Nat.{mul-le-mul}
use Rattle.packets.specs.StateWord.{attribute_count, is_extended}
use Rattle.field_words.specs.Words.{u32_at}
use Rattle.machine_plan.specs.{Memory.bytes_at, Plan.Plan, Plan.Done, Plan.Reads, Plan.Outcome, Plan.Shows, Plan.access, Plan.outcome_of}
use Rattle.machine_plan.specs.World.{plan_followed}
use Rattle.machine_plan.proofs.Reading.{IsLeft, left_first, left_done, shows_read}
use Rattle.machine_plan.proofs.Joining.{left_followed, shows_followed}
use Rattle.list_machine.specs.Fetch.{index_size, index_in, index_plan, attribute_place, extension_place, data_plan, extended_plan, attribute_plan, attributes_plan, all_attributes_plan, indexed_plan, fetch_plan}
use Rattle.list_machine.specs.State.{Access, Primitive, Read, Who}

pub data_limit : (address index stride : ℕ) → address < 2 ^ 32 → index < 2 ^ 32 → stride < 2 ^ 32 → address + index * stride < 2 ^ 64
data_limit address index stride low few near =
    let a : index ≤ 2 ^ 32 - 1 = omega arith in
    let b : stride ≤ 2 ^ 32 - 1 = omega arith in
    let c : index * stride ≤ (2 ^ 32 - 1) * (2 ^ 32 - 1) = mul-le-mul a b in
    omega arith

-- what the fetch of all attributes has left to do from attribute t on
abbrev pub AttributesLeft : Who → ℕ → ℕ → List ℕ → List Access → List Access → ℕ → Type 0
AttributesLeft who word index m before now t =
    IsLeft (outcome_of who (all_attributes_plan word index) m) (outcome_of who (attributes_plan word t (attribute_count word - t) index) m) before now

attributes_suc : (word t count index : ℕ) → t < count → attributes_plan word t (count - t) index ≡ plan_followed (attribute_plan word index t) (attributes_plan word (t + 1) (count - (t + 1)))
unfolding attributes_plan
attributes_suc word t count index below =
    let one : count - t ≡ suc (count - (t + 1)) = omega arith in
    ap (λ n. attributes_plan word t n index) one

pub attributes_begin : (who : Who) (word index : ℕ) (m : List ℕ) (before : List Access) → AttributesLeft who word index m before before 0
attributes_begin who word index m before =
    let all : attribute_count word - 0 ≡ attribute_count word = omega arith in
    let whole : Outcome ℕ = outcome_of who (all_attributes_plan word index) m in
    subst (λ n. IsLeft whole (outcome_of who (attributes_plan word 0 n index) m) before before) (sym all) (left_first whole before)

pub attributes_more : (who : Who) (word index : ℕ) (m : List ℕ) (before now listed : List Access) (t : ℕ) → t < attribute_count word → Shows (outcome_of who (attribute_plan word index t) m) now listed m (Some index)
    → AttributesLeft who word index m before now t → AttributesLeft who word index m before listed (t + 1)
attributes_more who word index m before now listed t below shows left =
    let count = attribute_count word in
    let whole : Outcome ℕ = outcome_of who (all_attributes_plan word index) m in
    let here : IsLeft whole (outcome_of who (plan_followed (attribute_plan word index t) (attributes_plan word (t + 1) (count - (t + 1)))) m) before now =
    subst (λ plan. IsLeft whole (outcome_of who plan m) before now) (attributes_suc word t count index below) left in
    left_followed who (attribute_plan word index t) (attributes_plan word (t + 1) (count - (t + 1))) m m whole before now listed index here shows

pub attributes_end : (who : Who) (word index : ℕ) (m : List ℕ) (before now : List Access) (t : ℕ) → attribute_count word ≤ t → AttributesLeft who word index m before now t
    → Shows (outcome_of who (all_attributes_plan word index) m) before now m (Some index)
unfolding attributes_plan
attributes_end who word index m before now t all left =
    let count = attribute_count word in
    let whole : Outcome ℕ = outcome_of who (all_attributes_plan word index) m in
    let none : count - t ≡ 0 = omega (arith, all) in
    left_done who index m whole before now (subst (λ n. IsLeft whole (outcome_of who (attributes_plan word t n index) m) before now) none left)

index_plan_is : (p : Primitive) (k : ℕ) → p.indexed ≡ true → index_plan p k ≡ Reads (p.address + k * index_size p) (index_size p) (λ bytes. Done (index_in p bytes))
unfolding index_plan
index_plan_is p k indexed = ap (λ b. if b then Reads (p.address + k * index_size p) (index_size p) (λ bytes. Done (index_in p bytes)) else Done ((p.address + k) % 2 ^ 32)) indexed

-- an index that was read
pub index_read : (who : Who) (p : Primitive) (k size index : ℕ) (m bytes : List ℕ) (before listed : List Access) → p.indexed ≡ true → size ≡ index_size p → bytes ≡ bytes_at m (p.address + k * size) size
    → listed ≡ before ++ access who Read (p.address + k * size) size ∷ [] → index ≡ index_in p bytes → Shows (outcome_of who (index_plan p k) m) before listed m (Some index)
index_read who p k size index m bytes before listed indexed size_is bytes_are listed_is index_is =
    let next : List ℕ → Plan ℕ = λ b. Done (index_in p b) in
    let came : index_in p (bytes_at m (p.address + k * size) size) ≡ index = ap (index_in p) (sym bytes_are) ∙ sym index_is in
    let read : Shows (outcome_of who (Reads (p.address + k * size) size next) m) before listed m (Some index) = record { accesses = listed_is; memory_is = refl; result_is = ap Some (sym came) } in
    let sized : Shows (outcome_of who (Reads (p.address + k * index_size p) (index_size p) next) m) before listed m (Some index) =
    subst (λ n. Shows (outcome_of who (Reads (p.address + k * n) n next) m) before listed m (Some index)) size_is read in
    subst (λ plan. Shows (outcome_of who plan m) before listed m (Some index)) (sym (index_plan_is p k indexed)) sized

extended_is : (word index t : ℕ) (attribute : List ℕ) (extended : Bool) → is_extended word ≡ extended
    → extended_plan word index t attribute ≡ (if extended then Reads (extension_place word t) 4 (λ extension. data_plan attribute (u32_at extension 0) index) else data_plan attribute 0 index)
unfolding extended_plan
extended_is word index t attribute extended is = ap (λ b. if b then Reads (extension_place word t) 4 (λ extension. data_plan attribute (u32_at extension 0) index) else data_plan attribute 0 index) is

-- an extended record's word was read, and then the data
pub extension_read : (who : Who) (word index t place extension : ℕ) (attribute m : List ℕ) (before listed after : List Access) → is_extended word ≡ true → place ≡ extension_place word t → extension ≡ u32_at (bytes_at m place 4) 0
    → listed ≡ before ++ access who Read place 4 ∷ [] → Shows (outcome_of who (data_plan attribute extension index) m) listed after m (Some index) → Shows (outcome_of who (extended_plan word index t attribute) m) before after m (Some index)
extension_read who word index t place extension attribute m before listed after extended place_is extension_is listed_is shows =
    let next : List ℕ → Plan ℕ = λ b. data_plan attribute (u32_at b 0) index in
    let further = subst (λ e. Shows (outcome_of who (data_plan attribute e index) m) listed after m (Some index)) extension_is shows in
    let read : Shows (outcome_of who (Reads place 4 next) m) before after m (Some index) = shows_read who place 4 next m (bytes_at m place 4) before listed after m (Some index) listed_is refl further in
    let placed : Shows (outcome_of who (Reads (extension_place word t) 4 next) m) before after m (Some index) = subst (λ q. Shows (outcome_of who (Reads q 4 next) m) before after m (Some index)) place_is read in
    subst (λ plan. Shows (outcome_of who plan m) before after m (Some index)) (sym (extended_is word index t attribute true extended)) placed

-- the data alone
pub no_extension : (who : Who) (word index t : ℕ) (attribute m : List ℕ) (before after : List Access) → is_extended word ≡ false → Shows (outcome_of who (data_plan attribute 0 index) m) before after m (Some index) → Shows (outcome_of who (extended_plan word index t attribute) m) before after m (Some index)
no_extension who word index t attribute m before after plain shows = subst (λ plan. Shows (outcome_of who plan m) before after m (Some index)) (sym (extended_is word index t attribute false plain)) shows

-- an attribute's bytes were read, and then what they name
pub attribute_read : (who : Who) (word index t place : ℕ) (m bytes : List ℕ) (before listed after : List Access) → place ≡ attribute_place word t → bytes ≡ bytes_at m place 8
    → listed ≡ before ++ access who Read place 8 ∷ [] → Shows (outcome_of who (extended_plan word index t bytes) m) listed after m (Some index) → Shows (outcome_of who (attribute_plan word index t) m) before after m (Some index)
unfolding attribute_plan
attribute_read who word index t place m bytes before listed after place_is bytes_are listed_is shows =
    let next : List ℕ → Plan ℕ = extended_plan word index t in
    subst (λ q. Shows (outcome_of who (Reads q 8 next) m) before after m (Some index)) place_is (shows_read who place 8 next m bytes before listed after m (Some index) listed_is bytes_are shows)

-- the index, and then what it names
pub vertex_shows : (who : Who) (p : Primitive) (word k index : ℕ) (m : List ℕ) (before listed after : List Access) → Shows (outcome_of who (index_plan p k) m) before listed m (Some index) → Shows (outcome_of who (indexed_plan p word index) m) listed after m (Some index)
    → Shows (outcome_of who (fetch_plan p word k) m) before after m (Some index)
unfolding fetch_plan
vertex_shows who p word k index m before listed after first further = shows_followed who (index_plan p k) (indexed_plan p word) m m before listed after m index (Some index) first further
