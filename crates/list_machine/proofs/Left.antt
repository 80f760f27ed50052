-- The loops over the parts of a load or store.
use Rattle.std.proofs.Common.{◌≡◌, ℕ, zero, suc, ◌+◌, ◌*◌, List, [], ◌∷◌, ◌++◌, length, Some, subst}
use Rattle.machine_plan.specs.{Memory.bytes_stored}
use Rattle.machine_plan.specs.Plan.{Plan, Done, Reads, Writes, Outcome, Shows, access, outcome_of}
use Rattle.machine_plan.proofs.{Joining.left_write, Reading.IsLeft, Reading.left_read, Reading.left_done}
use Rattle.list_machine.specs.{State.Access, State.Cover, State.Read, State.Who, State.Write, Store.bytes_chosen}
use Rattle.list_machine.specs.Cover.{part_place, parts_written, parts_read}
use Rattle.list_machine.proofs.Storing.{chosen_size}

-- Of a store of n parts, k parts from part j on are left to do.
abbrev pub WritesLeft : {R : Type 0} → Who → Cover → List ℕ → R → List ℕ → List ℕ → List Access → List Access → (n j k : ℕ) → Type 0
WritesLeft who c words r first m before now n j k = IsLeft (outcome_of who (parts_written c words 0 n (Done r)) first) (outcome_of who (parts_written c words j k (Done r)) m) before now

pub writes_more : {R : Type 0} (who : Who) (c : Cover) (words : List ℕ) (r : R) (first m : List ℕ) (before now : List Access) (n j k next rest : ℕ) → suc j ≡ next → k ≡ suc rest → WritesLeft who c words r first m before now n j k
    → WritesLeft who c words r first (bytes_stored m (part_place c j) (bytes_chosen words (j * c.size) c.size)) before (now ++ access who Write (part_place c j) c.size ∷ []) n next rest
unfolding parts_written
writes_more {R = R} who c words r first m before now n j k next rest next_is k_is left =
    let whole : Outcome R = outcome_of who (parts_written c words 0 n (Done r)) first in
    let place = part_place c j in
    let bytes = bytes_chosen words (j * c.size) c.size in
    let then : Plan R = parts_written c words (suc j) rest (Done r) in
    let here : IsLeft whole (outcome_of who (Writes place bytes then) m) before now = subst (λ q. IsLeft whole (outcome_of who (parts_written c words j q (Done r)) m) before now) k_is left in
    let done : IsLeft whole (outcome_of who then (bytes_stored m place bytes)) before (now ++ access who Write place (length bytes) ∷ []) = left_write who place bytes then m whole before now here in
    let sized : IsLeft whole (outcome_of who then (bytes_stored m place bytes)) before (now ++ access who Write place c.size ∷ []) = subst (λ q. IsLeft whole (outcome_of who then (bytes_stored m place bytes)) before (now ++ access who Write place q ∷ [])) (chosen_size words (j * c.size) c.size) done in
    subst (λ q. IsLeft whole (outcome_of who (parts_written c words q rest (Done r)) (bytes_stored m place bytes)) before (now ++ access who Write place c.size ∷ [])) next_is sized

pub writes_end : {R : Type 0} (who : Who) (c : Cover) (words : List ℕ) (r : R) (first m : List ℕ) (before now : List Access) (n j k : ℕ) → k ≡ zero → WritesLeft who c words r first m before now n j k
    → Shows (outcome_of who (parts_written c words 0 n (Done r)) first) before now m (Some r)
unfolding parts_written
writes_end {R = R} who c words r first m before now n j k none left =
    let whole : Outcome R = outcome_of who (parts_written c words 0 n (Done r)) first in
    left_done who r m whole before now (subst (λ q. IsLeft whole (outcome_of who (parts_written c words j q (Done r)) m) before now) none left)

-- what is left of a load whose first parts were read
abbrev pub ReadsLeft : {R : Type 0} → Who → Cover → R → List ℕ → List Access → List Access → (n j k : ℕ) → Type 0
ReadsLeft who c r m before now n j k = IsLeft (outcome_of who (parts_read c 0 n (Done r)) m) (outcome_of who (parts_read c j k (Done r)) m) before now

pub reads_more : {R : Type 0} (who : Who) (c : Cover) (r : R) (m : List ℕ) (before now : List Access) (n j k next rest : ℕ) → suc j ≡ next → k ≡ suc rest → ReadsLeft who c r m before now n j k
    → ReadsLeft who c r m before (now ++ access who Read (part_place c j) c.size ∷ []) n next rest
unfolding parts_read
reads_more {R = R} who c r m before now n j k next rest next_is k_is left =
    let whole : Outcome R = outcome_of who (parts_read c 0 n (Done r)) m in
    let then : List ℕ → Plan R = λ bytes. parts_read c (suc j) rest (Done r) in
    let here : IsLeft whole (outcome_of who (Reads (part_place c j) c.size then) m) before now = subst (λ q. IsLeft whole (outcome_of who (parts_read c j q (Done r)) m) before now) k_is left in
    let done = left_read who (part_place c j) c.size then m whole before now here in
    subst (λ q. IsLeft whole (outcome_of who (parts_read c q rest (Done r)) m) before (now ++ access who Read (part_place c j) c.size ∷ [])) next_is done

pub reads_end : {R : Type 0} (who : Who) (c : Cover) (r : R) (m : List ℕ) (before now : List Access) (n j k : ℕ) → k ≡ zero → ReadsLeft who c r m before now n j k
    → Shows (outcome_of who (parts_read c 0 n (Done r)) m) before now m (Some r)
unfolding parts_read
reads_end {R = R} who c r m before now n j k none left =
    let whole : Outcome R = outcome_of who (parts_read c 0 n (Done r)) m in
    left_done who r m whole before now (subst (λ q. IsLeft whole (outcome_of who (parts_read c j q (Done r)) m) before now) none left)
