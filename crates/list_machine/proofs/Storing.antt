-- Laws on the bytes that a store writes.
use Rattle.std.proofs.Common.{◌≡◌, ◌≤◌, ◌<◌, ℕ, suc, ◌+◌, ◌-◌, ◌*◌, ◌^◌, List, slice_set, refl, ◌∙◌, ap, arith, zero, length}
use Rattle.std.proofs.Math.Nat.{mul-le-mul}
use Rattle.machine_plan.specs.Memory.{bytes_stored}
use Rattle.list_machine.specs.Store.{bytes_chosen, chosen_byte}

pub bytes_limit : (size i : ℕ) → i < 256 → size ≤ 256 → i * size ≤ 2 ^ 19
bytes_limit size i row width =
    let some : i ≤ 256 = omega arith in
    let rows : i * size ≤ 256 * 256 = mul-le-mul some width in
    omega arith

-- one more chosen byte is written
pub chosen_step : (m words : List ℕ) (p f s i : ℕ) → i < s → bytes_stored m (p + i) (bytes_chosen words (f + i) (s - i)) ≡ bytes_stored (slice_set m (p + i) (chosen_byte words (f + i))) (p + (i + 1)) (bytes_chosen words (f + (i + 1)) (s - (i + 1)))
unfolding bytes_chosen bytes_stored
chosen_step m words p f s i below =
    let a : s - i ≡ suc (s - (i + 1)) = omega arith in
    let b : suc (p + i) ≡ p + (i + 1) = omega arith in
    let c : suc (f + i) ≡ f + (i + 1) = omega arith in
    ap (λ n. bytes_stored m (p + i) (bytes_chosen words (f + i) n)) a
    ∙ (ap (λ q. bytes_stored (slice_set m (p + i) (chosen_byte words (f + i))) q (bytes_chosen words (suc (f + i)) (s - (i + 1)))) b
    ∙ ap (λ g. bytes_stored (slice_set m (p + i) (chosen_byte words (f + i))) (p + (i + 1)) (bytes_chosen words g (s - (i + 1)))) c)

pub chosen_size : (words : List ℕ) (k n : ℕ) → length (bytes_chosen words k n) ≡ n
unfolding bytes_chosen
chosen_size words k zero = refl
chosen_size words k (suc n) = ap suc (chosen_size words (suc k) n)
