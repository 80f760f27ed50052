-- The table of plain packets.
use Rattle.std.proofs.Common.{◌≡◌, ℕ, ◌<◌, ◌≤◌, true, false, ◌||◌, ◌==◌, List, length, take, drop, get_or, inl, inr, refl, sym, ap, subst, arith}
use Rattle.std.proofs.Common.{get_or-take, length-take-le}
use Rattle.std.proofs.lemmas.Bool.{agree_below_at, or_cases, eqb-true, ne_eqb}
use Rattle.packets.specs.Opcode.{halt}
use Rattle.packets.specs.Length.{bin_length, bin_taken}
use Rattle.bin_list.specs.{declared.cut.TheConstants.PLAIN_LENGTHS, Packets.opcode, Packets.front_packet, Packets.behind, Fine.IsPlain, Fine.IsPlainFront}

-- where it has a length, it is the packet's
row_length : (o : ℕ) → o < 256 → 1 ≤ get_or PLAIN_LENGTHS o 0 → bin_length o ≡ get_or PLAIN_LENGTHS o 0
unfolding bin_length
row_length o below some =
    elim (or_cases (get_or PLAIN_LENGTHS o 0 == 0) (bin_length o == get_or PLAIN_LENGTHS o 0)
    (agree_below_at (λ k. (get_or PLAIN_LENGTHS k 0 == 0) || (bin_length k == get_or PLAIN_LENGTHS k 0)) (λ k. true) 256 o refl below)) [
      | inl none ↦ let e : get_or PLAIN_LENGTHS o 0 ≡ 0 = eqb-true (get_or PLAIN_LENGTHS o 0) 0 none in absurd (omega (arith, e, some))
      | inr same ↦ eqb-true (bin_length o) (get_or PLAIN_LENGTHS o 0) same
    ]

-- and then it is no opcode without a length there
other : (o b : ℕ) → 1 ≤ get_or PLAIN_LENGTHS o 0 → get_or PLAIN_LENGTHS b 0 ≡ 0 → (o == b) ≡ false
other o b some none =
    ne_eqb o b (λ e. let same : get_or PLAIN_LENGTHS o 0 ≡ get_or PLAIN_LENGTHS b 0 = ap (λ k. get_or PLAIN_LENGTHS k 0) e in omega (arith, same, some, none))

plain_by : (packet : List ℕ) → opcode packet < 256 → 1 ≤ get_or PLAIN_LENGTHS (opcode packet) 0
    → get_or PLAIN_LENGTHS (opcode packet) 0 ≤ length packet → IsPlain packet
plain_by packet below some fits =
    let o = opcode packet in
    let is : bin_length o ≡ get_or PLAIN_LENGTHS o 0 = row_length o below some in
    record {
      known = ne_eqb (bin_length o) 0 (λ e. omega (arith, e, is, some));
      whole = omega (arith, is, fits);
      no_flush = other o _ some refl;
      no_start = other o _ some refl;
      no_increment = other o _ some refl;
      no_indexes = other o _ some refl;
      no_array = other o _ some refl;
      no_state = other o _ some refl;
      no_config = other o _ some refl;
      no_handles = other o _ some refl;
    }

taken_is : (o n : ℕ) → bin_length o ≡ n → 1 ≤ n → bin_taken o ≡ n
unfolding bin_taken
taken_is o n is some =
    let b : (n == 0) ≡ false = ne_eqb n 0 (λ e. omega (arith, e, some)) in
    simp (is, b)

behind_by : (bytes : List ℕ) (n : ℕ) → bin_taken (opcode bytes) ≡ n → (opcode bytes == halt) ≡ false → drop n bytes ≡ behind bytes
unfolding behind
behind_by bytes n taken goes_on = simp (goes_on, taken)

front_by : (bytes : List ℕ) (n : ℕ) → bin_taken (opcode bytes) ≡ n → take n bytes ≡ front_packet bytes
unfolding front_packet
front_by bytes n taken = ap (λ k. take k bytes) (sym taken)

pub plain_front : (bytes : List ℕ) → opcode bytes < 256 → 1 ≤ get_or PLAIN_LENGTHS (opcode bytes) 0
    → get_or PLAIN_LENGTHS (opcode bytes) 0 ≤ length bytes → IsPlainFront bytes (get_or PLAIN_LENGTHS (opcode bytes) 0)
plain_front bytes below some fits =
    let o = opcode bytes in
    let n = get_or PLAIN_LENGTHS o 0 in
    let taken : bin_taken o ≡ n = taken_is o n (row_length o below some) some in
    let packet : take n bytes ≡ front_packet bytes = front_by bytes n taken in
    let same : opcode (take n bytes) ≡ o = get_or-take n bytes 0 0 some in
    let long : length (take n bytes) ≡ n = length-take-le n bytes fits in
    let row : get_or PLAIN_LENGTHS (opcode (take n bytes)) 0 ≡ n = ap (λ k. get_or PLAIN_LENGTHS k 0) same in
    record {
      some = some;
      fits = fits;
      packet = packet;
      rest = behind_by bytes n taken (other o halt some refl);
      plain = subst IsPlain packet (plain_by (take n bytes) (omega (arith, same, below)) (omega (arith, row, some)) (omega (arith, row, long)));
    }
