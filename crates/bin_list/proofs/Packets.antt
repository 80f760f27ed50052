-- The packets of a list, by the one at its front.
use Rattle.std.proofs.Common.{◌≡◌, ◌≢◌, ℕ, zero, suc, ◌+◌, ◌≤◌, ◌==◌, Bool, true, false, List, [], ◌∷◌, ◌++◌, length, take, drop, if◌then◌else◌, length-append, refl, sym, ap, arith, ◌∙◌}
use Rattle.std.proofs.lemmas.{List.places, List.take_at, List.drop_at, Bool.eqb-false, Bool.Decides.nat_tests, Grind.common_steps}
use Rattle.field_words.specs.{Pieces.joined_texts, Words.u32_at}
use Rattle.packets.specs.{Opcode.halt, Opcode.gl_shader_state, Length.bin_length, Length.bin_taken}
use Rattle.bin_list.specs.Packets.{opcode, front_packet, behind, front_packets, packets}
use Rattle.bin_list.specs.States.{greatest, state, states_of}

-- A packet takes a byte at least.
one_or : (b : Bool) (n : ℕ) → (n == 0) ≡ b → 1 ≤ (if b then 1 else n)
one_or true n is = omega arith
one_or false n is = let some : n ≢ 0 = eqb-false n 0 is in omega arith

pub taken_some : (o : ℕ) → 1 ≤ bin_taken o
unfolding bin_taken
taken_some o = one_or (bin_length o == 0) (bin_length o) refl

-- The packet at the front and what is still read behind it have no more bytes than the whole, and the rest has fewer.
split_length : (halts : Bool) (n : ℕ) (bytes : List ℕ) → length (take n bytes) + length (if halts then [] else drop n bytes) ≤ length bytes
split_length true n bytes = let e : length (take n bytes) ≤ length bytes = grind (arith, places) in omega arith
split_length false n bytes = grind (arith, places)

pub front_behind : (bytes : List ℕ) → length (front_packet bytes) + length (behind bytes) ≤ length bytes
unfolding front_packet behind
front_behind bytes = split_length (opcode bytes == halt) (bin_taken (opcode bytes)) bytes

take_some : (n : ℕ) (bytes : List ℕ) → 1 ≤ n → 1 ≤ length bytes → 1 ≤ length (take n bytes)
take_some n bytes some long = grind (arith, places)

pub front_some : (bytes : List ℕ) → 1 ≤ length bytes → 1 ≤ length (front_packet bytes)
unfolding front_packet
front_some bytes some = take_some (bin_taken (opcode bytes)) bytes (taken_some (opcode bytes)) some

-- Cut by at least as many steps as there are bytes, the packets are the same.
cut_nothing : (n : ℕ) (bytes : List ℕ) → length bytes ≡ 0 → front_packets n bytes ≡ []
cut_nothing zero bytes none = refl
cut_nothing (suc n) [] none = refl
cut_nothing (suc n) (o ∷ body) none = absurd (omega arith)

cut_same : (n m : ℕ) (bytes : List ℕ) → length bytes ≤ n → length bytes ≤ m → front_packets n bytes ≡ front_packets m bytes
cut_same n m [] few many = cut_nothing n [] refl ∙ sym (cut_nothing m [] refl)
cut_same zero m (o ∷ body) few many = absurd (omega arith)
cut_same (suc n) zero (o ∷ body) few many = absurd (omega arith)
cut_same (suc n) (suc m) (o ∷ body) few many =
    let whole = front_behind (o ∷ body) in
    let one = front_some (o ∷ body) (omega arith) in
    ap (λ later. front_packet (o ∷ body) ∷ later) (cut_same n m (behind (o ∷ body)) (omega arith) (omega arith))

pub packets_none : (bytes : List ℕ) → length bytes ≡ 0 → packets bytes ≡ []
unfolding packets
packets_none bytes none = cut_nothing (length bytes) bytes none

pub packets_step : (bytes : List ℕ) → 1 ≤ length bytes → packets bytes ≡ front_packet bytes ∷ packets (behind bytes)
unfolding packets
packets_step [] some = absurd (omega arith)
packets_step (o ∷ body) some =
    let whole = front_behind (o ∷ body) in
    let one = front_some (o ∷ body) some in
    ap (λ later. front_packet (o ∷ body) ∷ later) (cut_same (length body) (length (behind (o ∷ body))) (behind (o ∷ body)) (omega arith) (omega arith))

-- the states of a list, by whether its first packet is one
pub states_step : (bytes : List ℕ) (b : Bool) → 1 ≤ length bytes → (opcode (front_packet bytes) == gl_shader_state) ≡ b
    → states_of (packets bytes)
    ≡ (if b then state (u32_at (front_packet bytes) 1) (greatest (packets (behind bytes))) ∷ states_of (packets (behind bytes)) else states_of (packets (behind bytes)))
states_step bytes b some is =
    let p = front_packet bytes in
    let later = packets (behind bytes) in
    ap states_of (packets_step bytes some) ∙ ap (λ t. if t then state (u32_at p 1) (greatest later) ∷ states_of later else states_of later) is

-- Whole packets, joined, are cut into these packets again.

-- a packet of its opcode's length, after which the list goes on
pub record IsWhole (packet : List ℕ) : Type 0 where
  pub taken : length packet ≡ bin_taken (opcode packet)
  pub goes_on : (opcode packet == halt) ≡ false

abbrev pub AreWhole : List (List ℕ) → Type 0
AreWhole [] = Unit {0}
AreWhole (packet ∷ later) = IsWhole packet × AreWhole later

opcode_front : (packet rest : List ℕ) → 1 ≤ length packet → opcode (packet ++ rest) ≡ opcode packet
opcode_front [] rest some = absurd (omega arith)
opcode_front (o ∷ body) rest some = refl

some_bytes : (packet : List ℕ) → IsWhole packet → 1 ≤ length packet
some_bytes packet whole = let some = taken_some (opcode packet) in let is = whole.taken in omega arith

front_is : (packet rest : List ℕ) → IsWhole packet → front_packet (packet ++ rest) ≡ packet
unfolding front_packet
front_is packet rest whole = grind (arith, common_steps, nat_tests, opcode_front, some_bytes, take_at)

behind_is : (packet rest : List ℕ) → IsWhole packet → behind (packet ++ rest) ≡ rest
unfolding behind
behind_is packet rest whole = grind (arith, common_steps, nat_tests, opcode_front, some_bytes, drop_at)

pub packets_joined : (all : List (List ℕ)) → AreWhole all → packets (joined_texts all) ≡ all
packets_joined [] whole = packets_none [] refl
packets_joined (packet ∷ later) whole =
    let rest = joined_texts later in
    let some = some_bytes packet whole.0 in
    let sizes = length-append packet rest in
    packets_step (packet ++ rest) (omega arith)
    ∙ ap (λ p. p ∷ packets (behind (packet ++ rest))) (front_is packet rest whole.0)
    ∙ ap (λ r. packet ∷ packets r) (behind_is packet rest whole.0)
    ∙ ap (λ ps. packet ∷ ps) (packets_joined later whole.1)
