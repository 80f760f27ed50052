-- The packets of a binner list, one after the other, and the steps that they take.
use Rattle.std.proofs.Common.{◌≡◌, ℕ, ◌+◌, ◌-◌, ◌*◌, ◌/◌, ◌≤◌, Bool, true, false, ◌==◌, nat_lt, max, List, [], ◌∷◌, length, inl, inr, refl, ap, subst, arith, ◌∙◌, if◌then◌else◌}
use Rattle.std.proofs.{lemmas.Bool.or_cases, lemmas.Bool.eqb-true, lemmas.Bool.Decides.nat_tests, lemmas.Grind.common_steps}
use Rattle.field_words.specs.Words.{u32_at}
use Rattle.packets.specs.{Opcode.indexed_primitive_list, Opcode.array_primitive_list, Length.bin_length}
use Rattle.bin_list.specs.Packets.{opcode, front_packet, behind, packets, draws}
use Rattle.bin_list.proofs.Packets.{front_behind, front_some, packets_step, packets_none}
use Rattle.list_machine.specs.Binner.{work_of, primitive_of}
use Rattle.ends_law.specs.Left.{IsWhole, AllWhole}
use Rattle.promises.specs.Steps.{room_in, room_of, programs_left, work_steps, packet_steps, bin_steps}
use Rattle.bin_walks.proofs.Walking.{long_indexed}

-- The packet at the front is whole where all are, and takes its part of the steps.
pub whole_more : (bytes : List ℕ) → 1 ≤ length bytes → AllWhole (packets bytes) → IsWhole (front_packet bytes) × AllWhole (packets (behind bytes))
whole_more bytes some all = subst AllWhole (packets_step bytes some) all

pub steps_more : (w : ℕ) (bytes : List ℕ) → 1 ≤ length bytes → bin_steps w (packets bytes) ≡ packet_steps w (front_packet bytes) + bin_steps w (packets (behind bytes))
steps_more w bytes some = ap (bin_steps w) (packets_step bytes some)

pub steps_none : (w : ℕ) (bytes : List ℕ) → length bytes ≡ 0 → bin_steps w (packets bytes) ≡ 0
steps_none w bytes none = ap (bin_steps w) (packets_none bytes none)

-- So the room: that of the packet at the front, or more.
pub room_more : (bytes : List ℕ) → 1 ≤ length bytes → room_of (packets bytes) ≡ max (room_in (front_packet bytes)) (room_of (packets (behind bytes)))
room_more bytes some = ap room_of (packets_step bytes some)

pub room_none : (bytes : List ℕ) → length bytes ≡ 0 → room_of (packets bytes) ≡ 0
room_none bytes none = ap room_of (packets_none bytes none)

pub fewer_left : (bytes : List ℕ) → 1 ≤ length bytes → length (behind bytes) + 1 ≤ length bytes
fewer_left bytes some =
    let whole = front_behind bytes in
    let front = front_some bytes some in
    omega (arith, whole, front)

-- A packet that draws has its number of vertices, and at the start of its primitive all programs are left.
long_by : (packet : List ℕ) (o n : ℕ) → IsWhole packet → opcode packet ≡ o → bin_length o ≡ n → 6 ≤ n → 6 ≤ length packet
long_by packet o n whole is size enough = let long : length packet ≡ n = whole.whole ∙ ap bin_length is ∙ size in omega (arith, long, enough)

array_size : bin_length array_primitive_list ≡ 10
unfolding bin_length
array_size = refl

pub long_draw : (packet : List ℕ) → IsWhole packet → draws packet ≡ true → 6 ≤ length packet
unfolding draws
long_draw packet whole is =
    elim (or_cases (opcode packet == indexed_primitive_list) (opcode packet == array_primitive_list) is) [
      | inl indexed ↦ long_by packet indexed_primitive_list 14 whole (eqb-true (opcode packet) indexed_primitive_list indexed) long_indexed (omega arith)
      | inr array ↦ long_by packet array_primitive_list 10 whole (eqb-true (opcode packet) array_primitive_list array) array_size (omega arith)
    ]

programs_by : (n : ℕ) (b : Bool) → nat_lt 0 n ≡ b → (if b then (n + 15) / 16 - 0 / 16 else 0) ≡ (n + 15) / 16
programs_by n true some = omega arith
programs_by n false none =
    let zero_is : n ≡ 0 = grind (arith, common_steps, nat_tests, none) in
    omega (arith, zero_is)

nothing_less : (n w p : ℕ) → n - 0 + (1 + w) * (0 + p) + 1 ≡ n + (1 + w) * p + 1
nothing_less n w p = let same : 0 + p ≡ p = omega arith in ap (λ k. n - 0 + (1 + w) * k + 1) same ∙ omega arith

pub primitive_is : (w : ℕ) (packet : List ℕ) → work_steps w (work_of 0 packet) ≡ u32_at packet 2 + (1 + w) * ((u32_at packet 2 + 15) / 16) + 1
unfolding work_steps programs_left work_of primitive_of
primitive_is w packet =
    let n : ℕ = u32_at packet 2 in
    let programs = programs_by n (nat_lt 0 n) refl in
    ap (λ k. n - 0 + (1 + w) * (0 + k) + 1) programs ∙ nothing_less n w ((n + 15) / 16)

pub draw_is : (w : ℕ) (packet : List ℕ) → draws packet ≡ true → packet_steps w packet ≡ 1 + (u32_at packet 2 + (1 + w) * ((u32_at packet 2 + 15) / 16) + 1)
unfolding packet_steps
draw_is w packet is = ap (λ (b : Bool). 1 + (if b then work_steps w (work_of 0 packet) else 0)) is ∙ ap (λ n. 1 + n) (primitive_is w packet)

pub other_is : (w : ℕ) (packet : List ℕ) → draws packet ≡ false → packet_steps w packet ≡ 1
unfolding packet_steps
other_is w packet is = ap (λ (b : Bool). 1 + (if b then work_steps w (work_of 0 packet) else 0)) is
