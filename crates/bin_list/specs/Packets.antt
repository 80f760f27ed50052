-- A binner list, cut into packets. A packet is a list of bytes: its opcode, and then its fields.
use Rattle.std.specs.Prelude.{ℕ, zero, suc, ◌==◌, ◌||◌, Bool, List, [], ◌∷◌, length, take, drop, slice_index, if◌then◌else◌}
use Rattle.packets.specs.{Opcode.halt, Opcode.indexed_primitive_list, Opcode.array_primitive_list, Length.bin_taken}

abbrev pub opcode : List ℕ → ℕ
opcode packet = slice_index packet 0

-- a packet that draws a primitive
unfoldable pub draws : List ℕ → Bool
draws packet = opcode packet == indexed_primitive_list || opcode packet == array_primitive_list

-- The packet at the front of the bytes. A byte that is no packet's opcode is a packet by itself, and the last packet
-- may be cut off: rules of their own refuse both.
unfoldable pub front_packet : List ℕ → List ℕ
front_packet bytes = take (bin_taken (opcode bytes)) bytes

-- the bytes behind it that are still read: none behind a halt
unfoldable pub behind : List ℕ → List ℕ
behind bytes = if opcode bytes == halt then [] else drop (bin_taken (opcode bytes)) bytes

-- the packets at the front, n at most
abbrev pub front_packets : ℕ → List ℕ → List (List ℕ)
front_packets zero bytes = []
front_packets (suc n) [] = []
front_packets (suc n) (o ∷ body) = front_packet (o ∷ body) ∷ front_packets n (behind (o ∷ body))

-- The packets of a list, up to its end or to a halt: each has a byte, so that there are no more packets than bytes.
unfoldable pub packets : List ℕ → List (List ℕ)
packets list = front_packets (length list) list

-- What stands before a packet is a list of packets, the nearest first.
abbrev pub onto : List (List ℕ) → List (List ℕ) → List (List ℕ)
onto earlier [] = earlier
onto earlier (packet ∷ later) = onto (packet ∷ earlier) later

-- what stands before the list's end
unfoldable pub packets_passed : List ℕ → List (List ℕ)
packets_passed list = onto [] (packets list)
