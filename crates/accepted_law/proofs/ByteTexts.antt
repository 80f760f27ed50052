-- What is emitted is bytes.
use Rattle.std.proofs.Common.{ℕ, zero, suc, ◌+◌, ◌-◌, ◌*◌, ◌/◌, ◌%◌, ◌^◌, ◌<◌, Bool, if◌then◌else◌, ◌==◌, List, [], ◌∷◌, ◌++◌, Option, Some, None, length, drop, replicate, slice_index, arith, lit<, rules}
use Rattle.std.proofs.Math.Nat.{mod-lt}
use Rattle.std.specs.{Int.to_le_bytes, Int.bytes_low_first, Int.byte_at, Int.w16, Int.w32, List.AllByRecursion}
use Rattle.field_words.specs.{Words.IsBytes, WordBytes.word_bytes, Writes.Part, Writes.parts_placed, Writes.with_bytes, Writes.zeros}
use Rattle.field_words.proofs.Numbers.{front_bytes, rest_bytes}
use Rattle.relocation.specs.declared.layout.Layout.{Layout}
use Rattle.packets.specs.declared.packet.Packet.TheVariants.{WaitOnSemaphore, BranchToSubList, StoreTileColor, StoreTileColorAndEnd, StoreFullResolution, LoadFullResolution, StoreTileBuffer, LoadTileBuffer, TileRenderingMode, ClearColors, TileCoordinates}
use Rattle.packets.specs.Opcode.{halt, tile_binning_mode, wait_on_semaphore, branch_to_sub_list, store_tile_color, store_tile_color_and_end, store_full_resolution, load_full_resolution, store_tile_buffer, load_tile_buffer, tile_rendering_mode, clear_colors, tile_coordinates}
use Rattle.packets.specs.{declared.packet.Packet.Packet, Length.bin_taken, StateWord.record_room}
use Rattle.packets.specs.Packet.{packet_text as render_packet_text, slots_text}
use Rattle.tile_memory.specs.Slots.{alloc_offset}
use Rattle.bin_list.specs.{declared.seen.Seen.Seen, Rules.GivenModel, Seen.latest, Seen.byte_of}
use Rattle.bin_list.specs.Packets.{opcode, front_packet, behind, front_packets, packets, onto, packets_passed}
use Rattle.bin_list.specs.Emitted.{index_text, state_text, config_text, packet_text, texts}
use Rattle.qpu_isa.specs.Shader.{ShaderModel}
use Rattle.shader_records.specs.Emission.{emitted_word, stream_place, record_text, records_text, stream_text, streams_text, uniforms_text}
use Rattle.shader_records.specs.Inputs.{InputModel}
use Rattle.render_walks.specs.Walks.{AllFit}

pub bytes_none : IsBytes []
bytes_none = λ i. lit< tt

pub bytes_cons : (x : ℕ) (xs : List ℕ) → x < 256 → IsBytes xs → (i : ℕ) → slice_index (x ∷ xs) i < 256
bytes_cons x xs small rest i = search (rules, arith)

pub bytes_append : (xs ys : List ℕ) → IsBytes xs → IsBytes ys → IsBytes (xs ++ ys)
bytes_append [] ys one two = two
bytes_append (x ∷ xs) ys one two = bytes_cons x (xs ++ ys) (one 0) (bytes_append xs ys (λ i. one (suc i)) two)

pub bytes_if : (b : Bool) (xs ys : List ℕ) → IsBytes xs → IsBytes ys → IsBytes (if b then xs else ys)
bytes_if b xs ys one two = search (rules, arith)

-- Bytes that are written into bytes leave bytes.
pub bytes_with : (old : List ℕ) (at : ℕ) (new : List ℕ) → IsBytes old → IsBytes new → IsBytes (with_bytes old at new)
bytes_with old at new old_bytes new_bytes = search (arith, bytes_append, front_bytes, rest_bytes)

-- zeros, and zeros with parts put into them
same_bytes : (n : ℕ) → IsBytes (replicate n 0)
same_bytes zero = bytes_none
same_bytes (suc n) = bytes_cons 0 (replicate n 0) (lit< tt) (same_bytes n)

pub bytes_zeros : (n : ℕ) → IsBytes (zeros n)
unfolding zeros
bytes_zeros n = same_bytes n

pub bytes_placed : (memory : List ℕ) (parts : List Part) → IsBytes memory → AllByRecursion (λ part. IsBytes part.bytes) parts → IsBytes (parts_placed memory parts)
bytes_placed memory [] all each = all
bytes_placed memory (part ∷ parts) all each = bytes_placed (with_bytes memory part.place part.bytes) parts (bytes_with memory part.place part.bytes all each.0) each.1

pub parts_append : (front rest : List Part) → AllByRecursion (λ part. IsBytes part.bytes) front → AllByRecursion (λ part. IsBytes part.bytes) rest → AllByRecursion (λ part. IsBytes part.bytes) (front ++ rest)
parts_append [] rest one two = two
parts_append (part ∷ front) rest one two = (one.0, parts_append front rest one.1 two)

-- numbers as bytes
byte_small : (i n : ℕ) → byte_at i n < 256
byte_small zero n = mod-lt n (lit< tt)
byte_small (suc i) n = mod-lt (n / 256 ^ suc i) (lit< tt)

bytes_low : (i k n : ℕ) → IsBytes (bytes_low_first i k n)
bytes_low i zero n = bytes_none
bytes_low i (suc k) n = bytes_cons (byte_at i n) (bytes_low_first (suc i) k n) (byte_small i n) (bytes_low (suc i) k n)

pub bytes_word : (n : ℕ) → IsBytes (to_le_bytes w32 n)
bytes_word n = bytes_low 0 4 n

bytes_half : (n : ℕ) → IsBytes (to_le_bytes w16 n)
bytes_half n = bytes_low 0 2 n

pub bytes_words : (word : ℕ → ℕ) (n : ℕ) → IsBytes (word_bytes word n)
unfolding word_bytes
bytes_words word zero = bytes_none
bytes_words word (suc n) = bytes_append (word_bytes word n) (to_le_bytes w32 (word n)) (bytes_words word n) (bytes_word (word n))

-- The packets of bytes are bytes.
bytes_front : (bytes : List ℕ) → IsBytes bytes → IsBytes (front_packet bytes)
unfolding front_packet
bytes_front bytes all = front_bytes (bin_taken (opcode bytes)) bytes all

bytes_behind : (bytes : List ℕ) → IsBytes bytes → IsBytes (behind bytes)
unfolding behind
bytes_behind bytes all = bytes_if (opcode bytes == halt) [] (drop (bin_taken (opcode bytes)) bytes) bytes_none (rest_bytes (bin_taken (opcode bytes)) bytes all)

bytes_cut : (n : ℕ) (bytes : List ℕ) → IsBytes bytes → AllByRecursion IsBytes (front_packets n bytes)
bytes_cut zero bytes all = tt
bytes_cut (suc n) [] all = tt
bytes_cut (suc n) (o ∷ body) all = (bytes_front (o ∷ body) all, bytes_cut n (behind (o ∷ body)) (bytes_behind (o ∷ body) all))

bytes_onto : (earlier later : List (List ℕ)) → AllByRecursion IsBytes earlier → AllByRecursion IsBytes later → AllByRecursion IsBytes (onto earlier later)
bytes_onto earlier [] one two = one
bytes_onto earlier (packet ∷ later) one two = bytes_onto (packet ∷ earlier) later (two.0, one) two.1

pub bytes_passed : (list : List ℕ) → IsBytes list → AllByRecursion IsBytes (packets_passed list)
unfolding packets_passed packets
bytes_passed list all = bytes_onto [] (front_packets (length list) list) tt (bytes_cut (length list) list all)

-- What each is emitted as is bytes.
bytes_index : (given : GivenModel) (seen : Seen) (packet : List ℕ) → IsBytes packet → IsBytes (index_text given seen packet)
unfolding index_text
bytes_index given seen packet all = search (arith, bytes_with, bytes_word)

bytes_state : (layout : Layout) (seen : Seen) (packet : List ℕ) → IsBytes (state_text layout seen packet)
unfolding state_text
bytes_state layout seen packet = search (arith, bytes_cons, bytes_word)

bytes_config : (layout : Layout) (packet : List ℕ) → IsBytes packet → IsBytes (config_text layout packet)
unfolding config_text
bytes_config layout packet all =
    let start : ℕ = alloc_offset (slice_index packet 13 * slice_index packet 14) in
    let flags : List ℕ = (slice_index packet 15 % 2 + 68) ∷ [] in
    let sides : List ℕ = slice_index packet 13 ∷ (slice_index packet 14 ∷ flags) in
    let states : List ℕ = to_le_bytes w32 layout.slot ++ sides in
    let size : List ℕ = to_le_bytes w32 (524288 - start) ++ states in
    bytes_cons tile_binning_mode (to_le_bytes w32 (layout.slot + start) ++ size) (lit< tt)
    (bytes_append (to_le_bytes w32 (layout.slot + start)) size (bytes_word (layout.slot + start))
    (bytes_append (to_le_bytes w32 (524288 - start)) states (bytes_word (524288 - start))
    (bytes_append (to_le_bytes w32 layout.slot) sides (bytes_word layout.slot)
    (bytes_cons (slice_index packet 13) (slice_index packet 14 ∷ flags) (all 13)
    (bytes_cons (slice_index packet 14) flags (all 14)
    (bytes_cons (slice_index packet 15 % 2 + 68) [] (omega arith) bytes_none))))))

bytes_packet : (given : GivenModel) (layout : Layout) (seen : Seen) (packet : List ℕ) → IsBytes packet → IsBytes (packet_text given layout seen packet)
unfolding packet_text
bytes_packet given layout seen packet all = search (arith, bytes_if, bytes_none, bytes_index, bytes_state, bytes_config)

pub bytes_texts : (given : GivenModel) (layout : Layout) (all : List (List ℕ)) → AllByRecursion IsBytes all → IsBytes (texts given layout all)
bytes_texts given layout [] each = bytes_none
bytes_texts given layout (packet ∷ earlier) each = search (arith, bytes_append, bytes_texts given layout earlier each.1, bytes_packet)

-- A byte that the last packet of a kind holds is below 256.
byte_if : (b : Bool) (packet : List ℕ) (other : Option (List ℕ)) (at : ℕ) → IsBytes packet → byte_of at other < 256 → byte_of at (if b then Some packet else other) < 256
byte_if b packet other at all rest = search (rules, arith)

pub byte_of_latest : (o at : ℕ) (all : List (List ℕ)) → AllByRecursion IsBytes all → byte_of at (latest o all) < 256
byte_of_latest o at [] each = lit< tt
byte_of_latest o at (packet ∷ earlier) each = byte_if (opcode packet == o) packet (latest o earlier) at each.0 (byte_of_latest o at earlier each.1)

-- Records and streams are words.
bytes_record : (input : InputModel) (at state first : ℕ) → IsBytes (record_text input at state first)
unfolding record_text
bytes_record input at state first = bytes_words (emitted_word input at state (stream_place input at first)) (record_room state / 4)

pub bytes_records : (input : InputModel) (first k : ℕ) → IsBytes (records_text input first k)
unfolding records_text
bytes_records input first zero = bytes_none
bytes_records input first (suc k) = search (arith, bytes_append, bytes_records input first k, bytes_record)

bytes_stream : (input : InputModel) (from stream : ℕ) (shader : Option ShaderModel) → IsBytes (stream_text input from stream shader)
unfolding stream_text
bytes_stream input from stream shader = search (rules, arith, bytes_none, bytes_words)

bytes_streams : (input : InputModel) (at from first s : ℕ) → IsBytes (streams_text input at from first s)
unfolding streams_text
bytes_streams input at from first zero = bytes_none
bytes_streams input at from first (suc s) = search (arith, bytes_append, bytes_streams input at from first s, bytes_stream)

pub bytes_uniforms : (input : InputModel) (first k : ℕ) → IsBytes (uniforms_text input first k)
unfolding uniforms_text
bytes_uniforms input first zero = bytes_none
bytes_uniforms input first (suc k) = search (arith, bytes_append, bytes_uniforms input first k, bytes_streams)

-- A renderer list whose numbers fit their fields is bytes.
bytes_slot : (packet : Packet) → (AllFit (Some packet ∷ [])) → IsBytes (render_packet_text packet)
unfolding render_packet_text
bytes_slot WaitOnSemaphore fits = bytes_cons wait_on_semaphore [] (lit< tt) bytes_none
bytes_slot (BranchToSubList address) fits = bytes_cons branch_to_sub_list (to_le_bytes w32 address) (lit< tt) (bytes_word address)
bytes_slot StoreTileColor fits = bytes_cons store_tile_color [] (lit< tt) bytes_none
bytes_slot StoreTileColorAndEnd fits = bytes_cons store_tile_color_and_end [] (lit< tt) bytes_none
bytes_slot (StoreFullResolution address) fits = bytes_cons store_full_resolution (to_le_bytes w32 address) (lit< tt) (bytes_word address)
bytes_slot (LoadFullResolution address) fits = bytes_cons load_full_resolution (to_le_bytes w32 address) (lit< tt) (bytes_word address)
bytes_slot (StoreTileBuffer bits address) fits =
    bytes_cons store_tile_buffer (to_le_bytes w16 bits ++ to_le_bytes w32 address) (lit< tt)
    (bytes_append (to_le_bytes w16 bits) (to_le_bytes w32 address) (bytes_half bits) (bytes_word address))
bytes_slot (LoadTileBuffer bits address) fits =
    bytes_cons load_tile_buffer (to_le_bytes w16 bits ++ to_le_bytes w32 address) (lit< tt)
    (bytes_append (to_le_bytes w16 bits) (to_le_bytes w32 address) (bytes_half bits) (bytes_word address))
bytes_slot (TileRenderingMode address width height bits) fits =
    bytes_cons tile_rendering_mode (to_le_bytes w32 address ++ (to_le_bytes w16 width ++ (to_le_bytes w16 height ++ to_le_bytes w16 bits))) (lit< tt)
    (bytes_append (to_le_bytes w32 address) (to_le_bytes w16 width ++ (to_le_bytes w16 height ++ to_le_bytes w16 bits)) (bytes_word address)
    (bytes_append (to_le_bytes w16 width) (to_le_bytes w16 height ++ to_le_bytes w16 bits) (bytes_half width)
    (bytes_append (to_le_bytes w16 height) (to_le_bytes w16 bits) (bytes_half height) (bytes_half bits))))
bytes_slot (ClearColors first second z stencil) fits =
    bytes_cons clear_colors (to_le_bytes w32 first ++ (to_le_bytes w32 second ++ (to_le_bytes w32 z ++ (stencil ∷ [])))) (lit< tt)
    (bytes_append (to_le_bytes w32 first) (to_le_bytes w32 second ++ (to_le_bytes w32 z ++ (stencil ∷ []))) (bytes_word first)
    (bytes_append (to_le_bytes w32 second) (to_le_bytes w32 z ++ (stencil ∷ [])) (bytes_word second)
    (bytes_append (to_le_bytes w32 z) (stencil ∷ []) (bytes_word z) (bytes_cons stencil [] fits.0.3 bytes_none))))
bytes_slot (TileCoordinates x y) fits = bytes_cons tile_coordinates (x ∷ (y ∷ [])) (lit< tt) (bytes_cons x (y ∷ []) fits.0.0 (bytes_cons y [] fits.0.1 bytes_none))

pub bytes_slots : (slots : List (Option Packet)) → AllFit slots → IsBytes (slots_text slots)
bytes_slots [] fits = bytes_none
bytes_slots (None ∷ slots) fits = bytes_slots slots fits.1
bytes_slots (Some packet ∷ slots) fits = bytes_append (render_packet_text packet) (slots_text slots) (bytes_slot packet (fits.0, tt)) (bytes_slots slots fits.1)
