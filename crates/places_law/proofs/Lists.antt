-- The rules of binner lists and of surfaces read no place.
use Rattle.std.proofs.Common.{◌≡◌, ℕ, ◌==◌, not, nat_lt, if◌then◌else◌, List, [], ◌∷◌, ◌++◌, length, slice_index, is_some, Option, Some, None, refl, ◌∙◌, ap}
use Rattle.field_words.specs.Questions.{Question, Ask, with_answers}
use Rattle.buffer_table.specs.{Table.TableModel, Handles.data_of, Handles.size_in}
use Rattle.packets.specs.Opcode.{flush, start_tile_binning, increment_semaphore, indexed_primitive_list, array_primitive_list, gl_shader_state, tile_binning_mode}
use Rattle.bin_list.specs.Rules.{given_of, flush_questions, start_questions, increment_questions, primitive_questions, index_buffer, indexes_end, index_questions, array_questions, state_questions, config_questions, kind_questions, cut_questions, packet_questions, end_questions, questions_of_packets, questions_of, bin_questions}
use Rattle.bin_list.specs.{declared.fault.ListFault.ListFault, declared.rule.BinRule.BinRule, declared.seen.Seen.Seen, Faults.fault}
use Rattle.bin_list.specs.declared.rule.BinRule.TheVariants.{NoIndexBuffer, IndexesOutside}
use Rattle.bin_list.specs.{Packets.opcode, Packets.packets_passed, Seen.place, Seen.seen_before}
use Rattle.job_format.specs.{declared.file.Frame.Frame, declared.file.Surface.Surface}
use Rattle.render_list.specs.Surfaces.{buffer_size, is_unnamed, shape_questions, size_questions, surface_questions, frame_questions, whole_questions, surface_faults}
use Rattle.render_list.specs.{declared.fault.RenderFault.RenderFault, Frame.surface_at, Frame.is_present}
use Rattle.places_law.proofs.Tables.{AreAlike, data_same, size_same, each_same}

-- B9 and B10
index_same : (list : List ℕ) (declared : ℕ) (t u : TableModel) (handles : List ℕ) → AreAlike t u → (seen : Seen) (packet : List ℕ)
    → index_questions (given_of list declared t handles) seen packet ≡ index_questions (given_of list declared u handles) seen packet
unfolding index_questions index_buffer
index_same list declared t u handles alike seen packet =
    let named = data_same t u alike handles seen.index_handle in
    let size = size_same t u alike (slice_index handles seen.index_handle) in
    λ p. Ask (not (is_some (named p))) NoIndexBuffer ∷ (Ask (nat_lt (size p) (indexes_end packet)) IndexesOutside ∷ [])

kind_questions_same : (list : List ℕ) (declared : ℕ) (t u : TableModel) (handles : List ℕ) → AreAlike t u → (seen : Seen) (packet : List ℕ)
    → kind_questions (given_of list declared t handles) seen packet ≡ kind_questions (given_of list declared u handles) seen packet
unfolding kind_questions flush_questions increment_questions state_questions
kind_questions_same list declared t u handles alike seen packet =
    let index = index_same list declared t u handles alike seen packet in
    let given = given_of list declared t handles in
    λ p.
    if opcode packet == flush then flush_questions given seen
    else (if opcode packet == start_tile_binning then start_questions seen
    else (if opcode packet == increment_semaphore then increment_questions given seen
    else (if opcode packet == indexed_primitive_list then primitive_questions seen ++ index p
    else (if opcode packet == array_primitive_list then primitive_questions seen ++ array_questions packet
    else (if opcode packet == gl_shader_state then state_questions given seen packet
    else (if opcode packet == tile_binning_mode then config_questions seen packet
    else []))))))

packet_same : (list : List ℕ) (declared : ℕ) (t u : TableModel) (handles : List ℕ) → AreAlike t u → (seen : Seen) (packet : List ℕ)
    → packet_questions (given_of list declared t handles) seen packet ≡ packet_questions (given_of list declared u handles) seen packet
unfolding packet_questions
packet_same list declared t u handles alike seen packet =
    ap (λ (later : List (Question BinRule)). cut_questions packet ++ later) (kind_questions_same list declared t u handles alike seen packet)

asked_same : (list : List ℕ) (declared : ℕ) (t u : TableModel) (handles : List ℕ) → AreAlike t u → (all : List (List ℕ))
    → questions_of_packets (given_of list declared t handles) all ≡ questions_of_packets (given_of list declared u handles) all
asked_same list declared t u handles alike [] = refl
asked_same list declared t u handles alike (packet ∷ earlier) =
    let before = asked_same list declared t u handles alike earlier in
    let here = packet_same list declared t u handles alike (seen_before earlier) packet in
    λ p. before p ++ with_answers (fault (place earlier)) (here p)

pub bin_same : (list : List ℕ) (declared : ℕ) (t u : TableModel) (handles : List ℕ) → AreAlike t u
    → bin_questions list declared t handles ≡ bin_questions list declared u handles
unfolding questions_of
bin_same list declared t u handles alike =
    ap (λ (front : List (Question ListFault)). front ++ with_answers (fault (length list)) (end_questions (seen_before (packets_passed list))))
    (asked_same list declared t u handles alike (packets_passed list))

-- the size of what a handle names
pub size_in_same : (t u : TableModel) → AreAlike t u → (number : Option ℕ) → size_in t number ≡ size_in u number
size_in_same t u alike None = refl
size_in_same t u alike (Some number) = size_same t u alike number

-- G6
shape_same : (k : ℕ) (surface : Surface) (t u : TableModel) (handles : List ℕ) → AreAlike t u
    → shape_questions k surface t handles ≡ shape_questions k surface u handles
unfolding shape_questions is_unnamed
shape_same k surface t u handles alike = rw (data_same t u alike handles surface.hindex) refl

buffer_size_same : (t u : TableModel) (handles : List ℕ) (surface : Surface) → AreAlike t u → buffer_size t handles surface ≡ buffer_size u handles surface
unfolding buffer_size
buffer_size_same t u handles surface alike =
    ap (λ (number : Option ℕ). size_in t number) (data_same t u alike handles surface.hindex) ∙ size_in_same t u alike (data_of u handles surface.hindex)

surface_same : (frame : Frame) (t u : TableModel) (handles : List ℕ) → AreAlike t u → (k : ℕ) → surface_questions frame t handles k ≡ surface_questions frame u handles k
unfolding surface_questions
surface_same frame t u handles alike k =
    let shape = shape_same k (surface_at frame k) t u handles alike in
    let size = buffer_size_same t u handles (surface_at frame k) alike in
    λ p. if is_present (surface_at frame k) then shape p ++ size_questions frame k (surface_at frame k) (size p) else []

pub surfaces_same : (frame : Frame) (grid : Option (ℕ × ℕ)) (t u : TableModel) (handles : List ℕ) → AreAlike t u
    → surface_faults frame grid t handles ≡ surface_faults frame grid u handles
unfolding surface_faults
surfaces_same frame grid t u handles alike =
    ap (λ (middle : List (Question RenderFault)). frame_questions frame grid ++ (middle ++ whole_questions frame))
    (each_same (surface_questions frame t handles) (surface_questions frame u handles) 0 6 (surface_same frame t u handles alike))
