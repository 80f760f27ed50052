-- The emitted binner list of an accepted job raises the semaphore: its last packets are an increment and a flush.
use Rattle.std.proofs.Common.{◌≡◌, ◌≤◌, ℕ, ◌+◌, ◌==◌, ◌&&◌, Bool, true, false, List, [], ◌∷◌, None, if◌then◌else◌, refl, sym, ◌∙◌, ap, subst, arith}
use Rattle.std.proofs.lemmas.Bool.{and_parts, eqb-true}
use Rattle.field_words.specs.Questions.{first_of, with_answers}
use Rattle.field_words.proofs.{Questions.none_broken, Nones.rest_none, Nones.none_answered}
use Rattle.relocation.specs.declared.layout.Layout.{Layout}
use Rattle.packets.specs.Opcode.{flush, increment_semaphore, buffer_handles, indexed_primitive_list, gl_shader_state, tile_binning_mode}
use Rattle.buffer_table.specs.Table.{TableModel}
use Rattle.bin_list.specs.{declared.seen.Seen.Seen, Emitted.packet_text, Emitted.index_text, Emitted.state_text, Emitted.config_text}
use Rattle.bin_list.specs.{Faults.fault, Packets.opcode, Packets.packets, Packets.packets_passed, Packets.onto}
use Rattle.bin_list.specs.Rules.{GivenModel, given_of, questions_of_packets, end_questions, questions_of, bin_questions}
use Rattle.bin_list.specs.Seen.{seen_before, last_opcode, before_last}
use Rattle.bin_walks.specs.Emission.{emission}
use Rattle.served_law.specs.Raises.{raised_by}

-- the packets end with an increment and a flush
record EndsSo (all : List (List ℕ)) : Type 0 where
  increment : before_last all ≡ increment_semaphore
  flushes : last_opcode all ≡ flush

-- A packet before adds nothing that takes a raise away.
more_by : (raise flushes : Bool) (pending : ℕ) (rest : List (List ℕ)) → ((n : ℕ) → 1 ≤ raised_by n rest) → 1 ≤ (if raise then raised_by (pending + 1) rest else (if flushes then pending + raised_by 0 rest else raised_by pending rest))
more_by true flushes pending rest some = some (pending + 1)
more_by false true pending rest some = let one = some 0 in omega (arith, one)
more_by false false pending rest some = some pending

more_raised : (pending : ℕ) (packet : List ℕ) (rest : List (List ℕ)) → ((n : ℕ) → 1 ≤ raised_by n rest) → 1 ≤ raised_by pending (packet ∷ rest)
more_raised pending packet rest some = more_by (opcode packet == increment_semaphore) (opcode packet == flush) pending rest some

both_raise : (pending : ℕ) (one two : List ℕ) → opcode one ≡ increment_semaphore → opcode two ≡ flush → 1 ≤ raised_by pending (one ∷ two ∷ [])
both_raise pending one two increments flushes =
    let first : raised_by pending (one ∷ two ∷ []) ≡ raised_by (pending + 1) (two ∷ []) =
    ap (λ o. if o == increment_semaphore then raised_by (pending + 1) (two ∷ []) else (if o == flush then pending + raised_by 0 (two ∷ []) else raised_by pending (two ∷ []))) increments in
    let second : raised_by (pending + 1) (two ∷ []) ≡ pending + 1 + 0 =
    ap (λ o. if o == increment_semaphore then raised_by (pending + 1 + 1) [] else (if o == flush then pending + 1 + raised_by 0 [] else raised_by (pending + 1) [])) flushes in
    omega (arith, first, second)

-- Both are copied.
text_is : (given : GivenModel) (layout : Layout) (seen : Seen) (packet : List ℕ) (o : ℕ) → opcode packet ≡ o → (o == buffer_handles) ≡ false → (o == indexed_primitive_list) ≡ false → (o == gl_shader_state) ≡ false → (o == tile_binning_mode) ≡ false
    → packet_text given layout seen packet ≡ packet
unfolding packet_text
text_is given layout seen packet o is no_handles no_indexes no_state no_config =
    ap (λ n. if n == buffer_handles then [] else (if n == indexed_primitive_list then index_text given seen packet else (if n == gl_shader_state then state_text layout seen packet else (if n == tile_binning_mode then config_text layout packet else packet)))) is
    ∙ (ap (λ b. if b then [] else (if o == indexed_primitive_list then index_text given seen packet else (if o == gl_shader_state then state_text layout seen packet else (if o == tile_binning_mode then config_text layout packet else packet)))) no_handles
    ∙ (ap (λ b. if b then index_text given seen packet else (if o == gl_shader_state then state_text layout seen packet else (if o == tile_binning_mode then config_text layout packet else packet))) no_indexes
    ∙ (ap (λ b. if b then state_text layout seen packet else (if o == tile_binning_mode then config_text layout packet else packet)) no_state
    ∙ ap (λ b. if b then config_text layout packet else packet) no_config)))

emitted_is : (given : GivenModel) (layout : Layout) (earlier : List (List ℕ)) (packet : List ℕ) (later : List (List ℕ)) (o : ℕ) → opcode packet ≡ o → (o == buffer_handles) ≡ false → (o == indexed_primitive_list) ≡ false → (o == gl_shader_state) ≡ false → (o == tile_binning_mode) ≡ false
    → emission given layout earlier (packet ∷ later) ≡ packet ∷ emission given layout (packet ∷ earlier) later
emitted_is given layout earlier packet later o is no_handles no_indexes no_state no_config =
    ap (λ n. if n == buffer_handles then emission given layout (packet ∷ earlier) later else packet_text given layout (seen_before earlier) packet ∷ emission given layout (packet ∷ earlier) later) is
    ∙ (ap (λ b. if b then emission given layout (packet ∷ earlier) later else packet_text given layout (seen_before earlier) packet ∷ emission given layout (packet ∷ earlier) later) no_handles
    ∙ ap (λ text. text ∷ emission given layout (packet ∷ earlier) later) (text_is given layout (seen_before earlier) packet o is no_handles no_indexes no_state no_config))

if_raised : (b : Bool) (pending : ℕ) (packet : List ℕ) (rest : List (List ℕ)) → ((n : ℕ) → 1 ≤ raised_by n rest) → 1 ≤ raised_by pending (if b then rest else packet ∷ rest)
if_raised true pending packet rest some = some pending
if_raised false pending packet rest some = more_raised pending packet rest some

raises : (given : GivenModel) (layout : Layout) (earlier : List (List ℕ)) (one two : List ℕ) (later : List (List ℕ)) → EndsSo (onto (two ∷ one ∷ earlier) later) → (pending : ℕ) → 1 ≤ raised_by pending (emission given layout earlier (one ∷ two ∷ later))
raises given layout earlier one two [] ends pending =
    let first = emitted_is given layout earlier one (two ∷ []) increment_semaphore ends.increment refl refl refl refl in
    let second = emitted_is given layout (one ∷ earlier) two [] flush ends.flushes refl refl refl refl in
    subst (λ (ps : List (List ℕ)). 1 ≤ raised_by pending ps) (sym (first ∙ ap (λ (ps : List (List ℕ)). one ∷ ps) second)) (both_raise pending one two ends.increment ends.flushes)
raises given layout earlier one two (three ∷ later) ends pending =
    if_raised (opcode one == buffer_handles) pending (packet_text given layout (seen_before earlier) one) (emission given layout (one ∷ earlier) (two ∷ three ∷ later)) (λ n. raises given layout (one ∷ earlier) two three later ends n)

no_packet : 0 ≡ flush → ⊥
no_packet e = cc

no_packet_before : 0 ≡ increment_semaphore → ⊥
no_packet_before e = cc

all_raise : (given : GivenModel) (layout : Layout) (ps : List (List ℕ)) → EndsSo (onto [] ps) → 1 ≤ raised_by 0 (emission given layout [] ps)
all_raise given layout [] ends = absurd (no_packet ends.flushes)
all_raise given layout (one ∷ []) ends = absurd (no_packet_before ends.increment)
all_raise given layout (one ∷ two ∷ later) ends = raises given layout [] one two later ends 0

-- so it is where no rule of binner lists is broken
ends_so : (seen : Seen) → first_of (end_questions seen) ≡ None → (seen.before_last ≡ increment_semaphore) × (seen.last ≡ flush)
unfolding end_questions
ends_so seen none =
    let asked = none_broken (end_questions seen) none in
    let two : (seen.before_last == increment_semaphore && seen.last == flush) ≡ true = grind (arith, asked.1.0) in
    let parts = and_parts (seen.before_last == increment_semaphore) (seen.last == flush) two in
    (eqb-true seen.before_last increment_semaphore parts.0, eqb-true seen.last flush parts.1)

pub emission_raises : (list : List ℕ) (declared : ℕ) (table : TableModel) (handles : List ℕ) (layout : Layout) → first_of (bin_questions list declared table handles) ≡ None → 1 ≤ raised_by 0 (emission (given_of list declared table handles) layout [] (packets list))
unfolding packets_passed questions_of seen_before
emission_raises list declared table handles layout none =
    let given = given_of list declared table handles in
    let all = onto [] (packets list) in
    let end : first_of (end_questions (seen_before all)) ≡ None =
    none_answered (fault given.size) (end_questions (seen_before all)) (rest_none (questions_of_packets given all) (with_answers (fault given.size) (end_questions (seen_before all))) none) in
    let report = ends_so (seen_before all) end in
    all_raise given layout (packets list) (record { increment = report.0; flushes = report.1 })
