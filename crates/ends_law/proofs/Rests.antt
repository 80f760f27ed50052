-- What is left of the two lists of a job behind their first packets, and how the list units read those.
use Rattle.std.proofs.Common.{◌≡◌, ◌≢◌, ℕ, ◌+◌, ◌==◌, ◌||◌, true, false, List, [], ◌∷◌, length, slice_index, Option, Some, None, refl, ◌∙◌, ap, arith}
use Rattle.field_words.specs.Pieces.{joined_texts as joined_bytes}
use Rattle.packets.specs.Opcode.{halt, flush, start_tile_binning, increment_semaphore, indexed_primitive_list, array_primitive_list, gl_shader_state, tile_binning_mode}
use Rattle.packets.specs.{declared.config.Config.Config, declared.packet.Packet.Packet, Length.bin_length, Length.bin_taken, Length.render_taken, Packet.packet_text, Packet.slots_text}
use Rattle.packets.proofs.Laws.{decoded_text, taken_text}
use Rattle.bin_list.specs.Packets.{opcode}
use Rattle.machine_plan.specs.{declared.who.Who.Who, declared.launch.Free.Free, Memory.bytes_at, Plan.Done, Plan.Wilds}
use Rattle.list_machine.specs.Lists.{Lists, Turned, quiet, past, after_increment, after_flush, with_work}
use Rattle.list_machine.specs.Binner.{config_set, with_word, after_start, clear_plan, begin_plan, work_of, plan_of_draw, draw_plan, after_halt, is_unknown, packet_plan, read_plan}
use Rattle.list_machine.specs.Renderer.{beyond, act, renderer_plan}
use Rattle.list_machine.proofs.Keeping.{packet_keeps}
use Rattle.list_law.proofs.Binning.{read_keeps, taken_is, plan_flush, plan_raise, plan_draw, plan_word, plan_start, plan_config, plan_halt}
use Rattle.list_law.proofs.{Bytes.bytes_front, Bytes.bytes_behind, Bytes.byte_front, Bytes.behind_ends, Rendering.some_text, Safe.keeps_if}
use Rattle.ends_law.specs.Left.{BinRest, RenderRest}
use Rattle.ends_law.proofs.Plans.{AnyLook, AnyAccess, Comes}

pub bin_behind : (K : List ℕ → Type 0) (place end : ℕ) (packet : List ℕ) (packets : List (List ℕ)) → BinRest K place end (packet ∷ packets) → BinRest K (place + length packet) end packets
bin_behind K place end packet packets rest = record {
  ends = behind_ends place end packet (joined_bytes packets) rest.ends;
  stands = λ m here. bytes_behind m place packet (joined_bytes packets) (rest.stands m here);
  whole = (let whole = rest.whole in whole.1);
}

pub bin_done : (K : List ℕ → Type 0) (end : ℕ) → BinRest K end end []
unfolding bytes_at
bin_done K end = record { ends = omega arith; stands = λ m here. refl; whole = tt }

pub render_behind : (K : List ℕ → Type 0) (place end : ℕ) (packet : Packet) (slots : List (Option Packet)) → RenderRest K place end (Some packet ∷ slots) → RenderRest K (place + length (packet_text packet)) end slots
render_behind K place end packet slots rest = record {
  ends = behind_ends place end (packet_text packet) (slots_text slots) rest.ends;
  stands = λ m here. bytes_behind m place (packet_text packet) (slots_text slots) (rest.stands m here);
  fit = (let fit = rest.fit in fit.1);
}

pub render_skip : (K : List ℕ → Type 0) (place end : ℕ) (slots : List (Option Packet)) → RenderRest K place end (None ∷ slots) → RenderRest K place end slots
render_skip K place end slots rest = record { ends = rest.ends; stands = rest.stands; fit = (let fit = rest.fit in fit.1) }

-- The binner reads its next packet, and does what that says.
pub packet_read : (who : Who) (K : List ℕ → Type 0) (P : Lists → Type 0) (s : Lists) (m packet : List ℕ) (packets : List (List ℕ)) → K m → BinRest K s.binner.place s.binner.end (packet ∷ packets)
    → Comes who P (packet_plan (past s (length packet)) packet) m → Comes who P (read_plan s) m
packet_read who K P s m packet packets here rest goes =
    let whole = rest.whole in
    let bytes : bytes_at m s.binner.place (length packet) ≡ packet = bytes_front m s.binner.place packet (joined_bytes packets) (rest.stands m here) in
    let long : length packet ≡ bin_length (opcode packet) = whole.0.whole in
    let known : bin_length (opcode packet) ≢ 0 = whole.0.known in
    let first : slice_index m s.binner.place ≡ opcode packet = byte_front m s.binner.place packet (omega (arith, long, known)) bytes in
    read_keeps who AnyLook AnyAccess (λ k next. P next) s m (length packet) packet (ap bin_taken first ∙ taken_is packet long known) bytes tt tt goes

drawn_goes : (who : Who) (P : Lists → Type 0) (s : Lists) (packet m : List ℕ) (kept : Option ℕ) → ((word : ℕ) → P (with_work s (Some (work_of word packet)))) → Comes who P (plan_of_draw s kept packet) m
drawn_goes who P s packet m None draw = tt
drawn_goes who P s packet m (Some word) draw = draw word

pub begin_goes : (who : Who) (P : Lists → Type 0) (s : Lists) (m : List ℕ) (config : Option Config) → P (after_start s) → Comes who P (begin_plan s config) m
unfolding clear_plan
begin_goes who P s m None here = tt
begin_goes who P s m (Some c) here = (tt, here)

pub packet_comes : (who : Who) (P : Lists → Type 0) (s : Lists) (packet m : List ℕ) → ((opcode packet == halt) ≡ true → P (after_halt s)) → ((opcode packet == tile_binning_mode) ≡ true → P (config_set s packet))
    → ((opcode packet == start_tile_binning) ≡ true → P (after_start s)) → ((opcode packet == gl_shader_state) ≡ true → P (with_word s packet))
    → ((opcode packet == indexed_primitive_list || opcode packet == array_primitive_list) ≡ true → (word : ℕ) → P (with_work s (Some (work_of word packet)))) → ((opcode packet == increment_semaphore) ≡ true → P (after_increment s))
    → ((opcode packet == increment_semaphore) ≡ false → (opcode packet == flush) ≡ true → P (after_flush s)) → ((opcode packet == increment_semaphore) ≡ false → (opcode packet == flush) ≡ false → P s) → Comes who P (packet_plan s packet) m
unfolding packet_plan draw_plan
packet_comes who P s packet m halts configures starts names draws raises flushes plain =
    let Q = λ (k : List ℕ) (next : Lists). P next in
    let o : ℕ = slice_index packet 0 in
    let L = AnyLook in
    let G = AnyAccess in
    keeps_if who L G Q m (is_unknown o) Wilds (plan_halt s packet) (λ on. tt)
    (λ known. keeps_if who L G Q m (o == halt) (Done (after_halt s)) (plan_config s packet) halts
    (λ no_halt. keeps_if who L G Q m (o == tile_binning_mode) (Done (config_set s packet)) (plan_start s packet) configures
    (λ no_config. keeps_if who L G Q m (o == start_tile_binning) (begin_plan s s.binner.kept.config) (plan_word s packet) (λ on. begin_goes who P s m s.binner.kept.config (starts on))
    (λ no_start. keeps_if who L G Q m (o == gl_shader_state) (Done (with_word s packet)) (plan_draw s packet) names
    (λ no_word. keeps_if who L G Q m (o == indexed_primitive_list || o == array_primitive_list) (draw_plan s packet) (plan_raise s packet)
    (λ on. keeps_if who L G Q m s.binner.kept.started (plan_of_draw s s.binner.kept.word packet) Wilds (λ begun. drawn_goes who P s packet m s.binner.kept.word (draws on)) (λ off. tt))
    (λ no_draw. keeps_if who L G Q m (o == increment_semaphore) (Done (after_increment s)) (plan_flush s packet) raises
    (λ no_raise. keeps_if who L G Q m (o == flush) (Done (after_flush s)) (Done s) (flushes no_raise) (plain no_raise))))))))

-- So does the renderer.
pub slot_bytes : (K : List ℕ → Type 0) (place end : ℕ) (m : List ℕ) (packet : Packet) (slots : List (Option Packet)) → K m → RenderRest K place end (Some packet ∷ slots) → bytes_at m place (length (packet_text packet)) ≡ packet_text packet
slot_bytes K place end m packet slots here rest = bytes_front m place (packet_text packet) (slots_text slots) (rest.stands m here)

pub slot_first : (K : List ℕ → Type 0) (place end : ℕ) (m : List ℕ) (packet : Packet) (slots : List (Option Packet)) → K m → RenderRest K place end (Some packet ∷ slots) → slice_index m place ≡ slice_index (packet_text packet) 0
slot_first K place end m packet slots here rest = byte_front m place (packet_text packet) (some_text packet) (slot_bytes K place end m packet slots here rest)

pub slot_read : (who : Who) (K : List ℕ → Type 0) (P : Turned → Type 0) (s : Lists) (free : Free) (words m : List ℕ) (packet : Packet) (slots : List (Option Packet)) → K m → s.renderer.inside ≡ None → RenderRest K s.renderer.place s.renderer.end (Some packet ∷ slots)
    → Comes who (λ next. P (quiet next)) (act (beyond s (length (packet_text packet))) words packet) m → Comes who P (renderer_plan s free words) m
slot_read who K P s free words m packet slots here outside rest goes =
    let fit = rest.fit in
    let first = slot_first K s.renderer.place s.renderer.end m packet slots here rest in
    packet_keeps who AnyLook AnyAccess (λ k turned. P turned) s free words m (length (packet_text packet)) (packet_text packet) packet outside
    (ap render_taken first ∙ taken_text packet) (slot_bytes K s.renderer.place s.renderer.end m packet slots here rest) (decoded_text packet fit.0) tt tt goes
