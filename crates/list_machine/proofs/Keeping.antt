-- What is kept along a step of the renderer.
use Rattle.std.proofs.Common.{◌≡◌, ◌≤◌, ◌<◌, ℕ, zero, suc, ◌+◌, ◌*◌, List, slice_index, Option, Some, None, sym, subst, arith}
use Rattle.packets.specs.{declared.packet.Packet.Packet, Length.render_taken, Packet.packet_decoded}
use Rattle.machine_plan.specs.{Memory.bytes_at, Memory.bytes_stored, Plan.Done, Plan.Keeps, Plan.access}
use Rattle.machine_plan.proofs.Worlds.{keeps_mapped}
use Rattle.list_machine.specs.Renderer.{beyond, act, plan_of_packet, packet_plan, plan_in, renderer_plan}
use Rattle.list_machine.specs.{State.Access, State.Cover, State.Free, State.Read, State.SubList, State.Who, State.Write, Store.bytes_chosen}
use Rattle.list_machine.specs.{Lists.Lists, Lists.Turned, Lists.quiet, Cover.part_place, Cover.parts_written, Cover.parts_read}
use Rattle.list_machine.proofs.Storing.{chosen_size}

-- The step of a renderer that is in no tile's list, by the packet at its place.
pub packet_keeps : (who : Who) (L : ℕ → ℕ → Type 0) (G : Access → Type 0) (P : List ℕ → Turned → Type 0) (s : Lists) (free : Free) (words m : List ℕ) (len : ℕ) (bytes : List ℕ) (packet : Packet) →
    s.renderer.inside ≡ None → render_taken (slice_index m s.renderer.place) ≡ len → bytes_at m s.renderer.place len ≡ bytes → packet_decoded bytes ≡ Some packet →
    L s.renderer.place 1 → G (access who Read s.renderer.place len) → Keeps who L G (λ k next. P k (quiet next)) (act (beyond s len) words packet) m →
    Keeps who L G P (renderer_plan s free words) m
unfolding packet_plan renderer_plan bytes_at
packet_keeps who L G P s free words m len bytes packet outside len_is bytes_is packet_is looks reads rest =
    let P' : List ℕ → Lists → Type 0 = λ k next. P k (quiet next) in
    let place = s.renderer.place in
    let Q : Option Packet → Type 0 = λ p. Keeps who L G P' (plan_of_packet (beyond s len) words p) m in
    let decodes : Q (packet_decoded bytes) = subst Q (sym packet_is) rest in
    let R : List ℕ → Type 0 = λ b. Keeps who L G P' (plan_of_packet (beyond s len) words (packet_decoded b)) m in
    let read : G (access who Read place len) × R (bytes_at m place len) = (reads, subst R (sym bytes_is) decodes) in
    let S : ℕ → Type 0 = λ n. G (access who Read place n) × Keeps who L G P' (plan_of_packet (beyond s n) words (packet_decoded (bytes_at m place n))) m in
    let all : Keeps who L G P' (packet_plan s words) m = (looks, subst S (sym len_is) read) in
    let T : Option SubList → Type 0 = λ inside. Keeps who L G P (plan_in s free words inside) m in
    subst T (sym outside) (keeps_mapped quiet who L G P (packet_plan s words) m all)

-- each part's write is good, and at the end P holds of any memory
pub written_keep : (who : Who) (L : ℕ → ℕ → Type 0) (G : Access → Type 0) (P : List ℕ → Lists → Type 0) (c : Cover) (words : List ℕ) (s : Lists) (i n : ℕ) (m : List ℕ) →
    ((k : ℕ) → i ≤ k → k < i + n → G (access who Write (part_place c k) c.size)) → ((k : List ℕ) → P k s) →
    Keeps who L G P (parts_written c words i n (Done s)) m
unfolding parts_written
written_keep who L G P c words s i zero m good ends = ends m
written_keep who L G P c words s i (suc n) m good ends =
    let place = part_place c i in
    let Q : ℕ → Type 0 = λ size. G (access who Write place size) in (
      subst Q (sym (chosen_size words (i * c.size) c.size)) (good i (omega arith) (omega arith)),
      written_keep who L G P c words s (suc i) n (bytes_stored m place (bytes_chosen words (i * c.size) c.size)) (λ k low high. good k (omega arith) (omega arith)) ends,
    )

-- each part's read is good, and at the end P holds
pub read_keep : (who : Who) (L : ℕ → ℕ → Type 0) (G : Access → Type 0) (P : List ℕ → Lists → Type 0) (c : Cover) (s : Lists) (i n : ℕ) (m : List ℕ) →
    ((k : ℕ) → i ≤ k → k < i + n → G (access who Read (part_place c k) c.size)) → P m s →
    Keeps who L G P (parts_read c i n (Done s)) m
unfolding parts_read
read_keep who L G P c s i zero m good ends = ends
read_keep who L G P c s i (suc n) m good ends = (good i (omega arith) (omega arith), read_keep who L G P c s (suc i) n m (λ k low high. good k (omega arith) (omega arith)) ends)
