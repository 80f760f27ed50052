-- Laws on the renderer's step as the code carries it out.
use Rattle.std.proofs.Common.{◌≡◌, ◌≤◌, ℕ, Bool, zero, suc, ◌++◌, ◌∷◌, [], List, length, slice_index, refl, sym, ◌∙◌, ap, subst, arith}
use Rattle.packets.specs.{Length.render_taken, Packet.packet_decoded}
use Rattle.machine_plan.specs.{Memory.bytes_at, Plan.Plan, Plan.Reads, Plan.Shows, Plan.access, Plan.outcome_of, Turn.if_tame}
use Rattle.list_machine.specs.{State.Access, State.Read, State.Who, Lists.Lists, Renderer.beyond, Renderer.plan_of_packet, Renderer.packet_plan}
use Rattle.machine_plan.proofs.{Memory.length-bytes_at, Reading.shows_read}

pub first_byte : (m : List ℕ) (p n : ℕ) → 1 ≤ n → slice_index (bytes_at m p n) 0 ≡ slice_index m p
unfolding bytes_at
first_byte m p zero some = absurd (omega arith)
first_byte m p (suc n) some = refl

-- the bytes of a packet are as many as its opcode says
pub packet_long : (m bytes : List ℕ) (p len : ℕ) → len ≡ render_taken (slice_index m p) → 1 ≤ len → bytes ≡ bytes_at m p len → length bytes ≡ render_taken (slice_index bytes 0)
packet_long m bytes p len len_is some bytes_is =
    let long : length bytes ≡ len = ap (λ b. length b) bytes_is ∙ length-bytes_at m p len in
    let first : slice_index bytes 0 ≡ slice_index m p = ap (λ b. slice_index b 0) bytes_is ∙ first_byte m p len some in
    long ∙ (len_is ∙ ap render_taken (sym first))

-- what the packet does, behind the read of the packet
pub packet_read : (who : Who) (s past next : Lists) (words m bytes : List ℕ) (place len : ℕ) (before listed after : List Access) (memory : List ℕ) (tame report : Bool) →
    place ≡ s.renderer.place → len ≡ render_taken (slice_index m place) → bytes ≡ bytes_at m place len →
    listed ≡ before ++ access who Read place len ∷ [] → past ≡ beyond s len → tame ≡ report →
    Shows (outcome_of who (plan_of_packet past words (packet_decoded bytes)) m) listed after memory (if_tame tame next) →
    Shows (outcome_of who (packet_plan s words) m) before after memory (if_tame report next)
unfolding packet_plan bytes_at
packet_read who s past next words m bytes place len before listed after memory tame report place_is len_is bytes_is listed_is past_is tame_is shows =
    let result = if_tame report next in
    let does : ℕ → List ℕ → Plan Lists = λ n q. plan_of_packet (beyond s n) words (packet_decoded q) in
    let said = subst (λ t. Shows (outcome_of who (plan_of_packet past words (packet_decoded bytes)) m) listed after memory (if_tame t next)) tame_is shows in
    let here = subst (λ t. Shows (outcome_of who (plan_of_packet t words (packet_decoded bytes)) m) listed after memory result) past_is said in
    let read = shows_read who place len (does len) m bytes before listed after memory result listed_is bytes_is here in
    let there = subst (λ n. Shows (outcome_of who (Reads place n (does n)) m) before after memory result) len_is read in
    subst (λ p. Shows (outcome_of who (Reads p (render_taken (slice_index m p)) (does (render_taken (slice_index m p)))) m) before after memory result) place_is there
