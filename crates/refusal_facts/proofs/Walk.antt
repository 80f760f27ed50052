-- The walk over a binner list, from state to state.
use Rattle.std.proofs.Common.{◌≡◌, ◌≢◌, ℕ, ◌+◌, ◌≤◌, Bool, true, false, List, [], ◌∷◌, length, Some, None, refl, ap, arith, ◌∙◌}
use Rattle.std.specs.Prelude.{if◌then◌else◌, ◌==◌, max}
use Rattle.field_words.specs.Words.{u32_at}
use Rattle.packets.specs.Opcode.{gl_shader_state}
use Rattle.bin_list.specs.{Packets.opcode, Packets.front_packet, Packets.behind, Packets.packets, States.draws_to, States.greatest, States.state, States.states_of}
use Rattle.refusal_facts.specs.{Lists.draw_of, Lists.handle_behind, Lists.draw_among}
use Rattle.bin_list.proofs.Packets.{packets_step, packets_none, states_step}

-- The states of a list, by its first packet.
pub states_here : (rest : List ℕ) → 1 ≤ length rest → opcode (front_packet rest) ≡ gl_shader_state
    → states_of (packets rest) ≡ state (u32_at (front_packet rest) 1) (greatest (packets (behind rest))) ∷ states_of (packets (behind rest))
states_here rest some is = states_step rest true some (grind arith)

pub states_past : (rest : List ℕ) → 1 ≤ length rest → opcode (front_packet rest) ≢ gl_shader_state
    → states_of (packets rest) ≡ states_of (packets (behind rest))
states_past rest some isnt = states_step rest false some (grind arith)

pub states_none : (rest : List ℕ) → length rest ≡ 0 → states_of (packets rest) ≡ []
states_none rest none = ap states_of (packets_none rest none)

-- What the packets draw up to the first state, by the first packet.
greatest_if : (p : List ℕ) (later : List (List ℕ)) → (b : Bool) → (opcode p == gl_shader_state) ≡ b
    → greatest (p ∷ later) ≡ (if b then 0 else max (draws_to p) (greatest later))
greatest_if p later b is = ap (λ b. if b then 0 else max (draws_to p) (greatest later)) is

pub greatest_here : (rest : List ℕ) → 1 ≤ length rest → opcode (front_packet rest) ≡ gl_shader_state → greatest (packets rest) ≡ 0
greatest_here rest some is =
    ap greatest (packets_step rest some) ∙ greatest_if (front_packet rest) (packets (behind rest)) true (grind arith)

pub greatest_past : (rest : List ℕ) → 1 ≤ length rest → opcode (front_packet rest) ≢ gl_shader_state
    → greatest (packets rest) ≡ max (draws_to (front_packet rest)) (greatest (packets (behind rest)))
greatest_past rest some isnt =
    ap greatest (packets_step rest some) ∙ greatest_if (front_packet rest) (packets (behind rest)) false (grind arith)

pub greatest_none : (rest : List ℕ) → length rest ≡ 0 → greatest (packets rest) ≡ 0
greatest_none rest none = ap greatest (packets_none rest none)

-- What the packet at a byte draws, by the first packet.
draw_if : (byte : ℕ) (p : List ℕ) (later : List (List ℕ)) (at handle : ℕ) (b : Bool) → (at == byte) ≡ b
    → draw_among byte (p ∷ later) at handle ≡ (if b then Some (draw_of handle p) else draw_among byte later (at + length p) (handle_behind p handle))
unfolding draw_among
draw_if byte p later at handle b is =
    ap (λ b. if b then Some (draw_of handle p) else draw_among byte later (at + length p) (handle_behind p handle)) is

pub draw_here : (byte : ℕ) (rest : List ℕ) (at handle : ℕ) → 1 ≤ length rest → at ≡ byte
    → draw_among byte (packets rest) at handle ≡ Some (draw_of handle (front_packet rest))
draw_here byte rest at handle some is =
    ap (λ all. draw_among byte all at handle) (packets_step rest some) ∙ draw_if byte (front_packet rest) (packets (behind rest)) at handle true (grind arith)

pub draw_past : (byte : ℕ) (rest : List ℕ) (at handle : ℕ) → 1 ≤ length rest → at ≢ byte
    → draw_among byte (packets rest) at handle
    ≡ draw_among byte (packets (behind rest)) (at + length (front_packet rest)) (handle_behind (front_packet rest) handle)
draw_past byte rest at handle some isnt =
    ap (λ all. draw_among byte all at handle) (packets_step rest some) ∙ draw_if byte (front_packet rest) (packets (behind rest)) at handle false (grind arith)

pub draw_none : (byte : ℕ) (rest : List ℕ) (at handle : ℕ) → length rest ≡ 0 → draw_among byte (packets rest) at handle ≡ None
unfolding draw_among
draw_none byte rest at handle none = ap (λ all. draw_among byte all at handle) (packets_none rest none)
