-- One packet after the other.
use Rattle.std.proofs.Common.{◌≡◌, ℕ, ◌+◌, ◌≤◌, List, ◌∷◌, length, refl, sym, ap, subst, ◌∙◌}
use Rattle.bin_list.specs.Packets.{front_packet, packets, behind as list_behind}
use Rattle.bin_list.proofs.Packets.{packets_step, packets_none}
use Rattle.job_text.specs.Shown.{Look}
use Rattle.job_text.specs.Draws.{Stretch, behind, by_state, record_taken, IsPacketPut, AreDraws}

pub draws_step : (look : Look) (at : ℕ) (rest packet back : List ℕ) (records uniforms : Stretch) (taken : ℕ) (old mid new : List ℕ) → 1 ≤ length rest
    → packet ≡ front_packet rest → back ≡ list_behind rest → IsPacketPut look (record { at = at; bytes = packet }) records uniforms taken old mid
    → (records2 uniforms2 : Stretch) → records2 ≡ behind (record_taken packet) records → uniforms2 ≡ behind (by_state packet taken) uniforms
    → AreDraws look (at + length packet) (packets back) records2 uniforms2 mid new → AreDraws look at (packets rest) records uniforms old new
draws_step look at rest packet back records uniforms taken old mid new some is_front is_back put records2 uniforms2 left_records left_uniforms more =
    let cut : packet ∷ packets back ≡ packets rest =
    ap (λ (p : List ℕ). p ∷ packets back) is_front ∙ (ap (λ (b : List ℕ). front_packet rest ∷ packets b) is_back ∙ sym (packets_step rest some)) in
    subst (λ l. AreDraws look at l records uniforms old new) cut (
      taken,
      mid,
      put,
      subst (λ r. AreDraws look (at + length packet) (packets back) r (behind (by_state packet taken) uniforms) mid new) left_records
          (subst (λ u. AreDraws look (at + length packet) (packets back) records2 u mid new) left_uniforms more),
    )

pub draws_end : (look : Look) (at : ℕ) (rest : List ℕ) (records uniforms : Stretch) (old : List ℕ) → length rest ≡ 0
    → AreDraws look at (packets rest) records uniforms old old
draws_end look at rest records uniforms old none =
    subst (λ l. AreDraws look at l records uniforms old old) (sym (packets_none rest none)) refl
