-- Places from one shader, or one state, to the next.
use Rattle.std.proofs.Common.{◌≡◌, ℕ, zero, suc, ◌+◌, [], ◌∷◌, slice_index, refl, ap, arith}
use Rattle.std.proofs.Common.{◌≤◌, ◌<◌}
use Rattle.shader_records.specs.Sources.{state_at, source_size, record_source, record_offset, uniform_source, stream_offset, shader_used, taken_by, given_by, taken_before, given_before}
use Rattle.shader_records.specs.{Inputs.InputModel, Emission.stream_place}
use Rattle.packets.specs.StateWord.{record_room}

next : (n : ℕ) → n + 1 ≡ suc n
next n = omega arith

pub taken_next : (input : InputModel) (at s : ℕ) → taken_before input at (s + 1) ≡ taken_before input at s + taken_by (shader_used input at s)
unfolding taken_before
taken_next input at s = ap (taken_before input at) (next s)

pub given_next : (input : InputModel) (at s : ℕ) → given_before input at (s + 1) ≡ given_before input at s + given_by (shader_used input at s)
unfolding given_before
given_next input at s = ap (given_before input at) (next s)

pub record_next : (input : InputModel) (k : ℕ) → record_source input (k + 1) ≡ record_source input k + source_size (state_at input k).word
unfolding record_source
record_next input k = ap (record_source input) (next k)

pub offset_next : (input : InputModel) (k : ℕ) → record_offset input (k + 1) ≡ record_offset input k + record_room (state_at input k).word
unfolding record_offset
offset_next input k = ap (record_offset input) (next k)

pub uniforms_next : (input : InputModel) (k : ℕ) → uniform_source input (k + 1) ≡ uniform_source input k + taken_before input (record_source input k) 3
unfolding uniform_source
uniforms_next input k = ap (uniform_source input) (next k)

pub streams_next : (input : InputModel) (k : ℕ) → stream_offset input (k + 1) ≡ stream_offset input k + given_before input (record_source input k) 3
unfolding stream_offset
streams_next input k = ap (stream_offset input) (next k)

-- the first ones
pub taken_zero : (input : InputModel) (at : ℕ) → taken_before input at 0 ≡ 0
unfolding taken_before
taken_zero input at = refl

pub given_zero : (input : InputModel) (at : ℕ) → given_before input at 0 ≡ 0
unfolding given_before
given_zero input at = refl

pub record_zero : (input : InputModel) → record_source input 0 ≡ 0
unfolding record_source
record_zero input = refl

pub offset_zero : (input : InputModel) → record_offset input 0 ≡ 0
unfolding record_offset
offset_zero input = refl

pub uniforms_zero : (input : InputModel) → uniform_source input 0 ≡ 0
unfolding uniform_source
uniforms_zero input = refl

pub streams_zero : (input : InputModel) → stream_offset input 0 ≡ 0
unfolding stream_offset
streams_zero input = refl

-- the streams of one shader, of two and of all three
pub record GivenParts (input : InputModel) (at : ℕ) : Type 0 where
  pub none : given_before input at 0 ≡ 0
  pub one : given_before input at 1 ≡ given_by (shader_used input at 0)
  pub two : given_before input at 2 ≡ given_by (shader_used input at 0) + given_by (shader_used input at 1)
  pub three : given_before input at 3 ≡ given_by (shader_used input at 0) + given_by (shader_used input at 1) + given_by (shader_used input at 2)

pub given_parts : (input : InputModel) (at : ℕ) → GivenParts input at
given_parts input at =
    let z = given_zero input at in
    let a = given_next input at 0 in
    let b = given_next input at 1 in
    let c = given_next input at 2 in
    record { none = z; one = omega (arith, z, a); two = omega (arith, z, a, b); three = omega (arith, z, a, b, c) }

-- where the three streams of a record stand
pub streams_each : (input : InputModel) (at first g0 g1 : ℕ) → g0 ≡ given_by (shader_used input at 0) → g1 ≡ given_by (shader_used input at 1) → (s : ℕ) → s < 3
    → slice_index (first ∷ (first + g0) ∷ (first + (g0 + g1)) ∷ []) s ≡ stream_place input at first s
unfolding stream_place
streams_each input at first g0 g1 e0 e1 zero below = let p = given_parts input at in omega (arith, p.none)
streams_each input at first g0 g1 e0 e1 (suc zero) below = let p = given_parts input at in omega (arith, p.one, e0)
streams_each input at first g0 g1 e0 e1 (suc (suc zero)) below = let p = given_parts input at in omega (arith, p.two, e0, e1)
streams_each input at first g0 g1 e0 e1 (suc (suc (suc s))) below = absurd (omega arith)

-- the streams of fewer shaders have no more bytes
pub given_rises : (input : InputModel) (at s : ℕ) → s < 3 → given_before input at s ≤ given_before input at 3
given_rises input at zero below = let a = given_next input at 0 in let b = given_next input at 1 in let c = given_next input at 2 in omega (arith, a, b, c)
given_rises input at (suc zero) below = let b = given_next input at 1 in let c = given_next input at 2 in omega (arith, b, c)
given_rises input at (suc (suc zero)) below = let c = given_next input at 2 in omega (arith, c)
given_rises input at (suc (suc (suc s))) below = absurd (omega arith)

-- so those of one shader more have no more than those of all three; the same of what is taken
pub given_upto : (input : InputModel) (at s : ℕ) → s < 3 → given_before input at s + given_by (shader_used input at s) ≤ given_before input at 3
given_upto input at zero below = let a = given_next input at 0 in let b = given_next input at 1 in let c = given_next input at 2 in omega (arith, a, b, c)
given_upto input at (suc zero) below = let b = given_next input at 1 in let c = given_next input at 2 in omega (arith, b, c)
given_upto input at (suc (suc zero)) below = let c = given_next input at 2 in omega (arith, c)
given_upto input at (suc (suc (suc s))) below = absurd (omega arith)

pub taken_upto : (input : InputModel) (at s : ℕ) → s < 3 → taken_before input at s + taken_by (shader_used input at s) ≤ taken_before input at 3
taken_upto input at zero below = let a = taken_next input at 0 in let b = taken_next input at 1 in let c = taken_next input at 2 in omega (arith, a, b, c)
taken_upto input at (suc zero) below = let b = taken_next input at 1 in let c = taken_next input at 2 in omega (arith, b, c)
taken_upto input at (suc (suc zero)) below = let c = taken_next input at 2 in omega (arith, c)
taken_upto input at (suc (suc (suc s))) below = absurd (omega arith)
