-- The uniform stream of a thread: where its pointer stands, and which setup words it keeps.
use Rattle.std.specs.Prelude.{◌≡◌, ◌≤◌, ◌<◌, ◌⊎◌, ℕ, ◌+◌, ◌*◌, ◌^◌, true, false, List, map, length, Some, slice_index}
use Rattle.qpu_isa.specs.Terms.{is_backward}
use Rattle.shader_flow.specs.{Flow.word, Flow.checked_of, Pending.count_of, Pending.takes}
use Rattle.uniform_stream.specs.Stream.{writes_address, is_known, is_open, uniforms_of}
use Rattle.shader_check.specs.Info.{setups_held}
use Rattle.qpu_machine.specs.declared.state.Thread.{Thread}
use Rattle.qpu_law.specs.Home.{Home}

-- the uniform that the instruction at n takes
abbrev pub uniform_at : Home → ℕ → ℕ
uniform_at h n = slice_index h.words (count_of h.code n)

-- the stream's words at the setup writes of the sample in work
abbrev pub held_words : Home → ℕ → ℕ → List ℕ
held_words h tmu n = map (uniform_at h) (setups_held h.code tmu n)

pub record AreSetups (h : Home) (n : ℕ) (t : Thread) : Type 0 where
  pub tmu0 : t.setups0.items ≡ held_words h 0 n
  pub tmu1 : t.setups1.items ≡ held_words h 1 n

-- It is the number of an address word: one that a write of the uniforms' address takes, or the last where the stream is open.
pub record IsWritten (code : List ℕ) (k : ℕ) : Type 0 where
  pub by : ℕ
  pub writes : writes_address code by ≡ true
  pub is : count_of code by ≡ k

pub record IsLast (code : List ℕ) (k : ℕ) : Type 0 where
  pub opened : is_open code ≡ true
  pub is : count_of code (length code) ≡ k

abbrev pub IsAddressCount : List ℕ → ℕ → Type 0
IsAddressCount code k = IsWritten code k ⊎ IsLast code k

-- each address word is the stream's own place
abbrev pub HoldsAddresses : Home → Type 0
HoldsAddresses h = (k : ℕ) → IsAddressCount h.code k → slice_index h.words k ≡ h.stream

-- the stream ends below 4 GiB
abbrev pub IsStreamLow : Home → Type 0
IsStreamLow h = h.stream + 4 * uniforms_of h.code < 2 ^ 32

-- from there on no uniform is taken
abbrev pub TakesNone : List ℕ → ℕ → Type 0
TakesNone code n = (k : ℕ) → n ≤ k → takes code k ≡ false

-- and nothing branches backward
abbrev pub GoesForward : List ℕ → ℕ → Type 0
GoesForward code n = (k : ℕ) → n ≤ k → k < checked_of code → is_backward (word code k) ≡ false

-- the pointer is at the uniform that the next instruction to take one takes
abbrev pub IsRight : Home → ℕ → ℕ → Type 0
IsRight h n pointer = pointer ≡ h.stream + 4 * count_of h.code n

-- the position isn't known, and the pointer is at an address word
pub record IsLost (h : Home) (n pointer : ℕ) : Type 0 where
  pub at : ℕ
  pub address : IsAddressCount h.code at
  pub is : pointer ≡ h.stream + 4 * at
  pub unknown : is_known h.code n ≡ false

-- no uniform is taken any more, wherever the thread goes
pub record IsOver (h : Home) (n : ℕ) (t : Thread) : Type 0 where
  pub root : ℕ
  pub from : root ≤ n
  pub none : TakesNone h.code root
  pub forward : GoesForward h.code root
  pub pending : (p : ℕ) → t.last3.to ≡ Some p → root + 3 ≤ n
  pub pending2 : (p : ℕ) → t.last2.to ≡ Some p → root + 2 ≤ n
  pub pending1 : (p : ℕ) → t.last1.to ≡ Some p → root + 1 ≤ n

abbrev pub PointerIs : Home → ℕ → Thread → Type 0
PointerIs h n t = IsRight h n t.uniforms ⊎ (IsLost h n t.uniforms ⊎ IsOver h n t)
