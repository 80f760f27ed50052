-- What passes through a source and a sink.
use Rattle.std.specs.Prelude.{◌≡◌, ◌≤◌, ℕ, ◌-◌, ◌==◌, List, [], length, take, Option, Some, None, Result, Ok, Err, ⊤, if◌then◌else◌}
use Rattle.std.specs.Io.KnownBytes.{Appends}

-- the bytes that a source in memory still has, how many one call gives, the number of its next
-- call, the numbers of the calls that fail, and its count of faults
pub record Supply : Type 0 where
  pub left : List ℕ
  pub piece : ℕ
  pub call : ℕ
  pub failing : List ℕ
  pub faults : ℕ

-- the bytes that a sink in memory holds, how many more it has room for, how many one call takes,
-- the number of its next call, the numbers of the calls that fail, and its count of faults
pub record Tray : Type 0 where
  pub held : List ℕ
  pub room : ℕ
  pub piece : ℕ
  pub call : ℕ
  pub failing : List ℕ
  pub faults : ℕ

-- a reader or a writer, and how often it failed
pub record Adapted (T : Type 0) : Type 0 where
  pub inner : T
  pub faults : ℕ

-- what a writer holds, which is not reported once it has failed
abbrev pub held_of : {W : Type 0} → (W → Option (List ℕ)) → Adapted W → Option (List ℕ)
held_of contents sink = if sink.faults == 0 then contents sink.inner else None

-- how many bytes one call of `read_all` asks for
abbrev pub piece_size : ℕ
piece_size = 8192

-- the bytes, or none where they are not reported
abbrev pub bytes_reported : Option (List ℕ) → List ℕ
bytes_reported None = []
bytes_reported (Some bytes) = bytes

-- how many bytes a source gave, by what it had left before and after
abbrev pub count_taken : Option (List ℕ) → Option (List ℕ) → ℕ
count_taken before now = length (bytes_reported before) - length (bytes_reported now)

-- After a failure a sink holds what it held, or tells it no more.
abbrev pub KeepsOrHides : Option (List ℕ) → Option (List ℕ) → Type 0
KeepsOrHides None now = ⊤
KeepsOrHides (Some bytes) None = ⊤
KeepsOrHides (Some bytes) (Some more) = more ≡ bytes

-- One write appended the first n bytes of the part at Ok n, and nothing at Err.
abbrev pub Writes : {E : Type 0} → Option (List ℕ) → Option (List ℕ) → Result ℕ E → List ℕ → Type 0
Writes before now (Ok n) part = Appends before now (take n part)
Writes before now (Err error) part = KeepsOrHides before now

-- A sink grew by some bytes of the front of a text, or tells its bytes no more.
abbrev pub AppendsFront : Option (List ℕ) → Option (List ℕ) → List ℕ → Type 0
AppendsFront before None text = ⊤
AppendsFront before (Some bytes) text = (n : ℕ) × (n ≤ length text) × Appends before (Some bytes) (take n text)
