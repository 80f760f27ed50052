-- What the lines of a script are answered, by whoever answers them one after the other.
use Rattle.std.specs.Prelude.{◌≡◌, ℕ, List, [], ◌∷◌, ◌++◌, Option, Some, String, string_bytes}
use Rattle.std.specs.declared.alloc.Global.{Global}
use Rattle.script.specs.Lines.{lines_of}
use Rattle.field_words.specs.{declared.stop.Stop.Stop, declared.stop.Stop.TheVariants.Fault, declared.stop.Stop.TheVariants.NoMemory}

-- bytes were put at the end of a text
abbrev pub Adds : String Global → String Global → List ℕ → Type 0
Adds old new bytes = string_bytes new ≡ string_bytes old ++ bytes

-- Each line is answered by what the lines before it left, which is a value of any type: `reply` is its answer, `after` what it leaves.
unfoldable pub replies_from : {P : Type 0} → (P → List ℕ → List ℕ) → (P → List ℕ → P) → P → List (List ℕ) → List ℕ
replies_from reply after past [] = []
replies_from reply after past (line ∷ lines) = reply past line ++ replies_from reply after (after past line) lines

-- the answer to a script
abbrev pub replies : {P : Type 0} → (P → List ℕ → List ℕ) → (P → List ℕ → P) → P → List ℕ → List ℕ
replies reply after past text = replies_from reply after past (lines_of text)

-- a fault names the first malformed line; want of memory says nothing
abbrev pub IsScriptFault : Option ℕ → Stop ℕ → Type 0
IsScriptFault found (Fault line) = found ≡ Some line
IsScriptFault found NoMemory = Unit {0}

-- a fault leaves whoever answers as it was
abbrev pub KeepsAtFault : {C : Type 0} → C → C → Stop ℕ → Type 0
KeepsAtFault old new (Fault line) = new ≡ old
KeepsAtFault old new NoMemory = Unit {0}
