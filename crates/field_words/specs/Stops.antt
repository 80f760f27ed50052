-- Faults in a stop.
use Rattle.field_words.specs.{declared.stop.Stop.Stop, declared.stop.Stop.TheVariants.Fault, declared.stop.Stop.TheVariants.NoMemory}

-- P holds of the fault, where there is one
abbrev pub IfFault : {F : Type 0} → Stop F → (F → Type 0) → Type 0
IfFault (Fault fault) P = P fault
IfFault NoMemory P = Unit {0}

-- it is a fault, of which P holds
abbrev pub IsFaultAnd : {F : Type 0} → Stop F → (F → Type 0) → Type 0
IsFaultAnd (Fault fault) P = P fault
IsFaultAnd NoMemory P = ⊥
