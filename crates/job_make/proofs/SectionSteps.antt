-- Sections: one line more of those that are counted, and of those that may name one.
use Rattle.std.proofs.Common.{◌≡◌, ℕ, ◌+◌, ◌≤◌, Bool, true, false, List, [], ◌∷◌, ◌++◌, length, Result, Ok, Err, Option, Some, None, option_copied, Bor, cond, refl, sym, ◌∙◌, ap, subst, length-append, arith}
use Rattle.std.specs.{Option.option_or, Prelude.is_some, Prelude.bytes_eq, Prelude.if◌then◌else◌}
use Rattle.script.specs.Lines.{lines_of}
use Rattle.field_words.specs.{declared.stop.Stop.Stop, declared.stop.Stop.TheVariants.Fault}
use Rattle.job_make.specs.Made.{Sections, any_section, both, part_read, stays_inside, name_on, counted, size_from, section_from, IsFaultOf}
use Rattle.job_make.specs.{declared.fault.MakeFault.MakeFault, declared.sections.Section.Section}

-- what was read, and how much it is
more_read : (out new : List ℕ) (r : Result (List ℕ) MakeFault) (later : ℕ) → both (Ok out) r ≡ Ok new → length out + counted r later ≡ length new + later
more_read out new (Err fault) later is = cc
more_read out new (Ok bytes) later is = let whole : out ++ bytes ≡ new = cc in omega (arith, length-append out bytes, ap length whole)

-- the lines of a section go on
pub size_step : (line : ℕ) (inside : Bool) (out new first rest : List ℕ) (lines : List (List ℕ)) → lines_of rest ≡ first ∷ lines
    → is_some (name_on inside first) ≡ false → both (Ok out) (part_read any_section line inside first lines) ≡ Ok new
    → length new + size_from (line + 1) (stays_inside inside first) lines ≡ length out + size_from line inside (lines_of rest)
unfolding size_from
size_step line inside out new first rest lines cut plain is =
    let more : size_from line inside (first ∷ lines) ≡ counted (part_read any_section line inside first lines) (size_from (line + 1) (stays_inside inside first) lines) =
    rw plain refl in
    sym (more_read out new (part_read any_section line inside first lines) (size_from (line + 1) (stays_inside inside first) lines) is)
    ∙ ap (λ n. length out + n) (sym more ∙ ap (size_from line inside) (sym cut))

-- a name that is found
pub found : (r : Option (Bor (List ℕ))) (name : Option (List ℕ)) (is : Bool) → option_copied r ≡ name → is_some r ≡ is → is_some name ≡ is
found None name is same known = ap is_some (sym same) ∙ known
found (Some x) name is same known = ap is_some (sym same) ∙ known

-- they end at a name, at a fault, or with the text
pub size_at_name : (line : ℕ) (inside : Bool) (first rest : List ℕ) (lines : List (List ℕ)) → lines_of rest ≡ first ∷ lines
    → is_some (name_on inside first) ≡ true → size_from line inside (lines_of rest) ≡ 0
unfolding size_from
size_at_name line inside first rest lines cut named = ap (size_from line inside) cut ∙ rw named refl

pub size_fault : (line : ℕ) (inside : Bool) (first rest : List ℕ) (lines : List (List ℕ)) (stop : Stop MakeFault) (fault : MakeFault) → lines_of rest ≡ first ∷ lines
    → is_some (name_on inside first) ≡ false → stop ≡ Fault fault → IsFaultOf (part_read any_section line inside first lines) stop
    → size_from line inside (lines_of rest) ≡ 0
unfolding size_from
size_fault line inside first rest lines stop fault cut plain is read =
    let refused : part_read any_section line inside first lines ≡ Err fault = subst (IsFaultOf (part_read any_section line inside first lines)) is read in
    ap (size_from line inside) cut ∙ rw (plain, refused) refl

pub size_end : (line : ℕ) (inside : Bool) (rest : List ℕ) → length rest ≤ 0 → size_from line inside (lines_of rest) ≡ 0
unfolding size_from lines_of
size_end line inside [] none = refl
size_end line inside (c ∷ rest) none = absurd (omega (arith, none))

-- of two sections of a name the later
later : (is : Bool) (named : Section) (behind before : Option Section)
    → option_or behind (cond is (Some named) before) ≡ option_or (option_or behind (if is then Some named else None)) before
later true named None before = refl
later true named (Some section) before = refl
later false named None before = refl
later false named (Some section) before = refl

pub section_step : (line size : ℕ) (inside : Bool) (name other first rest : List ℕ) (lines : List (List ℕ)) (old new : Option Section) → lines_of rest ≡ first ∷ lines
    → name_on inside first ≡ Some other → size ≡ size_from (line + 1) false lines
    → new ≡ cond (bytes_eq other name) (Some (record { line = line; size = size })) old
    → option_or (section_from (line + 1) (stays_inside inside first) lines name) new ≡ option_or (section_from line inside (lines_of rest) name) old
unfolding section_from
section_step line size inside name other first rest lines old new cut is here put =
    let behind = section_from (line + 1) (stays_inside inside first) lines name in
    let named : Section = record { line = line; size = size } in
    let begun : section_from line inside (first ∷ lines) name ≡ option_or behind (if bytes_eq other name then Some named else None) = rw (is, here) refl in
    ap (option_or behind) put ∙ later (bytes_eq other name) named behind old
    ∙ ap (λ s. option_or s old) (sym begun ∙ ap (λ l. section_from line inside l name) (sym cut))

pub section_skip : (line : ℕ) (inside : Bool) (name first rest : List ℕ) (lines : List (List ℕ)) (old : Option Section) → lines_of rest ≡ first ∷ lines
    → name_on inside first ≡ None → option_or (section_from (line + 1) (stays_inside inside first) lines name) old ≡ option_or (section_from line inside (lines_of rest) name) old
unfolding section_from
section_skip line inside name first rest lines old cut is =
    let behind = section_from (line + 1) (stays_inside inside first) lines name in
    let none : section_from line inside (first ∷ lines) name ≡ option_or behind None = rw is refl in
    later false (record { line = line; size = 0 }) behind old ∙ ap (λ s. option_or s old) (sym none ∙ ap (λ l. section_from line inside l name) (sym cut))

pub sections_end : (line : ℕ) (inside : Bool) (rest : List ℕ) (old all : Sections) → length rest ≤ 0
    → ((name : List ℕ) → option_or (section_from line inside (lines_of rest) name) (old name) ≡ all name) → old ≡ all
unfolding section_from lines_of
sections_end line inside [] old all none same = λ i name. same name i
sections_end line inside (c ∷ rest) old all none same = absurd (omega (arith, none))
