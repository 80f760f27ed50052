-- Texts that are appended one after the other.
use Rattle.std.proofs.Common.{◌≡◌, ℕ, ◌+◌, List, [], ◌++◌, length, take, drop, None, Some, refl, sym, ap, ◌∙◌, append_assoc, append-nil, length-append, subst, arith}
use Rattle.std.proofs.{lemmas.List.take-append-le, lemmas.List.take_at, lemmas.List.drop_at, Math.Seq.take-add}
use Rattle.std.specs.{Prelude.Option, Prelude.Result, Prelude.Ok, Prelude.Err, Prelude.OnErr, Io.KnownBytes.Appends}
use Rattle.job_io.specs.Traffic.{AppendsFront}

pub none_appended : (held : Option (List ℕ)) → Appends held held []
none_appended None = tt
none_appended (Some bytes) = sym (append-nil bytes)

pub both_appended : (before mid now : Option (List ℕ)) (x y : List ℕ) → Appends before mid x → Appends mid now y → Appends before now (x ++ y)
both_appended None mid now x y first second = tt
both_appended (Some a) None now x y first second = absurd first
both_appended (Some a) (Some b) None x y first second = absurd second
both_appended (Some a) (Some b) (Some c) x y first second = second ∙ ap (λ l. l ++ y) first ∙ append_assoc a x y

-- a front of the first is one of both
pub front_of_first : (before now : Option (List ℕ)) (x y : List ℕ) → AppendsFront before now x → AppendsFront before now (x ++ y)
front_of_first before None x y front = tt
front_of_first before (Some c) x y (n, few, is) =
    let same : take n (x ++ y) ≡ take n x = take-append-le n x y few in
    (n, omega (arith, length-append x y, few), subst (Appends before (Some c)) (sym same) is)

-- and so is the first with a front of the second
pub front_of_second : (before mid now : Option (List ℕ)) (x y : List ℕ) → Appends before mid x → AppendsFront mid now y → AppendsFront before now (x ++ y)
front_of_second before mid None x y first front = tt
front_of_second before mid (Some c) x y first (n, few, is) =
    let same : take (length x + n) (x ++ y) ≡ x ++ take n y =
    take-add (length x) n (x ++ y) ∙ ap (λ l. l ++ take n (drop (length x) (x ++ y))) (take_at x y (length x) refl) ∙ ap (λ l. x ++ take n l) (drop_at x y (length x) refl) in
    (length x + n, omega (arith, length-append x y, few), subst (Appends before (Some c)) (sym same) (both_appended before mid (Some c) x (take n y) first is))

pub on_err : {X E : Type 0} {P : Type 0} (result : Result X E) → P → OnErr result P
on_err (Ok value) p = tt
on_err (Err error) p = p
