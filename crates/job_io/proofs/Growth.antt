-- Bytes that go on in steps.
use Rattle.std.proofs.Common.{◌≡◌, ◌≤◌, ℕ, ◌+◌, ◌-◌, List, ◌++◌, length, take, drop, None, Some, sym, ap, ◌∙◌, append_assoc, length-drop, arith}
use Rattle.std.proofs.lemmas.List.{take_rest, take_at, length-take-le, take-append-drop, drop-drop}
use Rattle.std.proofs.Math.Seq.{take-add}
use Rattle.std.specs.{Io.KnownBytes.Appends, Prelude.Option}

-- what is left at a place, after its first bytes were copied to the front of a buffer
pub given_front : (bytes front rest : List ℕ) (at n : ℕ) → at + n ≤ length bytes
    → front ≡ take n (take (length bytes - at) (drop at bytes))
    → drop at bytes ≡ take n (front ++ rest) ++ drop (at + n) bytes
given_front bytes front rest at n fits is =
    let same : front ≡ take n (drop at bytes) = is ∙ ap (take n) (take_rest bytes at) in
    let inside : n ≤ length (drop at bytes) = omega (arith, length-drop at bytes) in
    let size : length front ≡ n = ap length same ∙ length-take-le n (drop at bytes) inside in
    let copied : take n (front ++ rest) ≡ take n (drop at bytes) = take_at front rest n size ∙ same in
    sym (ap (λ l. l ++ drop (at + n) bytes) copied
    ∙ ap (λ l. take n (drop at bytes) ++ l) (sym (drop-drop n at bytes))
    ∙ take-append-drop n (drop at bytes))

-- the front of a part that was written, and then more of what follows it
pub Appends-next : (before mid now : Option (List ℕ)) (part : List ℕ) (at n : ℕ)
    → Appends before mid (take at part) → Appends mid now (take n (take (length part - at) (drop at part)))
    → Appends before now (take (at + n) part)
Appends-next None mid now part at n first second = tt
Appends-next (Some x) None now part at n first second = absurd first
Appends-next (Some x) (Some y) None part at n first second = absurd second
Appends-next (Some x) (Some y) (Some z) part at n first second =
    second ∙ ap (λ l. l ++ take n (take (length part - at) (drop at part))) first
    ∙ append_assoc x (take at part) (take n (take (length part - at) (drop at part)))
    ∙ ap (λ l. x ++ (take at part ++ take n l)) (take_rest part at)
    ∙ ap (λ l. x ++ l) (sym (take-add at n part))
