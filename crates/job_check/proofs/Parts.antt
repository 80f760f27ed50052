-- Putting the contents of buffers one after the other.
use Rattle.std.proofs.Common.{◌≡◌, ℕ, ◌+◌, ◌<◌, ◌≤◌, List, [], ◌∷◌, length, get_or, map, drop, sym, ap, subst, ◌∙◌}
use Rattle.std.proofs.{lemmas.List.drop_more}
use Rattle.field_words.specs.Writes.{with_bytes}
use Rattle.field_words.proofs.Writes.{length-with_bytes}
use Rattle.buffer_table.specs.declared.buffer.Buffer.{Buffer}
use Rattle.job_check.specs.Emit.{content_parts, ContentsFit}

-- one buffer's contents, and those of the rest
pub parts_step : {X : Type 0} (f : X → List ℕ) (buffers : List Buffer) (xs : List X) (k : ℕ) (d : Buffer) (x : X)
    → k < length buffers → k < length xs → x ≡ get_or xs k x
    → content_parts (drop k buffers) (map f (drop k xs))
    ≡ record { place = (get_or buffers k d).place; bytes = f x } ∷ content_parts (drop (k + 1) buffers) (map f (drop (k + 1) xs))
unfolding content_parts
parts_step f buffers xs k d x hb hx e =
    ap (λ bs. content_parts bs (map f (drop k xs))) (drop_more buffers k d hb)
    ∙ ap (λ ys. content_parts (get_or buffers k d ∷ drop (k + 1) buffers) (map f ys)) (drop_more xs k x hx)
    ∙ ap (λ y. content_parts (get_or buffers k d ∷ drop (k + 1) buffers) (f y ∷ map f (drop (k + 1) xs))) (sym e)

pub fit_step : {X : Type 0} (size : ℕ) (f : X → List ℕ) (buffers : List Buffer) (xs : List X) (k : ℕ) (d : Buffer) (x : X)
    → k < length buffers → k < length xs → x ≡ get_or xs k x
    → ContentsFit size (drop k buffers) (map f (drop k xs))
    → ((get_or buffers k d).place + length (f x) ≤ size) × ContentsFit size (drop (k + 1) buffers) (map f (drop (k + 1) xs))
unfolding ContentsFit
fit_step size f buffers xs k d x hb hx e fit =
    let one : ContentsFit size (get_or buffers k d ∷ drop (k + 1) buffers) (map f (drop k xs)) =
    subst (λ bs. ContentsFit size bs (map f (drop k xs))) (drop_more buffers k d hb) fit in
    let two : ContentsFit size (get_or buffers k d ∷ drop (k + 1) buffers) (f (get_or xs k x) ∷ map f (drop (k + 1) xs)) =
    subst (λ ys. ContentsFit size (get_or buffers k d ∷ drop (k + 1) buffers) (map f ys)) (drop_more xs k x hx) one in
    subst (λ y. ContentsFit size (get_or buffers k d ∷ drop (k + 1) buffers) (f y ∷ map f (drop (k + 1) xs))) (sym e) two

-- contents that are shorter than their buffers' room fit
pub same_size : (memory : List ℕ) (place : ℕ) (bytes : List ℕ) (size : ℕ) → place + length bytes ≤ length memory → length memory ≡ size
    → length (with_bytes memory place bytes) ≡ size
same_size memory place bytes size fit long = length-with_bytes memory place bytes fit ∙ long
