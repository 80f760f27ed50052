-- One field after the other.
use Rattle.std.proofs.Common.{◌≡◌, ℕ, ◌+◌, ◌≤◌, ◌<◌, min, List, ◌++◌, length, get_or, take, drop, codes, sym, ap, ◌∙◌, append_assoc, append-nil}
use Rattle.std.proofs.lemmas.List.{drop_more, drop_all, take_min, drop_min}
use Rattle.job_text.specs.{declared.note.Field.Field, Names.field_size, Rows.field_valued, Rows.fields_text}

pub field_step : (out rest front back mid new : List ℕ) (i : ℕ) (fields : List Field) (none : Field) → i < length fields
    → front ≡ take (min (field_size (get_or fields i none)) (length rest)) rest
    → back ≡ drop (min (field_size (get_or fields i none)) (length rest)) rest
    → mid ≡ out ++ codes ", "
    → new ≡ mid ++ field_valued (get_or fields i none) front
    → new ++ fields_text (drop (i + 1) fields) back ≡ out ++ fields_text (drop i fields) rest
unfolding fields_text
field_step out rest front back mid new i fields none below is_front is_back is_mid is_new =
    let size = field_size (get_or fields i none) in
    rw (is_new, is_mid, is_front, is_back, take_min size rest, drop_min size rest, drop_more fields i none below)
    (simp append_assoc)

pub fields_end : (out rest : List ℕ) (i : ℕ) (fields : List Field) → length fields ≤ i → out ≡ out ++ fields_text (drop i fields) rest
unfolding fields_text
fields_end out rest i fields done =
    sym (append-nil out) ∙ ap (λ (fs : List Field). out ++ fields_text fs rest) (sym (drop_all i fields done))
