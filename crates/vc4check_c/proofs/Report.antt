-- What is reported of one job more.
use Rattle.std.proofs.Common.{◌≡◌, ℕ, zero, suc, ◌+◌, ◌<◌, List, replicate, get_or, slice_set, refl, sym, ap, add-one, arith, ◌∙◌}
use Rattle.relocation.specs.{declared.layout.Layout.Layout, declared.layout.Lengths.Lengths}
use Rattle.vc4check_c.specs.Jobs.{lists_report, no_lists, no_layout, no_lengths, lists_at, all_lists}

pub none_reported : (layouts : List Layout) (lengths : List Lengths) → replicate 8 no_lists ≡ all_lists layouts lengths 0
unfolding all_lists lists_at
none_reported layouts lengths = refl

next_reported : (layouts : List Layout) (lengths : List Lengths) (j : ℕ) → j < 8
    → slice_set (all_lists layouts lengths j) j (lists_report (get_or layouts j no_layout) (get_or lengths j no_lengths)) ≡ all_lists layouts lengths (suc j)
unfolding all_lists lists_at
next_reported layouts lengths zero inside = refl
next_reported layouts lengths (suc zero) inside = refl
next_reported layouts lengths (suc (suc zero)) inside = refl
next_reported layouts lengths (suc (suc (suc zero))) inside = refl
next_reported layouts lengths (suc (suc (suc (suc zero)))) inside = refl
next_reported layouts lengths (suc (suc (suc (suc (suc zero))))) inside = refl
next_reported layouts lengths (suc (suc (suc (suc (suc (suc zero)))))) inside = refl
next_reported layouts lengths (suc (suc (suc (suc (suc (suc (suc zero))))))) inside = refl
next_reported layouts lengths (suc (suc (suc (suc (suc (suc (suc (suc j)))))))) inside = absurd (omega (arith, inside))

pub one_more_reported : (layouts : List Layout) (lengths : List Lengths) (j : ℕ) → j < 8
    → slice_set (all_lists layouts lengths j) j (lists_report (get_or layouts j no_layout) (get_or lengths j no_lengths)) ≡ all_lists layouts lengths (j + 1)
one_more_reported layouts lengths j inside = next_reported layouts lengths j inside ∙ ap (all_lists layouts lengths) (sym (add-one j))
