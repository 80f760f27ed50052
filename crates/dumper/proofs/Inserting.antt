-- Where a part goes among spans.
use Rattle.std.proofs.Common.{◌≡◌, ℕ, zero, suc, ◌<◌, ◌≤◌, List, [], ◌∷◌, ◌++◌, length, take, drop, get_or, refl, sym, ap, subst, ◌∙◌, append_assoc, append-nil, arith}
use Rattle.std.specs.List.{insert}
use Rattle.field_words.specs.Writes.{Part}
use Rattle.dumper.specs.{Parts.part_text, Parts.parts_text, Parts.part_end, Parts.Ascend, Parts.part_inserted, declared.span.Span.Span}
use Rattle.dumper.specs.Spans.{part_of, parts_of}
use Rattle.dumper.proofs.{Sorting.put_before, Sorting.put_behind, Stretches.ascend_upto}

-- Past a span that begins no later.
pub passed_on : (spans : List Span) (at : ℕ) (x : Span) (part : Part) → at < length spans → x ≡ get_or spans at x → x.place ≤ part.place
    → take at (parts_of spans) ++ part_inserted part (drop at (parts_of spans)) ≡ take (suc at) (parts_of spans) ++ part_inserted part (drop (suc at) (parts_of spans))
passed_on [] at x part below is order = absurd (omega (arith, below))
passed_on (s ∷ spans) zero x part below is order = put_behind part (part_of s) (parts_of spans) (subst (λ (t : Span). t.place ≤ part.place) is order)
passed_on (s ∷ spans) (suc at) x part below is order = ap (λ l. part_of s ∷ l) (passed_on spans at x part (omega (arith, below)) is order)

-- Before one that begins behind it.
pub found_at : (spans : List Span) (at : ℕ) (x : Span) (part : Part) → at < length spans → x ≡ get_or spans at x → part.place < x.place
    → take at (parts_of spans) ++ part_inserted part (drop at (parts_of spans)) ≡ insert (parts_of spans) at part
found_at [] at x part below is order = absurd (omega (arith, below))
found_at (s ∷ spans) zero x part below is order = put_before part (part_of s) (parts_of spans) (subst (λ (t : Span). part.place < t.place) is order)
found_at (s ∷ spans) (suc at) x part below is order = ap (λ l. part_of s ∷ l) (found_at spans at x part (omega (arith, below)) is order)

-- Behind the last.
pub found_last : (spans : List Span) (at : ℕ) (part : Part) → length spans ≤ at
    → take at (parts_of spans) ++ part_inserted part (drop at (parts_of spans)) ≡ insert (parts_of spans) at part
unfolding part_inserted
found_last [] zero part past = refl
found_last [] (suc at) part past = refl
found_last (s ∷ spans) zero part past = absurd (omega (arith, past))
found_last (s ∷ spans) (suc at) part past = ap (λ l. part_of s ∷ l) (found_last spans at part (omega (arith, past)))

pub parts_insert : (spans : List Span) (at : ℕ) (x : Span) → parts_of (insert spans at x) ≡ insert (parts_of spans) at (part_of x)
parts_insert [] zero x = refl
parts_insert [] (suc at) x = refl
parts_insert (s ∷ spans) zero x = refl
parts_insert (s ∷ spans) (suc at) x = ap (λ l. part_of s ∷ l) (parts_insert spans at x)

-- The lines of one span more.
pub text_more : (spans : List Span) (at : ℕ) (x : Span) → at < length spans → x ≡ get_or spans at x
    → parts_text (take at (parts_of spans)) ++ part_text (part_of x) ≡ parts_text (take (suc at) (parts_of spans))
unfolding parts_text
text_more [] at x below is = absurd (omega (arith, below))
text_more (s ∷ spans) zero x below is = ap (λ (t : Span). part_text (part_of t)) is ∙ sym (append-nil (part_text (part_of s)))
text_more (s ∷ spans) (suc at) x below is =
    append_assoc (part_text (part_of s)) (parts_text (take at (parts_of spans))) (part_text (part_of x))
    ∙ ap (λ l. part_text (part_of s) ++ l) (text_more spans at x (omega (arith, below)) is)

-- Those of the first spans, and those of the others.
pub text_split : (parts : List Part) (at : ℕ) → parts_text parts ≡ parts_text (take at parts) ++ parts_text (drop at parts)
unfolding parts_text
text_split parts zero = refl
text_split [] (suc at) = refl
text_split (part ∷ parts) (suc at) =
    ap (λ l. part_text part ++ l) (text_split parts at) ∙ sym (append_assoc (part_text part) (parts_text (take at parts)) (parts_text (drop at parts)))

-- Each of ascending spans ends inside the size.
pub span_end : (spans : List Span) (from size at : ℕ) (x : Span) → Ascend from size (parts_of spans) → at < length spans → x ≡ get_or spans at x
    → part_end (part_of x) ≤ size
span_end [] from size at x ascend below is = absurd (omega (arith, below))
span_end (s ∷ spans) from size zero x ascend below is =
    subst (λ (t : Span). part_end (part_of t) ≤ size) (sym is) (ascend_upto (part_end (part_of s)) size (parts_of spans) ascend.2)
span_end (s ∷ spans) from size (suc at) x ascend below is = span_end spans (part_end (part_of s)) size at x ascend.2 (omega (arith, below)) is
