-- One more is appended; at the end all are there.
use Rattle.std.proofs.Common.{◌++◌, map, take, ap, subst, ◌∙◌}
use Rattle.std.specs.List.{AllByRecursion}
use Rattle.field_words.specs.{Words.IsBytes, Pieces.joined_texts}
use Rattle.job_format.proofs.Items.{more_viewed, joined_flat, all_taken}
use Rattle.job_format.proofs.writing.put_contents.Goals as goal

pub loop-content-preserved : goal.loop-content-preserved
loop-content-preserved c =
    more_viewed (λ c. c.items) (λ t. t) IsBytes c.args.contents.now c.loop-content.content-index c.content-item.result c.args.out.now.items c.loop-content.out.items c.put_bytes.new.out.items c.loop-content-test.true c.content-item.is c.loop-content.invariant (c.in_ok-put_bytes.ensures.text ∙ ap (λ t. c.loop-content.out.items ++ t) c.deref.ensures.value) (subst IsBytes c.deref.ensures.value c.in_ok-put_bytes.ensures.fits)

pub returns-clause-text : goal.returns-clause-text
returns-clause-text c =
    let all = all_taken c.args.contents.now c.loop-content.content-index c.loop-content-test.false in
    c.loop-content.invariant.0
    ∙ ap (λ t. c.args.out.now.items ++ t) (joined_flat (map (λ c. c.items) (take c.loop-content.content-index c.args.contents.now)) ∙ ap (λ xs. joined_texts (map (λ c. c.items) xs)) all)

pub returns-clause-fits : goal.returns-clause-fits
returns-clause-fits c = subst (λ xs. AllByRecursion IsBytes (map (λ c. c.items) xs)) (all_taken c.args.contents.now c.loop-content.content-index c.loop-content-test.false) c.loop-content.invariant.1
