-- One buffer more.
use Rattle.std.proofs.Common.{◌≡◌, ◌≤◌, ◌++◌, [], ◌∷◌, map, take, sym, ap, subst, Some, IfSome, option_map, arith, ◌∙◌}
use Rattle.std.proofs.{lemmas.List.map-append, lemmas.List.take_all, lemmas.List.length-map, lemmas.Option.slice_get-map}
use Rattle.std.specs.List.{slice_get}
use Rattle.shader_records.specs.Inputs.{shader_option, shaders_view}
use Rattle.vc4check_c.specs.{Block.IsReadable, Telling.read_in}
use Rattle.vc4check_c.proofs.{Submissions.taken_more, Telling.readable_more}
use Rattle.vc4check_c.proofs.known.shaders_in.Goals as goal

pub loop-b-preserved : goal.loop-b-preserved
loop-b-preserved c =
    let buffers = c.args.buffers.now in
    let b = c.loop-b.b in
    let given = c.in-Some.given.now in
    let shader = c.in-Some-found.shader in
    let here : slice_get buffers b ≡ Some given = c.in-Some.ensures in
    let report = subst (λ found. IfSome found (λ x. (shader_option x ≡ read_in given) × (given.kind ≡ 1 → IsReadable given.known.now))) c.in-Some-found.is c.in_ok-found.ensures in (
      ap shaders_view c.in_ok-push-in-Some-found.ensures.items
          ∙ map-append shader_option c.loop-b.shaders.items (shader ∷ [])
          ∙ ap (λ l. l ++ (shader_option shader ∷ [])) c.loop-b.invariant.0
          ∙ ap (λ x. take b (map read_in buffers) ++ (x ∷ [])) report.0
          ∙ sym (taken_more (map read_in buffers) b (read_in given) (slice_get-map read_in buffers b ∙ ap (option_map read_in) here)),
      readable_more buffers b given c.loop-b.invariant.1 here report.1,
    )

pub returns : goal.returns
returns c =
    let buffers = c.args.buffers.now in
    let b = c.loop-b.b in (
      c.loop-b.invariant.0 ∙ take_all b (map read_in buffers) (subst (λ n. n ≤ b) (sym (length-map buffers read_in)) (omega (arith, c.loop-b-test.false))),
      λ i given below here code. c.loop-b.invariant.1 i given (omega (arith, below, c.loop-b-test.false)) here code,
    )
