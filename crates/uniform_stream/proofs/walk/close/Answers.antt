use Rattle.std.proofs.Common.{slice_index, ◌++◌, [], ◌∷◌, length, map, if◌then◌else◌, ap, arith, ◌∙◌}
use Rattle.shader_flow.specs.{Bounded.indexes, Flow.checked_of, Pending.count_of, Pending.pending_of}
use Rattle.shader_flow.proofs.Ends.{checked_of-le}
use Rattle.uniform_stream.specs.Stream.{is_open, writes_address, address_words_of}
use Rattle.uniform_stream.proofs.Ends.{address_indexes, longer, one_more}
use Rattle.uniform_stream.proofs.walk.close.Goals as goal

pub returns : goal.returns
unfolding address_words_of
returns c =
    let code = c.args.code.now in
    let now = c.requires.before in
    let filled = c.requires.filled in
    record {
      counts_size = ap length c.in_ok-push.ensures.items ∙ longer _ _ filled.counts_size;
      counts_are = λ i below. ap (λ xs. slice_index xs i) c.in_ok-push.ensures.items ∙ one_more (count_of code) (length code) _ _ filled.counts_size filled.counts_are now.count_is i (omega (arith, below));
      pending0_size = ap length c.in_ok-push-2.ensures.items ∙ longer _ _ filled.pending0_size;
      pending0_are = λ i below. ap (λ xs. slice_index xs i) c.in_ok-push-2.ensures.items ∙ one_more (pending_of code 0) (length code) _ _ filled.pending0_size filled.pending0_are now.pending0_is i (omega (arith, below));
      pending1_size = ap length c.in_ok-push-3.ensures.items ∙ longer _ _ filled.pending1_size;
      pending1_are = λ i below. ap (λ xs. slice_index xs i) c.in_ok-push-3.ensures.items ∙ one_more (pending_of code 1) (length code) _ _ filled.pending1_size filled.pending1_are now.pending1_is i (omega (arith, below));
      address_words_are =
          c.in_ok-add_last.ensures
          ∙ (ap (λ xs. xs ++ (if c.is_open.result then c.args.now.now.count ∷ [] else [])) (filled.address_words_are ∙ ap (map (count_of code)) (address_indexes code (length code) (checked_of-le code)))
          ∙ (ap (λ b. map (count_of code) (indexes (checked_of code) (writes_address code)) ++ (if b then c.args.now.now.count ∷ [] else [])) c.is_open.ensures
          ∙ ap (λ n. map (count_of code) (indexes (checked_of code) (writes_address code)) ++ (if is_open code then n ∷ [] else [])) now.count_is));
      known_size = filled.known_size;
      known_are = filled.known_are;
    }
