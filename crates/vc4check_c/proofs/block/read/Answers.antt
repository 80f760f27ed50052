-- The entries behind the first are the samples, and all behind these the address words.
use Rattle.std.proofs.Common.{◌≡◌, ◌+◌, ◌-◌, ◌∙◌, map, take, drop, ap, arith}
use Rattle.std.proofs.lemmas.List.{take_rest}
use Rattle.vc4check_c.specs.Block.{sample_in, address_in, whole_word, read_of}
use Rattle.vc4check_c.proofs.block.read.Goals as goal

pub returns : goal.returns
unfolding read_of
returns c =
    let block = c.args.block.now in
    let n = whole_word block 1 in
    let same : 1 + n - 1 ≡ n = omega arith in
    let samples = c.in_ok-samples_in.ensures ∙ ap (λ k. map sample_in (take k (drop 1 block))) same in
    let addresses = c.in_ok-addresses_in.ensures ∙ ap (map address_in) (take_rest block (1 + n)) in
    cc (samples, addresses)
