-- A block gives back the shader that it was made of.
use Rattle.std.proofs.Common.{◌≡◌, ◌==◌, ℕ, zero, suc, ◌+◌, ◌*◌, ◌/◌, ◌%◌, ◌^◌, ◌<◌, ◌≤◌, Bool, true, false, List, [], ◌∷◌, ◌++◌, length, map, get_or, take, drop, refl, ap, sym, subst, Option, Some, None, arith, ◌∙◌, if◌then◌else◌}
use Rattle.std.proofs.{Math.Nat.min-le_left, Math.Seq.take-append_seam, Math.Seq.drop-append_seam}
use Rattle.std.proofs.lemmas.List.{length-map, length-append}
use Rattle.std.specs.List.{slice_index_or}
use Rattle.field_words.specs.Sizes.{most_code}
use Rattle.qpu_isa.specs.{declared.inst.Sample.Sample, Shader.ShaderModel, Shader.IsSoundShader, Shader.no_sample}
use Rattle.shader_flow.specs.{Bounded.indexes, Pending.count_of, Flow.checked_of, Flow.end_of}
use Rattle.shader_flow.proofs.Counts.{count_le}
use Rattle.uniform_stream.specs.Stream.{uniforms_of, address_words_of, writes_address, is_open}
use Rattle.shader_check.specs.Info.{samples_of, sample_of, is_sample}
use Rattle.job_check.specs.Shaders.{words_of, report_of}
use Rattle.job_check.proofs.Codes.{length_words}
use Rattle.vc4check_c.specs.Block.{findings_word, fault_number, fault_place, fault_in, findings_in_words, findings_in_block, known_whole, known_sample, known_address, block_of, position_in, sample_in, address_in, whole_word, read_of, IsBlockOf}
use Rattle.strict_rules.specs.{declared.rule.StrictRule.StrictRule, declared.rule.StrictFault.StrictFault, Least.number_of}
use Rattle.strict_rules.specs.declared.rule.StrictRule.TheVariants.{SetupAtSwitch, SetupAtEnd, Requests, Stretch, LastThree, Coupled, Mutex}
use Rattle.strict_check.specs.{declared.findings.Findings.Findings, Findings.findings_of}
use Rattle.vc4check_c.specs.{Shader.position_report, Shader.flag_report, declared.block.Known.Known}
use Rattle.shader_check.proofs.Indexed.{model}

longer : (list : List ℕ) (x n : ℕ) → length list ≤ n → length (list ++ (x ∷ [])) ≤ suc n
longer list x n few = subst (λ k. k ≤ suc n) (sym (length-append list (x ∷ []))) (omega (arith, few))

same : (list : List ℕ) (n : ℕ) → length list ≤ n → length (list ++ []) ≤ suc n
same list n few = subst (λ k. k ≤ suc n) (sym (length-append list [])) (omega (arith, few))

one_more : (list : List ℕ) (x n : ℕ) (here : Bool) → length list ≤ n → length (list ++ (if here then x ∷ [] else [])) ≤ suc n
one_more list x n true few = longer list x n few
one_more list x n false few = same list n few

-- there are no more of them than numbers
few_indexes : (n : ℕ) (test : ℕ → Bool) → length (indexes n test) ≤ n
unfolding indexes
few_indexes zero test = omega arith
few_indexes (suc n) test = one_more (indexes n test) n n (test n) (few_indexes n test)

few_samples : (code : List ℕ) → length (samples_of code) ≤ length code
unfolding samples_of checked_of
few_samples code =
    let all = few_indexes (checked_of code) (is_sample code) in
    let inside : checked_of code ≤ length code = min-le_left (length code) (end_of code + 3) in
    let as_many = length-map (indexes (checked_of code) (is_sample code)) (sample_of code) in
    omega (arith, all, inside, as_many)

few_addresses : (code : List ℕ) → length (address_words_of code) ≤ suc (length code)
unfolding address_words_of checked_of
few_addresses code =
    let written = indexes (checked_of code) (writes_address code) in
    let all = few_indexes (checked_of code) (writes_address code) in
    let inside : checked_of code ≤ length code = min-le_left (length code) (end_of code + 3) in
    one_more (map (count_of code) written) (count_of code (length code)) (length code) (is_open code)
    (omega (arith, all, inside, length-map written (count_of code)))

one_at_most : (b : Bool) → (if b then 1 else 0) ≤ 1
one_at_most true = omega arith
one_at_most false = omega arith

few_uniforms : (code : List ℕ) → uniforms_of code ≤ length code + 1
unfolding uniforms_of
few_uniforms code = let counted = count_le code (length code) in let opened = one_at_most (is_open code) in omega (arith, counted, opened)

-- the words of at most 65,536 bytes
few_words : (code : List ℕ) → length code ≤ most_code → length (words_of code) ≤ 8192
few_words code few = let as_many = length_words code (length code / 8) in omega (arith, as_many, few)

pub samples_fit : (code : List ℕ) → length code ≤ most_code → length (samples_of (words_of code)) < 2 ^ 32
samples_fit code few = let samples = few_samples (words_of code) in let words = few_words code few in omega (arith, samples, words)

pub addresses_fit : (code : List ℕ) → length code ≤ most_code → length (address_words_of (words_of code)) < 2 ^ 32
addresses_fit code few = let addresses = few_addresses (words_of code) in let words = few_words code few in omega (arith, addresses, words)

uniforms_fit : (code : List ℕ) → length code ≤ most_code → uniforms_of (words_of code) < 4294967295
uniforms_fit code few = let uniforms = few_uniforms (words_of code) in let words = few_words code few in omega (arith, uniforms, words)

-- a position, a yes or no, and a sample
position_back : (position : Option ℕ) → ((k : ℕ) → position ≡ Some k → k < 4294967295) → position_in (position_report position) ≡ position
position_back None below = refl
position_back (Some k) below = grind (arith, below k refl)

flag_back : (stands : Bool) → (flag_report stands == 1) ≡ stands
flag_back true = refl
flag_back false = refl

-- the rule and the bits of a word
rule_back : (rule : StrictRule) (at : ℕ) → (number_of rule < 8) × (fault_in (number_of rule) at ≡ Some (record { rule = rule; at = at }))
rule_back SetupAtSwitch at = (omega arith, refl)
rule_back SetupAtEnd at = (omega arith, refl)
rule_back Requests at = (omega arith, refl)
rule_back Stretch at = (omega arith, refl)
rule_back LastThree at = (omega arith, refl)
rule_back Coupled at = (omega arith, refl)
rule_back Mutex at = (omega arith, refl)

fault_back : (fault : Option StrictFault) → (fault_number fault < 8) × (fault_in (fault_number fault) (fault_place fault) ≡ fault)
fault_back None = (omega arith, refl)
fault_back (Some fault) = rule_back fault.rule fault.at

abbrev word_with : (number vpm tile threaded : ℕ) → ℕ
word_with number vpm tile threaded = number + 8 * vpm + 16 * tile + 32 * threaded

record Bits (number vpm tile threaded word : ℕ) : Type 0 where
  number_is : word % 8 ≡ number
  vpm_is : word / 8 % 2 ≡ vpm
  tile_is : word / 16 % 2 ≡ tile
  threaded_is : word / 32 ≡ threaded

bits_back : (number vpm tile threaded : ℕ) → number < 8 → vpm ≤ 1 → tile ≤ 1 → threaded ≤ 1 → Bits number vpm tile threaded (word_with number vpm tile threaded)
bits_back number vpm tile threaded n v t s = record {
  number_is = omega (arith, n, v, t, s);
  vpm_is = omega (arith, n, v, t, s);
  tile_is = omega (arith, n, v, t, s);
  threaded_is = omega (arith, n, v, t, s);
}

abbrev bits_of_word : (threaded : Bool) (findings : Findings) → Type 0
bits_of_word threaded findings =
    Bits (fault_number findings.fault) (flag_report findings.uses.vpm) (flag_report findings.uses.tile) (flag_report threaded) (findings_word threaded findings)

bits : (threaded : Bool) (findings : Findings) → bits_of_word threaded findings
unfolding findings_word
bits threaded findings =
    bits_back (fault_number findings.fault) (flag_report findings.uses.vpm) (flag_report findings.uses.tile) (flag_report threaded)
    (fault_back findings.fault).0 (one_at_most findings.uses.vpm) (one_at_most findings.uses.tile) (one_at_most threaded)

bit_back : (bit : ℕ) (flag : Bool) → bit ≡ flag_report flag → (bit == 1) ≡ flag
bit_back bit flag is = ap (λ n. n == 1) is ∙ flag_back flag

threaded_back : (threaded : Bool) (findings : Findings) → (findings_word threaded findings / 32 == 1) ≡ threaded
threaded_back threaded findings = bit_back (findings_word threaded findings / 32) threaded (bits threaded findings).threaded_is

abbrev found : Option StrictFault → (vpm tile : Bool) → Findings
found fault vpm tile = record { fault = fault; uses = record { vpm = vpm; tile = tile } }

findings_back : (threaded : Bool) (findings : Findings) → findings_in_words (findings_word threaded findings) (fault_place findings.fault) ≡ findings
unfolding findings_in_words
findings_back threaded findings =
    let word = findings_word threaded findings in
    let is = bits threaded findings in
    let fault = ap (λ n. fault_in n (fault_place findings.fault)) is.number_is ∙ (fault_back findings.fault).1 in
    let vpm = bit_back (word / 8 % 2) findings.uses.vpm is.vpm_is in
    let tile = bit_back (word / 16 % 2) findings.uses.tile is.tile_is in
    ap (λ x. found x (word / 8 % 2 == 1) (word / 16 % 2 == 1)) fault
    ∙ ap (λ x. found findings.fault x (word / 16 % 2 == 1)) vpm
    ∙ ap (found findings.fault findings.uses.vpm) tile

abbrev sample_with : List (Option ℕ) → Bool → Sample
sample_with p direct = record { p = p; direct = direct }

places_back : (p : List (Option ℕ)) (direct : Bool) → length p ≡ 4 → ((n k : ℕ) → slice_index_or p n None ≡ Some k → k < 4294967295)
    → sample_in (known_sample (sample_with p direct)) ≡ sample_with p direct
unfolding known_sample sample_in
places_back [] direct four below = absurd (omega (arith, four))
places_back (a ∷ []) direct four below = absurd (omega (arith, four))
places_back (a ∷ b ∷ []) direct four below = absurd (omega (arith, four))
places_back (a ∷ b ∷ c ∷ []) direct four below = absurd (omega (arith, four))
places_back (a ∷ b ∷ c ∷ d ∷ []) direct four below =
    cc (position_back a (below 0), position_back b (below 1), position_back c (below 2), position_back d (below 3), flag_back direct)
places_back (a ∷ b ∷ c ∷ d ∷ e ∷ more) direct four below = absurd (omega (arith, four))

-- What brings a sample back: it has four positions, none of all ones.
record IsTellable (sample : Sample) : Type 0 where
  four : length sample.p ≡ 4
  below : (n k : ℕ) → slice_index_or sample.p n None ≡ Some k → k < 4294967295

samples_back : (samples : List Sample) → ((i : ℕ) → i < length samples → IsTellable (slice_index_or samples i no_sample)) → map sample_in (map known_sample samples) ≡ samples
samples_back [] all = refl
samples_back (sample ∷ samples) all =
    let here = all 0 (omega arith) in
    cc (places_back sample.p sample.direct here.four here.below, samples_back samples (λ i inside. all (suc i) (omega (arith, inside))))

report_back : (code : List ℕ) → length code ≤ most_code → IsSoundShader (report_of (words_of code)) → map sample_in (map known_sample (samples_of (words_of code))) ≡ samples_of (words_of code)
unfolding report_of
report_back code few sound = samples_back (samples_of (words_of code)) (λ i inside. let s = sound.samples i inside in record {
  four = s.four;
  below = λ n k is. let small = uniforms_fit code few in let here = s.below n k is in omega (arith, small, here);
})

addresses_back : (words : List ℕ) → map address_in (map known_address words) ≡ words
addresses_back [] = refl
addresses_back (word ∷ words) = ap (λ l. word ∷ l) (addresses_back words)

-- How a block reads: its first entry, then as many samples as that says, and then the address words.
record Reads (shader : ShaderModel) (findings : Findings) (block : List Known) : Type 0 where
  pub whole : get_or block 0 (record { words = [] }) ≡ known_whole shader findings
  pub samples : take (length shader.samples) (drop 1 block) ≡ map known_sample shader.samples
  pub addresses : drop (1 + length shader.samples) block ≡ map known_address shader.address_words

front_taken : {X : Type 0} (front rest : List X) (n : ℕ) → n ≡ length front → take n (front ++ rest) ≡ front
front_taken front rest n is = subst (λ k. take k (front ++ rest) ≡ front) (sym is) (take-append_seam front rest)

rest_left : {X : Type 0} (front rest : List X) (n : ℕ) → n ≡ length front → drop n (front ++ rest) ≡ rest
rest_left front rest n is = subst (λ k. drop k (front ++ rest) ≡ rest) (sym is) (drop-append_seam front rest)

made_reads : (shader : ShaderModel) (findings : Findings) → Reads shader findings (block_of shader findings)
unfolding block_of
made_reads shader findings =
    let samples = map known_sample shader.samples in
    let addresses = map known_address shader.address_words in
    let n = length shader.samples in
    let counted : n ≡ length samples = sym (length-map shader.samples known_sample) in
    record {
      whole = refl;
      samples = front_taken samples addresses n counted;
      addresses = rest_left (known_whole shader findings ∷ samples) addresses (1 + n) (omega (arith, counted));
    }

block_reads : (shader : ShaderModel) (findings : Findings) (block : List Known) → block ≡ block_of shader findings → Reads shader findings block
block_reads shader findings block is = subst (Reads shader findings) (sym is) (made_reads shader findings)

pub made_read : (code : List ℕ) (block : List Known) → IsBlockOf code block → read_of block ≡ report_of (words_of code)
unfolding read_of report_of
made_read code block made =
    let shader : ShaderModel = report_of (words_of code) in
    let reads = block_reads shader (findings_of (words_of code)) block made.report in
    let count : whole_word block 1 ≡ length shader.samples = ap (λ entry. get_or entry.words 1 0) reads.whole in
    let uniforms : whole_word block 0 ≡ shader.uniforms = ap (λ entry. get_or entry.words 0 0) reads.whole in
    let threaded : (whole_word block 3 / 32 == 1) ≡ shader.threaded =
    ap (λ entry. get_or entry.words 3 0 / 32 == 1) reads.whole ∙ threaded_back shader.threaded (findings_of (words_of code)) in
    let samples = ap (λ n. map sample_in (take n (drop 1 block))) count ∙ ap (map sample_in) reads.samples ∙ report_back code made.few made.sound in
    let addresses = ap (λ n. map address_in (drop (1 + n) block)) count ∙ ap (map address_in) reads.addresses ∙ addresses_back shader.address_words in
    let read = read_of block in
    ap (λ n. model n read.samples read.address_words read.threaded) uniforms
    ∙ ap (λ l. model shader.uniforms l read.address_words read.threaded) samples
    ∙ ap (λ l. model shader.uniforms shader.samples l read.threaded) addresses
    ∙ ap (model shader.uniforms shader.samples shader.address_words) threaded

-- And what the strict check found comes back.
pub made_findings : (code : List ℕ) (block : List Known) → IsBlockOf code block → findings_in_block block ≡ findings_of (words_of code)
made_findings code block made =
    let findings = findings_of (words_of code) in
    let reads = block_reads (report_of (words_of code)) findings block made.report in
    ap (λ entry. findings_in_words (get_or entry.words 3 0) (get_or entry.words 4 0)) reads.whole ∙ findings_back (report_of (words_of code)).threaded findings
