-- What is kept of a checked shader for later calls: entries of five words, the first of which tells of the whole shader, and then one for
-- each sample and each address word. The first one's words are the uniforms, the numbers of samples and of address words, the word of what
-- was found, and the place of a broken strict rule.
use Rattle.std.specs.Prelude.{◌≡◌, ◌≤◌, ◌==◌, ◌+◌, ◌*◌, ◌/◌, ◌%◌, ℕ, Bool, List, [], ◌∷◌, ◌++◌, length, map, take, drop, slice_index, slice_index_or, Option, Some, None, if◌then◌else◌}
use Rattle.field_words.specs.{Sizes.most_code, Questions.first_of, Questions.IsFirst}
use Rattle.qpu_isa.specs.{declared.inst.Sample.Sample, Shader.ShaderModel, Shader.position, Shader.IsSoundShader}
use Rattle.job_check.specs.Shaders.{words_of, code_questions, report_of}
use Rattle.shader_check.specs.declared.fault.ShaderFault.{ShaderFault}
use Rattle.shader_records.specs.Inputs.{IsShaped}
use Rattle.strict_rules.specs.{declared.rule.StrictRule.StrictRule, declared.rule.StrictFault.StrictFault, Least.number_of}
use Rattle.strict_rules.specs.declared.rule.StrictRule.TheVariants.{SetupAtSwitch, SetupAtEnd, Requests, Stretch, LastThree, Coupled, Mutex}
use Rattle.strict_check.specs.{declared.findings.Findings.Findings, Findings.findings_of}
use Rattle.vc4check_c.specs.{declared.block.Known.Known, declared.block.MadeAnswer.MadeAnswer, Shader.position_report, Shader.flag_report}

-- a strict rule by its number, 0 for none, and its instruction
abbrev pub fault_number : Option StrictFault → ℕ
fault_number None = 0
fault_number (Some fault) = number_of fault.rule

abbrev pub fault_place : Option StrictFault → ℕ
fault_place None = 0
fault_place (Some fault) = fault.at

-- in one word: the rule, what the shader uses, and whether it switches threads
unfoldable pub findings_word : (threaded : Bool) → Findings → ℕ
findings_word threaded findings =
    fault_number findings.fault + 8 * flag_report findings.uses.vpm + 16 * flag_report findings.uses.tile + 32 * flag_report threaded

abbrev pub known_whole : ShaderModel → Findings → Known
known_whole shader findings = record {
  words = shader.uniforms ∷ length shader.samples ∷ length shader.address_words ∷ findings_word shader.threaded findings ∷ fault_place findings.fault ∷ [];
}

unfoldable pub known_sample : Sample → Known
known_sample sample = record {
  words = position_report (position sample 0) ∷ position_report (position sample 1) ∷ position_report (position sample 2) ∷ position_report (position sample 3) ∷ flag_report sample.direct ∷ [];
}

abbrev pub known_address : ℕ → Known
known_address word = record { words = word ∷ 0 ∷ 0 ∷ 0 ∷ 0 ∷ [] }

unfoldable pub block_of : ShaderModel → Findings → List Known
block_of shader findings = known_whole shader findings ∷ (map known_sample shader.samples ++ map known_address shader.address_words)

-- that of the shader which these bytes hold
abbrev pub block_of_code : List ℕ → List Known
block_of_code code = block_of (report_of (words_of code)) (findings_of (words_of code))

-- and back
abbrev pub position_in : ℕ → Option ℕ
position_in word = if word == 4294967295 then None else Some word

unfoldable pub sample_in : Known → Sample
sample_in known = record {
  p = position_in (slice_index known.words 0) ∷ position_in (slice_index known.words 1) ∷ position_in (slice_index known.words 2) ∷ position_in (slice_index known.words 3) ∷ [];
  direct = slice_index known.words 4 == 1;
}

abbrev pub address_in : Known → ℕ
address_in known = slice_index known.words 0

-- word i of a block's first entry, and what the block tells of a shader: so many samples as that entry says, and then address words
abbrev pub whole_word : List Known → ℕ → ℕ
whole_word block i = slice_index (slice_index_or block 0 (record { words = [] })).words i

unfoldable pub read_of : List Known → ShaderModel
read_of block = record {
  uniforms = whole_word block 0;
  samples = map sample_in (take (whole_word block 1) (drop 1 block));
  address_words = map address_in (drop (1 + whole_word block 1) block);
  threaded = whole_word block 3 / 32 == 1;
}

-- and of the strict rules
abbrev pub rule_in : ℕ → StrictRule
rule_in number =
    if number == 1 then SetupAtSwitch
    else (if number == 2 then SetupAtEnd
    else (if number == 3 then Requests
    else (if number == 4 then Stretch
    else (if number == 5 then LastThree
    else (if number == 6 then Coupled else Mutex)))))

abbrev pub fault_in : (number at : ℕ) → Option StrictFault
fault_in number at = if number == 0 then None else Some (record { rule = rule_in number; at = at })

unfoldable pub findings_in_words : (word at : ℕ) → Findings
findings_in_words word at = record { fault = fault_in (word % 8) at; uses = record { vpm = word / 8 % 2 == 1; tile = word / 16 % 2 == 1 } }

abbrev pub findings_in_block : List Known → Findings
findings_in_block block = findings_in_words (whole_word block 3) (whole_word block 4)

-- A block that can be read: it has exactly as many entries as the first says, and what it tells has the shape that the check asks. Blocks
-- that weren't made of any shader may be like this too.
pub record IsReadable (block : List Known) : Type 0 where
  pub count : length block ≡ 1 + whole_word block 1 + whole_word block 2
  pub shaped : IsShaped (read_of block)

-- No rule of shaders is broken by these bytes, no more than a shader may have, and the block tells of the shader that they hold.
pub record IsBlockOf (code : List ℕ) (block : List Known) : Type 0 where
  pub few : length code ≤ most_code
  pub none_broken : first_of (code_questions code) ≡ None
  pub sound : IsSoundShader (report_of (words_of code))
  pub report : block ≡ block_of_code code

-- what is reported of a made block, and of a refused shader
abbrev pub made_answer : List Known → MadeAnswer
made_answer block = record { number = 0; index = 0; entries = length block }

abbrev pub unmade_answer : ShaderFault → MadeAnswer
unmade_answer fault = record { number = fault.number; index = fault.index; entries = 0 }

-- A rule is broken by these bytes, none before it in the order of refusal is, and it is reported.
abbrev pub IsUnmade : List ℕ → Option ShaderFault → MadeAnswer → Type 0
IsUnmade code None answer = ⊥
IsUnmade code (Some fault) answer = IsFirst (code_questions code) fault × (answer ≡ unmade_answer fault)
