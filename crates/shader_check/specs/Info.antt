-- What an accepted shader takes and reads.
use Rattle.std.specs.Prelude.{◌≡◌, ℕ, zero, suc, Bool, ◌&&◌, ◌||◌, List, [], ◌∷◌, ◌++◌, map, Option, Some, None, slice_get, nat_lt, if◌then◌else◌, option_to_list}
use Rattle.qpu_isa.specs.{declared.inst.Reg.Reg, declared.inst.Sample.Sample, declared.inst.ShaderInfo.ShaderInfo}
use Rattle.qpu_isa.specs.{Terms.writes_s, Terms.first_register, Setups.is_direct, Setups.setups_kept}
use Rattle.shader_flow.specs.{Bounded.indexes, Flow.word, Flow.checked_of, Flow.is_threaded, Pending.count_of, Pending.pending_of}
use Rattle.shader_flow.specs.Site.{SiteModel}
use Rattle.uniform_stream.specs.Stream.{uniforms_of, address_words_of}
use Rattle.clamp_facts.specs.{Facts.fact_at, Readings.clamp_in}

-- the instructions whose setup words a TMU keeps before the instruction at i, upwards
unfoldable pub setups_held : List ℕ → ℕ → ℕ → List ℕ
setups_held code tmu zero = []
setups_held code tmu (suc i) = if nat_lt i (checked_of code) then setups_kept (word code i) tmu i (setups_held code tmu i) else setups_held code tmu i

-- the uniforms of these
abbrev pub held_words : List ℕ → ℕ → ℕ → List ℕ
held_words code tmu i = map (count_of code) (setups_held code tmu i)

-- how many setup words the TMUs keep before an instruction
pub record ArePending (site : SiteModel) (pending0 pending1 : ℕ) : Type 0 where
  pub first : pending0 ≡ pending_of site.code 0 site.at
  pub second : pending1 ≡ pending_of site.code 1 site.at

-- an instruction that writes S of a TMU asks for a sample
unfoldable pub asks : ℕ → Bool
asks word = writes_s word 0 || writes_s word 1

unfoldable pub is_sample : List ℕ → ℕ → Bool
is_sample code i = nat_lt i (checked_of code) && asks (word code i)

unfoldable pub sample_tmu : ℕ → ℕ
sample_tmu word = if writes_s word 0 then 0 else 1

-- the uniforms whose setup words that TMU keeps
abbrev pub asked_words : List ℕ → ℕ → List ℕ
asked_words code i = held_words code (sample_tmu (word code i)) i

-- it is direct where that TMU keeps no setup words
unfoldable pub is_direct_sample : List ℕ → ℕ → Bool
is_direct_sample code i = is_direct (word code i) (sample_tmu (word code i)) (pending_of code (sample_tmu (word code i)) i)

-- the clamp of the register that a direct write adds to its uniform
abbrev pub clamp_list : List ℕ → ℕ → Option Reg → List ℕ
clamp_list code i None = []
clamp_list code i (Some reg) = option_to_list (clamp_in (fact_at code i reg))

unfoldable pub clamp_parts : List ℕ → ℕ → List ℕ
clamp_parts code i = clamp_list code i (first_register (word code i))

-- The instructions that take a sample's uniforms. A direct sample takes one for its address, and its clamp one for its bound.
-- Any other takes one at each setup write, of which the write of S is the last.
unfoldable pub sample_parts : List ℕ → ℕ → List ℕ
sample_parts code i =
    if is_direct_sample code i then i ∷ clamp_parts code i else setups_held code (sample_tmu (word code i)) i ++ (i ∷ [])

-- the first four numbers of a list, and None after its end
abbrev pub first_four : List ℕ → List (Option ℕ)
first_four numbers = slice_get numbers 0 ∷ slice_get numbers 1 ∷ slice_get numbers 2 ∷ slice_get numbers 3 ∷ []

-- the sample that the instruction at i asks for, with the positions of its uniforms
unfoldable pub sample_of : List ℕ → ℕ → Sample
sample_of code i = record { p = first_four (map (count_of code) (sample_parts code i)); direct = is_direct_sample code i }

-- the samples of the instructions before one, and all in program order
abbrev pub samples_before : List ℕ → ℕ → List Sample
samples_before code i = map (sample_of code) (indexes i (is_sample code))

unfoldable pub samples_of : List ℕ → List Sample
samples_of code = samples_before code (checked_of code)

-- what the checker tells of an accepted shader
pub record IsInfo (code : List ℕ) (info : ShaderInfo) : Type 0 where
  pub uniforms_are : info.uniforms ≡ uniforms_of code
  pub samples_are : info.samples.items ≡ samples_of code
  pub address_words_are : info.address_words.items ≡ address_words_of code
  pub threaded_is : info.threaded ≡ is_threaded code
