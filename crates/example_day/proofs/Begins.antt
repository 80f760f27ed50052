-- The job begins, in the one memory and in the other.
use Rattle.std.proofs.Common.{◌≡◌, ◌<◌, ◌≤◌, ℕ, zero, suc, ◌+◌, ◌*◌, Bool, true, false, List, [], ◌∷◌, refl, sym, ◌∙◌, arith, inl, inr, lit<}
use Rattle.std.proofs.lemmas.Bool.{false≢true, and_parts, le-ltb, Decides.nat_tests}
use Rattle.std.specs.Prelude.{nat_lt, ◌&&◌, slice_index}
use Rattle.std.specs.Int.{from_le_bytes, w64}
use Rattle.field_words.specs.{Questions.each, Questions.with_answers, Words.u32_at}
use Rattle.shader_flow.specs.Flow.{is_threaded}
use Rattle.shader_flow.specs.Pending.{takes}
use Rattle.uniform_stream.specs.Stream.{uniforms_of}
use Rattle.shader_flow.specs.Flow.{word as word_at}
use Rattle.shader_check.specs.Info.{is_sample}
use Rattle.packets.specs.{Config.config_in, Length.bin_length, StateWord.attribute_count, StateWord.is_extended, StateWord.record_size, declared.config.Config.Config}
use Rattle.emitted_facts.specs.Facts.{IsAttributeIn}
use Rattle.list_law.specs.Emitted.{words_in}
use Rattle.emitted_facts.specs.Records.{attribute_size, attribute_stride, is_single}
use Rattle.machine_plan.specs.{Memory.bytes_at, Regions.Inside, Regions.rights_of, declared.launch.Launch.Launch}
use Rattle.list_machine.specs.{Blocks.tiles_of, Fetch.record_place}
use Rattle.bin_walks.specs.Walks.{kept_after}
use Rattle.qpu_law.specs.{Home.Home, Home.HasNoFault, Thread.IsHome, Thread.HasSamples}
use Rattle.machine_law.specs.Begins.{LaunchBegins, DrawBegins}
use Rattle.promises.specs.Rights.{IsFixed}
use Rattle.day_law.specs.Day.{BeginsAlone}
use Rattle.example_day.specs.Shown.{code_with, job, memory_with, moves_to_1, moves_to_2}
use Rattle.shader_check.proofs.Opened.{shaders}

abbrev all_small : List ℕ → Bool
all_small [] = true
all_small (x ∷ xs) = nat_lt x 256 && all_small xs

-- what is computed of each of the two programs
pub record Computed (word : ℕ) : Type 0 where
  pub sound : HasNoFault (code_with word)
  pub threaded : is_threaded (code_with word) ≡ false
  pub takes : uniforms_of (code_with word) ≡ 0
  pub no_sample : (n : ℕ) → is_sample (code_with word) n ≡ false
  pub first : from_le_bytes w64 (bytes_at (memory_with word) 96 8) ≡ word
  pub small : all_small (memory_with word) ≡ true

and_false : (a b : Bool) → a ≡ false → (a && b) ≡ false
and_false true b off = absurd (false≢true (sym off))
and_false false b off = refl

no_sample_1 : (n : ℕ) → is_sample (code_with moves_to_1) n ≡ false
unfolding each with_answers shaders
no_sample_1 zero = refl
no_sample_1 (suc zero) = refl
no_sample_1 (suc (suc zero)) = refl
no_sample_1 (suc (suc (suc zero))) = refl
no_sample_1 (suc (suc (suc (suc n)))) = and_false (nat_lt (suc (suc (suc (suc n)))) 4) _ (le-ltb (suc (suc (suc (suc n)))) 4 (omega arith))

no_sample_2 : (n : ℕ) → is_sample (code_with moves_to_2) n ≡ false
unfolding each with_answers shaders
no_sample_2 zero = refl
no_sample_2 (suc zero) = refl
no_sample_2 (suc (suc zero)) = refl
no_sample_2 (suc (suc (suc zero))) = refl
no_sample_2 (suc (suc (suc (suc n)))) = and_false (nat_lt (suc (suc (suc (suc n)))) 4) _ (le-ltb (suc (suc (suc (suc n)))) 4 (omega arith))

computed_1 : Computed moves_to_1
unfolding bytes_at each with_answers shaders
computed_1 = record { sound = refl; threaded = refl; takes = refl; no_sample = no_sample_1; first = refl; small = refl }

computed_2 : Computed moves_to_2
unfolding bytes_at each with_answers shaders
computed_2 = record { sound = refl; threaded = refl; takes = refl; no_sample = no_sample_2; first = refl; small = refl }

-- bytes of the fixed part
in_fixed : (p n : ℕ) → p + n ≤ 144 → Inside job.rights.region p n
in_fixed p n fits = inl (record { from = omega arith; upto = omega (arith, fits) })

fixed_out : (p j : ℕ) → p < 144 → Inside (rights_of (job.rights ∷ []) j).writable p 1 → ⊥
fixed_out p zero below (inl lies) = let from = lies.from in omega (arith, below, from)
fixed_out p zero below (inr never) = never
fixed_out p (suc j) below never = never

fixed : (place n : ℕ) → place + n ≤ 144 → IsFixed (job.rights ∷ []) place n
fixed place n fits i less j inside = fixed_out (place + i) j (omega (arith, fits, less)) inside

small_at : (xs : List ℕ) (p : ℕ) → all_small xs ≡ true → slice_index xs p < 256
small_at [] p all = lit< tt
small_at (x ∷ xs) zero all = let both = and_parts (nat_lt x 256) (all_small xs) all in grind (arith, nat_tests, both.0)
small_at (x ∷ xs) (suc p) all = let both = and_parts (nat_lt x 256) (all_small xs) all in small_at xs p both.1

-- the program
abbrev home : ℕ → Home
home word = record { code = code_with word; place = 96; words = []; stream = 0 }

code_is : (word i : ℕ) → Computed word → i < 4 → from_le_bytes w64 (bytes_at (memory_with word) (96 + 8 * i) 8) ≡ word_at (code_with word) i
unfolding bytes_at
code_is word zero c below = c.first
code_is word (suc zero) c below = refl
code_is word (suc (suc zero)) c below = refl
code_is word (suc (suc (suc zero))) c below = refl
code_is word (suc (suc (suc (suc i)))) c below = absurd (omega (arith, below))

home_lies : (word : ℕ) → Computed word → IsHome (memory_with word) job.rights.region (home word)
home_lies word c = let takes = c.takes in record {
  sound = c.sound;
  few = omega arith;
  low = omega arith;
  stream_low = omega (arith, takes);
  addresses = λ k is. refl;
  code_in = λ i below. in_fixed (96 + 8 * i) 8 (omega (arith, below));
  code_is = λ i below. code_is word i c below;
  stream_in = λ k below. absurd (omega (arith, below, takes));
  stream_is = λ k below. absurd (omega (arith, below, takes));
}

no_samples : (word : ℕ) → Computed word → HasSamples [] (home word)
no_samples word c = record {
  samples = λ n is. absurd (false≢true (sym (c.no_sample n) ∙ is));
  page = λ place size named. absurd named;
  low = λ place size named. absurd named;
  words = λ k. lit< tt;
}

launch_begins : (word : ℕ) (launch : Launch) → Computed word → launch.code ≡ 96 → launch.uniforms ≡ 0 → launch.threaded ≡ false → LaunchBegins (job.rights ∷ []) (λ number. []) (memory_with word) 0 launch
launch_begins word launch c code uniforms threaded = let takes = c.takes in record {
  home = home word;
  buffers = [];
  begins = record {
    stands = home_lies word c;
    code = fixed 96 32 (omega arith);
    stream = λ i less. absurd (omega (arith, less, takes));
    samples = no_samples word c;
    named = λ place size named. absurd named;
  };
  code = code;
  uniforms = uniforms;
  threaded = threaded ∙ sym c.threaded;
}

-- the primitive
attribute_in : (word t : ℕ) → t < attribute_count 49 → IsAttributeIn (Inside job.rights.region) 49 (words_in (memory_with word) 49) 0 t
unfolding u32_at attribute_count is_extended attribute_size attribute_stride record_place
attribute_in word zero below = record {
  place = 128;
  size = 4;
  named = in_fixed 128 4 (omega arith);
  from = omega arith;
  upto = λ index few. omega (arith, few);
}
attribute_in word (suc t) below = absurd (omega (arith, below))

draw_begins : (word : ℕ) → Computed word → DrawBegins (job.rights ∷ []) (λ number. []) (memory_with word) 0 49 (33 ∷ 0 ∷ 1 ∷ 0 ∷ 0 ∷ 0 ∷ 0 ∷ 0 ∷ 0 ∷ 0 ∷ [])
unfolding u32_at attribute_count is_extended record_size attribute_size attribute_stride is_single record_place
draw_begins word c = record {
  state = 49;
  most = 0;
  is_state = refl;
  record_lies = record { inside = in_fixed 48 44 (omega arith); bytes = λ i less. small_at (memory_with word) (48 + i) c.small };
  record_fixed = fixed 48 44 (omega arith);
  attributes = λ t below. attribute_in word t below;
  fragment = launch_begins word _ c refl refl refl;
  vertex = launch_begins word _ c refl refl refl;
  coordinate = launch_begins word _ c refl refl refl;
  kind = inr refl;
  primitive = record { indexed = λ e. absurd (omega (arith, e)); array = λ e. record { greatest = λ some. omega arith } };
}

-- its packets
abbrev config : Config
config = record { address = 192; size = 256; states = 144; tiles_x = 1; tiles_y = 1 }

pub begins : (word : ℕ) → Computed word → BeginsAlone (memory_with word) job
unfolding tiles_of bytes_at u32_at config_in bin_length kept_after
begins word c = record {
  config = config;
  frame = record { address = 0; width = 4; height = 1; bits = 4 };
  allocates = record {
    states = record { region = inr (inl (record { from = omega arith; upto = omega arith })); writable = inl (record { from = omega arith; upto = omega arith }) };
    all = record { region = inr (inl (record { from = omega arith; upto = omega arith })); writable = inl (record { from = omega arith; upto = omega arith }) };
    first = omega arith;
  };
  packets =
      (112 ∷ 192 ∷ 0 ∷ 0 ∷ 0 ∷ 0 ∷ 1 ∷ 0 ∷ 0 ∷ 144 ∷ 0 ∷ 0 ∷ 0 ∷ 1 ∷ 1 ∷ 0 ∷ []) ∷ (6 ∷ []) ∷ (64 ∷ 49 ∷ 0 ∷ 0 ∷ 0 ∷ [])
      ∷ (33 ∷ 0 ∷ 1 ∷ 0 ∷ 0 ∷ 0 ∷ 0 ∷ 0 ∷ 0 ∷ 0 ∷ []) ∷ [];
  bin_walks = (record { whole = refl; known = λ e. omega (arith, e); no_halt = λ e. omega (arith, e); no_handles = λ e. omega (arith, e); configures = λ e. refl; starts = λ e. absurd (omega (arith, e)); indexed = λ e. absurd (omega (arith, e)); array = λ e. absurd (omega (arith, e)); closes = λ e. absurd (omega (arith, e)) }, (record { whole = refl; known = λ e. omega (arith, e); no_halt = λ e. omega (arith, e); no_handles = λ e. omega (arith, e); configures = λ e. absurd (omega (arith, e)); starts = λ e. refl; indexed = λ e. absurd (omega (arith, e)); array = λ e. absurd (omega (arith, e)); closes = λ e. absurd (omega (arith, e)) }, (record { whole = refl; known = λ e. omega (arith, e); no_halt = λ e. omega (arith, e); no_handles = λ e. omega (arith, e); configures = λ e. absurd (omega (arith, e)); starts = λ e. absurd (omega (arith, e)); indexed = λ e. absurd (omega (arith, e)); array = λ e. absurd (omega (arith, e)); closes = λ e. absurd (omega (arith, e)) }, (record { whole = refl; known = λ e. omega (arith, e); no_halt = λ e. omega (arith, e); no_handles = λ e. omega (arith, e); configures = λ e. absurd (omega (arith, e)); starts = λ e. absurd (omega (arith, e)); indexed = λ e. absurd (omega (arith, e)); array = λ e. record { word = 49; kept_word = refl; started = refl; allowed = draw_begins word c }; closes = λ e. absurd (omega (arith, e)) }, tt))));
  bin_text = record { stands = refl; reads = in_fixed 0 32 (omega arith); fixed = fixed 0 32 (omega arith) };
  bin_len = refl;
  slots = [];
  render_walks = tt;
  render_fits = tt;
  render_sets = tt;
  render_text = record { stands = refl; reads = in_fixed 32 0 (omega arith); fixed = fixed 32 0 (omega arith) };
  render_len = refl;
}

pub begins_1 : BeginsAlone (memory_with moves_to_1) job
begins_1 = begins moves_to_1 computed_1

pub begins_2 : BeginsAlone (memory_with moves_to_2) job
begins_2 = begins moves_to_2 computed_2
