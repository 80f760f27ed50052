-- A thread of a job: what is known before each of its instructions, and the law that a step keeps it.
use Rattle.std.specs.Prelude.{◌≡◌, ◌≢◌, ◌≤◌, ◌<◌, ℕ, ◌+◌, ◌*◌, ◌%◌, ◌^◌, true, List, Option, Some, length, slice_index}
use Rattle.std.specs.Int.{from_le_bytes, w64}
use Rattle.field_words.specs.{Sizes.most_words, Words.u32_at}
use Rattle.shader_flow.specs.Flow.{word}
use Rattle.uniform_stream.specs.Stream.{uniforms_of}
use Rattle.machine_plan.specs.{declared.who.Who.Who, Memory.bytes_at, Plan.Keeps}
use Rattle.machine_plan.specs.Regions.{Interval, Inside, Rights, IsSafeIn}
use Rattle.qpu_machine.specs.{declared.state.Fate.TheVariants.Ends, declared.state.Fate.TheVariants.Switches, declared.state.Asked.Asked}
use Rattle.qpu_machine.specs.{Qpu.with_result, declared.state.Thread.Thread, Step.ThreadTurn, Step.thread_plan}
use Rattle.emitted_facts.specs.Facts.{IsSampleIn}
use Rattle.shader_check.specs.Info.{is_sample, sample_of}
use Rattle.qpu_law.specs.Home.{Home, HasNoFault, IsLow, IsAt}
use Rattle.qpu_law.specs.{Asks.IsFineAsk, Facts.HasRows, Facts.FactsHold}
use Rattle.promises.specs.Rights.{IsOneOf}
use Rattle.qpu_law.specs.Stream.{AreSetups, HoldsAddresses, IsStreamLow, PointerIs}

-- A shader in which no rule is broken, of at most 8,192 words, and a stream whose address words are its own place, stand in this
-- memory and in this region.
pub record IsHome (m : List ℕ) (region : List Interval) (h : Home) : Type 0 where
  pub sound : HasNoFault h.code
  pub few : length h.code ≤ most_words
  pub low : IsLow h
  pub stream_low : IsStreamLow h
  pub addresses : HoldsAddresses h
  pub code_in : (i : ℕ) → i < length h.code → Inside region (h.place + 8 * i) 8
  pub code_is : (i : ℕ) → i < length h.code → from_le_bytes w64 (bytes_at m (h.place + 8 * i) 8) ≡ word h.code i
  pub stream_in : (k : ℕ) → k < uniforms_of h.code → Inside region (h.stream + 4 * k) 4
  pub stream_is : (k : ℕ) → k < uniforms_of h.code → u32_at (bytes_at m (h.stream + 4 * k) 4) 0 ≡ slice_index h.words k

-- what is known of the thread before the instruction at n
pub record IsThread (h : Home) (n : ℕ) (t : Thread) : Type 0 where
  pub at : IsAt h n t
  pub rows : HasRows t
  pub facts : FactsHold h n t
  pub setups : AreSetups h n t
  pub pointer : PointerIs h n t

-- the thread is before some instruction
pub record Stands (h : Home) (t : Thread) : Type 0 where
  pub index : ℕ
  pub is : IsThread h index t

-- Each sample of the shader reads in one of these buffers, which begin at pages and end below 4 GiB; the stream's words are words.
pub record HasSamples (buffers : List Interval) (h : Home) : Type 0 where
  pub samples : (n : ℕ) → is_sample h.code n ≡ true → IsSampleIn (IsOneOf buffers) (λ k. slice_index h.words k) (sample_of h.code n)
  pub page : (place size : ℕ) → IsOneOf buffers place size → place % 4096 ≡ 0
  pub low : (place size : ℕ) → IsOneOf buffers place size → place + size ≤ 2 ^ 32
  pub words : (k : ℕ) → slice_index h.words k < 2 ^ 32

-- After a step that leaves memory as it was, the thread has ended or stands again; what it asked for is fine; it is the same job's,
-- and fresh where it switches.
pub record Left (h : Home) (buffers : List Interval) (t : Thread) (m k : List ℕ) (turn : ThreadTurn) : Type 0 where
  pub memory : k ≡ m
  pub stands : turn.leaves.fate ≢ Ends → Stands h turn.thread
  pub asks : (asked : Asked) → turn.leaves.asked ≡ Some asked → IsFineAsk (IsOneOf buffers) asked.ask
  pub job : turn.thread.job ≡ t.job
  pub threaded : turn.thread.threaded ≡ t.threaded
  pub rests : turn.leaves.fate ≡ Switches → turn.thread.fresh ≡ true

-- The law: a step of such a thread is never undefined, reads its instruction and its uniform in the job's region, changes no byte, and
-- leaves such a thread, or none, and a fine request, or none.
abbrev pub ThreadsKeep : Type 0
ThreadsKeep =
    (h : Home) (buffers : List Interval) (m : List ℕ) (rights : Rights) (n : ℕ) (t : Thread) (who : Who) (words : List ℕ)
    → IsHome m rights.region h → HasSamples buffers h → IsThread h n t
    → Keeps who (Inside rights.region) (IsSafeIn rights) (λ k turn. Left h buffers t m k turn) (thread_plan t words) m

-- The law that a finished result changes nothing of it.
abbrev pub ResultsKeep : Type 0
ResultsKeep = (h : Home) (n tmu : ℕ) (row : Option (List ℕ)) (t : Thread) → IsThread h n t → IsThread h n (with_result tmu row t)
