-- What a thread asks for: each request is fine.
use Rattle.std.specs.Prelude.{◌≡◌, ℕ, List, Some, true}
use Rattle.machine_plan.specs.{declared.launch.Launch.Launch, Regions.Interval}
use Rattle.shader_flow.specs.{Flow.word, Flow.is_threaded, Pending.takes}
use Rattle.qpu_machine.specs.{declared.state.Asked.Asked, declared.state.Thread.Thread, Start.thread_of}
use Rattle.qpu_law.specs.{Asks.IsFineAsk, Home.Home, Home.turn_done, Stream.uniform_at}
use Rattle.promises.specs.Rights.{IsOneOf}
use Rattle.qpu_law.specs.Thread.{IsHome, IsThread, HasSamples}

-- The law that what such a thread asks for is fine, where the instruction took the stream's uniform.
abbrev pub AsksAreFine : Type 0
AsksAreFine =
    (h : Home) (buffers region : List Interval) (m : List ℕ) (n u p : ℕ) (words : List ℕ) (t : Thread) → IsHome m region h → HasSamples buffers h → IsThread h n t
    → (takes h.code n ≡ true → u ≡ uniform_at h n)
    → (asked : Asked) → (turn_done (word h.code n) u p words t).leaves.asked ≡ Some asked → IsFineAsk (IsOneOf buffers) asked.ask

-- The law that a program begins as such a thread.
abbrev pub StartsStand : Type 0
StartsStand =
    (h : Home) (job : ℕ) (launch : Launch) → launch.code ≡ h.place → launch.uniforms ≡ h.stream → launch.threaded ≡ is_threaded h.code
    → IsThread h 0 (thread_of job launch)
