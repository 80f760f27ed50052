-- What jobs begin with, said of the first memory alone: no job may write their lists, their code and their streams.
use Rattle.std.specs.Prelude.{◌≡◌, ◌<◌, ◌⊎◌, ℕ, ◌*◌, false, not, List, Option, length, slice_index}
use Rattle.field_words.specs.Pieces.{joined_texts as joined_bytes}
use Rattle.packets.specs.{declared.packet.Packet.Packet, Packet.slots_text, StateWord.attribute_count, StateWord.record_size}
use Rattle.packets.specs.declared.config.Config.{Config}
use Rattle.emitted_facts.specs.{Facts.IsAttributeIn, Facts.IsPrimitive, Records.is_single}
use Rattle.machine_plan.specs.Regions.{Interval, Inside, Rights, rights_of, regions_joined, HasReadOnly}
use Rattle.machine_plan.specs.{declared.launch.Launch.Launch, Memory.bytes_at}
use Rattle.shader_flow.specs.Flow.{is_threaded}
use Rattle.uniform_stream.specs.Stream.{uniforms_of}
use Rattle.list_machine.specs.{declared.state.Frame.Frame, Fetch.record_place}
use Rattle.bin_walks.specs.Walks.{nothing_kept, Walks}
use Rattle.render_walks.specs.Walks.{at_start, WalksTo, AllFit}
use Rattle.list_law.specs.{Binning.DrawsSo, Binning.Allocates, Rendering.MayDo, Rendering.NoMatter, Rendering.AllSet}
use Rattle.list_law.specs.Emitted.{words_in, RecordLies, IsStateOf, program_in}
use Rattle.qpu_law.specs.{Home.Home, Thread.IsHome, Thread.HasSamples}
use Rattle.promises.specs.Rights.{IsFixed, IsOneOf}
use Rattle.machine.specs.declared.job.Start.{Start}
use Rattle.machine_law.specs.Jobs.{LaunchFine, HomeFine}

-- These bytes stand at a place in the first memory, in the region of job j, and no job may write them.
pub record TextBegins (rights : List Rights) (first : List ℕ) (j place : ℕ) (text : List ℕ) : Type 0 where
  pub stands : bytes_at first place (length text) ≡ text
  pub reads : Inside (rights_of rights j).region place (length text)
  pub fixed : IsFixed rights place (length text)

-- A shader and its stream are a home in the first memory, which no job may write. Each sample of the shader reads in one of these
-- buffers, which are data buffers of job j.
pub record HomeBegins (rights : List Rights) (plains : ℕ → List Interval) (first : List ℕ) (j : ℕ) (home : Home) (buffers : List Interval) : Type 0 where
  pub stands : IsHome first (rights_of rights j).region home
  pub code : IsFixed rights home.place (8 * length home.code)
  pub stream : IsFixed rights home.stream (4 * uniforms_of home.code)
  pub samples : HasSamples buffers home
  pub named : (place size : ℕ) → IsOneOf buffers place size → IsOneOf (plains j) place size

-- Job j may start the program from the first memory on: it is a home's there.
pub record LaunchBegins (rights : List Rights) (plains : ℕ → List Interval) (first : List ℕ) (j : ℕ) (launch : Launch) : Type 0 where
  pub home : Home
  pub buffers : List Interval
  pub begins : HomeBegins rights plains first j home buffers
  pub code : launch.code ≡ home.place
  pub uniforms : launch.uniforms ≡ home.stream
  pub threaded : launch.threaded ≡ is_threaded home.code

-- The packet draws a primitive that was emitted for job j, under the record of a state word that was emitted for it, which stands
-- in the first memory and which no job may write. Its data and its indexes lie in the job's region, and the three programs may be
-- started.
pub record DrawBegins (rights : List Rights) (plains : ℕ → List Interval) (first : List ℕ) (j word : ℕ) (packet : List ℕ) : Type 0 where
  pub state : ℕ
  pub most : ℕ
  pub is_state : IsStateOf state word
  pub record_lies : RecordLies (rights_of rights j).region first word
  pub record_fixed : IsFixed rights (record_place word) (record_size word)
  pub attributes : (t : ℕ) → t < attribute_count state → IsAttributeIn (Inside (rights_of rights j).region) state (words_in first word) most t
  pub fragment : LaunchBegins rights plains first j (program_in first word (not (is_single (words_in first word))) 0)
  pub vertex : LaunchBegins rights plains first j (program_in first word false 1)
  pub coordinate : LaunchBegins rights plains first j (program_in first word false 2)
  pub kind : (slice_index packet 0 ≡ 32) ⊎ (slice_index packet 0 ≡ 33)
  pub primitive : IsPrimitive (Inside (rights_of rights j).region) packet most

-- Job j begins with a binner list and a renderer list that walk under one configuration and one frame, and may write the memory of
-- its tile lists.
pub record JobBegins (rights : List Rights) (plains : ℕ → List Interval) (first : List ℕ) (j : ℕ) (start : Start) : Type 0 where
  pub config : Config
  pub frame : Frame
  pub allocates : Allocates (rights_of rights j) config
  pub packets : List (List ℕ)
  pub bin_walks : Walks config (DrawBegins rights plains first j) nothing_kept packets
  pub bin_text : TextBegins rights first j start.bin_place (joined_bytes packets)
  pub bin_len : start.bin_len ≡ length (joined_bytes packets)
  pub slots : List (Option Packet)
  pub render_walks : WalksTo (MayDo (rights_of rights j) config frame) NoMatter at_start slots
  pub render_fits : AllFit slots
  pub render_sets : AllSet frame slots
  pub render_text : TextBegins rights first j start.render_place (slots_text slots)
  pub render_len : start.render_len ≡ length (slots_text slots)

-- What some job may reach and none may write stays, and so a home stays one.
abbrev pub FixedStays : Type 0
FixedStays =
    (rights : List Rights) (first m : List ℕ) (place size : ℕ) → IsFixed rights place size → Inside (regions_joined rights) place size
    → HasReadOnly rights first m → bytes_at m place size ≡ bytes_at first place size

abbrev pub HomesStay : Type 0
HomesStay =
    (rights : List Rights) (plains : ℕ → List Interval) (first : List ℕ) (j : ℕ) (home : Home) (buffers : List Interval) → HomeBegins rights plains first j home buffers → HomeFine rights plains first j home buffers

-- So a primitive may be drawn in each memory that has what jobs may only read as the first.
abbrev pub DrawsStay : Type 0
DrawsStay =
    (rights : List Rights) (plains : ℕ → List Interval) (first : List ℕ) (j word : ℕ) (packet : List ℕ) → DrawBegins rights plains first j word packet
    → DrawsSo (rights_of rights j) (HasReadOnly rights first) (LaunchFine rights plains first j) word packet
