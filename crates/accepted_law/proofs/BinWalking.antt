-- The emitted binner list walks, and each primitive of it may be drawn.
use Rattle.std.proofs.Common.{◌≡◌, ◌≤◌, ◌<◌, ℕ, ◌+◌, ◌-◌, ◌%◌, ◌==◌, Bool, true, false, List, slice_index, length, Some, if◌then◌else◌, refl, ◌∙◌, ap, subst, arith, [], rules}
use Rattle.std.proofs.lemmas.{Bool.eqb-true, Bool.Decides.nat_tests, Grind.common_steps}
use Rattle.field_words.specs.Words.{u32_at}
use Rattle.packets.specs.Opcode.{indexed_primitive_list, array_primitive_list}
use Rattle.buffer_table.specs.{Table.TableModel, Table.buffer_at, Handles.IsData, Handles.data_of}
use Rattle.emitted_facts.specs.Facts.{IsIndexedPrimitive, IsPrimitive}
use Rattle.bin_list.specs.{declared.state.State.State, Emitted.bin_text, Fine.IsLow, States.last_index, States.draws_to, States.states_of}
use Rattle.bin_list.specs.{Packets.opcode, Packets.packets, Rules.index_size, Rules.given_of}
use Rattle.bin_walks.specs.Draws.{IsStateAt, AreIndexesInside, IsDrawn}
use Rattle.bin_walks.specs.{Walks.nothing_kept, Walks.Walks, Law.IsWalked, Emission.emission, Emission.config_of}
use Rattle.bin_walks.proofs.{Walking.draws_indexed, Law.emitted_lists_walk_law}
use Rattle.shader_records.specs.{Named.IsDataIn, Sources.state_at, Sources.record_offset}
use Rattle.job_format.specs.Model.{FileModel}
use Rattle.job_check.specs.{Shaders.table_of, Jobs.job_of, Jobs.input_for, Jobs.layout_of, Jobs.states_in, Jobs.has_bin, Jobs.bin_list_of}
use Rattle.job_check.proofs.Layouts.{layout_numbers, layout_low, enough_slots}
use Rattle.machine_plan.specs.Regions.{Inside}
use Rattle.list_law.proofs.Start.{Follows, walks_so}
use Rattle.accepted_law.specs.Holdings.{across_of, down_of, config_for}
use Rattle.promises.specs.Holdings.{rights_at}
use Rattle.accepted_law.specs.{Ends.DrawShaders, Settled.Grounds, Parts.DrawsBegin, Parts.BinWalks, Parts.BinsWalk}
use Rattle.accepted_law.proofs.States.{StateFound, state_found, place_for, place_whole, place_of, state_of, record_kept, data_inside, attributes_of}
use Rattle.accepted_law.proofs.{Programs.records_launch_law, Holding.bin_is, Tables.buffer_low}

-- a data buffer that a handle names
data_named : (table : TableModel) (handles : List ℕ) (handle : ℕ) → IsData table handles handle → data_of table handles handle ≡ Some (slice_index handles handle)
unfolding data_of
data_named table handles handle is = grind (arith, common_steps, nat_tests)

data_in : (table : TableModel) (handles : List ℕ) (handle : ℕ) → IsData table handles handle
    → IsDataIn table handles (buffer_at table.buffers (slice_index handles handle)).place (buffer_at table.buffers (slice_index handles handle)).size
data_in table handles handle is = record { handle = handle; number = slice_index handles handle; named = data_named table handles handle is; place_is = refl; size_is = refl }

draws_array : (packet : List ℕ) → opcode packet ≡ array_primitive_list → draws_to packet ≡ last_index (u32_at packet 6) (u32_at packet 2)
unfolding draws_to
draws_array packet is = ap (λ o. if o == indexed_primitive_list then u32_at packet 10 else (if o == array_primitive_list then last_index (u32_at packet 6) (u32_at packet 2) else 0)) is

last_if : (b : Bool) (first count : ℕ) → (count == 0) ≡ b → 0 < count → (if b then 0 else first + count - 1) ≡ first + count - 1
last_if b first count none some = search (rules, arith, eqb-true)

last_below : (first count most : ℕ) → last_index first count ≤ most → 0 < count → first + count ≤ most + 1
last_below first count most upto some = let last = last_if (count == 0) first count refl some in omega (arith, last, upto, some)

indexed_inside : (table : TableModel) (handles : List ℕ) (IsNamed : ℕ → ℕ → Type 0) (packet : List ℕ) (most : ℕ) → ((place size : ℕ) → IsDataIn table handles place size → IsNamed place size)
    → AreIndexesInside table handles packet → u32_at packet 10 ≤ most → IsIndexedPrimitive IsNamed packet most
unfolding index_size
indexed_inside table handles IsNamed packet most named indexes greatest = search (rules, arith, data_in)

primitive_of : (f : FileModel) (j : ℕ) (m : List ℕ) (word : ℕ) (packet : List ℕ) → Grounds f j m → (drawn : IsDrawn (table_of f) (job_of f j).handles (layout_of f j) (states_in f j) word packet)
    → IsPrimitive (Inside (rights_at f j).region) packet drawn.state.max_index
primitive_of f j m word packet grounds drawn = search (rules, arith, indexed_inside, data_inside, draws_indexed, draws_array, last_below)

pub found_in : (f : FileModel) (j word : ℕ) (state : State) → IsStateAt (layout_of f j) 0 (states_in f j) word state → StateFound (input_for f j) (layout_of f j) word state
unfolding input_for
found_in f j word state is = state_found (input_for f j) (layout_of f j) word state is

listed : (f : FileModel) (j k : ℕ) → k < length (input_for f j).states → k < length (states_in f j)
unfolding input_for
listed f j k below = below

points_there : (f : FileModel) (j word : ℕ) (state : State) → (found : StateFound (input_for f j) (layout_of f j) word state) → word ≡ place_for f j found.number + (state_at (input_for f j) found.number).word % 16
unfolding place_for
points_there f j word state found = found.points

place_known : (f : FileModel) (j k : ℕ) → place_for f j k ≡ (layout_of f j).place + (layout_of f j).records + record_offset (input_for f j) k
unfolding place_for
place_known f j k = refl

pub draws_begin_law : DrawsBegin
draws_begin_law f j m word packet grounds has drawn kind =
    let found = found_in f j word drawn.state drawn.is_state in
    let k : ℕ = found.number in
    let points = points_there f j word drawn.state found in
    let whole = place_whole f j k grounds.settled.sound in
    let n : ℕ = (state_at (input_for f j) k).word in
    let place_is = place_of word (place_for f j k) n whole points in
    let state_is = state_of word (place_for f j k) n whole points in
    let kept = record_kept f j m k word grounds has found.below place_is state_is in
    let launches = records_launch_law f j m k word grounds has (listed f j k found.below) (place_is ∙ place_known f j k) in
    record {
      begins = record {
        state = n;
        most = (state_at (input_for f j) k).max_index;
        is_state = state_is;
        record_lies = kept.stands;
        record_fixed = kept.fixed;
        attributes = attributes_of f j m k word grounds has found.below place_is;
        fragment = launches.fragment;
        vertex = launches.vertex;
        coordinate = launches.coordinate;
        kind = kind;
        primitive = subst (λ state. IsPrimitive (Inside (rights_at f j).region) packet state.max_index) found.same (primitive_of f j m word packet grounds drawn);
      };
      fragment = launches.of_fragment;
      vertex = launches.of_vertex;
      coordinate = launches.of_coordinate;
      handles = launches.handles;
    }

-- The job's one configuration is that of the emitted list.
grid_is : (f : FileModel) (j : ℕ) → config_of (layout_of f j) (across_of f j) (down_of f j) ≡ config_for f j
unfolding layout_of config_for
grid_is f j = refl

nothing_is : (f : FileModel) (j : ℕ) → has_bin f j ≡ false → bin_list_of f j ≡ []
unfolding bin_list_of
nothing_is f j none = ap (λ b. if b then bin_text (job_of f j).bin (job_of f j).declared (table_of f) (job_of f j).handles (layout_of f j) else []) none

pub layout_is_low : (f : FileModel) (j : ℕ) (m : List ℕ) → Grounds f j m → IsLow (layout_of f j)
layout_is_low f j m grounds = search (rules, arith, layout_numbers, layout_low, enough_slots)

pub walked : (f : FileModel) (j : ℕ) (m : List ℕ) → Grounds f j m → has_bin f j ≡ true → IsWalked (job_of f j).bin (job_of f j).declared (table_of f) (job_of f j).handles (layout_of f j)
walked f j m grounds has =
    emitted_lists_walk_law (job_of f j).bin (job_of f j).declared (table_of f) (job_of f j).handles (layout_of f j) grounds.settled.limits.bin grounds.settled.limits.declared (layout_is_low f j m grounds)
    (λ number below. buffer_low f.mem_size f.regions f.buffers grounds.settled.sound number) (grounds.settled.bin has)

drawn_begins : (f : FileModel) (j : ℕ) (m : List ℕ) → Grounds f j m → has_bin f j ≡ true
    → Follows (IsDrawn (table_of f) (job_of f j).handles (layout_of f j) (states_of (packets (job_of f j).bin))) (DrawShaders f j m)
unfolding states_in
drawn_begins f j m grounds has word packet drawn kind = draws_begin_law f j m word packet grounds has drawn kind

some_walk : (f : FileModel) (j : ℕ) (m : List ℕ) → Grounds f j m → has_bin f j ≡ true → BinWalks f j m
some_walk f j m grounds has =
    let bin : List ℕ = (job_of f j).bin in
    let list : List (List ℕ) = emission (given_of bin (job_of f j).declared (table_of f) (job_of f j).handles) (layout_of f j) [] (packets bin) in
    let it = walked f j m grounds has in
    let R : ℕ → List ℕ → Type 0 = DrawShaders f j m in
    let walks = walks_so (config_of (layout_of f j) (across_of f j) (down_of f j)) (IsDrawn (table_of f) (job_of f j).handles (layout_of f j) (states_of (packets bin))) R (drawn_begins f j m grounds has) nothing_kept list it.walks in
    record {
      packets = list;
      text = bin_is f j has ∙ it.text;
      walks = subst (λ config. Walks config R nothing_kept list) (grid_is f j) walks;
    }

none_walks : (f : FileModel) (j : ℕ) (m : List ℕ) → has_bin f j ≡ false → BinWalks f j m
none_walks f j m none = record { packets = []; text = nothing_is f j none; walks = tt }

walks_by : (f : FileModel) (j : ℕ) (m : List ℕ) → Grounds f j m → (b : Bool) → has_bin f j ≡ b → BinWalks f j m
walks_by f j m grounds b has = search (rules, arith, some_walk, none_walks)

pub bins_walk_law : BinsWalk
bins_walk_law f j m grounds = walks_by f j m grounds (has_bin f j) refl
