-- One step of the binner leaves less.
use Rattle.std.proofs.Common.{◌≡◌, ◌≤◌, ◌<◌, ℕ, ◌+◌, ◌-◌, ◌*◌, ◌/◌, ◌%◌, ◌==◌, ◌||◌, Bool, true, false, List, [], ◌∷◌, ◌++◌, length, Option, Some, None, if◌then◌else◌, refl, sym, ◌∙◌, ap, subst, arith}
use Rattle.std.proofs.{lemmas.Grind.common_steps, lemmas.Bool.and_parts, lemmas.Bool.Decides.nat_tests, lemmas.List.length-append}
use Rattle.std.proofs.Math.Nat.{mul-le-mul_left}
use Rattle.std.specs.Prelude.{nat_lt, max}
use Rattle.packets.specs.Opcode.{tile_binning_mode}
use Rattle.packets.specs.{declared.config.Config.Config, declared.packet.Packet.Packet, Config.config_in}
use Rattle.bin_list.specs.Packets.{opcode, draws}
use Rattle.machine_plan.specs.{declared.who.Who.Who, declared.launch.Free.Free, declared.launch.Launch.Launch, Glance.glance_result, World.plan_mapped}
use Rattle.machine_plan.specs.{Memory.bytes_stored, Plan.Done, Plan.Writes}
use Rattle.list_machine.specs.Lists.{Lists, Turned, quiet, past, with_work, with_item, with_block, most_items}
use Rattle.list_machine.specs.Blocks.{tiles_of, has_room, spot_of, item_of, zeros, is_full, block_place, next_place, link_place, put_here, put_plan}
use Rattle.list_machine.specs.Binner.{config_set, with_word, after_start, work_of, after_halt, read_plan, is_due, one_done, fetched_with, not_due, started_with, chosen_tile, tile_plan, item_plan, work_plan, binner_by, binner_plan, item_may, work_may, binner_may, binner_ready}
use Rattle.list_machine.specs.{declared.state.Item.Item, declared.state.Program.TheVariants.Coordinate, declared.state.Spot.Spot}
use Rattle.list_machine.specs.{declared.state.SubList.SubList, declared.state.Work.Work, Fetch.fetch_plan}
use Rattle.list_machine.specs.Start.{start_plan, can_start}
use Rattle.list_law.specs.Binning.{IsOnly}
use Rattle.list_law.proofs.Binning.{ready_item, tile_below}
use Rattle.list_law.proofs.{Bytes.none_left, Logs.same, Safe.keeps_if}
use Rattle.ends_law.specs.Steps.{work_left}
use Rattle.promises.specs.Steps.{one_if, programs_left, work_steps, packet_steps, all_entered, items_within, room_in, room_of}
use Rattle.ends_law.specs.Left.{ListsLeft, StandLeft, JobLeft}
use Rattle.ends_law.specs.Room.{room_by, Counted}
use Rattle.ends_law.proofs.{Plans.AnyLook, Plans.AnyAccess, Plans.Comes, Plans.comes_any, Plans.comes_into, Visits.visits_more}
use Rattle.ends_law.proofs.Rests.{bin_behind, bin_done, packet_read, packet_comes}
use Rattle.ends_law.proofs.Rooms.{counted_here, counted_further, only_is, few_within}

-- what a program that is started takes
abbrev pub launch_steps : ℕ → Option Launch → ℕ
launch_steps w None = 0
launch_steps w (Some launch) = w

pub launch_at_most : (w : ℕ) (launch : Option Launch) → launch_steps w launch ≤ w
launch_at_most w None = omega arith
launch_at_most w (Some launch) = omega arith

-- What a step of a list unit came to, with the program that it starts, takes less by one, but for a stay.
pub record ListsLess (K : List ℕ → Type 0) (c : Config) (w d n stay : ℕ) (turned : Turned) : Type 0 where
  pub rest : ℕ
  pub left : JobLeft K c w d rest turned.lists
  pub less : rest + launch_steps w turned.launch + 1 ≤ n + (1 + w) * stay

pub quiet_less : (K : List ℕ → Type 0) (c : Config) (w d n stay : ℕ) (s : Lists) → 1 ≤ n → JobLeft K c w d (n - 1) s → ListsLess K c w d n stay (quiet s)
quiet_less K c w d n stay s some left = record { rest = n - 1; left = left; less = omega (arith, some) }

-- Where the binner stands with all but its first packet, and with this work; and where it has gone to the list's end.
behind_packet : (K : List ℕ → Type 0) (c : Config) (w d n place end : ℕ) (work next : Option Work) (there upto : ℕ) (inside : Option SubList) (config after_config : Option Config) (blocks : ℕ) (items : List Item) (packet : List ℕ) (packets : List (List ℕ)) (slots : List (Option Packet))
    → ListsLeft K c w d n place end work there upto inside config blocks items (packet ∷ packets) slots → room_by after_config ≤ max (room_by config) (room_in packet) → work_left w next + 1 ≤ packet_steps w packet + work_left w work
    → ListsLeft K c w d (n - 1) (place + length packet) end next there upto inside after_config blocks items packets slots
behind_packet K c w d n place end work next there upto inside config after_config blocks items packet packets slots left room less =
    let sum = left.sum in
    let kept = left.room.kept in
    let rest : max (room_in packet) (room_of packets) ≤ left.most = left.room.rest in
    record {
      bin = bin_behind K place end packet packets left.bin;
      render = left.render;
      most = left.most;
      room = record { few = left.room.few; counted = left.room.counted; kept = omega (arith, room, rest, kept); rest = omega (arith, rest) };
      often = left.often;
      sum = omega (arith, sum, less);
    }

at_end : (K : List ℕ → Type 0) (c : Config) (w d n place end : ℕ) (work : Option Work) (there upto : ℕ) (inside : Option SubList) (config : Option Config) (blocks : ℕ) (items : List Item) (packet : List ℕ) (packets : List (List ℕ)) (slots : List (Option Packet))
    → ListsLeft K c w d n place end work there upto inside config blocks items (packet ∷ packets) slots → 1 ≤ packet_steps w packet → ListsLeft K c w d (n - 1) end end work there upto inside config blocks items [] slots
at_end K c w d n place end work there upto inside config blocks items packet packets slots left some =
    let sum = left.sum in
    record {
      bin = bin_done K end;
      render = left.render;
      most = left.most;
      room = record { few = left.room.few; counted = left.room.counted; kept = left.room.kept; rest = omega arith };
      often = left.often;
      sum = omega (arith, sum, some);
    }

-- A packet takes a step, and one that draws those of its primitive.
step_some : (w : ℕ) (packet : List ℕ) → 1 ≤ packet_steps w packet
unfolding packet_steps
step_some w packet = omega arith

draw_steps : (w word : ℕ) (packet : List ℕ) → draws packet ≡ true → work_steps w (work_of word packet) + 1 ≤ packet_steps w packet
unfolding packet_steps work_steps work_of programs_left
draw_steps w word packet on =
    let is : (if draws packet then work_steps w (work_of 0 packet) else 0) ≡ work_steps w (work_of word packet) = ap (λ b. if b then work_steps w (work_of 0 packet) else 0) on in
    omega (arith, is)

pub room_set : (packet : List ℕ) → (opcode packet == tile_binning_mode) ≡ true → room_by (Some (config_in packet)) ≡ room_in packet
unfolding room_in
room_set packet on = sym (ap (λ b. if b then items_within (config_in packet) else 0) on)

-- The binner reads its next packet.
read_goes : (who : Who) (K : List ℕ → Type 0) (c : Config) (w d n : ℕ) (s : Lists) (m : List ℕ) (packets : List (List ℕ)) (slots : List (Option Packet)) → K m → StandLeft K c w d n s s.renderer.inside packets slots → s.binner.place < s.binner.end
    → Comes who (ListsLess K c w d n 0) (plan_mapped quiet (read_plan s)) m
unfolding after_halt config_set after_start with_word draws
read_goes who K c w d n s m [] slots here left below = absurd (none_left s.binner.place s.binner.end left.bin.ends below)
read_goes who K c w d n s m (packet ∷ packets) slots here left below =
    let place : ℕ = s.binner.place in
    let end : ℕ = s.binner.end in
    let work : Option Work = s.binner.work in
    let there : ℕ = s.renderer.place in
    let upto : ℕ = s.renderer.end in
    let inside : Option SubList = s.renderer.inside in
    let kept : Option Config = s.binner.kept.config in
    let after : Lists = past s (length packet) in
    let one : 1 ≤ packet_steps w packet = step_some w packet in
    let some : 1 ≤ n = (let sum = left.sum in omega (arith, sum, one)) in
    let P = JobLeft K c w d (n - 1) in
    let goes : (next : Option Work) (config : Option Config) → room_by config ≤ max (room_by kept) (room_in packet) → work_left w next + 1 ≤ packet_steps w packet + work_left w work
    → ListsLeft K c w d (n - 1) (place + length packet) end next there upto inside config s.blocks s.items packets slots =
    λ next config room less. behind_packet K c w d n place end work next there upto inside kept config s.blocks s.items packet packets slots left room less in
    let plain : P after = (packets, slots, goes work kept (omega arith) (omega (arith, one))) in
    comes_into who quiet P (ListsLess K c w d n 0) (λ next less. quiet_less K c w d n 0 next some less) (read_plan s) m
    (packet_read who K P s m packet packets here left.bin
    (packet_comes who P after packet m (λ on. ([], slots, at_end K c w d n place end work there upto inside kept s.blocks s.items packet packets slots left one))
    (λ on. let room = room_set packet on in (packets, slots, goes work (Some (config_in packet)) (omega (arith, room)) (omega (arith, one))))
    (λ on. plain) (λ on. plain)
    (λ on word. let steps = draw_steps w word packet on in (packets, slots, goes (Some (work_of word packet)) kept (omega arith) (omega (arith, steps))))
    (λ on. plain) (λ no_raise on. plain) (λ no_raise no_flush. plain)))

-- Other work, or other items.
work_set : (K : List ℕ → Type 0) (c : Config) (w d n rest place end : ℕ) (work next : Option Work) (there upto : ℕ) (inside : Option SubList) (config : Option Config) (blocks : ℕ) (items : List Item) (packets : List (List ℕ)) (slots : List (Option Packet))
    → ListsLeft K c w d n place end work there upto inside config blocks items packets slots → work_left w next + n ≤ work_left w work + rest → ListsLeft K c w d rest place end next there upto inside config blocks items packets slots
work_set K c w d n rest place end work next there upto inside config blocks items packets slots left less =
    let sum = left.sum in
    record { bin = left.bin; render = left.render; most = left.most; room = left.room; often = left.often; sum = omega (arith, sum, less) }

one_fewer : (most count d : ℕ) → count < most → (most - (count + 1)) * (1 + d) + (1 + d) ≡ (most - count) * (1 + d)
one_fewer most count d below =
    let e : most - count ≡ most - (count + 1) + 1 = omega (arith, below) in
    let f : (most - (count + 1) + 1) * (1 + d) ≡ (most - (count + 1)) * (1 + d) + (1 + d) = grind (arith, common_steps) in
    sym f ∙ ap (λ x. x * (1 + d)) (sym e)

item_put : (K : List ℕ → Type 0) (c : Config) (w d n place end : ℕ) (work : Option Work) (there upto : ℕ) (inside : Option SubList) (config : Option Config) (blocks after : ℕ) (items : List Item) (item : Item) (packets : List (List ℕ)) (slots : List (Option Packet))
    → (left : ListsLeft K c w d n place end work there upto inside config blocks items packets slots) → length items < left.most → Counted c after (items ++ item ∷ [])
    → ListsLeft K c w d (n - 1) place end work there upto inside config after (items ++ item ∷ []) packets slots
item_put K c w d n place end work there upto inside config blocks after items item packets slots left few counted =
    let sum = left.sum in
    let long : length (items ++ item ∷ []) ≡ length items + 1 = length-append items (item ∷ []) in
    let fewer = one_fewer left.most (length items) d few in
    let same : (left.most - length (items ++ item ∷ [])) * (1 + d) ≡ (left.most - (length items + 1)) * (1 + d) = ap (λ x. (left.most - x) * (1 + d)) long in
    let more = visits_more c (all_entered slots) inside 0 d items item (left.often item.tile) in
    record {
      bin = left.bin;
      render = left.render;
      most = left.most;
      room = record { few = omega (arith, long, few); counted = counted; kept = left.room.kept; rest = left.room.rest };
      often = left.often;
      sum = omega (arith, sum, same, fewer, more);
    }

-- A primitive in work.
due_steps : (w : ℕ) (k : Work) → k.due ≡ true → work_steps w (not_due k) + (1 + w) ≡ work_steps w k
unfolding work_steps programs_left not_due
due_steps w k due =
    let later : ℕ = if nat_lt k.done k.primitive.length then (k.primitive.length + 15) / 16 - k.done / 16 else 0 in
    let e : one_if k.due + later ≡ 1 + later = ap (λ b. one_if b + later) due in
    let f : (1 + w) * (one_if k.due + later) ≡ (1 + w) * (1 + later) = ap (λ x. (1 + w) * x) e in
    let g : (1 + w) * (1 + later) ≡ (1 + w) * (0 + later) + (1 + w) = grind (arith, common_steps) in
    omega (arith, f, g)

fetch_few : (length done : ℕ) (sixteen last more : Bool) → done < length → ((done + 1) % 16 == 0) ≡ sixteen → ((done + 1) == length) ≡ last → nat_lt (done + 1) length ≡ more
    → one_if (sixteen || last) + (if more then (length + 15) / 16 - (done + 1) / 16 else 0) ≤ (length + 15) / 16 - done / 16
fetch_few length done true last true below sixteen is on =
    let whole : (done + 1) % 16 ≡ 0 = same ((done + 1) % 16) 0 sixteen in
    let more : done + 1 < length = grind (arith, common_steps, nat_tests, on) in
    omega (arith, whole, more)
fetch_few length done true last false below sixteen is off = let whole : (done + 1) % 16 ≡ 0 = same ((done + 1) % 16) 0 sixteen in omega (arith, whole, below)
fetch_few length done false true true below sixteen is on =
    let all : done + 1 ≡ length = same (done + 1) length is in
    let more : done + 1 < length = grind (arith, common_steps, nat_tests, on) in
    absurd (omega (arith, all, more))
fetch_few length done false true false below sixteen is off = let all : done + 1 ≡ length = same (done + 1) length is in omega (arith, all)
fetch_few length done false false true below sixteen is on = omega (arith, below)
fetch_few length done false false false below sixteen is off = omega arith

left_by : (due more : Bool) (later : ℕ) → due ≡ false → more ≡ true → one_if due + (if more then later else 0) ≡ later
left_by true more later off on = absurd cc
left_by false true later off on = omega arith
left_by false false later off on = absurd cc

fetch_steps : (w : ℕ) (k : Work) → k.due ≡ false → nat_lt k.done k.primitive.length ≡ true → work_steps w (one_done k) + 1 ≤ work_steps w k
unfolding work_steps programs_left one_done is_due
fetch_steps w k off on =
    let below : k.done < k.primitive.length = grind (arith, common_steps, nat_tests, on) in
    let before = left_by k.due (nat_lt k.done k.primitive.length) ((k.primitive.length + 15) / 16 - k.done / 16) off on in
    let after = fetch_few k.primitive.length k.done ((k.done + 1) % 16 == 0) ((k.done + 1) == k.primitive.length) (nat_lt (k.done + 1) k.primitive.length) below refl refl refl in
    let fewer = mul-le-mul_left (1 + w) after in
    let same_left : (1 + w) * (one_if k.due + (if nat_lt k.done k.primitive.length then (k.primitive.length + 15) / 16 - k.done / 16 else 0)) ≡ (1 + w) * ((k.primitive.length + 15) / 16 - k.done / 16) = ap (λ x. (1 + w) * x) before in
    omega (arith, fewer, same_left, below)

some_steps : (w : ℕ) (k : Work) → 1 ≤ work_steps w k
unfolding work_steps
some_steps w k = omega arith

-- An item is put on a tile.
here_goes : (who : Who) (P : Lists → Type 0) (s : Lists) (k : Work) (tile place : ℕ) (m : List ℕ) → ((item : Item) → item.tile ≡ tile → P (with_item s item)) → Comes who P (put_here s k tile place) m
unfolding put_here
here_goes who P s k tile place m all = (tt, all (item_of k tile place) refl)

pub put_goes : (who : Who) (P : Lists → Type 0) (s : Lists) (c : Config) (k : Work) (tile : ℕ) (spot : Spot) (m : List ℕ) → (is_full spot ≡ false → (item : Item) → item.tile ≡ tile → P (with_item s item))
    → ((item : Item) → item.tile ≡ tile → P (with_item (with_block s) item)) → Comes who P (put_plan s c k tile spot) m
unfolding put_plan
put_goes who P s c k tile spot m all more =
    keeps_if who AnyLook AnyAccess (λ i next. P next) m (is_full spot) (Writes (link_place spot) (zeros 16) (put_here (with_block s) k tile (block_place c s.blocks))) (put_here s k tile (next_place c tile spot))
    (λ on. (tt, here_goes who P (with_block s) k tile (block_place c s.blocks) (bytes_stored m (link_place spot) (zeros 16)) more))
    (λ off. here_goes who P s k tile (next_place c tile spot) m (all off))

may_parts : (s : Lists) (c : Config) → item_may s (Some c) ≡ true → (has_room c s.blocks ≡ true) × (length s.items < most_items)
may_parts s c may =
    let both = and_parts (has_room c s.blocks) (nat_lt (length s.items) most_items) may in
    let few : nat_lt (length s.items) most_items ≡ true = both.1 in
    (both.0, grind (arith, common_steps, nat_tests, few))

few_items : (s : Lists) (c : Config) (config : Option Config) (most : ℕ) → IsOnly c config → Counted c s.blocks s.items → room_by config ≤ most → item_may s config ≡ true → length s.items < most
few_items s c None most only counted room may = absurd cc
few_items s c (Some kept) most only counted room may = let parts = may_parts s kept may in few_within c kept s.blocks most s.items only counted room parts.0 parts.1

item_goes : (who : Who) (P : Lists → Type 0) (s : Lists) (c : Config) (config : Option Config) (k : Work) (words m : List ℕ) → IsOnly c config → item_may s config ≡ true → P (with_work s None)
    → ((item : Item) → item.tile < tiles_of c → is_full (spot_of item.tile s.items) ≡ false → P (with_item s item)) → ((item : Item) → item.tile < tiles_of c → P (with_item (with_block s) item))
    → Comes who P (item_plan s config k words) m
unfolding tile_plan
item_goes who P s c None k words m only may none all more = absurd cc
item_goes who P s c (Some kept) k words m only may none all more =
    let tile : ℕ = chosen_tile kept words in
    let as_many : tiles_of kept ≡ tiles_of c = ap tiles_of (only_is c kept only) in
    keeps_if who AnyLook AnyAccess (λ i next. P next) m (tile == tiles_of kept) (Done (with_work s None)) (put_plan s kept k tile (spot_of tile s.items))
    (λ on. none)
    (λ off.
    let below : tile < tiles_of kept = tile_below kept words off in
    put_goes who P s kept k tile (spot_of tile s.items) m
    (λ room item is. all item (omega (arith, is, below, as_many)) (subst (λ t. is_full (spot_of t s.items) ≡ false) (sym is) room))
    (λ item is. more item (omega (arith, is, below, as_many))))

work_goes : (who : Who) (K : List ℕ → Type 0) (c : Config) (w d n : ℕ) (s : Lists) (k : Work) (free : Free) (words m : List ℕ) → IsOnly c s.binner.kept.config → JobLeft K c w d n s → s.binner.work ≡ Some k → work_may s k free ≡ true
    → Comes who (ListsLess K c w d n 0) (work_plan s k free words) m
unfolding work_plan work_may
work_goes who K c w d n s k free words m only left is ready =
    let P = λ (i : List ℕ) (turned : Turned). ListsLess K c w d n 0 turned in
    let L = AnyLook in
    let G = AnyAccess in
    let place : ℕ = s.binner.place in
    let end : ℕ = s.binner.end in
    let there : ℕ = s.renderer.place in
    let upto : ℕ = s.renderer.end in
    let inside : Option SubList = s.renderer.inside in
    let packets : List (List ℕ) = left.0 in
    let slots : List (Option Packet) = left.1 in
    let Left = λ (rest : ℕ) (work : Option Work). ListsLeft K c w d rest place end work there upto inside s.binner.kept.config s.blocks s.items packets slots in
    let mine : Left n (Some k) = subst (λ work. Left n work) is left.2 in
    let within : work_steps w k ≤ n = (let sum = mine.sum in omega (arith, sum)) in
    let some = some_steps w k in
    let set : (next : Option Work) (rest : ℕ) → work_left w next + n ≤ work_steps w k + rest → (ps : List (List ℕ)) × (ss : List (Option Packet)) × ListsLeft K c w d rest place end next there upto inside s.binner.kept.config s.blocks s.items ps ss =
    λ next rest less. (packets, slots, work_set K c w d n rest place end (Some k) next there upto inside s.binner.kept.config s.blocks s.items packets slots mine less) in
    keeps_if who L G P m k.due (plan_mapped (started_with s k) (start_plan Coordinate free k.word)) (if nat_lt k.done k.primitive.length then plan_mapped (fetched_with s k) (fetch_plan k.primitive k.word k.done) else plan_mapped quiet (item_plan s s.binner.kept.config k words))
    (λ due.
    let steps = due_steps w k due in
    comes_any who (ListsLess K c w d n 0) (started_with s k) (λ launch.
    let cost = launch_at_most w launch in
    record { rest = n - (1 + w); left = set (Some (not_due k)) (n - (1 + w)) (omega (arith, steps, within)); less = omega (arith, cost, steps, within) })
    (start_plan Coordinate free k.word) m)
    (λ off. keeps_if who L G P m (nat_lt k.done k.primitive.length) (plan_mapped (fetched_with s k) (fetch_plan k.primitive k.word k.done)) (plan_mapped quiet (item_plan s s.binner.kept.config k words))
    (λ more.
    let steps = fetch_steps w k off more in
    comes_any who (ListsLess K c w d n 0) (fetched_with s k) (λ index.
    record { rest = n - 1; left = set (Some (one_done k)) (n - 1) (omega (arith, steps, within)); less = omega (arith, some, within) })
    (fetch_plan k.primitive k.word k.done) m)
    (λ all.
    let may : item_may s s.binner.kept.config ≡ true = ready_item k.due (nat_lt k.done k.primitive.length) (can_start false free) (item_may s s.binner.kept.config) off all ready in
    let stands : Left n s.binner.work = left.2 in
    let few : length s.items < stands.most = few_items s c s.binner.kept.config stands.most only stands.room.counted stands.room.kept may in
    let one : 1 ≤ n = omega (arith, some, within) in
    let put : (blocks : ℕ) (item : Item) → Counted c blocks (s.items ++ item ∷ []) → (ps : List (List ℕ)) × (ss : List (Option Packet)) × ListsLeft K c w d (n - 1) place end s.binner.work there upto inside s.binner.kept.config blocks (s.items ++ item ∷ []) ps ss =
    λ blocks item counted. (packets, slots, item_put K c w d n place end s.binner.work there upto inside s.binner.kept.config s.blocks blocks s.items item packets slots stands few counted) in
    comes_into who quiet (JobLeft K c w d (n - 1)) (ListsLess K c w d n 0) (λ next less. quiet_less K c w d n 0 next one less) (item_plan s s.binner.kept.config k words) m
    (item_goes who (JobLeft K c w d (n - 1)) s c s.binner.kept.config k words m only may (set None (n - 1) (omega (arith, some, within)))
    (λ item inside room. put s.blocks item (counted_here c s.blocks s.items item stands.room.counted inside room))
    (λ item inside. put (s.blocks + 1) item (counted_further c s.blocks s.items item stands.room.counted inside)))))

binner_by_goes : (who : Who) (K : List ℕ → Type 0) (c : Config) (w d n : ℕ) (s : Lists) (work : Option Work) (free : Free) (words m : List ℕ) → K m → IsOnly c s.binner.kept.config → JobLeft K c w d n s → s.binner.work ≡ work → binner_may s work free ≡ true
    → Comes who (ListsLess K c w d n 0) (binner_by s work free words) m
binner_by_goes who K c w d n s None free words m here only left is ready =
    read_goes who K c w d n s m left.0 left.1 here left.2 (grind (arith, common_steps, nat_tests, ready))
binner_by_goes who K c w d n s (Some k) free words m here only left is ready = work_goes who K c w d n s k free words m only left is ready

-- One step of the binner.
pub binner_goes : (who : Who) (K : List ℕ → Type 0) (c : Config) (w d n : ℕ) (s : Lists) (free : Free) (words m : List ℕ) → K m → IsOnly c s.binner.kept.config → JobLeft K c w d n s → glance_result (binner_ready s free) m ≡ true
    → Comes who (ListsLess K c w d n 0) (binner_plan s free words) m
unfolding binner_plan binner_ready
binner_goes who K c w d n s free words m here only left ready = binner_by_goes who K c w d n s s.binner.work free words m here only left refl ready
