-- Code that carried out the binner's step.
use Rattle.std.proofs.Common.{◌≡◌, ◌≤◌, ℕ, ◌*◌, nat_lt, List, [], ◌∷◌, ◌++◌, length, slice_index, Bool, true, false, if◌then◌else◌, Option, Some, None, refl, sym, ◌∙◌, ap, subst, arith}
use Rattle.std.proofs.lemmas.Bool.Decides.{nat_tests}
use Rattle.std.specs.Prelude.{option_map}
use Rattle.machine_plan.specs.{Turn.if_tame, Memory.bytes_at, Memory.bytes_stored, Plan.Plan, Plan.Reads, Plan.Shows, Plan.access, Plan.outcome_of}
use Rattle.machine_plan.specs.World.{plan_mapped}
use Rattle.packets.specs.Length.{bin_taken}
use Rattle.machine_plan.proofs.{Memory.length-bytes_at, Reading.shows_read, Worlds.shows_mapped}
use Rattle.list_machine.specs.State.{Access, Config, Coordinate, Free, Launch, Read, Who, Work, Write}
use Rattle.list_machine.specs.Binner.{after_start, clear_plan, packet_plan, read_plan, fetched_with, started_with, next_plan, due_plan, one_done, not_due, item_plan, work_plan, binner_plan, binner_by}
use Rattle.list_machine.specs.{Lists.Lists, Lists.Turned, Lists.quiet, Lists.turned_to, Lists.with_work, Lists.past, Fetch.fetch_plan}
use Rattle.list_machine.specs.{Start.start_plan, Blocks.tiles_of, Blocks.zeros}
use Rattle.list_machine.proofs.{Putting.length-zeros, Steps.first_byte}

-- the states were cleared
pub clear_shows : (who : Who) (s after : Lists) (c : Config) (tiles : ℕ) (m k : List ℕ) (before listed : List Access) → tiles ≡ tiles_of c → listed ≡ before ++ access who Write c.states (48 * tiles) ∷ [] → k ≡ bytes_stored m c.states (zeros (48 * tiles)) → after ≡ after_start s
    → Shows (outcome_of who (clear_plan s c) m) before listed k (Some after)
unfolding clear_plan
clear_shows who s after c tiles m k before listed tiles_are listed_is k_is after_is =
    let size : 48 * tiles ≡ length (zeros (48 * tiles_of c)) = ap (λ n. 48 * n) tiles_are ∙ sym (length-zeros (48 * tiles_of c)) in
    record {
      accesses = listed_is ∙ ap (λ n. before ++ access who Write c.states n ∷ []) size;
      memory_is = k_is ∙ ap (λ n. bytes_stored m c.states (zeros (48 * n))) tiles_are;
      result_is = ap Some after_is;
    }

-- the packet that was read has its opcode's length
pub packet_whole : (m packet : List ℕ) (p len : ℕ) → 1 ≤ len → packet ≡ bytes_at m p len → len ≡ bin_taken (slice_index m p) → length packet ≡ bin_taken (slice_index packet 0)
packet_whole m packet p len some packet_is len_is =
    ap length packet_is ∙ length-bytes_at m p len ∙ (len_is ∙ ap bin_taken (sym (ap (λ bytes. slice_index bytes 0) packet_is ∙ first_byte m p len some)))

-- the read of the packet at this place, and what the packet does
abbrev pub read_from : ℕ → ℕ → Lists → Plan Lists
read_from place len s = Reads place len (λ packet. packet_plan (past s len) packet)

-- what the packet does, behind the read of the packet
pub read_shows : (who : Who) (s passed next : Lists) (m packet : List ℕ) (place len : ℕ) (before listed after : List Access) (memory : List ℕ) (tame report : Bool) → place ≡ s.binner.place → len ≡ bin_taken (slice_index m place) → packet ≡ bytes_at m place len
    → listed ≡ before ++ access who Read place len ∷ [] → passed ≡ past s len → tame ≡ report
    → Shows (outcome_of who (packet_plan passed packet) m) listed after memory (if_tame tame next) → Shows (outcome_of who (read_plan s) m) before after memory (if_tame report next)
unfolding read_plan bytes_at
read_shows who s passed next m packet place len before listed after memory tame report place_is len_is packet_is listed_is passed_is tame_is shows =
    let Report : Bool → Type 0 = λ t. Shows (outcome_of who (packet_plan passed packet) m) listed after memory (if_tame t next) in
    let here = subst (λ p. Shows (outcome_of who (packet_plan p packet) m) listed after memory (if_tame report next)) passed_is (subst Report tame_is shows) in
    let read = shows_read who place len (λ bytes. packet_plan (past s len) bytes) m packet before listed after memory (if_tame report next) listed_is packet_is here in
    let P : ℕ → Type 0 = λ p. Shows (outcome_of who (read_from p (bin_taken (slice_index m p)) s) m) before after memory (if_tame report next) in
    subst P place_is (subst (λ n. Shows (outcome_of who (read_from place n s) m) before after memory (if_tame report next)) len_is read)

-- a program that was due has started
pub due_shows : (who : Who) (s after : Lists) (w rested : Work) (free : Free) (m : List ℕ) (before listed : List Access) (launch : Option Launch) → Shows (outcome_of who (start_plan Coordinate free w.word) m) before listed m (Some launch) → rested ≡ not_due w → after ≡ with_work s (Some rested)
    → Shows (outcome_of who (due_plan s w free) m) before listed m (Some (turned_to after launch))
due_shows who s after w rested free m before listed launch shows rested_is after_is =
    let same : started_with s w launch ≡ turned_to after launch = ap (λ l. turned_to l launch) (sym (after_is ∙ ap (λ r. with_work s (Some r)) rested_is)) in
    subst (λ t. Shows (outcome_of who (due_plan s w free) m) before listed m (Some t)) same (shows_mapped (started_with s w) who (start_plan Coordinate free w.word) m before listed m (Some launch) shows)

-- the next vertex was fetched
pub fetch_shows : (who : Who) (s after : Lists) (w more : Work) (m : List ℕ) (before listed : List Access) (index : ℕ) → Shows (outcome_of who (fetch_plan w.primitive w.word w.done) m) before listed m (Some index) → more ≡ one_done w → after ≡ with_work s (Some more)
    → Shows (outcome_of who (next_plan s w) m) before listed m (Some (quiet after))
fetch_shows who s after w more m before listed index shows more_is after_is =
    let same : fetched_with s w index ≡ quiet after = ap quiet (sym (after_is ∙ ap (λ r. with_work s (Some r)) more_is)) in
    subst (λ t. Shows (outcome_of who (next_plan s w) m) before listed m (Some t)) same (shows_mapped (fetched_with s w) who (fetch_plan w.primitive w.word w.done) m before listed m (Some index) shows)

work_is : (s : Lists) (w : Work) (free : Free) (words : List ℕ) (due more : Bool) → w.due ≡ due → nat_lt w.done w.primitive.length ≡ more
    → work_plan s w free words ≡ (if due then due_plan s w free
    else (if more then next_plan s w else plan_mapped quiet (item_plan s s.binner.kept.config w words)))
unfolding work_plan
work_is s w free words due more due_is more_is =
    ap (λ b. if b then due_plan s w free else (if nat_lt w.done w.primitive.length then next_plan s w else plan_mapped quiet (item_plan s s.binner.kept.config w words))) due_is
    ∙ ap (λ b. if due then due_plan s w free else (if b then next_plan s w else plan_mapped quiet (item_plan s s.binner.kept.config w words))) more_is

-- an item was put
pub item_shows : (who : Who) (s after : Lists) (w : Work) (free : Free) (words m : List ℕ) (before listed : List Access) (memory : List ℕ) → w.due ≡ false → w.primitive.length ≤ w.done → Shows (outcome_of who (item_plan s s.binner.kept.config w words) m) before listed memory (Some after)
    → Shows (outcome_of who (work_plan s w free words) m) before listed memory (Some (turned_to after None))
item_shows who s after w free words m before listed memory rests all shows =
    let none : nat_lt w.done w.primitive.length ≡ false = grind (arith, nat_tests) in
    subst (λ plan. Shows (outcome_of who plan m) before listed memory (Some (turned_to after None))) (sym (work_is s w free words false false rests none))
    (shows_mapped quiet who (item_plan s s.binner.kept.config w words) m before listed memory (Some after) shows)

quiet_tame : (tame : Bool) (after : Lists) → option_map quiet (if_tame tame after) ≡ if_tame tame (quiet after)
quiet_tame true after = refl
quiet_tame false after = refl

-- a packet was done
pub packet_shows : (who : Who) (s after : Lists) (free : Free) (words m : List ℕ) (before listed : List Access) (memory : List ℕ) (tame : Bool) (result : Option Turned) → s.binner.work ≡ None → Shows (outcome_of who (read_plan s) m) before listed memory (if_tame tame after)
    → result ≡ if_tame tame (quiet after) → Shows (outcome_of who (binner_plan s free words) m) before listed memory result
unfolding binner_plan
packet_shows who s after free words m before listed memory tame result no_work shows result_is =
    let quietly = shows_mapped quiet who (read_plan s) m before listed memory (if_tame tame after) shows in
    let same : option_map quiet (if_tame tame after) ≡ result = quiet_tame tame after ∙ sym result_is in
    subst (λ r. Shows (outcome_of who (binner_by s s.binner.work free words) m) before listed memory r) same
    (subst (λ work. Shows (outcome_of who (binner_by s work free words) m) before listed memory (option_map quiet (if_tame tame after))) (sym no_work) quietly)
