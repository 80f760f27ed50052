-- Laws on the renderer's step in a tile's list.
use Rattle.std.proofs.Common.{◌≡◌, ◌≢◌, ◌≤◌, ◌<◌, ℕ, suc, ◌+◌, ◌%◌, ◌==◌, Bool, true, false, List, [], ◌∷◌, length, drop, Option, Some, None, if◌then◌else◌, refl, sym, ◌∙◌, ap, subst, arith, drop-cons, get_or}
use Rattle.std.proofs.{lemmas.Grind.common_steps, lemmas.Bool.Decides.nat_tests}
use Rattle.std.specs.Prelude.{option_map}
use Rattle.machine_plan.specs.{Choice.word_at, Glance.glance_result, Plan.Plan, Plan.Done, Plan.Shows, Plan.outcome_of, World.plan_mapped}
use Rattle.machine_plan.proofs.Worlds.{shows_mapped}
use Rattle.list_machine.specs.Renderer.{first_of_tile, renderer_ready, ready_in, item_fetched, vertex_plan, program_plan, packet_plan}
use Rattle.list_machine.specs.State.{Access, Found, Free, Item, Launch, Program, SubList, Who}
use Rattle.list_machine.specs.{Lists.Lists, Lists.turned_to, Lists.quiet, Fetch.fetch_plan, Start.start_plan}

item_first : (i : ℕ) (items : List Item) (d : Item) → i < length items → drop i items ≡ get_or items i d ∷ drop (i + 1) items
item_first i items d below =
    let one : suc i ≡ i + 1 = omega arith in
    drop-cons items i d below ∙ ap (λ k. get_or items i d ∷ drop k items) one

-- one more item is none of the tile's
pub passed_by : (tile i : ℕ) (items : List Item) (d : Item) (rest : Option Found) → i < length items → (get_or items i d).tile ≢ tile → first_of_tile tile i (drop i items) ≡ rest → first_of_tile tile (i + 1) (drop (i + 1) items) ≡ rest
passed_by tile i items d rest below other here =
    let item = get_or items i d in
    let later = first_of_tile tile (i + 1) (drop (i + 1) items) in
    let no : (item.tile == tile) ≡ false = grind (arith, common_steps, other) in
    let on : first_of_tile tile i (drop i items) ≡ later =
    ap (λ rest. first_of_tile tile i rest) (item_first i items d below)
    ∙ ap (λ (b : Bool). if b then Some (record { number = i; item = item }) else later) no in
    sym on ∙ here

pub found_here : (tile i : ℕ) (items : List Item) (d : Item) (rest : Option Found) → i < length items → (get_or items i d).tile ≡ tile → first_of_tile tile i (drop i items) ≡ rest → Some (record { number = i; item = get_or items i d }) ≡ rest
found_here tile i items d rest below same here =
    let item = get_or items i d in
    let yes : (item.tile == tile) ≡ true = grind (arith, common_steps, same) in
    let found : first_of_tile tile i (drop i items) ≡ Some (record { number = i; item = item }) =
    ap (λ rest. first_of_tile tile i rest) (item_first i items d below)
    ∙ ap (λ (b : Bool). if b then Some (record { number = i; item = item }) else first_of_tile tile (i + 1) (drop (i + 1) items)) yes in
    sym found ∙ here

drop_all : (i : ℕ) (items : List Item) → length items ≤ i → drop i items ≡ []
drop_all i items all = grind (arith, common_steps, all)

pub none_left : (tile i : ℕ) (items : List Item) (rest : Option Found) → length items ≤ i → first_of_tile tile i (drop i items) ≡ rest → None ≡ rest
none_left tile i items rest all here =
    let none : first_of_tile tile i (drop i items) ≡ None = ap (λ rest. first_of_tile tile i rest) (drop_all i items all) in
    sym none ∙ here

-- a vertex of an item that has some
pub vertex_fetched : (who : Who) (s : Lists) (item : Item) (words m : List ℕ) (before after : List Access) (index : ℕ) → item.primitive.length ≢ 0 →
    Shows (outcome_of who (fetch_plan item.primitive item.word (word_at words 1 % item.primitive.length)) m) before after m (Some index) →
    Shows (outcome_of who (vertex_plan s item words) m) before after m (Some (quiet s))
unfolding vertex_plan
vertex_fetched who s item words m before after index some shows =
    let plan : Plan ℕ = fetch_plan item.primitive item.word (word_at words 1 % item.primitive.length) in
    let no : (item.primitive.length == 0) ≡ false = grind (arith, common_steps, some) in
    subst (λ (b : Bool). Shows (outcome_of who (if b then Done (quiet s) else plan_mapped (item_fetched s) plan) m) before after m (Some (quiet s))) (sym no)
    (shows_mapped (item_fetched s) who plan m before after m (Some index) shows)

pub program_started : (who : Who) (s : Lists) (program : Program) (free : Free) (item : Item) (m : List ℕ) (before after : List Access) (launch : Option Launch) →
    Shows (outcome_of who (start_plan program free item.word) m) before after m (Some launch) →
    Shows (outcome_of who (program_plan s program free item) m) before after m (Some (turned_to s launch))
unfolding program_plan
program_started who s program free item m before after launch shows = shows_mapped (turned_to s) who (start_plan program free item.word) m before after m (Some launch) shows

handed_if : {R T : Type 0} (f : R → T) (tame : Bool) (r : R) → option_map f (if tame then Some r else None) ≡ (if tame then Some (f r) else None)
handed_if f true r = refl
handed_if f false r = refl

-- a packet starts no program
pub packet_quiet : (who : Who) (s next : Lists) (words m : List ℕ) (before after : List Access) (memory : List ℕ) (tame : Bool) →
    Shows (outcome_of who (packet_plan s words) m) before after memory (if tame then Some next else None) →
    Shows (outcome_of who (plan_mapped quiet (packet_plan s words)) m) before after memory (if tame then Some (quiet next) else None)
packet_quiet who s next words m before after memory tame shows =
    subst (λ r. Shows (outcome_of who (plan_mapped quiet (packet_plan s words)) m) before after memory r) (handed_if quiet tame next)
    (shows_mapped quiet who (packet_plan s words) m before after memory (if tame then Some next else None) shows)

-- a renderer that may step, and is in no tile's list, is below its list's end
pub ready_below : (s : Lists) (m : List ℕ) → s.renderer.inside ≡ None → glance_result (renderer_ready s) m ≡ true → s.renderer.place < s.renderer.end
unfolding renderer_ready
ready_below s m outside ready =
    let here : glance_result (ready_in s None) m ≡ true = subst (λ (inside : Option SubList). glance_result (ready_in s inside) m ≡ true) outside ready in
    grind (arith, common_steps, nat_tests, here)
