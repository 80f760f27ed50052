-- At which item of which job a renderer stays, how often it does in a run, and how many items the jobs of a file may have.
use Rattle.std.specs.Prelude.{ℕ, ◌+◌, ◌%◌, ◌==◌, ◌&&◌, not, Bool, false, List, [], ◌∷◌, length, Option, Some, None}
use Rattle.std.specs.List.{range_with_len, sum_by}
use Rattle.field_words.specs.declared.access.Actor.TheVariants.{Binner as TheBinner, Renderer as TheRenderer, Qpu as TheQpu, Tmu as TheTmu}
use Rattle.field_words.specs.declared.access.Actor.{Actor}
use Rattle.machine_plan.specs.{Choice.word_at, Others.Happening, Others.Steps, Others.Changes}
use Rattle.bin_list.specs.Packets.{packets}
use Rattle.list_machine.specs.{declared.state.Found.Found, declared.state.SubList.SubList, Lists.Lists, Renderer.item_at}
use Rattle.machine.specs.{State.Units, State.State, State.Picked, State.renderer_job, Step.Event, Step.step}
use Rattle.job_format.specs.Model.{FileModel}
use Rattle.job_check.specs.Jobs.{bin_list_of}
use Rattle.promises.specs.Steps.{room_of, one_if}

-- The renderer of a job is at item n: a primitive that its binner put on a tile. The items of a job are numbered as they are put, from 0 on.
abbrev pub is_item : ℕ → Option Found → Bool
is_item n None = false
is_item n (Some found) = found.number == n

abbrev pub is_at : ℕ → Lists → Option SubList → Bool
is_at n s None = false
is_at n s (Some sub) = is_item n (item_at sub s.items)

-- It stays there: choice word 0 says that it doesn't go past the item.
abbrev pub stays_at : ℕ → Lists → List ℕ → Bool
stays_at n s words = is_at n s s.renderer.inside && not (word_at words 0 % 4 == 3)

abbrev pub renderer_stays_at : (j n : ℕ) → Option (Picked Lists) → List ℕ → Bool
renderer_stays_at j n None words = false
renderer_stays_at j n (Some r) words = r.number == j && stays_at n r.item words

-- so at item n of job j, in a step of the machine
abbrev pub unit_stays_at : (j n : ℕ) → Units → Actor → List ℕ → Bool
unit_stays_at j n u TheBinner words = false
unit_stays_at j n u TheRenderer words = renderer_stays_at j n (renderer_job u) words
unit_stays_at j n u (TheQpu k) words = false
unit_stays_at j n u (TheTmu k tmu) words = false

-- In how many steps the renderer stays at item n of job j.
abbrev pub item_stays : (j n : ℕ) → State → List (Happening Event) → ℕ
item_stays j n s [] = 0
item_stays j n s (Steps event ∷ later) = one_if (unit_stays_at j n s.units event.unit event.words) + item_stays j n (step s event).state later
item_stays j n s (Changes m ∷ later) = item_stays j n (record { memory = m; units = s.units }) later

-- For how many items the tile lists of job j have room, by its emitted binner list; and those of all jobs together.
unfoldable pub items_in : FileModel → ℕ → ℕ
items_in f j = room_of (packets (bin_list_of f j))

unfoldable pub items_of : FileModel → ℕ
items_of f = sum_by (items_in f) (range_with_len 0 (length f.jobs))
