-- M: the items of the memory table that a refusal speaks of.
use Rattle.std.specs.Prelude.{ℕ, ◌+◌, ◌==◌, List, [], ◌∷◌, option_map, Option, if◌then◌else◌}
use Rattle.field_words.specs.Questions.{Question, Ask, each, first_of}
use Rattle.buffer_table.specs.{declared.item.Item.Item, Table.items_of, Table.item_at, Table.shares}
use Rattle.job_format.specs.Model.{FileModel}
use Rattle.job_format.specs.declared.rule.Part.TheVariants.{Entry}
use Rattle.job_format.specs.{declared.rule.Part.Part, declared.rule.Place.Place}
use Rattle.refusal_facts.specs.{declared.fact.ItemFact.ItemFact, declared.fact.PairFact.PairFact, declared.fact.RoomFact.RoomFact}

-- the items behind the memory: the lists' region, the tile region, and the buffers
abbrev pub items_in : FileModel → List Item
items_in f = items_of f.regions f.buffers

-- The index of the item that a place is about: a buffer's entry, or the lists' region at 12 and the tile region at 20 of the header.
abbrev pub index_by : Part → Place → ℕ
index_by Entry place = 2 + place.index
index_by part place = if place.at == 20 then 1 else 0

unfoldable pub index_of : Place → ℕ
index_of place = index_by place.part place

-- item k, which is item k + 1 of a fault
unfoldable pub item_fact : List Item → ℕ → ItemFact
item_fact items k = record { item = k + 1; place = (item_at items k).place; size = (item_at items k).size }

-- the first of the items before item k that has a byte of it
unfoldable pub sharing_question : List Item → (k i : ℕ) → List (Question ℕ)
sharing_question items k i = Ask (shares (item_at items k) (item_at items i)) i ∷ []

unfoldable pub first_sharing : List Item → ℕ → Option ℕ
first_sharing items k = first_of (each (sharing_question items k) 0 k)

abbrev pub pair_fact : List Item → (k i : ℕ) → PairFact
pair_fact items k i = record { later = item_fact items k; earlier = item_fact items i }

unfoldable pub pair_at : List Item → ℕ → Option PairFact
pair_at items k = option_map (pair_fact items k) (first_sharing items k)

-- M5: the item needs room for what is given of it
abbrev pub content_room : List Item → ℕ → RoomFact
content_room items k = record { needs = (item_at items k).content; has = (item_at items k).size }
