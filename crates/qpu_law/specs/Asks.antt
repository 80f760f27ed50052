-- When a request of a thread is fine: what it makes a texture and memory unit (TMU) read lies in one buffer.
--
-- IsNamed says which intervals of memory (place and size) are data that the job may read.
use Rattle.std.specs.Prelude.{◌≡◌, ℕ, ◌+◌, ◌-◌, ◌%◌, ◌<◌, ◌^◌, List, None, slice_index}
use Rattle.field_words.specs.Questions.{first_of}
use Rattle.texture_layouts.specs.Fits.{texture_questions}
use Rattle.machine_plan.specs.{declared.who.Who.Who, Plan.Keeps}
use Rattle.machine_plan.specs.Regions.{Every, Interval, LiesIn, Inside, Rights, IsSafeIn}
use Rattle.qpu_machine.specs.{declared.state.Ask.Ask, declared.state.Ask.TheVariants.Direct, declared.state.Ask.TheVariants.Texture}
use Rattle.qpu_machine.specs.Request.{ask_plan}
use Rattle.promises.specs.{Sound.IsReadIn, Rights.IsOneOf}

-- the word that an address stands in lies in the interval
abbrev pub IsWordIn : Interval → ℕ → Type 0
IsWordIn within address = LiesIn (address - address % 4) 4 within

-- The four words describe a texture whose base counts from the buffer's place, and which breaks no rule of textures in a buffer
-- of this size. The buffer begins at a page.
pub record IsTextureIn (within : Interval) (p0 p1 p2 p3 : ℕ) : Type 0 where
  pub source : ℕ
  pub base : p0 ≡ source + within.place
  pub word : p0 < 2 ^ 32
  pub page : within.place % 4096 ≡ 0
  pub rules : first_of (texture_questions source p1 p2 p3 within.size) ≡ None

-- what the request makes a TMU read lies in the interval
abbrev pub IsAskIn : Interval → Ask → Type 0
IsAskIn within (Direct row) = Every (IsWordIn within) row
IsAskIn within (Texture four) = IsTextureIn within (slice_index four 0) (slice_index four 1) (slice_index four 2) (slice_index four 3)

-- it does so in one buffer of the job
pub record IsFineAsk (IsNamed : ℕ → ℕ → Type 0) (ask : Ask) : Type 0 where
  pub place : ℕ
  pub size : ℕ
  pub named : IsNamed place size
  pub reads : IsAskIn (record { place = place; size = size }) ask

-- The law: whatever the choice words and the memory, serving such a request reads inside that one interval, is never undefined, looks
-- nowhere, and changes no byte.
abbrev pub AsksStayIn : Type 0
AsksStayIn =
    (within : Interval) (ask : Ask) → IsAskIn within ask → (who : Who) (words m : List ℕ)
    → Keeps who (λ place len. ⊥) (IsReadIn within) (λ k r. k ≡ m) (ask_plan ask words) m

-- So each access of a fine request is safe by the job's rights, whose region has each interval that may be named.
abbrev pub FineAsksAreSafe : Type 0
FineAsksAreSafe =
    (rights : Rights) (ask : Ask) → IsFineAsk (IsOneOf rights.region) ask → (who : Who) (words m : List ℕ)
    → Keeps who (Inside rights.region) (IsSafeIn rights) (λ k r. k ≡ m) (ask_plan ask words) m
