-- What calls of all clients do: each client's buffers, and where they lie.
use Rattle.std.specs.Prelude.{ℕ, ◌/◌, ◌==◌, List, [], ◌∷◌, length, Option, Some, None, if◌then◌else◌}
use Rattle.field_words.specs.Sizes.{page_size}
use Rattle.job_session.specs.Own.{Held, Command, Create, Make, Write, Read, Free, Submit, Reply, Id, Refused, Rules, Outcome, Answered, NewBuffer, outcome, with_buffer}
use Rattle.job_session.specs.Places.{Place, least_place, without}

pub record Call : Type 0 where
  pub client : ℕ
  pub command : Command

pub record Past : Type 0 where
  pub own : ℕ → ℕ → Option Held
  pub places : List Place

abbrev pub none_yet : Past
none_yet = record { own = λ client id. None; places = [] }

abbrev pub with_own : Past → ℕ → (ℕ → Option Held) → ℕ → ℕ → Option Held
with_own past client own = λ other. if other == client then own else past.own other

-- how many pages a buffer takes
abbrev pub pages_of : Held → ℕ
pages_of held = length held.bytes / page_size

-- 6: no run of free pages is long enough
abbrev pub placed_reply : {F : Type 0} → ℕ → Option ℕ → Reply F
placed_reply id None = Refused 6
placed_reply id (Some first) = Id id

abbrev pub reply_by : {F : Type 0} → Past → Outcome F → Reply F
reply_by past (Answered reply own) = reply
reply_by past (NewBuffer id held) = placed_reply id (least_place past.places (pages_of held))

abbrev pub placed_past : Past → ℕ → ℕ → Held → Option ℕ → Past
placed_past past client id held None = past
placed_past past client id held (Some first) = record {
  own = with_own past client (with_buffer (past.own client) id (Some held));
  places = (record { client = client; id = id; first = first; pages = pages_of held }) ∷ past.places;
}

-- a buffer that is freed has no place any more
abbrev pub places_after : Past → ℕ → Command → List Place
places_after past client (Create pages) = past.places
places_after past client (Make bytes) = past.places
places_after past client (Write id at part) = past.places
places_after past client (Read id at len) = past.places
places_after past client (Free id) = without client id past.places
places_after past client (Submit parts) = past.places

abbrev pub past_by : {F : Type 0} → Past → Call → Outcome F → Past
past_by past call (Answered reply own) = record { own = with_own past call.client own; places = places_after past call.client call.command }
past_by past call (NewBuffer id held) = placed_past past call.client id held (least_place past.places (pages_of held))

abbrev pub outcome_of : {F : Type 0} → Rules F → Past → Call → Outcome F
outcome_of rules past call = outcome rules call.client (past.own call.client) call.command

unfoldable pub reply_to : {F : Type 0} → Rules F → Past → Call → Reply F
reply_to rules past call = reply_by past (outcome_of rules past call)

unfoldable pub after : {F : Type 0} → Rules F → Past → Call → Past
after rules past call = past_by past call (outcome_of rules past call)

-- the replies to one client, and its commands
unfoldable pub replies_to : {F : Type 0} → ℕ → Rules F → Past → List Call → List (Reply F)
replies_to client rules past [] = []
replies_to client rules past (call ∷ calls) =
    if client == call.client then reply_to rules past call ∷ replies_to client rules (after rules past call) calls
    else replies_to client rules (after rules past call) calls

unfoldable pub commands_of : ℕ → List Call → List Command
commands_of client [] = []
commands_of client (call ∷ calls) = if client == call.client then call.command ∷ commands_of client calls else commands_of client calls
