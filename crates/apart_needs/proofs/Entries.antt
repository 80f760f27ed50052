-- Steps whose entries are the same but for one part, by computing, and where what they give differs.
use Rattle.std.proofs.Common.{◌==◌, Bool, false, List, [], ◌∷◌, arith, rules}
use Rattle.std.proofs.lemmas.Bool.{true≢false}
use Rattle.std.specs.{Prelude.is_some, List.list_any}
use Rattle.field_words.specs.{Words.u16_at, Words.u32_at, Words.rounded_up, declared.access.Access.Access}
use Rattle.machine_plan.specs.Memory.{bytes_at, bytes_stored}
use Rattle.list_machine.specs.Blocks.{tiles_of, further_offset, block_place, has_room, is_full, next_place, link_place, put_here, put_plan}
use Rattle.list_machine.specs.{Fetch.record_place, Start.launch_plan, Start.start_as, Start.start_plan, Start.is_threaded}
use Rattle.qpu_machine.specs.{Qpu.takes_first, Qpu.takes_other, Qpu.in_first, Qpu.in_other, Start.thread_of}
use Rattle.machine.specs.Step.{is_enabled, ready, turn, job_of}
use Rattle.apart_law.specs.Part.{Part}
use Rattle.apart_needs.specs.Entries.{WordsAreNeeded, SlotsAreNeeded}
use Rattle.list_machine.proofs.Opened.{binner}

-- an access at the first tile's block
at_first : List Access → Bool
at_first found = list_any (λ (a : Access). a.place == 256) found

-- a thread of the client in the first processor
runs_in_first : List Part → Bool
runs_in_first [] = false
runs_in_first (p ∷ ps) = is_some p.first

pub words_needed : WordsAreNeeded
unfolding u16_at u32_at rounded_up bytes_at bytes_stored tiles_of further_offset block_place has_room is_full next_place link_place put_here put_plan record_place launch_plan start_as start_plan is_threaded takes_first takes_other in_first in_other thread_of is_enabled ready turn job_of at_first binner
words_needed = search (rules, arith, true≢false, at_first)

pub slots_needed : SlotsAreNeeded
unfolding u16_at u32_at rounded_up bytes_at bytes_stored tiles_of further_offset block_place has_room is_full next_place link_place put_here put_plan record_place launch_plan start_as start_plan is_threaded takes_first takes_other in_first in_other thread_of is_enabled ready turn job_of runs_in_first binner
slots_needed = search (rules, arith, true≢false, runs_in_first)
