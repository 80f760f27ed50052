-- Two threads of one client, by computing, and where what they read differs.
use Rattle.std.proofs.Common.{rules}
use Rattle.std.proofs.{Common.◌==◌, Common.Bool, Common.List, Common.arith, lemmas.Bool.true≢false}
use Rattle.std.specs.List.{list_any}
use Rattle.field_words.specs.{declared.access.Access.Access, Words.u32_at}
use Rattle.machine_plan.specs.Memory.{bytes_at}
use Rattle.machine.specs.Step.{is_enabled, ready, turn, job_of}
use Rattle.apart_needs.specs.Entries.{ThreadsAreNeeded}
use Rattle.qpu_machine.proofs.Opened.{turns}

-- an access at the first thread's code
at_start : List Access → Bool
at_start found = list_any (λ (a : Access). a.place == 0) found

pub threads_needed : ThreadsAreNeeded
unfolding u32_at bytes_at is_enabled turn ready job_of at_start turns
threads_needed = search (rules, arith, true≢false, at_start)
