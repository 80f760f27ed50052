-- Each promise holds.
use Rattle.accepted_strict.proofs.Files.{strict_bytes_obey_law}
use Rattle.day_apart.proofs.Apart.{days_apart_law}
use Rattle.driver_law.proofs.{Driver.drivers_are_safe_law, Ends.submissions_end_law}
use Rattle.job_safety.proofs.Safety.{accepted_may_run, accepted_end}
use Rattle.job_bound.proofs.Holds.{bound_holds_law, end_holds_law}
use Rattle.job_queue.proofs.Laws.{starts_late}
use Rattle.job_safety.proofs.Safety.{bytes_apart_law}
use Rattle.session_law.proofs.{Scripting.scripts_are_of_calls, Answering.clients_are_apart, Keeping.memory_is_kept}
use Rattle.session_safety.proofs.Reach.{submits_reach_own}
use Rattle.overflow_slots.proofs.Laws.{stays_ordered}
use Rattle.tile_convert.proofs.Whole.{untiles_what_was_tiled, tiles_what_was_untiled}
use Rattle.commands.specs.Run.{Promises}
use Rattle.commands.proofs.{Again.makes_again, Versions.upgrade_keeps_all}

pub promises : Promises
promises = record {
  law = accepted_may_run;
  strict = strict_bytes_obey_law;
  apart = bytes_apart_law;
  ends = accepted_end;
  upgrade = upgrade_keeps_all;
  makes_again = makes_again;
  scripts = scripts_are_of_calls;
  clients = clients_are_apart;
  pages = memory_is_kept;
  reach = submits_reach_own;
  bound = bound_holds_law;
  finish = end_holds_law;
  days = drivers_are_safe_law;
  days_end = submissions_end_law;
  days_apart = days_apart_law;
  blocks = stays_ordered;
  late = starts_late;
  untiled = untiles_what_was_tiled;
  tiled = tiles_what_was_untiled;
}
