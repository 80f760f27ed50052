-- A job with short programs that begins among others begins so as if it were alone.
use Rattle.std.proofs.Common.{ℕ, List}
use Rattle.machine_plan.specs.Regions.{Interval, Rights, HasReadOnly}
use Rattle.machine.specs.declared.job.Start.{Start}
use Rattle.bin_walks.specs.Walks.{nothing_kept}
use Rattle.list_law.proofs.Start.{walks_so}
use Rattle.ends_law.specs.Ends.{DrawShort, JobShort}
use Rattle.day_law.proofs.Alone.{Only, OnlyPlain, program_alone, draw_alone, jobs_begin_alone_law}

draws_alone : (rights : List Rights) (plains : ℕ → List Interval) (first m : List ℕ) (w j word : ℕ) (packet : List ℕ) → HasReadOnly rights first m → DrawShort rights plains first w j word packet
    → DrawShort (Only rights j) (OnlyPlain plains j) m w 0 word packet
unfolding draw_alone program_alone
draws_alone rights plains first m w j word packet has draws =
    record { begins = draw_alone rights plains first m j word packet has draws.begins; fragment = draws.fragment; vertex = draws.vertex; coordinate = draws.coordinate }

pub short_alone : (rights : List Rights) (plains : ℕ → List Interval) (first m : List ℕ) (w j n : ℕ) (start : Start) → HasReadOnly rights first m → JobShort rights plains first w j n start → JobShort (Only rights j) (OnlyPlain plains j) m w 0 n start
unfolding jobs_begin_alone_law
short_alone rights plains first m w j n start has short = record {
  begins = jobs_begin_alone_law rights plains first m j start has short.begins;
  short = walks_so short.begins.config (DrawShort rights plains first w j) (DrawShort (Only rights j) (OnlyPlain plains j) m w 0) (λ word packet draws kind. draws_alone rights plains first m w j word packet has draws) nothing_kept short.begins.packets short.short;
  within = short.within;
}
