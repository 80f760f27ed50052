-- What an accepted file is printed from.
use Rattle.std.specs.Prelude.{◌≡◌, ◌≤◌}
use Rattle.field_words.specs.Sizes.{most_memory}
use Rattle.buffer_table.specs.Sound.{IsSound}
use Rattle.job_format.specs.{Model.FileModel, Parts.parts_view}
use Rattle.job_check.specs.Region.{IsRegion}
use Rattle.commands.specs.declared.check.Accepted.{Accepted}

-- The file that the parts are, whose memory table is sound, and the lists of its jobs.
pub record IsAccepted (f : FileModel) (accepted : Accepted) : Type 0 where
  pub file_is : parts_view accepted.file ≡ f
  pub region_is : IsRegion f accepted.region
  pub sound : IsSound f.mem_size f.regions f.buffers
  pub small : f.mem_size ≤ most_memory
