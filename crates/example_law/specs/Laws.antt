-- What is so of each example, and of each file that is made as they are.
use Rattle.std.specs.Prelude.{◌≡◌, ◌≤◌, ℕ, ◌+◌, ◌*◌, None}
use Rattle.field_words.specs.{Sizes.most_memory, Sizes.most_list, Questions.first_of}
use Rattle.job_format.specs.{Model.FileModel, File.IsWellFormed}
use Rattle.job_check.specs.Faults.{file_stages}
use Rattle.example_job.specs.Example.{frame_bytes}

-- A frame of so many tiles of 64 by 64 pixels across and down, with so many triangles: it is at most 4,096 pixels wide and high, its
-- buffer, which begins behind the vertices, ends inside the greatest memory, and a record of 60 bytes for each triangle has room.
pub record IsInRange (across down count : ℕ) : Type 0 where
  pub some_across : 1 ≤ across
  pub wide : 64 * across ≤ 4096
  pub some_down : 1 ≤ down
  pub high : 64 * down ≤ 4096
  pub memory : 0x581000 + frame_bytes (across * down) ≤ most_memory
  pub records : 60 * count ≤ most_list

-- A file is within the limits of the format, and no rule is broken by it.
pub record IsFaultless (f : FileModel) : Type 0 where
  pub well_formed : IsWellFormed f
  pub none : first_of (file_stages f) ≡ None
