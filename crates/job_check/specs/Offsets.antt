-- Where the contents of a file that was read begin.
use Rattle.std.specs.Prelude.{ℕ, ◌+◌, ◌*◌, length, map, sum, take}
use Rattle.job_format.specs.{Offsets.entry_offset, Offsets.job_size, Model.FileModel}

-- the contents of buffer b, after all entries and the contents of the buffers before it; all are as long as the entries say
unfoldable pub content_offset : FileModel → ℕ → ℕ
content_offset f b = entry_offset (length f.buffers) + job_size * length f.jobs + sum (map (λ x. x.content) (take b f.buffers))
