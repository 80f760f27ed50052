-- What the jobs use a buffer as, in words.
use Rattle.std.specs.Prelude.{ℕ, nat_eq, ◌||◌, Bool, List, [], ◌++◌, codes, slice_get, Option, Some, option_and_then, if◌then◌else◌}
use Rattle.std.specs.{List.list_any, Option.option_eq}
use Rattle.job_format.specs.Model.{JobModel}

-- The buffer that a surface of a job's frame lies in. The surface has the index of a handle, which is past the last one where it is absent.
unfoldable pub surface_buffer : (surface : ℕ) → JobModel → Option ℕ
surface_buffer k job = option_and_then (λ surface. slice_get job.handles surface.hindex) (slice_get job.frame.surfaces k)

-- this surface of one of the jobs lies in the buffer of this number
unfoldable pub has_surface : List JobModel → (number surface : ℕ) → Bool
has_surface jobs number k = list_any (λ job. option_eq nat_eq (surface_buffer k job) (Some number)) jobs

-- A frame's surfaces of colours are 0, 1 and 4: read, write, multisample write. Those of depths and stencils are 2, 3 and 5.
unfoldable pub has_colours : List JobModel → ℕ → Bool
has_colours jobs n = has_surface jobs n 0 || (has_surface jobs n 1 || has_surface jobs n 4)

unfoldable pub has_depths : List JobModel → ℕ → Bool
has_depths jobs n = has_surface jobs n 2 || (has_surface jobs n 3 || has_surface jobs n 5)

-- what stands behind the kind of the buffer of this number
unfoldable pub use_words : List JobModel → ℕ → List ℕ
use_words jobs n = (if has_colours jobs n then codes ", colour" else []) ++ (if has_depths jobs n then codes ", depth" else [])
