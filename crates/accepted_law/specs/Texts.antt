-- Where a job's two lists begin: they stand in the first memory, in the job's region, and no job may write them.
use Rattle.std.specs.Prelude.{◌≡◌, ℕ, List, length}
use Rattle.job_format.specs.Model.{FileModel}
use Rattle.job_check.specs.Jobs.{bin_list_of, render_list_of}
use Rattle.machine_law.specs.Begins.{TextBegins}
use Rattle.accepted_law.specs.Settled.{Grounds}
use Rattle.promises.specs.Holdings.{file_rights, start_of}

abbrev pub BinTextsBegin : Type 0
BinTextsBegin =
    (f : FileModel) (j : ℕ) (m : List ℕ) → Grounds f j m
    → TextBegins (file_rights f) m j (start_of f j).bin_place (bin_list_of f j)
    × ((start_of f j).bin_len ≡ length (bin_list_of f j))

abbrev pub RenderTextsBegin : Type 0
RenderTextsBegin =
    (f : FileModel) (j : ℕ) (m : List ℕ) → Grounds f j m
    → TextBegins (file_rights f) m j (start_of f j).render_place (render_list_of f j)
    × ((start_of f j).render_len ≡ length (render_list_of f j))
