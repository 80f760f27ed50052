-- Clients are apart: what one client's jobs access, and what its memory ends as, doesn't depend on the other clients' jobs, as long as
-- its own jobs begin alike and take the same steps. So it is of any jobs, and of the jobs of files.
use Rattle.std.specs.Prelude.{◌≡◌, ℕ, ◌+◌, true, false, if◌then◌else◌, List, [], ◌∷◌, ◌++◌, ◌<◌, ◌&&◌, ◌==◌, nat_lt, length, slice_index, None}
use Rattle.field_words.specs.{declared.access.Access.Access, Words.IsBytes}
use Rattle.buffer_table.specs.{declared.buffer.Buffer.Buffer, Table.buffer_at}
use Rattle.job_format.specs.{Model.FileModel, Reading.file_at}
use Rattle.job_check.specs.{Emit.lengths_of, Emit.memory_of, Jobs.job_of, Jobs.layout_of, Whole.refusal_of}
use Rattle.machine_plan.specs.Regions.{Interval, Inside, Rights, rights_of, Agree}
use Rattle.machine_plan.specs.Others.{Happening, OthersRun, IsLeft}
use Rattle.machine.specs.Step.{Event, IsRun, ready, turn}
use Rattle.machine.specs.{declared.job.Start.Start, State.State, State.start_of}
use Rattle.promises.specs.Trail.{Client, accesses_of, trail_of, trail_among}
use Rattle.promises.specs.Holdings.{plain_of, fixed_of, file_rights, file_starts}

-- the regions of the client's jobs, joined, where the list is numbered from n on
abbrev pub regions_of : Client → ℕ → List Rights → List Interval
regions_of mine n [] = []
regions_of mine n (one ∷ others) = if mine n then one.region ++ regions_of mine (n + 1) others else regions_of mine (n + 1) others

-- No byte of the regions of the client's jobs may be written by another client's job. Jobs of one client may share.
abbrev pub IsUnshared : Client → List Rights → Type 0
IsUnshared mine rights =
    (j k p : ℕ) → mine j ≡ true → mine k ≡ false → Inside (rights_of rights j).region p 1 → Inside (rights_of rights k).writable p 1 → ⊥

-- All that a run of jobs begins with: what each may reach and write, the data buffers of each, the memory, and where their lists begin.
pub record Beginning : Type 0 where
  pub rights : List Rights
  pub plains : ℕ → List Interval
  pub memory : List ℕ
  pub starts : List Start

-- Two runs ended alike to the client: the accesses of its jobs are the same, in order, and so are the bytes of these intervals.
pub record EndAlike (mine : Client) (all : List Interval) (found others : List Access) (s t : State) : Type 0 where
  pub accesses : accesses_of mine found ≡ accesses_of mine others
  pub memory : Agree all s.memory t.memory

-- Two runs in which the client's jobs take the same steps end alike to it, the first from memory m and the second from memory n.
abbrev pub RunsApart : Client → Beginning → Beginning → List ℕ → List ℕ → Type 0
RunsApart mine b c m n =
    (events others : List Event) (found there : List Access) (s t : State)
    → IsRun (start_of m b.starts) events found s → IsRun (start_of n c.starts) others there t
    → trail_of mine (start_of m b.starts) events ≡ trail_of mine (start_of n c.starts) others
    → EndAlike mine (regions_of mine 0 b.rights) found there s t

-- the others leave the bytes of these intervals alone in this run
abbrev pub AreLeft : List Interval → State → List (Happening Event) → Type 0
AreLeft all s happenings = (p : ℕ) → Inside all p 1 → IsLeft turn p s happenings

-- Runs end alike also where others write, whatever, but nothing that is the client's, and nothing that jobs may only read.
abbrev pub RunsApartAmong : Client → Beginning → Beginning → List ℕ → List ℕ → Type 0
RunsApartAmong mine b c m n =
    (happenings others : List (Happening Event)) (found there : List Access) (s t : State)
    → OthersRun ready turn b.rights (start_of m b.starts) happenings found s
    → OthersRun ready turn c.rights (start_of n c.starts) others there t
    → AreLeft (regions_of mine 0 b.rights) (start_of m b.starts) happenings
    → AreLeft (regions_of mine 0 b.rights) (start_of n c.starts) others
    → trail_among mine (start_of m b.starts) happenings ≡ trail_among mine (start_of n c.starts) others
    → EndAlike mine (regions_of mine 0 b.rights) found there s t

-- the jobs of client c, by their numbers
unfoldable pub jobs_of : ℕ → FileModel → Client
jobs_of c f j = nat_lt j (length f.jobs) && ((job_of f j).client == c)

-- all that they may reach: their tile slots, the buffers that their handles name, and their emitted lists
abbrev pub reach_of : ℕ → FileModel → List Interval
reach_of c f = regions_of (jobs_of c f) 0 (file_rights f)

-- the buffer that handle i of job j names
abbrev pub named_at : FileModel → ℕ → ℕ → Buffer
named_at f j i = buffer_at f.buffers (slice_index (job_of f j).handles i)

-- Two buffers of one kind take the same bytes of memory.
pub record StandAlike (one other : Buffer) : Type 0 where
  pub place : one.place ≡ other.place
  pub size : one.size ≡ other.size
  pub kind : one.kind ≡ other.kind

-- Job j has the same places in both files: of its lists, which are as long, of its tile slot, and of the buffers that its handles name.
pub record PlacedAlike (f g : FileModel) (j : ℕ) : Type 0 where
  pub layout : layout_of f j ≡ layout_of g j
  pub lengths : lengths_of f j ≡ lengths_of g j
  pub handles : length (job_of f j).handles ≡ length (job_of g j).handles
  pub named : (i : ℕ) → i < length (job_of f j).handles → StandAlike (named_at f j i) (named_at g j i)

-- The files are neighbours for client c: the jobs of that client have the same numbers in both, and the same places. All else may differ:
-- how many jobs of other clients there are, what they do, what they name, and the whole memory beside.
pub record AreNeighbourFiles (c : ℕ) (f g : FileModel) : Type 0 where
  pub jobs : (j : ℕ) → jobs_of c f j ≡ jobs_of c g j
  pub places : (j : ℕ) → jobs_of c f j ≡ true → PlacedAlike f g j

-- what a run of the file's jobs begins with
abbrev pub beginning_of : FileModel → Beginning
beginning_of f = record { rights = file_rights f; plains = plain_of f; memory = memory_of f; starts = file_starts f }

-- Memory m has lists and code of all jobs of f, n has those of g, and both have the same bytes where the client's jobs may reach. So it is
-- of the two emitted memories where these are alike there.
pub record AlikeTo (c : ℕ) (f g : FileModel) (m n : List ℕ) : Type 0 where
  pub one : Agree (fixed_of f) (memory_of f) m
  pub other : Agree (fixed_of g) (memory_of g) n
  pub client : Agree (reach_of c f) m n

-- To client c the two files are the same: take any run of each, from memories that are alike to it, in which its own jobs take the same
-- steps, in the same order, on the same units and threads and with the same words. Then its jobs make the same accesses, and what they may
-- reach holds the same bytes at the end. So it is also while others write meanwhile what isn't this client's, nor lists or code.
pub record AreApart (c : ℕ) (f g : FileModel) : Type 0 where
  pub alone : (m n : List ℕ) → AlikeTo c f g m n → RunsApart (jobs_of c f) (beginning_of f) (beginning_of g) m n
  pub while_others_write : (m n : List ℕ) → AlikeTo c f g m n → RunsApartAmong (jobs_of c f) (beginning_of f) (beginning_of g) m n

-- To each client the file is the same as every neighbour in which no rule is broken.
abbrev pub IsApart : FileModel → Type 0
IsApart f =
    (c : ℕ) (others : List ℕ) → IsBytes others → refusal_of others ≡ None
    → AreNeighbourFiles c f (file_at others) → AreApart c f (file_at others)

-- So it is of the file that any bytes hold in which no rule is broken.
abbrev pub BytesApart : Type 0
BytesApart = (bytes : List ℕ) → IsBytes bytes → refusal_of bytes ≡ None → IsApart (file_at bytes)
