-- States of the machine that are written by hand. A place outside the memory reads as zero, so a memory here is a few bytes.
use Rattle.std.specs.Prelude.{ℕ, ◌+◌, ◌*◌, ◌/◌, ◌%◌, ◌^◌, Bool, true, false, List, [], ◌∷◌, ◌++◌, replicate, None, Some}
use Rattle.field_words.specs.declared.access.Access.{Access}
use Rattle.field_words.specs.declared.access.Way.TheVariants.{Read, Write}
use Rattle.field_words.specs.declared.access.Actor.{Actor}
use Rattle.list_machine.specs.Lists.{Lists}
use Rattle.list_machine.specs.declared.state.Item.{Item}
use Rattle.list_machine.specs.declared.state.Primitive.{Primitive}
use Rattle.machine.specs.State.{State}
use Rattle.qpu_machine.specs.declared.state.Qpu.{Qpu}
use Rattle.qpu_machine.specs.declared.state.Thread.{Thread}
use Rattle.qpu_machine.specs.Qpu.{idle_qpu}
use Rattle.qpu_machine.specs.Start.{idle}

-- accesses for job 0
abbrev pub reads : Actor → ℕ → ℕ → Access
reads unit place len = record { way = Read; place = place; len = len; unit = unit; job = 0 }

abbrev pub writes : Actor → ℕ → ℕ → Access
writes unit place len = record { way = Write; place = place; len = len; unit = unit; job = 0 }

-- a memory, what the list units of some jobs keep, and the first processor; all others are idle
abbrev pub state : List ℕ → List Lists → Qpu → State
state memory jobs qpu = record { memory = memory; units = record { jobs = jobs; qpus = qpu ∷ replicate 11 idle_qpu } }

-- one job, and no processor has work
abbrev pub one_job : List ℕ → Lists → State
one_job memory lists = state memory (lists ∷ []) idle_qpu

-- a job with two empty lists
abbrev pub no_lists : Lists
no_lists = record {
  binner = record { place = 0; end = 0; kept = record { config = None; started = false; word = None }; work = None };
  renderer = record { place = 0; end = 0; frame = None; x = 0; y = 0; waiting = None; inside = None };
  pending = 0;
  semaphore = 0;
  closed = false;
  blocks = 0;
  items = [];
}

-- a thread that has just begun for job 0, at this place and with its uniforms from that one on
abbrev pub new_thread : Bool → ℕ → ℕ → Thread
new_thread threaded place uniforms = record {
  job = 0;
  threaded = threaded;
  place = place;
  uniforms = uniforms;
  setups0 = record { items = [] };
  setups1 = record { items = [] };
  a = replicate 32 (replicate 16 0);
  b = replicate 32 (replicate 16 0);
  fresh = true;
  acc = replicate 6 (replicate 16 0);
  last1 = idle;
  last2 = idle;
  last3 = idle;
  results0 = record { items = [] };
  results1 = record { items = [] };
}

-- a processor of which the first thread runs
abbrev pub running : Thread → Qpu
running thread = record idle_qpu { first = Some thread }

-- the eight bytes of an instruction
abbrev pub bytes : ℕ → List ℕ
bytes word =
    word % 256 ∷ word / 2 ^ 8 % 256 ∷ word / 2 ^ 16 % 256 ∷ word / 2 ^ 24 % 256
    ∷ word / 2 ^ 32 % 256 ∷ word / 2 ^ 40 % 256 ∷ word / 2 ^ 48 % 256 ∷ word / 2 ^ 56 ∷ []

-- a signal alone: both units write to 39, which is nothing
abbrev pub signal : ℕ → ℕ
signal number = number * 2 ^ 60 + 39 * 2 ^ 38 + 39 * 2 ^ 32

-- so many vertices from vertex 5 on
abbrev pub from_5 : ℕ → Primitive
from_5 length = record { indexed = false; wide = false; length = length; address = 5; most = 0 }

-- a job that has this primitive in work for this state word, with so many vertices done, and a program due or not
abbrev pub drawing : ℕ → Primitive → ℕ → Bool → Lists
drawing word primitive done due = record no_lists {
  binner = record {
    place = 2;
    end = 20;
    kept = record { config = None; started = false; word = None };
    work = Some (record { word = word; primitive = primitive; done = done; due = due });
  };
}

-- a record at place 16 whose coordinate program's code is at 64, and its uniforms at 80
abbrev pub coordinate_record : List ℕ
coordinate_record = replicate 44 9 ++ (64 ∷ 0 ∷ 0 ∷ 0 ∷ 80 ∷ 0 ∷ 0 ∷ 0 ∷ [])

-- An allocation of so many bytes from place 256 on, for two tiles. The job's primitive's vertices are done; it has these items in its tile
-- lists, and so many further blocks taken.
abbrev pub tiling : ℕ → ℕ → List Item → Lists
tiling size blocks items = record no_lists {
  binner = record {
    place = 2;
    end = 20;
    kept = record { config = Some (record { address = 256; size = size; states = 0; tiles_x = 2; tiles_y = 1 }); started = true; word = None };
    work = Some (record { word = 17; primitive = from_5 4; done = 4; due = false });
  };
  blocks = blocks;
  items = items;
}
