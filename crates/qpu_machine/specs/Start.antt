-- A thread that has just been started.
use Rattle.std.specs.Prelude.{ℕ, ◌+◌, ◌*◌, ◌^◌, true, [], None, replicate}
use Rattle.qpu_machine.specs.{State.Launch, State.Mark, State.Thread, Row.row_of_word}

-- Before a program's first instruction stand instructions that do nothing: signal 1, and both units
-- write to 39.
abbrev pub idle : Mark
idle = record { word = 2 ^ 60 + 39 * 2 ^ 38 + 39 * 2 ^ 32; to = None }

-- A program starts with zeros in its files and without setup words and results. The thread is fresh,
-- so what r0 to r5 hold means nothing.
unfoldable pub thread_of : ℕ → Launch → Thread
thread_of job launch = record {
  job = job;
  threaded = launch.threaded;
  place = launch.code;
  uniforms = launch.uniforms;
  setups0 = record { items = [] };
  setups1 = record { items = [] };
  a = replicate 32 (row_of_word 0);
  b = replicate 32 (row_of_word 0);
  fresh = true;
  acc = replicate 6 (row_of_word 0);
  last1 = idle;
  last2 = idle;
  last3 = idle;
  results0 = record { items = [] };
  results1 = record { items = [] };
}
