use Rattle.uniform_stream.specs.{Stream.IsFilled, Walk.IsRunning, Walk.words_before}
use Rattle.uniform_stream.proofs.walk.stream.Given as goal

abbrev pub invariant-loop-at : goal.invariant-loop-at
invariant-loop-at l = record { running : IsRunning l.code l.at l.now; filled : IsFilled l.code l.at l.at (words_before l.code l.at) l.made }
