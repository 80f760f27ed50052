-- The text so far, and that the numbers in it fit.
use Rattle.std.proofs.Common.{◌≡◌, ◌++◌, map, take}
use Rattle.std.specs.List.{flat_map, AllByRecursion}
use Rattle.field_words.specs.Words.{IsBytes}
use Rattle.job_format.proofs.writing.put_contents.Given as goal

abbrev pub invariant-loop-content : goal.invariant-loop-content
invariant-loop-content l = (l.out.items ≡ l.fn.out.items ++ flat_map (λ t. t) (map (λ c. c.items) (take l.content-index l.contents))) × AllByRecursion IsBytes (map (λ c. c.items) (take l.content-index l.contents))
