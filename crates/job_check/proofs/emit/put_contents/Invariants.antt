use Rattle.std.proofs.Common.{◌≡◌, length, map, drop}
use Rattle.field_words.specs.Writes.{parts_placed}
use Rattle.job_check.specs.Emit.{content_parts, ContentsFit}
use Rattle.job_check.proofs.emit.put_contents.Given as goal

-- what is left to put gives the whole, and it fits
pub record Going (l : goal.Live-loop-k) : Type 0 where
  pub rest : parts_placed l.memory (content_parts (drop l.k l.buffers) (map (λ c. c.now) (drop l.k l.contents.items))) ≡ parts_placed l.fn.memory (content_parts l.buffers (map (λ c. c.now) l.contents.items))
  pub fit : ContentsFit (length l.fn.memory) (drop l.k l.buffers) (map (λ c. c.now) (drop l.k l.contents.items))
  pub long : length l.memory ≡ length l.fn.memory

abbrev pub invariant-loop-k : goal.invariant-loop-k
invariant-loop-k l = Going l
