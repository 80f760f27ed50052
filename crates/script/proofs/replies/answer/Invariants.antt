use Rattle.std.proofs.Common.{string_bytes, length}
use Rattle.script.proofs.Answered.{Answered}
use Rattle.script.proofs.replies.answer.Given as goal

abbrev pub invariant-loop-rest : goal.invariant-loop-rest
invariant-loop-rest g l = (start : g.C.Clerk.Past) → g.C.Clerk.Stands 0 start l.initial.clerk
    → Answered g.C.Clerk.Past (λ lines past. g.C.Clerk.Stands lines past l.clerk) g.C.Clerk.reply g.C.Clerk.after start l.fn.text (string_bytes l.out) l.rest

abbrev pub decreases-loop-rest : goal.decreases-loop-rest
decreases-loop-rest g l = length l.rest
