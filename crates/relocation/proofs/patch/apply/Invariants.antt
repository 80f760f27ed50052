use Rattle.std.proofs.Common.{◌≡◌, length, drop}
use Rattle.relocation.specs.Patches.{window_patched, AllInside}
use Rattle.relocation.proofs.patch.apply.Given as goal

-- the patches that are left give the whole, and they lie inside
pub record Going (l : goal.Live-loop-patch) : Type 0 where
  pub rest : window_patched l.out (drop l.patch-index l.patches) ≡ window_patched l.fn.out l.patches
  pub inside : AllInside (length l.fn.out) (drop l.patch-index l.patches)
  pub long : length l.out ≡ length l.fn.out

abbrev pub invariant-loop-patch : goal.invariant-loop-patch
invariant-loop-patch l = Going l
