use Rattle.std.proofs.Common.{◌≡◌, ◌||◌, ap, refl, rules, tests, Bool, List, [], ◌∷◌, map}
use Rattle.std.proofs.lemmas.Iterator.{YieldsList-from_slice, Search.any_from_yields_List}
use Rattle.std.specs.List.{list_any}
use Rattle.pictures.specs.Roles.{has_surface}
use Rattle.pictures.proofs.roles.has_surface.Goals as goal

any_map : {X Y : Type 0} (test : Y → Bool) (f : X → Y) (xs : List X) → list_any test (map f xs) ≡ list_any (λ x. test (f x)) xs
any_map test f [] = refl
any_map test f (x ∷ xs) = ap (λ rest. test (f x) || rest) (any_map test f xs)

pub returns : goal.returns
unfolding has_surface
returns c =
    rw any_map (any_from_yields_List _ _ _ _ c.any.ensures.ran (YieldsList-from_slice c.args.jobs.now cc) (λ x b q k. search (rules, tests)))
