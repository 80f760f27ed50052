-- What is true of each item of a list.
use Rattle.std.proofs.Common.{List, [], ◌∷◌, ◌++◌}
use Rattle.machine_plan.specs.Regions.{Every}

pub every-append : {X : Type 0} (P : X → Type 0) (xs ys : List X) → Every P xs → Every P ys → Every P (xs ++ ys)
every-append P [] ys a b = b
every-append P (x ∷ xs) ys a b = (a.0, every-append P xs ys a.1 b)

pub every-front : {X : Type 0} (P : X → Type 0) (xs ys : List X) → Every P (xs ++ ys) → Every P xs
every-front P [] ys a = tt
every-front P (x ∷ xs) ys a = (a.0, every-front P xs ys a.1)

pub every-back : {X : Type 0} (P : X → Type 0) (xs ys : List X) → Every P (xs ++ ys) → Every P ys
every-back P [] ys a = a
every-back P (x ∷ xs) ys a = every-back P xs ys a.1

pub every-weaker : {X : Type 0} (P Q : X → Type 0) → ((x : X) → P x → Q x) → (xs : List X) → Every P xs → Every Q xs
every-weaker P Q f [] a = tt
every-weaker P Q f (x ∷ xs) a = (f x a.0, every-weaker P Q f xs a.1)
