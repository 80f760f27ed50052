-- The regions of a client's jobs, where one more is admitted, and where one retires.
use Rattle.std.proofs.Common.{◌≡◌, ◌≢◌, ℕ, zero, suc, ◌⊎◌, inl, inr, true, List, [], ◌∷◌, ◌++◌, length, refl, sym, ◌∙◌, ap, subst, arith}
use Rattle.std.specs.Prelude.{unwrap_or}
use Rattle.std.proofs.lemmas.Option.{unwrap_or-slice_get}
use Rattle.machine_plan.specs.Regions.{Inside, Rights, rights_of}
use Rattle.machine.specs.State.{item_at}
use Rattle.promises.specs.{Trail.Client, Apart.regions_of, Days.Admitted, Days.no_rights, Days.rights_in}
use Rattle.machine_law.proofs.Apart.{covered, in_own, own_at}
use Rattle.day_law.proofs.Lists.{more_rights, without, without_rights}

same_rights : (rs qs : List Rights) (j : ℕ) → item_at rs j ≡ item_at qs j → rights_of rs j ≡ rights_of qs j
same_rights rs qs j same = sym (unwrap_or-slice_get rs j no_rights) ∙ (ap (λ o. unwrap_or o no_rights) same ∙ unwrap_or-slice_get qs j no_rights)

-- Where the client's jobs have the same rights, their regions are the same.
pub regions_same : (mine : Client) (rs qs : List Rights) → ((j : ℕ) → mine j ≡ true → item_at rs j ≡ item_at qs j) → (p : ℕ) → Inside (regions_of mine 0 rs) p 1 → Inside (regions_of mine 0 qs) p 1
regions_same mine rs qs same p lies =
    let one = in_own mine 0 rs p 1 lies in
    let own = own_at mine rs p 1 one in
    covered mine qs one.j p 1 own (subst (λ (r : Rights). Inside r.region p 1) (same_rights rs qs one.j (same one.j own)) one.lies)

-- one more
pub items_more : {X : Type 0} (xs : List X) (x : X) (j : ℕ) → j ≢ length xs → item_at (xs ++ x ∷ []) j ≡ item_at xs j
items_more [] x zero other = absurd (other refl)
items_more [] x (suc j) other = refl
items_more (y ∷ xs) x zero other = refl
items_more (y ∷ xs) x (suc j) other = items_more xs x j (λ e. other (ap (λ n. suc n) e))

pub both_items : {X : Type 0} (xs ys : List X) (x : X) (j : ℕ) → length xs ≡ length ys → item_at xs j ≡ item_at ys j → item_at (xs ++ x ∷ []) j ≡ item_at (ys ++ x ∷ []) j
both_items [] [] x j long same = refl
both_items [] (b ∷ ys) x j long same = absurd (omega (arith, long))
both_items (a ∷ xs) [] x j long same = absurd (omega (arith, long))
both_items (a ∷ xs) (b ∷ ys) x zero long same = same
both_items (a ∷ xs) (b ∷ ys) x (suc j) long same = both_items xs ys x j (omega (arith, long)) same

pub regions_more : (mine : Client) (jobs : List Admitted) (one : Admitted) (p : ℕ) → Inside (regions_of mine 0 (rights_in (jobs ++ one ∷ []))) p 1 → Inside (regions_of mine 0 (rights_in jobs)) p 1 ⊎ Inside one.rights.region p 1
regions_more mine jobs one p lies =
    let rs : List Rights = rights_in (jobs ++ one ∷ []) in
    let own = in_own mine 0 rs p 1 lies in
    elim (more_rights jobs one own.j) [
      | inl old ↦ inl (covered mine (rights_in jobs) own.j p 1 (own_at mine rs p 1 own) (subst (λ (r : Rights). Inside r.region p 1) old own.lies))
      | inr new ↦ inr (subst (λ (r : Rights). Inside r.region p 1) new.0 own.lies)
    ]

-- one less
pub regions_less : (mine : Client) (jobs : List Admitted) (k p : ℕ) → Inside (regions_of mine 0 (rights_in (without jobs k))) p 1 → Inside (regions_of mine 0 (rights_in jobs)) p 1
regions_less mine jobs k p lies =
    let rs : List Rights = rights_in (without jobs k) in
    let own = in_own mine 0 rs p 1 lies in
    elim (without_rights jobs k own.j) [
      | inl old ↦ covered mine (rights_in jobs) own.j p 1 (own_at mine rs p 1 own) (subst (λ (r : Rights). Inside r.region p 1) old own.lies)
      | inr none ↦ absurd (subst (λ (r : Rights). Inside r.region p 1) none own.lies)
    ]
