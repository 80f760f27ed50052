-- A machine whose texture unit is to serve undefined set-up words is not safe.
use Rattle.std.proofs.Common.{◌≡◌, ◌⊎◌, inl, inr, ℕ, Bool, true, false, [], slice_index, refl, subst}
use Rattle.std.specs.Prelude.{◌||◌}
use Rattle.field_words.specs.declared.access.Actor.TheVariants.{Tmu as TheTmu}
use Rattle.machine_plan.specs.declared.who.Who.{Who}
use Rattle.qpu_machine.specs.Request.{is_undefined, texture_plan, ask_plan}
use Rattle.texture_layouts.specs.{Fits.has_two_strides, Fits.lacks_stride, Fits.is_unlisted, Fits.has_child_image, Setup.texture_of}
use Rattle.job_safety.proofs.{Packets.AllSafe, Packets.wild_where, Steps.request_step}
use Rattle.strength_law.specs.Requests.{IsUndefinedTexture, TexturesUndefinedAreUnsafe}

one_of_four : (a b c d : Bool) → (a ≡ true) ⊎ ((b ≡ true) ⊎ ((c ≡ true) ⊎ (d ≡ true))) → ((a || b) || (c || d)) ≡ true
one_of_four a b c d (inl is) = rw is refl
one_of_four true b c d (inr (inl is)) = refl
one_of_four false b c d (inr (inl is)) = rw is refl
one_of_four true b c d (inr (inr is)) = refl
one_of_four false true c d (inr (inr is)) = refl
one_of_four false false c d (inr (inr (inl is))) = rw is refl
one_of_four false false true d (inr (inr (inr is))) = refl
one_of_four false false false d (inr (inr (inr is))) = is

undefined_is : (p0 p1 p2 p3 : ℕ) → IsUndefinedTexture p0 p1 p2 p3 → is_undefined p0 p1 p2 p3 ≡ true
unfolding is_undefined
undefined_is p0 p1 p2 p3 is = one_of_four (has_two_strides p0 p2 p3) (lacks_stride p0 p2 p3) (is_unlisted (texture_of p0 p1 p2 p3)) (has_child_image p2 p3) is

pub textures_undefined_law : TexturesUndefinedAreUnsafe
unfolding texture_plan
textures_undefined_law jobs m u k unit request at four is undefined safe =
    let who : Who = record { unit = TheTmu k unit; job = request.job } in
    let served = subst (λ ask. AllSafe jobs who m (ask_plan ask [])) is (request_step jobs m u k unit request [] at safe) in
    wild_where jobs who m (is_undefined (slice_index four 0) (slice_index four 1) (slice_index four 2) (slice_index four 3)) _
    (undefined_is (slice_index four 0) (slice_index four 1) (slice_index four 2) (slice_index four 3) undefined) served
