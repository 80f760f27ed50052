-- What safety refuses of a request for a texture: each case in which its four set-up words are undefined.
use Rattle.std.specs.Prelude.{◌≡◌, ◌⊎◌, ℕ, true, List, slice_index}
use Rattle.machine_plan.specs.{Regions.Rights, World.Safe}
use Rattle.qpu_machine.specs.{declared.state.Ask.TheVariants.Texture, declared.state.Request.Request}
use Rattle.texture_layouts.specs.{Fits.has_two_strides, Fits.lacks_stride, Fits.is_unlisted, Fits.has_child_image, Setup.texture_of}
use Rattle.machine.specs.{State.Units, Step.ready, Step.turn}
use Rattle.job_safety.specs.Strength.{IsOldest}

-- a cube map of two strides or of none, a type that isn't listed, a child image
abbrev pub IsUndefinedTexture : ℕ → ℕ → ℕ → ℕ → Type 0
IsUndefinedTexture p0 p1 p2 p3 =
    (has_two_strides p0 p2 p3 ≡ true)
    ⊎ ((lacks_stride p0 p2 p3 ≡ true) ⊎ ((is_unlisted (texture_of p0 p1 p2 p3) ≡ true) ⊎ (has_child_image p2 p3 ≡ true)))

abbrev pub TexturesUndefinedAreUnsafe : Type 0
TexturesUndefinedAreUnsafe =
    (jobs : List Rights) (m : List ℕ) (u : Units) (k unit : ℕ) (request : Request) → IsOldest u k unit request
    → (four : List ℕ) → request.ask ≡ Texture four
    → IsUndefinedTexture (slice_index four 0) (slice_index four 1) (slice_index four 2) (slice_index four 3)
    → Safe ready turn jobs m u → ⊥
