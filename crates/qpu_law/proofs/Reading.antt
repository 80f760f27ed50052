-- What a TMU reads for a request that is fine.
use Rattle.std.proofs.Common.{◌≡◌, ◌≤◌, ◌<◌, ℕ, zero, suc, ◌+◌, ◌-◌, ◌%◌, ◌^◌, ◌&&◌, ◌==◌, Bool, false, if◌then◌else◌, List, [], ◌∷◌, ◌++◌, Option, Some, None, inl, inr, refl, sym, ap, subst, arith, nat_lt, rules}
use Rattle.std.proofs.lemmas.{Bool.or_from, Grind.common_steps}
use Rattle.field_words.specs.{Questions.first_of, Words.u32_at, Words.bits_of}
use Rattle.field_words.specs.declared.access.{Access.Access, Way.TheVariants.Read}
use Rattle.field_words.proofs.Questions.{none_broken}
use Rattle.texture_layouts.specs.Setup.{TextureModel, texture_of, is_cube_word, kind_of, cube_stride_of, type_of, pixels_of, side_of, faces_of, level_width_of, level_height_of, tiling_at, size_at, size_below}
use Rattle.texture_layouts.specs.{Level.level_side_of, Fits.has_two_strides, Fits.lacks_stride, Fits.is_unlisted, Fits.texture_questions}
use Rattle.texture_layouts.specs.Fetch.{fetch_size_of, fetch_reach, place_from, fetch_place_of, AreFetchesIn}
use Rattle.texture_layouts.proofs.{Inside.in_buffer, Fetches.fetches_in, Moved.texture_moved}
use Rattle.machine_plan.specs.{declared.who.Who.Who, Memory.bytes_at, Plan.Plan, Plan.access, Plan.Keeps}
use Rattle.machine_plan.specs.Regions.{Every, Interval, LiesIn, Inside, Rights, IsSafeIn}
use Rattle.machine_plan.proofs.{Safe.read_safe, Worlds.keeps_mapped}
use Rattle.qpu_machine.specs.Request.{direct_plan, ask_plan, chosen_level, chosen_face, chosen_x, chosen_y, chosen_place, chosen_length, read_at, texture_reads, is_undefined, texture_plan}
use Rattle.qpu_machine.specs.declared.state.Ask.{Ask, TheVariants.Direct, TheVariants.Texture}
use Rattle.qpu_law.specs.Asks.{IsWordIn, IsTextureIn, IsAskIn, IsFineAsk, AsksStayIn, FineAsksAreSafe}
use Rattle.promises.specs.Rights.{IsOneOf}

-- A direct request reads at each of its addresses.
direct_keeps : (within : Interval) (row found : List ℕ) → Every (IsWordIn within) row
    → (who : Who) (m : List ℕ) (L : ℕ → ℕ → Type 0) (G : Access → Type 0)
    → ((place len : ℕ) → LiesIn place len within → G (access who Read place len))
    → Keeps who L G (λ k r. k ≡ m) (direct_plan row found) m
unfolding direct_plan
direct_keeps within [] found fine who m L G usable = refl
direct_keeps within (address ∷ row) found fine who m L G usable = search (rules, arith, direct_keeps within row (found ++ (u32_at (bytes_at m (address - address % 4) 4) 0 ∷ [])) fine.1 who m L G usable)

-- the read of a pixel that doesn't lie below 0 and ends in the interval
record IsPixelIn (within : Interval) (place : Option ℕ) (len : ℕ) : Type 0 where
  at : ℕ
  is : place ≡ Some at
  inside : LiesIn at len within

if_in : (reach below : ℕ) (b : Bool) → nat_lt reach below ≡ b → below ≤ reach → (if b then None else Some (reach - below)) ≡ Some (reach - below)
if_in reach below b is h4 = search (rules, arith)

place_some : (reach below : ℕ) → below ≤ reach → place_from reach below ≡ Some (reach - below)
place_some reach below not-below = if_in reach below (nat_lt reach below) refl not-below

-- Where fetches lie in a buffer, and the texture's base counts from the buffer's place, the reads lie in the buffer.
moved_reach : (t : TextureModel) (place level face x y : ℕ)
    → fetch_reach (record t { base = t.base + place }) face level x y ≡ fetch_reach t face level x y + place
unfolding fetch_reach
moved_reach t place level face x y = omega arith

below_moved : (t : TextureModel) (place n : ℕ) → size_below (record t { base = t.base + place }) n ≡ size_below t n
unfolding size_below
below_moved t place zero = refl
below_moved t place (suc n) = ap (λ b. b + size_at t (n + 1)) (below_moved t place n)

read_in : (t : TextureModel) (within : Interval) (face level x y : ℕ) → AreFetchesIn t within.size
    → face < faces_of t → level ≤ t.levels → x < level_width_of t level → y < level_height_of t level
    → IsPixelIn within (fetch_place_of (record t { base = t.base + within.place }) face level x y) (fetch_size_of (tiling_at t level) t.cpp)
unfolding fetch_place_of
read_in t within face level x y fits face_in level_in x_in y_in = search (rules, arith, moved_reach, below_moved, place_some)

-- The choice words name a level, a face and a pixel that there are.
below_modulo : (n k : ℕ) → 0 < k → n % k < k
below_modulo n k some = grind (arith, common_steps, some)

side_some : (side level : ℕ) → 0 < side → 0 < level_side_of side level
unfolding level_side_of
side_some side level some = grind (arith, common_steps, some)

faces_some : (t : TextureModel) → 0 < faces_of t
unfolding faces_of
faces_some t = grind (arith, common_steps)

-- what is asked of a texture is a texture with both sides
record HasSides (t : TextureModel) : Type 0 where
  across : 0 < t.width
  down : 0 < t.height

pixels_some : (field : ℕ) → 0 < pixels_of field
unfolding pixels_of
pixels_some field = grind (arith, common_steps)

side_of_some : (kind field : ℕ) → 0 < side_of kind field
unfolding side_of
side_of_some kind field = let some = pixels_some field in grind (arith, common_steps, some)

has_sides : (p0 p1 p2 p3 : ℕ) → HasSides (texture_of p0 p1 p2 p3)
unfolding texture_of
has_sides p0 p1 p2 p3 = record { across = side_of_some (type_of p0 p1) (bits_of p1 18 8); down = side_of_some (type_of p0 p1) (bits_of p1 30 20) }

chosen_in : (t : TextureModel) (within : Interval) (words : List ℕ) (m : ℕ) → AreFetchesIn t within.size → HasSides t
    → IsPixelIn within (chosen_place (record t { base = t.base + within.place }) words m) (chosen_length (record t { base = t.base + within.place }) words m)
unfolding chosen_place chosen_length chosen_level chosen_face chosen_x chosen_y faces_of
chosen_in t within words m fits sides = search (rules, arith, read_in, below_modulo, faces_some, side_some)

read_keeps : {R : Type 0} (within : Interval) (place : Option ℕ) (len : ℕ) (next : Plan R) → IsPixelIn within place len
    → (who : Who) (m : List ℕ) (L : ℕ → ℕ → Type 0) (G : Access → Type 0) (P : List ℕ → R → Type 0)
    → ((q n : ℕ) → LiesIn q n within → G (access who Read q n))
    → Keeps who L G P next m → Keeps who L G P (read_at place len next) m
read_keeps within place len next read who m L G P usable later = search (rules, arith)

reads_keep : (t : TextureModel) (within : Interval) (words : List ℕ) → AreFetchesIn t within.size → HasSides t
    → (who : Who) (m : List ℕ) (L : ℕ → ℕ → Type 0) (G : Access → Type 0)
    → ((q n : ℕ) → LiesIn q n within → G (access who Read q n))
    → (n k : ℕ) → Keeps who L G (λ k r. k ≡ m) (texture_reads (record t { base = t.base + within.place }) words k n) m
unfolding texture_reads
reads_keep t within words fits sides who m L G usable zero k = refl
reads_keep t within words fits sides who m L G usable (suc n) k =
    let moved = record t { base = t.base + within.place } in
    read_keeps within (chosen_place moved words k) (chosen_length moved words k) (texture_reads moved words (k + 1) n)
    (chosen_in t within words k fits sides) who m L G (λ k r. k ≡ m) usable (reads_keep t within words fits sides who m L G usable n (k + 1))

cube_moves : (source place : ℕ) → place % 4096 ≡ 0 → is_cube_word (source + place) ≡ is_cube_word source
unfolding is_cube_word
cube_moves source place page = ap (λ b. b == 1) (omega (arith, page))

-- No rule of textures is broken, so nothing of the four words is undefined.
unlisted_moves : (t : TextureModel) (place : ℕ) → is_unlisted (record t { base = t.base + place }) ≡ is_unlisted t
unfolding is_unlisted
unlisted_moves t place = refl

strides_move : (source place p2 p3 : ℕ) → place % 4096 ≡ 0 → has_two_strides (source + place) p2 p3 ≡ has_two_strides source p2 p3
unfolding has_two_strides
strides_move source place p2 p3 page = ap (λ c. c && (kind_of p2 == 1 && kind_of p3 == 1)) (cube_moves source place page)

lacks_moves : (source place p2 p3 : ℕ) → place % 4096 ≡ 0 → lacks_stride (source + place) p2 p3 ≡ lacks_stride source p2 p3
unfolding lacks_stride
lacks_moves source place p2 p3 page = ap (λ c. c && cube_stride_of p2 p3 == 0) (cube_moves source place page)

defined : (source place p1 p2 p3 size : ℕ) → place % 4096 ≡ 0 → source + place < 2 ^ 32 → first_of (texture_questions source p1 p2 p3 size) ≡ None
    → is_undefined (source + place) p1 p2 p3 ≡ false
unfolding is_undefined texture_questions
defined source place p1 p2 p3 size page word none = search (rules, arith, none_broken, strides_move, lacks_moves, texture_moved, unlisted_moves, or_from)

texture_keeps : (within : Interval) (p0 p1 p2 p3 : ℕ) → IsTextureIn within p0 p1 p2 p3
    → (who : Who) (words m : List ℕ) (L : ℕ → ℕ → Type 0) (G : Access → Type 0)
    → ((q n : ℕ) → LiesIn q n within → G (access who Read q n))
    → Keeps who L G (λ k r. k ≡ m) (texture_plan p0 p1 p2 p3 words) m
unfolding texture_plan
texture_keeps within p0 p1 p2 p3 fine who words m L G usable = search (rules, arith, reads_keep, fetches_in, in_buffer, has_sides, texture_moved, defined)

-- over any demands on looks and accesses
pub ask_keeps : (within : Interval) (ask : Ask) → IsAskIn within ask
    → (who : Who) (words m : List ℕ) (L : ℕ → ℕ → Type 0) (G : Access → Type 0)
    → ((q n : ℕ) → LiesIn q n within → G (access who Read q n))
    → Keeps who L G (λ k r. k ≡ m) (ask_plan ask words) m
ask_keeps within (Direct row) fine who words m L G usable = search (rules, arith, keeps_mapped, direct_keeps)
ask_keeps within (Texture four) fine who words m L G usable = search (rules, arith, texture_keeps)

pub asks_stay_in_law : AsksStayIn
asks_stay_in_law within ask fine who words m = search (rules, arith, ask_keeps)

pub one_inside : (region : List Interval) (place size q n : ℕ) → IsOneOf region place size → LiesIn q n (record { place = place; size = size }) → Inside region q n
one_inside [] place size q n none lies = absurd none
one_inside (one ∷ others) place size q n (inl is) lies = inl (subst (λ i. LiesIn q n i) (sym is) lies)
one_inside (one ∷ others) place size q n (inr other) lies = inr (one_inside others place size q n other lies)

-- likewise over any naming that the region covers
pub fine_ask_keeps : (IsNamed : ℕ → ℕ → Type 0) (rights : Rights)
    → ((place size q n : ℕ) → IsNamed place size → LiesIn q n (record { place = place; size = size }) → Inside rights.region q n)
    → (ask : Ask) → IsFineAsk IsNamed ask → (who : Who) (words m : List ℕ) (L : ℕ → ℕ → Type 0)
    → Keeps who L (IsSafeIn rights) (λ k r. k ≡ m) (ask_plan ask words) m
fine_ask_keeps IsNamed rights covers ask fine who words m L = search (rules, arith, ask_keeps, read_safe)

pub fine_asks_are_safe_law : FineAsksAreSafe
fine_asks_are_safe_law rights ask fine who words m = search (rules, arith, fine_ask_keeps, one_inside)
