-- The header and the job's entry, with its frame, and their texts, in both directions.
use Rattle.std.proofs.Common.{◌≡◌, ℕ, zero, suc, ◌+◌, ◌*◌, ◌<◌, ◌≤◌, ◌^◌, Bool, true, false, ◌==◌, List, [], ◌∷◌, ◌++◌, length, get_or, lit<, refl, sym, ap, subst, arith, ◌∙◌, add-zero, append_assoc}
use Rattle.std.specs.List.{flat_map, AllByRecursion}
use Rattle.field_words.specs.{Words.IsBytes, Words.u16_at, Words.u32_at, Pieces.IsPiece, WordBytes.half, WordBytes.word}
use Rattle.job_format.specs.{declared.file.Surface.Surface, declared.file.Frame.Frame, Model.JobModel, Model.FileModel, Faults.magic}
use Rattle.job_format.specs.Text.{flag, header_text, job_text, frame_text, surface_text}
use Rattle.job_format.specs.{File.SurfaceFits, File.FrameFits, File.JobFits, File.Fits, Reading.surface_at, Reading.frame_at}
use Rattle.job_format.proofs.Fields.{Field, Word, Half, Byte, widths, text_of_all, text_long, AreRead, AllFit, piece_of, read_back}

abbrev header_fields : FileModel → List Field
header_fields f =
    Word magic ∷ (Word f.version ∷ (Word f.mem_size ∷ (Word f.regions.lists_place ∷ (Word f.regions.lists_size ∷ (Word f.regions.tile_place ∷ (Word f.regions.tile_slots
    ∷ (Word (length f.buffers) ∷ (Word (length f.jobs) ∷ []))))))))

header_text_is : (f : FileModel) → header_text f ≡ text_of_all (header_fields f)
unfolding header_text
header_text_is f = refl

-- what the header's bytes say
pub record HeaderReads (bytes : List ℕ) (f : FileModel) : Type 0 where
  pub letters : u32_at bytes 0 ≡ magic
  pub version : u32_at bytes 4 ≡ f.version
  pub mem_size : u32_at bytes 8 ≡ f.mem_size
  pub lists_place : u32_at bytes 12 ≡ f.regions.lists_place
  pub lists_size : u32_at bytes 16 ≡ f.regions.lists_size
  pub tile_place : u32_at bytes 20 ≡ f.regions.tile_place
  pub tile_slots : u32_at bytes 24 ≡ f.regions.tile_slots
  pub buffers : u32_at bytes 28 ≡ length f.buffers
  pub jobs : u32_at bytes 32 ≡ length f.jobs

pub header_piece : (bytes : List ℕ) (f : FileModel) → IsBytes bytes → 36 ≤ length bytes → HeaderReads bytes f → IsPiece bytes 0 36 (header_text f)
header_piece bytes f fits inside r =
    subst (λ text. IsPiece bytes 0 36 text) (sym (header_text_is f))
    (piece_of bytes 0 0 (header_fields f) fits inside
    (r.letters, (r.version, (r.mem_size, (r.lists_place, (r.lists_size, (r.tile_place, (r.tile_slots, (r.buffers, (r.jobs, tt))))))))))

pub header_back : (bytes : List ℕ) (f : FileModel) → Fits f → length f.buffers < 2 ^ 32 → length f.jobs < 2 ^ 32 → IsPiece bytes 0 36 (header_text f) → HeaderReads bytes f
header_back bytes f fits few_buffers few_jobs piece =
    let g = fits.regions in
    let all_fit : AllFit (header_fields f) =
    (lit< tt, (fits.version, (fits.mem_size, (g.lists_place, (g.lists_size, (g.tile_place, (g.tile_slots, (few_buffers, (few_jobs, tt))))))))) in
    let r = read_back bytes 0 0 (header_fields f) all_fit (subst (λ text. IsPiece bytes 0 36 text) (header_text_is f) piece) in
    record {
      letters = r.0;
      version = r.1.0;
      mem_size = r.1.1.0;
      lists_place = r.1.1.1.0;
      lists_size = r.1.1.1.1.0;
      tile_place = r.1.1.1.1.1.0;
      tile_slots = r.1.1.1.1.1.1.0;
      buffers = r.1.1.1.1.1.1.1.0;
      jobs = r.1.1.1.1.1.1.1.1.0;
    }

-- the fields of surfaces one after the other, and then others
abbrev with_surfaces : List Surface → List Field → List Field
with_surfaces [] fs = fs
with_surfaces (s ∷ ss) fs = Word s.hindex ∷ (Word s.offset ∷ (Half s.bits ∷ (Half s.flags ∷ with_surfaces ss fs)))

-- n surfaces of an entry, from offset k on
abbrev surfaces_from : List ℕ → ℕ → ℕ → ℕ → List Surface
surfaces_from bytes at k zero = []
surfaces_from bytes at k (suc n) = surface_at bytes (at + k) ∷ surfaces_from bytes at (k + 12) n

surfaces_text : (ss : List Surface) (fs : List Field) → flat_map surface_text ss ++ text_of_all fs ≡ text_of_all (with_surfaces ss fs)
unfolding surface_text
surfaces_text [] fs = refl
surfaces_text (s ∷ ss) fs = append_assoc (surface_text s) (flat_map surface_text ss) (text_of_all fs) ∙ ap (λ t. surface_text s ++ t) (surfaces_text ss fs)

surfaces_wide : (ss : List Surface) (fs : List Field) → widths (with_surfaces ss fs) ≡ 12 * length ss + widths fs
surfaces_wide [] fs = omega arith
surfaces_wide (s ∷ ss) fs = let rest = surfaces_wide ss fs in omega arith

surfaces_fit : (ss : List Surface) (fs : List Field) → AllByRecursion SurfaceFits ss → AllFit fs → AllFit (with_surfaces ss fs)
surfaces_fit [] fs all fit = fit
surfaces_fit (s ∷ ss) fs all fit = (all.0.hindex, (all.0.offset, (all.0.bits, (all.0.flags, surfaces_fit ss fs all.1 fit))))

surfaces_read : (bytes : List ℕ) (at k n : ℕ) (fs : List Field) → AreRead bytes at (k + 12 * n) fs → AreRead bytes at k (with_surfaces (surfaces_from bytes at k n) fs)
unfolding surface_at
surfaces_read bytes at k zero fs read = subst (λ p. AreRead bytes at p fs) (omega arith) read
surfaces_read bytes at k (suc n) fs read =
    let later : AreRead bytes at (k + 12 + 12 * n) fs = subst (λ p. AreRead bytes at p fs) (omega arith) read in
    let rest : AreRead bytes at (k + 4 + 4 + 2 + 2) (with_surfaces (surfaces_from bytes at (k + 12) n) fs) =
    subst (λ p. AreRead bytes at p (with_surfaces (surfaces_from bytes at (k + 12) n) fs)) (omega arith) (surfaces_read bytes at (k + 12) n fs later) in
    (refl, (ap (u32_at bytes) (omega arith), (ap (u16_at bytes) (omega arith), (ap (u16_at bytes) (omega arith), rest))))

surfaces_back : (bytes : List ℕ) (at k : ℕ) (ss : List Surface) (fs : List Field) → AreRead bytes at k (with_surfaces ss fs)
    → (surfaces_from bytes at k (length ss) ≡ ss) × AreRead bytes at (k + 12 * length ss) fs
unfolding surface_at
surfaces_back bytes at k [] fs read = (refl, subst (λ p. AreRead bytes at p fs) (omega arith) read)
surfaces_back bytes at k (s ∷ ss) fs read =
    let later : AreRead bytes at (k + 12) (with_surfaces ss fs) = subst (λ p. AreRead bytes at p (with_surfaces ss fs)) (omega arith) read.1.1.1.1 in
    let rest = surfaces_back bytes at (k + 12) ss fs later in
    let offset : u32_at bytes (at + k + 4) ≡ s.offset = ap (u32_at bytes) (omega arith) ∙ read.1.0 in
    let bits : u16_at bytes (at + k + 8) ≡ s.bits = ap (u16_at bytes) (omega arith) ∙ read.1.1.0 in
    let flags : u16_at bytes (at + k + 10) ≡ s.flags = ap (u16_at bytes) (omega arith) ∙ read.1.1.1.0 in
    let one : surface_at bytes (at + k) ≡ s = rw (read.0, offset, bits, flags) refl in
    (ap (λ x. x ∷ surfaces_from bytes at (k + 12) (length ss)) one ∙ ap (λ xs. s ∷ xs) rest.0, subst (λ p. AreRead bytes at p fs) (omega arith) rest.1)

-- the values to clear with, a frame, and a job's entry
abbrev clear_fields : Frame → ℕ → ℕ → List Field
clear_fields f c1 c2 = Word c1 ∷ (Word c2 ∷ (Word f.clear_z ∷ (Byte f.clear_s ∷ (Byte 0 ∷ (Byte 0 ∷ (Byte 0 ∷ []))))))

abbrev frame_fields : Frame → ℕ → ℕ → List Field
frame_fields f c1 c2 =
    Half f.width ∷ (Half f.height ∷ (Byte f.min_x ∷ (Byte f.min_y ∷ (Byte f.max_x ∷ (Byte f.max_y ∷ with_surfaces f.surfaces (clear_fields f c1 c2))))))

abbrev head_fields : JobModel → List Field → List Field
head_fields j fs =
    Word j.client ∷ (Word (flag j.frame.clear) ∷ (Word (length j.handles) ∷ (Word (length j.bin) ∷ (Word (length j.records) ∷ (Word j.declared ∷ (Word (length j.uniforms) ∷ fs))))))

abbrev head_text : JobModel → List ℕ → List ℕ
head_text j text =
    word j.client ++ (word (flag j.frame.clear) ++ (word (length j.handles) ++ (word (length j.bin) ++ (word (length j.records) ++ (word j.declared ++ (word (length j.uniforms) ++ text))))))

frame_text_is : (f : Frame) (c1 c2 : ℕ) → f.clear_color ≡ c1 ∷ (c2 ∷ []) → frame_text f ≡ text_of_all (frame_fields f c1 c2)
unfolding frame_text
frame_text_is f c1 c2 colors =
    let front : List ℕ → List ℕ = λ t. half f.width ++ (half f.height ++ ((f.min_x ∷ f.min_y ∷ f.max_x ∷ f.max_y ∷ []) ++ t)) in
    ap (λ cs. front (flat_map surface_text f.surfaces ++ (flat_map word cs ++ (word f.clear_z ++ (f.clear_s ∷ 0 ∷ 0 ∷ 0 ∷ []))))) colors
    ∙ ap front (surfaces_text f.surfaces (clear_fields f c1 c2))

job_text_is : (j : JobModel) (c1 c2 : ℕ) → j.frame.clear_color ≡ c1 ∷ (c2 ∷ []) → job_text j ≡ text_of_all (head_fields j (frame_fields j.frame c1 c2))
unfolding job_text
job_text_is j c1 c2 colors = ap (head_text j) (frame_text_is j.frame c1 c2 colors)

job_wide : (j : JobModel) (c1 c2 : ℕ) → FrameFits j.frame → widths (head_fields j (frame_fields j.frame c1 c2)) ≡ 124
job_wide j c1 c2 fits = let wide = surfaces_wide j.frame.surfaces (clear_fields j.frame c1 c2) in omega (arith, fits.six)

two : (xs : List ℕ) → length xs ≡ 2 → (c1 c2 : ℕ) × (xs ≡ c1 ∷ (c2 ∷ []))
two (a ∷ (b ∷ [])) long = (a, b, refl)
two _ long = absurd (omega (arith, long))

pub job_long : (j : JobModel) → FrameFits j.frame → length (job_text j) ≡ 124
job_long j fits =
    let c = two j.frame.clear_color fits.two in
    ap length (job_text_is j c.0 c.1 c.2) ∙ text_long (head_fields j (frame_fields j.frame c.0 c.1)) ∙ job_wide j c.0 c.1 fits

-- what the bytes of the job's entry say
pub record JobReads (bytes : List ℕ) (at : ℕ) (j : JobModel) : Type 0 where
  pub client : u32_at bytes at ≡ j.client
  pub flags : u32_at bytes (at + 4) ≡ flag j.frame.clear
  pub handles : u32_at bytes (at + 8) ≡ length j.handles
  pub bin : u32_at bytes (at + 12) ≡ length j.bin
  pub records : u32_at bytes (at + 16) ≡ length j.records
  pub declared : u32_at bytes (at + 20) ≡ j.declared
  pub uniforms : u32_at bytes (at + 24) ≡ length j.uniforms
  pub frame : frame_at bytes at ≡ j.frame
  pub first : get_or bytes (at + 121) 0 ≡ 0
  pub second : get_or bytes (at + 122) 0 ≡ 0
  pub third : get_or bytes (at + 123) 0 ≡ 0

pub job_piece : (bytes : List ℕ) (at : ℕ) (j : JobModel) → IsBytes bytes → at + 124 ≤ length bytes → JobReads bytes at j → IsPiece bytes at 124 (job_text j)
unfolding job_text frame_at
job_piece bytes at j fits inside r =
    let f : Frame = frame_at bytes at in
    let c1 : ℕ = u32_at bytes (at + 108) in
    let c2 : ℕ = u32_at bytes (at + 112) in
    let client : u32_at bytes (at + 0) ≡ j.client = ap (u32_at bytes) (add-zero at) ∙ r.client in
    let clear : AreRead bytes at 108 (clear_fields f c1 c2) = (refl, (refl, (refl, (refl, (r.first, (r.second, (r.third, tt))))))) in
    let frame : AreRead bytes at 28 (frame_fields f c1 c2) = (refl, (refl, (refl, (refl, (refl, (refl, surfaces_read bytes at 36 6 (clear_fields f c1 c2) clear)))))) in
    let piece : IsPiece bytes (at + 0) 124 (text_of_all (head_fields j (frame_fields f c1 c2))) =
    piece_of bytes at 0 (head_fields j (frame_fields f c1 c2)) fits (omega arith) (client, (r.flags, (r.handles, (r.bin, (r.records, (r.declared, (r.uniforms, frame))))))) in
    subst (λ (g : Frame). IsPiece bytes at 124 (head_text j (frame_text g))) r.frame
    (subst (λ text. IsPiece bytes at 124 text) (sym (ap (head_text j) (frame_text_is f c1 c2 refl)))
    (subst (λ p. IsPiece bytes p 124 (text_of_all (head_fields j (frame_fields f c1 c2)))) (add-zero at) piece))

-- the sizes of a job's parts fit their fields
pub record SizesFit (j : JobModel) : Type 0 where
  pub handles : length j.handles < 2 ^ 32
  pub bin : length j.bin < 2 ^ 32
  pub records : length j.records < 2 ^ 32
  pub uniforms : length j.uniforms < 2 ^ 32

flag_fits : (b : Bool) → flag b < 2 ^ 32
flag_fits true = lit< tt
flag_fits false = lit< tt

flag_back : (b : Bool) → (flag b == 1) ≡ b
flag_back true = refl
flag_back false = refl

pub job_back : (bytes : List ℕ) (at : ℕ) (j : JobModel) → JobFits j → SizesFit j → IsPiece bytes at 124 (job_text j) → JobReads bytes at j
unfolding frame_at
job_back bytes at j fits sizes piece =
    let g : FrameFits j.frame = fits.frame in
    let c = two j.frame.clear_color g.two in
    let clear : List Field = clear_fields j.frame c.0 c.1 in
    let fields : List Field = head_fields j (frame_fields j.frame c.0 c.1) in
    let colors_fit : AllByRecursion (λ n. n < 2 ^ 32) (c.0 ∷ (c.1 ∷ [])) = subst (AllByRecursion (λ n. n < 2 ^ 32)) c.2 g.clear_color in
    let frame_fit : AllFit (frame_fields j.frame c.0 c.1) = (
      g.width,
      (
        g.height,
        (
          g.min_x,
          (
            g.min_y,
            (
              g.max_x,
              (
                g.max_y,
                surfaces_fit j.frame.surfaces clear g.surfaces
                    (colors_fit.0, (colors_fit.1.0, (g.clear_z, (g.clear_s, (lit< tt, (lit< tt, (lit< tt, tt))))))),
              ),
            ),
          ),
        ),
      ),
    ) in
    let all_fit : AllFit fields =
    (fits.client, (flag_fits j.frame.clear, (sizes.handles, (sizes.bin, (sizes.records, (fits.declared, (sizes.uniforms, frame_fit))))))) in
    let moved : IsPiece bytes (at + 0) (widths fields) (text_of_all fields) =
    subst (λ n. IsPiece bytes (at + 0) n (text_of_all fields)) (sym (job_wide j c.0 c.1 g))
    (subst (λ p. IsPiece bytes p 124 (text_of_all fields)) (sym (add-zero at)) (subst (λ text. IsPiece bytes at 124 text) (job_text_is j c.0 c.1 c.2) piece)) in
    let r = read_back bytes at 0 fields all_fit moved in
    let f : AreRead bytes at 28 (frame_fields j.frame c.0 c.1) = r.1.1.1.1.1.1.1 in
    let s = surfaces_back bytes at 36 j.frame.surfaces clear f.1.1.1.1.1.1 in
    let k : AreRead bytes at 108 clear = subst (λ n. AreRead bytes at (36 + 12 * n) clear) g.six s.1 in
    let surfaces : surfaces_from bytes at 36 6 ≡ j.frame.surfaces = ap (surfaces_from bytes at 36) (sym g.six) ∙ s.0 in
    let is_clear : (u32_at bytes (at + 4) == 1) ≡ j.frame.clear = ap (λ n. n == 1) r.1.0 ∙ flag_back j.frame.clear in
    let colors : u32_at bytes (at + 108) ∷ (u32_at bytes (at + 112) ∷ []) ≡ j.frame.clear_color = rw (k.0, k.1.0) (sym c.2) in
    record {
      client = ap (u32_at bytes) (sym (add-zero at)) ∙ r.0;
      flags = r.1.0;
      handles = r.1.1.0;
      bin = r.1.1.1.0;
      records = r.1.1.1.1.0;
      declared = r.1.1.1.1.1.0;
      uniforms = r.1.1.1.1.1.1.0;
      frame = rw (f.0, f.1.0, f.1.1.0, f.1.1.1.0, f.1.1.1.1.0, f.1.1.1.1.1.0, surfaces, is_clear, colors, k.1.1.0, k.1.1.1.0) refl;
      first = k.1.1.1.1.0;
      second = k.1.1.1.1.1.0;
      third = k.1.1.1.1.1.1.0;
    }
