-- What a shader makes of a uniform, as it is said behind its number.
use Rattle.std.specs.Prelude.{ℕ, ◌++◌, ◌==◌, List, codes, decimal, if◌then◌else◌}
use Rattle.texture_layouts.specs.Setup.{TextureModel, texture_in, faces_of, face_place, level_width_of, level_height_of, tiling_at}
use Rattle.texture_layouts.specs.Fits.{is_unlisted}
use Rattle.job_text.specs.declared.note.Meaning.TheVariants.{Plain, Stream, Source, Address, Bound, Setup}
use Rattle.job_text.specs.{declared.note.Meaning.Meaning, Meanings.tiling_name, Names.named_text}

-- how the pixels of a texture lie; nothing of a type that isn't listed
unfoldable pub listed_text : TextureModel → List ℕ
listed_text t = codes ", " ++ (tiling_name (tiling_at t 0) ++ (codes " tiling, " ++ (decimal t.cpp ++ codes " bytes a pixel or block")))

unfoldable pub pixel_text : TextureModel → List ℕ
pixel_text t = if is_unlisted t then codes ", no listed type" else listed_text t

-- a number behind its name
unfoldable pub named_number : List ℕ → ℕ → List ℕ
named_number name n = name ++ decimal n

-- what the first set-up word says, and what the second
unfoldable pub base_text : TextureModel → List ℕ
base_text t =
    named_number (codes "texture base ") (face_place t 0) ++ (named_number (codes ", faces ") (faces_of t) ++ named_number (codes ", levels below ") t.levels)

unfoldable pub sides_text : TextureModel → List ℕ
sides_text t = named_number (codes "width ") (level_width_of t 0) ++ (named_number (codes ", height ") (level_height_of t 0) ++ pixel_text t)

-- what the set-up word of a number says, of four
unfoldable pub setup_text : ℕ → List ℕ → List ℕ
setup_text n words =
    if n == 0 then base_text (texture_in words) else (if n == 1 then sides_text (texture_in words) else codes "further set-up word")

-- the number of a sample before what is said of it
unfoldable pub sample_text : ℕ → List ℕ
sample_text i = codes "sample " ++ (decimal i ++ codes " ")

-- what a shader makes of the word
unfoldable pub meaning_text : Meaning → List ℕ
meaning_text Plain = codes "number"
meaning_text Stream = codes "address of the uniforms"
meaning_text (Source i buffer) = sample_text i ++ (codes "handle" ++ named_text buffer)
meaning_text (Address i) = sample_text i ++ codes "address"
meaning_text (Bound i) = sample_text i ++ codes "bound"
meaning_text (Setup i n words) = sample_text i ++ setup_text n words
