-- Words out of bytes, and shaders by buffer, one more at a time.
use Rattle.std.proofs.Common.{◌≡◌, ℕ, zero, suc, not, Some, None, IfSome, is_some, Option, ◌+◌, ◌*◌, ◌<◌, ◌≤◌, List, [], ◌∷◌, ◌++◌, length, get_or, map, refl, sym, ap, subst, arith, zero-add, ◌∙◌}
use Rattle.std.proofs.lemmas.List.FromFn.{map-range_with_len_more, length-map-range_with_len, get_or-map-range_with_len}
use Rattle.std.proofs.lemmas.List.{length-map, get_or-map}
use Rattle.std.specs.List.{AllByRecursion}
use Rattle.field_words.specs.{Words.u64_at, Sizes.most_code}
use Rattle.buffer_table.specs.{declared.buffer.Kind.Kind, declared.buffer.Kind.TheVariants.Plain, declared.buffer.Kind.TheVariants.Code}
use Rattle.buffer_table.specs.{declared.buffer.Buffer.Buffer, Table.past_end, Table.buffer_at, Handles.is_plain}
use Rattle.job_format.specs.{File.IsWellFormed, File.FitsShader, Model.FileModel}
use Rattle.qpu_isa.specs.Shader.{ShaderModel, IsSoundShader}
use Rattle.shader_records.specs.Inputs.{shader_in}
use Rattle.job_check.specs.Shaders.{words_in, content_of, shader_for, shader_of, shaders_up_to, shaders_of, AreShadersIn}

pub words_none : (bytes : List ℕ) → words_in bytes 0 ≡ []
unfolding words_in
words_none bytes = refl

pub words_more : (bytes : List ℕ) (n : ℕ) → words_in bytes (n + 1) ≡ words_in bytes n ++ (u64_at bytes (8 * n) ∷ [])
unfolding words_in
words_more bytes n = map-range_with_len_more (λ i. u64_at bytes (8 * i)) 0 n n (zero-add n)

pub shaders_none : (f : FileModel) → shaders_up_to f 0 ≡ []
unfolding shaders_up_to
shaders_none f = refl

pub shaders_more : (f : FileModel) (n : ℕ) → shaders_up_to f (n + 1) ≡ shaders_up_to f n ++ (shader_of f n ∷ [])
unfolding shaders_up_to
shaders_more f n = map-range_with_len_more (shader_of f) 0 n n (zero-add n)

pub length_words : (bytes : List ℕ) (n : ℕ) → length (words_in bytes n) ≡ n
unfolding words_in
length_words bytes n = length-map-range_with_len (λ i. u64_at bytes (8 * i)) 0 n

-- the contents that the code holds are the file's, as many as its buffers and as long as their entries say
pub content_is : {X : Type 0} (items : X → List ℕ) (contents : List X) (f : FileModel) (b : ℕ) (x : X) → f.contents ≡ map items contents → b < length contents → x ≡ get_or contents b x
    → items x ≡ content_of f b
unfolding content_of
content_is items contents f b x same below read =
    ap items read ∙ sym (get_or-map items contents b x [] below) ∙ sym (ap (λ cs. get_or cs b []) same)

pub as_many : (f : FileModel) → IsWellFormed f → length f.contents ≡ length f.buffers
as_many f h = sym (length-map f.contents length) ∙ ap length h.contents ∙ length-map f.buffers (λ b. b.content)

pub content_long : (f : FileModel) (b : ℕ) → IsWellFormed f → b < length f.buffers → length (content_of f b) ≡ (buffer_at f.buffers b).content
unfolding content_of buffer_at
content_long f b h below =
    let inside : b < length f.contents = omega (arith, as_many f h, below) in
    sym (get_or-map length f.contents b [] 0 inside) ∙ ap (λ l. get_or l b 0) h.contents ∙ get_or-map (λ x. x.content) f.buffers b past_end 0 below

code_fits : (buffers : List Buffer) (b : ℕ) → AllByRecursion (λ x. FitsShader x.kind x.content) buffers → b < length buffers → (get_or buffers b past_end).kind ≡ Code
    → (get_or buffers b past_end).content ≤ most_code
code_fits [] b all below code = absurd (omega arith)
code_fits (x ∷ buffers) zero all below code = subst (λ k. FitsShader k x.content) code all.0
code_fits (x ∷ buffers) (suc b) all below code = code_fits buffers b all.1 (omega (arith, below)) code

pub shader_short : (f : FileModel) (b : ℕ) → IsWellFormed f → b < length f.buffers → (buffer_at f.buffers b).kind ≡ Code → length (content_of f b) ≤ most_code
unfolding content_of buffer_at
shader_short f b h below code = omega (arith, content_long f b h below, code_fits f.buffers b h.code below code)

-- All shaders are sound.
abbrev pub AllSound : List (Option ShaderModel) → Type 0
AllSound [] = Unit {0}
AllSound (x ∷ xs) = IfSome x IsSoundShader × AllSound xs

pub sound_more : (xs : List (Option ShaderModel)) (x : Option ShaderModel) → AllSound xs → IfSome x IsSoundShader → AllSound (xs ++ (x ∷ []))
sound_more [] x all one = (one, tt)
sound_more (y ∷ xs) x all one = (all.0, sound_more xs x all.1 one)

sound_at : (xs : List (Option ShaderModel)) (n : ℕ) (shader : ShaderModel) → AllSound xs → get_or xs n None ≡ Some shader → IsSoundShader shader
sound_at [] n shader all is = cc
sound_at (x ∷ xs) zero shader all is = subst (λ o. IfSome o IsSoundShader) is all.0
sound_at (x ∷ xs) (suc n) shader all is = sound_at xs n shader all.1 is

-- there is a shader in a Code buffer alone
pub is_code : (kind : Kind) (content : List ℕ) → is_plain kind ≡ not (is_some (shader_for kind content))
is_code Plain content = refl
is_code Code content = refl

pub shader_at : (f : FileModel) (number : ℕ) → number < length f.buffers → shader_in (shaders_of f) number ≡ shader_for (buffer_at f.buffers number).kind (content_of f number)
unfolding shaders_up_to shader_of
shader_at f number inside = get_or-map-range_with_len (shader_of f) 0 (length f.buffers) number number None inside (zero-add number)

pub shader_count : (f : FileModel) → length (shaders_of f) ≡ length f.buffers
unfolding shaders_up_to
shader_count f = length-map-range_with_len (shader_of f) 0 (length f.buffers)

-- What is kept of all shaders is what the layers above ask for.
pub are_shaders : (f : FileModel) (shaders : List (Option ShaderModel)) → shaders ≡ shaders_of f → AllSound shaders → AreShadersIn f shaders
are_shaders f shaders report sound =
    record {
      report = report;
      sound = record {
        count = ap length report ∙ shader_count f;
        code = λ n below.
            is_code (buffer_at f.buffers n).kind (content_of f n) ∙ sym (ap (λ shaders. not (is_some (shader_in shaders n))) report ∙ ap (λ o. not (is_some o)) (shader_at f n below));
        sound = λ n shader is. sound_at shaders n shader sound is;
      };
    }
