-- A part of a row of bytes, and the bytes around it.
use Rattle.std.proofs.Common.{◌≡◌, ℕ, ◌+◌, ◌≤◌, List, [], ◌∷◌, ◌++◌, length, take, drop, refl, sym, ◌∙◌, arith}
use Rattle.std.proofs.lemmas.Grind.{common_steps}
use seplogic.Ra.Ura.{Ura}
use base.Fraction.{full_share}
use base.Logic.{ent, sep}
use base.Fml.{Fml, fsep}
use types.Logic.{Logic, sem}
use types.Kit.{‵, ◌⊛◌, given, ◌$◌, ◌∵◌, !, qed, move, use1, use2, split, learn, fsplit, fjoin, rewrite, done}
use types.SemTy.{cells}
use denote.Array.{Array}
use denote.Builtin.{u8}
use denote.Index.{place, place_is, row, whole_in, whole_out}
use denote.Memory.{mem, part_at}
use Rattle.std_alloc.proofs.VecSteps.Rows as rows
use Rattle.phys_mem.specs.Window.{window_of, with_window}
use Rattle.phys_mem.proofs.Rooms.{Byte, bytes}

cut : (all : List ℕ) (from len : ℕ) → all ≡ take from all ++ (window_of all from len ++ drop len (drop from all))
cut all from len = grind (arith, common_steps)

pub window_long : (all : List ℕ) (from len : ℕ) → from + len ≤ length all → length (window_of all from len) ≡ len
window_long all from len within = grind (arith, common_steps)

joined : (all : List ℕ) (from len : ℕ) (inside : List ℕ) → from + len ≤ length all → length inside ≡ len
    → take from all ++ (inside ++ drop len (drop from all)) ≡ with_window all from inside
joined all from len inside within long = grind (arith, common_steps)

past : (xs : List ℕ) (m k : ℕ) → length xs ≡ m → place 1 k (length xs) ≡ m + k
past xs m k long = place_is 1 k (length xs) ∙ omega arith

module _ {M : Type 1} {𝓤 : Ura M} (𝓛 : Logic 𝓤) (b o from len : ℕ) (all : List ℕ) (within : from + len ≤ length all) where
  abbrev before : List ℕ
  before = take from all

  abbrev behind : List ℕ
  behind = drop len (drop from all)

  abbrev pub Around : Fml
  Around = fsep (row Byte full_share before b o) (row Byte full_share behind b (len + (from + o)))

  before_long : length before ≡ from
  before_long = grind (arith, common_steps)

  pub part_out : ent 𝓤 (sem 𝓛 (part_at (Array u8 (length all)) full_share all b o)) (sep 𝓤 (sem 𝓛 (cells (mem u8) (window_of all from len) b (from + o))) (sem 𝓛 Around))
  part_out =
      let inside = window_of all from len in
      qed 𝓛 (‵ (part_at (Array u8 (length all)) full_share all b o) ∷ []) ∵
      use1 𝓛 (given (length all ≡ length all) (‵ (row Byte full_share all b o))) (rows.apart bytes 𝓛 full_share (length all) all b o) $ learn ! (λ _.
      rewrite ! 0 (λ (xs : List ℕ). ‵ (row Byte full_share xs b o)) (cut all from len) refl $
      use1 𝓛 (‵ (row Byte full_share before b o) ⊛ ‵ (row Byte full_share (inside ++ behind) b (place 1 o (length before)))) (rows.row_cut bytes 𝓛 full_share before (inside ++ behind) b o) $ split ! $ move ! (1 ∷ []) $
      rewrite ! 0 (λ k. ‵ (row Byte full_share (inside ++ behind) b k)) (past before from o before_long) refl $
      use1 𝓛 (‵ (row Byte full_share inside b (from + o)) ⊛ ‵ (row Byte full_share behind b (place 1 (from + o) (length inside)))) (rows.row_cut bytes 𝓛 full_share inside behind b (from + o)) $ split ! $ move ! (1 ∷ []) $
      rewrite ! 0 (λ k. ‵ (row Byte full_share behind b k)) (past inside len (from + o) (window_long all from len within)) refl $
      move ! (2 ∷ 0 ∷ []) $ fjoin ! $ move ! (1 ∷ []) $ use1 𝓛 (‵ (cells (mem u8) inside b (from + o))) (whole_in 𝓛 u8 inside b (from + o)) $ done !)

  pub part_in : (inside : List ℕ) → length inside ≡ len → ent 𝓤 (sep 𝓤 (sem 𝓛 (cells (mem u8) inside b (from + o))) (sem 𝓛 Around))
      (sem 𝓛 (part_at (Array u8 (length (with_window all from inside))) full_share (with_window all from inside) b o))
  part_in inside long =
      let new = with_window all from inside in
      qed 𝓛 (‵ (cells (mem u8) inside b (from + o)) ∷ ‵ Around ∷ []) ∵ use1 𝓛 (‵ (row Byte full_share inside b (from + o))) (whole_out 𝓛 u8 inside b (from + o)) $ move ! (1 ∷ []) $ fsplit ! $ move ! (1 ∷ []) $
      -- [behind; before; inside]
      rewrite ! 0 (λ k. ‵ (row Byte full_share behind b k)) (sym (past inside len (from + o) long)) refl $ move ! (2 ∷ 0 ∷ []) $
      use2 𝓛 (‵ (row Byte full_share (inside ++ behind) b (from + o))) (rows.row_glue bytes 𝓛 full_share inside behind b (from + o)) $
      rewrite ! 0 (λ k. ‵ (row Byte full_share (inside ++ behind) b k)) (sym (past before from o before_long)) refl $ move ! (1 ∷ 0 ∷ []) $
      use2 𝓛 (‵ (row Byte full_share (before ++ (inside ++ behind)) b o)) (rows.row_glue bytes 𝓛 full_share before (inside ++ behind) b o) $
      rewrite ! 0 (λ (xs : List ℕ). ‵ (row Byte full_share xs b o)) (joined all from len inside within long) refl $
      use1 𝓛 (‵ (part_at (Array u8 (length new)) full_share new b o)) (rows.whole bytes 𝓛 full_share (length new) new b o refl) $ done !
