-- A block's room is the room of a list of bytes that has none yet, and goes back as such a room.
use Rattle.std.proofs.Common.{◌≡◌, ℕ, zero, suc, ◌+◌, ◌-◌, ◌*◌, ◌^◌, ◌<◌, ◌≤◌, List, [], ◌∷◌, length, refl, sym, ◌∙◌, arith, w64}
use seplogic.Ra.Ura.{Ura}
use mir.Syntax.{w8, ty_int, ty_array}
use mir.Val.{Val, vint, vptr}
use base.Fraction.{full_share}
use base.Logic.{SProp, ent, emp, via, never, never_e, snd∗}
use base.Fml.{ftrue, flft, froom, flt}
use prog.Memory.{Memory}
use prog.Routine.{Routine}
use contract.Monad.{Fun, fact, fact_i}
use contract.BorrowLft.{◌⊑◌, ⊑_refl}
use types.Logic.{Logic, sem}
use types.Kit.{‵, raw, given, ◌$◌, ◌∵◌, !, qed, move, use0, use1, drop, join, learn, fsplit, fjoin, feq_i, flt_i, rewrite, done}
use denote.Array.{Array}
use denote.Builtin.{u8}
use denote.Memory.{part_at}
use denote.Param.{param}
use denote.Param.Laws.{Laws, of_field}
use denote.Param.Shared.{copy_shared}
use denote.Index.{row}
use denote.RawPtr.{Ptr, block_ptr, null_ptr, lies_at}
use denote.RattleType.{RattleType}
use denote.Steps.{nothing}
use denote.Struct.Field.{u8-field}
use denote.Struct.Laws.{u8-laws, u8-copy}
use Rattle.std.specs.Allocator.{block_with_items}
use Rattle.std_alloc.specs.Vec.Ownership.{lodged, owns_if}
use Rattle.std_alloc.proofs.{VecSteps.El.El, VecSteps.El.no_al, VecSteps.Opens.is_live}
use Rattle.std_alloc.proofs.VecSteps.Rows as rows
use Rattle.std_collections.proofs.TreeMemory.Lodging.{Lodges, at_lodge}

abbrev pub byte_laws : Laws u8
byte_laws = of_field u8-field u8-laws refl (copy_shared u8-field u8-copy)

abbrev pub Byte : RattleType
Byte = param 0 u8

abbrev pub bytes : El
bytes = record { row = u8; laws = byte_laws; al = no_al }

module _ {M : Type 1} {𝓤 : Ura M} (𝓛 : Logic 𝓤) where
  open 𝓛 use {H}

  pub no_bytes_yet : (b o c : ℕ) → c < 2 ^ 63 → ent 𝓤 (H.room (ty_array (ty_int w8) c) b o) (sem 𝓛 (lodged Byte (block_ptr b o) 0 c []))
  no_bytes_yet b o zero small =
      qed 𝓛 (‵ (froom (ty_array (ty_int w8) zero) b o) ∷ []) ∵ drop ! $ nothing ! $ flt_i ! (zero * 1) (2 ^ 63) (omega arith) $ fjoin ! $ done !
  no_bytes_yet b o (suc k) small =
      let c : ℕ = suc k in
      let left : c ≡ c - 0 = omega arith in
      let from : o ≡ o + 0 * 1 = omega arith in
      qed 𝓛 (‵ (froom (ty_array (ty_int w8) c) b o) ∷ []) ∵
      rewrite ! 0 (λ (k : ℕ). ‵ (froom (ty_array (ty_int w8) k) b o)) left refl $ rewrite ! 0 (λ (k : ℕ). ‵ (froom (ty_array (ty_int w8) (c - 0)) b k)) from refl $ nothing ! $ move ! (1 ∷ 0 ∷ []) $ fjoin ! $
      use0 𝓛 (‵ (part_at (Array Byte 0) full_share [] b o)) (rows.empty bytes 𝓛 [] b o refl) $ fjoin ! $
      rewrite ! 0 (λ y. ‵ (owns_if y (block_with_items (λ _ _. ftrue) Byte (block_ptr b o) 0 c []))) (sym (is_live c (omega arith))) refl $
      flt_i ! (c * 1) (2 ^ 63) (omega arith) $ fjoin ! $ done !

  -- a list that fills its room is the bytes in a row
  pub filled : (p : Ptr) (n c : ℕ) (xs : List ℕ) → n ≡ length xs → n ≡ c → ent 𝓤 (sem 𝓛 (lodged Byte p n c xs)) (sem 𝓛 (lies_at (Array u8 (length xs)) full_share p xs))
  filled null_ptr n c xs is full = via 𝓤 (never 𝓤) (snd∗ 𝓤 (sem 𝓛 (flt (c * 1) (2 ^ 63))) (never 𝓤)) (never_e 𝓤 _)
  filled (block_ptr b o) n zero xs is full =
      qed 𝓛 (‵ (lodged Byte (block_ptr b o) n zero xs) ∷ []) ∵ drop ! $ use0 𝓛 (‵ (part_at (Array u8 (length xs)) full_share xs b o)) (rows.empty bytes 𝓛 xs b o (sym is ∙ full)) $ done !
  filled (block_ptr b o) n (suc k) xs is full =
      let c : ℕ = suc k in
      qed 𝓛 (‵ (lodged Byte (block_ptr b o) n c xs) ∷ []) ∵ fsplit ! $ drop ! $
      rewrite ! 0 (λ y. ‵ (owns_if y (block_with_items (λ _ _. ftrue) Byte (block_ptr b o) n c xs))) (is_live c (omega arith)) refl $
      fsplit ! $ move ! (1 ∷ []) $ drop ! $ rewrite ! 0 (λ m. ‵ (part_at (Array u8 m) full_share xs b o)) is refl $ done !

  -- what lay in a row leaves its room
  pub room_again : (b o n : ℕ) (xs : List ℕ) → length xs ≡ n → ent 𝓤 (sem 𝓛 (lies_at (Array u8 (length xs)) full_share (block_ptr b o) xs)) (H.room (ty_array (ty_int w8) n) b o)
  room_again b o n xs is =
      qed 𝓛 (‵ (part_at (Array u8 (length xs)) full_share xs b o) ∷ []) ∵
      use1 𝓛 (given (length xs ≡ length xs) (‵ (row Byte full_share xs b o))) (rows.apart bytes 𝓛 full_share (length xs) xs b o) $ learn ! (λ _.
      use1 𝓛 (‵ (froom (ty_array (ty_int w8) (length xs)) b o)) (rows.row_room bytes 𝓛 xs b o) $
      rewrite ! 0 (λ m. ‵ (froom (ty_array (ty_int w8) m) b o)) is refl $ done !)

module _ {M : Type 1} {𝓤 : Ura M} (𝓛 : Logic 𝓤) (at_mem : Memory → SProp 𝓤) (run : Routine → Fun 𝓤) where
  pub lodge_goes : (b o n c : ℕ) (xs : List ℕ) → n ≡ length xs → n ≤ c → c < 2 ^ 63
      → ent 𝓤 (sem 𝓛 (lodged Byte (block_ptr b o) n c xs)) ((Lodges u8 𝓛 at_mem run).pre (at_lodge u8 𝓛 at_mem run b o n c xs))
  lodge_goes b o n c xs is le small =
      let Asked : Type 0 = (n ≡ length xs) × (n ≤ c) × (c < 2 ^ 63) in
      qed 𝓛 (‵ (lodged Byte (block_ptr b o) n c xs) ∷ []) ∵
      use0 𝓛 (raw (fact 𝓤 Asked)) (fact_i 𝓤 Asked (emp 𝓤) (is, le, small)) $ join ! $
      use0 𝓛 (raw (fact 𝓤 ([] ⊑ []))) (fact_i 𝓤 ([] ⊑ []) (emp 𝓤) (⊑_refl [])) $ join ! $
      -- what the three arguments own, the last first
      nothing ! $ feq_i ! (List Val) (vint w64 c ∷ []) (vint w64 c ∷ []) refl $ flt_i ! c (2 ^ 64) (omega arith) $ move ! (1 ∷ 0 ∷ []) $ fjoin ! $ fjoin ! $
      feq_i ! (List Val) (vint w64 n ∷ []) (vint w64 n ∷ []) refl $ flt_i ! n (2 ^ 64) (omega arith) $ move ! (1 ∷ 0 ∷ []) $ fjoin ! $ fjoin ! $
      feq_i ! (List Val) (vptr b o ∷ []) (vptr b o ∷ []) refl $ fjoin ! $
      nothing ! $ use0 𝓛 (‵ (flft [] full_share)) (𝓛.lfts.lft-nil full_share) $ join ! $ join ! $ done !
