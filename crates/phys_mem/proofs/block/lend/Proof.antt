-- `lend` takes a part out of the row of bytes, and the contents follow what is written there.
use Rattle.std.proofs.Common.{◌≡◌, ℕ, ◌+◌, ◌*◌, ◌^◌, ◌<◌, ◌≤◌, List, [], ◌∷◌, ◌++◌, length, refl, sym, ◌∙◌, arith, w64, MutBor}
use Rattle.std.proofs.{VecSteps.Shapes.after, raw_atomic.Walks.proved_at, raw_atomic.Walks.leaves}
use mir.Syntax.{Fn, named, ty_ptr}
use mir.Val.{Val, vint, vptr}
use base.Fraction.{full_share}
use base.Logic.{SProp, ent, sep, emp, never, id⊢}
use base.Fml.{Fml, Lft, GName, Share, fat, flft, fsep, ftrue}
use seplogic.Ra.Ura.{Ura}
use prog.Wp.{Env, WpFn}
use contract.Monad.{fact, fact_i}
use contract.Running.{tables}
use types.Kit.{‵, raw, ◌⊛◌, some, later, prop, at_ret, ◌$◌, ◌∵◌, !, qed, by, move, keep, drop, use0, use1, split, split3, join, group, pick, regoal, rewrite, fsplit, fsplit3, fjoin, fjoin3, fpack, await, done}
use types.Logic.{Logic, sem}
use types.Part.{agg}
use types.Run.{of_opd, bin, no_more, and_then, first, blocks, exec, returns, enter}
use types.ByLocal.{alloc_all, pass_all, free_all, look_at, take_at, give_at, get, sets, sets_last, env}
use types.SemTy.{cells}
use denote.Array.{Array}
use denote.Builtin.{u8, usize}
use denote.Follow.{follows}
use denote.FollowSlice.{Elements, lends_Elements}
use denote.Memory.{cell_at, mem, part_of}
use denote.RattleType.{owns}
use denote.RawPtr.{Ptr, RawPtr, block_ptr, ptr_val, lies_at, in_a_block}
use denote.Signature.{Slot, plain, mut_ref_to, types_at}
use denote.Slice.{MutSlice, slice_val}
use denote.Steps.{nothing, heard, opens}
use denote.Triple.Entry.{alive}
use denote.Triple.Walked.{Stays, stay_dropped, walk_of, Goes-dropped, Goes-spent_ref}
use Rattle.std_alloc.proofs.RcSteps.{Ptr-Good}
use Rattle.phys_mem.specs.{Contents.with_inside, Window.window_of, Window.with_window, declared.contents.Contents.Contents}
use Rattle.phys_mem.specs.{contracts.block.lend.ended, contracts.block.lend.clauses, contracts.block.lend.Key.name as the_key}
use Rattle.phys_mem.proofs.{Deeds.Empty, Parts.Around, Parts.part_out, Parts.part_in, Parts.window_long, block.lend.Statement.statement}
use Rattle.phys_mem.specs.contracts.contents.Contents as contents
use Rattle.phys_mem.proofs.block.lend.Code as code

module _ {M : Type 1} {𝓤 : Ura M} (𝓛 : Logic 𝓤) (d : Contents) (rb ro b o from len : ℕ) (at : d.at ≡ block_ptr b o) (within : from + len ≤ length d.bytes) where
  -- the contents but for the part
  abbrev Rest : List Val → Fml
  Rest vs = fsep (Around 𝓛 b o from len d.bytes within) (fsep (Empty.own_val tt vs) (cell_at full_share contents.the_row.mir vs rb ro))

  back : (vs : List Val) (inside : List ℕ) → length inside ≡ length (window_of d.bytes from len)
      → ent 𝓤 (sep 𝓤 (sem 𝓛 (cells (mem u8) inside b (from + o))) (sem 𝓛 (Rest vs))) (sem 𝓛 ((mem contents.the_row).own_at (with_inside d from inside) rb ro))
  unfolding part_of
  back vs inside same =
      let new = with_window d.bytes from inside in
      qed 𝓛 (‵ (cells (mem u8) inside b (from + o)) ∷ ‵ (Rest vs) ∷ []) ∵ move ! (1 ∷ []) $ fsplit3 ! $ move ! (3 ∷ 0 ∷ []) $ join ! $
      use1 𝓛 (‵ (lies_at (Array u8 (length new)) full_share (block_ptr b o) new)) (part_in 𝓛 b o from len d.bytes within inside (same ∙ window_long d.bytes from len within)) $
      rewrite ! 0 (λ (p : Ptr). ‵ (lies_at (Array u8 (length new)) full_share p new)) (sym at) refl $ move ! (1 ∷ 0 ∷ []) $ fjoin ! $ move ! (1 ∷ 0 ∷ []) $ fjoin ! $
      fpack ! (List Val) (λ us. fsep (cell_at full_share contents.the_row.mir us rb ro) (contents.the_row.own_val (with_inside d from inside) us)) vs $ done !

pub lend_spec : {M : Type 1} → statement M
lend_spec 𝓤 𝓛 𝓜 𝓡 wired =
    let H = 𝓛.H in
    let T = ended in
    let c = clauses 𝓛 𝓜.mem 𝓡.returns in
    let fn : Fn = code.function in
    let lent : Slot 1 = mut_ref_to (0 ∷ []) tt (plain (λ _. contents.the_row)) in
    let pointer : Slot 1 = plain (λ _. RawPtr) in
    let count : Slot 1 = plain (λ _. usize) in
    let k = T.kept in
    let stays : Stays T.signature.params k = (stay_dropped lent k.0, (stay_dropped pointer k.1.0, (stay_dropped count k.1.1.0, (stay_dropped count k.1.1.1.0, tt)))) in
    let 𝓣 = tables 𝓤 H 𝓜 𝓡 𝓡.env in
    let C = 𝓣.C in
    let Λ = 𝓣.Λ in
    proved_at 𝓛 T stays c 𝓜 𝓡 (Goes-spent_ref 𝓛 1 (0 ∷ []) tt (plain (λ _. contents.the_row)), (Goes-dropped 𝓛 1 pointer k.1.0 (λ κs x f. refl), (Goes-dropped 𝓛 1 count k.1.1.0 (λ κs x f. refl), (Goes-dropped 𝓛 1 count k.1.1.1.0 (λ κs x f. refl), tt))))
    the_key fn (code.unfolded 𝓤 H 𝓜 𝓡 wired) (λ z are.
    let Post : Val → SProp 𝓤 = (walk_of 𝓛 T stays c).post z in
    let a = z.0.3 in
    let vss = z.0.4 in
    let κ : Lft = z.0.0.0 in
    let q : Share = z.0.1.0 in
    let rb = a.0.ref_ptr.0 in
    let ro = a.0.ref_ptr.1 in
    let γ = a.0.ghost_name in
    let d = a.0.now in
    let p = a.1.0 in
    let from = a.1.1.0 in
    let len = a.1.1.1.0 in
    let xs = window_of d.bytes from len in
    let known = contents.the_row.coded.code d in
    let Asked : Type 0 = (d.at ≡ p) × (from + len ≤ length d.bytes) × (from + len < 2 ^ 63) in
    qed 𝓛 ((raw (alive 𝓛 T.signature z.0.0 z.0.1) ⊛ ‵ (owns (types_at T.signature.params z.0.0) a vss)) ∷ raw (fact 𝓤 Asked) ∷ []) ∵
    move ! (1 ∷ []) $ heard ! Asked (λ asked. split ! $ use1 𝓛 (‵ (flft κ q) ⊛ ‵ ftrue) (id⊢ 𝓤 _) $ split ! $ move ! (2 ∷ []) $ fsplit ! $ fsplit3 ! $ drop ! $ keep ! (0 ∷ 1 ∷ 3 ∷ []) $
    regoal ! (λ (us : List Val). prop (WpFn 𝓤 H C Λ fn us Post)) (λ i. are.0.0 i ++ (are.1.0 i ++ (are.1.1.0.0 i ++ (are.1.1.1.0.0 i ++ [])))) refl $
    enter ! C Λ fn (vptr rb ro ∷ ptr_val p ∷ vint w64 from ∷ vint w64 len ∷ []) Post $
    alloc_all ! (λ l. pass_all ! refl ((tt, tt), (Ptr-Good p, ((tt, record { fits = are.1.1.0.1 }), ((tt, record { fits = are.1.1.1.0.1 }), tt)))) $
    let En : Env 𝓤 H = env fn.locals l in
    opens ! tt contents.the_row {h = d} rb ro (λ vs. move ! (1 ∷ []) $ fsplit ! $ move ! (1 ∷ []) $
    in_a_block ! d.at (λ r. lies_at (Array u8 (length d.bytes)) full_share r d.bytes) (id⊢ 𝓤 (never 𝓤)) (λ b o e.
    take_at ! 2 $ rewrite ! 0 (λ r. ‵ (fat full_share ty_ptr (l 2) 0 (ptr_val r))) (sym asked.0 ∙ e) refl $ give_at ! 2 $
    first ! $ blocks ! $ sets ! (bin ! (get ! refl) (get ! refl) tt) refl (tt, tt) $
    sets_last ! (agg ! (and_then ! (get ! refl) (and_then ! (get ! refl) (no_more !)))) refl (tt, (tt, (record { fits = are.1.1.1.0.1 }, tt))) $
    exec ! C Λ En (after 1 fn.body) (at_ret En Post) $ sets ! (of_opd ! (get ! refl)) refl (tt, (tt, (record { fits = are.1.1.1.0.1 }, tt))) $
    let long : length xs ≡ len = window_long d.bytes from len asked.1 in
    let roomy : length xs < 2 ^ 64 = omega arith in
    let fitting : length xs * 1 < 2 ^ 63 = omega arith in
    let Left = Rest 𝓛 d rb ro b o from len e asked.1 vs in
    let way = back 𝓛 d rb ro b o from len e asked.1 vs in
    let place = from + o in
    use1 𝓛 (‵ (cells (mem u8) xs b place) ⊛ ‵ (Around 𝓛 b o from len d.bytes asked.1)) (part_out 𝓛 b o from len d.bytes asked.1) $ split ! $
    -- [the part; what is around it; the contents' fields and their cell; the open borrow in three entries]
    move ! (1 ∷ 2 ∷ 3 ∷ []) $ fjoin3 ! $ move ! (2 ∷ 3 ∷ 4 ∷ 1 ∷ 0 ∷ []) $ group ! 5 $
    use1 𝓛 (later (some (λ (δ : GName). raw (Elements 𝓛 contents.the_row u8 (with_inside d from) (named 0) κ q rb ro b place γ xs (roomy, fitting) (sem 𝓛 Left) way δ))))
    (lends_Elements 𝓛 contents.the_row u8 (with_inside d from) (named 0) κ q rb ro b place γ xs (roomy, fitting) (sem 𝓛 Left) way known known) $ await ! tt $ pick ! (λ δ.
    let r : MutBor (List ℕ) = record { ref_ptr = (b, place); ghost_name = δ; now = xs } in
    returns ! (look_at ! 0 refl) $ free_all ! refl $
    use1 𝓛 (‵ ((MutSlice (named 0) κ u8).own_val r (slice_val (b, place) (length xs) ∷ [])) ⊛ ‵ (flft κ q) ⊛ ‵ (follows contents.the_row (Array u8 0) γ δ (with_inside d from))) (id⊢ 𝓤 _) $ split3 ! $
    rewrite ! 0 (λ m. ‵ ((MutSlice (named 0) κ u8).own_val r (slice_val (b, place) m ∷ []))) long refl $
    use0 𝓛 (raw (fact 𝓤 (xs ≡ xs))) (fact_i 𝓤 (xs ≡ xs) (emp 𝓤) refl) $ move ! (3 ∷ 0 ∷ []) $ join ! $
    move ! (2 ∷ []) $ nothing ! $ move ! (1 ∷ 0 ∷ []) $ join ! $
    nothing ! $ nothing ! $ fjoin ! $ nothing ! $ fjoin ! $ nothing ! $ fjoin ! $ nothing ! $ fjoin ! $
    -- [what is left of the parameters; the tokens; what the clauses promise; the slice]
    move ! (1 ∷ 0 ∷ 3 ∷ 2 ∷ []) $ by ! (leaves 𝓛 T stays c z (slice_val (b, place) len) r (tt, (tt, (tt, (tt, tt)))) (tt, (tt, (tt, (tt, tt)))))))))))
