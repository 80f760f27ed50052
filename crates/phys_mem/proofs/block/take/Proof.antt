-- `take` lodges an empty list on the room that the allocator gave, and keeps the right to give it back.
use Rattle.std.proofs.Common.{◌≡◌, ℕ, ◌*◌, ◌^◌, ◌<◌, List, [], ◌∷◌, ◌++◌, refl, sym, ap, ◌∙◌, subst, arith, lit<, true, false, w64, Ok, Err, Vec}
use Rattle.std.proofs.alloc.Calls.{Al, seen, Takes, at_takes, Answered, Answer-typed, Takes-goes, Takes-gives, answers}
use Rattle.std.proofs.VecSteps.Shapes.{after, head, arm_body}
use Rattle.std.proofs.{mem.Timeless.timeless, mem.Timeless.timeless_laws, raw_atomic.Walks.proved_at, raw_atomic.Walks.leaves}
use mir.Syntax.{Ty, Fn, Args, Body, a_type, dcons, dnil, ty_array, ty_int, w8}
use mir.Val.{Val, vint, vptr, of_list}
use mir.MapTy.{inst_fn}
use base.Logic.{SProp, emp, id⊢}
use base.Fml.{Lft, Share, ftrue, flft}
use prog.Capped.{capped_is}
use prog.Wp.{Env, WpFn, Wp, after_seq}
use contract.BorrowLft.{◌⊑◌, ⊑_trans}
use contract.Monad.{fact, fact_i}
use contract.Running.{tables}
use types.Kit.{‵, raw, ◌⊛◌, some, given, later, prop, at_ret, any_q, post, Post as After, ◌$◌, ◌∵◌, !, qed, by, move, drop, use0, use1, use2, split, join, regoal, rewrite, fsplit, fjoin, pick, learn, await}
use types.Part.{whole, agg}
use types.Match.{live, vrt, in_variant}
use types.Run.{stop, fld, lit, of_opd, no_more, and_then, first, blocks, switches_on, exec, returns, enter}
use types.ByLocal.{alloc_all, pass_all, free_all, look_at, get, get_in, get_tag, sets, sets_last, lands_as, lands_last, env}
use denote.Builtin.{u8, usize, RefOf}
use denote.RattleType.{RattleType, owns}
use denote.RawPtr.{Ptr, block_ptr}
use denote.Param.{param, bounded, layout}
use denote.Param.Laws.{param_laws}
use Rattle.std_alloc.proofs.{RcSteps.Good, RcSteps.first_Good, Pairs.pair_of, Pairs.pair_val, Pairs.pair_Typed}
use Rattle.std_alloc.proofs.ResultValues.{ok_of, err_of}
use denote.Signature.{Slot, plain, types_at, type_at}
use denote.Steps.{nothing, heard, only}
use denote.Struct.Tuple.{Tuple}
use denote.Triple.Call.{calls_at, calls_at_last}
use denote.Triple.Entry.{alive}
use denote.Triple.Table.{framed}
use denote.Triple.Walked.{Stays, stay_dropped, walk_of, Goes-dropped}
use Rattle.std.specs.contracts.alloc.AllocError as AE
use Rattle.std_alloc.specs.{Vec.Ownership.lodged, declared.vec.lodged.Lodged.Lodged}
use Rattle.std_alloc.proofs.vec.lodge.Met as lodge_met
use Rattle.std_collections.proofs.TreeMemory.Lodging.{Row, row_laws, tells, Lodges, at_lodge, Lodged_as, lodge_gives}
use Rattle.phys_mem.proofs.{Rooms.Byte, Rooms.byte_laws, Rooms.no_bytes_yet, Rooms.lodge_goes, block.take.Statement.statement}
use Rattle.phys_mem.proofs.Deeds.{mark, mark_made, deed_val, deed_fields, deed_made}
use Rattle.phys_mem.specs.contracts.deed.Deed as deed
use Rattle.phys_mem.specs.{contracts.block.take.ended, contracts.block.take.clauses, contracts.block.take.Key.name as the_key}
use Rattle.phys_mem.proofs.block.take.Code as code

pub take_spec : {M : Type 1} → statement M
take_spec 𝓤 𝓛 𝓜 𝓡 wired A L g d dd met md =
    let H = 𝓛.H in
    let T = ended A g d dd in
    let c = clauses A g d dd 𝓛 𝓜.mem 𝓡.returns in
    let args : Args = bounded (a_type ∷ []) (A, tt) (dcons d (dcons dd dnil)) in
    let fn : Fn = inst_fn args code.function in
    let handle : Slot 2 = RefOf (0 ∷ []) tt (plain (λ _. param 0 A)) (λ _. tt) in
    let count : Slot 2 = plain (λ _. usize) in
    let stays : Stays T.signature.params T.kept = (stay_dropped handle T.kept.0, (stay_dropped count T.kept.1.0, tt)) in
    let 𝓣 = tables 𝓤 H 𝓜 𝓡 𝓡.env in
    let C = 𝓣.C in
    let Λ = 𝓣.Λ in
    proved_at 𝓛 T stays c 𝓜 𝓡 (Goes-dropped 𝓛 2 handle T.kept.0 (λ κs x f. refl), (Goes-dropped 𝓛 2 count T.kept.1.0 (λ κs x f. refl), tt)) (the_key args) fn (code.unfolded 𝓤 H 𝓜 𝓡 wired (A, tt) d dd) (λ z are.
    let Post : Val → SProp 𝓤 = (walk_of 𝓛 T stays c).post z in
    let a = z.0.3 in
    let vss = z.0.4 in
    let Y : Al = record { row = A; laws = L; g = g; d = d; drops = dd } in
    let κ : Lft = z.0.0.0 in
    let q : Share = z.0.1.0 in
    let h = a.0.now in
    let at = a.0.ref_ptr in
    let n = a.1.0 in
    let τ : Ty = ty_array (ty_int w8) n in
    let y = at_takes Y 𝓛 𝓜.mem 𝓡.returns κ q at h n 1 τ in
    let both : Body = head (after 3 fn.body) in
    let DeedRow : RattleType = deed.the_row (param 0 A) g in
    let Pair : RattleType = Tuple (Row Byte ∷ DeedRow ∷ []) in
    let Out : RattleType = type_at T.signature.result z.0.0 in
    let Kept = λ (r : Vec ℕ Lodged) (k : DeedRow.Denot). (r.items ≡ []) × (r.cap ≡ n) × (k.ptr ≡ r.ptr) × (k.size ≡ n) × (k.alloc ≡ h) in
    let Asked : Type 0 = n < 2 ^ 63 in
    qed 𝓛 ((raw (alive 𝓛 T.signature z.0.0 z.0.1) ⊛ ‵ (owns (types_at T.signature.params z.0.0) a vss)) ∷ (raw (fact 𝓤 (z.0.0.1.0 ⊑ A.lives)) ⊛ raw (fact 𝓤 Asked)) ∷ []) ∵
    move ! (1 ∷ []) $ split ! $ heard ! (z.0.0.1.0 ⊑ A.lives) (λ le. heard ! Asked (λ small. split ! $ move ! (1 ∷ []) $
    -- the `&` to the allocator, and the tokens
    fsplit ! $ fsplit ! $ drop ! $ move ! (1 ∷ []) $ drop ! $ use1 𝓛 (‵ (seen Y κ at h)) (id⊢ 𝓤 _) $ move ! (1 ∷ []) $
    use1 𝓛 (‵ (flft κ q) ⊛ ‵ (flft z.0.0.1.0 z.0.1.1.0) ⊛ ‵ ftrue) (id⊢ 𝓤 _) $ split ! $ move ! (2 ∷ 0 ∷ []) $
    regoal ! (λ (us : List Val). prop (WpFn 𝓤 H C Λ fn us Post)) (λ i. are.0.0 i ++ (are.1.0.0 i ++ [])) refl $
    enter ! C Λ fn (vptr at.0 at.1 ∷ vint w64 n ∷ []) Post $ alloc_all ! (λ l. pass_all ! refl ((tt, tt), ((tt, record { fits = are.1.0.1 }), tt)) $
    let En : Env 𝓤 H = env fn.locals l in
    let Then : After 𝓤 H = any_q (after_seq 𝓤 H (Wp 𝓤 H C Λ En (after 4 fn.body) (post 𝓤 H (at_ret En Post))) (post 𝓤 H (at_ret En Post))) in
    sets ! (of_opd ! (get ! refl)) refl (tt, tt) $ sets ! (of_opd ! (get ! refl)) refl (tt, record { fits = are.1.0.1 }) $
    use2 𝓛 (raw ((Takes Y 𝓛 𝓜.mem 𝓡.returns).pre y)) (Takes-goes Y 𝓛 𝓜.mem 𝓡.returns κ q at h (⊑_trans κ z.0.0.1.0 A.lives z.0.2.0 le) n 1 τ (capped_is (n * 1) (omega arith) ∙ omega arith) refl are.1.0.1 (lit< tt)) $
    calls_at ! (λ f. framed 𝓤 H 𝓜 𝓣 f) (Takes Y 𝓛 𝓜.mem 𝓡.returns) (met.allocate dd) y (and_then ! (get ! refl) (and_then ! (get ! refl) (and_then ! (lit ! tt) (no_more !)))) (λ v.
    use1 𝓛 (later (raw (Answered Y 𝓛 𝓜.mem 𝓡.returns h τ v) ⊛ ‵ (flft κ q))) (Takes-gives Y 𝓛 𝓜.mem 𝓡.returns κ q at h n 1 τ v) $ await ! tt $ split ! $
    answers Y ! 𝓜.mem 𝓡.returns h τ v
    (λ b o e.
    let p : Ptr = block_ptr b o in
    let w = at_lodge u8 𝓛 𝓜.mem 𝓡.returns b o 0 n [] in
    -- [the room; the allocator's token; the tokens]
    move ! (2 ∷ 3 ∷ []) $ join ! $ move ! (1 ∷ 2 ∷ []) $ lands_as ! e refl (Answer-typed true b o) $
    first ! $ switches_on ! (get_tag ! (vrt ! refl (fld ! refl (stop !))) (whole !)) $ exec ! C Λ En (arm_body 0 both) Then $
    sets ! (of_opd ! (get_in ! (vrt ! refl (fld ! refl (stop !))) (in_variant ! 0 0 refl refl (whole !)))) refl (tt, tt) $
    first ! $ blocks ! $ sets ! (of_opd ! (get ! refl)) refl (tt, tt) $ sets ! (of_opd ! (get ! refl)) refl (tt, record { fits = are.1.0.1 }) $
    use1 𝓛 (‵ (lodged Byte p 0 n [])) (no_bytes_yet 𝓛 b o n small) $
    use1 𝓛 (raw ((Lodges u8 𝓛 𝓜.mem 𝓡.returns).pre w)) (lodge_goes 𝓛 𝓜.mem 𝓡.returns b o 0 n [] refl (omega arith) small) $
    calls_at_last ! (λ f. framed 𝓤 H 𝓜 𝓣 f) (Lodges u8 𝓛 𝓜.mem 𝓡.returns) (lodge_met.met 𝓤 𝓛 𝓜 𝓡 (code.calls-std_alloc::vec::lodge 𝓡.env wired) (timeless u8) (timeless_laws u8 byte_laws)) w
    (and_then ! (get ! refl) (and_then ! (lit ! tt) (and_then ! (get ! refl) (no_more !)))) (λ x.
    use1 𝓛 (later (some (λ (r : Vec ℕ Lodged). given (Lodged_as u8 𝓛 𝓜.mem 𝓡.returns b o 0 n [] r) (‵ ((Row Byte).own_val r (x ∷ [])))))) (lodge_gives u8 𝓛 𝓜.mem 𝓡.returns b o 0 n [] x) $
    await ! tt $ pick ! (λ r. learn ! (λ is. tells ! (Row Byte) (row_laws Byte (param_laws 0 u8 byte_laws)) r (x ∷ []) (λ x' same fine.
    let good : Good (layout (Row Byte)) x = subst (Good (layout (Row Byte))) (sym (ap only same)) fine in
    let paid : DeedRow.Denot = record { by = record {}; ptr = p; size = n; alloc = h } in
    let pair : Val = pair_val x deed_val in
    let paired : Good (layout Pair) pair = pair_Typed (layout (Row Byte)) (layout DeedRow) x deed_val good (tt, (tt, tt)) in
    let ok : Val = live 0 (of_list (pair ∷ [])) in
    let typed = first_Good (layout Pair) pair paired in
    rewrite ! 0 (λ v'. ‵ ((Row Byte).own_val r (v' ∷ []))) (sym (ap only same)) refl $ lands_last ! refl good $
    exec ! C Λ En (after 2 (arm_body 0 both)) Then $ sets ! (of_opd ! (get ! refl)) refl good $
    sets ! (agg ! (no_more !)) refl (tt, tt) $ sets ! (agg ! (and_then ! (get ! refl) (no_more !))) refl (tt, (tt, tt)) $
    sets ! (agg ! (and_then ! (get ! refl) (and_then ! (get ! refl) (no_more !)))) refl paired $
    sets_last ! (agg ! (and_then ! (lit ! tt) (and_then ! (get ! refl) (no_more !)))) refl typed $
    exec ! C Λ En (after 4 fn.body) (at_ret En Post) $ sets ! (of_opd ! (get ! refl)) refl typed $
    returns ! (look_at ! 0 refl) $ free_all ! refl $
    -- [the list; the allocator's token; the tokens]
    move ! (1 ∷ []) $ use0 𝓛 (‵ (deed_fields (deed_val ∷ []))) (deed_made 𝓛) $ fjoin ! $ move ! (1 ∷ 0 ∷ []) $
    use2 𝓛 (‵ (Pair.own_val (r, paid) (pair ∷ []))) (pair_of 𝓛 (Row Byte) DeedRow r paid x deed_val) $
    use1 𝓛 (‵ (Out.own_val (Ok (r, paid)) (ok ∷ []))) (ok_of 𝓛 Pair AE.the_row (r, paid) pair) $
    use0 𝓛 (raw (fact 𝓤 (Kept r paid))) (fact_i 𝓤 (Kept r paid) (emp 𝓤) (is.0, is.2, sym is.3, refl, refl)) $
    nothing ! $ nothing ! $ fjoin ! $ nothing ! $ fjoin ! $ move ! (3 ∷ 0 ∷ 2 ∷ 1 ∷ []) $
    by ! (leaves 𝓛 T stays c z ok (Ok (r, paid)) (tt, (tt, tt)) (tt, (tt, tt)))))))) (λ e.
    let none : Val = live 1 (of_list (mark ∷ [])) in
    join ! $ lands_as ! e refl (Answer-typed false 0 0) $
    first ! $ switches_on ! (get_tag ! (vrt ! refl (fld ! refl (stop !))) (whole !)) $ exec ! C Λ En (arm_body 1 both) Then $
    sets ! (of_opd ! (get_in ! (vrt ! refl (fld ! refl (stop !))) (in_variant ! 1 0 refl refl (whole !)))) refl (tt, tt) $ sets ! (of_opd ! (get ! refl)) refl (tt, tt) $
    sets_last ! (agg ! (and_then ! (lit ! tt) (and_then ! (get ! refl) (no_more !)))) refl (tt, (record { fits = lit< tt }, (tt, tt))) $
    exec ! C Λ En (after 4 fn.body) (at_ret En Post) $ sets ! (of_opd ! (get ! refl)) refl (tt, (record { fits = lit< tt }, (tt, tt))) $
    returns ! (look_at ! 0 refl) $ free_all ! refl $
    use0 𝓛 (‵ (AE.the_row.own_val (record {}) (mark ∷ []))) (mark_made 𝓛) $
    use1 𝓛 (‵ (Out.own_val (Err (record {})) (none ∷ []))) (err_of 𝓛 Pair AE.the_row (record {}) mark) $
    use0 𝓛 (raw (fact 𝓤 (Unit {0}))) (fact_i 𝓤 (Unit {0}) (emp 𝓤) tt) $
    nothing ! $ nothing ! $ fjoin ! $ nothing ! $ fjoin ! $ move ! (3 ∷ 0 ∷ 2 ∷ 1 ∷ []) $
    by ! (leaves 𝓛 T stays c z none (Err (record {})) (tt, (tt, tt)) (tt, (tt, tt)))))))))
