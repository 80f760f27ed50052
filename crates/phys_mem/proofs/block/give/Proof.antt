-- `give` hands the block's room to the allocator, with its token.
use Rattle.std.proofs.Common.{◌≡◌, ℕ, ◌*◌, List, [], ◌∷◌, ◌++◌, length, refl, ap, ◌∙◌, arith, lit<, w64}
use Rattle.std.proofs.alloc.Calls.{Al, seen, Goes-blank, Gives, at_gives, Gives-goes, Gives-Gives}
use Rattle.std.proofs.{VecSteps.Shapes.after, raw_atomic.Walks.proved_at, raw_atomic.Walks.leaves}
use mir.Syntax.{Ty, Fn, Args, a_type, dcons, dnil, ty_array, ty_int, w8, place}
use mir.Val.{Val, vint, vptr, vunit}
use mir.MapTy.{inst_fn}
use base.Fraction.{full_share}
use base.Logic.{SProp, never, id⊢}
use base.Fml.{Lft, Share, ftrue, flft, froom}
use prog.Capped.{capped_is}
use prog.Wp.{Env, WpFn, Wp, after_seq, after_block}
use contract.BorrowLft.{◌⊑◌, ⊑_trans}
use contract.Monad.{fact}
use contract.Running.{tables}
use types.Kit.{‵, raw, ◌⊛◌, given, later, prop, settles, at_ret, any_q, post, Post as After, ◌$◌, ◌∵◌, !, qed, by, move, drop, use1, use3, split, join, regoal, rewrite, learn, fsplit, fjoin, feq_i, await}
use types.Run.{lit, unit_lit, of_opd, no_more, and_then, first, blocks, exec, returns, enter}
use types.ByLocal.{alloc_all, pass_all, free_all, look_at, get, sets, lands_last, env}
use denote.Array.{Array}
use denote.Builtin.{u8, usize, RefOf}
use denote.RattleType.{owns}
use denote.RawPtr.{Ptr, RawPtr, ptr_val, lies_at, in_a_block}
use denote.Param.{param, bounded}
use denote.Signature.{Slot, plain, types_at}
use denote.Steps.{nothing, heard}
use denote.Triple.Call.{calls_at_last}
use denote.Triple.Entry.{alive}
use denote.Triple.Table.{framed}
use denote.Triple.Walked.{Stays, stay_dropped, walk_of, Goes-dropped}
use Rattle.phys_mem.proofs.{Deeds.mark, Deeds.mark_reported, Deeds.deed_val, Deeds.deed_reported, Rooms.room_again, block.give.Statement.statement}
use Rattle.phys_mem.specs.contracts.contents.Contents as contents
use Rattle.phys_mem.specs.contracts.deed.Deed as deed
use Rattle.phys_mem.specs.{contracts.block.give.ended, contracts.block.give.clauses, contracts.block.give.Key.name as the_key}
use Rattle.phys_mem.proofs.block.give.Code as code

pub give_spec : {M : Type 1} → statement M
give_spec 𝓤 𝓛 𝓜 𝓡 wired A L g d dd met md =
    let H = 𝓛.H in
    let T = ended A g d dd in
    let c = clauses A g d dd 𝓛 𝓜.mem 𝓡.returns in
    let args : Args = bounded (a_type ∷ []) (A, tt) (dcons d (dcons dd dnil)) in
    let fn : Fn = inst_fn args code.function in
    let handle : Slot 2 = RefOf (0 ∷ []) tt (plain (λ _. param 0 A)) (λ _. tt) in
    let pointer : Slot 2 = plain (λ _. RawPtr) in
    let count : Slot 2 = plain (λ _. usize) in
    let held : Slot 2 = plain (λ _. contents.the_row) in
    let paid : Slot 2 = plain (λ _. deed.the_row (param 0 A) g) in
    let k = T.kept in
    let stays : Stays T.signature.params k = (stay_dropped handle k.0, (stay_dropped pointer k.1.0, (stay_dropped count k.1.1.0, (stay_dropped held k.1.1.1.0, (stay_dropped paid k.1.1.1.1.0, tt))))) in
    let 𝓣 = tables 𝓤 H 𝓜 𝓡 𝓡.env in
    let C = 𝓣.C in
    let Λ = 𝓣.Λ in
    proved_at 𝓛 T stays c 𝓜 𝓡 (Goes-dropped 𝓛 2 handle k.0 (λ κs x f. refl), (Goes-dropped 𝓛 2 pointer k.1.0 (λ κs x f. refl), (Goes-dropped 𝓛 2 count k.1.1.0 (λ κs x f. refl), (Goes-blank 𝓛 2 held k.1.1.1.0 (λ κs x f. tt), (Goes-blank 𝓛 2 paid k.1.1.1.1.0 (λ κs x f. tt), tt)))))
    (the_key args) fn (code.unfolded 𝓤 H 𝓜 𝓡 wired (A, tt) d dd) (λ z are.
    let Post : Val → SProp 𝓤 = (walk_of 𝓛 T stays c).post z in
    let a = z.0.3 in
    let vss = z.0.4 in
    let Y : Al = record { row = A; laws = L; g = g; d = d; drops = dd } in
    let κ : Lft = z.0.0.0 in
    let q : Share = z.0.1.0 in
    let h = a.0.now in
    let at = a.0.ref_ptr in
    let p = a.1.0 in
    let n = a.1.1.0 in
    let lying = a.1.1.1.0 in
    let right = a.1.1.1.1.0 in
    let τ : Ty = ty_array (ty_int w8) n in
    let fits = are.1.1.0.1 in
    let Asked : Type 0 = (lying.at ≡ p) × (length lying.bytes ≡ n) × (right.ptr ≡ p) × (right.size ≡ n) × (right.alloc ≡ h) in
    qed 𝓛 ((raw (alive 𝓛 T.signature z.0.0 z.0.1) ⊛ ‵ (owns (types_at T.signature.params z.0.0) a vss)) ∷ (raw (fact 𝓤 (z.0.0.1.0 ⊑ A.lives)) ⊛ raw (fact 𝓤 Asked)) ∷ []) ∵
    move ! (1 ∷ []) $ split ! $ heard ! (z.0.0.1.0 ⊑ A.lives) (λ le. heard ! Asked (λ asked. split ! $ move ! (1 ∷ []) $
    -- the `&` to the allocator; the pointer and the count own nothing; what lies in the block; the allocator's token
    fsplit ! $ fsplit ! $ drop ! $ use1 𝓛 (‵ (seen Y κ at h)) (id⊢ 𝓤 _) $ move ! (1 ∷ []) $ fsplit ! $ drop ! $ fsplit ! $ drop ! $
    fsplit ! $ fsplit ! $ drop ! $ move ! (1 ∷ []) $ fsplit ! $ move ! (1 ∷ []) $ drop ! $ fsplit ! $ drop ! $
    rewrite ! 0 (λ (t : A.Denot × ℕ × Ptr). ‵ (g.dealloc_token t.0 (ty_array (ty_int w8) t.1) t.2)) (λ i. (asked.4 i, asked.3 i, asked.2 i)) refl $ move ! (1 ∷ []) $
    rewrite ! 0 (λ r. ‵ (lies_at (Array u8 (length lying.bytes)) full_share r lying.bytes)) asked.0 refl $
    in_a_block ! p (λ r. lies_at (Array u8 (length lying.bytes)) full_share r lying.bytes) (id⊢ 𝓤 (never 𝓤)) (λ b o e.
    use1 𝓛 (‵ (froom τ b o)) (room_again 𝓛 b o n lying.bytes asked.1) $ move ! (1 ∷ []) $ rewrite ! 0 (λ r. ‵ (g.dealloc_token h τ r)) e refl $
    -- [the allocator's token; the room; the `&`; the tokens]
    move ! (3 ∷ []) $ use1 𝓛 (‵ (flft κ q) ⊛ ‵ (flft z.0.0.1.0 z.0.1.1.0) ⊛ ‵ ftrue) (id⊢ 𝓤 _) $ split ! $ move ! (4 ∷ 0 ∷ []) $ join ! $ move ! (3 ∷ 2 ∷ 0 ∷ []) $
    regoal ! (λ (us : List Val). prop (WpFn 𝓤 H C Λ fn us Post))
    (λ i. are.0.0 i ++ ((are.1.0 ∙ ap (λ r. ptr_val r ∷ []) e) i ++ (are.1.1.0.0 i ++ (mark_reported vss.1.1.1.0 are.1.1.1.0.0 i ++ (deed_reported vss.1.1.1.1.0 are.1.1.1.1.0.0 i ++ []))))) refl $
    enter ! C Λ fn (vptr at.0 at.1 ∷ vptr b o ∷ vint w64 n ∷ mark ∷ deed_val ∷ []) Post $
    alloc_all ! (λ l. pass_all ! refl ((tt, tt), ((tt, tt), ((tt, record { fits = fits }), ((tt, tt), ((tt, (tt, tt)), tt))))) $
    let En : Env 𝓤 H = env fn.locals l in
    let End : After 𝓤 H = at_ret En Post in
    let Then : After 𝓤 H = any_q (after_block 𝓤 H (post 𝓤 H (any_q (after_seq 𝓤 H (Wp 𝓤 H C Λ En (after 1 fn.body) (post 𝓤 H End)) (post 𝓤 H End))))) in
    let y = at_gives Y 𝓛 𝓜.mem 𝓡.returns κ q at h b o n 1 τ in
    first ! $ blocks ! $
    use3 𝓛 (raw ((Gives Y 𝓛 𝓜.mem 𝓡.returns).pre y)) (Gives-goes Y 𝓛 𝓜.mem 𝓡.returns κ q at h (⊑_trans κ z.0.0.1.0 A.lives z.0.2.0 le) b o n 1 τ (capped_is (n * 1) (omega arith) ∙ omega arith) refl fits (lit< tt)) $
    calls_at_last ! (λ f. framed 𝓤 H 𝓜 𝓣 f) (Gives Y 𝓛 𝓜.mem 𝓡.returns) (met.deallocate dd) y (and_then ! (get ! refl) (and_then ! (get ! refl) (and_then ! (get ! refl) (and_then ! (lit ! tt) (no_more !))))) (λ v.
    use1 𝓛 (later (given (v ≡ vunit) (‵ (flft κ q)))) (Gives-Gives Y 𝓛 𝓜.mem 𝓡.returns κ q at h b o n 1 τ v) $ await ! tt $ learn ! (λ e'.
    join ! $ regoal ! (λ (v' : Val). settles En (place 6 []) v' Then) e' refl $ lands_last ! refl (tt, tt) $
    exec ! C Λ En (after 1 fn.body) End $ sets ! (of_opd ! (unit_lit !)) refl (tt, tt) $ returns ! (look_at ! 0 refl) $ free_all ! refl $
    feq_i ! (List Val) (vunit ∷ []) (vunit ∷ []) refl $ nothing ! $
    nothing ! $ nothing ! $ fjoin ! $ nothing ! $ fjoin ! $ nothing ! $ fjoin ! $ nothing ! $ fjoin ! $ nothing ! $ fjoin ! $ move ! (3 ∷ 0 ∷ 2 ∷ 1 ∷ []) $
    by ! (leaves 𝓛 T stays c z vunit tt (tt, (tt, (tt, (tt, (tt, tt))))) (tt, (tt, (tt, (tt, (tt, tt)))))))))))))
