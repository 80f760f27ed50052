-- `show` makes a slice of what the `&` to the contents shows.
use Rattle.std.proofs.Common.{◌≡◌, ◌*◌, ◌^◌, ◌<◌, List, [], ◌∷◌, ◌++◌, length, refl, sym, ap, arith, w64}
use Rattle.std.proofs.{VecSteps.Shapes.after, raw_atomic.Walks.proved_at, raw_atomic.Walks.leaves}
use mir.Syntax.{Fn, ty_ptr}
use mir.Val.{Val, vint, vptr}
use base.Fraction.{full_share}
use base.Logic.{SProp, emp, never, fst∗, id⊢}
use base.Fml.{Lft, fat}
use prog.Wp.{Env, WpFn}
use contract.Monad.{fact, fact_i}
use contract.Running.{tables}
use types.Kit.{‵, raw, ◌⊛◌, prop, at_ret, ◌$◌, ◌∵◌, !, qed, by, move, drop, use0, use1, split, regoal, rewrite, fsplit, fjoin, feq_i, flt_i}
use types.Logic.{sem}
use types.Part.{agg}
use types.Run.{of_opd, no_more, and_then, first, blocks, exec, returns, enter}
use types.ByLocal.{alloc_all, pass_all, free_all, look_at, take_at, give_at, get, sets, sets_last, env}
use denote.Array.{Array}
use denote.Builtin.{u8, usize, RefOf}
use denote.Memory.{hidden_shr, shared_of}
use denote.Opens.{hide, unhide}
use denote.RattleType.{owns}
use denote.RawPtr.{RawPtr, null_ptr, block_of, count_of, ptr_val, in_a_block}
use denote.Signature.{Slot, plain, types_at}
use denote.Slice.{slice_val}
use denote.Steps.{nothing, heard}
use denote.Struct.Lending.{lent_at}
use denote.Triple.Entry.{alive}
use denote.Triple.Walked.{Stays, stay_dropped, walk_of, Goes-dropped}
use Rattle.std_alloc.proofs.RcSteps.{Ptr-Good}
use Rattle.phys_mem.specs.contracts.contents.Contents as contents
use Rattle.phys_mem.specs.{contracts.block.show.ended, contracts.block.show.clauses, contracts.block.show.Key.name as the_key}
use Rattle.phys_mem.proofs.block.show.Statement.{statement}
use Rattle.phys_mem.proofs.block.show.Code as code

pub show_spec : {M : Type 1} → statement M
show_spec 𝓤 𝓛 𝓜 𝓡 wired =
    let H = 𝓛.H in
    let T = ended in
    let c = clauses 𝓛 𝓜.mem 𝓡.returns in
    let fn : Fn = code.function in
    let shown : Slot 1 = RefOf (0 ∷ []) tt (plain (λ _. contents.the_row)) (λ _. tt) in
    let pointer : Slot 1 = plain (λ _. RawPtr) in
    let count : Slot 1 = plain (λ _. usize) in
    let k = T.kept in
    let stays : Stays T.signature.params k = (stay_dropped shown k.0, (stay_dropped pointer k.1.0, (stay_dropped count k.1.1.0, tt))) in
    let 𝓣 = tables 𝓤 H 𝓜 𝓡 𝓡.env in
    let C = 𝓣.C in
    let Λ = 𝓣.Λ in
    proved_at 𝓛 T stays c 𝓜 𝓡 (Goes-dropped 𝓛 1 shown k.0 (λ κs x f. refl), (Goes-dropped 𝓛 1 pointer k.1.0 (λ κs x f. refl), (Goes-dropped 𝓛 1 count k.1.1.0 (λ κs x f. refl), tt)))
    the_key fn (code.unfolded 𝓤 H 𝓜 𝓡 wired) (λ z are.
    let Post : Val → SProp 𝓤 = (walk_of 𝓛 T stays c).post z in
    let a = z.0.3 in
    let vss = z.0.4 in
    let κ : Lft = z.0.0.0 in
    let at = a.0.ref_ptr in
    let xs = a.0.now.bytes in
    let p = a.1.0 in
    let n = a.1.1.0 in
    let fits = are.1.1.0.1 in
    let Asked : Type 0 = (a.0.now.at ≡ p) × (length xs ≡ n) × (n < 2 ^ 63) in
    qed 𝓛 ((raw (alive 𝓛 T.signature z.0.0 z.0.1) ⊛ ‵ (owns (types_at T.signature.params z.0.0) a vss)) ∷ raw (fact 𝓤 Asked) ∷ []) ∵
    move ! (1 ∷ []) $ heard ! Asked (λ asked. split ! $ move ! (1 ∷ []) $ fsplit ! $ fsplit ! $ drop ! $
    use1 𝓛 (‵ (hidden_shr contents.the_row κ a.0.now at.0 at.1)) (id⊢ 𝓤 _) $ move ! (1 ∷ []) $ drop ! $
    regoal ! (λ (us : List Val). prop (WpFn 𝓤 H C Λ fn us Post)) (λ i. are.0.0 i ++ (are.1.0 i ++ (are.1.1.0.0 i ++ []))) refl $
    enter ! C Λ fn (vptr at.0 at.1 ∷ ptr_val p ∷ vint w64 n ∷ []) Post $
    alloc_all ! (λ l. pass_all ! refl ((tt, tt), (Ptr-Good p, ((tt, record { fits = fits }), tt))) $
    let En : Env 𝓤 H = env fn.locals l in
    -- [what the `&` shows; the tokens]
    unhide ! $ fsplit ! $ drop ! $ rewrite ! 0 (λ r. ‵ (lent_at (Array u8 (length xs)) r xs κ)) asked.0 refl $
    in_a_block ! p (λ r. lent_at (Array u8 (length xs)) r xs κ) (fst∗ 𝓤 (never 𝓤) (sem 𝓛 (shared_of (Array u8 (length xs)) xs (block_of null_ptr) (count_of null_ptr) κ))) (λ b o e.
    take_at ! 2 $ rewrite ! 0 (λ r. ‵ (fat full_share ty_ptr (l 2) 0 (ptr_val r))) e refl $ give_at ! 2 $
    fsplit ! $ drop ! $ fsplit ! $ drop ! $ hide ! $
    first ! $ blocks ! $ sets_last ! (agg ! (and_then ! (get ! refl) (and_then ! (get ! refl) (no_more !)))) refl (tt, (tt, (record { fits = fits }, tt))) $
    exec ! C Λ En (after 1 fn.body) (at_ret En Post) $ sets ! (of_opd ! (get ! refl)) refl (tt, (tt, (record { fits = fits }, tt))) $
    flt_i ! (length xs * 1) (2 ^ 63) (omega arith) $ flt_i ! (length xs) (2 ^ 64) (omega arith) $ fjoin ! $
    feq_i ! (List Val) (slice_val (b, o) n ∷ []) (slice_val (b, o) (length xs) ∷ []) (ap (λ m. slice_val (b, o) m ∷ []) (sym asked.1)) $ fjoin ! $ fjoin ! $
    returns ! (look_at ! 0 refl) $ free_all ! refl $
    use0 𝓛 (raw (fact 𝓤 (xs ≡ xs))) (fact_i 𝓤 (xs ≡ xs) (emp 𝓤) refl) $
    nothing ! $ nothing ! $ fjoin ! $ nothing ! $ fjoin ! $ nothing ! $ fjoin ! $ move ! (3 ∷ 0 ∷ 2 ∷ 1 ∷ []) $
    by ! (leaves 𝓛 T stays c z (slice_val (b, o) n) (record { ref_ptr = (b, o); now = xs }) (tt, (tt, (tt, tt))) (tt, (tt, (tt, tt))))))))
