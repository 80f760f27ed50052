-- `settle` takes the bytes from `dislodge`.
use Rattle.std.proofs.Common.{◌≡◌, ◌^◌, ◌<◌, List, [], ◌∷◌, ◌++◌, length, refl, w64}
use Rattle.std.proofs.{alloc.Calls.Goes-blank, mem.Timeless.timeless, mem.Timeless.timeless_laws}
use Rattle.std.proofs.raw_atomic.Walks.{proved_at, leaves}
use mir.Syntax.{Fn}
use mir.Val.{Val, vint}
use base.Fraction.{full_share}
use base.Logic.{SProp, emp}
use prog.Wp.{WpFn}
use contract.Monad.{fact, fact_i}
use contract.Running.{tables}
use types.Kit.{‵, raw, ◌⊛◌, given, later, prop, ◌$◌, ◌∵◌, !, qed, by, move, drop, use0, use1, split, regoal, learn, fsplit, fjoin, await}
use types.Part.{agg}
use types.Run.{of_opd, no_more, and_then, returns, enter}
use types.ByLocal.{alloc_all, pass_all, free_all, look_at, get, sets, lands_as}
use denote.Array.{Array}
use denote.Builtin.{u8}
use denote.RattleType.{owns}
use denote.RawPtr.{lies_at}
use denote.Param.Laws.{param_laws}
use denote.Signature.{Slot, plain, types_at}
use denote.Steps.{nothing, heard}
use denote.Triple.Call.{calls_at}
use denote.Triple.Entry.{alive}
use denote.Triple.Table.{framed}
use denote.Triple.Walked.{Stays, stay_dropped, walk_of}
use Rattle.std_alloc.specs.Vec.Ownership.{lodged}
use Rattle.std_alloc.proofs.vec.lodged.Vec+T+Lodged.dislodge.Met as dislodge_met
use Rattle.std_collections.proofs.TreeMemory.Lodging.{Row, row_laws, tells, Dislodges, at_dislodge, dislodge_goes, dislodge_gives}
use Rattle.phys_mem.proofs.{Deeds.Empty, Deeds.mark, Deeds.mark_made, Rooms.Byte, Rooms.byte_laws, Rooms.filled}
use Rattle.phys_mem.proofs.block.settle.Statement.{statement}
use Rattle.phys_mem.specs.contracts.contents.Contents as contents
use Rattle.phys_mem.specs.{contracts.block.settle.ended, contracts.block.settle.clauses, contracts.block.settle.Key.name as the_key}
use Rattle.phys_mem.proofs.block.settle.Code as code

pub settle_spec : {M : Type 1} → statement M
settle_spec 𝓤 𝓛 𝓜 𝓡 wired =
    let H = 𝓛.H in
    let T = ended in
    let c = clauses 𝓛 𝓜.mem 𝓡.returns in
    let fn : Fn = code.function in
    let list : Slot 0 = plain (λ _. Row u8) in
    let stays : Stays T.signature.params T.kept = (stay_dropped list T.kept.0, tt) in
    let 𝓣 = tables 𝓤 H 𝓜 𝓡 𝓡.env in
    let C = 𝓣.C in
    let Λ = 𝓣.Λ in
    proved_at 𝓛 T stays c 𝓜 𝓡 (Goes-blank 𝓛 0 list T.kept.0 (λ κs x f. tt), tt) the_key fn (code.unfolded 𝓤 H 𝓜 𝓡 wired) (λ z are.
    let Post : Val → SProp 𝓤 = (walk_of 𝓛 T stays c).post z in
    let a = z.0.3 in
    let vss = z.0.4 in
    let bytes = a.0 in
    let r : contents.the_row.Denot = record { at = bytes.ptr; bytes = bytes.items } in
    let Asked : Type 0 = bytes.len ≡ bytes.cap in
    let Kept : Type 0 = (r.at ≡ bytes.ptr) × (r.bytes ≡ bytes.items) in
    qed 𝓛 ((raw (alive 𝓛 T.signature z.0.0 z.0.1) ⊛ ‵ (owns (types_at T.signature.params z.0.0) a vss)) ∷ raw (fact 𝓤 Asked) ∷ []) ∵
    move ! (1 ∷ []) $ heard ! Asked (λ full. split ! $ move ! (1 ∷ []) $ fsplit ! $
    tells ! (Row Byte) (row_laws Byte (param_laws 0 u8 byte_laws)) bytes vss.0 (λ u is good. move ! (1 ∷ []) $ drop ! $
    let w = at_dislodge u8 𝓛 𝓜.mem 𝓡.returns bytes u in
    regoal ! (λ (us : List Val). prop (WpFn 𝓤 H C Λ fn us Post)) (λ i. is i ++ []) refl $
    enter ! C Λ fn (u ∷ []) Post $ alloc_all ! (λ l. pass_all ! refl (good, tt) $
    sets ! (of_opd ! (get ! refl)) refl good $
    use1 𝓛 (raw ((Dislodges u8 𝓛 𝓜.mem 𝓡.returns).pre w)) (dislodge_goes u8 𝓛 𝓜.mem 𝓡.returns bytes u) $
    calls_at ! (λ f. framed 𝓤 H 𝓜 𝓣 f) (Dislodges u8 𝓛 𝓜.mem 𝓡.returns)
    (dislodge_met.met 𝓤 𝓛 𝓜 𝓡 (code.calls-std_alloc::vec::lodged::Vec+T+Lodged::dislodge 𝓡.env wired) (timeless u8) (timeless_laws u8 byte_laws)) w (and_then ! (get ! refl) (no_more !)) (λ x.
    use1 𝓛 (later (given ((x ≡ vint w64 bytes.len) × (bytes.len < 2 ^ 64)) (‵ (lodged Byte bytes.ptr bytes.len bytes.cap bytes.items)))) (dislodge_gives u8 𝓛 𝓜.mem 𝓡.returns bytes u x) $
    await ! tt $ learn ! (λ got. lands_as ! got.0 refl (tt, record { fits = got.1 }) $
    use1 𝓛 (‵ (lies_at (Array u8 (length bytes.items)) full_share bytes.ptr bytes.items)) (filled 𝓛 bytes.ptr bytes.len bytes.cap bytes.items bytes.ok.0 full) $
    sets ! (agg ! (no_more !)) refl (tt, tt) $ returns ! (look_at ! 0 refl) $ free_all ! refl $
    use0 𝓛 (‵ (Empty.own_val tt (mark ∷ []))) (mark_made 𝓛) $ fjoin ! $
    use0 𝓛 (raw (fact 𝓤 Kept)) (fact_i 𝓤 Kept (emp 𝓤) (refl, refl)) $
    nothing ! $ nothing ! $ fjoin ! $ move ! (3 ∷ 0 ∷ 2 ∷ 1 ∷ []) $ by ! (leaves 𝓛 T stays c z mark r (tt, tt) (tt, tt))))))))
