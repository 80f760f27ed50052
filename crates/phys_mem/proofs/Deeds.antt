-- The machine's side of a deed: one field that takes no space.
use Rattle.std.proofs.Common.{◌≡◌, List, [], ◌∷◌, ◌++◌, refl, ap, ◌∙◌}
use seplogic.Ra.Ura.{Ura}
use mir.Val.{Val, vstruct, vcons, vnil, of_list}
use base.Logic.{ent, emp}
use base.Fml.{Fml}
use types.Logic.{Logic, sem}
use types.Kit.{‵, ◌$◌, ◌∵◌, !, qed, use0, fjoin, fpack, feq_i, done}
use denote.RattleType.{RattleType, Valss}
use denote.Shadow.{shadow}
use denote.Steps.{nothing}
use denote.Struct.Struct.{Struct, within}

abbrev pub Empty : RattleType
Empty = Struct (record { name = []; args = []; types = []; fields = [] })

abbrev One : RattleType
One = Struct (record { name = []; args = []; types = []; fields = Empty ∷ [] })

abbrev pub mark : Val
mark = vstruct vnil

abbrev pub deed_val : Val
deed_val = vstruct (vcons mark vnil)

abbrev pub deed_fields : List Val → Fml
deed_fields = One.own_val (tt, tt)

pub mark_reported : (vs : List Val) → shadow (Empty.own_val tt vs) → vs ≡ mark ∷ []
mark_reported vs s = s.1.0

pub deed_reported : (vs : List Val) → shadow (deed_fields vs) → vs ≡ deed_val ∷ []
deed_reported vs s = s.1.0 ∙ ap (λ us. vstruct (of_list (us ++ [])) ∷ []) s.1.1.0.1.0

module _ {M : Type 1} {𝓤 : Ura M} (𝓛 : Logic 𝓤) where
  -- a struct without fields is made of nothing
  pub mark_made : ent 𝓤 (emp 𝓤) (sem 𝓛 (Empty.own_val tt (mark ∷ [])))
  mark_made =
      qed 𝓛 [] ∵ nothing ! $ feq_i ! (List Val) (mark ∷ []) (mark ∷ []) refl $ fjoin ! $
      fpack ! (Valss []) (within (record { name = []; args = []; types = []; fields = [] }) tt (mark ∷ [])) tt $ done !

  pub deed_made : ent 𝓤 (emp 𝓤) (sem 𝓛 (deed_fields (deed_val ∷ [])))
  deed_made =
      qed 𝓛 [] ∵ nothing ! $ use0 𝓛 (‵ (Empty.own_val tt (mark ∷ []))) mark_made $ fjoin ! $
      feq_i ! (List Val) (deed_val ∷ []) (deed_val ∷ []) refl $ fjoin ! $
      fpack ! (Valss (Empty ∷ [])) (within (record { name = []; args = []; types = []; fields = Empty ∷ [] }) (tt, tt) (deed_val ∷ [])) (mark ∷ [], tt) $ done !
