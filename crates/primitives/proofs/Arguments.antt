-- The arguments that primitives take.
use Rattle.std.proofs.Common.{◌≡◌, List, [], ◌∷◌, IsTrue, refl, sym, true≢false}
use Rattle.model.specs.declared.primitives.PrimId.{PrimId}
use Rattle.model.specs.declared.primitives.PrimId.TheVariants as p
use Rattle.model.specs.Machine.Steps.{MVal, MW, codes_of}
use Rattle.model.specs.Language.Primitives.{prim_op}
use Rattle.model.specs.Language.Calls.{arg_at}
use Rattle.primitives.specs.Answers.{is_by_number}
use Rattle.primitives.specs.Calling.{IsOther}

-- these primitives take three arguments at most
pub first_three : (id : PrimId) (vs : List MVal) (w : MW) → IsTrue (is_by_number id) → prim_op codes_of id (arg_at vs 0 ∷ arg_at vs 1 ∷ arg_at vs 2 ∷ []) w ≡ prim_op codes_of id vs w
first_three p.Len vs w h = refl
first_three p.Pos vs w h = refl
first_three p.RPos vs w h = refl
first_three p.Tab vs w h = refl
first_three p.RTab vs w h = refl
first_three p.Any vs w h = refl
first_three p.NotAny vs w h = refl
first_three p.Span vs w h = refl
first_three p.Break vs w h = refl
first_three p.Arbno vs w h = refl
first_three p.Eq vs w h = refl
first_three p.Ne vs w h = refl
first_three p.Lt vs w h = refl
first_three p.Le vs w h = refl
first_three p.Gt vs w h = refl
first_three p.Ge vs w h = refl
first_three p.Lgt vs w h = refl
first_three p.Ident vs w h = refl
first_three p.Differ vs w h = refl
first_three p.Integer vs w h = refl
first_three p.Size vs w h = refl
first_three p.Trim vs w h = refl
first_three p.Dupl vs w h = refl
first_three p.Replace vs w h = refl
first_three p.Remdr vs w h = refl
first_three p.DataType vs w h = refl
first_three p.Fence vs w h = refl
first_three p.Array vs w h = refl
first_three p.Table vs w h = refl
first_three p.Item vs w h = absurd (true≢false (sym h))
first_three p.Copy vs w h = refl
first_three p.Convert vs w h = refl
first_three p.Data vs w h = refl
first_three p.Define vs w h = refl
first_three p.Apply vs w h = absurd (true≢false (sym h))
first_three p.Input vs w h = refl
first_three p.Output vs w h = refl
first_three p.Detach vs w h = refl

pub by_number : (id : PrimId) → IsOther id → (id ≡ p.Item → ⊥) → IsTrue (is_by_number id)
by_number p.Item other isn = absurd (isn refl)
by_number p.Apply other isn = absurd other
by_number _ other isn = refl
