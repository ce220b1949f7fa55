-- Primitives that change nothing.
use Rattle.std.proofs.Common.{◌≡◌, List, [], ◌∷◌, true, IsTrue, refl, sym, ◌∙◌, true≢false}
use Rattle.model.specs.declared.primitives.PrimId.{PrimId}
use Rattle.model.specs.declared.primitives.PrimId.TheVariants as p
use Rattle.model.specs.Language.Calls.{arg_at}
use Rattle.model.specs.Language.Primitives.{prim_op}
use Rattle.model.specs.Machine.Steps.{MVal, MW, codes_of}
use Rattle.primitives.specs.Answers.{is_by_number}
use Rattle.primitives.specs.Pure.{is_pure}
use Rattle.primitives.proofs.Arguments.{first_three}

-- they take their arguments by their numbers
pub pure_by_number : (id : PrimId) → is_pure id ≡ true → IsTrue (is_by_number id)
pure_by_number p.Item h = absurd (true≢false (sym h))
pure_by_number p.Apply h = absurd (true≢false (sym h))
pure_by_number _ h = refl

-- what is called with three arguments is called with these
pub three_are : (id : PrimId) (a b c : MVal) (vs : List MVal) (w : MW) → is_pure id ≡ true → arg_at vs 0 ≡ a → arg_at vs 1 ≡ b → arg_at vs 2 ≡ c → prim_op codes_of id (a ∷ b ∷ c ∷ []) w ≡ prim_op codes_of id vs w
three_are id a b c vs w pure first second third =
    sym (λ i. prim_op codes_of id (first i ∷ second i ∷ third i ∷ []) w) ∙ first_three id vs w (pure_by_number id pure)

-- what takes its arguments by their numbers and isn't pure is one of these
pub pure_rest : (id : PrimId) → IsTrue (is_by_number id) → (id ≡ p.Array → ⊥) → (id ≡ p.Table → ⊥) → (id ≡ p.Copy → ⊥) → (id ≡ p.Convert → ⊥) → (id ≡ p.Data → ⊥) → (id ≡ p.Input → ⊥) → (id ≡ p.Output → ⊥) → (id ≡ p.Detach → ⊥) → (id ≡ p.Define → ⊥)
    → is_pure id ≡ true
pure_rest p.Item by a t c v d i o e f = absurd (true≢false (sym by))
pure_rest p.Apply by a t c v d i o e f = absurd (true≢false (sym by))
pure_rest p.Array by a t c v d i o e f = absurd (a refl)
pure_rest p.Table by a t c v d i o e f = absurd (t refl)
pure_rest p.Copy by a t c v d i o e f = absurd (c refl)
pure_rest p.Convert by a t c v d i o e f = absurd (v refl)
pure_rest p.Data by a t c v d i o e f = absurd (d refl)
pure_rest p.Input by a t c v d i o e f = absurd (i refl)
pure_rest p.Output by a t c v d i o e f = absurd (o refl)
pure_rest p.Detach by a t c v d i o e f = absurd (e refl)
pure_rest p.Define by a t c v d i o e f = absurd (f refl)
pure_rest _ by a t c v d i o e f = refl
