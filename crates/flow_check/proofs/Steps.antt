-- What the steps of one instruction tell of the shape.
use Rattle.std.proofs.Common.{◌≡◌, ℕ, List, [], ◌∷◌, ◌++◌, ◌+◌, ◌-◌, ◌≤◌, ◌<◌, length, drop, map, refl, sym, ap, ◌∙◌, subst, arith, Option, Some, None}
use Rattle.model.specs.Machine.Steps.{Handler, OnBegin}
use Rattle.model.specs.Module.Flow as flow
use Rattle.flow_check.specs.declared.pool.Node.{Node}
use Rattle.flow_check.specs.declared.pool.Top.TheVariants.{Begin}
use Rattle.flow_check.specs.declared.rules.Takes.{Takes}
use Rattle.flow_check.specs.declared.rules.Leaves.{Leaves}
use Rattle.flow_check.specs.declared.rules.Rule.TheVariants.{Operate}
use Rattle.flow_check.specs.declared.shapes.Led.{Led}
use Rattle.flow_check.specs.declared.shapes.Mode.{Mode}
use Rattle.flow_check.specs.declared.shapes.Mode.TheVariants.{Body}
use Rattle.flow_check.specs.declared.shapes.Shape.{Shape}
use Rattle.flow_check.specs.Numbers.{Is, node, node_at}
use Rattle.flow_check.specs.Rules.{taken, left}
use Rattle.flow_check.specs.Shapes.{IsShape, IsTaken, IsNext, IsTarget, IsPut, Advances, mode_of, top_of, runs}
use Rattle.flow_check.proofs.Stacks.{one_stack}
use Rattle.flow_check.proofs.RunLaws.{runs_one, none_empty, cancel}
use Rattle.flow_check.proofs.SameShapes.{shapes, tops_one}

module _ (ns : List Node) (i : ℕ) (n : Node) (at : node_at ns i ≡ Some n) (hs : List Handler) (h : Is ns i (map top_of hs)) where
  pub one_begin : (t : ℕ) → n.top ≡ Begin t → n.below ≡ 0 → hs ≡ OnBegin t ∷ []
  one_begin t e b = tops_one hs (OnBegin t ∷ []) (one_stack ns i (map top_of hs) (Begin t ∷ []) h (n.below, at ∙ ap (λ x. Some (node x n.below)) e, b))

  pub begin_alone : (t : ℕ) → hs ≡ OnBegin t ∷ [] → n.below ≡ 0
  begin_alone t e =
      let g : Is ns i (Begin t ∷ []) = subst (λ l. Is ns i (map top_of l)) e h in
      let f : Some n ≡ Some (node (Begin t) g.0) = sym at ∙ g.1 in
      let m : n ≡ node (Begin t) g.0 = cc in
      ap (λ (x : Node). x.below) m ∙ g.2

pub length_both : (ts bs : List flow.OperandKind) → length (ts ++ bs) ≡ length ts + length bs
length_both [] bs = omega arith
length_both (t ∷ ts) bs = let r = length_both ts bs in omega (arith, r)

module _ (ns : List Node) (a : Shape) (s : flow.Shape) (h : IsShape ns a s) where
  no_kinds : a.kinds ≡ 0 → s.kinds ≡ []
  no_kinds e = runs_one s.kinds [] (none_empty ns a.kinds (runs s.kinds) e h.kinds)

  no_handlers : a.handlers ≡ 0 → s.handlers ≡ []
  no_handlers e = tops_one s.handlers [] (none_empty ns a.handlers (map top_of s.handlers) e h.handlers)

  pub in_body : (t : ℕ) → a.mode ≡ Body → a.kinds ≡ 0 → s.handlers ≡ OnBegin t ∷ [] → s ≡ flow.shape flow.InBody [] (OnBegin t ∷ [])
  in_body t m k e = shapes s.mode flow.InBody s.kinds [] s.handlers (OnBegin t ∷ []) (sym h.mode ∙ ap mode_of m) (no_kinds k) e

  pub with_value : a.handlers ≡ 0 → s.kinds ≡ flow.V ∷ [] → s ≡ flow.shape s.mode (flow.V ∷ []) []
  with_value e k = shapes s.mode s.mode s.kinds (flow.V ∷ []) s.handlers [] refl k (no_handlers e)

  pub fewer_fit : (ts bs : List flow.OperandKind) → s.kinds ≡ ts ++ bs → length ts ≤ a.depth
  fewer_fit ts bs e = let l = ap length e in let d = h.depth in let x = length_both ts bs in omega (arith, l, d, x)

drop_all : (ts bs : List flow.OperandKind) → drop (length ts) (ts ++ bs) ≡ bs
drop_all [] bs = refl
drop_all (t ∷ ts) bs = drop_all ts bs

-- what is left below
pub depth_left : (d : ℕ) (s : flow.Shape) (ts bs : List flow.OperandKind) → d ≡ length s.kinds → s.kinds ≡ ts ++ bs → d - length ts ≡ length bs
depth_left d s ts bs e f = let l = ap length f in let x = length_both ts bs in omega (arith, e, l, x)

-- not above what the handler keeps
pub not_above : (s : flow.Shape) (ts bs : List flow.OperandKind) → s.kinds ≡ ts ++ bs → length bs < flow.floor_of s.handlers → flow.Above ts s → ⊥
not_above s ts bs e l (below, f, g) =
    let c : bs ≡ below = cancel ts bs below (sym e ∙ f) in
    let x = ap length c in
    absurd (omega (arith, l, g, x))

taken_put : (m : flow.Mode) (s : flow.Shape) (ts us bs : List flow.OperandKind) → m ≡ s.mode → s.kinds ≡ ts ++ bs → flow.shape m (us ++ bs) s.handlers ≡ flow.shape s.mode (us ++ drop (length ts) s.kinds) s.handlers
taken_put m s ts us bs e f = shapes m s.mode (us ++ bs) (us ++ drop (length ts) s.kinds) s.handlers s.handlers e (ap (λ l. us ++ l) (sym (ap (drop (length ts)) f ∙ drop_all ts bs))) refl

pub taken_at : (ns : List Node) (r : Option ℕ) (k : ℕ) (ts ks : List flow.OperandKind) → r ≡ Some k → IsTaken ns r ts ks → IsTaken ns (Some k) ts ks
taken_at ns r k ts ks e h = subst (λ x. IsTaken ns x ts ks) e h

-- an operation is what it takes and what it leaves
pub put_advances : (ns : List Node) (led : Option Led) (m : Mode) (s : flow.Shape) (ts : Takes) (ls : Leaves) (bs : List flow.OperandKind) → mode_of m ≡ s.mode → s.kinds ≡ taken ts ++ bs
    → IsPut ns led m (left ls) bs s.handlers → Advances ns led (Operate ts ls) s
put_advances ns None m s ts ls bs e f h = not_above s (taken ts) bs f h
put_advances ns (Some led) m s ts ls bs e f h = (
  (bs, f, h.0),
  subst (λ x. IsNext ns led.next (Some x)) (taken_put (mode_of m) s (taken ts) (left ls) bs e f) h.1,
  subst (λ t. IsTarget ns t None) (sym h.2) tt,
)
