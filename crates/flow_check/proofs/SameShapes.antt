-- Equal numbers exactly for equal shapes.
use Rattle.std.proofs.Common.{◌≡◌, ℕ, List, [], ◌∷◌, map, refl, sym, ap, ◌∙◌, subst, arith, Bool, true, ◌&&◌}
use Rattle.std.specs.Prelude.{◌==◌}
use Rattle.std.specs.Bool.{Decides}
use Rattle.std.proofs.lemmas.Bool.Decides.{nat_tests}
use Rattle.std.proofs.lemmas.Bool.{and_parts}
use Rattle.model.specs.Machine.Steps.{Handler, OnBegin, OnTry}
use Rattle.model.specs.Module.Flow as flow
use Rattle.flow_check.specs.declared.pool.Node.{Node}
use Rattle.flow_check.specs.declared.shapes.Mode.{Mode}
use Rattle.flow_check.specs.declared.shapes.Mode.TheVariants.{Body, Goto, Evaluation}
use Rattle.flow_check.specs.declared.shapes.Shape.{Shape}
use Rattle.flow_check.specs.Numbers.{Is, Distinct, Grows}
use Rattle.flow_check.specs.Shapes.{IsShape, mode_of, top_of, runs, same_mode, same_shape, empty_shape}
use Rattle.flow_check.proofs.Stacks.{one_stack, one_number, grown}
use Rattle.flow_check.proofs.RunLaws.{runs_one}

mode_same : (m n : Mode) → same_mode m n ≡ true → m ≡ n
mode_same Body Body e = refl
mode_same Body Goto e = absurd (cc)
mode_same Body Evaluation e = absurd (cc)
mode_same Goto Body e = absurd (cc)
mode_same Goto Goto e = refl
mode_same Goto Evaluation e = absurd (cc)
mode_same Evaluation Body e = absurd (cc)
mode_same Evaluation Goto e = absurd (cc)
mode_same Evaluation Evaluation e = refl

mode_back : (m n : Mode) → mode_of m ≡ mode_of n → same_mode m n ≡ true
mode_back Body Body e = refl
mode_back Body Goto e = absurd (cc)
mode_back Body Evaluation e = absurd (cc)
mode_back Goto Body e = absurd (cc)
mode_back Goto Goto e = refl
mode_back Goto Evaluation e = absurd (cc)
mode_back Evaluation Body e = absurd (cc)
mode_back Evaluation Goto e = absurd (cc)
mode_back Evaluation Evaluation e = refl

stack_same : (i j : ℕ) → (i == j) ≡ true → i ≡ j
stack_same i j e = grind (arith, nat_tests)

stack_back : (i j : ℕ) → i ≡ j → (i == j) ≡ true
stack_back i j e = grind (arith, nat_tests)

top_one : (h g : Handler) → top_of h ≡ top_of g → h ≡ g
top_one (OnBegin t) (OnBegin u) e = cc
top_one (OnBegin t) (OnTry u d) e = absurd (cc)
top_one (OnTry t d) (OnBegin u) e = absurd (cc)
top_one (OnTry t d) (OnTry u f) e = cc

pub tops_one : (hs gs : List Handler) → map top_of hs ≡ map top_of gs → hs ≡ gs
tops_one [] [] e = refl
tops_one [] (g ∷ gs) e = absurd (cc)
tops_one (h ∷ hs) [] e = absurd (cc)
tops_one (h ∷ hs) (g ∷ gs) e =
    let a : h ≡ g = top_one h g (let z : top_of h ≡ top_of g = cc in z) in
    let b : hs ≡ gs = tops_one hs gs (let z : map top_of hs ≡ map top_of gs = cc in z) in
    cc

pub shapes : (m n : flow.Mode) (ks js : List flow.OperandKind) (hs gs : List Handler) → m ≡ n → ks ≡ js → hs ≡ gs → flow.shape m ks hs ≡ flow.shape n js gs
shapes m n ks js hs gs e f g = ap (λ x. flow.shape x ks hs) e ∙ ap (λ x. flow.shape n x hs) f ∙ ap (λ x. flow.shape n js x) g

pub same_true : (ns : List Node) (a b : Shape) (s t : flow.Shape) → IsShape ns a s → IsShape ns b t → same_shape a b ≡ true → s ≡ t
same_true ns a b s t h g e =
    let p = and_parts (same_mode a.mode b.mode) ((a.kinds == b.kinds) && (a.handlers == b.handlers)) e in
    let q = and_parts (a.kinds == b.kinds) (a.handlers == b.handlers) p.1 in
    let k : Is ns b.kinds (runs s.kinds) = subst (λ i. Is ns i (runs s.kinds)) (stack_same a.kinds b.kinds q.0) h.kinds in
    let l : Is ns b.handlers (map top_of s.handlers) = subst (λ i. Is ns i (map top_of s.handlers)) (stack_same a.handlers b.handlers q.1) h.handlers in
    shapes s.mode t.mode s.kinds t.kinds s.handlers t.handlers
    (sym h.mode ∙ ap mode_of (mode_same a.mode b.mode p.0) ∙ g.mode)
    (runs_one s.kinds t.kinds (one_stack ns b.kinds (runs s.kinds) (runs t.kinds) k g.kinds))
    (tops_one s.handlers t.handlers (one_stack ns b.handlers (map top_of s.handlers) (map top_of t.handlers) l g.handlers))

all_true : (a b c : Bool) → a ≡ true → b ≡ true → c ≡ true → (a && (b && c)) ≡ true
all_true a b c e f g = rw (e, f, g) refl

pub same_back : (ns : List Node) → Distinct ns → (a b : Shape) (s t : flow.Shape) → IsShape ns a s → IsShape ns b t → s ≡ t → same_shape a b ≡ true
same_back ns d a b s t h g e =
    all_true (same_mode a.mode b.mode) (a.kinds == b.kinds) (a.handlers == b.handlers)
    (mode_back a.mode b.mode (h.mode ∙ ap (λ (x : flow.Shape). x.mode) e ∙ sym g.mode))
    (stack_back a.kinds b.kinds (one_number ns d a.kinds b.kinds (runs t.kinds) (subst (λ (x : flow.Shape). Is ns a.kinds (runs x.kinds)) e h.kinds) g.kinds))
    (stack_back a.handlers b.handlers (one_number ns d a.handlers b.handlers (map top_of t.handlers) (subst (λ (x : flow.Shape). Is ns a.handlers (map top_of x.handlers)) e h.handlers) g.handlers))

pub shape_grown : (ns more : List Node) → Grows ns more → (a : Shape) (s : flow.Shape) → IsShape ns a s → IsShape more a s
shape_grown ns more g a s h = record {
  mode = h.mode;
  kinds = grown ns more g a.kinds (runs s.kinds) h.kinds;
  depth = h.depth;
  handlers = grown ns more g a.handlers (map top_of s.handlers) h.handlers;
  floor = h.floor;
}

pub empty_is : (ns : List Node) (m : Mode) → IsShape ns (empty_shape m) (flow.shape (mode_of m) [] [])
empty_is ns m = record { mode = refl; kinds = refl; depth = refl; handlers = refl; floor = refl }

pub bare_test : (ns : List Node) (a b : Shape) (s : flow.Shape) (r : Bool) → r ≡ same_shape a b → b ≡ empty_shape Goto → IsShape ns a s → Decides r (s ≡ flow.bare)
bare_test ns a b s r e f h =
    let g : r ≡ same_shape a (empty_shape Goto) = e ∙ ap (same_shape a) f in (
      λ t. same_true ns a (empty_shape Goto) s flow.bare h (empty_is ns Goto) (sym g ∙ t),
      λ x. g ∙ all_true (same_mode a.mode Goto) (a.kinds == 0) (a.handlers == 0)
          (mode_back a.mode Goto (h.mode ∙ ap (λ (y : flow.Shape). y.mode) x))
          (stack_back a.kinds 0 (subst (λ (y : flow.Shape). Is ns a.kinds (runs y.kinds)) x h.kinds))
          (stack_back a.handlers 0 (subst (λ (y : flow.Shape). Is ns a.handlers (map top_of y.handlers)) x h.handlers)),
    )
