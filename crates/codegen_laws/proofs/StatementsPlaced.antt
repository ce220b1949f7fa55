-- The code of a statement means it, wherever it stands.
use Rattle.std.proofs.Common.{◌≡◌, ℕ, suc, List, refl, ap, ◌∙◌, subst, true, not, Some, None, Option, slice_get, inl, inr}
use Rattle.model.specs.declared.instr.Instr.{Instr}
use Rattle.model.specs.declared.instr.Instr.TheVariants as op
use Rattle.model.specs.declared.instr.ReturnKind.{ReturnKind}
use Rattle.model.specs.declared.keys.KeyId.{KeyId}
use Rattle.model.specs.declared.trees.Unary.TheVariants as u
use Rattle.model.specs.Language.Calls.{return_of}
use Rattle.model.specs.Deck.Faults.{is_target, may_be_assigned, subject_fits}
use Rattle.model.specs.Machine.Steps.{Module}
use Rattle.model.specs.Language.Meaning.{key_target, onward_of, other_of}
use Rattle.model.specs.Language.Names.{key_named, is_protected}
use Rattle.model.specs.Module.Placed.{CodeV, CodeN, CodeO, CodeAssign, CodeB, CodeKnown, CodeLabel, CodeG, CodeS, Is}
use Rattle.model.specs.Language.Programs.{Program}
use Rattle.model.specs.Deck.Trees.{Bytes, Expr, Name, Integer, Literal, Keyword, Call, Reference, Apply, Combine, Place, Label, Computed, Goto, Next, Always, OnSuccess, OnFailure, Both, Body, Nothing, Evaluate, Match, Assign, Replace, Plain, End}
use Rattle.expr_codegen.specs.Code.{Part, one, ◌>>◌, value, name}
use Rattle.codegen.specs.Layout.{object, assignment, body, goto_known, goto_label, place, after_success, after_failure, statement}
use Rattle.codegen_laws.specs.Fit.{Fit, FitObject, FitBody, FitPlace, FitGoto, FitStmt}
use Rattle.codegen_laws.proofs.Standing.{Means, means_nothing, means_one, means_join, means_join3, means_handled, means_as}
use Rattle.codegen_laws.proofs.ExpressionsPlaced.{value_placed, name_placed, key_placed}

-- a keyword that may be assigned is known
pub assigned_key : (o : Option KeyId) → may_be_assigned o ≡ true → (k : KeyId) × (o ≡ Some k) × (not (is_protected k) ≡ true)
assigned_key None h = absurd (cc)
assigned_key (Some k) h = (k, refl, h)

module _ (prog : Program) (img : Module) (texts : List Bytes) (strings : (k : ℕ) → img.string k ≡ slice_get texts k) (trees_at : ℕ → Option Expr) where
  abbrev Placed : (ℕ → ℕ → Type 0) → Part → Type 0
  Placed C a = Means img texts strings trees_at C a

  one_is : (i : Instr) → Placed (λ p q. Is prog img trees_at p i q) (one i)
  one_is i = means_one img texts strings trees_at i

  then : {A B : ℕ → ℕ → Type 0} {a b : Part} → Placed A a → Placed B b → Placed (λ p q. (r : ℕ) × A p r × B r q) (a >> b)
  then m n = means_join img texts strings trees_at m n

  value_is : (e : Expr) → Fit e → Placed (CodeV prog img trees_at e) (value e)
  value_is e f = value_placed prog img texts strings trees_at e f

  name_is : (e : Expr) → is_target e ≡ true → Fit e → Placed (CodeN prog img trees_at e) (name e)
  name_is e t f = name_placed prog img texts strings trees_at e t f

  object_placed : (o : Option Expr) → FitObject o → Placed (CodeO prog img trees_at o) (object o)
  object_placed None f = one_is op.Null
  object_placed (Some e) f = value_is e f

  assigned : (x : Expr) (o : Option Expr) → is_target x ≡ true → Fit x → FitObject o → Placed (CodeAssign prog img trees_at None x o) (assignment None x o)
  assigned x o t f g = means_join3 img texts strings trees_at (name_is x t f) (object_placed o g) (one_is op.Assign)

  assignment_placed : (x : Expr) (o : Option Expr) → subject_fits (Assign x o) ≡ true → Fit x → FitObject o → Placed (CodeAssign prog img trees_at (key_target x) x o) (assignment (key_target x) x o)
  assignment_placed (Keyword s) o t f g = let k = assigned_key (key_named s) t in then (object_placed o g) (key_placed prog img texts strings trees_at op.KeySet (key_named s) k.0 k.1)
  assignment_placed (Name s) o t f g = assigned (Name s) o t f g
  assignment_placed (Integer z) o t f g = assigned (Integer z) o t f g
  assignment_placed (Literal s) o t f g = assigned (Literal s) o t f g
  assignment_placed (Call s args) o t f g = assigned (Call s args) o t f g
  assignment_placed (Reference s args) o t f g = assigned (Reference s args) o t f g
  assignment_placed (Apply u.Indirect x) o t f g = assigned (Apply u.Indirect x) o t f g
  assignment_placed (Apply _ x) o t f g = absurd (cc)
  assignment_placed (Combine b x y) o t f g = assigned (Combine b x y) o t f g

  body_placed : (b : Body) → FitBody b → Placed (CodeB prog img trees_at b) (body b)
  body_placed Nothing f = means_nothing img texts strings trees_at (λ p. refl)
  body_placed (Evaluate e) f = then (value_is e f) (one_is op.Drop)
  body_placed (Match x y) (f, g) = means_join3 img texts strings trees_at (value_is x f) (value_is y g) (one_is op.Match)
  body_placed (Assign x o) (t, f, g) = assignment_placed x o t f g
  body_placed (Replace x y o) (t, f, g, h) = means_as img texts strings trees_at (λ p q (r, i, (s, j, (v, k, (w, l, (z, m, n))))). (r, s, v, w, z, i, j, k, l, m, n))
      (then (name_is x t f) (then (one_is op.FetchK) (then (value_is y g) (then (one_is op.MatchR) (then (object_placed o h) (one_is op.Splice))))))

  -- ---- gotos

  known_placed : (o : Option ℕ) → Placed (λ p q. CodeKnown prog img trees_at o p) (one (goto_known o))
  known_placed None = means_as img texts strings trees_at (λ p q i. (q, i)) (one_is op.NoLabel)
  known_placed (Some k) = means_as img texts strings trees_at (λ p q i. (q, i)) (one_is (op.Goto k))

  label_placed : (l : Bytes) (r : Option ReturnKind) → Placed (λ p q. CodeLabel prog img trees_at l r p) (one (goto_label r (prog.label l)))
  label_placed l None = known_placed (prog.label l)
  label_placed l (Some r) = means_as img texts strings trees_at (λ p q i. (q, i)) (one_is (op.Return r))

  place_placed : (k : ℕ) (x : Place) → FitPlace x → Placed (λ p q. CodeG prog img trees_at k (Some x) p) (place prog.label x)
  place_placed k (Label l) f = label_placed l (return_of l)
  place_placed k (Computed e) f = means_as img texts strings trees_at (λ p q (r, v, g). (r, q, v, g)) (then (value_is e f) (one_is op.GotoV))

  -- what stands before the place at which a failed statement goes on, and there
  abbrev SuccessAt : ℕ → Goto → ℕ → ℕ → Type 0
  SuccessAt k Next p q = q ≡ p
  SuccessAt k (Always x) p q = q ≡ p
  SuccessAt k (OnSuccess x) p q = CodeG prog img trees_at k (Some x) p
  SuccessAt k (OnFailure x) p q = Is prog img trees_at p (op.Goto (suc k)) q
  SuccessAt k (Both x y) p q = CodeG prog img trees_at k (Some x) p

  abbrev FailureAt : ℕ → Goto → ℕ → ℕ → Type 0
  FailureAt k Next p q = q ≡ p
  FailureAt k (Always x) p q = CodeG prog img trees_at k (Some x) p
  FailureAt k (OnSuccess x) p q = q ≡ p
  FailureAt k (OnFailure y) p q = CodeG prog img trees_at k (Some y) p
  FailureAt k (Both x y) p q = CodeG prog img trees_at k (Some y) p

  success_placed : (k : ℕ) (g : Goto) → FitGoto g → Placed (SuccessAt k g) (after_success prog.label k g)
  success_placed k Next f = means_nothing img texts strings trees_at (λ p. refl)
  success_placed k (Always x) f = means_nothing img texts strings trees_at (λ p. refl)
  success_placed k (OnSuccess x) f = place_placed k x f
  success_placed k (OnFailure x) f = one_is (op.Goto (suc k))
  success_placed k (Both x y) (f, g) = place_placed k x f

  failure_placed : (k : ℕ) (g : Goto) → FitGoto g → Placed (FailureAt k g) (after_failure prog.label g)
  failure_placed k Next f = means_nothing img texts strings trees_at (λ p. refl)
  failure_placed k (Always x) f = place_placed k x f
  failure_placed k (OnSuccess x) f = means_nothing img texts strings trees_at (λ p. refl)
  failure_placed k (OnFailure x) f = place_placed k x f
  failure_placed k (Both x y) (f, g) = place_placed k y g

  -- the next statement stands behind
  onward : (k : ℕ) (g : Goto) (p t q : ℕ) → img.stmt (suc k) ≡ Some q → SuccessAt k g p t → FailureAt k g t q → CodeG prog img trees_at k (onward_of g) p
  onward k Next p t q n a b = inl (n ∙ ap Some (b ∙ a))
  onward k (Always x) p t q n a b = subst (λ y. CodeG prog img trees_at k (Some x) y) a b
  onward k (OnSuccess x) p t q n a b = a
  onward k (OnFailure x) p t q n a b = inr (t, a)
  onward k (Both x y) p t q n a b = a

  other : (k : ℕ) (g : Goto) (p t q : ℕ) → img.stmt (suc k) ≡ Some q → SuccessAt k g p t → FailureAt k g t q → CodeG prog img trees_at k (other_of g) t
  other k Next p t q n a b = inl (n ∙ ap Some b)
  other k (Always x) p t q n a b = b
  other k (OnSuccess x) p t q n a b = inl (n ∙ ap Some b)
  other k (OnFailure x) p t q n a b = b
  other k (Both x y) p t q n a b = b

  -- statement k, whose number the module knows, before statement k + 1
  pub statement_placed : (k : ℕ) (l : Option Bytes) (b : Body) (g : Goto) → FitStmt (Plain l b g)
      → Placed (λ p q. img.stmt (suc k) ≡ Some q → img.number p ≡ k → CodeS prog img trees_at k (Some (Plain l b g)) p) (statement prog.label k (Plain l b g))
  statement_placed k l b g (f, h) = means_as img texts strings trees_at
      (λ p q (t, r, i, (s, c, (v, d, e)), w) n m. (r, s, v, t, i, c, d, onward k g v t q n e w, other k g v t q n e w, m))
      (means_handled img texts strings trees_at op.Begin (λ x. refl) (then (body_placed b f) (then (one_is op.Body) (success_placed k g h))) (failure_placed k g h))

  pub end_placed : (k : ℕ) (e : Option Bytes) → Placed (λ p q. CodeS prog img trees_at k (Some (End e)) p) (statement prog.label k (End e))
  end_placed k e = means_as img texts strings trees_at (λ p q i. (q, i)) (one_is op.End)
