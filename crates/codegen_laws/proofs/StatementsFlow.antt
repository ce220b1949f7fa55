-- The code of bodies and gotos is sound.
use Rattle.std.proofs.Common.{◌≡◌, ℕ, suc, ◌≤◌, [], ◌∷◌, length, refl, arith, true, Some, None, Option}
use Rattle.model.specs.declared.image.Image.{Image}
use Rattle.model.specs.declared.instr.Instr.TheVariants as op
use Rattle.model.specs.declared.instr.ReturnKind.{ReturnKind}
use Rattle.model.specs.declared.keys.KeyId.{KeyId}
use Rattle.model.specs.declared.trees.Unary.TheVariants as u
use Rattle.model.specs.Language.Calls.{return_of}
use Rattle.model.specs.Deck.Faults.{is_target, may_be_assigned, subject_fits}
use Rattle.model.specs.Module.Flow.{InBody, V, N, R, Shape, shape, bare, floor_of}
use Rattle.model.specs.Machine.Steps.{OnBegin}
use Rattle.model.specs.Language.Meaning.{key_target}
use Rattle.model.specs.Language.Names.{key_named}
use Rattle.model.specs.Deck.Trees.{Bytes, Expr, Name, Integer, Literal, Keyword, Call, Reference, Apply, Combine, Place, Label, Computed, Goto, Next, Always, OnSuccess, OnFailure, Both, Body, Nothing, Evaluate, Match, Assign, Replace}
use Rattle.model.specs.Module.WellFormed.{is_statement}
use Rattle.expr_codegen.specs.Code.{one, ◌>>◌, with_key}
use Rattle.codegen.specs.Layout.{object, assignment, body, goto_known, goto_label, place, after_success, after_failure}
use Rattle.codegen_laws.specs.Fit.{Fit, FitObject, FitBody, FitPlace, FitGoto}
use Rattle.codegen_laws.proofs.ExpressionsFlow.{Floors, value_flows, name_flows, null_flows, drop_flows}
use Rattle.codegen_laws.proofs.Flows.{push, Flows, flows_nothing, flows_one, flows_join}

-- in a body that goes on at f after a failure
abbrev pub begun : ℕ → Shape
begun f = shape InBody [] (OnBegin f ∷ [])

module _ (im : Image) where
  object_flows : (o : Option Expr) → FitObject o → (s : Shape) → Floors s → Flows im s (push V s) (object o)
  object_flows None g s f = null_flows im s f
  object_flows (Some e) g s f = value_flows im e g s f

  assign_flows : (s : Shape) → Floors s → Flows im (push V (push N s)) s (one op.Assign)
  assign_flows s f = flows_one im op.Assign (refl, tt) (s.kinds, refl, f) (λ p. tt)

  match_flows : (s : Shape) → Floors s → Flows im (push V (push V s)) s (one op.Match)
  match_flows s f = flows_one im op.Match (refl, tt) (s.kinds, refl, f) (λ p. tt)

  fetchk_flows : (s : Shape) → Floors s → Flows im (push N s) (push V (push N s)) (one op.FetchK)
  fetchk_flows s f = flows_one im op.FetchK (refl, tt) (s.kinds, refl, f) (λ p. tt)

  matchr_flows : (s : Shape) → Floors s → Flows im (push V (push V (push N s))) (push R (push N s)) (one op.MatchR)
  matchr_flows s f = flows_one im op.MatchR (refl, tt) (s.kinds, refl, f) (λ p. tt)

  splice_flows : (s : Shape) → Floors s → Flows im (push V (push R (push N s))) s (one op.Splice)
  splice_flows s f = flows_one im op.Splice (refl, tt) (s.kinds, refl, f) (λ p. tt)

  keyset_flows : (o : Option KeyId) → may_be_assigned o ≡ true → (s : Shape) → Floors s → Flows im (push V s) s (with_key op.KeySet o)
  keyset_flows None t s f = absurd (cc)
  keyset_flows (Some k) t s f = flows_one im (op.KeySet k) (t, tt) (s.kinds, refl, f) (λ p. tt)

  assigned : (x : Expr) (o : Option Expr) → is_target x ≡ true → Fit x → FitObject o → (s : Shape) → Floors s → Flows im s s (assignment None x o)
  assigned x o t g h s f = flows_join im (name_flows im x t g s f) (flows_join im (object_flows o h (push N s) (let e : floor_of s.handlers ≤ suc (length s.kinds) = omega (arith, f) in e)) (assign_flows s f))

  assignment_flows : (x : Expr) (o : Option Expr) → subject_fits (Assign x o) ≡ true → Fit x → FitObject o → (s : Shape) → Floors s → Flows im s s (assignment (key_target x) x o)
  assignment_flows (Keyword k) o t g h s f = flows_join im (object_flows o h s f) (keyset_flows (key_named k) t s f)
  assignment_flows (Name x) o t g h s f = assigned (Name x) o t g h s f
  assignment_flows (Integer z) o t g h s f = assigned (Integer z) o t g h s f
  assignment_flows (Literal x) o t g h s f = assigned (Literal x) o t g h s f
  assignment_flows (Call x args) o t g h s f = assigned (Call x args) o t g h s f
  assignment_flows (Reference x args) o t g h s f = assigned (Reference x args) o t g h s f
  assignment_flows (Apply u.Indirect x) o t g h s f = assigned (Apply u.Indirect x) o t g h s f
  assignment_flows (Apply _ x) o t g h s f = absurd (cc)
  assignment_flows (Combine b x y) o t g h s f = assigned (Combine b x y) o t g h s f

  -- a body leaves what it found
  body_flows : (b : Body) → FitBody b → (s : Shape) → Floors s → Flows im s s (body b)
  body_flows Nothing g s f = flows_nothing im
  body_flows (Evaluate e) g s f = flows_join im (value_flows im e g s f) (drop_flows im s f)
  body_flows (Match x y) (g, h) s f =
      let up : floor_of s.handlers ≤ suc (length s.kinds) = omega (arith, f) in
      flows_join im (value_flows im x g s f) (flows_join im (value_flows im y h (push V s) up) (match_flows s f))
  body_flows (Assign x o) (t, g, h) s f = assignment_flows x o t g h s f
  body_flows (Replace x y o) (t, g, h, i) s f =
      let up2 : floor_of s.handlers ≤ suc (suc (length s.kinds)) = omega (arith, f) in
      flows_join im (name_flows im x t g s f) (flows_join im (fetchk_flows s f) (flows_join im (value_flows im y h (push V (push N s)) up2)
      (flows_join im (matchr_flows s f) (flows_join im (object_flows o i (push R (push N s)) up2) (splice_flows s f)))))

  -- ---- gotos

  module _ (number_of : Bytes → Option ℕ) (there : (l : Bytes) (n : ℕ) → number_of l ≡ Some n → is_statement im n ≡ true) where
    known_flows : (o : Option ℕ) → ((n : ℕ) → o ≡ Some n → is_statement im n ≡ true) → Flows im bare bare (one (goto_known o))
    known_flows None t = flows_one im op.NoLabel (refl, tt) refl (λ p. tt)
    known_flows (Some n) t = flows_one im (op.Goto n) (t n refl, tt) refl (λ p. tt)

    label_flows : (l : Bytes) (r : Option ReturnKind) → Flows im bare bare (one (goto_label r (number_of l)))
    label_flows l None = known_flows (number_of l) (there l)
    label_flows l (Some r) = flows_one im (op.Return r) (refl, tt) refl (λ p. tt)

    place_flows : (x : Place) → FitPlace x → Flows im bare bare (place number_of x)
    place_flows (Label l) f = label_flows l (return_of l)
    place_flows (Computed e) f = flows_join im (value_flows im e f bare (omega arith)) (flows_one im op.GotoV (refl, tt) refl (λ p. tt))

    success_flows : (k : ℕ) (g : Goto) → FitGoto g → is_statement im (suc k) ≡ true → Flows im bare bare (after_success number_of k g)
    success_flows k Next f n = flows_nothing im
    success_flows k (Always x) f n = flows_nothing im
    success_flows k (OnSuccess x) f n = place_flows x f
    success_flows k (OnFailure x) f n = flows_one im (op.Goto (suc k)) (n, tt) refl (λ p. tt)
    success_flows k (Both x y) (f, g) n = place_flows x f

    pub failure_flows : (g : Goto) → FitGoto g → Flows im bare bare (after_failure number_of g)
    failure_flows Next f = flows_nothing im
    failure_flows (Always x) f = place_flows x f
    failure_flows (OnSuccess x) f = flows_nothing im
    failure_flows (OnFailure x) f = place_flows x f
    failure_flows (Both x y) (f, g) = place_flows y g

    -- from BEGIN to where a failed statement goes on
    pub inner_flows : (k : ℕ) (b : Body) (g : Goto) → FitBody b → FitGoto g → is_statement im (suc k) ≡ true → (f : ℕ) → Flows im (begun f) bare (body b >> one op.Body >> after_success number_of k g)
    inner_flows k b g fb fg n f = flows_join im (body_flows b fb (begun f) (omega arith)) (flows_join im (flows_one im op.Body (refl, tt) (f, refl) (λ p. tt)) (success_flows k g fg n))
