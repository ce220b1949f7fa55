-- What it is for the code of a tree to stand at a place of a module.
use Rattle.std.specs.Prelude.{◌≡◌, ℕ, suc, Option, None, Some, ◌⊎◌}
use Rattle.model.specs.declared.instr.Instr.{Instr}
use Rattle.model.specs.declared.instr.Instr.TheVariants as op
use Rattle.model.specs.declared.instr.ArithOp.TheVariants as arith
use Rattle.model.specs.declared.instr.SignOp.TheVariants as sign
use Rattle.model.specs.declared.instr.ReturnKind.{ReturnKind}
use Rattle.model.specs.declared.keys.KeyId.{KeyId}
use Rattle.model.specs.declared.primitives.PrimId.{PrimId}
use Rattle.model.specs.declared.trees.Unary.TheVariants as u
use Rattle.model.specs.declared.trees.Binary.TheVariants as b
use Rattle.model.specs.Deck.Trees.{Bytes, Expr, Name, Integer, Literal, Keyword, Call, Reference, Apply, Combine, Args, Nil, More, Absent, Given, Place, Label, Computed, Goto, Body, Nothing, Evaluate, Match, Assign, Replace, Stmt, Plain, End}
use Rattle.model.specs.Language.Names.{key_named, prim_named}
use Rattle.model.specs.Language.Programs.{Program}
use Rattle.model.specs.Language.Calls.{return_of}
use Rattle.model.specs.Language.Meaning.{key_target, onward_of, other_of}
use Rattle.model.specs.Machine.Steps.{At, Module}

-- trees_at: the unevaluated expressions by number
module _ (prog : Program) (img : Module) (trees_at : ℕ → Option Expr) where
  -- an instruction stands from p to q
  abbrev pub Is : ℕ → Instr → ℕ → Type 0
  Is p i q = img.fetch p ≡ At i q

  -- an instruction with the number of this string
  abbrev pub TextAt : (ℕ → Instr) → Bytes → ℕ → ℕ → Type 0
  TextAt i s p q = (k : ℕ) × (img.string k ≡ Some s) × Is p (i k) q

  abbrev pub KeyAt : (KeyId → Instr) → Option KeyId → ℕ → ℕ → Type 0
  KeyAt i None p q = ⊥
  KeyAt i (Some k) p q = Is p (i k) q

  -- the call of a primitive or of a function of the program's own, after its n arguments
  abbrev pub CallAt : (PrimId → ℕ → Instr) → (ℕ → ℕ → Instr) → Option PrimId → Bytes → ℕ → ℕ → ℕ → Type 0
  CallAt prim call None f n p q = TextAt (λ k. call k n) f p q
  CallAt prim call (Some x) f n p q = Is p (prim x n) q

  abbrev mutual
    -- code for the value of an expression
    pub CodeV : Expr → ℕ → ℕ → Type 0
    CodeV (Name x) p q = (r : ℕ) × TextAt op.Var x p r × Is r op.Fetch q
    CodeV (Integer z) p q = Is p (op.Int z) q
    CodeV (Literal s) p q = TextAt op.Str s p q
    CodeV (Keyword s) p q = KeyAt op.KeyGet (key_named s) p q
    CodeV (Call f args) p q = (r n : ℕ) × CodeA args n p r × CallAt op.PrimV op.CallV (prim_named f) f n r q
    CodeV (Reference x args) p q = (r s t v n : ℕ) × TextAt op.Var x p r × Is r op.Fetch s × CodeA args n s t × Is t (op.Elem n) v × Is v op.Fetch q
    CodeV (Apply u.NameOf e) p q = (r : ℕ) × CodeN e p r × Is r op.NameV q
    CodeV (Apply u.Indirect e) p q = (r s : ℕ) × CodeV e p r × Is r op.Indir s × Is s op.Fetch q
    CodeV (Apply u.Unevaluated e) p q = (k : ℕ) × (trees_at k ≡ Some e) × Is p (op.Expr k) q
    CodeV (Apply u.Cursor e) p q = (r : ℕ) × CodeN e p r × Is r op.Cursor q
    CodeV (Apply u.Plus e) p q = (r : ℕ) × CodeV e p r × Is r (op.Sign sign.Plus) q
    CodeV (Apply u.Minus e) p q = (r : ℕ) × CodeV e p r × Is r (op.Sign sign.Minus) q
    CodeV (Apply u.Interrogate e) p q = (r s : ℕ) × CodeV e p r × Is r op.Drop s × Is s op.Null q
    CodeV (Apply u.Negate e) p q = (r s t v x y : ℕ) × Is p (op.Try t) r × CodeV e r s × Is s op.Drop v × Is v op.Untry x × Is x op.Fail y × Is t op.Null q
    CodeV (Combine b.Conditional x y) p q = (r s : ℕ) × CodeV x p r × CodeN y r s × Is s op.Cond q
    CodeV (Combine b.Immediate x y) p q = (r s : ℕ) × CodeV x p r × CodeN y r s × Is s op.Imm q
    CodeV (Combine b.Power x y) p q = (r s : ℕ) × CodeV x p r × CodeV y r s × Is s (op.Arith arith.Power) q
    CodeV (Combine b.Multiply x y) p q = (r s : ℕ) × CodeV x p r × CodeV y r s × Is s (op.Arith arith.Multiply) q
    CodeV (Combine b.Divide x y) p q = (r s : ℕ) × CodeV x p r × CodeV y r s × Is s (op.Arith arith.Divide) q
    CodeV (Combine b.Add x y) p q = (r s : ℕ) × CodeV x p r × CodeV y r s × Is s (op.Arith arith.Add) q
    CodeV (Combine b.Subtract x y) p q = (r s : ℕ) × CodeV x p r × CodeV y r s × Is s (op.Arith arith.Subtract) q
    CodeV (Combine b.Concatenate x y) p q = (r s : ℕ) × CodeV x p r × CodeV y r s × Is s op.Cat q
    CodeV (Combine b.Alternate x y) p q = (r s : ℕ) × CodeV x p r × CodeV y r s × Is s op.Alt q

    -- code for the name that an expression gives
    pub CodeN : Expr → ℕ → ℕ → Type 0
    CodeN (Name x) p q = TextAt op.Var x p q
    CodeN (Apply u.Indirect e) p q = (r : ℕ) × CodeV e p r × Is r op.Indir q
    CodeN (Reference x args) p q = (r s t n : ℕ) × TextAt op.Var x p r × Is r op.Fetch s × CodeA args n s t × Is t (op.Elem n) q
    CodeN (Call f args) p q = (r n : ℕ) × CodeA args n p r × CallAt op.PrimN op.CallN (prim_named f) f n r q
    CodeN _ p q = ⊥

    -- code for n arguments
    pub CodeA : Args → ℕ → ℕ → ℕ → Type 0
    CodeA Nil n p q = (n ≡ 0) × (q ≡ p)
    CodeA (More Absent args) n p q = (r m : ℕ) × Is p op.Null r × CodeA args m r q × (n ≡ suc m)
    CodeA (More (Given e) args) n p q = (r m : ℕ) × CodeV e p r × CodeA args m r q × (n ≡ suc m)

  -- an absent object is null
  abbrev pub CodeO : Option Expr → ℕ → ℕ → Type 0
  CodeO None p q = Is p op.Null q
  CodeO (Some e) p q = CodeV e p q

  abbrev pub CodeAssign : Option Bytes → Expr → Option Expr → ℕ → ℕ → Type 0
  CodeAssign None x o p q = (r s : ℕ) × CodeN x p r × CodeO o r s × Is s op.Assign q
  CodeAssign (Some k) x o p q = (r : ℕ) × CodeO o p r × KeyAt op.KeySet (key_named k) r q

  abbrev pub CodeB : Body → ℕ → ℕ → Type 0
  CodeB Nothing p q = q ≡ p
  CodeB (Evaluate e) p q = (r : ℕ) × CodeV e p r × Is r op.Drop q
  CodeB (Match e f) p q = (r s : ℕ) × CodeV e p r × CodeV f r s × Is s op.Match q
  CodeB (Assign x o) p q = CodeAssign (key_target x) x o p q
  CodeB (Replace x f o) p q = (r s t v y : ℕ) × CodeN x p r × Is r op.FetchK s × CodeV f s t × Is t op.MatchR v × CodeO o v y × Is y op.Splice q

  abbrev pub CodeKnown : Option ℕ → ℕ → Type 0
  CodeKnown (Some k) p = (q : ℕ) × Is p (op.Goto k) q
  CodeKnown None p = (q : ℕ) × Is p op.NoLabel q

  abbrev pub CodeLabel : Bytes → Option ReturnKind → ℕ → Type 0
  CodeLabel l (Some r) p = (q : ℕ) × Is p (op.Return r) q
  CodeLabel l None p = CodeKnown (prog.label l) p

  -- the goto after statement k: where there is none, the next statement begins here or is gone to
  abbrev pub CodeG : ℕ → Option Place → ℕ → Type 0
  CodeG k None p = (img.stmt (suc k) ≡ Some p) ⊎ ((q : ℕ) × Is p (op.Goto (suc k)) q)
  CodeG k (Some (Label l)) p = CodeLabel l (return_of l) p
  CodeG k (Some (Computed e)) p = (r q : ℕ) × CodeV e p r × Is r op.GotoV q

  -- statement k, from o on
  abbrev pub CodeS : ℕ → Option Stmt → ℕ → Type 0
  CodeS k None o = ⊥
  CodeS k (Some (End e)) o = (q : ℕ) × Is o op.End q
  CodeS k (Some (Plain l body g)) o =
      (p q r f : ℕ) × Is o (op.Begin f) p × CodeB body p q × Is q op.Body r × CodeG k (onward_of g) r × CodeG k (other_of g) f × (img.number o ≡ k)

  -- the whole module: each statement that may be gone to has its code, and labels are the program's
  pub record Placed : Type 0 where
    pub stmts : (k o : ℕ) → img.stmt k ≡ Some o → CodeS k (prog.at k) o
    pub next : (k : ℕ) (l : Option Bytes) (body : Body) (g : Goto) → prog.at k ≡ Some (Plain l body g) → (o : ℕ) × (img.stmt (suc k) ≡ Some o)
    pub labels : (l : Bytes) → img.label l ≡ prog.label l
    pub gone_to : (l : Bytes) (k : ℕ) → prog.label l ≡ Some k → (o : ℕ) × (img.stmt k ≡ Some o)
    pub exprs : (k : ℕ) (e : Expr) → trees_at k ≡ Some e → (p q r : ℕ) × (img.expr k ≡ Some p) × CodeV e p q × Is q op.Ret r
    pub entry : img.entry ≡ prog.entry
    pub entry_is : (o : ℕ) × (img.stmt prog.entry ≡ Some o)
