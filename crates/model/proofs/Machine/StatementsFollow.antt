-- The machine follows the rules of statements and gotos, and with them every rule.
use Rattle.std.proofs.Common.{◌≡◌, ℕ, suc, ◌+◌, ◌*◌, ◌-◌, ◌≤◌, List, [], ◌∷◌, Option, Some, None, Bool, true, false, if◌then◌else◌, inl, inr, refl, sym, ap, ◌∙◌, arith, le_refl}
use Rattle.model.specs.declared.instr.Instr.TheVariants as op
use Rattle.model.specs.declared.instr.ReturnKind.{ReturnKind}
use Rattle.model.specs.declared.keys.KeyId.{KeyId}
use Rattle.model.specs.declared.run.ErrorCode.TheVariants as error
use Rattle.model.specs.declared.run.Ending.TheVariants as ending
use Rattle.model.specs.Deck.Trees.{Bytes, Expr, Place, Label, Computed, Body, Nothing, Evaluate, Match, Assign, Replace, Stmt, Plain, End}
use Rattle.model.specs.Language.Names.{key_named}
use Rattle.model.specs.Language.Programs.{Program}
use Rattle.model.specs.Language.Values.{Str, enter_stmt, count_failure}
use Rattle.model.specs.Language.Conversions.{Conv, Got, Bad, to_label}
use Rattle.model.specs.Language.Operators.{splice_op}
use Rattle.model.specs.Language.Calls.{return_of}
use Rattle.model.specs.Language.Meaning.{Val, W, QVal, QName, QArgs, QBody, QExec, QMatch, Rule, Ret, Fail, Stop, Ask, object_rule, set_key_rule, key_target, assign_rule, onward_of, other_of, over_limit, to_known, to_return, to_text_label, go_on, exec_rule, rule}
use Rattle.model.specs.Machine.Steps as machine
use Rattle.model.specs.Machine.Steps.{MVal, MW, Module, OV, ON, OR, Frame, OnBegin, State, Run, Over, fail_to, after_op, return_to, to_stmt, steps, step}
use Rattle.model.specs.Module.Placed.{KeyAt, CodeO, CodeAssign, CodeB, CodeKnown, CodeLabel, CodeG, CodeS, Placed}
use Rattle.model.specs.Machine.Alike.{VR, rstr, WR}
use Rattle.model.specs.Language.RulesUsed.{stmt_count}
use Rattle.model.specs.Laws.StepBound.{steps_per_rule}
use Rattle.model.proofs.Machine.Following.{Base, Here, object_size, Local, rank}
use Rattle.model.proofs.Machine.OperationsAlike.{by_plain, label_same, enter_same, failure_same, BegunR, match_same, fetch_same, assign_same, splice_same, keyset_same}
use Rattle.model.proofs.Machine.Asking.{more, at_place, fail_more, base_fail, one, Fw, shift, from, same, answers, stops, faulted, op_follows, Fv, Qu, ask_val, ask_name, ask_match, fin_unit, fail_here, fail_one, fail_two}
use Rattle.model.proofs.Machine.ExpressionsFollow.{val_local, name_local, args_local}
use Rattle.model.proofs.Machine.MatchesFollow.{match_local}

module _ (prog : Program) (img : Module) (trees_at : ℕ → Option Expr) (placed : Placed prog img trees_at) where
  abbrev R : W → MW → Type 0
  R = WR trees_at

  -- ---- what a statement does

  -- an object, which is null where it is absent
  ask_object : {rk n : ℕ} {w : W} {m : MW} {Q : record {} → W → State → Type 0} {F : W → State → Type 0} {k : Val → W → Rule (record {})} (o : Option Expr) (g : Here)
      → CodeO prog img trees_at o g.p g.q → R w m → suc (2 + 2 * object_size o) ≤ rk → 1 ≤ n
      → ((u : Val) (w1 : W) (x : MVal) (m1 : MW) → VR trees_at u x → R w1 m1 → Fw prog img trees_at placed rk (n - 1) (Run g.q (OV x ∷ g.ops) g.hs g.fs m1) Q F (k u w1))
      → ((w1 : W) (m1 : MW) → R w1 m1 → Fw prog img trees_at placed rk n (fail_to g.hs g.ops g.fs m1) Q F (Fail w1))
      → Fw prog img trees_at placed rk n (Run g.p g.ops g.hs g.fs m) Q F (object_rule o w k)
  ask_object {w = w} {m} None g is wr up le hk hf = from prog img trees_at placed 1 le (one prog img trees_at placed g.p g.q op.Null g.ops g.hs g.fs m is) (hk (Str []) w (Str []) m (rstr []) wr)
  ask_object {n = n} (Some e) g code wr up le hk hf = ask_val prog img trees_at placed g code wr up (λ u w1 x m1 hu r1. shift prog img trees_at placed 0 (n - 1) (omega arith) refl (hk u w1 x m1 hu r1)) hf

  set_key_local : (k : Option KeyId) (o : Option Expr) (h : Here) (r : ℕ) → CodeO prog img trees_at o h.p r → KeyAt prog img trees_at op.KeySet k r h.q → {rk : ℕ} (w : W) (m : MW) → suc (2 + 2 * object_size o) ≤ rk → R w m
      → Fw prog img trees_at placed rk 2 (Run h.p h.ops h.hs h.fs m) (Qu prog img trees_at placed h) (Fv prog img trees_at placed h) (set_key_rule k o w)
  set_key_local None o h r code x w m up wr = absurd x
  set_key_local (Some k) o h r code is w m up wr =
      ask_object o (at_place h h.p r) code wr up (omega arith) (λ u w1 x m1 hu r1. fin_unit prog img trees_at placed h (op.KeySet k) (omega arith) is refl (keyset_same trees_at k hu r1)) (fail_here prog img trees_at placed h)

  assign_local : (t : Option Bytes) (x : Expr) (o : Option Expr) (h : Here) → CodeAssign prog img trees_at t x o h.p h.q → (w : W) (m : MW) → R w m
      → Fw prog img trees_at placed (rank (QBody (Assign x o))) 2 (Run h.p h.ops h.hs h.fs m) (Qu prog img trees_at placed h) (Fv prog img trees_at placed h) (assign_rule t x o w)
  assign_local None x o h (r, s, name, code, is) w m wr =
      ask_name prog img trees_at placed (at_place h h.p r) name wr (omega arith)
      (λ n w1 m1 r1. ask_object o (more h r s (ON n)) code r1 (omega arith) (omega arith)
      (λ u w2 y m2 hu r2. fin_unit prog img trees_at placed h op.Assign (omega arith) is refl (assign_same trees_at n hu r2)) (fail_one prog img trees_at placed h (ON n)))
      (fail_here prog img trees_at placed h)
  assign_local (Some k) x o h (r, code, at) w m wr = set_key_local (key_named k) o h r code at w m (omega arith) wr

  body_local : (c : Body) (h : Here) → CodeB prog img trees_at c h.p h.q → (w : W) (m : MW) → R w m
      → Fw prog img trees_at placed (rank (QBody c)) 2 (Run h.p h.ops h.hs h.fs m) (Qu prog img trees_at placed h) (Fv prog img trees_at placed h) (rule prog (QBody c) w)
  body_local Nothing h at w m wr = answers prog img trees_at placed 0 (omega arith) (m, wr, ap (λ p. Run p h.ops h.hs h.fs m) (sym at))
  body_local (Evaluate e) h (r, code, is) w m wr =
      ask_val prog img trees_at placed (at_place h h.p r) code wr (omega arith)
      (λ u w1 x m1 hu r1. answers prog img trees_at placed 1 (omega arith) (m1, r1, one prog img trees_at placed r h.q op.Drop (OV x ∷ h.ops) h.hs h.fs m1 is)) (fail_here prog img trees_at placed h)
  body_local (Assign x o) h code w m wr = assign_local (key_target x) x o h code w m wr
  body_local (Match e f) h (r, s, ce, cf, is) w m wr =
      ask_val prog img trees_at placed (at_place h h.p r) ce wr (omega arith)
      (λ u w1 x m1 hu r1. ask_val prog img trees_at placed (more h r s (OV x)) cf r1 (omega arith)
      (λ v w2 y m2 hv r2. from prog img trees_at placed 1 (omega arith) (one prog img trees_at placed s h.q op.Match (OV y ∷ OV x ∷ h.ops) h.hs h.fs m2 is)
      (op_follows prog img trees_at placed (BegunR trees_at) h.hs h.ops h.fs _ _ (match_same trees_at hu hv r2)
      (λ g g' w3 m3 hg r3. ask_match prog img trees_at placed h g g' false hg r3 (omega arith) (λ b w4 m4 r4. answers prog img trees_at placed 0 (omega arith) (m4, r4, refl)) (fail_here prog img trees_at placed h))
      (λ w3 m3 r3. (m3, r3, refl))))
      (fail_one prog img trees_at placed h (OV x)))
      (fail_here prog img trees_at placed h)
  body_local (Replace t f o) h (r, s, u, v, x, ct, is1, cf, is2, ce, is3) w m wr =
      ask_name prog img trees_at placed (at_place h h.p r) ct wr (omega arith)
      (λ n w1 m1 r1. from prog img trees_at placed 1 (omega arith) (one prog img trees_at placed r s op.FetchK (ON n ∷ h.ops) h.hs h.fs m1 is1)
      (op_follows prog img trees_at placed (VR trees_at) h.hs (ON n ∷ h.ops) h.fs _ _ (fetch_same trees_at n r1)
      (λ a y w2 m2 ha r2. ask_val prog img trees_at placed (more (more h r s (ON n)) s u (OV y)) cf r2 (omega arith)
      (λ b w3 z m3 hb r3. from prog img trees_at placed 1 (omega arith) (one prog img trees_at placed u v op.MatchR (OV z ∷ OV y ∷ ON n ∷ h.ops) h.hs h.fs m3 is2)
      (op_follows prog img trees_at placed (BegunR trees_at) h.hs (ON n ∷ h.ops) h.fs _ _ (match_same trees_at ha hb r3)
      (λ g g' w4 m4 hg r4. ask_match prog img trees_at placed (more h r v (ON n)) g g' true hg r4 (omega arith)
      (λ d w5 m5 r5. ask_object o (more (more h r v (ON n)) v x (OR g'.subject d.start d.end)) ce r5 (omega arith) (omega arith)
      (λ c w6 k m6 ho r6. fin_unit prog img trees_at placed h op.Splice (omega arith) is3
      (ap (λ z. after_op (splice_op n z d.start d.end k m6) h.hs h.ops h.fs (λ _ w1. Run h.q h.ops h.hs h.fs w1)) hg.subject) (splice_same trees_at n g.subject d.start d.end ho r6))
      (fail_two prog img trees_at placed h (OR g'.subject d.start d.end) (ON n)))
      (fail_one prog img trees_at placed h (ON n)))
      (λ w4 m4 r4. (m4, r4, fail_more h.hs (ON n) h.ops h.fs m4 h.fit))))
      (fail_two prog img trees_at placed h (OV y) (ON n)))
      (λ w2 m2 r2. (m2, r2, fail_more h.hs (ON n) h.ops h.fs m2 h.fit))))
      (fail_here prog img trees_at placed h)

  -- ---- statements: no failure leaves them, and an answer is the step that returns

  abbrev Qe : List Frame → ReturnKind → W → State → Type 0
  Qe fs l w c = (w' : MW) × R w w' × (step img c ≡ return_to l fs w')

  abbrev Fe : W → State → Type 0
  Fe w c = ⊥

  ask_exec : {rk k o : ℕ} {fs : List Frame} {w : W} {m : MW} → Base fs → 2 ≤ rk → img.stmt k ≡ Some o → R w m → Fw prog img trees_at placed rk 0 (Run o [] [] fs m) (Qe fs) Fe (Ask (QExec k) w Ret Fail)
  ask_exec {rk} {k} {o} {fs} {m = m} b up st wr = record {
    by = (0, (o, fs, st, b), m, refl, wr, rk, up, inr (le_refl rk), 0, (omega arith, omega arith), (λ l w1 s (m1, r1, e1). (0, omega arith, (m1, r1, e1))), (λ w1 s b. absurd b));
  }

  known_local : {rk : ℕ} {w : W} (fs : List Frame) (m : MW) (l : Bytes) (o : Option ℕ) → Base fs → 2 ≤ rk → prog.label l ≡ o → R w m → Fw prog img trees_at placed rk 0 (machine.go_to_known img o fs m) (Qe fs) Fe (to_known prog o w)
  known_local fs m l None b up e wr = faulted prog img trees_at placed error.UndefinedLabel wr
  known_local fs m l (Some k) b up e wr =
      let g = placed.gone_to l k e in
      same prog img trees_at placed (ap (λ o. to_stmt img o fs m) g.1) (ask_exec b up g.1 wr)

  label_local : {rk p : ℕ} {fs : List Frame} {w : W} {m : MW} (l : Bytes) (o : Option ReturnKind) → Base fs → CodeLabel prog img trees_at l o p → 2 ≤ rk → R w m → Fw prog img trees_at placed rk 1 (Run p [] [] fs m) (Qe fs) Fe (to_return prog l o w)
  label_local {p = p} {fs} {m = m} l (Some k) b (q, is) up wr = answers prog img trees_at placed 0 (omega arith) (m, wr, one prog img trees_at placed p q (op.Return k) [] [] fs m is)
  label_local {rk} {p} {fs} {w} {m} l None b code up wr = go (prog.label l) refl code
    where
      go : (o : Option ℕ) → prog.label l ≡ o → CodeKnown prog img trees_at o p → Fw prog img trees_at placed rk 1 (Run p [] [] fs m) (Qe fs) Fe (to_known prog o w)
      go None e (q, is) = from prog img trees_at placed 1 (omega arith) (one prog img trees_at placed p q op.NoLabel [] [] fs m is) (known_local fs m l None b up e wr)
      go (Some k) e (q, is) = from prog img trees_at placed 1 (omega arith) (one prog img trees_at placed p q (op.Goto k) [] [] fs m is) (known_local fs m l (Some k) b up e wr)

  return_local : {rk : ℕ} {s : State} {w : W} (fs : List Frame) (m : MW) (l : Bytes) (o : Option ReturnKind) → Base fs → step img s ≡ machine.go_to_return img l o fs m → 2 ≤ rk → R w m → Fw prog img trees_at placed rk 1 s (Qe fs) Fe (to_return prog l o w)
  return_local fs m l (Some k) b e up wr = answers prog img trees_at placed 0 (omega arith) (m, wr, e)
  return_local fs m l None b e up wr = from prog img trees_at placed 1 (omega arith) (e ∙ ap (λ o. machine.go_to_known img o fs m) (placed.labels l)) (known_local fs m l (prog.label l) b up refl wr)

  text_local : {rk : ℕ} {s : State} {w : W} (fs : List Frame) (m : MW) (c : Conv Bytes) → Base fs → step img s ≡ machine.go_to_text img c fs m → 2 ≤ rk → R w m → Fw prog img trees_at placed rk 1 s (Qe fs) Fe (to_text_label prog c w)
  text_local fs m (Got l) b e up wr = return_local fs m l (return_of l) b e up wr
  text_local fs m (Bad x) b e up wr = from prog img trees_at placed 1 (omega arith) e (faulted prog img trees_at placed x wr)

  abbrev place_rank : Option Place → ℕ
  place_rank None = 2
  place_rank (Some (Label l)) = 2
  place_rank (Some (Computed e)) = suc (rank (QVal e))

  abbrev bare : (p q : ℕ) (fs : List Frame) → Here
  bare p q fs = record { p = p; q = q; ops = []; hs = []; fs = fs; fit = tt }

  goto_local : {rk : ℕ} {fs : List Frame} {w : W} {m : MW} (k p : ℕ) (place : Option Place) → Base fs → (o : ℕ) × (img.stmt (suc k) ≡ Some o) → CodeG prog img trees_at k place p → place_rank place ≤ rk → R w m
      → Fw prog img trees_at placed rk 1 (Run p [] [] fs m) (Qe fs) Fe (go_on prog k place w)
  goto_local k p None b next (inl st) up wr = shift prog img trees_at placed 0 0 (omega arith) refl (ask_exec b up st wr)
  goto_local {fs = fs} {m = m} k p None b next (inr (q, is)) up wr = from prog img trees_at placed 1 (omega arith) (one prog img trees_at placed p q (op.Goto (suc k)) [] [] fs m is ∙ ap (λ o. to_stmt img o fs m) next.1) (ask_exec b up next.1 wr)
  goto_local k p (Some (Label l)) b next code up wr = label_local l (return_of l) b code up wr
  goto_local {fs = fs} {m = m} k p (Some (Computed e)) b next (r, q, code, is) up wr =
      ask_val prog img trees_at placed (bare p r fs) code wr up
      (λ u w1 x m1 hu r1. text_local fs m1 (to_label u) b
      (one prog img trees_at placed r q op.GotoV (OV x ∷ []) [] fs m1 is ∙ ap (λ c. machine.go_to_text img c fs m1) (label_same trees_at hu)) (omega (arith, up)) r1)
      (λ w1 m1 r1. same prog img trees_at placed (base_fail fs b m1) (faulted prog img trees_at placed error.FailureInGoto r1))

  limit_same : {w : W} {m : MW} → R w m → over_limit m ≡ over_limit w
  limit_same {w} {m} wr = by_plain trees_at (λ m. over_limit m ≡ over_limit w) wr (λ wr'. refl)

  exec_case : {fs : List Frame} {w : W} {m : MW} (k o : ℕ) (s : Option Stmt) → Base fs → prog.at k ≡ s → CodeS prog img trees_at k s o → R w m → Fw prog img trees_at placed 1 (steps_per_rule * stmt_count s w + 0 - 0) (Run o [] [] fs m) (Qe fs) Fe (exec_rule prog k s w)
  exec_case k o None bs e x wr = absurd x
  exec_case {fs} {w} {m} k o (Some (End l)) bs e (q, is) wr = stops prog img trees_at placed 1 (omega arith) (m, wr, one prog img trees_at placed o q op.End [] [] fs m is)
  exec_case {fs} {w} {m} k o (Some (Plain l c g)) bs e (p, q, r, f, begin, body, leave, on, oth, num) wr =
      go (over_limit w)
      (one prog img trees_at placed o p (op.Begin f) [] [] fs m begin ∙ ap (λ k. if over_limit m then Over (ending.StLimit k) m else Run p [] (OnBegin f ∷ []) fs (enter_stmt k m)) num
      ∙ ap (λ c. if c then Over (ending.StLimit k) m else Run p [] (OnBegin f ∷ []) fs (enter_stmt k m)) (limit_same wr))
    where
      n : ℕ
      n = suc (rank (QBody c)) + (place_rank (onward_of g) + place_rank (other_of g))

      ln : suc (rank (QBody c)) ≤ n
      ln = omega arith

      lo : place_rank (onward_of g) ≤ n
      lo = omega arith

      lt : place_rank (other_of g) ≤ n
      lt = omega arith

      next : (o : ℕ) × (img.stmt (suc k) ≡ Some o)
      next = placed.next k l c g e

      here : Here
      here = record { p = p; q = q; ops = []; hs = OnBegin f ∷ []; fs = fs; fit = tt }

      go : (x : Bool) → steps img 1 (Run o [] [] fs m) ≡ (if x then Over (ending.StLimit k) m else Run p [] (OnBegin f ∷ []) fs (enter_stmt k m))
          → Fw prog img trees_at placed 1 (steps_per_rule * (if x then 0 else 1) + 0 - 0) (Run o [] [] fs m) (Qe fs) Fe
          (if x then Stop (ending.StLimit k) w else Ask (QBody c) (enter_stmt k w) (λ _ w1. go_on prog k (onward_of g) w1) (λ w1. go_on prog k (other_of g) (count_failure w1)))
      go true at = stops prog img trees_at placed 1 (omega arith) (m, wr, at)
      go false at = record {
        by = (
          1,
          (here, body),
          enter_stmt k m,
          at,
          enter_same trees_at k wr,
          n,
          ln,
          inl (omega arith),
          2,
          (omega arith, omega arith),
          (λ _ w1 s (m1, r1, e1). (from prog img trees_at placed {b = 2} 1 (omega arith) (ap (steps img 1) e1 ∙ one prog img trees_at placed q r op.Body [] (OnBegin f ∷ []) fs m1 leave) (goto_local k r (onward_of g) bs next on lo r1)).by),
          (λ w1 s (m1, r1, e1). (shift prog img trees_at placed {b = 2} 0 1 (omega arith) e1 (goto_local k f (other_of g) bs next oth lt (failure_same trees_at r1))).by),
        );
      }

  pub local : Local prog img trees_at
  local (QVal e) t w m wr = (val_local prog img trees_at placed e t.0 t.1 w m wr).by
  local (QName e) t w m wr = (name_local prog img trees_at placed e t.0 t.1 w m wr).by
  local (QArgs args) t w m wr = (args_local prog img trees_at placed args t.0 t.1 t.2 w m wr).by
  local (QBody c) t w m wr = (body_local c t.0 t.1 w m wr).by
  local (QExec k) t w m wr = (exec_case k t.0 (prog.at k) t.3 refl (placed.stmts k t.0 t.2) wr).by
  local (QMatch s p left u) t w m wr = match_local prog img trees_at placed s p left u t w m wr
