use Rattle.std.proofs.Common.{◌∷◌, [], ◌∙◌, ap, sym, subst, refl}
use Rattle.backtrack.specs.Logs.{last_code}
use Rattle.backtrack.proofs.Chains.{IsReady, kept_marks, kept_standing, last_code_push, ready_marks, ready_now}
use Rattle.backtrack.proofs.trail.Trail.keep_growing.Goals as goal
use Rattle.backtrack.proofs.trail.Trail.keep_growing.Goals.{then-not-self+in_ok-copy+in_ok-push, else-not-self}

pub invariant_of-self-in_err-choice : goal.invariant_of-self-in_err-choice
invariant_of-self-in_err-choice c =
    let a = c.self.inside in
    let b = c.if-not-self.self-inside in
    let ready : IsReady a b = elim c.if-not-self.branch [
      | then-not-self+in_ok-copy+in_ok-push w ↦
          subst (IsReady a) (sym w.self-inside-is) (record {
            code = refl;
            head = refl;
            log = refl;
            pending = refl;
            choices = refl;
            more = (w.in_ok-copy.copy ∷ [], w.in_ok-push.ensures.items);
            last = ap last_code w.in_ok-push.ensures.items ∙ last_code_push a.codes.items w.in_ok-copy.copy ∙ w.in_ok-copy.ensures.cases;
          })
      | else-not-self w ↦ subst (IsReady a) (sym w.self-inside-is) (ready_now a (c.self.invariant.stored w.if-not-self.false))
    ] in
    record { marks = ready_marks a b ready c.self.invariant.marks; stored = λ _. ready.last ∙ sym ready.code }

pub invariant_of-self-in_err-push-2 : goal.invariant_of-self-in_err-push-2
invariant_of-self-in_err-push-2 c =
    let a = c.self.inside in
    let b = c.if-not-self.self-inside in
    let ready : IsReady a b = elim c.if-not-self.branch [
      | then-not-self+in_ok-copy+in_ok-push w ↦
          subst (IsReady a) (sym w.self-inside-is) (record {
            code = refl;
            head = refl;
            log = refl;
            pending = refl;
            choices = refl;
            more = (w.in_ok-copy.copy ∷ [], w.in_ok-push.ensures.items);
            last = ap last_code w.in_ok-push.ensures.items ∙ last_code_push a.codes.items w.in_ok-copy.copy ∙ w.in_ok-copy.ensures.cases;
          })
      | else-not-self w ↦ subst (IsReady a) (sym w.self-inside-is) (ready_now a (c.self.invariant.stored w.if-not-self.false))
    ] in
    record { marks = rw c.in_err-push-2.ensures.items (ready_marks a b ready c.self.invariant.marks); stored = λ _. ready.last ∙ sym ready.code }

pub invariant_of-self-2 : goal.invariant_of-self-2
invariant_of-self-2 c =
    let a = c.self.inside in
    let b = c.if-not-self.self-inside in
    let ready : IsReady a b = elim c.if-not-self.branch [
      | then-not-self+in_ok-copy+in_ok-push w ↦
          subst (IsReady a) (sym w.self-inside-is) (record {
            code = refl;
            head = refl;
            log = refl;
            pending = refl;
            choices = refl;
            more = (w.in_ok-copy.copy ∷ [], w.in_ok-push.ensures.items);
            last = ap last_code w.in_ok-push.ensures.items ∙ last_code_push a.codes.items w.in_ok-copy.copy ∙ w.in_ok-copy.ensures.cases;
          })
      | else-not-self w ↦ subst (IsReady a) (sym w.self-inside-is) (ready_now a (c.self.invariant.stored w.if-not-self.false))
    ] in
    record { marks = kept_marks a b ready c.in_ok-choice.choice c.push-2.new.self.items c.args.kept c.args.place c.args.cursor _ _ _ c.in_ok-choice.ensures c.in_ok-push-2.ensures.items (c.len.ensures ∙ b.log.ok.0) (c.len-2.ensures ∙ b.pending.ok.0) (c.len-3.ensures ∙ b.codes.ok.0) c.self.invariant.marks; stored = λ _. ready.last ∙ sym ready.code }

pub returns : goal.returns
returns c =
    let a = c.self.inside in
    let b = c.if-not-self.self-inside in
    let ready : IsReady a b = elim c.if-not-self.branch [
      | then-not-self+in_ok-copy+in_ok-push w ↦
          subst (IsReady a) (sym w.self-inside-is) (record {
            code = refl;
            head = refl;
            log = refl;
            pending = refl;
            choices = refl;
            more = (w.in_ok-copy.copy ∷ [], w.in_ok-push.ensures.items);
            last = ap last_code w.in_ok-push.ensures.items ∙ last_code_push a.codes.items w.in_ok-copy.copy ∙ w.in_ok-copy.ensures.cases;
          })
      | else-not-self w ↦ subst (IsReady a) (sym w.self-inside-is) (ready_now a (c.self.invariant.stored w.if-not-self.false))
    ] in
    rw (← c.self.view_is) (kept_standing a b ready c.in_ok-choice.choice c.push-2.new.self.items c.args.kept c.args.place c.args.cursor _ _ _ c.in_ok-choice.ensures c.in_ok-push-2.ensures.items (c.len.ensures ∙ b.log.ok.0) (c.len-2.ensures ∙ b.pending.ok.0) (c.len-3.ensures ∙ b.codes.ok.0) c.self.invariant.marks)
