-- The trees of an accepted deck keep what their code relies on.
use Rattle.std.proofs.Common.{◌≡◌, refl, sym, ◌∙◌, subst, ℕ, ◌<◌, ◌≤◌, ◌^◌, ◌&&◌, Bool, true, false, not, List, [], ◌∷◌, ◌++◌, arith, Option, Some, None, bytes_eq, rules}
use Rattle.std.specs.Prelude.{Ok, is_some, is_none, ◌≢◌, codes}
use Rattle.std.specs.List.{AllByRecursion, list_any}
use Rattle.std.proofs.lemmas.Bool.{and_parts, or_parts}
use Rattle.model.specs.declared.cards.Statement.{Statement}
use Rattle.model.specs.declared.causes.Cause.{Cause}
use Rattle.model.specs.declared.causes.StmtFault.{StmtFault}
use Rattle.model.specs.declared.keys.KeyId.{KeyId}
use Rattle.model.specs.Language.Calls.{return_of}
use Rattle.model.specs.Deck.Cards.{deck}
use Rattle.model.specs.Laws.Decks.{IsPlain}
use Rattle.model.specs.Deck.Faults.{everywhere, in_args, in_place, in_goto, in_object, in_body, throughout, count, at_most, call_fits, keyword_known, operand_fits, subject_fits, targets_fit, label_given, is_one_of, returns, is_taken, rule_broken, cause_of, fault_of, faults, faults_after, labels_given, labels_of_read, deck_trees, Accepted, verdict, verdict_of_cards, verdict_of_faults}
use Rattle.model.specs.Language.Names.{key_named, prim_named}
use Rattle.model.specs.Language.Programs.{end_label}
use Rattle.model.specs.Deck.Statements.{end_word}
use Rattle.model.specs.Deck.Trees.{Bytes, Expr, Name, Integer, Literal, Keyword, Call, Reference, Apply, Combine, Absent, Given, Args, Nil, More, Place, Label, Computed, Goto, Next, Always, OnSuccess, OnFailure, Both, Body, Nothing, Evaluate, Match, Assign, Replace, Stmt, Plain, End}
use Rattle.model.specs.Deck.Weights.{of_expr, of_args, of_place, of_goto, of_object, of_body, weight}
use Rattle.model.specs.Module.WellFormed.{is_label_name}
use Rattle.model.proofs.Decks.Ends.{end_last}
use Rattle.model.proofs.Decks.Sizes.{accepted_fit}
use Rattle.model.proofs.Decks.Verdicts.{Have, accepts, none_left, none_right}
use Rattle.codegen.specs.Layout.{label_texts}
use Rattle.codegen_laws.specs.Fit.{Named, Fit, FitArgs, FitObject, FitBody, FitPlace, FitGoto, FitStmt, EndsInEnd, NewLabels, IsFit}
use Rattle.codegen_laws.proofs.SpeltTrees.{Spelt, SpeltArgs, SpeltObject, SpeltBody, SpeltPlace, SpeltGoto, SpeltStmt, read_spelt, no_cause}
use Rattle.codegen_laws.proofs.TextPlaces.{same_text}

not_false : (a : Bool) → not a ≡ false → a ≡ true
not_false true h = refl
not_false false h = absurd (cc)

-- ---- expressions that break no rule

known_key : (o : Option KeyId) → is_some o ≡ true → (k : KeyId) × (o ≡ Some k)
known_key None h = absurd (cc)
known_key (Some k) h = (k, refl)

pub few_args : (args : Args) → count args ≤ of_args args
few_args Nil = omega arith
few_args (More arg args) = let h = few_args args in omega (arith, h)

mutual
  fit_expr : (e : Expr) → everywhere call_fits e ≡ true → everywhere keyword_known e ≡ true → everywhere operand_fits e ≡ true → Spelt e → of_expr e ≤ 4000 → Fit e
  fit_expr (Name x) a b c s w = s
  fit_expr (Integer z) a b c s w = s
  fit_expr (Literal x) a b c s w = tt
  fit_expr (Keyword k) a b c s w = known_key (key_named k) b
  fit_expr (Call f args) a b c (n, s) w =
      let x = and_parts (at_most (prim_named f) (count args)) (in_args call_fits args) a in
      let y = few_args args in
      (n, x.0, (let l : count args < 2 ^ 16 = omega (arith, y, w) in l), fit_args args x.1 b c s (omega (arith, w)))
  fit_expr (Reference f args) a b c (n, s) w =
      let y = few_args args in
      (n, (let l : count args < 2 ^ 16 = omega (arith, y, w) in l), fit_args args a b c s (omega (arith, w)))
  fit_expr (Apply u x) a b c s w =
      let z = and_parts (operand_fits (Apply u x)) (everywhere operand_fits x) c in
      (z.0, fit_expr x a b z.1 s (omega (arith, w)))
  fit_expr (Combine o x y) a b c (s, t) w =
      let l = and_parts (everywhere call_fits x) (everywhere call_fits y) a in
      let m = and_parts (everywhere keyword_known x) (everywhere keyword_known y) b in
      let z = and_parts (operand_fits (Combine o x y)) (everywhere operand_fits x && everywhere operand_fits y) c in
      let n = and_parts (everywhere operand_fits x) (everywhere operand_fits y) z.1 in
      (z.0, fit_expr x l.0 m.0 n.0 s (omega (arith, w)), fit_expr y l.1 m.1 n.1 t (omega (arith, w)))

  fit_args : (args : Args) → in_args call_fits args ≡ true → in_args keyword_known args ≡ true → in_args operand_fits args ≡ true → SpeltArgs args → of_args args ≤ 4000 → FitArgs args
  fit_args Nil a b c s w = tt
  fit_args (More Absent args) a b c (s, t) w = fit_args args a b c t (omega (arith, w))
  fit_args (More (Given e) args) a b c (s, t) w =
      let l = and_parts (everywhere call_fits e) (in_args call_fits args) a in
      let m = and_parts (everywhere keyword_known e) (in_args keyword_known args) b in
      let n = and_parts (everywhere operand_fits e) (in_args operand_fits args) c in
      (fit_expr e l.0 m.0 n.0 s (omega (arith, w)), fit_args args l.1 m.1 n.1 t (omega (arith, w)))

fit_object : (o : Option Expr) → in_object call_fits o ≡ true → in_object keyword_known o ≡ true → in_object operand_fits o ≡ true → SpeltObject o → of_object o ≤ 4000 → FitObject o
fit_object None a b c s w = tt
fit_object (Some e) a b c s w = fit_expr e a b c s (omega (arith, w))

fit_body : (b : Body) → in_body call_fits b ≡ true → in_body keyword_known b ≡ true → in_body operand_fits b ≡ true → subject_fits b ≡ true → SpeltBody b → of_body b ≤ 4000 → FitBody b
fit_body Nothing a b c t s w = tt
fit_body (Evaluate e) a b c t s w = fit_expr e a b c s (omega (arith, w))
fit_body (Match x y) a b c t (s, r) w =
    let l = and_parts (everywhere call_fits x) (everywhere call_fits y) a in
    let m = and_parts (everywhere keyword_known x) (everywhere keyword_known y) b in
    let n = and_parts (everywhere operand_fits x) (everywhere operand_fits y) c in
    (fit_expr x l.0 m.0 n.0 s (omega (arith, w)), fit_expr y l.1 m.1 n.1 r (omega (arith, w)))
fit_body (Assign x o) a b c t (s, r) w =
    let l = and_parts (everywhere call_fits x) (in_object call_fits o) a in
    let m = and_parts (everywhere keyword_known x) (in_object keyword_known o) b in
    let n = and_parts (everywhere operand_fits x) (in_object operand_fits o) c in
    (t, fit_expr x l.0 m.0 n.0 s (omega (arith, w)), fit_object o l.1 m.1 n.1 r (omega (arith, w)))
fit_body (Replace x y o) a b c t (s, r, q) w =
    let l = and_parts (everywhere call_fits x) (everywhere call_fits y && in_object call_fits o) a in
    let l' = and_parts (everywhere call_fits y) (in_object call_fits o) l.1 in
    let m = and_parts (everywhere keyword_known x) (everywhere keyword_known y && in_object keyword_known o) b in
    let m' = and_parts (everywhere keyword_known y) (in_object keyword_known o) m.1 in
    let n = and_parts (everywhere operand_fits x) (everywhere operand_fits y && in_object operand_fits o) c in
    let n' = and_parts (everywhere operand_fits y) (in_object operand_fits o) n.1 in
    (t, fit_expr x l.0 m.0 n.0 s (omega (arith, w)), fit_expr y l'.0 m'.0 n'.0 r (omega (arith, w)), fit_object o l'.1 m'.1 n'.1 q (omega (arith, w)))

fit_place : (p : Place) → in_place call_fits p ≡ true → in_place keyword_known p ≡ true → in_place operand_fits p ≡ true → SpeltPlace p → of_place p ≤ 4000 → FitPlace p
fit_place (Label l) a b c s w = tt
fit_place (Computed e) a b c s w = fit_expr e a b c s (omega (arith, w))

fit_goto : (g : Goto) → in_goto call_fits g ≡ true → in_goto keyword_known g ≡ true → in_goto operand_fits g ≡ true → SpeltGoto g → of_goto g ≤ 4000 → FitGoto g
fit_goto Next a b c s w = tt
fit_goto (Always p) a b c s w = fit_place p a b c s (omega (arith, w))
fit_goto (OnSuccess p) a b c s w = fit_place p a b c s (omega (arith, w))
fit_goto (OnFailure p) a b c s w = fit_place p a b c s (omega (arith, w))
fit_goto (Both p q) a b c (s, r) w =
    let l = and_parts (in_place call_fits p) (in_place call_fits q) a in
    let m = and_parts (in_place keyword_known p) (in_place keyword_known q) b in
    let n = and_parts (in_place operand_fits p) (in_place operand_fits q) c in
    (fit_place p l.0 m.0 n.0 s (omega (arith, w)), fit_place q l.1 m.1 n.1 r (omega (arith, w)))

-- ---- statements that break no rule

record Keeps (earlier all : List Bytes) (s : Stmt) : Type 0 where
  new : is_taken earlier (label_given s) ≡ false
  calls : throughout call_fits s ≡ true
  keywords : throughout keyword_known s ≡ true
  targets : targets_fit s ≡ true

keeps : (earlier all : List Bytes) (s : Stmt) → rule_broken earlier all s ≡ None → Keeps earlier all s
keeps earlier all s h =
    let a = no_cause (is_taken earlier (label_given s)) _ _ h in
    let b = no_cause (not (throughout call_fits s)) _ _ a.1 in
    let c = no_cause (not (throughout keyword_known s)) _ _ b.1 in
    let d = no_cause (not (targets_fit s)) _ _ c.1 in
    record { new = a.0; calls = not_false _ b.0; keywords = not_false _ c.0; targets = not_false _ d.0 }

fit_stmt : (earlier all : List Bytes) (s : Stmt) → Keeps earlier all s → SpeltStmt s → weight s ≤ 4000 → FitStmt s
fit_stmt earlier all (Plain l b g) k (x, s, r) w =
    let a = and_parts (in_body call_fits b) (in_goto call_fits g) k.calls in
    let c = and_parts (in_body keyword_known b) (in_goto keyword_known g) k.keywords in
    let d = and_parts (subject_fits b) (in_body operand_fits b && in_goto operand_fits g) k.targets in
    let e = and_parts (in_body operand_fits b) (in_goto operand_fits g) d.1 in
    (fit_body b a.0 c.0 e.0 d.0 s (omega (arith, w)), fit_goto g a.1 c.1 e.1 r (omega (arith, w)))
fit_stmt earlier all (End e) k s w = tt

-- ---- labels

differs_back : (s t : Bytes) → bytes_eq s t ≡ false → bytes_eq t s ≡ false
differs_back s t h = elim (bytes_eq t s) as (λ b. bytes_eq t s ≡ b → b ≡ false) [
  | true ↦ λ e. sym (subst (λ x. bytes_eq s x ≡ true) (sym (same_text t s e)) (let r : bytes_eq s s ≡ true = search rules in r)) ∙ h
  | false ↦ λ e. refl
] refl

other_text : (s t : Bytes) → s ≢ t → bytes_eq s t ≡ false
other_text s t n = elim (bytes_eq s t) as (λ b. bytes_eq s t ≡ b → b ≡ false) [
  | true ↦ λ e. absurd (n (same_text s t e))
  | false ↦ λ e. refl
] refl

no_return : (l : Bytes) → is_one_of l returns ≡ false → is_none (return_of l) ≡ true
no_return l h =
    let a = or_parts (bytes_eq l (codes "RETURN")) _ h in
    let b = or_parts (bytes_eq l (codes "FRETURN")) _ a.1 in
    let c = or_parts (bytes_eq l (codes "NRETURN")) _ b.1 in
    rw (a.0, b.0, c.0) refl

label_name : (l : Bytes) → Named l → l ≢ end_word → is_one_of l returns ≡ false → is_label_name (Some l) ≡ true
label_name l n e r = let a = other_text l end_label e in let b = no_return l r in rw (n, a, b) refl

-- what isn't among the earlier labels isn't among these
abbrev Covers : List Bytes → List Bytes → Type 0
Covers earlier front = (l : Bytes) → is_one_of l earlier ≡ false → list_any (λ m. bytes_eq m l) front ≡ false

among_left : (l : Bytes) (xs ys : List Bytes) → is_one_of l (xs ++ ys) ≡ false → is_one_of l xs ≡ false
among_left l [] ys h = refl
among_left l (x ∷ xs) ys h = let a = or_parts (bytes_eq l x) (is_one_of l (xs ++ ys)) h in rw a.0 (among_left l xs ys a.1)

among_right : (l : Bytes) (xs ys : List Bytes) → is_one_of l (xs ++ ys) ≡ false → is_one_of l ys ≡ false
among_right l [] ys h = h
among_right l (x ∷ xs) ys h = among_right l xs ys (or_parts (bytes_eq l x) (is_one_of l (xs ++ ys)) h).1

any_snoc : (l m : Bytes) (front : List Bytes) → list_any (λ m. bytes_eq m l) front ≡ false → bytes_eq m l ≡ false → list_any (λ m. bytes_eq m l) (front ++ m ∷ []) ≡ false
any_snoc l m [] h e = rw e refl
any_snoc l m (x ∷ front) h e = let a = or_parts (bytes_eq x l) (list_any (λ m. bytes_eq m l) front) h in rw a.0 (any_snoc l m front a.1 e)

covers_more : (earlier front more : List Bytes) → Covers earlier front → Covers (earlier ++ more) front
covers_more earlier front more c l h = c l (among_left l earlier more h)

covers_snoc : (earlier front : List Bytes) (m : Bytes) → Covers earlier front → Covers (earlier ++ m ∷ []) (front ++ m ∷ [])
covers_snoc earlier front m c l h =
    let a = or_parts (bytes_eq l m) (is_one_of l []) (among_right l earlier (m ∷ []) h) in
    any_snoc l m front (c l (among_left l earlier (m ∷ []) h)) (differs_back l m a.0)

-- ---- decks

-- each tree breaks no rule behind the labels before it
abbrev AllKeep : (earlier all : List Bytes) → List Stmt → Type 0
AllKeep earlier all [] = Unit {0}
AllKeep earlier all (s ∷ ss) = Keeps earlier all s × AllKeep (earlier ++ label_given s) all ss

kept_all : (earlier all : List Bytes) (statements : List Statement) (ss : List Stmt) → Have statements ss → faults_after earlier all statements ≡ [] → AllKeep earlier all ss
kept_all earlier all [] [] have h = tt
kept_all earlier all [] (t ∷ ts) have h = absurd have
kept_all earlier all (s ∷ more) [] have h = absurd have
kept_all earlier all (s ∷ more) (t ∷ ts) (e, have) h =
    let h' : fault_of s.number (cause_of earlier all (Ok t)) ++ faults_after (earlier ++ label_given t) all more ≡ [] =
    subst (λ r. fault_of s.number (cause_of earlier all r) ++ faults_after (earlier ++ labels_of_read r) all more ≡ []) e h in
    (keeps earlier all t (untold s.number (rule_broken earlier all t) (none_left _ _ h')), kept_all (earlier ++ label_given t) all more ts have (none_right _ _ h'))
  where
    untold : (n : ℕ) (c : Option Cause) → fault_of n c ≡ [] → c ≡ None
    untold n None h = refl
    untold n (Some c) h = absurd (cc)

by_faults : (fs : List StmtFault) (ts ss : List Stmt) → verdict_of_faults fs ts ≡ Accepted ss → fs ≡ []
by_faults [] ts ss h = refl
by_faults (f ∷ fs) ts ss h = absurd (cc)

without_faults : (text : List ℕ) (ss : List Stmt) → verdict text ≡ Accepted ss → (statements : List Statement) → deck text ≡ Ok statements → faults statements ≡ []
unfolding verdict
without_faults text ss h statements e = by_faults (faults statements) (deck_trees statements) ss (subst (λ r. verdict_of_cards r ≡ Accepted ss) e h)

spelt_all : (statements : List Statement) (ss : List Stmt) → Have statements ss → AllByRecursion SpeltStmt ss
spelt_all [] [] have = tt
spelt_all [] (t ∷ ts) have = absurd have
spelt_all (s ∷ more) [] have = absurd have
spelt_all (s ∷ more) (t ∷ ts) (e, have) = (read_spelt s.text t e, spelt_all more ts have)

fit_all : (earlier all : List Bytes) (ss : List Stmt) → AllKeep earlier all ss → AllByRecursion SpeltStmt ss → AllByRecursion (λ s. weight s ≤ 4000) ss → AllByRecursion FitStmt ss
fit_all earlier all [] k s w = tt
fit_all earlier all (t ∷ ts) (k, ks) (s, more) (w, ws) = (fit_stmt earlier all t k s w, fit_all (earlier ++ label_given t) all ts ks more ws)

new_labels : (earlier all : List Bytes) (ss : List Stmt) → AllKeep earlier all ss → AllByRecursion SpeltStmt ss → (front : List Bytes) → Covers earlier front → NewLabels front (label_texts ss)
new_labels earlier all [] k s front c = tt
new_labels earlier all (End e ∷ ss) (k, ks) (s, more) front c = new_labels (earlier ++ end_word ∷ []) all ss ks more front (covers_more earlier front (end_word ∷ []) c)
new_labels earlier all (Plain None b g ∷ ss) (k, ks) (s, more) front c = new_labels (earlier ++ []) all ss ks more front (covers_more earlier front [] c)
new_labels earlier all (Plain (Some l) b g ∷ ss) (k, ks) ((n, b1, g1), more) front c =
    let a = or_parts (is_one_of l returns) (is_one_of l earlier) k.new in
    (label_name l n.0 n.1 a.0, c l a.1, new_labels (earlier ++ l ∷ []) all ss ks more (front ++ l ∷ []) (covers_snoc earlier front l c))

ends_in_end : (before : List Stmt) (e : Option Bytes) → AllByRecursion IsPlain before → EndsInEnd (before ++ End e ∷ [])
ends_in_end [] e h = tt
ends_in_end (Plain l b g ∷ before) e (p, h) = ends_in_end before e h
ends_in_end (End x ∷ before) e (p, h) = absurd p

pub accepted_is_fit : (text : List ℕ) (ss : List Stmt) → verdict text ≡ Accepted ss → IsFit ss
unfolding faults
accepted_is_fit text ss h =
    let a = accepts text ss h in
    let none = without_faults text ss h a.statements a.given in
    let all = labels_given a.statements in
    let keep = kept_all [] all a.statements ss a.have none in
    let spelt = spelt_all a.statements ss a.have in
    let sizes = accepted_fit text ss h in
    let last = end_last text ss h in
    let deck = sizes.deck in
    let few = sizes.count in
    let light = sizes.together in
    record {
      ends = subst EndsInEnd (sym last.is) (ends_in_end last.before last.entry last.plain);
      statements = fit_all [] all ss keep spelt sizes.each;
      labels = new_labels [] all ss keep spelt [] (λ l x. refl);
      count = omega (arith, deck, few);
      together = omega (arith, deck, light);
    }
