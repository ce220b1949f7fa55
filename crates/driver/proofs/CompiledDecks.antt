-- A deck's statements that are read and put one by one.
use Rattle.std.proofs.Common.{◌≡◌, ◌∙◌, refl, sym, ap, ap₂, subst, ℕ, zero, suc, ◌+◌, ◌<◌, ◌≤◌, true, false, List, [], ◌∷◌, ◌++◌, map, length, take, get_or, append_assoc, append-nil, arith, Option, Some, None, Ok, add-one, bytes_eq, if◌then◌else◌}
use Rattle.std.specs.List.{AllByRecursion}
use Rattle.std.proofs.lemmas.List.{length-map}
use Rattle.std.proofs.lemmas.Slice.Eq.{bytes_eq-Decides}
use Rattle.std.proofs.Math.Seq.{take-suc}
use Rattle.std.specs.Prelude.{Result}
use Rattle.model.specs.declared.cards.CardFault.{CardFault}
use Rattle.model.specs.declared.cards.Statement.{Statement}
use Rattle.model.specs.Laws.Decks.{DecksFit, TreesFit}
use Rattle.model.specs.Deck.Cards as cards
use Rattle.model.specs.Deck.Faults.{verdict, Accepted, cause_of, deck_trees, fault_of, faults, faults_after, labels_given, read, tree_of_read}
use Rattle.model.specs.Deck.Cut.{toks_of}
use Rattle.model.specs.Deck.Pieces.{pieces}
use Rattle.model.specs.Deck.Statements.{end_word, unlabelled, labelled, Tree, plain, end}
use Rattle.model.specs.Deck.Tokens.{Tok}
use Rattle.model.specs.Deck.TreeViews.{stmt_of}
use Rattle.model.specs.Deck.Trees.{Bytes, Stmt}
use Rattle.model.specs.Deck.Weights.{total, weight}
use Rattle.model.specs.Language.Programs.{label_of_stmt}
use Rattle.model.proofs.Decks.StatementSound.{stmt_sound}
use Rattle.model.proofs.Decks.Verdicts.{accepts, Have, none_left, none_right, read_is}
use Rattle.tree_drops.specs.declared.StmtTree.{StmtTree}
use Rattle.parser.specs.Heads.{head_of}
use Rattle.parser.specs.Reads.{HasRead, IsGiven}
use Rattle.parser.specs.declared.reading.Reader.{Reader}
use Rattle.parser.proofs.Naming.{name_is_label}
use Rattle.parser.proofs.Noting.{faults_snoc}
use Rattle.codegen.specs.Building.{HasPut}
use Rattle.codegen.specs.Countable.{CountableStmt}
use Rattle.codegen.specs.Labels.{AreNames, but_end, own_label}
use Rattle.codegen.specs.declared.building.ImageBuilder.{ImageBuilder}
use Rattle.codegen_laws.proofs.Light.{light_statement}
use Rattle.driver.specs.Reading.{Kept, on_texts}

pub begins : (names : List (Option Bytes)) (ss : List Statement) (r : Reader) (b : ImageBuilder) → HasRead [] r → HasPut names [] b → Kept names ss 0 r b
unfolding deck_trees
begins names ss r b h p = record { within = omega arith; has_read = h; trees = []; has_put = p; all = λ labels none. refl; light = omega arith; few = omega arith }

take_more : (ss : List Statement) (i : ℕ) (s : Statement) → i < length ss → s ≡ get_or ss i s → take (i + 1) ss ≡ take i ss ++ s ∷ []
take_more ss i s h e = ap (λ k. take k ss) (add-one i) ∙ take-suc ss i s h ∙ ap (λ x. take i ss ++ x ∷ []) (sym e)

trees_snoc : (ss : List Statement) (s : Statement) → deck_trees (ss ++ s ∷ []) ≡ deck_trees ss ++ tree_of_read (read s.text)
unfolding deck_trees
trees_snoc [] s = append-nil (tree_of_read (read s.text))
trees_snoc (x ∷ ss) s = ap (λ l. tree_of_read (read x.text) ++ l) (trees_snoc ss s) ∙ sym (append_assoc (tree_of_read (read x.text)) (deck_trees ss) (tree_of_read (read s.text)))

texts_snoc : (ss : List Statement) (s : Statement) → on_texts (ss ++ s ∷ []) ≡ on_texts ss + length s.text
texts_snoc [] s = omega arith
texts_snoc (x ∷ ss) s = let h = texts_snoc ss s in omega (arith, h)

weights_snoc : (ss : List Stmt) (s : Stmt) → total weight (ss ++ s ∷ []) ≡ total weight ss + weight s
weights_snoc [] s = omega arith
weights_snoc (x ∷ ss) s = let h = weights_snoc ss s in omega (arith, h)

length_snoc : {A : Type 0} (xs : List A) (x : A) → length (xs ++ x ∷ []) ≡ length xs + 1
length_snoc [] x = omega arith
length_snoc (y ∷ xs) x = let h = length_snoc xs x in omega (arith, h)

-- the tree of a statement that isn't faulty is put
pub step_put : TreesFit → (names : List (Option Bytes)) (ss : List Statement) (i : ℕ) (s : Statement) (t : StmtTree) (r q : Reader) (b c : ImageBuilder) → i < length ss → s ≡ get_or ss i s → Kept names ss i r b
    → ((xs : List Statement) → HasRead xs r → HasRead (xs ++ s ∷ []) q) → IsGiven s r (Some t)
    → ((ns : List (Option Bytes)) (ts : List Stmt) → HasPut ns ts b → HasPut ns (ts ++ stmt_of t.statement.value ∷ []) c) → Kept names ss (i + 1) q c
step_put trees_are names ss i s t r q b c less is k reads given puts =
    let more : take (i + 1) ss ≡ take i ss ++ s ∷ [] = take_more ss i s less is in
    let tree = stmt_of t.statement.value in
    let w = trees_are s.text tree given.0 in
    let l = k.light in
    let f = k.few in record {
      within = omega (arith, less);
      has_read = subst (λ xs. HasRead xs q) (sym more) (reads (take i ss) k.has_read);
      trees = k.trees ++ tree ∷ [];
      has_put = puts names k.trees k.has_put;
      all = λ labels none.
          let parts : faults_after [] labels (take i ss) ++ fault_of s.number (cause_of (labels_given (take i ss)) labels (read s.text)) ≡ [] = sym (faults_snoc labels (take i ss) s) ∙ ap (faults_after [] labels) (sym more) ∙ none in
          ap (λ ts. ts ++ tree ∷ []) (k.all labels (none_left (faults_after [] labels (take i ss)) _ parts))
          ∙ ap (λ x. deck_trees (take i ss) ++ tree_of_read x) (sym given.0) ∙ sym (trees_snoc (take i ss) s) ∙ ap deck_trees (sym more);
      light = (let a = weights_snoc k.trees tree in let b = texts_snoc (take i ss) s in let e = ap on_texts more in omega (arith, w, l, a, b, e));
      few = (let a = length_snoc k.trees tree in omega (arith, f, a));
    }

-- a faulty one isn't
pub step_faulty : (names : List (Option Bytes)) (ss : List Statement) (i : ℕ) (s : Statement) (r q : Reader) (b : ImageBuilder) → i < length ss → s ≡ get_or ss i s → Kept names ss i r b
    → ((xs : List Statement) → HasRead xs r → HasRead (xs ++ s ∷ []) q) → IsGiven s r None → Kept names ss (i + 1) q b
step_faulty names ss i s r q b less is k reads given =
    let more : take (i + 1) ss ≡ take i ss ++ s ∷ [] = take_more ss i s less is in
    let l = k.light in
    let f = k.few in record {
      within = omega (arith, less);
      has_read = subst (λ xs. HasRead xs q) (sym more) (reads (take i ss) k.has_read);
      trees = k.trees;
      has_put = k.has_put;
      all = λ labels none.
          let parts : faults_after [] labels (take i ss) ++ fault_of s.number (cause_of (labels_given (take i ss)) labels (read s.text)) ≡ [] = sym (faults_snoc labels (take i ss) s) ∙ ap (faults_after [] labels) (sym more) ∙ none in
          absurd (given (take i ss) k.has_read labels (none_right (faults_after [] labels (take i ss)) _ parts));
      light = (let b = texts_snoc (take i ss) s in let e = ap on_texts more in omega (arith, l, b, e));
      few = omega (arith, f);
    }

-- ---- room

texts_take : (ss : List Statement) (i : ℕ) (s : Statement) → i < length ss → s ≡ get_or ss i s → on_texts (take i ss) + length s.text ≤ on_texts ss
texts_take [] i s h e = absurd (omega (arith, h))
texts_take (x ∷ ss) zero s h e = let l = ap (λ (s : Statement). length s.text) e in omega (arith, l)
texts_take (x ∷ ss) (suc i) s h e = let a = texts_take ss i s (omega (arith, h)) e in omega (arith, a)

each_at : {A : Type 0} (P : A → Type 0) (xs : List A) (i : ℕ) (x : A) → AllByRecursion P xs → i < length xs → x ≡ get_or xs i x → P x
each_at P [] i x h less e = absurd (omega (arith, less))
each_at P (y ∷ xs) zero x h less e = subst P (sym e) h.0
each_at P (y ∷ xs) (suc i) x h less e = each_at P xs i x h.1 (omega (arith, less)) e

pub record Room (ts : List Stmt) (s : Stmt) : Type 0 where
  pub countable : CountableStmt s
  pub light : total weight ts + weight s ≤ 16777216
  pub few : length ts < 16777216

pub room : DecksFit → TreesFit → (text : List ℕ) (names : List (Option Bytes)) (ss : List Statement) (i : ℕ) (s : Statement) (t : StmtTree) (r : Reader) (b : ImageBuilder) → cards.deck text ≡ Ok ss → i < length ss → s ≡ get_or ss i s
    → (k : Kept names ss i r b) → IsGiven s r (Some t) → Room k.trees (stmt_of t.statement.value)
room decks trees_are text names ss i s t r b d less is k given =
    let fit = decks text ss d in
    let w = trees_are s.text (stmt_of t.statement.value) given.0 in
    let short = each_at (λ (s : Statement). length s.text ≤ 4000) ss i s fit.each less is in
    let all = texts_take ss i s less is in
    let together = fit.together in
    let deck = fit.deck in
    let count = fit.count in
    let l = k.light in
    let f = k.few in record {
      countable = light_statement (stmt_of t.statement.value) given.1 (omega (arith, w, short));
      light = omega (arith, w, l, all, together, deck);
      few = omega (arith, f, less, count, deck);
    }

-- ---- the end

pub all_trees : (names : List (Option Bytes)) (ss : List Statement) (i : ℕ) (r : Reader) (b : ImageBuilder) → take i ss ≡ ss → (k : Kept names ss i r b) → faults ss ≡ [] → k.trees ≡ deck_trees ss
unfolding faults
all_trees names ss i r b e k none = k.all (labels_given ss) (ap (faults_after [] (labels_given ss)) e ∙ none) ∙ ap deck_trees e

own_label_is : (s : Stmt) (ts : List Tok) → Tree s ts → but_end (label_of_stmt s) ≡ own_label s
own_label_is _ _ (plain _ b g _ us vs h unlabelled i j) = refl
own_label_is _ _ (plain _ b g _ us vs h (labelled l other) i j) = elim (bytes_eq l end_word) as (λ x. (bytes_eq l end_word ≡ x) → (if x then None else Some l) ≡ Some l) [
  | true ↦ λ e. absurd (other ((bytes_eq-Decides l end_word).0 e))
  | false ↦ λ e. refl
] refl
own_label_is _ _ (end l ts h i) = refl

abbrev heads : List Statement → List (Option Bytes)
heads ss = map head_of ss

heads_are : (ss : List Statement) (ts : List Stmt) → Have ss ts → (heads ss ≡ map label_of_stmt ts) × (map but_end (map label_of_stmt ts) ≡ map own_label ts)
heads_are [] [] h = (refl, refl)
heads_are [] (t ∷ ts) h = absurd h
heads_are (s ∷ ss) [] h = absurd h
heads_are (s ∷ ss) (t ∷ ts) h =
    let more = heads_are ss ts h.1 in
    let tree = stmt_sound (toks_of (pieces s.text)) t (read_is s.text t h.0).1 in
    (ap₂ (λ x xs. x ∷ xs) (name_is_label s.text t h.0) more.0, ap₂ (λ x xs. x ∷ xs) (own_label_is t (toks_of (pieces s.text)) tree) more.1)

ok_same : (xs ys : List Statement) (r : Result (List Statement) CardFault) → r ≡ Ok xs → r ≡ Ok ys → xs ≡ ys
ok_same xs ys r e f = let z = sym e ∙ f in cc

pub names_are : (text : List ℕ) (names : List (Option Bytes)) (ss : List Statement) (ts : List Stmt) → cards.deck text ≡ Ok ss → verdict text ≡ Accepted ts → names ≡ heads ss → AreNames names ts
names_are text names ss ts d a is =
    let found = accepts text ts a in
    let have : Have ss ts = subst (λ x. Have x ts) (ok_same found.statements ss (cards.deck text) found.given d) found.have in
    let h = heads_are ss ts have in
    record { all = is ∙ h.0; own = ap (map but_end) (is ∙ h.0) ∙ h.1 }

pub few_names : DecksFit → (text : List ℕ) (ss : List Statement) → cards.deck text ≡ Ok ss → length ss ≤ 16777216
few_names decks text ss d = let fit = decks text ss d in let a = fit.deck in let b = fit.count in omega (arith, a, b)

-- all statements are read
pub record Ended (names : List (Option Bytes)) (ss : List Statement) (r : Reader) (b : ImageBuilder) : Type 0 where
  pub has_read : HasRead ss r
  pub trees : List Stmt
  pub has_put : HasPut names trees b
  pub all : faults ss ≡ [] → trees ≡ deck_trees ss

pub ended : (names : List (Option Bytes)) (ss : List Statement) (i : ℕ) (r : Reader) (b : ImageBuilder) → take i ss ≡ ss → Kept names ss i r b → Ended names ss r b
ended names ss i r b e k = record { has_read = subst (λ xs. HasRead xs r) e k.has_read; trees = k.trees; has_put = k.has_put; all = all_trees names ss i r b e k }

pub few_labels : {A : Type 0} (f : A → Option Bytes) (names given : List A) (ss : List Statement) → given ≡ names → map f names ≡ heads ss → length ss ≤ 16777216 → length given ≤ 16777216
few_labels f names given ss g e few =
    let a = ap length e in
    let b = length-map names f in
    let c = length-map ss head_of in
    let d = ap length g in
    omega (arith, a, b, c, d, few)
