-- What is noted of statements is what is wrong with them.
use Rattle.std.proofs.Common.{◌≡◌, ◌≢◌, ◌+◌, ◌<◌, arith, take, get_or, add-one, ◌∙◌, refl, sym, ap, ap₂, subst, ◌++◌, ℕ, Bool, true, false, not, List, [], ◌∷◌, append_assoc, append-nil, Option, Some, None, if◌then◌else◌}
use Rattle.std.specs.Prelude.{Result, Ok, Err, OnOk, ◌==◌, length}
use Rattle.std.proofs.lemmas.Bool.Decides.{nat_tests}
use Rattle.std.proofs.Math.Seq.{take-suc}
use Rattle.std.specs.declared.alloc.Global.{Global}
use Rattle.std.specs.declared.boxed.Box.{Box}
use Rattle.model.specs.declared.cards.Statement.{Statement}
use Rattle.model.specs.declared.causes.Cause.{Cause}
use Rattle.model.specs.declared.causes.Cause.TheVariants as cause
use Rattle.model.specs.declared.causes.StmtFault.{StmtFault}
use Rattle.model.specs.declared.trees.Stmt.{Stmt as Tree}
use Rattle.model.specs.Deck.Faults.{call_fits, cause_of, fault_of, faults, faults_after, is_taken, keyword_known, label_given, labels_given, labels_of_read, read, rule_broken, targets_fit, throughout}
use Rattle.model.specs.Deck.Trees.{Bytes, Stmt, Plain, End}
use Rattle.model.specs.Deck.TreeViews.{stmt_of}
use Rattle.tree_drops.specs.declared.StmtTree.{StmtTree}
use Rattle.parser.specs.Labels.{AreSame}
use Rattle.parser.specs.Reads.{HasRead, IsGiven, early_rule, entry_asked, entry_rule, missing, noted_fault, noted_faults, result_of}
use Rattle.parser.specs.declared.reading.Noted.{Noted}
use Rattle.parser.specs.declared.reading.Noted.TheVariants as noted
use Rattle.parser.specs.declared.reading.Reader.{Reader}
use Rattle.parser.proofs.LabelSets.{taken_same}

-- ---- the rules, by whether they ask for the labels of later statements

abbrev chain : (a b c d : Bool) → Option Cause → Option Cause
chain a b c d o =
    if a then Some cause.LabelTaken
    else (if b then Some cause.TooManyArguments
    else (if c then Some cause.UnknownKeyword
    else (if d then Some cause.NotATarget else o)))

none_then : (a b c d : Bool) (o : Option Cause) → chain a b c d None ≡ None → chain a b c d o ≡ o
none_then true b c d o h = absurd (cc)
none_then false true c d o h = absurd (cc)
none_then false false true d o h = absurd (cc)
none_then false false false true o h = absurd (cc)
none_then false false false false o h = refl

some_now : (a b c d : Bool) (o : Option Cause) (x : Cause) → chain a b c d None ≡ Some x → chain a b c d o ≡ Some x
some_now true b c d o x h = h
some_now false true c d o x h = h
some_now false false true d o x h = h
some_now false false false true o x h = h
some_now false false false false o x h = absurd (cc)

second_kept : (a b c d : Bool) → chain a (not b) c d None ≡ None → b ≡ true
second_kept true b c d h = absurd (cc)
second_kept false true c d h = refl
second_kept false false c d h = absurd (cc)

pub early_then : (earlier all : List Bytes) (s : Stmt) → early_rule earlier s ≡ None → rule_broken earlier all s ≡ entry_rule all s
early_then earlier all s h = none_then (is_taken earlier (label_given s)) (not (throughout call_fits s)) (not (throughout keyword_known s)) (not (targets_fit s)) (entry_rule all s) h

pub early_now : (earlier all : List Bytes) (s : Stmt) (x : Cause) → early_rule earlier s ≡ Some x → rule_broken earlier all s ≡ Some x
early_now earlier all s x h = some_now (is_taken earlier (label_given s)) (not (throughout call_fits s)) (not (throughout keyword_known s)) (not (targets_fit s)) (entry_rule all s) x h

pub calls_kept : (earlier : List Bytes) (s : Stmt) → early_rule earlier s ≡ None → throughout call_fits s ≡ true
calls_kept earlier s h = second_kept (is_taken earlier (label_given s)) (throughout call_fits s) (not (throughout keyword_known s)) (not (targets_fit s)) h

pub early_same : (old ls : List Bytes) → AreSame old ls → (s : Stmt) → early_rule old s ≡ early_rule ls s
early_same old ls same s = ap (λ t. chain t (not (throughout call_fits s)) (not (throughout keyword_known s)) (not (targets_fit s)) None) (taken_same old ls same (label_given s))

-- ---- one more

pub noted_snoc : (all : List Bytes) (ns : List Noted) (n : Noted) → noted_faults all (ns ++ n ∷ []) ≡ noted_faults all ns ++ noted_fault all n
noted_snoc all [] n = append-nil (noted_fault all n)
noted_snoc all (m ∷ ns) n = ap (λ l. noted_fault all m ++ l) (noted_snoc all ns n) ∙ sym (append_assoc (noted_fault all m) (noted_faults all ns) (noted_fault all n))

pub labels_snoc : (ss : List Statement) (s : Statement) → labels_given (ss ++ s ∷ []) ≡ labels_given ss ++ labels_of_read (read s.text)
labels_snoc [] s = append-nil (labels_of_read (read s.text))
labels_snoc (x ∷ ss) s = ap (λ l. labels_of_read (read x.text) ++ l) (labels_snoc ss s) ∙ sym (append_assoc (labels_of_read (read x.text)) (labels_given ss) (labels_of_read (read s.text)))

faults_snoc_from : (earlier all : List Bytes) (ss : List Statement) (s : Statement) → faults_after earlier all (ss ++ s ∷ []) ≡ faults_after earlier all ss ++ fault_of s.number (cause_of (earlier ++ labels_given ss) all (read s.text))
faults_snoc_from earlier all [] s =
    append-nil (fault_of s.number (cause_of earlier all (read s.text))) ∙ ap (λ e. fault_of s.number (cause_of e all (read s.text))) (sym (append-nil earlier))
faults_snoc_from earlier all (x ∷ ss) s =
    let one = fault_of x.number (cause_of earlier all (read x.text)) in
    let now = earlier ++ labels_of_read (read x.text) in
    ap (λ l. one ++ l) (faults_snoc_from now all ss s)
    ∙ ap (λ e. one ++ (faults_after now all ss ++ fault_of s.number (cause_of e all (read s.text)))) (append_assoc earlier (labels_of_read (read x.text)) (labels_given ss))
    ∙ sym (append_assoc one (faults_after now all ss) (fault_of s.number (cause_of (earlier ++ labels_given (x ∷ ss)) all (read s.text))))

pub faults_snoc : (all : List Bytes) (ss : List Statement) (s : Statement) → faults_after [] all (ss ++ s ∷ []) ≡ faults_after [] all ss ++ fault_of s.number (cause_of (labels_given ss) all (read s.text))
faults_snoc all ss s = faults_snoc_from [] all ss s

-- ---- one statement more

pub read_more : (ss : List Statement) (s : Statement) (old new : Reader) → HasRead ss old
    → AreSame new.labels (labels_given ss ++ labels_of_read (read s.text))
    → ((all : List Bytes) → noted_faults all new.noted.items ≡ noted_faults all old.noted.items ++ fault_of s.number (cause_of (labels_given ss) all (read s.text)))
    → HasRead (ss ++ s ∷ []) new
read_more ss s old new h labels noted = record {
  labels = subst (AreSame new.labels) (sym (labels_snoc ss s)) labels;
  noted = λ all. noted all ∙ ap (λ l. l ++ fault_of s.number (cause_of (labels_given ss) all (read s.text))) (h.noted all) ∙ sym (faults_snoc all ss s);
}

some_fault : (n : ℕ) (c : Cause) → fault_of n (Some c) ≢ []
some_fault n c h = absurd (cc)

-- a text without a tree
pub none_given : (s : Statement) (old : Reader) (c : Cause) → read s.text ≡ Err c → IsGiven s old None
none_given s old c e ss h all = subst (λ r. fault_of s.number (cause_of (labels_given ss) all r) ≢ []) (sym e) (some_fault s.number c)

pub none_more : (ss : List Statement) (s : Statement) (old new : Reader) (c : Cause) → HasRead ss old → read s.text ≡ Err c → new.labels ≡ old.labels
    → new.noted.items ≡ old.noted.items ++ noted.Faulty (record { number = s.number; cause = c }) ∷ [] → HasRead (ss ++ s ∷ []) new
none_more ss s old new c h e same put =
    read_more ss s old new h
    (subst (λ r. AreSame new.labels (labels_given ss ++ labels_of_read r)) (sym e) (subst (λ l. AreSame l (labels_given ss ++ [])) (sym same) (subst (AreSame old.labels) (sym (append-nil (labels_given ss))) h.labels)))
    (λ all. ap (noted_faults all) put ∙ noted_snoc all old.noted.items (noted.Faulty (record { number = s.number; cause = c })) ∙ ap (λ r. noted_faults all old.noted.items ++ fault_of s.number (cause_of (labels_given ss) all r)) (sym e))

-- a faulty one with a tree
pub faulty_cause : (ss : List Statement) (s : Statement) (t : Stmt) (old : Reader) (c : Cause) (all : List Bytes) → HasRead ss old → read s.text ≡ Ok t → early_rule old.labels t ≡ Some c
    → cause_of (labels_given ss) all (read s.text) ≡ Some c
faulty_cause ss s t old c all h e early = ap (cause_of (labels_given ss) all) e ∙ early_now (labels_given ss) all t c (sym (early_same old.labels (labels_given ss) h.labels t) ∙ early)

pub faulty_given : (s : Statement) (t : Stmt) (old : Reader) (c : Cause) → read s.text ≡ Ok t → early_rule old.labels t ≡ Some c → IsGiven s old None
faulty_given s t old c e early ss h all = subst (λ r. fault_of s.number r ≢ []) (sym (faulty_cause ss s t old c all h e early)) (some_fault s.number c)

pub faulty_more : (ss : List Statement) (s : Statement) (t : Stmt) (old new : Reader) (c : Cause) → HasRead ss old → read s.text ≡ Ok t → early_rule old.labels t ≡ Some c
    → AreSame new.labels (labels_given ss ++ labels_of_read (read s.text)) → new.noted.items ≡ old.noted.items ++ noted.Faulty (record { number = s.number; cause = c }) ∷ [] → HasRead (ss ++ s ∷ []) new
faulty_more ss s t old new c h e early labels put =
    read_more ss s old new h labels
    (λ all. ap (noted_faults all) put ∙ noted_snoc all old.noted.items (noted.Faulty (record { number = s.number; cause = c }))
    ∙ ap (λ r. noted_faults all old.noted.items ++ fault_of s.number r) (sym (faulty_cause ss s t old c all h e early)))

-- one that breaks no early rule
pub fine_more : (ss : List Statement) (s : Statement) (t : Stmt) (old new : Reader) → HasRead ss old → read s.text ≡ Ok t → early_rule old.labels t ≡ None
    → AreSame new.labels (labels_given ss ++ labels_of_read (read s.text))
    → ((all : List Bytes) → noted_faults all new.noted.items ≡ noted_faults all old.noted.items ++ fault_of s.number (entry_rule all t)) → HasRead (ss ++ s ∷ []) new
fine_more ss s t old new h e early labels noted =
    read_more ss s old new h labels
    (λ all. noted all ∙ ap (λ r. noted_faults all old.noted.items ++ fault_of s.number r) (sym (ap (cause_of (labels_given ss) all) e ∙ early_then (labels_given ss) all t (sym (early_same old.labels (labels_given ss) h.labels t) ∙ early))))

-- ---- the end

same_faults : (all ls : List Bytes) → AreSame all ls → (ns : List Noted) → noted_faults all ns ≡ noted_faults ls ns
same_faults all ls same [] = refl
same_faults all ls same (noted.Faulty f ∷ ns) = ap (λ l. f ∷ l) (same_faults all ls same ns)
same_faults all ls same (noted.Entry n l ∷ ns) =
    ap₂ (λ b fs. fault_of n (if not b then Some cause.EntryMissing else None) ++ fs) (same l.items) (same_faults all ls same ns)

pub all_told : (ss : List Statement) (r : Reader) (fs : List StmtFault) → fs ≡ noted_faults r.labels r.noted.items → HasRead ss r → fs ≡ faults ss
unfolding faults
all_told ss r fs is h = is ∙ same_faults r.labels (labels_given ss) h.labels r.noted.items ∙ h.noted (labels_given ss)

-- ---- results

-- the result of a last call, returned as it is
pub on_ok : {T E : Type 0} (r : Result T E) (P Q : Type 0) → OnOk r P → (P → Q) → OnOk r Q
on_ok (Ok x) P Q h f = f h
on_ok (Err e) P Q h f = tt

abbrev missing_of : (all : List Bytes) → Option Bytes → Option Cause
missing_of all None = None
missing_of all (Some l) = missing all l

asked_is : (all : List Bytes) (s : Stmt) → missing_of all (entry_asked s) ≡ entry_rule all s
asked_is all (Plain l b g) = refl
asked_is all (End None) = refl
asked_is all (End (Some l)) = refl

-- where a statement asks for this label, or for none
pub asked : (all : List Bytes) (s : Stmt) (o : Option Bytes) → o ≡ entry_asked s → missing_of all o ≡ entry_rule all s
asked all s o e = ap (missing_of all) e ∙ asked_is all s

pub nothing_noted : (n : ℕ) (all : List Bytes) (ns : List Noted) (s : Stmt) → None ≡ entry_asked s → noted_faults all ns ≡ noted_faults all ns ++ fault_of n (entry_rule all s)
nothing_noted n all ns s e = sym (append-nil (noted_faults all ns)) ∙ ap (λ o. noted_faults all ns ++ fault_of n o) (asked all s None e)

take_more : (ns : List Noted) (i : ℕ) (n : Noted) → i < length ns → n ≡ get_or ns i n → take (i + 1) ns ≡ take i ns ++ n ∷ []
take_more ns i n h e = ap (λ k. take k ns) (add-one i) ∙ take-suc ns i n h ∙ ap (λ x. take i ns ++ x ∷ []) (sym e)

pub told_more : (all : List Bytes) (ns : List Noted) (i : ℕ) (n : Noted) (fs now one : List StmtFault) → i < length ns → n ≡ get_or ns i n → now ≡ fs ++ one → one ≡ noted_fault all n → fs ≡ noted_faults all (take i ns)
    → now ≡ noted_faults all (take (i + 1) ns)
told_more all ns i n fs now one h e put is so_far =
    put ∙ ap₂ (λ x y. x ++ y) so_far is ∙ sym (noted_snoc all (take i ns) n) ∙ ap (noted_faults all) (sym (take_more ns i n h e))

is_zero : (n : ℕ) (b : Bool) → b ≡ (n == 0) → b ≡ true → n ≡ 0
is_zero n b e t = grind (arith, nat_tests, e, t)

none_left : {A : Type 0} (xs : List A) (n : ℕ) → n ≡ length xs → n ≡ 0 → xs ≡ []
none_left [] n e z = refl
none_left (x ∷ xs) n e z = absurd (omega (arith, e, z))

pub is_nothing : {A : Type 0} (xs : List A) (b : Bool) → b ≡ (length xs == 0) → b ≡ true → xs ≡ []
is_nothing xs b e t = none_left xs (length xs) refl (is_zero (length xs) b e t)

pub is_something : {A : Type 0} (xs : List A) (b : Bool) → b ≡ (length xs == 0) → b ≡ false → xs ≢ []
is_something [] b e f = absurd (cc)
is_something (x ∷ xs) b e f = λ n. absurd (cc)

pub cause_is : (text given : Bytes) (r : Result (Box Tree Global) Cause) (c : Cause) → given ≡ text → result_of r ≡ read given → r ≡ Err c → read text ≡ Err c
cause_is text given r c g h e = ap read (sym g) ∙ sym h ∙ ap result_of e

pub tree_of : (text given : Bytes) (r : Result (Box Tree Global) Cause) (t : Box Tree Global) (made : StmtTree) → given ≡ text → result_of r ≡ read given → r ≡ Ok t → made.statement ≡ t → read text ≡ Ok (stmt_of made.statement.value)
tree_of text given r t made g h e m = ap read (sym g) ∙ sym h ∙ ap result_of e ∙ ap (λ t. Ok (stmt_of t.value)) (sym m)
