-- What was put stands.
use Rattle.std.proofs.Common.{◌≡◌, ℕ, List, [], ◌++◌, ◌+◌, length, refl, sym, ap, ◌∙◌, subst, append_assoc, take, drop}
use Rattle.std.specs.Prelude.{Result, Ok, Err, OnOk, OnErr}
use Rattle.std.proofs.Math.Seq.{drop-append-add, take-append-add}
use Rattle.model.specs.Module.Spelling.{u32}
use Rattle.model.specs.Deck.Trees.{Bytes}
use Rattle.expr_codegen.specs.Texts.{with_text}
use Rattle.expr_codegen.specs.Emitting.{Gen, Extends, Longer, overwritten, with_number}
use Rattle.expr_codegen.proofs.Joins.{nil_right, longer_text, longer_trans}

pub extends_same : (g h : Gen) → h ≡ g → Extends g h
extends_same g h e = subst (Extends g) (sym e) (record { code = ([], nil_right g.code); texts = ([], nil_right g.texts); waiting = ([], nil_right g.waiting); taken = refl })

pub extends_trans : {g h k : Gen} → Extends g h → Extends h k → Extends g k
extends_trans {g} {h} {k} x y = record {
  code = longer_trans g.code h.code k.code x.code y.code;
  texts = longer_trans g.texts h.texts k.texts x.texts y.texts;
  waiting = longer_trans g.waiting h.waiting k.waiting x.waiting y.waiting;
  taken = y.taken ∙ x.taken;
}

pub extends_texts : (g : Gen) (ts : List Bytes) → Longer g.texts ts → Extends g (record { code = g.code; texts = ts; waiting = g.waiting; taken = g.taken })
extends_texts g ts l = record { code = ([], nil_right g.code); texts = l; waiting = ([], nil_right g.waiting); taken = refl }

-- the texts are longer when one got its number, and the same when memory ran out
pub longer_numbered : {T E : Type 0} (r : Result T E) (t : Bytes) (ss ts : List Bytes) → OnOk r (ts ≡ with_text t ss) → OnErr r (ts ≡ ss) → Longer ss ts
longer_numbered (Ok k) t ss ts put same = subst (Longer ss) (sym put) (longer_text t ss)
longer_numbered (Err e) t ss ts put same = subst (Longer ss) (sym same) ([], nil_right ss)

-- a number behind the old bytes may change
set_behind : (a b : List ℕ) (k n : ℕ) → overwritten (length a + k) n (a ++ b) ≡ a ++ overwritten k n b
set_behind a b k n =
    ap (λ z. z ++ (u32 n ++ drop 4 (drop (length a + k) (a ++ b)))) (take-append-add a b k)
    ∙ ap (λ z. (a ++ take k b) ++ (u32 n ++ drop 4 z)) (drop-append-add a b k)
    ∙ append_assoc a (take k b) (u32 n ++ drop 4 (drop k b))

pub extends_changed : {g h k : Gen} (at n : ℕ) → Extends g h → at ≡ length g.code → k ≡ with_number at n h → Extends g k
extends_changed {g} {h} {k} at n x place e = subst (Extends g) (sym e) (record {
  code = (overwritten 1 n x.code.0, ap (λ m. overwritten (m + 1) n h.code) place ∙ ap (overwritten (length g.code + 1) n) x.code.1 ∙ set_behind g.code x.code.0 1 n);
  texts = x.texts;
  waiting = x.waiting;
  taken = x.taken;
})
