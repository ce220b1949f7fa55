-- Parts put one behind the other, with their offsets.
use Rattle.std.proofs.Common.{◌≡◌, ℕ, ◌+◌, ◌<◌, List, [], ◌∷◌, length, drop, get_or, refl, sym, ap, ◌∙◌, subst, length-append}
use Rattle.std.proofs.lemmas.List.{at_drop_more}
use Rattle.model.specs.Module.Images.{code_size}
use Rattle.expr_codegen.specs.Code.{Part}
use Rattle.expr_codegen.specs.Emitting.{Gen, Emits, Longer}
use Rattle.expr_codegen.proofs.Joins.{both, bytes_behind, nothing_put, longer_trans, longer_texts}
use Rattle.codegen.specs.Laying.{Laid, retaken}
use Rattle.codegen.specs.Layout as layout
use Rattle.codegen.specs.Layout.{joined_parts}

pub laid_none : (g : Gen) → Laid [] [] g g
laid_none g = record { parts = nothing_put g; offsets = λ texts l. refl }

-- how many expressions were taken makes no difference
pub still_put : {g h : Gen} (p : Part) (n : ℕ) → Emits p g h → Emits p (retaken n g) (retaken n h)
still_put p n x = record { code = x.code; texts = x.texts; waiting = x.waiting; taken = refl }

pub laid_more : {g h j : Gen} (p : Part) (ps : List Part) (os : List ℕ) → Emits p g h → Laid ps os h j → Laid (p ∷ ps) (length g.code ∷ os) g j
laid_more {g} {h} {j} p ps os x y = record {
  parts = both (still_put p j.taken x) y.parts;
  offsets = λ texts l.
      let l1 : Longer h.texts texts = longer_trans h.texts j.texts texts (subst (λ t. Longer h.texts t) (sym y.parts.texts) (longer_texts (joined_parts ps).texts h.texts)) l in
      let first = p.code texts (length g.waiting) (length g.code) in
      let waits : length h.waiting ≡ length g.waiting + length p.later = ap length x.waiting ∙ length-append g.waiting p.later in
      let at : length h.code ≡ length g.code + code_size first = ap length (x.code texts l1) ∙ bytes_behind g.code first in
      ap (λ o. length g.code ∷ o) (y.offsets texts l ∙ ap (λ n. layout.offsets ps texts n (length h.code)) waits ∙ ap (λ o. layout.offsets ps texts (length g.waiting + length p.later) o) at);
}

pub next : {A : Type 0} (xs : List A) (i : ℕ) (x : A) → i < length xs → x ≡ get_or xs i x → drop i xs ≡ x ∷ drop (i + 1) xs
next xs i x h e = at_drop_more (λ l. l) xs i x h ∙ ap (λ y. y ∷ drop (i + 1) xs) (sym e)
