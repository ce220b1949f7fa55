use Rattle.std.proofs.Common.{◌≡◌, ◌∷◌, ◌∙◌, ap, sym, reverse, List}
use Rattle.model.specs.Pattern.Steps as s
use Rattle.backtrack.specs.declared.trail.Entry.{Entry}
use Rattle.backtrack.specs.declared.trail.Note.TheVariants as note
use Rattle.backtrack.specs.Standing.{fenced, unfenced}
use Rattle.backtrack.specs.Logs.{chain, pending_of, logs_of, note_of}
use Rattle.backtrack.proofs.Chains.{oldest_marks, oldest_backs}
use Rattle.backtrack.proofs.trail.Trail.close_fence.Goals as goal

pub invariant_of-self : goal.invariant_of-self
invariant_of-self c =
    let a = c.self.inside in
    record {
      marks = rw c.truncate.ensures.items (oldest_marks c.in-Some-Fenced-default.count (logs_of a) a.choices.items c.self.invariant.marks);
      stored = c.self.invariant.stored;
    }

pub returns-in-Some-Fenced-default-clause-closed : goal.returns-in-Some-Fenced-default-clause-closed
returns-in-Some-Fenced-default-clause-closed c = λ _.
    let a = c.self.inside in
    let f = c.in-Some-Fenced-default in
    let ns = chain (reverse a.log.items) f.below in
    let notes : chain (reverse a.log.items) a.head ≡ s.Fenced f.count ∷ ns =
    ap (λ (es : List Entry). chain (reverse es) a.head) (sym c.as_slice.ensures.value) ∙ f.ensures.some ∙ ap (λ (n : note.the_data). note_of n ∷ chain (reverse c.as_slice.result.now) f.below) f.field-0-0-is
    ∙ ap (λ (es : List Entry). s.Fenced f.count ∷ chain (reverse es) f.below) c.as_slice.ensures.value in
    rw (c.truncate.ensures.items, ← c.self.view_is) (
      f.count,
      ap fenced notes,
      λ i. record {
        code = a.code;
        notes = sym (ap unfenced notes) i;
        pending = pending_of a.pending.items;
        backs = oldest_backs f.count (logs_of a) a.choices.items c.self.invariant.marks i;
      },
    )
