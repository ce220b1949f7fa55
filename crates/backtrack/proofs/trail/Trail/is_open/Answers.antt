use Rattle.std.proofs.Common.{◌≡◌, ◌∷◌, ◌∙◌, List, ap, sym, reverse, rules}
use Rattle.backtrack.specs.declared.trail.Entry.{Entry}
use Rattle.backtrack.specs.declared.trail.Note.TheVariants as note
use Rattle.backtrack.specs.Standing.{Standing}
use Rattle.backtrack.specs.Logs.{chain, note_of}
use Rattle.backtrack.proofs.trail.Trail.is_open.Goals as goal

pub returns-in-Some-Opened-default : goal.returns-in-Some-Opened-default
returns-in-Some-Opened-default c = λ _.
    let ns = chain (reverse c.as_slice.result.now) c.in-Some-Opened-default.field-0-1 in
    let is : c.in-Some-Opened-default.field-0-0.now ≡ note.Opened c.in-Some-Opened-default.field-0-0-0 = search rules in (
      c.in-Some-Opened-default.field-0-0-0,
      ns,
      ap (λ (v : Standing). v.notes) (sym c.self.view_is)
          ∙ ap (λ (es : List Entry). chain (reverse es) c.self.inside.head) (sym c.as_slice.ensures.value)
          ∙ c.in-Some-Opened-default.ensures.some
          ∙ ap (λ n. note_of n ∷ ns) is,
    )
