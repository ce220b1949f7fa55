use Rattle.std.proofs.Common.{◌≡◌, ◌∷◌, ◌∙◌, List, ap, sym, reverse, rules}
use Rattle.backtrack.specs.declared.trail.Entry.{Entry}
use Rattle.backtrack.specs.declared.trail.Note.TheVariants as note
use Rattle.backtrack.specs.Standing.{Standing}
use Rattle.backtrack.specs.Logs.{chain, note_of}
use Rattle.backtrack.proofs.trail.Trail.outer.Goals as goal

pub returns-in-Some-Left-default : goal.returns-in-Some-Left-default
returns-in-Some-Left-default c =
    let ns = chain (reverse c.as_slice.result.now) c.in-Some-Left-default._below in
    let is : c.in-Some-Left-default.field-0-0.now ≡ note.Left c.in-Some-Left-default.code c.in-Some-Left-default.place = search rules in (
      ns,
      ap (λ (v : Standing). v.notes) (sym c.self.view_is)
          ∙ ap (λ (es : List Entry). chain (reverse es) c.self.inside.head) (sym c.as_slice.ensures.value)
          ∙ c.in-Some-Left-default.ensures.some
          ∙ ap (λ n. note_of n ∷ ns) is,
    )
