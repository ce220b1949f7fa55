use Rattle.std.proofs.Common.{◌∙◌, ap, arith, sym}
use Rattle.std.specs.Cmp.{unsigned_Decides}
use Rattle.std.specs.Int.{to_le_bytes, w64}
use Rattle.strings.proofs.Lists.{same_less, same_longer}
use Rattle.strings.proofs.equality.same_rest.Goals as goal

pub returns-then-word_at : goal.returns-then-word_at
returns-then-word_at c h front =
    let left = c.args.left.now in
    let right = c.args.right.now in
    let word = sym c.word_at.ensures ∙ ap (to_le_bytes w64) c.if-word_at.true ∙ c.word_at-2.ensures in
    let last = sym c.word_at-then-word_at.ensures ∙ ap (to_le_bytes w64) ((unsigned_Decides c.word_at-then-word_at.result c.word_at-then-word_at-2.result).0 h) ∙ c.word_at-then-word_at-2.ensures in
    same_longer 14 22 left right (omega arith) last (same_less 14 15 left right (omega arith) (same_longer 7 15 left right (omega arith) word front))

pub returns-else-word_at : goal.returns-else-word_at
returns-else-word_at c h = absurd (c.if-word_at.false ((unsigned_Decides c.word_at.result c.word_at-2.result).0 h))
