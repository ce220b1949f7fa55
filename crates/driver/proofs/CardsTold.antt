-- The card of a statement whose number is greater than any that a module has.
use Rattle.std.proofs.Common.{◌≡◌, ◌≤◌, ◌^◌, ℕ, zero, suc, arith}
use Rattle.std.proofs.lemmas.List.{get_or_past}
use Rattle.model.specs.declared.image.Image.{Image}
use Rattle.model.specs.Module.Images.{card_of}
use Rattle.model.specs.Module.Spelling.{IsImage}

pub no_card : (im : Image) → IsImage im → (n : ℕ) → 2 ^ 32 ≤ n → card_of im.cards n ≡ 0
no_card im is zero le = absurd (omega (arith, le))
no_card im is (suc k) le = let few = is.statements.count in let count = is.cards.count in get_or_past im.cards k 0 (omega (arith, few, count, le))
