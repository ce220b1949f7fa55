use Rattle.std.proofs.Common.{ℕ, List, ap, sym, subst, take, get_or, drop, ◌∙◌}
use Rattle.std.specs.Int.{to_le_bytes, w64}
use Rattle.strings.specs.Shared.{bytes_of, AreWithin}
use Rattle.strings.proofs.Lists.{same_less}
use Rattle.strings.proofs.equality.are_same_few.Goals as goal

pub returns : goal.returns
returns c h =
    let word = sym c.first_word.ensures ∙ ap (to_le_bytes w64) c.if-first_word.false ∙ c.first_word-2.ensures in
    let len = ap (λ (xs : List ℕ). get_or xs 0 0) word in
    let front = ap (λ (xs : List ℕ). drop 1 xs) word in
    let few = (subst AreWithin c.in-Own.is c.left.invariant).0 in
    sym c.left.view_is
    ∙ ap bytes_of c.in-Own.is
    ∙ same_less c.in-Own.len 22 c.in-Own.array c.in-Own-bytes.others few (c.same_rest.ensures h front)
    ∙ ap (λ n. take n c.in-Own-bytes.others) len
    ∙ sym (ap bytes_of c.in-Own-bytes.is)
    ∙ c.right.view_is
