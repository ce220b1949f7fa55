use Rattle.std.proofs.Common.{Global, ◌≡◌, ◌+◌, ◌++◌, ℕ, ap, arith, length, slice_range, subst, take, ◌∙◌}
use Rattle.std.specs.declared.vec.Vec.{Vec}
use Rattle.std.specs.Prelude.{is_ok, if◌then◌else◌}
use Rattle.strings.proofs.Lists.{part_extended}
use Rattle.strings.proofs.text.extend_shared.Goals as goal

pub returns-clause-made : goal.returns-clause-made
returns-clause-made c _ =
    let all = c.args.shared.now.value.items in
    let a = c.args.start in
    let b = c.args.end.now in
    let one = c.args.one.now in
    let two = c.args.two.now in
    let n = c.in-Some.new in
    let had : c.in-Some-get_mut.all.now.items ≡ all = ap (λ (v : Vec ℕ Global). v.items) c.in-Some-get_mut.ensures.value in
    let cut : c.truncate.new.self.items ≡ take b all = c.truncate.ensures.items ∙ ap (λ l. take b l) had in
    let first : c.extend_from_slice.new.self.items ≡ take b all ++ one = subst (λ r. c.extend_from_slice.new.self.items ≡ (if is_ok r then c.truncate.new.self.items ++ one else c.truncate.new.self.items)) c.in-Ok-extend_from_slice.is c.extend_from_slice.ensures.items ∙ ap (λ l. l ++ one) cut in
    let second : c.extend_from_slice-2.new.self.items ≡ (take b all ++ one) ++ two = subst (λ r. c.extend_from_slice-2.new.self.items ≡ (if is_ok r then c.extend_from_slice.new.self.items ++ two else c.extend_from_slice.new.self.items)) c.in-Ok-extend_from_slice-2.is c.extend_from_slice-2.ensures.items ∙ ap (λ l. l ++ two) first in
    let is : n ≡ b + (length one + length two) = omega (arith, c.in-Some.ensures, c.in-Ok.ensures) in
    ap (λ l. slice_range l a n) second ∙ part_extended all one two a b n c.requires.ordered c.requires.within is
