use Rattle.std.proofs.Common.{Global, ℕ, ◌≡◌, ◌≤◌, ◌+◌, length, arith, ap, sym, ◌∙◌}
use Rattle.std.specs.declared.vec.Vec.{Vec}
use Rattle.std.specs.List.{slice_range}
use Rattle.strings.proofs.Lists.{slice_range-slice_range, length-slice_range-le}
use Rattle.strings.specs.Shared.{bytes_of}
use Rattle.strings.proofs.text.Text.sub.Goals as goal

pub returns-clause-ok : goal.returns-clause-ok
returns-clause-ok c =
    let i = c.in-Shared in
    let all = i.shared.value.items in
    let seen : slice_range all i.start i.end ≡ c.args.self.now = ap bytes_of (sym i.is) ∙ c.self.view_is in
    let long = length-slice_range-le all i.start i.end in
    let at_end : i.start + c.args.to ≤ i.end = omega (arith, ap length seen) in
    ap (λ (v : Vec ℕ Global). slice_range v.items (i.start + c.args.from) (i.start + c.args.to)) c.in_ok-shared-in-Shared.ensures.cases
    ∙ slice_range-slice_range all i.start i.end c.args.from c.args.to c.requires.ordered at_end
    ∙ ap (λ ys. slice_range ys c.args.from c.args.to) seen
