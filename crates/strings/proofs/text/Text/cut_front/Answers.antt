use Rattle.std.proofs.Common.{◌≡◌, ◌≤◌, ◌-◌, ap, arith, drop, length, slice_range, sym, ◌∙◌}
use Rattle.strings.specs.Shared.{bytes_of}
use Rattle.strings.proofs.Lists.{length-slice_range-le, part_without}
use Rattle.strings.proofs.text.Text.cut_front.Goals as goal

pub returns-in-Shared : goal.returns-in-Shared
returns-in-Shared c =
    let i = c.in-Shared in
    let all = i.shared.value.items in
    let n = c.args.count in
    let seen : slice_range all i.start i.end ≡ c.args.self.now = ap bytes_of (sym i.is) ∙ c.self.view_is in
    let long = length-slice_range-le all i.start i.end in
    let within : n ≤ i.end - i.start = omega (arith, long, ap length seen, c.requires.within) in
    part_without all i.start i.end n within ∙ ap (λ l. drop n l) seen
