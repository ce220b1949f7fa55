use Rattle.std.proofs.Common.{◌+◌, subst, arith}
use Rattle.model.specs.Pattern.Steps.{Code}
use Rattle.prefilter.specs.Looks.{LeadsFromFront}
use Rattle.prefilter.proofs.Filters.{fits_within, part_fails, starts_passed}
use Rattle.prefilter.proofs.prefilter.pass_part.Goals as goal

pub returns : goal.returns
returns c =
    let u = c.args.bytes.now in
    let code = c.args.code.now in
    let q = c.front-place.result.0 in
    let n = c.front-place.result.1 in
    let k = c.idle_from-starts.result in
    let fewer = c.idle_from-starts.ensures.limit in
    let front : LeadsFromFront code q n = subst (λ (x : Code). LeadsFromFront x q n) c.as_slice.ensures c.front-place.ensures.leads in
    starts_passed u code c.args.start c.args.left c.args.bound k (1 + n) (n + 2) (omega arith) (omega (arith, fewer, c.min-limit.ensures))
    (fits_within k c.args.left c.args.bound (n + 2) (omega (arith, fewer, c.min-limit.ensures)) (omega arith))
    (part_fails u code q n c.args.start k front c.idle_from-starts.ensures.idle)
