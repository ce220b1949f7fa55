use Rattle.std.proofs.Common.{◌∙◌, ◌-◌, sym, ap, cond, reverse, length, arith, refl}
use Rattle.std.proofs.lemmas.Bool.{lt-ltb, le-ltb, ltb-false}
use Rattle.std.proofs.lemmas.Option.{slice_get_read}
use Rattle.backtrack.specs.Logs.{chain}
use Rattle.backtrack.proofs.Chains.{chain_head, chain_no_head, chain_zero}
use Rattle.backtrack.proofs.trail.newest.Goals as goal
use Rattle.backtrack.proofs.trail.newest.Goals.{then-entry-head, else-entry-head}

pub returns-clause-some : goal.returns-clause-some
returns-clause-some c =
    let log = c.args.log.now in
    let x = c.in_ok-entry.entry.now in
    let found = c.in_ok-entry.ensures.lookup in
    chain_head log c.args.head c.if-entry-head.below x (omega (arith, c.if-head-eq0.false)) (slice_get_read log (length log) (c.args.head - 1) x refl found.3.0 found.1)
    (elim c.if-entry-head.branch [
      | then-entry-head w ↦ w.below-is ∙ ap (λ t. cond t x.below 0) (sym (lt-ltb x.below c.args.head w.if-entry-head.true))
      | else-entry-head w ↦ w.below-is ∙ ap (λ t. cond t x.below 0) (sym (le-ltb x.below c.args.head w.if-entry-head.false))
    ])

pub returns-in_err-entry-clause-none : goal.returns-in_err-entry-clause-none
returns-in_err-entry-clause-none c = λ _.
    chain_no_head c.args.log.now c.args.head (omega (arith, c.if-head-eq0.false)) (ltb-false (c.args.head - 1) (length c.args.log.now) (sym c.in_err-entry.ensures.lookup.0))

pub returns-then-head-eq0-clause-none : goal.returns-then-head-eq0-clause-none
returns-then-head-eq0-clause-none c = λ _. ap (chain (reverse c.args.log.now)) c.if-head-eq0.true ∙ chain_zero (reverse c.args.log.now)
