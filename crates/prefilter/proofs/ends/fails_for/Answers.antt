use Rattle.std.proofs.Common.{arith}
use Rattle.prefilter.proofs.Misses.{fails_break, fails_pos, fails_rpos}
use Rattle.prefilter.proofs.ManyStarts.{fails_any, fails_not_any, fails_span}
use Rattle.prefilter.proofs.ends.fails_for.Goals as goal

pub returns-in-Any-clause-fails : goal.returns-in-Any-clause-fails
returns-in-Any-clause-fails c = rw c.in-Any.is (fails_any c.args.subject.now _ c.args.from _ c.break_len.result c.break_len.ensures.value)

pub returns-in-NotAny-clause-fails : goal.returns-in-NotAny-clause-fails
returns-in-NotAny-clause-fails c =
    rw c.in-NotAny.is (fails_not_any c.args.subject.now _ c.args.from _ c.span_len.result c.span_len.ensures.value)

pub returns-in-Span-clause-fails : goal.returns-in-Span-clause-fails
returns-in-Span-clause-fails c =
    rw c.in-Span.is (fails_span c.args.subject.now _ c.args.from _ c.break_len-in-Span.result c.break_len-in-Span.ensures.value)

pub returns-in-Pos-clause-fails : goal.returns-in-Pos-clause-fails
returns-in-Pos-clause-fails c =
    rw c.in-Pos.is (λ k l m. fails_pos c.args.subject.now c.in-Pos.n k (λ is. absurd (omega (arith, l, m, is, c.requires, c.min.ensures))))

pub returns-in-RPos-clause-fails : goal.returns-in-RPos-clause-fails
returns-in-RPos-clause-fails c =
    rw c.in-RPos.is (λ k l m. fails_rpos c.args.subject.now c.in-RPos.n k (λ is. absurd (omega (arith, l, m, is, c.requires, c.min-in-RPos.ensures))))

pub returns-in-Break-clause-fails : goal.returns-in-Break-clause-fails
returns-in-Break-clause-fails c =
    rw c.in-Break.is
    (fails_break c.args.subject.now _ c.args.from c.args.limit c.break_len-then-from-gt0.result c.requires c.break_len-then-from-gt0.ensures.value
    (omega (arith, c.if-from-break_len.true)))
