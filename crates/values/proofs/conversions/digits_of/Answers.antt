use Rattle.std.proofs.Common.{◌-◌, get_or, arith, refl}
use Rattle.values.proofs.Integers.{digit_more}
use Rattle.values.proofs.conversions.digits_of.Goals as goal

pub loop-byte-preserved : goal.loop-byte-preserved
loop-byte-preserved c =
    let bs = c.args.text.now in
    let i = c.loop-byte.byte-index in
    let byte = get_or bs i 0 in
    let kept = c.loop-byte.invariant in
    let more = digit_more bs i c.loop-byte.n byte (byte - 48) c.loop-byte-test.true kept.0 kept.1 refl c.if-byte-lt48.false c.if-byte-gt57.false refl in
    (more.0, more.1, omega (arith, c.if-byte-lt48.false, c.if-byte-gt57.false, c.if-n-ge10000000000000000.false))
