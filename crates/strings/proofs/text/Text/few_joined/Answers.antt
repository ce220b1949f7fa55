use Rattle.strings.proofs.Lists.{joined_in_front}
use Rattle.strings.proofs.text.Text.few_joined.Goals as goal

pub returns : goal.returns
returns c = rw (c.copy_from_slice.ensures.after) (joined_in_front c.len-front.result c.args.left.now c.args.right.now c.few_bytes-array.result _ c.len-front.ensures c.few_bytes-array.ensures.bytes)
