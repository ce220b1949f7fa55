use Rattle.std.proofs.Common.{◌≡◌, ◌⊎◌, inl, inr, false}
use Rattle.model.specs.Language.Conversions.{is_null}
use Rattle.values.specs.Values.{has_text, value_of}
use Rattle.operations.proofs.Joined.{patterns_joined}
use Rattle.operations.proofs.operators.cat.Goals as goal
use Rattle.operations.proofs.operators.cat.Goals.{else-has_text-via-then-has_text+else-has_text-2, else-has_text-via-else-has_text}

pub returns-clause-value : goal.returns-clause-value
returns-clause-value c io =
    let some_first : is_null (value_of c.args.left) ≡ false = cc (c.if-is_null.ensures) in
    let some_second : is_null (value_of c.args.right) ≡ false = cc (c.if-is_null-2.ensures) in
    let none : (has_text (value_of c.args.left) ≡ false) ⊎ (has_text (value_of c.args.right) ≡ false) =
    elim c.else-has_text.branch [
      | else-has_text-via-then-has_text+else-has_text-2 w ↦ inr (cc)
      | else-has_text-via-else-has_text w ↦ inl (cc)
    ] in
    patterns_joined (value_of c.args.left) (value_of c.args.right) c.in_ok-first.first c.in_ok-second.second c.in_ok-cat.field-0 _ some_first some_second none
    c.in_ok-first.ensures.pattern c.in_ok-second.ensures.pattern c.in_ok-cat.ensures.code
