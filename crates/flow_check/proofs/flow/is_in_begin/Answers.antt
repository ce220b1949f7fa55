use Rattle.std.proofs.Common.{◌∙◌, sym}
use Rattle.flow_check.proofs.RunLaws.{zero_test}
use Rattle.flow_check.proofs.Steps.{one_begin, begin_alone}
use Rattle.flow_check.proofs.flow.is_in_begin.Goals as goal

pub returns-in-Begin : goal.returns-in-Begin
returns-in-Begin c = λ hs h.
    let d = zero_test _ in
    let at = sym c.top.ensures ∙ c.in-Some.is in (
      λ t. (_, one_begin _ _ _ at hs h _ c.in-Begin.is (d.0 t)),
      λ e. d.1 (begin_alone _ _ _ at hs h e.0 e.1),
    )
