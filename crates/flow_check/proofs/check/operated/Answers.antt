use Rattle.std.proofs.Common.{◌≡◌, ℕ, Bool, Option, Some, None, refl}
use Rattle.std.specs.Prelude.{is_some}
use Rattle.flow_check.specs.declared.marks.Mark.{Mark}
use Rattle.flow_check.specs.declared.shapes.Shape.{Shape}
use Rattle.flow_check.specs.Marks.{Goes}
use Rattle.flow_check.specs.Shapes.{led_by}
use Rattle.flow_check.proofs.check.operated.Goals as goal

goes : (next : Option Shape) (fine : Bool) (m : ℕ → Option Mark) (at : ℕ) → fine ≡ is_some next → Goes (led_by next) m m next at fine
goes None fine m at e = e
goes (Some a) fine m at e = (e, refl, λ y. refl)

pub returns : goal.returns
returns c = (c.in_ok-next.ensures.grows, led_by c.in_ok-next.next, c.in_ok-next.ensures.advanced, goes _ _ _ _ c.is_some-fine.ensures)
