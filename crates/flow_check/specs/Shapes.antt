-- Shapes by the numbers of their stacks.
use Rattle.std.specs.Prelude.{◌≡◌, ℕ, List, [], ◌∷◌, ◌++◌, length, map, Option, Some, None, Bool, true, false, ◌&&◌, ◌==◌, ◌<◌, ◌≤◌}
use Rattle.model.specs.Machine.Steps.{Handler, OnBegin, OnTry}
use Rattle.model.specs.Module.Flow as flow
use Rattle.flow_check.specs.declared.pool.Kind.{Kind}
use Rattle.flow_check.specs.declared.pool.Kind.TheVariants.{Value, Name, Span}
use Rattle.flow_check.specs.declared.pool.Top.{Top}
use Rattle.flow_check.specs.declared.pool.Top.TheVariants.{Begin, Try}
use Rattle.flow_check.specs.declared.pool.Node.{Node}
use Rattle.flow_check.specs.declared.shapes.Mode.{Mode}
use Rattle.flow_check.specs.declared.shapes.Mode.TheVariants.{Body, Goto, Evaluation}
use Rattle.flow_check.specs.declared.shapes.Shape.{Shape}
use Rattle.flow_check.specs.declared.shapes.Led.{Led}
use Rattle.flow_check.specs.declared.rules.Rule.{Rule}
pub use Rattle.flow_check.specs.Rules.{kind_of}
use Rattle.flow_check.specs.Rules.{Asked, next_of, target_of}
use Rattle.flow_check.specs.Numbers.{Is, onto}

abbrev pub to_kind : flow.OperandKind → Kind
to_kind flow.V = Value
to_kind flow.N = Name
to_kind flow.R = Span

abbrev pub mode_of : Mode → flow.Mode
mode_of Body = flow.InBody
mode_of Goto = flow.InGoto
mode_of Evaluation = flow.InEvaluation

abbrev pub top_of : Handler → Top
top_of (OnBegin t) = Begin t
top_of (OnTry t depth) = Try t depth

-- ---- operands as runs of a kind

abbrev pub runs : List flow.OperandKind → List Top
runs [] = []
runs (k ∷ ks) = onto (to_kind k) (runs ks)

-- ---- shapes

-- these are the numbers of the shape
pub record IsShape (ns : List Node) (a : Shape) (s : flow.Shape) : Type 0 where
  pub mode : mode_of a.mode ≡ s.mode
  pub kinds : Is ns a.kinds (runs s.kinds)
  pub depth : a.depth ≡ length s.kinds
  pub handlers : Is ns a.handlers (map top_of s.handlers)
  pub floor : a.floor ≡ flow.floor_of s.handlers

abbrev pub same_mode : Mode → Mode → Bool
same_mode Body Body = true
same_mode Goto Goto = true
same_mode Evaluation Evaluation = true
same_mode _ _ = false

-- whether they are the numbers of one shape
abbrev pub same_shape : Shape → Shape → Bool
same_shape a b = same_mode a.mode b.mode && ((a.kinds == b.kinds) && (a.handlers == b.handlers))

-- ---- what an instruction takes and leads to

-- whether the newest operands were these, and the number of those below them
abbrev pub IsTaken : List Node → Option ℕ → List flow.OperandKind → List flow.OperandKind → Type 0
IsTaken ns None ts ks = (below : List flow.OperandKind) → ks ≡ ts ++ below → ⊥
IsTaken ns (Some k) ts ks = (below : List flow.OperandKind) × (ks ≡ ts ++ below) × Is ns k (runs below)

abbrev pub IsNext : List Node → Option Shape → Option flow.Shape → Type 0
IsNext ns None None = Unit {0}
IsNext ns (Some a) (Some s) = IsShape ns a s
IsNext ns _ _ = ⊥

-- where an operation leads
abbrev pub led_by : Option Shape → Option Led
led_by None = None
led_by (Some a) = Some (record { next = Some a; target = None })

-- whether the handler keeps no more than these operands, and these with others on them
abbrev pub IsPut : List Node → Option Led → Mode → List flow.OperandKind → List flow.OperandKind → List Handler → Type 0
IsPut ns None m us ks hs = length ks < flow.floor_of hs
IsPut ns (Some led) m us ks hs = (flow.floor_of hs ≤ length ks) × IsNext ns led.next (Some (flow.shape (mode_of m) (us ++ ks) hs)) × (led.target ≡ None)

abbrev pub IsTarget : List Node → Option (ℕ × Shape) → Option (ℕ × flow.Shape) → Type 0
IsTarget ns None None = Unit {0}
IsTarget ns (Some a) (Some s) = (a.0 ≡ s.0) × IsShape ns a.1 s.1
IsTarget ns _ _ = ⊥

-- whether what a rule asks is there, and where it leads
abbrev pub Advances : List Node → Option Led → Rule → flow.Shape → Type 0
Advances ns None r s = Asked r s → ⊥
Advances ns (Some led) r s = Asked r s × IsNext ns led.next (next_of r s) × IsTarget ns led.target (target_of r s)

-- in a mode, with nothing
abbrev pub empty_shape : Mode → Shape
empty_shape m = record { mode = m; kinds = 0; depth = 0; handlers = 0; floor = 0 }
