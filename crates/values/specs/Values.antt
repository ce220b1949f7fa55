-- Values at run time, as the definitions see them.
use Rattle.std.specs.Prelude.{length, Bool, true, false, if◌then◌else◌}
use Rattle.model.specs.Language.Operators as o
use Rattle.model.specs.Language.Values.{Str, Int, Pat, Nam, Exp, Obj, Key, IntegerAt, StringAt}
use Rattle.model.specs.Machine.Steps.{MVal, PCode}
use Rattle.pattern_compiler.specs.View.{name_of}
use Rattle.values.specs.declared.value.Value.{Value}
use Rattle.values.specs.declared.matched.Begun.{Begun}
use Rattle.values.specs.declared.value.Value.TheVariants as v

abbrev pub value_of : Value → MVal
value_of (v.String s) = Str s
value_of (v.Integer z) = Int z
value_of (v.Pattern c) = Pat c
value_of (v.Name n) = Nam (name_of n)
value_of (v.Expression e) = Exp e
value_of (v.Object k) = Obj k

-- the value that a key is
abbrev pub held_key : Key → Value
held_key (IntegerAt z) = v.Integer z
held_key (StringAt s) = v.String s

-- a match that is anchored has no start to come after the first
abbrev pub begun_of : Begun → o.Begun PCode
begun_of b = record { subject = b.subject; pattern = b.pattern; left = if b.anchored then 0 else length b.subject }

-- whether it converts to a string
abbrev pub has_text : MVal → Bool
has_text (Str s) = true
has_text (Int z) = true
has_text _ = false
