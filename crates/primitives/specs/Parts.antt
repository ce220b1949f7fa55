-- The arguments of patterns' primitives.
use Rattle.model.specs.Deck.Trees.{Bytes}
use Rattle.model.specs.Language.Conversions.{Conv, Got, Op, Gives, conv, then_conv, to_text, to_pattern, set_of, answer_of}
use Rattle.model.specs.Pattern.Patterns.{Basic, Kind, want_of_kind, with_answer}
use Rattle.model.specs.Pattern.Code.{basic_code}
use Rattle.model.specs.Language.Values.{Pat}
use Rattle.model.specs.Machine.Steps.{MVal, MW, codes_of}

abbrev pub to_set : MVal → Conv Bytes
to_set v = then_conv (to_text v) set_of

-- the part that a kind is with this argument
abbrev pub part_of : Kind → MVal → Conv Basic
part_of k v = then_conv (answer_of codes_of (want_of_kind k) v) (λ y. Got (with_answer k y))

-- the pattern of a kind whose argument isn't an expression
abbrev pub known_op : Kind → MVal → MW → Op MW MVal
known_op k v w = conv (part_of k v) w (λ b. Gives (Pat (basic_code b)) w)

abbrev pub arbno_op : MVal → MW → Op MW MVal
arbno_op v w = conv (to_pattern codes_of v) w (λ q. Gives (Pat (codes_of.arbno q)) w)

abbrev pub fence_op : MVal → MW → Op MW MVal
fence_op v w = conv (to_pattern codes_of v) w (λ q. Gives (Pat (codes_of.fence_of q)) w)
