-- DEFINE, whose arguments are good.
use Rattle.std.proofs.Common.{◌≡◌, [], Option, Some, None, ap, sym, ◌∙◌}
use Rattle.std.specs.Prelude.{option_map}
use Rattle.model.specs.Deck.Trees.{Bytes}
use Rattle.model.specs.Language.Values.{Str}
use Rattle.model.specs.Language.Calls.{AValue}
use Rattle.model.specs.Language.Conversions.{Got, Gives, conv, to_text}
use Rattle.model.specs.Language.Primitives.{Returns, define_op, returned, to_entry_label}
use Rattle.model.specs.Language.Prototypes.{FunctionPrototype, function_prototype}
use Rattle.model.specs.Machine.Steps.{MVal, MW}
use Rattle.prototypes.specs.Views.{FunctionView, prototype_of, without_slots}
use Rattle.primitives.specs.Calling.{define_row}

-- a prototype as it was read
pub as_read : (o : Option FunctionPrototype) (f : FunctionView) → option_map without_slots o ≡ Some f → (o ≡ Some (prototype_of f)) × (f.slots ≡ [])
as_read None f is = absurd (cc)
as_read (Some p) f is =
    let same : without_slots p ≡ f = cc in
    (ap (λ (g : FunctionView). Some (prototype_of g)) same, sym (ap (λ (g : FunctionView). g.slots) same))

pub defined : (a b null : MVal) (s : Bytes) (l : Option Bytes) (f : FunctionView) (w w1 : MW) → to_text a ≡ Got s → to_entry_label b ≡ Got l → function_prototype w.plain.level s ≡ Some (prototype_of f)
    → define_op l (Some (prototype_of f)) w ≡ Gives (Str []) w1 → Str [] ≡ null → returned (define_row a b w) ≡ Gives (Returns (AValue null)) w1
defined a b null s l f w w1 text label prototype made is =
    ap (λ c. returned (conv c w (λ t. conv (to_entry_label b) w (λ k. define_op k (function_prototype w.plain.level t) w)))) text
    ∙ ap (λ c. returned (conv c w (λ k. define_op k (function_prototype w.plain.level s) w))) label
    ∙ ap (λ p. returned (define_op l p w)) prototype
    ∙ ap returned made
    ∙ ap (λ v. Gives (Returns (AValue v)) w1) is
