-- Patterns one after the other.
use Rattle.std.proofs.Common.{◌≡◌, ◌∙◌, ◌⊎◌, inl, inr, ap, sym, refl, false, None}
use Rattle.std.specs.Prelude.{if◌then◌else◌}
use Rattle.model.specs.declared.run.ErrorCode.TheVariants as error
use Rattle.model.specs.Deck.Trees.{Bytes}
use Rattle.model.specs.Language.Conversions.{Conv, Got, Bad, Gives, conv, is_null, to_pattern, to_text}
use Rattle.model.specs.Language.Operators.{cat_op, join_rest, text_joined}
use Rattle.model.specs.Language.Values.{Str, Int, Pat, Nam, Exp, Obj}
use Rattle.model.specs.Machine.Steps.{MVal, MW, PCode, codes_of}
use Rattle.model.specs.Pattern.Code.{cat_code}
use Rattle.values.specs.Values.{has_text}

no_text : (v : MVal) → has_text v ≡ false → to_text v ≡ Bad error.WrongType
no_text (Str s) h = absurd cc
no_text (Int z) h = absurd cc
no_text (Pat p) h = refl
no_text (Nam x) h = refl
no_text (Exp e) h = refl
no_text (Obj k) h = refl

second_has_none : (t : Conv Bytes) → text_joined t (Bad error.WrongType) ≡ None
second_has_none (Got s) = refl
second_has_none (Bad e) = refl

not_joined : (a b : MVal) → (has_text a ≡ false) ⊎ (has_text b ≡ false) → text_joined (to_text a) (to_text b) ≡ None
not_joined a b (inl h) = ap (λ t. text_joined t (to_text b)) (no_text a h)
not_joined a b (inr h) = ap (text_joined (to_text a)) (no_text b h) ∙ second_has_none (to_text a)

-- two values that aren't null and haven't both a text are joined as patterns
pub patterns_joined : (a b : MVal) (p q r : PCode) (w : MW) → is_null a ≡ false → is_null b ≡ false → (has_text a ≡ false) ⊎ (has_text b ≡ false)
    → to_pattern codes_of a ≡ Got p → to_pattern codes_of b ≡ Got q → r ≡ cat_code p q → cat_op codes_of a b w ≡ Gives (Pat r) w
patterns_joined a b p q r w some_first some_second none first second is =
    ap (λ t. if t then Gives b w else (if is_null b then Gives a w else join_rest codes_of (text_joined (to_text a) (to_text b)) a b w)) some_first
    ∙ ap (λ t. if t then Gives a w else join_rest codes_of (text_joined (to_text a) (to_text b)) a b w) some_second
    ∙ ap (λ o. join_rest codes_of o a b w) (not_joined a b none)
    ∙ ap (λ c. conv c w (λ x. conv (to_pattern codes_of b) w (λ y. Gives (Pat (cat_code x y)) w))) first
    ∙ ap (λ c. conv c w (λ y. Gives (Pat (cat_code p y)) w)) second
    ∙ ap (λ c. Gives (Pat c) w) (sym is)
