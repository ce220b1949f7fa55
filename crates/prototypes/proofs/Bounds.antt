-- Dimensions that are read one after another, and the integers in them.
use Rattle.std.proofs.Common.{◌≡◌, ℤ, false, length, List, [], ◌∷◌, ◌++◌, Option, Some, None, append_assoc, refl, sym, ap, ◌∙◌}
use Rattle.std.specs.Prelude.{◌==◌, SomeIff, option_map}
use Rattle.std.specs.Str.Parse.{signed_digits_value}
use Rattle.model.specs.Deck.Trees.{Bytes}
use Rattle.model.specs.Language.Values.{Bounds}
use Rattle.model.specs.Language.Prototypes.{cut_at, split_at, all_bounds, bounds_of, with_bounds, as_some, written_integer}
use Rattle.model.specs.Language.Strings.{IsIntText}
use Rattle.model.proofs.Language.Integers.{reads_integers, refuses_other_texts}
use Rattle.prototypes.proofs.Cuts.{split_turn, split_last}

-- dimensions, with others before them
abbrev pub behind : List Bounds → Option (List Bounds) → Option (List Bounds)
behind bs o = option_map (λ cs. bs ++ cs) o

pub behind_none : (o : Option (List Bounds)) → behind [] o ≡ o
behind_none None = refl
behind_none (Some cs) = refl

one_more : (bs : List Bounds) (b : Bounds) (o : Option (List Bounds)) → behind bs (with_bounds (Some b) o) ≡ behind (bs ++ b ∷ []) o
one_more bs b None = refl
one_more bs b (Some cs) = ap Some (sym (append_assoc bs (b ∷ []) cs))

module _ (all : List Bounds) (text : Bytes) where
  module _ (part after : Bytes) (cut : cut_at 44 text ≡ Some (record { before = part; after = after })) where
    parts_are : all_bounds (split_at 44 text) ≡ with_bounds (bounds_of part) (all_bounds (split_at 44 after))
    parts_are = ap all_bounds (split_turn 44 text part after cut)

    pub first_read : (b : Bounds) → Some b ≡ bounds_of part → behind (all ++ b ∷ []) (all_bounds (split_at 44 after)) ≡ behind all (all_bounds (split_at 44 text))
    first_read b is = sym (ap (behind all) parts_are ∙ ap (λ o. behind all (with_bounds o (all_bounds (split_at 44 after)))) (sym is) ∙ one_more all b (all_bounds (split_at 44 after)))

    pub first_refused : None ≡ bounds_of part → behind all (all_bounds (split_at 44 text)) ≡ None
    first_refused is = ap (behind all) parts_are ∙ ap (λ o. behind all (with_bounds o (all_bounds (split_at 44 after)))) (sym is)

  module _ (cut : cut_at 44 text ≡ None) where
    part_is : all_bounds (split_at 44 text) ≡ with_bounds (bounds_of text) (Some [])
    part_is = ap all_bounds (split_last 44 text cut)

    pub last_read : (b : Bounds) → Some b ≡ bounds_of text → behind all (all_bounds (split_at 44 text)) ≡ Some (all ++ b ∷ [])
    last_read b is = ap (behind all) part_is ∙ ap (λ o. behind all (with_bounds o (Some []))) (sym is)

    pub last_refused : None ≡ bounds_of text → behind all (all_bounds (split_at 44 text)) ≡ None
    last_refused is = ap (behind all) part_is ∙ ap (λ o. behind all (with_bounds o (Some []))) (sym is)

-- ---- integers

pub is_written : (bs : Bytes) (r : Option ℤ) → false ≡ (length bs == 0) → SomeIff r (IsIntText bs) (signed_digits_value 10 bs) → r ≡ written_integer bs
is_written [] r long read = absurd (cc)
is_written (b ∷ bs) (Some n) long (is, same) = ap Some same ∙ ap as_some (sym (reads_integers b bs is))
is_written (b ∷ bs) None long other = ap as_some (sym (refuses_other_texts b bs other))
