-- The strings read so far, as a set of slices holds them.
use Rattle.std.proofs.Common.{◌≡◌, ℕ, Bool, true, false, not, List, [], ◌∷◌, ◌++◌, map, Ok, Err, length, refl, sym, ap, ◌∙◌, Bor}
use Rattle.std.specs.Prelude.{◌==◌, if◌then◌else◌}
use Rattle.std.specs.List.{list_any}
use Rattle.std.specs.Cmp.Lexicographic.{pointwise}
use Rattle.std.proofs.lemmas.List.{map-append}
use Rattle.model.specs.declared.format.Miss.{Miss}
use Rattle.model.specs.declared.format.FormatRule.TheVariants.{BadTable}
use Rattle.model.specs.Module.Spelling.{is_new}
use Rattle.model.specs.Module.Reading.{text_at, string_at}

abbrev pub texts : List (Bor (List ℕ)) → List (List ℕ)
texts keys = map (λ k. k.now) keys

abbrev pub is_text : List ℕ → Bor (List ℕ) → Bool
is_text s k = pointwise ◌==◌ s k.now

among_texts : (s : List ℕ) (keys : List (Bor (List ℕ))) → list_any (is_text s) keys ≡ list_any (pointwise ◌==◌ s) (texts keys)
among_texts s [] = refl
among_texts s (k ∷ keys) = rw (among_texts s keys) refl

pub is_new_text : (s : List ℕ) (keys : List (Bor (List ℕ))) (items : List (List ℕ)) (added : Bool) → texts keys ≡ items → added ≡ not (list_any (is_text s) keys) → added ≡ is_new items s
is_new_text s keys items added same e = e ∙ ap not (among_texts s keys) ∙ ap (λ (xs : List (List ℕ)). is_new xs s) same

none_of : (b : Bool) → not b ≡ true → b ≡ false
none_of false e = refl
none_of true e = absurd cc

-- the keys after an insertion
pub with_text : (s : Bor (List ℕ)) (keys after : List (Bor (List ℕ))) (items : List (List ℕ)) (added : Bool) → texts keys ≡ items → added ≡ not (list_any (is_text s.now) keys) → after ≡ (if list_any (is_text s.now) keys then keys else keys ++ s ∷ []) → added ≡ true → texts after ≡ items ++ s.now ∷ []
with_text s keys after items added same e is new =
    let none : list_any (is_text s.now) keys ≡ false = none_of _ (sym e ∙ new) in
    let last : after ≡ keys ++ s ∷ [] = is ∙ rw none refl in
    ap texts last ∙ map-append (λ (k : Bor (List ℕ)). k.now) keys (s ∷ []) ∙ ap (λ (xs : List (List ℕ)). xs ++ s.now ∷ []) same

-- what an entry is read as
pub text_cut : (front : List (List ℕ)) (bytes : List ℕ) (miss : Miss) → text_at bytes ≡ Err miss → string_at front bytes ≡ Err miss
unfolding string_at
text_cut front bytes miss e = rw e refl

pub text_new : (front : List (List ℕ)) (bytes : List ℕ) (x : List ℕ × List ℕ) → text_at bytes ≡ Ok x → is_new front x.0 ≡ true → string_at front bytes ≡ Ok x
unfolding string_at
text_new front bytes x e new = rw (e, new) refl

pub text_old : (front : List (List ℕ)) (bytes : List ℕ) (x : List ℕ × List ℕ) → text_at bytes ≡ Ok x → is_new front x.0 ≡ false → string_at front bytes ≡ Err (record { left = length bytes; rule = BadTable })
unfolding string_at
text_old front bytes x e old = rw (e, old) refl
