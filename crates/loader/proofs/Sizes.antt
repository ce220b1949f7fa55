-- How many bytes the tables have.
use Rattle.std.proofs.Common.{◌≡◌, ℕ, zero, suc, ◌+◌, ◌*◌, ◌^◌, ◌<◌, ◌≤◌, List, [], ◌∷◌, ◌++◌, length, map, take, get_or, arith, Bor, subst, refl}
use Rattle.std.specs.List.{sum}
use Rattle.std.proofs.lemmas.List.Sums.{sum_by-cons}
use Rattle.model.specs.declared.format.Version.{Version}
use Rattle.model.specs.declared.format.Version.TheVariants as versions
use Rattle.model.specs.declared.image.Image.{Image}
use Rattle.model.specs.declared.image.PatInstr.{PatInstr}
use Rattle.model.specs.declared.image.PatInstr.TheVariants as pats
use Rattle.model.specs.Module.Spelling.{Follow, IsTable, IsImage, StringFits, PatternFits, most, most_code}
use Rattle.model.specs.Module.WellFormed.{string_bytes, pat_bytes, pattern_bytes, cards_bytes, entry_offset, labels_offset, statements_offset, expressions_offset, patterns_offset, code_offset}

sum_cons : (n : ℕ) (ns : List ℕ) → sum (n ∷ ns) ≡ n + sum ns
sum_cons n ns = sum_by-cons (λ x. x) n ns

module _ {A : Type 0} (f : A → ℕ) where
  pub next : (xs : List A) (k : ℕ) (d : A) → k < length xs → sum (map f (take (suc k) xs)) ≡ sum (map f (take k xs)) + f (get_or xs k d)
  next [] k d lt = absurd (omega arith)
  next (x ∷ xs) zero d lt = omega (arith, sum_cons (f x) [])
  next (x ∷ xs) (suc k) d lt = omega (arith, sum_cons (f x) (map f (take (suc k) xs)), sum_cons (f x) (map f (take k xs)), next xs k d (omega arith))

  pub taken : (xs : List A) (k : ℕ) → sum (map f (take k xs)) ≤ sum (map f xs)
  taken [] zero = omega arith
  taken [] (suc k) = omega arith
  taken (x ∷ xs) zero = omega arith
  taken (x ∷ xs) (suc k) = omega (arith, sum_cons (f x) (map f (take k xs)), sum_cons (f x) (map f xs), taken xs k)

  bounded : (b : ℕ) (Fits : List A → A → Type 0) → ((front : List A) (x : A) → Fits front x → f x ≤ b) → (front xs : List A) → Follow Fits front xs → sum (map f xs) ≤ length xs * b
  bounded b Fits small front [] h = omega arith
  bounded b Fits small front (x ∷ xs) h = omega (arith, sum_cons (f x) (map f xs), small front x h.0, bounded b Fits small (front ++ x ∷ []) xs h.1)

-- ---- strings

pub strings_short : (ss : List (List ℕ)) → IsTable StringFits ss → sum (map string_bytes ss) ≤ 2 ^ 57
strings_short ss is = omega (arith, is.count, bounded string_bytes (2 ^ 32 + 4) StringFits (λ front s f. omega (arith, f.0)) [] ss is.entries)

-- ---- patterns

pub pat_short : (i : PatInstr) → pat_bytes i ≤ 9
pat_short (pats.Len n) = omega arith
pat_short (pats.Pos n) = omega arith
pat_short (pats.RPos n) = omega arith
pat_short (pats.Tab n) = omega arith
pat_short (pats.RTab n) = omega arith
pat_short _ = omega arith

pub pattern_sum : (is : List PatInstr) → sum (map pat_bytes is) ≤ length is * 9
pattern_sum [] = omega arith
pattern_sum (i ∷ is) = omega (arith, sum_cons (pat_bytes i) (map pat_bytes is), pat_short i, pattern_sum is)

pub pattern_count : (front ps : List (List PatInstr)) (k : ℕ) (d : List PatInstr) → Follow PatternFits front ps → k < length ps → length (get_or ps k d) ≤ most
pattern_count front [] k d h lt = absurd (omega arith)
pattern_count front (p ∷ ps) zero d h lt = h.0.count
pattern_count front (p ∷ ps) (suc k) d h lt = pattern_count (front ++ p ∷ []) ps k d h.1 (omega arith)

pub patterns_short : (ps : List (List PatInstr)) → IsTable PatternFits ps → sum (map pattern_bytes ps) ≤ 2 ^ 57
patterns_short ps is = omega (arith, is.count, bounded pattern_bytes 150994948 PatternFits (λ front p f. omega (arith, f.count, pattern_sum p)) [] ps is.entries)

-- ---- whole images

-- where the parts stand in a version of the format, far from the greatest number
pub record AreShort (v : Version) (im : Image) : Type 0 where
  pub cards : cards_bytes v im ≤ 4 * length im.statements
  pub labels : labels_offset v im + 8 * length im.labels < 2 ^ 60
  pub statements : statements_offset v im + 4 * length im.statements < 2 ^ 60
  pub expressions : expressions_offset v im + 4 * length im.expressions < 2 ^ 60
  pub patterns : patterns_offset v im + sum (map pattern_bytes im.patterns) < 2 ^ 60
  pub code : code_offset v im + most_code < 2 ^ 60

entry_short : (v : Version) → entry_offset v ≤ 8
entry_short versions.One = omega arith
entry_short versions.Two = omega arith

cards_short : (v : Version) (im : Image) → cards_bytes v im ≤ 4 * length im.statements
cards_short versions.One im = omega arith
cards_short versions.Two im = omega arith

pub places_short : (v : Version) (im : Image) → IsImage im → AreShort v im
places_short v im is =
    let e = entry_short v in
    let cs = cards_short v im in
    let ss = strings_short im.strings is.strings in
    let ps = patterns_short im.patterns is.patterns in
    record {
      cards = cs;
      labels = omega (arith, e, ss, is.labels.count);
      statements = omega (arith, e, ss, is.labels.count, is.statements.count);
      expressions = omega (arith, e, ss, cs, is.labels.count, is.statements.count, is.expressions.count);
      patterns = omega (arith, e, ss, cs, ps, is.labels.count, is.statements.count, is.expressions.count);
      code = omega (arith, e, ss, cs, ps, is.labels.count, is.statements.count, is.expressions.count);
    }

-- a string at a place, of the slices that hold the strings
pub string_here : (bs : List (Bor (List ℕ))) (ss : List (List ℕ)) (k : ℕ) (d : Bor (List ℕ)) → map (λ b. b.now) bs ≡ ss → k < length bs → (k < length ss) × (get_or ss k d.now ≡ (get_or bs k d).now)
string_here bs ss k d e lt = subst (λ (xs : List (List ℕ)). (k < length xs) × (get_or xs k d.now ≡ (get_or bs k d).now)) e (here bs k lt)
  where
    here : (bs : List (Bor (List ℕ))) (k : ℕ) → k < length bs → (k < length (map (λ b. b.now) bs)) × (get_or (map (λ b. b.now) bs) k d.now ≡ (get_or bs k d).now)
    here [] k lt = absurd (omega (arith, lt))
    here (b ∷ bs) zero lt = (omega arith, refl)
    here (b ∷ bs) (suc k) lt = let h = here bs k (omega (arith, lt)) in (omega (arith, h.0), h.1)
