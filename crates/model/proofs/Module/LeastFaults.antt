-- The fault that is reported is the least of all that an image has.
use Rattle.std.proofs.Common.{◌≡◌, ℕ, ◌+◌, ◌*◌, ◌≤◌, ◌<◌, List, [], ◌∷◌, ◌++◌, length, map, sum, refl, sym, ap, ◌∙◌, subst, arith, ◌⊎◌, inl, inr, Option, Some, None, Bool, true, false, append-nil, append_assoc, nat_lt, nat_eq, ◌==◌, not, ◌&&◌, ◌||◌, if◌then◌else◌}
use Rattle.std.proofs.lemmas.Bool.{cases_eq, cases_lt}
use Rattle.std.proofs.lemmas.List.Sums.{sum_by-cons}
use Rattle.std.proofs.lemmas.Bool.Decides.{nat_tests}
use Rattle.model.specs.declared.format.ModuleFault.{ModuleFault}
use Rattle.model.specs.declared.format.ModuleRule.{ModuleRule}
use Rattle.model.specs.declared.format.ModuleRule.TheVariants.{BadIndex, BadTarget, BadFlow, BadJump, NoEnd}
use Rattle.model.specs.declared.format.Version.{Version}
use Rattle.model.specs.declared.format.Version.TheVariants as versions
use Rattle.model.specs.declared.image.Image.{Image}
use Rattle.model.specs.declared.image.PatInstr.{PatInstr}
use Rattle.model.specs.declared.image.PatInstr.TheVariants as pats
use Rattle.model.specs.declared.instr.Instr.{Instr}
use Rattle.model.specs.Module.Images.{instr_size, code_size}
use Rattle.model.specs.Module.Flow.{BreaksFlow, IsLeast}
use Rattle.model.specs.Module.WellFormed.{or_else, unless, fault_if, fault_among, entry_offset, labels_offset, statements_offset, expressions_offset, patterns_offset, code_offset, entry_rule, label_rule, statement_rule, expression_rule, pat_rule, pat_bytes, pattern_bytes, pattern_fault, instr_fault, part_fault, indices_fit, place_fits, is_last_instr, is_end_instr, begins_last, number_of, comes_first, lesser_fault, flow_fault}
use Rattle.model.specs.Laws.LeastFaults.{IsAt, Among, InInstr, InPattern, Has, InEntry, InLabels, InStatements, InExpressions, InPatterns, InCode, InFlow, NotAfter, IsLeastOf, LeastIsTold, OneIsTold, WellFormedHasNone, NoneIsWellFormed}
use Rattle.model.proofs.Module.CodeBytes.{some_bytes}

abbrev Faults : Type 1
Faults = ModuleFault → Type 0

-- ---- of one part, and of two

least_at : (at : ℕ) (r : Option ModuleRule) → IsLeastOf (IsAt at r) (fault_if at r)
least_at at None = λ f h. let e : None ≡ Some f.rule = h.1 in absurd (cc)
least_at at (Some r) = (
  (refl, refl),
  (λ g h. let e : r ≡ g.rule = (let s : Some r ≡ Some g.rule = h.1 in cc) in let o = h.0 in inr (sym o, (let n : number_of r ≡ number_of g.rule = ap number_of e in omega (arith, n)))),
)

least_same : (P Q : Faults) (x : Option ModuleFault) → ((f : ModuleFault) → P f → Q f) → ((f : ModuleFault) → Q f → P f) → IsLeastOf P x → IsLeastOf Q x
least_same P Q None to from h = λ f q. h f (from f q)
least_same P Q (Some f) to from h = (to f h.0, λ g q. h.1 g (from g q))

-- each fault of the one is before each of the other
abbrev Before : Faults → Faults → Type 0
Before P Q = (f g : ModuleFault) → P f → Q g → NotAfter f g

least_join : (P Q : Faults) (x y : Option ModuleFault) → Before P Q → IsLeastOf P x → IsLeastOf Q y → IsLeastOf (λ f. P f ⊎ Q f) (or_else x y)
least_join P Q None None b h k = λ f s. elim s [ inl p ↦ h f p | inr q ↦ k f q ]
least_join P Q None (Some g) b h k = (inr k.0, λ f s. elim s [ inl p ↦ absurd (h f p) | inr q ↦ k.1 f q ])
least_join P Q (Some f) y b h k = (inl h.0, λ g s. elim s [ inl p ↦ h.1 g p | inr q ↦ b f g h.0 q ])

-- ---- of parts one behind the other

-- faults within so many bytes from a place on
abbrev Within : ℕ → ℕ → Faults → Type 0
Within at wide P = (f : ModuleFault) → P f → (at ≤ f.offset) × (f.offset < at + wide)

abbrev AtLeast : ℕ → Faults → Type 0
AtLeast at P = (f : ModuleFault) → P f → at ≤ f.offset

from_within : (at wide : ℕ) (P : Faults) → Within at wide P → AtLeast at P
from_within at wide P h f p = (h f p).0

from_either : (at : ℕ) (P Q : Faults) → AtLeast at P → AtLeast at Q → AtLeast at (λ f. P f ⊎ Q f)
from_either at P Q h k f s = elim s [ inl p ↦ h f p | inr q ↦ k f q ]

from_later : (at more : ℕ) (P : Faults) → at ≤ more → AtLeast more P → AtLeast at P
from_later at more P le h f p = let x = h f p in omega (arith, le, x)

within_before : (at wide next : ℕ) (P Q : Faults) → at + wide ≤ next → Within at wide P → AtLeast next Q → Before P Q
within_before at wide next P Q le p q f g h k = let x = p f h in let y = q g k in inl (omega (arith, le, x, y))

within_at : (at wide : ℕ) (r : Option ModuleRule) → 0 < wide → Within at wide (IsAt at r)
within_at at wide r lt f (e, h) = (omega (arith, e), omega (arith, e, lt))

module _ {A : Type 0} (fault : List A → ℕ → A → Option ModuleFault) (width : A → ℕ) (R : List A → ℕ → A → Faults) where
  sum_cons : (x : A) (xs : List A) → sum (map width (x ∷ xs)) ≡ width x + sum (map width xs)
  sum_cons x xs = sum_by-cons (λ n. n) (width x) (map width xs)

  -- behind those at the start
  abbrev From : List A → ℕ → List A → Faults
  From start at xs f = (front : List A) × (x : A) × (back : List A) × (xs ≡ front ++ x ∷ back) × R (start ++ front) (at + sum (map width front)) x f

  split : (start : List A) (at : ℕ) (x : A) (xs : List A) (f : ModuleFault) → From start at (x ∷ xs) f → R start at x f ⊎ From (start ++ x ∷ []) (at + width x) xs f
  split start at x xs f ([], y, back, e, r) =
      let same : y ≡ x = cc in
      inl (subst (λ s. R s at x f) (append-nil start) (subst (λ n. R (start ++ []) n x f) (let z : at + 0 ≡ at = omega arith in z) (subst (λ z. R (start ++ []) (at + 0) z f) same r)))
  split start at x xs f (z ∷ front, y, back, e, r) =
      let same : z ≡ x = cc in
      let rest : xs ≡ front ++ y ∷ back = cc in
      let total : sum (map width (z ∷ front)) ≡ width x + sum (map width front) = sum_cons z front ∙ ap (λ u. width u + sum (map width front)) same in
      let there : R (start ++ z ∷ front) (at + width x + sum (map width front)) y f = subst (λ n. R (start ++ z ∷ front) n y f) (let q : at + sum (map width (z ∷ front)) ≡ at + width x + sum (map width front) = omega (arith, total) in q) r in
      let here : R (start ++ x ∷ front) (at + width x + sum (map width front)) y f = subst (λ u. R (start ++ u ∷ front) (at + width x + sum (map width front)) y f) same there in
      inr (front, y, back, rest, subst (λ s. R s (at + width x + sum (map width front)) y f) (sym (append_assoc start (x ∷ []) front)) here)

  unsplit : (start : List A) (at : ℕ) (x : A) (xs : List A) (f : ModuleFault) → R start at x f ⊎ From (start ++ x ∷ []) (at + width x) xs f → From start at (x ∷ xs) f
  unsplit start at x xs f (inl r) =
      ([], x, xs, refl, subst (λ s. R s (at + 0) x f) (sym (append-nil start)) (subst (λ n. R start n x f) (let z : at ≡ at + 0 = omega arith in z) r))
  unsplit start at x xs f (inr (front, y, back, e, r)) =
      let code_size = sum_cons x front in
      let here : R (start ++ x ∷ front) (at + width x + sum (map width front)) y f = subst (λ s. R s (at + width x + sum (map width front)) y f) (append_assoc start (x ∷ []) front) r in
      (x ∷ front, y, back, ap (λ l. x ∷ l) e, subst (λ n. R (start ++ x ∷ front) n y f) (let q : at + width x + sum (map width front) ≡ at + sum (map width (x ∷ front)) = omega (arith, code_size) in q) here)

  nowhere : (start : List A) (at : ℕ) (f : ModuleFault) → From start at [] f → ⊥
  nowhere start at f ([], y, back, e, r) = cc
  nowhere start at f (z ∷ front, y, back, e, r) = cc

  module _ (one : (front : List A) (at : ℕ) (x : A) → IsLeastOf (R front at x) (fault front at x)) (wide : (front : List A) (at : ℕ) (x : A) → Within at (width x) (R front at x)) where
    within_from : (start : List A) (at : ℕ) (xs : List A) → Within at (sum (map width xs)) (From start at xs)
    within_from start at [] f h = absurd (nowhere start at f h)
    within_from start at (x ∷ xs) f h =
        let code_size = sum_cons x xs in
        elim (split start at x xs f h) [
          | inl r ↦ (let w = wide start at x f r in (omega (arith, w), omega (arith, w, code_size)))
          | inr k ↦ (let w = within_from (start ++ x ∷ []) (at + width x) xs f k in (omega (arith, w), omega (arith, w, code_size)))
        ]

    least_from : (start : List A) (at : ℕ) (xs : List A) → IsLeastOf (From start at xs) (fault_among fault width start at xs)
    least_from start at [] = nowhere start at
    least_from start at (x ∷ xs) =
        let next : ℕ = at + width x in
        let more : Faults = From (start ++ x ∷ []) next xs in
        least_same (λ f. R start at x f ⊎ more f) (From start at (x ∷ xs)) (fault_among fault width start at (x ∷ xs)) (unsplit start at x xs) (split start at x xs)
        (least_join (R start at x) more (fault start at x) (fault_among fault width (start ++ x ∷ []) next xs)
        (within_before at (width x) next (R start at x) more (omega arith) (wide start at x) (from_within next (sum (map width xs)) more (within_from (start ++ x ∷ []) next xs)))
        (one start at x) (least_from (start ++ x ∷ []) next xs))

    within_among : (at : ℕ) (xs : List A) → Within at (sum (map width xs)) (Among R width at xs)
    within_among at xs = within_from [] at xs

    least_among : (at : ℕ) (xs : List A) → IsLeastOf (Among R width at xs) (fault_among fault width [] at xs)
    least_among at xs = least_from [] at xs

sum_same : {A : Type 0} (k : ℕ) (xs : List A) → sum (map (λ x. k) xs) ≡ k * length xs
sum_same k [] = omega arith
sum_same k (x ∷ xs) = sum_by-cons (λ n. n) k (map (λ x. k) xs) ∙ ap (λ n. k + n) (sum_same k xs) ∙ grind arith

-- a table, each entry of which has one rule
module _ {A : Type 0} (k : ℕ) (some : 0 < k) (broken : List A → A → Option ModuleRule) where
  abbrev Table : ℕ → List A → Faults
  Table at xs = Among (λ front place x. IsAt place (broken front x)) (λ x. k) at xs

  within_table : (at : ℕ) (xs : List A) → Within at (k * length xs) (Table at xs)
  within_table at xs = subst (λ n. Within at n (Table at xs)) (sum_same k xs)
      (within_among (λ front place x. fault_if place (broken front x)) (λ x. k) (λ front place x. IsAt place (broken front x)) (λ front place x. least_at place (broken front x)) (λ front place x. within_at place k (broken front x) some) at xs)

  least_table : (at : ℕ) (xs : List A) → IsLeastOf (Table at xs) (fault_among (λ front place x. fault_if place (broken front x)) (λ x. k) [] at xs)
  least_table at xs =
      least_among (λ front place x. fault_if place (broken front x)) (λ x. k) (λ front place x. IsAt place (broken front x)) (λ front place x. least_at place (broken front x)) (λ front place x. within_at place k (broken front x) some) at xs

-- ---- the parts of an image

some_pat_bytes : (i : PatInstr) → 0 < pat_bytes i
some_pat_bytes (pats.Len n) = omega arith
some_pat_bytes _ = omega arith

module _ (v : Version) (im : Image) where
  rule_is : (r : ModuleRule) (b : Bool) (f : ModuleFault) → unless r b ≡ Some f.rule → r ≡ f.rule
  rule_is r true f e = absurd (cc)
  rule_is r false f e = cc

  -- the rules of an instruction stand by their numbers
  ordered : (at : ℕ) (r : ModuleRule) (b : Bool) (Q : Faults) → ((g : ModuleFault) → Q g → (g.offset ≡ at) × (number_of r ≤ number_of g.rule)) → Before (IsAt at (unless r b)) Q
  ordered at r b Q h f g p q =
      let x = p.0 in
      let y = h g q in
      let z : number_of r ≡ number_of f.rule = ap number_of (rule_is r b f p.1) in
      inr (omega (arith, x, y), omega (arith, y, z))

  number_at : (at : ℕ) (r : ModuleRule) (b : Bool) (n : ℕ) → n ≤ number_of r → (g : ModuleFault) → IsAt at (unless r b) g → (g.offset ≡ at) × (n ≤ number_of g.rule)
  number_at at r b n le g (e, h) = let z : number_of r ≡ number_of g.rule = ap number_of (rule_is r b g h) in (e, omega (arith, le, z))

  least_in_instr : (front : List Instr) (at : ℕ) (i : Instr) → IsLeastOf (InInstr im front at i) (instr_fault im front at i)
  least_in_instr front at i = told_first
    where
      a : Bool
      a = indices_fit im i

      b : Bool
      b = place_fits im (code_size front) i && (is_last_instr i || not (code_size front + instr_size i == code_size im.code))

      c : Bool
      c = is_end_instr i || not (begins_last im (code_size front))

      first_told : (r s : Option ModuleRule) → fault_if at (or_else r s) ≡ or_else (fault_if at r) (fault_if at s)
      first_told None s = refl
      first_told (Some r) s = refl

      last_two : IsLeastOf (λ f. IsAt at (unless BadTarget b) f ⊎ IsAt at (unless NoEnd c) f) (or_else (fault_if at (unless BadTarget b)) (fault_if at (unless NoEnd c)))
      last_two = least_join (IsAt at (unless BadTarget b)) (IsAt at (unless NoEnd c)) _ _ (ordered at BadTarget b _ (number_at at NoEnd c 2 (omega arith))) (least_at at (unless BadTarget b)) (least_at at (unless NoEnd c))

      all_three : IsLeastOf (InInstr im front at i) (or_else (fault_if at (unless BadIndex a)) (or_else (fault_if at (unless BadTarget b)) (fault_if at (unless NoEnd c))))
      all_three =
          least_join (IsAt at (unless BadIndex a)) (λ f. IsAt at (unless BadTarget b) f ⊎ IsAt at (unless NoEnd c) f) _ _
          (ordered at BadIndex a _ (λ g s. elim s [ inl h ↦ number_at at BadTarget b 1 (omega arith) g h | inr h ↦ number_at at NoEnd c 1 (omega arith) g h ]))
          (least_at at (unless BadIndex a)) last_two

      told_first : IsLeastOf (InInstr im front at i) (instr_fault im front at i)
      told_first = subst (IsLeastOf (InInstr im front at i)) (sym (first_told (unless BadIndex a) (or_else (unless BadTarget b) (unless NoEnd c)) ∙ ap (λ o. or_else (fault_if at (unless BadIndex a)) o) (first_told (unless BadTarget b) (unless NoEnd c)))) all_three

  within_instr : (front : List Instr) (at : ℕ) (i : Instr) → Within at (instr_size i) (InInstr im front at i)
  within_instr front at i f (inl h) = within_at at (instr_size i) _ (some_bytes i) f h
  within_instr front at i f (inr (inl h)) = within_at at (instr_size i) _ (some_bytes i) f h
  within_instr front at i f (inr (inr h)) = within_at at (instr_size i) _ (some_bytes i) f h

  least_in_pattern : (front : List (List PatInstr)) (at : ℕ) (is : List PatInstr) → IsLeastOf (InPattern im front at is) (pattern_fault im front at is)
  least_in_pattern front at is = least_among (λ before place i. fault_if place (pat_rule im (length is) before i)) pat_bytes (λ before place i. IsAt place (pat_rule im (length is) before i)) (λ before place i. least_at place (pat_rule im (length is) before i)) (λ before place i. within_at place (pat_bytes i) (pat_rule im (length is) before i) (some_pat_bytes i)) (at + 4) is

  within_pattern : (front : List (List PatInstr)) (at : ℕ) (is : List PatInstr) → Within at (pattern_bytes is) (InPattern im front at is)
  within_pattern front at is f h =
      let w = within_among (λ before place i. fault_if place (pat_rule im (length is) before i)) pat_bytes (λ before place i. IsAt place (pat_rule im (length is) before i)) (λ before place i. least_at place (pat_rule im (length is) before i)) (λ before place i. within_at place (pat_bytes i) (pat_rule im (length is) before i) (some_pat_bytes i)) (at + 4) is f h in
      (omega (arith, w), omega (arith, w))

  abbrev Labels : Faults
  Labels = Among (λ front at l. IsAt at (label_rule im front l)) (λ l. 8) (labels_offset v im) im.labels

  abbrev Statements : Faults
  Statements = Among (λ front at o. IsAt at (statement_rule im front o)) (λ o. 4) (statements_offset v im) im.statements

  abbrev Expressions : Faults
  Expressions = Among (λ front at o. IsAt at (expression_rule im front o)) (λ o. 4) (expressions_offset v im) im.expressions

  abbrev Patterns : Faults
  Patterns = Among (InPattern im) pattern_bytes (patterns_offset v im) im.patterns

  abbrev Code : Faults
  Code = Among (InInstr im) instr_size (code_offset v im) im.code

  -- each part stands before the next one
  from_code : AtLeast (code_offset v im) Code
  from_code = from_within _ _ Code (within_among (instr_fault im) instr_size (InInstr im) least_in_instr within_instr (code_offset v im) im.code)

  in_patterns : Within (patterns_offset v im) (sum (map pattern_bytes im.patterns)) Patterns
  in_patterns = within_among (pattern_fault im) pattern_bytes (InPattern im) least_in_pattern within_pattern (patterns_offset v im) im.patterns

  from_patterns : AtLeast (patterns_offset v im) (λ f. Patterns f ⊎ Code f)
  from_patterns = from_either (patterns_offset v im) Patterns Code (from_within _ _ Patterns in_patterns) (from_later (patterns_offset v im) (code_offset v im) Code (omega arith) from_code)

  in_expressions : Within (expressions_offset v im) (4 * length im.expressions) Expressions
  in_expressions = within_table 4 (omega arith) (expression_rule im) (expressions_offset v im) im.expressions

  from_expressions : AtLeast (expressions_offset v im) (λ f. Expressions f ⊎ (Patterns f ⊎ Code f))
  from_expressions = from_either (expressions_offset v im) Expressions _ (from_within _ _ Expressions in_expressions) (from_later (expressions_offset v im) (patterns_offset v im) _ (omega arith) from_patterns)

  in_statements : Within (statements_offset v im) (4 * length im.statements) Statements
  in_statements = within_table 4 (omega arith) (statement_rule im) (statements_offset v im) im.statements

  from_statements : AtLeast (statements_offset v im) (λ f. Statements f ⊎ (Expressions f ⊎ (Patterns f ⊎ Code f)))
  from_statements = from_either (statements_offset v im) Statements _ (from_within _ _ Statements in_statements) (from_later (statements_offset v im) (expressions_offset v im) _ (omega arith) from_expressions)

  in_labels : Within (labels_offset v im) (8 * length im.labels) Labels
  in_labels = within_table 8 (omega arith) (label_rule im) (labels_offset v im) im.labels

  from_labels : AtLeast (labels_offset v im) (λ f. Labels f ⊎ (Statements f ⊎ (Expressions f ⊎ (Patterns f ⊎ Code f))))
  from_labels = from_either (labels_offset v im) Labels _ (from_within _ _ Labels in_labels) (from_later (labels_offset v im) (statements_offset v im) _ (omega arith) from_statements)

  abbrev Parts : Faults
  Parts f = IsAt (entry_offset v) (entry_rule im) f ⊎ (Labels f ⊎ (Statements f ⊎ (Expressions f ⊎ (Patterns f ⊎ Code f))))

  least_parts : IsLeastOf Parts (part_fault v im)
  least_parts =
      least_join _ _ _ _ (within_before (entry_offset v) 1 (labels_offset v im) _ _ (omega arith) (within_at (entry_offset v) 1 (entry_rule im) (omega arith)) from_labels) (least_at (entry_offset v) (entry_rule im))
      (least_join _ _ _ _ (within_before (labels_offset v im) (8 * length im.labels) (statements_offset v im) _ _ (omega arith) in_labels from_statements) (least_table 8 (omega arith) (label_rule im) (labels_offset v im) im.labels)
      (least_join _ _ _ _ (within_before (statements_offset v im) (4 * length im.statements) (expressions_offset v im) _ _ (omega arith) in_statements from_expressions) (least_table 4 (omega arith) (statement_rule im) (statements_offset v im) im.statements)
      (least_join _ _ _ _ (within_before (expressions_offset v im) (4 * length im.expressions) (patterns_offset v im) _ _ (omega arith) in_expressions from_patterns) (least_table 4 (omega arith) (expression_rule im) (expressions_offset v im) im.expressions)
      (least_join _ _ _ _ (within_before (patterns_offset v im) (sum (map pattern_bytes im.patterns)) (code_offset v im) _ _ (omega arith) in_patterns from_code)
      (least_among (pattern_fault im) pattern_bytes (InPattern im) least_in_pattern within_pattern (patterns_offset v im) im.patterns)
      (least_among (instr_fault im) instr_size (InInstr im) least_in_instr within_instr (code_offset v im) im.code)))))

-- ---- with the flow

abbrev InFlowAt : Version → Image → Faults
InFlowAt v im f = (at : ℕ) × BreaksFlow im at × (f ≡ record { offset = code_offset v im + at; rule = BadFlow })

least_flow : (v : Version) (im : Image) (flow : Option ℕ) → IsLeast (BreaksFlow im) flow → IsLeastOf (InFlowAt v im) (flow_fault v im flow)
least_flow v im None h = λ f (at, b, e). h at b
least_flow v im (Some n) h = ((n, h.0, refl), λ g (at, b, e). subst (NotAfter (record { offset = code_offset v im + n; rule = BadFlow })) (sym e) (by at (h.1 at b)))
  where
    by : (at : ℕ) → n ≤ at → NotAfter (record { offset = code_offset v im + n; rule = BadFlow }) (record { offset = code_offset v im + at; rule = BadFlow })
    by at le = elim (cases_lt n at) [ inl lt ↦ inl (omega (arith, lt)) | inr ge ↦ inr (omega (arith, le, ge), omega arith) ]

-- the one that comes first isn't after the other
chosen : (f g : ModuleFault) → ((comes_first g f ≡ true) × NotAfter g f) ⊎ ((comes_first g f ≡ false) × NotAfter f g)
chosen f g = elim (cases_lt g.offset f.offset) [
  | inl lt ↦ (let b : nat_lt g.offset f.offset ≡ true = grind (arith, nat_tests, lt) in inl (rw b refl, inl lt))
  | inr ge ↦ (
      let b : nat_lt g.offset f.offset ≡ false = grind (arith, nat_tests, ge) in
      elim (cases_eq g.offset f.offset) [
        | inl same ↦ (
            let c : nat_eq g.offset f.offset ≡ true = grind (arith, nat_tests, same) in
            elim (cases_lt (number_of g.rule) (number_of f.rule)) [
              | inl less ↦ (let d : nat_lt (number_of g.rule) (number_of f.rule) ≡ true = grind (arith, nat_tests, less) in inl (rw (b, c, d) refl, inr (same, omega (arith, less))))
              | inr more ↦ (let d : nat_lt (number_of g.rule) (number_of f.rule) ≡ false = grind (arith, nat_tests, more) in inr (rw (b, c, d) refl, inr (sym same, omega (arith, more))))
            ])
        | inr other ↦ (let c : nat_eq g.offset f.offset ≡ false = grind (arith, nat_tests, other) in inr (rw (b, c) refl, inl (omega (arith, ge, other))))
      ])
]

not_after : (f g h : ModuleFault) → NotAfter f g → NotAfter g h → NotAfter f h
not_after f g h (inl a) (inl b) = inl (omega (arith, a, b))
not_after f g h (inl a) (inr b) = inl (omega (arith, a, b))
not_after f g h (inr a) (inl b) = inl (omega (arith, a, b))
not_after f g h (inr a) (inr b) = inr (omega (arith, a, b), omega (arith, a, b))

least_lesser : (P Q : Faults) (x y : Option ModuleFault) → IsLeastOf P x → IsLeastOf Q y → IsLeastOf (λ f. P f ⊎ Q f) (lesser_fault x y)
least_lesser P Q None None h k = λ f s. elim s [ inl p ↦ h f p | inr q ↦ k f q ]
least_lesser P Q None (Some g) h k = (inr k.0, λ f s. elim s [ inl p ↦ absurd (h f p) | inr q ↦ k.1 f q ])
least_lesser P Q (Some f) None h k = (inl h.0, λ g s. elim s [ inl p ↦ h.1 g p | inr q ↦ absurd (k g q) ])
least_lesser P Q (Some f) (Some g) h k = elim (chosen f g) [
  | inl (e, n) ↦ rw e (inr k.0, λ i s. elim s [ inl p ↦ not_after g f i n (h.1 i p) | inr q ↦ k.1 i q ])
  | inr (e, n) ↦ rw e (inl h.0, λ i s. elim s [ inl p ↦ h.1 i p | inr q ↦ not_after f g i n (k.1 i q) ])
]

module _ (v : Version) (im : Image) where
  to_has : (f : ModuleFault) → Parts v im f ⊎ InFlowAt v im f → Has v im f
  to_has f (inl (inl h)) = InEntry h
  to_has f (inl (inr (inl h))) = InLabels h
  to_has f (inl (inr (inr (inl h)))) = InStatements h
  to_has f (inl (inr (inr (inr (inl h))))) = InExpressions h
  to_has f (inl (inr (inr (inr (inr (inl h)))))) = InPatterns h
  to_has f (inl (inr (inr (inr (inr (inr h)))))) = InCode h
  to_has f (inr (at, b, q)) = InFlow at b q

  of_has : (f : ModuleFault) → Has v im f → Parts v im f ⊎ InFlowAt v im f
  of_has f (InEntry h) = inl (inl h)
  of_has f (InLabels h) = inl (inr (inl h))
  of_has f (InStatements h) = inl (inr (inr (inl h)))
  of_has f (InExpressions h) = inl (inr (inr (inr (inl h))))
  of_has f (InPatterns h) = inl (inr (inr (inr (inr (inl h)))))
  of_has f (InCode h) = inl (inr (inr (inr (inr (inr h)))))
  of_has f (InFlow at b q) = inr (at, b, q)

pub least_is_told : LeastIsTold
least_is_told v im fault (flow, least, e) =
    subst (IsLeastOf (Has v im)) (sym e)
    (least_same _ (Has v im) (lesser_fault (part_fault v im) (flow_fault v im flow)) (to_has v im) (of_has v im) (least_lesser _ (InFlowAt v im) (part_fault v im) (flow_fault v im flow) (least_parts v im) (least_flow v im flow least)))

-- ---- an image without faults has none in either version

both_none : {A : Type 0} (x y : Option A) → or_else x y ≡ None → (x ≡ None) × (y ≡ None)
both_none None y e = (refl, e)
both_none (Some x) y e = absurd (cc)

none_both : {A : Type 0} (x y : Option A) → x ≡ None → y ≡ None → or_else x y ≡ None
none_both x y e f = rw (e, f) refl

told_elsewhere : (at place : ℕ) (r : Option ModuleRule) → fault_if at r ≡ None → fault_if place r ≡ None
told_elsewhere at place None e = refl
told_elsewhere at place (Some r) e = absurd (cc)

-- parts that are fine at one place are fine at another
module _ {A : Type 0} (fault : List A → ℕ → A → Option ModuleFault) (width : A → ℕ) (elsewhere : (front : List A) (at place : ℕ) (x : A) → fault front at x ≡ None → fault front place x ≡ None) where
  scan_elsewhere : (front : List A) (at place : ℕ) (xs : List A) → fault_among fault width front at xs ≡ None → fault_among fault width front place xs ≡ None
  scan_elsewhere front at place [] e = refl
  scan_elsewhere front at place (x ∷ xs) e =
      let n = both_none (fault front at x) (fault_among fault width (front ++ x ∷ []) (at + width x) xs) e in
      none_both _ _ (elsewhere front at place x n.0) (scan_elsewhere (front ++ x ∷ []) (at + width x) (place + width x) xs n.1)

rule_elsewhere : {A : Type 0} (broken : List A → A → Option ModuleRule) (k at place : ℕ) (xs : List A)
    → fault_among (λ front at x. fault_if at (broken front x)) (λ x. k) [] at xs ≡ None → fault_among (λ front at x. fault_if at (broken front x)) (λ x. k) [] place xs ≡ None
rule_elsewhere broken k at place xs e = scan_elsewhere (λ front at x. fault_if at (broken front x)) (λ x. k) (λ front at place x. told_elsewhere at place (broken front x)) [] at place xs e

pub fine_in_each : (v w : Version) (im : Image) → part_fault v im ≡ None → part_fault w im ≡ None
fine_in_each v w im e =
    let a = both_none _ _ e in
    let b = both_none _ _ a.1 in
    let c = both_none _ _ b.1 in
    let d = both_none _ _ c.1 in
    let f = both_none _ _ d.1 in
    none_both _ _ (told_elsewhere (entry_offset v) (entry_offset w) (entry_rule im) a.0)
    (none_both _ _ (rule_elsewhere (label_rule im) 8 (labels_offset v im) (labels_offset w im) im.labels b.0)
    (none_both _ _ (rule_elsewhere (statement_rule im) 4 (statements_offset v im) (statements_offset w im) im.statements c.0)
    (none_both _ _ (rule_elsewhere (expression_rule im) 4 (expressions_offset v im) (expressions_offset w im) im.expressions d.0)
    (none_both _ _
    (scan_elsewhere (pattern_fault im) pattern_bytes
    (λ front at place is. scan_elsewhere (λ before place i. fault_if place (pat_rule im (length is) before i)) pat_bytes (λ before at place i. told_elsewhere at place (pat_rule im (length is) before i)) [] (at + 4) (place + 4) is)
    [] (patterns_offset v im) (patterns_offset w im) im.patterns f.0)
    (scan_elsewhere (instr_fault im) instr_size (λ front at place i. told_elsewhere at place _) [] (code_offset v im) (code_offset w im) im.code f.1)))))

pub well_formed_has_none : WellFormedHasNone
well_formed_has_none v im w = least_is_told v im None (None, w.flow, rw (fine_in_each versions.Two v im w.parts) refl)

none_least : (P : Faults) (o : Option ModuleFault) → IsLeastOf P o → ((f : ModuleFault) → P f → ⊥) → o ≡ None
none_least P None h free = refl
none_least P (Some f) h free = absurd (free f h.0)

pub none_is_well_formed : NoneIsWellFormed
none_is_well_formed v im free = record {
  parts = fine_in_each v versions.Two im (none_least (Parts v im) (part_fault v im) (least_parts v im) (λ f p. free f (to_has v im f (inl p))));
  flow = λ at b. free (record { offset = code_offset v im + at; rule = BadFlow }) (InFlow at b refl);
}

-- ---- one alone

rule_of : ℕ → ModuleRule
rule_of n = if nat_eq n 1 then BadIndex else (if nat_eq n 2 then BadTarget else (if nat_eq n 3 then BadFlow else (if nat_eq n 4 then BadJump else NoEnd)))

rule_back : (r : ModuleRule) → rule_of (number_of r) ≡ r
unfolding rule_of
rule_back BadIndex = refl
rule_back BadTarget = refl
rule_back BadFlow = refl
rule_back BadJump = refl
rule_back NoEnd = refl

both_ways : (f g : ModuleFault) → NotAfter f g → NotAfter g f → f ≡ g
both_ways f g (inl a) (inl b) = absurd (omega (arith, a, b))
both_ways f g (inl a) (inr b) = absurd (omega (arith, a, b))
both_ways f g (inr a) (inl b) = absurd (omega (arith, a, b))
both_ways f g (inr a) (inr b) =
    let o = a.0 in
    let n : number_of f.rule ≡ number_of g.rule = omega (arith, a, b) in
    let r : f.rule ≡ g.rule = sym (rule_back f.rule) ∙ ap rule_of n ∙ rule_back g.rule in
    (λ i. record { offset = o i; rule = r i })

least_once : (P : Faults) (x y : Option ModuleFault) → IsLeastOf P x → IsLeastOf P y → x ≡ y
least_once P None None h k = refl
least_once P None (Some g) h k = absurd (h g k.0)
least_once P (Some f) None h k = absurd (k f h.0)
least_once P (Some f) (Some g) h k = ap Some (both_ways f g (h.1 g k.0) (k.1 f h.0))

pub one_is_told : OneIsTold
one_is_told v im fault other h k = least_once (Has v im) fault other (least_is_told v im fault h) (least_is_told v im other k)
