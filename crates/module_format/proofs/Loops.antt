-- Reading entries one after the other, as a loop does.
use Rattle.std.proofs.Common.{◌≡◌, ℕ, suc, ◌-◌, ◌+◌, ◌≤◌, ◌<◌, List, [], ◌∷◌, ◌++◌, Result, Ok, Err, length, Some, None, refl, sym, ap, ◌∙◌, arith, Option, Bool, true, false, append_assoc, subst}
use Rattle.std.specs.Prelude.{if◌then◌else◌}
use Rattle.model.specs.declared.format.Miss.{Miss}
use Rattle.model.specs.declared.format.ReadError.{ReadError}
use Rattle.model.specs.declared.format.ReadError.TheVariants as errors
use Rattle.model.specs.declared.image.Level.{Level}
use Rattle.model.specs.Module.Reading.{◌>>>◌, Fails, entries_from, instr_of, known_of, code_from}
use Rattle.model.specs.Module.Spelling.{is_of}
use Rattle.module_format.specs.Views.{instrs_from}
use Rattle.model.specs.declared.instr.Instr.{Instr}
use Rattle.model.specs.declared.format.FormatRule.TheVariants.{UnknownInstruction}
use Rattle.std.proofs.lemmas.List.{append-nil, length-append}

pub goes_on : {A : Type 0} (entry : List A → List ℕ → Result (A × List ℕ) Miss) (front : List A) (n i : ℕ) (bytes : List ℕ) (x : A) (after : List ℕ) (total : Result (List A × List ℕ) Miss) (seen : List A)
    → seen ≡ front → i < n → entry seen bytes ≡ Ok (x, after) → entries_from entry front (n - i) bytes ≡ total → entries_from entry (front ++ x ∷ []) (n - (i + 1)) after ≡ total
unfolding entries_from
goes_on entry front n i bytes x after total seen same lt h' so_far =
    let h : entry front bytes ≡ Ok (x, after) = ap (λ (y : List _). entry y bytes) (sym same) ∙ h' in
    let k : n - i ≡ suc (n - (i + 1)) = omega arith in
    let one : entries_from entry front (n - i) bytes ≡ entries_from entry (front ++ x ∷ []) (n - (i + 1)) after = rw (k, h) refl in
    sym one ∙ so_far

pub ends : {A : Type 0} (entry : List A → List ℕ → Result (A × List ℕ) Miss) (e : ReadError) (front : List A) (n i : ℕ) (bytes : List ℕ) (total : Result (List A × List ℕ) Miss) (seen : List A)
    → seen ≡ front → i < n → Fails e (entry seen bytes) → entries_from entry front (n - i) bytes ≡ total → Fails e total
unfolding entries_from
ends entry errors.Memory front n i bytes total seen same lt h so_far = tt
ends entry (errors.Fault f) front n i bytes total seen same lt h' so_far =
    let h : entry front bytes ≡ Err f = ap (λ (y : List _). entry y bytes) (sym same) ∙ h' in
    let k : n - i ≡ suc (n - (i + 1)) = omega arith in
    let one : entries_from entry front (n - i) bytes ≡ Err f = rw (k, h) refl in
    sym so_far ∙ one

pub is_done : {A : Type 0} (entry : List A → List ℕ → Result (A × List ℕ) Miss) (front : List A) (n i : ℕ) (bytes : List ℕ) (total : Result (List A × List ℕ) Miss)
    → n ≤ i → entries_from entry front (n - i) bytes ≡ total → total ≡ Ok (front, bytes)
unfolding entries_from
is_done entry front n i bytes total le so_far =
    let k : n - i ≡ 0 = omega arith in
    let one : entries_from entry front (n - i) bytes ≡ Ok (front, bytes) = rw k refl in
    sym so_far ∙ one

-- ---- the code

pub code_goes_on : (l : Level) (front : List Instr) (n i : ℕ) (behind bytes : List ℕ) (x : Instr) (after : List ℕ) (total : Result (List Instr) Miss)
    → i < n → known_of l bytes ≡ Some (x, after) → code_from l front (n - i) behind bytes ≡ total → code_from l (front ++ x ∷ []) (n - (i + 1)) behind after ≡ total
unfolding code_from known_of instr_of
code_goes_on l front n i behind [] x after total lt h so_far = absurd cc
code_goes_on l front n i behind (b ∷ bytes) x after total lt h so_far =
    let k : n - i ≡ suc (n - (i + 1)) = omega arith in
    let one : code_from l front (n - i) behind (b ∷ bytes) ≡ code_from l (front ++ x ∷ []) (n - (i + 1)) behind after = rw (k, h) refl in
    sym one ∙ so_far

abbrev pub bad_instr : ℕ → Miss
bad_instr left = record { left = left; rule = UnknownInstruction }

pub code_stops : (l : Level) (front : List Instr) (n i : ℕ) (behind bytes : List ℕ) (left : ℕ) (total : Result (List Instr) Miss)
    → i < n → 0 < length bytes → known_of l bytes ≡ None → left ≡ length bytes + length behind → code_from l front (n - i) behind bytes ≡ total → total ≡ Err (bad_instr left)
unfolding code_from
code_stops l front n i behind [] left total lt some h sum so_far = absurd (omega (arith, some))
code_stops l front n i behind (b ∷ bytes) left total lt some h sum so_far =
    let k : n - i ≡ suc (n - (i + 1)) = omega arith in
    let same : length ((b ∷ bytes) ++ behind) ≡ left = length-append (b ∷ bytes) behind ∙ sym sum in
    let one : code_from l front (n - i) behind (b ∷ bytes) ≡ Err (bad_instr left) = rw (k, h) (ap (λ (m : ℕ). Err (bad_instr m)) same) in
    sym so_far ∙ one

pub code_left : (l : Level) (front : List Instr) (n i : ℕ) (behind bytes : List ℕ) (left : ℕ) (total : Result (List Instr) Miss)
    → n ≤ i → 0 < length bytes → left ≡ length bytes + length behind → code_from l front (n - i) behind bytes ≡ total → total ≡ Err (bad_instr left)
unfolding code_from
code_left l front n i behind [] left total le some sum so_far = absurd (omega (arith, some))
code_left l front n i behind (b ∷ bytes) left total le some sum so_far =
    let k : n - i ≡ 0 = omega arith in
    let same : length ((b ∷ bytes) ++ behind) ≡ left = length-append (b ∷ bytes) behind ∙ sym sum in
    let one : code_from l front (n - i) behind (b ∷ bytes) ≡ Err (bad_instr left) = rw k (ap (λ (m : ℕ). Err (bad_instr m)) same) in
    sym so_far ∙ one

pub code_done : (l : Level) (front : List Instr) (n : ℕ) (behind bytes : List ℕ) (total : Result (List Instr) Miss)
    → length bytes ≡ 0 → code_from l front n behind bytes ≡ total → total ≡ Ok front
unfolding code_from
code_done l front n behind [] total none so_far = sym so_far
code_done l front n behind (b ∷ bytes) total none so_far = absurd (omega (arith, none))

-- ---- how many instructions bytes are, as a loop counts them

-- so many were read, and these are what is left
pub record Counted (l : Level) (n i : ℕ) (behind bytes rest : List ℕ) : Type 0 where
  pub front : List Instr
  pub long : length front ≡ i
  pub read : code_from l front (n - i) behind rest ≡ code_from l [] n behind bytes
  pub both : (m : ℕ) → instrs_from (i + m) bytes ≡ front ++ instrs_from m rest

pub counted_none : (l : Level) (n : ℕ) (behind bytes : List ℕ) → Counted l n 0 behind bytes bytes
counted_none l n behind bytes =
    let all : n - 0 ≡ n = omega arith in
    record {
      front = [];
      long = refl;
      read = ap (λ k. code_from l [] k behind bytes) all;
      both = λ m. let same : 0 + m ≡ m = omega arith in ap (λ k. instrs_from k bytes) same;
    }

known_is : (l : Level) (bytes : List ℕ) (x : Instr × List ℕ) → known_of l bytes ≡ Some x → instr_of bytes ≡ Some x
unfolding known_of
known_is l bytes x e = kept (instr_of bytes) x e
  where
    kept_if : (b : Bool) (i x : Instr × List ℕ) → (if b then Some i else None) ≡ Some x → i ≡ x
    kept_if true i x e = cc
    kept_if false i x e = absurd cc

    kept : (o : Option (Instr × List ℕ)) (x : Instr × List ℕ) → (o >>> λ i. if is_of l i.0 then Some i else None) ≡ Some x → o ≡ Some x
    kept None x e = absurd cc
    kept (Some i) x e = ap Some (kept_if (is_of l i.0) i x e)

one_more : (m : ℕ) (bytes : List ℕ) (x : Instr) (after : List ℕ) → instr_of bytes ≡ Some (x, after) → instrs_from (suc m) bytes ≡ x ∷ instrs_from m after
unfolding instrs_from
one_more m bytes x after e = rw e refl

pub counted_more : (l : Level) (n i : ℕ) (behind bytes rest : List ℕ) (x : Instr) (after : List ℕ)
    → i < n → known_of l rest ≡ Some (x, after) → Counted l n i behind bytes rest → Counted l n (i + 1) behind bytes after
counted_more l n i behind bytes rest x after lt known c = record {
  front = c.front ++ x ∷ [];
  long = omega (arith, c.long, length-append c.front (x ∷ []));
  read = code_goes_on l c.front n i behind rest x after (code_from l [] n behind bytes) lt known c.read;
  both = λ m.
      let sum : i + 1 + m ≡ i + suc m = omega arith in
      ap (λ k. instrs_from k bytes) sum ∙ c.both (suc m) ∙ ap (λ is. c.front ++ is) (one_more m rest x after (known_is l rest (x, after) known)) ∙ sym (append_assoc c.front (x ∷ []) (instrs_from m after));
}

-- those that were counted
pub counted_are : (l : Level) (n i : ℕ) (behind bytes rest : List ℕ) (c : Counted l n i behind bytes rest) → instrs_from i bytes ≡ c.front
unfolding instrs_from
counted_are l n i behind bytes rest c =
    let sum : i + 0 ≡ i = omega arith in
    ap (λ k. instrs_from k bytes) (sym sum) ∙ c.both 0 ∙ append-nil c.front

pub counted_done : (l : Level) (n i : ℕ) (behind bytes rest : List ℕ) → length rest ≡ 0 → Counted l n i behind bytes rest → code_from l [] n behind bytes ≡ Ok (instrs_from i bytes)
counted_done l n i behind bytes rest none c = code_done l c.front _ behind rest _ none c.read ∙ ap Ok (sym (counted_are l n i behind bytes rest c))

pub counted_long : (l : Level) (n i : ℕ) (behind bytes rest : List ℕ) → Counted l n i behind bytes rest → length (instrs_from i bytes) ≡ i
counted_long l n i behind bytes rest c = ap length (counted_are l n i behind bytes rest c) ∙ c.long

pub counted_all : (l : Level) (n i : ℕ) (behind bytes rest : List ℕ) → n ≤ i → i ≤ n → Counted l n i behind bytes rest → Counted l n n behind bytes rest
counted_all l n i behind bytes rest le ge c =
    let same : i ≡ n = omega (arith, le, ge) in
    subst (λ k. Counted l n k behind bytes rest) same c
