-- Reading and writing a unit in memory.
use Rattle.std.proofs.Common.{◌≡◌, ℕ, List, [], ◌∷◌, ◌++◌, get_or, set, Bool, true, false, Option, Some, nat_eq, refl, cond, sym, ap, subst, ◌∙◌, ◌≢◌, inl, inr, arith, append_assoc}
use Rattle.std.specs.Prelude.{IsTrue, if◌then◌else◌}
use Rattle.std.proofs.lemmas.Bool.{cases_eq}
use Rattle.std.proofs.lemmas.Bool.Decides.{nat_tests}
use Rattle.std.proofs.lemmas.List.{append-nil, map-append}
use Rattle.model.specs.Language.Units.{first_of, rest_of, bytes_on, after_read, after_write, Reads, Writes}
use Rattle.unit_io.specs.Held.{UnitsView, IsKept, IsRead, IsWritten, is_shut, may_fail_of, side_at, place_of, with_side, left_by, output_of, records_printed, io_of}
use Rattle.unit_io.specs.declared.mem.OpenUnit.{OpenUnit}
use Rattle.unit_io.specs.declared.mem.Side.{Side}
use Rattle.unit_io.specs.declared.mem.Side.TheVariants.{Input, Output}
use Rattle.unit_io.specs.declared.mem.Written.{Written}
use Rattle.unit_io.specs.Ways.{Way, Reading, Writing, FailsNoMore}
use Rattle.unit_io.proofs.OpenSides.{side_there, changed_there, side_with, side_of_same, side_of_other, same_for}

-- ---- a call that finds its unit at a place

module _ (h i : UnitsView) (e : i ≡ h) (unit k : ℕ) (found : place_of 0 unit i.opened ≡ Some k) (o : OpenUnit) (there : o ≡ get_or i.opened k o) where
  pub side_is : side_at unit h.opened ≡ Some o.side
  side_is = ap (λ (x : UnitsView). side_at unit x.opened) (sym e) ∙ side_there k unit i.opened o found ∙ ap (λ (x : OpenUnit). Some x.side) (sym there)

  pub opened_is : (s : Side) → set i.opened k (record { unit = o.unit; side = s }) ≡ with_side unit s h.opened
  opened_is s =
      ap (λ (x : OpenUnit). set i.opened k (record { unit = x.unit; side = s })) there
      ∙ changed_there k unit i.opened o s found
      ∙ ap (λ (x : UnitsView). with_side unit s x.opened) e

  -- whatever is left to be read
  pub input_kept : (rs rs' : List (List ℕ)) → o.side ≡ Input rs → IsKept i → IsKept (record i { opened = set i.opened k (record { unit = o.unit; side = Input rs' }) })
  input_kept rs rs' is kept =
      let opened : set i.opened k (record { unit = o.unit; side = Input rs' }) ≡ with_side unit (Input rs') i.opened =
      ap (λ (x : OpenUnit). set i.opened k (record { unit = x.unit; side = Input rs' })) there ∙ changed_there k unit i.opened o (Input rs') found in
      let side : side_at unit i.opened ≡ Some (Input rs) =
      side_there k unit i.opened o found ∙ ap (λ (x : OpenUnit). Some x.side) (sym there) ∙ ap Some is in
      subst (λ os. IsKept (record i { opened = os })) (sym opened) (record {
        long = kept.long;
        kept = λ u. same_for output_of unit u (Input rs') (Input rs) i.opened side refl ∙ kept.kept u;
      })

  pub read_is : (rs rs' : List (List ℕ)) (got : Option (List ℕ)) → o.side ≡ Input rs → (got ≡ first_of rs) × (rs' ≡ rest_of rs) → IsRead unit got h (record i { opened = set i.opened k (record { unit = o.unit; side = Input rs' }) })
  read_is rs rs' got is g =
      let onward : set i.opened k (record { unit = o.unit; side = Input rs' }) ≡ with_side unit (Input (rest_of rs)) h.opened =
      opened_is (Input rs') ∙ ap (λ r. with_side unit (Input r) h.opened) g.1 in
      (rs, side_is ∙ ap Some is, g.0, λ j. record { opened = onward j; printed = (e j).printed; failures = (e j).failures })

  pub written_is : (before after bytes : List ℕ) (ps : List Written) → o.side ≡ Output before → after ≡ before ++ bytes ++ 10 ∷ [] → ps ≡ i.printed ++ record { unit = unit; bytes = bytes } ∷ [] → IsWritten unit bytes h (record i { opened = set i.opened k (record { unit = o.unit; side = Output after }); printed = ps })
  written_is before after bytes ps is longer more =
      let onward : set i.opened k (record { unit = o.unit; side = Output after }) ≡ with_side unit (Output (before ++ bytes ++ 10 ∷ [])) h.opened =
      opened_is (Output after) ∙ ap (λ b. with_side unit (Output b) h.opened) longer in
      let and_more : ps ≡ h.printed ++ record { unit = unit; bytes = bytes } ∷ [] = more ∙ ap (λ (x : UnitsView). x.printed ++ record { unit = unit; bytes = bytes } ∷ []) e in
      (before, side_is ∙ ap Some is, λ j. record { opened = onward j; printed = and_more j; failures = (e j).failures })

-- ---- what is told after a read, and what is kept

left_if : (b : Bool) (rs : List (List ℕ)) (s t : Option Side) → s ≡ Some (Input rs) → left_by (cond b (Some (Input (rest_of rs))) t) ≡ cond b (rest_of (left_by s)) (left_by t)
left_if true rs s t is = ap (λ x. rest_of (left_by x)) (sym is)
left_if false rs s t is = refl

module _ (unit : ℕ) (got : Option (List ℕ)) (h h' : UnitsView) (read : IsRead unit got h h') where
  told_less : (u : ℕ) → left_by (side_at u (with_side unit (Input (rest_of read.0)) h.opened)) ≡ (if nat_eq unit u then rest_of (left_by (side_at unit h.opened)) else left_by (side_at u h.opened))
  told_less u = ap left_by (side_with unit u (Input (rest_of read.0)) (Input read.0) h.opened read.1) ∙ left_if (nat_eq unit u) read.0 (side_at unit h.opened) (side_at u h.opened) read.1

  pub read_told : Reads unit got (Some (io_of h)) (Some (io_of h'))
  read_told =
      let told : io_of h' ≡ after_read unit (io_of h) = ap io_of read.3 ∙ (λ j. record { left = λ u. told_less u j; printed = records_printed h.printed }) in
      (io_of h, (refl, ap Some told), read.2 ∙ ap (λ s. first_of (left_by s)) (sym read.1))

-- ---- what is told after a write, and what is kept

bytes_on_or : (b : Bool) (r : List ℕ) (line rest more : List ℕ) → rest ≡ line ++ more → cond b (r ++ 10 ∷ rest) rest ≡ cond b (r ++ 10 ∷ line) line ++ more
bytes_on_or true r line rest more h = ap (λ x. r ++ 10 ∷ x) h ∙ sym (append_assoc r (10 ∷ line) more)
bytes_on_or false r line rest more h = h

-- one more record
bytes_on_snoc : (u unit : ℕ) (bytes : List ℕ) (ps : List Written) → bytes_on u (records_printed (ps ++ record { unit = unit; bytes = bytes } ∷ [])) ≡ bytes_on u (records_printed ps) ++ (if nat_eq u unit then bytes ++ 10 ∷ [] else [])
bytes_on_snoc u unit bytes [] = refl
bytes_on_snoc u unit bytes (p ∷ ps) =
    bytes_on_or (nat_eq u p.unit) p.bytes (bytes_on u (records_printed ps)) (bytes_on u (records_printed (ps ++ record { unit = unit; bytes = bytes } ∷ []))) (if nat_eq u unit then bytes ++ 10 ∷ [] else []) (bytes_on_snoc u unit bytes ps)

itself : (unit : ℕ) (line : List ℕ) → line ≡ (if nat_eq unit unit then line else [])
itself unit line = grind (arith, nat_tests)

another : (unit u : ℕ) (line : List ℕ) → unit ≢ u → [] ≡ (if nat_eq u unit then line else [])
another unit u line n = grind (arith, nat_tests, n)

module _ (unit : ℕ) (bytes : List ℕ) (h h' : UnitsView) (wrote : IsWritten unit bytes h h') where
  after : List ℕ
  after = wrote.0 ++ bytes ++ 10 ∷ []

  one : Written
  one = record { unit = unit; bytes = bytes }

  pub written_told : Writes unit bytes (Some (io_of h)) (Some (io_of h'))
  unfolding after one
  written_told =
      let left : (u : ℕ) → left_by (side_at u (with_side unit (Output after) h.opened)) ≡ left_by (side_at u h.opened) =
      λ u. same_for left_by unit u (Output after) (Output wrote.0) h.opened wrote.1 refl in
      let told : io_of h' ≡ after_write unit bytes (io_of h) =
      ap io_of wrote.2 ∙ (λ j. record { left = λ u. left u j; printed = map-append (λ (w : Written). record { unit = w.unit; bytes = w.bytes }) h.printed (one ∷ []) j }) in
      (io_of h, (refl, ap Some told))

  kept_at : (u : ℕ) → output_of (side_at unit h.opened) ≡ bytes_on unit (records_printed h.printed) → output_of (side_at u h.opened) ≡ bytes_on u (records_printed h.printed) → output_of (side_at u (with_side unit (Output after) h.opened)) ≡ bytes_on u (records_printed (h.printed ++ one ∷ []))
  unfolding after one
  kept_at u here at_u = elim (cases_eq unit u) [
    | inl e ↦ subst (λ v. output_of (side_at v (with_side unit (Output after) h.opened)) ≡ bytes_on v (records_printed (h.printed ++ one ∷ []))) e (
        ap output_of (side_of_same unit (Output after) (Output wrote.0) h.opened wrote.1)
        ∙ ap (λ x. x ++ bytes ++ 10 ∷ []) (ap output_of (sym wrote.1) ∙ here)
        ∙ append_assoc (bytes_on unit (records_printed h.printed)) bytes (10 ∷ [])
        ∙ ap (λ x. bytes_on unit (records_printed h.printed) ++ x) (itself unit (bytes ++ 10 ∷ []))
        ∙ sym (bytes_on_snoc unit unit bytes h.printed)
        )
    | inr n ↦
        ap output_of (side_of_other unit u (Output after) (Output wrote.0) h.opened wrote.1 n)
        ∙ at_u
        ∙ sym (append-nil (bytes_on u (records_printed h.printed)))
        ∙ ap (λ x. bytes_on u (records_printed h.printed) ++ x) (another unit u (bytes ++ 10 ∷ []) n)
        ∙ sym (bytes_on_snoc u unit bytes h.printed)
  ]

  pub written_kept : IsKept h → IsKept h'
  unfolding after one
  written_kept k = subst IsKept (sym wrote.2) (record { long = k.long; kept = λ u. kept_at u (k.kept unit) (k.kept u) })

-- ---- what may fail after a call

pub as_open : (h h' : UnitsView) → h'.opened ≡ h.opened → FailsNoMore (may_fail_of h) (may_fail_of h')
as_open h h' e way u s = subst (λ os. IsTrue (is_shut way (side_at u os))) e s

-- with another side of a unit, open in the same way
side_open : (unit : ℕ) (s t : Side) (h h' : UnitsView) → ((way : Way) → is_shut way (Some s) ≡ is_shut way (Some t)) → side_at unit h.opened ≡ Some t → h'.opened ≡ with_side unit s h.opened → FailsNoMore (may_fail_of h) (may_fail_of h')
side_open unit s t h h' alike is new way u shut =
    subst (λ b. IsTrue b) (same_for (is_shut way) unit u s t h.opened is (alike way)) (subst (λ os. IsTrue (is_shut way (side_at u os))) new shut)

input_open : (rs rs' : List (List ℕ)) (way : Way) → is_shut way (Some (Input rs')) ≡ is_shut way (Some (Input rs))
input_open rs rs' Reading = refl
input_open rs rs' Writing = refl

output_open : (bs bs' : List ℕ) (way : Way) → is_shut way (Some (Output bs')) ≡ is_shut way (Some (Output bs))
output_open bs bs' Reading = refl
output_open bs bs' Writing = refl

pub read_open : (unit : ℕ) (got : Option (List ℕ)) (h h' : UnitsView) → IsRead unit got h h' → FailsNoMore (may_fail_of h) (may_fail_of h')
read_open unit got h h' read =
    side_open unit (Input (rest_of read.0)) (Input read.0) h h' (input_open read.0 (rest_of read.0)) read.1 (ap (λ (x : UnitsView). x.opened) read.3)

pub written_open : (unit : ℕ) (bytes : List ℕ) (h h' : UnitsView) → IsWritten unit bytes h h' → FailsNoMore (may_fail_of h) (may_fail_of h')
written_open unit bytes h h' written =
    side_open unit (Output (written.0 ++ bytes ++ 10 ∷ [])) (Output written.0) h h' (output_open written.0 (written.0 ++ bytes ++ 10 ∷ [])) written.1 (ap (λ (x : UnitsView). x.opened) written.2)
