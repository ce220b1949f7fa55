-- What units on files hold after a read, and after a write.
use Rattle.std.proofs.Common.{◌≡◌, ◌≢◌, ℕ, zero, suc, ◌<◌, ◌≤◌, List, [], ◌∷◌, ◌++◌, length, take, set, Bool, true, false, Option, Some, None, Result, Ok, Err, nat_eq, refl, sym, ap, subst, ◌∙◌, inl, inr, arith}
use Rattle.std.specs.Prelude.{IsTrue, OnErr, OnOk, if◌then◌else◌}
use Rattle.std.proofs.lemmas.Bool.{cases_eq}
use Rattle.std.proofs.lemmas.Bool.Decides.{nat_tests}
use Rattle.std.proofs.lemmas.List.{append-nil, get_or-set_same, get_or-set_other}
use Rattle.std.specs.Io.KnownBytes.{Appends, Keeps}
use Rattle.model.specs.declared.run.UnitFault.{UnitFault}
use Rattle.model.specs.declared.run.UnitFault.TheVariants as fault
use Rattle.model.specs.Language.Io.{Io}
use Rattle.model.specs.Language.Units.{HasGrown, IsCounted, Reads, Writes, after_read, after_write, bytes_on, first_of, records_of, rest_of}
use Rattle.model.specs.Laws.Agreement.{Records}
use Rattle.unit_io.specs.Counts.{IfMemory, failures_at}
use Rattle.unit_io.specs.Files.{FilesView, IsKept, IsKnown, file_on, io_of, known, left_of, left_on, standard, told_if, told_of, written_of, written_on}
use Rattle.unit_io.specs.Sides.{TakesFirst, exposed}
use Rattle.unit_io.specs.Streams.{AppendsBeginning}
use Rattle.unit_io.specs.Views.{FileView}
use Rattle.unit_io.specs.Written.{noted}
use Rattle.unit_io.proofs.BytesOn.{here_noted, there_noted}
use Rattle.unit_io.proofs.KnownSteps.{keeps_keeps, keeps_of, keeps_same}
use Rattle.unit_io.proofs.Untold.{untold_read, untold_write}

-- ---- one file of many in another state

-- room for one more
pub none_more : (u : ℕ) (given : List (Option FileView)) → file_on u (given ++ None ∷ []) ≡ file_on u given
none_more zero [] = refl
none_more (suc u) [] = refl
none_more zero (f ∷ fs) = refl
none_more (suc u) (f ∷ fs) = none_more u fs

module _ (unit k : ℕ) (f g : FileView) (given given' : List (Option FileView)) (is : file_on k given ≡ Some f) (new : given' ≡ set given k (Some g)) (room : k < length given) where
  pub there : file_on k given' ≡ Some g
  there = ap (file_on k) new ∙ get_or-set_same given k (Some g) None room

  pub elsewhere : (u : ℕ) → u ≢ k → file_on u given' ≡ file_on u given
  elsewhere u other = ap (file_on u) new ∙ get_or-set_other given k u (Some g) None other

not_true : false ≡ true → ⊥
not_true e = cc

-- ---- reads

known_after : (got before after : Option (List ℕ)) → TakesFirst got before after → IsKnown before → IsKnown after
known_after got None after t h = absurd h
known_after got (Some xs) after (g, rest, is, r) h = subst IsKnown (sym is) tt

kept_known : (before after : Option (List ℕ)) → Keeps before after → IsKnown before → IsKnown after
kept_known None after t h = absurd h
kept_known (Some xs) None t h = absurd t
kept_known (Some xs) (Some ys) t h = tt

same_left : (a b : Option (List ℕ)) → IsKnown a → Keeps a b → records_of (known b) ≡ records_of (known a)
same_left None b s k = absurd s
same_left (Some x) None s k = absurd k
same_left (Some x) (Some y) s k = ap records_of k

first_known : (got a b : Option (List ℕ)) → IsKnown a → TakesFirst got a b → got ≡ first_of (records_of (known a))
first_known got None b s t = absurd s
first_known got (Some x) b s (g, rest, is, r) = g

rest_known : (got a b : Option (List ℕ)) → IsKnown a → TakesFirst got a b → records_of (known b) ≡ rest_of (records_of (known a))
rest_known got None b s t = absurd s
rest_known got (Some x) b s (g, rest, is, r) = ap (λ (v : Option (List ℕ)). records_of (known v)) is ∙ r

choose : {A : Type 0} (unit u : ℕ) (x y z : A) → (unit ≡ u → x ≡ y) → (u ≢ unit → x ≡ z) → x ≡ (if nat_eq unit u then y else z)
choose unit u x y z here there = elim (cases_eq unit u) [
  | inl e ↦ let same = here e in grind (arith, nat_tests, e, same)
  | inr n ↦ let other = there (λ h. n (sym h)) in grind (arith, nat_tests, n, other)
]

kept_some : (bytes : List ℕ) (b : Option (List ℕ)) → Keeps (Some bytes) b → b ≡ Some bytes
kept_some bytes None k = absurd k
kept_some bytes (Some y) k = ap Some k

kept_as : (bytes : List ℕ) (a b : Option (List ℕ)) → a ≡ Some bytes → Keeps a b → b ≡ Some bytes
kept_as bytes a b is k = kept_some bytes b (subst (λ (x : Option (List ℕ)). Keeps x b) is k)

grown_some : (bytes line : List ℕ) (b : Option (List ℕ)) → Appends (Some bytes) b line → b ≡ Some (bytes ++ line)
grown_some bytes line None k = absurd k
grown_some bytes line (Some y) k = ap Some k

grown_as : (bytes line : List ℕ) (a b : Option (List ℕ)) → a ≡ Some bytes → Appends a b line → b ≡ Some (bytes ++ line)
grown_as bytes line a b is k = grown_some bytes line b (subst (λ (x : Option (List ℕ)). Appends x b line) is k)

not_grown : {c : ℕ} → HasGrown 0 c → c ≡ 0 → ⊥
not_grown (inl lt) z = absurd (omega (arith, lt, z))
not_grown (inr (e, s)) z = absurd (omega (arith, e))

-- a fault that isn't counted is want of memory
only_memory : {P Q : Type 0} {c : ℕ} (cause : UnitFault) → IfMemory cause P → IsCounted cause 0 c → c ≡ 0 → (P → Q) → Q
only_memory fault.Memory p h z f = f p
only_memory fault.NotOpen p h z f = absurd (not_grown h z)
only_memory fault.ReadFailed p h z f = absurd (not_grown h z)
only_memory fault.WriteFailed p h z f = absurd (not_grown h z)

pub zero_before : (a b : ℕ) → a ≤ b → b ≡ 0 → a ≡ 0
zero_before a b low none = omega (arith, low, none)

-- ---- what is told

module _ (unit : ℕ) (got : Option (List ℕ)) (io io' : Io) where
  pub reads_if : (b b' : Bool) → b' ≡ b → (IsTrue b → (io' ≡ after_read unit io) × (got ≡ first_of (io.left unit))) → Reads unit got (told_if b io) (told_if b' io')
  reads_if false b' same h = untold_read unit got
  reads_if true b' same h = (io, (refl, ap (λ (x : Bool). told_if x io') same ∙ ap Some (h refl).0), (h refl).1)

module _ (unit : ℕ) (bytes : List ℕ) (io io' : Io) where
  pub writes_if : (b b' : Bool) → b' ≡ b → io' ≡ after_write unit bytes io → Writes unit bytes (told_if b io) (told_if b' io')
  writes_if false b' same h = untold_write unit bytes
  writes_if true b' same h = (io, (refl, ap (λ (x : Bool). told_if x io') same ∙ ap Some h))

same_if : (b b' : Bool) (io io' : Io) → b' ≡ b → (IsTrue b → io' ≡ io) → told_if b' io' ≡ told_if b io
same_if false b' io io' same h = ap (λ (x : Bool). told_if x io') same
same_if true b' io io' same h = ap (λ (x : Bool). told_if x io') same ∙ ap Some (h refl)

module _ {S : Type 0} (exposes : S → Bool) (v w : FilesView S) (same : w.system ≡ v.system) (kept : IsKept exposes v) where
  onward : IsTrue (exposes w.system) → IsTrue (exposes v.system)
  onward = subst (λ (s : S). IsTrue (exposes s)) same

  -- a record was read
  pub reads : (unit : ℕ) (got : Option (List ℕ)) → TakesFirst got (left_on unit v.given v.input) (left_on unit w.given w.input)
      → ((u : ℕ) → u ≢ unit → left_on u w.given w.input ≡ left_on u v.given v.input) → w.records ≡ v.records → Reads unit got (told_of exposes v) (told_of exposes w)
  reads unit got taken others records =
      reads_if unit got (io_of v) (io_of w) (exposes v.system) (exposes w.system) (ap exposes same) (λ e.
      let some = kept.known e unit in
      let left : (u : ℕ) → records_of (known (left_on u w.given w.input)) ≡ (if nat_eq unit u then rest_of (records_of (known (left_on unit v.given v.input))) else records_of (known (left_on u v.given v.input))) =
      λ u. choose unit u _ _ _
      (λ (i : unit ≡ u). ap (λ (n : ℕ). records_of (known (left_on n w.given w.input))) (sym i) ∙ rest_known got (left_on unit v.given v.input) (left_on unit w.given w.input) some taken)
      (λ (n : u ≢ unit). ap (λ (x : Option (List ℕ)). records_of (known x)) (others u n)) in
      ((λ j. record { left = λ u. left u j; printed = records j }), first_known got (left_on unit v.given v.input) (left_on unit w.given w.input) some taken))

  -- what is left is the same
  pub tells_same : ((u : ℕ) → Keeps (left_on u v.given v.input) (left_on u w.given w.input)) → w.records ≡ v.records → told_of exposes w ≡ told_of exposes v
  tells_same left records =
      same_if (exposes v.system) (exposes w.system) (io_of v) (io_of w) (ap exposes same) (λ e.
      let l : (u : ℕ) → records_of (known (left_on u w.given w.input)) ≡ records_of (known (left_on u v.given v.input)) =
      λ u. same_left (left_on u v.given v.input) (left_on u w.given w.input) (kept.known e u) (left u) in
      λ j. record { left = λ u. l u j; printed = records j })

  -- a record was written
  pub writes : (unit : ℕ) (bytes : List ℕ) → ((u : ℕ) → left_on u w.given w.input ≡ left_on u v.given v.input) → w.records ≡ noted v.records unit bytes → Writes unit bytes (told_of exposes v) (told_of exposes w)
  writes unit bytes left records =
      writes_if unit bytes (io_of v) (io_of w) (exposes v.system) (exposes w.system) (ap exposes same)
      (λ j. record { left = λ u. ap (λ (x : Option (List ℕ)). records_of (known x)) (left u) j; printed = records j })

  -- a read that failed: what is left is the same
  pub tells_still : (unit : ℕ) → Keeps (left_on unit v.given v.input) (left_on unit w.given w.input) → ((u : ℕ) → u ≢ unit → left_on u w.given w.input ≡ left_on u v.given v.input)
      → w.records ≡ v.records → told_of exposes w ≡ told_of exposes v
  tells_still unit keeps others records =
      tells_same (λ u. elim (cases_eq unit u) [
        | inl i ↦ subst (λ (n : ℕ). Keeps (left_on n v.given v.input) (left_on n w.given w.input)) i keeps
        | inr n ↦ keeps_of (left_on u v.given v.input) (left_on u w.given w.input) (others u (λ h. n (sym h)))
      ]) records

  -- ---- what was written

  -- nothing more, and what is left is known still
  pub still_kept : ((u : ℕ) → IsKnown (left_on u v.given v.input) → IsKnown (left_on u w.given w.input)) → ((u : ℕ) → Keeps (written_on u v.given v.output) (written_on u w.given w.output))
      → w.records ≡ v.records → ((u : ℕ) → failures_at w.counts u ≡ 0 → failures_at v.counts u ≡ 0) → IsKept exposes w
  still_kept left written records counts = record {
    known = λ e u. left u (kept.known (onward e) u);
    exact = λ e u none. kept_as _ (written_on u v.given v.output) (written_on u w.given w.output) (kept.exact (onward e) u (counts u none)) (written u) ∙ ap (λ (rs : Records). Some (bytes_on u rs)) (sym records);
    begun = λ e u. let b = kept.begun (onward e) u in (b.0, kept_as _ (written_on u v.given v.output) (written_on u w.given w.output) b.1 (written u) ∙ ap (λ (rs : Records). Some (bytes_on u rs ++ b.0)) (sym records));
  }

  -- what is left on one unit is known still, and on the others it is the same
  left_known : (unit : ℕ) → (IsKnown (left_on unit v.given v.input) → IsKnown (left_on unit w.given w.input)) → ((u : ℕ) → u ≢ unit → left_on u w.given w.input ≡ left_on u v.given v.input)
      → (u : ℕ) → IsKnown (left_on u v.given v.input) → IsKnown (left_on u w.given w.input)
  left_known unit here others u h = elim (cases_eq unit u) [
    | inl i ↦ subst (λ (n : ℕ). IsKnown (left_on n w.given w.input)) i (here (subst (λ (n : ℕ). IsKnown (left_on n v.given v.input)) (sym i) h))
    | inr n ↦ subst IsKnown (sym (others u (λ e. n (sym e)))) h
  ]

  -- a record was read
  pub read_kept : (unit : ℕ) (got : Option (List ℕ)) → TakesFirst got (left_on unit v.given v.input) (left_on unit w.given w.input) → ((u : ℕ) → u ≢ unit → left_on u w.given w.input ≡ left_on u v.given v.input)
      → ((u : ℕ) → Keeps (written_on u v.given v.output) (written_on u w.given w.output)) → w.records ≡ v.records → w.counts ≡ v.counts → IsKept exposes w
  read_kept unit got taken others written records counts =
      still_kept (left_known unit (known_after got (left_on unit v.given v.input) (left_on unit w.given w.input) taken) others) written records
      (λ u none. ap (λ (cs : List ℕ). failures_at cs u) (sym counts) ∙ none)

  -- a read that failed
  pub failed_read_kept : (unit : ℕ) → Keeps (left_on unit v.given v.input) (left_on unit w.given w.input) → ((u : ℕ) → u ≢ unit → left_on u w.given w.input ≡ left_on u v.given v.input)
      → ((u : ℕ) → Keeps (written_on u v.given v.output) (written_on u w.given w.output)) → w.records ≡ v.records → ((u : ℕ) → failures_at v.counts u ≤ failures_at w.counts u) → IsKept exposes w
  failed_read_kept unit keeps others written records grows =
      still_kept (left_known unit (kept_known (left_on unit v.given v.input) (left_on unit w.given w.input) keeps) others) written records
      (λ u none. zero_before (failures_at v.counts u) (failures_at w.counts u) (grows u) none)

  module _ (unit : ℕ) (bytes : List ℕ) (none : failures_at v.counts unit ≡ 0) (left : (u : ℕ) → left_on u w.given w.input ≡ left_on u v.given v.input)
      (others : (u : ℕ) → u ≢ unit → written_on u w.given w.output ≡ written_on u v.given v.output) where
    known_still : IsTrue (exposes w.system) → (u : ℕ) → IsKnown (left_on u w.given w.input)
    known_still e u = subst IsKnown (sym (left u)) (kept.known (onward e) u)

    -- one record more
    pub more_kept : Appends (written_on unit v.given v.output) (written_on unit w.given w.output) (bytes ++ 10 ∷ []) → w.records ≡ noted v.records unit bytes → w.counts ≡ v.counts → IsKept exposes w
    more_kept wrote records counts =
        let here : IsTrue (exposes w.system) → written_on unit w.given w.output ≡ Some (bytes_on unit w.records) =
        λ e. grown_as (bytes_on unit v.records) (bytes ++ 10 ∷ []) (written_on unit v.given v.output) (written_on unit w.given w.output) (kept.exact (onward e) unit none) wrote
        ∙ ap Some (sym (here_noted unit bytes v.records) ∙ ap (bytes_on unit) (sym records)) in
        let there : (u : ℕ) → unit ≢ u → bytes_on u v.records ≡ bytes_on u w.records =
        λ u n. sym (there_noted u unit bytes v.records n) ∙ ap (bytes_on u) (sym records) in
        record {
          known = known_still;
          exact = λ e u zero_now. elim (cases_eq unit u) [
            | inl i ↦ subst (λ (n : ℕ). written_on n w.given w.output ≡ Some (bytes_on n w.records)) i (here e)
            | inr n ↦ others u (λ h. n (sym h)) ∙ kept.exact (onward e) u (ap (λ (cs : List ℕ). failures_at cs u) (sym counts) ∙ zero_now) ∙ ap Some (there u n)
          ];
          begun = λ e u. elim (cases_eq unit u) [
            | inl i ↦ ([], subst (λ (n : ℕ). written_on n w.given w.output ≡ Some (bytes_on n w.records ++ [])) i (here e ∙ ap Some (sym (append-nil (bytes_on unit w.records)))))
            | inr n ↦ let b = kept.begun (onward e) u in (b.0, others u (λ h. n (sym h)) ∙ b.1 ∙ ap (λ (x : List ℕ). Some (x ++ b.0)) (there u n))
          ];
        }

    -- a write that failed
    pub part_kept : (cause : UnitFault) → AppendsBeginning (written_on unit v.given v.output) (written_on unit w.given w.output) (bytes ++ 10 ∷ [])
        → IfMemory cause (Keeps (written_on unit v.given v.output) (written_on unit w.given w.output)) → w.records ≡ v.records
        → IsCounted cause (failures_at v.counts unit) (failures_at w.counts unit) → ((u : ℕ) → u ≢ unit → failures_at w.counts u ≡ failures_at v.counts u) → IsKept exposes w
    part_kept cause wrote memory records counted counts =
        let same_bytes : (u : ℕ) → bytes_on u v.records ≡ bytes_on u w.records = λ u. ap (bytes_on u) (sym records) in
        record {
          known = known_still;
          exact = λ e u zero_now. elim (cases_eq unit u) [
            | inl i ↦ subst (λ (n : ℕ). written_on n w.given w.output ≡ Some (bytes_on n w.records)) i (
                only_memory cause memory (subst (λ (n : ℕ). IsCounted cause n (failures_at w.counts unit)) none counted) (ap (λ (n : ℕ). failures_at w.counts n) i ∙ zero_now)
                (λ k. kept_as (bytes_on unit v.records) (written_on unit v.given v.output) (written_on unit w.given w.output) (kept.exact (onward e) unit none) k ∙ ap Some (same_bytes unit))
                )
            | inr n ↦ let other : u ≢ unit = λ h. n (sym h) in others u other ∙ kept.exact (onward e) u (sym (counts u other) ∙ zero_now) ∙ ap Some (same_bytes u)
          ];
          begun = λ e u. elim (cases_eq unit u) [
            | inl i ↦ let part : List ℕ = take wrote.0 (bytes ++ 10 ∷ []) in (
              part,
              subst (λ (n : ℕ). written_on n w.given w.output ≡ Some (bytes_on n w.records ++ part)) i (
                  grown_as (bytes_on unit v.records) part (written_on unit v.given v.output) (written_on unit w.given w.output) (kept.exact (onward e) unit none) wrote.1 ∙ ap (λ (x : List ℕ). Some (x ++ part)) (same_bytes unit)
                  ),
            )
            | inr n ↦ let b = kept.begun (onward e) u in (b.0, others u (λ h. n (sym h)) ∙ b.1 ∙ ap (λ (x : List ℕ). Some (x ++ b.0)) (same_bytes u))
          ];
        }

-- ---- units to which nothing was written yet

empty_known : (b : Bool) (bytes : List ℕ) (x : Option (List ℕ)) → IsTrue b → Keeps (exposed b bytes) x → x ≡ Some bytes
empty_known false bytes x e k = absurd (not_true e)
empty_known true bytes x e k = kept_some bytes x k

known_of : (bytes : List ℕ) (x : Option (List ℕ)) → x ≡ Some bytes → IsKnown x
known_of bytes x is = subst IsKnown (sym is) tt

standard_is : (b : Bool) (x : Option (List ℕ)) → x ≡ Some [] → (if b then x else Some []) ≡ Some []
standard_is true x is = is
standard_is false x is = refl

standard_known : (b : Bool) (x : Option (List ℕ)) → IsKnown x → IsKnown (if b then x else Some [])
standard_known true x h = h
standard_known false x h = tt

exposed_is : (b : Bool) (bytes : List ℕ) → IsTrue b → exposed b bytes ≡ Some bytes
exposed_is false bytes e = absurd (not_true e)
exposed_is true bytes e = refl

module _ {S : Type 0} (exposes : S → Bool) (v : FilesView S) where
  -- no file is given
  pub new_kept : (bytes : List ℕ) → Keeps (exposed (exposes v.system) bytes) v.input → Keeps (exposed (exposes v.system) []) v.output → v.given ≡ [] → v.records ≡ [] → IsKept exposes v
  new_kept bytes input output given records =
      let no_file : (u : ℕ) → file_on u v.given ≡ None = λ u. ap (file_on u) given in
      let written : IsTrue (exposes v.system) → (u : ℕ) → written_on u v.given v.output ≡ Some [] =
      λ e u. ap (λ (f : Option FileView). written_of f (standard 6 v.output (Some []) u)) (no_file u) ∙ standard_is (nat_eq 6 u) v.output (empty_known (exposes v.system) [] v.output e output) in
      let none : (u : ℕ) → Some (bytes_on u v.records) ≡ Some [] = λ u. ap (λ (rs : Records). Some (bytes_on u rs)) records in
      record {
        known = λ e u. subst (λ (f : Option FileView). IsKnown (left_of f (standard 5 v.input (Some []) u))) (sym (no_file u))
            (standard_known (nat_eq 5 u) v.input (known_of bytes v.input (empty_known (exposes v.system) bytes v.input e input)));
        exact = λ e u zero_now. written e u ∙ sym (none u);
        begun = λ e u. ([], written e u ∙ ap (λ (rs : Records). Some (bytes_on u rs ++ [])) (sym records));
      }

-- a file was given for a unit, or for want of memory not
module _ {S : Type 0} (exposes : S → Bool) (v w : FilesView S) (same : w.system ≡ v.system) (kept : IsKept exposes v) (unit : ℕ) (fresh : v.records ≡ []) (others : (u : ℕ) → u ≢ unit → file_on u w.given ≡ file_on u v.given)
    (input : w.input ≡ v.input) (output : w.output ≡ v.output) (records : w.records ≡ v.records) (counts : w.counts ≡ v.counts) where
  left_same : (u : ℕ) → file_on u w.given ≡ file_on u v.given → left_on u w.given w.input ≡ left_on u v.given v.input
  left_same u file = ap (λ (f : Option FileView). left_of f (standard 5 w.input (Some []) u)) file ∙ ap (λ (i : Option (List ℕ)). left_of (file_on u v.given) (standard 5 i (Some []) u)) input

  written_same : (u : ℕ) → file_on u w.given ≡ file_on u v.given → written_on u w.given w.output ≡ written_on u v.given v.output
  written_same u file = ap (λ (f : Option FileView). written_of f (standard 6 w.output (Some []) u)) file ∙ ap (λ (o : Option (List ℕ)). written_of (file_on u v.given) (standard 6 o (Some []) u)) output

  count_same : (u : ℕ) → failures_at w.counts u ≡ 0 → failures_at v.counts u ≡ 0
  count_same u none = ap (λ (cs : List ℕ). failures_at cs u) (sym counts) ∙ none

  bytes_same : (u : ℕ) → bytes_on u v.records ≡ bytes_on u w.records
  bytes_same u = ap (bytes_on u) (sym records)

  no_bytes : (u : ℕ) → [] ≡ bytes_on u w.records
  no_bytes u = sym (ap (bytes_on u) (records ∙ fresh))

  not_given : file_on unit w.given ≡ file_on unit v.given → IsKept exposes w
  not_given here =
      let files : (u : ℕ) → file_on u w.given ≡ file_on u v.given =
      λ u. elim (cases_eq unit u) [
        | inl i ↦ subst (λ (n : ℕ). file_on n w.given ≡ file_on n v.given) i here
        | inr n ↦ others u (λ h. n (sym h))
      ] in
      still_kept exposes v w same kept (λ u h. subst IsKnown (sym (left_same u (files u))) h)
      (λ u. keeps_of (written_on u v.given v.output) (written_on u w.given w.output) (written_same u (files u))) records count_same

  module _ (bytes : List ℕ) (f : FileView) (here : file_on unit w.given ≡ Some f) (left : f.left ≡ exposed (exposes v.system) bytes) (written : f.written ≡ exposed (exposes v.system) []) where
    still : IsTrue (exposes w.system) → IsTrue (exposes v.system)
    still = subst (λ (s : S). IsTrue (exposes s)) same

    known_here : IsTrue (exposes w.system) → IsKnown (left_on unit w.given w.input)
    known_here e =
        let is : left_on unit w.given w.input ≡ Some bytes = ap (λ (x : Option FileView). left_of x (standard 5 w.input (Some []) unit)) here ∙ left ∙ exposed_is (exposes v.system) bytes (still e) in
        subst IsKnown (sym is) tt

    none_here : IsTrue (exposes w.system) → written_on unit w.given w.output ≡ Some []
    none_here e = ap (λ (x : Option FileView). written_of x (standard 6 w.output (Some []) unit)) here ∙ written ∙ exposed_is (exposes v.system) [] (still e)

    is_given : IsKept exposes w
    is_given = record {
      known = λ e u. elim (cases_eq unit u) [
        | inl i ↦ subst (λ (n : ℕ). IsKnown (left_on n w.given w.input)) i (known_here e)
        | inr n ↦ subst IsKnown (sym (left_same u (others u (λ h. n (sym h))))) (kept.known (still e) u)
      ];
      exact = λ e u none. elim (cases_eq unit u) [
        | inl i ↦ subst (λ (n : ℕ). written_on n w.given w.output ≡ Some (bytes_on n w.records)) i (none_here e ∙ ap Some (no_bytes unit))
        | inr n ↦ written_same u (others u (λ h. n (sym h))) ∙ kept.exact (still e) u (count_same u none) ∙ ap Some (bytes_same u)
      ];
      begun = λ e u. elim (cases_eq unit u) [
        | inl i ↦ ([], subst (λ (n : ℕ). written_on n w.given w.output ≡ Some (bytes_on n w.records ++ [])) i (none_here e ∙ ap (λ (x : List ℕ). Some (x ++ [])) (no_bytes unit)))
        | inr n ↦ let b = kept.begun (still e) u in (b.0, written_same u (others u (λ h. n (sym h))) ∙ b.1 ∙ ap (λ (x : List ℕ). Some (x ++ b.0)) (bytes_same u))
      ];
    }

  pub given_kept : {T E : Type 0} (r : Result T E) (bytes : List ℕ) (f : FileView) → f.left ≡ exposed (exposes v.system) bytes → f.written ≡ exposed (exposes v.system) []
      → OnOk r (file_on unit w.given ≡ Some f) → OnErr r (file_on unit w.given ≡ file_on unit v.given) → IsKept exposes w
  given_kept (Ok x) bytes f left written here old = is_given bytes f here left written
  given_kept (Err x) bytes f left written here old = not_given old

-- ---- what is kept back was written

stream_keeps : (f : Option FileView) (b : Bool) (o o' : Option (List ℕ)) → Keeps o o' → Keeps (written_of f (if b then o else Some [])) (written_of f (if b then o' else Some []))
stream_keeps (Some f) b o o' k = keeps_same f.written
stream_keeps None true o o' k = k
stream_keeps None false o o' k = refl

pub flushed : (u : ℕ) (given given' : List (Option FileView)) (o o' : Option (List ℕ)) → ((output : Option (List ℕ)) → Keeps (written_on u given output) (written_on u given' output)) → Keeps o o' → Keeps (written_on u given o) (written_on u given' o')
flushed u given given' o o' files stream =
    keeps_keeps (written_on u given o) (written_on u given' o) (written_on u given' o') (files o) (stream_keeps (file_on u given') (nat_eq 6 u) o o' stream)

-- ---- a part of a record

pub begins_as : {T E : Type 0} (r : Result T E) (a b a' b' : Option (List ℕ)) (bytes : List ℕ) → a' ≡ a → b' ≡ b → OnErr r (AppendsBeginning a b bytes) → OnErr r (AppendsBeginning a' b' bytes)
begins_as (Ok x) a b a' b' bytes p q h = tt
begins_as (Err x) a b a' b' bytes p q h = (h.0, subst (λ (o : Option (List ℕ)). Appends o b' (take h.0 bytes)) (sym p) (subst (λ (o : Option (List ℕ)). Appends a o (take h.0 bytes)) (sym q) h.1))
