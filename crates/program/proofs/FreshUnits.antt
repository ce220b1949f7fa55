-- Units to which files are given one by one.
use Rattle.std.proofs.Common.{◌≡◌, ◌≢◌, ◌∙◌, ℕ, suc, ◌+◌, ◌<◌, List, [], ◌∷◌, ◌++◌, length, take, get_or, Bool, true, false, Option, Some, None, Result, Ok, Err, nat_eq, replicate, refl, sym, ap, subst, inl, inr, arith}
use Rattle.std.specs.Prelude.{OnOk, if◌then◌else◌}
use Rattle.std.specs.Result.{is_err}
use Rattle.std.proofs.Math.Seq.{take-suc}
use Rattle.std.proofs.lemmas.Bool.{cases_eq}
use Rattle.std.proofs.lemmas.Bool.Decides.{nat_tests}
use Rattle.std.specs.Io.KnownBytes.{Keeps}
use Rattle.unit_io.specs.Files.{FilesView, file_on, left_of, left_on, standard}
use Rattle.unit_io.specs.Sides.{exposed}
use Rattle.unit_io.specs.Views.{FileView}
use Rattle.unit_io.proofs.KnownSteps.{keeps_same}
use Rattle.driver.specs.declared.words.UnitFile.{UnitFile}
use Rattle.program.specs.Fresh.{AreFresh, first_bytes, bytes_of, name_for, one_of}

ok_holds : {T E : Type 0} (r : Result T E) (P : Type 0) → false ≡ is_err r → OnOk r P → P
ok_holds (Ok x) P fine h = h
ok_holds (Err x) P fine h = absurd (cc)

one_none : (o : Option (List ℕ)) → one_of o None ≡ o
one_none None = refl
one_none (Some x) = refl

-- the name of the file that is given last, and of each other
named_last : (f : UnitFile) (files : List UnitFile) → name_for f.unit (files ++ f ∷ []) ≡ Some f.file.now
named_last f [] = grind (arith, nat_tests)
named_last f (g ∷ gs) = ap (λ (o : Option (List ℕ)). one_of o (if nat_eq g.unit f.unit then Some g.file.now else None)) (named_last f gs)

named_before : (f : UnitFile) (files : List UnitFile) (unit : ℕ) → unit ≢ f.unit → name_for unit (files ++ f ∷ []) ≡ name_for unit files
named_before f [] unit n = let other : f.unit ≢ unit = (λ h. n (sym h)) in grind (arith, nat_tests, other)
named_before f (g ∷ gs) unit n = ap (λ (o : Option (List ℕ)). one_of o (if nat_eq g.unit unit then Some g.file.now else None)) (named_before f gs unit n)

module _ {S : Type 0} (exposes : S → Bool) (input : S → List ℕ) (source : S → List ℕ → List ℕ) (system : S) where
  stream_left : (b : Bool) (unit : ℕ) (bytes : List ℕ) (x : Option (List ℕ)) → Keeps (exposed b bytes) x → Keeps (exposed b (if nat_eq 5 unit then bytes else [])) (standard 5 x (Some []) unit)
  stream_left b unit bytes x k = elim (cases_eq 5 unit) [
    | inl e ↦ subst (λ (n : ℕ). Keeps (exposed b (if nat_eq 5 n then bytes else [])) (standard 5 x (Some []) n)) e k
    | inr n ↦ no_stream b (nat_eq 5 unit) bytes x (grind (arith, nat_tests, n))
  ] where
    no_stream : (b t : Bool) (bytes : List ℕ) (x : Option (List ℕ)) → t ≡ false → Keeps (exposed b (if t then bytes else [])) (if t then x else Some [])
    no_stream true true bytes x e = absurd (cc)
    no_stream false true bytes x e = tt
    no_stream true false bytes x e = refl
    no_stream false false bytes x e = tt

  pub none_given : (v : FilesView S) → v.system ≡ system → Keeps (exposed (exposes system) (input system)) v.input → v.refused ≡ false → v.given ≡ [] → v.counts ≡ replicate 256 0 → v.records ≡ []
      → AreFresh exposes input source system [] v
  none_given v same keeps sound given counts records = record {
    of_system = same;
    left = λ unit. subst (λ (gs : List (Option FileView)). Keeps (exposed (exposes system) (first_bytes (input system) (source system) [] unit)) (left_on unit gs v.input)) (sym given) (stream_left (exposes system) unit (input system) v.input keeps);
    records = records;
    counts = counts;
    sound = sound;
  }

  one_more : (files : List UnitFile) (f : UnitFile) (v w : FilesView S) → AreFresh exposes input source system files v
      → file_on f.unit w.given ≡ Some (record { left = exposed (exposes v.system) (source v.system f.file.now); written = exposed (exposes v.system) []; back = [] })
      → ((u : ℕ) → u ≢ f.unit → file_on u w.given ≡ file_on u v.given) → w.system ≡ v.system → w.input ≡ v.input → w.refused ≡ v.refused → w.counts ≡ v.counts → w.records ≡ []
      → AreFresh exposes input source system (files ++ f ∷ []) w
  one_more files f v w fresh given others same_system same_input same_refused same_counts records = record {
    of_system = same_system ∙ fresh.of_system;
    left = λ unit. elim (cases_eq f.unit unit) [
      | inl e ↦ subst (λ (n : ℕ). Keeps (exposed (exposes system) (first_bytes (input system) (source system) (files ++ f ∷ []) n)) (left_on n w.given w.input)) e here
      | inr n ↦ there unit (λ h. n (sym h))
    ];
    records = records;
    counts = same_counts ∙ fresh.counts;
    sound = same_refused ∙ fresh.sound;
  } where
    here : Keeps (exposed (exposes system) (first_bytes (input system) (source system) (files ++ f ∷ []) f.unit)) (left_on f.unit w.given w.input)
    here =
        let bytes : first_bytes (input system) (source system) (files ++ f ∷ []) f.unit ≡ source system f.file.now =
        ap (λ (o : Option (List ℕ)). bytes_of o (source system) (if nat_eq 5 f.unit then input system else [])) (named_last f files) in
        let left : left_on f.unit w.given w.input ≡ exposed (exposes system) (source system f.file.now) =
        ap (λ (o : Option FileView). left_of o (standard 5 w.input (Some []) f.unit)) given ∙ ap (λ (s : S). exposed (exposes s) (source s f.file.now)) fresh.of_system in
        subst (λ (bs : List ℕ). Keeps (exposed (exposes system) bs) (left_on f.unit w.given w.input)) (sym bytes)
        (subst (Keeps (exposed (exposes system) (source system f.file.now))) (sym left) (keeps_same (exposed (exposes system) (source system f.file.now))))

    there : (unit : ℕ) → unit ≢ f.unit → Keeps (exposed (exposes system) (first_bytes (input system) (source system) (files ++ f ∷ []) unit)) (left_on unit w.given w.input)
    there unit n =
        let bytes : first_bytes (input system) (source system) (files ++ f ∷ []) unit ≡ first_bytes (input system) (source system) files unit =
        ap (λ (o : Option (List ℕ)). bytes_of o (source system) (if nat_eq 5 unit then input system else [])) (named_before f files unit n) in
        let left : left_on unit w.given w.input ≡ left_on unit v.given v.input =
        ap (λ (o : Option FileView). left_of o (standard 5 w.input (Some []) unit)) (others unit n) ∙ ap (λ (i : Option (List ℕ)). left_of (file_on unit v.given) (standard 5 i (Some []) unit)) same_input in
        subst (λ (bs : List ℕ). Keeps (exposed (exposes system) bs) (left_on unit w.given w.input)) (sym bytes)
        (subst (Keeps (exposed (exposes system) (first_bytes (input system) (source system) files unit))) (sym left) (fresh.left unit))

  -- the next of the files was given
  pub next_given : {T E : Type 0} (r : Result T E) (files : List UnitFile) (i : ℕ) (d : UnitFile) (v w : FilesView S) → i < length files → false ≡ is_err r → AreFresh exposes input source system (take i files) v
      → OnOk r (file_on (get_or files i d).unit w.given ≡ Some (record { left = exposed (exposes v.system) (source v.system (get_or files i d).file.now); written = exposed (exposes v.system) []; back = [] }))
      → ((u : ℕ) → u ≢ (get_or files i d).unit → file_on u w.given ≡ file_on u v.given) → w.system ≡ v.system → w.input ≡ v.input → w.refused ≡ v.refused → w.counts ≡ v.counts → w.records ≡ []
      → AreFresh exposes input source system (take (i + 1) files) w
  next_given r files i d v w within ok fresh given others same_system same_input same_refused same_counts records =
      let next : i + 1 ≡ suc i = omega arith in
      let more : take (i + 1) files ≡ take i files ++ get_or files i d ∷ [] = ap (λ (n : ℕ). take n files) next ∙ take-suc files i d within in
      subst (λ (fs : List UnitFile). AreFresh exposes input source system fs w) (sym more)
      (one_more (take i files) (get_or files i d) v w fresh (ok_holds r _ ok given) others same_system same_input same_refused same_counts records)
