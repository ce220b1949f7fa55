-- The readers of operands, one law each way for each kind of operand.
use Rattle.std.proofs.Common.{◌≡◌, ℕ, zero, suc, ◌+◌, ◌^◌, ◌<◌, List, [], ◌∷◌, ◌++◌, Option, Some, refl, sym, ap, subst, ◌∙◌, append_assoc, arith, rules}
use Rattle.std.specs.Prelude.{slice_get, ℤ}
use Rattle.std.specs.Int.{w16, w32, w64, cast_signed, cast_unsigned}
use Rattle.std.specs.Int.RustNames.{FitsSigned}
use Rattle.std.proofs.lemmas.Int.{of_z-to_z, to_z-of_z}
use Rattle.model.specs.declared.primitives.PrimId.{PrimId}
use Rattle.model.specs.Language.Names.{prims}
use Rattle.model.specs.Module.Codes.{prim_code}
use Rattle.model.specs.Module.Spelling.{u16, u32, u64}
use Rattle.model.specs.Module.Reading.{◌>>>◌, number, byte, alone, wide, short, long, whole_number, distance, call_operands, choice, prim}
use Rattle.model.specs.Laws.OneSpelling.{IsBytes}
use Rattle.model.proofs.Module.SpeltNumbers.{some_bind, some_is, Takes, Takes-then, wide16, wide32, wide64, number_takes, number_again, byte_takes}

-- what reader k takes is spelt so
abbrev pub IsReader : {I : Type 0} → (I → ℕ) → (I → List ℕ) → (I → Type 0) → ℕ → (List ℕ → Option (I × List ℕ)) → Type 0
IsReader {I = I} op ops Fits k r = (bytes : List ℕ) (x : I × List ℕ) → IsBytes bytes → r bytes ≡ Some x → Takes bytes (ops x.0) x.1 × (op x.0 ≡ k) × Fits x.0

-- a list of items whose codes are their places
abbrev pub AreCodes : {A : Type 0} → (A → ℕ) → ℕ → List A → Type 0
AreCodes code k [] = Unit {0}
AreCodes code k (x ∷ xs) = (code x ≡ k) × AreCodes code (suc k) xs

pub code_is : {A : Type 0} (code : A → ℕ) (k : ℕ) (xs : List A) (b : ℕ) (x : A) → AreCodes code k xs → slice_get xs b ≡ Some x → code x ≡ b + k
code_is code k [] b x h e = absurd cc
code_is code k (y ∷ ys) zero x h e =
    let r : code x ≡ k = ap code (sym (some_is y x e)) ∙ h.0 in
    omega (arith, r)
code_is code k (y ∷ ys) (suc b) x h e =
    let r = code_is code (suc k) ys b x h.1 e in
    omega (arith, r)

module _ {I : Type 0} (op : I → ℕ) (ops : I → List ℕ) (Fits : I → Type 0) (k : ℕ) where
  pub alone_reads : (i : I) → op i ≡ k → ops i ≡ [] → Fits i → IsReader op ops Fits k (alone i)
  unfolding alone
  alone_reads i o s f bytes x fits e =
      subst (λ (y : I × List ℕ). Takes bytes (ops y.0) y.1 × (op y.0 ≡ k) × Fits y.0) (some_is (i, bytes) x e) (record { parts = rw s refl; rest_fits = fits }, o, f)

  pub wide_reads : (f : ℕ → I) → ((n : ℕ) → op (f n) ≡ k) → ((n : ℕ) → ops (f n) ≡ u32 n) → ((n : ℕ) → n < 2 ^ 32 → Fits (f n)) → IsReader op ops Fits k (wide f)
  unfolding wide
  wide_reads f o s h bytes x fits e =
      let a = some_bind (number w32 bytes) (λ n. Some (f n.0, n.1)) x e in
      let t = number_takes w32 (2 ^ 32) u32 wide32 bytes a.0 fits a.1 in
      subst (λ (y : I × List ℕ). Takes bytes (ops y.0) y.1 × (op y.0 ≡ k) × Fits y.0) (some_is (f a.0.0, a.0.1) x a.2) (rw (s a.0.0) t.0, o a.0.0, h a.0.0 t.1)

  pub short_reads : (f : ℕ → I) → ((n : ℕ) → op (f n) ≡ k) → ((n : ℕ) → ops (f n) ≡ u16 n) → ((n : ℕ) → n < 2 ^ 16 → Fits (f n)) → IsReader op ops Fits k (short f)
  unfolding short
  short_reads f o s h bytes x fits e =
      let a = some_bind (number w16 bytes) (λ n. Some (f n.0, n.1)) x e in
      let t = number_takes w16 (2 ^ 16) u16 wide16 bytes a.0 fits a.1 in
      subst (λ (y : I × List ℕ). Takes bytes (ops y.0) y.1 × (op y.0 ≡ k) × Fits y.0) (some_is (f a.0.0, a.0.1) x a.2) (rw (s a.0.0) t.0, o a.0.0, h a.0.0 t.1)

  pub long_reads : (f : ℕ → I) → ((n : ℕ) → op (f n) ≡ k) → ((n : ℕ) → ops (f n) ≡ u64 n) → ((n : ℕ) → n < 2 ^ 64 → Fits (f n)) → IsReader op ops Fits k (long f)
  unfolding long
  long_reads f o s h bytes x fits e =
      let a = some_bind (number w64 bytes) (λ n. Some (f n.0, n.1)) x e in
      let t = number_takes w64 (2 ^ 64) u64 wide64 bytes a.0 fits a.1 in
      subst (λ (y : I × List ℕ). Takes bytes (ops y.0) y.1 × (op y.0 ≡ k) × Fits y.0) (some_is (f a.0.0, a.0.1) x a.2) (rw (s a.0.0) t.0, o a.0.0, h a.0.0 t.1)

  pub whole_reads : (f : ℤ → I) → ((z : ℤ) → op (f z) ≡ k) → ((z : ℤ) → ops (f z) ≡ u64 (cast_unsigned w64 z)) → ((z : ℤ) → FitsSigned w64 z → Fits (f z)) → IsReader op ops Fits k (whole_number f)
  unfolding whole_number
  whole_reads f o s h bytes x fits e =
      let a = some_bind (number w64 bytes) (λ n. Some (f (cast_signed w64 n.0), n.1)) x e in
      let t = number_takes w64 (2 ^ 64) u64 wide64 bytes a.0 fits a.1 in
      let back : cast_unsigned w64 (cast_signed w64 a.0.0) ≡ a.0.0 = of_z-to_z w64 a.0.0 t.1 in
      let fine : FitsSigned w64 (cast_signed w64 a.0.0) = search (rules, t.1) in
      subst (λ (y : I × List ℕ). Takes bytes (ops y.0) y.1 × (op y.0 ≡ k) × Fits y.0) (some_is (f (cast_signed w64 a.0.0), a.0.1) x a.2) (rw (s (cast_signed w64 a.0.0), back) t.0, o (cast_signed w64 a.0.0), h (cast_signed w64 a.0.0) fine)

  pub distance_reads : (f : ℤ → I) → ((z : ℤ) → op (f z) ≡ k) → ((z : ℤ) → ops (f z) ≡ u32 (cast_unsigned w32 z)) → ((z : ℤ) → FitsSigned w32 z → Fits (f z)) → IsReader op ops Fits k (distance f)
  unfolding distance
  distance_reads f o s h bytes x fits e =
      let a = some_bind (number w32 bytes) (λ n. Some (f (cast_signed w32 n.0), n.1)) x e in
      let t = number_takes w32 (2 ^ 32) u32 wide32 bytes a.0 fits a.1 in
      let back : cast_unsigned w32 (cast_signed w32 a.0.0) ≡ a.0.0 = of_z-to_z w32 a.0.0 t.1 in
      let fine : FitsSigned w32 (cast_signed w32 a.0.0) = search (rules, t.1) in
      subst (λ (y : I × List ℕ). Takes bytes (ops y.0) y.1 × (op y.0 ≡ k) × Fits y.0) (some_is (f (cast_signed w32 a.0.0), a.0.1) x a.2) (rw (s (cast_signed w32 a.0.0), back) t.0, o (cast_signed w32 a.0.0), h (cast_signed w32 a.0.0) fine)

  pub call_reads : (f : ℕ → ℕ → I) → ((s n : ℕ) → op (f s n) ≡ k) → ((s n : ℕ) → ops (f s n) ≡ u32 s ++ u16 n) → ((s n : ℕ) → s < 2 ^ 32 → n < 2 ^ 16 → Fits (f s n)) → IsReader op ops Fits k (call_operands f)
  unfolding call_operands
  call_reads f o s h bytes x fits e =
      let a = some_bind (number w32 bytes) (λ s. number w16 s.1 >>> λ n. Some (f s.0 n.0, n.1)) x e in
      let b = some_bind (number w16 a.0.1) (λ n. Some (f a.0.0 n.0, n.1)) x a.2 in
      let t = number_takes w32 (2 ^ 32) u32 wide32 bytes a.0 fits a.1 in
      let u = number_takes w16 (2 ^ 16) u16 wide16 a.0.1 b.0 t.0.rest_fits b.1 in
      let both = Takes-then bytes (u32 a.0.0) a.0.1 (u16 b.0.0) b.0.1 t.0 u.0 in
      subst (λ (y : I × List ℕ). Takes bytes (ops y.0) y.1 × (op y.0 ≡ k) × Fits y.0) (some_is (f a.0.0 b.0.0, b.0.1) x b.2) (rw (s a.0.0 b.0.0) both, o a.0.0 b.0.0, h a.0.0 b.0.0 t.1 u.1)

  pub choice_reads : {A : Type 0} (xs : List A) (code : A → ℕ) (f : A → I) → AreCodes code 0 xs → ((a : A) → op (f a) ≡ k) → ((a : A) → ops (f a) ≡ code a ∷ []) → ((a : A) → Fits (f a)) → IsReader op ops Fits k (choice xs f)
  unfolding choice
  choice_reads xs code f codes o s h bytes x fits e =
      let a = some_bind (byte bytes) (λ b. slice_get xs b.0 >>> λ x. Some (f x, b.1)) x e in
      let b = some_bind (slice_get xs a.0.0) (λ x. Some (f x, a.0.1)) x a.2 in
      let t = byte_takes bytes a.0 fits a.1 in
      let r = code_is code 0 xs a.0.0 b.0 codes b.1 in
      let same : code b.0 ≡ a.0.0 = omega (arith, r) in
      subst (λ (y : I × List ℕ). Takes bytes (ops y.0) y.1 × (op y.0 ≡ k) × Fits y.0) (some_is (f b.0, a.0.1) x b.2) (rw (s b.0, same) t.0, o b.0, h b.0)

  pub prim_reads : (f : PrimId → ℕ → I) → AreCodes prim_code 0 prims → ((p : PrimId) (n : ℕ) → op (f p n) ≡ k) → ((p : PrimId) (n : ℕ) → ops (f p n) ≡ prim_code p ∷ n ∷ []) → ((p : PrimId) (n : ℕ) → n < 2 ^ 8 → Fits (f p n)) → IsReader op ops Fits k (prim f)
  unfolding prim
  prim_reads f codes o s h bytes x fits e =
      let a = some_bind (byte bytes) (λ b. slice_get prims b.0 >>> λ p. byte b.1 >>> λ n. Some (f p n.0, n.1)) x e in
      let b = some_bind (slice_get prims a.0.0) (λ p. byte a.0.1 >>> λ n. Some (f p n.0, n.1)) x a.2 in
      let c = some_bind (byte a.0.1) (λ n. Some (f b.0 n.0, n.1)) x b.2 in
      let t = byte_takes bytes a.0 fits a.1 in
      let u = byte_takes a.0.1 c.0 t.0.rest_fits c.1 in
      let both = Takes-then bytes (a.0.0 ∷ []) a.0.1 (c.0.0 ∷ []) c.0.1 t.0 u.0 in
      let r = code_is prim_code 0 prims a.0.0 b.0 codes b.1 in
      let same : prim_code b.0 ≡ a.0.0 = omega (arith, r) in
      subst (λ (y : I × List ℕ). Takes bytes (ops y.0) y.1 × (op y.0 ≡ k) × Fits y.0) (some_is (f b.0 c.0.0, c.0.1) x c.2) (rw (s b.0 c.0.0, same) both, o b.0 c.0.0, h b.0 c.0.0 u.1)

-- ---- and the other way

module _ {I : Type 0} where
  pub wide_again : (f : ℕ → I) (n : ℕ) (rest : List ℕ) → n < 2 ^ 32 → wide f (u32 n ++ rest) ≡ Some (f n, rest)
  unfolding wide
  wide_again f n rest lt = rw (number_again w32 (2 ^ 32) u32 wide32 n rest lt) refl

  pub short_again : (f : ℕ → I) (n : ℕ) (rest : List ℕ) → n < 2 ^ 16 → short f (u16 n ++ rest) ≡ Some (f n, rest)
  unfolding short
  short_again f n rest lt = rw (number_again w16 (2 ^ 16) u16 wide16 n rest lt) refl

  pub long_again : (f : ℕ → I) (n : ℕ) (rest : List ℕ) → n < 2 ^ 64 → long f (u64 n ++ rest) ≡ Some (f n, rest)
  unfolding long
  long_again f n rest lt = rw (number_again w64 (2 ^ 64) u64 wide64 n rest lt) refl

  pub whole_again : (f : ℤ → I) (z : ℤ) (rest : List ℕ) → FitsSigned w64 z → whole_number f (u64 (cast_unsigned w64 z) ++ rest) ≡ Some (f z, rest)
  unfolding whole_number
  whole_again f z rest h =
      let lt : cast_unsigned w64 z < 2 ^ 64 = search (rules, h) in
      rw (number_again w64 (2 ^ 64) u64 wide64 (cast_unsigned w64 z) rest lt, to_z-of_z w64 z h) refl

  pub distance_again : (f : ℤ → I) (z : ℤ) (rest : List ℕ) → FitsSigned w32 z → distance f (u32 (cast_unsigned w32 z) ++ rest) ≡ Some (f z, rest)
  unfolding distance
  distance_again f z rest h =
      let lt : cast_unsigned w32 z < 2 ^ 32 = search (rules, h) in
      rw (number_again w32 (2 ^ 32) u32 wide32 (cast_unsigned w32 z) rest lt, to_z-of_z w32 z h) refl

  pub call_again : (f : ℕ → ℕ → I) (s n : ℕ) (rest : List ℕ) → s < 2 ^ 32 → n < 2 ^ 16 → call_operands f ((u32 s ++ u16 n) ++ rest) ≡ Some (f s n, rest)
  unfolding call_operands
  call_again f s n rest ls ln =
      ap (call_operands f) (append_assoc (u32 s) (u16 n) rest) ∙ rw (number_again w32 (2 ^ 32) u32 wide32 s (u16 n ++ rest) ls, number_again w16 (2 ^ 16) u16 wide16 n rest ln) refl

  pub choice_again : {A : Type 0} (xs : List A) (b : ℕ) (f : A → I) (a : A) (rest : List ℕ) → slice_get xs b ≡ Some a → choice xs f (b ∷ rest) ≡ Some (f a, rest)
  unfolding choice
  choice_again xs b f a rest e = rw e refl

  pub prim_again : (f : PrimId → ℕ → I) (p : PrimId) (n : ℕ) (rest : List ℕ) → slice_get prims (prim_code p) ≡ Some p → prim f (prim_code p ∷ n ∷ rest) ≡ Some (f p n, rest)
  unfolding prim
  prim_again f p n rest e = rw e refl
