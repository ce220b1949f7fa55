-- A number that is read is the number that was written, and what was written is read again.
use Rattle.std.proofs.Common.{◌≡◌, ℕ, suc, ◌+◌, ◌^◌, ◌<◌, ◌≤◌, Bool, true, false, cond, ltb, List, [], ◌∷◌, ◌++◌, length, take, drop, Option, Some, None, Result, Ok, Err, refl, sym, ap, subst, ◌∙◌, append_assoc, arith, inl, inr}
use Rattle.std.specs.Int.{Width, w16, w32, w64, byte_len, from_be_bytes}
use Rattle.std.proofs.lemmas.Bool.{cases_lt, ltb-false, le-ltb}
use Rattle.std.proofs.lemmas.List.{take_at, drop_at, take-append-drop, length-append, length-take, get_or-drop, get_or-take, get_or_past}
use Rattle.std.proofs.lemmas.Nat.{be_bytes_2, be_bytes_4, be_bytes_8, from_be_bytes-to_be_bytes_2, from_be_bytes-to_be_bytes_4, from_be_bytes-to_be_bytes_8}
use Rattle.model.specs.declared.format.Miss.{Miss}
use Rattle.model.specs.declared.format.FormatRule.{FormatRule}
use Rattle.model.specs.Module.Spelling.{u16, u32, u64}
use Rattle.model.specs.Module.Reading.{◌>>=◌, ◌>>>◌, number, number_at, required, byte, checked}
use Rattle.model.specs.Laws.OneSpelling.{IsBytes}

pub IsBytes-drop : (n : ℕ) (bytes : List ℕ) → IsBytes bytes → IsBytes (drop n bytes)
IsBytes-drop n bytes h i = rw get_or-drop (h (n + i))

pub IsBytes-take : (n : ℕ) (bytes : List ℕ) → IsBytes bytes → IsBytes (take n bytes)
IsBytes-take n bytes h i =
    elim (cases_lt i n) [
      | inl lt ↦ rw (get_or-take n bytes i 0 lt) (h i)
      | inr le ↦ rw (get_or_past (take n bytes) i 0 (omega (arith, length-take n bytes))) (omega arith)
    ]

pub IsBytes-rest : (b : ℕ) (bytes : List ℕ) → IsBytes (b ∷ bytes) → IsBytes bytes
IsBytes-rest b bytes h i = h (suc i)

pub some_bind : {A B : Type 0} (r : Option A) (f : A → Option B) (y : B) → (r >>> f) ≡ Some y → (x : A) × (r ≡ Some x) × (f x ≡ Some y)
some_bind (Some x) f y e = (x, refl, e)
some_bind None f y e = absurd cc

pub ok_bind : {A B : Type 0} (r : Result A Miss) (f : A → Result B Miss) (y : B) → (r >>= f) ≡ Ok y → (x : A) × (r ≡ Ok x) × (f x ≡ Ok y)
ok_bind (Ok x) f y e = (x, refl, e)
ok_bind (Err d) f y e = absurd cc

abbrev some : {A : Type 0} → A → Option A
some x = Some x

pub some_is : {A : Type 0} (x y : A) → some x ≡ some y → x ≡ y
some_is x y e = cc

abbrev done : {A : Type 0} → A → Result A Miss
done x = Ok x

pub ok_is : {A : Type 0} (x y : A) → done x ≡ done y → x ≡ y
ok_is x y e = cc

pub guard_some : {A : Type 0} (b : Bool) (x y : A) → cond b None (Some x) ≡ Some y → (b ≡ false) × (x ≡ y)
guard_some true x y e = absurd cc
guard_some false x y e = (refl, cc)

pub guard_ok : {A : Type 0} (b : Bool) (d : Miss) (x y : A) → cond b (Err d) (Ok x) ≡ Ok y → (b ≡ false) × (x ≡ y)
guard_ok true d x y e = absurd cc
guard_ok false d x y e = (refl, cc)

pub checked_ok : {A : Type 0} (b : Bool) (rule : FormatRule) (bytes : List ℕ) (x y : A) → checked b rule bytes x ≡ Ok y → (b ≡ true) × (x ≡ y)
checked_ok true rule bytes x y e = (refl, cc)
checked_ok false rule bytes x y e = absurd cc

pub required_ok : {A : Type 0} (r : Option A) (y : A) → required r ≡ Ok y → r ≡ Some y
required_ok (Some x) y e = cc
required_ok None y e = absurd cc

-- what a reader took from the front
pub record Takes (bytes text rest : List ℕ) : Type 0 where
  pub parts : bytes ≡ text ++ rest
  pub rest_fits : IsBytes rest

pub Takes-then : (a x b y c : List ℕ) → Takes a x b → Takes b y c → Takes a (x ++ y) c
Takes-then a x b y c p q = record { parts = p.parts ∙ ap (λ (t : List ℕ). x ++ t) q.parts ∙ sym (append_assoc x y c); rest_fits = q.rest_fits }

-- ---- numbers

pub record IsWide (w : Width) (limit : ℕ) (spell : ℕ → List ℕ) : Type 0 where
  pub len : (n : ℕ) → length (spell n) ≡ byte_len w
  pub back : (bytes : List ℕ) → length bytes ≡ byte_len w → IsBytes bytes → spell (from_be_bytes w bytes) ≡ bytes
  pub again : (n : ℕ) → n < limit → from_be_bytes w (spell n) ≡ n
  pub below : (bytes : List ℕ) → IsBytes bytes → from_be_bytes w bytes < limit

pub wide16 : IsWide w16 (2 ^ 16) u16
unfolding u16
wide16 = record {
  len = λ n. refl;
  back = λ bytes len fits. be_bytes_2 bytes _ len fits refl;
  again = λ n lt. from_be_bytes-to_be_bytes_2 n lt;
  below = λ bytes fits. omega (arith, fits 0, fits 1);
}

pub wide32 : IsWide w32 (2 ^ 32) u32
unfolding u32
wide32 = record {
  len = λ n. refl;
  back = λ bytes len fits. be_bytes_4 bytes _ len fits refl;
  again = λ n lt. from_be_bytes-to_be_bytes_4 n lt;
  below = λ bytes fits. omega (arith, fits 0, fits 1, fits 2, fits 3);
}

pub wide64 : IsWide w64 (2 ^ 64) u64
unfolding u64
wide64 = record {
  len = λ n. refl;
  back = λ bytes len fits. be_bytes_8 bytes _ len fits refl;
  again = λ n lt. from_be_bytes-to_be_bytes_8 n lt;
  below = λ bytes fits. omega (arith, fits 0, fits 1, fits 2, fits 3, fits 4, fits 5, fits 6, fits 7);
}

pub number_takes : (w : Width) (limit : ℕ) (spell : ℕ → List ℕ) (wide : IsWide w limit spell) (bytes : List ℕ) (x : ℕ × List ℕ) → IsBytes bytes → number w bytes ≡ Some x → Takes bytes (spell x.0) x.1 × (x.0 < limit)
unfolding number
number_takes w limit spell wide bytes x fits e =
    let g = guard_some (ltb (length bytes) (byte_len w)) (from_be_bytes w (take (byte_len w) bytes), drop (byte_len w) bytes) x e in
    let long : byte_len w ≤ length bytes = ltb-false _ _ g.0 in
    let front : spell (from_be_bytes w (take (byte_len w) bytes)) ≡ take (byte_len w) bytes = wide.back (take (byte_len w) bytes) (omega (arith, length-take (byte_len w) bytes)) (IsBytes-take (byte_len w) bytes fits) in
    let parts : bytes ≡ spell (from_be_bytes w (take (byte_len w) bytes)) ++ drop (byte_len w) bytes = rw front (sym (take-append-drop (byte_len w) bytes)) in
    subst (λ (y : ℕ × List ℕ). Takes bytes (spell y.0) y.1 × (y.0 < limit)) g.1
    (record { parts = parts; rest_fits = IsBytes-drop (byte_len w) bytes fits }, wide.below (take (byte_len w) bytes) (IsBytes-take (byte_len w) bytes fits))

pub number_again : (w : Width) (limit : ℕ) (spell : ℕ → List ℕ) (wide : IsWide w limit spell) (n : ℕ) (rest : List ℕ) → n < limit → number w (spell n ++ rest) ≡ Some (n, rest)
unfolding number
number_again w limit spell wide n rest lt =
    let len = wide.len n in
    let long : ltb (length (spell n ++ rest)) (byte_len w) ≡ false = le-ltb _ _ (omega (arith, length-append (spell n) rest)) in
    rw (long, take_at (spell n) rest (byte_len w) len, drop_at (spell n) rest (byte_len w) len, wide.again n lt) refl

pub u32_takes : (bytes : List ℕ) (x : ℕ × List ℕ) → IsBytes bytes → number_at w32 bytes ≡ Ok x → Takes bytes (u32 x.0) x.1 × (x.0 < 2 ^ 32)
unfolding number_at
u32_takes bytes x fits e = number_takes w32 (2 ^ 32) u32 wide32 bytes x fits (required_ok (number w32 bytes) x e)

pub u32_again : (n : ℕ) (rest : List ℕ) → n < 2 ^ 32 → number_at w32 (u32 n ++ rest) ≡ Ok (n, rest)
unfolding number_at
u32_again n rest lt = rw (number_again w32 (2 ^ 32) u32 wide32 n rest lt) refl

pub byte_takes : (bytes : List ℕ) (x : ℕ × List ℕ) → IsBytes bytes → byte bytes ≡ Some x → Takes bytes (x.0 ∷ []) x.1 × (x.0 < 2 ^ 8)
byte_takes [] x fits e = absurd cc
byte_takes (b ∷ bytes) x fits e =
    subst (λ (y : ℕ × List ℕ). Takes (b ∷ bytes) (y.0 ∷ []) y.1 × (y.0 < 2 ^ 8)) (some_is (b, bytes) x e) (record { parts = refl; rest_fits = IsBytes-rest b bytes fits }, fits 0)
