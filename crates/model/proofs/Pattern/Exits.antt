-- Codes whose ways out lead further.
use Rattle.std.proofs.Common.{◌≡◌, ℕ, zero, suc, ◌+◌, [], ◌∷◌, ◌++◌, length, refl, sym, ◌∙◌, ap, arith, ◌≤◌, ◌<◌, ◌⊎◌, inl, inr, length-append}
use Rattle.std.specs.Prelude.{◌≢◌, pos, negsuc, if◌then◌else◌}
use Rattle.std.proofs.lemmas.Bool.{eq-eqb, ne_eqb}
use Rattle.std.proofs.lemmas.List.{append-nil}
use Rattle.model.specs.Pattern.Patterns.{Instr, Split, Jmp}
use Rattle.model.specs.Pattern.Steps.{Code}
use Rattle.model.specs.Pattern.Code.{led_past, exit_past, exits_past}

-- its distance leads at most r past the n instructions that are left
abbrev pub LeadsWithin : (r n : ℕ) → Instr → Type 0
LeadsWithin r n (Split (pos d)) = d ≤ n + r
LeadsWithin r n (Jmp (pos d)) = d ≤ n + r
LeadsWithin r n i = Unit {0}

-- each distance leads at most r past the end
abbrev pub Within : ℕ → Code → Type 0
Within r [] = Unit {0}
Within r (i ∷ is) = LeadsWithin r (length (i ∷ is)) i × Within r is

equal_or_not : (m n : ℕ) → (m ≡ n) ⊎ (m ≢ n)
equal_or_not zero zero = inl refl
equal_or_not zero (suc n) = inr (λ e. absurd (omega (arith, e)))
equal_or_not (suc m) zero = inr (λ e. absurd (omega (arith, e)))
equal_or_not (suc m) (suc n) = go (equal_or_not m n)
  where
    go : (m ≡ n) ⊎ (m ≢ n) → (suc m ≡ suc n) ⊎ (suc m ≢ suc n)
    go (inl e) = inl (ap suc e)
    go (inr f) = inr (λ e. f (omega (arith, e)))

pub led_here : (k n d : ℕ) → d ≡ n → led_past k n d ≡ d + k
led_here k n d e = ap (λ b. if b then d + k else d) (eq-eqb d n e)

pub led_not : (k n d : ℕ) → d ≢ n → led_past k n d ≡ d
led_not k n d e = ap (λ b. if b then d + k else d) (ne_eqb d n e)

led_within : (k n d : ℕ) → d ≤ n → led_past k n d ≤ n + k
led_within k n d h = go (equal_or_not d n)
  where
    go : (d ≡ n) ⊎ (d ≢ n) → led_past k n d ≤ n + k
    go (inl e) = omega (arith, led_here k n d e)
    go (inr e) = omega (arith, led_not k n d e)

-- by nothing
led_none : (n d : ℕ) → led_past 0 n d ≡ d
led_none n d = go (equal_or_not d n)
  where
    go : (d ≡ n) ⊎ (d ≢ n) → led_past 0 n d ≡ d
    go (inl e) = omega (arith, led_here 0 n d e)
    go (inr e) = led_not 0 n d e

-- twice
led_twice : (k m n d : ℕ) → d ≤ n → 0 < m → led_past k (n + m) (led_past m n d) ≡ led_past (m + k) n d
led_twice k m n d h w = go (equal_or_not d n)
  where
    go : (d ≡ n) ⊎ (d ≢ n) → led_past k (n + m) (led_past m n d) ≡ led_past (m + k) n d
    go (inl e) =
        let one = led_here m n d e in
        let two = led_here k (n + m) (led_past m n d) (omega (arith, one, e)) in
        omega (arith, one, two, led_here (m + k) n d e)
    go (inr e) =
        ap (led_past k (n + m)) (led_not m n d e) ∙ led_not k (n + m) d (λ g. absurd (omega (arith, g)))
        ∙ sym (led_not (m + k) n d e)

-- ---- instructions
exit_none : (n : ℕ) (i : Instr) → exit_past 0 n i ≡ i
exit_none n (Split (pos d)) = ap (λ z. Split (pos z)) (led_none n d)
exit_none n (Jmp (pos d)) = ap (λ z. Jmp (pos z)) (led_none n d)
exit_none n i = refl

exit_twice : (k m n : ℕ) (i : Instr) → LeadsWithin 0 n i → 0 < m → exit_past k (n + m) (exit_past m n i) ≡ exit_past (m + k) n i
exit_twice k m n (Split (pos d)) h w = ap (λ z. Split (pos z)) (led_twice k m n d (omega (arith, h)) w)
exit_twice k m n (Jmp (pos d)) h w = ap (λ z. Jmp (pos z)) (led_twice k m n d (omega (arith, h)) w)
exit_twice k m n i h w = refl

-- with more behind it, it isn't a way out
exit_before : (k m n : ℕ) (i : Instr) → LeadsWithin 0 n i → 0 < m → exit_past k (n + m) i ≡ i
exit_before k m n (Split (pos d)) h w = ap (λ z. Split (pos z)) (led_not k (n + m) d (λ e. absurd (omega (arith, e, h))))
exit_before k m n (Jmp (pos d)) h w = ap (λ z. Jmp (pos z)) (led_not k (n + m) d (λ e. absurd (omega (arith, e, h))))
exit_before k m n i h w = refl

within_more : (r r' n n' : ℕ) (i : Instr) → n + r ≤ n' + r' → LeadsWithin r n i → LeadsWithin r' n' i
within_more r r' n n' (Split (pos d)) le h = omega (arith, le, h)
within_more r r' n n' (Jmp (pos d)) le h = omega (arith, le, h)
within_more r r' n n' (Split (negsuc d)) le h = tt
within_more r r' n n' (Jmp (negsuc d)) le h = tt
within_more r r' n n' i le h = tt

within_led : (k n : ℕ) (i : Instr) → LeadsWithin 0 n i → LeadsWithin k n (exit_past k n i)
within_led k n (Split (pos d)) h = led_within k n d (omega (arith, h))
within_led k n (Jmp (pos d)) h = led_within k n d (omega (arith, h))
within_led k n (Split (negsuc d)) h = tt
within_led k n (Jmp (negsuc d)) h = tt
within_led k n i h = tt

-- ---- codes
pub exits_length : (k : ℕ) (a : Code) → length (exits_past k a) ≡ length a
exits_length k [] = refl
exits_length k (i ∷ a) = ap suc (exits_length k a)

pub exits_none : (a : Code) → exits_past 0 a ≡ a
exits_none [] = refl
exits_none (i ∷ a) = (λ j. exit_none (length (i ∷ a)) i j ∷ exits_none a j)

exits_before_by : (k m : ℕ) (a b : Code) → Within 0 a → length b ≡ m → 0 < m → exits_past k (a ++ b) ≡ a ++ exits_past k b
exits_before_by k m [] b h e w = refl
exits_before_by k m (i ∷ a) b h e w =
    let n : length (i ∷ (a ++ b)) ≡ length (i ∷ a) + m = omega (arith, length-append a b, e) in
    let head : exit_past k (length (i ∷ (a ++ b))) i ≡ i = ap (λ z. exit_past k z i) n ∙ exit_before k m (length (i ∷ a)) i h.0 w in
    λ j. head j ∷ exits_before_by k m a b h.1 e w j

-- with more behind it, the front has no way out
pub exits_before : (k : ℕ) (a b : Code) → Within 0 a → 0 < length b → exits_past k (a ++ b) ≡ a ++ exits_past k b
exits_before k a b h w = exits_before_by k (length b) a b h refl w

pub exits_last : (k : ℕ) (a b : Code) → b ≡ [] → exits_past k (a ++ b) ≡ exits_past k a
exits_last k a b e = ap (λ z. exits_past k (a ++ z)) e ∙ ap (exits_past k) (append-nil a)

-- what leads past b leads k further past it
pub exits_twice : (k m : ℕ) (a b : Code) → Within 0 a → length b ≡ m → 0 < m → exits_past k (exits_past m a ++ b) ≡ exits_past (m + k) a ++ exits_past k b
exits_twice k m [] b h e w = refl
exits_twice k m (i ∷ a) b h e w =
    let n : length (i ∷ (exits_past m a ++ b)) ≡ length (i ∷ a) + m = omega (arith, length-append (exits_past m a) b, exits_length m a, e) in
    let head : exit_past k (length (i ∷ (exits_past m a ++ b))) (exit_past m (length (i ∷ a)) i) ≡ exit_past (m + k) (length (i ∷ a)) i = ap (λ z. exit_past k z (exit_past m (length (i ∷ a)) i)) n ∙ exit_twice k m (length (i ∷ a)) i h.0 w in
    λ j. head j ∷ exits_twice k m a b h.1 e w j

pub within_append : (r m : ℕ) (a b : Code) → Within m a → m ≤ length b + r → Within r b → Within r (a ++ b)
within_append r m [] b g le h = h
within_append r m (i ∷ a) b g le h =
    (within_more m r (length (i ∷ a)) (length (i ∷ (a ++ b))) i (omega (arith, length-append a b, le)) g.0, within_append r m a b g.1 le h)

pub within_exits : (k : ℕ) (a : Code) → Within 0 a → Within k (exits_past k a)
within_exits k [] h = tt
within_exits k (i ∷ a) h =
    (within_more k k (length (i ∷ a)) (length (i ∷ exits_past k a)) (exit_past k (length (i ∷ a)) i) (omega (arith, exits_length k a)) (within_led k (length (i ∷ a)) i h.0), within_exits k a h.1)
