-- Places from which a literal doesn't stand, by a search for it.
use Rattle.std.proofs.Common.{◌≡◌, ℕ, ◌+◌, ◌-◌, ◌<◌, ◌≤◌, List, [], ◌++◌, length, take, drop, refl, sym, ◌∙◌, ap, subst, arith, Bool, true, false, inl, inr}
use Rattle.std.specs.Prelude.{get_or, ◌≢◌}
use Rattle.std.specs.List.{starts_with}
use Rattle.std.proofs.Math.Dec.{eqb}
use Rattle.std.proofs.lemmas.Bool.{cases_lt}
use Rattle.std.proofs.lemmas.Bool.Decides.{Decides-eqb}
use Rattle.std.proofs.lemmas.List.{get_or-drop, get_or-take, get_or_append_left, length-append, length-drop, length-take}
use Rattle.std.proofs.lemmas.Slice.Eq.{starts_is}
use Rattle.memchr.specs.Find.{OccursAt, Nowhere}
use Rattle.model.specs.Pattern.Patterns.{Basic, Lit}
use Rattle.model.specs.Pattern.BasicEnds.{ends_at, end_if}
use Rattle.prefilter.specs.Starts.{FailsFrom}

-- what a text that stands at a place shows to a search from the place b on
occurs : (u w : List ℕ) (b r k c : ℕ) → b + k ≡ c → c ≤ length u → (k + length w ≤ length u - b → k + length w ≤ r) → starts_with eqb (drop c u) w ≡ true → OccursAt (take r (drop b u)) w k
occurs u w b r k c e within cover t =
    record {
      fits = omega (arith, reach, all);
      reads = λ j l. get_or-take r (drop b u) (k + j) 0 (omega (arith, l, reach)) ∙ get_or-drop b u (k + j) 0 ∙ place j
          ∙ sym (get_or-drop c u j 0) ∙ ap (λ s. get_or s j 0) same ∙ get_or_append_left w (drop (length w) (drop c u)) 0 j l;
    }
  where
    same : drop c u ≡ w ++ drop (length w) (drop c u)
    same = (starts_is Decides-eqb (drop c u) w (starts_with eqb (drop c u) w) refl).0 t

    room : k + length w ≤ length u - b
    room =
        omega (arith, e, within, length-drop c u, ap length same ∙ length-append w (drop (length w) (drop c u)))

    reach : k + length w ≤ r
    reach = cover room

    all : k + length w ≤ length (take r (drop b u))
    all = omega (arith, reach, room, length-take r (drop b u), length-drop b u)

    place : (j : ℕ) → get_or u (b + (k + j)) 0 ≡ get_or u (c + j) 0
    place j = let q : b + (k + j) ≡ c + j = omega (arith, e) in ap (λ i. get_or u i 0) q

-- after n places at which a part fails, m more
pub fails_on : (u : List ℕ) (i : Basic) (b n m : ℕ) → FailsFrom u i b n → FailsFrom u i (b + n) m → FailsFrom u i b (n + m)
fails_on u i b n m before after c l h = elim (cases_lt c (b + n)) [
  | inl k ↦ before c l k
  | inr k ↦ after c k (omega (arith, h))
]

-- where the text doesn't stand
pub fails_here : (u w : List ℕ) (c : ℕ) → starts_with eqb (drop c u) w ≡ false → FailsFrom u (Lit w) c 1
fails_here u w c h d l k =
    let e : d ≡ c = omega (arith, l, k) in subst (λ j. ends_at u (Lit w) j ≡ []) (sym e) (ap (λ t. end_if t (c + length w)) h)

-- where the text occurs at none of the places below m
pub fails_before : (u w : List ℕ) (b r n m : ℕ) → b + n ≤ length u → n ≤ m → ((k : ℕ) → k < n → k + length w ≤ length u - b → k + length w ≤ r) → Nowhere (OccursAt (take r (drop b u)) w) 0 m → FailsFrom u (Lit w) b n
fails_before u w b r n m z le cover never c l h = go (starts_with eqb (drop c u) w) refl
  where
    k : ℕ
    k = c - b

    below : k < n
    below = omega (arith, l, h)

    go : (t : Bool) → starts_with eqb (drop c u) w ≡ t → ends_at u (Lit w) c ≡ []
    go false p = ap (λ t. end_if t (c + length w)) p
    go true p =
        let e : b + k ≡ c = omega (arith, l) in
        absurd (never k (omega arith) (omega (arith, below, le)) (occurs u w b r k c e (omega (arith, h, z)) (cover k below) p))

-- the bytes of a text that stands at a place
pub record ReadAt (u w : List ℕ) (c : ℕ) : Type 0 where
  pub fits : c + length w ≤ length u
  pub reads : (k j : ℕ) → j < length w → c + j ≡ k → get_or u k 0 ≡ get_or w j 0

pub read_at : (u w : List ℕ) (c : ℕ) → c ≤ length u → starts_with eqb (drop c u) w ≡ true → ReadAt u w c
read_at u w c within p =
    let rest = take (length u) (drop c u) in
    let there = occurs u w c (length u) 0 c (omega arith) within (λ m. omega (arith, m)) p in
    let size_left = length-take (length u) (drop c u) in
    let fits = there.fits in
    record {
      fits = omega (arith, fits, size_left, length-drop c u);
      reads = λ k j m e.
          let q : j ≡ 0 + j = omega arith in
          ap (λ i. get_or u i 0) (sym e) ∙ sym (get_or-drop c u j 0) ∙ sym (get_or-take (length u) (drop c u) j 0 (omega (arith, m, fits, size_left))) ∙ ap (λ i. get_or rest i 0) q ∙ there.reads j m;
    }

-- where no place has the first and the last byte of the text as far from each other as they are in it
pub fails_by_ends : (u w : List ℕ) (b n gap : ℕ) → b + n ≤ length u → length w ≡ gap + 1 → ((k : ℕ) → b ≤ k → k < b + n → k + gap < length u → get_or u k 0 ≡ get_or w 0 0 → get_or u (k + gap) 0 ≢ get_or w gap 0) → FailsFrom u (Lit w) b n
fails_by_ends u w b n gap le size apart c l h = go (starts_with eqb (drop c u) w) refl
  where
    go : (t : Bool) → starts_with eqb (drop c u) w ≡ t → ends_at u (Lit w) c ≡ []
    go false p = ap (λ t. end_if t (c + length w)) p
    go true p =
        let there = read_at u w c (omega (arith, le, h)) p in
        absurd (apart c l h (omega (arith, size, there.fits)) (there.reads c 0 (omega (arith, size)) (omega arith)) (there.reads (c + gap) gap (omega (arith, size)) refl))
