-- Going deeper, what was printed stays and an answer stays.
use Rattle.std.proofs.Common.{◌≡◌, ℕ, zero, suc, ◌+◌, Option, Some, None, List, [], ◌++◌, refl, sym, ap, ◌∙◌, subst, append_assoc, append-nil, arith}
use Rattle.model.specs.Language.Programs.{Program}
use Rattle.model.specs.Language.Values.{World, printed_of}
use Rattle.model.specs.Language.Meaning.{W, Res, Done, Fails, Ends, Open, Settled, Query, Ans, Rule, Ret, Fail, Stop, Ask, Seek, SearchEvent, sought, rule, after, follow, meaning}

world_in : {A : Type 0} → Res A → W
world_in (Done a w) = w
world_in (Fails w) = w
world_in (Ends e w) = w
world_in (Open w) = w

-- what was printed is a prefix of what is printed then
pub record Before {P E : Type 0} (v w : World P E) : Type 0 where
  pub new : List (record { unit : ℕ; bytes : List ℕ })
  pub is : printed_of w ≡ printed_of v ++ new

pub before_refl : {P E : Type 0} (w : World P E) → Before w w
before_refl w = record { new = []; is = sym (append-nil (printed_of w)) }

pub before_trans : {P E : Type 0} (u v w : World P E) → Before u v → Before v w → Before u w
before_trans u v w a b = record { new = a.new ++ b.new; is = b.is ∙ ap (λ l. l ++ b.new) a.is ∙ append_assoc (printed_of u) a.new b.new }

-- each world of a rule comes after the one that it starts from
abbrev pub Goes_on : {A : Type 0} → W → Rule A → Type 0
Goes_on v (Ret a w) = Before v w
Goes_on v (Fail w) = Before v w
Goes_on v (Stop e w) = Before v w
Goes_on v (Ask q w k f) = Before v w × ((a : Ans q) (u : W) → Before w u → Goes_on u (k a u)) × ((u : W) → Before w u → Goes_on u (f u))
Goes_on v (Seek g w k) = Before v w × ((n : ℕ) (e : SearchEvent) → g n ≡ Some e → g (suc n) ≡ Some e) × ((e : SearchEvent) → Goes_on w (k e))

abbrev pub Later : {A : Type 0} → W → Res A → Type 0
Later v (Done a w) = Before v w
Later v (Fails w) = Before v w
Later v (Ends e w) = Before v w
Later v (Open w) = Before v w

pub later_trans : {A : Type 0} (u v : W) (r : Res A) → Before u v → Later v r → Later u r
later_trans u v (Done a w) b l = before_trans u v w b l
later_trans u v (Fails w) b l = before_trans u v w b l
later_trans u v (Ends e w) b l = before_trans u v w b l
later_trans u v (Open w) b l = before_trans u v w b l

abbrev pub Meaning : Type 0
Meaning = (q : Query) → W → Res (Ans q)

after_later : {A B : Type 0} (v : W) (r : Res A) (k : A → W → Res B) (f : W → Res B) → Later v r → ((a : A) (w : W) → Before v w → Later w (k a w)) → ((w : W) → Before v w → Later w (f w)) → Later v (after r k f)
after_later v (Done a w) k f l hk hf = later_trans v w (k a w) l (hk a w l)
after_later v (Fails w) k f l hk hf = later_trans v w (f w) l (hf w l)
after_later v (Ends e w) k f l hk hf = l
after_later v (Open w) k f l hk hf = l

sought_later : {A : Type 0} (v : W) (o : Option SearchEvent) (k : SearchEvent → Res A) → ((e : SearchEvent) → Later v (k e)) → Later v (sought o v k)
sought_later v None k h = before_refl v
sought_later v (Some e) k h = h e

pub follow_later : {A : Type 0} (n : ℕ) (m : Meaning) → ((q : Query) (w : W) → Later w (m q w)) → (v : W) (p : Rule A) → Goes_on v p → Later v (follow n m p)
follow_later n m h v (Ret a w) g = g
follow_later n m h v (Fail w) g = g
follow_later n m h v (Stop e w) g = g
follow_later n m h v (Ask q w k f) g =
    later_trans v w (after (m q w) (λ a w1. follow n m (k a w1)) (λ w1. follow n m (f w1))) g.0
    (after_later w (m q w) (λ a w1. follow n m (k a w1)) (λ w1. follow n m (f w1)) (h q w) (λ a u b. follow_later n m h u (k a u) (g.1 a u b)) (λ u b. follow_later n m h u (f u) (g.2 u b)))
follow_later n m h v (Seek s w k) g =
    later_trans v w (sought (s n) w (λ e. follow n m (k e))) g.0 (sought_later w (s n) (λ e. follow n m (k e)) (λ e. follow_later n m h w (k e) (g.2 e)))

-- an answer, or open
pub data Grows {A : Type 0} : Res A → Res A → Type 0 where
  same : {r : Res A} → Grows r r
  open_to : {w : W} {r : Res A} → Later w r → Grows (Open w) r

after_grows : {A B : Type 0} (v : W) {r s : Res A} (k l : A → W → Res B) (f g : W → Res B) → Grows r s → Later v s → ((a : A) (w : W) → Before v w → Grows (k a w) (l a w)) → ((w : W) → Before v w → Grows (f w) (g w)) → ((a : A) (w : W) → Before v w → Later w (l a w)) → ((w : W) → Before v w → Later w (g w)) → Grows (after r k f) (after s l g)
after_grows v k l f g (same {r = Done a w}) b hk hf lk lf = hk a w b
after_grows v k l f g (same {r = Fails w}) b hk hf lk lf = hf w b
after_grows v k l f g (same {r = Ends e w}) b hk hf lk lf = same
after_grows v k l f g (same {r = Open w}) b hk hf lk lf = same
after_grows v k l f g (open_to {w = u} {r = Done a w} h) b hk hf lk lf = open_to (later_trans u w (l a w) h (lk a w b))
after_grows v k l f g (open_to {w = u} {r = Fails w} h) b hk hf lk lf = open_to (later_trans u w (g w) h (lf w b))
after_grows v k l f g (open_to {r = Ends e w} h) b hk hf lk lf = open_to h
after_grows v k l f g (open_to {r = Open w} h) b hk hf lk lf = open_to h

sought_grows : {A : Type 0} (v : W) (o o' : Option SearchEvent) (k l : SearchEvent → Res A) → ((e : SearchEvent) → o ≡ Some e → o' ≡ Some e) → ((e : SearchEvent) → Grows (k e) (l e)) → ((e : SearchEvent) → Later v (l e)) → Grows (sought o v k) (sought o' v l)
sought_grows v None o' k l st hk hl = open_to (sought_later v o' l hl)
sought_grows v (Some e) o' k l st hk hl = subst (λ o. Grows (k e) (sought o v l)) (sym (st e refl)) (hk e)

pub follow_grows : {A : Type 0} (i : ℕ) (m n : Meaning) → ((q : Query) (w : W) → Grows (m q w) (n q w)) → ((q : Query) (w : W) → Later w (n q w)) → (v : W) (p : Rule A) → Goes_on v p → Grows (follow i m p) (follow (suc i) n p)
follow_grows i m n h l v (Ret a w) g = same
follow_grows i m n h l v (Fail w) g = same
follow_grows i m n h l v (Stop e w) g = same
follow_grows i m n h l v (Ask q w k f) g =
    after_grows w (λ a w1. follow i m (k a w1)) (λ a w1. follow (suc i) n (k a w1)) (λ w1. follow i m (f w1)) (λ w1. follow (suc i) n (f w1)) (h q w) (l q w)
    (λ a u b. follow_grows i m n h l u (k a u) (g.1 a u b)) (λ u b. follow_grows i m n h l u (f u) (g.2 u b))
    (λ a u b. follow_later (suc i) n l u (k a u) (g.1 a u b)) (λ u b. follow_later (suc i) n l u (f u) (g.2 u b))
follow_grows i m n h l v (Seek s w k) g =
    sought_grows w (s i) (s (suc i)) (λ e. follow i m (k e)) (λ e. follow (suc i) n (k e)) (λ e x. g.1 i e x) (λ e. follow_grows i m n h l w (k e) (g.2 e)) (λ e. follow_later (suc i) n l w (k e) (g.2 e))

-- a rule at the depth n
abbrev pub at_depth : {A : Type 0} → Program → ℕ → Rule A → Res A
at_depth prog n p = follow (suc n) (λ r u. meaning prog n r u) p

pub zero_and : (n : ℕ) → zero + n ≡ n
zero_and n = omega arith

pub suc_and : (d n : ℕ) → suc d + n ≡ suc (d + n)
suc_and d n = omega arith

module _ (prog : Program) (on : (q : Query) (w : W) → Goes_on w (rule prog q w)) where
  pub later : (n : ℕ) (q : Query) (w : W) → Later w (meaning prog n q w)
  unfolding meaning
  later zero q w = before_refl w
  later (suc n) q w = follow_later (suc n) (λ r v. meaning prog n r v) (later n) w (rule prog q w) (on q w)

  -- one level deeper
  pub grows : (n : ℕ) (q : Query) (w : W) → Grows (meaning prog n q w) (meaning prog (suc n) q w)
  unfolding meaning
  grows zero q w = open_to (later 1 q w)
  grows (suc n) q w = follow_grows (suc n) (λ r v. meaning prog n r v) (λ r v. meaning prog (suc n) r v) (grows n) (later (suc n)) w (rule prog q w) (on q w)

pub grows_settled : {A : Type 0} {r s : Res A} → Grows r s → Settled r → s ≡ r
grows_settled same h = refl
grows_settled (open_to l) h = absurd h

module _ (prog : Program) (on : (q : Query) (w : W) → Goes_on w (rule prog q w)) where
  pub stays : (n d : ℕ) (q : Query) (w : W) → Settled (meaning prog n q w) → meaning prog (d + n) q w ≡ meaning prog n q w
  stays n zero q w h = ap (λ k. meaning prog k q w) (zero_and n)
  stays n (suc d) q w h =
      let e = stays n d q w h in
      let s : Settled (meaning prog (d + n) q w) = subst Settled (sym e) h in
      ap (λ k. meaning prog k q w) (suc_and d n) ∙ grows_settled (grows prog on (d + n) q w) s ∙ e

  pub follow_stays : {A : Type 0} (n d : ℕ) (v : W) (p : Rule A) → Goes_on v p → Settled (at_depth prog n p) → at_depth prog (d + n) p ≡ at_depth prog n p
  follow_stays n zero v p g h = ap (λ k. at_depth prog k p) (zero_and n)
  follow_stays n (suc d) v p g h =
      let e = follow_stays n d v p g h in
      let s : Settled (at_depth prog (d + n) p) = subst Settled (sym e) h in
      ap (λ k. at_depth prog k p) (suc_and d n) ∙ grows_settled (follow_grows (suc (d + n)) (λ r u. meaning prog (d + n) r u) (λ r u. meaning prog (suc (d + n)) r u) (grows prog on (d + n)) (later prog on (suc (d + n))) v p g) s ∙ e
