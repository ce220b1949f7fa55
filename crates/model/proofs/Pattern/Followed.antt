-- What one search finds, another finds at some bound: where both are made of the same parts.
use Rattle.std.proofs.Common.{◌≡◌, ℕ, zero, suc, ◌+◌, List, refl, sym, ◌∙◌, ap, subst, arith, ◌≤◌, ◌⊎◌, inl, inr}
use Rattle.model.specs.Pattern.Patterns.{Pending, Answer, Ask, Event, Running, Failed, Asks, Matched}
use Rattle.model.specs.Pattern.Search.{Found, Hit, Miss, Stop, Deep, Wait, on_miss, started, over_starts}
use Rattle.model.proofs.Pattern.SearchGrows.{Grows, EventGrows, grows_refl, on_miss_grows, over_starts_grows}

pub on_miss_none : {V P : Type 0} (x : Found V P) → on_miss x (λ u. Miss u) ≡ x
on_miss_none (Hit e a t) = refl
on_miss_none (Miss t) = refl
on_miss_none Stop = refl
on_miss_none Deep = refl
on_miss_none (Wait v) = refl

-- found, and nothing further is tried
abbrev pub IsFinal : {V P : Type 0} → Found V P → Type 0
IsFinal (Hit e a t) = Unit {0}
IsFinal (Miss t) = ⊥
IsFinal Stop = Unit {0}
IsFinal Deep = ⊥
IsFinal (Wait v) = Unit {0}

final_same : {V P : Type 0} (x : Found V P) (k : List (Answer P) → Found V P) → IsFinal x → x ≡ on_miss x k
final_same (Hit e a t) k h = refl
final_same (Miss t) k h = absurd h
final_same Stop k h = refl
final_same Deep k h = absurd h
final_same (Wait v) k h = refl

final_grows : {V P : Type 0} (x y : Found V P) → IsFinal x → Grows x y → x ≡ y
final_grows (Hit e a t) y h g = sym g
final_grows (Miss t) y h g = absurd h
final_grows Stop y h g = sym g
final_grows Deep y h g = absurd h
final_grows (Wait v) y h g = sym g

-- what is found on both sides is alike: R says it of what is final, and S of the answers left by a miss
pub data AlikeFound (V P U Q : Type 0) (R : Found V P → Found U Q → Type 0) (S : List (Answer P) → List (Answer Q) → Type 0) : Found V P → Found U Q → Type 0 where
  misses : {t : List (Answer P)} {u : List (Answer Q)} → S t u → AlikeFound V P U Q R S (Miss t) (Miss u)
  finals : {x : Found V P} {y : Found U Q} → IsFinal x → IsFinal y → R x y → AlikeFound V P U Q R S x y

-- ends, stops and questions that are alike: S says which answers left are, and W which questions
pub data SameEnd (V P U Q : Type 0) (S : List (Answer P) → List (Answer Q) → Type 0) (W : V → U → Type 0) : Found V P → Found U Q → Type 0 where
  hits : {e : ℕ} {a : Pending} {t : List (Answer P)} {u : List (Answer Q)} → S t u → SameEnd V P U Q S W (Hit e a t) (Hit e a u)
  stops : SameEnd V P U Q S W Stop Stop
  waits : {v : V} {w : U} → W v w → SameEnd V P U Q S W (Wait v) (Wait w)

-- the same of events
pub data AlikeTold (E F : Type 0) (W : Ask E → Ask F → Type 0) : Event E → Event F → Type 0 where
  fail : AlikeTold E F W Failed Failed
  match : {b e : ℕ} {a : Pending} → AlikeTold E F W (Matched b e a) (Matched b e a)
  ask : {v : Ask E} {w : Ask F} → W v w → AlikeTold E F W (Asks v) (Asks w)

-- f finds no less at a greater bound
abbrev pub Rises : (U Q : Type 0) → (ℕ → Found U Q) → Type 0
Rises U Q f = (n m : ℕ) → n ≤ m → Grows (f n) (f m)

module _ (V P U Q : Type 0) (R : Found V P → Found U Q → Type 0) (S : List (Answer P) → List (Answer Q) → Type 0) where
  abbrev Alike : Found V P → Found U Q → Type 0
  Alike = AlikeFound V P U Q R S

  -- x is too deep, or f finds the like at some bound
  abbrev pub Followed : Found V P → (ℕ → Found U Q) → Type 0
  Followed x f = (x ≡ Deep) ⊎ ((m : ℕ) × Alike x (f m))

  pub alike_grows : (x : Found V P) (y z : Found U Q) → Alike x y → Grows y z → Alike x z
  alike_grows x y z (misses {t = t} h) g = subst (Alike (Miss t)) (sym g) (misses h)
  alike_grows x y z (finals fx fy r) g = subst (Alike x) (final_grows y z fy g) (finals fx fy r)

  -- what is like something stays
  pub alike_stays : (x : Found V P) (y z : Found U Q) → Alike x y → Grows y z → y ≡ z
  alike_stays x y z (misses h) g = sym g
  alike_stays x y z (finals fx fy r) g = final_grows y z fy g

  pub at_more : (x : Found V P) (f : ℕ → Found U Q) → Followed x (λ m. f (suc m)) → Followed x f
  at_more x f (inl e) = inl e
  at_more x f (inr (m, h)) = inr (suc m, h)

  pub by_equal : (x : Found V P) (f g : ℕ → Found U Q) → ((m : ℕ) → f m ≡ g m) → Followed x g → Followed x f
  by_equal x f g e (inl d) = inl d
  by_equal x f g e (inr (m, h)) = inr (m, subst (Alike x) (sym (e m)) h)

-- what is made of something that is followed, made of it on both sides
module _ (V P U Q : Type 0) (R R' : Found V P → Found U Q → Type 0) (S : List (Answer P) → List (Answer Q) → Type 0) where
  pub then_followed : (x : Found V P) (k : Found V P → Found V P) (f : ℕ → Found U Q) (l : ℕ → Found U Q → Found U Q) → k Deep ≡ Deep → Rises U Q f → ((y : Found U Q) → Rises U Q (λ m. l m y)) → Followed V P U Q R S x f → ((y : Found U Q) → AlikeFound V P U Q R S x y → Followed V P U Q R' S (k x) (λ m. l m y)) → Followed V P U Q R' S (k x) (λ m. l m (f m))
  then_followed x k f l d rf rl (inl e) g = inl (ap k e ∙ d)
  then_followed x k f l d rf rl (inr (n, h)) g = on (g (f n) h)
    where
      on : Followed V P U Q R' S (k x) (λ m. l m (f n)) → Followed V P U Q R' S (k x) (λ m. l m (f m))
      on (inl e) = inl e
      on (inr (m, w)) =
          let same : f n ≡ f (n + m) = alike_stays V P U Q R S x (f n) (f (n + m)) h (rf n (n + m) (omega arith)) in
          inr (n + m, subst (λ y. AlikeFound V P U Q R' S (k x) (l (n + m) y)) same (alike_grows V P U Q R' S (k x) (l m (f n)) (l (n + m) (f n)) w (rl (f n) m (n + m) (omega arith))))

module _ (V P U Q : Type 0) (R : Found V P → Found U Q → Type 0) (S : List (Answer P) → List (Answer Q) → Type 0) where
  missed : (x : Found V P) (k : List (Answer P) → Found V P) (l : ℕ → List (Answer Q) → Found U Q) → ((t : List (Answer P)) (u : List (Answer Q)) → S t u → Followed V P U Q R S (k t) (λ m. l m u)) → (y : Found U Q) → AlikeFound V P U Q R S x y → Followed V P U Q R S (on_miss x k) (λ m. on_miss y (l m))
  missed x k l g y (misses {t = t} {u = u} h) = g t u h
  missed x k l g y (finals fx fy r) =
      inr (0, subst (λ z. AlikeFound V P U Q R S z (on_miss y (l 0))) (final_same x k fx) (subst (AlikeFound V P U Q R S x) (final_same y (l 0) fy) (finals fx fy r)))

  pub on_miss_followed : (x : Found V P) (k : List (Answer P) → Found V P) (f : ℕ → Found U Q) (l : ℕ → List (Answer Q) → Found U Q) → Rises U Q f → ((u : List (Answer Q)) → Rises U Q (λ m. l m u)) → Followed V P U Q R S x f → ((t : List (Answer P)) (u : List (Answer Q)) → S t u → Followed V P U Q R S (k t) (λ m. l m u)) → Followed V P U Q R S (on_miss x k) (λ m. on_miss (f m) (l m))
  on_miss_followed x k f l rf rl h g =
      then_followed V P U Q R R S x (λ z. on_miss z k) f (λ m y. on_miss y (l m)) refl rf (λ y i j le. on_miss_grows y y (l i) (l j) (grows_refl y) (λ t. rl t i j le)) h (λ y w. missed x k l g y w)

-- the events of a scan
module _ (E P F Q : Type 0) (S : List (Answer P) → List (Answer Q) → Type 0) (W : Ask E → Ask F → Type 0) where
  abbrev Ends : Found (Ask E) P → Found (Ask F) Q → Type 0
  Ends = SameEnd (Ask E) P (Ask F) Q S W

  abbrev pub EventFollowed : Event E → (ℕ → Event F) → Type 0
  EventFollowed x f = (x ≡ Running) ⊎ ((m : ℕ) × AlikeTold E F W x (f m))

  abbrev EventRises : (ℕ → Event F) → Type 0
  EventRises f = (n m : ℕ) → n ≤ m → EventGrows (f n) (f m)

  told_grows : (x : Event E) (y z : Event F) → AlikeTold E F W x y → EventGrows y z → AlikeTold E F W x z
  told_grows x y z fail g = subst (AlikeTold E F W Failed) (sym g) fail
  told_grows x y z (match {b = b} {e = e} {a = a}) g = subst (AlikeTold E F W (Matched b e a)) (sym g) match
  told_grows x y z (ask {v = v} h) g = subst (AlikeTold E F W (Asks v)) (sym g) (ask h)

  event_stays : (x : Event E) (b : ℕ) (f : ℕ → Found (Ask F) Q) (l : ℕ → List (Answer Q) → Event F) (m : ℕ) (y : Found (Ask F) Q) → f m ≡ y → AlikeTold E F W x (started b y (l m)) → EventFollowed x (λ m. started b (f m) (l m))
  event_stays x b f l m y e h = inr (m, subst (λ z. AlikeTold E F W x (started b z (l m))) (sym e) h)

  event_after : (x : Event E) (b : ℕ) (f : ℕ → Found (Ask F) Q) (l : ℕ → List (Answer Q) → Event F) → Rises (Ask F) Q f → ((u : List (Answer Q)) → EventRises (λ m. l m u)) → (n : ℕ) (u : List (Answer Q)) → f n ≡ Miss u → EventFollowed x (λ m. l m u) → EventFollowed x (λ m. started b (f m) (l m))
  event_after x b f l rf rl n u e (inl d) = inl d
  event_after x b f l rf rl n u e (inr (m, h)) =
      let same : f (n + m) ≡ Miss u = subst (λ y. Grows y (f (n + m))) e (rf n (n + m) (omega arith)) in
      inr (n + m, subst (λ y. AlikeTold E F W x (started b y (l (n + m)))) (sym same) (told_grows x (l m u) (l (n + m) u) h (rl u m (n + m) (omega arith))))

  event_ended : (b : ℕ) (k : List (Answer P) → Event E) (f : ℕ → Found (Ask F) Q) (l : ℕ → List (Answer Q) → Event F) → (m : ℕ) (x : Found (Ask E) P) (y : Found (Ask F) Q) → f m ≡ y → Ends x y → EventFollowed (started b x k) (λ m. started b (f m) (l m))
  event_ended b k f l m x y q (hits {e = e} {a = a} {t = t} {u = u} h) = event_stays (Matched b e a) b f l m (Hit e a u) q match
  event_ended b k f l m x y q stops = event_stays Failed b f l m Stop q fail
  event_ended b k f l m x y q (waits {v = v} {w = w} h) = event_stays (Asks v) b f l m (Wait w) q (ask h)

  event_found : (b : ℕ) (k : List (Answer P) → Event E) (f : ℕ → Found (Ask F) Q) (l : ℕ → List (Answer Q) → Event F) → Rises (Ask F) Q f → ((u : List (Answer Q)) → EventRises (λ m. l m u)) → ((t : List (Answer P)) (u : List (Answer Q)) → S t u → EventFollowed (k t) (λ m. l m u)) → (m : ℕ) (x : Found (Ask E) P) (y : Found (Ask F) Q) → f m ≡ y → AlikeFound (Ask E) P (Ask F) Q Ends S x y → EventFollowed (started b x k) (λ m. started b (f m) (l m))
  event_found b k f l rf rl g m x y q (misses {t = t} {u = u} h) = event_after (k t) b f l rf rl m u q (g t u h)
  event_found b k f l rf rl g m x y q (finals fx fy r) = event_ended b k f l m x y q r

  started_followed : (b : ℕ) (x : Found (Ask E) P) (k : List (Answer P) → Event E) (f : ℕ → Found (Ask F) Q) (l : ℕ → List (Answer Q) → Event F) → Rises (Ask F) Q f → ((u : List (Answer Q)) → EventRises (λ m. l m u)) → Followed (Ask E) P (Ask F) Q Ends S x f → ((t : List (Answer P)) (u : List (Answer Q)) → S t u → EventFollowed (k t) (λ m. l m u)) → EventFollowed (started b x k) (λ m. started b (f m) (l m))
  started_followed b x k f l rf rl (inl e) g = inl (ap (λ y. started b y k) e)
  started_followed b x k f l rf rl (inr (m, h)) g = event_found b k f l rf rl g m x (f m) refl h

  pub over_starts_followed : (k : ℕ → List (Answer P) → Found (Ask E) P) (l : ℕ → ℕ → List (Answer Q) → Found (Ask F) Q) → ((b : ℕ) (u : List (Answer Q)) → Rises (Ask F) Q (λ m. l m b u)) → ((b : ℕ) (t : List (Answer P)) (u : List (Answer Q)) → S t u → Followed (Ask E) P (Ask F) Q Ends S (k b t) (λ m. l m b u)) → (left b : ℕ) (t : List (Answer P)) (u : List (Answer Q)) → S t u → EventFollowed (over_starts k left b t) (λ m. over_starts (l m) left b u)
  over_starts_followed k l r g zero b t u h =
      started_followed b (k b t) (λ w. Failed) (λ m. l m b u) (λ m w. Failed) (r b u) (λ w i j le. refl) (g b t u h) (λ v w s. inr (0, fail))
  over_starts_followed k l r g (suc left) b t u h =
      started_followed b (k b t) (λ w. over_starts k left (b + 1) w) (λ m. l m b u) (λ m w. over_starts (l m) left (b + 1) w) (r b u)
      (λ w i j le. over_starts_grows (l i) (l j) (λ c z. r c z i j le) left (b + 1) w) (g b t u h)
      (λ v w s. over_starts_followed k l r g left (b + 1) v w s)
