-- What a search, a scan and the ends give stays at a greater bound.
use Rattle.std.proofs.Common.{◌≡◌, ℕ, zero, suc, ◌+◌, List, [], ◌∷◌, ◌++◌, refl, sym, ap, subst, arith, ◌≤◌}
use Rattle.model.specs.Pattern.Patterns.{Basic, Lit, Pat, Plain, Succeed, Abort, Fence, Cat, Alt, Arbno, FenceOf, Cond, Imm, At, Defer, DeferBasic, Kind, Pending, Answer, IsPattern, IsSaid, Ask, SayThat, Text, Number, Event, Running, Failed, with_answer}
use Rattle.model.specs.Pattern.BasicEnds.{ends_at}
use Rattle.model.specs.Pattern.Ends.{between}
use Rattle.model.specs.Pattern.Search.{Found, Hit, Miss, Stop, Deep, Wait, on_miss, on_hit, try_each, Goal, Part, Closing, Saying, Found', Script, SearchOn, told_that, given_pattern, given_argument, search_rule, level, search, started, over_starts, scan}
use Rattle.model.specs.Deck.Trees.{Expr}

-- what x found, y finds
abbrev pub Grows : {E P : Type 0} → Found E P → Found E P → Type 0
Grows Deep y = Unit {0}
Grows x y = y ≡ x

pub grows_refl : {E P : Type 0} (x : Found E P) → Grows x x
grows_refl Deep = tt
grows_refl (Hit e a t) = refl
grows_refl (Miss t) = refl
grows_refl Stop = refl
grows_refl (Wait v) = refl

pub grows_trans : {E P : Type 0} (x y z : Found E P) → Grows x y → Grows y z → Grows x z
grows_trans Deep y z g h = tt
grows_trans (Hit e a t) y z g h = subst (λ w. Grows w z) g h
grows_trans (Miss t) y z g h = subst (λ w. Grows w z) g h
grows_trans Stop y z g h = subst (λ w. Grows w z) g h
grows_trans (Wait v) y z g h = subst (λ w. Grows w z) g h

pub on_miss_grows : {E P : Type 0} (x y : Found E P) (k l : List (Answer P) → Found E P) → Grows x y → ((t : List (Answer P)) → Grows (k t) (l t)) → Grows (on_miss x k) (on_miss y l)
on_miss_grows Deep y k l g h = tt
on_miss_grows (Hit e a t) y k l g h = ap (λ w. on_miss w l) g
on_miss_grows (Miss t) y k l g h = subst (λ w. Grows (k t) (on_miss w l)) (sym g) (h t)
on_miss_grows Stop y k l g h = ap (λ w. on_miss w l) g
on_miss_grows (Wait v) y k l g h = ap (λ w. on_miss w l) g

pub on_hit_grows : {E P : Type 0} (x y : Found E P) (k l : ℕ → Pending → List (Answer P) → Found E P) → Grows x y → ((e : ℕ) (a : Pending) (t : List (Answer P)) → Grows (k e a t) (l e a t)) → Grows (on_hit x k) (on_hit y l)
on_hit_grows Deep y k l g h = tt
on_hit_grows (Hit e a t) y k l g h = subst (λ w. Grows (k e a t) (on_hit w l)) (sym g) (h e a t)
on_hit_grows (Miss t) y k l g h = ap (λ w. on_hit w l) g
on_hit_grows Stop y k l g h = ap (λ w. on_hit w l) g
on_hit_grows (Wait v) y k l g h = ap (λ w. on_hit w l) g

pub try_each_grows : {E P : Type 0} (k l : ℕ → List (Answer P) → Found E P) → ((e : ℕ) (t : List (Answer P)) → Grows (k e t) (l e t)) → (es : List ℕ) (t : List (Answer P)) → Grows (try_each k es t) (try_each l es t)
try_each_grows k l h [] t = refl
try_each_grows k l h (e ∷ es) t =
    on_miss_grows (k e t) (l e t) (λ u. try_each k es u) (λ u. try_each l es u) (h e t) (λ u. try_each_grows k l h es u)

abbrev pub NextGrows : SearchOn → SearchOn → Type 0
NextGrows f g = (rest : List Goal) (c : ℕ) (a : Pending) (t : Script) → Grows (f rest c a t) (g rest c a t)

told_grows : (v : Ask Expr) (k l : Script → Found') → ((t : Script) → Grows (k t) (l t)) → (t : Script) → Grows (told_that v k t) (told_that v l t)
told_grows v k l h [] = refl
told_grows v k l h (IsSaid ∷ t) = h t
told_grows v k l h (_ ∷ t) = refl

given_grows : (x : Expr) (k l : Pat → Script → Found') → ((p : Pat) (t : Script) → Grows (k p t) (l p t)) → (t : Script) → Grows (given_pattern x k t) (given_pattern x l t)
given_grows x k l h [] = refl
given_grows x k l h (IsPattern p ∷ t) = h p t
given_grows x k l h (_ ∷ t) = refl

argument_grows : (j : Kind) (x : Expr) (k l : Basic → Script → Found') → ((b : Basic) (t : Script) → Grows (k b t) (l b t)) → (t : Script) → Grows (given_argument j x k t) (given_argument j x l t)
argument_grows j x k l h [] = refl
argument_grows j x k l h (y ∷ t) = h (with_answer j y) t

rule_grows : (s : List ℕ) (f g : SearchOn) → NextGrows f g → (x : Goal) (rest : List Goal) (c : ℕ) (a : Pending) (t : Script) → Grows (search_rule s f x rest c a t) (search_rule s g x rest c a t)
rule_grows s f g h (Part (Plain k)) rest c a t = try_each_grows (λ e u. f rest e a u) (λ e u. g rest e a u) (λ e u. h rest e a u) (ends_at s k c) t
rule_grows s f g h (Part Succeed) rest c a t = on_miss_grows (f rest c a t) (g rest c a t) (λ u. f (Part Succeed ∷ rest) c a u) (λ u. g (Part Succeed ∷ rest) c a u) (h rest c a t) (λ u. h (Part Succeed ∷ rest) c a u)
rule_grows s f g h (Part Abort) rest c a t = refl
rule_grows s f g h (Part Fence) rest c a t = on_miss_grows (f rest c a t) (g rest c a t) (λ u. Stop) (λ u. Stop) (h rest c a t) (λ u. refl)
rule_grows s f g h (Part (Cat p q)) rest c a t = h (Part p ∷ Part q ∷ rest) c a t
rule_grows s f g h (Part (Alt p q)) rest c a t = on_miss_grows (f (Part p ∷ rest) c a t) (g (Part p ∷ rest) c a t) (λ u. f (Part q ∷ rest) c a u) (λ u. g (Part q ∷ rest) c a u) (h (Part p ∷ rest) c a t) (λ u. h (Part q ∷ rest) c a u)
rule_grows s f g h (Part (Arbno p)) rest c a t = h (Part (Alt (Plain (Lit [])) (Cat p (Arbno p))) ∷ rest) c a t
rule_grows s f g h (Part (FenceOf p)) rest c a t = on_hit_grows (f (Part p ∷ []) c a t) (g (Part p ∷ []) c a t) (λ e b u. f rest e b u) (λ e b u. g rest e b u) (h (Part p ∷ []) c a t) (λ e b u. h rest e b u)
rule_grows s f g h (Part (Cond p x)) rest c a t = h (Part p ∷ Closing x c ∷ rest) c a t
rule_grows s f g h (Part (Imm p x)) rest c a t = h (Part p ∷ Saying x c ∷ rest) c a t
rule_grows s f g h (Part (At x)) rest c a t = told_grows (SayThat x (Number c)) (λ u. f rest c a u) (λ u. g rest c a u) (λ u. h rest c a u) t
rule_grows s f g h (Part (Defer x)) rest c a t = given_grows x (λ p u. f (Part p ∷ rest) c a u) (λ p u. g (Part p ∷ rest) c a u) (λ p u. h (Part p ∷ rest) c a u) t
rule_grows s f g h (Part (DeferBasic k x)) rest c a t = argument_grows k x (λ b u. f (Part (Plain b) ∷ rest) c a u) (λ b u. g (Part (Plain b) ∷ rest) c a u) (λ b u. h (Part (Plain b) ∷ rest) c a u) t
rule_grows s f g h (Closing x b) rest c a t = h rest c (a ++ (x, between s b c) ∷ []) t
rule_grows s f g h (Saying x b) rest c a t = told_grows (SayThat x (Text (between s b c))) (λ u. f rest c a u) (λ u. g rest c a u) (λ u. h rest c a u) t

level_grows : (s : List ℕ) (f g : SearchOn) → NextGrows f g → NextGrows (level s f) (level s g)
level_grows s f g h [] c a t = refl
level_grows s f g h (x ∷ rest) c a t = rule_grows s f g h x rest c a t

pub search_grows : (s : List ℕ) (n : ℕ) (rest : List Goal) (c : ℕ) (a : Pending) (t : Script) → Grows (search s n rest c a t) (search s (suc n) rest c a t)
search_grows s zero rest c a t = tt
search_grows s (suc n) rest c a t = level_grows s (search s n) (search s (suc n)) (λ r d b u. search_grows s n r d b u) rest c a t

-- at any greater bound
pub search_more : (s : List ℕ) (n m : ℕ) → n ≤ m → NextGrows (search s n) (search s m)
search_more s zero m le rest c a t = tt
search_more s (suc n) zero le rest c a t = absurd (omega arith)
search_more s (suc n) (suc m) le rest c a t =
    level_grows s (search s n) (search s m) (search_more s n m (omega arith)) rest c a t

-- what an event reports stays
abbrev pub EventGrows : {E : Type 0} → Event E → Event E → Type 0
EventGrows Running y = Unit {0}
EventGrows x y = y ≡ x

started_grows : {E P : Type 0} (b : ℕ) (x y : Found (Ask E) P) (k l : List (Answer P) → Event E) → Grows x y → ((t : List (Answer P)) → EventGrows (k t) (l t)) → EventGrows (started b x k) (started b y l)
started_grows b Deep y k l g h = tt
started_grows b (Hit e a t) y k l g h = ap (λ w. started b w l) g
started_grows b (Miss t) y k l g h = subst (λ w. EventGrows (k t) (started b w l)) (sym g) (h t)
started_grows b Stop y k l g h = ap (λ w. started b w l) g
started_grows b (Wait v) y k l g h = ap (λ w. started b w l) g

pub over_starts_grows : {E P : Type 0} (f g : ℕ → List (Answer P) → Found (Ask E) P) → ((b : ℕ) (t : List (Answer P)) → Grows (f b t) (g b t)) → (left b : ℕ) (t : List (Answer P)) → EventGrows (over_starts f left b t) (over_starts g left b t)
over_starts_grows f g h zero b t = started_grows b (f b t) (g b t) (λ u. Failed) (λ u. Failed) (h b t) (λ u. refl)
over_starts_grows f g h (suc left) b t = started_grows b (f b t) (g b t) (λ u. over_starts f left (b + 1) u) (λ u. over_starts g left (b + 1) u) (h b t) (λ u. over_starts_grows f g h left (b + 1) u)

pub scan_grows : (s : List ℕ) (n : ℕ) (p : Pat) (left b : ℕ) (t : Script) → EventGrows (scan s n p left b t) (scan s (suc n) p left b t)
scan_grows s n p left b t = over_starts_grows (λ c u. search s n (Part p ∷ []) c [] u) (λ c u. search s (suc n) (Part p ∷ []) c [] u) (λ c u. search_grows s n (Part p ∷ []) c [] u) left b t
