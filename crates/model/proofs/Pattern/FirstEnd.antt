-- The first end of a plain pattern is what its scan returns.
use Rattle.std.proofs.Common.{◌≡◌, ℕ, zero, suc, ◌+◌, List, [], ◌∷◌, ◌++◌, refl, sym, ◌∙◌, ap, subst, arith, ◌≤◌, ◌⊎◌, inl, inr, append_assoc}
use Rattle.std.proofs.lemmas.List.{append-nil}
use Rattle.model.specs.Pattern.Patterns.{Basic, Lit, Pat, Plain, Succeed, Abort, Fence, Cat, Alt, Arbno, FenceOf, Cond, Imm, At, Defer, DeferBasic, Pending, Ask, Event, Running, Failed, Asks}
use Rattle.model.specs.Pattern.BasicEnds.{ends_at}
use Rattle.model.specs.Pattern.Ends.{Item, End, Aborted, join, replaced, first_only, put_before, plain_ends, between, ends, IsPlain, first_item, first}
use Rattle.model.specs.Pattern.Search.{Hit, Miss, Stop, Deep, Wait, on_miss, on_hit, try_each, Goal, Part, Closing, Found', Script, search, started, over_starts, scan}
use Rattle.model.specs.Deck.Target.{Name}
use Rattle.model.specs.Deck.Trees.{Expr}
use Rattle.model.proofs.Pattern.SearchGrows.{Grows, grows_refl, on_miss_grows, on_hit_grows, search_more, search_grows}
use Rattle.model.proofs.Pattern.Ends.{Begins, ends_more}
use Rattle.model.proofs.Pattern.Followed.{AlikeFound, misses, finals, SameEnd, hits, stops, waits, AlikeTold, fail, match, ask, Followed, at_more, by_equal, alike_grows, then_followed, on_miss_followed, on_miss_none, EventFollowed, over_starts_followed}

abbrev Cont : Type 0
Cont = ℕ → Pending → Script → Found'

abbrev Same : Found' → Found' → Type 0
Same = SameEnd (Ask Expr) Pat (Ask Expr) Pat (λ t u. t ≡ u) (λ v w. v ≡ w)

abbrev Toward : Found' → (ℕ → Found') → Type 0
Toward x f = Followed (Ask Expr) Pat (Ask Expr) Pat Same (λ t u. t ≡ u) x f

abbrev Up : (ℕ → Found') → Type 0
Up f = (n m : ℕ) → n ≤ m → Grows (f n) (f m)

abbrev Like : Found' → Found' → Type 0
Like x y = AlikeFound (Ask Expr) Pat (Ask Expr) Pat Same (λ t u. t ≡ u) x y

like_self : (x : Found') → (x ≡ Deep) ⊎ Like x x
like_self (Hit e a t) = inr (finals tt tt (hits refl))
like_self (Miss t) = inr (misses refl)
like_self Stop = inr (finals tt tt stops)
like_self Deep = inl refl
like_self (Wait v) = inr (finals tt tt (waits refl))

same_end : (x y : Found') → Same x y → x ≡ y
same_end x y (hits {e = e} {a = a} h) = ap (λ t. Hit e a t) h
same_end x y stops = refl
same_end x y (waits h) = ap (λ v. Wait v) h

same_found : (x y : Found') → Like x y → x ≡ y
same_found x y (misses h) = ap (λ t. Miss t) h
same_found x y (finals fx fy r) = same_end x y r

self : (f : ℕ → Found') (m : ℕ) → Toward (f m) f
self f m = from (like_self (f m))
  where
    from : ((f m ≡ Deep) ⊎ Like (f m) (f m)) → Toward (f m) f
    from (inl e) = inl e
    from (inr h) = inr (m, h)

at_one : (x : Found') (f : ℕ → Found') (m : ℕ) → x ≡ f m → Toward x f
at_one x f m e = subst (λ y. Toward y f) (sym e) (self f m)

compose : (x : Found') (f g : ℕ → Found') → Toward x f → ((m : ℕ) → Toward (f m) g) → Toward x g
compose x f g (inl e) h = inl e
compose x f g (inr (m, l)) h = subst (λ y. Toward y g) (sym (same_found x (f m) l)) (h m)

-- f at some bound is no more than g at some bound
toward_more : (x : Found') (f g : ℕ → Found') → ((n : ℕ) → (m : ℕ) × Grows (f n) (g m)) → Toward x f → Toward x g
toward_more x f g h (inl e) = inl e
toward_more x f g h (inr (n, l)) = inr ((h n).0, alike_grows (Ask Expr) Pat (Ask Expr) Pat Same (λ t u. t ≡ u) x (f n) (g (h n).0) l (h n).1)

more : (x : Found') (f : ℕ → Found') → Toward x (λ m. f (suc m)) → Toward x f
more x f h = at_more (Ask Expr) Pat (Ask Expr) Pat Same (λ t u. t ≡ u) x f h

equal : (x : Found') (f g : ℕ → Found') → ((m : ℕ) → f m ≡ g m) → Toward x g → Toward x f
equal x f g e h = by_equal (Ask Expr) Pat (Ask Expr) Pat Same (λ t u. t ≡ u) x f g e h

on_miss_toward : (x : Found') (k : Script → Found') (f : ℕ → Found') (l : ℕ → Script → Found') → Up f → ((u : Script) → Up (λ m. l m u)) → Toward x f → ((t : Script) → Toward (k t) (λ m. l m t)) → Toward (on_miss x k) (λ m. on_miss (f m) (l m))
on_miss_toward x k f l rf rl h g =
    on_miss_followed (Ask Expr) Pat (Ask Expr) Pat Same (λ t u. t ≡ u) x k f l rf rl h (λ t u e. subst (λ z. Toward (k t) (λ m. l m z)) e (g t))

on_hit_toward : (x : Found') (k : Cont) (f : ℕ → Found') (l : ℕ → Cont) → Up f → ((e : ℕ) (a : Pending) (u : Script) → Up (λ m. l m e a u)) → Toward x f → ((e : ℕ) (a : Pending) (u : Script) → Toward (k e a u) (λ m. l m e a u)) → Toward (on_hit x k) (λ m. on_hit (f m) (l m))
on_hit_toward x k f l rf rl h g =
    then_followed (Ask Expr) Pat (Ask Expr) Pat Same Same (λ t u. t ≡ u) x (λ z. on_hit z k) f (λ m y. on_hit y (l m)) refl rf
    (λ y i j le. on_hit_grows y y (l i) (l j) (grows_refl y) (λ e a u. rl e a u i j le)) h (λ y w. subst (λ z. Toward (on_hit x k) (λ m. on_hit z (l m))) (same_found x y w) (on x))
  where
    on : (y : Found') → Toward (on_hit y k) (λ m. on_hit y (l m))
    on (Hit e a t) = g e a t
    on (Miss t) = inr (0, misses refl)
    on Stop = inr (0, finals tt tt stops)
    on Deep = inl refl
    on (Wait v) = inr (0, finals tt tt (waits refl))

on_miss_assoc : (x : Found') (k l : Script → Found') → on_miss (on_miss x k) l ≡ on_miss x (λ u. on_miss (k u) l)
on_miss_assoc (Hit e a t) k l = refl
on_miss_assoc (Miss t) k l = refl
on_miss_assoc Stop k l = refl
on_miss_assoc Deep k l = refl
on_miss_assoc (Wait v) k l = refl

on_miss_cong : (x : Found') (k l : Script → Found') → ((u : Script) → k u ≡ l u) → on_miss x k ≡ on_miss x l
on_miss_cong (Hit e a t) k l h = refl
on_miss_cong (Miss t) k l h = h t
on_miss_cong Stop k l h = refl
on_miss_cong Deep k l h = refl
on_miss_cong (Wait v) k l h = refl

-- the ends of a list, each with what follows it
abbrev through : List Item → Cont → Script → Found'
through [] k t = Miss t
through (End e a ∷ xs) k t = on_miss (k e a t) (λ u. through xs k u)
through (Aborted ∷ xs) k t = Stop
through (Rattle.model.specs.Pattern.Ends.Deep ∷ xs) k t = Deep

through_cong : (xs : List Item) (k l : Cont) → ((e : ℕ) (a : Pending) (u : Script) → k e a u ≡ l e a u) → (t : Script) → through xs k t ≡ through xs l t
through_cong [] k l h t = refl
through_cong (End e a ∷ xs) k l h t =
    ap (λ x. on_miss x (λ u. through xs k u)) (h e a t) ∙ on_miss_cong (l e a t) (λ u. through xs k u) (λ u. through xs l u) (λ u. through_cong xs k l h u)
through_cong (Aborted ∷ xs) k l h t = refl
through_cong (Rattle.model.specs.Pattern.Ends.Deep ∷ xs) k l h t = refl

through_join : (xs ys : List Item) (k : Cont) (t : Script) → through (join xs ys) k t ≡ on_miss (through xs k t) (λ u. through ys k u)
through_join [] ys k t = refl
through_join (End e a ∷ xs) ys k t =
    on_miss_cong (k e a t) (λ u. through (join xs ys) k u) (λ u. on_miss (through xs k u) (λ w. through ys k w)) (λ u. through_join xs ys k u)
    ∙ sym (on_miss_assoc (k e a t) (λ u. through xs k u) (λ u. through ys k u))
through_join (Aborted ∷ xs) ys k t = refl
through_join (Rattle.model.specs.Pattern.Ends.Deep ∷ xs) ys k t = refl

through_replaced : (f : ℕ → Pending → List Item) (xs : List Item) (k : Cont) (t : Script) → through (replaced f xs) k t ≡ through xs (λ e a u. through (f e a) k u) t
through_replaced f [] k t = refl
through_replaced f (End e a ∷ xs) k t =
    through_join (f e a) (replaced f xs) k t
    ∙ on_miss_cong (through (f e a) k t) (λ u. through (replaced f xs) k u) (λ u. through xs (λ d b w. through (f d b) k w) u) (λ u. through_replaced f xs k u)
through_replaced f (Aborted ∷ xs) k t = refl
through_replaced f (Rattle.model.specs.Pattern.Ends.Deep ∷ xs) k t = refl

-- each end changed, one for one
through_changed : (g : ℕ → Pending → Pending) (xs : List Item) (k : Cont) (t : Script) → through (replaced (λ e a. End e (g e a) ∷ []) xs) k t ≡ through xs (λ e a u. k e (g e a) u) t
through_changed g xs k t =
    through_replaced (λ e a. End e (g e a) ∷ []) xs k t
    ∙ through_cong xs (λ e a u. on_miss (k e (g e a) u) (λ w. Miss w)) (λ e a u. k e (g e a) u) (λ e a u. on_miss_none (k e (g e a) u)) t

through_plain : (es : List ℕ) (k : Cont) (t : Script) → through (plain_ends es) k t ≡ try_each (λ e u. k e [] u) es t
through_plain [] k t = refl
through_plain (e ∷ es) k t =
    on_miss_cong (k e [] t) (λ u. through (plain_ends es) k u) (λ u. try_each (λ d w. k d [] w) es u) (λ u. through_plain es k u)

through_same : (k l : Cont) → ((e : ℕ) (a : Pending) (u : Script) → Grows (k e a u) (l e a u)) → (xs : List Item) (t : Script) → Grows (through xs k t) (through xs l t)
through_same k l h [] t = refl
through_same k l h (End e a ∷ xs) t =
    on_miss_grows (k e a t) (l e a t) (λ u. through xs k u) (λ u. through xs l u) (h e a t) (λ u. through_same k l h xs u)
through_same k l h (Aborted ∷ xs) t = refl
through_same k l h (Rattle.model.specs.Pattern.Ends.Deep ∷ xs) t = tt

through_grows : (k l : Cont) → ((e : ℕ) (a : Pending) (u : Script) → Grows (k e a u) (l e a u)) → (xs ys : List Item) → Begins xs ys → (t : Script) → Grows (through xs k t) (through ys l t)
through_grows k l h [] ys b t = ap (λ z. through z l t) b
through_grows k l h (End e a ∷ xs) ys b t =
    subst (λ z. Grows (on_miss (k e a t) (λ u. through xs k u)) (through z l t)) (sym b.1)
    (on_miss_grows (k e a t) (l e a t) (λ u. through xs k u) (λ u. through b.0 l u) (h e a t) (λ u. through_grows k l h xs b.0 b.2 u))
through_grows k l h (Aborted ∷ xs) ys b t = ap (λ z. through z l t) b.1
through_grows k l h (Rattle.model.specs.Pattern.Ends.Deep ∷ xs) ys b t = tt

through_toward : (k : Cont) (l : ℕ → Cont) → ((e : ℕ) (a : Pending) (u : Script) → Up (λ m. l m e a u)) → ((e : ℕ) (a : Pending) (u : Script) → Toward (k e a u) (λ m. l m e a u)) → (xs : List Item) (t : Script) → Toward (through xs k t) (λ m. through xs (l m) t)
through_toward k l r h [] t = inr (0, misses refl)
through_toward k l r h (End e a ∷ xs) t =
    on_miss_toward (k e a t) (λ u. through xs k u) (λ m. l m e a t) (λ m u. through xs (l m) u) (r e a t)
    (λ u i j le. through_same (l i) (l j) (λ d b w. r d b w i j le) xs u) (h e a t) (λ u. through_toward k l r h xs u)
through_toward k l r h (Aborted ∷ xs) t = inr (0, finals tt tt stops)
through_toward k l r h (Rattle.model.specs.Pattern.Ends.Deep ∷ xs) t = inl refl

module _ (s : List ℕ) where
  -- the others at bound m, with assignments before
  abbrev then_rest : ℕ → List Goal → Pending → Cont
  then_rest m rest a e b u = search s m rest e (a ++ b) u

  no_more : (m : ℕ) (rest : List Goal) (c : ℕ) (a : Pending) (t : Script) → search s m rest c (a ++ []) t ≡ search s m rest c a t
  no_more m rest c a t = ap (λ b. search s m rest c b t) (append-nil a)

  up_search : (rest : List Goal) (c : ℕ) (a : Pending) (t : Script) → Up (λ m. search s m rest c a t)
  up_search rest c a t n m le = search_more s n m le rest c a t

  -- the basic patterns
  basic_same : (m : ℕ) (k : Basic) (rest : List Goal) (c : ℕ) (a : Pending) (t : Script) → through (plain_ends (ends_at s k c)) (then_rest m rest a) t ≡ search s (suc m) (Part (Plain k) ∷ rest) c a t
  basic_same m k rest c a t =
      through_plain (ends_at s k c) (then_rest m rest a) t
      ∙ ap (λ b. try_each (λ e u. search s m rest e b u) (ends_at s k c) t) (append-nil a)

  -- p q as its ends, and those of q from each
  cat_same : (n m : ℕ) (p q : Pat) (rest : List Goal) (c : ℕ) (a : Pending) (t : Script) → through (ends s (suc n) (Cat p q) c) (then_rest m rest a) t ≡ through (ends s n p c) (λ e b u. through (ends s n q e) (then_rest m rest (a ++ b)) u) t
  cat_same n m p q rest c a t =
      through_replaced (λ e b. put_before b (ends s n q e)) (ends s n p c) (then_rest m rest a) t
      ∙ through_cong (ends s n p c) (λ e b u. through (put_before b (ends s n q e)) (then_rest m rest a) u) (λ e b u. through (ends s n q e) (then_rest m rest (a ++ b)) u)
      (λ e b u. through_changed (λ d z. b ++ z) (ends s n q e) (then_rest m rest a) u
      ∙ through_cong (ends s n q e) (λ d z w. search s m rest d (a ++ (b ++ z)) w) (then_rest m rest (a ++ b)) (λ d z w. ap (λ y. search s m rest d y w) (sym (append_assoc a b z))) u) t

  cond_same : (n m : ℕ) (p : Pat) (x : Name) (rest : List Goal) (c : ℕ) (a : Pending) (t : Script) → through (ends s (suc n) (Cond p x) c) (then_rest m rest a) t ≡ through (ends s n p c) (then_rest (suc m) (Closing x c ∷ rest) a) t
  cond_same n m p x rest c a t =
      through_changed (λ e b. b ++ (x, between s c e) ∷ []) (ends s n p c) (then_rest m rest a) t
      ∙ through_cong (ends s n p c) (λ e b u. search s m rest e (a ++ (b ++ (x, between s c e) ∷ [])) u) (then_rest (suc m) (Closing x c ∷ rest) a)
      (λ e b u. ap (λ y. search s m rest e y u) (sym (append_assoc a b ((x, between s c e) ∷ [])))) t

  -- the first item alone: an end, and what follows it
  first_same : (m : ℕ) (a : Pending) (rest : List Goal) (xs : List Item) (t : Script) → through (first_only xs) (then_rest m rest a) t ≡ on_hit (through xs (then_rest 1 [] a) t) (λ e b u. search s m rest e b u)
  first_same m a rest [] t = refl
  first_same m a rest (End e b ∷ xs) t = on_miss_none (search s m rest e (a ++ b) t)
  first_same m a rest (Aborted ∷ xs) t = refl
  first_same m a rest (Rattle.model.specs.Pattern.Ends.Deep ∷ xs) t = refl

  -- from the ends to the search
  abbrev Into : ℕ → Type 0
  Into n = (p : Pat) → IsPlain p → (m : ℕ) (rest : List Goal) (c : ℕ) (a : Pending) (t : Script) → Toward (through (ends s n p c) (then_rest m rest a) t) (λ k. search s k (Part p ∷ rest) c a t)

  into : (n : ℕ) → Into n
  into zero p pl m rest c a t = inl refl
  into (suc n) (Plain k) pl m rest c a t =
      at_one (through (plain_ends (ends_at s k c)) (then_rest m rest a) t) (λ j. search s j (Part (Plain k) ∷ rest) c a t) (suc m) (basic_same m k rest c a t)
  into (suc n) Succeed pl m rest c a t =
      more (through (ends s (suc n) Succeed c) (then_rest m rest a) t) (λ j. search s j (Part Succeed ∷ rest) c a t)
      (on_miss_toward (search s m rest c (a ++ []) t) (λ u. through (ends s n Succeed c) (then_rest m rest a) u) (λ j. search s j rest c a t) (λ j u. search s j (Part Succeed ∷ rest) c a u)
      (up_search rest c a t) (λ u. up_search (Part Succeed ∷ rest) c a u)
      (at_one (search s m rest c (a ++ []) t) (λ j. search s j rest c a t) m (no_more m rest c a t)) (λ u. into n Succeed tt m rest c a u))
  into (suc n) Abort pl m rest c a t = inr (1, finals tt tt stops)
  into (suc n) Fence pl m rest c a t =
      more (through (ends s (suc n) Fence c) (then_rest m rest a) t) (λ j. search s j (Part Fence ∷ rest) c a t)
      (on_miss_toward (search s m rest c (a ++ []) t) (λ u. Stop) (λ j. search s j rest c a t) (λ j u. Stop)
      (up_search rest c a t) (λ u i j le. refl)
      (at_one (search s m rest c (a ++ []) t) (λ j. search s j rest c a t) m (no_more m rest c a t)) (λ u. inr (0, finals tt tt stops)))
  into (suc n) (Cat p q) pl m rest c a t =
      subst (λ y. Toward y (λ j. search s j (Part (Cat p q) ∷ rest) c a t)) (sym (cat_same n m p q rest c a t))
      (more (through (ends s n p c) (λ e b u. through (ends s n q e) (then_rest m rest (a ++ b)) u) t) (λ j. search s j (Part (Cat p q) ∷ rest) c a t)
      (compose (through (ends s n p c) (λ e b u. through (ends s n q e) (then_rest m rest (a ++ b)) u) t) (λ j. through (ends s n p c) (then_rest j (Part q ∷ rest) a) t) (λ j. search s j (Part p ∷ Part q ∷ rest) c a t)
      (through_toward (λ e b u. through (ends s n q e) (then_rest m rest (a ++ b)) u) (λ j. then_rest j (Part q ∷ rest) a) (λ e b u. up_search (Part q ∷ rest) e (a ++ b) u) (λ e b u. into n q pl.1 m rest e (a ++ b) u) (ends s n p c) t)
      (λ j. into n p pl.0 j (Part q ∷ rest) c a t)))
  into (suc n) (Alt p q) pl m rest c a t =
      subst (λ y. Toward y (λ j. search s j (Part (Alt p q) ∷ rest) c a t)) (sym (through_join (ends s n p c) (ends s n q c) (then_rest m rest a) t))
      (more (on_miss (through (ends s n p c) (then_rest m rest a) t) (λ u. through (ends s n q c) (then_rest m rest a) u)) (λ j. search s j (Part (Alt p q) ∷ rest) c a t)
      (on_miss_toward (through (ends s n p c) (then_rest m rest a) t) (λ u. through (ends s n q c) (then_rest m rest a) u) (λ j. search s j (Part p ∷ rest) c a t) (λ j u. search s j (Part q ∷ rest) c a u)
      (up_search (Part p ∷ rest) c a t) (λ u. up_search (Part q ∷ rest) c a u) (into n p pl.0 m rest c a t) (λ u. into n q pl.1 m rest c a u)))
  into (suc n) (Arbno p) pl m rest c a t =
      more (through (ends s (suc n) (Arbno p) c) (then_rest m rest a) t) (λ j. search s j (Part (Arbno p) ∷ rest) c a t)
      (into n (Alt (Plain (Lit [])) (Cat p (Arbno p))) (tt, (pl, pl)) m rest c a t)
  into (suc n) (FenceOf p) pl m rest c a t =
      more (through (first_only (ends s n p c)) (then_rest m rest a) t) (λ j. search s j (Part (FenceOf p) ∷ rest) c a t)
      (subst (λ y. Toward y (λ j. on_hit (search s j (Part p ∷ []) c a t) (λ e b u. search s j rest e b u))) (sym (first_same m a rest (ends s n p c) t))
      (on_hit_toward (through (ends s n p c) (then_rest 1 [] a) t) (λ e b u. search s m rest e b u) (λ j. search s j (Part p ∷ []) c a t) (λ j e b u. search s j rest e b u)
      (up_search (Part p ∷ []) c a t) (λ e b u. up_search rest e b u) (into n p pl 1 [] c a t) (λ e b u. self (λ j. search s j rest e b u) m)))
  into (suc n) (Cond p x) pl m rest c a t =
      subst (λ y. Toward y (λ j. search s j (Part (Cond p x) ∷ rest) c a t)) (sym (cond_same n m p x rest c a t))
      (more (through (ends s n p c) (then_rest (suc m) (Closing x c ∷ rest) a) t) (λ j. search s j (Part (Cond p x) ∷ rest) c a t)
      (into n p pl (suc m) (Closing x c ∷ rest) c a t))
  into (suc n) (Imm p x) pl m rest c a t = absurd pl
  into (suc n) (At x) pl m rest c a t = absurd pl
  into (suc n) (Defer x) pl m rest c a t = absurd pl
  into (suc n) (DeferBasic k x) pl m rest c a t = absurd pl

  up_ends : (p : Pat) (c : ℕ) (k : Cont) (t : Script) → Up (λ n. through (ends s n p c) k t)
  up_ends p c k t n m le = through_grows k k (λ e b u. grows_refl (k e b u)) (ends s n p c) (ends s m p c) (ends_more s n m le p c) t

  -- from the search to the ends
  abbrev Out : ℕ → Type 0
  Out m = (p : Pat) → IsPlain p → (rest : List Goal) (c : ℕ) (a : Pending) (t : Script) → Toward (search s m (Part p ∷ rest) c a t) (λ n. through (ends s n p c) (then_rest m rest a) t)

  -- nothing further takes one level
  one_level : (m : ℕ) (p : Pat) (c : ℕ) (a : Pending) (t : Script) → Toward (search s m (Part p ∷ []) c a t) (λ n. through (ends s n p c) (then_rest m [] a) t) → Toward (search s m (Part p ∷ []) c a t) (λ n. through (ends s n p c) (then_rest 1 [] a) t)
  one_level m p c a t h =
      toward_more (search s m (Part p ∷ []) c a t) (λ n. through (ends s n p c) (then_rest m [] a) t) (λ n. through (ends s n p c) (then_rest 1 [] a) t)
      (λ n. (n, through_same (then_rest m [] a) (then_rest 1 [] a) (λ e b u. at_level m e (a ++ b) u) (ends s n p c) t)) h
    where
      at_level : (m e : ℕ) (b : Pending) (u : Script) → Grows (search s m [] e b u) (search s 1 [] e b u)
      at_level zero e b u = tt
      at_level (suc k) e b u = refl

  part_out : (m : ℕ) → Out m → (p : Pat) → IsPlain p → (rest : List Goal) (c : ℕ) (a : Pending) (t : Script) → Toward (search s (suc m) (Part p ∷ rest) c a t) (λ n. through (ends s n p c) (then_rest m rest a) t)
  part_out m f (Plain k) pl rest c a t =
      at_one (search s (suc m) (Part (Plain k) ∷ rest) c a t) (λ n. through (ends s n (Plain k) c) (then_rest m rest a) t) 1 (sym (basic_same m k rest c a t))
  part_out m f Succeed pl rest c a t =
      more (search s (suc m) (Part Succeed ∷ rest) c a t) (λ n. through (ends s n Succeed c) (then_rest m rest a) t)
      (on_miss_toward (search s m rest c a t) (λ u. search s m (Part Succeed ∷ rest) c a u) (λ n. search s m rest c (a ++ []) t) (λ n u. through (ends s n Succeed c) (then_rest m rest a) u)
      (λ i j le. grows_refl (search s m rest c (a ++ []) t)) (λ u. up_ends Succeed c (then_rest m rest a) u)
      (at_one (search s m rest c a t) (λ n. search s m rest c (a ++ []) t) 0 (sym (no_more m rest c a t))) (λ u. f Succeed tt rest c a u))
  part_out m f Abort pl rest c a t = inr (1, finals tt tt stops)
  part_out m f Fence pl rest c a t =
      at_one (search s (suc m) (Part Fence ∷ rest) c a t) (λ n. through (ends s n Fence c) (then_rest m rest a) t) 1 (ap (λ y. on_miss y (λ u. Stop)) (sym (no_more m rest c a t)))
  part_out m f (Cat p q) pl rest c a t =
      let inner : ℕ → Cont = λ n e b u. through (ends s n q e) (then_rest m rest (a ++ b)) u in
      let x : Found' = search s m (Part p ∷ Part q ∷ rest) c a t in
      more x (λ n. through (ends s n (Cat p q) c) (then_rest m rest a) t)
      (equal x (λ n. through (ends s (suc n) (Cat p q) c) (then_rest m rest a) t) (λ n. through (ends s n p c) (inner n) t) (λ n. cat_same n m p q rest c a t)
      (compose x (λ n. through (ends s n p c) (then_rest m (Part q ∷ rest) a) t) (λ n. through (ends s n p c) (inner n) t) (f p pl.0 (Part q ∷ rest) c a t)
      (λ i. toward_more (through (ends s i p c) (then_rest m (Part q ∷ rest) a) t) (λ n. through (ends s i p c) (inner n) t) (λ n. through (ends s n p c) (inner n) t)
      (λ n. (i + n, through_grows (inner n) (inner (i + n)) (λ e b u. up_ends q e (then_rest m rest (a ++ b)) u n (i + n) (omega arith)) (ends s i p c) (ends s (i + n) p c) (ends_more s i (i + n) (omega arith) p c) t))
      (through_toward (then_rest m (Part q ∷ rest) a) inner (λ e b u. up_ends q e (then_rest m rest (a ++ b)) u) (λ e b u. f q pl.1 rest e (a ++ b) u) (ends s i p c) t))))
  part_out m f (Alt p q) pl rest c a t =
      let x : Found' = search s (suc m) (Part (Alt p q) ∷ rest) c a t in
      more x (λ n. through (ends s n (Alt p q) c) (then_rest m rest a) t)
      (equal x (λ n. through (ends s (suc n) (Alt p q) c) (then_rest m rest a) t) (λ n. on_miss (through (ends s n p c) (then_rest m rest a) t) (λ u. through (ends s n q c) (then_rest m rest a) u)) (λ n. through_join (ends s n p c) (ends s n q c) (then_rest m rest a) t)
      (on_miss_toward (search s m (Part p ∷ rest) c a t) (λ u. search s m (Part q ∷ rest) c a u) (λ n. through (ends s n p c) (then_rest m rest a) t) (λ n u. through (ends s n q c) (then_rest m rest a) u)
      (up_ends p c (then_rest m rest a) t) (λ u. up_ends q c (then_rest m rest a) u) (f p pl.0 rest c a t) (λ u. f q pl.1 rest c a u)))
  part_out m f (Arbno p) pl rest c a t =
      more (search s (suc m) (Part (Arbno p) ∷ rest) c a t) (λ n. through (ends s n (Arbno p) c) (then_rest m rest a) t)
      (f (Alt (Plain (Lit [])) (Cat p (Arbno p))) (tt, (pl, pl)) rest c a t)
  part_out m f (FenceOf p) pl rest c a t =
      let x : Found' = search s m (Part p ∷ []) c a t in
      let y : Found' = on_hit x (λ e b u. search s m rest e b u) in
      more y (λ n. through (ends s n (FenceOf p) c) (then_rest m rest a) t)
      (equal y (λ n. through (ends s (suc n) (FenceOf p) c) (then_rest m rest a) t) (λ n. on_hit (through (ends s n p c) (then_rest 1 [] a) t) (λ e b u. search s m rest e b u)) (λ n. first_same m a rest (ends s n p c) t)
      (on_hit_toward x (λ e b u. search s m rest e b u) (λ n. through (ends s n p c) (then_rest 1 [] a) t) (λ n e b u. search s m rest e b u)
      (up_ends p c (then_rest 1 [] a) t) (λ e b u i j le. grows_refl (search s m rest e b u)) (one_level m p c a t (f p pl [] c a t)) (λ e b u. self (λ n. search s m rest e b u) 0)))
  part_out m f (Cond p x) pl rest c a t =
      let y : Found' = search s m (Part p ∷ Closing x c ∷ rest) c a t in
      more y (λ n. through (ends s n (Cond p x) c) (then_rest m rest a) t)
      (equal y (λ n. through (ends s (suc n) (Cond p x) c) (then_rest m rest a) t) (λ n. through (ends s n p c) (then_rest (suc m) (Closing x c ∷ rest) a) t) (λ n. cond_same n m p x rest c a t)
      (toward_more y (λ n. through (ends s n p c) (then_rest m (Closing x c ∷ rest) a) t) (λ n. through (ends s n p c) (then_rest (suc m) (Closing x c ∷ rest) a) t)
      (λ n. (n, through_same (then_rest m (Closing x c ∷ rest) a) (then_rest (suc m) (Closing x c ∷ rest) a) (λ e b u. search_grows s m (Closing x c ∷ rest) e (a ++ b) u) (ends s n p c) t))
      (f p pl (Closing x c ∷ rest) c a t)))
  part_out m f (Imm p x) pl rest c a t = absurd pl
  part_out m f (At x) pl rest c a t = absurd pl
  part_out m f (Defer x) pl rest c a t = absurd pl
  part_out m f (DeferBasic k x) pl rest c a t = absurd pl

  more_rest : (m : ℕ) (p : Pat) (rest : List Goal) (c : ℕ) (a : Pending) (t : Script) (x : Found') → Toward x (λ n. through (ends s n p c) (then_rest m rest a) t) → Toward x (λ n. through (ends s n p c) (then_rest (suc m) rest a) t)
  more_rest m p rest c a t x h =
      toward_more x (λ n. through (ends s n p c) (then_rest m rest a) t) (λ n. through (ends s n p c) (then_rest (suc m) rest a) t)
      (λ n. (n, through_same (then_rest m rest a) (then_rest (suc m) rest a) (λ e b u. search_grows s m rest e (a ++ b) u) (ends s n p c) t)) h

  out : (m : ℕ) → Out m
  out zero p pl rest c a t = inl refl
  out (suc m) p pl rest c a t =
      more_rest m p rest c a t (search s (suc m) (Part p ∷ rest) c a t) (part_out m (out m) p pl rest c a t)

  -- over the starts
  abbrev hit : Cont
  hit e a u = Hit e a u

  started_first : (b : ℕ) (xs : List Item) (later : Event Expr) (k : Script → Event Expr) → ((u : Script) → k u ≡ later) → (t : Script) → started b (through xs hit t) k ≡ first_item b xs later
  started_first b [] later k h t = h t
  started_first b (End e a ∷ xs) later k h t = refl
  started_first b (Aborted ∷ xs) later k h t = refl
  started_first b (Rattle.model.specs.Pattern.Ends.Deep ∷ xs) later k h t = refl

  first_as : (n : ℕ) (p : Pat) (left b : ℕ) (t : Script) → over_starts (λ c u. through (ends s n p c) hit u) left b t ≡ first s n p left b
  first_as n p zero b t = started_first b (ends s n p b) Failed (λ u. Failed) (λ u. refl) t
  first_as n p (suc left) b t =
      started_first b (ends s n p b) (first s n p left (b + 1)) (λ u. over_starts (λ c w. through (ends s n p c) hit w) left (b + 1) u) (λ u. first_as n p left (b + 1) u) t

  told_same : (x y : Event Expr) → AlikeTold Expr Expr (λ v w. v ≡ w) x y → x ≡ y
  told_same x y fail = refl
  told_same x y match = refl
  told_same x y (ask h) = ap (λ v. Asks v) h

  abbrev Reaches : Event Expr → (ℕ → Event Expr) → Type 0
  Reaches x f = EventFollowed Expr Pat Expr Pat (λ t u. t ≡ u) (λ v w. v ≡ w) x f

  reached : (x : Event Expr) (f : ℕ → Event Expr) → Reaches x f → (x ≡ Running → ⊥) → (m : ℕ) × (f m ≡ x)
  reached x f (inl e) o = absurd (o e)
  reached x f (inr (m, h)) o = (m, sym (told_same x (f m) h))

  pub scan_of_first : (n : ℕ) (p : Pat) → IsPlain p → (left b : ℕ) → (first s n p left b ≡ Running → ⊥) → (m : ℕ) × (scan s m p left b [] ≡ first s n p left b)
  scan_of_first n p pl left b o =
      reached (first s n p left b) (λ m. scan s m p left b [])
      (subst (λ x. Reaches x (λ m. scan s m p left b [])) (first_as n p left b [])
      (over_starts_followed Expr Pat Expr Pat (λ t u. t ≡ u) (λ v w. v ≡ w) (λ c u. through (ends s n p c) hit u) (λ m c u. search s m (Part p ∷ []) c [] u)
      (λ c u. up_search (Part p ∷ []) c [] u)
      (λ c t u e. subst (λ z. Toward (through (ends s n p c) hit t) (λ m. search s m (Part p ∷ []) c [] z)) e (into n p pl 1 [] c [] t)) left b [] [] refl)) o

  pub first_of_scan : (m : ℕ) (p : Pat) → IsPlain p → (left b : ℕ) → (scan s m p left b [] ≡ Running → ⊥) → (n : ℕ) × (first s n p left b ≡ scan s m p left b [])
  first_of_scan m p pl left b o =
      let r = reached (scan s m p left b []) (λ n. over_starts (λ c u. through (ends s n p c) hit u) left b [])
      (over_starts_followed Expr Pat Expr Pat (λ t u. t ≡ u) (λ v w. v ≡ w) (λ c u. search s m (Part p ∷ []) c [] u) (λ n c u. through (ends s n p c) hit u)
      (λ c u. up_ends p c hit u)
      (λ c t u e. subst (λ z. Toward (search s m (Part p ∷ []) c [] t) (λ n. through (ends s n p c) hit z)) e (more_rest m p [] c [] t (search s m (Part p ∷ []) c [] t) (out m p pl [] c [] t))) left b [] [] refl) o in
      (r.0, sym (first_as r.0 p left b []) ∙ r.1)
