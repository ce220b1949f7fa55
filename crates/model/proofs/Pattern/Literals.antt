-- Patterns of literals, `|` and blank: some scan isn't deep, and what is answered is right.
use Rattle.std.proofs.Common.{◌≡◌, ℕ, zero, suc, ◌+◌, List, [], ◌∷◌, ◌++◌, refl, sym, ◌∙◌, ap, subst, arith, ◌≤◌, ◌⊎◌, inl, inr, Option}
use Rattle.std.specs.Prelude.{◌≢◌, max}
use Rattle.model.specs.Pattern.Patterns.{Lit, Pat, Plain, Cat, Alt, Pending, Event, Running, Failed, Asks, Matched}
use Rattle.model.specs.Pattern.BasicEnds.{ends_at}
use Rattle.model.specs.Pattern.Ends.{Item, End, Aborted, Deep, join, replaced, put_before, plain_ends, ends, first_item, first, IsOneOf, Permits, IsPlain, IsOfLiterals}
use Rattle.model.specs.Pattern.Search.{scan}
use Rattle.model.specs.Pattern.Steps.{match_steps, event_of}
use Rattle.model.specs.Pattern.Stands as St
use Rattle.model.specs.Pattern.Stands.{Stands, AlikeEvent}
use Rattle.model.specs.Laws.Patterns.{IsItem, IsStart, TellsRight, LiteralsScanned, LiteralScansRight, LiteralsRun, LiteralRunsRight}
use Rattle.model.specs.Deck.Trees.{Expr}
use Rattle.model.proofs.Pattern.SearchGrows.{EventGrows}
use Rattle.model.proofs.Pattern.Ends.{Begins, ends_more, EachEnd, each_permitted}
use Rattle.model.proofs.Pattern.Laws.{event_same}
use Rattle.model.proofs.Pattern.FirstEnd.{scan_of_first, first_of_scan}
use Rattle.model.proofs.Pattern.CodeEvents.{steps_of_scan, scan_of_steps}

-- ---- the first end at a greater bound
item_grows : (b : ℕ) (xs ys : List Item) (x y : Event Expr) → Begins xs ys → EventGrows x y → EventGrows (first_item b xs x) (first_item b ys y)
item_grows b [] ys x y h g = subst (λ z. EventGrows x (first_item b z y)) (sym h) g
item_grows b (End e a ∷ xs) ys x y h g = ap (λ z. first_item b z y) h.1
item_grows b (Aborted ∷ xs) ys x y h g = ap (λ z. first_item b z y) h.1
item_grows b (Deep ∷ xs) ys x y h g = tt

first_grows : (s : List ℕ) (n m : ℕ) → n ≤ m → (p : Pat) (left b : ℕ) → EventGrows (first s n p left b) (first s m p left b)
first_grows s n m le p zero b = item_grows b (ends s n p b) (ends s m p b) Failed Failed (ends_more s n m le p b) refl
first_grows s n m le p (suc left) b =
    item_grows b (ends s n p b) (ends s m p b) (first s n p left (b + 1)) (first s m p left (b + 1)) (ends_more s n m le p b) (first_grows s n m le p left (b + 1))

-- ---- lists of ends alone
abbrev AllEnds : List Item → Type 0
AllEnds [] = Unit {0}
AllEnds (End e a ∷ xs) = AllEnds xs
AllEnds (Aborted ∷ xs) = ⊥
AllEnds (Deep ∷ xs) = ⊥

all_join : (xs ys : List Item) → AllEnds xs → AllEnds ys → AllEnds (join xs ys)
all_join [] ys g h = h
all_join (End e a ∷ xs) ys g h = all_join xs ys g h
all_join (Aborted ∷ xs) ys g h = absurd g
all_join (Deep ∷ xs) ys g h = absurd g

all_replaced : (f : ℕ → Pending → List Item) → ((e : ℕ) (a : Pending) → AllEnds (f e a)) → (xs : List Item) → AllEnds xs → AllEnds (replaced f xs)
all_replaced f h [] g = tt
all_replaced f h (End e a ∷ xs) g = all_join (f e a) (replaced f xs) (h e a) (all_replaced f h xs g)
all_replaced f h (Aborted ∷ xs) g = absurd g
all_replaced f h (Deep ∷ xs) g = absurd g

all_plain : (es : List ℕ) → AllEnds (plain_ends es)
all_plain [] = tt
all_plain (e ∷ es) = all_plain es

in_front : (i : Item) (xs ys : List Item) → AllEnds xs → IsItem i xs → IsItem i (join xs ys)
in_front i [] ys g h = absurd h
in_front i (End e a ∷ xs) ys g (inl h) = inl h
in_front i (End e a ∷ xs) ys g (inr h) = inr (in_front i xs ys g h)
in_front i (Aborted ∷ xs) ys g h = absurd g
in_front i (Deep ∷ xs) ys g h = absurd g

in_back : (i : Item) (xs ys : List Item) → AllEnds xs → IsItem i ys → IsItem i (join xs ys)
in_back i [] ys g h = h
in_back i (End e a ∷ xs) ys g h = inr (in_back i xs ys g h)
in_back i (Aborted ∷ xs) ys g h = absurd g
in_back i (Deep ∷ xs) ys g h = absurd g

in_replaced : (f : ℕ → Pending → List Item) → ((e : ℕ) (a : Pending) → AllEnds (f e a)) → (i : Item) (xs : List Item) (e : ℕ) (a : Pending) → AllEnds xs → IsItem (End e a) xs → IsItem i (f e a) → IsItem i (replaced f xs)
in_replaced f h i [] e a g k m = absurd k
in_replaced f h i (End d b ∷ xs) e a g (inl k) m =
    let x : e ≡ d = cc in
    let y : a ≡ b = cc in
    in_front i (f d b) (replaced f xs) (h d b) (subst (λ z. IsItem i (f z b)) x (subst (λ z. IsItem i (f e z)) y m))
in_replaced f h i (End d b ∷ xs) e a g (inr k) m = in_back i (f d b) (replaced f xs) (h d b) (in_replaced f h i xs e a g k m)
in_replaced f h i (Aborted ∷ xs) e a g k m = absurd g
in_replaced f h i (Deep ∷ xs) e a g k m = absurd g

in_plain : (es : List ℕ) (e : ℕ) (a : Pending) → IsOneOf es e → a ≡ [] → IsItem (End e a) (plain_ends es)
in_plain [] e a h q = absurd h
in_plain (d ∷ es) e a (inl h) q = inl (λ j. End (h j) (q j))
in_plain (d ∷ es) e a (inr h) q = inr (in_plain es e a h q)

-- ---- at a bound over its depth, a pattern of literals has just the ends that it permits
depth : Pat → ℕ
depth (Cat p q) = suc (max (depth p) (depth q))
depth (Alt p q) = suc (max (depth p) (depth q))
depth _ = 1

module _ (s : List ℕ) where
  all_ends : (p : Pat) → IsOfLiterals p → (n c : ℕ) → depth p ≤ n → AllEnds (ends s n p c)
  unfolding depth
  all_ends (Plain (Lit w)) l zero c le = absurd (omega (arith, le))
  all_ends (Plain (Lit w)) l (suc n) c le = all_plain (ends_at s (Lit w) c)
  all_ends (Cat p q) l zero c le = absurd (omega (arith, le))
  all_ends (Cat p q) l (suc n) c le =
      all_replaced (λ e a. put_before a (ends s n q e)) (λ e a. all_replaced (λ d b. End d (a ++ b) ∷ []) (λ d b. tt) (ends s n q e) (all_ends q l.1 n e (omega (arith, le)))) (ends s n p c) (all_ends p l.0 n c (omega (arith, le)))
  all_ends (Alt p q) l zero c le = absurd (omega (arith, le))
  all_ends (Alt p q) l (suc n) c le =
      all_join (ends s n p c) (ends s n q c) (all_ends p l.0 n c (omega (arith, le))) (all_ends q l.1 n c (omega (arith, le)))
  all_ends _ l n c le = absurd l

  each_end : (p : Pat) → IsOfLiterals p → (n c e : ℕ) (a : Pending) → depth p ≤ n → Permits s p c e a → IsItem (End e a) (ends s n p c)
  unfolding depth
  each_end (Plain (Lit w)) l zero c e a le h = absurd (omega (arith, le))
  each_end (Plain (Lit w)) l (suc n) c e a le h = in_plain (ends_at s (Lit w) c) e a h.0 h.1
  each_end (Cat p q) l zero c e a le h = absurd (omega (arith, le))
  each_end (Cat p q) l (suc n) c e a le (m, b, d, g, h, w) =
      let before : (i : ℕ) (z : Pending) → AllEnds (put_before z (ends s n q i)) = λ i z. all_replaced (λ j y. End j (z ++ y) ∷ []) (λ j y. tt) (ends s n q i) (all_ends q l.1 n i (omega (arith, le))) in
      in_replaced (λ i z. put_before z (ends s n q i)) before (End e a) (ends s n p c) m b (all_ends p l.0 n c (omega (arith, le))) (each_end p l.0 n c m b (omega (arith, le)) g)
      (in_replaced (λ j y. End j (b ++ y) ∷ []) (λ j y. tt) (End e a) (ends s n q m) e d (all_ends q l.1 n m (omega (arith, le))) (each_end q l.1 n m e d (omega (arith, le)) h) (inl (ap (λ z. End e z) w)))
  each_end (Alt p q) l zero c e a le h = absurd (omega (arith, le))
  each_end (Alt p q) l (suc n) c e a le (inl h) =
      in_front (End e a) (ends s n p c) (ends s n q c) (all_ends p l.0 n c (omega (arith, le))) (each_end p l.0 n c e a (omega (arith, le)) h)
  each_end (Alt p q) l (suc n) c e a le (inr h) =
      in_back (End e a) (ends s n p c) (ends s n q c) (all_ends p l.0 n c (omega (arith, le))) (each_end q l.1 n c e a (omega (arith, le)) h)
  each_end _ l n c e a le h = absurd l

  -- ---- the first end is right
  abbrev Right : Pat → (left b : ℕ) → Event Expr → Type 0
  Right p left b x = TellsRight s p left b x × (x ≢ Running)

  item_right : (p : Pat) (left b : ℕ) (xs : List Item) (later : Event Expr) → AllEnds xs → EachEnd (Permits s p b) xs → (xs ≡ [] → Right p left b later) → Right p left b (first_item b xs later)
  item_right p left b [] later g h k = k refl
  item_right p left b (End e a ∷ xs) later g h k = (((omega arith, omega arith), h.0), (λ q. cc))
  item_right p left b (Aborted ∷ xs) later g h k = absurd g
  item_right p left b (Deep ∷ xs) later g h k = absurd g

  no_item : (i : Item) (xs : List Item) → xs ≡ [] → IsItem i xs → ⊥
  no_item i xs e h = subst (IsItem i) e h

  first_or_later : (b d : ℕ) → b ≤ d → (d ≡ b) ⊎ (b + 1 ≤ d)
  first_or_later zero zero le = inl refl
  first_or_later zero (suc d) le = inr (omega arith)
  first_or_later (suc b) zero le = absurd (omega (arith, le))
  first_or_later (suc b) (suc d) le = go (first_or_later b d (omega (arith, le)))
    where
      go : (d ≡ b) ⊎ (b + 1 ≤ d) → (suc d ≡ suc b) ⊎ (suc b + 1 ≤ suc d)
      go (inl e) = inl (ap suc e)
      go (inr h) = inr (omega (arith, h))

  -- with one start more before
  one_more : (p : Pat) (left b : ℕ) (x : Event Expr) → ((e : ℕ) (a : Pending) → Permits s p b e a → ⊥) → TellsRight s p left (b + 1) x → TellsRight s p (suc left) b x
  one_more p left b Running h g = tt
  one_more p left b Failed h g = λ (d, e, a, st, w). go d e a st w (first_or_later b d st.0)
    where
      go : (d e : ℕ) (a : Pending) → IsStart (suc left) b d → Permits s p d e a → (d ≡ b) ⊎ (b + 1 ≤ d) → ⊥
      go d e a st w (inl q) = h e a (subst (λ z. Permits s p z e a) q w)
      go d e a st w (inr le) = g (d, e, a, (le, omega (arith, st.1)), w)
  one_more p left b (Asks v) h g = g
  one_more p left b (Matched d e a) h g = ((omega (arith, g.0.0), omega (arith, g.0.1)), g.1)

  abbrev FirstRight : Pat → ℕ → Type 0
  FirstRight p n = (left b : ℕ) → Right p left b (first s n p left b)

  first_right : (p : Pat) → IsOfLiterals p → (n : ℕ) → depth p ≤ n → FirstRight p n
  first_right p l n le zero b =
      item_right p zero b (ends s n p b) Failed (all_ends p l n b le) (each_permitted s n p b) (λ q. ((λ (d, e, a, st, w). none d e a q st w), (λ r. cc)))
    where
      none : (d e : ℕ) (a : Pending) → ends s n p b ≡ [] → IsStart zero b d → Permits s p d e a → ⊥
      none d e a q st w =
          let same : d ≡ b = omega (arith, st.0, st.1) in
          no_item (End e a) (ends s n p b) q (each_end p l n b e a le (subst (λ z. Permits s p z e a) same w))
  first_right p l n le (suc left) b =
      item_right p (suc left) b (ends s n p b) (first s n p left (b + 1)) (all_ends p l n b le) (each_permitted s n p b)
      (λ q. (one_more p left b (first s n p left (b + 1)) (λ e a w. no_item (End e a) (ends s n p b) q (each_end p l n b e a le w)) (first_right p l n le left (b + 1)).0, (first_right p l n le left (b + 1)).1))

  literals_plain : (p : Pat) → IsOfLiterals p → IsPlain p
  literals_plain (Plain (Lit w)) l = tt
  literals_plain (Cat p q) l = (literals_plain p l.0, literals_plain q l.1)
  literals_plain (Alt p q) l = (literals_plain p l.0, literals_plain q l.1)
  literals_plain _ l = absurd l

  -- ---- scans
  scanned : (p : Pat) → IsOfLiterals p → (left b : ℕ) → (n : ℕ) × (scan s n p left b [] ≢ Running)
  scanned p l left b =
      let r = (first_right p l (depth p) (omega arith) left b).1 in
      let f = scan_of_first s (depth p) p (literals_plain p l) left b r in
      (f.0, (λ e. r (sym f.1 ∙ e)))

  scan_right : (p : Pat) → IsOfLiterals p → (n left b : ℕ) (x : Event Expr) → scan s n p left b [] ≡ x → (x ≢ Running) → TellsRight s p left b x
  scan_right p l n left b x e o =
      let f = first_of_scan s n p (literals_plain p l) left b (λ q. o (sym e ∙ q)) in
      let is : first s f.0 p left b ≡ x = f.1 ∙ e in
      let more : first s (f.0 + depth p) p left b ≡ first s f.0 p left b = event_same (first s f.0 p left b) (first s (f.0 + depth p) p left b) (first_grows s f.0 (f.0 + depth p) (omega arith) p left b) (λ q. o (sym is ∙ q)) in
      subst (TellsRight s p left b) (more ∙ is) (first_right p l (f.0 + depth p) (omega arith) left b).0

  tells : (E : Type 0) (p : Pat) (left b : ℕ) (x : Event E) → (x ≢ Running → TellsRight s p left b x) → TellsRight s p left b x
  tells E p left b Running h = tt
  tells E p left b Failed h = h (λ q. cc)
  tells E p left b (Asks v) h = h (λ q. cc)
  tells E p left b (Matched d e a) h = h (λ q. cc)

  -- ---- code
  alike_right : (xs : ℕ → Option Expr) (p : Pat) (left b : ℕ) (x : Event Expr) (y : Event ℕ) → AlikeEvent xs x y → TellsRight s p left b x → TellsRight s p left b y
  alike_right xs p left b x y St.fail h = h
  alike_right xs p left b x y St.match h = h
  alike_right xs p left b x y (St.ask v) h = h

  alike_runs : (xs : ℕ → Option Expr) (x : Event Expr) (y : Event ℕ) → AlikeEvent xs x y → y ≢ Running
  alike_runs xs x y St.fail e = cc
  alike_runs xs x y St.match e = cc
  alike_runs xs x y (St.ask v) e = cc

  scan_runs : (xs : ℕ → Option Expr) (x : Event Expr) (y : Event ℕ) → AlikeEvent xs x y → x ≢ Running
  scan_runs xs x y St.fail e = cc
  scan_runs xs x y St.match e = cc
  scan_runs xs x y (St.ask v) e = cc

pub literals_scanned : LiteralsScanned
literals_scanned = scanned

pub literal_scans_right : LiteralScansRight
literal_scans_right s p l n left b = tells s Expr p left b (scan s n p left b []) (scan_right s p l n left b (scan s n p left b []) refl)

pub literals_run : LiteralsRun
literals_run s xs p code l st left b =
    let n = scanned s p l left b in
    let m = steps_of_scan s xs p code st n.0 left b [] [] St.none n.1 in
    (m.0, alike_runs s xs (scan s n.0 p left b []) (event_of (match_steps s code left b [] m.0)) m.1)

pub literal_runs_right : LiteralRunsRight
literal_runs_right s xs p code l st m left b =
    tells s ℕ p left b (event_of (match_steps s code left b [] m))
    (λ o. let n = scan_of_steps s xs p code st m left b [] [] St.none o in
    alike_right s xs p left b (scan s n.0 p left b []) (event_of (match_steps s code left b [] m)) n.1
    (scan_right s p l n.0 left b (scan s n.0 p left b []) refl (scan_runs s xs (scan s n.0 p left b []) (event_of (match_steps s code left b [] m)) n.1)))
