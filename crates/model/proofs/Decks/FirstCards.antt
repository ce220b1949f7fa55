-- The cards where statements begin never fall.
use Rattle.std.proofs.Common.{◌≡◌, refl, sym, ap, subst, ℕ, suc, ◌+◌, ◌-◌, ◌≤◌, ◌<◌, ◌^◌, ◌==◌, ◌||◌, inl, inr, false, not, List, [], ◌∷◌, ◌++◌, length, length-append, ◌∙◌, arith, slice_get}
use Rattle.std.specs.Prelude.{Option, Some, None, map, nat_lt}
use Rattle.std.specs.List.{AllByRecursion}
use Rattle.std.proofs.lemmas.Bool.{cases_Bool}
use Rattle.std.proofs.lemmas.Bool.Decides.{nat_tests}
use Rattle.std.proofs.lemmas.List.{length-map}
use Rattle.model.specs.declared.cards.Statement.{Statement}
use Rattle.model.specs.declared.image.Level.TheVariants as levels
use Rattle.model.specs.Deck.Cards.{Card, to_first, lines, numbered_from, cards, is_blank_text, CardKind, Comment, Control, UnknownControl, Continuation, Start, kind_of, Column, placed, column_bytes, before_continued, continued, before_texts, texts, into_first, split, pieces_of_texts, pieces_of, is_end, beginnings, first_ended, ended, kept, first_card, statements_from, cards_of}
use Rattle.model.specs.Laws.Decks.{FirstCardsFit}
use Rattle.model.specs.Module.Spelling.{CardFits, Follow, falls, newest}
use Rattle.model.proofs.Decks.Sizes.{trees_less, decks_fit, end_some, kept_some}
use Rattle.model.proofs.Decks.Verdicts.{accepts, by_cards}
use Rattle.model.proofs.Decks.ParseSteps.{if_is}

-- ---- columns, and pieces of them, whose cards rise from one number up to another

abbrev Up : (k m : ℕ) → List Column → Type 0
Up k m [] = k ≤ m
Up k m (c ∷ cs) = (k ≤ c.card) × Up c.card m cs

abbrev Rise : (k m : ℕ) → List (List Column) → Type 0
Rise k m [] = k ≤ m
Rise k m (p ∷ ps) = (j : ℕ) × Up k j p × Rise j m ps

up_le : (k m : ℕ) (cs : List Column) → Up k m cs → k ≤ m
up_le k m [] h = h
up_le k m (c ∷ cs) (a, u) = let x = up_le c.card m cs u in omega (arith, a, x)

up_from : (j k m : ℕ) (cs : List Column) → j ≤ k → Up k m cs → Up j m cs
up_from j k m [] le h = omega (arith, le, h)
up_from j k m (c ∷ cs) le (a, u) = (omega (arith, le, a), u)

up_append : (k m n : ℕ) (xs ys : List Column) → Up k m xs → Up m n ys → Up k n (xs ++ ys)
up_append k m n [] ys h u = up_from k m n ys h u
up_append k m n (c ∷ cs) ys (a, h) u = (a, up_append c.card m n cs ys h u)

placed_up : (n : ℕ) (text : List ℕ) → Up n n (placed n text)
placed_up n [] = omega arith
placed_up n (b ∷ bs) = (omega arith, placed_up n bs)

rise_le : (k m : ℕ) (ps : List (List Column)) → Rise k m ps → k ≤ m
rise_le k m [] h = h
rise_le k m (p ∷ ps) (j, u, r) = let x = up_le k j p u in let y = rise_le j m ps r in omega (arith, x, y)

rise_from : (j k m : ℕ) (ps : List (List Column)) → j ≤ k → Rise k m ps → Rise j m ps
rise_from j k m [] le h = omega (arith, le, h)
rise_from j k m (p ∷ ps) le (i, u, r) = (i, up_from j k i p le u, r)

rise_append : (k m n : ℕ) (ps qs : List (List Column)) → Rise k m ps → Rise m n qs → Rise k n (ps ++ qs)
rise_append k m n [] qs h r = rise_from k m n qs h r
rise_append k m n (p ∷ ps) qs (j, u, h) r = (j, u, rise_append j m n ps qs h r)

-- ---- cards that are numbered from one number up to another

abbrev Counted : (n end : ℕ) → List Card → Type 0
Counted n end [] = n ≤ end
Counted n end (c ∷ cs) = (c.number ≡ n) × Counted (n + 1) end cs

counted_le : (n end : ℕ) (cs : List Card) → Counted n end cs → n ≤ end
counted_le n end [] h = h
counted_le n end (c ∷ cs) (e, h) = let x = counted_le (n + 1) end cs h in omega (arith, x)

numbered_counted : (n : ℕ) (ls : List (List ℕ)) → Counted n (n + length ls) (numbered_from n ls)
numbered_counted n [] = omega arith
numbered_counted n (l ∷ ls) = (refl, subst (λ end. Counted (n + 1) end (numbered_from (n + 1) ls)) (let e : n + 1 + length ls ≡ n + suc (length ls) = omega arith in e) (numbered_counted (n + 1) ls))

to_first_count : (b n : ℕ) (ls : List (List ℕ)) → length ls ≤ n → length (to_first b ls) ≤ suc n
to_first_count b n [] h = omega arith
to_first_count b n (l ∷ ls) h = omega (arith, h)

lines_count : (text : List ℕ) → length (lines text) ≤ length text
lines_count [] = omega arith
lines_count (b ∷ bs) = let more = lines_count bs in elim (cases_Bool (b == 10)) [
  | inl h ↦ rw h (omega (arith, more))
  | inr h ↦ rw h (to_first_count b (length bs) (lines bs) more)
]

abbrev AllCounted : (n end : ℕ) → List (List Card) → Type 0
AllCounted n end bs = AllByRecursion (Counted n end) bs

after_card : (n end : ℕ) (card : Card) (bs : List (List Card)) → card.number ≡ n → AllCounted (n + 1) end bs → AllCounted n end (map (λ b. card ∷ b) bs)
after_card n end card [] e h = tt
after_card n end card (b ∷ bs) e h = ((e, h.0), after_card n end card bs e h.1)

beginnings_counted : (n end : ℕ) (cs : List Card) → Counted n end cs → AllCounted n end (beginnings cs)
beginnings_counted n end [] h = (h, tt)
beginnings_counted n end (c ∷ cs) (e, h) = (let x = counted_le (n + 1) end cs h in omega (arith, x), after_card n end c (beginnings cs) e (beginnings_counted (n + 1) end cs h))

first_counted : (n end : ℕ) (bs : List (List Card)) (used : List Card) → AllCounted n end bs → first_ended bs ≡ Some used → Counted n end used
first_counted n end [] used all h = absurd (cc)
first_counted n end (b ∷ bs) used all h = elim (if_is _ (Some b) (first_ended bs) (Some used) h) [
  | inl x ↦ (let same : b ≡ used = let e = x.1 in cc in subst (Counted n end) same all.0)
  | inr x ↦ first_counted n end bs used all.1 x.1
]

ended_counted : (text : List ℕ) (used : List Card) → ended (cards text) ≡ Some used → Counted 1 (1 + length (lines text)) used
unfolding ended
ended_counted text used h = first_counted 1 (1 + length (lines text)) (beginnings (cards text)) used (beginnings_counted 1 (1 + length (lines text)) (cards text) (numbered_counted 1 (lines text))) h

-- ---- texts

-- what is continued comes before the texts behind it
abbrev Behind : (n end : ℕ) → List Column → List (List Column) → Type 0
Behind n end more others = (j : ℕ) × Up n j more × Rise j end others

by_kind : (k : CardKind) (n end number : ℕ) → number ≡ n → (more : List Column) (others : List (List Column)) → Behind (n + 1) end more others → Behind n end (before_continued k number more) (before_texts k number more others)
by_kind Comment n end number e more others (j, u, r) = (j, up_from n (n + 1) j more (omega arith) u, r)
by_kind Control n end number e more others (j, u, r) = (j, up_from n (n + 1) j more (omega arith) u, r)
by_kind UnknownControl n end number e more others (j, u, r) = (j, up_from n (n + 1) j more (omega arith) u, r)
by_kind (Continuation text) n end number e more others (j, u, r) =
    (j, up_append n n j (placed number text) more (subst (λ m. Up n n (placed m text)) (sym e) (placed_up n text)) (up_from n (n + 1) j more (omega arith) u), r)
by_kind (Start text) n end number e more others (j, u, r) =
    (n, omega arith, (j, up_append n n j (placed number text) more (subst (λ m. Up n n (placed m text)) (sym e) (placed_up n text)) (up_from n (n + 1) j more (omega arith) u), r))

texts_behind : (n end : ℕ) (cs : List Card) → Counted n end cs → Behind n end (continued cs) (texts cs)
texts_behind n end [] h = (n, omega arith, h)
texts_behind n end (c ∷ cs) (e, h) = by_kind (kind_of c) n end c.number e (continued cs) (texts cs) (texts_behind (n + 1) end cs h)

-- ---- pieces

into_first_rises : (c : Column) (k m : ℕ) (ps : List (List Column)) → k ≤ c.card → c.card ≤ m → Rise c.card m ps → Rise k m (into_first c ps)
into_first_rises c k m [] le less h = (m, (le, less), omega arith)
into_first_rises c k m (p ∷ ps) le less (j, u, r) = (j, (le, u), r)

split_rises : (quote : Option ℕ) (k m : ℕ) (cs : List Column) → Up k m cs → Rise k m (split quote cs)
split_rises None k m [] u = (m, u, omega arith)
split_rises (Some q) k m [] u = (m, u, omega arith)
split_rises None k m (c ∷ cs) (a, u) =
    let less = up_le c.card m cs u in
    let more = split_rises None c.card m cs u in
    let inside = split_rises (Some c.byte) c.card m cs u in
    elim (cases_Bool (c.byte == 59)) [
      | inl h ↦ rw h (k, omega arith, rise_from k c.card m (split None cs) a more)
      | inr h ↦ elim (cases_Bool ((c.byte == 39) || (c.byte == 34))) [
        | inl i ↦ rw (h, i) (into_first_rises c k m (split (Some c.byte) cs) a less inside)
        | inr i ↦ rw (h, i) (into_first_rises c k m (split None cs) a less more)
      ]
    ]
split_rises (Some q) k m (c ∷ cs) (a, u) =
    let less = up_le c.card m cs u in
    let outside = split_rises None c.card m cs u in
    let more = split_rises (Some q) c.card m cs u in
    elim (cases_Bool (c.byte == q)) [
      | inl h ↦ rw h (into_first_rises c k m (split None cs) a less outside)
      | inr h ↦ rw h (into_first_rises c k m (split (Some q) cs) a less more)
    ]

pieces_rise : (k m : ℕ) (ts : List (List Column)) → Rise k m ts → Rise k m (pieces_of_texts ts)
pieces_rise k m [] h = h
pieces_rise k m (t ∷ ts) (j, u, r) = rise_append k j m (split None t) (pieces_of_texts ts) (split_rises None k j t u) (pieces_rise j m ts r)

-- ---- the first cards of pieces that are kept

abbrev Firsts : (k m : ℕ) → List (List Column) → Type 0
Firsts k m [] = k ≤ m
Firsts k m (p ∷ ps) = (k ≤ first_card p) × Firsts (first_card p) m ps

firsts_le : (k m : ℕ) (ps : List (List Column)) → Firsts k m ps → k ≤ m
firsts_le k m [] h = h
firsts_le k m (p ∷ ps) (a, h) = let x = firsts_le (first_card p) m ps h in omega (arith, a, x)

firsts_from : (j k m : ℕ) (ps : List (List Column)) → j ≤ k → Firsts k m ps → Firsts j m ps
firsts_from j k m [] le h = omega (arith, le, h)
firsts_from j k m (p ∷ ps) le (a, h) = (omega (arith, le, a), h)

-- a piece with a byte begins between its bounds
first_within : (k j : ℕ) (p : List Column) → 1 ≤ length p → Up k j p → (k ≤ first_card p) × (first_card p ≤ j)
first_within k j [] some u = absurd (omega (arith, some))
first_within k j (c ∷ cs) some (a, u) = (a, up_le c.card j cs u)

kept_firsts : (k m : ℕ) (ps : List (List Column)) → Rise k m ps → Firsts k m (kept ps)
kept_firsts k m [] h = h
kept_firsts k m (p ∷ ps) (j, u, r) =
    let more = kept_firsts j m ps r in
    let last = rise_le j m ps r in
    elim (cases_Bool (is_end p)) [
      | inl h ↦ (let w = first_within k j p (end_some p h) u in rw h (w.0, omega (arith, w.1, last)))
      | inr h ↦ elim (cases_Bool (is_blank_text (column_bytes p))) [
        | inl i ↦ (let le = up_le k j p u in rw (h, i) (firsts_from k j m (kept ps) le more))
        | inr i ↦ (let w = first_within k j p (kept_some p i) u in rw (h, i) (w.0, firsts_from (first_card p) j m (kept ps) w.1 more))
      ]
    ]

used_firsts : (k m : ℕ) (used : List Card) → Counted k m used → Firsts k m (kept (pieces_of used))
unfolding pieces_of
used_firsts k m used h = let (j, u, r) = texts_behind k m used h in kept_firsts k m (pieces_of_texts (texts used)) (pieces_rise k m (texts used) (rise_from k j m (texts used) (up_le k j (continued used) u) r))

-- ---- as a module has them

get_snoc : {A : Type 0} (xs : List A) (x : A) → slice_get (xs ++ x ∷ []) (length xs) ≡ Some x
get_snoc [] x = refl
get_snoc (y ∷ xs) x = get_snoc xs x

pub newest_snoc : {A : Type 0} (xs : List A) (x : A) → newest (xs ++ x ∷ []) ≡ Some x
newest_snoc xs x = ap (slice_get (xs ++ x ∷ [])) (let h = length-append xs (x ∷ []) in let e : length (xs ++ x ∷ []) - 1 ≡ length xs = omega (arith, h) in e) ∙ get_snoc xs x

first_cards_follow : (n k m : ℕ) (ps : List (List Column)) (front : List ℕ) → m < 2 ^ 32 → ((x : ℕ) → k ≤ x → falls (newest front) x ≡ false) → Firsts k m ps → Follow (CardFits levels.Two) front (map (λ s. s.card) (statements_from n ps))
first_cards_follow n k m [] front small above h = tt
first_cards_follow n k m (p ∷ ps) front small above (a, h) =
    let x : ℕ = first_card p in
    let le = firsts_le x m ps h in (
      (omega (arith, le, small), ap not (above x a)),
      first_cards_follow (n + 1) x m ps (front ++ x ∷ []) small (λ y l. ap (λ (o : Option ℕ). falls o y) (newest_snoc front x) ∙ (let b : nat_lt y x ≡ false = grind (arith, nat_tests, l) in b)) h,
    )

pub first_cards_law : FirstCardsFit
first_cards_law text ss h =
    let a = accepts text ss h in
    let b = by_cards text a.statements a.given in
    let fit = decks_fit text a.statements a.given in
    let count = (trees_less a.statements ss a.have fit.each).count in
    let end : ℕ = 1 + length (lines text) in
    let few = lines_count text in
    let short = b.short in
    let same = ap cards_of a.given in
    let follow = first_cards_follow 1 1 end (kept (pieces_of b.used)) [] (omega (arith, few, short)) (λ x l. let t : nat_lt x 1 ≡ false = grind (arith, nat_tests, l) in t) (used_firsts 1 end b.used (ended_counted text b.used b.to_end)) in
    let all : Follow (CardFits levels.Two) [] (map (λ s. s.card) a.statements) = subst (λ (xs : List Statement). Follow (CardFits levels.Two) [] (map (λ s. s.card) xs)) (sym b.are) follow in
    (ap length same ∙ length-map a.statements (λ s. s.card) ∙ sym count, subst (Follow (CardFits levels.Two) []) (sym same) all)
