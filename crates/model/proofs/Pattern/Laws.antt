-- The laws, as they are stated.
use Rattle.std.proofs.Common.{◌≡◌, ℕ, List, [], ◌∷◌, refl, sym, ◌∙◌, ap, subst, inl, inr}
use Rattle.model.specs.Pattern.Patterns.{Event, Running, Failed, Asks, Matched, Pending}
use Rattle.model.specs.Pattern.Ends.{Item, End, Aborted, Deep, ends, Permits}
use Rattle.model.specs.Pattern.Search.{scan}
use Rattle.model.specs.Laws.Patterns.{Begins, EndsGrow, SearchStays, ScanStays, IsItem, EndsPermitted, StepsOfScan, ScanOfSteps}
use Rattle.model.proofs.Pattern.SearchGrows.{Grows, EventGrows, search_more, over_starts_grows}
use Rattle.model.proofs.Pattern.Ends.{Begins as BeginsBy, ends_more, EachEnd, each_permitted}
use Rattle.model.proofs.Pattern.CodeEvents.{steps_of_scan, scan_of_steps}
use Rattle.model.specs.Pattern.Search as S
use Rattle.model.specs.Pattern.Search.{Found', search, Part}
use Rattle.model.specs.Deck.Trees.{Expr}

begins : (xs ys : List Item) → BeginsBy xs ys → Begins xs ys
begins [] ys h = inl (sym h)
begins (Aborted ∷ xs) ys h = inl (ap (λ z. Aborted ∷ z) h.0 ∙ sym h.1)
begins (Deep ∷ xs) ys h = inr ([], ys, ap (λ z. Deep ∷ z) h, refl)
begins (End e a ∷ xs) ys (zs, q, r) = more (begins xs zs r)
  where
    more : Begins xs zs → Begins (End e a ∷ xs) ys
    more (inl w) = inl (ap (λ z. End e a ∷ z) w ∙ sym q)
    more (inr (us, vs, w, v)) = inr (End e a ∷ us, vs, ap (λ z. End e a ∷ z) w, q ∙ ap (λ z. End e a ∷ z) v)

pub ends_grow : EndsGrow
ends_grow s n m le p c = begins (ends s n p c) (ends s m p c) (ends_more s n m le p c)

pub event_same : (x y : Event Expr) → EventGrows x y → (x ≡ Running → ⊥) → y ≡ x
event_same Running y h o = absurd (o refl)
event_same Failed y h o = h
event_same (Asks v) y h o = h
event_same (Matched b e a) y h o = h

found_same : (x y : Found') → Grows x y → (x ≡ S.Deep → ⊥) → y ≡ x
found_same S.Deep y h o = absurd (o refl)
found_same (S.Hit e a t) y h o = h
found_same (S.Miss t) y h o = h
found_same S.Stop y h o = h
found_same (S.Wait v) y h o = h

pub search_stays : SearchStays
search_stays s n m le rest c a t o = found_same (search s n rest c a t) (search s m rest c a t) (search_more s n m le rest c a t) o

pub scan_stays : ScanStays
scan_stays s n m le p left b t o =
    event_same (scan s n p left b t) (scan s m p left b t)
    (over_starts_grows (λ c u. search s n (Part p ∷ []) c [] u) (λ c u. search s m (Part p ∷ []) c [] u) (λ c u. search_more s n m le (Part p ∷ []) c [] u) left b t) o

each_item : (r : ℕ → Pending → Type 0) (xs : List Item) (e : ℕ) (a : Pending) → EachEnd r xs → IsItem (End e a) xs → r e a
each_item r [] e a h i = absurd i
each_item r (End d b ∷ xs) e a h (inl q) =
    let f : d ≡ e = cc in
    let g : b ≡ a = cc in
    subst (λ z. r e z) g (subst (λ z. r z b) f h.0)
each_item r (Aborted ∷ xs) e a h (inl q) = cc
each_item r (Deep ∷ xs) e a h (inl q) = cc
each_item r (End d b ∷ xs) e a h (inr i) = each_item r xs e a h.1 i
each_item r (Aborted ∷ xs) e a h (inr i) = each_item r xs e a h i
each_item r (Deep ∷ xs) e a h (inr i) = each_item r xs e a h i

pub ends_permitted : EndsPermitted
ends_permitted s n p c e a i = each_item (Permits s p c) (ends s n p c) e a (each_permitted s n p c) i

pub steps_law : StepsOfScan
steps_law s xs p code st n left b t u al o = steps_of_scan s xs p code st n left b t u al o

pub scans_law : ScanOfSteps
scans_law s xs p code st m left b t u al o = scan_of_steps s xs p code st m left b t u al o
