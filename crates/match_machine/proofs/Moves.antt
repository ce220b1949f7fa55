-- How the kept state moves.
use Rattle.std.proofs.Common.{◌≡◌, ℕ, zero, suc, ◌+◌, ◌-◌, ◌<◌, ◌≤◌, List, [], ◌∷◌, length, refl, sym, ◌∙◌, ap, arith, add-one, ◌⊎◌, inl, inr, Some, None, false}
use Rattle.std.specs.Prelude.{drop}
use Rattle.std.proofs.lemmas.List.{drop-map, length-map}
use Rattle.std.proofs.lemmas.Option.{none-some, same_Some, slice_get_past}
use Rattle.model.specs.Pattern.Patterns.{Pending, Event, Running}
use Rattle.model.specs.Pattern.BasicEnds.{from_up}
use Rattle.model.specs.Pattern.Steps as s
use Rattle.model.specs.Pattern.Steps.{Code, settled}
use Rattle.backtrack.specs.Standing.{Back, inside, fenced, opened, unfenced, unopened, oldest}
use Rattle.match_machine.specs.View.{choice_of, choices_of}
use Rattle.prefilter.proofs.Going.{go_at}

-- ---- entered patterns
pub settled_outside : (ns : List s.Note) (code : Code) (p c : ℕ) (a : Pending) → inside ns ≡ false → settled ns code p c a ≡ record { code = code; place = p; cursor = c; notes = ns; pending = a }
settled_outside [] code p c a h = refl
settled_outside (s.Opened b ∷ ns) code p c a h = refl
settled_outside (s.Fenced k ∷ ns) code p c a h = refl
settled_outside (s.Left code' p' ∷ ns) code p c a h = cc

-- ---- FCLOSE
pub fenced_is : (ns : List s.Note) (k : ℕ) → Some k ≡ fenced ns → ns ≡ s.Fenced k ∷ unfenced ns
fenced_is (s.Fenced j ∷ ns) k e = ap (λ (n : ℕ). s.Fenced n ∷ ns) (same_Some j k (sym e))
fenced_is [] k e = absurd (none-some k (sym e))
fenced_is (s.Opened b ∷ ns) k e = absurd (none-some k (sym e))
fenced_is (s.Left code p ∷ ns) k e = absurd (none-some k (sym e))

-- ---- CLOSE
pub opened_is : (ns : List s.Note) (k : ℕ) → Some k ≡ opened ns → ns ≡ s.Opened k ∷ unopened ns
opened_is (s.Opened j ∷ ns) k e = ap (λ (n : ℕ). s.Opened n ∷ ns) (same_Some j k (sym e))
opened_is [] k e = absurd (none-some k (sym e))
opened_is (s.Fenced j ∷ ns) k e = absurd (none-some k (sym e))
opened_is (s.Left code p ∷ ns) k e = absurd (none-some k (sym e))

-- the choices that FCLOSE leaves
pub kept_choices : (u : List ℕ) (k : ℕ) (bs : List Back) → choices_of u (oldest k bs) ≡ s.choices_kept k (choices_of u bs)
kept_choices u k bs =
    sym (drop-map (choice_of u) (length bs - k) bs) ∙ ap (λ n. drop (n - k) (choices_of u bs)) (sym (length-map bs (choice_of u)))

-- ---- on at a place
pub go_past : (t : s.Thread) (cs : List s.Choice) (b left : ℕ) → length t.code ≤ t.place → s.go t cs b left [] ≡ s.Over (s.Won b t.cursor t.pending)
go_past t cs b left h = go_at t cs b left None (slice_get_past t.code t.place h)

-- ---- ARB
pub from_up_head : (c n : ℕ) → from_up c n ≡ c ∷ drop 1 (from_up c n)
from_up_head c zero = refl
from_up_head c (suc n) = refl

pub arb_more : (u : List ℕ) (c : ℕ) → c < length u → from_up c (length u - c) ≡ c ∷ (c + 1) ∷ drop 1 (from_up (c + 1) (length u - (c + 1)))
arb_more u c h =
    let e : length u - c ≡ suc (length u - (c + 1)) = omega arith in
    ap (from_up c) e ∙ ap (λ z. c ∷ z) (from_up_head (c + 1) (length u - (c + 1)))

pub arb_last : (u : List ℕ) (c : ℕ) → length u ≤ c → from_up c (length u - c) ≡ c ∷ []
arb_last u c h = let e : length u - c ≡ 0 = omega arith in ap (from_up c) e

-- ---- steps
steps_suc : (u : List ℕ) (code : Code) (n : ℕ) (st : s.MatchState) → s.pattern_steps u code (suc n) st ≡ s.pattern_step u code (s.pattern_steps u code n st)
steps_suc u code zero st = refl
steps_suc u code (suc n) st = steps_suc u code n (s.pattern_step u code st)

pub steps_after : (u : List ℕ) (code : Code) (n : ℕ) (st : s.MatchState) → s.pattern_steps u code (n + 1) st ≡ s.pattern_step u code (s.pattern_steps u code n st)
steps_after u code n st = rw add-one (steps_suc u code n st)

pub one_more : (f : ℕ → Event ℕ) (n : ℕ) → ((k : ℕ) → k < n → f k ≡ Running) → f n ≡ Running → (k : ℕ) → k < n + 1 → f k ≡ Running
one_more f n h e k l = go (before_or_at k n l)
  where
    before_or_at : (k n : ℕ) → k < n + 1 → (k < n) ⊎ (k ≡ n)
    before_or_at zero zero l = inr refl
    before_or_at zero (suc n) l = inl (omega arith)
    before_or_at (suc k) zero l = absurd (omega (arith, l))
    before_or_at (suc k) (suc n) l = next (before_or_at k n (omega (arith, l)))
      where
        next : (k < n) ⊎ (k ≡ n) → (suc k < suc n) ⊎ (suc k ≡ suc n)
        next (inl g) = inl (omega (arith, g))
        next (inr g) = inr (ap suc g)

    go : (k < n) ⊎ (k ≡ n) → f k ≡ Running
    go (inl g) = h k g
    go (inr g) = ap f g ∙ e
