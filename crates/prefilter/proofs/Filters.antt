-- Starts from which a look or a filter shows that the match fails.
use Rattle.std.proofs.Common.{◌≡◌, ℕ, ℤ, zero, suc, ◌+◌, ◌-◌, ◌*◌, ◌<◌, ◌≤◌, List, [], ◌∷◌, length, get_or, drop, refl, sym, ◌∙◌, ap, subst, arith, Bool, true, false, inl, inr}
use Rattle.std.specs.Prelude.{min, Some, slice_get, ◌/◌, ◌%◌, ◌==◌, ◌||◌}
use Rattle.std.specs.List.{starts_with}
use Rattle.std.proofs.Math.Dec.{eqb}
use Rattle.std.proofs.Math.Nat.{div-mul-le_self, mul-le-mul_right, suc-mul, zero-mul}
use Rattle.std.proofs.lemmas.Bool.{cases_lt, eqb-false}
use Rattle.std.proofs.lemmas.Bool.Decides.{nat_tests}
use Rattle.std.proofs.lemmas.List.Folds.{list_any-append}
use Rattle.model.specs.Pattern.Patterns.{Lit, Open, Split}
use Rattle.model.specs.Pattern.BasicEnds.{ends_at, end_if, is_in_set}
use Rattle.model.specs.Pattern.Steps.{Code, MatchState, Note, Opened, Starting, Over, Lost, at_distance, back, go, pattern_steps, settled}
use Rattle.prefilter.specs.Looks.{FailFrom, FailsAt, FailsUnless, HasKey, LeadsFromFront, StartFails, key_of}
use Rattle.prefilter.specs.Starts.{AreIdle, ArePassed, Leads, RunsOn}
use Rattle.prefilter.specs.declared.prefilter.Passed.{Passed}
use Rattle.prefilter.proofs.Going.{Came, then_comes, step_on, leads_none, leads_on}
use Rattle.prefilter.proofs.Looks.{fails_open, fails_part, fails_split}
use Rattle.prefilter.proofs.Needles.{read_at}
use Rattle.prefilter.proofs.ManyRounds.{AreRounds, round_steps, round_way, times}

-- ---- alternations of literals
first_alone : (x y z : ℕ) → key_of x y 0 ≡ key_of x z 0
first_alone x y z = let same : x + y * 0 ≡ x + z * 0 = omega arith in ap (λ n. n % 256) same

lit_missing : (u w : List ℕ) (f c : ℕ) → c + 1 < length u → 0 < length w → (length w ≡ 1 → f ≡ 0) → eqb (key_of (get_or w 0 0) (get_or w 1 0) f) (key_of (get_or u c 0) (get_or u (c + 1) 0) f) ≡ false → ends_at u (Lit w) c ≡ []
lit_missing u w f c within some short e = go (starts_with eqb (drop c u) w) refl
  where
    go : (t : Bool) → starts_with eqb (drop c u) w ≡ t → ends_at u (Lit w) c ≡ []
    go false p = ap (λ t. end_if t (c + length w)) p
    go true p =
        let there = read_at u w c (omega (arith, within)) p in
        let first : get_or u c 0 ≡ get_or w 0 0 = there.reads c 0 some (omega arith) in
        let same : key_of (get_or w 0 0) (get_or w 1 0) f ≡ key_of (get_or u c 0) (get_or u (c + 1) 0) f = elim (cases_lt 1 (length w)) [
          | inl m ↦ ap (λ x. key_of x (get_or w 1 0) f) (sym first) ∙ ap (λ y. key_of (get_or u c 0) y f) (sym (there.reads (c + 1) 1 m refl))
          | inr m ↦
              let none : f ≡ 0 = short (omega (arith, some, m)) in
              ap (λ x. key_of x (get_or w 1 0) f) (sym first) ∙ ap (key_of (get_or u c 0) (get_or w 1 0)) none
              ∙ first_alone (get_or u c 0) (get_or w 1 0) (get_or u (c + 1) 0)
              ∙ ap (key_of (get_or u c 0) (get_or u (c + 1) 0)) (sym none)
        ] in
        absurd (eqb-false _ _ e same)

only_one : (x b : ℕ) → is_in_set (x ∷ []) b ≡ false → eqb x b ≡ false
only_one x b h = grind (arith, nat_tests, h)

neither : (a b : Bool) → (a || b) ≡ false → (a ≡ false) × (b ≡ false)
neither false b h = (refl, h)
neither true b h = absurd (cc)

parted : (ws : List ℕ) (x b : ℕ) → is_in_set (x ∷ ws) b ≡ false → (is_in_set (x ∷ []) b ≡ false) × (is_in_set ws b ≡ false)
parted ws x b h = neither (is_in_set (x ∷ []) b) (is_in_set ws b) (sym (list_any-append (λ y. y == b) (x ∷ []) ws) ∙ h)

-- the number for two bytes of a subject
abbrev pub key_here : List ℕ → (c f : ℕ) → ℕ
key_here u c f = key_of (get_or u c 0) (get_or u (c + 1) 0) f

fails_first : (u : List ℕ) (code : Code) (ns : List Note) (q f k c : ℕ) → HasKey code q f k → c + 1 < length u → is_in_set (k ∷ []) (key_here u c f) ≡ false → FailsAt u code ns q c 1
fails_first u code ns q f k c (w, here, some, short, is) within none =
    fails_part u code ns q c (Lit w) here (lit_missing u w f c within some short (ap (λ j. eqb j (key_here u c f)) (sym is) ∙ only_one k (key_here u c f) none))

pub unless_one : (code : Code) (q f k : ℕ) → HasKey code q f k → FailsUnless code q f (k ∷ []) 1
unless_one code q f k here = λ u ns c within none. fails_first u code ns q f k c here within none

pub unless_more : (code : Code) (q f n k : ℕ) (ws : List ℕ) (d : ℤ) → slice_get code q ≡ Some (Split d) → FailsUnless code (q + 1) f ws n → HasKey code (at_distance code q d) f k → FailsUnless code q f (k ∷ ws) (n + 3)
unless_more code q f n k ws d splits first other = λ u ns c within none.
    let parts = parted ws k (key_here u c f) none in
    fails_split u code ns q c n 1 d splits (first u ns c within parts.1) (fails_first u code ns (at_distance code q d) f k c other within parts.0)

-- ---- behind OPEN
pub front_opens : (code : Code) → slice_get code 0 ≡ Some Open → LeadsFromFront code 1 1
front_opens code opens = λ u ns c m fails. fails_open u code ns 0 c m opens (fails (Opened c ∷ ns))

pub front_alone : (code : Code) → LeadsFromFront code 0 0
front_alone code = λ u ns c m fails. let same : m ≡ m + 0 = omega arith in subst (λ n. FailsAt u code ns 0 c n) same (fails ns)

pub front_fails : (code : Code) (q f n m : ℕ) (ws : List ℕ) → LeadsFromFront code q n → FailsUnless code q f ws m → FailsUnless code 0 f ws (m + n)
front_fails code q f n m ws leads fails = λ u ns c within none. leads u ns c m (λ ms. fails u ms c within none)

-- ---- starts
pub start_fails : (u : List ℕ) (code : Code) (b left n : ℕ) → FailsAt u code [] 0 b n → Came u code (n + 1) (Starting b left []) (back [] b left [])
start_fails u code b left n fails =
    let first : MatchState = go (settled [] code 0 b []) [] b left [] in
    then_comes u code 1 n (n + 1) (Starting b left []) first (back [] b left []) (omega arith)
    (step_on u code (Starting b left []) (Starting b left []) first refl refl refl) (fails code [] [] b left)

-- the state at the start c of those from b on
abbrev start_at : (b all c : ℕ) → MatchState
start_at b all c = Starting c (b + all - c) []

rounds : (u : List ℕ) (code : Code) (n k b all : ℕ) → k ≤ all → FailFrom u code b k n → AreRounds u code (start_at b all) (n + 1) b k
rounds u code n k b all z h =
    record {
      lead = λ c l m. sym (came c l m).0;
      way = λ c l m. (came c l m).1;
    }
  where
    came : (c : ℕ) → b ≤ c → c < b + k → Came u code (n + 1) (start_at b all c) (start_at b all (c + 1))
    came c l m =
        let g : b + all - c ≡ suc (b + all - (c + 1)) = omega (arith, l, m, z) in
        subst (λ r. Came u code (n + 1) (Starting c r []) (start_at b all (c + 1))) (sym g)
        (start_fails u code c (suc (b + all - (c + 1))) n (h c l m))

times_is : (s k : ℕ) → times s k ≡ k * s
times_is s zero = sym (zero-mul s)
times_is s (suc k) = ap (λ m. s + m) (times_is s k) ∙ (let e : s + k * s ≡ k * s + s = omega arith in e) ∙ sym (suc-mul k s)

-- as many starts as k, of n steps more than one each
starts_skipped : (u : List ℕ) (code : Code) (n k b left : ℕ) → FailFrom u code b k n → Came u code (k * (n + 1)) (Starting b (k + left) []) (Starting (b + k) left [])
starts_skipped u code n k b left h =
    let all : b + (k + left) - b ≡ k + left = omega arith in
    let rest : b + (k + left) - (b + k) ≡ left = omega arith in
    let r = rounds u code n k b (k + left) (omega arith) h in
    let lead : pattern_steps u code (k * (n + 1)) (start_at b (k + left) b) ≡ start_at b (k + left) (b + k) =
    subst (λ m. pattern_steps u code m (start_at b (k + left) b) ≡ start_at b (k + left) (b + k)) (times_is (n + 1) k) (round_steps u code (start_at b (k + left)) (n + 1) k b r) in
    let way : RunsOn u code (k * (n + 1)) (start_at b (k + left) b) =
    subst (λ m. RunsOn u code m (start_at b (k + left) b)) (times_is (n + 1) k) (round_way u code (start_at b (k + left)) (n + 1) k b r) in
    subst (λ m. Came u code (k * (n + 1)) (Starting b m []) (Starting (b + k) left [])) all
    (subst (λ m. Came u code (k * (n + 1)) (start_at b (k + left) b) (Starting (b + k) m [])) rest (sym lead, way))

came_leads : (u : List ℕ) (code : Code) (n : ℕ) (st to : MatchState) → Came u code n st to → Leads u code n st to
came_leads u code n st to (h, w) = record { steps = sym h; way = w }

pub starts_passed : (u : List ℕ) (code : Code) (b left most k n each : ℕ) → each ≡ n + 1 → k ≤ left → k * each ≤ most → FailFrom u code b k n → ArePassed u code b left most (record { starts = k; steps = k * each })
starts_passed u code b left most k n each is le fits h =
    record {
      starts = le;
      bound = fits;
      leads = λ rest e.
          subst (λ m. Leads u code (k * each) (Starting b m []) (Starting (b + k) rest [])) (sym e)
          (subst (λ m. Leads u code (k * m) (Starting b (k + rest) []) (Starting (b + k) rest [])) (sym is)
          (came_leads u code (k * (n + 1)) _ _ (starts_skipped u code n k b rest h)));
    }

pub start_passed : (u : List ℕ) (code : Code) (b left most n : ℕ) → 0 < left → n ≤ most → StartFails u code b n → ArePassed u code b left most (record { starts = 1; steps = n })
start_passed u code b left most n some fits (m, is, h) =
    record {
      starts = omega (arith, some);
      bound = fits;
      leads = λ rest e.
          let g : left ≡ suc rest = omega (arith, e) in
          subst (λ k. Leads u code n (Starting b k []) (Starting (b + 1) rest [])) (sym g)
          (subst (λ k. Leads u code k (Starting b (suc rest) []) (Starting (b + 1) rest [])) (sym is)
          (came_leads u code (m + 1) (Starting b (suc rest) []) (Starting (b + 1) rest []) (start_fails u code b (suc rest) m h)));
    }

pub nothing_passed : (u : List ℕ) (code : Code) (b left most : ℕ) → ArePassed u code b left most (record { starts = 0; steps = 0 })
nothing_passed u code b left most =
    record {
      starts = omega arith;
      bound = omega arith;
      leads = λ rest e.
          let same : b + 0 ≡ b = omega arith in
          let all : left ≡ rest = omega (arith, e) in
          subst (λ n. Leads u code 0 (Starting b left []) (Starting (b + 0) n [])) all (subst (λ n. Leads u code 0 (Starting b left []) (Starting n left [])) (sym same) (leads_none u code (Starting b left [])));
    }

pub passed_more : (u : List ℕ) (code : Code) (b left most : ℕ) (p q : Passed) → ArePassed u code b left most p → ArePassed u code (b + p.starts) (left - p.starts) (most - p.steps) q → ArePassed u code b left most (record { starts = p.starts + q.starts; steps = p.steps + q.steps })
passed_more u code b left most p q h g =
    record {
      starts = omega (arith, h.starts, g.starts);
      bound = omega (arith, h.bound, g.bound);
      leads = λ rest e.
          let all : left - p.starts ≡ q.starts + rest = omega (arith, e) in
          let to : b + p.starts + q.starts ≡ b + (p.starts + q.starts) = omega arith in
          let first : Leads u code p.steps (Starting b left []) (Starting (b + p.starts) (left - p.starts) []) = h.leads (left - p.starts) (omega (arith, h.starts)) in
          let next : Leads u code q.steps (Starting (b + p.starts) (left - p.starts) []) (Starting (b + (p.starts + q.starts)) rest []) = subst (λ m. Leads u code q.steps (Starting (b + p.starts) (left - p.starts) []) (Starting m rest [])) to (g.leads rest all) in
          leads_on u code p.steps q.steps (p.steps + q.steps) _ _ _ refl first next;
    }

-- one start more
pub one_more : (u : List ℕ) (code : Code) (b left most n : ℕ) (p : Passed) → ArePassed u code b left most p → p.starts < left → n ≤ most - p.steps → StartFails u code (b + p.starts) n → ArePassed u code b left most (record { starts = p.starts + 1; steps = p.steps + n })
one_more u code b left most n p h some fits fails =
    passed_more u code b left most p (record { starts = 1; steps = n }) h
    (start_passed u code (b + p.starts) (left - p.starts) (most - p.steps) n (omega (arith, some)) fits fails)

-- a part that fails, which may stand behind OPEN
pub part_fails : (u : List ℕ) (code : Code) (q n b k : ℕ) → LeadsFromFront code q n → AreIdle u code q b k → FailFrom u code b k (1 + n)
part_fails u code q n b k leads idle c l m =
    let h = idle c l m in
    leads u [] c 1 (λ ms. fails_part u code ms q c h.0 h.1 h.2)

-- one that fails in so few steps, as often as fits
pub fits_within : (k left bound each : ℕ) → k ≤ min left (bound / each) → 0 < each → k * each ≤ bound
fits_within k left bound each few some =
    let less : k ≤ bound / each = omega (arith, few) in
    omega (arith, mul-le-mul_right {m = k} {n = bound / each} each less, div-mul-le_self bound each)

-- the last start, which fails
pub last_fails : (u : List ℕ) (code : Code) (b n : ℕ) → StartFails u code b n → Leads u code n (Starting b 0 []) (Over Lost)
last_fails u code b n (m, is, h) =
    subst (λ k. Leads u code k (Starting b 0 []) (Over Lost)) (sym is)
    (came_leads u code (m + 1) (Starting b 0 []) (Over Lost) (start_fails u code b 0 m h))
