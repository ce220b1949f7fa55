-- Where the machine follows each rule, it comes to each meaning, in both directions.
use Rattle.std.proofs.Common.{◌≡◌, ℕ, zero, suc, pred, ◌+◌, ◌-◌, ◌*◌, ◌≤◌, List, [], ◌∷◌, length, Option, Some, None, ◌⊎◌, inl, inr, refl, sym, ap, ◌∙◌, subst, arith, zero-le}
use Rattle.model.specs.declared.run.Ending.{Ending}
use Rattle.model.specs.Deck.Trees.{Bytes, Expr, Call, Reference, Apply, Combine, Args, Nil, More, Absent, Given, Body, Nothing, Evaluate, Match, Assign, Replace}
use Rattle.model.specs.Language.Programs.{Program}
use Rattle.model.specs.Language.Values.{Pattern, printed_of}
use Rattle.model.specs.Language.Meaning.{W, Res, Done, Fails, Ends, Open, Settled, Query, QVal, QName, QArgs, QBody, QExec, QMatch, Ans, Rule, Ret, Fail, Stop, Ask, Seek, SearchEvent, sought, rule, after, meaning}
use Rattle.model.specs.Machine.Steps.{MVal, MW, Module, Operand, OV, ON, Matching, Frame, InCall, InEval, found_as, Handler, OnBegin, OnTry, State, Run, InMatch, Over, Stuck, fail_to, return_to, step, steps}
use Rattle.model.specs.Module.Placed.{CodeV, CodeN, CodeA, CodeB}
use Rattle.model.specs.Pattern.Patterns.{Running}
use Rattle.model.specs.Pattern.Steps as S
use Rattle.model.specs.Pattern.Search.{Script}
use Rattle.model.specs.Pattern.Stands.{Stands, Alike}
use Rattle.model.specs.Machine.Alike.{VR, VRs, WR}
use Rattle.model.specs.Language.RulesUsed.{own_count}
use Rattle.model.specs.Laws.StepBound.{body_steps, steps_per_rule}
use Rattle.model.proofs.Language.MeaningGrows.{at_depth, Before, before_refl, Goes_on, Later, later, stays, follow_stays}

-- the newest handler's operands are there
abbrev pub Fit : List Handler → List Operand → Type 0
Fit [] ops = Unit {0}
Fit (OnBegin t ∷ hs) ops = Unit {0}
Fit (OnTry t d ∷ hs) ops = d ≤ length ops

-- where the code of something stands, and what is around it
pub record Here : Type 0 where
  pub p : ℕ
  pub q : ℕ
  pub ops : List Operand
  pub hs : List Handler
  pub fs : List Frame
  pub fit : Fit hs ops

abbrev pub push_all : List MVal → List Operand → List Operand
push_all [] ops = ops
push_all (v ∷ vs) ops = push_all vs (OV v ∷ ops)

abbrev mutual
  pub size : Expr → ℕ
  size (Call f xs) = suc (size_args xs)
  size (Reference x xs) = suc (size_args xs)
  size (Apply o e) = suc (size e)
  size (Combine o a b) = suc (size a + size b)
  size _ = 1

  pub size_args : Args → ℕ
  size_args Nil = 0
  size_args (More Absent xs) = suc (size_args xs)
  size_args (More (Given e) xs) = suc (size e + size_args xs)

abbrev pub object_size : Option Expr → ℕ
object_size None = 0
object_size (Some e) = size e

abbrev pub body_size : Body → ℕ
body_size Nothing = 0
body_size (Evaluate e) = size e
body_size (Assign x o) = size x + object_size o
body_size (Match e f) = size e + size f
body_size (Replace x f o) = size x + size f + object_size o

-- what is asked without a step of the machine is of lesser rank; a match alone is of rank 0
abbrev pub rank : Query → ℕ
rank (QVal e) = 2 + 2 * size e
rank (QName e) = 1 + 2 * size e
rank (QArgs xs) = 1 + 2 * size_args xs
rank (QBody b) = 3 + 2 * body_size b
rank (QExec k) = 1
rank (QMatch s p left t) = 0

-- the steps that a query takes beside five for each rule that it uses
abbrev pub extra : Query → ℕ
extra (QBody b) = body_steps
extra _ = 0

-- the steps of those five that it leaves once there is an answer or failure: a name takes three for its own node
abbrev pub spare : Query → ℕ
spare (QName e) = 2
spare _ = 0

-- the frames of a goto: none, or a call's on top
abbrev pub Base : List Frame → Type 0
Base [] = Unit {0}
Base (InCall k c ∷ fs) = Unit {0}
Base (InEval g k st ∷ fs) = ⊥

-- a match on its way: the code stands for the pattern, and the steps have come to this state under like answers
pub record MatchHere (trees_at : ℕ → Option Expr) (s : Bytes) (p : Pattern) (left : ℕ) (t : Script) : Type 0 where
  pub g : Matching
  pub fs : List Frame
  pub fit : Fit g.hs g.ops
  pub subject : g.subject ≡ s
  pub stands : Stands trees_at p g.code
  pub answers : S.Answers
  pub alike : Alike trees_at t answers
  pub st : S.MatchState
  pub so_far : ℕ
  pub at : S.match_steps g.subject g.code left 0 answers so_far ≡ st
  pub runs : S.event_of st ≡ Running

module _ (prog : Program) (img : Module) (trees_at : ℕ → Option Expr) where
  -- the rules that a query uses itself, which for all but a match needs no depth
  abbrev pub own : Query → W → ℕ
  own q w = own_count prog 0 (λ r v. Open v) q w

  -- the steps that it takes itself, if it is answered or fails
  abbrev pub own_steps : Query → W → ℕ
  own_steps q w = steps_per_rule * own q w + extra q - spare q

  -- something to be done by the machine
  abbrev pub Task : Query → Type 0
  Task (QVal e) = (h : Here) × CodeV prog img trees_at e h.p h.q
  Task (QName e) = (h : Here) × CodeN prog img trees_at e h.p h.q
  Task (QArgs xs) = (h : Here) × (n : ℕ) × CodeA prog img trees_at xs n h.p h.q
  Task (QBody b) = (h : Here) × CodeB prog img trees_at b h.p h.q
  Task (QExec k) = (o : ℕ) × (fs : List Frame) × (img.stmt k ≡ Some o) × Base fs
  Task (QMatch s p left t) = MatchHere trees_at s p left t

  abbrev pub start : (q : Query) → Task q → MW → State
  start (QVal e) t w = Run t.0.p t.0.ops t.0.hs t.0.fs w
  start (QName e) t w = Run t.0.p t.0.ops t.0.hs t.0.fs w
  start (QArgs xs) t w = Run t.0.p t.0.ops t.0.hs t.0.fs w
  start (QBody b) t w = Run t.0.p t.0.ops t.0.hs t.0.fs w
  start (QExec k) t w = Run t.0 [] [] t.1 w
  start (QMatch s p left u) t w = InMatch t.g t.st t.fs w

  -- where the machine is once there is an answer
  abbrev pub done : (q : Query) → Task q → Ans q → W → State → Type 0
  done (QVal e) t v w c = (m : MVal) × (w' : MW) × VR trees_at v m × WR trees_at w w' × (c ≡ Run t.0.q (OV m ∷ t.0.ops) t.0.hs t.0.fs w')
  done (QName e) t n w c = (w' : MW) × WR trees_at w w' × (c ≡ Run t.0.q (ON n ∷ t.0.ops) t.0.hs t.0.fs w')
  done (QArgs xs) t vs w c = (ms : List MVal) × (w' : MW) × VRs trees_at vs ms × (length ms ≡ t.1) × WR trees_at w w' × (c ≡ Run t.0.q (push_all ms t.0.ops) t.0.hs t.0.fs w')
  done (QBody b) t _ w c = (w' : MW) × WR trees_at w w' × (c ≡ Run t.0.q t.0.ops t.0.hs t.0.fs w')
  done (QExec k) t l w c = (w' : MW) × WR trees_at w w' × (step img c ≡ return_to l t.1 w')
  done (QMatch s p left u) t r w c = (w' : MW) × WR trees_at w w' × (c ≡ Run t.g.place (found_as t.g.keep t.g.subject r.start r.end t.g.ops) t.g.hs t.fs w')

  abbrev pub failed_at : List Handler → List Operand → List Frame → W → State → Type 0
  failed_at hs ops fs w c = (w' : MW) × WR trees_at w w' × (c ≡ fail_to hs ops fs w')

  -- and where once there was failure
  abbrev pub failed : (q : Query) → Task q → W → State → Type 0
  failed (QVal e) t w c = failed_at t.0.hs t.0.ops t.0.fs w c
  failed (QName e) t w c = failed_at t.0.hs t.0.ops t.0.fs w c
  failed (QArgs xs) t w c = failed_at t.0.hs t.0.ops t.0.fs w c
  failed (QBody b) t w c = failed_at t.0.hs t.0.ops t.0.fs w c
  failed (QExec k) t w c = ⊥
  failed (QMatch s p left u) t w c = failed_at t.g.hs t.g.ops t.fs w c

  abbrev pub Stopped : Ending → W → State → Type 0
  Stopped e w c = (w' : MW) × WR trees_at w w' × (c ≡ Over e w')

  -- the machine runs on, and has printed the same
  abbrev pub Still : State → W → Type 0
  Still (Run p ops hs fs m) w = printed_of m ≡ printed_of w
  Still (InMatch g st fs m) w = printed_of m ≡ printed_of w
  Still (Over e m) w = ⊥
  Still (Stuck m) w = ⊥

  -- the machine follows a rule from this state, Q where it answers and F where it fails: it comes to what is asked, of a rank
  -- below r or, after a step, below any number, and goes on from there. It takes b steps beside those of what is asked, which
  -- may leave some once it is answered, and to end the run one more. A search is of rank 0: its steps have a bound of their
  -- own, and what follows an event takes one at most
  abbrev pub Follows : {A : Type 0} → (r b : ℕ) → State → (A → W → State → Type 0) → (W → State → Type 0) → Rule A → Type 0
  Follows r b c Q F (Ret a w) = (j : ℕ) × (j ≤ b) × Q a w (steps img j c)
  Follows r b c Q F (Fail w) = (j : ℕ) × (j ≤ b) × F w (steps img j c)
  Follows r b c Q F (Stop e w) = (j : ℕ) × (j ≤ suc b) × Stopped e w (steps img j c)
  Follows r b c Q F (Ask q w k f) =
      (j : ℕ) × (t : Task q) × (w' : MW) × (steps img j c ≡ start q t w') × WR trees_at w w' × (r' : ℕ) × (suc (rank q) ≤ r') × ((1 ≤ j) ⊎ (r' ≤ r)) × (b' : ℕ) × ((j + extra q ≤ b) × (j + extra q + b' ≤ b + spare q))
      × ((a : Ans q) (u : W) (d : State) → done q t a u d → Follows r' b' d Q F (k a u))
      × ((u : W) (d : State) → failed q t u d → Follows r' b' d Q F (f u))
  Follows r b c Q F (Seek g w k) =
      (r ≤ 0) × (found : (n : ℕ) (e : SearchEvent) → g n ≡ Some e → (j r' : ℕ) × ((1 ≤ j) ⊎ (r' ≤ r)) × Follows r' 1 (steps img j c) Q F (k e))
      × ((l : ℕ) → ((n : ℕ) × (e : SearchEvent) × (g n ≡ Some e)) ⊎ ((i : ℕ) × (l ≤ i) × Still (steps img i c) w × ((n : ℕ) (e : SearchEvent) (h : g n ≡ Some e) → l ≤ (found n e h).0)))
      × ((i : ℕ) × Still (steps img i c) w)

  -- the same for a result, in at least m steps; while it is open, the machine has printed the same
  abbrev pub Fits : {A : Type 0} → ℕ → State → (A → W → State → Type 0) → (W → State → Type 0) → Res A → Type 0
  Fits m c Q F (Done a w) = (j : ℕ) × (m ≤ j) × Q a w (steps img j c)
  Fits m c Q F (Fails w) = (j : ℕ) × (m ≤ j) × F w (steps img j c)
  Fits m c Q F (Ends e w) = (j : ℕ) × (m ≤ j) × Stopped e w (steps img j c)
  Fits m c Q F (Open w) = (j : ℕ) × (m ≤ j) × Still (steps img j c) w

  -- an answer at some depth, or from some depth on m steps
  abbrev pub Goes : {A : Type 0} → ℕ → State → (A → W → State → Type 0) → (W → State → Type 0) → (ℕ → Res A) → Type 0
  Goes m c Q F r = (n : ℕ) × (Settled (r n) ⊎ ((d : ℕ) → Fits m c Q F (r (d + n))))

  pub steps_add : (i j : ℕ) (c : State) → steps img (i + j) c ≡ steps img j (steps img i c)
  steps_add zero j c = let e : zero + j ≡ j = omega arith in ap (λ k. steps img k c) e
  steps_add (suc i) j c = let e : suc i + j ≡ suc (i + j) = omega arith in ap (λ k. steps img k c) e ∙ steps_add i j (step img c)

  -- the same from i steps before
  fits_from : {A : Type 0} (i m l : ℕ) (c : State) (Q : A → W → State → Type 0) (F : W → State → Type 0) (r : Res A) → l ≤ i + m → Fits m (steps img i c) Q F r → Fits l c Q F r
  fits_from i m l c Q F (Done a w) le (j, h, x) = (i + j, omega arith, subst (Q a w) (sym (steps_add i j c)) x)
  fits_from i m l c Q F (Fails w) le (j, h, x) = (i + j, omega arith, subst (F w) (sym (steps_add i j c)) x)
  fits_from i m l c Q F (Ends e w) le (j, h, x) = (i + j, omega arith, subst (Stopped e w) (sym (steps_add i j c)) x)
  fits_from i m l c Q F (Open w) le (j, h, x) = (i + j, omega arith, subst (λ s. Still s w) (sym (steps_add i j c)) x)

  -- a result, and what follows it
  fits_after : {A B : Type 0} (i m l : ℕ) (c : State) (Q : A → W → State → Type 0) (F : W → State → Type 0) (Q' : B → W → State → Type 0) (F' : W → State → Type 0) (r : Res A) (k : A → W → Res B) (f : W → Res B)
      → l ≤ i + m → Fits m (steps img i c) Q F r
      → ((a : A) (w : W) (d : State) → Q a w d → Fits 0 d Q' F' (k a w)) → ((w : W) (d : State) → F w d → Fits 0 d Q' F' (f w))
      → Fits l c Q' F' (after r k f)
  fits_after i m l c Q F Q' F' (Done a w) k f le (j, h, x) hk hf =
      fits_from i m l c Q' F' (k a w) le (fits_from j 0 m (steps img i c) Q' F' (k a w) (omega arith) (hk a w (steps img j (steps img i c)) x))
  fits_after i m l c Q F Q' F' (Fails w) k f le (j, h, x) hk hf =
      fits_from i m l c Q' F' (f w) le (fits_from j 0 m (steps img i c) Q' F' (f w) (omega arith) (hf w (steps img j (steps img i c)) x))
  fits_after i m l c Q F Q' F' (Ends e w) k f le x hk hf = fits_from i m l c Q' F' (Ends e w) le x
  fits_after i m l c Q F Q' F' (Open w) k f le x hk hf = fits_from i m l c Q' F' (Open w) le x

  abbrev pub Sim : ℕ → Type 0
  Sim n = (q : Query) (t : Task q) (w : W) (w' : MW) → WR trees_at w w' → Fits 0 (start q t w') (done q t) (failed q t) (meaning prog n q w)

  abbrev pub Local : Type 0
  Local = (q : Query) (t : Task q) (w : W) (w' : MW) → WR trees_at w w' → Follows (rank q) (own_steps q w) (start q t w') (done q t) (failed q t) (rule prog q w)

  seek_fits : {A : Type 0} (n : ℕ) (c : State) (Q : A → W → State → Type 0) (F : W → State → Type 0) (g : ℕ → Option SearchEvent) (w : W) (k : SearchEvent → Rule A)
      → ((e : SearchEvent) → g (suc n) ≡ Some e → Fits 0 c Q F (at_depth prog n (k e))) → (i : ℕ) × Still (steps img i c) w → Fits 0 c Q F (at_depth prog n (Seek g w k))
  seek_fits n c Q F g w k h st = go (g (suc n)) refl
    where
      go : (o : Option SearchEvent) → g (suc n) ≡ o → Fits 0 c Q F (sought o w (λ e. at_depth prog n (k e)))
      go None e = (st.0, zero-le, st.1)
      go (Some x) e = h x e

  pub follow_fits : {A : Type 0} (n : ℕ) → Sim n → (r b : ℕ) (c : State) (Q : A → W → State → Type 0) (F : W → State → Type 0) (p : Rule A) → Follows r b c Q F p → Fits 0 c Q F (at_depth prog n p)
  follow_fits n sim r b c Q F (Ret a w) (j, le, x) = (j, zero-le, x)
  follow_fits n sim r b c Q F (Fail w) (j, le, x) = (j, zero-le, x)
  follow_fits n sim r b c Q F (Stop e w) (j, le, x) = (j, zero-le, x)
  follow_fits n sim r b c Q F (Ask q w k f) x =
      fits_after x.0 0 0 c (done q x.1) (failed q x.1) Q F (meaning prog n q w) (λ a u. at_depth prog n (k a u)) (λ u. at_depth prog n (f u)) zero-le
      (subst (λ s. Fits 0 s (done q x.1) (failed q x.1) (meaning prog n q w)) (sym x.3) (sim q x.1 w x.2 x.4))
      (λ a u d h. follow_fits n sim x.5 x.8 d Q F (k a u) (x.10 a u d h)) (λ u d h. follow_fits n sim x.5 x.8 d Q F (f u) (x.11 u d h))
  follow_fits n sim r b c Q F (Seek g w k) x =
      seek_fits n c Q F g w k (λ e h. let y = x.1 (suc n) e h in fits_from y.0 0 0 c Q F (at_depth prog n (k e)) zero-le (follow_fits n sim y.1 1 (steps img y.0 c) Q F (k e) y.3)) x.3

  pub start_prints : (q : Query) (t : Task q) (w : W) (w' : MW) → printed_of w' ≡ printed_of w → Still (start q t w') w
  start_prints (QVal e) t w w' h = h
  start_prints (QName e) t w w' h = h
  start_prints (QArgs xs) t w w' h = h
  start_prints (QBody b) t w w' h = h
  start_prints (QExec k) t w w' h = h
  start_prints (QMatch s p left u) t w w' h = h

  -- what is printed: the same
  pub sim_all : Local → (n : ℕ) → Sim n
  unfolding meaning
  sim_all loc zero q t w w' wr = (0, zero-le, start_prints q t w w' (ap (λ p. p.printed) (sym wr.io)))
  sim_all loc (suc n) q t w w' wr = follow_fits n (sim_all loc n) (rank q) (own_steps q w) (start q t w') (done q t) (failed q t) (rule prog q w) (loc q t w w' wr)

  goes_from : {A : Type 0} (i m l : ℕ) (c b : State) (Q : A → W → State → Type 0) (F : W → State → Type 0) (r : ℕ → Res A) → l ≤ i + m → steps img i c ≡ b → Goes m b Q F r → Goes l c Q F r
  goes_from i m l c b Q F r le e (n, inl s) = (n, inl s)
  goes_from i m l c b Q F r le e (n, inr h) = (n, inr (λ d. fits_from i m l c Q F (r (d + n)) le (subst (λ s. Fits m s Q F (r (d + n))) (sym e) (h d))))

  -- two families that agree from some depth on
  goes_as : {A : Type 0} (l : ℕ) (c : State) (Q : A → W → State → Type 0) (F : W → State → Type 0) (r s : ℕ → Res A) (k : ℕ) → ((d : ℕ) → s (d + k) ≡ r (d + k)) → ((n d : ℕ) → Settled (r n) → r (d + n) ≡ r n) → Goes l c Q F r → Goes l c Q F s
  goes_as l c Q F r s k e st (n, inl h) =
      let swap : n + k ≡ k + n = omega arith in
      (n + k, inl (subst Settled (sym (e n ∙ ap r swap ∙ st n k h)) h))
  goes_as l c Q F r s k e st (n, inr h) = (
    n + k,
    inr (λ d.
        let p : d + (n + k) ≡ d + n + k = omega arith in
        let q : d + n + k ≡ d + k + n = omega arith in
        subst (Fits l c Q F) (sym (ap s p ∙ e (d + n) ∙ ap r q)) (h (d + k))),
  )

  module _ (on : (q : Query) (w : W) → Goes_on w (rule prog q w)) (loc : Local) where
    abbrev pub Prog' : ℕ → Query → Type 0
    Prog' l q = (t : Task q) (w : W) (w' : MW) → WR trees_at w w' → Goes l (start q t w') (done q t) (failed q t) (λ n. meaning prog n q w)

    -- what is asked has an answer at the depth n
    ask_answered : {A : Type 0} (m l : ℕ) (c b : State) (q : Query) (t : Task q) (w : W) (Q : A → W → State → Type 0) (F : W → State → Type 0) (k : Ans q → W → Rule A) (f : W → Rule A) (j : ℕ) → l ≤ j + m → steps img j c ≡ b → Goes_on w (Ask q w k f)
        → ((a : Ans q) (u : W) (d : State) → Before w u → done q t a u d → Goes m d Q F (λ n. at_depth prog n (k a u)))
        → ((u : W) (d : State) → Before w u → failed q t u d → Goes m d Q F (λ n. at_depth prog n (f u)))
        → (n : ℕ) (r : Res (Ans q)) → meaning prog n q w ≡ r → Settled r → Later w r → Fits 0 b (done q t) (failed q t) r
        → Goes l c Q F (λ n. at_depth prog n (Ask q w k f))
    ask_answered m l c b q t w Q F k f j lj at g hk hf n (Done a u) e s lt (i, le, x) =
        let settled : Settled (meaning prog n q w) = subst Settled (sym e) tt in
        goes_as l c Q F (λ n. at_depth prog n (k a u)) (λ n. at_depth prog n (Ask q w k f)) n
        (λ d. ap (λ r. after r (λ a u. at_depth prog (d + n) (k a u)) (λ u. at_depth prog (d + n) (f u))) (stays prog on n d q w settled ∙ e))
        (λ p d h. follow_stays prog on p d u (k a u) (g.1 a u lt) h)
        (goes_from j m l c b Q F (λ n. at_depth prog n (k a u)) lj at (goes_from i m m b (steps img i b) Q F (λ n. at_depth prog n (k a u)) (omega arith) refl (hk a u (steps img i b) lt x)))
    ask_answered m l c b q t w Q F k f j lj at g hk hf n (Fails u) e s lt (i, le, x) =
        let settled : Settled (meaning prog n q w) = subst Settled (sym e) tt in
        goes_as l c Q F (λ n. at_depth prog n (f u)) (λ n. at_depth prog n (Ask q w k f)) n
        (λ d. ap (λ r. after r (λ a u. at_depth prog (d + n) (k a u)) (λ u. at_depth prog (d + n) (f u))) (stays prog on n d q w settled ∙ e))
        (λ p d h. follow_stays prog on p d u (f u) (g.2 u lt) h)
        (goes_from j m l c b Q F (λ n. at_depth prog n (f u)) lj at (goes_from i m m b (steps img i b) Q F (λ n. at_depth prog n (f u)) (omega arith) refl (hf u (steps img i b) lt x)))
    ask_answered m l c b q t w Q F k f j lj at g hk hf n (Ends x u) e s lt y =
        (n, inl (subst (λ r. Settled (after r (λ a u. at_depth prog n (k a u)) (λ u. at_depth prog n (f u)))) (sym e) tt))
    ask_answered m l c b q t w Q F k f j lj at g hk hf n (Open u) e s lt y = absurd s

    -- the ranks below a bound go for so many steps, and all ranks for one less
    abbrev pub Level : ℕ → ℕ → Type 0
    Level m r = ((q : Query) → suc (rank q) ≤ r → Prog' m q) × ((q : Query) → Prog' (pred m) q)

    lower : {A : Type 0} (m : ℕ) (c : State) (Q : A → W → State → Type 0) (F : W → State → Type 0) (r : ℕ → Res A) → Goes m c Q F r → Goes (pred m) c Q F r
    lower m c Q F r g = goes_from 0 m (pred m) c c Q F r (omega arith) refl g

    -- what is asked goes for so many steps that with those before it there are l
    Asked : ℕ → ℕ → ℕ → Type 0
    Asked l j r = (m : ℕ) × (l ≤ j + m) × Level m r

    by_step : (l j r r' : ℕ) → Level l r → (1 ≤ j) ⊎ (r' ≤ r) → Asked l j r'
    unfolding Asked
    by_step l j r r' lv (inl le) = (pred l, omega arith, ((λ q h. lv.1 q), (λ q t w w' wr. lower (pred l) (start q t w') (done q t) (failed q t) (λ n. meaning prog n q w) (lv.1 q t w w' wr))))
    by_step l j r r' lv (inr le) = (l, omega arith, ((λ q h. lv.0 q (omega arith)), lv.1))

    asked_goes : {A : Type 0} (m l j : ℕ) (c : State) (q : Query) (t : Task q) (w : W) (w' : MW) (Q : A → W → State → Type 0) (F : W → State → Type 0) (rk b : ℕ) (k : Ans q → W → Rule A) (f : W → Rule A) → l ≤ j + m → steps img j c ≡ start q t w' → WR trees_at w w'
        → ((a : Ans q) (u : W) → Before w u → Goes_on u (k a u)) × ((u : W) → Before w u → Goes_on u (f u))
        → ((a : Ans q) (u : W) (d : State) → done q t a u d → Follows rk b d Q F (k a u)) → ((u : W) (d : State) → failed q t u d → Follows rk b d Q F (f u))
        → ((a : Ans q) (u : W) (d : State) → Before w u → done q t a u d → Goes m d Q F (λ n. at_depth prog n (k a u)))
        → ((u : W) (d : State) → Before w u → failed q t u d → Goes m d Q F (λ n. at_depth prog n (f u)))
        → Goes m (start q t w') (done q t) (failed q t) (λ n. meaning prog n q w) → Goes l c Q F (λ n. at_depth prog n (Ask q w k f))
    asked_goes m l j c q t w w' Q F rk b k f lj at wr g fk ff hk hf (n, inl s) =
        ask_answered m l c (start q t w') q t w Q F k f j lj at (before_refl w, g.0, g.1) hk hf n (meaning prog n q w) refl s (later prog on n q w) (sim_all loc n q t w w' wr)
    asked_goes m l j c q t w w' Q F rk b k f lj at wr g fk ff hk hf (n, inr h) = (
      n,
      inr (λ d. fits_after j m l c (done q t) (failed q t) Q F (meaning prog (d + n) q w) (λ a u. at_depth prog (d + n) (k a u)) (λ u. at_depth prog (d + n) (f u)) lj
          (subst (λ s. Fits m s (done q t) (failed q t) (meaning prog (d + n) q w)) (sym at) (h d))
          (λ a u s x. follow_fits (d + n) (sim_all loc (d + n)) rk b s Q F (k a u) (fk a u s x))
          (λ u s x. follow_fits (d + n) (sim_all loc (d + n)) rk b s Q F (f u) (ff u s x))),
    )

    seek_stays : (g : ℕ → Option SearchEvent) (e : SearchEvent) → ((n : ℕ) (e : SearchEvent) → g n ≡ Some e → g (suc n) ≡ Some e) → (n d : ℕ) → g n ≡ Some e → g (d + n) ≡ Some e
    seek_stays g e st n zero h = let z : zero + n ≡ n = omega arith in ap g z ∙ h
    seek_stays g e st n (suc d) h = let z : suc d + n ≡ suc (d + n) = omega arith in ap g z ∙ st (d + n) e (seek_stays g e st n d h)

    -- a search that has come to an event
    seek_found : {A : Type 0} (l : ℕ) (c : State) (Q : A → W → State → Type 0) (F : W → State → Type 0) (g : ℕ → Option SearchEvent) (w : W) (k : SearchEvent → Rule A) (n : ℕ) (e : SearchEvent) → g n ≡ Some e → Goes_on w (Seek g w k)
        → Goes l c Q F (λ n. at_depth prog n (k e)) → Goes l c Q F (λ n. at_depth prog n (Seek g w k))
    seek_found l c Q F g w k n e h on' x =
        goes_as l c Q F (λ n. at_depth prog n (k e)) (λ n. at_depth prog n (Seek g w k)) n
        (λ d. let z : suc (d + n) ≡ suc d + n = omega arith in ap (λ o. sought o w (λ e. at_depth prog (d + n) (k e))) (ap g z ∙ seek_stays g e on'.1 n (suc d) h))
        (λ p d s. follow_stays prog on p d w (k e) (on'.2 e) s) x

    -- one that has come to none in l steps
    seek_long : {A : Type 0} (l n : ℕ) (c : State) (Q : A → W → State → Type 0) (F : W → State → Type 0) (g : ℕ → Option SearchEvent) (w : W) (k : SearchEvent → Rule A)
        → ((e : SearchEvent) → g (suc n) ≡ Some e → Fits l c Q F (at_depth prog n (k e))) → (i : ℕ) → l ≤ i → Still (steps img i c) w → Fits l c Q F (at_depth prog n (Seek g w k))
    seek_long l n c Q F g w k h i le st = go (g (suc n)) refl
      where
        go : (o : Option SearchEvent) → g (suc n) ≡ o → Fits l c Q F (sought o w (λ e. at_depth prog n (k e)))
        go None e = (i, le, st)
        go (Some x) e = h x e

    seek_goes : {A : Type 0} (l r b : ℕ) (c : State) (Q : A → W → State → Type 0) (F : W → State → Type 0) (g : ℕ → Option SearchEvent) (w : W) (k : SearchEvent → Rule A) → Goes_on w (Seek g w k) → (x : Follows r b c Q F (Seek g w k))
        → ((e : SearchEvent) (d : State) (j r' : ℕ) → (1 ≤ j) ⊎ (r' ≤ r) → Follows r' 1 d Q F (k e) → (m : ℕ) × (l ≤ j + m) × Goes m d Q F (λ n. at_depth prog n (k e)))
        → ((n : ℕ) × (e : SearchEvent) × (g n ≡ Some e)) ⊎ ((i : ℕ) × (l ≤ i) × Still (steps img i c) w × ((n : ℕ) (e : SearchEvent) (h : g n ≡ Some e) → l ≤ (x.1 n e h).0)) → Goes l c Q F (λ n. at_depth prog n (Seek g w k))
    seek_goes l r b c Q F g w k on' x hk (inl (n, e, h)) =
        let y = x.1 n e h in
        let z = hk e (steps img y.0 c) y.0 y.1 y.2 y.3 in
        seek_found l c Q F g w k n e h on' (goes_from y.0 z.0 l c (steps img y.0 c) Q F (λ n. at_depth prog n (k e)) z.1 refl z.2)
    seek_goes l r b c Q F g w k on' x hk (inr (i, li, st, far)) = (
      0,
      inr (λ d. seek_long l (d + 0) c Q F g w k
          (λ e h. let y = x.1 (suc (d + 0)) e h in let le = far (suc (d + 0)) e h in
          fits_from y.0 0 l c Q F (at_depth prog (d + 0) (k e)) (omega arith) (follow_fits (d + 0) (sim_all loc (d + 0)) y.1 1 (steps img y.0 c) Q F (k e) y.3)) i li st),
    )

    pub follow_goes : {A : Type 0} (l r b : ℕ) → Level l r → (v : W) (c : State) (Q : A → W → State → Type 0) (F : W → State → Type 0) (p : Rule A) → Goes_on v p → Follows r b c Q F p → Goes l c Q F (λ n. at_depth prog n p)
    unfolding Asked
    follow_goes l r b lv v c Q F (Ret a w) g x = (0, inl tt)
    follow_goes l r b lv v c Q F (Fail w) g x = (0, inl tt)
    follow_goes l r b lv v c Q F (Stop e w) g x = (0, inl tt)
    follow_goes l r b lv v c Q F (Ask q w k f) g x =
        let a = by_step l x.0 r x.5 lv x.7 in
        asked_goes a.0 l x.0 c q x.1 w x.2 Q F x.5 x.8 k f a.1 x.3 x.4 (g.1, g.2) x.10 x.11
        (λ v u d bf h. follow_goes a.0 x.5 x.8 a.2 u d Q F (k v u) (g.1 v u bf) (x.10 v u d h))
        (λ u d bf h. follow_goes a.0 x.5 x.8 a.2 u d Q F (f u) (g.2 u bf) (x.11 u d h))
        (a.2.0 q x.6 x.1 w x.2 x.4)
    follow_goes l r b lv v c Q F (Seek g' w k) g x =
        seek_goes l r b c Q F g' w k (before_refl w, g.1, g.2) x (λ e d j r' st y. let a = by_step l j r r' lv st in (a.0, a.1, follow_goes a.0 r' 1 a.2 w d Q F (k e) (g.2 e) y)) (x.2 l)

    -- a rule is the meaning one level up
    shifted : (l : ℕ) (q : Query) (c : State) (Q : Ans q → W → State → Type 0) (F : W → State → Type 0) (w : W) → Goes l c Q F (λ n. at_depth prog n (rule prog q w)) → Goes l c Q F (λ n. meaning prog n q w)
    unfolding meaning
    shifted l q c Q F w (n, inl s) = (suc n, inl s)
    shifted l q c Q F w (n, inr h) = (suc n, inr (λ d. let e : suc (d + n) ≡ d + suc n = omega arith in subst (λ k. Fits l c Q F (meaning prog k q w)) e (h d)))

    -- by the number of steps, then by rank
    goes_rank : (l : ℕ) → ((q : Query) → Prog' (pred l) q) → (r : ℕ) (q : Query) → rank q ≤ r → Prog' l q
    goes_rank l h1 zero q le t w w' wr =
        shifted l q (start q t w') (done q t) (failed q t) w
        (follow_goes l (rank q) (own_steps q w) ((λ q' lt. absurd (omega arith)), h1) w (start q t w') (done q t) (failed q t) (rule prog q w) (on q w) (loc q t w w' wr))
    goes_rank l h1 (suc r) q le t w w' wr =
        shifted l q (start q t w') (done q t) (failed q t) w
        (follow_goes l (rank q) (own_steps q w) ((λ q' lt. goes_rank l h1 r q' (omega arith)), h1) w (start q t w') (done q t) (failed q t) (rule prog q w) (on q w) (loc q t w w' wr))

    pub goes_all : (l : ℕ) (q : Query) → Prog' l q
    goes_all zero q t w w' wr = (0, inr (λ d. sim_all loc (d + 0) q t w w' wr))
    goes_all (suc l) q t w w' wr = goes_rank (suc l) (goes_all l) (rank q) q (omega arith) t w w' wr
