-- Code that stands for a pattern comes to the events of its scan, and to no others.
use Rattle.std.proofs.Common.{◌≡◌, ℕ, List, [], ◌∷◌, refl, sym, ◌∙◌, ap, subst, inl, inr, Option}
use Rattle.model.specs.Pattern.Patterns.{Pat, Ask, Event, Running, Failed, Asks, Matched}
use Rattle.model.specs.Pattern.Search.{Found, Hit, Part, Script, search, scan}
use Rattle.model.specs.Pattern.Steps.{Code, Answers, event_of, settled, match_steps}
use Rattle.model.specs.Pattern.Stands as St
use Rattle.model.specs.Pattern.Stands.{Stands, Alike, AlikeAsk, AlikeEvent}
use Rattle.model.specs.Deck.Trees.{Expr}
use Rattle.model.proofs.Pattern.CodeSearch.{Handed, bare, bare_grows, run, run_scan, IsOver, run_from_steps, steps_from_run}
use Rattle.model.proofs.Pattern.Followed.{AlikeFound, misses, finals, SameEnd, hits, stops, waits, Followed, AlikeTold, fail, match, ask, EventFollowed, over_starts_followed}
use Rattle.model.proofs.Pattern.StandsAt.{Whole, RestAt, part, ended, stands_alone, past_end}
use Rattle.model.proofs.Pattern.CodeFollows.{Ends, hit, stop, wait, forward, backward, run_rises, search_rises}

module _ (s : List ℕ) (xs : ℕ → Option Expr) (p : Pat) (code : Code) (st : Stands xs p code) where
  at_front : RestAt xs Whole code 0 [] (Part p ∷ [])
  at_front = part (stands_alone xs code p st) (ended (past_end code))

  -- of the whole code, no fence is closed
  bare_ends : (x : Found (Ask Expr) Pat) (y : Found Handed Code) → Ends xs Whole x y → AlikeFound (Ask Expr) Pat (Ask ℕ) Code (SameEnd (Ask Expr) Pat (Ask ℕ) Code (Alike xs) (AlikeAsk xs)) (Alike xs) x (bare y)
  bare_ends x y (hit {e = e} {a = a} {t = t} q al) =
      subst (λ z. AlikeFound (Ask Expr) Pat (Ask ℕ) Code (SameEnd (Ask Expr) Pat (Ask ℕ) Code (Alike xs) (AlikeAsk xs)) (Alike xs) (Hit e a t) (bare z)) (sym q) (finals tt tt (hits al))
  bare_ends x y stop = finals tt tt stops
  bare_ends x y (wait v) = finals tt tt (waits v)

  bare_found : (x : Found (Ask Expr) Pat) (y : Found Handed Code) → AlikeFound (Ask Expr) Pat Handed Code (Ends xs Whole) (Alike xs) x y → AlikeFound (Ask Expr) Pat (Ask ℕ) Code (SameEnd (Ask Expr) Pat (Ask ℕ) Code (Alike xs) (AlikeAsk xs)) (Alike xs) x (bare y)
  bare_found x y (misses al) = misses al
  bare_found x y (finals fx fy r) = bare_ends x y r

  bare_followed : (x : Found (Ask Expr) Pat) (f : ℕ → Found Handed Code) → Followed (Ask Expr) Pat Handed Code (Ends xs Whole) (Alike xs) x f → Followed (Ask Expr) Pat (Ask ℕ) Code (SameEnd (Ask Expr) Pat (Ask ℕ) Code (Alike xs) (AlikeAsk xs)) (Alike xs) x (λ m. bare (f m))
  bare_followed x f (inl e) = inl e
  bare_followed x f (inr (m, h)) = inr (m, bare_found x (f m) h)

  scan_run : (n left b : ℕ) (t : Script) (u : Answers) → Alike xs t u → EventFollowed Expr Pat ℕ Code (Alike xs) (AlikeAsk xs) (scan s n p left b t) (λ m. run_scan s code m left b u)
  scan_run n left b t u al =
      over_starts_followed Expr Pat ℕ Code (Alike xs) (AlikeAsk xs) (λ c w. search s n (Part p ∷ []) c [] w) (λ m c w. bare (run s m 0 (settled [] code 0 c []) w))
      (λ c w i j le. bare_grows (run s i 0 (settled [] code 0 c []) w) (run s j 0 (settled [] code 0 c []) w) (run_rises s 0 (settled [] code 0 c []) w i j le))
      (λ c v w h. bare_followed (search s n (Part p ∷ []) c [] v) (λ m. run s m 0 (settled [] code 0 c []) w) (forward s xs n Whole 0 code 0 [] (Part p ∷ []) c [] v w at_front h)) left b t u al

  -- and the other way round
  ends_bare : (y : Found Handed Code) (x : Found (Ask Expr) Pat) → Ends xs Whole x y → AlikeFound (Ask ℕ) Code (Ask Expr) Pat (SameEnd (Ask ℕ) Code (Ask Expr) Pat (λ u t. Alike xs t u) (λ w v. AlikeAsk xs v w)) (λ u t. Alike xs t u) (bare y) x
  ends_bare y x (hit {e = e} {a = a} {t = t} q al) =
      subst (λ z. AlikeFound (Ask ℕ) Code (Ask Expr) Pat (SameEnd (Ask ℕ) Code (Ask Expr) Pat (λ u t. Alike xs t u) (λ w v. AlikeAsk xs v w)) (λ u t. Alike xs t u) (bare z) (Hit e a t)) (sym q) (finals tt tt (hits al))
  ends_bare y x stop = finals tt tt stops
  ends_bare y x (wait v) = finals tt tt (waits v)

  found_bare : (y : Found Handed Code) (x : Found (Ask Expr) Pat) → AlikeFound Handed Code (Ask Expr) Pat (λ y x. Ends xs Whole x y) (λ u t. Alike xs t u) y x → AlikeFound (Ask ℕ) Code (Ask Expr) Pat (SameEnd (Ask ℕ) Code (Ask Expr) Pat (λ u t. Alike xs t u) (λ w v. AlikeAsk xs v w)) (λ u t. Alike xs t u) (bare y) x
  found_bare y x (misses al) = misses al
  found_bare y x (finals fy fx r) = ends_bare y x r

  followed_bare : (y : Found Handed Code) (f : ℕ → Found (Ask Expr) Pat) → Followed Handed Code (Ask Expr) Pat (λ y x. Ends xs Whole x y) (λ u t. Alike xs t u) y f → Followed (Ask ℕ) Code (Ask Expr) Pat (SameEnd (Ask ℕ) Code (Ask Expr) Pat (λ u t. Alike xs t u) (λ w v. AlikeAsk xs v w)) (λ u t. Alike xs t u) (bare y) f
  followed_bare y f (inl e) = inl (ap bare e)
  followed_bare y f (inr (n, h)) = inr (n, found_bare y (f n) h)

  run_scans : (m left b : ℕ) (t : Script) (u : Answers) → Alike xs t u → EventFollowed ℕ Code Expr Pat (λ u t. Alike xs t u) (λ w v. AlikeAsk xs v w) (run_scan s code m left b u) (λ n. scan s n p left b t)
  run_scans m left b t u al =
      over_starts_followed ℕ Code Expr Pat (λ u t. Alike xs t u) (λ w v. AlikeAsk xs v w) (λ c w. bare (run s m 0 (settled [] code 0 c []) w)) (λ n c w. search s n (Part p ∷ []) c [] w)
      (λ c w. search_rises s (Part p ∷ []) c [] w)
      (λ c w v h. followed_bare (run s m 0 (settled [] code 0 c []) w) (λ n. search s n (Part p ∷ []) c [] v) (backward s xs m Whole 0 code 0 [] (Part p ∷ []) c [] v w at_front h)) left b u t al

  -- an event and its like
  over_like : (x : Event Expr) (y : Event ℕ) → AlikeTold Expr ℕ (AlikeAsk xs) x y → IsOver s code y
  over_like x y fail = tt
  over_like x y match = tt
  over_like x y (ask h) = tt

  like_event : (x : Event Expr) (y : Event ℕ) → AlikeTold Expr ℕ (AlikeAsk xs) x y → AlikeEvent xs x y
  like_event x y fail = St.fail
  like_event x y match = St.match
  like_event x y (ask h) = St.ask h

  like_back : (x : Event Expr) (y : Event ℕ) → AlikeTold ℕ Expr (λ w v. AlikeAsk xs v w) y x → AlikeEvent xs x y
  like_back x y fail = St.fail
  like_back x y match = St.match
  like_back x y (ask h) = St.ask h

  -- what a scan returns, the steps come to
  pub steps_of_scan : (n left b : ℕ) (t : Script) (u : Answers) → Alike xs t u → (scan s n p left b t ≡ Running → ⊥) → (m : ℕ) × AlikeEvent xs (scan s n p left b t) (event_of (match_steps s code left b u m))
  steps_of_scan n left b t u al o = go (scan_run n left b t u al)
    where
      go : EventFollowed Expr Pat ℕ Code (Alike xs) (AlikeAsk xs) (scan s n p left b t) (λ m. run_scan s code m left b u) → (m : ℕ) × AlikeEvent xs (scan s n p left b t) (event_of (match_steps s code left b u m))
      go (inl e) = absurd (o e)
      go (inr (m, h)) =
          let y : Event ℕ = run_scan s code m left b u in
          let j = steps_from_run s code m left b u y (over_like (scan s n p left b t) y h) refl in
          (j.0, subst (AlikeEvent xs (scan s n p left b t)) (sym j.1) (like_event (scan s n p left b t) y h))

  -- what the steps come to, a scan answers
  pub scan_of_steps : (m left b : ℕ) (t : Script) (u : Answers) → Alike xs t u → (event_of (match_steps s code left b u m) ≡ Running → ⊥) → (n : ℕ) × AlikeEvent xs (scan s n p left b t) (event_of (match_steps s code left b u m))
  scan_of_steps m left b t u al o =
      go (event_of (match_steps s code left b u m)) (run_from_steps s code m left b u (event_of (match_steps s code left b u m)) (is_over (event_of (match_steps s code left b u m)) o) refl) (run_scans m left b t u al)
    where
      is_over : (e : Event ℕ) → (e ≡ Running → ⊥) → IsOver s code e
      is_over Running h = absurd (h refl)
      is_over Failed h = tt
      is_over (Asks v) h = tt
      is_over (Matched q d a) h = tt

      go : (e : Event ℕ) → run_scan s code m left b u ≡ event_of (match_steps s code left b u m) → EventFollowed ℕ Code Expr Pat (λ u t. Alike xs t u) (λ w v. AlikeAsk xs v w) (run_scan s code m left b u) (λ n. scan s n p left b t) → (n : ℕ) × AlikeEvent xs (scan s n p left b t) (event_of (match_steps s code left b u m))
      go e q (inl d) = absurd (o (sym q ∙ d))
      go e q (inr (n, h)) = (n, subst (AlikeEvent xs (scan s n p left b t)) q (like_back (scan s n p left b t) (run_scan s code m left b u) h))
