-- The steps of code that stands for a pattern are at most three for each rule that its scan uses.
use Rattle.std.proofs.Common.{◌≡◌, ℕ, ℤ, zero, suc, ◌+◌, ◌-◌, ◌*◌, List, [], ◌∷◌, ◌++◌, refl, sym, ◌∙◌, ap, subst, arith, ◌≤◌, ◌<◌, ◌⊎◌, inl, inr, Option, Some, None}
use Rattle.std.specs.Prelude.{slice_get, pos, negsuc, Bool, true, false, not, ◌&&◌, length, drop, ◌==◌, nat_le, nat_lt, eqb}
use Rattle.std.specs.List.{starts_with, prefix_len}
use Rattle.model.specs.Pattern.Patterns.{Basic, Lit, Len, Pos, RPos, Tab, RTab, AnyOf, NotAnyOf, Span, Break, Rem, Arb, Bal, Pat, Plain, Succeed, Abort, Fence, Cat, Alt, Arbno, FenceOf, Cond, Imm, At, Defer, DeferBasic, Kind, Instr, Do, Split, Jmp, DoSucceed, DoAbort, DoFence, Open, OpenFence, CloseFence, Close, Say, AtCursor, Eval, EvalBasic, Pending, Answer, IsPattern, IsCount, IsBytes, IsFailed, IsSaid, Ask, AskFor, SayThat, Told, Text, Number, Event, Running, Failed, Asks, Matched, want_of_kind, with_answer}
use Rattle.model.specs.Pattern.BasicEnds.{is_in_set, end_if, one_byte, ends_at}
use Rattle.model.specs.Pattern.Ends.{between}
use Rattle.model.specs.Pattern.Search.{Hit, Miss, Stop, Deep, Wait, on_miss, on_hit, try_each, Goal, Part, Closing, Saying, Found', Script, search, told_that, given_pattern, given_argument, started, scan}
use Rattle.model.specs.Pattern.Steps.{Code, Answers, Thread, Note, Opened, Fenced, Left, settled, Choice, Retry, Again, Quit, ForSaid, ForPattern, ForArgument, pattern_act, forked, at_distance, on_after, MatchState, Starting, Going, Returning, Waits, Over, Won, go, back, after_move, choices_kept, after_act, pattern_step, pattern_steps, event_of, match_steps}
use Rattle.model.specs.Pattern.Stands as St
use Rattle.model.specs.Pattern.Stands.{Stands, Alike, none, more, patterns, counts, bytes, failed, said, AlikeAsk, asked, says, AlikeEvent}
use Rattle.model.specs.Language.RulesUsed.{if_missed, if_hit, end_counts, each_count, told_count, given_count, argument_count, rule_count, search_count, scan_count}
use Rattle.model.specs.Laws.StepBound.{PatternStepsBounded, PatternStepsOnBounded}
use Rattle.model.specs.Deck.Target.{Name}
use Rattle.model.specs.Deck.Trees.{Expr}
use Rattle.model.proofs.Pattern.Followed.{on_miss_none}
use Rattle.model.proofs.Pattern.StandsAt.{StandsAt, Ending, Whole, InFence, RestAt, ended, fence_ended, left as entered, jump, part, closing, saying, jumps_rest, stands_alone, past_end, rest_after}
use Rattle.model.proofs.Pattern.JumpsEnd.{below_or, NotForward, IsSplit, Fine, stands_fine, after_fine}
use Rattle.model.proofs.Pattern.CodeSearch.{IsOver, all_stays, kept_all, kept_before}
use Rattle.model.proofs.Pattern.CodeFollows.{thread, settled_here, settled_past}

-- ---- counts

missed_le : (r : Found') (f g : Script → ℕ) (k : ℕ) → ((t : Script) → f t ≤ k + 3 * g t) → if_missed r f ≤ k + 3 * if_missed r g
missed_le (Hit e a t) f g k h = omega arith
missed_le (Miss t) f g k h = h t
missed_le Stop f g k h = omega arith
missed_le Deep f g k h = omega arith
missed_le (Wait v) f g k h = omega arith

missed_none : (r : Found') → if_missed r (λ t. 0) ≡ 0
missed_none (Hit e a t) = refl
missed_none (Miss t) = refl
missed_none Stop = refl
missed_none Deep = refl
missed_none (Wait v) = refl

hit_le : (r : Found') (g : ℕ → Pending → Script → ℕ) → if_hit r (λ e a t. 3 * g e a t) ≤ 3 * if_hit r g
hit_le (Hit e a t) g = omega arith
hit_le (Miss t) g = omega arith
hit_le Stop g = omega arith
hit_le Deep g = omega arith
hit_le (Wait v) g = omega arith

-- the steps from the first of these ends on, where g bounds those of each
abbrev ends_cost : (ℕ → Script → Found') → (ℕ → Script → ℕ) → List ℕ → Script → ℕ
ends_cost f g [] t = 0
ends_cost f g (e ∷ []) t = g e t
ends_cost f g (e ∷ d ∷ es) t = g e t + if_missed (f e t) (λ u. suc (ends_cost f g (d ∷ es) u))

abbrev Single : List ℕ → Type 0
Single [] = Unit {0}
Single (e ∷ []) = Unit {0}
Single (e ∷ d ∷ es) = ⊥

-- several ends count each
several_cost : (f : ℕ → Script → Found') (n : ℕ → Script → ℕ) (es : List ℕ) (t : Script) → ends_cost f (λ e u. 3 * n e u) es t ≤ 3 * each_count f (λ e u. 1 + n e u) es t
several_cost f n [] t = omega arith
several_cost f n (e ∷ []) t = omega arith
several_cost f n (e ∷ d ∷ es) t =
    let h : if_missed (f e t) (λ u. suc (ends_cost f (λ e u. 3 * n e u) (d ∷ es) u)) ≤ 1 + 3 * if_missed (f e t) (λ u. each_count f (λ e u. 1 + n e u) (d ∷ es) u) =
    missed_le (f e t) (λ u. suc (ends_cost f (λ e u. 3 * n e u) (d ∷ es) u)) (λ u. each_count f (λ e u. 1 + n e u) (d ∷ es) u) 1 (λ u. let i = several_cost f n (d ∷ es) u in omega (arith, i)) in
    omega (arith, h)

single_cost : (f : ℕ → Script → Found') (n : ℕ → Script → ℕ) (es : List ℕ) (t : Script) → Single es → ends_cost f (λ e u. 3 * n e u) es t ≤ 3 * each_count f (λ e u. 0 + n e u) es t
single_cost f n [] t h = omega arith
single_cost f n (e ∷ []) t h = omega arith
single_cost f n (e ∷ d ∷ es) t h = absurd h

single_if : (b : Bool) (e : ℕ) → Single (end_if b e)
single_if true e = tt
single_if false e = tt

single_byte : (test : ℕ → Bool) (s : List ℕ) (c : ℕ) → Single (one_byte test s c)
single_byte test [] c = tt
single_byte test (b ∷ s) c = single_if (test b) (c + 1)

basic_cost : (s : List ℕ) (k : Basic) (c : ℕ) (f : ℕ → Script → Found') (n : ℕ → Script → ℕ) (t : Script) → ends_cost f (λ e u. 3 * n e u) (ends_at s k c) t ≤ 3 * each_count f (λ e u. end_counts k + n e u) (ends_at s k c) t
basic_cost s (Lit w) c f n t = single_cost f n (ends_at s (Lit w) c) t (single_if (starts_with eqb (drop c s) w) (c + length w))
basic_cost s (Len i) c f n t = single_cost f n (ends_at s (Len i) c) t (single_if (nat_le (c + i) (length s)) (c + i))
basic_cost s (Pos i) c f n t = single_cost f n (ends_at s (Pos i) c) t (single_if (c == i) c)
basic_cost s (RPos i) c f n t = single_cost f n (ends_at s (RPos i) c) t (single_if (c + i == length s) c)
basic_cost s (Tab i) c f n t = single_cost f n (ends_at s (Tab i) c) t (single_if (nat_le c i && nat_le i (length s)) i)
basic_cost s (RTab i) c f n t = single_cost f n (ends_at s (RTab i) c) t (single_if (nat_le (c + i) (length s)) (length s - i))
basic_cost s (AnyOf w) c f n t = single_cost f n (ends_at s (AnyOf w) c) t (single_byte (is_in_set w) (drop c s) c)
basic_cost s (NotAnyOf w) c f n t = single_cost f n (ends_at s (NotAnyOf w) c) t (single_byte (λ b. not (is_in_set w b)) (drop c s) c)
basic_cost s (Span w) c f n t = single_cost f n (ends_at s (Span w) c) t (single_if (nat_lt 0 (prefix_len (is_in_set w) (drop c s))) (c + prefix_len (is_in_set w) (drop c s)))
basic_cost s (Break w) c f n t = single_cost f n (ends_at s (Break w) c) t (single_if (nat_lt (c + prefix_len (λ b. not (is_in_set w b)) (drop c s)) (length s)) (c + prefix_len (λ b. not (is_in_set w b)) (drop c s)))
basic_cost s Rem c f n t = single_cost f n (ends_at s Rem c) t tt
basic_cost s Arb c f n t = several_cost f n (ends_at s Arb c) t
basic_cost s Bal c f n t = several_cost f n (ends_at s Bal c) t
basic_cost s Rattle.model.specs.Pattern.Patterns.Fail c f n t = single_cost f n (ends_at s Rattle.model.specs.Pattern.Patterns.Fail c) t tt

-- ---- a row's own steps

-- what a kind of pattern takes beside three steps for each row after its own: two where its instruction asks, or stops the
-- match when it is gone back to, and else one
abbrev own : Pat → ℕ
own Fence = 2
own (At x) = 2
own (Defer x) = 2
own (DeferBasic k x) = 2
own q = 1

own_some : (q : Pat) → own q ≤ 2
own_some (Plain k) = omega arith
own_some Succeed = omega arith
own_some Abort = omega arith
own_some Fence = omega arith
own_some (Cat q o) = omega arith
own_some (Alt q o) = omega arith
own_some (Arbno q) = omega arith
own_some (FenceOf q) = omega arith
own_some (Cond q x) = omega arith
own_some (Imm q x) = omega arith
own_some (At x) = omega arith
own_some (Defer x) = omega arith
own_some (DeferBasic k x) = omega arith

-- ---- from a state, with these choices and this start to go back to, at most n steps lead to what was found

module _ (s : List ℕ) (xs : ℕ → Option Expr) (main : Code) where
  steps_add : (i j : ℕ) (x : MatchState) → pattern_steps s main (i + j) x ≡ pattern_steps s main j (pattern_steps s main i x)
  steps_add zero j x = let e : zero + j ≡ j = omega arith in ap (λ k. pattern_steps s main k x) e
  steps_add (suc i) j x = let e : suc i + j ≡ suc (i + j) = omega arith in ap (λ k. pattern_steps s main k x) e ∙ steps_add i j (pattern_step s main x)

module _ (s : List ℕ) (xs : ℕ → Option Expr) (main : Code) (en : Ending) (base : List Choice) where
  -- what an end is: the match's, or on after the FCLOSE, with the choices that were there at its FOPEN
  abbrev pub HitsAt : Ending → ℕ → ℕ → ℕ → Pending → Script → MatchState → Type 0
  HitsAt Whole b left e a t x = event_of x ≡ Matched b e a
  HitsAt (InFence k code p notes) b left e a t x = (u : Answers) × Alike xs t u × (x ≡ go (settled notes code (p + 1) e a) base b left u)

  -- which an FCLOSE leaves of these choices
  abbrev pub Keeps : Ending → List Choice → Type 0
  Keeps Whole cs = Unit {0}
  Keeps (InFence k code p notes) cs = (k ≤ length cs) × (choices_kept k cs ≡ base)

  keeps_more : (o : Ending) (ch : Choice) (cs : List Choice) → Keeps o cs → Keeps o (ch ∷ cs)
  keeps_more Whole ch cs h = tt
  keeps_more (InFence k code p notes) ch cs h = (omega (arith, h.0), kept_before k ch cs h.0 ∙ h.1)

  abbrev pub Costs : ℕ → MatchState → List Choice → ℕ → ℕ → Found' → Type 0
  Costs n x cs b left (Hit e a t) = (j : ℕ) × (j ≤ n) × HitsAt en b left e a t (pattern_steps s main j x)
  Costs n x cs b left (Miss t) = (j : ℕ) × (j ≤ n) × (u : Answers) × Alike xs t u × (pattern_steps s main j x ≡ back cs b left u)
  Costs n x cs b left Stop = (j : ℕ) × (j ≤ n) × (event_of (pattern_steps s main j x) ≡ Failed)
  Costs n x cs b left Deep = Unit {0}
  Costs n x cs b left (Wait v) = (j : ℕ) × (j ≤ n) × (w : Ask ℕ) × AlikeAsk xs v w × (event_of (pattern_steps s main j x) ≡ Asks w)

  within : (n m : ℕ) (x : MatchState) (cs : List Choice) (b left : ℕ) (r : Found') → n ≤ m → Costs n x cs b left r → Costs m x cs b left r
  within n m x cs b left (Hit e a t) le h = (h.0, omega (arith, h.1), h.2)
  within n m x cs b left (Miss t) le h = (h.0, omega (arith, h.1), h.2, h.3, h.4)
  within n m x cs b left Stop le h = (h.0, omega (arith, h.1), h.2)
  within n m x cs b left Deep le h = tt
  within n m x cs b left (Wait v) le h = (h.0, omega (arith, h.1), h.2, h.3, h.4)

  -- one step before
  one_more : (n : ℕ) (x : MatchState) (cs : List Choice) (b left : ℕ) (r : Found') → Costs n (pattern_step s main x) cs b left r → Costs (suc n) x cs b left r
  one_more n x cs b left (Hit e a t) h = (suc h.0, omega (arith, h.1), h.2)
  one_more n x cs b left (Miss t) h = (suc h.0, omega (arith, h.1), h.2, h.3, h.4)
  one_more n x cs b left Stop h = (suc h.0, omega (arith, h.1), h.2)
  one_more n x cs b left Deep h = tt
  one_more n x cs b left (Wait v) h = (suc h.0, omega (arith, h.1), h.2, h.3, h.4)

  along : (i m n : ℕ) (x y : MatchState) (cs : List Choice) (b left : ℕ) (r : Found') → i ≤ m → pattern_steps s main i x ≡ y → Costs n y cs b left r → Costs (m + n) x cs b left r
  along i m n x y cs b left (Hit e a t) le q h = (i + h.0, omega (arith, h.1), subst (HitsAt en b left e a t) (sym (steps_add s xs main i h.0 x ∙ ap (pattern_steps s main h.0) q)) h.2)
  along i m n x y cs b left (Miss t) le q h = (i + h.0, omega (arith, h.1), h.2, h.3, steps_add s xs main i h.0 x ∙ ap (pattern_steps s main h.0) q ∙ h.4)
  along i m n x y cs b left Stop le q h = (i + h.0, omega (arith, h.1), ap event_of (steps_add s xs main i h.0 x ∙ ap (pattern_steps s main h.0) q) ∙ h.2)
  along i m n x y cs b left Deep le q h = tt
  along i m n x y cs b left (Wait v) le q h = (i + h.0, omega (arith, h.1), h.2, h.3, ap event_of (steps_add s xs main i h.0 x ∙ ap (pattern_steps s main h.0) q) ∙ h.4)

  -- what is tried first, with the rest kept as a choice
  on_miss_costs : (n1 : ℕ) (n2 : Script → ℕ) (x : MatchState) (cs ds : List Choice) (b left : ℕ) (r : Found') (k : Script → Found') → Costs n1 x ds b left r → ((t : Script) (u : Answers) → Alike xs t u → Costs (n2 t) (back ds b left u) cs b left (k t)) → Costs (n1 + if_missed r n2) x cs b left (on_miss r k)
  on_miss_costs n1 n2 x cs ds b left (Hit e a t) k h g = (h.0, omega (arith, h.1), h.2)
  on_miss_costs n1 n2 x cs ds b left (Miss t) k h g = along h.0 n1 (n2 t) x (back ds b left h.2) cs b left (k t) h.1 h.4 (g t h.2 h.3)
  on_miss_costs n1 n2 x cs ds b left Stop k h g = (h.0, omega (arith, h.1), h.2)
  on_miss_costs n1 n2 x cs ds b left Deep k h g = tt
  on_miss_costs n1 n2 x cs ds b left (Wait v) k h g = (h.0, omega (arith, h.1), h.2, h.3, h.4)

  no_miss : (n : ℕ) (x : MatchState) (cs : List Choice) (b left : ℕ) (r : Found') → Costs n x cs b left r → Costs n x cs b left (on_miss r (λ u. Miss u))
  no_miss n x cs b left r h = subst (Costs n x cs b left) (sym (on_miss_none r)) h

  abbrev at_instr : Instr → Code → ℕ → List Note → ℕ → Pending → List Choice → ℕ → ℕ → Answers → MatchState
  at_instr i code p notes c a cs b left u = after_act (pattern_act s (Some i) (thread code p notes c a)) cs b left u

  -- at an instruction, one step
  here : (n : ℕ) (i : Instr) (code : Code) (p : ℕ) (notes : List Note) (c : ℕ) (a : Pending) (cs : List Choice) (b left : ℕ) (u : Answers) (r : Found') → slice_get code p ≡ Some i → Costs n (at_instr i code p notes c a cs b left u) cs b left r → Costs (suc n) (go (settled notes code p c a) cs b left u) cs b left r
  here n i code p notes c a cs b left u r e h =
      let t : Thread = thread code p notes c a in
      let q : go (settled notes code p c a) cs b left u ≡ Going t cs b left u =
      ap (λ y. go y cs b left u) (settled_here notes code p c a i e) ∙ ap (λ o. elim o [ None ↦ Over (Won b c a) | Some j ↦ Going t cs b left u ]) e in
      subst (λ y. Costs (suc n) y cs b left r) (sym q)
      (one_more n (Going t cs b left u) cs b left r (subst (λ o. Costs n (after_act (pattern_act s o t) cs b left u) cs b left r) (sym e) h))

  -- ---- from a place where these goals are still to match

  -- the codes that are gone back to are fine, and no JMP that leads on stands where they go on
  abbrev FineNotes : List Note → Type 0
  FineNotes [] = Unit {0}
  FineNotes (Opened b ∷ notes) = FineNotes notes
  FineNotes (Fenced k ∷ notes) = FineNotes notes
  FineNotes (Left code p ∷ notes) = Fine code × NotForward (slice_get code p) × FineNotes notes

  abbrev Forward : ℕ → Type 0
  Forward n = (code : Code) (p : ℕ) (notes : List Note) (rest : List Goal) (c : ℕ) (a : Pending) (t : Script) (u : Answers) (cs : List Choice) (b left : ℕ)
      → Fine code → FineNotes notes → Keeps en cs → RestAt xs en code p notes rest → Alike xs t u
      → Costs (3 * search_count s n rest c a t) (go (settled notes code p c a) cs b left u) cs b left (search s n rest c a t)

  -- a basic pattern with its ends
  abbrev BasicForward : ℕ → Type 0
  BasicForward n = (k : Basic) (code : Code) (p : ℕ) (notes : List Note) (rest : List Goal) (c : ℕ) (a : Pending) (t : Script) (u : Answers) (cs : List Choice) (b left : ℕ)
      → Fine code → FineNotes notes → Keeps en cs → RestAt xs en code (p + 1) notes rest → Alike xs t u
      → Costs (3 * search_count s n (Part (Plain k) ∷ rest) c a t) (after_move (forked (thread code p notes c a) (ends_at s k c)) cs b left u) cs b left (search s n (Part (Plain k) ∷ rest) c a t)

  -- SUCCEED that is done again
  abbrev AgainForward : ℕ → Type 0
  AgainForward n = (code : Code) (p : ℕ) (notes : List Note) (rest : List Goal) (c : ℕ) (a : Pending) (t : Script) (u : Answers) (cs : List Choice) (b left : ℕ)
      → Fine code → FineNotes notes → Keeps en cs → slice_get code p ≡ Some DoSucceed → RestAt xs en code (p + 1) notes rest → Alike xs t u
      → Costs (3 * search_count s n (Part Succeed ∷ rest) c a t) (Returning (Again (thread code p notes c a)) cs b left u) cs b left (search s n (Part Succeed ∷ rest) c a t)

  abbrev found_from : ℕ → List Goal → Pending → ℕ → Script → Found'
  found_from n rest a e u = search s n rest e a u

  abbrev count_from : ℕ → List Goal → Pending → ℕ → Script → ℕ
  count_from n rest a e u = search_count s n rest e a u

  abbrev cost_of : ℕ → List Goal → Pending → List ℕ → Script → ℕ
  cost_of n rest a es t = ends_cost (found_from n rest a) (λ e u. 3 * count_from n rest a e u) es t

  -- going back to a choice of ends is going on from the first of them
  retry_same : (code : Code) (p : ℕ) (notes : List Note) (c : ℕ) (a : Pending) (e : ℕ) (es : List ℕ) (cs : List Choice) (b left : ℕ) (u : Answers)
      → pattern_step s main (Returning (Retry (p + 1) e es (thread code p notes c a)) cs b left u) ≡ after_move (forked (thread code p notes c a) (e ∷ es)) cs b left u
  retry_same code p notes c a e [] cs b left u = refl
  retry_same code p notes c a e (d ∷ es) cs b left u = refl

  ends_forward : (n : ℕ) → Forward n → (code : Code) (p : ℕ) (notes : List Note) (rest : List Goal) (c : ℕ) (a : Pending) (t : Script) (u : Answers) (cs : List Choice) (b left : ℕ)
      → Fine code → FineNotes notes → Keeps en cs → RestAt xs en code (p + 1) notes rest → Alike xs t u → (es : List ℕ)
      → Costs (cost_of n rest a es t) (after_move (forked (thread code p notes c a) es) cs b left u) cs b left (try_each (found_from n rest a) es t)
  ends_forward n f code p notes rest c a t u cs b left fc fn kp r al [] = (0, omega arith, u, al, refl)
  ends_forward n f code p notes rest c a t u cs b left fc fn kp r al (e ∷ []) =
      no_miss (3 * count_from n rest a e t) (go (settled notes code (p + 1) e a) cs b left u) cs b left (search s n rest e a t) (f code (p + 1) notes rest e a t u cs b left fc fn kp r al)
  ends_forward n f code p notes rest c a t u cs b left fc fn kp r al (e ∷ d ∷ es) =
      let kept : Choice = Retry (p + 1) d es (thread code p notes c a) in
      on_miss_costs (3 * count_from n rest a e t) (λ w. suc (cost_of n rest a (d ∷ es) w)) (go (settled notes code (p + 1) e a) (kept ∷ cs) b left u) cs (kept ∷ cs) b left (search s n rest e a t) (λ w. try_each (found_from n rest a) (d ∷ es) w)
      (f code (p + 1) notes rest e a t u (kept ∷ cs) b left fc fn (keeps_more en kept cs kp) r al)
      (λ v w h. one_more (cost_of n rest a (d ∷ es) v) (Returning kept cs b left w) cs b left (try_each (found_from n rest a) (d ∷ es) v)
      (subst (λ y. Costs (cost_of n rest a (d ∷ es) v) y cs b left (try_each (found_from n rest a) (d ∷ es) v)) (sym (retry_same code p notes c a d es cs b left w))
      (ends_forward n f code p notes rest c a v w cs b left fc fn kp r h (d ∷ es))))

  -- the rows that a goal uses after its own
  abbrev rows : ℕ → Goal → List Goal → ℕ → Pending → Script → ℕ
  rows n g rest c a t = rule_count s (search s n) (search_count s n) g rest c a t

  basic_forward : (n : ℕ) → Forward n → BasicForward (suc n)
  basic_forward n f k code p notes rest c a t u cs b left fc fn kp r al =
      let le = basic_cost s k c (found_from n rest a) (count_from n rest a) t in
      within (cost_of n rest a (ends_at s k c) t) (3 * suc (rows n (Part (Plain k)) rest c a t)) (after_move (forked (thread code p notes c a) (ends_at s k c)) cs b left u) cs b left (search s (suc n) (Part (Plain k) ∷ rest) c a t) (omega (arith, le))
      (ends_forward n f code p notes rest c a t u cs b left fc fn kp r al (ends_at s k c))

  -- SUCCEED, from its instruction
  succeed_forward : (n : ℕ) → Forward n → AgainForward n → (code : Code) (p : ℕ) (notes : List Note) (rest : List Goal) (c : ℕ) (a : Pending) (t : Script) (u : Answers) (cs : List Choice) (b left : ℕ)
      → Fine code → FineNotes notes → Keeps en cs → slice_get code p ≡ Some DoSucceed → RestAt xs en code (p + 1) notes rest → Alike xs t u
      → Costs (3 * rows n (Part Succeed) rest c a t) (at_instr DoSucceed code p notes c a cs b left u) cs b left (search s (suc n) (Part Succeed ∷ rest) c a t)
  succeed_forward n f g code p notes rest c a t u cs b left fc fn kp e r al =
      let kept : Choice = Again (thread code p notes c a) in
      let one : ℕ = search_count s n rest c a t in
      let two = λ (w : Script). search_count s n (Part Succeed ∷ rest) c a w in
      let le : if_missed (search s n rest c a t) (λ w. 3 * two w) ≤ 0 + 3 * if_missed (search s n rest c a t) two = missed_le (search s n rest c a t) (λ w. 3 * two w) two 0 (λ w. omega arith) in
      within (3 * one + if_missed (search s n rest c a t) (λ w. 3 * two w)) (3 * (one + if_missed (search s n rest c a t) two)) (go (settled notes code (p + 1) c a) (kept ∷ cs) b left u) cs b left (search s (suc n) (Part Succeed ∷ rest) c a t) (omega (arith, le))
      (on_miss_costs (3 * one) (λ w. 3 * two w) (go (settled notes code (p + 1) c a) (kept ∷ cs) b left u) cs (kept ∷ cs) b left (search s n rest c a t) (λ w. search s n (Part Succeed ∷ rest) c a w)
      (f code (p + 1) notes rest c a t u (kept ∷ cs) b left fc fn (keeps_more en kept cs kp) r al)
      (λ v w h. g code p notes rest c a v w cs b left fc fn kp e r h))

  again_forward : (n : ℕ) → Forward n → AgainForward n → AgainForward (suc n)
  again_forward n f g code p notes rest c a t u cs b left fc fn kp e r al =
      let x : MatchState = Returning (Again (thread code p notes c a)) cs b left u in
      let y : Found' = search s (suc n) (Part Succeed ∷ rest) c a t in
      within (suc (3 * rows n (Part Succeed) rest c a t)) (3 * suc (rows n (Part Succeed) rest c a t)) x cs b left y (omega arith)
      (one_more (3 * rows n (Part Succeed) rest c a t) x cs b left y
      (subst (λ o. Costs (3 * rows n (Part Succeed) rest c a t) (after_act (pattern_act s o (thread code p notes c a)) cs b left u) cs b left y) (sym e)
      (succeed_forward n f g code p notes rest c a t u cs b left fc fn kp e r al)))

  -- a value is assigned
  told_forward : (n : ℕ) → Forward n → (code : Code) (p : ℕ) (notes : List Note) (rest : List Goal) (c : ℕ) (a : Pending) (x : Name) (v : Told) (t : Script) (u : Answers) (cs : List Choice) (b left : ℕ)
      → Fine code → FineNotes notes → Keeps en cs → RestAt xs en code p notes rest → Alike xs t u
      → Costs (suc (3 * told_count (λ w. search_count s n rest c a w) t)) (Waits (ForSaid x v) (settled notes code p c a) cs b left u) cs b left (told_that (SayThat x v) (λ w. search s n rest c a w) t)
  told_forward n f code p notes rest c a x v t u cs b left fc fn kp r none = (0, omega arith, SayThat x v, says, refl)
  told_forward n f code p notes rest c a x v ts us cs b left fc fn kp r (more {u = u} (patterns st) al) = (1, omega arith, u, al, refl)
  told_forward n f code p notes rest c a x v ts us cs b left fc fn kp r (more {u = u} counts al) = (1, omega arith, u, al, refl)
  told_forward n f code p notes rest c a x v ts us cs b left fc fn kp r (more {u = u} bytes al) = (1, omega arith, u, al, refl)
  told_forward n f code p notes rest c a x v ts us cs b left fc fn kp r (more {u = u} failed al) = (1, omega arith, u, al, refl)
  told_forward n f code p notes rest c a x v ts us cs b left fc fn kp r (more {t = t} {u = u} said al) =
      one_more (3 * search_count s n rest c a t) (Waits (ForSaid x v) (settled notes code p c a) cs b left (IsSaid ∷ u)) cs b left (search s n rest c a t) (f code p notes rest c a t u cs b left fc fn kp r al)

  -- an expression gives a pattern
  given_forward : (n : ℕ) → Forward n → (code : Code) (p : ℕ) (notes : List Note) (rest : List Goal) (c : ℕ) (a : Pending) (x : Expr) (k : ℕ) (t : Script) (u : Answers) (cs : List Choice) (b left : ℕ)
      → Fine code → FineNotes notes → Keeps en cs → xs k ≡ Some x → RestAt xs en code (p + 1) notes rest → Alike xs t u
      → Costs (suc (3 * given_count (λ q w. search_count s n (Part q ∷ rest) c a w) t)) (Waits (ForPattern k) (thread code p notes c a) cs b left u) cs b left (given_pattern x (λ q w. search s n (Part q ∷ rest) c a w) t)
  given_forward n f code p notes rest c a x k t u cs b left fc fn kp e r none = (0, omega arith, AskFor k Rattle.model.specs.Pattern.Patterns.WantPattern, asked e, refl)
  given_forward n f code p notes rest c a x k ts us cs b left fc fn kp e r (more {t = t} {u = u} (patterns {p = q} {code = inner} st) al) =
      one_more (3 * search_count s n (Part q ∷ rest) c a t) (Waits (ForPattern k) (thread code p notes c a) cs b left (IsPattern inner ∷ u)) cs b left (search s n (Part q ∷ rest) c a t)
      (f inner 0 (Left code (on_after code (p + 1)) ∷ notes) (Part q ∷ rest) c a t u cs b left (stands_fine xs q inner st) (fc, after_fine code (p + 1) fc, fn) kp
      (part (stands_alone xs inner q st) (entered (past_end inner) (rest_after xs code (p + 1) notes rest r))) al)
  given_forward n f code p notes rest c a x k ts us cs b left fc fn kp e r (more {u = u} counts al) = (1, omega arith, u, al, refl)
  given_forward n f code p notes rest c a x k ts us cs b left fc fn kp e r (more {u = u} bytes al) = (1, omega arith, u, al, refl)
  given_forward n f code p notes rest c a x k ts us cs b left fc fn kp e r (more {u = u} failed al) = (1, omega arith, u, al, refl)
  given_forward n f code p notes rest c a x k ts us cs b left fc fn kp e r (more {u = u} said al) = (1, omega arith, u, al, refl)

  -- and the argument of a kind
  argument_forward : (n : ℕ) → BasicForward n → (code : Code) (p : ℕ) (notes : List Note) (rest : List Goal) (c : ℕ) (a : Pending) (j : Kind) (x : Expr) (k : ℕ) (t : Script) (u : Answers) (cs : List Choice) (b left : ℕ)
      → Fine code → FineNotes notes → Keeps en cs → xs k ≡ Some x → RestAt xs en code (p + 1) notes rest → Alike xs t u
      → Costs (suc (3 * argument_count (λ y w. search_count s n (Part (Plain (with_answer j y)) ∷ rest) c a w) t)) (Waits (ForArgument j k) (thread code p notes c a) cs b left u) cs b left (given_argument j x (λ q w. search s n (Part (Plain q) ∷ rest) c a w) t)
  argument_forward n f code p notes rest c a j x k t u cs b left fc fn kp e r none = (0, omega arith, AskFor k (want_of_kind j), asked e, refl)
  argument_forward n f code p notes rest c a j x k ts us cs b left fc fn kp e r (more {t = t} {u = u} (patterns {p = q} {code = inner} st) al) =
      one_more (3 * search_count s n (Part (Plain Rattle.model.specs.Pattern.Patterns.Fail) ∷ rest) c a t) (Waits (ForArgument j k) (thread code p notes c a) cs b left (IsPattern inner ∷ u)) cs b left (search s n (Part (Plain Rattle.model.specs.Pattern.Patterns.Fail) ∷ rest) c a t)
      (f Rattle.model.specs.Pattern.Patterns.Fail code p notes rest c a t u cs b left fc fn kp r al)
  argument_forward n f code p notes rest c a j x k ts us cs b left fc fn kp e r (more {t = t} {u = u} (counts {n = i}) al) =
      one_more (3 * search_count s n (Part (Plain (with_answer {P = Pat} j (IsCount i))) ∷ rest) c a t) (Waits (ForArgument j k) (thread code p notes c a) cs b left (IsCount i ∷ u)) cs b left (search s n (Part (Plain (with_answer {P = Pat} j (IsCount i))) ∷ rest) c a t)
      (f (with_answer {P = Pat} j (IsCount i)) code p notes rest c a t u cs b left fc fn kp r al)
  argument_forward n f code p notes rest c a j x k ts us cs b left fc fn kp e r (more {t = t} {u = u} (bytes {w = i}) al) =
      one_more (3 * search_count s n (Part (Plain (with_answer {P = Pat} j (IsBytes i))) ∷ rest) c a t) (Waits (ForArgument j k) (thread code p notes c a) cs b left (IsBytes i ∷ u)) cs b left (search s n (Part (Plain (with_answer {P = Pat} j (IsBytes i))) ∷ rest) c a t)
      (f (with_answer {P = Pat} j (IsBytes i)) code p notes rest c a t u cs b left fc fn kp r al)
  argument_forward n f code p notes rest c a j x k ts us cs b left fc fn kp e r (more {t = t} {u = u} failed al) =
      one_more (3 * search_count s n (Part (Plain Rattle.model.specs.Pattern.Patterns.Fail) ∷ rest) c a t) (Waits (ForArgument j k) (thread code p notes c a) cs b left (IsFailed ∷ u)) cs b left (search s n (Part (Plain Rattle.model.specs.Pattern.Patterns.Fail) ∷ rest) c a t)
      (f Rattle.model.specs.Pattern.Patterns.Fail code p notes rest c a t u cs b left fc fn kp r al)
  argument_forward n f code p notes rest c a j x k ts us cs b left fc fn kp e r (more {t = t} {u = u} said al) =
      one_more (3 * search_count s n (Part (Plain Rattle.model.specs.Pattern.Patterns.Fail) ∷ rest) c a t) (Waits (ForArgument j k) (thread code p notes c a) cs b left (IsSaid ∷ u)) cs b left (search s n (Part (Plain Rattle.model.specs.Pattern.Patterns.Fail) ∷ rest) c a t)
      (f Rattle.model.specs.Pattern.Patterns.Fail code p notes rest c a t u cs b left fc fn kp r al)

  -- ---- one kind of pattern each

  abbrev PartForward : ℕ → Pat → Type 0
  PartForward n q = (code : Code) (p x : ℕ) (notes : List Note) (rest : List Goal) (c : ℕ) (a : Pending) (t : Script) (u : Answers) (cs : List Choice) (b left : ℕ)
      → Fine code → FineNotes notes → Keeps en cs → StandsAt xs code q p x → RestAt xs en code x notes rest → Alike xs t u
      → Costs (own q + 3 * rows n (Part q) rest c a t) (go (settled notes code p c a) cs b left u) cs b left (search s (suc n) (Part q ∷ rest) c a t)

  -- an instruction, and at most so many steps after it
  by_instr : (n m : ℕ) (i : Instr) (code : Code) (p : ℕ) (notes : List Note) (c : ℕ) (a : Pending) (cs : List Choice) (b left : ℕ) (u : Answers) (r : Found') → suc n ≤ m → slice_get code p ≡ Some i → Costs n (at_instr i code p notes c a cs b left u) cs b left r → Costs m (go (settled notes code p c a) cs b left u) cs b left r
  by_instr n m i code p notes c a cs b left u r le e h =
      within (suc n) m (go (settled notes code p c a) cs b left u) cs b left r le (here n i code p notes c a cs b left u r e h)

  plain_forward : (n : ℕ) → Forward n → (k : Basic) → PartForward n (Plain k)
  plain_forward n f k code p x notes rest c a t u cs b left fc fn kp (inl (e, l)) r al =
      subst (λ k. Costs (1 + 3 * rows n (Part (Plain k)) rest c a t) (go (settled notes code p c a) cs b left u) cs b left (search s (suc n) (Part (Plain k) ∷ rest) c a t)) (sym e)
      (let z : c + 0 ≡ c = omega arith in
      subst (λ d. Costs (1 + 3 * (0 + search_count s n rest d a t + if_missed (search s n rest d a t) (λ w. 0))) (go (settled notes code p c a) cs b left u) cs b left (on_miss (search s n rest d a t) (λ w. Miss w))) (sym z)
      (no_miss (1 + 3 * (0 + search_count s n rest c a t + if_missed (search s n rest c a t) (λ w. 0))) (go (settled notes code p c a) cs b left u) cs b left (search s n rest c a t)
      (within (3 * search_count s n rest c a t) (1 + 3 * (0 + search_count s n rest c a t + if_missed (search s n rest c a t) (λ w. 0))) (go (settled notes code p c a) cs b left u) cs b left (search s n rest c a t) (omega arith)
      (f code p notes rest c a t u cs b left fc fn kp (jumps_rest xs code notes rest l.0 p x l.1 r) al))))
  plain_forward n f k code p x notes rest c a t u cs b left fc fn kp (inr (e, l)) r al =
      let le = basic_cost s k c (found_from n rest a) (count_from n rest a) t in
      by_instr (cost_of n rest a (ends_at s k c) t) (1 + 3 * rows n (Part (Plain k)) rest c a t) (Do k) code p notes c a cs b left u (search s (suc n) (Part (Plain k) ∷ rest) c a t) (omega (arith, le)) e
      (ends_forward n f code p notes rest c a t u cs b left fc fn kp (jumps_rest xs code notes rest l.0 (p + 1) x l.1 r) al (ends_at s k c))

  fence_forward : (n : ℕ) → Forward n → PartForward n Fence
  fence_forward n f code p x notes rest c a t u cs b left fc fn kp (e, l) r al =
      let one : ℕ = search_count s n rest c a t in
      let le : if_missed (search s n rest c a t) (λ w. 1) ≤ 1 + 3 * if_missed (search s n rest c a t) (λ w. 0) = missed_le (search s n rest c a t) (λ w. 1) (λ w. 0) 1 (λ w. omega arith) in
      let no : if_missed (search s n rest c a t) (λ w. 0) ≡ 0 = missed_none (search s n rest c a t) in
      by_instr (3 * one + if_missed (search s n rest c a t) (λ w. 1)) (2 + 3 * one) DoFence code p notes c a cs b left u (search s (suc n) (Part Fence ∷ rest) c a t) (omega (arith, le, no)) e
      (on_miss_costs (3 * one) (λ w. 1) (go (settled notes code (p + 1) c a) (Quit ∷ cs) b left u) cs (Quit ∷ cs) b left (search s n rest c a t) (λ w. Stop)
      (f code (p + 1) notes rest c a t u (Quit ∷ cs) b left fc fn (keeps_more en Quit cs kp) (jumps_rest xs code notes rest l.0 (p + 1) x l.1 r) al) (λ v w h. (1, omega arith, refl)))

  -- a part that stands here leaves one
  abbrev PartsForward : ℕ → Type 0
  PartsForward n = (q : Pat) (code : Code) (p x : ℕ) (notes : List Note) (rest : List Goal) (c : ℕ) (a : Pending) (t : Script) (u : Answers) (cs : List Choice) (b left : ℕ)
      → Fine code → FineNotes notes → Keeps en cs → StandsAt xs code q p x → RestAt xs en code x notes rest → Alike xs t u
      → Costs (3 * search_count s n (Part q ∷ rest) c a t - 1) (go (settled notes code p c a) cs b left u) cs b left (search s n (Part q ∷ rest) c a t)

  parts_of : (n : ℕ) → ((q : Pat) → PartForward n q) → PartsForward (suc n)
  parts_of n f q code p x notes rest c a t u cs b left fc fn kp st r al =
      let le = own_some q in
      within (own q + 3 * rows n (Part q) rest c a t) (3 * search_count s (suc n) (Part q ∷ rest) c a t - 1) (go (settled notes code p c a) cs b left u) cs b left (search s (suc n) (Part q ∷ rest) c a t) (omega (arith, le))
      (f q code p x notes rest c a t u cs b left fc fn kp st r al)

  alt_forward : (n : ℕ) → PartsForward n → (q o : Pat) → PartForward n (Alt q o)
  alt_forward zero f q o code p x notes rest c a t u cs b left fc fn kp (d, e, h, k) r al = tt
  alt_forward (suc n) f q o code p x notes rest c a t u cs b left fc fn kp (d, e, h, k) r al =
      let kept : Choice = Retry (at_distance code p d) c [] (thread code p notes c a) in
      let one : ℕ = search_count s (suc n) (Part q ∷ rest) c a t in
      let two = λ (w : Script). search_count s (suc n) (Part o ∷ rest) c a w in
      let found : Found' = search s (suc n) (Part q ∷ rest) c a t in
      let again = λ (w : Script). suc (3 * two w - 1) in
      let some : 1 ≤ one = omega arith in
      let le : if_missed found again ≤ 1 + 3 * if_missed found two = missed_le found again two 1 (λ w. omega arith) in
      by_instr (3 * one - 1 + if_missed found again) (1 + 3 * (one + if_missed found two)) (Split d) code p notes c a cs b left u (search s (suc (suc n)) (Part (Alt q o) ∷ rest) c a t) (omega (arith, some, le)) e
      (on_miss_costs (3 * one - 1) again (go (settled notes code (p + 1) c a) (kept ∷ cs) b left u) cs (kept ∷ cs) b left found (λ w. search s (suc n) (Part o ∷ rest) c a w)
      (f q code (p + 1) x notes rest c a t u (kept ∷ cs) b left fc fn (keeps_more en kept cs kp) h r al)
      (λ v w i. one_more (3 * two v - 1) (Returning kept cs b left w) cs b left (search s (suc n) (Part o ∷ rest) c a v) (f o code (at_distance code p d) x notes rest c a v w cs b left fc fn kp k r i)))

  -- on at the same place
  as_forward : (n : ℕ) → Forward n → (code : Code) (p : ℕ) (notes : List Note) (rest : List Goal) (c : ℕ) (a : Pending) (t : Script) (u : Answers) (cs : List Choice) (b left : ℕ)
      → Fine code → FineNotes notes → Keeps en cs → RestAt xs en code p notes rest → Alike xs t u
      → Costs (1 + 3 * search_count s n rest c a t) (go (settled notes code p c a) cs b left u) cs b left (search s n rest c a t)
  as_forward n f code p notes rest c a t u cs b left fc fn kp r al =
      within (3 * search_count s n rest c a t) (1 + 3 * search_count s n rest c a t) (go (settled notes code p c a) cs b left u) cs b left (search s n rest c a t) (omega arith) (f code p notes rest c a t u cs b left fc fn kp r al)

  part_forward : (n : ℕ) → Forward n → PartsForward n → BasicForward n → AgainForward n → ((q : Pat) → PartForward n (FenceOf q)) → (q : Pat) → PartForward n q
  part_forward n f d g h fo (Plain k) = plain_forward n f k
  part_forward n f d g h fo Succeed = λ code p x notes rest c a t u cs b left fc fn kp (e, l) r al.
      by_instr (3 * rows n (Part Succeed) rest c a t) (1 + 3 * rows n (Part Succeed) rest c a t) DoSucceed code p notes c a cs b left u (search s (suc n) (Part Succeed ∷ rest) c a t) (omega arith) e
      (succeed_forward n f h code p notes rest c a t u cs b left fc fn kp e (jumps_rest xs code notes rest l.0 (p + 1) x l.1 r) al)
  part_forward n f d g h fo Abort = λ code p x notes rest c a t u cs b left fc fn kp e r al.
      by_instr 0 1 DoAbort code p notes c a cs b left u Stop (omega arith) e (0, omega arith, refl)
  part_forward n f d g h fo Fence = fence_forward n f
  part_forward n f d g h fo (Cat q o) = λ code p x notes rest c a t u cs b left fc fn kp (y, i, k) r al.
      as_forward n f code p notes (Part q ∷ Part o ∷ rest) c a t u cs b left fc fn kp (part i (part k r)) al
  part_forward n f d g h fo (Alt q o) = alt_forward n d q o
  part_forward n f d g h fo (Arbno q) = λ code p x notes rest c a t u cs b left fc fn kp (d, e, l, i) r al.
      as_forward n f code p notes (Part (Alt (Plain (Lit [])) (Cat q (Arbno q))) ∷ rest) c a t u cs b left fc fn kp (part (d, e, inl (refl, l), (p, i, (d, e, l, i))) r) al
  part_forward n f d g h fo (FenceOf q) = fo q
  part_forward n f d g h fo (Cond q i) = λ code p x notes rest c a t u cs b left fc fn kp (e, y, j, k, l) r al.
      by_instr (3 * search_count s n (Part q ∷ Closing i c ∷ rest) c a t) (1 + 3 * search_count s n (Part q ∷ Closing i c ∷ rest) c a t) Open code p notes c a cs b left u (search s n (Part q ∷ Closing i c ∷ rest) c a t) (omega arith) e
      (f code (p + 1) (Opened c ∷ notes) (Part q ∷ Closing i c ∷ rest) c a t u cs b left fc fn kp (part j (closing k (jumps_rest xs code notes rest l.0 (y + 1) x l.1 r))) al)
  part_forward n f d g h fo (Imm q i) = λ code p x notes rest c a t u cs b left fc fn kp (e, y, j, k, l) r al.
      by_instr (3 * search_count s n (Part q ∷ Saying i c ∷ rest) c a t) (1 + 3 * search_count s n (Part q ∷ Saying i c ∷ rest) c a t) Open code p notes c a cs b left u (search s n (Part q ∷ Saying i c ∷ rest) c a t) (omega arith) e
      (f code (p + 1) (Opened c ∷ notes) (Part q ∷ Saying i c ∷ rest) c a t u cs b left fc fn kp (part j (saying k (jumps_rest xs code notes rest l.0 (y + 1) x l.1 r))) al)
  part_forward n f d g h fo (At i) = λ code p x notes rest c a t u cs b left fc fn kp (e, l) r al.
      by_instr (suc (3 * rows n (Part (At i)) rest c a t)) (2 + 3 * rows n (Part (At i)) rest c a t) (AtCursor i) code p notes c a cs b left u (search s (suc n) (Part (At i) ∷ rest) c a t) (omega arith) e
      (told_forward n f code (p + 1) notes rest c a i (Number c) t u cs b left fc fn kp (jumps_rest xs code notes rest l.0 (p + 1) x l.1 r) al)
  part_forward n f d g h fo (Defer y) = λ code p x notes rest c a t u cs b left fc fn kp (k, ek, e, l) r al.
      by_instr (suc (3 * rows n (Part (Defer y)) rest c a t)) (2 + 3 * rows n (Part (Defer y)) rest c a t) (Eval k) code p notes c a cs b left u (search s (suc n) (Part (Defer y) ∷ rest) c a t) (omega arith) e
      (given_forward n f code p notes rest c a y k t u cs b left fc fn kp ek (jumps_rest xs code notes rest l.0 (p + 1) x l.1 r) al)
  part_forward n f d g h fo (DeferBasic j y) = λ code p x notes rest c a t u cs b left fc fn kp (k, ek, e, l) r al.
      by_instr (suc (3 * rows n (Part (DeferBasic j y)) rest c a t)) (2 + 3 * rows n (Part (DeferBasic j y)) rest c a t) (EvalBasic j k) code p notes c a cs b left u (search s (suc n) (Part (DeferBasic j y) ∷ rest) c a t) (omega arith) e
      (argument_forward n g code p notes rest c a j y k t u cs b left fc fn kp ek (jumps_rest xs code notes rest l.0 (p + 1) x l.1 r) al)

module _ (s : List ℕ) (xs : ℕ → Option Expr) (main : Code) where
  -- ---- a fence

  on_hit_costs : (en : Ending) (base : List Choice) (num : ℕ) (code : Code) (y : ℕ) (notes : List Note) (n1 : ℕ) (n2 : ℕ → Pending → Script → ℕ) (x : MatchState) (cs : List Choice) (b left : ℕ) (r : Found') (k : ℕ → Pending → Script → Found')
      → Costs s xs main (InFence num code y notes) cs n1 x cs b left r
      → ((e : ℕ) (a : Pending) (t : Script) (u : Answers) → Alike xs t u → Costs s xs main en base (n2 e a t) (go (settled notes code (y + 1) e a) cs b left u) cs b left (k e a t))
      → Costs s xs main en base (n1 + if_hit r n2) x cs b left (on_hit r k)
  on_hit_costs en base num code y notes n1 n2 x cs b left (Hit e a t) k (i, le, (u, al, q)) g = along s xs main en base i n1 (n2 e a t) x (go (settled notes code (y + 1) e a) cs b left u) cs b left (k e a t) le q (g e a t u al)
  on_hit_costs en base num code y notes n1 n2 x cs b left (Miss t) k h g = (h.0, omega (arith, h.1), h.2, h.3, h.4)
  on_hit_costs en base num code y notes n1 n2 x cs b left Stop k h g = (h.0, omega (arith, h.1), h.2)
  on_hit_costs en base num code y notes n1 n2 x cs b left Deep k h g = tt
  on_hit_costs en base num code y notes n1 n2 x cs b left (Wait v) k h g = (h.0, omega (arith, h.1), h.2, h.3, h.4)

  fence_of_forward : (n : ℕ) → ((en : Ending) (base : List Choice) → Forward s xs main en base n) → (en : Ending) (base : List Choice) (q : Pat) → PartForward s xs main en base n (FenceOf q)
  fence_of_forward n f en base q code p x notes rest c a t u cs b left fc fn kp (e, y, i, k, l) r al =
      let one : ℕ = search_count s n (Part q ∷ []) c a t in
      let two = λ (e : ℕ) (a : Pending) (w : Script). search_count s n rest e a w in
      let le : if_hit (search s n (Part q ∷ []) c a t) (λ e a w. 3 * two e a w) ≤ 3 * if_hit (search s n (Part q ∷ []) c a t) two = hit_le (search s n (Part q ∷ []) c a t) two in
      by_instr s xs main en base (3 * one + if_hit (search s n (Part q ∷ []) c a t) (λ e a w. 3 * two e a w)) (1 + 3 * (one + if_hit (search s n (Part q ∷ []) c a t) two)) OpenFence code p notes c a cs b left u (search s (suc n) (Part (FenceOf q) ∷ rest) c a t) (omega (arith, le)) e
      (on_hit_costs en base (length cs) code y notes (3 * one) (λ e a w. 3 * two e a w) (go (settled (Fenced (length cs) ∷ notes) code (p + 1) c a) cs b left u) cs b left (search s n (Part q ∷ []) c a t) (λ e a w. search s n rest e a w)
      (f (InFence (length cs) code y notes) cs code (p + 1) (Fenced (length cs) ∷ notes) (Part q ∷ []) c a t u cs b left fc fn (omega arith, kept_all cs) (part i (fence_ended k)) al)
      (λ d z v w h. f en base code (y + 1) notes rest d z v w cs b left fc fn kp (jumps_rest xs code notes rest l.0 (y + 1) x l.1 r) h))

  -- ---- a JMP before it

  -- how many JMPs may stand there one after the other: none at a SPLIT, one where none leads on, else two
  abbrev Level : ℕ → Option Instr → Type 0
  Level zero o = IsSplit o
  Level (suc zero) o = NotForward o
  Level (suc (suc j)) o = Unit {0}

  next_level : (j : ℕ) (code : Code) (p : ℕ) (d : ℤ) → Fine code → slice_get code p ≡ Some (Jmp d) → Level j (slice_get code p) → (i : ℕ) × (suc i ≤ j) × Level i (slice_get code (at_distance code p d))
  next_level zero code p d f e l = absurd (subst IsSplit e l)
  next_level (suc zero) code p (pos d) f e l = absurd (subst NotForward e l)
  next_level (suc zero) code p (negsuc d) f e l = (0, omega arith, f p (negsuc d) e)
  next_level (suc (suc j)) code p (pos d) f e l = (1, omega arith, f p (pos d) e)
  next_level (suc (suc j)) code p (negsuc d) f e l = (0, omega arith, f p (negsuc d) e)

  -- none stands only at a SPLIT
  level_some : (j : ℕ) (code : Code) (p : ℕ) (o : Option Instr) → slice_get code p ≡ o → (IsSplit o → ⊥) → Level j (slice_get code p) → 1 ≤ j
  level_some zero code p o e other l = absurd (other (subst IsSplit e l))
  level_some (suc j) code p o e other l = omega arith

  own_fits : (j : ℕ) (q : Pat) (code : Code) (p x : ℕ) → StandsAt xs code q p x → Level j (slice_get code p) → own q ≤ 1 + j
  own_fits j Fence code p x (e, l) lv = let one = level_some j code p (Some DoFence) e (λ h. h) lv in omega (arith, one)
  own_fits j (At i) code p x (e, l) lv = let one = level_some j code p (Some (AtCursor i)) e (λ h. h) lv in omega (arith, one)
  own_fits j (Defer y) code p x (k, ek, e, l) lv = let one = level_some j code p (Some (Eval k)) e (λ h. h) lv in omega (arith, one)
  own_fits j (DeferBasic d y) code p x (k, ek, e, l) lv = let one = level_some j code p (Some (EvalBasic d k)) e (λ h. h) lv in omega (arith, one)
  own_fits j (Plain k) code p x st lv = omega arith
  own_fits j Succeed code p x st lv = omega arith
  own_fits j Abort code p x st lv = omega arith
  own_fits j (Cat q o) code p x st lv = omega arith
  own_fits j (Alt q o) code p x st lv = omega arith
  own_fits j (Arbno q) code p x st lv = omega arith
  own_fits j (FenceOf q) code p x st lv = omega arith
  own_fits j (Cond q i) code p x st lv = omega arith
  own_fits j (Imm q i) code p x st lv = omega arith

  count_some : (n : ℕ) (rest : List Goal) (c : ℕ) (a : Pending) (t : Script) → 1 ≤ search_count s (suc n) rest c a t
  count_some n [] c a t = omega arith
  count_some n (g ∷ rest) c a t = omega arith

  room : (j m n k : ℕ) → j + 3 * suc m ≤ n + 2 → k ≤ 1 + j → k + 3 * m ≤ n
  room j m n k le h = omega arith

  -- n steps are enough, where j JMPs may stand
  abbrev Located : ℕ → Type 0
  Located m = (en : Ending) (base : List Choice) (code : Code) (p : ℕ) (notes : List Note) (rest : List Goal) (c : ℕ) (a : Pending) (t : Script) (u : Answers) (cs : List Choice) (b left j n : ℕ)
      → Level j (slice_get code p) → j + 3 * search_count s (suc m) rest c a t ≤ n + 2
      → Fine code → FineNotes s xs main en base notes → Keeps s xs main en base en cs → RestAt xs en code p notes rest → Alike xs t u
      → Costs s xs main en base n (go (settled notes code p c a) cs b left u) cs b left (search s (suc m) rest c a t)

  rest_forward : (m : ℕ) → ((en : Ending) (base : List Choice) → Forward s xs main en base m) → ((en : Ending) (base : List Choice) → PartsForward s xs main en base m) → ((en : Ending) (base : List Choice) → BasicForward s xs main en base m) → ((en : Ending) (base : List Choice) → AgainForward s xs main en base m) → Located m
  rest_forward m f ps g h en base code p notes rest c a t u cs b left j n lv le fc fn kp (ended e) al =
      (0, omega arith, subst (λ o. event_of (elim o [ None ↦ Over (Won b c a) | Some i ↦ Going (thread code p [] c a) cs b left u ]) ≡ Matched b c a) (sym e) refl)
  rest_forward m f ps g h en base code p notes rest c a t u cs b left j n lv le fc fn kp (fence_ended {k = k} {notes = inner} e) al =
      let q : go (settled inner code (p + 1) c a) (choices_kept k cs) b left u ≡ go (settled inner code (p + 1) c a) base b left u = ap (λ z. go (settled inner code (p + 1) c a) z b left u) kp.1 in
      let fits : 1 + 3 * 0 ≤ n = room j 0 n 1 le (omega arith) in
      by_instr s xs main (InFence k code p inner) base 0 n CloseFence code p (Fenced k ∷ inner) c a cs b left u (Hit c a t) (omega (arith, fits)) e (0, omega arith, (u, al, q))
  rest_forward m f ps g h en base code p notes rest c a t u cs b left j n lv le fc fn kp (entered {code' = code'} {p' = p'} {notes = inner} e d) al =
      let one = level_some j code p None e (λ h. h) lv in
      subst (λ y. Costs s xs main en base n (go y cs b left u) cs b left (search s (suc m) rest c a t)) (sym (settled_past inner code code' p p' c a e))
      (rest_forward m f ps g h en base code' p' inner rest c a t u cs b left 1 n fn.1 (omega (arith, one, le)) fn.0 fn.2 kp d al)
  rest_forward m f ps g h en base code p notes rest c a t u cs b left j n lv le fc fn kp (jump {d = d} e r) al =
      let i = next_level j code p d fc e lv in
      let one = count_some m rest c a t in
      let x : MatchState = go (settled notes code p c a) cs b left u in
      let y : Found' = search s (suc m) rest c a t in
      by_instr s xs main en base (n - 1) n (Jmp d) code p notes c a cs b left u y (omega (arith, i.1, one, le)) e
      (rest_forward m f ps g h en base code (at_distance code p d) notes rest c a t u cs b left i.0 (n - 1) i.2 (omega (arith, i.1, one, le)) fc fn kp r al)
  rest_forward m f ps g h en base code p notes goals c a t u cs b left j n lv le fc fn kp (part {x = x} {rest = rest} {q = q} st r) al =
      within s xs main en base (own q + 3 * rows s xs main en base m (Part q) rest c a t) n (go (settled notes code p c a) cs b left u) cs b left (search s (suc m) (Part q ∷ rest) c a t) (room j (rows s xs main en base m (Part q) rest c a t) n (own q) le (own_fits j q code p x st lv))
      (part_forward s xs main en base m (f en base) (ps en base) (g en base) (h en base) (fence_of_forward m f en base) q code p x notes rest c a t u cs b left fc fn kp st r al)
  rest_forward m f ps g h en base code p notes goals c a t u cs b left j n lv le fc fn kp (closing {b = o} {notes = inner} {rest = rest} {n = i} e r) al =
      let count : ℕ = search_count s m rest c (a ++ (i, between s o c) ∷ []) t in
      let fits : 1 + 3 * count ≤ n = room j count n 1 le (omega arith) in
      by_instr s xs main en base (3 * count) n (Close i) code p (Opened o ∷ inner) c a cs b left u (search s m rest c (a ++ (i, between s o c) ∷ []) t) (omega (arith, fits)) e
      (f en base code (p + 1) inner rest c (a ++ (i, between s o c) ∷ []) t u cs b left fc fn kp r al)
  rest_forward m f ps g h en base code p notes goals c a t u cs b left j n lv le fc fn kp (saying {b = o} {notes = inner} {rest = rest} {n = i} e r) al =
      let count : ℕ = told_count (λ w. search_count s m rest c a w) t in
      let one = level_some j code p (Some (Say i)) e (λ h. h) lv in
      let fits : 2 + 3 * count ≤ n = room j count n 2 le (omega (arith, one)) in
      by_instr s xs main en base (suc (3 * count)) n (Say i) code p (Opened o ∷ inner) c a cs b left u (told_that (SayThat i (Text (between s o c))) (λ w. search s m rest c a w) t) (omega (arith, fits)) e
      (told_forward s xs main en base m (f en base) code (p + 1) inner rest c a i (Text (between s o c)) t u cs b left fc fn kp r al)

  all_forward : (n : ℕ) (en : Ending) (base : List Choice) → Forward s xs main en base n × PartsForward s xs main en base n × BasicForward s xs main en base n × AgainForward s xs main en base n
  all_forward zero en base = (
    (λ code p notes rest c a t u cs b left fc fn kp r al. tt),
    (λ q code p x notes rest c a t u cs b left fc fn kp st r al. tt),
    (λ k code p notes rest c a t u cs b left fc fn kp r al. tt),
    (λ code p notes rest c a t u cs b left fc fn kp e r al. tt),
  )
  all_forward (suc n) en base =
      let h = λ (o : Ending) (ds : List Choice). all_forward n o ds in
      let f = λ (o : Ending) (ds : List Choice). (h o ds).0 in (
        (λ code p notes rest c a t u cs b left fc fn kp r al. rest_forward n f (λ o ds. (h o ds).1) (λ o ds. (h o ds).2) (λ o ds. (h o ds).3) en base code p notes rest c a t u cs b left 2 (3 * search_count s (suc n) rest c a t) tt (omega arith) fc fn kp r al),
        parts_of s xs main en base n (part_forward s xs main en base n (f en base) (h en base).1 (h en base).2 (h en base).3 (fence_of_forward n f en base)),
        basic_forward s xs main en base n (f en base),
        again_forward s xs main en base n (f en base) (h en base).3,
      )

  -- ---- over the starts

  abbrev Tells : ℕ → MatchState → Event Expr → Type 0
  Tells n x Running = Unit {0}
  Tells n x e = (j : ℕ) × (j ≤ n) × AlikeEvent xs e (event_of (pattern_steps s main j x))

  tells_within : (n m : ℕ) (x : MatchState) (e : Event Expr) → n ≤ m → Tells n x e → Tells m x e
  tells_within n m x Running le h = tt
  tells_within n m x Failed le h = (h.0, omega (arith, h.1), h.2)
  tells_within n m x (Asks v) le h = (h.0, omega (arith, h.1), h.2)
  tells_within n m x (Matched b e a) le h = (h.0, omega (arith, h.1), h.2)

  tells_along : (i m n : ℕ) (x y : MatchState) (e : Event Expr) → i ≤ m → pattern_steps s main i x ≡ y → Tells n y e → Tells (m + n) x e
  tells_along i m n x y Running le q h = tt
  tells_along i m n x y Failed le q h = (i + h.0, omega (arith, h.1), subst (λ z. AlikeEvent xs Failed (event_of z)) (sym (steps_add s xs main i h.0 x ∙ ap (pattern_steps s main h.0) q)) h.2)
  tells_along i m n x y (Asks v) le q h = (i + h.0, omega (arith, h.1), subst (λ z. AlikeEvent xs (Asks v) (event_of z)) (sym (steps_add s xs main i h.0 x ∙ ap (pattern_steps s main h.0) q)) h.2)
  tells_along i m n x y (Matched b e a) le q h = (i + h.0, omega (arith, h.1), subst (λ z. AlikeEvent xs (Matched b e a) (event_of z)) (sym (steps_add s xs main i h.0 x ∙ ap (pattern_steps s main h.0) q)) h.2)

  started_tells : (n1 : ℕ) (n2 : Script → ℕ) (x : MatchState) (b left : ℕ) (r : Found') (k : Script → Event Expr) → Costs s xs main Whole [] n1 x [] b left r → ((t : Script) (u : Answers) → Alike xs t u → Tells (n2 t) (back [] b left u) (k t)) → Tells (n1 + if_missed r n2) x (started b r k)
  started_tells n1 n2 x b left (Hit e a t) k h g = (h.0, omega (arith, h.1), subst (AlikeEvent xs (Matched b e a)) (sym h.2) St.match)
  started_tells n1 n2 x b left (Miss t) k h g = tells_along h.0 n1 (n2 t) x (back [] b left h.2) (k t) h.1 h.4 (g t h.2 h.3)
  started_tells n1 n2 x b left Stop k h g = (h.0, omega (arith, h.1), subst (AlikeEvent xs Failed) (sym h.2) St.fail)
  started_tells n1 n2 x b left Deep k h g = tt
  started_tells n1 n2 x b left (Wait v) k h g = (h.0, omega (arith, h.1), subst (AlikeEvent xs (Asks v)) (sym h.4) (St.ask h.3))

  module _ (p : Pat) (st : Stands xs p main) where
    -- the first attempt of a start
    start_costs : (n b left : ℕ) (t : Script) (u : Answers) → Alike xs t u → Costs s xs main Whole [] (suc (3 * search_count s n (Part p ∷ []) b [] t)) (Starting b left u) [] b left (search s n (Part p ∷ []) b [] t)
    start_costs n b left t u al =
        one_more s xs main Whole [] (3 * search_count s n (Part p ∷ []) b [] t) (Starting b left u) [] b left (search s n (Part p ∷ []) b [] t)
        ((all_forward n Whole []).0 main 0 [] (Part p ∷ []) b [] t u [] b left (stands_fine xs p main st) tt tt (part (stands_alone xs main p st) (ended (past_end main))) al)

    scan_costs : (n left b : ℕ) (t : Script) (u : Answers) → Alike xs t u → Tells (3 * scan_count s n p left b t) (Starting b left u) (scan s n p left b t)
    scan_costs n zero b t u al =
        let one : ℕ = search_count s n (Part p ∷ []) b [] t in
        let no : if_missed (search s n (Part p ∷ []) b [] t) (λ w. 0) ≡ 0 = missed_none (search s n (Part p ∷ []) b [] t) in
        tells_within (suc (3 * one) + if_missed (search s n (Part p ∷ []) b [] t) (λ w. 0)) (3 * suc one) (Starting b zero u) (scan s n p zero b t) (omega (arith, no))
        (started_tells (suc (3 * one)) (λ w. 0) (Starting b zero u) b zero (search s n (Part p ∷ []) b [] t) (λ w. Failed) (start_costs n b zero t u al) (λ v w h. (0, omega arith, St.fail)))
    scan_costs n (suc left) b t u al =
        let one : ℕ = search_count s n (Part p ∷ []) b [] t in
        let two = λ (w : Script). scan_count s n p left (b + 1) w in
        let le : if_missed (search s n (Part p ∷ []) b [] t) (λ w. 3 * two w) ≤ 0 + 3 * if_missed (search s n (Part p ∷ []) b [] t) two = missed_le (search s n (Part p ∷ []) b [] t) (λ w. 3 * two w) two 0 (λ w. omega arith) in
        tells_within (suc (3 * one) + if_missed (search s n (Part p ∷ []) b [] t) (λ w. 3 * two w)) (3 * (suc one + if_missed (search s n (Part p ∷ []) b [] t) two)) (Starting b (suc left) u) (scan s n p (suc left) b t) (omega (arith, le))
        (started_tells (suc (3 * one)) (λ w. 3 * two w) (Starting b (suc left) u) b (suc left) (search s n (Part p ∷ []) b [] t) (λ w. scan s n p left (b + 1) w) (start_costs n b (suc left) t u al)
        (λ v w h. scan_costs n left (b + 1) v w h))

    as_told : (n : ℕ) (x : MatchState) (e : Event Expr) → (e ≡ Running → ⊥) → Tells n x e → (j : ℕ) × (j ≤ n) × AlikeEvent xs e (event_of (pattern_steps s main j x))
    as_told n x Running o h = absurd (o refl)
    as_told n x Failed o h = h
    as_told n x (Asks v) o h = h
    as_told n x (Matched b e a) o h = h

pub pattern_steps_law : PatternStepsBounded
pattern_steps_law s xs p code st n left b t u al o =
    as_told s xs code p st (3 * scan_count s n p left b t) (Starting b left u) (scan s n p left b t) o (scan_costs s xs code p st n left b t u al)

pub pattern_steps_on_law : PatternStepsOnBounded
pattern_steps_on_law s xs p code st n left b t u al o i runs =
    go (pattern_steps_law s xs p code st n left b t u al o)
  where
    X : ℕ → MatchState
    X k = match_steps s code left b u k

    like_over : (x : Event Expr) (y : Event ℕ) → AlikeEvent xs x y → IsOver s code y
    like_over x y St.fail = tt
    like_over x y St.match = tt
    like_over x y (St.ask h) = tt

    go : (m : ℕ) × (m ≤ 3 * scan_count s n p left b t) × AlikeEvent xs (scan s n p left b t) (event_of (X m)) → (l : ℕ) × (i + l ≤ 3 * scan_count s n p left b t) × AlikeEvent xs (scan s n p left b t) (event_of (pattern_steps s code l (X i)))
    go (m, le, h) = on (below_or i m)
      where
        over : IsOver s code (event_of (X m))
        over = like_over (scan s n p left b t) (event_of (X m)) h

        on : (i < m) ⊎ (m ≤ i) → (l : ℕ) × (i + l ≤ 3 * scan_count s n p left b t) × AlikeEvent xs (scan s n p left b t) (event_of (pattern_steps s code l (X i)))
        on (inl lt) =
            let e : m ≡ i + (m - i) = omega arith in
            (m - i, omega (arith, le), subst (λ z. AlikeEvent xs (scan s n p left b t) (event_of z)) (ap X e ∙ steps_add s xs code i (m - i) (Starting b left u)) h)
        on (inr ge) =
            let e : i ≡ m + (i - m) = omega arith in
            let q : X i ≡ X m = ap X e ∙ steps_add s xs code m (i - m) (Starting b left u) ∙ all_stays s code (i - m) (X m) over in
            absurd (subst (IsOver s code) (ap event_of (sym q) ∙ runs) over)
