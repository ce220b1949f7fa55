-- The search of code finds what the search of its pattern finds.
use Rattle.std.proofs.Common.{◌≡◌, ℕ, ℤ, zero, suc, ◌+◌, List, [], ◌∷◌, ◌++◌, refl, sym, ◌∙◌, ap, subst, arith, ◌≤◌, inl, inr, Option, Some, None}
use Rattle.std.specs.Prelude.{slice_get}
use Rattle.model.specs.Pattern.Patterns.{Basic, Lit, Pat, Plain, Succeed, Abort, Fence, Cat, Alt, Arbno, FenceOf, Cond, Imm, At, Defer, DeferBasic, Kind, Instr, Do, Split, Jmp, DoSucceed, DoAbort, DoFence, Open, OpenFence, CloseFence, Close, Say, AtCursor, Eval, EvalBasic, Pending, Answer, IsPattern, IsCount, IsBytes, IsFailed, IsSaid, Ask, AskFor, SayThat, Told, Text, Number, Event, Running, Failed, Asks, Matched, with_answer}
use Rattle.model.specs.Pattern.BasicEnds.{ends_at}
use Rattle.model.specs.Pattern.Ends.{between}
use Rattle.model.specs.Pattern.Search.{Found, Hit, Miss, Stop, Wait, on_miss, on_hit, try_each, Goal, Part, Closing, Saying, Script, search, told_that, given_pattern, given_argument}
use Rattle.model.specs.Pattern.Steps.{Code, Answers, Thread, Note, Opened, Fenced, Left, settled, at_place, onward, Retry, Again, Quit, Goes, Forks, Fails, ForSaid, ForPattern, ForArgument, pattern_act, answered, forked, at_distance, on_after}
use Rattle.model.specs.Pattern.Stands.{Alike, none, more, patterns, counts, bytes, failed, said, AlikeAsk, asked, says}
use Rattle.model.specs.Deck.Target.{Name}
use Rattle.model.specs.Deck.Trees.{Expr}
use Rattle.model.proofs.Pattern.SearchGrows.{Grows, grows_refl, search_more, try_each_grows, on_hit_grows}
use Rattle.model.proofs.Pattern.CodeSearch.{Handed, Question, Closed, each, each_grows, on_closed, on_closed_grows, moving, doing, run, run_more}
use Rattle.model.proofs.Pattern.Followed.{Followed, AlikeFound, misses, finals, IsFinal, Rises, at_more, by_equal, then_followed, on_miss_followed, on_miss_none}
use Rattle.model.proofs.Pattern.StandsAt.{Jumps, StandsAt, Ending, Whole, InFence, RestAt, ended, fence_ended, left, jump, part, closing, saying, jumps_rest, stands_alone, past_end, rest_after}

abbrev pub thread : Code → ℕ → List Note → ℕ → Pending → Thread
thread code p notes c a = record { code = code; place = p; cursor = c; notes = notes; pending = a }

-- at an instruction nothing is settled
pub settled_here : (notes : List Note) (code : Code) (p c : ℕ) (a : Pending) (i : Instr) → slice_get code p ≡ Some i → settled notes code p c a ≡ thread code p notes c a
settled_here [] code p c a i e = refl
settled_here (Opened b ∷ notes) code p c a i e = refl
settled_here (Fenced k ∷ notes) code p c a i e = refl
settled_here (Left code' p' ∷ notes) code p c a i e =
    ap (λ o. elim o [ None ↦ settled notes code' p' c a | Some j ↦ thread code p (Left code' p' ∷ notes) c a ]) e

pub settled_past : (notes : List Note) (code code' : Code) (p p' c : ℕ) (a : Pending) → slice_get code p ≡ None → settled (Left code' p' ∷ notes) code p c a ≡ settled notes code' p' c a
settled_past notes code code' p p' c a e =
    ap (λ o. elim o [ None ↦ settled notes code' p' c a | Some j ↦ thread code p (Left code' p' ∷ notes) c a ]) e

module _ (s : List ℕ) where
  run_here : (m num : ℕ) (notes : List Note) (code : Code) (p c : ℕ) (a : Pending) (i : Instr) (u : Answers) → slice_get code p ≡ Some i → run s (suc m) num (settled notes code p c a) u ≡ doing s (run s m) num (pattern_act s (Some i) (thread code p notes c a)) u
  run_here m num notes code p c a i u e =
      ap (λ t. run s (suc m) num t u) (settled_here notes code p c a i e)
      ∙ ap (λ o. doing s (run s m) num (pattern_act s o (thread code p notes c a)) u) e

  pub run_rises : (num : ℕ) (t : Thread) (u : Answers) (n m : ℕ) → n ≤ m → Grows (run s n num t u) (run s m num t u)
  run_rises num t u n m le = run_more s n m le num t u

  pub search_rises : (rest : List Goal) (c : ℕ) (a : Pending) (t : Script) (n m : ℕ) → n ≤ m → Grows (search s n rest c a t) (search s m rest c a t)
  search_rises rest c a t n m le = search_more s n m le rest c a t

-- What is found at an end: of the whole code, or where a fence is closed.
abbrev pub ended_at : Ending → ℕ → Pending → Answers → Found Handed Code
ended_at Whole c a u = Hit c a u
ended_at (InFence num code p notes) c a u = Wait (Closed num (settled notes code (p + 1) c a) u)

ended_final : (en : Ending) (c : ℕ) (a : Pending) (u : Answers) → IsFinal (ended_at en c a u)
ended_final Whole c a u = tt
ended_final (InFence num code p notes) c a u = tt

-- what the search of a pattern and that of its code find is alike
pub data Ends (xs : ℕ → Option Expr) (en : Ending) : Found (Ask Expr) Pat → Found Handed Code → Type 0 where
  hit : {e : ℕ} {a : Pending} {t : Script} {u : Answers} {y : Found Handed Code} → y ≡ ended_at en e a u → Alike xs t u → Ends xs en (Hit e a t) y
  stop : Ends xs en Stop Stop
  wait : {v : Ask Expr} {w : Ask ℕ} → AlikeAsk xs v w → Ends xs en (Wait v) (Wait (Question w))

-- From the pattern to its code.
module _ (s : List ℕ) (xs : ℕ → Option Expr) where
  abbrev pub After : Ending → Found (Ask Expr) Pat → (ℕ → Found Handed Code) → Type 0
  After en x f = Followed (Ask Expr) Pat Handed Code (Ends xs en) (Alike xs) x f

  abbrev pub Forward : ℕ → Type 0
  Forward n = (en : Ending) (num : ℕ) (code : Code) (p : ℕ) (notes : List Note) (rest : List Goal) (c : ℕ) (a : Pending) (t : Script) (u : Answers) → RestAt xs en code p notes rest → Alike xs t u → After en (search s n rest c a t) (λ m. run s m num (settled notes code p c a) u)

  -- a basic pattern with its ends
  abbrev BasicForward : ℕ → Type 0
  BasicForward n = (b : Basic) (en : Ending) (num : ℕ) (code : Code) (p : ℕ) (notes : List Note) (rest : List Goal) (c : ℕ) (a : Pending) (t : Script) (u : Answers) → RestAt xs en code (p + 1) notes rest → Alike xs t u → After en (search s n (Part (Plain b) ∷ rest) c a t) (λ m. moving (run s m) num (forked (thread code p notes c a) (ends_at s b c)) u)

  f_on_miss : (en : Ending) (x : Found (Ask Expr) Pat) (k : Script → Found (Ask Expr) Pat) (f : ℕ → Found Handed Code) (l : ℕ → Answers → Found Handed Code) → Rises Handed Code f → ((u : Answers) → Rises Handed Code (λ m. l m u)) → After en x f → ((t : Script) (u : Answers) → Alike xs t u → After en (k t) (λ m. l m u)) → After en (on_miss x k) (λ m. on_miss (f m) (l m))
  f_on_miss en = on_miss_followed (Ask Expr) Pat Handed Code (Ends xs en) (Alike xs)

  f_here : (x : Found (Ask Expr) Pat) (notes : List Note) (en : Ending) (num : ℕ) (code : Code) (p c : ℕ) (a : Pending) (i : Instr) (u : Answers) → slice_get code p ≡ Some i → After en x (λ m. doing s (run s m) num (pattern_act s (Some i) (thread code p notes c a)) u) → After en x (λ m. run s m num (settled notes code p c a) u)
  f_here x notes en num code p c a i u e h =
      at_more (Ask Expr) Pat Handed Code (Ends xs en) (Alike xs) x (λ m. run s m num (settled notes code p c a) u)
      (by_equal (Ask Expr) Pat Handed Code (Ends xs en) (Alike xs) x (λ m. run s (suc m) num (settled notes code p c a) u) (λ m. doing s (run s m) num (pattern_act s (Some i) (thread code p notes c a)) u) (λ m. run_here s m num notes code p c a i u e) h)

  -- the one end needs no choice
  f_last : (en : Ending) (x : Found (Ask Expr) Pat) (f : ℕ → Found Handed Code) → After en x f → After en (on_miss x (λ u. Miss u)) f
  f_last en x f h = subst (λ y. After en y f) (sym (on_miss_none x)) h

  each_forward : (n : ℕ) → Forward n → (en : Ending) (num : ℕ) (code : Code) (p : ℕ) (notes : List Note) (rest : List Goal) (c : ℕ) (a : Pending) (t : Script) (u : Answers) → RestAt xs en code (p + 1) notes rest → Alike xs t u → (es : List ℕ) → After en (try_each (λ e v. search s n rest e a v) es t) (λ m. each (run s m) num (p + 1) (thread code p notes c a) es u)
  each_forward n f en num code p notes rest c a t u r al [] = inr (0, misses al)
  each_forward n f en num code p notes rest c a t u r al (e ∷ []) =
      f_last en (search s n rest e a t) (λ m. run s m num (settled notes code (p + 1) e a) u) (f en num code (p + 1) notes rest e a t u r al)
  each_forward n f en num code p notes rest c a t u r al (e ∷ d ∷ es) =
      f_on_miss en (search s n rest e a t) (λ w. try_each (λ e v. search s n rest e a v) (d ∷ es) w) (λ m. run s m (suc num) (settled notes code (p + 1) e a) u)
      (λ m w. each (run s m) num (p + 1) (thread code p notes c a) (d ∷ es) w)
      (run_rises s (suc num) (settled notes code (p + 1) e a) u)
      (λ w i j le. each_grows (run s i) (run s j) (run_more s i j le) num (p + 1) (thread code p notes c a) (d ∷ es) w)
      (f en (suc num) code (p + 1) notes rest e a t u r al)
      (λ v w g. each_forward n f en num code p notes rest c a v w r g (d ∷ es))

  ends_forward : (n : ℕ) → Forward n → (en : Ending) (num : ℕ) (code : Code) (p : ℕ) (notes : List Note) (rest : List Goal) (c : ℕ) (a : Pending) (t : Script) (u : Answers) → RestAt xs en code (p + 1) notes rest → Alike xs t u → (es : List ℕ) → After en (try_each (λ e v. search s n rest e a v) es t) (λ m. moving (run s m) num (forked (thread code p notes c a) es) u)
  ends_forward n f en num code p notes rest c a t u r al [] = each_forward n f en num code p notes rest c a t u r al []
  ends_forward n f en num code p notes rest c a t u r al (e ∷ []) = each_forward n f en num code p notes rest c a t u r al (e ∷ [])
  ends_forward n f en num code p notes rest c a t u r al (e ∷ d ∷ es) = each_forward n f en num code p notes rest c a t u r al (e ∷ d ∷ es)

  -- the search inside a search: what it closes goes on with the others
  closed_forward : (n : ℕ) → Forward n → (en : Ending) (num : ℕ) (code : Code) (y : ℕ) (notes : List Note) (rest : List Goal) → RestAt xs en code (y + 1) notes rest → (x : Found (Ask Expr) Pat) (z : Found Handed Code) → AlikeFound (Ask Expr) Pat Handed Code (Ends xs (InFence num code y notes)) (Alike xs) x z → After en (on_hit x (λ e b w. search s n rest e b w)) (λ m. on_closed z (λ d w. run s m num d w))
  closed_forward n f en num code y notes rest r x z (misses al) = inr (0, misses al)
  closed_forward n f en num code y notes rest r x z (finals fx fz (hit {e = e} {a = b} {t = t} {u = u} q al)) =
      subst (λ i. After en (search s n rest e b t) (λ m. on_closed i (λ d w. run s m num d w))) (sym q) (f en num code (y + 1) notes rest e b t u r al)
  closed_forward n f en num code y notes rest r x z (finals fx fz stop) = inr (0, finals tt tt stop)
  closed_forward n f en num code y notes rest r x z (finals fx fz (wait v)) = inr (0, finals tt tt (wait v))

  told_forward : (n : ℕ) → Forward n → (en : Ending) (num : ℕ) (code : Code) (p : ℕ) (notes : List Note) (rest : List Goal) (c : ℕ) (a : Pending) (x : Name) (v : Told) (t : Script) (u : Answers) → RestAt xs en code p notes rest → Alike xs t u → After en (told_that (SayThat x v) (λ w. search s n rest c a w) t) (λ m. doing s (run s m) num (Rattle.model.specs.Pattern.Steps.Asking (ForSaid x v) (settled notes code p c a)) u)
  told_forward n f en num code p notes rest c a x v t u r none = inr (0, finals tt tt (wait says))
  told_forward n f en num code p notes rest c a x v ts us r (more (patterns st) al) = inr (0, misses al)
  told_forward n f en num code p notes rest c a x v ts us r (more counts al) = inr (0, misses al)
  told_forward n f en num code p notes rest c a x v ts us r (more bytes al) = inr (0, misses al)
  told_forward n f en num code p notes rest c a x v ts us r (more failed al) = inr (0, misses al)
  told_forward n f en num code p notes rest c a x v ts us r (more {t = t} {u = u} said al) = f en num code p notes rest c a t u r al

  given_forward : (n : ℕ) → Forward n → (en : Ending) (num : ℕ) (code : Code) (p : ℕ) (notes : List Note) (rest : List Goal) (c : ℕ) (a : Pending) (x : Expr) (k : ℕ) (t : Script) (u : Answers) → xs k ≡ Some x → RestAt xs en code (p + 1) notes rest → Alike xs t u → After en (given_pattern x (λ q w. search s n (Part q ∷ rest) c a w) t) (λ m. doing s (run s m) num (pattern_act s (Some (Eval k)) (thread code p notes c a)) u)
  given_forward n f en num code p notes rest c a x k t u e r none = inr (0, finals tt tt (wait (asked e)))
  given_forward n f en num code p notes rest c a x k ts us e r (more {t = t} {u = u} (patterns {p = q} {code = inner} st) al) =
      f en num inner 0 (Left code (on_after code (p + 1)) ∷ notes) (Part q ∷ rest) c a t u (part (stands_alone xs inner q st) (left (past_end inner) (rest_after xs code (p + 1) notes rest r))) al
  given_forward n f en num code p notes rest c a x k ts us e r (more counts al) = inr (0, misses al)
  given_forward n f en num code p notes rest c a x k ts us e r (more bytes al) = inr (0, misses al)
  given_forward n f en num code p notes rest c a x k ts us e r (more failed al) = inr (0, misses al)
  given_forward n f en num code p notes rest c a x k ts us e r (more said al) = inr (0, misses al)

  argument_forward : (n : ℕ) → BasicForward n → (en : Ending) (num : ℕ) (code : Code) (p : ℕ) (notes : List Note) (rest : List Goal) (c : ℕ) (a : Pending) (j : Kind) (x : Expr) (k : ℕ) (t : Script) (u : Answers) → xs k ≡ Some x → RestAt xs en code (p + 1) notes rest → Alike xs t u → After en (given_argument j x (λ b w. search s n (Part (Plain b) ∷ rest) c a w) t) (λ m. doing s (run s m) num (pattern_act s (Some (EvalBasic j k)) (thread code p notes c a)) u)
  argument_forward n f en num code p notes rest c a j x k t u e r none = inr (0, finals tt tt (wait (asked e)))
  argument_forward n f en num code p notes rest c a j x k ts us e r (more {t = t} {u = u} (patterns st) al) = f Rattle.model.specs.Pattern.Patterns.Fail en num code p notes rest c a t u r al
  argument_forward n f en num code p notes rest c a j x k ts us e r (more {t = t} {u = u} (counts {n = i}) al) = f (with_answer {P = Pat} j (IsCount i)) en num code p notes rest c a t u r al
  argument_forward n f en num code p notes rest c a j x k ts us e r (more {t = t} {u = u} (bytes {w = i}) al) = f (with_answer {P = Pat} j (IsBytes i)) en num code p notes rest c a t u r al
  argument_forward n f en num code p notes rest c a j x k ts us e r (more {t = t} {u = u} failed al) = f Rattle.model.specs.Pattern.Patterns.Fail en num code p notes rest c a t u r al
  argument_forward n f en num code p notes rest c a j x k ts us e r (more {t = t} {u = u} said al) = f Rattle.model.specs.Pattern.Patterns.Fail en num code p notes rest c a t u r al

  abbrev PartForward : ℕ → Pat → Type 0
  PartForward n q = (en : Ending) (num : ℕ) (code : Code) (p x : ℕ) (notes : List Note) (rest : List Goal) (c : ℕ) (a : Pending) (t : Script) (u : Answers) → StandsAt xs code q p x → RestAt xs en code x notes rest → Alike xs t u → After en (search s (suc n) (Part q ∷ rest) c a t) (λ m. run s m num (settled notes code p c a) u)

  part_forward : (n : ℕ) → Forward n → BasicForward n → (q : Pat) → PartForward n q
  part_forward n f g (Plain k) en num code p x notes rest c a t u (inl (e, l)) r al =
      subst (λ b. After en (search s (suc n) (Part (Plain b) ∷ rest) c a t) (λ m. run s m num (settled notes code p c a) u)) (sym e)
      (let z : c + 0 ≡ c = omega arith in
      subst (λ d. After en (on_miss (search s n rest d a t) (λ w. Miss w)) (λ m. run s m num (settled notes code p c a) u)) (sym z)
      (f_last en (search s n rest c a t) (λ m. run s m num (settled notes code p c a) u) (f en num code p notes rest c a t u (jumps_rest xs code notes rest l.0 p x l.1 r) al)))
  part_forward n f g (Plain k) en num code p x notes rest c a t u (inr (e, l)) r al =
      f_here (search s (suc n) (Part (Plain k) ∷ rest) c a t) notes en num code p c a (Do k) u e
      (ends_forward n f en num code p notes rest c a t u (jumps_rest xs code notes rest l.0 (p + 1) x l.1 r) al (ends_at s k c))
  part_forward n f g Succeed en num code p x notes rest c a t u (e, l) r al =
      f_here (search s (suc n) (Part Succeed ∷ rest) c a t) notes en num code p c a DoSucceed u e
      (f_on_miss en (search s n rest c a t) (λ w. search s n (Part Succeed ∷ rest) c a w) (λ m. run s m (suc num) (settled notes code (p + 1) c a) u) (λ m w. run s m num (thread code p notes c a) w)
      (run_rises s (suc num) (settled notes code (p + 1) c a) u) (λ w. run_rises s num (thread code p notes c a) w)
      (f en (suc num) code (p + 1) notes rest c a t u (jumps_rest xs code notes rest l.0 (p + 1) x l.1 r) al)
      (λ v w h. subst (λ y. After en (search s n (Part Succeed ∷ rest) c a v) (λ m. run s m num y w)) (settled_here notes code p c a DoSucceed e) (f en num code p notes (Part Succeed ∷ rest) c a v w (part (e, l) r) h)))
  part_forward n f g Abort en num code p x notes rest c a t u e r al =
      f_here (search s (suc n) (Part Abort ∷ rest) c a t) notes en num code p c a DoAbort u e (inr (0, finals tt tt stop))
  part_forward n f g Fence en num code p x notes rest c a t u (e, l) r al =
      f_here (search s (suc n) (Part Fence ∷ rest) c a t) notes en num code p c a DoFence u e
      (f_on_miss en (search s n rest c a t) (λ w. Stop) (λ m. run s m (suc num) (settled notes code (p + 1) c a) u) (λ m w. Stop)
      (run_rises s (suc num) (settled notes code (p + 1) c a) u) (λ w i j le. refl)
      (f en (suc num) code (p + 1) notes rest c a t u (jumps_rest xs code notes rest l.0 (p + 1) x l.1 r) al) (λ v w h. inr (0, finals tt tt stop)))
  part_forward n f g (Cat q o) en num code p x notes rest c a t u (y, h, k) r al =
      f en num code p notes (Part q ∷ Part o ∷ rest) c a t u (part h (part k r)) al
  part_forward n f g (Alt q o) en num code p x notes rest c a t u (d, e, h, k) r al =
      f_here (search s (suc n) (Part (Alt q o) ∷ rest) c a t) notes en num code p c a (Split d) u e
      (f_on_miss en (search s n (Part q ∷ rest) c a t) (λ w. search s n (Part o ∷ rest) c a w) (λ m. run s m (suc num) (settled notes code (p + 1) c a) u)
      (λ m w. run s m num (settled notes code (at_distance code p d) c a) w)
      (run_rises s (suc num) (settled notes code (p + 1) c a) u)
      (λ w. run_rises s num (settled notes code (at_distance code p d) c a) w)
      (f en (suc num) code (p + 1) notes (Part q ∷ rest) c a t u (part h r) al)
      (λ v w i. f en num code (at_distance code p d) notes (Part o ∷ rest) c a v w (part k r) i))
  part_forward n f g (Arbno q) en num code p x notes rest c a t u (d, e, l, h) r al =
      f en num code p notes (Part (Alt (Plain (Lit [])) (Cat q (Arbno q))) ∷ rest) c a t u
      (part (d, e, inl (refl, l), (p, h, (d, e, l, h))) r) al
  part_forward n f g (FenceOf q) en num code p x notes rest c a t u (e, y, h, k, l) r al =
      f_here (search s (suc n) (Part (FenceOf q) ∷ rest) c a t) notes en num code p c a OpenFence u e
      (then_followed (Ask Expr) Pat Handed Code (Ends xs (InFence num code y notes)) (Ends xs en) (Alike xs) (search s n (Part q ∷ []) c a t) (λ z. on_hit z (λ e b w. search s n rest e b w))
      (λ m. run s m num (settled (Fenced num ∷ notes) code (p + 1) c a) u) (λ m z. on_closed z (λ d w. run s m num d w)) refl
      (run_rises s num (settled (Fenced num ∷ notes) code (p + 1) c a) u)
      (λ z i j le. on_closed_grows z z (λ d w. run s i num d w) (λ d w. run s j num d w) (grows_refl z) (λ d w. run_more s i j le num d w))
      (f (InFence num code y notes) num code (p + 1) (Fenced num ∷ notes) (Part q ∷ []) c a t u (part h (fence_ended k)) al)
      (closed_forward n f en num code y notes rest (jumps_rest xs code notes rest l.0 (y + 1) x l.1 r) (search s n (Part q ∷ []) c a t)))
  part_forward n f g (Cond q i) en num code p x notes rest c a t u (e, y, h, k, l) r al =
      f_here (search s (suc n) (Part (Cond q i) ∷ rest) c a t) notes en num code p c a Open u e
      (f en num code (p + 1) (Opened c ∷ notes) (Part q ∷ Closing i c ∷ rest) c a t u (part h (closing k (jumps_rest xs code notes rest l.0 (y + 1) x l.1 r))) al)
  part_forward n f g (Imm q i) en num code p x notes rest c a t u (e, y, h, k, l) r al =
      f_here (search s (suc n) (Part (Imm q i) ∷ rest) c a t) notes en num code p c a Open u e
      (f en num code (p + 1) (Opened c ∷ notes) (Part q ∷ Saying i c ∷ rest) c a t u (part h (saying k (jumps_rest xs code notes rest l.0 (y + 1) x l.1 r))) al)
  part_forward n f g (At i) en num code p x notes rest c a t u (e, l) r al =
      f_here (search s (suc n) (Part (At i) ∷ rest) c a t) notes en num code p c a (AtCursor i) u e
      (told_forward n f en num code (p + 1) notes rest c a i (Number c) t u (jumps_rest xs code notes rest l.0 (p + 1) x l.1 r) al)
  part_forward n f g (Defer y) en num code p x notes rest c a t u (k, ek, e, l) r al =
      f_here (search s (suc n) (Part (Defer y) ∷ rest) c a t) notes en num code p c a (Eval k) u e
      (given_forward n f en num code p notes rest c a y k t u ek (jumps_rest xs code notes rest l.0 (p + 1) x l.1 r) al)
  part_forward n f g (DeferBasic j y) en num code p x notes rest c a t u (k, ek, e, l) r al =
      f_here (search s (suc n) (Part (DeferBasic j y) ∷ rest) c a t) notes en num code p c a (EvalBasic j k) u e
      (argument_forward n g en num code p notes rest c a j y k t u ek (jumps_rest xs code notes rest l.0 (p + 1) x l.1 r) al)

  rest_forward : (n : ℕ) → Forward n → BasicForward n → Forward (suc n)
  rest_forward n f g en num code p notes rest c a t u (ended e) al =
      inr (1, subst (λ o. AlikeFound (Ask Expr) Pat Handed Code (Ends xs Whole) (Alike xs) (Hit c a t) (doing s (run s 0) num (pattern_act s o (thread code p [] c a)) u)) (sym e) (finals tt tt (hit refl al)))
  rest_forward n f g en num code p notes rest c a t u (fence_ended {k = k} {notes = inner} e) al =
      f_here (search s (suc n) [] c a t) (Fenced k ∷ inner) (InFence k code p inner) num code p c a CloseFence u e
      (inr (0, finals tt tt (hit refl al)))
  rest_forward n f g en num code p notes rest c a t u (left {code' = code'} {p' = p'} {notes = inner} e d) al =
      subst (λ y. After en (search s (suc n) rest c a t) (λ m. run s m num y u)) (sym (settled_past inner code code' p p' c a e))
      (rest_forward n f g en num code' p' inner rest c a t u d al)
  rest_forward n f g en num code p notes rest c a t u (jump {d = d} e r) al =
      f_here (search s (suc n) rest c a t) notes en num code p c a (Jmp d) u e (rest_forward n f g en num code (at_distance code p d) notes rest c a t u r al)
  rest_forward n f g en num code p notes goals c a t u (part {x = x} {rest = rest} {q = q} st r) al =
      part_forward n f g q en num code p x notes rest c a t u st r al
  rest_forward n f g en num code p notes goals c a t u (closing {b = b} {notes = inner} {rest = rest} {n = i} e r) al =
      f_here (search s (suc n) (Closing i b ∷ rest) c a t) (Opened b ∷ inner) en num code p c a (Close i) u e
      (f en num code (p + 1) inner rest c (a ++ (i, between s b c) ∷ []) t u r al)
  rest_forward n f g en num code p notes goals c a t u (saying {b = b} {notes = inner} {rest = rest} {n = i} e r) al =
      f_here (search s (suc n) (Saying i b ∷ rest) c a t) (Opened b ∷ inner) en num code p c a (Say i) u e
      (told_forward n f en num code (p + 1) inner rest c a i (Text (between s b c)) t u r al)

  both_forward : (n : ℕ) → Forward n × BasicForward n
  both_forward zero = ((λ en num code p notes rest c a t u r al. inl refl), (λ b en num code p notes rest c a t u r al. inl refl))
  both_forward (suc n) =
      let h = both_forward n in
      (rest_forward n h.0 h.1, (λ b en num code p notes rest c a t u r al. ends_forward n h.0 en num code p notes rest c a t u r al (ends_at s b c)))

  pub forward : (n : ℕ) → Forward n
  forward n = (both_forward n).0

-- From the code to its pattern.
module _ (s : List ℕ) (xs : ℕ → Option Expr) where
  abbrev pub Before : Ending → Found Handed Code → (ℕ → Found (Ask Expr) Pat) → Type 0
  Before en y f = Followed Handed Code (Ask Expr) Pat (λ y x. Ends xs en x y) (λ u t. Alike xs t u) y f

  abbrev pub Backward : ℕ → Type 0
  Backward m = (en : Ending) (num : ℕ) (code : Code) (p : ℕ) (notes : List Note) (rest : List Goal) (c : ℕ) (a : Pending) (t : Script) (u : Answers) → RestAt xs en code p notes rest → Alike xs t u → Before en (run s m num (settled notes code p c a) u) (λ n. search s n rest c a t)

  -- the same at one place, where more is done
  abbrev Cont : ℕ → Ending → ℕ → Code → ℕ → List Note → List Goal → Type 0
  Cont m en num code p notes rest = (c : ℕ) (a : Pending) (t : Script) (u : Answers) → Alike xs t u → Before en (run s (suc m) num (settled notes code p c a) u) (λ n. search s n rest c a t)

  b_on_miss : (en : Ending) (x : Found Handed Code) (k : Answers → Found Handed Code) (f : ℕ → Found (Ask Expr) Pat) (l : ℕ → Script → Found (Ask Expr) Pat) → Rises (Ask Expr) Pat f → ((t : Script) → Rises (Ask Expr) Pat (λ m. l m t)) → Before en x f → ((u : Answers) (t : Script) → Alike xs t u → Before en (k u) (λ m. l m t)) → Before en (on_miss x k) (λ m. on_miss (f m) (l m))
  b_on_miss en = on_miss_followed Handed Code (Ask Expr) Pat (λ y x. Ends xs en x y) (λ u t. Alike xs t u)

  b_more : (en : Ending) (y : Found Handed Code) (f : ℕ → Found (Ask Expr) Pat) → Before en y (λ n. f (suc n)) → Before en y f
  b_more en = at_more Handed Code (Ask Expr) Pat (λ y x. Ends xs en x y) (λ u t. Alike xs t u)

  b_equal : (en : Ending) (y : Found Handed Code) (f g : ℕ → Found (Ask Expr) Pat) → ((m : ℕ) → f m ≡ g m) → Before en y g → Before en y f
  b_equal en = by_equal Handed Code (Ask Expr) Pat (λ y x. Ends xs en x y) (λ u t. Alike xs t u)

  b_here : (m : ℕ) (f : ℕ → Found (Ask Expr) Pat) (notes : List Note) (en : Ending) (num : ℕ) (code : Code) (p c : ℕ) (a : Pending) (i : Instr) (u : Answers) → slice_get code p ≡ Some i → Before en (doing s (run s m) num (pattern_act s (Some i) (thread code p notes c a)) u) f → Before en (run s (suc m) num (settled notes code p c a) u) f
  b_here m f notes en num code p c a i u e h = subst (λ y. Before en y f) (sym (run_here s m num notes code p c a i u e)) h

  jumps_cont : (m : ℕ) → Backward m → (en : Ending) (num : ℕ) (code : Code) (notes : List Note) (rest : List Goal) (k p x : ℕ) → Jumps code k p x → RestAt xs en code x notes rest → Cont m en num code x notes rest → Cont m en num code p notes rest
  jumps_cont m f en num code notes rest zero p x h r g c a t u al =
      subst (λ y. Cont m en num code y notes rest) (sym h) g c a t u al
  jumps_cont m f en num code notes rest (suc k) p x h r g c a t u al =
      b_here m (λ n. search s n rest c a t) notes en num code p c a (Jmp h.0) u h.1
      (f en num code (at_distance code p h.0) notes rest c a t u (jumps_rest xs code notes rest k (at_distance code p h.0) x h.2 r) al)

  each_backward : (m : ℕ) → Backward m → (en : Ending) (num : ℕ) (code : Code) (p : ℕ) (notes : List Note) (rest : List Goal) (c : ℕ) (a : Pending) (t : Script) (u : Answers) → RestAt xs en code (p + 1) notes rest → Alike xs t u → (es : List ℕ) → Before en (each (run s m) num (p + 1) (thread code p notes c a) es u) (λ n. try_each (λ e v. search s n rest e a v) es t)
  each_backward m f en num code p notes rest c a t u r al [] = inr (0, misses al)
  each_backward m f en num code p notes rest c a t u r al (e ∷ []) =
      b_equal en (run s m num (settled notes code (p + 1) e a) u) (λ n. on_miss (search s n rest e a t) (λ w. Miss w)) (λ n. search s n rest e a t) (λ n. on_miss_none (search s n rest e a t)) (f en num code (p + 1) notes rest e a t u r al)
  each_backward m f en num code p notes rest c a t u r al (e ∷ d ∷ es) =
      b_on_miss en (run s m (suc num) (settled notes code (p + 1) e a) u) (λ w. each (run s m) num (p + 1) (thread code p notes c a) (d ∷ es) w) (λ n. search s n rest e a t)
      (λ n w. try_each (λ q v. search s n rest q a v) (d ∷ es) w)
      (search_rises s rest e a t)
      (λ w i j le. try_each_grows (λ q v. search s i rest q a v) (λ q v. search s j rest q a v) (λ q v. search_more s i j le rest q a v) (d ∷ es) w)
      (f en (suc num) code (p + 1) notes rest e a t u r al)
      (λ w v g. each_backward m f en num code p notes rest c a v w r g (d ∷ es))

  ends_backward : (m : ℕ) → Backward m → (en : Ending) (num : ℕ) (code : Code) (p : ℕ) (notes : List Note) (rest : List Goal) (c : ℕ) (a : Pending) (t : Script) (u : Answers) → RestAt xs en code (p + 1) notes rest → Alike xs t u → (es : List ℕ) → Before en (moving (run s m) num (forked (thread code p notes c a) es) u) (λ n. try_each (λ e v. search s n rest e a v) es t)
  ends_backward m f en num code p notes rest c a t u r al [] = each_backward m f en num code p notes rest c a t u r al []
  ends_backward m f en num code p notes rest c a t u r al (e ∷ []) = each_backward m f en num code p notes rest c a t u r al (e ∷ [])
  ends_backward m f en num code p notes rest c a t u r al (e ∷ d ∷ es) = each_backward m f en num code p notes rest c a t u r al (e ∷ d ∷ es)

  -- the search inside a search: what it closes goes on with the others
  closed_backward : (m : ℕ) → Backward m → (en : Ending) (num : ℕ) (code : Code) (y : ℕ) (notes : List Note) (rest : List Goal) → RestAt xs en code (y + 1) notes rest → (z : Found Handed Code) (x : Found (Ask Expr) Pat) → AlikeFound Handed Code (Ask Expr) Pat (λ y' x. Ends xs (InFence num code y notes) x y') (λ u t. Alike xs t u) z x → Before en (on_closed z (λ d w. run s m num d w)) (λ n. on_hit x (λ e b w. search s n rest e b w))
  closed_backward m f en num code y notes rest r z x (misses al) = inr (0, misses al)
  closed_backward m f en num code y notes rest r z x (finals fz fx (hit {e = e} {a = b} {t = t} {u = u} q al)) =
      subst (λ i. Before en (on_closed i (λ d w. run s m num d w)) (λ n. search s n rest e b t)) (sym q) (f en num code (y + 1) notes rest e b t u r al)
  closed_backward m f en num code y notes rest r z x (finals fz fx stop) = inr (0, finals tt tt stop)
  closed_backward m f en num code y notes rest r z x (finals fz fx (wait v)) = inr (0, finals tt tt (wait v))

  told_backward : (m : ℕ) → Backward m → (en : Ending) (num : ℕ) (code : Code) (p : ℕ) (notes : List Note) (rest : List Goal) (c : ℕ) (a : Pending) (x : Name) (v : Told) (t : Script) (u : Answers) → RestAt xs en code p notes rest → Alike xs t u → Before en (doing s (run s m) num (Rattle.model.specs.Pattern.Steps.Asking (ForSaid x v) (settled notes code p c a)) u) (λ n. told_that (SayThat x v) (λ w. search s n rest c a w) t)
  told_backward m f en num code p notes rest c a x v t u r none = inr (0, finals tt tt (wait says))
  told_backward m f en num code p notes rest c a x v ts us r (more (patterns st) al) = inr (0, misses al)
  told_backward m f en num code p notes rest c a x v ts us r (more counts al) = inr (0, misses al)
  told_backward m f en num code p notes rest c a x v ts us r (more bytes al) = inr (0, misses al)
  told_backward m f en num code p notes rest c a x v ts us r (more failed al) = inr (0, misses al)
  told_backward m f en num code p notes rest c a x v ts us r (more {t = t} {u = u} said al) = f en num code p notes rest c a t u r al

  given_backward : (m : ℕ) → Backward m → (en : Ending) (num : ℕ) (code : Code) (p : ℕ) (notes : List Note) (rest : List Goal) (c : ℕ) (a : Pending) (x : Expr) (k : ℕ) (t : Script) (u : Answers) → xs k ≡ Some x → RestAt xs en code (p + 1) notes rest → Alike xs t u → Before en (doing s (run s m) num (pattern_act s (Some (Eval k)) (thread code p notes c a)) u) (λ n. given_pattern x (λ q w. search s n (Part q ∷ rest) c a w) t)
  given_backward m f en num code p notes rest c a x k t u e r none = inr (0, finals tt tt (wait (asked e)))
  given_backward m f en num code p notes rest c a x k ts us e r (more {t = t} {u = u} (patterns {p = q} {code = inner} st) al) =
      f en num inner 0 (Left code (on_after code (p + 1)) ∷ notes) (Part q ∷ rest) c a t u (part (stands_alone xs inner q st) (left (past_end inner) (rest_after xs code (p + 1) notes rest r))) al
  given_backward m f en num code p notes rest c a x k ts us e r (more counts al) = inr (0, misses al)
  given_backward m f en num code p notes rest c a x k ts us e r (more bytes al) = inr (0, misses al)
  given_backward m f en num code p notes rest c a x k ts us e r (more failed al) = inr (0, misses al)
  given_backward m f en num code p notes rest c a x k ts us e r (more said al) = inr (0, misses al)

  -- a basic pattern, searched for one level deeper
  basic_backward : (m : ℕ) → Backward m → (b : Basic) (en : Ending) (num : ℕ) (code : Code) (p : ℕ) (notes : List Note) (rest : List Goal) (c : ℕ) (a : Pending) (t : Script) (u : Answers) → RestAt xs en code (p + 1) notes rest → Alike xs t u → Before en (moving (run s m) num (forked (thread code p notes c a) (ends_at s b c)) u) (λ n. search s n (Part (Plain b) ∷ rest) c a t)
  basic_backward m f b en num code p notes rest c a t u r al =
      b_more en (moving (run s m) num (forked (thread code p notes c a) (ends_at s b c)) u) (λ n. search s n (Part (Plain b) ∷ rest) c a t)
      (ends_backward m f en num code p notes rest c a t u r al (ends_at s b c))

  argument_backward : (m : ℕ) → Backward m → (en : Ending) (num : ℕ) (code : Code) (p : ℕ) (notes : List Note) (rest : List Goal) (c : ℕ) (a : Pending) (j : Kind) (x : Expr) (k : ℕ) (t : Script) (u : Answers) → xs k ≡ Some x → RestAt xs en code (p + 1) notes rest → Alike xs t u → Before en (doing s (run s m) num (pattern_act s (Some (EvalBasic j k)) (thread code p notes c a)) u) (λ n. given_argument j x (λ b w. search s n (Part (Plain b) ∷ rest) c a w) t)
  argument_backward m f en num code p notes rest c a j x k t u e r none = inr (0, finals tt tt (wait (asked e)))
  argument_backward m f en num code p notes rest c a j x k ts us e r (more {t = t} {u = u} (patterns st) al) = basic_backward m f Rattle.model.specs.Pattern.Patterns.Fail en num code p notes rest c a t u r al
  argument_backward m f en num code p notes rest c a j x k ts us e r (more {t = t} {u = u} (counts {n = i}) al) = basic_backward m f (with_answer {P = Pat} j (IsCount i)) en num code p notes rest c a t u r al
  argument_backward m f en num code p notes rest c a j x k ts us e r (more {t = t} {u = u} (bytes {w = i}) al) = basic_backward m f (with_answer {P = Pat} j (IsBytes i)) en num code p notes rest c a t u r al
  argument_backward m f en num code p notes rest c a j x k ts us e r (more {t = t} {u = u} failed al) = basic_backward m f Rattle.model.specs.Pattern.Patterns.Fail en num code p notes rest c a t u r al
  argument_backward m f en num code p notes rest c a j x k ts us e r (more {t = t} {u = u} said al) = basic_backward m f Rattle.model.specs.Pattern.Patterns.Fail en num code p notes rest c a t u r al

  alt_backward : (m : ℕ) → Backward m → (q o : Pat) (en : Ending) (num : ℕ) (code : Code) (p : ℕ) (d : ℤ) (notes : List Note) (rest : List Goal) (c : ℕ) (a : Pending) (t : Script) (u : Answers) → slice_get code p ≡ Some (Split d) → RestAt xs en code (p + 1) notes (Part q ∷ rest) → RestAt xs en code (at_distance code p d) notes (Part o ∷ rest) → Alike xs t u → Before en (run s (suc m) num (settled notes code p c a) u) (λ n. on_miss (search s n (Part q ∷ rest) c a t) (λ w. search s n (Part o ∷ rest) c a w))
  alt_backward m f q o en num code p d notes rest c a t u e h k al =
      b_here m (λ n. on_miss (search s n (Part q ∷ rest) c a t) (λ w. search s n (Part o ∷ rest) c a w)) notes en num code p c a (Split d) u e
      (b_on_miss en (run s m (suc num) (settled notes code (p + 1) c a) u) (λ w. run s m num (settled notes code (at_distance code p d) c a) w) (λ n. search s n (Part q ∷ rest) c a t) (λ n w. search s n (Part o ∷ rest) c a w)
      (search_rises s (Part q ∷ rest) c a t) (λ w. search_rises s (Part o ∷ rest) c a w)
      (f en (suc num) code (p + 1) notes (Part q ∷ rest) c a t u h al)
      (λ w v i. f en num code (at_distance code p d) notes (Part o ∷ rest) c a v w k i))

  part_backward : (m : ℕ) → Backward m → (q : Pat) (en : Ending) (num : ℕ) (code : Code) (p x : ℕ) (notes : List Note) (rest : List Goal) → StandsAt xs code q p x → RestAt xs en code x notes rest → Cont m en num code x notes rest → Cont m en num code p notes (Part q ∷ rest)
  part_backward m f (Plain k) en num code p x notes rest (inl (e, l)) r g c a t u al =
      subst (λ b. Before en (run s (suc m) num (settled notes code p c a) u) (λ n. search s n (Part (Plain b) ∷ rest) c a t)) (sym e)
      (b_more en (run s (suc m) num (settled notes code p c a) u) (λ n. search s n (Part (Plain (Lit [])) ∷ rest) c a t)
      (b_equal en (run s (suc m) num (settled notes code p c a) u) (λ n. on_miss (search s n rest (c + 0) a t) (λ w. Miss w)) (λ n. search s n rest c a t)
      (λ n. on_miss_none (search s n rest (c + 0) a t) ∙ ap (λ d. search s n rest d a t) (omega arith))
      (jumps_cont m f en num code notes rest l.0 p x l.1 r g c a t u al)))
  part_backward m f (Plain k) en num code p x notes rest (inr (e, l)) r g c a t u al =
      b_here m (λ n. search s n (Part (Plain k) ∷ rest) c a t) notes en num code p c a (Do k) u e
      (basic_backward m f k en num code p notes rest c a t u (jumps_rest xs code notes rest l.0 (p + 1) x l.1 r) al)
  part_backward m f Succeed en num code p x notes rest (e, l) r g c a t u al =
      b_here m (λ n. search s n (Part Succeed ∷ rest) c a t) notes en num code p c a DoSucceed u e
      (b_more en (doing s (run s m) num (pattern_act s (Some DoSucceed) (thread code p notes c a)) u) (λ n. search s n (Part Succeed ∷ rest) c a t)
      (b_on_miss en (run s m (suc num) (settled notes code (p + 1) c a) u) (λ w. run s m num (thread code p notes c a) w) (λ n. search s n rest c a t) (λ n w. search s n (Part Succeed ∷ rest) c a w)
      (search_rises s rest c a t) (λ w. search_rises s (Part Succeed ∷ rest) c a w)
      (f en (suc num) code (p + 1) notes rest c a t u (jumps_rest xs code notes rest l.0 (p + 1) x l.1 r) al)
      (λ w v h. subst (λ y. Before en (run s m num y w) (λ n. search s n (Part Succeed ∷ rest) c a v)) (settled_here notes code p c a DoSucceed e) (f en num code p notes (Part Succeed ∷ rest) c a v w (part (e, l) r) h))))
  part_backward m f Abort en num code p x notes rest e r g c a t u al =
      b_here m (λ n. search s n (Part Abort ∷ rest) c a t) notes en num code p c a DoAbort u e (inr (1, finals tt tt stop))
  part_backward m f Fence en num code p x notes rest (e, l) r g c a t u al =
      b_here m (λ n. search s n (Part Fence ∷ rest) c a t) notes en num code p c a DoFence u e
      (b_more en (doing s (run s m) num (pattern_act s (Some DoFence) (thread code p notes c a)) u) (λ n. search s n (Part Fence ∷ rest) c a t)
      (b_on_miss en (run s m (suc num) (settled notes code (p + 1) c a) u) (λ w. Stop) (λ n. search s n rest c a t) (λ n w. Stop)
      (search_rises s rest c a t) (λ w i j le. refl)
      (f en (suc num) code (p + 1) notes rest c a t u (jumps_rest xs code notes rest l.0 (p + 1) x l.1 r) al) (λ w v h. inr (0, finals tt tt stop))))
  part_backward m f (Cat q o) en num code p x notes rest (y, h, k) r g c a t u al =
      b_more en (run s (suc m) num (settled notes code p c a) u) (λ n. search s n (Part (Cat q o) ∷ rest) c a t)
      (part_backward m f q en num code p y notes (Part o ∷ rest) h (part k r) (part_backward m f o en num code y x notes rest k r g) c a t u al)
  part_backward m f (Alt q o) en num code p x notes rest (d, e, h, k) r g c a t u al =
      b_more en (run s (suc m) num (settled notes code p c a) u) (λ n. search s n (Part (Alt q o) ∷ rest) c a t)
      (alt_backward m f q o en num code p d notes rest c a t u e (part h r) (part k r) al)
  part_backward m f (Arbno q) en num code p x notes rest (d, e, l, h) r g c a t u al =
      b_more en (run s (suc m) num (settled notes code p c a) u) (λ n. search s n (Part (Arbno q) ∷ rest) c a t)
      (b_more en (run s (suc m) num (settled notes code p c a) u) (λ n. search s n (Part (Alt (Plain (Lit [])) (Cat q (Arbno q))) ∷ rest) c a t)
      (alt_backward m f (Plain (Lit [])) (Cat q (Arbno q)) en num code p d notes rest c a t u e (part (inl (refl, l)) r) (part (p, h, (d, e, l, h)) r) al))
  part_backward m f (FenceOf q) en num code p x notes rest (e, y, h, k, l) r g c a t u al =
      b_here m (λ n. search s n (Part (FenceOf q) ∷ rest) c a t) notes en num code p c a OpenFence u e
      (b_more en (doing s (run s m) num (pattern_act s (Some OpenFence) (thread code p notes c a)) u) (λ n. search s n (Part (FenceOf q) ∷ rest) c a t)
      (then_followed Handed Code (Ask Expr) Pat (λ y' x'. Ends xs (InFence num code y notes) x' y') (λ y' x'. Ends xs en x' y') (λ u' t'. Alike xs t' u') (run s m num (settled (Fenced num ∷ notes) code (p + 1) c a) u) (λ z. on_closed z (λ d w. run s m num d w))
      (λ n. search s n (Part q ∷ []) c a t) (λ n z. on_hit z (λ e' b w. search s n rest e' b w)) refl
      (search_rises s (Part q ∷ []) c a t)
      (λ z i j le. on_hit_grows z z (λ e' b w. search s i rest e' b w) (λ e' b w. search s j rest e' b w) (grows_refl z) (λ e' b w. search_more s i j le rest e' b w))
      (f (InFence num code y notes) num code (p + 1) (Fenced num ∷ notes) (Part q ∷ []) c a t u (part h (fence_ended k)) al)
      (closed_backward m f en num code y notes rest (jumps_rest xs code notes rest l.0 (y + 1) x l.1 r) (run s m num (settled (Fenced num ∷ notes) code (p + 1) c a) u))))
  part_backward m f (Cond q i) en num code p x notes rest (e, y, h, k, l) r g c a t u al =
      b_here m (λ n. search s n (Part (Cond q i) ∷ rest) c a t) notes en num code p c a Open u e
      (b_more en (run s m num (settled (Opened c ∷ notes) code (p + 1) c a) u) (λ n. search s n (Part (Cond q i) ∷ rest) c a t)
      (f en num code (p + 1) (Opened c ∷ notes) (Part q ∷ Closing i c ∷ rest) c a t u (part h (closing k (jumps_rest xs code notes rest l.0 (y + 1) x l.1 r))) al))
  part_backward m f (Imm q i) en num code p x notes rest (e, y, h, k, l) r g c a t u al =
      b_here m (λ n. search s n (Part (Imm q i) ∷ rest) c a t) notes en num code p c a Open u e
      (b_more en (run s m num (settled (Opened c ∷ notes) code (p + 1) c a) u) (λ n. search s n (Part (Imm q i) ∷ rest) c a t)
      (f en num code (p + 1) (Opened c ∷ notes) (Part q ∷ Saying i c ∷ rest) c a t u (part h (saying k (jumps_rest xs code notes rest l.0 (y + 1) x l.1 r))) al))
  part_backward m f (At i) en num code p x notes rest (e, l) r g c a t u al =
      b_here m (λ n. search s n (Part (At i) ∷ rest) c a t) notes en num code p c a (AtCursor i) u e
      (b_more en (doing s (run s m) num (pattern_act s (Some (AtCursor i)) (thread code p notes c a)) u) (λ n. search s n (Part (At i) ∷ rest) c a t)
      (told_backward m f en num code (p + 1) notes rest c a i (Number c) t u (jumps_rest xs code notes rest l.0 (p + 1) x l.1 r) al))
  part_backward m f (Defer y) en num code p x notes rest (k, ek, e, l) r g c a t u al =
      b_here m (λ n. search s n (Part (Defer y) ∷ rest) c a t) notes en num code p c a (Eval k) u e
      (b_more en (doing s (run s m) num (pattern_act s (Some (Eval k)) (thread code p notes c a)) u) (λ n. search s n (Part (Defer y) ∷ rest) c a t)
      (given_backward m f en num code p notes rest c a y k t u ek (jumps_rest xs code notes rest l.0 (p + 1) x l.1 r) al))
  part_backward m f (DeferBasic j y) en num code p x notes rest (k, ek, e, l) r g c a t u al =
      b_here m (λ n. search s n (Part (DeferBasic j y) ∷ rest) c a t) notes en num code p c a (EvalBasic j k) u e
      (b_more en (doing s (run s m) num (pattern_act s (Some (EvalBasic j k)) (thread code p notes c a)) u) (λ n. search s n (Part (DeferBasic j y) ∷ rest) c a t)
      (argument_backward m f en num code p notes rest c a j y k t u ek (jumps_rest xs code notes rest l.0 (p + 1) x l.1 r) al))

  rest_backward : (m : ℕ) → Backward m → (en : Ending) (num : ℕ) (code : Code) (p : ℕ) (notes : List Note) (rest : List Goal) → RestAt xs en code p notes rest → Cont m en num code p notes rest
  rest_backward m f en num code p notes rest (ended e) c a t u al =
      subst (λ o. Before Whole (doing s (run s m) num (pattern_act s o (thread code p [] c a)) u) (λ n. search s n [] c a t)) (sym e) (inr (1, finals tt tt (hit refl al)))
  rest_backward m f en num code p notes rest (fence_ended {k = k} {notes = inner} e) c a t u al =
      b_here m (λ n. search s n [] c a t) (Fenced k ∷ inner) (InFence k code p inner) num code p c a CloseFence u e (inr (1, finals tt tt (hit refl al)))
  rest_backward m f en num code p notes rest (left {code' = code'} {p' = p'} {notes = inner} e d) c a t u al =
      subst (λ y. Before en (run s (suc m) num y u) (λ n. search s n rest c a t)) (sym (settled_past inner code code' p p' c a e))
      (rest_backward m f en num code' p' inner rest d c a t u al)
  rest_backward m f en num code p notes rest (jump {d = d} e r) c a t u al =
      b_here m (λ n. search s n rest c a t) notes en num code p c a (Jmp d) u e (f en num code (at_distance code p d) notes rest c a t u r al)
  rest_backward m f en num code p notes goals (part {x = x} {rest = rest} {q = q} st r) c a t u al =
      part_backward m f q en num code p x notes rest st r (rest_backward m f en num code x notes rest r) c a t u al
  rest_backward m f en num code p notes goals (closing {b = b} {notes = inner} {rest = rest} {n = i} e r) c a t u al =
      b_here m (λ n. search s n (Closing i b ∷ rest) c a t) (Opened b ∷ inner) en num code p c a (Close i) u e
      (b_more en (run s m num (settled inner code (p + 1) c (a ++ (i, between s b c) ∷ [])) u) (λ n. search s n (Closing i b ∷ rest) c a t)
      (f en num code (p + 1) inner rest c (a ++ (i, between s b c) ∷ []) t u r al))
  rest_backward m f en num code p notes goals (saying {b = b} {notes = inner} {rest = rest} {n = i} e r) c a t u al =
      b_here m (λ n. search s n (Saying i b ∷ rest) c a t) (Opened b ∷ inner) en num code p c a (Say i) u e
      (b_more en (doing s (run s m) num (pattern_act s (Some (Say i)) (thread code p (Opened b ∷ inner) c a)) u) (λ n. search s n (Saying i b ∷ rest) c a t)
      (told_backward m f en num code (p + 1) inner rest c a i (Text (between s b c)) t u r al))

  pub backward : (m : ℕ) → Backward m
  backward zero en num code p notes rest c a t u r al = inl refl
  backward (suc m) en num code p notes rest c a t u r al = rest_backward m (backward m) en num code p notes rest r c a t u al
