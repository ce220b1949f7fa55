-- Attempts that fail immediately, whatever is gone back to.
use Rattle.std.proofs.Common.{◌≡◌, ℕ, ℤ, ◌+◌, ◌<◌, ◌≤◌, List, [], ◌∷◌, length, refl, sym, ◌∙◌, ap, subst, arith}
use Rattle.std.specs.Prelude.{Option, Some, slice_get}
use Rattle.model.specs.Pattern.Patterns.{Basic, Do, Instr, Jmp, Open, Pending, Split}
use Rattle.model.specs.Pattern.BasicEnds.{ends_at}
use Rattle.model.specs.Pattern.Steps.{Code, Choice, Going, Left, MatchState, Note, Opened, Retry, Returning, Thread, after_act, after_move, at_distance, back, forked, go, pattern_act, settled}
use Rattle.prefilter.specs.Looks.{FailsAt}
use Rattle.prefilter.proofs.Going.{settled_left, settled_within, go_within, within, Came, then_comes, step_on}

-- ---- an attempt on at a place and a cursor
abbrev pub attempt : Code → List Note → (q c : ℕ) → Pending → Thread
attempt code ns q c ps = record { code = code; place = q; cursor = c; notes = ns; pending = ps }

abbrev pub gone_on : Code → List Note → (q c : ℕ) → Pending → List Choice → (b left : ℕ) → MatchState
gone_on code ns q c ps cs b left = go (settled ns code q c ps) cs b left []

-- the instruction that stands there is a step
pub acts_at : (u : List ℕ) (code code' : Code) (ns : List Note) (q c : ℕ) (ps : Pending) (cs : List Choice) (b left : ℕ) (i : Instr) → slice_get code q ≡ Some i → Came u code' 1 (gone_on code ns q c ps cs b left) (after_act (pattern_act u (Some i) (attempt code ns q c ps)) cs b left [])
acts_at u code code' ns q c ps cs b left i here =
    let inside : q < length code = within code q i here in
    step_on u code' (gone_on code ns q c ps cs b left) (Going (attempt code ns q c ps) cs b left []) (after_act (pattern_act u (Some i) (attempt code ns q c ps)) cs b left [])
    (ap (λ t. go t cs b left []) (settled_within ns code q c ps inside) ∙ go_within (attempt code ns q c ps) cs b left inside) refl
    (ap (λ (o : Option Instr). after_act (pattern_act u o (attempt code ns q c ps)) cs b left []) here)

pub fails_part : (u : List ℕ) (code : Code) (ns : List Note) (q c : ℕ) (i : Basic) → slice_get code q ≡ Some (Do i) → ends_at u i c ≡ [] → FailsAt u code ns q c 1
fails_part u code ns q c i here none = λ code' ps cs b left.
    subst (λ st. Came u code' 1 (gone_on code ns q c ps cs b left) st) (ap (λ (es : List ℕ). after_move (forked (attempt code ns q c ps) es) cs b left []) none)
    (acts_at u code code' ns q c ps cs b left (Do i) here)

pub fails_jump : (u : List ℕ) (code : Code) (ns : List Note) (q c n : ℕ) (d : ℤ) → slice_get code q ≡ Some (Jmp d) → FailsAt u code ns (at_distance code q d) c n → FailsAt u code ns q c (n + 1)
fails_jump u code ns q c n d here fails = λ code' ps cs b left.
    then_comes u code' 1 n (n + 1) (gone_on code ns q c ps cs b left) (gone_on code ns (at_distance code q d) c ps cs b left) (back cs b left []) (omega arith)
    (acts_at u code code' ns q c ps cs b left (Jmp d) here) (fails code' ps cs b left)

pub fails_open : (u : List ℕ) (code : Code) (ns : List Note) (q c n : ℕ) → slice_get code q ≡ Some Open → FailsAt u code (Opened c ∷ ns) (q + 1) c n → FailsAt u code ns q c (n + 1)
fails_open u code ns q c n here fails = λ code' ps cs b left.
    then_comes u code' 1 n (n + 1) (gone_on code ns q c ps cs b left) (gone_on code (Opened c ∷ ns) (q + 1) c ps cs b left) (back cs b left []) (omega arith)
    (acts_at u code code' ns q c ps cs b left Open here) (fails code' ps cs b left)

-- at the end of the code, where it was entered from other code
pub fails_outside : (u : List ℕ) (code outer : Code) (ns ms : List Note) (q p c n : ℕ) → ns ≡ Left outer p ∷ ms → length code ≤ q → FailsAt u outer ms p c n → FailsAt u code ns q c n
fails_outside u code outer ns ms q p c n h past fails = λ code' ps cs b left.
    subst (λ t. Came u code' n (go t cs b left []) (back cs b left [])) (sym (ap (λ (ls : List Note). settled ls code q c ps) h ∙ settled_left ms code outer q p c ps past))
    (fails code' ps cs b left)

-- ---- SPLIT
abbrev pub choice : Code → List Note → (q c : ℕ) → Pending → ℤ → Choice
choice code ns q c ps d = Retry (at_distance code q d) c [] (attempt code ns q c ps)

-- where the first way fails, on at the other
pub first_fails : (u : List ℕ) (code code' : Code) (ns : List Note) (q c n : ℕ) (d : ℤ) (ps : Pending) (cs : List Choice) (b left : ℕ) → FailsAt u code ns (q + 1) c n → Came u code' (n + 1) (gone_on code ns (q + 1) c ps (choice code ns q c ps d ∷ cs) b left) (gone_on code ns (at_distance code q d) c ps cs b left)
first_fails u code code' ns q c n d ps cs b left first =
    let chosen : MatchState = Returning (choice code ns q c ps d) cs b left [] in
    let to : MatchState = gone_on code ns (at_distance code q d) c ps cs b left in
    then_comes u code' n 1 (n + 1) (gone_on code ns (q + 1) c ps (choice code ns q c ps d ∷ cs) b left) chosen to refl
    (first code' ps (choice code ns q c ps d ∷ cs) b left) (step_on u code' chosen chosen to refl refl refl)

pub fails_split : (u : List ℕ) (code : Code) (ns : List Note) (q c n m : ℕ) (d : ℤ) → slice_get code q ≡ Some (Split d) → FailsAt u code ns (q + 1) c n → FailsAt u code ns (at_distance code q d) c m → FailsAt u code ns q c (n + (m + 2))
fails_split u code ns q c n m d here first other = λ code' ps cs b left.
    let start : MatchState = gone_on code ns q c ps cs b left in
    let inner : MatchState = gone_on code ns (q + 1) c ps (choice code ns q c ps d ∷ cs) b left in
    let beside : MatchState = gone_on code ns (at_distance code q d) c ps cs b left in
    then_comes u code' (n + 2) m (n + (m + 2)) start beside (back cs b left []) (omega arith)
    (then_comes u code' 1 (n + 1) (n + 2) start inner beside (omega arith) (acts_at u code code' ns q c ps cs b left (Split d) here) (first_fails u code code' ns q c n d ps cs b left first))
    (other code' ps cs b left)
