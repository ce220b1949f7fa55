-- A module does what its program does, wherever the code of each statement stands.
use Rattle.std.proofs.Common.{◌≡◌, ℕ, zero, suc, pred, ◌+◌, ◌-◌, ◌≤◌, List, [], ◌++◌, Option, Some, None, Bool, true, false, bytes_eq, if◌then◌else◌, codes, ◌⊎◌, inl, inr, refl, sym, ap, ◌∙◌, subst, arith, append-nil, le_refl}
use Rattle.model.specs.declared.run.ErrorCode.TheVariants as error
use Rattle.model.specs.declared.run.Ending.{Ending}
use Rattle.model.specs.declared.run.Ending.TheVariants as ending
use Rattle.model.specs.declared.image.Level.{Level}
use Rattle.model.specs.declared.image.Level.TheVariants as levels
use Rattle.model.specs.Deck.Trees.{Bytes, Expr}
use Rattle.model.specs.Language.Programs.{Program, program}
use Rattle.model.specs.Pattern.Patterns as p
use Rattle.model.specs.Language.Values.{Value, pattern_trees, printed_of, first_value}
use Rattle.model.specs.Language.Meaning.{W, Res, Done, Fails, Ends, Open, Settled, run_rule, run}
use Rattle.model.specs.Machine.Steps.{MW, codes_of, Module, State, Run, InMatch, Over, Stuck, to_stmt, begun, steps, world_of_state}
use Rattle.model.specs.Module.Images.{module_of}
use Rattle.model.specs.Module.Placed.{Placed}
use Rattle.model.specs.Machine.Alike.{VR, rstr, rpat, onil, WR}
use Rattle.model.specs.Laws.Agreement.{Records, IsPrefix, seen_of, seen_at, Inputs, first_w, first_m, AgreesWherePlaced}
use Rattle.model.proofs.Language.MeaningGrows.{Before, before_refl, Goes_on}
use Rattle.model.proofs.Machine.Following.{Follows, Fits, Goes, sim_all, follow_fits, follow_goes, goes_all, steps_add, Still}
use Rattle.model.proofs.Machine.StatementsFollow.{local}
use Rattle.model.proofs.Machine.OperationsAlike.{keys_same}
use Rattle.model.proofs.Machine.Asking.{stops}
use Rattle.model.proofs.Language.MeaningPrints.{on}
use Rattle.model.proofs.Machine.StepsPrint.{steps_on}

abbrev state_at : Module → ℕ → MW → State
state_at img k m = steps img k (begun img m)

module _ (prog : Program) (img : Module) (trees_at : ℕ → Option Expr) (placed : Placed prog img trees_at) (w : W) (m : MW) (wr : WR trees_at w m) where
  abbrev pub Never : record {} → W → State → Type 0
  Never a v s = ⊥

  abbrev pub Nowhere : W → State → Type 0
  Nowhere v s = ⊥

  start_is : begun img m ≡ Run placed.entry_is.0 [] [] [] m
  start_is = ap (λ k. to_stmt img (img.stmt k) [] m) placed.entry ∙ ap (λ o. to_stmt img o [] m) placed.entry_is.1

  pub run_follows : Follows prog img trees_at 2 0 (begun img m) Never Nowhere (run_rule prog w)
  run_follows = (
    0,
    (placed.entry_is.0, [], placed.entry_is.1, tt),
    m,
    start_is,
    wr,
    2,
    le_refl 2,
    inr (le_refl 2),
    0,
    omega arith,
    (λ l v s (m1, r1, e1). (stops prog img trees_at placed {r = 2} {b = 0} {Q = Never} {F = Nowhere} 1 (omega arith) (m1, r1, e1 ∙ ap (λ k. Over (ending.Error error.ReturnAtLevelZero k.stno) m1) (keys_same trees_at r1))).by),
    (λ v s b. absurd b),
  )

  run_on : Goes_on w (run_rule prog w)
  run_on = (before_refl w, (λ l v b. before_refl v), (λ v b. before_refl v))

  fits : (n : ℕ) → Fits prog img trees_at 0 (begun img m) Never Nowhere (run prog n w)
  fits n = follow_fits prog img trees_at n (sim_all prog img trees_at (local prog img trees_at placed) n) 2 0 (begun img m) Never Nowhere (run_rule prog w) run_follows

  goes : (l : ℕ) → Goes prog img trees_at l (begun img m) Never Nowhere (λ n. run prog n w)
  goes l = follow_goes prog img trees_at (on prog) (local prog img trees_at placed) l 2 0 ((λ q h. goes_all prog img trees_at (on prog) (local prog img trees_at placed) l q), (λ q. goes_all prog img trees_at (on prog) (local prog img trees_at placed) (pred l) q)) w (begun img m) Never Nowhere (run_rule prog w) run_on run_follows

  -- what is known at the depth n: an ending of both, or the machine runs on after k steps or more
  data Known (k n : ℕ) : Type 0 where
    both_end : (e : Ending) (v : W) (j : ℕ) (m' : MW) → run prog n w ≡ Ends e v → state_at img j m ≡ Over e m' → printed_of m' ≡ printed_of v → Known k n
    both_go : (v : W) (j : ℕ) → k ≤ j → run prog n w ≡ Open v → Still prog img trees_at (state_at img j m) v → Known k n

  known_of : (k n : ℕ) (r : Res (record {})) → run prog n w ≡ r → Settled r ⊎ (Unit {0}) → Fits prog img trees_at k (begun img m) Never Nowhere r → Known k n
  known_of k n (Done a v) e s x = absurd x.2
  known_of k n (Fails v) e s x = absurd x.2
  known_of k n (Ends f v) e s (j, le, (m', r, o)) = both_end f v j m' e o (ap (λ p. p.printed) (sym r.io))
  known_of k n (Open v) e s (j, le, x) = both_go v j le e x

  -- an ending at some depth, whatever was asked
  ended_at : (k n : ℕ) (r : Res (record {})) → run prog n w ≡ r → Settled r → Fits prog img trees_at 0 (begun img m) Never Nowhere r → Known k n
  ended_at k n (Done a v) e s x = absurd x.2
  ended_at k n (Fails v) e s x = absurd x.2
  ended_at k n (Ends f v) e s (j, le, (m', r, o)) = both_end f v j m' e o (ap (λ p. p.printed) (sym r.io))
  ended_at k n (Open v) e s x = absurd s

  known : (k : ℕ) → (n : ℕ) × Known k n
  known k = go (goes k)
    where
      go : Goes prog img trees_at k (begun img m) Never Nowhere (λ n. run prog n w) → (n : ℕ) × Known k n
      go (n, inl s) = (n, ended_at k n (run prog n w) refl s (fits n))
      go (n, inr h) = (0 + n, known_of k (0 + n) (run prog (0 + n) w) refl (inr tt) (h 0))

  known_fits : (n : ℕ) → Known 0 n
  known_fits n = known_of 0 n (run prog n w) refl (inr tt) (fits n)

pub over_stays : (img : Module) (n : ℕ) (e : Ending) (m : MW) → steps img n (Over e m) ≡ Over e m
over_stays img zero e m = refl
over_stays img (suc n) e m = over_stays img n e m

stuck_stays : (img : Module) (n : ℕ) (m : MW) → steps img n (Stuck m) ≡ Stuck m
stuck_stays img zero m = refl
stuck_stays img (suc n) m = stuck_stays img n m

abbrev ending_of : State → Ending
ending_of (Run p o h f m) = ending.Normal
ending_of (InMatch g st f m) = ending.Normal
ending_of (Over e m) = e
ending_of (Stuck m) = ending.Normal

abbrev is_over : State → Type 0
is_over (Run p o h f m) = ⊥
is_over (InMatch g st f m) = ⊥
is_over (Over e m) = Unit {0}
is_over (Stuck m) = ⊥

module _ (prog : Program) (img : Module) (trees_at : ℕ → Option Expr) (placed : Placed prog img trees_at) (w : W) (m : MW) (wr : WR trees_at w m) where
  -- more steps
  on_from : (k j : ℕ) → state_at img (k + j) m ≡ steps img j (state_at img k m)
  on_from k j = steps_add prog img trees_at k j (begun img m)

  over_on : (k j : ℕ) (e : Ending) (m' : MW) → state_at img k m ≡ Over e m' → state_at img (k + j) m ≡ Over e m'
  over_on k j e m' h = on_from k j ∙ ap (steps img j) h ∙ over_stays img j e m'

  stuck_on : (k j : ℕ) (m' : MW) → state_at img k m ≡ Stuck m' → state_at img (k + j) m ≡ Stuck m'
  stuck_on k j m' h = on_from k j ∙ ap (steps img j) h ∙ stuck_stays img j m'

  two_overs : (k j : ℕ) (e f : Ending) (m1 m2 : MW) → state_at img k m ≡ Over e m1 → state_at img j m ≡ Over f m2 → Over e m1 ≡ Over f m2
  two_overs k j e f m1 m2 h g =
      let swap : k + j ≡ j + k = omega arith in
      sym (over_on k j e m1 h) ∙ ap (λ n. state_at img n m) swap ∙ over_on j k f m2 g

  pub still_prints : (s : State) (v : W) → Still prog img trees_at s v → printed_of (world_of_state s) ≡ printed_of v
  still_prints (Run p o h f m) v x = x
  still_prints (InMatch g st f m) v x = x
  still_prints (Over e m) v x = absurd x
  still_prints (Stuck m) v x = absurd x

  -- a machine that is over or stuck doesn't run on later
  not_still : (k j : ℕ) (s : State) (v : W) → k ≤ j → state_at img k m ≡ s → steps img (j - k) s ≡ s → (Still prog img trees_at s v → ⊥) → Still prog img trees_at (state_at img j m) v → ⊥
  not_still k j s v le h st never x =
      let e : k + (j - k) ≡ j = omega arith in
      never (subst (λ s. Still prog img trees_at s v) (ap (λ n. state_at img n m) (sym e) ∙ on_from k (j - k) ∙ ap (steps img (j - k)) h ∙ st) x)

  -- ---- what is seen of both

  not_ended : {A : Type 0} {e : Ending} → None ≡ Some e → A
  not_ended h = absurd (subst IsNone h tt)
    where
      IsNone : Option Ending → Type 0
      IsNone None = Unit {0}
      IsNone (Some e) = ⊥

  pub seen_printed : (s : State) → (seen_at s).printed ≡ printed_of (world_of_state s)
  seen_printed (Run p o h f m) = refl
  seen_printed (InMatch g st f m) = refl
  seen_printed (Over e m) = refl
  seen_printed (Stuck m) = refl

  before_is : {u v : MW} → Before u v → IsPrefix (printed_of u) (printed_of v)
  before_is b = (b.new, b.is)

  begins : (a b c d : Records) → a ≡ b → IsPrefix b c → c ≡ d → IsPrefix a d
  begins a b c d h i e = (i.0, sym e ∙ i.1 ∙ ap (λ l. l ++ i.0) (sym h))

  same_is : (a b : Records) → b ≡ a → IsPrefix a b
  same_is a b e = ([], e ∙ sym (append-nil a))

  -- one ending on both sides
  both : (n j : ℕ) (f : Ending) (v : W) (m2 : MW) → run prog n w ≡ Ends f v → state_at img j m ≡ Over f m2 → printed_of m2 ≡ printed_of v → seen_at (state_at img j m) ≡ seen_of (run prog n w)
  both n j f v m2 me ov pr = ap seen_at ov ∙ ap (λ l. record { ending = Some f; printed = l }) pr ∙ sym (ap seen_of me)

  ends : (n : ℕ) (e : Ending) → (seen_of (run prog n w)).ending ≡ Some e → (k : ℕ) × (seen_at (state_at img k m) ≡ seen_of (run prog n w))
  ends n e h = go (known_fits prog img trees_at placed w m wr n)
    where
      go : Known prog img trees_at placed w m wr 0 n → (k : ℕ) × (seen_at (state_at img k m) ≡ seen_of (run prog n w))
      go (both_end f v j m2 me ov pr) = (j, both n j f v m2 me ov pr)
      go (both_go v j le me st) = not_ended (sym (ap (λ r. (seen_of r).ending) me) ∙ h)

  ends_only : (k : ℕ) (e : Ending) → (seen_at (state_at img k m)).ending ≡ Some e → (n : ℕ) × (seen_of (run prog n w) ≡ seen_at (state_at img k m))
  ends_only k e h = state (state_at img k m) refl
    where
      known_end : (e' : Ending) (m' : MW) → state_at img k m ≡ Over e' m' → (n : ℕ) × Known prog img trees_at placed w m wr k n → (n : ℕ) × (seen_of (run prog n w) ≡ seen_at (state_at img k m))
      known_end e' m' at (n, both_end f v j m2 me ov pr) = (n, sym (both n j f v m2 me ov pr) ∙ ap seen_at (ov ∙ sym (two_overs k j e' f m' m2 at ov) ∙ sym at))
      known_end e' m' at (n, both_go v j le me st) = absurd (not_still k j (Over e' m') v le at (over_stays img (j - k) e' m') (λ x. x) st)

      state : (s : State) → state_at img k m ≡ s → (n : ℕ) × (seen_of (run prog n w) ≡ seen_at (state_at img k m))
      state (Run p o i f x) q = not_ended (ap (λ s. (seen_at s).ending) (sym q) ∙ h)
      state (InMatch g st f x) q = not_ended (ap (λ s. (seen_at s).ending) (sym q) ∙ h)
      state (Over e' m') q = known_end e' m' q (known prog img trees_at placed w m wr k)
      state (Stuck x) q = not_ended (ap (λ s. (seen_at s).ending) (sym q) ∙ h)

  prints : (n : ℕ) → (k : ℕ) × IsPrefix (seen_of (run prog n w)).printed (seen_at (state_at img k m)).printed
  prints n = go (known_fits prog img trees_at placed w m wr n)
    where
      go : Known prog img trees_at placed w m wr 0 n → (k : ℕ) × IsPrefix (seen_of (run prog n w)).printed (seen_at (state_at img k m)).printed
      go (both_end f v j m2 me ov pr) = (j, same_is _ _ (ap (λ s. s.printed) (both n j f v m2 me ov pr)))
      go (both_go v j le me st) = (j, same_is _ _ (seen_printed (state_at img j m) ∙ still_prints (state_at img j m) v st ∙ sym (ap (λ r. (seen_of r).printed) me)))

  prints_only : (k : ℕ) → (n : ℕ) × IsPrefix (seen_at (state_at img k m)).printed (seen_of (run prog n w)).printed
  prints_only k = go (known prog img trees_at placed w m wr k)
    where
      go : (n : ℕ) × Known prog img trees_at placed w m wr k n → (n : ℕ) × IsPrefix (seen_at (state_at img k m)).printed (seen_of (run prog n w)).printed
      go (n, both_end f v j m2 me ov pr) =
          let swap : j + k ≡ k + j = omega arith in (
            n,
            begins _ _ _ _ (seen_printed (state_at img k m)) (before_is (steps_on img j (state_at img k m)))
                (ap (λ s. printed_of (world_of_state s)) (sym (on_from k j) ∙ ap (λ n. state_at img n m) (sym swap) ∙ over_on j k f m2 ov) ∙ pr ∙ sym (ap (λ r. (seen_of r).printed) me)),
          )
      go (n, both_go v j le me st) =
          let e : k + (j - k) ≡ j = omega arith in (
            n,
            begins _ _ _ _ (seen_printed (state_at img k m)) (before_is (steps_on img (j - k) (state_at img k m)))
                (ap (λ s. printed_of (world_of_state s)) (sym (on_from k (j - k)) ∙ ap (λ n. state_at img n m) e) ∙ still_prints (state_at img j m) v st ∙ sym (ap (λ r. (seen_of r).printed) me)),
          )

  -- no step lacks what it needs
  pub never_stuck : (k : ℕ) (m' : MW) → state_at img k m ≡ Stuck m' → ⊥
  never_stuck k m' h = go (known prog img trees_at placed w m wr k)
    where
      go : (n : ℕ) × Known prog img trees_at placed w m wr k n → ⊥
      go (n, both_end f v j m2 me ov pr) =
          let swap : j + k ≡ k + j = omega arith in
          subst is_over (sym (over_on j k f m2 ov) ∙ ap (λ n. state_at img n m) swap ∙ stuck_on k j m' h) tt
      go (n, both_go v j le me st) = not_still k j (Stuck m') v le h (stuck_stays img (j - k) m') (λ x. x) st

-- ---- the first worlds

if_vr : (at : ℕ → Option Expr) (b : Bool) {v u : Value p.Pat Expr} {m n : Value (List p.Instr) ℕ} → VR at v m → VR at u n → VR at (if b then v else u) (if b then m else n)
if_vr at true h k = h
if_vr at false h k = k

first_value_same : (at : ℕ → Option Expr) (x : Bytes) → VR at (first_value pattern_trees x) (first_value codes_of x)
first_value_same at x =
    if_vr at (bytes_eq x (codes "ARB")) (rpat refl)
    (if_vr at (bytes_eq x (codes "BAL")) (rpat refl)
    (if_vr at (bytes_eq x (codes "REM")) (rpat refl)
    (if_vr at (bytes_eq x (codes "FAIL")) (rpat refl)
    (if_vr at (bytes_eq x (codes "SUCCEED")) (rpat refl)
    (if_vr at (bytes_eq x (codes "ABORT")) (rpat refl)
    (if_vr at (bytes_eq x (codes "FENCE")) (rpat refl) (rstr [])))))))

pub first_same : (at : ℕ → Option Expr) (inputs : Inputs) (l : Level) → l ≡ levels.Two → WR at (first_w inputs) (first_m l inputs)
first_same at inputs l two = record { vars = first_value_same at; objects = onil; plain = λ i. record (first_w inputs).plain { level = sym two i }; io = refl }

pub agrees_where_placed : AgreesWherePlaced
agrees_where_placed deck image at two placed = record {
  ends = λ inputs n e h. ends (program deck) (module_of image) at placed (first_w inputs) (first_m image.level inputs) (first_same at inputs image.level two) n e h;
  ends_only = λ inputs k e h. ends_only (program deck) (module_of image) at placed (first_w inputs) (first_m image.level inputs) (first_same at inputs image.level two) k e h;
  prints = λ inputs n. prints (program deck) (module_of image) at placed (first_w inputs) (first_m image.level inputs) (first_same at inputs image.level two) n;
  prints_only = λ inputs k. prints_only (program deck) (module_of image) at placed (first_w inputs) (first_m image.level inputs) (first_same at inputs image.level two) k;
}
