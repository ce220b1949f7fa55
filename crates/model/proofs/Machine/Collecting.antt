-- Runs that give objects back between steps show what runs show that don't.
use Rattle.std.proofs.Common.{arith, ap, zero, ◌≤◌, ◌+◌, length, sym, ◌≡◌, refl, subst, ◌∙◌, ℕ, suc, List, [], ◌∷◌, Option, Some, None, slice_get, Bool, true, false, if◌then◌else◌}
use Rattle.std.specs.List.{AllByRecursion}
use Rattle.model.specs.declared.image.Image.{Image}
use Rattle.model.specs.declared.image.PatInstr.{PatInstr}
use Rattle.model.specs.declared.image.PatInstr.TheVariants as part
use Rattle.model.specs.Deck.Trees.{Bytes}
use Rattle.model.specs.Deck.Target.{Name, Variable, Element, IntegerKey, StringKey}
use Rattle.model.specs.Pattern.Patterns as p
use Rattle.model.specs.Pattern.Patterns.{Pending, Answer, IsPattern, IsCount, IsBytes, IsFailed, IsSaid}
use Rattle.model.specs.Pattern.Steps as s
use Rattle.model.specs.Pattern.Steps.{Won, Lost, Note, Opened, Fenced, Left, Thread, Choice, Retry, Again, Quit, Waiting, ForPattern, ForArgument, ForSaid, Starting, Going, Returning, Waits}
use Rattle.model.specs.Language.Values.{Str, Int, Pat, Nam, Exp, Obj, Object}
use Rattle.model.specs.Language.Calls.{Saved}
use Rattle.model.specs.Module.Images.{module_of, with_set, pattern_instr, both_some, pattern_code, code_of_pattern}
use Rattle.model.specs.Laws.Agreement.{Inputs, first_m, seen_at, machine_at}
use Rattle.model.specs.Machine.Steps.{PCode, MVal, MW, Operand, OV, ON, OR, Frame, InCall, InEval, State, begun, step, steps}
use Rattle.model.specs.Machine.Living.{NameLives, InstrLives, CodeLives, ValueLives, ObjectLives, HeapsAlike, WorldLives, SavedLives, AnswerLives, PendingLives, NoteLives, ThreadLives, ChoiceLives, SearchLives, OperandLives, OperandsLive, FrameLives, FramesLive, AlikeBy, ModuleLives, no_object, cleared, HeapLives, Collected, never, once_more, Grows}
use Rattle.model.proofs.Machine.Lists.{IfThere}
use Rattle.model.proofs.Machine.StepsLiving.{steps_alike, seen_alike}

-- ---- patterns of an image name nothing

module _ (n : ℕ → Bool) where
  text_lives : (o : Option Bytes) (f : Bytes → p.Basic) → IfThere (InstrLives n) (with_set o f)
  text_lives None f = tt
  text_lives (Some t) f = tt

  part_lives : (ss : List Bytes) (i : PatInstr) → IfThere (InstrLives n) (pattern_instr ss i)
  part_lives ss (part.Lit k) = text_lives (slice_get ss k) p.Lit
  part_lives ss (part.Split d) = tt
  part_lives ss (part.Jmp d) = tt
  part_lives ss (part.Len k) = tt
  part_lives ss (part.Pos k) = tt
  part_lives ss (part.RPos k) = tt
  part_lives ss (part.Tab k) = tt
  part_lives ss (part.RTab k) = tt
  part_lives ss (part.Any k) = text_lives (slice_get ss k) p.AnyOf
  part_lives ss (part.NotAny k) = text_lives (slice_get ss k) p.NotAnyOf
  part_lives ss (part.Span k) = text_lives (slice_get ss k) p.Span
  part_lives ss (part.Break k) = text_lives (slice_get ss k) p.Break

  both_live : (i : Option p.Instr) (is : Option PCode) → IfThere (InstrLives n) i → IfThere (CodeLives n) is → IfThere (CodeLives n) (both_some i is)
  both_live None is h k = tt
  both_live (Some i) None h k = tt
  both_live (Some i) (Some is) h k = (h, k)

  parts_live : (ss : List Bytes) (is : List PatInstr) → IfThere (CodeLives n) (pattern_code ss is)
  parts_live ss [] = tt
  parts_live ss (i ∷ is) = both_live (pattern_instr ss i) (pattern_code ss is) (part_lives ss i) (parts_live ss is)

  table_lives : (ss : List Bytes) (o : Option (List PatInstr)) → IfThere (CodeLives n) (code_of_pattern ss o)
  table_lives ss None = tt
  table_lives ss (Some is) = parts_live ss is

  pub images_live : (im : Image) → ModuleLives n (module_of im)
  images_live im k c e = subst (IfThere (CodeLives n)) e (table_lives im.strings (slice_get im.patterns k))

-- ---- a collection

abbrev IsNot : Bool → Type 0
IsNot true = ⊥
IsNot false = Unit {0}

module _ (n : ℕ → Bool) where
  kept_alike : (b : Bool) (o : Object MVal) → (b ≡ true → ObjectLives n o) → b ≡ true → ((if b then o else no_object) ≡ o) × ObjectLives n o
  kept_alike true o h e = (refl, h refl)
  kept_alike false o h e = absurd (subst IsNot e tt)

  heaps_alike : (marks : ℕ → Bool) (os : List (Object MVal)) → HeapLives n marks os → HeapsAlike n marks os (cleared marks os)
  heaps_alike marks [] h = h
  heaps_alike marks (o ∷ os) h = (kept_alike (marks 0) o h.0, heaps_alike (λ k. marks (suc k)) os h.1)

  pub cleared_alike : (w : MW) → ((x : Bytes) → ValueLives n (w.vars x)) → HeapLives n n w.objects → WorldLives n w (cleared n w.objects)
  cleared_alike w v h = record { vars = v; objects = heaps_alike n w.objects h }

module _ (n : ℕ → Bool) where
  fits : (marks : ℕ → Bool) (os : List (Object MVal)) → ((k : ℕ) (o : Object MVal) → slice_get os k ≡ Some o → marks k ≡ true → ObjectLives n o) → ((k : ℕ) → length os ≤ k → marks k ≡ true) → HeapLives n marks os
  fits marks [] f g = λ k. g k (omega arith)
  fits marks (o ∷ os) f g = (λ m. f 0 o refl m, fits (λ k. marks (suc k)) os (λ k x e m. f (suc k) x e m) (λ k l. g (suc k) (omega arith)))

  pub fit_by_number : (os : List (Object MVal)) → ((k : ℕ) (o : Object MVal) → slice_get os k ≡ Some o → n k ≡ true → ObjectLives n o) → ((k : ℕ) → length os ≤ k → n k ≡ true) → HeapLives n n os
  fit_by_number os f g = fits n os f g

-- ---- more marks

module _ {A : Type 0} (R S : A → Type 0) (f : (a : A) → R a → S a) where
  all_on : (xs : List A) → AllByRecursion R xs → AllByRecursion S xs
  all_on [] h = tt
  all_on (x ∷ xs) h = (f x h.0, all_on xs h.1)

module _ (a b : ℕ → Bool) (g : Grows a b) where
  name_on : (x : Name) → NameLives a x → NameLives b x
  name_on (Variable x) h = tt
  name_on (Element k i) h = g k h
  name_on (IntegerKey k z) h = g k h
  name_on (StringKey k t) h = g k h

  instr_on : (i : p.Instr) → InstrLives a i → InstrLives b i
  instr_on (p.Close x) h = name_on x h
  instr_on (p.Say x) h = name_on x h
  instr_on (p.AtCursor x) h = name_on x h
  instr_on (p.Do k) h = tt
  instr_on (p.Split d) h = tt
  instr_on (p.Jmp d) h = tt
  instr_on p.DoSucceed h = tt
  instr_on p.DoAbort h = tt
  instr_on p.DoFence h = tt
  instr_on p.Open h = tt
  instr_on p.OpenFence h = tt
  instr_on p.CloseFence h = tt
  instr_on (p.Eval k) h = tt
  instr_on (p.EvalBasic kind k) h = tt

  code_on : (c : PCode) → CodeLives a c → CodeLives b c
  code_on c h = all_on (InstrLives a) (InstrLives b) instr_on c h

  pub value_on : (v : MVal) → ValueLives a v → ValueLives b v
  value_on (Str s) h = tt
  value_on (Int z) h = tt
  value_on (Pat c) h = code_on c h
  value_on (Nam x) h = name_on x h
  value_on (Exp k) h = tt
  value_on (Obj k) h = g k h

  operand_on : (o : Operand) → OperandLives a o → OperandLives b o
  operand_on (OV v) h = value_on v h
  operand_on (ON x) h = name_on x h
  operand_on (OR s i j) h = tt

  pub operands_on : (ops : List Operand) → OperandsLive a ops → OperandsLive b ops
  operands_on ops h = all_on (OperandLives a) (OperandLives b) operand_on ops h

  answer_on : (y : Answer PCode) → AnswerLives a y → AnswerLives b y
  answer_on (IsPattern c) h = code_on c h
  answer_on (IsCount k) h = tt
  answer_on (IsBytes t) h = tt
  answer_on IsFailed h = tt
  answer_on IsSaid h = tt

  answers_on : (u : s.Answers) → AllByRecursion (AnswerLives a) u → AllByRecursion (AnswerLives b) u
  answers_on u h = all_on (AnswerLives a) (AnswerLives b) answer_on u h

  pending_on : (y : Pending) → PendingLives a y → PendingLives b y
  pending_on y h = all_on (λ z. NameLives a z.0) (λ z. NameLives b z.0) (λ z. name_on z.0) y h

  note_on : (x : Note) → NoteLives a x → NoteLives b x
  note_on (Opened c) h = tt
  note_on (Fenced k) h = tt
  note_on (Left code place) h = code_on code h

  thread_on : (t : Thread) → ThreadLives a t → ThreadLives b t
  thread_on t h = (code_on t.code h.0, all_on (NoteLives a) (NoteLives b) note_on t.notes h.1, pending_on t.pending h.2)

  choice_on : (ch : Choice) → ChoiceLives a ch → ChoiceLives b ch
  choice_on (Retry place end more t) h = thread_on t h
  choice_on (Again t) h = thread_on t h
  choice_on Quit h = tt

  choices_on : (cs : List Choice) → AllByRecursion (ChoiceLives a) cs → AllByRecursion (ChoiceLives b) cs
  choices_on cs h = all_on (ChoiceLives a) (ChoiceLives b) choice_on cs h

  pub search_on : (st : s.MatchState) → SearchLives a st → SearchLives b st
  search_on (Starting start left u) h = answers_on u h
  search_on (Going t cs start left u) h = (thread_on t h.0, choices_on cs h.1, answers_on u h.2)
  search_on (Returning ch cs start left u) h = (choice_on ch h.0, choices_on cs h.1, answers_on u h.2)
  search_on (Waits (ForPattern k) t cs start left u) h = (tt, thread_on t h.1, choices_on cs h.2, answers_on u h.3)
  search_on (Waits (ForArgument kind k) t cs start left u) h = (tt, thread_on t h.1, choices_on cs h.2, answers_on u h.3)
  search_on (Waits (ForSaid x v) t cs start left u) h = (name_on x h.0, thread_on t h.1, choices_on cs h.2, answers_on u h.3)
  search_on (s.Over (Won start end y)) h = pending_on y h
  search_on (s.Over Lost) h = tt

  saved_on : (v : Saved PCode ℕ) → SavedLives a v → SavedLives b v
  saved_on v h = value_on v.value h

  frame_on : (f : Frame) → FrameLives a f → FrameLives b f
  frame_on (InCall k c) h = (all_on (SavedLives a) (SavedLives b) saved_on k.saved h.0, operands_on c.ops h.1)
  frame_on (InEval m want st) h = ((code_on m.code h.0.0, operands_on m.ops h.0.1), search_on st h.1)

  pub frames_on : (fs : List Frame) → FramesLive a fs → FramesLive b fs
  frames_on fs h = all_on (FrameLives a) (FrameLives b) frame_on fs h

-- ---- runs with collections

pub steps_collected : (im : Image) (m : ℕ) (st st' : State) → Collected st st' → Collected (steps (module_of im) m st) (steps (module_of im) m st')
steps_collected im m st st' never = never
steps_collected im m st st' (once_more marked h c) = once_more marked (steps_alike marked (module_of im) (images_live marked im) m _ _ h) (steps_collected im m _ _ c)

in_turn : (im : Image) (n m : ℕ) (st : State) → steps (module_of im) (n + m) st ≡ steps (module_of im) m (steps (module_of im) n st)
in_turn im zero m st = let e : 0 + m ≡ m = omega arith in ap (λ k. steps (module_of im) k st) e
in_turn im (suc n) m st = let e : suc n + m ≡ suc (n + m) = omega arith in ap (λ k. steps (module_of im) k st) e ∙ in_turn im n m (step (module_of im) st)

pub go_on_collected : (im : Image) (n m : ℕ) (st st1 : State) → Collected (steps (module_of im) n st) st1 → Collected (steps (module_of im) (n + m) st) (steps (module_of im) m st1)
go_on_collected im n m st st1 c = subst (λ s0. Collected s0 (steps (module_of im) m st1)) (sym (in_turn im n m st)) (steps_collected im m (steps (module_of im) n st) st1 c)

pub collected_again : (marked : ℕ → Bool) (st st1 st2 : State) → Collected st st1 → AlikeBy marked st1 st2 → Collected st st2
collected_again marked st st1 st2 never h = once_more marked h never
collected_again marked st st1 st2 (once_more before a c) h = once_more before a (collected_again marked _ _ _ c h)

seen_collected : (st st' : State) → Collected st st' → seen_at st' ≡ seen_at st
seen_collected st st' never = refl
seen_collected st st' (once_more marked a c) = seen_collected _ _ c ∙ seen_alike marked _ _ a

pub collections_unseen : (im : Image) (inputs : Inputs) (m : ℕ) (st : State) → Collected (steps (module_of im) m (begun (module_of im) (first_m im.level inputs))) st → seen_at st ≡ machine_at im inputs m
collections_unseen im inputs m st c = seen_collected _ _ c
