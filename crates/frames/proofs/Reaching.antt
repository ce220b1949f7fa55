-- What waits lives where marks reach the operands and what calls saved.
use Rattle.std.proofs.Common.{ℕ, Bool, List, [], ◌∷◌, ◌++◌, take, drop, map, reverse, sym, subst}
use Rattle.std.specs.List.{AllByRecursion}
use Rattle.std.proofs.lemmas.Grind.{reverse_onto}
use Rattle.std.proofs.lemmas.List.{take-append-drop}
use Rattle.model.specs.Machine.Living.{FrameLives, FramesLive, OperandLives, OperandsLive, SavedLives, ValueLives, ValuesLive}
use Rattle.model.specs.Machine.Steps as m
use Rattle.model.proofs.Machine.Collecting.{operands_on}
use Rattle.model.specs.Deck.Trees.{Bytes}
use Rattle.heap.specs.Marked.{HasMarked, MarksView, marks_in}
use Rattle.model.proofs.Machine.Lists.{drop_in, join_in}
use Rattle.prototypes.specs.Views.{names_of}
use Rattle.values.proofs.Living.{all_map}
use Rattle.world.specs.Calling.{older, saved_as, saved_by}
use Rattle.values.specs.Values.{value_of}
use Rattle.values.specs.declared.value.Value.{Value}
use Rattle.frames.specs.Frames.{AreCalls, IsOfCall, frame_of, frames_of, older_saved}
use Rattle.frames.specs.View.{handlers_of, operand_of, operands_of}
use Rattle.frames.specs.declared.frame.Frame.{Frame}
use Rattle.frames.specs.declared.frame.Waiting.{Waiting}
use Rattle.frames.specs.declared.frame.Waiting.TheVariants as waiting
use Rattle.frames.specs.declared.handler.Handler.{Handler}
use Rattle.frames.specs.declared.operand.Operand.{Operand}

-- ---- parts of lists

module _ {A : Type 0} (R : A → Type 0) where
  pub all_front : (xs ys : List A) → AllByRecursion R (xs ++ ys) → AllByRecursion R xs
  all_front [] ys h = tt
  all_front (x ∷ xs) ys h = (h.0, all_front xs ys h.1)

  pub all_back : (xs ys : List A) → AllByRecursion R (xs ++ ys) → AllByRecursion R ys
  all_back [] ys h = h
  all_back (x ∷ xs) ys h = all_back xs ys h.1

  pub all_take : (n : ℕ) (xs : List A) → AllByRecursion R xs → AllByRecursion R (take n xs)
  all_take n xs h = all_front (take n xs) (drop n xs) (subst (AllByRecursion R) (sym (take-append-drop n xs)) h)

  pub all_reverse : (xs : List A) → AllByRecursion R xs → AllByRecursion R (reverse xs)
  all_reverse [] h = tt
  all_reverse (x ∷ xs) h = subst (AllByRecursion R) (sym (reverse_onto xs x [])) (join_in R (reverse xs) (x ∷ []) (all_reverse xs h.1) (h.0, tt))

map_all : {A B : Type 0} (P : B → Type 0) (f : A → B) (xs : List A) → AllByRecursion P (map f xs) → AllByRecursion (λ a. P (f a)) xs
map_all P f [] h = tt
map_all P f (x ∷ xs) h = (h.0, map_all P f xs h.1)

pub operand_on : (old new : MarksView) → HasMarked old new → (o : m.Operand) → OperandLives (marks_in old) o → OperandLives (marks_in new) o
operand_on old new h o k = (operands_on (marks_in old) (marks_in new) h.grows (o ∷ []) (k, tt)).0

-- ---- frames

module _ (n : ℕ → Bool) where
  abbrev Lives : Value → Type 0
  Lives v = ValueLives n (value_of v)

  saved_live : (xs : List Bytes) (vs : List Value) → AllByRecursion Lives vs → AllByRecursion (SavedLives n) (saved_as xs vs)
  saved_live [] vs h = tt
  saved_live (x ∷ xs) [] h = tt
  saved_live (x ∷ xs) (v ∷ vs) h = (h.0, saved_live xs vs h.1)

  older_live : (w : Waiting) (saved : List Value) → AllByRecursion Lives saved → AllByRecursion Lives (older_saved w saved)
  older_live (waiting.Call kept place want_name) saved h = all_take Lives (older (names_of kept.prototype) saved) saved h
  older_live (waiting.Match g want) saved h = h

  all_frames : (o : ℕ → ℕ) (fs : List Frame) (ops : List Operand) (hs : List Handler) (saved : List Value) → AreCalls fs → AllByRecursion (λ x. OperandLives n (operand_of x)) ops → AllByRecursion Lives saved → FramesLive n (frames_of o fs ops hs saved)
  all_frames o [] ops hs saved calls live kept = tt
  all_frames o (f ∷ fs) ops hs saved calls live kept =
      (by f.waiting calls.0, all_frames o fs (drop f.operands ops) (drop f.handlers hs) (older_saved f.waiting saved) calls.1 (drop_in _ f.operands ops live) (older_live f.waiting saved kept))
    where
      own : OperandsLive n (operands_of (take f.operands ops))
      own = all_map (OperandLives n) operand_of (take f.operands ops) (all_take _ f.operands ops live)

      by : (w : Waiting) → IsOfCall w → FrameLives n (frame_of o w (operands_of (take f.operands ops)) (handlers_of o (take f.handlers hs)) saved)
      by (waiting.Call k place want_name) is = (saved_live (names_of k.prototype) (saved_by (names_of k.prototype) saved) (drop_in Lives (older (names_of k.prototype) saved) saved kept), own)
      by (waiting.Match g want) is = absurd is

  pub frames_live : (o : ℕ → ℕ) (fs : List Frame) (ops : List Operand) (hs : List Handler) (saved : List Value) → AreCalls fs → OperandsLive n (operands_of ops) → ValuesLive n (map value_of saved) → FramesLive n (frames_of o fs ops hs saved)
  frames_live o fs ops hs saved calls live kept = all_frames o fs ops hs saved calls (map_all (OperandLives n) operand_of ops live) (map_all (ValueLives n) value_of saved kept)

  -- operands of the code and of what waits
  pub top_lives : (xs ys : List Operand) → OperandsLive n (operands_of (xs ++ ys)) → OperandsLive n (operands_of xs)
  top_lives xs ys h = all_map (OperandLives n) operand_of xs (all_front _ xs ys (map_all (OperandLives n) operand_of (xs ++ ys) h))

  pub under_lives : (xs ys : List Operand) → OperandsLive n (operands_of (xs ++ ys)) → OperandsLive n (operands_of ys)
  under_lives xs ys h = all_map (OperandLives n) operand_of ys (all_back _ xs ys (map_all (OperandLives n) operand_of (xs ++ ys) h))
