-- Names of elements, from the operands that tell them.
use Rattle.std.proofs.Common.{◌≡◌, ℕ, zero, suc, List, [], ◌∷◌, ◌++◌, length, map, reverse, replicate, drop, Option, Some, None, Result, Ok, Err, refl, sym, ap, subst, ◌∙◌}
use Rattle.std.specs.Prelude.{option_map}
use Rattle.std.proofs.lemmas.List.{length-reverse}
use Rattle.model.specs.declared.image.Image.{Image}
use Rattle.model.specs.declared.instr.Instr.TheVariants as op
use Rattle.model.specs.Module.Flow.{OperandKind, V}
use Rattle.model.specs.Language.Io.{Io}
use Rattle.model.specs.Language.Aggregates.{element_op}
use Rattle.model.specs.Language.Conversions.{Op}
use Rattle.model.specs.Deck.Target as target
use Rattle.model.specs.Machine.Steps as m
use Rattle.model.specs.Machine.Steps.{MVal, MW, ON, Run, fail_to, pop, pop_many, put_name}
use Rattle.model.specs.Module.Images.{module_of}
use Rattle.loader.specs.Places.{offset_at}
use Rattle.frames.specs.Frames.{frames_of}
use Rattle.frames.specs.Stacked.{Stacked}
use Rattle.frames.specs.View.{operands_of, handlers_of}
use Rattle.frames.specs.declared.frame.Frame.{Frame}
use Rattle.frames.specs.declared.handler.Handler.{Handler}
use Rattle.frames.specs.Kinds.{AreOnTop, TopIs, kinds_of}
use Rattle.frames.specs.declared.operand.Operand.{Operand}
use Rattle.frames.specs.declared.operand.Operand.TheVariants as operand
use Rattle.pattern_compiler.specs.View.{name_of}
use Rattle.pattern_compiler.specs.declared.instr.Name.{Name}
use Rattle.values.specs.Answers.{answer_map, AnswersOrFails}
use Rattle.world.specs.Held.{world_of}
use Rattle.values.specs.Values.{value_of}
use Rattle.values.specs.declared.value.Value.{Value}
use Rattle.values.specs.declared.fault.Fault.{Fault}
use Rattle.values.specs.declared.fault.Fault.TheVariants as fault
use Rattle.instruction_steps.specs.Elements.{Named}
use Rattle.instruction_steps.specs.Held.{Left, after, handlers_in, waiting}
use Rattle.instruction_steps.specs.declared.state.State.{State}
use Rattle.instruction_steps.specs.declared.status.Exit.{Exit}

-- ---- the operands

later : (n : ℕ) (below : List OperandKind) → V ∷ (replicate n V ++ below) ≡ replicate n V ++ V ∷ below
later zero below = refl
later (suc n) below = ap (λ ks. V ∷ ks) (later n below)

-- the subscripts stand above the base
pub subscripts_first : (n : ℕ) (ops : List Operand) → AreOnTop (replicate (suc n) V) ops → AreOnTop (replicate n V) ops
subscripts_first n ops h = (V ∷ h.0, h.1 ∙ later n h.0)

values_kinds : (vs : List Value) (ops : List Operand) → kinds_of (map operand.Value vs ++ ops) ≡ replicate (length vs) V ++ kinds_of ops
values_kinds [] ops = refl
values_kinds (v ∷ vs) ops = ap (λ ks. V ∷ ks) (values_kinds vs ops)

rest_same : (n : ℕ) (ks ls : List OperandKind) → replicate n V ++ ks ≡ replicate n V ++ ls → ks ≡ ls
rest_same zero ks ls e = e
rest_same (suc n) ks ls e = rest_same n ks ls (ap (drop 1) e)

-- the base is the newest one below them
pub base_next : (n : ℕ) (ops rest : List Operand) (vs : List Value) → AreOnTop (replicate (suc n) V) ops → ops ≡ map operand.Value (reverse vs) ++ rest → length vs ≡ n → TopIs V rest
base_next n ops rest vs h is count = (
  h.0,
  rest_same n (kinds_of rest) (V ∷ h.0) (
      ap (λ k. replicate k V ++ kinds_of rest) (sym (length-reverse vs ∙ count))
      ∙ sym (values_kinds (reverse vs) rest)
      ∙ ap kinds_of (sym is)
      ∙ h.1
      ∙ later n h.0
      ),
)

-- ---- the name

-- the state that an operation leads to is the one that its answer leads to
named_by : (im : Image) (fs : List Frame) (q : ℕ) (s : State) (io : Io) (r : Result (Option Name) Fault) (o : Op MW target.Name) → AnswersOrFails (answer_map (option_map name_of) r) (world_of s.world io) o
    → Named im fs q r s io (put_name (module_of im) o (offset_at im.code q) (operands_of s.operands.top) (handlers_in im s) (waiting im fs s))
named_by im fs q s io (Ok (Some n)) o h = ap (λ x. put_name (module_of im) x (offset_at im.code q) (operands_of s.operands.top) (handlers_in im s) (waiting im fs s)) h
named_by im fs q s io (Ok None) o h = ap (λ x. put_name (module_of im) x (offset_at im.code q) (operands_of s.operands.top) (handlers_in im s) (waiting im fs s)) h
named_by im fs q s io (Err (fault.Error e)) o h = ap (λ x. put_name (module_of im) x (offset_at im.code q) (operands_of s.operands.top) (handlers_in im s) (waiting im fs s)) h
named_by im fs q s io (Err (fault.Stop x)) o h = tt

pub was_named : (im : Image) (fs : List Frame) (n q : ℕ) (old new : State) (io : Io) (rest : Stacked Operand) (xs vs : List Value) (base : Value) (r : Result (Option Name) Fault)
    → vs ≡ xs → ((w : MW) (k : List MVal → List m.Operand → m.State) → pop_many n (operands_of old.operands.top) [] w k ≡ k (map value_of xs) (operands_of rest.top))
    → rest.under ≡ old.operands.under → rest ≡ record new.operands { top = operand.Value base ∷ new.operands.top } → new.handlers ≡ old.handlers → new.saved.items ≡ old.saved.items → new.world ≡ old.world
    → AnswersOrFails (answer_map (option_map name_of) r) (world_of old.world io) (element_op (value_of base) (map value_of vs) (world_of old.world io))
    → Named im fs q r new io (after im (op.Elem n) q fs old io)
was_named im fs n q old new io rest xs vs base r same taken under newest handlers saved world h =
    subst (λ st. Named im fs q r new io st) (sym here)
    (named_by im fs q new io r (element_op (value_of base) (map value_of vs) (world_of old.world io))
    (subst (λ w. AnswersOrFails (answer_map (option_map name_of) r) (world_of w io) (element_op (value_of base) (map value_of vs) (world_of old.world io))) (sym world) h))
  where
    w : MW
    w = world_of old.world io

    o : ℕ → ℕ
    o = offset_at im.code

    put : List m.Operand → List m.Handler → List m.Frame → m.State
    put ops hs waits = put_name (module_of im) (element_op (value_of base) (map value_of vs) w) (o q) ops hs waits

    beneath : new.operands.under ≡ old.operands.under
    beneath = sym (ap (λ (l : Stacked Operand). l.under) newest) ∙ under

    here : after im (op.Elem n) q fs old io ≡ put (operands_of new.operands.top) (handlers_in im new) (waiting im fs new)
    here =
        taken w (λ us r1. pop r1 w (λ a ops. put_name (module_of im) (element_op a us w) (o q) ops (handlers_in im old) (waiting im fs old)))
        ∙ ap (λ us. pop (operands_of rest.top) w (λ a below. put_name (module_of im) (element_op a (map value_of us) w) (o q) below (handlers_in im old) (waiting im fs old))) (sym same)
        ∙ ap (λ (ops : Stacked Operand). pop (operands_of ops.top) w (λ a below. put_name (module_of im) (element_op a (map value_of vs) w) (o q) below (handlers_in im old) (waiting im fs old))) newest
        ∙ ap (λ (hs : Stacked Handler). put (operands_of new.operands.top) (handlers_of o hs.top) (frames_of o fs old.operands.under hs.under old.saved.items)) (sym handlers)
        ∙ ap (λ us. put (operands_of new.operands.top) (handlers_in im new) (frames_of o fs us new.handlers.under old.saved.items)) (sym beneath)
        ∙ ap (λ all. put (operands_of new.operands.top) (handlers_in im new) (frames_of o fs new.operands.under new.handlers.under all)) (sym saved)

-- on with the name
pub on_named : (im : Image) (fs : List Frame) (q : ℕ) (o : Option Name) (n : Name) (called new : State) (io : Io) (result : Result (Unit {0}) Exit) (st : m.State) → o ≡ Some n → Named im fs q (Ok o) called io st
    → Left im fs result new io (Run (offset_at im.code q) (ON (name_of n) ∷ operands_of called.operands.top) (handlers_in im called) (waiting im fs called) (world_of called.world io)) → Left im fs result new io st
on_named im fs q o n called new io result st e h left = let there : Named im fs q (Ok (Some n)) called io st = subst (λ x. Named im fs q (Ok x) called io st) e h in subst (Left im fs result new io) (sym there) left

-- on where a failure leads
pub on_none : (im : Image) (fs : List Frame) (q : ℕ) (o : Option Name) (called new : State) (io : Io) (result : Result (Unit {0}) Exit) (st : m.State) → o ≡ None → Named im fs q (Ok o) called io st
    → Left im fs result new io (fail_to (handlers_in im called) (operands_of called.operands.top) (waiting im fs called) (world_of called.world io)) → Left im fs result new io st
on_none im fs q o called new io result st e h left = let there : Named im fs q (Ok None) called io st = subst (λ x. Named im fs q (Ok x) called io st) e h in subst (Left im fs result new io) (sym there) left
