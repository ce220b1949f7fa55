-- The end of a call.
use Rattle.std.proofs.Common.{◌≡◌, ℕ, min, ℤ, List, [], ◌∷◌, length, take, drop, arith, Option, Some, None, Ok, Err, sym, ap, ◌∙◌}
use Rattle.std.specs.Prelude.{option_map}
use Rattle.model.specs.declared.instr.ReturnKind.{ReturnKind}
use Rattle.model.specs.declared.instr.ReturnKind.TheVariants as kind
use Rattle.model.specs.declared.run.ErrorCode.{ErrorCode}
use Rattle.model.specs.declared.run.ErrorCode.TheVariants as error
use Rattle.model.specs.Deck.Trees.{Bytes}
use Rattle.model.specs.Deck.Target.{Name}
use Rattle.model.specs.Language.Conversions.{Conv, Got, Bad, Op, Gives, Refuses, Faults, conv, to_name}
use Rattle.model.specs.Language.Calls.{AValue, AName, back_to_caller, leave_op, or_no_name}
use Rattle.model.specs.Language.Calls as calls
use Rattle.model.specs.Machine.Steps.{PCode, MVal, MW, MBack}
use Rattle.prototypes.specs.Views.{FunctionView, names_of}
use Rattle.world.specs.Counts.{with_caller}
use Rattle.values.specs.declared.value.Value.{Value}
use Rattle.values.specs.Answers.{AnswersOrFails}
use Rattle.world.specs.Calling.{LeavesTo, given_of, kept_with, older, saved_as, saved_below, saved_by}
use Rattle.world.specs.declared.calls.Kept.{Kept}
use Rattle.world.specs.declared.calls.Given.{Given}
use Rattle.values.specs.declared.fault.Fault.{Fault}
use Rattle.values.specs.declared.fault.Fault.TheVariants as fault

pub gives_value : (name : Bytes) (v : MVal) (w : MW) (c : calls.Kept PCode ℕ) → v ≡ w.vars name → c.name ≡ name → leave_op kind.Return c w ≡ Gives (AValue v) (back_to_caller kind.Return c w)
gives_value name v w c is same = ap (λ x. Gives (AValue (w.vars x)) (back_to_caller kind.Return c w)) same ∙ ap (λ z. Gives (AValue z) (back_to_caller kind.Return c w)) (sym is)

-- what the name comes to that a call should give
abbrev pub given_name : Conv Name → calls.Kept PCode ℕ → MW → Op MW MBack
given_name r c w = conv (or_no_name r) w (λ n. Gives (AName n) (back_to_caller kind.NReturn c w))

by_name : (name : Bytes) (v : MVal) (w : MW) (c : calls.Kept PCode ℕ) → v ≡ w.vars name → c.name ≡ name → leave_op kind.NReturn c w ≡ given_name (to_name v) c w
by_name name v w c is same = ap (λ x. given_name (to_name (w.vars x)) c w) same ∙ ap (λ z. given_name (to_name z) c w) (sym is)

pub gives_name : (name : Bytes) (v : MVal) (n : Name) (w : MW) (c : calls.Kept PCode ℕ) → v ≡ w.vars name → c.name ≡ name → to_name v ≡ Got n → leave_op kind.NReturn c w ≡ Gives (AName n) (back_to_caller kind.NReturn c w)
gives_name name v n w c is same h = by_name name v w c is same ∙ ap (λ r. given_name r c w) h

pub gives_none : (name : Bytes) (v : MVal) (e : ErrorCode) (w : MW) (c : calls.Kept PCode ℕ) → v ≡ w.vars name → c.name ≡ name → to_name v ≡ Bad e → leave_op kind.NReturn c w ≡ Faults error.NotAName w
gives_none name v e w c is same h = by_name name v w c is same ∙ ap (λ r. given_name r c w) h

-- a call that didn't end by a fault
pub left_to : (g : Option Given) (here there w : MW) (o : Op MW MBack) → w ≡ there → LeavesTo (Ok g) here there o → AnswersOrFails (Ok (option_map given_of g)) w o
left_to None here there w o same h = h ∙ ap (λ z. Refuses z) (sym same)
left_to (Some g) here there w o same h = h ∙ ap (λ z. Gives (given_of g) z) (sym same)

pub left_by_fault : (e : Fault) (here there : MW) (o : Op MW MBack) → LeavesTo (Err e) here there o → AnswersOrFails {A = MBack} (Err e) here o
left_by_fault (fault.Error e) here there o h = h
left_by_fault (fault.Stop s) here there o h = tt

-- the keywords of the caller after its variables
pub gone_back : (r : ReturnKind) (k : Kept) (xs : List Bytes) (saved : List Value) (statement level : ℤ) (w w1 w2 : MW) → xs ≡ names_of k.prototype → statement ≡ k.statement → level ≡ k.level
    → w1 ≡ calls.restore (saved_as xs (saved_by xs saved)) w → w2 ≡ with_caller r statement level w1 → w2 ≡ back_to_caller r (kept_with k saved) w
gone_back r k xs saved statement level w w1 w2 names here depth restored last =
    last
    ∙ (λ i. with_caller r (here i) (depth i) w1)
    ∙ ap (with_caller r k.statement k.level) (restored ∙ ap (λ ys. calls.restore (saved_as ys (saved_by ys saved)) w) names)

-- ---- giving back

-- where nothing was saved
pub none_saved : (f : FunctionView) (saved : List Value) → min (length (names_of f)) (length saved) ≡ 0 → (w : MW) → (saved ≡ saved_below (names_of f) saved) × (w ≡ calls.restore (saved_as (names_of f) (saved_by (names_of f) saved)) w)
none_saved f [] none w =
    let at : older (names_of f) [] ≡ 0 = omega arith in (
      sym (ap (λ k. take k []) at),
      sym (ap (λ k. calls.restore (saved_as (names_of f) (drop k [])) w) at),
    )
none_saved f (v ∷ vs) none w = absurd (omega (arith, none))
