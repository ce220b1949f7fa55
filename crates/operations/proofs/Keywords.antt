-- Keywords that a statement assigns to.
use Rattle.std.proofs.Common.{◌≡◌, List, Bool, true, false, true≢false, ℤ, Result, Ok, Err, refl, sym, ap, ◌∙◌}
use Rattle.std.specs.Prelude.{if◌then◌else◌}
use Rattle.model.specs.declared.keys.KeyId.{KeyId}
use Rattle.model.specs.declared.keys.KeyId.TheVariants as k
use Rattle.model.specs.declared.run.ErrorCode.TheVariants as error
use Rattle.model.specs.declared.image.Level.{Level}
use Rattle.model.specs.Deck.Trees.{Bytes}
use Rattle.model.specs.Language.Io.{Io}
use Rattle.model.specs.Language.Keywords.{Keys, allows, put_key}
use Rattle.model.specs.Language.Names.{is_protected}
use Rattle.model.specs.Language.Values.{Object, set_keys, keys_of}
use Rattle.model.specs.Language.Conversions.{Got, Op, Gives, Faults, conv, to_integer}
use Rattle.model.specs.Language.Operators.{keyset_op}
use Rattle.model.specs.Machine.Steps.{MVal, MW}
use Rattle.keywords.specs.Answers.{set_answer}
use Rattle.keywords.specs.declared.KeyFault.{KeyFault}
use Rattle.keywords.specs.declared.KeyFault.TheVariants.{Protected, NotAllowed}
use Rattle.values.specs.Functions.{Functions}
use Rattle.world.specs.Held.{WorldView, world_of}
use Rattle.values.specs.declared.value.Value.{Value}
use Rattle.values.specs.declared.variable.Variable.{Variable}

protected_is_refused : (id : KeyId) (z : ℤ) → is_protected id ≡ true → allows id z ≡ false
protected_is_refused k.Anchor z h = absurd (true≢false (sym h))
protected_is_refused k.FullScan z h = absurd (true≢false (sym h))
protected_is_refused k.Trim z h = absurd (true≢false (sym h))
protected_is_refused k.Input z h = absurd (true≢false (sym h))
protected_is_refused k.Output z h = absurd (true≢false (sym h))
protected_is_refused k.StLimit z h = absurd (true≢false (sym h))
protected_is_refused k.MaxLngth z h = absurd (true≢false (sym h))
protected_is_refused k.Alphabet z h = refl
protected_is_refused k.StCount z h = refl
protected_is_refused k.StNo z h = refl
protected_is_refused k.LastNo z h = refl
protected_is_refused k.StFCount z h = refl
protected_is_refused k.FncLevel z h = refl
protected_is_refused k.RtnType z h = refl

abbrev pub answer_by : (protected allowed : Bool) → Result (Unit {0}) KeyFault
answer_by p a = if p then Err Protected else (if a then Ok tt else Err NotAllowed)

ok_by : (p a : Bool) → answer_by p a ≡ Ok tt → a ≡ true
ok_by true a e = absurd (cc)
ok_by false true e = refl
ok_by false false e = absurd (cc)

err_by : (p a : Bool) (f : KeyFault) → (p ≡ true → a ≡ false) → answer_by p a ≡ Err f → a ≡ false
err_by true a f h e = h refl
err_by false true f h e = absurd (cc)
err_by false false f h e = refl

abbrev pub by_test : Bool → KeyId → ℤ → MW → Op MW (record {})
by_test b id z w = if b then Gives (record {}) (set_keys (put_key id z (keys_of w)) w) else Faults error.BadKeywordValue w

tested : (id : KeyId) (z : ℤ) (v : MVal) (w : MW) (b : Bool) → Got z ≡ to_integer v → allows id z ≡ b → by_test b id z w ≡ keyset_op id v w
tested id z v w b is e = ap (λ x. by_test x id z w) (sym e) ∙ ap (λ c. conv c w (λ n. by_test (allows id n) id n w)) is

pub key_is_set : (id : KeyId) (z z' : ℤ) (v : MVal) (vs : List (Bytes × Variable)) (os : List (Object Value)) (fs : Functions) (ks new : Keys) (lv : Level) (ns : List Bytes) (held : WorldView) (r : Result (Unit {0}) KeyFault) → record { variables = vs; objects = os; functions = fs; keys = ks; level = lv; names = ns } ≡ held → z' ≡ z → Got z ≡ to_integer v → r ≡ set_answer id z' → r ≡ Ok tt → new ≡ put_key id z' ks
    → (io : Io) → Gives (record {}) (world_of (record { variables = vs; objects = os; functions = fs; keys = new; level = lv; names = ns }) io) ≡ keyset_op id v (world_of held io)
key_is_set id z z' v vs os fs ks new lv ns held r same near is answer ok put io =
    ap (λ x. Gives (record {}) (world_of (record { variables = vs; objects = os; functions = fs; keys = x; level = lv; names = ns }) io)) (put ∙ ap (λ x. put_key id x ks) near)
    ∙ tested id z v (world_of (record { variables = vs; objects = os; functions = fs; keys = ks; level = lv; names = ns }) io) true is (ok_by (is_protected id) (allows id z) (sym (answer ∙ ap (set_answer id) near) ∙ ok))
    ∙ ap (λ h. keyset_op id v (world_of h io)) same

pub key_is_refused : (id : KeyId) (z z' : ℤ) (v : MVal) (held : WorldView) (new : Keys) (r : Result (Unit {0}) KeyFault) (f : KeyFault) → z' ≡ z → Got z ≡ to_integer v → r ≡ set_answer id z' → r ≡ Err f → new ≡ held.keys
    → (io : Io) → Faults error.BadKeywordValue (world_of (record held { keys = new }) io) ≡ keyset_op id v (world_of held io)
key_is_refused id z z' v held new r f near is answer refused same io =
    ap (λ x. Faults error.BadKeywordValue (world_of (record held { keys = x }) io)) same
    ∙ tested id z v (world_of held io) false is (err_by (is_protected id) (allows id z) f (protected_is_refused id z) (sym (answer ∙ ap (set_answer id) near) ∙ refused))
