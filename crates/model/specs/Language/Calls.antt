-- Functions that aren't primitive: what is kept for the end of a call, and what a call gives.
use Rattle.std.specs.Prelude.{ℕ, zero, suc, List, [], ◌∷◌, ◌++◌, ℤ, Option, None, Some, bytes_eq, if◌then◌else◌}
use Rattle.model.specs.declared.instr.ReturnKind.{ReturnKind}
use Rattle.model.specs.declared.instr.ReturnKind.TheVariants as kind
use Rattle.model.specs.declared.run.ErrorCode.TheVariants as error
use Rattle.model.specs.Deck.Trees.{Bytes}
use Rattle.model.specs.Deck.Target.{Name}
use Rattle.model.specs.Language.Keywords.{counted_up, return_name}
use Rattle.model.specs.Language.Values.{Value, Str, World, RecordOf, set_var, keys_of, set_keys}
use Rattle.model.specs.Language.Conversions.{Conv, Got, Bad, Op, Gives, Refuses, Faults, conv, then_op, to_name}
use Rattle.model.specs.Language.Operators.{fetch_op}
use Rattle.model.specs.Language.Aggregates.{new_object, field_values, field_op}

-- how a label leaves a function, if it does
abbrev pub return_of : Bytes → Option ReturnKind
return_of l =
    if bytes_eq l (return_name kind.Return) then Some kind.Return
    else if bytes_eq l (return_name kind.FReturn) then Some kind.FReturn
    else if bytes_eq l (return_name kind.NReturn) then Some kind.NReturn
    else None

-- what a call gives
pub data Returned (P E : Type 0) : Type 0 where
  AValue : Value P E → Returned P E
  AName : Name → Returned P E

-- a variable's value before a call
pub record Saved (P E : Type 0) : Type 0 where
  pub var : Bytes
  pub value : Value P E

-- what a call keeps for its end
pub record Kept (P E : Type 0) : Type 0 where
  pub name : Bytes
  pub saved : List (Saved P E)
  pub stno : ℤ
  pub fnclevel : ℤ

-- the argument of this number; an absent one is null
abbrev pub arg_at : {P E : Type 0} → List (Value P E) → ℕ → Value P E
arg_at [] i = Str []
arg_at (v ∷ vs) zero = v
arg_at (v ∷ vs) (suc i) = arg_at vs i

-- a value that doesn't convert to a name is no name, whatever its type
abbrev pub or_no_name : Conv Name → Conv Name
or_no_name (Got n) = Got n
or_no_name (Bad e) = Bad error.NotAName

module _ {P E : Type 0} where
  abbrev pub saved_of : List Bytes → World P E → List (Saved P E)
  saved_of [] w = []
  saved_of (x ∷ xs) w = record { var = x; value = w.vars x } ∷ saved_of xs w

  -- each gets its argument, missing ones null
  abbrev pub bind_arguments : List Bytes → List (Value P E) → World P E → World P E
  bind_arguments [] vs w = w
  bind_arguments (x ∷ xs) [] w = bind_arguments xs [] (set_var x (Str []) w)
  bind_arguments (x ∷ xs) (v ∷ vs) w = bind_arguments xs vs (set_var x v w)

  abbrev pub restore : List (Saved P E) → World P E → World P E
  restore [] w = w
  restore (s ∷ ss) w = set_var s.var s.value (restore ss w)

  abbrev pub kept_of : Bytes → (arguments locals : List Bytes) → World P E → Kept P E
  kept_of f xs ys w = record { name = f; saved = saved_of (f ∷ (xs ++ ys)) w; stno = (keys_of w).stno; fnclevel = (keys_of w).fnclevel }

  abbrev pub enter_call : Bytes → (arguments locals : List Bytes) → List (Value P E) → World P E → World P E
  enter_call f xs ys vs w =
      let w1 : World P E = bind_arguments ys [] (bind_arguments xs vs (set_var f (Str []) w)) in
      set_keys (record (keys_of w1) { fnclevel = counted_up (keys_of w1).fnclevel }) w1

  -- the world of the caller
  abbrev pub back_to_caller : ReturnKind → Kept P E → World P E → World P E
  back_to_caller k c w =
      let w1 : World P E = restore c.saved w in
      set_keys (record (keys_of w1) { stno = c.stno; fnclevel = c.fnclevel; rtntype = return_name k }) w1

  -- the end of a call
  abbrev pub leave_op : ReturnKind → Kept P E → World P E → Op (World P E) (Returned P E)
  leave_op kind.Return c w = Gives (AValue (w.vars c.name)) (back_to_caller kind.Return c w)
  leave_op kind.FReturn c w = Refuses (back_to_caller kind.FReturn c w)
  leave_op kind.NReturn c w = conv (or_no_name (to_name (w.vars c.name))) w (λ n. Gives (AName n) (back_to_caller kind.NReturn c w))

  -- where a value is wanted, and where a name is
  abbrev pub as_value : Returned P E → World P E → Op (World P E) (Value P E)
  as_value (AValue v) w = Gives v w
  as_value (AName n) w = fetch_op n w

  abbrev pub as_name : Returned P E → World P E → Op (World P E) Name
  as_name (AValue v) w = Faults error.NotAName w
  as_name (AName n) w = Gives n w

  -- ---- functions that DATA makes

  -- a new record of this type
  abbrev pub construct_op : Bytes → List Bytes → List (Value P E) → World P E → Op (World P E) (Returned P E)
  construct_op t fs vs w = then_op (new_object (RecordOf t fs (field_values fs vs)) w) (λ v w1. Gives (AValue v) w1)

  abbrev pub select_op : Bytes → List (Value P E) → World P E → Op (World P E) (Returned P E)
  select_op f vs w = then_op (field_op f (arg_at vs 0) w) (λ n w1. Gives (AName n) w1)
