-- Values and the world. P is what stands for a pattern and E for an unevaluated expression: trees in the meaning, code and a number in the machine.
use Rattle.std.specs.Prelude.{ℕ, List, [], ℤ, pos, Option, Some, None, if◌then◌else◌, bytes_eq, codes}
use Rattle.model.specs.declared.image.Level.{Level}
use Rattle.model.specs.Deck.Trees.{Bytes, Expr}
use Rattle.model.specs.Deck.Target.{Name}
use Rattle.model.specs.Language.Io.{Io}
use Rattle.model.specs.Language.Keywords.{Keys, first_keys, counted_up}
use Rattle.model.specs.Pattern.Patterns as p
use Rattle.model.specs.Pattern.Patterns.{Basic, Kind}

pub data Value (P E : Type 0) : Type 0 where
  Str : Bytes → Value P E
  Int : ℤ → Value P E
  Pat : P → Value P E
  Nam : Name → Value P E
  Exp : E → Value P E
  -- an array, a table or a record, by its number in the order of making
  Obj : ℕ → Value P E

-- how a pattern is made of parts
pub record Makes (P E : Type 0) : Type 0 where
  pub basic : Basic → P
  pub succeed : P
  pub abort : P
  pub fence : P
  pub alt : P → P → P
  pub cat : P → P → P
  pub arbno : P → P
  pub fence_of : P → P
  pub cond : P → Name → P
  pub imm : P → Name → P
  pub cursor : Name → P
  pub defer : E → P
  pub defer_kind : Kind → E → P

abbrev pub Pattern : Type 0
Pattern = p.Pat

-- as trees
abbrev pub pattern_trees : Makes Pattern Expr
pattern_trees = record { basic = p.Plain; succeed = p.Succeed; abort = p.Abort; fence = p.Fence; alt = p.Alt; cat = p.Cat; arbno = p.Arbno; fence_of = p.FenceOf; cond = p.Cond; imm = p.Imm; cursor = p.At; defer = p.Defer; defer_kind = p.DeferBasic }

-- ---- objects

-- the subscripts of a dimension: the lowest, and how many
pub record Bounds : Type 0 where
  pub low : ℤ
  pub count : ℕ

-- what a table holds values for; the integer 1 and the string '1' are apart
pub data Key : Type 0 where
  IntegerAt : ℤ → Key
  StringAt : Bytes → Key

pub record Entry (V : Type 0) : Type 0 where
  pub key : Key
  pub value : V

pub data Object (V : Type 0) : Type 0 where
  -- its dimensions and its elements, those of the last dimension side by side
  ArrayOf : List Bounds → List V → Object V
  -- its entries in the order in which their keys were first assigned
  TableOf : List (Entry V) → Object V
  -- its type, the fields of that type and their values
  RecordOf : Bytes → (fields : List Bytes) → List V → Object V

-- ---- functions that aren't primitive

pub data Function : Type 0 where
  -- by DEFINE: the label where it begins, its arguments and its locals
  Defined : (entry : Bytes) → (arguments locals : List Bytes) → Function
  -- by DATA: makes a record of its own type, with these fields
  Constructor : (fields : List Bytes) → Function
  -- by DATA: the field of its own name
  Field : Function

-- ---- the world

-- what of the world holds no values
pub record Plain : Type 0 where
  -- of the module that runs, the same in the whole run
  pub level : Level
  pub functions : Bytes → Option Function
  pub keys : Keys
  pub reads : Bytes → Option ℕ
  pub writes : Bytes → Option ℕ

pub record World (P E : Type 0) : Type 0 where
  pub vars : Bytes → Value P E
  pub objects : List (Object (Value P E))
  pub plain : Plain
  pub io : Io

module _ {P E : Type 0} where
  abbrev pub set_plain : Plain → World P E → World P E
  set_plain p w = record { vars = w.vars; objects = w.objects; plain = p; io = w.io }

  abbrev pub set_io : Io → World P E → World P E
  set_io o w = record { vars = w.vars; objects = w.objects; plain = w.plain; io = o }

  abbrev pub set_objects : List (Object (Value P E)) → World P E → World P E
  set_objects os w = record { vars = w.vars; objects = os; plain = w.plain; io = w.io }

  abbrev pub set_var : Bytes → Value P E → World P E → World P E
  set_var x v w = record { vars = λ y. if bytes_eq x y then v else w.vars y; objects = w.objects; plain = w.plain; io = w.io }

  abbrev pub keys_of : World P E → Keys
  keys_of w = w.plain.keys

  abbrev pub set_keys : Keys → World P E → World P E
  set_keys ks w = set_plain (record w.plain { keys = ks }) w

  abbrev pub printed_of : World P E → List (record { unit : ℕ; bytes : List ℕ })
  printed_of w = w.io.printed

  -- a statement begins
  abbrev pub enter_stmt : ℕ → World P E → World P E
  enter_stmt n w = let ks : Keys = keys_of w in set_keys (record ks { stcount = counted_up ks.stcount; lastno = ks.stno; stno = pos n }) w

  -- a statement has failed
  abbrev pub count_failure : World P E → World P E
  count_failure w = let ks : Keys = keys_of w in set_keys (record ks { stfcount = counted_up ks.stfcount }) w

  -- the values that variables have at first
  abbrev pub first_value : Makes P E → Bytes → Value P E
  first_value m x =
      if bytes_eq x (codes "ARB") then Pat (m.basic p.Arb)
      else if bytes_eq x (codes "BAL") then Pat (m.basic p.Bal)
      else if bytes_eq x (codes "REM") then Pat (m.basic p.Rem)
      else if bytes_eq x (codes "FAIL") then Pat (m.basic p.Fail)
      else if bytes_eq x (codes "SUCCEED") then Pat m.succeed
      else if bytes_eq x (codes "ABORT") then Pat m.abort
      else if bytes_eq x (codes "FENCE") then Pat m.fence
      else Str []

  -- the world as a run at a level begins, with these records on each unit
  abbrev pub first_world : Level → Makes P E → (ℕ → List Bytes) → World P E
  first_world l m records = record {
    vars = first_value m;
    objects = [];
    plain = record {
      level = l;
      functions = λ f. None;
      keys = first_keys;
      reads = λ x. if bytes_eq x (codes "INPUT") then Some 5 else None;
      writes = λ x. if bytes_eq x (codes "OUTPUT") then Some 6 else (if bytes_eq x (codes "PUNCH") then Some 7 else None);
    };
    io = record { left = records; printed = [] };
  }
