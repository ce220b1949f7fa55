-- Stacks by their numbers.
use Rattle.std.specs.Prelude.{◌≡◌, ℕ, zero, suc, List, [], ◌∷◌, ◌++◌, Option, Some, None, Bool, true, false, ◌==◌, ◌&&◌, ◌+◌, ◌-◌, nat_lt, if◌then◌else◌, slice_get}
use Rattle.flow_check.specs.declared.pool.Kind.{Kind}
use Rattle.flow_check.specs.declared.pool.Kind.TheVariants.{Value, Name, Span}
use Rattle.flow_check.specs.declared.pool.Top.TheVariants.{Begin, Run}
use Rattle.flow_check.specs.declared.pool.Top.{Top}
use Rattle.flow_check.specs.declared.pool.Node.{Node}

abbrev pub node : Top → ℕ → Node
node t b = record { top = t; below = b }

-- ---- a stack of one BEGIN is known by its number, and all others have nodes

-- the least number of a stack of one BEGIN, which leads to offset 0
abbrev pub first_begin : ℕ
first_begin = 2147483648

-- the number of a stack that is known by it
abbrev pub lone_number : Top → (below : ℕ) → Option ℕ
lone_number (Begin t) b = if (b == 0) && nat_lt t first_begin then Some (first_begin + t) else None
lone_number _ b = None

abbrev pub lone_by : (is_low is_short : Bool) → (target : ℕ) → Option Node
lone_by false true t = Some (node (Begin t) 0)
lone_by _ _ t = None

-- what stands on a stack that is known by its number
abbrev pub lone_at : ℕ → Option Node
lone_at k = lone_by (nat_lt k first_begin) (nat_lt (k - first_begin) first_begin) (k - first_begin)

-- the node of a stack that has one
abbrev pub placed : List Node → ℕ → Option Node
placed ns zero = None
placed ns (suc k) = slice_get ns k

abbrev pub either_node : Option Node → Option Node → Option Node
either_node (Some n) other = Some n
either_node None other = other

-- what stands on the stack of a number
abbrev pub node_at : List Node → ℕ → Option Node
node_at ns k = either_node (lone_at k) (placed ns k)

-- this is the number of the stack
abbrev pub Is : List Node → ℕ → List Top → Type 0
Is ns k [] = k ≡ 0
Is ns k (t ∷ ts) = (below : ℕ) × (node_at ns k ≡ Some (node t below)) × Is ns below ts

-- no stack has two numbers
abbrev pub Distinct : List Node → Type 0
Distinct ns = (i j : ℕ) (n : Node) → node_at ns i ≡ Some n → node_at ns j ≡ Some n → i ≡ j

-- there may be more of them, and if no stack had two numbers, none has
pub record Grows (ns more : List Node) : Type 0 where
  pub late : List Node
  pub longer : more ≡ ns ++ late
  pub distinct : Distinct ns → Distinct more

-- it is the number of the stack where there is one
abbrev pub AreBoth : List Node → Option ℕ → Option (List Top) → Type 0
AreBoth ns None None = Unit {0}
AreBoth ns (Some k) (Some ts) = Is ns k ts
AreBoth ns _ _ = ⊥

-- ---- operands as runs of a kind

abbrev pub same_kind : Kind → Kind → Bool
same_kind Value Value = true
same_kind Name Name = true
same_kind Span Span = true
same_kind _ _ = false

-- how many of the kind stand uppermost
abbrev pub run_length : Kind → List Top → ℕ
run_length k (Run j n ∷ ts) = if same_kind k j then n else 0
run_length k _ = 0

-- and what stands below them
abbrev pub below_run : Kind → List Top → List Top
below_run k (Run j n ∷ ts) = if same_kind k j then ts else Run j n ∷ ts
below_run k ts = ts

-- one more
abbrev pub onto : Kind → List Top → List Top
onto k ts = Run k (run_length k ts + 1) ∷ below_run k ts

-- n fewer, where there are as many
abbrev pub popped : Kind → ℕ → List Top → Option (List Top)
popped k n ts =
    if n == 0 then Some ts
    else if nat_lt (run_length k ts) n then None
    else if run_length k ts == n then Some (below_run k ts)
    else Some (Run k (run_length k ts - n) ∷ below_run k ts)
