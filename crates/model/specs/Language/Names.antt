-- The names of keywords and primitives, and the most arguments that each primitive takes.
use Rattle.std.specs.Prelude.{ℕ, List, [], ◌∷◌, Option, Some, None, Bool, true, false, if◌then◌else◌, codes}
use Rattle.std.specs.List.{find}
use Rattle.std.specs.Str.{bytes_eq}
use Rattle.model.specs.declared.image.Level.{Level}
use Rattle.model.specs.declared.image.Level.TheVariants as levels
use Rattle.model.specs.declared.keys.KeyId.{KeyId}
use Rattle.model.specs.declared.keys.KeyId.TheVariants as k
use Rattle.model.specs.declared.primitives.PrimId.{PrimId}
use Rattle.model.specs.declared.primitives.PrimId.TheVariants as p

-- the first of the listed that has this name
unfoldable pub named : {A : Type 0} → (A → List ℕ) → List A → List ℕ → Option A
named name listed text = find (λ x. bytes_eq (name x) text) listed

-- ---- keywords
abbrev pub key_name : KeyId → List ℕ
key_name k.Anchor = codes "ANCHOR"
key_name k.FullScan = codes "FULLSCAN"
key_name k.Trim = codes "TRIM"
key_name k.Input = codes "INPUT"
key_name k.Output = codes "OUTPUT"
key_name k.StLimit = codes "STLIMIT"
key_name k.MaxLngth = codes "MAXLNGTH"
key_name k.Alphabet = codes "ALPHABET"
key_name k.StCount = codes "STCOUNT"
key_name k.StNo = codes "STNO"
key_name k.LastNo = codes "LASTNO"
key_name k.StFCount = codes "STFCOUNT"
key_name k.FncLevel = codes "FNCLEVEL"
key_name k.RtnType = codes "RTNTYPE"

-- each keyword, in the order of the codes
abbrev pub keys : List KeyId
keys = k.Anchor ∷ k.FullScan ∷ k.Trim ∷ k.Input ∷ k.Output ∷ k.StLimit ∷ k.MaxLngth ∷ k.Alphabet ∷ k.StCount ∷ k.StNo ∷ k.LastNo ∷ k.StFCount ∷ k.FncLevel ∷ k.RtnType ∷ []

unfoldable pub key_named : List ℕ → Option KeyId
key_named = named key_name keys

-- whether no statement may assign it
abbrev pub is_protected : KeyId → Bool
is_protected k.Alphabet = true
is_protected k.StCount = true
is_protected k.StNo = true
is_protected k.LastNo = true
is_protected k.StFCount = true
is_protected k.FncLevel = true
is_protected k.RtnType = true
is_protected _ = false

-- ---- primitives
abbrev pub prim_name : PrimId → List ℕ
prim_name p.Len = codes "LEN"
prim_name p.Pos = codes "POS"
prim_name p.RPos = codes "RPOS"
prim_name p.Tab = codes "TAB"
prim_name p.RTab = codes "RTAB"
prim_name p.Any = codes "ANY"
prim_name p.NotAny = codes "NOTANY"
prim_name p.Span = codes "SPAN"
prim_name p.Break = codes "BREAK"
prim_name p.Arbno = codes "ARBNO"
prim_name p.Eq = codes "EQ"
prim_name p.Ne = codes "NE"
prim_name p.Lt = codes "LT"
prim_name p.Le = codes "LE"
prim_name p.Gt = codes "GT"
prim_name p.Ge = codes "GE"
prim_name p.Lgt = codes "LGT"
prim_name p.Ident = codes "IDENT"
prim_name p.Differ = codes "DIFFER"
prim_name p.Integer = codes "INTEGER"
prim_name p.Size = codes "SIZE"
prim_name p.Trim = codes "TRIM"
prim_name p.Dupl = codes "DUPL"
prim_name p.Replace = codes "REPLACE"
prim_name p.Remdr = codes "REMDR"
prim_name p.DataType = codes "DATATYPE"
prim_name p.Array = codes "ARRAY"
prim_name p.Table = codes "TABLE"
prim_name p.Item = codes "ITEM"
prim_name p.Copy = codes "COPY"
prim_name p.Convert = codes "CONVERT"
prim_name p.Data = codes "DATA"
prim_name p.Define = codes "DEFINE"
prim_name p.Apply = codes "APPLY"
prim_name p.Input = codes "INPUT"
prim_name p.Output = codes "OUTPUT"
prim_name p.Detach = codes "DETACH"
prim_name p.Fence = codes "FENCE"

-- each primitive, in the order of the codes
abbrev pub prims : List PrimId
prims = p.Len ∷ p.Pos ∷ p.RPos ∷ p.Tab ∷ p.RTab ∷ p.Any ∷ p.NotAny ∷ p.Span ∷ p.Break ∷ p.Arbno ∷ p.Eq ∷ p.Ne ∷ p.Lt ∷ p.Le ∷ p.Gt ∷ p.Ge ∷ p.Lgt ∷ p.Ident ∷ p.Differ ∷ p.Integer ∷ p.Size ∷ p.Trim ∷ p.Dupl ∷ p.Replace ∷ p.Remdr ∷ p.DataType ∷ p.Array ∷ p.Table ∷ p.Item ∷ p.Copy ∷ p.Convert ∷ p.Data ∷ p.Define ∷ p.Apply ∷ p.Input ∷ p.Output ∷ p.Detach ∷ p.Fence ∷ []

unfoldable pub prim_named : List ℕ → Option PrimId
prim_named = named prim_name prims

-- those that came with level 2: FENCE of a pattern
abbrev pub is_newer : PrimId → Bool
is_newer p.Fence = true
is_newer _ = false

-- what a level has
abbrev pub at_level : Level → Option PrimId → Option PrimId
at_level levels.One None = None
at_level levels.One (Some p) = if is_newer p then None else Some p
at_level levels.Two o = o

-- the primitive of a name at a level
abbrev pub prim_at : Level → List ℕ → Option PrimId
prim_at l f = at_level l (prim_named f)

-- the most arguments
abbrev pub most_args : PrimId → ℕ
most_args p.Eq = 2
most_args p.Ne = 2
most_args p.Lt = 2
most_args p.Le = 2
most_args p.Gt = 2
most_args p.Ge = 2
most_args p.Lgt = 2
most_args p.Ident = 2
most_args p.Differ = 2
most_args p.Dupl = 2
most_args p.Replace = 3
most_args p.Remdr = 2
most_args p.Array = 2
most_args p.Table = 2
most_args p.Item = 9
most_args p.Convert = 2
most_args p.Define = 2
most_args p.Apply = 255
most_args p.Input = 3
most_args p.Output = 3
most_args _ = 1
