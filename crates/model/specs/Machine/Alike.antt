-- How the machine's world stands for the meaning's.
use Rattle.std.specs.Prelude.{◌≡◌, ℕ, List, [], ◌∷◌, ℤ, Option, Some}
use Rattle.model.specs.Deck.Trees.{Bytes, Expr}
use Rattle.model.specs.Deck.Target.{Name}
use Rattle.model.specs.Language.Values.{Str, Int, Pat, Nam, Exp, Obj, Pattern, Bounds, Key, Entry, Object, ArrayOf, TableOf, RecordOf}
use Rattle.model.specs.Language.Calls.{AValue, AName}
use Rattle.model.specs.Language.Meaning.{Val, W, Back}
use Rattle.model.specs.Machine.Steps.{PCode, MVal, MW, MBack}
use Rattle.model.specs.Pattern.Stands.{Stands}

module _ (trees_at : ℕ → Option Expr) where
  -- the machine's value stands for the meaning's
  pub data VR : Val → MVal → Type 0 where
    rstr : (s : Bytes) → VR (Str s) (Str s)
    rint : (z : ℤ) → VR (Int z) (Int z)
    rpat : {p : Pattern} {c : PCode} → Stands trees_at p c → VR (Pat p) (Pat c)
    rnam : (n : Name) → VR (Nam n) (Nam n)
    rexp : {e : Expr} {k : ℕ} → trees_at k ≡ Some e → VR (Exp e) (Exp k)
    robj : (k : ℕ) → VR (Obj k) (Obj k)

  pub data VRs : List Val → List MVal → Type 0 where
    rnil : VRs [] []
    rcons : {v : Val} {m : MVal} {vs : List Val} {ms : List MVal} → VR v m → VRs vs ms → VRs (v ∷ vs) (m ∷ ms)

  pub data EntriesR : List (Entry Val) → List (Entry MVal) → Type 0 where
    enil : EntriesR [] []
    econs : (k : Key) {v : Val} {m : MVal} {es : List (Entry Val)} {fs : List (Entry MVal)} → VR v m → EntriesR es fs → EntriesR (record { key = k; value = v } ∷ es) (record { key = k; value = m } ∷ fs)

  pub data ObjectR : Object Val → Object MVal → Type 0 where
    rarray : (bs : List Bounds) {vs : List Val} {ms : List MVal} → VRs vs ms → ObjectR (ArrayOf bs vs) (ArrayOf bs ms)
    rtable : {es : List (Entry Val)} {fs : List (Entry MVal)} → EntriesR es fs → ObjectR (TableOf es) (TableOf fs)
    rrecord : (t : Bytes) (fields : List Bytes) {vs : List Val} {ms : List MVal} → VRs vs ms → ObjectR (RecordOf t fields vs) (RecordOf t fields ms)

  pub data ObjectsR : List (Object Val) → List (Object MVal) → Type 0 where
    onil : ObjectsR [] []
    ocons : {o : Object Val} {x : Object MVal} {os : List (Object Val)} {xs : List (Object MVal)} → ObjectR o x → ObjectsR os xs → ObjectsR (o ∷ os) (x ∷ xs)

  pub data GR : Back → MBack → Type 0 where
    rval : {v : Val} {m : MVal} → VR v m → GR (AValue v) (AValue m)
    rname : (n : Name) → GR (AName n) (AName n)

  pub record WR (w : W) (m : MW) : Type 0 where
    pub vars : (x : Bytes) → VR (w.vars x) (m.vars x)
    pub objects : ObjectsR w.objects m.objects
    pub plain : w.plain ≡ m.plain
    pub io : w.io ≡ m.io
