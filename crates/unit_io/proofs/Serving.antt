-- What units did for one call carries over to the call around it.
use Rattle.std.proofs.Common.{ℕ, ◌∙◌, Bool, refl, ap, subst, inl, Option, Some, None}
use Rattle.model.specs.Language.Io.{Io}
use Rattle.model.specs.Language.Told.{IfTold}
use Rattle.model.specs.Language.Units.{IsCounted}
use Rattle.model.specs.declared.run.Stop.{Stop}
use Rattle.model.specs.declared.run.Stop.TheVariants as stop
use Rattle.unit_io.specs.Counts.{Same}
use Rattle.unit_io.specs.Service.{IsQuiet, IsStop, KeepsCounts, KeepsIo, OfAny, OfSome, OfThese, ReadsOne, Served, ServedAll}
use Rattle.unit_io.specs.Ways.{Way, MayFail, FailsNoMore}
use Rattle.unit_io.specs.declared.units.Units.{Ghosts as Units}

-- what may fail

pub no_more : (may : Way → ℕ → Bool) → FailsNoMore may may
no_more may way unit h = h

pub no_more_since : (a b c : Way → ℕ → Bool) → FailsNoMore a b → FailsNoMore b c → FailsNoMore a c
no_more_since a b c s t way unit h = s way unit (t way unit h)

-- what may fail now could fail before
pub failing_before : {may now_may : Way → ℕ → Bool} (way : Way) (unit : ℕ) → FailsNoMore may now_may → MayFail now_may way unit → MayFail may way unit
failing_before way unit sound f = record { so = sound way unit f.so }

pub told_same : (o : Option Io) (P : Io → Io → Type 0) → ((io : Io) → P io io) → IfTold o o P
told_same None P h = tt
told_same (Some io) P h = h io

pub told_on : (o n : Option Io) (P Q : Io → Io → Type 0) → ((a b : Io) → P a b → Q a b) → IfTold o n P → IfTold o n Q
told_on None n P Q f h = tt
told_on (Some a) None P Q f h = absurd h
told_on (Some a) (Some b) P Q f h = f a b h

pub told_then : (o m n : Option Io) (P Q R : Io → Io → Type 0) → ((a b c : Io) → P a b → Q b c → R a c) → IfTold o m P → IfTold m n Q → IfTold o n R
told_then None m n P Q R f g h = tt
told_then (Some a) None n P Q R f g h = absurd g
told_then (Some a) (Some b) None P Q R f g h = absurd h
told_then (Some a) (Some b) (Some c) P Q R f g h = f a b c g h

pub some_on : {P Q : Io → Io → Type 0} → ((a b : Io) → P a b → Q a b) → OfSome P → OfSome Q
some_on f (OfAny h) = OfAny (λ io. f io io (h io))
some_on f (OfThese a b h) = OfThese a b (f a b h)

-- what follows from what was said of the units, where the call around stopped as this one did
pub served_on : {U : Type 0} {units : Units U} {why : Option Stop} {old new : U} {P Q : Io → Io → Type 0} → Served units why old new P → ((a b : Io) → P a b → Q a b) → Served units why old new Q
served_on {P = P} {Q = Q} s f = record { told = told_on _ _ P Q f s.told; some = some_on f s.some; counts = s.counts; sound = s.sound }

-- the same where the call around has its own reason
pub served_for : {U : Type 0} {units : Units U} {why why' : Option Stop} {old new : U} {P Q : Io → Io → Type 0} → Served units why old new P
    → (KeepsCounts why (units.failures old) (units.failures new) → KeepsCounts why' (units.failures old) (units.failures new)) → ((a b : Io) → P a b → Q a b) → Served units why' old new Q
served_for {P = P} {Q = Q} s counts f = record { told = told_on _ _ P Q f s.told; some = some_on f s.some; counts = counts s.counts; sound = s.sound }

-- no unit was used
pub served_none : {U : Type 0} (units : Units U) (u : U) {P : Io → Io → Type 0} → ((io : Io) → P io io) → Served units None u u P
served_none units u {P} h = record { told = told_same (units.told u) P h; some = OfAny h; counts = λ unit. refl; sound = no_more _ }

-- ---- one call after another

stop_since : (e : Stop) (a b c : ℕ → ℕ) → Same a b → IsStop e b c → IsStop e a c
stop_since stop.NoMemory a b c s h = λ u. h u ∙ s u
stop_since (stop.Unit u f) a b c s h = (h.0, subst (λ n. IsCounted f n (c u)) (s u) h.1, λ v n. h.2 v n ∙ s v)

-- calls that leave the counts, and then one that may stop
pub counts_since : (why : Option Stop) (a b c : ℕ → ℕ) → Same a b → KeepsCounts why b c → KeepsCounts why a c
counts_since None a b c s h = λ u. h u ∙ s u
counts_since (Some e) a b c s h = stop_since e a b c s h

-- calls of which no units need be told
pub all_on : {U : Type 0} {units : Units U} {why : Option Stop} {old new : U} {P Q : Io → Io → Type 0} → ServedAll units why old new P → ((a b : Io) → P a b → Q a b) → ServedAll units why old new Q
all_on {P = P} {Q = Q} s f = record { told = told_on _ _ P Q f s.told; counts = s.counts; sound = s.sound }

-- and some that may be told, after all
pub with_some : {U : Type 0} {units : Units U} {why : Option Stop} {old new : U} {P : Io → Io → Type 0} → ServedAll units why old new P → OfSome P → Served units why old new P
with_some s some = record { told = s.told; some = some; counts = s.counts; sound = s.sound }

pub all_none : {U : Type 0} (units : Units U) (u : U) {P : Io → Io → Type 0} → ((io : Io) → P io io) → ServedAll units None u u P
all_none units u {P} h = record { told = told_same (units.told u) P h; counts = λ unit. refl; sound = no_more _ }

pub served_then : {U : Type 0} {units : Units U} {why : Option Stop} {a b c : U} {P Q : Io → Io → Type 0} (R : Io → Io → Type 0) → ServedAll units None a b P → Served units why b c Q → ((x y z : Io) → P x y → Q y z → R x z) → ServedAll units why a c R
served_then {why = why} {P = P} {Q = Q} R s t f = record { told = told_then _ _ _ P Q R f s.told t.told; counts = counts_since why _ _ _ s.counts t.counts; sound = no_more_since _ _ _ s.sound t.sound }

-- ---- calls that stopped

-- no unit was used
pub reads_none : (why : Option Stop) (o : Option Io) → ReadsOne why o o
reads_none why o = told_same o _ (λ io. (refl, inl refl))

pub quiet_same : (why : Option Stop) (o : Option Io) → IsQuiet why o o
quiet_same None o = tt
quiet_same (Some x) o = reads_none (Some x) o

pub kept_same : (why : Option Stop) (o : Option Io) → KeepsIo why o o
kept_same None o = tt
kept_same (Some x) o = told_same o _ (λ io. refl)

-- what changes nothing reads nothing
pub kept_quiet : (why : Option Stop) (a b : Option Io) → KeepsIo why a b → IsQuiet why a b
kept_quiet None a b h = tt
kept_quiet (Some x) a b h = told_on a b _ _ (λ io io' same. (ap (λ (z : Io). z.printed) same, inl (ap (λ (z : Io). z.left) same))) h
