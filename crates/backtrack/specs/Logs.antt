-- The logs of a match, and what is left of them at a choice.
use Rattle.std.specs.Prelude.{suc, eqb, ◌≡◌, ◌≤◌, ◌-◌, ℕ, List, [], ◌∷◌, map, reverse, length, take, slice_get, Some, None, true, cond}
use Rattle.model.specs.Pattern.Patterns as p
use Rattle.model.specs.Deck.Target as target
use Rattle.model.specs.Pattern.Steps as s
use Rattle.model.specs.Pattern.Steps.{Code}
use Rattle.pattern_compiler.specs.View.{name_of}
use Rattle.backtrack.specs.declared.assignment.Assignment.{Assignment}
use Rattle.backtrack.specs.declared.trail.Note.{Note}
use Rattle.backtrack.specs.declared.trail.Note.TheVariants as note
use Rattle.backtrack.specs.declared.trail.Entry.{Entry}
use Rattle.backtrack.specs.declared.way_back.Choice.{Choice}
use Rattle.backtrack.specs.declared.way_back.Kind.{Kind}
use Rattle.backtrack.specs.declared.way_back.Kind.TheVariants as kind
use Rattle.backtrack.specs.declared.way_back.WayBack.{WayBack}
use Rattle.backtrack.specs.declared.way_back.WayBack.TheVariants as kept
use Rattle.backtrack.specs.declared.trail.Trail.TheInside.{Inside}
use Rattle.backtrack.specs.Standing.{Standing, Back}

-- what is gone back to, by its kind and its number
abbrev pub kept_by : Kind → ℕ → WayBack
kept_by kind.To n = kept.To n
kept_by kind.Arb n = kept.Arb n
kept_by kind.Bal n = kept.Bal n
kept_by kind.Again n = kept.Again
kept_by kind.Quit n = kept.Quit

-- a choice of this, with the list of notes and the lengths of the logs
pub record IsChoice (x : Choice) (k : WayBack) (q c h : ℕ) (lengths : ℕ × ℕ × ℕ) : Type 0 where
  pub kept : kept_by x.kind x.target ≡ k
  pub place : x.place ≡ q
  pub cursor : x.cursor ≡ c
  pub head : x.head ≡ h
  pub log : x.log ≡ lengths.0
  pub pending : x.pending ≡ lengths.1
  pub codes : x.codes ≡ lengths.2

abbrev pub assigned : Assignment → target.Name × List ℕ
assigned x = (name_of x.name, x.value)

abbrev pub pending_of : List Assignment → p.Pending
pending_of xs = map assigned xs

abbrev pub note_of : Note → s.Note
note_of (note.Opened c) = s.Opened c
note_of (note.Fenced k) = s.Fenced k
note_of (note.Left code q) = s.Left code q

-- the list of notes h of the entries es, the newest first: each list needs the older entries alone
abbrev pub chain : List Entry → ℕ → List s.Note
chain [] h = []
chain (e ∷ es) h = cond (eqb h (suc (length es))) (note_of e.note ∷ chain es e.below) (chain es h)

-- the last code
abbrev pub last_code : List Code → Code
last_code cs = elim (slice_get cs (length cs - 1)) [ None ↦ [] | Some c ↦ c ]

pub record Logs : Type 0 where
  pub codes : List Code
  pub log : List Entry
  pub pending : List Assignment

-- what a choice leaves of them
abbrev pub cut : Logs → Choice → Logs
cut l x = record { codes = take x.codes l.codes; log = take x.log l.log; pending = take x.pending l.pending }

-- a choice with its copy of the attempt, of the logs cut to it
abbrev pub back_of : Logs → Choice → Back
back_of l x =
    record { kept = kept_by x.kind x.target; thread = record { code = last_code l.codes; place = x.place; cursor = x.cursor; notes = chain (reverse l.log) x.head; pending = pending_of l.pending } }

-- the choices, the newest first, each of the logs cut to it
abbrev pub backs : Logs → List Choice → List Back
backs l [] = []
backs l (x ∷ xs) = back_of (cut l x) x ∷ backs (cut l x) xs

-- no mark passes the lengths, and none falls from older to newer choices
abbrev pub Marks : Logs → List Choice → Type 0
Marks l [] = Unit {0}
Marks l (x ∷ xs) =
    (x.codes ≤ length l.codes) × (x.log ≤ length l.log) × (x.pending ≤ length l.pending) × Marks (cut l x) xs

abbrev pub logs_of : Inside → Logs
logs_of a = record { codes = a.codes.items; log = a.log.items; pending = a.pending.items }

abbrev pub standing : Inside → Standing
standing a =
    record { code = a.code; notes = chain (reverse a.log.items) a.head; pending = pending_of a.pending.items; backs = backs (logs_of a) (reverse a.choices.items) }

pub record IsKept (a : Inside) : Type 0 where
  pub marks : Marks (logs_of a) (reverse a.choices.items)
  pub stored : a.stored ≡ true → last_code a.codes.items ≡ a.code
