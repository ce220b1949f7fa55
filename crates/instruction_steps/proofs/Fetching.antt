-- Instructions that fetch names and assign to them.
use Rattle.std.proofs.Common.{◌≡◌, ℕ, List, ◌∷◌, Option, Result, refl}
use Rattle.model.specs.declared.image.Image.{Image}
use Rattle.model.specs.declared.instr.Instr.TheVariants as op
use Rattle.model.specs.Language.Io.{Io}
use Rattle.model.specs.Language.Conversions.{Op}
use Rattle.model.specs.Language.Operators.{assign_op, fetch_op, splice_op}
use Rattle.model.specs.Machine.Steps as m
use Rattle.model.specs.Machine.Steps.{MVal, MW, OV, Run, after_op, pop, pop_name, pop_span}
use Rattle.pattern_compiler.specs.View.{name_of}
use Rattle.frames.specs.declared.operand.Named.{Named}
use Rattle.frames.specs.declared.operand.Operand.{Operand}
use Rattle.frames.specs.declared.operand.Operand.TheVariants as operand
use Rattle.loader.specs.Places.{offset_at}
use Rattle.frames.specs.Frames.{frames_of}
use Rattle.frames.specs.Stacked.{Stacked}
use Rattle.frames.specs.View.{operands_of}
use Rattle.frames.specs.declared.frame.Frame.{Frame}
use Rattle.values.specs.Answers.{AnswersAs, AnswersOrFails}
use Rattle.operations.specs.Asking.{io_after}
use Rattle.world.specs.Held.{WorldView, world_of}
use Rattle.values.specs.Values.{value_of}
use Rattle.values.specs.declared.value.Value.{Value}
use Rattle.values.specs.declared.matched.Span.{Span}
use Rattle.values.specs.declared.fault.Fault.{Fault}
use Rattle.instruction_steps.specs.Asking.{io_at}
use Rattle.instruction_steps.proofs.Asked.{op_io}
use Rattle.instruction_steps.specs.Held.{Left, Meets, StaysSound, after, handlers_in, waiting}
use Rattle.instruction_steps.specs.declared.state.State.{State}
use Rattle.instruction_steps.specs.declared.status.Exit.{Exit}
use Rattle.model.specs.Machine.Standing.{StateStands}
use Rattle.instruction_steps.proofs.Flowing.{seen, fetch_stands, fetch_above_stands, assign_stands, splice_stands}
use Rattle.instruction_steps.proofs.Operations.{some_answer, some_answer_or_failure}
use Rattle.instruction_steps.proofs.Telling.{no_records}

-- on from these operands and handlers after any operation that has this answer
abbrev pub Goes : Image → List Frame → (q : ℕ) → Result (record {}) Fault → WorldView → List m.Operand → List m.Handler → List m.Frame → Result (Unit {0}) Exit → State → Type 0
Goes im frames q answer mid ops hs fs r new = (io : Io) (o : Op MW (record {})) → AnswersAs answer (world_of mid io) o → Left im frames r new io (after_op o hs ops fs (λ u w. Run (offset_at im.code q) ops hs fs w))

-- on with the value of any operation that has this answer
abbrev pub GoesWith : Image → List Frame → (q : ℕ) → Result (Option MVal) Fault → WorldView → List m.Operand → List m.Handler → List m.Frame → Result (Unit {0}) Exit → State → Type 0
GoesWith im frames q answer mid ops hs fs r new =
    (io : Io) (o : Op MW MVal) → AnswersOrFails answer (world_of mid io) o → Left im frames r new io (after_op o hs ops fs (λ v w. Run (offset_at im.code q) (OV v ∷ ops) hs fs w))

module _ (im : Image) (frames : List Frame) (q : ℕ) (s new : State) (mid : WorldView) (r : Result (Unit {0}) Exit) (rest : Stacked Operand) (n : Named) where
  abbrev hs : List m.Handler
  hs = handlers_in im s

  -- what waits, with the operands that are left
  abbrev fs : List m.Frame
  fs = frames_of (offset_at im.code) frames rest.under s.handlers.under s.saved.items

  abbrev to : ℕ
  to = offset_at im.code q

  abbrev w0 : MW
  w0 = world_of s.world no_records

  -- ---- fetching

  pub fetched : (answer : Result (Option MVal) Fault) → s.operands ≡ record rest { top = operand.Name n ∷ rest.top }
      → GoesWith im frames q answer mid (operands_of rest.top) hs fs r new
      → (io io' : Io) → AnswersOrFails answer (world_of mid io') (fetch_op (name_of n.name) (world_of s.world io)) → Left im frames r new io' (after im op.Fetch q frames s io)
  fetched answer e g io io' x = rw e (g io' (fetch_op (name_of n.name) (world_of s.world io)) x)

  pub fetch_io : s.operands ≡ record rest { top = operand.Name n ∷ rest.top } → (io : Io) → io_at (after im op.Fetch q frames s io) ≡ io_after (fetch_op (name_of n.name) (world_of s.world io))
  fetch_io e io = rw e (op_io (fetch_op (name_of n.name) (world_of s.world io)) hs (operands_of rest.top) fs (λ v w. Run to (OV v ∷ operands_of rest.top) hs fs w) (λ v w. refl))

  pub fetch_sound : (answer : Result (Option MVal) Fault) → Meets im op.Fetch q frames s → s.operands ≡ record rest { top = operand.Name n ∷ rest.top } → GoesWith im frames q answer mid (operands_of rest.top) hs fs r new → StaysSound im frames r new
  fetch_sound answer h e g =
      let o = some_answer_or_failure answer (world_of mid no_records) in
      let stands : StateStands im (pop_name (operands_of s.operands.top) w0 (λ n rest. after_op o.0 hs rest (waiting im frames s) (λ v w. Run to (OV v ∷ rest) hs (waiting im frames s) w))) = fetch_stands im h.0 frames s q h.1 (λ n. o.0) w0 h.2 in
      seen im frames r new no_records _ (g no_records o.0 o.1) (rw e at stands)

  pub fetched_above : (answer : Result (Option MVal) Fault) → s.operands ≡ record rest { top = operand.Name n ∷ rest.top }
      → GoesWith im frames q answer mid (operands_of s.operands.top) hs fs r new
      → (io io' : Io) → AnswersOrFails answer (world_of mid io') (fetch_op (name_of n.name) (world_of s.world io)) → Left im frames r new io' (after im op.FetchK q frames s io)
  fetched_above answer e g io io' x =
      let h : Left im frames r new io' (after_op (fetch_op (name_of n.name) (world_of s.world io)) hs (operands_of s.operands.top) fs (λ v w. Run to (OV v ∷ operands_of s.operands.top) hs fs w)) = g io' (fetch_op (name_of n.name) (world_of s.world io)) x in
      rw e (rw e at h)

  pub fetch_above_io : s.operands ≡ record rest { top = operand.Name n ∷ rest.top } → (io : Io) → io_at (after im op.FetchK q frames s io) ≡ io_after (fetch_op (name_of n.name) (world_of s.world io))
  fetch_above_io e io =
      let ops : List m.Operand = operands_of (operand.Name n ∷ rest.top) in
      rw e (op_io (fetch_op (name_of n.name) (world_of s.world io)) hs ops fs (λ v w. Run to (OV v ∷ ops) hs fs w) (λ v w. refl))

  pub fetch_above_sound : (answer : Result (Option MVal) Fault) → Meets im op.FetchK q frames s → s.operands ≡ record rest { top = operand.Name n ∷ rest.top } → GoesWith im frames q answer mid (operands_of s.operands.top) hs fs r new → StaysSound im frames r new
  fetch_above_sound answer h e g =
      let o = some_answer_or_failure answer (world_of mid no_records) in
      let stands : StateStands im (pop_name (operands_of s.operands.top) w0 (λ n rest. after_op o.0 hs (operands_of s.operands.top) (waiting im frames s) (λ v w. Run to (OV v ∷ operands_of s.operands.top) hs (waiting im frames s) w))) = fetch_above_stands im h.0 frames s q h.1 (λ n. o.0) w0 h.2 in
      let left : Left im frames r new no_records (after_op o.0 hs (operands_of s.operands.top) fs (λ v w. Run to (OV v ∷ operands_of s.operands.top) hs fs w)) = g no_records o.0 o.1 in
      seen im frames r new no_records _ (rw e at left) (rw e at stands)

  -- ---- assigning

  pub assigned : (v : Value) (answer : Result (record {}) Fault) → s.operands ≡ record rest { top = operand.Value v ∷ operand.Name n ∷ rest.top }
      → Goes im frames q answer mid (operands_of rest.top) hs fs r new
      → (io io' : Io) → AnswersAs answer (world_of mid io') (assign_op (name_of n.name) (value_of v) (world_of s.world io)) → Left im frames r new io' (after im op.Assign q frames s io)
  assigned v answer e g io io' x = rw e (g io' (assign_op (name_of n.name) (value_of v) (world_of s.world io)) x)

  pub assign_io : (v : Value) → s.operands ≡ record rest { top = operand.Value v ∷ operand.Name n ∷ rest.top } → (io : Io) → io_at (after im op.Assign q frames s io) ≡ io_after (assign_op (name_of n.name) (value_of v) (world_of s.world io))
  assign_io v e io = rw e (op_io (assign_op (name_of n.name) (value_of v) (world_of s.world io)) hs (operands_of rest.top) fs (λ u w. Run to (operands_of rest.top) hs fs w) (λ u w. refl))

  pub assign_sound : (v : Value) (answer : Result (record {}) Fault) → Meets im op.Assign q frames s → s.operands ≡ record rest { top = operand.Value v ∷ operand.Name n ∷ rest.top } → Goes im frames q answer mid (operands_of rest.top) hs fs r new → StaysSound im frames r new
  assign_sound v answer h e g =
      let o = some_answer answer (world_of mid no_records) in
      let stands : StateStands im (pop (operands_of s.operands.top) w0 (λ v r1. pop_name r1 w0 (λ n rest. after_op o.0 hs rest (waiting im frames s) (λ u w. Run to rest hs (waiting im frames s) w)))) = assign_stands im h.0 frames s q h.1 (λ n v. o.0) w0 h.2 in
      seen im frames r new no_records _ (g no_records o.0 o.1) (rw e at stands)

  pub spliced : (v : Value) (d : Span) (answer : Result (record {}) Fault) → s.operands ≡ record rest { top = operand.Value v ∷ operand.Span d ∷ operand.Name n ∷ rest.top }
      → Goes im frames q answer mid (operands_of rest.top) hs fs r new
      → (io io' : Io) → AnswersAs answer (world_of mid io') (splice_op (name_of n.name) d.subject d.start d.end (value_of v) (world_of s.world io)) → Left im frames r new io' (after im op.Splice q frames s io)
  spliced v d answer e g io io' x = rw e (g io' (splice_op (name_of n.name) d.subject d.start d.end (value_of v) (world_of s.world io)) x)

  pub splice_io : (v : Value) (d : Span) → s.operands ≡ record rest { top = operand.Value v ∷ operand.Span d ∷ operand.Name n ∷ rest.top }
      → (io : Io) → io_at (after im op.Splice q frames s io) ≡ io_after (splice_op (name_of n.name) d.subject d.start d.end (value_of v) (world_of s.world io))
  splice_io v d e io =
      rw e (op_io (splice_op (name_of n.name) d.subject d.start d.end (value_of v) (world_of s.world io)) hs (operands_of rest.top) fs (λ u w. Run to (operands_of rest.top) hs fs w) (λ u w. refl))

  pub splice_sound : (v : Value) (d : Span) (answer : Result (record {}) Fault) → Meets im op.Splice q frames s → s.operands ≡ record rest { top = operand.Value v ∷ operand.Span d ∷ operand.Name n ∷ rest.top } → Goes im frames q answer mid (operands_of rest.top) hs fs r new → StaysSound im frames r new
  splice_sound v d answer h e g =
      let o = some_answer answer (world_of mid no_records) in
      let stands : StateStands im (pop (operands_of s.operands.top) w0 (λ v r1. pop_span r1 w0 (λ t b d r2. pop_name r2 w0 (λ n rest. after_op o.0 hs rest (waiting im frames s) (λ u w. Run to rest hs (waiting im frames s) w))))) = splice_stands im h.0 frames s q h.1 (λ n t b d v. o.0) w0 h.2 in
      seen im frames r new no_records _ (g no_records o.0 o.1) (rw e at stands)
