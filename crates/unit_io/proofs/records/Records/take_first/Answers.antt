use Rattle.std.proofs.Common.{◌≡◌, ℕ, ◌+◌, ◌-◌, ◌<◌, List, length, take, drop, Some, subst, ap, ◌∙◌, arith}
use Rattle.std.specs.Prelude.{slice_range}
use Rattle.model.specs.Language.Units.{records_of, first_of, rest_of}
use Rattle.memchr.specs.Find.{IsFirstByte, is_byte}
use Rattle.unit_io.proofs.FirstLine.{took_line, took_all}
use Rattle.unit_io.proofs.records.Records.take_first.Goals as goal
use Rattle.unit_io.proofs.records.Records.take_first.Goals.{in-Some, in-None}

pub returns-clause-ok : goal.returns-clause-ok
returns-clause-ok c =
    let at = c.self.inside.at in
    let text : List ℕ = c.self.inside.text in
    let seen : IsFirstByte (is_byte 10) (take (length text - at) (drop at text)) c.memchr.result =
    subst (λ (bytes : List ℕ). IsFirstByte (is_byte 10) (take (length bytes - at) (drop at bytes)) c.memchr.result) c.as_slice-bytes.ensures c.memchr.ensures in
    let long : length c.as_slice-bytes.result.now ≡ length text = ap length c.as_slice-bytes.ensures in
    let ended : (end after : ℕ) → c.match-memchr.end ≡ (end, after) → (Some (slice_range text at end) ≡ first_of c.args.self.now) × (records_of (drop after text) ≡ rest_of c.args.self.now) → (Some c.in-Ok.record ≡ first_of c.args.self.now) × (records_of (drop c.match-memchr.end.1 text) ≡ rest_of c.args.self.now) =
    λ end after is parts. (ap Some (c.in-Ok.ensures.ok ∙ ap (λ (e : ℕ × ℕ). slice_range text at e.0) is) ∙ parts.0, ap (λ (e : ℕ × ℕ). records_of (drop e.1 text)) is ∙ parts.1) in
    elim c.match-memchr.branch [
      | in-Some w ↦
          let parts = took_line text at c.args.self.now c.self.view_is w.in-Some.k (subst (IsFirstByte (is_byte 10) (take (length text - at) (drop at text))) w.in-Some.is seen) in
          let onward : at + w.in-Some.k + 1 ≡ at + (w.in-Some.k + 1) = omega arith in
          ended _ _ w.end-is (parts.0, ap (λ n. records_of (drop n text)) onward ∙ parts.1)
      | in-None w ↦
          let some : at < length text = omega (arith, c.self.invariant, c.if-self-len.false, long) in
          let parts = took_all text at c.args.self.now c.self.view_is some (subst (IsFirstByte (is_byte 10) (take (length text - at) (drop at text))) w.in-None.is seen) in
          ended _ _ w.end-is (ap (λ n. Some (slice_range text at n)) long ∙ parts.0, ap (λ n. records_of (drop n text)) long ∙ parts.1)
    ]
