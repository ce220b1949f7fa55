use Rattle.std.proofs.Common.{◌++◌, ◌∙◌, ℕ, ℤ, List, ap, rules, subst, sym, w64}
use Rattle.std.proofs.lemmas.Int.{to_z-of_z}
use Rattle.std.specs.Io.KnownBytes.{Appends}
use Rattle.std.specs.Prelude.{codes, decimal}
use Rattle.std.specs.Fmt.{signed_decimal}
use Rattle.driver.specs.FaultLines.{line}
use Rattle.driver.specs.Lines.{card_text, ending_lines}
use Rattle.driver.proofs.LinesTold.{parts_told}
use Rattle.driver.proofs.telling.tell_ending.Goals as goal

pub returns-in_ok-write-in-StLimit : goal.returns-in_ok-write-in-StLimit
returns-in_ok-write-in-StLimit g c =
    parts_told c.end_with_card-in-StLimit.result _ (codes "stlimit statement " ++ decimal c.in-StLimit.statement) (line (card_text c.args.card)) _ _ _
    (ap (λ e. ending_lines e c.args.card) c.in-StLimit.is) c.in_ok-write-in-StLimit.ensures.bytes c.end_with_card-in-StLimit.ensures

pub returns-in_ok-write-in-Error : goal.returns-in_ok-write-in-Error
returns-in_ok-write-in-Error g c =
    let written : ℤ → List ℕ = λ z. codes "error E" ++ (decimal c.error_number-number.result ++ (codes " statement " ++ signed_decimal z)) in
    parts_told c.end_with_card.result _ (written c.in-Error.statement) (line (card_text c.args.card)) _ _ _
    (ap (λ e. ending_lines e c.args.card) c.in-Error.is ∙ ap (λ n. (codes "error E" ++ (decimal n ++ (codes " statement " ++ signed_decimal c.in-Error.statement))) ++ line (card_text c.args.card)) (sym c.error_number-number.ensures))
    (subst (λ z. Appends (g.W.Write.contents c.args.out.now) (g.W.Write.contents c.write.new.self) (written z)) (to_z-of_z w64 c.in-Error.statement (search rules)) c.in_ok-write-in-Error.ensures.bytes)
    c.end_with_card.ensures
