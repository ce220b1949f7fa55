use Rattle.std.proofs.Common.{subst, sym}
use Rattle.model.specs.Language.Primitives.{returned}
use Rattle.pattern_compiler.specs.View.{kind_of}
use Rattle.primitives.specs.Answers.{ComesTo}
use Rattle.primitives.proofs.KindParts.{kind_is_known}
use Rattle.primitives.proofs.patterns.kind.Goals as goal

pub returns-in_default : goal.returns-in_default
returns-in_default c = record {
  answer = λ w. subst (λ o. ComesTo c.known.result w (returned o)) (sym (kind_is_known (kind_of c.args.kind) c.args.value.now w c.in_default.not-Expression)) (c.known.ensures.answer w);
  stop = c.known.ensures.stop;
}
