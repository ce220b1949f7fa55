use Rattle.expr_codegen.specs.Views.{gen_of}
use Rattle.expr_codegen.proofs.Extensions.{extends_texts, longer_numbered}
use Rattle.expr_codegen.proofs.generator.Generator.string.Goals as goal

pub returns-clause-extends : goal.returns-clause-extends
returns-clause-extends c = extends_texts (gen_of c.args.self.now) _ (longer_numbered c.number.result _ _ _ c.number.ensures.put c.number.ensures.refused)
