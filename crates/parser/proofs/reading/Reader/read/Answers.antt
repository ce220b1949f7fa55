use Rattle.std.proofs.Common.{◌∙◌, ◌++◌, ◌∷◌, [], ap, refl}
use Rattle.parser.specs.declared.reading.Noted.TheVariants as noted
use Rattle.parser.proofs.Noting.{cause_is, none_given, none_more, on_ok, tree_of}
use Rattle.parser.proofs.reading.Reader.read.Goals as goal

pub judge-requires : goal.judge-requires
judge-requires c = tree_of c.args.statement.now.text c.text.result.now c.in_ok-found.found c.in-Ok.tree c.new.result c.text.ensures c.in_ok-found.ensures c.in-Ok.is c.new.ensures

pub returns-in_ok-push-in-Err : goal.returns-in_ok-push-in-Err
returns-in_ok-push-in-Err c =
    let e = cause_is c.args.statement.now.text c.text.result.now c.in_ok-found.found c.in-Err.cause c.text.ensures c.in_ok-found.ensures c.in-Err.is in
    record {
      read = λ ss h. none_more ss c.args.statement.now c.args.self.now _ c.in-Err.cause h e refl (c.in_ok-push-in-Err.ensures.items ∙ ap (λ n. c.args.self.now.noted.items ++ noted.Faulty (record { number = n; cause = c.in-Err.cause }) ∷ []) c.number-number.ensures);
      given = none_given c.args.statement.now c.args.self.now c.in-Err.cause e;
    }

pub returns-in-Ok-clause-read : goal.returns-in-Ok-clause-read
returns-in-Ok-clause-read c = on_ok c.judge.result _ _ c.judge.ensures.read (λ put ss h. put ss (record { labels = h.labels; noted = h.noted }))
