use Rattle.std.proofs.Common.{◌++◌, ◌∷◌, [], List, Option, subst}
use Rattle.codegen.specs.Building.{HasPut}
use Rattle.model.specs.Deck.Trees.{Bytes, Stmt}
use Rattle.model.specs.Deck.TreeViews.{stmt_of}
use Rattle.parser.specs.Reads.{IsGiven}
use Rattle.driver.proofs.CompiledDecks.{room, step_faulty, step_put}
use Rattle.driver.proofs.compiling.put_next.Goals as goal

pub put-requires : goal.put-requires
put-requires c =
    let r = c.requires in
    let given = subst (IsGiven c.args.statement.now c.args.reader.now) c.in-Some.is c.in_ok-given.ensures.given in
    let all = room c.decks_fit.ensures c.trees_fit.ensures r.0 r.1 r.2 r.3 c.args.statement.now c.in-Some.tree c.args.reader.now c.args.builder.now r.4 r.5 r.6 r.7 given in
    rw c.deref.ensures (record { countable = all.countable; room = (r.1, r.7.trees, r.7.has_put, all.light, all.few) })

pub returns-in_ok-put : goal.returns-in_ok-put
returns-in_ok-put c = λ names ss i less is kept.
    let given = subst (IsGiven c.args.statement.now c.args.reader.now) c.in-Some.is c.in_ok-given.ensures.given in
    step_put c.trees_fit.ensures names ss i c.args.statement.now c.in-Some.tree c.args.reader.now _ c.args.builder.now _ less is kept c.in_ok-given.ensures.read given
    (subst (λ t. (ns : List (Option Bytes)) (ts : List Stmt) → HasPut ns ts c.args.builder.now → HasPut ns (ts ++ stmt_of t ∷ []) c.put.new.self) c.deref.ensures c.in_ok-put.ensures)

pub returns-in_default : goal.returns-in_default
returns-in_default c = λ names ss i less is kept.
    let given = subst (IsGiven c.args.statement.now c.args.reader.now) c.in_default.is c.in_ok-given.ensures.given in
    step_faulty names ss i c.args.statement.now c.args.reader.now _ c.args.builder.now less is kept c.in_ok-given.ensures.read given
