use Rattle.std.proofs.Common.{◌∙◌, ◌+◌, ap, length, refl, arith}
use Rattle.model.specs.Deck.TreeViews.{stmt_of}
use Rattle.codegen.proofs.BuiltImages.{step}
use Rattle.codegen.proofs.building.ImageBuilder.put.Goals as goal

pub next_number-number-requires : goal.next_number-number-requires
next_number-number-requires c =
    let r = c.requires.room in
    let n = r.2.count in
    let f = r.4 in
    let l = ap length c.as_slice.ensures.value in
    omega (arith, n, f, l)

pub statement-requires-clause-few : goal.statement-requires-clause-few
statement-requires-clause-few c =
    let r = c.requires.room in
    let n = r.2.count in
    let f = r.4 in
    let l = ap length c.as_slice.ensures.value in
    let k = c.next_number-number.ensures in
    omega (arith, n, f, l, k)

pub statement-requires-clause-room : goal.statement-requires-clause-room
statement-requires-clause-room c =
    let r = c.requires.room in
    let s = r.2.size in
    let w = r.3 in
    let f = r.4 in
    omega (arith, s, w, f)

pub returns : goal.returns
returns c = λ names ss h.
    step names ss (stmt_of c.args.s.now) c.next_number-number.result c.at-at.result c.args.self.now _ h c.requires.countable refl (c.next_number-number.ensures ∙ ap (λ l. length l + 1) c.as_slice.ensures.value) c.at-at.ensures c.in_ok-push.ensures.items c.entry_after-self.ensures
    c.in_ok-statement.ensures.emits c.in_ok-statement.ensures.size
