use Rattle.std.proofs.Common.{◌≡◌, ◌+◌, ◌-◌, ◌*◌, length, map}
use Rattle.std.specs.Prelude.{Some}
use Rattle.model.specs.Deck.Parse.{next, lefts, rights, graded, element, whole, several}
use Rattle.model.specs.Deck.TreeViews.{args_of}
use Rattle.stmt_parser.specs.Views.{boxed_of, grade_ahead}
use Rattle.stmt_parser.proofs.Loops.{before, prepend, onto}
use Rattle.stmt_parser.proofs.expressions.+expr.Given as goal

abbrev pub decreases-graded : goal.decreases-graded
decreases-graded l = l.depth * 64 + 4 * l.grade + 6

abbrev pub decreases-assigned : goal.decreases-assigned
decreases-assigned l = l.depth * 64 + 9

abbrev pub decreases-climbed : goal.decreases-climbed
decreases-climbed l = l.depth * 64 + 4 * l.grade + 5

abbrev pub decreases-lefts : goal.decreases-lefts
decreases-lefts l = l.depth * 64 + 4 * l.grade + 4

abbrev pub decreases-rights : goal.decreases-rights
decreases-rights l = l.depth * 64 + 10

abbrev pub decreases-tight : goal.decreases-tight
decreases-tight l = l.depth * 64 + 12

abbrev pub decreases-powered : goal.decreases-powered
decreases-powered l = l.depth * 64 + 11

abbrev pub decreases-marked : goal.decreases-marked
decreases-marked l = l.depth * 64 + 1

abbrev pub decreases-unary_marked : goal.decreases-unary_marked
decreases-unary_marked l = l.depth * 64

abbrev pub decreases-bare : goal.decreases-bare
decreases-bare l = l.depth * 64 + 42

abbrev pub decreases-named : goal.decreases-named
decreases-named l = l.depth * 64 + 40

abbrev pub decreases-several : goal.decreases-several
decreases-several l = l.depth * 64 + 38

abbrev pub decreases-bracketed : goal.decreases-bracketed
decreases-bracketed l = l.depth * 64 + 36

abbrev pub decreases-one : goal.decreases-one
decreases-one l = l.depth * 64 + 36

abbrev pub invariant-climbed-loop-below : goal.invariant-climbed-loop-below
invariant-climbed-loop-below l = (graded (element l.depth) l.below l.fn.cursor ≡ Some (boxed_of l.found, l.cursor)) × (l.ahead ≡ grade_ahead (next l.cursor))

abbrev pub invariant-unary_marked-loop-turn : goal.invariant-unary_marked-loop-turn
invariant-unary_marked-loop-turn l = element l.depth l.fn.cursor ≡ before l.marks.items (element (l.depth - l.turn) l.cursor)

abbrev pub invariant-lefts-loop-turn : goal.invariant-lefts-loop-turn
invariant-lefts-loop-turn l =
    lefts (graded (element l.depth) (l.grade - 1)) l.grade (length l.fn.cursor) (boxed_of l.fn.found) l.fn.cursor
    ≡ lefts (graded (element l.depth) (l.grade - 1)) l.grade (l._turn-end - l._turn) (boxed_of l.found) l.cursor

abbrev pub invariant-rights-loop-turn : goal.invariant-rights-loop-turn
invariant-rights-loop-turn l =
    rights (graded (element l.depth) 1) 2 l.turns l.fn.cursor
    ≡ onto (map boxed_of l.operands.items) (rights (graded (element l.depth) 1) 2 (l.turns - l._turn) l.cursor)

abbrev pub invariant-several-loop-turn : goal.invariant-several-loop-turn
invariant-several-loop-turn l = several (whole l.depth) l.turns l.fn.cursor ≡ prepend (args_of l.found.items) (several (whole l.depth) (l.turns - l._turn) l.cursor)
