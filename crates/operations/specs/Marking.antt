-- What marks of objects reach of a world's objects.
use Rattle.std.specs.Prelude.{◌≡◌, ℕ, length, map, slice_get, Some}
use Rattle.model.specs.Language.Values.{Object}
use Rattle.model.specs.Machine.Living.{HeapLives, ObjectLives, cleared}
use Rattle.heap.specs.Marked.{HasMarked, MarksView, marks_in, unmarked}
use Rattle.world.specs.Held.{WorldView}
use Rattle.world.specs.Objects.{object_map}
use Rattle.values.specs.Values.{value_of}
use Rattle.values.specs.declared.value.Value.{Value}

-- some of a world's objects are marked, and no mark is on another one
abbrev pub AreMarksOf : WorldView → MarksView → Type 0
AreMarksOf h m = HasMarked (unmarked (length h.objects)) m

-- what the object of a number holds is marked
abbrev pub LivesAt : WorldView → (number : ℕ) → MarksView → Type 0
LivesAt h number m = (o : Object Value) → slice_get h.objects number ≡ Some o → ObjectLives (marks_in m) (object_map value_of o)

-- and what each marked object holds is
abbrev pub ObjectsLive : WorldView → MarksView → Type 0
ObjectsLive h m = HeapLives (marks_in m) (marks_in m) (map (object_map value_of) h.objects)

-- the world without the objects that have no mark
abbrev pub without_unmarked : WorldView → MarksView → WorldView
without_unmarked h m = record h { objects = cleared (marks_in m) h.objects }
