-- Worked cases: at level 1 the name FENCE is no primitive's.
use Rattle.std.proofs.Common.{◌≡◌, [], ◌∷◌, Some, None, codes, refl}
use Rattle.model.specs.declared.image.Level.TheVariants as levels
use Rattle.model.specs.declared.primitives.PrimId.TheVariants as prims
use Rattle.model.specs.Language.Names.{prim_named, named, prim_at}
use Rattle.model.specs.Language.Prototypes.{function_prototype, type_prototype}

older_name : prim_at levels.One (codes "FENCE") ≡ None
unfolding prim_named named
older_name = refl

newer_name : prim_at levels.Two (codes "FENCE") ≡ Some prims.Fence
unfolding prim_named named
newer_name = refl

name_of_each_level : prim_at levels.One (codes "DETACH") ≡ Some prims.Detach
unfolding prim_named named
name_of_each_level = refl

older_function : function_prototype levels.One (codes "FENCE(P)") ≡ Some (record { name = codes "FENCE"; arguments = codes "P" ∷ []; locals = [] })
unfolding prim_named named
older_function = refl

newer_function : function_prototype levels.Two (codes "FENCE(P)") ≡ None
unfolding prim_named named
newer_function = refl

older_type : type_prototype levels.One (codes "NODE(FENCE)") ≡ Some (record { name = codes "NODE"; fields = codes "FENCE" ∷ []; rest = [] })
unfolding prim_named named
older_type = refl

newer_type : type_prototype levels.Two (codes "NODE(FENCE)") ≡ None
unfolding prim_named named
newer_type = refl
