-- What calls of keywords return.
use Rattle.std.specs.Prelude.{ℤ, Bool, true, false, Result, Ok, Err, if◌then◌else◌}
use Rattle.model.specs.Language.Keywords.{Keys, allows, return_name, IsInteger, IsText}
use Rattle.model.specs.Language.Keywords as model
use Rattle.model.specs.Language.Names.{is_protected}
use Rattle.model.specs.declared.keys.KeyId.{KeyId}
use Rattle.model.specs.declared.keys.KeyId.TheVariants as k
use Rattle.model.specs.declared.instr.ReturnKind.{ReturnKind}
use Rattle.keywords.specs.declared.KeyFault.{KeyFault}
use Rattle.keywords.specs.declared.KeyFault.TheVariants.{Protected, NotAllowed}
use Rattle.keywords.specs.declared.KeyValue.{KeyValue}
use Rattle.keywords.specs.declared.KeyValue.TheVariants.{Integer, Text}

abbrev pub shown : KeyValue → model.KeyValue
shown (Integer n) = IsInteger n
shown (Text t) = IsText t.now

-- the keywords that the machine counts in
abbrev pub is_counter : KeyId → Bool
is_counter k.StCount = true
is_counter k.StNo = true
is_counter k.LastNo = true
is_counter k.StFCount = true
is_counter k.FncLevel = true
is_counter _ = false

-- the result of a statement's assignment
abbrev pub set_answer : KeyId → ℤ → Result (Unit {0}) KeyFault
set_answer id n = if is_protected id then Err Protected else (if allows id n then Ok tt else Err NotAllowed)

abbrev pub with_return : ReturnKind → Keys → Keys
with_return kind keys = record keys { rtntype = return_name kind }
