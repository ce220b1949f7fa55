-- Keywords in which a run counts its statements and its calls.
use Rattle.std.specs.Prelude.{ℤ, Bool, true, false}
use Rattle.model.specs.declared.instr.ReturnKind.{ReturnKind}
use Rattle.model.specs.declared.keys.KeyId.{KeyId}
use Rattle.model.specs.declared.keys.KeyId.TheVariants as k
use Rattle.model.specs.Language.Keywords.{counted_up, return_name}
use Rattle.model.specs.Language.Values.{keys_of, set_keys}
use Rattle.model.specs.Machine.Steps.{MW}

-- keywords that hold an integer and that the machine reads by itself
abbrev pub is_counted : KeyId → Bool
is_counted k.StLimit = true
is_counted k.StCount = true
is_counted k.StNo = true
is_counted k.StFCount = true
is_counted k.FncLevel = true
is_counted _ = false

-- within one more call
abbrev pub deeper : MW → MW
deeper w = set_keys (record (keys_of w) { fnclevel = counted_up (keys_of w).fnclevel }) w

-- with the keywords of a caller, as a call ends in this way
abbrev pub with_caller : ReturnKind → (statement level : ℤ) → MW → MW
with_caller k statement level w = set_keys (record (keys_of w) { stno = statement; fnclevel = level; rtntype = return_name k }) w
