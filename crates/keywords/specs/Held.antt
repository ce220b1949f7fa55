-- The keywords as the fields hold them.
use Rattle.std.specs.Prelude.{◌≡◌, ◌≤ℤ◌, pos, List, [], ℕ, Option, Some, None}
use Rattle.model.specs.Language.Keywords.{Keys, alphabet, return_name}
use Rattle.model.specs.declared.instr.ReturnKind.{ReturnKind}
use Rattle.model.specs.declared.instr.ReturnKind.TheVariants.{Return, FReturn, NReturn}
use Rattle.keywords.specs.declared.Keywords.TheInside.{Inside}

-- what RTNTYPE holds after this return as the newest, or before the first
abbrev pub return_text : Option ReturnKind → List ℕ
return_text None = []
return_text (Some kind) = return_name kind

abbrev pub keys_of : Inside → Keys
keys_of k = record {
  anchor = k.anchor;
  fullscan = k.full_scan;
  trim = k.trim;
  input = k.input;
  output = k.output;
  stlimit = k.st_limit;
  maxlngth = k.max_lngth;
  stcount = k.st_count;
  stno = k.st_no;
  lastno = k.last_no;
  stfcount = k.st_f_count;
  fnclevel = k.fnc_level;
  rtntype = return_text k.newest_return;
}

-- what is true of the fields at all times
pub record IsHeld (k : Inside) : Type 0 where
  pub least : pos 0 ≤ℤ k.max_lngth
  pub most : k.max_lngth ≤ℤ pos 16777216
  pub bytes : k.alphabet ≡ alphabet
  pub null : k.null_text ≡ []
  pub on_return : k.return_text ≡ return_name Return
  pub on_freturn : k.freturn_text ≡ return_name FReturn
  pub on_nreturn : k.nreturn_text ≡ return_name NReturn
