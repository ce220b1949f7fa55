-- The values of keywords.
use Rattle.std.specs.Prelude.{[], ℤ, pos, ◌+ℤ◌, ◌-ℤ◌, ◌^◌, int_lt, int_le, Bool, true, false, not, ◌&&◌, if◌then◌else◌, codes}
use Rattle.std.specs.List.{range_with_len}
use Rattle.model.specs.Deck.Trees.{Bytes}
use Rattle.model.specs.declared.keys.KeyId.{KeyId}
use Rattle.model.specs.declared.keys.KeyId.TheVariants as k
use Rattle.model.specs.declared.instr.ReturnKind.{ReturnKind}
use Rattle.model.specs.declared.instr.ReturnKind.TheVariants as kind

pub record Keys : Type 0 where
  pub anchor : ℤ
  pub fullscan : ℤ
  pub trim : ℤ
  pub input : ℤ
  pub output : ℤ
  pub stlimit : ℤ
  pub maxlngth : ℤ
  pub stcount : ℤ
  pub stno : ℤ
  pub lastno : ℤ
  pub stfcount : ℤ
  pub fnclevel : ℤ
  pub rtntype : Bytes

-- the 256 bytes in rising order
abbrev pub alphabet : Bytes
alphabet = range_with_len 0 256

pub data KeyValue : Type 0 where
  IsInteger : ℤ → KeyValue
  IsText : Bytes → KeyValue

abbrev pub key_value : KeyId → Keys → KeyValue
key_value k.Anchor ks = IsInteger ks.anchor
key_value k.FullScan ks = IsInteger ks.fullscan
key_value k.Trim ks = IsInteger ks.trim
key_value k.Input ks = IsInteger ks.input
key_value k.Output ks = IsInteger ks.output
key_value k.StLimit ks = IsInteger ks.stlimit
key_value k.MaxLngth ks = IsInteger ks.maxlngth
key_value k.Alphabet ks = IsText alphabet
key_value k.StCount ks = IsInteger ks.stcount
key_value k.StNo ks = IsInteger ks.stno
key_value k.LastNo ks = IsInteger ks.lastno
key_value k.StFCount ks = IsInteger ks.stfcount
key_value k.FncLevel ks = IsInteger ks.fnclevel
key_value k.RtnType ks = IsText ks.rtntype

abbrev pub is_zero : ℤ → Bool
is_zero z = int_le z (pos 0) && int_le (pos 0) z

-- whether a statement may assign this value
abbrev pub allows : KeyId → ℤ → Bool
allows k.Anchor z = true
allows k.FullScan z = not (is_zero z)
allows k.Trim z = true
allows k.Input z = true
allows k.Output z = true
allows k.StLimit z = true
allows k.MaxLngth z = int_le (pos 0) z && int_le z (pos 16777216)
allows _ z = false

-- with another value of a keyword that holds an integer
abbrev pub put_key : KeyId → ℤ → Keys → Keys
put_key k.Anchor z ks = record ks { anchor = z }
put_key k.FullScan z ks = record ks { fullscan = z }
put_key k.Trim z ks = record ks { trim = z }
put_key k.Input z ks = record ks { input = z }
put_key k.Output z ks = record ks { output = z }
put_key k.StLimit z ks = record ks { stlimit = z }
put_key k.MaxLngth z ks = record ks { maxlngth = z }
put_key k.StCount z ks = record ks { stcount = z }
put_key k.StNo z ks = record ks { stno = z }
put_key k.LastNo z ks = record ks { lastno = z }
put_key k.StFCount z ks = record ks { stfcount = z }
put_key k.FncLevel z ks = record ks { fnclevel = z }
put_key _ z ks = ks

abbrev pub first_keys : Keys
first_keys = record {
  anchor = pos 0;
  fullscan = pos 1;
  trim = pos 0;
  input = pos 1;
  output = pos 1;
  stlimit = pos 50000;
  maxlngth = pos 5000;
  stcount = pos 0;
  stno = pos 0;
  lastno = pos 0;
  stfcount = pos 0;
  fnclevel = pos 0;
  rtntype = [];
}

-- one more, but never past the greatest integer
abbrev pub counted_up : ℤ → ℤ
counted_up z = if int_lt z (pos (2 ^ 63) -ℤ pos 1) then z +ℤ pos 1 else z

-- the words of gotos that leave a function
abbrev pub return_name : ReturnKind → Bytes
return_name kind.Return = codes "RETURN"
return_name kind.FReturn = codes "FRETURN"
return_name kind.NReturn = codes "NRETURN"
