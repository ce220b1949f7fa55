-- The bytes that instructions are spelt in.
use Rattle.std.proofs.Common.{◌≡◌, ◌≤◌, List, subst, sym, arith}
use Rattle.model.specs.declared.image.Image.{Image}
use Rattle.model.specs.declared.instr.Instr.{Instr}
use Rattle.model.specs.Module.Images.{code_size}
use Rattle.model.specs.Module.Spelling.{IsImage, most_code}
use Rattle.model.proofs.Module.CodeBytes.{code_long}

pub short : (im : Image) → IsImage im → code_size im.code ≤ most_code
short im is = omega (arith, is.code_length, code_long im.code)

pub short_as : (code : List Instr) (im : Image) → IsImage im → code ≡ im.code → code_size code ≤ most_code
short_as code im is same = subst (λ (xs : List Instr). code_size xs ≤ most_code) (sym same) (short im is)
