-- The module of the deck ` OUTPUT = 'HI'`, `END`, byte by byte, and as it was in version 1.
use Rattle.std.specs.Prelude.{◌≡◌, ℕ, ◌+◌, ◌-◌, List, [], ◌∷◌, ◌++◌, length, take, drop, Ok, Err, codes}
use Rattle.model.specs.declared.format.FormatRule.TheVariants.{BadMagic, BadVersion, Truncated, TrailingBytes, BadTable, UnknownInstruction}
use Rattle.model.specs.declared.format.FormatRule.{FormatRule}
use Rattle.model.specs.declared.format.Version.{Version}
use Rattle.model.specs.declared.format.Version.TheVariants as versions
use Rattle.model.specs.declared.image.Image.{Image}
use Rattle.model.specs.declared.image.Level.{Level}
use Rattle.model.specs.declared.image.Level.TheVariants as levels
use Rattle.model.specs.declared.instr.Instr.TheVariants as instrs
use Rattle.model.specs.declared.primitives.PrimId.TheVariants as prims
use Rattle.model.specs.Module.Spelling.{spelling, spelling_in}
use Rattle.model.specs.Module.Reading.{image_in, read_image}

abbrev pub hello : Image
hello = record {
  level = levels.Two;
  entry = 1;
  strings = codes "OUTPUT" ∷ codes "HI" ∷ [];
  labels = [];
  statements = 0 ∷ 17 ∷ [];
  cards = 1 ∷ 2 ∷ [];
  expressions = [];
  patterns = [];
  code = instrs.Begin 17 ∷ instrs.Var 0 ∷ instrs.Str 1 ∷ instrs.Assign ∷ instrs.Body ∷ instrs.End ∷ [];
}

-- what follows the level, but for the cards
abbrev pub before_cards : List ℕ
before_cards =
    -- entry
    0 ∷ 0 ∷ 0 ∷ 1 ∷
    -- strings
    0 ∷ 0 ∷ 0 ∷ 2 ∷ 0 ∷ 0 ∷ 0 ∷ 6 ∷ 0x4f ∷ 0x55 ∷ 0x54 ∷ 0x50 ∷ 0x55 ∷ 0x54 ∷ 0 ∷ 0 ∷ 0 ∷ 2 ∷ 0x48 ∷ 0x49 ∷
    -- labels
    0 ∷ 0 ∷ 0 ∷ 0 ∷
    -- statements
    0 ∷ 0 ∷ 0 ∷ 2 ∷ 0 ∷ 0 ∷ 0 ∷ 0 ∷ 0 ∷ 0 ∷ 0 ∷ 0x11 ∷ []

abbrev pub after_cards : List ℕ
after_cards =
    -- expressions, patterns
    0 ∷ 0 ∷ 0 ∷ 0 ∷ 0 ∷ 0 ∷ 0 ∷ 0 ∷
    -- the code's length
    0 ∷ 0 ∷ 0 ∷ 0x12 ∷
    -- BEGIN 17, VAR 0, STR 1, ASSIGN, BODY, END
    1 ∷ 0 ∷ 0 ∷ 0 ∷ 0x11 ∷ 0x0a ∷ 0 ∷ 0 ∷ 0 ∷ 0 ∷ 7 ∷ 0 ∷ 0 ∷ 0 ∷ 1 ∷ 0x10 ∷ 2 ∷ 0 ∷ []

abbrev pub hello_bytes : List ℕ
hello_bytes =
    -- magic, version, level
    (0x53 ∷ 0x4e ∷ 0x4f ∷ 0x34 ∷ 0 ∷ 2 ∷ 0 ∷ 2 ∷ []) ++ before_cards
    -- cards
    ++ (0 ∷ 0 ∷ 0 ∷ 1 ∷ 0 ∷ 0 ∷ 0 ∷ 2 ∷ []) ++ after_cards

-- the module in version 1, and the image that it spells
abbrev pub older_bytes : List ℕ
older_bytes = (0x53 ∷ 0x4e ∷ 0x4f ∷ 0x34 ∷ 0 ∷ 1 ∷ []) ++ before_cards ++ after_cards

abbrev pub older : Image
older = record hello { level = levels.One; cards = 0 ∷ 0 ∷ [] }

-- some bytes with another at one place
abbrev pub changed : List ℕ → ℕ → ℕ → List ℕ
changed bytes at byte = take at bytes ++ byte ∷ drop (at + 1) bytes

-- refused by a rule at an offset of so many bytes
abbrev pub Refused : Version → List ℕ → ℕ → FormatRule → Type 0
Refused v bytes offset rule = image_in v bytes ≡ Err (record { left = length bytes - offset; rule = rule })

-- at level 2 FENCE of a pattern, code 25, is there; at level 1 it isn't
abbrev pub two_cards : Level → List ℕ
two_cards levels.One = 0 ∷ 0 ∷ []
two_cards levels.Two = 1 ∷ 1 ∷ []

abbrev pub fenced : Level → Image
fenced l = record hello { level = l; cards = two_cards l; code = instrs.Begin 17 ∷ instrs.Var 0 ∷ instrs.PrimV prims.Fence 0 ∷ instrs.Assign ∷ instrs.Body ∷ instrs.NoLabel ∷ instrs.NoLabel ∷ instrs.End ∷ [] }

pub record SpellingRows : Type 0 where
  pub long : length hello_bytes ≡ 86
  pub spelt : spelling hello ≡ hello_bytes
  pub read : read_image hello_bytes ≡ Ok hello
  pub another_magic : Refused versions.Two (changed hello_bytes 0 0) 0 BadMagic
  pub another_version : Refused versions.Two (changed hello_bytes 5 1) 4 BadVersion
  pub another_level : Refused versions.Two (changed hello_bytes 7 3) 6 BadVersion
  pub level_of_cards : Refused versions.Two (changed hello_bytes 7 1) 48 BadTable
  pub many_strings : Refused versions.Two (changed hello_bytes 12 0xff) 12 BadTable
  pub no_card : Refused versions.Two (changed hello_bytes 51 0) 48 BadTable
  pub falling_card : Refused versions.Two (changed hello_bytes 55 0) 52 BadTable
  pub same_card : read_image (changed hello_bytes 55 1) ≡ Ok (record hello { cards = 1 ∷ 1 ∷ [] })
  pub another_instruction : Refused versions.Two (changed hello_bytes 83 0xff) 83 UnknownInstruction
  pub nothing : Refused versions.Two [] 0 Truncated
  pub cut : Refused versions.Two (take 85 hello_bytes) 85 Truncated
  pub longer : Refused versions.Two (hello_bytes ++ 0 ∷ []) 86 TrailingBytes
  pub fence : read_image (spelling (fenced levels.Two)) ≡ Ok (fenced levels.Two)
  pub no_fence : Refused versions.Two (spelling (fenced levels.One)) 78 UnknownInstruction
  -- version 1
  pub older_long : length older_bytes ≡ 76
  pub older_spelt : spelling_in versions.One older ≡ older_bytes
  pub older_read : image_in versions.One older_bytes ≡ Ok older
  pub upgraded : read_image (spelling older) ≡ Ok older
  pub older_version : Refused versions.One (changed older_bytes 5 2) 4 BadVersion
  pub older_fence : Refused versions.One (spelling_in versions.One (fenced levels.One)) 68 UnknownInstruction
  pub older_refused : Refused versions.Two older_bytes 4 BadVersion
  pub newer_refused : Refused versions.One hello_bytes 4 BadVersion
