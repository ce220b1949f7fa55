use Rattle.std.proofs.Common.{refl}
use Rattle.model.specs.Module.Spelling.{u16, u32}
use Rattle.model.specs.Module.Reading.{number, wide, alone, prim, readers, instr_of, number_at, fixed_at, level_at, count_at, entries_from, table_at, text_at, string_at, label_at, statement_at, card_at, cards_at, offset_at, pattern_at, known_of, code_from, code_at, image_at, image_in}
use Rattle.model.proofs.laws_bytes.spelling_rows.Goals as goal

pub returns : goal.returns
unfolding u16 u32 number wide alone prim readers instr_of number_at fixed_at level_at count_at entries_from table_at text_at string_at label_at statement_at card_at cards_at offset_at pattern_at known_of code_from code_at image_at image_in
returns c = record {
  long = refl;
  spelt = refl;
  read = refl;
  another_magic = refl;
  another_version = refl;
  another_level = refl;
  level_of_cards = refl;
  many_strings = refl;
  no_card = refl;
  falling_card = refl;
  same_card = refl;
  another_instruction = refl;
  nothing = refl;
  cut = refl;
  longer = refl;
  fence = refl;
  no_fence = refl;
  older_long = refl;
  older_spelt = refl;
  older_read = refl;
  upgraded = refl;
  older_version = refl;
  older_fence = refl;
  older_refused = refl;
  newer_refused = refl;
}
