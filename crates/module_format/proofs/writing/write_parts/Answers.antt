use Rattle.std.proofs.Common.{◌∙◌, ◌++◌, ℕ, List, ap, subst, map, []}
use Rattle.std.specs.List.{flat_map}
use Rattle.model.specs.Module.Spelling.{Follow, PatternFits, u16, u32, magic, level_number, counted, string, label, pattern}
use Rattle.module_format.proofs.Written.{strings_short, patterns_short, strings_spelt, same_parts, joined}
use Rattle.module_format.proofs.writing.write_parts.Goals as goal

pub put_table-requires-clause-fit : goal.put_table-requires-clause-fit
put_table-requires-clause-fit c = strings_short _ _ c.requires.1.strings c.requires.2.strings.entries

pub put_table-requires-5-clause-fit : goal.put_table-requires-5-clause-fit
put_table-requires-5-clause-fit c = patterns_short _ (subst (Follow PatternFits []) c.requires.1.patterns c.requires.2.patterns.entries)

pub returns : goal.returns
returns c = λ m made.
    let p = c.args.parts.now in
    joined c.put_head.new.out.items c.put_table.new.out.items c.put_table-2.new.out.items c.put_table-3.new.out.items c.put_entries.new.out.items c.put_table-4.new.out.items c.put_table-5.new.out.items c.put_string.new.out.items
    (u32 magic) (u16 2) (u16 (level_number p.level)) (u32 p.entry) (counted string (map (λ s. s.now) p.strings.now)) (counted label p.labels.now) (counted u32 p.statements.now) (flat_map u32 p.cards.now) (counted u32 p.expressions.now) (counted pattern p.patterns.now) (string p.code.now)
    (c.in_ok-put_head.ensures ∙ ap (λ (o : List ℕ). o ++ (u32 magic ++ (u16 2 ++ (u16 (level_number p.level) ++ u32 p.entry)))) c.in_ok-out.ensures.items)
    (c.in_ok-put_table.ensures ∙ ap (λ z. c.put_head.new.out.items ++ z) (strings_spelt p.strings.now))
    c.in_ok-put_table-2.ensures c.in_ok-put_table-3.ensures c.in_ok-put_entries.ensures c.in_ok-put_table-4.ensures c.in_ok-put_table-5.ensures c.in_ok-put_string.ensures
    ∙ same_parts m p made
