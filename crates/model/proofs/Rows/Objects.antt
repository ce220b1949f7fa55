-- Worked cases: arrays, tables, records and units.
use Rattle.std.proofs.Common.{◌≡◌, [], ◌∷◌, codes, decimal, if◌then◌else◌, nat_eq, refl}
use Rattle.model.specs.declared.run.ErrorCode.TheVariants as error
use Rattle.model.specs.declared.trees.Unary.TheVariants as u
use Rattle.model.specs.declared.trees.Binary.TheVariants as b
use Rattle.model.specs.Deck.Trees.{Name, Literal, Keyword, Call, Reference, Apply, Combine, Label, Evaluate, Next, OnSuccess, OnFailure}
use Rattle.model.specs.Language.Names.{prim_named, key_named, named}
use Rattle.model.specs.Language.Meaning.{meaning}
use Rattle.model.specs.Laws.Agreement.{meaning_at}
use Rattle.model.proofs.Rows.Decks.{deck, num, args, OUTPUT, does, at, sets, set, out, no_inputs, ends_normally, ends_with}

-- ` A = ARRAY('3')`, ` B = A`, ` B<1> = 5`, ` OUTPUT = A<1>`, ` OUTPUT = A<99> :S(END)`, ` OUTPUT = 'NO'`
arrays_are_shared : meaning_at 80 (deck (set (Name (codes "A")) (Call (codes "ARRAY") (args ((Literal (codes "3")) ∷ []))) ∷ set (Name (codes "B")) (Name (codes "A")) ∷ set (Reference (codes "B") (args ((num 1) ∷ []))) (num 5) ∷ out (Reference (codes "A") (args ((num 1) ∷ []))) ∷ does (sets OUTPUT (Reference (codes "A") (args ((num 99) ∷ [])))) (OnSuccess (Label (codes "END"))) ∷ out (Literal (codes "NO")) ∷ [])) no_inputs ≡ ends_normally (decimal 5 ∷ codes "NO" ∷ [])
unfolding meaning prim_named key_named named
arrays_are_shared = refl

-- a table has a value for 1 and another for '1'
keys_apart : meaning_at 80 (deck (set (Name (codes "T")) (Call (codes "TABLE") (args ([]))) ∷ set (Reference (codes "T") (args ((num 1) ∷ []))) (Literal (codes "A")) ∷ set (Reference (codes "T") (args ((Literal (codes "1")) ∷ []))) (Literal (codes "B")) ∷ out (Combine b.Concatenate (Reference (codes "T") (args ((num 1) ∷ []))) (Reference (codes "T") (args ((Literal (codes "1")) ∷ [])))) ∷ out (Reference (codes "T") (args ((num 2) ∷ []))) ∷ [])) no_inputs ≡ ends_normally (codes "AB" ∷ [] ∷ [])
unfolding meaning prim_named key_named named
keys_apart = refl

-- bounds, ITEM as value and target, a wrong number of subscripts
two_dimensions : meaning_at 80 (deck (set (Name (codes "A")) (Call (codes "ARRAY") (args ((Literal (codes "0:1,-1:1")) ∷ (Literal (codes "X")) ∷ []))) ∷ set (Reference (codes "A") (args ((num 1) ∷ (Apply u.Minus (num 1)) ∷ []))) (Literal (codes "Y")) ∷ out (Combine b.Concatenate (Reference (codes "A") (args ((num 1) ∷ (Apply u.Minus (num 1)) ∷ []))) (Reference (codes "A") (args ((num 0) ∷ (num 1) ∷ [])))) ∷ out (Call (codes "ITEM") (args ((Name (codes "A")) ∷ (num 1) ∷ (Literal (codes "-1")) ∷ []))) ∷ set (Call (codes "ITEM") (args ((Name (codes "A")) ∷ (num 0) ∷ (num 0) ∷ []))) (Literal (codes "Z")) ∷ out (Reference (codes "A") (args ((num 0) ∷ (num 0) ∷ []))) ∷ does (Evaluate (Reference (codes "A") (args ((num 1) ∷ [])))) Next ∷ [])) no_inputs ≡ ends_with error.BadArray 7 (codes "YX" ∷ codes "Y" ∷ codes "Z" ∷ [])
unfolding meaning prim_named key_named named
two_dimensions = refl

-- DATA('PAIR(LEFT,RIGHT)'): constructor, fields as values and targets, DATATYPE
records : meaning_at 80 (deck (does (Evaluate (Call (codes "DATA") (args ((Literal (codes "PAIR(LEFT,RIGHT)")) ∷ [])))) Next ∷ set (Name (codes "P")) (Call (codes "PAIR") (args ((Literal (codes "A")) ∷ []))) ∷ set (Call (codes "RIGHT") (args ((Name (codes "P")) ∷ []))) (Literal (codes "B")) ∷ out (Combine b.Concatenate (Call (codes "LEFT") (args ((Name (codes "P")) ∷ []))) (Call (codes "RIGHT") (args ((Name (codes "P")) ∷ [])))) ∷ out (Call (codes "DATATYPE") (args ((Name (codes "P")) ∷ []))) ∷ does (Evaluate (Call (codes "LEFT") (args ((Literal (codes "A")) ∷ [])))) Next ∷ [])) no_inputs ≡ ends_with error.WrongType 6 (codes "AB" ∷ codes "PAIR" ∷ [])
unfolding meaning prim_named key_named named
records = refl

-- CONVERT of a table: a row for each value that isn't null, in the order of the keys
table_as_array : meaning_at 80 (deck (set (Name (codes "T")) (Call (codes "TABLE") (args ([]))) ∷ set (Reference (codes "T") (args ((Literal (codes "K")) ∷ []))) (Literal (codes "V")) ∷ set (Reference (codes "T") (args ((Literal (codes "L")) ∷ []))) (Literal []) ∷ set (Reference (codes "T") (args ((Literal (codes "M")) ∷ []))) (Literal (codes "W")) ∷ set (Name (codes "A")) (Call (codes "CONVERT") (args ((Name (codes "T")) ∷ (Literal (codes "ARRAY")) ∷ []))) ∷ out (Combine b.Concatenate (Combine b.Concatenate (Reference (codes "A") (args ((num 1) ∷ (num 1) ∷ []))) (Reference (codes "A") (args ((num 1) ∷ (num 2) ∷ [])))) (Combine b.Concatenate (Reference (codes "A") (args ((num 2) ∷ (num 1) ∷ []))) (Reference (codes "A") (args ((num 2) ∷ (num 2) ∷ []))))) ∷ does (Evaluate (Reference (codes "A") (args ((num 3) ∷ (num 1) ∷ [])))) (OnFailure (Label (codes "END"))) ∷ out (Literal (codes "NO")) ∷ [])) no_inputs ≡ ends_normally (codes "KVMW" ∷ [])
unfolding meaning prim_named key_named named
table_as_array = refl

-- CONVERT to INTEGER and STRING
converted_integers : meaning_at 80 (deck (does (sets OUTPUT (Call (codes "CONVERT") (args ((Literal (codes "12")) ∷ (Literal (codes "INTEGER")) ∷ [])))) (OnFailure (Label (codes "L"))) ∷ at (codes "L") (sets OUTPUT (Call (codes "CONVERT") (args ((Literal (codes "1X")) ∷ (Literal (codes "INTEGER")) ∷ [])))) (OnFailure (Label (codes "M"))) ∷ at (codes "M") (sets OUTPUT (Call (codes "DATATYPE") (args ((Call (codes "CONVERT") (args ((num 5) ∷ (Literal (codes "STRING")) ∷ []))) ∷ [])))) Next ∷ [])) no_inputs ≡ ends_normally (decimal 12 ∷ codes "STRING" ∷ [])
unfolding meaning prim_named key_named named
converted_integers = refl

-- COPY makes another array; of a table E1
copies : meaning_at 80 (deck (set (Name (codes "A")) (Call (codes "ARRAY") (args ((Literal (codes "1")) ∷ (Literal (codes "X")) ∷ []))) ∷ set (Name (codes "B")) (Call (codes "COPY") (args ((Name (codes "A")) ∷ []))) ∷ set (Reference (codes "B") (args ((num 1) ∷ []))) (Literal (codes "Y")) ∷ out (Combine b.Concatenate (Reference (codes "A") (args ((num 1) ∷ []))) (Reference (codes "B") (args ((num 1) ∷ [])))) ∷ does (Evaluate (Call (codes "COPY") (args ((Call (codes "TABLE") (args ([]))) ∷ [])))) Next ∷ [])) no_inputs ≡ ends_with error.WrongType 5 (codes "XY" ∷ [])
unfolding meaning prim_named key_named named
copies = refl

-- IDENT of objects and of names; of a pattern E1
identical_objects : meaning_at 80 (deck (set (Name (codes "A")) (Call (codes "ARRAY") (args ((Literal (codes "1")) ∷ []))) ∷ set (Name (codes "B")) (Name (codes "A")) ∷ out (Combine b.Concatenate (Call (codes "IDENT") (args ((Name (codes "A")) ∷ (Name (codes "B")) ∷ []))) (Literal (codes "SAME"))) ∷ does (Evaluate (Call (codes "IDENT") (args ((Name (codes "A")) ∷ (Call (codes "ARRAY") (args ((Literal (codes "1")) ∷ []))) ∷ [])))) (OnFailure (Label (codes "L"))) ∷ at (codes "L") (sets OUTPUT (Combine b.Concatenate (Call (codes "IDENT") (args ((Apply u.NameOf (Reference (codes "A") (args ((num 1) ∷ [])))) ∷ (Apply u.NameOf (Reference (codes "B") (args ((num 1) ∷ [])))) ∷ []))) (Literal (codes "PLACE")))) Next ∷ does (Evaluate (Call (codes "IDENT") (args ((Call (codes "LEN") (args ((num 1) ∷ []))) ∷ [])))) Next ∷ [])) no_inputs ≡ ends_with error.WrongType 6 (codes "SAME" ∷ codes "PLACE" ∷ [])
unfolding meaning prim_named key_named named
identical_objects = refl

-- INPUT, OUTPUT, DETACH, and a unit that isn't there
units : meaning_at 80 (deck (does (Evaluate (Call (codes "INPUT") (args ((Literal (codes "X")) ∷ (num 7) ∷ [])))) Next ∷ does (Evaluate (Call (codes "OUTPUT") (args ((Literal (codes "Y")) ∷ [])))) Next ∷ set (Name (codes "Y")) (Name (codes "X")) ∷ does (Evaluate (Call (codes "DETACH") (args ((Literal (codes "Y")) ∷ [])))) Next ∷ set (Name (codes "Y")) (Literal (codes "QUIET")) ∷ does (Evaluate (Call (codes "OUTPUT") (args ((Literal (codes "Z")) ∷ (num 100) ∷ [])))) Next ∷ [])) (λ k. if nat_eq k 7 then (codes "IN" ∷ []) else []) ≡ ends_with error.BadUnit 6 (codes "IN" ∷ [])
unfolding meaning prim_named key_named named
units = refl

-- a function and a field of one name replace each other; a primitive's name is refused
field_replaces_function : meaning_at 80 (deck (does (Evaluate (Call (codes "DATA") (args ((Literal (codes "T(F)")) ∷ [])))) Next ∷ does (Evaluate (Call (codes "DEFINE") (args ((Literal (codes "F(X)")) ∷ (Literal (codes "RETURN")) ∷ [])))) Next ∷ out (Combine b.Concatenate (Literal (codes "[")) (Combine b.Concatenate (Call (codes "F") (args ((num 1) ∷ []))) (Literal (codes "]")))) ∷ does (Evaluate (Call (codes "DATA") (args ((Literal (codes "SIZE(F)")) ∷ [])))) Next ∷ [])) no_inputs ≡ ends_with error.BadPrototype 4 (codes "[]" ∷ [])
unfolding meaning prim_named key_named named
field_replaces_function = refl

-- &ALPHABET has 256 bytes
alphabet : meaning_at 40 (deck (out (Call (codes "SIZE") (args ((Keyword (codes "ALPHABET")) ∷ []))) ∷ [])) no_inputs ≡ ends_normally (decimal 256 ∷ [])
unfolding meaning prim_named key_named named
alphabet = refl
