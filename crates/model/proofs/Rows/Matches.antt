-- Worked cases: matches.
use Rattle.std.proofs.Common.{◌≡◌, [], ◌∷◌, Some, codes, decimal, refl}
use Rattle.model.specs.declared.run.ErrorCode.TheVariants as error
use Rattle.model.specs.declared.trees.Unary.TheVariants as u
use Rattle.model.specs.declared.trees.Binary.TheVariants as b
use Rattle.model.specs.Deck.Trees.{Name, Literal, Keyword, Call, Apply, Combine, Label, Evaluate, Match, Assign, Replace, Next, Always, OnSuccess, OnFailure}
use Rattle.model.specs.Language.Names.{prim_named, key_named, named}
use Rattle.model.specs.Language.Meaning.{meaning}
use Rattle.model.specs.Laws.Agreement.{meaning_at}
use Rattle.model.proofs.Rows.Decks.{deck, num, args, OUTPUT, does, at, sets, set, out, no_inputs, runs, ends_normally, ends_with}

-- ` 'BEADS' ('BE' | 'BEA') . OUTPUT`
longer_alternative : meaning_at 40 (deck (does (Match (Literal (codes "BEADS")) (Combine b.Conditional (Combine b.Alternate (Literal (codes "BE")) (Literal (codes "BEA"))) OUTPUT)) Next ∷ [])) no_inputs ≡ ends_normally (codes "BE" ∷ [])
unfolding meaning prim_named key_named named
longer_alternative = refl

-- ` 'A(B)C' POS(0) BAL . OUTPUT 'C'`
balanced : meaning_at 40 (deck (does (Match (Literal (codes "A(B)C")) (Combine b.Concatenate (Combine b.Concatenate (Call (codes "POS") (args ((num 0) ∷ []))) (Combine b.Conditional (Name (codes "BAL")) OUTPUT)) (Literal (codes "C")))) Next ∷ [])) no_inputs ≡ ends_normally (codes "A(B)" ∷ [])
unfolding meaning prim_named key_named named
balanced = refl

-- ` 'AAB' POS(0) ARBNO('A') . OUTPUT 'B'`
repeated : meaning_at 60 (deck (does (Match (Literal (codes "AAB")) (Combine b.Concatenate (Combine b.Concatenate (Call (codes "POS") (args ((num 0) ∷ []))) (Combine b.Conditional (Call (codes "ARBNO") (args ((Literal (codes "A")) ∷ []))) OUTPUT)) (Literal (codes "B")))) Next ∷ [])) no_inputs ≡ ends_normally (codes "AA" ∷ [])
unfolding meaning prim_named key_named named
repeated = refl

-- ` 'AA' ARBNO('A') . OUTPUT`: ARBNO takes nothing first
nothing_first : meaning_at 60 (deck (does (Match (Literal (codes "AA")) (Combine b.Conditional (Call (codes "ARBNO") (args ((Literal (codes "A")) ∷ []))) OUTPUT)) Next ∷ [])) no_inputs ≡ ends_normally ([] ∷ [])
unfolding meaning prim_named key_named named
nothing_first = refl

-- ` 'ABC' FENCE 'B' :F(X)`
fence : meaning_at 60 (deck (does (Match (Literal (codes "ABC")) (Combine b.Concatenate (Name (codes "FENCE")) (Literal (codes "B")))) (OnFailure (Label (codes "X"))) ∷ does (sets OUTPUT (Literal (codes "YES"))) (Always (Label (codes "END"))) ∷ at (codes "X") (sets OUTPUT (Literal (codes "NO"))) Next ∷ [])) no_inputs ≡ ends_normally (codes "NO" ∷ [])
unfolding meaning prim_named key_named named
fence = refl

-- ` 'ABC' FENCE('A' | 'AB') 'C' :F(X)`: its first end only
first_end_only : meaning_at 60 (deck (does (Match (Literal (codes "ABC")) (Combine b.Concatenate (Call (codes "FENCE") (args ((Combine b.Alternate (Literal (codes "A")) (Literal (codes "AB"))) ∷ []))) (Literal (codes "C")))) (OnFailure (Label (codes "X"))) ∷ does (sets OUTPUT (Literal (codes "YES"))) (Always (Label (codes "END"))) ∷ at (codes "X") (sets OUTPUT (Literal (codes "NO"))) Next ∷ [])) no_inputs ≡ ends_normally (codes "NO" ∷ [])
unfolding meaning prim_named key_named named
first_end_only = refl

-- ` 'ABC' ('A' | 'AB') 'C' :F(X)`
each_end : meaning_at 60 (deck (does (Match (Literal (codes "ABC")) (Combine b.Concatenate (Combine b.Alternate (Literal (codes "A")) (Literal (codes "AB"))) (Literal (codes "C")))) (OnFailure (Label (codes "X"))) ∷ does (sets OUTPUT (Literal (codes "YES"))) (Always (Label (codes "END"))) ∷ at (codes "X") (sets OUTPUT (Literal (codes "NO"))) Next ∷ [])) no_inputs ≡ ends_normally (codes "YES" ∷ [])
unfolding meaning prim_named key_named named
each_end = refl

-- ` 'ABAC' FENCE('A') 'C' :F(X)`: on at the next start
fence_of_next_start : meaning_at 60 (deck (does (Match (Literal (codes "ABAC")) (Combine b.Concatenate (Call (codes "FENCE") (args ((Literal (codes "A")) ∷ []))) (Literal (codes "C")))) (OnFailure (Label (codes "X"))) ∷ does (sets OUTPUT (Literal (codes "YES"))) (Always (Label (codes "END"))) ∷ at (codes "X") (sets OUTPUT (Literal (codes "NO"))) Next ∷ [])) no_inputs ≡ ends_normally (codes "YES" ∷ [])
unfolding meaning prim_named key_named named
fence_of_next_start = refl

-- ` 'ABAC' FENCE 'A' 'C' :F(X)`
fence_next_start : meaning_at 60 (deck (does (Match (Literal (codes "ABAC")) (Combine b.Concatenate (Combine b.Concatenate (Name (codes "FENCE")) (Literal (codes "A"))) (Literal (codes "C")))) (OnFailure (Label (codes "X"))) ∷ does (sets OUTPUT (Literal (codes "YES"))) (Always (Label (codes "END"))) ∷ at (codes "X") (sets OUTPUT (Literal (codes "NO"))) Next ∷ [])) no_inputs ≡ ends_normally (codes "NO" ∷ [])
unfolding meaning prim_named key_named named
fence_next_start = refl

-- ` 'AB' (FENCE('A') 'X' | 'AB') :F(X)`: on with what was before it
before_fence_of : meaning_at 60 (deck (does (Match (Literal (codes "AB")) (Combine b.Alternate (Combine b.Concatenate (Call (codes "FENCE") (args ((Literal (codes "A")) ∷ []))) (Literal (codes "X"))) (Literal (codes "AB")))) (OnFailure (Label (codes "X"))) ∷ does (sets OUTPUT (Literal (codes "YES"))) (Always (Label (codes "END"))) ∷ at (codes "X") (sets OUTPUT (Literal (codes "NO"))) Next ∷ [])) no_inputs ≡ ends_normally (codes "YES" ∷ [])
unfolding meaning prim_named key_named named
before_fence_of = refl

-- ` 'ABC' (LEN(1) $ OUTPUT | LEN(2) $ OUTPUT) FAIL`
immediate : meaning_at 80 (deck (does (Match (Literal (codes "ABC")) (Combine b.Concatenate (Combine b.Alternate (Combine b.Immediate (Call (codes "LEN") (args ((num 1) ∷ []))) OUTPUT) (Combine b.Immediate (Call (codes "LEN") (args ((num 2) ∷ []))) OUTPUT)) (Name (codes "FAIL")))) Next ∷ [])) no_inputs ≡ ends_normally (codes "A" ∷ codes "AB" ∷ codes "B" ∷ codes "BC" ∷ codes "C" ∷ [])
unfolding meaning prim_named key_named named
immediate = refl

-- ` 'ABBA' LEN(1) $ C *C`, ` OUTPUT = C`
evaluated_each_time : meaning_at 80 (deck (does (Match (Literal (codes "ABBA")) (Combine b.Concatenate (Combine b.Immediate (Call (codes "LEN") (args ((num 1) ∷ []))) (Name (codes "C"))) (Apply u.Unevaluated (Name (codes "C"))))) Next ∷ out (Name (codes "C")) ∷ [])) no_inputs ≡ ends_normally (codes "B" ∷ [])
unfolding meaning prim_named key_named named
evaluated_each_time = refl

-- ` S = 'AB'`, ` S LEN(1) . C = C C`, ` OUTPUT = S`
object_after_match : meaning_at 80 (deck (set (Name (codes "S")) (Literal (codes "AB")) ∷ does (Replace (Name (codes "S")) (Combine b.Conditional (Call (codes "LEN") (args ((num 1) ∷ []))) (Name (codes "C"))) (Some (Combine b.Concatenate (Name (codes "C")) (Name (codes "C"))))) Next ∷ out (Name (codes "S")) ∷ [])) no_inputs ≡ ends_normally (codes "AAB" ∷ [])
unfolding meaning prim_named key_named named
object_after_match = refl

-- ` ('' 'X') ARB . V RPOS(0)`, ` OUTPUT = '[' V ']'`
arbitrary : meaning_at 80 (deck (does (Match (Combine b.Concatenate (Literal []) (Literal (codes "X"))) (Combine b.Concatenate (Combine b.Conditional (Name (codes "ARB")) (Name (codes "V"))) (Call (codes "RPOS") (args ((num 0) ∷ []))))) Next ∷ out (Combine b.Concatenate (Combine b.Concatenate (Literal (codes "[")) (Name (codes "V"))) (Literal (codes "]"))) ∷ [])) no_inputs ≡ ends_normally (codes "[X]" ∷ [])
unfolding meaning prim_named key_named named
arbitrary = refl

-- and of the null string
arbitrary_nothing : meaning_at 80 (deck (does (Match (Literal []) (Combine b.Concatenate (Combine b.Conditional (Name (codes "ARB")) (Name (codes "V"))) (Call (codes "RPOS") (args ((num 0) ∷ []))))) Next ∷ out (Combine b.Concatenate (Combine b.Concatenate (Literal (codes "[")) (Name (codes "V"))) (Literal (codes "]"))) ∷ [])) no_inputs ≡ ends_normally (codes "[]" ∷ [])
unfolding meaning prim_named key_named named
arbitrary_nothing = refl

-- ` 'AB' ('A' . X 'X' | 'A' . Y 'B')`, ` OUTPUT = X '-' Y`
abandoned : meaning_at 80 (deck (does (Match (Literal (codes "AB")) (Combine b.Alternate (Combine b.Concatenate (Combine b.Conditional (Literal (codes "A")) (Name (codes "X"))) (Literal (codes "X"))) (Combine b.Concatenate (Combine b.Conditional (Literal (codes "A")) (Name (codes "Y"))) (Literal (codes "B"))))) Next ∷ out (Combine b.Concatenate (Combine b.Concatenate (Name (codes "X")) (Literal (codes "-"))) (Name (codes "Y"))) ∷ [])) no_inputs ≡ ends_normally (codes "-A" ∷ [])
unfolding meaning prim_named key_named named
abandoned = refl

-- ` 'A' SUCCEED FAIL` never ends
for_ever : meaning_at 40 (deck (does (Match (Literal (codes "A")) (Combine b.Concatenate (Name (codes "SUCCEED")) (Name (codes "FAIL")))) Next ∷ [])) no_inputs ≡ runs []
unfolding meaning prim_named key_named named
for_ever = refl

-- with &ANCHOR a match begins at the front alone
anchored : meaning_at 60 (deck (does (Assign (Keyword (codes "ANCHOR")) (Some (num 1))) Next ∷ does (Match (Literal (codes "AB")) (Literal (codes "B"))) (OnSuccess (Label (codes "END"))) ∷ out (Literal (codes "NO")) ∷ [])) no_inputs ≡ ends_normally (codes "NO" ∷ [])
unfolding meaning prim_named key_named named
anchored = refl

-- ` 'AB' 'B' @N`
cursor : meaning_at 60 (deck (does (Match (Literal (codes "AB")) (Combine b.Concatenate (Literal (codes "B")) (Apply u.Cursor (Name (codes "N"))))) Next ∷ out (Name (codes "N")) ∷ [])) no_inputs ≡ ends_normally (decimal 2 ∷ [])
unfolding meaning prim_named key_named named
cursor = refl

-- ` 'ABC' LEN(*N) . OUTPUT`
deferred_argument : meaning_at 60 (deck (set (Name (codes "N")) (num 2) ∷ does (Match (Literal (codes "ABC")) (Combine b.Conditional (Call (codes "LEN") (args ((Apply u.Unevaluated (Name (codes "N"))) ∷ []))) OUTPUT)) Next ∷ [])) no_inputs ≡ ends_normally (codes "AB" ∷ [])
unfolding meaning prim_named key_named named
deferred_argument = refl

-- ` DEFINE('FENCE(P)')`: the name of a primitive
fence_is_primitive : meaning_at 60 (deck (does (Evaluate (Call (codes "DEFINE") (args ((Literal (codes "FENCE(P)")) ∷ [])))) Next ∷ [])) no_inputs ≡ ends_with error.BadPrototype 1 []
unfolding meaning prim_named key_named named
fence_is_primitive = refl

-- LEN(-1)
negative_length : meaning_at 60 (deck (does (Match (Literal (codes "ABC")) (Call (codes "LEN") (args ((Apply u.Minus (num 1)) ∷ [])))) Next ∷ [])) no_inputs ≡ ends_with error.BadPatternArgument 1 []
unfolding meaning prim_named key_named named
negative_length = refl

-- ` '  AB,C' SPAN(' ') BREAK(',') . OUTPUT ANY(',;')`
spans_and_breaks : meaning_at 60 (deck (does (Match (Literal (codes "  AB,C")) (Combine b.Concatenate (Combine b.Concatenate (Call (codes "SPAN") (args ((Literal (codes " ")) ∷ []))) (Combine b.Conditional (Call (codes "BREAK") (args ((Literal (codes ",")) ∷ []))) OUTPUT)) (Call (codes "ANY") (args ((Literal (codes ",;")) ∷ []))))) Next ∷ [])) no_inputs ≡ ends_normally (codes "AB" ∷ [])
unfolding meaning prim_named key_named named
spans_and_breaks = refl
