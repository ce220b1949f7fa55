-- Worked cases: expressions, statements and functions.
use Rattle.std.proofs.Common.{◌≡◌, [], ◌∷◌, Some, codes, decimal, if◌then◌else◌, nat_eq, refl}
use Rattle.model.specs.declared.run.ErrorCode.TheVariants as error
use Rattle.model.specs.declared.trees.Unary.TheVariants as u
use Rattle.model.specs.declared.trees.Binary.TheVariants as b
use Rattle.model.specs.Deck.Trees.{Name, Literal, Keyword, Call, Apply, Combine, Label, Computed, Nothing, Evaluate, Assign, Next, Always, OnSuccess, OnFailure}
use Rattle.model.specs.Language.Names.{prim_named, key_named, named}
use Rattle.model.specs.Language.Meaning.{meaning}
use Rattle.model.specs.Laws.Agreement.{meaning_at}
use Rattle.model.proofs.Rows.Decks.{deck, num, args, OUTPUT, does, at, sets, set, out, no_inputs, ends_normally, ends_with, ends_at_limit}

-- ` OUTPUT = 7 / 2 * 3`: `*` binds tighter
division : meaning_at 10 (deck (out (Combine b.Divide (num 7) (Combine b.Multiply (num 2) (num 3))) ∷ [])) no_inputs ≡ ends_normally (decimal 1 ∷ [])
unfolding meaning prim_named key_named named
division = refl

-- ` OUTPUT = 2 ** 3 ** 2`
powers : meaning_at 10 (deck (out (Combine b.Power (num 2) (Combine b.Power (num 3) (num 2))) ∷ [])) no_inputs ≡ ends_normally (decimal 512 ∷ [])
unfolding meaning prim_named key_named named
powers = refl

-- ` OUTPUT = 9223372036854775807 + 1`
overflow : meaning_at 10 (deck (out (Combine b.Add (num 9223372036854775807) (num 1)) ∷ [])) no_inputs ≡ ends_with error.Arithmetic 1 []
unfolding meaning prim_named key_named named
overflow = refl

-- ` OUTPUT = -7 / 2`
cut_towards_zero : meaning_at 10 (deck (out (Combine b.Divide (Apply u.Minus (num 7)) (num 2)) ∷ [])) no_inputs ≡ ends_normally ((45 ∷ decimal 3) ∷ [])
unfolding meaning prim_named key_named named
cut_towards_zero = refl

-- minus the least integer is none
least_integer : meaning_at 10 (deck (set (Name (codes "X")) (Literal (codes "-9223372036854775808")) ∷ out (Apply u.Minus (Apply u.Plus (Name (codes "X")))) ∷ [])) no_inputs ≡ ends_with error.Arithmetic 2 []
unfolding meaning prim_named key_named named
least_integer = refl

-- ` &STLIMIT = 3`, `L :(L)`
limit_of_statements : meaning_at 20 (deck (does (Assign (Keyword (codes "STLIMIT")) (Some (num 3))) Next ∷ at (codes "L") (Nothing) (Always (Label (codes "L"))) ∷ [])) no_inputs ≡ ends_at_limit 2 []
unfolding meaning prim_named key_named named
limit_of_statements = refl

-- DEFINE('FACT(N)'), and the factorial of 20
factorial : meaning_at 200 (deck (does (Evaluate (Call (codes "DEFINE") (args ((Literal (codes "FACT(N)")) ∷ [])))) (Always (Label (codes "E"))) ∷ at (codes "FACT") (sets (Name (codes "FACT")) (Combine b.Concatenate (Call (codes "EQ") (args ((Name (codes "N")) ∷ (num 0) ∷ []))) (num 1))) (OnSuccess (Label (codes "RETURN"))) ∷ does (sets (Name (codes "FACT")) (Combine b.Multiply (Name (codes "N")) (Call (codes "FACT") (args ((Combine b.Subtract (Name (codes "N")) (num 1)) ∷ []))))) (Always (Label (codes "RETURN"))) ∷ at (codes "E") (sets OUTPUT (Call (codes "FACT") (args ((num 20) ∷ [])))) Next ∷ [])) no_inputs ≡ ends_normally (decimal 2432902008176640000 ∷ [])
unfolding meaning prim_named key_named named
factorial = refl

-- and of 21
factorial_overflow : meaning_at 200 (deck (does (Evaluate (Call (codes "DEFINE") (args ((Literal (codes "FACT(N)")) ∷ [])))) (Always (Label (codes "E"))) ∷ at (codes "FACT") (sets (Name (codes "FACT")) (Combine b.Concatenate (Call (codes "EQ") (args ((Name (codes "N")) ∷ (num 0) ∷ []))) (num 1))) (OnSuccess (Label (codes "RETURN"))) ∷ does (sets (Name (codes "FACT")) (Combine b.Multiply (Name (codes "N")) (Call (codes "FACT") (args ((Combine b.Subtract (Name (codes "N")) (num 1)) ∷ []))))) (Always (Label (codes "RETURN"))) ∷ at (codes "E") (sets OUTPUT (Call (codes "FACT") (args ((num 21) ∷ [])))) Next ∷ [])) no_inputs ≡ ends_with error.Arithmetic 3 []
unfolding meaning prim_named key_named named
factorial_overflow = refl

-- ` OUTPUT = IDENT(5,'5') 'SAME' :S(END)`, ` OUTPUT = 'APART'`
not_identical : meaning_at 20 (deck (does (sets OUTPUT (Combine b.Concatenate (Call (codes "IDENT") (args ((num 5) ∷ (Literal (codes "5")) ∷ []))) (Literal (codes "SAME")))) (OnSuccess (Label (codes "END"))) ∷ out (Literal (codes "APART")) ∷ [])) no_inputs ≡ ends_normally (codes "APART" ∷ [])
unfolding meaning prim_named key_named named
not_identical = refl

-- ` &MAXLNGTH = 2`, ` OUTPUT = 'ABC' ''`, ` OUTPUT = 'AB' 'C'`
longest_string : meaning_at 20 (deck (does (Assign (Keyword (codes "MAXLNGTH")) (Some (num 2))) Next ∷ out (Combine b.Concatenate (Literal (codes "ABC")) (Literal [])) ∷ out (Combine b.Concatenate (Literal (codes "AB")) (Literal (codes "C"))) ∷ [])) no_inputs ≡ ends_with error.StringTooLong 3 (codes "ABC" ∷ [])
unfolding meaning prim_named key_named named
longest_string = refl

-- `L OUTPUT = INPUT :S(L)`
two_lines : meaning_at 60 (deck (at (codes "L") (sets OUTPUT (Name (codes "INPUT"))) (OnSuccess (Label (codes "L"))) ∷ [])) (λ k. if nat_eq k 5 then (codes "A" ∷ [] ∷ codes "B" ∷ []) else []) ≡ ends_normally (codes "A" ∷ [] ∷ codes "B" ∷ [])
unfolding meaning prim_named key_named named
two_lines = refl

-- ` $X = 5` sets what X names; ` $''` is E5
names_and_indirection : meaning_at 20 (deck (set (Name (codes "X")) (Literal (codes "Y")) ∷ set (Apply u.Indirect (Name (codes "X"))) (num 5) ∷ out (Name (codes "Y")) ∷ out (Apply u.Indirect (Apply u.NameOf (Name (codes "Y")))) ∷ does (Evaluate (Apply u.Indirect (Literal []))) Next ∷ [])) no_inputs ≡ ends_with error.NotAName 5 (decimal 5 ∷ decimal 5 ∷ [])
unfolding meaning prim_named key_named named
names_and_indirection = refl

-- `~` is null where its operand fails, `?` fails with it
negation : meaning_at 20 (deck (does (sets OUTPUT (Apply u.Negate (Call (codes "EQ") (args ((num 1) ∷ (num 2) ∷ []))))) Next ∷ does (sets OUTPUT (Apply u.Interrogate (Call (codes "EQ") (args ((num 1) ∷ (num 2) ∷ []))))) (OnFailure (Label (codes "END"))) ∷ out (Literal (codes "NO")) ∷ [])) no_inputs ≡ ends_normally ([] ∷ [])
unfolding meaning prim_named key_named named
negation = refl

-- a function that nobody defined
undefined : meaning_at 20 (deck (does (Evaluate (Call (codes "NONE") (args ([])))) Next ∷ [])) no_inputs ≡ ends_with error.UndefinedFunction 1 []
unfolding meaning prim_named key_named named
undefined = refl

-- a label that no statement has
no_label : meaning_at 20 (deck (does (Nothing) (Always (Label (codes "NONE"))) ∷ [])) no_inputs ≡ ends_with error.UndefinedLabel 1 []
unfolding meaning prim_named key_named named
no_label = refl

-- a return that leaves nothing
no_call : meaning_at 20 (deck (does (Nothing) (Always (Label (codes "RETURN"))) ∷ [])) no_inputs ≡ ends_with error.ReturnAtLevelZero 1 []
unfolding meaning prim_named key_named named
no_call = refl

-- a goto whose place fails
failure_in_goto : meaning_at 20 (deck (does (Nothing) (Always (Computed (Call (codes "EQ") (args ((num 1) ∷ (num 2) ∷ []))))) ∷ [])) no_inputs ≡ ends_with error.FailureInGoto 1 []
unfolding meaning prim_named key_named named
failure_in_goto = refl

-- a call gives back the values of its name, arguments and locals
functions_restore : meaning_at 60 (deck (does (Evaluate (Call (codes "DEFINE") (args ((Literal (codes "F(A)B")) ∷ [])))) (Always (Label (codes "E"))) ∷ at (codes "F") (sets (Name (codes "B")) (Literal (codes "IN"))) Next ∷ does (sets (Name (codes "F")) (Combine b.Concatenate (Name (codes "A")) (Name (codes "B")))) (Always (Label (codes "RETURN"))) ∷ at (codes "E") (sets (Name (codes "B")) (Literal (codes "OUT"))) Next ∷ set (Name (codes "F")) (Literal (codes "F")) ∷ out (Combine b.Concatenate (Call (codes "F") (args ((Literal (codes "X")) ∷ (Literal (codes "Y")) ∷ []))) (Combine b.Concatenate (Name (codes "F")) (Name (codes "B")))) ∷ out (Keyword (codes "RTNTYPE")) ∷ out (Keyword (codes "FNCLEVEL")) ∷ [])) no_inputs ≡ ends_normally (codes "XINFOUT" ∷ codes "RETURN" ∷ decimal 0 ∷ [])
unfolding meaning prim_named key_named named
functions_restore = refl

-- NRETURN gives the name of a variable, which can be assigned and fetched
by_name : meaning_at 60 (deck (does (Evaluate (Call (codes "DEFINE") (args ((Literal (codes "F()")) ∷ [])))) (Always (Label (codes "E"))) ∷ at (codes "F") (sets (Name (codes "F")) (Literal (codes "V"))) (Always (Label (codes "NRETURN"))) ∷ at (codes "E") (sets (Call (codes "F") (args ([]))) (Literal (codes "SET"))) Next ∷ out (Name (codes "V")) ∷ out (Call (codes "F") (args ([]))) ∷ [])) no_inputs ≡ ends_normally (codes "SET" ∷ codes "SET" ∷ [])
unfolding meaning prim_named key_named named
by_name = refl

-- a function that gives a value is no target
value_as_target : meaning_at 60 (deck (does (Evaluate (Call (codes "DEFINE") (args ((Literal (codes "F()")) ∷ [])))) (Always (Label (codes "E"))) ∷ at (codes "F") (sets (Name (codes "F")) (Literal (codes "V"))) (Always (Label (codes "RETURN"))) ∷ at (codes "E") (sets (Call (codes "F") (args ([]))) (Literal (codes "SET"))) Next ∷ [])) no_inputs ≡ ends_with error.NotAName 3 []
unfolding meaning prim_named key_named named
value_as_target = refl

-- an entry label FRETURN leaves the call immediately
returns_at_once : meaning_at 40 (deck (does (Evaluate (Call (codes "DEFINE") (args ((Literal (codes "F(F1)")) ∷ (Literal (codes "FRETURN")) ∷ [])))) Next ∷ does (sets OUTPUT (Call (codes "F") (args ((num 1) ∷ [])))) (OnFailure (Label (codes "L"))) ∷ out (Literal (codes "NO")) ∷ at (codes "L") (sets OUTPUT (Keyword (codes "RTNTYPE"))) Next ∷ [])) no_inputs ≡ ends_normally (codes "FRETURN" ∷ [])
unfolding meaning prim_named key_named named
returns_at_once = refl

-- APPLY calls a primitive, APPLY too, and never with too many arguments
applied : meaning_at 40 (deck (out (Call (codes "APPLY") (args ((Literal (codes "SIZE")) ∷ (Literal (codes "ABC")) ∷ []))) ∷ out (Call (codes "APPLY") (args ((Literal (codes "APPLY")) ∷ (Literal (codes "SIZE")) ∷ (Literal (codes "AB")) ∷ []))) ∷ does (Evaluate (Call (codes "APPLY") (args ((Literal (codes "SIZE")) ∷ (Literal []) ∷ (Literal []) ∷ [])))) Next ∷ [])) no_inputs ≡ ends_with error.TooManyArguments 3 (decimal 3 ∷ decimal 2 ∷ [])
unfolding meaning prim_named key_named named
applied = refl

-- REPLACE, TRIM, DUPL, REMDR, SIZE
strings_replaced : meaning_at 40 (deck (out (Call (codes "REPLACE") (args ((Literal (codes "ABCA")) ∷ (Literal (codes "AA")) ∷ (Literal (codes "XY")) ∷ []))) ∷ out (Call (codes "TRIM") (args ((Literal (codes "A  ")) ∷ []))) ∷ out (Call (codes "DUPL") (args ((Literal (codes "AB")) ∷ (num 3) ∷ []))) ∷ does (sets OUTPUT (Call (codes "DUPL") (args ((Literal (codes "AB")) ∷ (Apply u.Minus (num 1)) ∷ [])))) (OnFailure (Label (codes "L"))) ∷ at (codes "L") (sets OUTPUT (Call (codes "REMDR") (args ((Apply u.Minus (num 7)) ∷ (num 2) ∷ [])))) Next ∷ out (Call (codes "SIZE") (args ((Literal (codes "ABC")) ∷ []))) ∷ [])) no_inputs ≡ ends_normally (codes "YBCY" ∷ codes "A" ∷ codes "ABABAB" ∷ (45 ∷ decimal 1) ∷ decimal 3 ∷ [])
unfolding meaning prim_named key_named named
strings_replaced = refl

-- a pattern has no print form
printed_pattern : meaning_at 20 (deck (out (Call (codes "LEN") (args ((num 1) ∷ []))) ∷ [])) no_inputs ≡ ends_with error.NotPrintable 1 []
unfolding meaning prim_named key_named named
printed_pattern = refl
