-- Worked cases: rules used.
use Rattle.std.proofs.Common.{◌≡◌, ℕ, List, [], ◌∷◌, pos, None, Some, codes, refl}
use Rattle.model.specs.declared.image.Image.{Image}
use Rattle.model.specs.declared.image.Level.TheVariants as levels
use Rattle.model.specs.declared.instr.ArithOp.TheVariants as arith
use Rattle.model.specs.declared.instr.Instr.TheVariants as op
use Rattle.model.specs.declared.keys.KeyId.TheVariants as key
use Rattle.model.specs.declared.primitives.PrimId.TheVariants as prim
use Rattle.model.specs.declared.run.ErrorCode.TheVariants as error
use Rattle.model.specs.declared.trees.Unary.TheVariants as u
use Rattle.model.specs.declared.trees.Binary.TheVariants as b
use Rattle.model.specs.Deck.Trees.{Stmt, Expr, Name, Literal, Keyword, Call, Apply, Combine, Evaluate, Nothing, Assign, Match, Label, Next, Always}
use Rattle.model.specs.Language.Names.{prim_named, key_named, named}
use Rattle.model.specs.Language.Meaning.{meaning}
use Rattle.model.specs.Laws.Agreement.{meaning_at, machine_at}
use Rattle.model.specs.Language.RulesUsed.{query_count, rules_used}
use Rattle.model.proofs.Rows.Decks.{deck, args, num, OUTPUT, does, at, sets, set, out, no_inputs, runs, ends_normally, ends_with, ends_at_limit}

-- ` OUTPUT = 'HI'`: a statement and two nodes; 6 steps
one_line : rules_used 10 (deck (out (Literal (codes "HI")) ∷ [])) no_inputs ≡ 3
unfolding meaning query_count
one_line = refl

-- ` 'AB' 'B'`: a statement, two nodes, two starts, and three rules of the search: 'B' twice, and the end
two_starts : rules_used 20 (deck (does (Match (Literal (codes "AB")) (Literal (codes "B"))) Next ∷ [])) no_inputs ≡ 8
unfolding meaning query_count
two_starts = refl

-- ` OUTPUT = SIZE('AB')`: the call and its argument are nodes
one_call : rules_used 20 (deck (out (Call (codes "SIZE") (args (Literal (codes "AB") ∷ []))) ∷ [])) no_inputs ≡ 4
unfolding meaning query_count prim_named named
one_call = refl

-- ` 'AB' FENCE('A') 'B'`: a statement, five nodes, a start, and six rules of the search, the end of 'A' alone among them
one_fence : rules_used 20 (deck (does (Match (Literal (codes "AB")) (Combine b.Concatenate (Call (codes "FENCE") (args (Literal (codes "A") ∷ []))) (Literal (codes "B")))) Next ∷ [])) no_inputs ≡ 13
unfolding meaning query_count prim_named named
one_fence = refl

-- ` DEFINE('F()')`, ` OUTPUT = F() :(END)`, `F F = 1 :(RETURN)`: three statements, 2, 2 and 2 nodes, and nothing for the return
one_return : rules_used 40 (deck (does (Evaluate (Call (codes "DEFINE") (args (Literal (codes "F()") ∷ [])))) Next ∷ does (sets OUTPUT (Call (codes "F") (args []))) (Always (Label (codes "END"))) ∷ at (codes "F") (sets (Name (codes "F")) (num 1)) (Always (Label (codes "RETURN"))) ∷ [])) no_inputs ≡ 9
unfolding meaning query_count prim_named named
one_return = refl

-- ` 'AB' 'A' *'B'`: a statement, 4 nodes and one of the expression, its answer, a start, and five rules of the search under it
one_answer : rules_used 40 (deck (does (Match (Literal (codes "AB")) (Combine b.Concatenate (Literal (codes "A")) (Apply u.Unevaluated (Literal (codes "B"))))) Next ∷ [])) no_inputs ≡ 13
unfolding meaning query_count
one_answer = refl

-- ` 'AB' LEN(1) $ X 'B'`: a statement, 7 nodes, an answer, a start, and six rules of the search, the end of `$` among them
one_told : rules_used 40 (deck (does (Match (Literal (codes "AB")) (Combine b.Concatenate (Combine b.Immediate (Call (codes "LEN") (args (num 1 ∷ []))) (Name (codes "X"))) (Literal (codes "B")))) Next ∷ [])) no_inputs ≡ 16
unfolding meaning query_count prim_named named
one_told = refl

-- ` 'AAB' POS(0) ARBNO('A') 'B'`: a statement, 8 nodes, a start, and twenty rules of the search: three times four for ARBNO, twice two for 'A' joined to it, and four around
turns : rules_used 40 (deck (does (Match (Literal (codes "AAB")) (Combine b.Concatenate (Combine b.Concatenate (Call (codes "POS") (args (num 0 ∷ []))) (Call (codes "ARBNO") (args (Literal (codes "A") ∷ [])))) (Literal (codes "B")))) Next ∷ [])) no_inputs ≡ 30
unfolding meaning query_count prim_named named
turns = refl

-- ` 'AA' LEN(*'X')`: a statement, five nodes, a start and the row of LEN, under the script at the question whose answer is no count
no_count : rules_used 20 (deck (does (Match (Literal (codes "AA")) (Call (codes "LEN") (args (Apply u.Unevaluated (Literal (codes "X")) ∷ [])))) Next ∷ [])) no_inputs ≡ 7
unfolding meaning query_count prim_named named
no_count = refl

-- `POS(0) (ARB ARB 'B' | *(1 / 0))`
to_its_end : Expr
to_its_end = Combine b.Concatenate (Call (codes "POS") (args (num 0 ∷ []))) (Combine b.Alternate (Combine b.Concatenate (Combine b.Concatenate (Name (codes "ARB")) (Name (codes "ARB"))) (Literal (codes "B"))) (Apply u.Unevaluated (Combine b.Divide (num 1) (num 0))))

-- ` S = DUPL('A',k)`, ` S POS(0) (ARB ARB 'B' | *(1 / 0))`
to_the_end : ℕ → List Stmt
to_the_end k = deck (set (Name (codes "S")) (Call (codes "DUPL") (args (Literal (codes "A") ∷ num k ∷ []))) ∷ does (Match (Name (codes "S")) to_its_end) Next ∷ [])

-- two statements, 4, 11 and 3 nodes, and 26 of the search under the script at the question that ends the run
cut_off : rules_used 40 (to_the_end 2) no_inputs ≡ 46
unfolding meaning query_count prim_named named to_its_end to_the_end
cut_off = refl

-- 62 of the search
cut_off_later : rules_used 40 (to_the_end 5) no_inputs ≡ 82
unfolding meaning query_count prim_named named to_its_end to_the_end
cut_off_later = refl

-- its image, as the generator writes it
image_to_the_end : ℕ → Image
image_to_the_end k = record {
  level = levels.Two;
  entry = 1;
  strings = codes "S" ∷ codes "A" ∷ codes "ARB" ∷ codes "B" ∷ [];
  labels = [];
  statements = 0 ∷ 29 ∷ 80 ∷ [];
  cards = 1 ∷ 2 ∷ 3 ∷ [];
  expressions = 81 ∷ [];
  patterns = [];
  code =
      op.Begin 29 ∷ op.Var 0 ∷ op.Str 1 ∷ op.Int (pos k) ∷ op.PrimV prim.Dupl 2 ∷ op.Assign ∷ op.Body
      ∷ op.Begin 80 ∷ op.Var 0 ∷ op.Fetch ∷ op.Int (pos 0) ∷ op.PrimV prim.Pos 1
      ∷ op.Var 2 ∷ op.Fetch ∷ op.Var 2 ∷ op.Fetch ∷ op.Cat ∷ op.Str 3 ∷ op.Cat ∷ op.Expr 0 ∷ op.Alt ∷ op.Cat ∷ op.Match ∷ op.Body
      ∷ op.End ∷ op.Int (pos 1) ∷ op.Int (pos 0) ∷ op.Arith arith.Divide ∷ op.Ret ∷ [];
}

-- 23 instructions to the match, 20 and 53 pattern steps, and 3 instructions of the expression
steps_cut_off : machine_at (image_to_the_end 2) no_inputs 45 ≡ runs []
unfolding image_to_the_end
steps_cut_off = refl

ends_cut_off : machine_at (image_to_the_end 2) no_inputs 46 ≡ ends_with error.Arithmetic 2 []
unfolding image_to_the_end
ends_cut_off = refl

steps_cut_off_later : machine_at (image_to_the_end 5) no_inputs 78 ≡ runs []
unfolding image_to_the_end
steps_cut_off_later = refl

ends_cut_off_later : machine_at (image_to_the_end 5) no_inputs 79 ≡ ends_with error.Arithmetic 2 []
unfolding image_to_the_end
ends_cut_off_later = refl

-- ` DEFINE('F()')`, ` 'A' ('B' | *F())`, `F :(END)`
ends_in_call : List Stmt
ends_in_call =
    does (Evaluate (Call (codes "DEFINE") (args (Literal (codes "F()") ∷ [])))) Next
    ∷ does (Match (Literal (codes "A")) (Combine b.Alternate (Literal (codes "B")) (Apply u.Unevaluated (Call (codes "F") (args []))))) Next
    ∷ at (codes "F") Nothing (Always (Label (codes "END")))
    ∷ []

-- three statements, 2, 4 and 1 nodes, and 4 of the search under the script at the question: the END of the call ends the run
ended_within : rules_used 40 (deck ends_in_call) no_inputs ≡ 14
unfolding meaning query_count prim_named named ends_in_call
ended_within = refl

normal_within : meaning_at 40 (deck ends_in_call) no_inputs ≡ ends_normally []
unfolding meaning prim_named named ends_in_call
normal_within = refl

-- the same behind ` &STLIMIT = 3`, which keeps F's statement from being run: three statements and a node more
limited_within : rules_used 40 (deck (does (Assign (Keyword (codes "STLIMIT")) (Some (num 3))) Next ∷ ends_in_call)) no_inputs ≡ 15
unfolding meaning query_count prim_named key_named named ends_in_call
limited_within = refl

limit_within : meaning_at 40 (deck (does (Assign (Keyword (codes "STLIMIT")) (Some (num 3))) Next ∷ ends_in_call)) no_inputs ≡ ends_at_limit 4 []
unfolding meaning prim_named key_named named ends_in_call
limit_within = refl

-- ` DEFINE('F()')`, ` 'A' LEN(1) *F()`, `F 'A' *(1 / 0)`: three statements, 2, 6, 2 and 3 nodes, and the searches of both matches, 4 and 2: the question of the outer one was open
cut_off_within : rules_used 40 (deck (does (Evaluate (Call (codes "DEFINE") (args (Literal (codes "F()") ∷ [])))) Next ∷ does (Match (Literal (codes "A")) (Combine b.Concatenate (Call (codes "LEN") (args (num 1 ∷ []))) (Apply u.Unevaluated (Call (codes "F") (args []))))) Next ∷ at (codes "F") (Match (Literal (codes "A")) (Apply u.Unevaluated (Combine b.Divide (num 1) (num 0)))) Next ∷ [])) no_inputs ≡ 22
unfolding meaning query_count prim_named named
cut_off_within = refl

-- ---- what is open counts what it has done

-- `POS(0) (ARB ARB 'B' | 'A' $ OUTPUT)`
told_after : Expr
told_after = Combine b.Concatenate (Call (codes "POS") (args (num 0 ∷ []))) (Combine b.Alternate (Combine b.Concatenate (Combine b.Concatenate (Name (codes "ARB")) (Name (codes "ARB"))) (Literal (codes "B"))) (Combine b.Immediate (Literal (codes "A")) OUTPUT))

-- ` S = DUPL('A',12)`, ` S POS(0) (ARB ARB 'B' | 'A' $ OUTPUT)`
tells_late : List Stmt
tells_late = deck (set (Name (codes "S")) (Call (codes "DUPL") (args (Literal (codes "A") ∷ num 12 ∷ []))) ∷ does (Match (Name (codes "S")) told_after) Next ∷ [])

-- at this depth the search comes to its question; with its answer, a level below, it doesn't come back to it
told_open : meaning_at 11 tells_late no_inputs ≡ runs (codes "A" ∷ [])
unfolding meaning prim_named named told_after tells_late
told_open = refl

-- two statements, 4 and 13 nodes, and 218 of the search under the script at that question
counted_open : rules_used 11 tells_late no_inputs ≡ 237
unfolding meaning query_count prim_named named told_after tells_late
counted_open = refl

-- a level deeper it comes to its end: an answer, and 219 of the search under both
counted_ended : rules_used 12 tells_late no_inputs ≡ 239
unfolding meaning query_count prim_named named told_after tells_late
counted_ended = refl

-- its image, as the generator writes it
image_tells_late : Image
image_tells_late = record {
  level = levels.Two;
  entry = 1;
  strings = codes "S" ∷ codes "A" ∷ codes "ARB" ∷ codes "B" ∷ codes "OUTPUT" ∷ [];
  labels = [];
  statements = 0 ∷ 29 ∷ 86 ∷ [];
  cards = 1 ∷ 2 ∷ 3 ∷ [];
  expressions = [];
  patterns = [];
  code =
      op.Begin 29 ∷ op.Var 0 ∷ op.Str 1 ∷ op.Int (pos 12) ∷ op.PrimV prim.Dupl 2 ∷ op.Assign ∷ op.Body
      ∷ op.Begin 86 ∷ op.Var 0 ∷ op.Fetch ∷ op.Int (pos 0) ∷ op.PrimV prim.Pos 1
      ∷ op.Var 2 ∷ op.Fetch ∷ op.Var 2 ∷ op.Fetch ∷ op.Cat ∷ op.Str 3 ∷ op.Cat ∷ op.Str 1 ∷ op.Var 4 ∷ op.Imm ∷ op.Alt ∷ op.Cat ∷ op.Match ∷ op.Body
      ∷ op.End ∷ [];
}

-- counted with one in place of the 218, as other answers are, it would be bound to print by the step 5 * (20 + 1)
not_told_yet : machine_at image_tells_late no_inputs 226 ≡ runs []
unfolding image_tells_late
not_told_yet = refl

told_late : machine_at image_tells_late no_inputs 227 ≡ runs (codes "A" ∷ [])
unfolding image_tells_late
told_late = refl

-- ` DEFINE('F()')`, ` S = DUPL('A',13)`, ` S POS(0) (ARB ARB 'B' | *F())`, `F OUTPUT = 'X' :(F)`
never_answered : List Stmt
never_answered =
    deck
    (does (Evaluate (Call (codes "DEFINE") (args (Literal (codes "F()") ∷ [])))) Next
    ∷ set (Name (codes "S")) (Call (codes "DUPL") (args (Literal (codes "A") ∷ num 13 ∷ [])))
    ∷ does (Match (Name (codes "S")) (Combine b.Concatenate (Call (codes "POS") (args (num 0 ∷ []))) (Combine b.Alternate (Combine b.Concatenate (Combine b.Concatenate (Name (codes "ARB")) (Name (codes "ARB"))) (Literal (codes "B"))) (Apply u.Unevaluated (Call (codes "F") (args [])))))) Next
    ∷ at (codes "F") (sets OUTPUT (Literal (codes "X"))) (Always (Label (codes "F")))
    ∷ [])

open_within : meaning_at 12 never_answered no_inputs ≡ runs (codes "X" ∷ codes "X" ∷ codes "X" ∷ codes "X" ∷ [])
unfolding meaning prim_named named never_answered
open_within = refl

-- three statements, 2, 4, 11 nodes and the call, four times F's statement and its 2 nodes, and once the statement alone; and 246 of the search, which stands at that question
counted_within : rules_used 12 never_answered no_inputs ≡ 280
unfolding meaning query_count prim_named named never_answered
counted_within = refl

-- an image of it
image_never_answered : Image
image_never_answered = record {
  level = levels.Two;
  entry = 1;
  strings = codes "F()" ∷ codes "S" ∷ codes "A" ∷ codes "ARB" ∷ codes "B" ∷ codes "F" ∷ codes "OUTPUT" ∷ codes "X" ∷ [];
  labels = record { string = 5; statement = 4 } ∷ [];
  statements = 0 ∷ 15 ∷ 44 ∷ 95 ∷ 117 ∷ [];
  cards = 1 ∷ 2 ∷ 3 ∷ 4 ∷ 5 ∷ [];
  expressions = 118 ∷ [];
  patterns = [];
  code =
      op.Begin 15 ∷ op.Str 0 ∷ op.PrimV prim.Define 1 ∷ op.Drop ∷ op.Body
      ∷ op.Begin 44 ∷ op.Var 1 ∷ op.Str 2 ∷ op.Int (pos 13) ∷ op.PrimV prim.Dupl 2 ∷ op.Assign ∷ op.Body
      ∷ op.Begin 95 ∷ op.Var 1 ∷ op.Fetch ∷ op.Int (pos 0) ∷ op.PrimV prim.Pos 1
      ∷ op.Var 3 ∷ op.Fetch ∷ op.Var 3 ∷ op.Fetch ∷ op.Cat ∷ op.Str 4 ∷ op.Cat ∷ op.Expr 0 ∷ op.Alt ∷ op.Cat ∷ op.Match ∷ op.Body
      ∷ op.Begin 112 ∷ op.Var 6 ∷ op.Str 7 ∷ op.Assign ∷ op.Body ∷ op.Goto 4
      ∷ op.End ∷ op.CallV 5 0 ∷ op.Ret ∷ [];
}

-- without the 246 it would be bound to print all four by the step 5 * (34 + 1)
not_within_yet : machine_at image_never_answered no_inputs 261 ≡ runs []
unfolding image_never_answered prim_named named
not_within_yet = refl

told_within : machine_at image_never_answered no_inputs 280 ≡ runs (codes "X" ∷ codes "X" ∷ codes "X" ∷ codes "X" ∷ [])
unfolding image_never_answered prim_named named
told_within = refl

-- ` 'AB' ARB $ OUTPUT FAIL`
each_end : List Stmt
each_end = deck (does (Match (Literal (codes "AB")) (Combine b.Concatenate (Combine b.Immediate (Name (codes "ARB")) OUTPUT) (Name (codes "FAIL")))) Next ∷ [])

-- cut off at a depth that is enough for two ends: a statement and 6 nodes, one answer, and 9 of the search under the script at the second question
two_ends : meaning_at 8 each_end no_inputs ≡ runs (codes "" ∷ codes "A" ∷ [])
unfolding meaning prim_named named each_end
two_ends = refl

two_counted : rules_used 8 each_end no_inputs ≡ 17
unfolding meaning query_count prim_named named each_end
two_counted = refl

-- and for five
five_ends : meaning_at 11 each_end no_inputs ≡ runs (codes "" ∷ codes "A" ∷ codes "AB" ∷ codes "" ∷ codes "B" ∷ [])
unfolding meaning prim_named named each_end
five_ends = refl

five_counted : rules_used 11 each_end no_inputs ≡ 33
unfolding meaning query_count prim_named named each_end
five_counted = refl

-- and for all six, where the match ends
all_ends : meaning_at 13 each_end no_inputs ≡ ends_normally (codes "" ∷ codes "A" ∷ codes "AB" ∷ codes "" ∷ codes "B" ∷ codes "" ∷ [])
unfolding meaning prim_named named each_end
all_ends = refl

all_counted : rules_used 13 each_end no_inputs ≡ 43
unfolding meaning query_count prim_named named each_end
all_counted = refl

-- ---- the most steps for a rule

-- ` &STLIMIT = k`, `L &ANCHOR = :(L)`: behind the first, each statement is one rule, and takes BEGIN, NULL, KEYSET, BODY and
-- GOTO
sets_keywords : ℕ → List Stmt
sets_keywords k = deck (does (Assign (Keyword (codes "STLIMIT")) (Some (num k))) Next ∷ at (codes "L") (Assign (Keyword (codes "ANCHOR")) None) (Always (Label (codes "L"))) ∷ [])

-- its image, as the generator writes it
image_sets_keywords : ℕ → Image
image_sets_keywords k = record {
  level = levels.Two;
  entry = 1;
  strings = codes "L" ∷ [];
  labels = record { string = 0; statement = 2 } ∷ [];
  statements = 0 ∷ 17 ∷ 31 ∷ [];
  cards = 1 ∷ 2 ∷ 3 ∷ [];
  expressions = [];
  patterns = [];
  code =
      op.Begin 17 ∷ op.Int (pos k) ∷ op.KeySet key.StLimit ∷ op.Body
      ∷ op.Begin 26 ∷ op.Null ∷ op.KeySet key.Anchor ∷ op.Body ∷ op.Goto 2
      ∷ op.End ∷ [];
}

keywords_end : meaning_at 20 (sets_keywords 9) no_inputs ≡ ends_at_limit 2 []
unfolding meaning key_named named sets_keywords
keywords_end = refl

-- nine statements and a node
keywords_counted : rules_used 20 (sets_keywords 9) no_inputs ≡ 10
unfolding meaning query_count key_named named sets_keywords
keywords_counted = refl

-- four steps for each rule, 4 * (10 + 1), are too few
four_are_too_few : machine_at (image_sets_keywords 9) no_inputs 44 ≡ runs []
unfolding image_sets_keywords
four_are_too_few = refl

ends_after_nine : machine_at (image_sets_keywords 9) no_inputs 45 ≡ ends_at_limit 2 []
unfolding image_sets_keywords
ends_after_nine = refl

-- k statements are k + 1 rules and 5 * k steps, so no smaller constant is enough: these are 200 steps for 41 rules
keywords_counted_later : rules_used 60 (sets_keywords 40) no_inputs ≡ 41
unfolding meaning query_count key_named named sets_keywords
keywords_counted_later = refl

runs_before_forty : machine_at (image_sets_keywords 40) no_inputs 199 ≡ runs []
unfolding image_sets_keywords
runs_before_forty = refl

ends_after_forty : machine_at (image_sets_keywords 40) no_inputs 200 ≡ ends_at_limit 2 []
unfolding image_sets_keywords
ends_after_forty = refl
