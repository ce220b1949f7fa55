-- Worked cases of trees, one beside the other: a statement's text, and its tree or that no tree has its tokens.
use Rattle.std.specs.Prelude.{◌≡◌, ℕ, pos, [], Option, Some, None, codes}
use Rattle.model.specs.declared.trees.Unary.TheVariants as unary
use Rattle.model.specs.declared.trees.Binary.TheVariants as binary
use Rattle.model.specs.Deck.Cut.{toks_of}
use Rattle.model.specs.Deck.Pieces.{pieces}
use Rattle.model.specs.Deck.ParseStatements.{stmt}
use Rattle.model.specs.Deck.Trees.{Bytes, Expr, Name, Integer, Literal, Keyword, Call, Reference, Apply, Combine, Absent, Given, Nil, More, Label, Computed, Goto, Next, Always, OnSuccess, OnFailure, Both, Body, Nothing, Evaluate, Match, Assign, Replace, Stmt, Plain, End}

-- the tree of a text
abbrev tree : Bytes → Option Stmt
tree text = stmt (toks_of (pieces text))

abbrev number : ℕ → Expr
number n = Integer (pos n)

abbrev a : Expr
a = Name (codes "A")

abbrev b : Expr
b = Name (codes "B")

abbrev x : Expr
x = Name (codes "X")

-- a statement without label and goto
abbrev alone : Body → Option Stmt
alone body = Some (Plain None body Next)

-- ` X = ` and an expression
abbrev x_is : Expr → Option Stmt
x_is e = alone (Assign x (Some e))

-- a goto without anything before it
abbrev going : Goto → Option Stmt
going goto = Some (Plain None Nothing goto)

pub record TreeRows : Type 0 where
  -- how operators bind
  pub division : tree (codes " OUTPUT = 7 / 2 * 3")
      ≡ alone (Assign (Name (codes "OUTPUT")) (Some (Combine binary.Divide (number 7) (Combine binary.Multiply (number 2) (number 3)))))
  pub power : tree (codes " X = 2 ** 3 ** 2") ≡ x_is (Combine binary.Power (number 2) (Combine binary.Power (number 3) (number 2)))
  pub difference : tree (codes " X = 7 - 2 + 1") ≡ x_is (Combine binary.Add (Combine binary.Subtract (number 7) (number 2)) (number 1))
  pub alternation : tree (codes " X = A B | A 'C' + 1") ≡ x_is (Combine binary.Alternate (Combine binary.Concatenate a b) (Combine binary.Concatenate a (Combine binary.Add (Literal (codes "C")) (number 1))))
  pub assignments : tree (codes " X = A ** B . X $ A") ≡ x_is (Combine binary.Power a (Combine binary.Immediate (Combine binary.Conditional b x) a))
  pub brackets : tree (codes " X = ( A B ) * 1") ≡ x_is (Combine binary.Multiply (Combine binary.Concatenate a b) (number 1))
  pub brackets_around_all : tree (codes " X = ((A))") ≡ x_is a
  -- elements
  pub unaries : tree (codes " X = .$*@+-?~A") ≡ x_is (Apply unary.NameOf (Apply unary.Indirect (Apply unary.Unevaluated (Apply unary.Cursor (Apply unary.Plus (Apply unary.Minus (Apply unary.Interrogate (Apply unary.Negate a))))))))
  pub keyword : tree (codes " &TRIM = &ANCHOR") ≡ alone (Assign (Keyword (codes "TRIM")) (Some (Keyword (codes "ANCHOR"))))
  pub no_argument : tree (codes " A()") ≡ alone (Evaluate (Call (codes "A") Nil))
  pub blank_argument : tree (codes " A( )") ≡ alone (Evaluate (Call (codes "A") Nil))
  pub absent_arguments : tree (codes " A( , )") ≡ alone (Evaluate (Call (codes "A") (More Absent (More Absent Nil))))
  pub arguments : tree (codes " A( B ,,1)") ≡ alone (Evaluate (Call (codes "A") (More (Given b) (More Absent (More (Given (number 1)) Nil)))))
  pub subscripts : tree (codes " A<B, 1>") ≡ alone (Evaluate (Reference (codes "A") (More (Given b) (More (Given (number 1)) Nil))))
  pub absent_subscript : tree (codes " A<B,>") ≡ None
  pub no_subscript : tree (codes " A<>") ≡ None
  pub name_apart_from_bracket : tree (codes " A <1>") ≡ None
  -- what stands beside each other without blanks, or with too many
  pub no_blank_before_operator : tree (codes "A+ B") ≡ None
  pub blank_after_unary : tree (codes " X = - A") ≡ None
  pub two_literals : tree (codes " X = 'A''B'") ≡ None
  pub digit_then_letter : tree (codes " X = 1A") ≡ None
  pub power_is_no_unary : tree (codes " X = **A") ≡ None
  pub keyword_of_call : tree (codes " X = &A(1)") ≡ None
  -- bodies
  pub empty : tree [] ≡ alone Nothing
  pub only_label : tree (codes "L") ≡ Some (Plain (Some (codes "L")) Nothing Next)
  pub label_and_blanks : tree (codes "L ") ≡ Some (Plain (Some (codes "L")) Nothing Next)
  pub label_and_subject : tree (codes "L A") ≡ Some (Plain (Some (codes "L")) (Evaluate a) Next)
  pub label_without_blank : tree (codes "L'A'") ≡ None
  pub matching : tree (codes " X A B") ≡ alone (Match x (Combine binary.Concatenate a b))
  pub match_of_unary : tree (codes " X -A") ≡ alone (Match x (Apply unary.Minus a))
  pub operator_after_subject : tree (codes " X - A") ≡ None
  pub no_object : tree (codes " X =") ≡ alone (Assign x None)
  pub blank_object : tree (codes " X = ") ≡ alone (Assign x None)
  pub no_blank_after_equal : tree (codes " X =A") ≡ None
  pub replacement : tree (codes " X A = B") ≡ alone (Replace x a (Some b))
  pub deletion : tree (codes " X A =") ≡ alone (Replace x a None)
  pub no_subject : tree (codes " = A") ≡ None
  -- gotos
  pub both_ways : tree (codes " :S(A)F($B)") ≡ going (Both (Label (codes "A")) (Computed b))
  pub other_order : tree (codes " :F( $('A') ) S(B) ") ≡ going (Both (Label (codes "B")) (Computed (Literal (codes "A"))))
  pub always : tree (codes "L X = : ( A )") ≡ Some (Plain (Some (codes "L")) (Assign x None) (Always (Label (codes "A"))))
  pub success : tree (codes " X A :S(B)") ≡ Some (Plain None (Match x a) (OnSuccess (Label (codes "B"))))
  pub failure : tree (codes " A :F(B)") ≡ Some (Plain None (Evaluate a) (OnFailure (Label (codes "B"))))
  pub blank_after_word : tree (codes " :S (A)") ≡ None
  pub success_twice : tree (codes " :S(A)S(B)") ≡ None
  pub no_place : tree (codes " :()") ≡ None
  pub no_blank_before_colon : tree (codes " X:(A)") ≡ None
  -- END
  pub end : tree (codes "END") ≡ Some (End None)
  pub end_and_blanks : tree (codes "END  ") ≡ Some (End None)
  pub entry : tree (codes "END  A ") ≡ Some (End (Some (codes "A")))
  pub end_and_more : tree (codes "END A B") ≡ None
  pub end_and_goto : tree (codes "END :(A)") ≡ None
  pub end_as_subject : tree (codes " END") ≡ alone (Evaluate (Name (codes "END")))
