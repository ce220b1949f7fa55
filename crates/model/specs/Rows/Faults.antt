-- Worked cases of faults, one beside the other: a deck, and what it comes to.
use Rattle.std.specs.Prelude.{◌≡◌, ℕ, zero, suc, pos, [], ◌∷◌, ◌++◌, Some, None, codes}
use Rattle.model.specs.declared.cards.CardRule.TheVariants as rule
use Rattle.model.specs.declared.causes.Cause.{Cause}
use Rattle.model.specs.declared.causes.Cause.TheVariants as cause
use Rattle.model.specs.declared.causes.StmtFault.{StmtFault}
use Rattle.model.specs.Deck.Cards.{fault}
use Rattle.model.specs.Deck.Faults.{Verdict, CardRefused, Refused, Accepted, verdict}
use Rattle.model.specs.Deck.Trees.{Bytes, Name, Integer, Label, Next, Always, Nothing, Assign, Plain, End}

-- a card with its line feed
abbrev card : Bytes → Bytes
card line = line ++ 10 ∷ []

abbrev end : Bytes
end = card (codes "END")

-- what a deck of this card and END comes to
abbrev one : Bytes → Verdict
one line = verdict (card line ++ end)

abbrev at : ℕ → Cause → StmtFault
at n c = record { number = n; cause = c }

-- one faulty statement, the first
abbrev first : Cause → Verdict
first c = Refused (at 1 c ∷ [])

abbrev times : ℕ → Bytes → Bytes
times zero text = []
times (suc n) text = text ++ times n text

pub record FaultRows : Type 0 where
  pub accepted : one (codes "L OUTPUT = 1") ≡ Accepted (Plain (Some (codes "L")) (Assign (Name (codes "OUTPUT")) (Some (Integer (pos 1)))) Next ∷ End None ∷ [])
  -- each cause
  pub stray_byte : one (codes " OUTPUT = #") ≡ first cause.StrayByte
  pub unclosed_literal : one (codes " OUTPUT = 'X") ≡ first cause.UnclosedLiteral
  pub too_large : one (codes " OUTPUT = 9223372036854775808") ≡ first cause.IntegerTooLarge
  pub brackets : verdict (card (codes " X = " ++ times 65 (codes "(")) ++ card (codes "+1" ++ times 65 (codes ")")) ++ end) ≡ first cause.TooManyBrackets
  pub marks : one (codes " OUTPUT = " ++ times 17 (codes "-") ++ codes "X") ≡ first cause.TooManyMarks
  pub no_tree : one (codes "A+ B") ≡ first cause.NoTree
  pub return_as_label : one (codes "RETURN") ≡ first cause.LabelTaken
  pub label_twice : verdict (card (codes "L OUTPUT = 1") ++ card (codes "L OUTPUT = 2") ++ end) ≡ Refused (at 2 cause.LabelTaken ∷ [])
  pub arguments : one (codes " OUTPUT = SIZE(A,B)") ≡ first cause.TooManyArguments
  pub absent_argument : one (codes " OUTPUT = SIZE(A,)") ≡ first cause.TooManyArguments
  pub unknown_label : one (codes " :(L)") ≡ Accepted (Plain None Nothing (Always (Label (codes "L"))) ∷ End None ∷ [])
  pub keyword : one (codes " OUTPUT = &NOSUCH") ≡ first cause.UnknownKeyword
  pub protected : one (codes " &STNO = 1") ≡ first cause.NotATarget
  pub keyword_replaced : one (codes " &ANCHOR 'A' = 1") ≡ first cause.NotATarget
  pub literal_assigned : one (codes " 'A' = 1") ≡ first cause.NotATarget
  pub no_target : one (codes " X 'A' . 'B'") ≡ first cause.NotATarget
  pub name_of_keyword : one (codes " X = F(A<.&TRIM>)") ≡ first cause.NotATarget
  pub entry : verdict (card (codes " OUTPUT = 1") ++ card (codes "END NOWHERE")) ≡ Refused (at 2 cause.EntryMissing ∷ [])
  -- the least cause of a statement
  pub lexical_before_tree : one (codes "A+ B #") ≡ first cause.StrayByte
  pub label_before_arguments : one (codes "FRETURN OUTPUT = SIZE(&NOSUCH,B)") ≡ first cause.LabelTaken
  pub arguments_before_keyword : one (codes " OUTPUT = SIZE(&NOSUCH,B)") ≡ first cause.TooManyArguments
  pub keyword_before_target : one (codes " &NOSUCH = 1") ≡ first cause.UnknownKeyword
  -- a label counts where its statement has a tree, whatever else is wrong with it
  pub label_without_tree : verdict (card (codes "L X+") ++ card (codes "L") ++ end) ≡ Refused (at 1 cause.NoTree ∷ [])
  pub label_of_faulty : verdict (card (codes "L &STNO = 1") ++ card (codes "L") ++ end) ≡ Refused (at 1 cause.NotATarget ∷ at 2 cause.LabelTaken ∷ [])
  pub entry_at_return : verdict (card (codes "NRETURN") ++ card (codes "END NRETURN")) ≡ Refused (at 1 cause.LabelTaken ∷ [])
  -- all faulty statements in order, and a card fault alone
  pub two_faulty : verdict (card (codes "L OUTPUT = 1") ++ card (codes " OUTPUT = 'X") ++ card (codes "L OUTPUT = 2") ++ end) ≡ Refused (at 2 cause.UnclosedLiteral ∷ at 3 cause.LabelTaken ∷ [])
  pub card_fault : verdict (card (codes " OUTPUT = #") ++ card (codes "-LISTX") ++ end) ≡ CardRefused (fault 2 rule.UnknownControl)
