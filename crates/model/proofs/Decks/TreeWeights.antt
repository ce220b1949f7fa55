-- A text is at least as long as its tree is heavy.
use Rattle.std.proofs.Common.{◌≡◌, ap, ℕ, ◌+◌, ◌-◌, ◌≤◌, List, [], ◌∷◌, ◌++◌, length, drop, length-append, arith}
use Rattle.std.specs.Prelude.{Option, Ok}
use Rattle.std.proofs.lemmas.List.{length-take}
use Rattle.model.specs.declared.tokens.TokenKind.{TokenKind}
use Rattle.model.specs.declared.tokens.TokenKind.TheVariants as kind
use Rattle.model.specs.declared.trees.Binary.{Binary}
use Rattle.model.specs.declared.trees.Binary.TheVariants as binary
use Rattle.model.specs.Deck.Cut.{IsToken, Piece, Token, Stray, Unclosed, Cut, toks_of}
use Rattle.model.specs.Deck.Faults.{read}
use Rattle.model.specs.Deck.Grammar.{link, shown, Phrase, Element, Grade, One, Several, Spells, name, integer, literal, keyword, applied, brackets, call, reference, plain, looser, combined, absent, present, single, comma}
use Rattle.model.specs.Deck.Pieces.{pieces}
use Rattle.model.specs.Deck.Statements as st
use Rattle.model.specs.Deck.Statements.{IsPlace, InBrackets, IsExits, IsGoto, IsObject, IsBody, IsLabel, IsEntry, Tree}
use Rattle.model.specs.Deck.Tokens.{Tok, Blank, Word, Digits, Quoted, Sign, tok_by, between_quotes}
use Rattle.model.specs.Deck.Trees.{Bytes, Expr, Absent, Given, Args, Nil, More, Place, Goto, Body, Stmt}
use Rattle.model.specs.Deck.Weights.{of_name, of_expr, of_arg, of_args, of_place, of_goto, of_object, of_body, of_label, of_entry, weight}
use Rattle.model.proofs.Decks.Cutting.{cut_is}
use Rattle.model.proofs.Decks.Ends.{piece_is}
use Rattle.model.proofs.Decks.Verdicts.{read_is}
use Rattle.model.proofs.Decks.StatementSound.{stmt_sound}

-- ---- how many bytes tokens have at least

abbrev of_tok : Tok → ℕ
of_tok Blank = 1
of_tok (Word s) = of_name s
of_tok (Digits n) = 1
of_tok (Quoted s) = length s + 2
of_tok (Sign m) = 1

abbrev size : List Tok → ℕ
size [] = 0
size (t ∷ ts) = of_tok t + size ts

size-append : (ts us : List Tok) → size (ts ++ us) ≡ size ts + size us
size-append [] us = omega arith
size-append (t ∷ ts) us = let more = size-append ts us in omega arith

-- ---- expressions

abbrev Holds : Phrase → ℕ → Type 0
Holds (Element e) n = of_expr e ≤ n
Holds (Grade k e) n = of_expr e ≤ n
Holds (One arg) n = of_arg arg ≤ n
-- the last has no comma
Holds (Several args) n = of_args args ≤ n + 1

shown_less : (args : Args) → of_args (shown args) ≤ of_args args
shown_less Nil = omega arith
shown_less (More Absent Nil) = omega arith
shown_less (More Absent (More arg args)) = omega arith
shown_less (More (Given e) args) = omega arith

link_some : (op : Binary) → 1 ≤ size (link op)
link_some binary.Conditional = omega arith
link_some binary.Immediate = omega arith
link_some binary.Power = omega arith
link_some binary.Multiply = omega arith
link_some binary.Divide = omega arith
link_some binary.Add = omega arith
link_some binary.Subtract = omega arith
link_some binary.Concatenate = omega arith
link_some binary.Alternate = omega arith

spelt : {p : Phrase} {ts : List Tok} → Spells p ts → Holds p (size ts)
spelt (name s) = omega arith
spelt (integer n) = omega arith
spelt (literal s) = omega arith
spelt (keyword s) = omega arith
spelt (applied u e ts s) = let x = spelt s in omega arith
spelt (brackets e ts g h s) = let x = spelt s in omega (arith, size-append)
spelt (call f args ts s) = let x = spelt s in omega (arith, size-append, shown_less args)
spelt (reference a args ts s all) = let x = spelt s in omega (arith, size-append)
spelt (plain e ts s) = spelt s
spelt (looser k e ts s) = spelt s
spelt (combined op a b ts us s t) = let x = spelt s in let y = spelt t in omega (arith, size-append, link_some op)
spelt (absent g) = omega arith
spelt (present e ts g h s) = let x = spelt s in omega (arith, size-append)
spelt (single arg ts s) = let x = spelt s in omega arith
spelt (comma arg args ts us s t) = let x = spelt s in let y = spelt t in omega (arith, size-append)

-- ---- statements

place_less : (p : Place) (ts : List Tok) → IsPlace p ts → of_place p ≤ size ts
place_less _ _ (st.label l) = omega arith
place_less _ _ (st.computed e ts s) = let x = spelt s in omega arith

brackets_less : (p : Place) (ts : List Tok) → InBrackets p ts → of_place p + 2 ≤ size ts
brackets_less _ _ (st.brackets p ts g h i) = let x = place_less p ts i in omega (arith, size-append)

exits_less : (e : Goto) (ts : List Tok) → IsExits e ts → of_goto e ≤ size ts + 2
exits_less _ _ (st.always p ts i) = let x = brackets_less p ts i in omega arith
exits_less _ _ (st.success p ts i) = let x = brackets_less p ts i in omega arith
exits_less _ _ (st.failure p ts i) = let x = brackets_less p ts i in omega arith
exits_less _ _ (st.success_first p q ts us g i j) = let x = brackets_less p ts i in let y = brackets_less q us j in omega (arith, size-append)
exits_less _ _ (st.failure_first p q ts us g i j) = let x = brackets_less p ts i in let y = brackets_less q us j in omega (arith, size-append)

goto_less : (g : Goto) (ts : List Tok) → IsGoto g ts → of_goto g ≤ size ts
goto_less _ _ st.next = omega arith
goto_less _ _ (st.leaves exits ts g i) = let x = exits_less exits ts i in omega (arith, size-append)

object_less : (o : Option Expr) (ts : List Tok) → IsObject o ts → of_object o ≤ size ts
object_less _ _ st.absent = omega arith
object_less _ _ (st.present e ts s) = let x = spelt s in omega arith

body_less : (b : Body) (ts : List Tok) → IsBody b ts → of_body b ≤ size ts
body_less _ _ st.nothing = omega arith
body_less _ _ (st.evaluate x ts s) = let a = spelt s in omega arith
body_less _ _ (st.match x p ts us s t) = let a = spelt s in let b = spelt t in omega (arith, size-append)
body_less _ _ (st.assign x o ts us s i) = let a = spelt s in let b = object_less o us i in omega (arith, size-append)
body_less _ _ (st.replace x p o ts us vs s t i) = let a = spelt s in let b = spelt t in let c = object_less o vs i in omega (arith, size-append)

label_less : (l : Option Bytes) (ts : List Tok) → IsLabel l ts → of_label l ≤ size ts
label_less _ _ st.unlabelled = omega arith
label_less _ _ (st.labelled l other) = omega arith

entry_less : (l : Option Bytes) (ts : List Tok) → IsEntry l ts → of_entry l ≤ size ts
entry_less _ _ st.first = omega arith
entry_less _ _ (st.entry l) = omega arith

tree_less : (s : Stmt) (ts : List Tok) → Tree s ts → weight s ≤ size ts
tree_less _ _ (st.plain l b g ts us vs h i j k) = let x = label_less l ts i in let y = body_less b us j in let z = goto_less g vs k in omega (arith, size-append)
tree_less _ _ (st.end l ts h i) = let x = entry_less l ts i in omega (arith, size-append)

-- ---- texts

quotes_less : (text : List ℕ) → 2 ≤ length text → length (between_quotes text) + 2 ≤ length text
quotes_less text h = omega (arith, length-take (length text - 2) (drop 1 text))

tok_less : (k : TokenKind) (text : List ℕ) → IsToken k text → of_tok (tok_by k text) ≤ length text
tok_less k [] t = absurd t
tok_less kind.Blank (b ∷ bs) t = omega arith
tok_less kind.Name (b ∷ bs) t = omega arith
tok_less kind.Integer (b ∷ bs) t = omega arith
tok_less kind.Literal (b ∷ bs) t = quotes_less (b ∷ bs) (omega (arith, ap length t.1.1, length-append t.1.0 (b ∷ [])))
tok_less (kind.Mark m) (b ∷ bs) t = omega arith

toks_less : (text : List ℕ) (ps : List Piece) → Cut text ps → size (toks_of ps) ≤ length text
toks_less text [] cut = omega arith
toks_less text (Token k token ∷ ps) cut =
    let one = tok_less k token (piece_is text (Token k token) cut.0) in
    let more = toks_less cut.1.0 ps cut.1.2 in
    omega (arith, ap length cut.1.1, length-append token cut.1.0)
toks_less text (Stray b ∷ ps) cut = let more = toks_less cut.1.0 ps cut.1.2 in omega (arith, ap length cut.1.1)
toks_less text (Unclosed t ∷ ps) cut = let more = toks_less cut.1.0 ps cut.1.2 in omega (arith, ap length cut.1.1, length-append t cut.1.0)

pub read_less : (text : List ℕ) (s : Stmt) → read text ≡ Ok s → weight s ≤ length text
read_less text s h =
    let tree = tree_less s (toks_of (pieces text)) (stmt_sound (toks_of (pieces text)) s (read_is text s h).1) in
    let all = toks_less text (pieces text) (cut_is text) in
    omega arith
