-- The pieces of all cards, from the parts of the cards so far and the cards that follow.
use Rattle.std.proofs.Common.{◌≡◌, refl, sym, ◌∙◌, ap, ℕ, ◌+◌, true, false, List, [], ◌∷◌, ◌++◌, take, drop, append_assoc, append-nil}
use Rattle.std.specs.Prelude.{Option, Some, None, map}
use Rattle.model.specs.Deck.Cards.{Card, CardKind, Comment, Control, UnknownControl, Continuation, Start, Column, placed, continued, texts, split, kind_of, pieces_of_texts, pieces_of, has_end, beginnings, first_ended, ended}
use Rattle.card_reader.specs.Parts.{after, glue, Parts, parts, nothing, grown, appended, ended_text, step, all_pieces}
use Rattle.card_reader.specs.Reached.{with_more, pieces_at, ended_at}
use Rattle.card_reader.specs.declared.reader.Stop.TheVariants as stop
use Rattle.card_reader.specs.Reading.{IsStop, pieces_now}
use Rattle.card_reader.proofs.Splitting.{Some_piece, split_some, glue_start, split_append}

-- ---- one text

glue_shift : (a : List Column) (xs bs : List (List Column)) → Some_piece xs → Some_piece bs → glue (a ∷ []) (glue xs bs) ≡ glue (glue (a ∷ []) xs) bs
glue_shift a [] bs s t = absurd (let e = s.is in cc)
glue_shift a (x ∷ []) [] s t = absurd (let e = t.is in cc)
glue_shift a (x ∷ []) (b ∷ bs) s t = ap (λ y. y ∷ bs) (sym (append_assoc a x b))
glue_shift a (x ∷ y ∷ xs) bs s t = refl

grown_all : (whole : List (List Column)) (last : List Column) (ps : List (List Column)) (q : Option ℕ) (bs : List (List Column)) → Some_piece ps
    → whole ++ glue (glue (last ∷ []) ps) bs ≡ with_more (grown whole last ps q) bs
grown_all whole last [] q bs s = absurd (let e = s.is in cc)
grown_all whole last (p ∷ []) q bs s = refl
grown_all whole last (p ∷ r ∷ ps) q bs s =
    sym (append_assoc whole ((last ++ p) ∷ []) (glue (r ∷ ps) bs)) ∙ grown_all (whole ++ (last ++ p) ∷ []) [] (r ∷ ps) q bs (record { first = r; more = ps; is = refl })

grown_quote : (whole : List (List Column)) (last : List Column) (ps : List (List Column)) (q : Option ℕ) → (grown whole last ps q).quote ≡ q
grown_quote whole last [] q = refl
grown_quote whole last (p ∷ []) q = refl
grown_quote whole last (p ∷ r ∷ ps) q = grown_quote (whole ++ (last ++ p) ∷ []) [] (r ∷ ps) q

pub appended_all : (s : Parts) (xs ys : List Column) → with_more s (split s.quote (xs ++ ys)) ≡ with_more (appended s xs) (split (appended s xs).quote ys)
unfolding appended
appended_all s xs ys =
    let q = after s.quote xs in
    ap (with_more s) (split_append s.quote xs ys)
    ∙ ap (λ x. s.whole ++ x) (glue_shift s.last (split s.quote xs) (split q ys) (split_some s.quote xs) (split_some q ys))
    ∙ grown_all s.whole s.last (split s.quote xs) q (split q ys) (split_some s.quote xs)
    ∙ ap (λ x. with_more (grown s.whole s.last (split s.quote xs) q) (split x ys)) (sym (grown_quote s.whole s.last (split s.quote xs) q))

-- ---- the cards that follow

pub pieces_step : (o : Option Parts) (c : Card) (cards : List Card) (k : CardKind) → kind_of c ≡ k → pieces_at o (c ∷ cards) ≡ pieces_at (step o k c.number) cards
pieces_step None c cards Comment e = rw e refl
pieces_step None c cards Control e = rw e refl
pieces_step None c cards UnknownControl e = rw e refl
pieces_step None c cards (Continuation text) e = rw e refl
pieces_step None c cards (Start text) e =
    rw e (ap (λ x. x ++ pieces_of_texts (texts cards))
    (glue_start (split None (placed c.number text ++ continued cards)) (split_some None (placed c.number text ++ continued cards))
    ∙ appended_all nothing (placed c.number text) (continued cards)))
pieces_step (Some s) c cards Comment e = rw e refl
pieces_step (Some s) c cards Control e = rw e refl
pieces_step (Some s) c cards UnknownControl e = rw e refl
pieces_step (Some s) c cards (Continuation text) e =
    rw e (ap (λ x. x ++ pieces_of_texts (texts cards)) (appended_all s (placed c.number text) (continued cards)))
pieces_step (Some s) c cards (Start text) e =
    let xs = placed c.number text in
    let ys = continued cards in
    let later = pieces_of_texts (texts cards) in
    let first : s.whole ++ (s.last ++ []) ∷ [] ≡ s.whole ++ s.last ∷ [] = ap (λ x. s.whole ++ x ∷ []) (append-nil s.last) in
    let last : split None (xs ++ ys) ≡ glue ([] ∷ []) (split None (xs ++ ys)) = glue_start (split None (xs ++ ys)) (split_some None (xs ++ ys)) in
    let text_done : (s.whole ++ s.last ∷ []) ++ split None (xs ++ ys) ≡ with_more (appended (ended_text s) xs) (split (appended (ended_text s) xs).quote ys) =
    ap (λ x. (s.whole ++ s.last ∷ []) ++ x) last ∙ appended_all (ended_text s) xs ys in
    rw (e, first) (sym (append_assoc (s.whole ++ s.last ∷ []) (split None (xs ++ ys)) later) ∙ ap (λ x. x ++ later) text_done)

pub pieces_end : (o : Option Parts) → pieces_at o [] ≡ pieces_now o
pieces_end None = refl
pieces_end (Some s) = append-nil (s.whole ++ (s.last ++ []) ∷ []) ∙ ap (λ x. s.whole ++ x ∷ []) (append-nil s.last)

-- ---- the card that ends the deck

same_map : (bs : List (List Card)) → map (λ b. [] ++ b) bs ≡ bs
same_map [] = refl
same_map (b ∷ bs) = ap (λ x. b ∷ x) (same_map bs)

pub ended_start : (cards : List Card) → ended cards ≡ ended_at [] cards
unfolding ended
ended_start cards = ap first_ended (sym (same_map (beginnings cards)))

map_map : (before : List Card) (c : Card) (bs : List (List Card)) → map (λ b. before ++ b) (map (λ b. c ∷ b) bs) ≡ map (λ b. (before ++ c ∷ []) ++ b) bs
map_map before c [] = refl
map_map before c (b ∷ bs) = ap (λ x. x ∷ map (λ b. before ++ b) (map (λ b. c ∷ b) bs)) (sym (append_assoc before (c ∷ []) b)) ∙ ap (λ x. ((before ++ c ∷ []) ++ b) ∷ x) (map_map before c bs)

pub ended_here : (before cards : List Card) → has_end (pieces_of before) ≡ true → ended_at before cards ≡ Some before
ended_here before [] h = rw (append-nil before, h) refl
ended_here before (c ∷ cards) h = rw (append-nil before, h) refl

pub ended_later : (before : List Card) (c : Card) (cards : List Card) → has_end (pieces_of before) ≡ false → ended_at before (c ∷ cards) ≡ ended_at (before ++ c ∷ []) cards
ended_later before c cards h = rw (append-nil before, h) (ap first_ended (map_map before c (beginnings cards)))

pub ended_never : (before : List Card) → has_end (pieces_of before) ≡ false → ended_at before [] ≡ None
ended_never before h = rw (append-nil before, h) refl

-- ---- where a piece stops

grown_next : (whole : List (List Column)) (last p : List Column) (ps : List (List Column)) (q : Option ℕ) → Some_piece ps → grown whole last (p ∷ ps) q ≡ grown (whole ++ (last ++ p) ∷ []) [] ps q
grown_next whole last p [] q s = absurd (let e = s.is in cc)
grown_next whole last p (r ∷ ps) q s = refl

grown_pieces : (whole : List (List Column)) (last : List Column) (ps : List (List Column)) (q : Option ℕ) → Some_piece ps → all_pieces (grown whole last ps q) ≡ whole ++ glue (last ∷ []) ps
grown_pieces whole last [] q s = absurd (let e = s.is in cc)
grown_pieces whole last (p ∷ []) q s = refl
grown_pieces whole last (p ∷ r ∷ ps) q s =
    grown_pieces (whole ++ (last ++ p) ∷ []) [] (r ∷ ps) q (record { first = r; more = ps; is = refl }) ∙ append_assoc whole ((last ++ p) ∷ []) (r ∷ ps)

-- what the parts are once the piece behind this text has ended
abbrev pub after_piece : Parts → List Column → Parts
after_piece s text = parts (s.whole ++ (s.last ++ text) ∷ []) [] None

pub appended_end : (s : Parts) (n : ℕ) (text : List ℕ) (q : Option ℕ) → IsStop s.quote text (stop.End q) → appended s (placed n text) ≡ parts s.whole (s.last ++ placed n text) q
unfolding appended
appended_end s n text q h = rw (h.0 n, h.1 n) refl

pub appended_stop : (s : Parts) (n : ℕ) (text : List ℕ) (i : ℕ) → IsStop s.quote text (stop.Semicolon i) → appended s (placed n text) ≡ appended (after_piece s (placed n (take i text))) (placed n (drop (i + 1) text))
unfolding appended
appended_stop s n text i h =
    let rest = placed n (drop (i + 1) text) in
    rw (h.1 n, h.2 n) (grown_next s.whole s.last (placed n (take i text)) (split None rest) (after None rest) (split_some None rest))

pub appended_pieces : (s : Parts) (n : ℕ) (text : List ℕ) (i : ℕ) → IsStop s.quote text (stop.Semicolon i)
    → all_pieces (appended s (placed n text)) ≡ s.whole ++ (s.last ++ placed n (take i text)) ∷ glue ([] ∷ []) (split None (placed n (drop (i + 1) text)))
unfolding appended
appended_pieces s n text i h =
    let rest = placed n (drop (i + 1) text) in
    let t = after_piece s (placed n (take i text)) in
    ap all_pieces (appended_stop s n text i h)
    ∙ grown_pieces t.whole [] (split None rest) (after None rest) (split_some None rest)
    ∙ append_assoc s.whole ((s.last ++ placed n (take i text)) ∷ []) (glue ([] ∷ []) (split None rest))
