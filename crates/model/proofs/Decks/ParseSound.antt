-- What the parser gives is spelled by what it took.
use Rattle.std.proofs.Common.{◌≡◌, refl, sym, ◌∙◌, ap, subst, ℕ, zero, suc, ◌==◌, inl, inr, true, false, List, [], ◌∷◌, ◌++◌, length, append_assoc, arith}
use Rattle.std.specs.Prelude.{pos, Some, None, if◌then◌else◌}
use Rattle.model.specs.declared.tokens.Mark.{Mark}
use Rattle.model.specs.declared.tokens.Mark.TheVariants as mark
use Rattle.model.specs.declared.trees.Unary.{Unary}
use Rattle.model.specs.declared.trees.Binary.{Binary}
use Rattle.model.specs.declared.trees.Binary.TheVariants as binary
use Rattle.model.specs.Deck.Tokens.{Tok, Blank, Word, Digits, Quoted, Sign}
use Rattle.model.specs.Deck.Trees.{Expr, Name, Integer, Literal, Keyword, Call, Reference, Apply, Combine, Arg, Absent, Given, Args, Nil, More}
use Rattle.model.specs.Deck.Grammar.{sign_of, grade, link, gap, shown, given, Phrase, Element, Grade, One, Several, Spells, name, integer, literal, keyword, applied, brackets, call, reference, plain, looser, combined, absent, present, single, comma}
use Rattle.model.specs.Deck.Parse.{Parser, bind, next, on, skip, starts, expect, sees, tail, one_argument, several, subscripts, after_name, bracketed, keyword_of, prefixed, by_mark, role, element_step, element, lefts, rights, graded, whole}
use Rattle.model.proofs.Decks.ParseSteps.{bind_some, some_same, if_is, on_is, expect_some, Wanted, opening, close, less, greater, at_comma, sees_is, skip_gap, next_sound, left_side}

-- the front of the tokens is as wanted
pub record Front (P : List Tok → Type 0) (ts rest : List Tok) : Type 0 where
  pub text : List Tok
  pub spelled : P text
  pub is : ts ≡ text ++ rest

pub conclude_as : {A : Type 0} (P : A → List Tok → Type 0) (ts : List Tok) (q p : A × List Tok) → Some q ≡ Some p → Front (P q.0) ts q.1 → Front (P p.0) ts p.1
conclude_as P ts q p h r = subst (λ x. Front (P x.0) ts x.1) (some_same q p h) r

-- the front of the tokens is the phrase's
abbrev pub Reads : Phrase → List Tok → List Tok → Type 0
Reads p ts rest = Front (Spells p) ts rest

pub conclude : {A : Type 0} (at : A → Phrase) (ts : List Tok) (q p : A × List Tok) → Some q ≡ Some p → Reads (at q.0) ts q.1 → Reads (at p.0) ts p.1
conclude at ts q p h r = conclude_as (λ a. Spells (at a)) ts q p h r

pub join2 : (ts a b y z : List Tok) → ts ≡ a ++ y → y ≡ b ++ z → ts ≡ (a ++ b) ++ z
join2 ts a b y z h i = rw (h, i) (sym (append_assoc a b z))

pub join3 : (ts a b c x y z : List Tok) → ts ≡ a ++ x → x ≡ b ++ y → y ≡ c ++ z → ts ≡ (a ++ (b ++ c)) ++ z
join3 ts a b c x y z h i j = join2 ts a (b ++ c) x z h (join2 x b c y z i j)

-- up to the mark that closes
pub closed : {A : Type 0} (m : Mark) → Wanted m → (a : A) (ts : List Tok) (q : A × List Tok) → expect m a ts ≡ Some q → (ts ≡ Sign m ∷ q.1) × (q.0 ≡ a)
closed m w a ts q h = let x = expect_some m a ts q h in (sees_is m w ts x.0 ∙ ap (λ p. Sign m ∷ p.1) x.1, sym (ap (λ p. p.0) x.1))

abbrev pub IsSound : Parser Expr → ℕ → Type 0
IsSound parser k = (ts : List Tok) (p : Expr × List Tok) → parser ts ≡ Some p → Reads (Grade k p.0) ts p.1

module _ (inner : Parser Expr) (inner_sound : IsSound inner 7) where
  one_sound : (ts : List Tok) (p : Arg × List Tok) → one_argument inner ts ≡ Some p → Reads (One p.0) ts p.1
  unfolding one_argument
  one_sound ts p h =
      let g = skip_gap ts in
      elim (if_is (starts (skip ts)) (bind (inner (skip ts)) (λ e rest. Some (Given e, skip rest))) (Some (Absent, skip ts)) (Some p) h) [
        | inl c ↦
            let b = bind_some (inner (skip ts)) (λ e rest. Some (Given e, skip rest)) p c.1 in
            let r = inner_sound (skip ts) b.0 b.1 in
            let i = skip_gap b.0.1 in
            conclude One ts (Given b.0.0, skip b.0.1) p b.2
            (record { text = gap g.0 ++ (r.text ++ gap i.0); spelled = present b.0.0 r.text g.0 i.0 r.spelled; is = join3 ts (gap g.0) r.text (gap i.0) (skip ts) b.0.1 (skip b.0.1) g.1 r.is i.1 })
        | inr c ↦ conclude One ts (Absent, skip ts) p c.1 (record { text = gap g.0; spelled = absent g.0; is = g.1 })
      ]

  abbrev on_comma : ℕ → Arg → Parser Args
  on_comma n arg rest = if sees mark.Comma rest then bind (several inner n (tail rest)) (λ args end. Some (More arg args, end)) else Some (More arg Nil, rest)

  several_sound : (n : ℕ) (ts : List Tok) (p : Args × List Tok) → several inner n ts ≡ Some p → Reads (Several p.0) ts p.1
  unfolding several
  several_sound zero ts p h = absurd (cc)
  several_sound (suc n) ts p h =
      let b = bind_some (one_argument inner ts) (on_comma n) p h in
      let r = one_sound ts b.0 b.1 in
      elim (if_is (sees mark.Comma b.0.1) (bind (several inner n (tail b.0.1)) (λ args end. Some (More b.0.0 args, end))) (Some (More b.0.0 Nil, b.0.1)) (Some p) b.2) [
        | inl c ↦
            let d = bind_some (several inner n (tail b.0.1)) (λ args end. Some (More b.0.0 args, end)) p c.1 in
            let s = several_sound n (tail b.0.1) d.0 d.1 in
            conclude Several ts (More b.0.0 d.0.0, d.0.1) p d.2
            (record {
              text = r.text ++ (Sign mark.Comma ∷ s.text);
              spelled = comma b.0.0 d.0.0 r.text s.text r.spelled s.spelled;
              is = join2 ts r.text (Sign mark.Comma ∷ s.text) b.0.1 d.0.1 r.is (sees_is mark.Comma at_comma b.0.1 c.0 ∙ ap (λ x. Sign mark.Comma ∷ x) s.is);
            })
        | inr c ↦ conclude Several ts (More b.0.0 Nil, b.0.1) p c.1 (record { text = r.text; spelled = single b.0.0 r.text r.spelled; is = r.is })
      ]

  named_sound : (f : List ℕ) (ts : List Tok) (p : Expr × List Tok) → after_name inner f ts ≡ Some p → Reads (Element p.0) (Word f ∷ ts) p.1
  unfolding after_name
  named_sound f ts p h =
      elim (if_is (sees mark.Open ts) _ _ (Some p) h) [
        | inl c ↦
            let b = bind_some (several inner (length ts) (tail ts)) (λ args rest. expect mark.Close (Call f (shown args)) rest) p c.1 in
            let r = several_sound (length ts) (tail ts) b.0 b.1 in
            let x = closed mark.Close close (Call f (shown b.0.0)) b.0.1 p b.2 in
            (record {
              text = Word f ∷ Sign mark.Open ∷ (r.text ++ Sign mark.Close ∷ []);
              spelled = subst (λ e. Spells (Element e) (Word f ∷ Sign mark.Open ∷ (r.text ++ Sign mark.Close ∷ []))) (sym x.1) (call f b.0.0 r.text r.spelled);
              is = ap (λ y. Word f ∷ y) (sees_is mark.Open opening ts c.0 ∙ ap (λ y. Sign mark.Open ∷ y) (join2 (tail ts) r.text (Sign mark.Close ∷ []) b.0.1 p.1 r.is x.0));
            })
        | inr c ↦ elim (if_is (sees mark.Less ts) (bind (several inner (length ts) (tail ts)) (subscripts inner f)) (Some (Name f, ts)) (Some p) c.1) [
          | inl d ↦
              let b = bind_some (several inner (length ts) (tail ts)) (subscripts inner f) p d.1 in
              let r = several_sound (length ts) (tail ts) b.0 b.1 in
              elim (if_is (given b.0.0) (expect mark.Greater (Reference f b.0.0) b.0.1) None (Some p) b.2) [
                | inl e ↦
                    let x = closed mark.Greater greater (Reference f b.0.0) b.0.1 p e.1 in
                    (record {
                      text = Word f ∷ Sign mark.Less ∷ (r.text ++ Sign mark.Greater ∷ []);
                      spelled = subst (λ y. Spells (Element y) (Word f ∷ Sign mark.Less ∷ (r.text ++ Sign mark.Greater ∷ []))) (sym x.1) (reference f b.0.0 r.text r.spelled e.0);
                      is = ap (λ y. Word f ∷ y) (sees_is mark.Less less ts d.0 ∙ ap (λ y. Sign mark.Less ∷ y) (join2 (tail ts) r.text (Sign mark.Greater ∷ []) b.0.1 p.1 r.is x.0));
                    })
                | inr e ↦ absurd (cc)
              ]
          | inr d ↦ conclude Element (Word f ∷ ts) (Name f, ts) p d.1 (record { text = Word f ∷ []; spelled = name f; is = refl })
        ]
      ]

  bracketed_sound : (ts : List Tok) (p : Expr × List Tok) → bracketed inner ts ≡ Some p → Reads (Element p.0) (Sign mark.Open ∷ ts) p.1
  unfolding bracketed
  bracketed_sound ts p h =
      let b = bind_some (inner (skip ts)) (λ e rest. expect mark.Close e (skip rest)) p h in
      let r = inner_sound (skip ts) b.0 b.1 in
      let g = skip_gap ts in
      let i = skip_gap b.0.1 in
      let x = closed mark.Close close b.0.0 (skip b.0.1) p b.2 in
      (record {
        text = Sign mark.Open ∷ (gap g.0 ++ (r.text ++ (gap i.0 ++ Sign mark.Close ∷ [])));
        spelled = subst (λ e. Spells (Element e) (Sign mark.Open ∷ (gap g.0 ++ (r.text ++ (gap i.0 ++ Sign mark.Close ∷ []))))) (sym x.1) (brackets b.0.0 r.text g.0 i.0 r.spelled);
        is = ap (λ y. Sign mark.Open ∷ y) (join3 ts (gap g.0) r.text (gap i.0 ++ Sign mark.Close ∷ []) (skip ts) b.0.1 p.1 g.1 r.is (join2 b.0.1 (gap i.0) (Sign mark.Close ∷ []) (skip b.0.1) p.1 i.1 x.0));
      })

  keyword_sound : (ts : List Tok) (p : Expr × List Tok) → keyword_of inner ts ≡ Some p → Reads (Element p.0) (Sign mark.Ampersand ∷ ts) p.1
  keyword_sound [] p h = absurd (cc)
  keyword_sound (Blank ∷ ts) p h = absurd (cc)
  keyword_sound (Word s ∷ ts) p h = conclude Element (Sign mark.Ampersand ∷ Word s ∷ ts) (Keyword s, ts) p h (record { text = Sign mark.Ampersand ∷ Word s ∷ []; spelled = keyword s; is = refl })
  keyword_sound (Digits s ∷ ts) p h = absurd (cc)
  keyword_sound (Quoted s ∷ ts) p h = absurd (cc)
  keyword_sound (Sign s ∷ ts) p h = absurd (cc)

  module _ (again : Parser Expr) (again_sound : (ts : List Tok) (p : Expr × List Tok) → again ts ≡ Some p → Reads (Element p.0) ts p.1) where
    prefixed_sound : (u : Unary) (ts : List Tok) (p : Expr × List Tok) → prefixed inner u (again ts) ≡ Some p → Reads (Element p.0) (Sign (sign_of u) ∷ ts) p.1
    prefixed_sound u ts p h =
        let b = bind_some (again ts) (λ e rest. Some (Apply u e, rest)) p h in
        let r = again_sound ts b.0 b.1 in
        conclude Element (Sign (sign_of u) ∷ ts) (Apply u b.0.0, b.0.1) p b.2 (record { text = Sign (sign_of u) ∷ r.text; spelled = applied u b.0.0 r.text r.spelled; is = ap (λ y. Sign (sign_of u) ∷ y) r.is })

    mark_sound : (m : Mark) (ts : List Tok) (p : Expr × List Tok) → by_mark inner (role m) ts (again ts) ≡ Some p → Reads (Element p.0) (Sign m ∷ ts) p.1
    mark_sound mark.Open ts p h = bracketed_sound ts p h
    mark_sound mark.Ampersand ts p h = keyword_sound ts p h
    mark_sound mark.Star ts p h = prefixed_sound _ ts p h
    mark_sound mark.Plus ts p h = prefixed_sound _ ts p h
    mark_sound mark.Minus ts p h = prefixed_sound _ ts p h
    mark_sound mark.Dot ts p h = prefixed_sound _ ts p h
    mark_sound mark.Dollar ts p h = prefixed_sound _ ts p h
    mark_sound mark.At ts p h = prefixed_sound _ ts p h
    mark_sound mark.Question ts p h = prefixed_sound _ ts p h
    mark_sound mark.Tilde ts p h = prefixed_sound _ ts p h
    mark_sound _ ts p h = absurd (cc)

    pub element_sound : (ts : List Tok) (p : Expr × List Tok) → element_step inner again ts ≡ Some p → Reads (Element p.0) ts p.1
    unfolding element_step
    element_sound [] p h = absurd (cc)
    element_sound (Blank ∷ ts) p h = absurd (cc)
    element_sound (Word s ∷ ts) p h = named_sound s ts p h
    element_sound (Digits n ∷ ts) p h = conclude Element (Digits n ∷ ts) (Integer (pos n), ts) p h (record { text = Digits n ∷ []; spelled = integer n; is = refl })
    element_sound (Quoted s ∷ ts) p h = conclude Element (Quoted s ∷ ts) (Literal s, ts) p h (record { text = Quoted s ∷ []; spelled = literal s; is = refl })
    element_sound (Sign m ∷ ts) p h = mark_sound m ts p h

module _ (operand : Parser Expr) (k : ℕ) (operand_sound : IsSound operand k) (is_left : (k == 1) ≡ false) where
  lefts_sound : (n : ℕ) (e : Expr) (text ts : List Tok) (p : Expr × List Tok) → Spells (Grade (suc k) e) text → lefts operand (suc k) n e ts ≡ Some p → Reads (Grade (suc k) p.0) (text ++ ts) p.1
  unfolding lefts
  lefts_sound zero e text ts p s h = conclude (Grade (suc k)) (text ++ ts) (e, ts) p h (record { text = text; spelled = s; is = refl })
  lefts_sound (suc n) e text ts p s h =
      elim (on_is (next ts) (suc k) (Some (e, ts)) (λ op after. bind (operand after) (λ f rest. lefts operand (suc k) n (Combine op e f) rest)) (Some p) h) [
        | inl c ↦ conclude (Grade (suc k)) (text ++ ts) (e, ts) p c (record { text = text; spelled = s; is = refl })
        | inr c ↦
            let b = bind_some (operand c.after) (λ f rest. lefts operand (suc k) n (Combine c.op e f) rest) p c.gives in
            let r = operand_sound c.after b.0 b.1 in
            let sides = left_side c.op k c.at is_left in
            let longer : Spells (Grade (grade c.op) (Combine c.op e b.0.0)) (text ++ (link c.op ++ r.text)) =
            combined c.op e b.0.0 text r.text (subst (λ x. Spells (Grade x e) text) (sym sides.0) s) (subst (λ x. Spells (Grade x b.0.0) r.text) (sym sides.1) r.spelled) in
            let same : grade c.op ≡ suc k = grind (arith, c.at) in
            let found = lefts_sound n (Combine c.op e b.0.0) (text ++ (link c.op ++ r.text)) b.0.1 p (subst (λ x. Spells (Grade x (Combine c.op e b.0.0)) (text ++ (link c.op ++ r.text))) same longer) b.2 in
            let whole : text ++ ts ≡ (text ++ (link c.op ++ r.text)) ++ b.0.1 = join3 (text ++ ts) text (link c.op) r.text ts c.after b.0.1 refl (next_sound ts c.op c.after c.is) r.is in
            (record { text = found.text; spelled = found.spelled; is = ◌∙◌ {c = found.text ++ p.1} whole found.is })
      ]

pub pow_only : (op : Binary) → (grade op == 2) ≡ true → op ≡ binary.Power
pow_only binary.Power h = refl
pow_only _ h = absurd (cc)

module _ (operand : Parser Expr) (operand_sound : IsSound operand 1) where
  abbrev on_power : ℕ → Expr → Parser Expr
  on_power n e rest = on (next rest) 2 (Some (e, rest)) (λ op after. bind (rights operand 2 n after) (λ f end. Some (Combine op e f, end)))

  rights_sound : (n : ℕ) → IsSound (rights operand 2 n) 2
  unfolding rights
  rights_sound zero ts p h = absurd (cc)
  rights_sound (suc n) ts p h =
      let b = bind_some (operand ts) (on_power n) p h in
      let r = operand_sound ts b.0 b.1 in
      elim (on_is (next b.0.1) 2 (Some (b.0.0, b.0.1)) (λ op after. bind (rights operand 2 n after) (λ f end. Some (Combine op b.0.0 f, end))) (Some p) b.2) [
        | inl c ↦ conclude (Grade 2) ts (b.0.0, b.0.1) p c (record { text = r.text; spelled = looser 1 b.0.0 r.text r.spelled; is = r.is })
        | inr c ↦
            let d = bind_some (rights operand 2 n c.after) (λ f end. Some (Combine c.op b.0.0 f, end)) p c.gives in
            let s = rights_sound n c.after d.0 d.1 in
            let pow = pow_only c.op c.at in
            conclude (Grade 2) ts (Combine c.op b.0.0 d.0.0, d.0.1) p d.2
            (record {
              text = r.text ++ (link c.op ++ s.text);
              spelled = subst (λ op. Spells (Grade 2 (Combine op b.0.0 d.0.0)) (r.text ++ (link op ++ s.text))) (sym pow) (combined binary.Power b.0.0 d.0.0 r.text s.text r.spelled s.spelled);
              is = join3 ts r.text (link c.op) s.text b.0.1 c.after d.0.1 r.is (next_sound b.0.1 c.op c.after c.is) s.is;
            })
      ]

pub graded_sound : (atom : Parser Expr) → IsSound atom 0 → (k : ℕ) → IsSound (graded atom k) k
unfolding graded
graded_sound atom base zero ts p h = base ts p h
graded_sound atom base (suc k) ts p h =
    elim (if_is (k == 1) _ _ (Some p) h) [
      | inl c ↦
          let is_one : k ≡ 1 = grind (arith, c.0) in
          let again : rights (graded atom 1) 2 (length ts) ts ≡ Some p = subst (λ x. rights (graded atom x) (suc x) (length ts) ts ≡ Some p) is_one c.1 in
          let operands = subst (λ x. IsSound (graded atom x) x) is_one (graded_sound atom base k) in
          subst (λ x. Reads (Grade (suc x) p.0) ts p.1) (sym is_one) (rights_sound (graded atom 1) operands (length ts) ts p again)
      | inr c ↦
          let b = bind_some (graded atom k ts) (λ e rest. lefts (graded atom k) (suc k) (length rest) e rest) p c.1 in
          let r = graded_sound atom base k ts b.0 b.1 in
          let found = lefts_sound (graded atom k) k (graded_sound atom base k) c.0 (length b.0.1) b.0.0 r.text b.0.1 p (looser k b.0.0 r.text r.spelled) b.2 in
          (record { text = found.text; spelled = found.spelled; is = r.is ∙ found.is })
    ]

as_grade : (d : ℕ) → ((ts : List Tok) (p : Expr × List Tok) → element d ts ≡ Some p → Reads (Element p.0) ts p.1) → IsSound (element d) 0
as_grade d sound us q i = let r = sound us q i in record { text = r.text; spelled = plain q.0 r.text r.spelled; is = r.is }

pub elements_sound : (d : ℕ) (ts : List Tok) (p : Expr × List Tok) → element d ts ≡ Some p → Reads (Element p.0) ts p.1
unfolding element
elements_sound zero ts p h = absurd (cc)
elements_sound (suc d) ts p h = element_sound (graded (element d) 7) (graded_sound (element d) (as_grade d (elements_sound d)) 7) (element d) (elements_sound d) ts p h

pub whole_sound : (d : ℕ) → IsSound (whole d) 7
whole_sound d ts p h = graded_sound (element d) (as_grade d (elements_sound d)) 7 ts p h
