-- What an image's tables have of themselves, and the bytes that were put one after the other.
use Rattle.std.proofs.Common.{◌≡◌, ℕ, ◌<◌, ◌≤◌, ◌^◌, List, [], ◌∷◌, ◌++◌, length, map, refl, sym, ap, subst, ◌∙◌, append_assoc}
use Rattle.std.specs.Borrow.{Bor}
use Rattle.std.specs.Prelude.{All, Result, Ok, Err, IfOk}
use Rattle.std.specs.declared.alloc.AllocError.{AllocError}
use Rattle.std.specs.declared.alloc.Global.{Global}
use Rattle.std.specs.declared.vec.Vec.{Vec}
use Rattle.std.specs.List.{flat_map}
use Rattle.std.proofs.lemmas.List.{length-map}
use Rattle.model.specs.Module.Spelling.{Follow, StringFits, PatternFits, counted, label, level_number, magic, most, pattern, spelling, string, u16, u32}
use Rattle.model.specs.declared.image.Image.{Image}
use Rattle.model.specs.declared.image.PatInstr.{PatInstr}
use Rattle.module_format.specs.Parts.{IsMadeOf}
use Rattle.module_format.specs.declared.writing.ImageParts.{ImageParts}
use Rattle.std.proofs.lemmas.List.Elements.{All-nil, All-cons}

-- what holds of each entry by itself
each : {A : Type 0} (Fits : List A → A → Type 0) (P : A → Type 0) → ((front : List A) (x : A) → Fits front x → P x) → (front xs : List A) → Follow Fits front xs → All P xs
each Fits P only front [] h = All-nil P
each Fits P only front (x ∷ xs) h = All-cons P x xs (only front x h.0) (each Fits P only (front ++ x ∷ []) xs h.1)

pub strings_short : (strings : List (List ℕ)) (slices : List (Bor (List ℕ))) → strings ≡ map (λ s. s.now) slices → Follow StringFits [] strings → All (λ s. length s.now < 2 ^ 32) slices
strings_short strings slices e h = by slices [] (subst (Follow StringFits []) e h)
  where
    by : (slices : List (Bor (List ℕ))) (front : List (List ℕ)) → Follow StringFits front (map (λ s. s.now) slices) → All (λ s. length s.now < 2 ^ 32) slices
    by [] front h = All-nil (λ s. length s.now < 2 ^ 32)
    by (s ∷ slices) front h = All-cons (λ s. length s.now < 2 ^ 32) s slices h.0.0 (by slices (front ++ s.now ∷ []) h.1)

pub patterns_short : (patterns : List (List PatInstr)) → Follow PatternFits [] patterns → All (λ p. length p ≤ most) patterns
patterns_short patterns h = each PatternFits _ (λ front p f. f.count) [] patterns h

-- slices are spelt as the strings that they hold
pub strings_spelt : (slices : List (Bor (List ℕ))) → counted (λ s. string s.now) slices ≡ counted string (map (λ s. s.now) slices)
strings_spelt slices = ap (λ n. u32 n ++ flat_map (λ s. string s.now) slices) (sym (length-map slices (λ s. s.now))) ∙ ap (λ z. u32 (length (map (λ s. s.now) slices)) ++ z) (each_spelt slices)
  where
    each_spelt : (slices : List (Bor (List ℕ))) → flat_map (λ s. string s.now) slices ≡ flat_map string (map (λ s. s.now) slices)
    each_spelt [] = refl
    each_spelt (s ∷ slices) = ap (λ z. string s.now ++ z) (each_spelt slices)

-- the parts' bytes are the image's
pub same_parts : (m : Image) (p : ImageParts) → IsMadeOf m p
    → u32 magic ++ (u16 2 ++ (u16 (level_number p.level) ++ (u32 p.entry ++ (counted string (map (λ s. s.now) p.strings.now) ++ (counted label p.labels.now ++ (counted u32 p.statements.now ++ (flat_map u32 p.cards.now
    ++ (counted u32 p.expressions.now ++ (counted pattern p.patterns.now ++ string p.code.now))))))))) ≡ spelling m
same_parts m p made = rw (made.level) (rw (made.entry) (rw (made.strings) (rw (made.labels) (rw (made.statements) (rw (made.cards) (rw (made.expressions) (rw (made.patterns) (rw (made.code) refl))))))))

-- the fields put one after the other
pub joined : (o0 o1 o2 o3 o4 o5 o6 o7 a b l c t1 t2 t3 t4 t5 t6 code : List ℕ) → o0 ≡ a ++ (b ++ (l ++ c)) → o1 ≡ o0 ++ t1 → o2 ≡ o1 ++ t2 → o3 ≡ o2 ++ t3 → o4 ≡ o3 ++ t4 → o5 ≡ o4 ++ t5 → o6 ≡ o5 ++ t6 → o7 ≡ o6 ++ code
    → o7 ≡ a ++ (b ++ (l ++ (c ++ (t1 ++ (t2 ++ (t3 ++ (t4 ++ (t5 ++ (t6 ++ code)))))))))
joined o0 o1 o2 o3 o4 o5 o6 o7 a b l c t1 t2 t3 t4 t5 t6 code e0 e1 e2 e3 e4 e5 e6 e7 =
    let more : (xs ys t : List ℕ) → xs ≡ ys → xs ++ t ≡ ys ++ t = λ xs ys t e. ap (λ zs. zs ++ t) e in
    let d1 : o1 ≡ (a ++ (b ++ (l ++ c))) ++ t1 = e1 ∙ more _ _ t1 e0 in
    let d2 : o2 ≡ ((a ++ (b ++ (l ++ c))) ++ t1) ++ t2 = e2 ∙ more _ _ t2 d1 in
    let d3 : o3 ≡ (((a ++ (b ++ (l ++ c))) ++ t1) ++ t2) ++ t3 = e3 ∙ more _ _ t3 d2 in
    let d4 : o4 ≡ ((((a ++ (b ++ (l ++ c))) ++ t1) ++ t2) ++ t3) ++ t4 = e4 ∙ more _ _ t4 d3 in
    let d5 : o5 ≡ (((((a ++ (b ++ (l ++ c))) ++ t1) ++ t2) ++ t3) ++ t4) ++ t5 = e5 ∙ more _ _ t5 d4 in
    let d6 : o6 ≡ ((((((a ++ (b ++ (l ++ c))) ++ t1) ++ t2) ++ t3) ++ t4) ++ t5) ++ t6 = e6 ∙ more _ _ t6 d5 in
    let d7 : o7 ≡ (((((((a ++ (b ++ (l ++ c))) ++ t1) ++ t2) ++ t3) ++ t4) ++ t5) ++ t6) ++ code = e7 ∙ more _ _ code d6 in
    d7 ∙ simp append_assoc

-- what a call that writes the parts of an image says of the image
pub if_spelt : (r : Result (Vec ℕ Global) AllocError) (m : Image) (p : ImageParts) → IsMadeOf m p → IfOk r (λ bytes. (m : Image) → IsMadeOf m p → bytes.items ≡ spelling m) → IfOk r (λ bytes. bytes.items ≡ spelling m)
if_spelt (Ok bytes) m p made h = h m made
if_spelt (Err e) m p made h = tt
