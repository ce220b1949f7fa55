use Rattle.std.proofs.Common.{◌≡◌, ℕ, zero, suc, ◌+◌, ◌-◌, ◌≤◌, ◌<◌, get_or, List, [], ◌∷◌, ◌++◌, length, take, drop, refl, sym, ap, ◌∙◌, arith, add-zero, append_assoc, add-one}
use Rattle.std.proofs.lemmas.List.{get_or-drop, drop-take, drop-append-le, append-nil, take-take, take_all, drop-drop, length-append, length-drop, length-take, length-take-le, take-append-drop}
use Rattle.std.specs.List.{repeat, slice_range}
use Rattle.std.specs.Prelude.{◌==◌, if◌then◌else◌}
use Rattle.model.specs.Language.Strings.{replaced_or}

pub repeat-nil : (n : ℕ) → repeat {A = ℕ} n [] ≡ []
repeat-nil zero = refl
repeat-nil (suc n) = repeat-nil n

pub repeat-push : (n : ℕ) (xs : List ℕ) → repeat (suc n) xs ≡ repeat n xs ++ xs
repeat-push zero xs = append-nil xs
repeat-push (suc n) xs = ap (λ ys. xs ++ ys) (repeat-push n xs) ∙ sym (append_assoc xs (repeat n xs) xs)

-- a part of a part
pub slice_range-slice_range : (xs : List ℕ) (a b i j : ℕ) → i ≤ j → a + j ≤ b → slice_range xs (a + i) (a + j) ≡ slice_range (slice_range xs a b) i j
slice_range-slice_range xs a b i j le within =
    let m : ℕ = b - a - i in
    let count : b - a ≡ i + m = omega arith in
    let same : a + j - (a + i) ≡ j - i = omega arith in
    let fits : j - i ≤ m = omega arith in
    ap (λ n. take n (drop (a + i) xs)) same
    ∙ ap (λ ys. take (j - i) ys) (sym (drop-drop i a xs))
    ∙ sym (take-take (j - i) m (drop i (drop a xs)) fits)
    ∙ ap (λ ys. take (j - i) ys) (sym (drop-take i m (drop a xs)))
    ∙ ap (λ n. take (j - i) (drop i (take n (drop a xs)))) (sym count)

pub replaced_or-push : (fs ts : List ℕ) (x f t b : ℕ) → length fs ≡ length ts → replaced_or x (fs ++ f ∷ []) (ts ++ t ∷ []) b ≡ (if b == f then t else replaced_or x fs ts b)
replaced_or-push [] [] x f t b e = refl
replaced_or-push (g ∷ fs) (u ∷ ts) x f t b e = replaced_or-push fs ts (if b == g then u else x) f t b (omega arith)
replaced_or-push [] (u ∷ ts) x f t b e = absurd (omega arith)
replaced_or-push (g ∷ fs) [] x f t b e = absurd (omega arith)

pub length-slice_range-le : (xs : List ℕ) (a b : ℕ) → length (slice_range xs a b) ≤ b - a
length-slice_range-le xs a b = omega (arith, length-take (b - a) (drop a xs))

pub repeat_of_null : (n : ℕ) (xs : List ℕ) → length xs ≡ 0 → [] ≡ repeat n xs
repeat_of_null n [] e = sym (repeat-nil n)
repeat_of_null n (x ∷ xs) e = absurd (omega arith)

pub repeat_more : (n : ℕ) (xs : List ℕ) → repeat (n + 1) xs ≡ repeat n xs ++ xs
repeat_more n xs = rw add-one (repeat-push n xs)

front_of : (xs ys : List ℕ) → take (length xs) (xs ++ ys) ≡ xs
front_of [] ys = refl
front_of (x ∷ xs) ys = ap (λ zs. x ∷ zs) (front_of xs ys)

-- a list written behind the front of another
pub joined_in_front : (n : ℕ) (xs ys before after : List ℕ) → n ≡ length xs → take (length xs) before ≡ xs → take (n + length ys) (take n before ++ (ys ++ after)) ≡ xs ++ ys
joined_in_front n xs ys before after is front =
    ap (λ k. take (k + length ys) (take k before ++ (ys ++ after))) is
    ∙ ap (λ zs. take (length xs + length ys) (zs ++ (ys ++ after))) front
    ∙ ap (λ zs. take (length xs + length ys) zs) (sym (append_assoc xs ys after))
    ∙ ap (λ k. take k ((xs ++ ys) ++ after)) (sym (length-append xs ys))
    ∙ front_of (xs ++ ys) after

-- the rest from a place on
pub slice_range_to_end : (xs : List ℕ) (a : ℕ) → slice_range xs a (length xs) ≡ drop a xs
slice_range_to_end xs a = take_all (length xs - a) (drop a xs) (simp length-drop (omega arith))

-- a part with others after it
pub drop_part : (xs ys : List ℕ) (a b : ℕ) → a ≤ b → b ≤ length xs → drop a (take b xs ++ ys) ≡ slice_range xs a b ++ ys
drop_part xs ys a b le within =
    let count : b ≡ a + (b - a) = omega arith in
    drop-append-le a (take b xs) ys (rw (length-take-le b xs within) le)
    ∙ ap (λ n. drop a (take n xs) ++ ys) count
    ∙ ap (λ zs. zs ++ ys) (drop-take a (b - a) xs)

-- a part of a list, and two others behind it, where only that stands
pub part_extended : (xs ys zs : List ℕ) (a b n : ℕ) → a ≤ b → b ≤ length xs → n ≡ b + (length ys + length zs) → slice_range ((take b xs ++ ys) ++ zs) a n ≡ (slice_range xs a b ++ ys) ++ zs
part_extended xs ys zs a b n le within is =
    let front = take b xs ++ ys in
    let all = front ++ zs in
    let short : length front ≡ b + length ys = length-append (take b xs) ys ∙ ap (λ k. k + length ys) (length-take-le b xs within) in
    let long : n ≡ length all = omega (arith, is, short, length-append front zs) in
    ap (λ k. slice_range all a k) long
    ∙ slice_range_to_end all a
    ∙ drop-append-le a front zs (omega (arith, le, short))
    ∙ ap (λ l. l ++ zs) (drop_part xs ys a b le within)

-- a part of a list without its front
pub part_without : (xs : List ℕ) (a b n : ℕ) → n ≤ b - a → slice_range xs (a + n) b ≡ drop n (slice_range xs a b)
part_without xs a b n le =
    let m : ℕ = b - a - n in
    let count : b - a ≡ n + m = omega (arith, le) in
    let same : b - (a + n) ≡ m = omega arith in
    ap (λ k. take k (drop (a + n) xs)) same
    ∙ ap (λ ys. take m ys) (sym (drop-drop n a xs))
    ∙ sym (drop-take n m (drop a xs))
    ∙ ap (λ k. drop n (take k (drop a xs))) (sym count)

-- ---- lists that are the same up to a place

-- less of what is the same
pub same_less : (a b : ℕ) (xs ys : List ℕ) → a ≤ b → take b xs ≡ take b ys → take a xs ≡ take a ys
same_less a b xs ys le same = sym (take-take a b xs le) ∙ ap (take a) same ∙ take-take a b ys le

-- the front of a list without one item
pub front_without : (xs us : List ℕ) (p last : ℕ) → p < length us → last ≡ length us - 1 → take (length us) xs ≡ us → take p xs ++ slice_range xs (p + 1) (last + 1) ≡ take p us ++ drop (p + 1) us
front_without xs us p last within is front =
    let long : length us ≡ (p + 1) + (last + 1 - (p + 1)) = omega (arith, within, is) in
    let le : p ≤ length us = omega (arith, within) in
    ap (λ zs. zs ++ slice_range xs (p + 1) (last + 1)) (sym (take-take p (length us) xs le) ∙ ap (take p) front)
    ∙ ap (λ zs. take p us ++ zs) (sym (drop-take (p + 1) (last + 1 - (p + 1)) xs) ∙ ap (λ n. drop (p + 1) (take n xs)) (sym long) ∙ ap (drop (p + 1)) front)

-- the front up to a place, in two parts
parted : (a b : ℕ) (xs : List ℕ) → a ≤ b → take b xs ≡ take a xs ++ slice_range xs a b
parted a b xs le =
    let count : b ≡ a + (b - a) = omega arith in
    sym (take-append-drop a (take b xs))
    ∙ ap (λ zs. zs ++ drop a (take b xs)) (take-take a b xs le)
    ∙ ap (λ zs. take a xs ++ zs) (ap (λ n. drop a (take n xs)) count ∙ drop-take a (b - a) xs)

-- what is the same up to a place, and from there up to another
pub same_longer : (a b : ℕ) (xs ys : List ℕ) → a ≤ b → slice_range xs a b ≡ slice_range ys a b → take a xs ≡ take a ys → take b xs ≡ take b ys
same_longer a b xs ys le part front = parted a b xs le ∙ (λ i. front i ++ part i) ∙ sym (parted a b ys le)

-- the first seven, one by one
pub first_seven : (xs : List ℕ) → 7 ≤ length xs → get_or xs 0 0 ∷ get_or xs 1 0 ∷ get_or xs 2 0 ∷ get_or xs 3 0 ∷ get_or xs 4 0 ∷ get_or xs 5 0 ∷ get_or xs 6 0 ∷ [] ≡ take 7 xs
first_seven [] le = absurd (omega arith)
first_seven (a ∷ []) le = absurd (omega arith)
first_seven (a ∷ b ∷ []) le = absurd (omega arith)
first_seven (a ∷ b ∷ c ∷ []) le = absurd (omega arith)
first_seven (a ∷ b ∷ c ∷ d ∷ []) le = absurd (omega arith)
first_seven (a ∷ b ∷ c ∷ d ∷ e ∷ []) le = absurd (omega arith)
first_seven (a ∷ b ∷ c ∷ d ∷ e ∷ f ∷ []) le = absurd (omega arith)
first_seven (a ∷ b ∷ c ∷ d ∷ e ∷ f ∷ g ∷ xs) le = refl

-- eight from a place on, one by one
first_eight : (xs : List ℕ) → 8 ≤ length xs → get_or xs 0 0 ∷ get_or xs 1 0 ∷ get_or xs 2 0 ∷ get_or xs 3 0 ∷ get_or xs 4 0 ∷ get_or xs 5 0 ∷ get_or xs 6 0 ∷ get_or xs 7 0 ∷ [] ≡ take 8 xs
first_eight [] le = absurd (omega arith)
first_eight (x ∷ xs) le = ap (λ ys. x ∷ ys) (first_seven xs (omega arith))

pub eight_at : (i : ℕ) (xs : List ℕ) → i + 8 ≤ length xs
    → get_or xs i 0 ∷ get_or xs (i + 1) 0 ∷ get_or xs (i + 2) 0 ∷ get_or xs (i + 3) 0 ∷ get_or xs (i + 4) 0 ∷ get_or xs (i + 5) 0 ∷ get_or xs (i + 6) 0 ∷ get_or xs (i + 7) 0 ∷ [] ≡ slice_range xs i (i + 8)
eight_at i xs le =
    let at : (k : ℕ) → get_or xs (i + k) 0 ≡ get_or (drop i xs) k 0 = λ k. sym (get_or-drop i xs k 0) in
    let none : get_or xs i 0 ≡ get_or (drop i xs) 0 0 = ap (λ n. get_or xs n 0) (sym (add-zero i)) ∙ at 0 in
    let count : 8 ≡ i + 8 - i = omega arith in
    (λ j. none j ∷ at 1 j ∷ at 2 j ∷ at 3 j ∷ at 4 j ∷ at 5 j ∷ at 6 j ∷ at 7 j ∷ [])
    ∙ first_eight (drop i xs) (omega (arith, le, length-drop i xs))
    ∙ ap (λ n. take n (drop i xs)) count
