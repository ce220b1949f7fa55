-- Values exchanged with those of variables.
use Rattle.std.proofs.Common.{◌≡◌, ℕ, zero, suc, ◌+◌, ◌<◌, ◌≤◌, List, [], ◌∷◌, ◌++◌, length, map, take, drop, get_or, set, drop-cons, Bool, true, false, true≢false, refl, sym, ap, ◌∙◌, arith, append_assoc, append-nil, bytes_eq}
use Rattle.std.specs.Prelude.{not, ◌&&◌, ◌||◌, if◌then◌else◌}
use Rattle.std.specs.List.{list_any}
use Rattle.std.proofs.lemmas.List.{take_more, take_all, length-map, length-append, length-take-le, map-append, take-append-drop}
use Rattle.std.proofs.Math.Seq.{get_or-append_seam, set-append_seam}
use Rattle.model.specs.Deck.Trees.{Bytes}
use Rattle.model.specs.Language.Io.{Io}
use Rattle.model.specs.Language.Values.{set_var}
use Rattle.model.specs.Language.Calls.{arg_at, bind_arguments}
use Rattle.model.specs.Language.Prototypes.{are_distinct}
use Rattle.model.specs.Machine.Steps.{MVal, MW}
use Rattle.values.specs.Values.{value_of}
use Rattle.world.specs.Calling.{AreSaved}
use Rattle.world.specs.Held.{WorldView, world_of}
use Rattle.values.specs.declared.value.Value.{Value}
use Rattle.values.proofs.Passing.{bind_turn, bind_end}
use Rattle.world.proofs.Saving.{values_in}

-- ---- names that are all different

or_false : (a b : Bool) → (a || b) ≡ false → (a ≡ false) × (b ≡ false)
or_false true b h = absurd (true≢false h)
or_false false b h = (refl, h)

both_false : (a b : Bool) → a ≡ false → b ≡ false → (a || b) ≡ false
both_false true b h g = absurd (true≢false h)
both_false false b h g = g

and_true : (a b : Bool) → (a && b) ≡ true → (a ≡ true) × (b ≡ true)
and_true true b h = (refl, h)
and_true false b h = absurd (true≢false (sym h))

not_true : (b : Bool) → not b ≡ true → b ≡ false
not_true true h = absurd (true≢false (sym h))
not_true false h = refl

-- the first of them isn't among the others
pub first_differs : (x : Bytes) (xs : List Bytes) → are_distinct (x ∷ xs) ≡ true → (list_any (λ y. bytes_eq x y) xs ≡ false) × (are_distinct xs ≡ true)
first_differs x xs h =
    let parts = and_true (not (list_any (λ y. bytes_eq x y) xs)) (are_distinct xs) h in
    (not_true (list_any (λ y. bytes_eq x y) xs) parts.0, parts.1)

none_at : (p : Bytes → Bool) (xs : List Bytes) (k : ℕ) (x : Bytes) → list_any p xs ≡ false → k < length xs → x ≡ get_or xs k x → p x ≡ false
none_at p [] k x h within at = absurd (omega arith)
none_at p (y ∷ xs) zero x h within at = ap p at ∙ (or_false (p y) (list_any p xs) h).0
none_at p (y ∷ xs) (suc k) x h within at = none_at p xs k x (or_false (p y) (list_any p xs) h).1 (omega arith) at

none_in : (p : Bytes → Bool) (xs : List Bytes) (n : ℕ) → list_any p xs ≡ false → list_any p (take n xs) ≡ false
none_in p [] zero h = refl
none_in p [] (suc n) h = refl
none_in p (y ∷ xs) zero h = refl
none_in p (y ∷ xs) (suc n) h =
    let parts = or_false (p y) (list_any p xs) h in
    both_false (p y) (list_any p (take n xs)) parts.0 (none_in p xs n parts.1)

both_true : (a b : Bool) → a ≡ true → b ≡ true → (a && b) ≡ true
both_true true b h g = g
both_true false b h g = h

pub distinct_take : (xs : List Bytes) (n : ℕ) → are_distinct xs ≡ true → are_distinct (take n xs) ≡ true
distinct_take [] zero h = refl
distinct_take [] (suc n) h = refl
distinct_take (x ∷ xs) zero h = refl
distinct_take (x ∷ xs) (suc n) h =
    let parts = first_differs x xs h in
    both_true (not (list_any (λ y. bytes_eq x y) (take n xs))) (are_distinct (take n xs)) (ap not (none_in (λ y. bytes_eq x y) xs n parts.0)) (distinct_take xs n parts.1)

-- none of those before one is that one
pub differ_before : (xs : List Bytes) (k : ℕ) (x : Bytes) → are_distinct xs ≡ true → k < length xs → x ≡ get_or xs k x → list_any (λ y. bytes_eq y x) (take k xs) ≡ false
differ_before [] k x h within at = absurd (omega arith)
differ_before (y ∷ xs) zero x h within at = refl
differ_before (y ∷ xs) (suc k) x h within at =
    let parts = first_differs y xs h in
    both_false (bytes_eq y x) (list_any (λ z. bytes_eq z x) (take k xs)) (none_at (λ z. bytes_eq y z) xs k x parts.0 (omega arith) at) (differ_before xs k x parts.1 (omega arith) at)

pub none_split : (p : Bytes → Bool) (xs : List Bytes) (x : Bytes) → list_any p (xs ++ x ∷ []) ≡ false → (list_any p xs ≡ false) × (p x ≡ false)
none_split p [] x h = (refl, (or_false (p x) false h).0)
none_split p (y ∷ xs) x h =
    let parts = or_false (p y) (list_any p (xs ++ x ∷ [])) h in
    let later = none_split p xs x parts.1 in
    (both_false (p y) (list_any p xs) parts.0 later.0, later.1)

-- ---- a turn

no_io : Io
no_io = record { left = λ u. []; printed = [] }

by_test : (b : Bool) (v u : MVal) → b ≡ false → (if b then v else u) ≡ u
by_test true v u h = absurd (true≢false h)
by_test false v u h = refl

-- another name keeps its value
pub set_other : (x y : Bytes) (v : MVal) (mid new : WorldView) → ((io : Io) → world_of new io ≡ set_var x v (world_of mid io)) → bytes_eq x y ≡ false → values_in new y ≡ values_in mid y
set_other x y v mid new set other = ap (λ (w : MW). w.vars y) (set no_io) ∙ by_test (bytes_eq x y) v (values_in mid y) other

-- so many of the names have exchanged their values
abbrev pub IsExchanged : (names : List Bytes) (before given : List Value) (k : ℕ) (now : List Value) (old new : WorldView) → Type 0
IsExchanged names before given k now old new =
    (us : List Value) × (now ≡ (before ++ us) ++ drop k given) × (map value_of us ≡ map (values_in old) (take k names))
    × ((y : Bytes) → list_any (λ x. bytes_eq x y) (take k names) ≡ false → values_in new y ≡ values_in old y)
    × ((io : Io) → bind_arguments (drop k names) (drop k (map value_of given)) (world_of new io) ≡ bind_arguments names (map value_of given) (world_of old io))

pub none_exchanged : (names : List Bytes) (base : ℕ) (all : List Value) (h : WorldView) → IsExchanged names (take base all) (drop base all) 0 all h h
none_exchanged names base all h = (
  [],
  sym (take-append-drop base all) ∙ ap (λ ws. ws ++ drop base all) (sym (append-nil (take base all))),
  refl,
  λ y no. refl,
  λ io. refl,
)

arg_first : (vs : List Value) (k : ℕ) (v : Value) (rest : List Value) → drop k vs ≡ v ∷ rest → value_of v ≡ arg_at (map value_of vs) k
arg_first [] zero v rest h = absurd (cc)
arg_first [] (suc k) v rest h = absurd (cc)
arg_first (u ∷ vs) zero v rest h = let same : u ≡ v = cc in ap value_of (sym same)
arg_first (u ∷ vs) (suc k) v rest h = arg_first vs k v rest h

exchanged_count : (names : List Bytes) (us : List Value) (k : ℕ) (h : WorldView) → k ≤ length names → map value_of us ≡ map (values_in h) (take k names) → length us ≡ k
exchanged_count names us k h within same = sym (length-map us value_of) ∙ ap length same ∙ length-map (take k names) (values_in h) ∙ length-take-le k names within

module _ (names : List Bytes) (before given now : List Value) (base k : ℕ) (x : Bytes) (v v' : Value) (old mid : WorldView)
    (distinct : are_distinct names ≡ true) (size : length before ≡ base) (count : length given ≡ length names) (within : k < length names) (at : x ≡ get_or names k x)
    (here : v ≡ get_or now (base + k) v) (had : value_of v' ≡ values_in mid x) (so : IsExchanged names before given k now old mid) where
  abbrev front : List Value
  front = before ++ so.0

  abbrev rest : List Value
  rest = drop (suc k) given

  abbrev there : Value
  there = get_or given k v

  parted : now ≡ front ++ there ∷ rest
  parted = so.1 ∙ ap (λ ws. front ++ ws) (drop-cons given k v (omega (arith, count, within)))

  place : length front ≡ base + k
  place =
      let n = exchanged_count names so.0 k old (omega (arith, within)) so.2 in
      omega (arith, length-append before so.0, n, size)

  is : v ≡ there
  is = here ∙ (λ i. get_or (parted i) (sym place i) v) ∙ get_or-append_seam front there rest v

  next : k + 1 ≡ suc k
  next = omega arith

  more : take (k + 1) names ≡ take k names ++ x ∷ []
  more = take_more names k x within ∙ ap (λ z. take k names ++ z ∷ []) (sym at)

  pub exchange_turn : (new : WorldView) → ((io : Io) → world_of new io ≡ set_var x (value_of v) (world_of mid io)) → IsExchanged names before given (k + 1) (set now (base + k) v') old new
  exchange_turn new put = (
    so.0 ++ v' ∷ [],
    (λ i. set (parted i) (sym place i) v')
        ∙ set-append_seam front there rest v'
        ∙ sym (append_assoc front (v' ∷ []) rest)
        ∙ ap (λ ws. ws ++ rest) (append_assoc before so.0 (v' ∷ []))
        ∙ ap (λ n. (before ++ (so.0 ++ v' ∷ [])) ++ drop n given) (sym next),
    map-append value_of so.0 (v' ∷ [])
        ∙ ap (λ ws. ws ++ value_of v' ∷ []) so.2
        ∙ ap (λ z. map (values_in old) (take k names) ++ z ∷ []) (had ∙ so.3 x (differ_before names k x distinct within at))
        ∙ sym (map-append (values_in old) (take k names) (x ∷ []))
        ∙ ap (map (values_in old)) (sym more),
    λ y no.
        let parts = none_split (λ z. bytes_eq z y) (take k names) x (ap (list_any (λ z. bytes_eq z y)) (sym more) ∙ no) in
        set_other x y (value_of v) mid new put parts.1 ∙ so.3 y parts.0,
    λ io.
        bind_turn names (map value_of given) k x (value_of v) (world_of mid io) (world_of new io) within at
        (ap value_of is ∙ arg_first given k there rest (drop-cons given k v (omega (arith, count, within)))) (put io)
        ∙ so.4 io,
  )

pub all_exchanged : (names : List Bytes) (before given now : List Value) (k : ℕ) (old new : WorldView) → length given ≡ length names → length names ≤ k → IsExchanged names before given k now old new
    → AreSaved names before now old × ((io : Io) → world_of new io ≡ bind_arguments names (map value_of given) (world_of old io))
all_exchanged names before given now k old new count past (us, parts, same, others, bound) = (
  (
    us,
    parts ∙ ap (λ ws. (before ++ us) ++ ws) (drop_past given k (omega (arith, count, past))) ∙ append-nil (before ++ us),
    same ∙ ap (map (values_in old)) (take_all k names past),
  ),
  λ io. sym (bind_end names (map value_of given) k (world_of new io) past) ∙ bound io,
)
  where
    drop_past : (vs : List Value) (n : ℕ) → length vs ≤ n → drop n vs ≡ []
    drop_past [] zero h = refl
    drop_past [] (suc n) h = refl
    drop_past (v ∷ vs) zero h = absurd (omega arith)
    drop_past (v ∷ vs) (suc n) h = drop_past vs n (omega arith)
