-- Stacks cut, and values taken off them.
use Rattle.std.proofs.Common.{◌≡◌, ℕ, zero, suc, ◌+◌, ◌<◌, ◌≤◌, ◌-◌, List, [], ◌∷◌, ◌++◌, length, take, drop, map, reverse, slice_set, replicate, refl, ap, sym, ◌∙◌, arith, inl, inr}
use Rattle.std.proofs.lemmas.Bool.{cases_lt}
use Rattle.std.proofs.lemmas.List.{append-nil, take-append-drop, reverse-append, length-append, length-reverse, length-drop, length-take-le, length-map, drop-map, drop-take, take_all, drop_all, take_at, drop_at}
use Rattle.std.proofs.Math.Seq.{drop-append_seam, drop-length, take-length, take-add}
use Rattle.std.proofs.lemmas.Grind.{reverse_onto}
use Rattle.model.specs.Machine.Steps as m
use Rattle.model.specs.Machine.Steps.{MVal, MW, State, Frame, Run, cut, fail_to, pop_many}
use Rattle.model.specs.Module.Flow.{OperandKind, V}
use Rattle.values.specs.Values.{value_of}
use Rattle.values.specs.declared.value.Value.{Value as WorldValue}
use Rattle.frames.specs.Stacked.{Stacked, parted}
use Rattle.frames.specs.View.{operand_of, operands_of, handlers_of}
use Rattle.frames.specs.declared.handler.Handler.{Handler}
use Rattle.frames.specs.declared.handler.Handler.TheVariants.{Try}
use Rattle.frames.specs.Kinds.{kinds_of, TopIs}
use Rattle.frames.specs.declared.operand.Operand.{Operand}
use Rattle.frames.specs.declared.operand.Operand.TheVariants.{Value}

-- ---- items above a floor

drop_on : {T : Type 0} (f : ℕ) (xs : List T) (x : T) → f ≤ length xs → drop f (xs ++ x ∷ []) ≡ drop f xs ++ x ∷ []
drop_on zero xs x le = refl
drop_on (suc f) [] x le = absurd (omega (arith, le))
drop_on (suc f) (y ∷ ys) x le = drop_on f ys x (omega (arith, le))

take_on : {T : Type 0} (f : ℕ) (xs : List T) (x : T) → f ≤ length xs → take f (xs ++ x ∷ []) ≡ take f xs
take_on zero xs x le = refl
take_on (suc f) [] x le = absurd (omega (arith, le))
take_on (suc f) (y ∷ ys) x le = ap (λ l. y ∷ l) (take_on f ys x (omega (arith, le)))

-- one more
pub put_on : {T : Type 0} (f : ℕ) (xs : List T) (x : T) → f ≤ length xs → parted f (xs ++ x ∷ []) ≡ record { top = x ∷ (parted f xs).top; under = (parted f xs).under }
put_on f xs x le = rw (drop_on f xs x le, take_on f xs x le, reverse-append (drop f xs) (x ∷ [])) refl

-- all of them
pub all_of : {T : Type 0} (f : ℕ) (xs : List T) → reverse xs ≡ (parted f xs).top ++ (parted f xs).under
all_of f xs = ap reverse (sym (take-append-drop f xs)) ∙ reverse-append (take f xs) (drop f xs)

from_last : {T : Type 0} (xs : List T) → 0 < length xs → (ys : List T) × (y : T) × (xs ≡ ys ++ y ∷ [])
from_last [] lt = absurd (omega (arith, lt))
from_last (x ∷ []) lt = ([], x, refl)
from_last (x ∷ z ∷ zs) lt = let r = from_last (z ∷ zs) (omega arith) in (x ∷ r.0, r.1, ap (λ l. x ∷ l) r.2)

set_last : {T : Type 0} (ys : List T) (y x : T) → slice_set (ys ++ y ∷ []) (length ys) x ≡ ys ++ x ∷ []
set_last [] y x = refl
set_last (z ∷ ys) y x = ap (λ l. z ∷ l) (set_last ys y x)

-- another one in the place of the newest
pub set_newest : {T : Type 0} (s : Stacked T) (f n : ℕ) (xs : List T) (x : T) → parted f xs ≡ s → f ≤ length xs → n ≡ length xs → 0 < length s.top → parted f (slice_set xs (n - 1) x) ≡ record s { top = x ∷ drop 1 s.top }
set_newest {T} s f n xs x is le all some =
    let top : length s.top ≡ length xs - f = ap (λ (z : Stacked T). length z.top) (sym is) ∙ length-reverse (drop f xs) ∙ length-drop f xs in
    let l = from_last xs (omega (arith, some, top)) in
    let len : length xs ≡ length l.0 + 1 = ap length l.2 ∙ length-append l.0 (l.1 ∷ []) in
    let floor : f ≤ length l.0 = omega (arith, some, top, len) in
    let last : n - 1 ≡ length l.0 = omega (arith, len, all) in
    let set : slice_set xs (n - 1) x ≡ l.0 ++ x ∷ [] = ap (λ k. slice_set xs k x) last ∙ ap (λ l'. slice_set l' (length l.0) x) l.2 ∙ set_last l.0 l.1 x in
    ap (parted f) set
    ∙ put_on f l.0 x floor
    ∙ ap (λ (z : Stacked T). record z { top = x ∷ drop 1 z.top }) (sym (put_on f l.0 l.1 floor) ∙ sym (ap (parted f) l.2) ∙ is)

-- what is kept of items is the oldest of them
cut_keeps : {T : Type 0} (xs : List T) (d : ℕ) → reverse (take d xs) ≡ drop (length (reverse xs) - d) (reverse xs)
cut_keeps xs d =
    let e : reverse xs ≡ reverse (drop d xs) ++ reverse (take d xs) = ap reverse (sym (take-append-drop d xs)) ∙ reverse-append (take d xs) (drop d xs) in
    let n : length (reverse xs) - d ≡ length (reverse (drop d xs)) = ap (λ k. k - d) (length-reverse xs) ∙ sym (length-reverse (drop d xs) ∙ length-drop d xs) in
    sym (ap (λ k. drop k (reverse xs)) n ∙ (ap (drop (length (reverse (drop d xs)))) e ∙ drop-append_seam (reverse (drop d xs)) (reverse (take d xs))))

-- fewer
pub cut_at : {T : Type 0} (f d : ℕ) (xs : List T) → f ≤ length xs → parted f (take (f + d) xs) ≡ record { top = drop (length (parted f xs).top - d) (parted f xs).top; under = (parted f xs).under }
cut_at f d xs le =
    let kept : take f (take (f + d) xs) ≡ take f xs = ap (take f) (take-add f d xs) ∙ take_at (take f xs) (take d (drop f xs)) f (length-take-le f xs le) in
    rw (drop-take f d xs, kept, cut_keeps (drop f xs) d) refl

-- as many
pub cut_none : {T : Type 0} (d : ℕ) (s : Stacked T) → length s.top ≤ d → s ≡ record { top = drop (length s.top - d) s.top; under = s.under }
cut_none d s le = let z : length s.top - d ≡ 0 = omega (arith, le) in rw z refl

-- all of them wait
pub opened : {T : Type 0} (f : ℕ) (xs : List T) → parted (length xs) xs ≡ record { top = []; under = (parted f xs).top ++ (parted f xs).under }
opened f xs = rw (drop-length xs, take-length xs) (ap (λ l. record { top = []; under = l }) (ap reverse (sym (take-append-drop f xs)) ∙ reverse-append (take f xs) (drop f xs)))

from_end : {T : Type 0} (ys : List T) (c : ℕ) → parted (length ys - c) ys ≡ record { top = take c (reverse ys); under = drop c (reverse ys) }
from_end ys c = elim (cases_lt (length ys) c) [ inl more ↦ by_all more | inr le ↦ by_part le ]
  where
    by_all : length ys < c → parted (length ys - c) ys ≡ record { top = take c (reverse ys); under = drop c (reverse ys) }
    by_all more =
        let z : length ys - c ≡ 0 = omega (arith, more) in
        let le : length (reverse ys) ≤ c = omega (arith, more, length-reverse ys) in
        rw (z, take_all c (reverse ys) le, drop_all c (reverse ys) le) refl

    by_part : c ≤ length ys → parted (length ys - c) ys ≡ record { top = take c (reverse ys); under = drop c (reverse ys) }
    by_part le =
        let d : ℕ = length ys - c in
        let e : reverse ys ≡ reverse (drop d ys) ++ reverse (take d ys) = ap reverse (sym (take-append-drop d ys)) ∙ reverse-append (take d ys) (drop d ys) in
        let n : length (reverse (drop d ys)) ≡ c = omega (arith, le, length-reverse (drop d ys), length-drop d ys) in
        rw (e, take_at (reverse (drop d ys)) (reverse (take d ys)) c n, drop_at (reverse (drop d ys)) (reverse (take d ys)) c n) refl

-- those of the code go, and so many that waited are its
pub closed : {T : Type 0} (f c : ℕ) (xs : List T) → f ≤ length xs → parted (f - c) (take f xs) ≡ record { top = take c (parted f xs).under; under = drop c (parted f xs).under }
closed f c xs le =
    let n : length (take f xs) ≡ f = length-take-le f xs le in
    ap (λ k. parted (k - c) (take f xs)) (sym n) ∙ from_end (take f xs) c

-- below fewer values than there are stands another
pub top_is : (xs : List WorldValue) (n : ℕ) (ops : List Operand) (below : List OperandKind) → kinds_of (map Value xs ++ ops) ≡ replicate n V ++ below → length xs < n → TopIs V ops
top_is [] zero ops below e h = absurd (omega (arith, h))
top_is [] (suc n) ops below e h = (replicate n V ++ below, e)
top_is (x ∷ xs) zero ops below e h = absurd (omega (arith, h))
top_is (x ∷ xs) (suc n) ops below e h = top_is xs n ops below (ap (drop 1) e) (omega (arith, h))

-- one more at the end
one_more : (xs : List WorldValue) (v : WorldValue) (acc : List MVal) → map value_of (xs ++ v ∷ []) ++ acc ≡ map value_of xs ++ value_of v ∷ acc
one_more [] v acc = refl
one_more (x ∷ xs) v acc = ap (λ l. value_of x ∷ l) (one_more xs v acc)

many : (xs : List WorldValue) (ops : List Operand) (acc : List MVal) (w : MW) (k : List MVal → List m.Operand → State) →
    pop_many (length xs) (operands_of (map Value xs ++ ops)) acc w k ≡ k (map value_of (reverse xs) ++ acc) (operands_of ops)
many [] ops acc w k = refl
many (x ∷ xs) ops acc w k =
    many xs ops (value_of x ∷ acc) w k
    ∙ ap (λ l. k l (operands_of ops)) (sym (ap (λ l. map value_of l ++ acc) (reverse_onto xs x []) ∙ one_more (reverse xs) x acc))

-- the machine takes off the same values
pub pops : (n : ℕ) (xs ys : List WorldValue) (old new : List Operand) (w : MW) (k : List MVal → List m.Operand → State) →
    length xs ≡ n → ys ≡ reverse xs → old ≡ map Value xs ++ new → pop_many n (operands_of old) [] w k ≡ k (map value_of ys) (operands_of new)
pops n xs ys old new w k count turn taken = rw (sym count, turn, taken) (many xs new [] w k ∙ ap (λ l. k l (operands_of new)) (append-nil (map value_of (reverse xs))))

cut_same : (ops : List Operand) (d : ℕ) → cut d (operands_of ops) ≡ operands_of (drop (length ops - d) ops)
cut_same ops d = ap (λ n. drop (n - d) (operands_of ops)) (length-map ops operand_of) ∙ drop-map operand_of (length ops - d) ops

-- a failure that a TRY's handler catches
pub tried : (o : ℕ → ℕ) (t d : ℕ) (hs rest : List Handler) (ops new : List Operand) (fs : List Frame) (w : MW) → hs ≡ Try t d ∷ rest → new ≡ drop (length ops - d) ops
    → fail_to (handlers_of o hs) (operands_of ops) fs w ≡ Run (o t) (operands_of new) (handlers_of o rest) fs w
tried o t d hs rest ops new fs w h n = rw (h, n) (ap (λ l. Run (o t) l (handlers_of o rest) fs w) (cut_same ops d))

-- the newest one is of the kind that is on top
pub newest_is : (k : OperandKind) (old new : Stacked Operand) (x : Operand) → old ≡ record new { top = x ∷ new.top } → TopIs k old.top → TopIs k (x ∷ [])
newest_is k old new x e h = ([], ap (take 1) (ap (λ (l : Stacked Operand). kinds_of l.top) (sym e) ∙ h.1))
