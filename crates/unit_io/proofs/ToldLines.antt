-- What a reader told of its bytes, as records.
use Rattle.std.proofs.Common.{◌≡◌, ℕ, suc, ◌<◌, List, [], ◌∷◌, ◌++◌, length, get_or, true, false, Option, Some, None, Result, Ok, Err, refl, sym, ap, subst, ◌∙◌, append_assoc, arith, inl, inr}
use Rattle.std.specs.Prelude.{◌==◌, IfOk, OnErr}
use Rattle.std.proofs.lemmas.List.{append-nil}
use Rattle.std.specs.Io.KnownBytes.{Keeps, prepend_known}
use Rattle.model.specs.declared.run.UnitFault.{UnitFault}
use Rattle.model.specs.Language.Units.{records_of, with_byte, first_of, rest_of}
use Rattle.unit_io.specs.Sides.{TakesFirst}
use Rattle.unit_io.specs.Streams.{Tells, TellsNext}
use Rattle.unit_io.proofs.FirstLine.{isn't_true, one_line}

-- a record with its line feed in front
line_first : (r rest : List ℕ) → ((j : ℕ) → j < length r → ¬ ((get_or r j 0 == 10) ≡ true)) → records_of (r ++ 10 ∷ rest) ≡ r ∷ records_of rest
line_first [] rest none = refl
line_first (x ∷ xs) rest none =
    let other : (x == 10) ≡ false = isn't_true (x == 10) (none 0 (omega arith)) in
    rw other (ap (with_byte x) (line_first xs rest (λ j h. none (suc j) (omega arith))))

-- from the records of all bytes
taken : (got : Option (List ℕ)) (rs : List (List ℕ)) (all rest : List ℕ) → records_of all ≡ rs → got ≡ first_of rs → records_of rest ≡ rest_of rs → TakesFirst got (Some all) (Some rest)
taken got rs all rest is g r = (g ∙ ap first_of (sym is), rest, refl, r ∙ ap rest_of (sym is))

told : (got : Option (List ℕ)) (all now left : List ℕ) → Tells (Ok got) all now (Some left) → TakesFirst got (Some (all ++ left)) (Some (now ++ left))
told (Some record') all now left (none, inl feed) =
    let joined : all ++ left ≡ record' ++ 10 ∷ (now ++ left) = ap (λ (x : List ℕ). x ++ left) feed ∙ append_assoc record' (10 ∷ now) left in
    let is : records_of (all ++ left) ≡ record' ∷ records_of (now ++ left) =
    ap records_of joined ∙ line_first record' (now ++ left) (λ j below. none j (omega arith) below) in
    taken (Some record') (record' ∷ records_of (now ++ left)) (all ++ left) (now ++ left) is refl refl
told (Some record') all now left (none, inr (same, some, empty, end)) =
    let joined : all ++ left ≡ record' = ap (λ (x : List ℕ). all ++ x) end ∙ append-nil all ∙ same in
    let is : records_of (all ++ left) ≡ record' ∷ [] = ap records_of joined ∙ one_line record' some (λ j below. none j (omega arith) below) in
    taken (Some record') (record' ∷ []) (all ++ left) (now ++ left) is refl (ap (λ (x : List ℕ). records_of (x ++ left)) empty ∙ ap records_of end)
told None all now left (empty, gone, end) =
    taken None [] (all ++ left) (now ++ left) (ap (λ (x : List ℕ). records_of (x ++ left)) empty ∙ ap records_of end) refl (ap (λ (x : List ℕ). records_of (x ++ left)) gone ∙ ap records_of end)

pub takes_first : (got : Option (List ℕ)) (before after : Option (List ℕ)) (held now : List ℕ) → TellsNext (Ok got) before after held now → TakesFirst got (prepend_known held before) (prepend_known now after)
takes_first got None after held now t = tt
takes_first got (Some r) None held now (bytes, c, t) = absurd c
takes_first got (Some r) (Some left) held now (bytes, c, t) =
    let joined : (held ++ bytes) ++ left ≡ held ++ r = append_assoc held bytes left ∙ ap (λ (x : List ℕ). held ++ x) (sym c) in
    subst (λ (x : List ℕ). TakesFirst got (Some x) (Some (now ++ left))) joined (told got (held ++ bytes) now left t)

pub keeps_left : (fault : UnitFault) (before after : Option (List ℕ)) (held now : List ℕ) → TellsNext (Err fault) before after held now → Keeps (prepend_known held before) (prepend_known now after)
keeps_left fault None after held now t = tt
keeps_left fault (Some r) None held now (bytes, c, t) = absurd c
keeps_left fault (Some r) (Some left) held now (bytes, c, t) =
    ap (λ (x : List ℕ). x ++ left) t.1 ∙ append_assoc held bytes left ∙ ap (λ (x : List ℕ). held ++ x) (sym c)

-- the same of whatever is told
pub takes_if : (result : Result (Option (List ℕ)) UnitFault) (before after : Option (List ℕ)) (held now : List ℕ) → TellsNext result before after held now → IfOk result (λ got. TakesFirst got (prepend_known held before) (prepend_known now after))
takes_if (Ok got) before after held now t = takes_first got before after held now t
takes_if (Err fault) before after held now t = tt

pub keeps_if : (result : Result (Option (List ℕ)) UnitFault) (before after : Option (List ℕ)) (held now : List ℕ) → TellsNext result before after held now → OnErr result (Keeps (prepend_known held before) (prepend_known now after))
keeps_if (Ok got) before after held now t = tt
keeps_if (Err fault) before after held now t = keeps_left fault before after held now t
